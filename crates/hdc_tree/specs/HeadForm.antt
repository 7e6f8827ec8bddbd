-- Which of what equations define is well formed.
use Rattle.std.specs.Prelude.{Bool, ◌&&◌}
use Rattle.hdc_tree.specs.declared.head.Head.{Head}
use Rattle.hdc_tree.specs.declared.head.Head.TheVariants as head
use Rattle.hdc_tree.specs.Form.{each_formed}
use Rattle.hdc_tree.specs.PatternForm.{formed_apat}

-- what an equation defines: its parameters are well formed
abbrev pub formed_head : Head → Bool
formed_head (head.Prefix v ps) = each_formed formed_apat ps
formed_head (head.Infix p op q) = formed_apat p && formed_apat q
formed_head (head.Paren o p op q c r rs) = formed_apat p && (formed_apat q && (formed_apat r && each_formed formed_apat rs))
