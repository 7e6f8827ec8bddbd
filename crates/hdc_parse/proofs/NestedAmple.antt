-- No limit comes in the parsers of what nests where the turns are more than the text is long and the depth suffices for the nesting.
use Rattle.std.proofs.Common.{ℕ, zero, suc, ◌<◌}
use Rattle.hdc_syntax.proofs.Ample.{ample_none}
use Rattle.hdc_syntax.proofs.PatternAmple.{ample_apat}
use Rattle.hdc_syntax.proofs.TypeAmple.{ample_atype}
use Rattle.hdc_expression.specs.Nested.{nested}
use Rattle.hdc_expression.proofs.Opened.{GoodInner}
use Rattle.hdc_expression.proofs.ExpressionAmple.{AmpleInner, ample_exp_level}
use Rattle.hdc_parse.proofs.DeclarationAmple.{ample_alts, ample_block}

-- what these parsers read is known at each depth
pub ample_nested : (turns : ℕ) → ((depth : ℕ) → GoodInner (nested turns depth)) → (most depth n : ℕ) → n < turns → AmpleInner (nested turns depth) most n depth
ample_nested turns good most zero n lt = record { exp = λ section taken. ample_none; block = ample_none; alts = ample_none; apat = ample_apat turns most zero n lt; atype = ample_atype turns most zero n lt }
ample_nested turns good most (suc depth) n lt = let g = ample_nested turns good most depth n lt in record {
  exp = ample_exp_level turns (nested turns depth) (good depth) most n depth lt g;
  block = ample_block turns (nested turns depth) (good depth) most n depth lt g;
  alts = ample_alts turns (nested turns depth) (good depth) most n depth lt g;
  apat = ample_apat turns most (suc depth) n lt;
  atype = ample_atype turns most (suc depth) n lt;
}
