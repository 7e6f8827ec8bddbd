-- How what equations define is spelled, one equation for each production.
use Rattle.hdc_base.specs.declared.token.Key.TheVariants as key
use Rattle.hdc_tree.specs.declared.head.Head.{Head}
use Rattle.hdc_tree.specs.declared.head.Head.TheVariants as head
use Rattle.hdc_tree.specs.NameSpelling.{Puts, key_onto, var_onto, var_op_onto, each_onto}
use Rattle.hdc_tree.specs.PatternSpelling.{apat_onto}

abbrev pub head_onto : Head → Puts
head_onto (head.Prefix v ps) k = var_onto v (each_onto apat_onto ps k)
head_onto (head.Infix p op q) k = apat_onto p (var_op_onto op (apat_onto q k))
head_onto (head.Paren o p op q c r rs) k = key_onto o key.KOpenParen (apat_onto p (var_op_onto op (apat_onto q (key_onto c key.KCloseParen (apat_onto r (each_onto apat_onto rs k))))))
