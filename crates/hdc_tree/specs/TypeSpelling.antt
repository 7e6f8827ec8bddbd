-- How types are spelled, one equation for each production.
use Rattle.hdc_base.specs.declared.token.Key.TheVariants as key
use Rattle.hdc_tree.specs.declared.type_tree.Atype.{Atype, Atype-F, fold-Atype}
use Rattle.hdc_tree.specs.declared.type_tree.Btype.{Btype, Btype-F, fold-Btype}
use Rattle.hdc_tree.specs.declared.type_tree.ArrowType.{ArrowType, ArrowType-F, fold-ArrowType}
use Rattle.hdc_tree.specs.declared.type_tree.CommaType.{CommaType, CommaType-F, fold-CommaType}
use Rattle.hdc_tree.specs.declared.type_tree.TypeExp.{TypeExp, TypeExp-F, fold-TypeExp}
use Rattle.hdc_tree.specs.NameSpelling.{Puts, key_onto, small_onto, capital_onto, all_onto}

abbrev pub atype_step : Atype-F Puts Puts Puts Puts Puts → Puts
atype_step (Atype-F.Con name) k = capital_onto name k
atype_step (Atype-F.Var name) k = small_onto name k
atype_step (Atype-F.Unit open_at close_at) k = key_onto open_at key.KOpenParen (key_onto close_at key.KCloseParen k)
atype_step (Atype-F.Paren open_at inner close_at) k = key_onto open_at key.KOpenParen (inner (key_onto close_at key.KCloseParen k))
atype_step (Atype-F.Tuple open_at first rest close_at) k = key_onto open_at key.KOpenParen (first (all_onto rest (key_onto close_at key.KCloseParen k)))
atype_step (Atype-F.List open_at inner close_at) k = key_onto open_at key.KOpenBracket (inner (key_onto close_at key.KCloseBracket k))

abbrev pub btype_step : Btype-F Puts Puts Puts Puts Puts → Puts
btype_step (Btype-F.Plain atype) k = atype k
btype_step (Btype-F.Applied name first rest) k = capital_onto name (first (all_onto rest k))

abbrev pub arrow_type_step : ArrowType-F Puts Puts Puts Puts Puts → Puts
arrow_type_step part k = key_onto part.arrow key.KRightArrow (part.part k)

abbrev pub comma_type_step : CommaType-F Puts Puts Puts Puts Puts → Puts
comma_type_step part k = key_onto part.comma key.KComma (part.part k)

abbrev pub type_exp_step : TypeExp-F Puts Puts Puts Puts Puts → Puts
type_exp_step part k = part.first (all_onto part.rest k)

abbrev pub atype_onto : Atype → Puts
atype_onto = fold-Atype Puts Puts Puts Puts Puts atype_step btype_step arrow_type_step comma_type_step type_exp_step

abbrev pub btype_onto : Btype → Puts
btype_onto = fold-Btype Puts Puts Puts Puts Puts atype_step btype_step arrow_type_step comma_type_step type_exp_step

abbrev pub arrow_type_onto : ArrowType → Puts
arrow_type_onto = fold-ArrowType Puts Puts Puts Puts Puts atype_step btype_step arrow_type_step comma_type_step type_exp_step

abbrev pub comma_type_onto : CommaType → Puts
comma_type_onto = fold-CommaType Puts Puts Puts Puts Puts atype_step btype_step arrow_type_step comma_type_step type_exp_step

abbrev pub type_exp_onto : TypeExp → Puts
type_exp_onto = fold-TypeExp Puts Puts Puts Puts Puts atype_step btype_step arrow_type_step comma_type_step type_exp_step
