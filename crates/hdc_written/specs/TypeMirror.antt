-- The written type that a type in memory holds, one clause for each production.
use Rattle.std.specs.Prelude.{List, [], ◌∷◌}
use Rattle.hdc_tree.specs.declared.type_tree.Atype.{Atype, Atype-F, fold-Atype}
use Rattle.hdc_tree.specs.declared.type_tree.Btype.{Btype, Btype-F, fold-Btype}
use Rattle.hdc_tree.specs.declared.type_tree.ArrowType.{ArrowType, ArrowType-F, fold-ArrowType}
use Rattle.hdc_tree.specs.declared.type_tree.CommaType.{CommaType, CommaType-F, fold-CommaType}
use Rattle.hdc_tree.specs.declared.type_tree.TypeExp.{TypeExp, TypeExp-F, fold-TypeExp}
use Rattle.hdc_written.specs.WrittenTypes.{WrittenType, type_constructor, type_variable, unit_type, type_in_parentheses, tuple_type, list_type, arrow_type, Types, no_type, next_type}

-- the types of a list
abbrev pub each_type : {A : Type 0} → (A → WrittenType) → List A → Types
each_type f [] = no_type
each_type f (x ∷ xs) = next_type (f x) (each_type f xs)

abbrev pub all_types : List WrittenType → Types
all_types [] = no_type
all_types (t ∷ ts) = next_type t (all_types ts)

abbrev pub atype_step : Atype-F WrittenType WrittenType WrittenType WrittenType WrittenType → WrittenType
atype_step (Atype-F.Con c) = type_constructor c no_type
atype_step (Atype-F.Var x) = type_variable x
atype_step (Atype-F.Unit a b) = unit_type a
atype_step (Atype-F.Paren a t b) = type_in_parentheses a t
atype_step (Atype-F.Tuple a t ts b) = tuple_type a (next_type t (all_types ts))
atype_step (Atype-F.List a t b) = list_type a t

abbrev pub btype_step : Btype-F WrittenType WrittenType WrittenType WrittenType WrittenType → WrittenType
btype_step (Btype-F.Plain t) = t
btype_step (Btype-F.Applied c t ts) = type_constructor c (next_type t (all_types ts))

abbrev pub arrow_type_step : ArrowType-F WrittenType WrittenType WrittenType WrittenType WrittenType → WrittenType
arrow_type_step part = part.part

abbrev pub comma_type_step : CommaType-F WrittenType WrittenType WrittenType WrittenType WrittenType → WrittenType
comma_type_step part = part.part

abbrev pub type_exp_step : TypeExp-F WrittenType WrittenType WrittenType WrittenType WrittenType → WrittenType
type_exp_step part = arrow_type part.first (all_types part.rest)

abbrev pub atype_of : Atype → WrittenType
atype_of = fold-Atype WrittenType WrittenType WrittenType WrittenType WrittenType atype_step btype_step arrow_type_step comma_type_step type_exp_step

abbrev pub btype_of : Btype → WrittenType
btype_of = fold-Btype WrittenType WrittenType WrittenType WrittenType WrittenType atype_step btype_step arrow_type_step comma_type_step type_exp_step

abbrev pub arrow_type_of : ArrowType → WrittenType
arrow_type_of = fold-ArrowType WrittenType WrittenType WrittenType WrittenType WrittenType atype_step btype_step arrow_type_step comma_type_step type_exp_step

abbrev pub comma_type_of : CommaType → WrittenType
comma_type_of = fold-CommaType WrittenType WrittenType WrittenType WrittenType WrittenType atype_step btype_step arrow_type_step comma_type_step type_exp_step

abbrev pub type_exp_of : TypeExp → WrittenType
type_exp_of = fold-TypeExp WrittenType WrittenType WrittenType WrittenType WrittenType atype_step btype_step arrow_type_step comma_type_step type_exp_step
