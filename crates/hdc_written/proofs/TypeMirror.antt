-- What a type in memory holds, one equation for each production with a list or with parts.
use Rattle.std.proofs.Common.{◌≡◌, List, [], ◌∷◌, map, refl, sym, ◌∙◌, ap}
use Rattle.hdc_base.specs.declared.place.At.{At}
use Rattle.hdc_tree.specs.declared.name.Name.{Name}
use Rattle.hdc_tree.specs.declared.type_tree.Atype.{Atype, Atype-F, fold-roll-Atype}
use Rattle.hdc_tree.specs.declared.type_tree.Btype.{Btype-F, fold-roll-Btype}
use Rattle.hdc_tree.specs.declared.type_tree.ArrowType.{ArrowType, out-ArrowType, roll-out-ArrowType, fold-roll-ArrowType}
use Rattle.hdc_tree.specs.declared.type_tree.CommaType.{CommaType, out-CommaType, roll-out-CommaType, fold-roll-CommaType}
use Rattle.hdc_tree.specs.declared.type_tree.TypeExp.{TypeExp, out-TypeExp, roll-out-TypeExp, fold-roll-TypeExp}
use Rattle.hdc_tree.specs.declared.type_tree.Atype.TheVariants as v_atype
use Rattle.hdc_tree.specs.declared.type_tree.Btype.TheVariants as v_btype
use Rattle.hdc_written.specs.WrittenTypes.{WrittenType, type_constructor, tuple_type, arrow_type, next_type}
use Rattle.hdc_written.specs.TypeMirror.{atype_step, btype_step, arrow_type_step, comma_type_step, type_exp_step, atype_of, btype_of, arrow_type_of, comma_type_of, type_exp_of, all_types, each_type}

types_each : {A : Type 0} (f : A → WrittenType) (xs : List A) → all_types (map f xs) ≡ each_type f xs
types_each f [] = refl
types_each f (x ∷ xs) = ap (λ z. next_type (f x) z) (types_each f xs)

pub atype_tuple : (a : At) (t : TypeExp) (ts : List CommaType) (b : At) → atype_of (v_atype.Tuple a t ts b) ≡ tuple_type a (next_type (type_exp_of t) (each_type comma_type_of ts))
atype_tuple a t ts b = ap atype_of (sym (v_atype.rolls-Tuple a t ts b)) ∙ fold-roll-Atype WrittenType WrittenType WrittenType WrittenType WrittenType atype_step btype_step arrow_type_step comma_type_step type_exp_step (Atype-F.Tuple a t ts b) ∙ ap (λ z. tuple_type a (next_type (type_exp_of t) z)) (types_each comma_type_of ts)

pub btype_applied : (c : Name) (t : Atype) (ts : List Atype) → btype_of (v_btype.Applied c t ts) ≡ type_constructor c (next_type (atype_of t) (each_type atype_of ts))
btype_applied c t ts = ap btype_of (sym (v_btype.rolls-Applied c t ts)) ∙ fold-roll-Btype WrittenType WrittenType WrittenType WrittenType WrittenType atype_step btype_step arrow_type_step comma_type_step type_exp_step (Btype-F.Applied c t ts) ∙ ap (λ z. type_constructor c (next_type (atype_of t) z)) (types_each atype_of ts)

pub arrow_type_parts : (part : ArrowType) → arrow_type_of part ≡ btype_of (out-ArrowType part).part
arrow_type_parts part = ap arrow_type_of (sym (roll-out-ArrowType part)) ∙ fold-roll-ArrowType WrittenType WrittenType WrittenType WrittenType WrittenType atype_step btype_step arrow_type_step comma_type_step type_exp_step (out-ArrowType part)

pub comma_type_parts : (part : CommaType) → comma_type_of part ≡ type_exp_of (out-CommaType part).part
comma_type_parts part = ap comma_type_of (sym (roll-out-CommaType part)) ∙ fold-roll-CommaType WrittenType WrittenType WrittenType WrittenType WrittenType atype_step btype_step arrow_type_step comma_type_step type_exp_step (out-CommaType part)

pub type_exp_parts : (part : TypeExp) → type_exp_of part ≡ arrow_type (btype_of (out-TypeExp part).first) (each_type arrow_type_of (out-TypeExp part).rest)
type_exp_parts part = ap type_exp_of (sym (roll-out-TypeExp part)) ∙ fold-roll-TypeExp WrittenType WrittenType WrittenType WrittenType WrittenType atype_step btype_step arrow_type_step comma_type_step type_exp_step (out-TypeExp part) ∙ ap (λ z. arrow_type (btype_of (out-TypeExp part).first) z) (types_each arrow_type_of (out-TypeExp part).rest)

pub ruleset mirrored_types = (atype_tuple, btype_applied, arrow_type_parts, comma_type_parts, type_exp_parts)
