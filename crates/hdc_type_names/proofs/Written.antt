-- What a type in memory holds, for two productions more.
use Rattle.std.proofs.Common.{◌≡◌, sym, ap, ◌∙◌}
use Rattle.hdc_base.specs.declared.place.At.{At}
use Rattle.hdc_tree.specs.declared.type_tree.Atype.{Atype-F, fold-roll-Atype}
use Rattle.hdc_tree.specs.declared.type_tree.Atype.TheVariants as v_atype
use Rattle.hdc_tree.specs.declared.type_tree.TypeExp.{TypeExp}
use Rattle.hdc_written.specs.TypeMirror.{atype_step, btype_step, arrow_type_step, comma_type_step, type_exp_step, atype_of, type_exp_of}
use Rattle.hdc_written.specs.WrittenTypes.{WrittenType, unit_type, list_type}

pub atype_unit : (a b : At) → atype_of (v_atype.Unit a b) ≡ unit_type a
atype_unit a b = ap atype_of (sym (v_atype.rolls-Unit a b)) ∙ fold-roll-Atype WrittenType WrittenType WrittenType WrittenType WrittenType atype_step btype_step arrow_type_step comma_type_step type_exp_step (Atype-F.Unit a b)

pub atype_list : (a : At) (t : TypeExp) (b : At) → atype_of (v_atype.List a t b) ≡ list_type a (type_exp_of t)
atype_list a t b = ap atype_of (sym (v_atype.rolls-List a t b)) ∙ fold-roll-Atype WrittenType WrittenType WrittenType WrittenType WrittenType atype_step btype_step arrow_type_step comma_type_step type_exp_step (Atype-F.List a t b)
