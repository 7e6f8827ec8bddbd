-- The cases of types.
use Rattle.std.proofs.Common.{List, sym, subst}
use Rattle.hdc_base.specs.declared.place.At.{At}
use Rattle.hdc_tree.specs.declared.name.Name.{Name}
use Rattle.hdc_tree.specs.declared.type_tree.Atype.{Atype, Atype-F, roll-Atype, out-Atype, roll-out-Atype}
use Rattle.hdc_tree.specs.declared.type_tree.Btype.{Btype, Btype-F, roll-Btype, out-Btype, roll-out-Btype}
use Rattle.hdc_tree.specs.declared.type_tree.ArrowType.{ArrowType, roll-ArrowType, out-ArrowType, roll-out-ArrowType}
use Rattle.hdc_tree.specs.declared.type_tree.CommaType.{CommaType, roll-CommaType, out-CommaType, roll-out-CommaType}
use Rattle.hdc_tree.specs.declared.type_tree.TypeExp.{TypeExp, roll-TypeExp, out-TypeExp, roll-out-TypeExp}
use Rattle.hdc_tree.specs.declared.type_tree.Atype.TheVariants as v_atype
use Rattle.hdc_tree.specs.declared.type_tree.Btype.TheVariants as v_btype

module _ (P : Atype → Type 0)
    (on_con : (name : Name) → P (v_atype.Con name))
    (on_var : (name : Name) → P (v_atype.Var name))
    (on_unit : (open_at close_at : At) → P (v_atype.Unit open_at close_at))
    (on_paren : (open_at : At) (inner : TypeExp) (close_at : At) → P (v_atype.Paren open_at inner close_at))
    (on_tuple : (open_at : At) (first : TypeExp) (rest : List CommaType) (close_at : At) → P (v_atype.Tuple open_at first rest close_at))
    (on_list : (open_at : At) (inner : TypeExp) (close_at : At) → P (v_atype.List open_at inner close_at)) where
  atype_layer : (x : Atype-F Atype Btype ArrowType CommaType TypeExp) → P (roll-Atype x)
  atype_layer (Atype-F.Con name) = subst P (sym (v_atype.rolls-Con name)) (on_con name)
  atype_layer (Atype-F.Var name) = subst P (sym (v_atype.rolls-Var name)) (on_var name)
  atype_layer (Atype-F.Unit open_at close_at) = subst P (sym (v_atype.rolls-Unit open_at close_at)) (on_unit open_at close_at)
  atype_layer (Atype-F.Paren open_at inner close_at) = subst P (sym (v_atype.rolls-Paren open_at inner close_at)) (on_paren open_at inner close_at)
  atype_layer (Atype-F.Tuple open_at first rest close_at) = subst P (sym (v_atype.rolls-Tuple open_at first rest close_at)) (on_tuple open_at first rest close_at)
  atype_layer (Atype-F.List open_at inner close_at) = subst P (sym (v_atype.rolls-List open_at inner close_at)) (on_list open_at inner close_at)

  pub atype_cases : (x : Atype) → P x
  atype_cases x = subst P (roll-out-Atype x) (atype_layer (out-Atype x))

module _ (P : Btype → Type 0)
    (on_plain : (atype : Atype) → P (v_btype.Plain atype))
    (on_applied : (name : Name) (first : Atype) (rest : List Atype) → P (v_btype.Applied name first rest)) where
  btype_layer : (x : Btype-F Atype Btype ArrowType CommaType TypeExp) → P (roll-Btype x)
  btype_layer (Btype-F.Plain atype) = subst P (sym (v_btype.rolls-Plain atype)) (on_plain atype)
  btype_layer (Btype-F.Applied name first rest) = subst P (sym (v_btype.rolls-Applied name first rest)) (on_applied name first rest)

  pub btype_cases : (x : Btype) → P x
  btype_cases x = subst P (roll-out-Btype x) (btype_layer (out-Btype x))

pub arrow_type_cases : (P : ArrowType → Type 0) → ((arrow : At) (part : Btype) → P (roll-ArrowType (record { arrow = arrow; part = part }))) → (x : ArrowType) → P x
arrow_type_cases P h x = subst P (roll-out-ArrowType x) (h (out-ArrowType x).arrow (out-ArrowType x).part)

pub comma_type_cases : (P : CommaType → Type 0) → ((comma : At) (part : TypeExp) → P (roll-CommaType (record { comma = comma; part = part }))) → (x : CommaType) → P x
comma_type_cases P h x = subst P (roll-out-CommaType x) (h (out-CommaType x).comma (out-CommaType x).part)

pub type_exp_cases : (P : TypeExp → Type 0) → ((first : Btype) (rest : List ArrowType) → P (roll-TypeExp (record { first = first; rest = rest }))) → (x : TypeExp) → P x
type_exp_cases P h x = subst P (roll-out-TypeExp x) (h (out-TypeExp x).first (out-TypeExp x).rest)
