-- When types are well formed, one equation for each production.
use Rattle.std.proofs.Common.{◌≡◌, List, Bool, true, ◌&&◌, sym, ◌∙◌, ap, ap₂}
use Rattle.hdc_base.specs.declared.place.At.{At}
use Rattle.hdc_tree.specs.declared.name.Name.{Name}
use Rattle.hdc_tree.specs.declared.type_tree.Atype.{Atype, Atype-F, fold-roll-Atype}
use Rattle.hdc_tree.specs.declared.type_tree.Btype.{Btype, Btype-F, fold-roll-Btype}
use Rattle.hdc_tree.specs.declared.type_tree.ArrowType.{ArrowType, roll-ArrowType, fold-roll-ArrowType}
use Rattle.hdc_tree.specs.declared.type_tree.CommaType.{CommaType, roll-CommaType, fold-roll-CommaType}
use Rattle.hdc_tree.specs.declared.type_tree.TypeExp.{TypeExp, roll-TypeExp, fold-roll-TypeExp}
use Rattle.hdc_tree.specs.declared.type_tree.Atype.TheVariants as v_atype
use Rattle.hdc_tree.specs.declared.type_tree.Btype.TheVariants as v_btype
use Rattle.hdc_tree.specs.Form.{each_formed, few}
use Rattle.hdc_tree.proofs.Lists.{every_is, few_map}
use Rattle.hdc_tree.specs.TypeForm.{formed_atype_step, formed_btype_step, formed_arrow_type_step, formed_comma_type_step, formed_type_exp_step, formed_atype, formed_btype, formed_arrow_type, formed_comma_type, formed_type_exp}

pub formed_atype_con : (name : Name) → formed_atype (v_atype.Con name) ≡ true
formed_atype_con name = ap formed_atype (sym (v_atype.rolls-Con name)) ∙ fold-roll-Atype Bool Bool Bool Bool Bool formed_atype_step formed_btype_step formed_arrow_type_step formed_comma_type_step formed_type_exp_step (Atype-F.Con name)

pub formed_atype_var : (name : Name) → formed_atype (v_atype.Var name) ≡ true
formed_atype_var name = ap formed_atype (sym (v_atype.rolls-Var name)) ∙ fold-roll-Atype Bool Bool Bool Bool Bool formed_atype_step formed_btype_step formed_arrow_type_step formed_comma_type_step formed_type_exp_step (Atype-F.Var name)

pub formed_atype_unit : (open_at close_at : At) → formed_atype (v_atype.Unit open_at close_at) ≡ true
formed_atype_unit open_at close_at = ap formed_atype (sym (v_atype.rolls-Unit open_at close_at)) ∙ fold-roll-Atype Bool Bool Bool Bool Bool formed_atype_step formed_btype_step formed_arrow_type_step formed_comma_type_step formed_type_exp_step (Atype-F.Unit open_at close_at)

pub formed_atype_paren : (open_at : At) (inner : TypeExp) (close_at : At) → formed_atype (v_atype.Paren open_at inner close_at) ≡ formed_type_exp inner
formed_atype_paren open_at inner close_at = ap formed_atype (sym (v_atype.rolls-Paren open_at inner close_at)) ∙ fold-roll-Atype Bool Bool Bool Bool Bool formed_atype_step formed_btype_step formed_arrow_type_step formed_comma_type_step formed_type_exp_step (Atype-F.Paren open_at inner close_at)

pub formed_atype_tuple : (open_at : At) (first : TypeExp) (rest : List CommaType) (close_at : At) → formed_atype (v_atype.Tuple open_at first rest close_at) ≡ (formed_type_exp first && (each_formed formed_comma_type rest && few rest))
formed_atype_tuple open_at first rest close_at = ap formed_atype (sym (v_atype.rolls-Tuple open_at first rest close_at)) ∙ fold-roll-Atype Bool Bool Bool Bool Bool formed_atype_step formed_btype_step formed_arrow_type_step formed_comma_type_step formed_type_exp_step (Atype-F.Tuple open_at first rest close_at) ∙ ap₂ (λ y z. formed_type_exp first && (y && z)) (every_is formed_comma_type rest) (few_map formed_comma_type rest)

pub formed_atype_list : (open_at : At) (inner : TypeExp) (close_at : At) → formed_atype (v_atype.List open_at inner close_at) ≡ formed_type_exp inner
formed_atype_list open_at inner close_at = ap formed_atype (sym (v_atype.rolls-List open_at inner close_at)) ∙ fold-roll-Atype Bool Bool Bool Bool Bool formed_atype_step formed_btype_step formed_arrow_type_step formed_comma_type_step formed_type_exp_step (Atype-F.List open_at inner close_at)

pub formed_btype_plain : (atype : Atype) → formed_btype (v_btype.Plain atype) ≡ formed_atype atype
formed_btype_plain atype = ap formed_btype (sym (v_btype.rolls-Plain atype)) ∙ fold-roll-Btype Bool Bool Bool Bool Bool formed_atype_step formed_btype_step formed_arrow_type_step formed_comma_type_step formed_type_exp_step (Btype-F.Plain atype)

pub formed_btype_applied : (name : Name) (first : Atype) (rest : List Atype) → formed_btype (v_btype.Applied name first rest) ≡ (formed_atype first && each_formed formed_atype rest)
formed_btype_applied name first rest = ap formed_btype (sym (v_btype.rolls-Applied name first rest)) ∙ fold-roll-Btype Bool Bool Bool Bool Bool formed_atype_step formed_btype_step formed_arrow_type_step formed_comma_type_step formed_type_exp_step (Btype-F.Applied name first rest) ∙ ap (λ z. formed_atype first && z) (every_is formed_atype rest)

pub formed_arrow_type_made : (arrow : At) (part : Btype) → formed_arrow_type (roll-ArrowType (record { arrow = arrow; part = part })) ≡ formed_btype part
formed_arrow_type_made arrow part = fold-roll-ArrowType Bool Bool Bool Bool Bool formed_atype_step formed_btype_step formed_arrow_type_step formed_comma_type_step formed_type_exp_step (record { arrow = arrow; part = part })

pub formed_comma_type_made : (comma : At) (part : TypeExp) → formed_comma_type (roll-CommaType (record { comma = comma; part = part })) ≡ formed_type_exp part
formed_comma_type_made comma part = fold-roll-CommaType Bool Bool Bool Bool Bool formed_atype_step formed_btype_step formed_arrow_type_step formed_comma_type_step formed_type_exp_step (record { comma = comma; part = part })

pub formed_type_exp_made : (first : Btype) (rest : List ArrowType) → formed_type_exp (roll-TypeExp (record { first = first; rest = rest })) ≡ (formed_btype first && each_formed formed_arrow_type rest)
formed_type_exp_made first rest = fold-roll-TypeExp Bool Bool Bool Bool Bool formed_atype_step formed_btype_step formed_arrow_type_step formed_comma_type_step formed_type_exp_step (record { first = first; rest = rest }) ∙ ap (λ z. formed_btype first && z) (every_is formed_arrow_type rest)
