-- The cases of patterns.
use Rattle.std.proofs.Common.{ℕ, List, sym, subst}
use Rattle.hdc_base.specs.declared.place.At.{At}
use Rattle.hdc_tree.specs.declared.name.Literal.{Literal}
use Rattle.hdc_tree.specs.declared.name.Name.{Name}
use Rattle.hdc_tree.specs.declared.pattern.Apat.{Apat, Apat-F, roll-Apat, out-Apat, roll-out-Apat}
use Rattle.hdc_tree.specs.declared.pattern.LeftPat.{LeftPat, LeftPat-F, roll-LeftPat, out-LeftPat, roll-out-LeftPat}
use Rattle.hdc_tree.specs.declared.pattern.CommaPat.{CommaPat, roll-CommaPat, out-CommaPat, roll-out-CommaPat}
use Rattle.hdc_tree.specs.declared.pattern.ConsPat.{ConsPat, roll-ConsPat, out-ConsPat, roll-out-ConsPat}
use Rattle.hdc_tree.specs.declared.pattern.Pat.{Pat, roll-Pat, out-Pat, roll-out-Pat}
use Rattle.hdc_tree.specs.declared.pattern.Apat.TheVariants as v_apat
use Rattle.hdc_tree.specs.declared.pattern.LeftPat.TheVariants as v_left_pat

module _ (P : Apat → Type 0)
    (on_var : (name : Name) → P (v_apat.Var name))
    (on_as : (name : Name) (at : At) (inner : Apat) → P (v_apat.As name at inner))
    (on_wildcard : (at : At) → P (v_apat.Wildcard at))
    (on_con : (name : Name) → P (v_apat.Con name))
    (on_literal : (at : At) (literal : Literal) → P (v_apat.Literal at literal))
    (on_unit : (open_at close_at : At) → P (v_apat.Unit open_at close_at))
    (on_nil : (open_at close_at : At) → P (v_apat.Nil open_at close_at))
    (on_paren : (open_at : At) (inner : Pat) (close_at : At) → P (v_apat.Paren open_at inner close_at))
    (on_tuple : (open_at : At) (first : Pat) (rest : List CommaPat) (close_at : At) → P (v_apat.Tuple open_at first rest close_at))
    (on_list : (open_at : At) (first : Pat) (rest : List CommaPat) (close_at : At) → P (v_apat.List open_at first rest close_at)) where
  apat_layer : (x : Apat-F Apat LeftPat CommaPat ConsPat Pat) → P (roll-Apat x)
  apat_layer (Apat-F.Var name) = subst P (sym (v_apat.rolls-Var name)) (on_var name)
  apat_layer (Apat-F.As name at inner) = subst P (sym (v_apat.rolls-As name at inner)) (on_as name at inner)
  apat_layer (Apat-F.Wildcard at) = subst P (sym (v_apat.rolls-Wildcard at)) (on_wildcard at)
  apat_layer (Apat-F.Con name) = subst P (sym (v_apat.rolls-Con name)) (on_con name)
  apat_layer (Apat-F.Literal at literal) = subst P (sym (v_apat.rolls-Literal at literal)) (on_literal at literal)
  apat_layer (Apat-F.Unit open_at close_at) = subst P (sym (v_apat.rolls-Unit open_at close_at)) (on_unit open_at close_at)
  apat_layer (Apat-F.Nil open_at close_at) = subst P (sym (v_apat.rolls-Nil open_at close_at)) (on_nil open_at close_at)
  apat_layer (Apat-F.Paren open_at inner close_at) = subst P (sym (v_apat.rolls-Paren open_at inner close_at)) (on_paren open_at inner close_at)
  apat_layer (Apat-F.Tuple open_at first rest close_at) = subst P (sym (v_apat.rolls-Tuple open_at first rest close_at)) (on_tuple open_at first rest close_at)
  apat_layer (Apat-F.List open_at first rest close_at) = subst P (sym (v_apat.rolls-List open_at first rest close_at)) (on_list open_at first rest close_at)

  pub apat_cases : (x : Apat) → P x
  apat_cases x = subst P (roll-out-Apat x) (apat_layer (out-Apat x))

module _ (P : LeftPat → Type 0)
    (on_plain : (apat : Apat) → P (v_left_pat.Plain apat))
    (on_applied : (name : Name) (first : Apat) (rest : List Apat) → P (v_left_pat.Applied name first rest))
    (on_negative : (at number_at : At) (number : ℕ) → P (v_left_pat.Negative at number_at number)) where
  left_pat_layer : (x : LeftPat-F Apat LeftPat CommaPat ConsPat Pat) → P (roll-LeftPat x)
  left_pat_layer (LeftPat-F.Plain apat) = subst P (sym (v_left_pat.rolls-Plain apat)) (on_plain apat)
  left_pat_layer (LeftPat-F.Applied name first rest) = subst P (sym (v_left_pat.rolls-Applied name first rest)) (on_applied name first rest)
  left_pat_layer (LeftPat-F.Negative at number_at number) = subst P (sym (v_left_pat.rolls-Negative at number_at number)) (on_negative at number_at number)

  pub left_pat_cases : (x : LeftPat) → P x
  left_pat_cases x = subst P (roll-out-LeftPat x) (left_pat_layer (out-LeftPat x))

pub comma_pat_cases : (P : CommaPat → Type 0) → ((comma : At) (pat : Pat) → P (roll-CommaPat (record { comma = comma; pat = pat }))) → (x : CommaPat) → P x
comma_pat_cases P h x = subst P (roll-out-CommaPat x) (h (out-CommaPat x).comma (out-CommaPat x).pat)

pub cons_pat_cases : (P : ConsPat → Type 0) → ((colon : At) (pat : LeftPat) → P (roll-ConsPat (record { colon = colon; pat = pat }))) → (x : ConsPat) → P x
cons_pat_cases P h x = subst P (roll-out-ConsPat x) (h (out-ConsPat x).colon (out-ConsPat x).pat)

pub pat_cases : (P : Pat → Type 0) → ((first : LeftPat) (rest : List ConsPat) → P (roll-Pat (record { first = first; rest = rest }))) → (x : Pat) → P x
pat_cases P h x = subst P (roll-out-Pat x) (h (out-Pat x).first (out-Pat x).rest)
