-- When patterns are well formed, one equation for each production.
use Rattle.std.proofs.Common.{◌≡◌, ℕ, List, Bool, true, false, ◌&&◌, sym, ◌∙◌, ap, ap₂}
use Rattle.hdc_base.specs.declared.place.At.{At}
use Rattle.hdc_tree.specs.declared.name.Literal.{Literal}
use Rattle.hdc_tree.specs.declared.name.Name.{Name}
use Rattle.hdc_tree.specs.declared.pattern.Apat.{Apat, Apat-F, fold-roll-Apat, out-Apat, out-roll-Apat}
use Rattle.hdc_tree.specs.declared.pattern.LeftPat.{LeftPat, LeftPat-F, fold-roll-LeftPat, out-LeftPat, out-roll-LeftPat}
use Rattle.hdc_tree.specs.declared.pattern.CommaPat.{CommaPat, roll-CommaPat, fold-roll-CommaPat}
use Rattle.hdc_tree.specs.declared.pattern.ConsPat.{ConsPat, roll-ConsPat, fold-roll-ConsPat}
use Rattle.hdc_tree.specs.declared.pattern.Pat.{Pat, Pat-F, roll-Pat, fold-roll-Pat, out-roll-Pat}
use Rattle.hdc_tree.specs.declared.pattern.Apat.TheVariants as v_apat
use Rattle.hdc_tree.specs.declared.pattern.LeftPat.TheVariants as v_left_pat
use Rattle.hdc_tree.specs.Form.{each_formed, few}
use Rattle.hdc_tree.proofs.Lists.{every_is, few_map}
use Rattle.hdc_tree.specs.PatternForm.{formed_apat_step, formed_left_pat_step, formed_comma_pat_step, formed_cons_pat_step, formed_pat_step, formed_apat, formed_left_pat, formed_comma_pat, formed_cons_pat, formed_pat, is_plain_name, is_alone, is_plain_left, is_variable}

pub formed_apat_var : (name : Name) → formed_apat (v_apat.Var name) ≡ true
formed_apat_var name = ap formed_apat (sym (v_apat.rolls-Var name)) ∙ fold-roll-Apat Bool Bool Bool Bool Bool formed_apat_step formed_left_pat_step formed_comma_pat_step formed_cons_pat_step formed_pat_step (Apat-F.Var name)

pub formed_apat_as : (name : Name) (at : At) (inner : Apat) → formed_apat (v_apat.As name at inner) ≡ formed_apat inner
formed_apat_as name at inner = ap formed_apat (sym (v_apat.rolls-As name at inner)) ∙ fold-roll-Apat Bool Bool Bool Bool Bool formed_apat_step formed_left_pat_step formed_comma_pat_step formed_cons_pat_step formed_pat_step (Apat-F.As name at inner)

pub formed_apat_wildcard : (at : At) → formed_apat (v_apat.Wildcard at) ≡ true
formed_apat_wildcard at = ap formed_apat (sym (v_apat.rolls-Wildcard at)) ∙ fold-roll-Apat Bool Bool Bool Bool Bool formed_apat_step formed_left_pat_step formed_comma_pat_step formed_cons_pat_step formed_pat_step (Apat-F.Wildcard at)

pub formed_apat_con : (name : Name) → formed_apat (v_apat.Con name) ≡ true
formed_apat_con name = ap formed_apat (sym (v_apat.rolls-Con name)) ∙ fold-roll-Apat Bool Bool Bool Bool Bool formed_apat_step formed_left_pat_step formed_comma_pat_step formed_cons_pat_step formed_pat_step (Apat-F.Con name)

pub formed_apat_literal : (at : At) (literal : Literal) → formed_apat (v_apat.Literal at literal) ≡ true
formed_apat_literal at literal = ap formed_apat (sym (v_apat.rolls-Literal at literal)) ∙ fold-roll-Apat Bool Bool Bool Bool Bool formed_apat_step formed_left_pat_step formed_comma_pat_step formed_cons_pat_step formed_pat_step (Apat-F.Literal at literal)

pub formed_apat_unit : (open_at close_at : At) → formed_apat (v_apat.Unit open_at close_at) ≡ true
formed_apat_unit open_at close_at = ap formed_apat (sym (v_apat.rolls-Unit open_at close_at)) ∙ fold-roll-Apat Bool Bool Bool Bool Bool formed_apat_step formed_left_pat_step formed_comma_pat_step formed_cons_pat_step formed_pat_step (Apat-F.Unit open_at close_at)

pub formed_apat_nil : (open_at close_at : At) → formed_apat (v_apat.Nil open_at close_at) ≡ true
formed_apat_nil open_at close_at = ap formed_apat (sym (v_apat.rolls-Nil open_at close_at)) ∙ fold-roll-Apat Bool Bool Bool Bool Bool formed_apat_step formed_left_pat_step formed_comma_pat_step formed_cons_pat_step formed_pat_step (Apat-F.Nil open_at close_at)

pub formed_apat_paren : (open_at : At) (inner : Pat) (close_at : At) → formed_apat (v_apat.Paren open_at inner close_at) ≡ formed_pat inner
formed_apat_paren open_at inner close_at = ap formed_apat (sym (v_apat.rolls-Paren open_at inner close_at)) ∙ fold-roll-Apat Bool Bool Bool Bool Bool formed_apat_step formed_left_pat_step formed_comma_pat_step formed_cons_pat_step formed_pat_step (Apat-F.Paren open_at inner close_at)

pub formed_apat_tuple : (open_at : At) (first : Pat) (rest : List CommaPat) (close_at : At) → formed_apat (v_apat.Tuple open_at first rest close_at) ≡ (formed_pat first && (each_formed formed_comma_pat rest && few rest))
formed_apat_tuple open_at first rest close_at = ap formed_apat (sym (v_apat.rolls-Tuple open_at first rest close_at)) ∙ fold-roll-Apat Bool Bool Bool Bool Bool formed_apat_step formed_left_pat_step formed_comma_pat_step formed_cons_pat_step formed_pat_step (Apat-F.Tuple open_at first rest close_at) ∙ ap₂ (λ y z. formed_pat first && (y && z)) (every_is formed_comma_pat rest) (few_map formed_comma_pat rest)

pub formed_apat_list : (open_at : At) (first : Pat) (rest : List CommaPat) (close_at : At) → formed_apat (v_apat.List open_at first rest close_at) ≡ (formed_pat first && each_formed formed_comma_pat rest)
formed_apat_list open_at first rest close_at = ap formed_apat (sym (v_apat.rolls-List open_at first rest close_at)) ∙ fold-roll-Apat Bool Bool Bool Bool Bool formed_apat_step formed_left_pat_step formed_comma_pat_step formed_cons_pat_step formed_pat_step (Apat-F.List open_at first rest close_at) ∙ ap (λ z. formed_pat first && z) (every_is formed_comma_pat rest)

pub formed_left_pat_plain : (apat : Apat) → formed_left_pat (v_left_pat.Plain apat) ≡ formed_apat apat
formed_left_pat_plain apat = ap formed_left_pat (sym (v_left_pat.rolls-Plain apat)) ∙ fold-roll-LeftPat Bool Bool Bool Bool Bool formed_apat_step formed_left_pat_step formed_comma_pat_step formed_cons_pat_step formed_pat_step (LeftPat-F.Plain apat)

pub formed_left_pat_applied : (name : Name) (first : Apat) (rest : List Apat) → formed_left_pat (v_left_pat.Applied name first rest) ≡ (formed_apat first && each_formed formed_apat rest)
formed_left_pat_applied name first rest = ap formed_left_pat (sym (v_left_pat.rolls-Applied name first rest)) ∙ fold-roll-LeftPat Bool Bool Bool Bool Bool formed_apat_step formed_left_pat_step formed_comma_pat_step formed_cons_pat_step formed_pat_step (LeftPat-F.Applied name first rest) ∙ ap (λ z. formed_apat first && z) (every_is formed_apat rest)

pub formed_left_pat_negative : (at number_at : At) (number : ℕ) → formed_left_pat (v_left_pat.Negative at number_at number) ≡ true
formed_left_pat_negative at number_at number = ap formed_left_pat (sym (v_left_pat.rolls-Negative at number_at number)) ∙ fold-roll-LeftPat Bool Bool Bool Bool Bool formed_apat_step formed_left_pat_step formed_comma_pat_step formed_cons_pat_step formed_pat_step (LeftPat-F.Negative at number_at number)

pub formed_comma_pat_made : (comma : At) (pat : Pat) → formed_comma_pat (roll-CommaPat (record { comma = comma; pat = pat })) ≡ formed_pat pat
formed_comma_pat_made comma pat = fold-roll-CommaPat Bool Bool Bool Bool Bool formed_apat_step formed_left_pat_step formed_comma_pat_step formed_cons_pat_step formed_pat_step (record { comma = comma; pat = pat })

pub formed_cons_pat_made : (colon : At) (pat : LeftPat) → formed_cons_pat (roll-ConsPat (record { colon = colon; pat = pat })) ≡ formed_left_pat pat
formed_cons_pat_made colon pat = fold-roll-ConsPat Bool Bool Bool Bool Bool formed_apat_step formed_left_pat_step formed_comma_pat_step formed_cons_pat_step formed_pat_step (record { colon = colon; pat = pat })

pub formed_pat_made : (first : LeftPat) (rest : List ConsPat) → formed_pat (roll-Pat (record { first = first; rest = rest })) ≡ (formed_left_pat first && each_formed formed_cons_pat rest)
formed_pat_made first rest = fold-roll-Pat Bool Bool Bool Bool Bool formed_apat_step formed_left_pat_step formed_comma_pat_step formed_cons_pat_step formed_pat_step (record { first = first; rest = rest }) ∙ ap (λ z. formed_left_pat first && z) (every_is formed_cons_pat rest)

-- When a pattern is a plain name, by its parts.
pub is_plain_name_made : (first : LeftPat) (rest : List ConsPat) → is_plain_name (roll-Pat (record { first = first; rest = rest })) ≡ (is_alone rest && is_plain_left (out-LeftPat first))
is_plain_name_made first rest = ap (λ (x : Pat-F Apat LeftPat CommaPat ConsPat Pat). is_alone x.rest && is_plain_left (out-LeftPat x.first)) (out-roll-Pat (record { first = first; rest = rest }))

pub is_plain_left_plain : (apat : Apat) → is_plain_left (out-LeftPat (v_left_pat.Plain apat)) ≡ is_variable (out-Apat apat)
is_plain_left_plain apat = ap (λ z. is_plain_left (out-LeftPat z)) (sym (v_left_pat.rolls-Plain apat)) ∙ ap is_plain_left (out-roll-LeftPat (LeftPat-F.Plain apat))

pub is_plain_left_applied : (name : Name) (first : Apat) (rest : List Apat) → is_plain_left (out-LeftPat (v_left_pat.Applied name first rest)) ≡ false
is_plain_left_applied name first rest = ap (λ z. is_plain_left (out-LeftPat z)) (sym (v_left_pat.rolls-Applied name first rest)) ∙ ap is_plain_left (out-roll-LeftPat (LeftPat-F.Applied name first rest))

pub is_plain_left_negative : (at number_at : At) (number : ℕ) → is_plain_left (out-LeftPat (v_left_pat.Negative at number_at number)) ≡ false
is_plain_left_negative at number_at number = ap (λ z. is_plain_left (out-LeftPat z)) (sym (v_left_pat.rolls-Negative at number_at number)) ∙ ap is_plain_left (out-roll-LeftPat (LeftPat-F.Negative at number_at number))

pub is_variable_var : (name : Name) → is_variable (out-Apat (v_apat.Var name)) ≡ true
is_variable_var name = ap (λ z. is_variable (out-Apat z)) (sym (v_apat.rolls-Var name)) ∙ ap is_variable (out-roll-Apat (Apat-F.Var name))

pub is_variable_as : (name : Name) (at : At) (inner : Apat) → is_variable (out-Apat (v_apat.As name at inner)) ≡ false
is_variable_as name at inner = ap (λ z. is_variable (out-Apat z)) (sym (v_apat.rolls-As name at inner)) ∙ ap is_variable (out-roll-Apat (Apat-F.As name at inner))

pub is_variable_wildcard : (at : At) → is_variable (out-Apat (v_apat.Wildcard at)) ≡ false
is_variable_wildcard at = ap (λ z. is_variable (out-Apat z)) (sym (v_apat.rolls-Wildcard at)) ∙ ap is_variable (out-roll-Apat (Apat-F.Wildcard at))

pub is_variable_con : (name : Name) → is_variable (out-Apat (v_apat.Con name)) ≡ false
is_variable_con name = ap (λ z. is_variable (out-Apat z)) (sym (v_apat.rolls-Con name)) ∙ ap is_variable (out-roll-Apat (Apat-F.Con name))

pub is_variable_literal : (at : At) (literal : Literal) → is_variable (out-Apat (v_apat.Literal at literal)) ≡ false
is_variable_literal at literal = ap (λ z. is_variable (out-Apat z)) (sym (v_apat.rolls-Literal at literal)) ∙ ap is_variable (out-roll-Apat (Apat-F.Literal at literal))

pub is_variable_unit : (open_at close_at : At) → is_variable (out-Apat (v_apat.Unit open_at close_at)) ≡ false
is_variable_unit open_at close_at = ap (λ z. is_variable (out-Apat z)) (sym (v_apat.rolls-Unit open_at close_at)) ∙ ap is_variable (out-roll-Apat (Apat-F.Unit open_at close_at))

pub is_variable_nil : (open_at close_at : At) → is_variable (out-Apat (v_apat.Nil open_at close_at)) ≡ false
is_variable_nil open_at close_at = ap (λ z. is_variable (out-Apat z)) (sym (v_apat.rolls-Nil open_at close_at)) ∙ ap is_variable (out-roll-Apat (Apat-F.Nil open_at close_at))

pub is_variable_paren : (open_at : At) (inner : Pat) (close_at : At) → is_variable (out-Apat (v_apat.Paren open_at inner close_at)) ≡ false
is_variable_paren open_at inner close_at = ap (λ z. is_variable (out-Apat z)) (sym (v_apat.rolls-Paren open_at inner close_at)) ∙ ap is_variable (out-roll-Apat (Apat-F.Paren open_at inner close_at))

pub is_variable_tuple : (open_at : At) (first : Pat) (rest : List CommaPat) (close_at : At) → is_variable (out-Apat (v_apat.Tuple open_at first rest close_at)) ≡ false
is_variable_tuple open_at first rest close_at = ap (λ z. is_variable (out-Apat z)) (sym (v_apat.rolls-Tuple open_at first rest close_at)) ∙ ap is_variable (out-roll-Apat (Apat-F.Tuple open_at first rest close_at))

pub is_variable_list : (open_at : At) (first : Pat) (rest : List CommaPat) (close_at : At) → is_variable (out-Apat (v_apat.List open_at first rest close_at)) ≡ false
is_variable_list open_at first rest close_at = ap (λ z. is_variable (out-Apat z)) (sym (v_apat.rolls-List open_at first rest close_at)) ∙ ap is_variable (out-roll-Apat (Apat-F.List open_at first rest close_at))
