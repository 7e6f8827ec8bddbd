-- The equations of the spelling of patterns, one for each production, and of their parts.
use Rattle.std.proofs.Common.{◌≡◌, ℕ, List, sym, ◌∙◌, ap}
use Rattle.hdc_base.specs.declared.place.At.{At}
use Rattle.hdc_base.specs.declared.token.Key.TheVariants as key
use Rattle.hdc_base.specs.declared.token.Word.TheVariants as word
use Rattle.hdc_base.specs.declared.token.Token as text_token
use Rattle.hdc_tree.specs.declared.name.Name.{Name}
use Rattle.hdc_tree.specs.declared.name.Literal.{Literal}
use Rattle.hdc_tree.specs.declared.pattern.Apat.{Apat, Apat-F, fold-roll-Apat}
use Rattle.hdc_tree.specs.declared.pattern.LeftPat.{LeftPat, LeftPat-F, fold-roll-LeftPat}
use Rattle.hdc_tree.specs.declared.pattern.CommaPat.{CommaPat, roll-CommaPat, out-CommaPat, roll-out-CommaPat, fold-roll-CommaPat}
use Rattle.hdc_tree.specs.declared.pattern.ConsPat.{ConsPat, roll-ConsPat, out-ConsPat, roll-out-ConsPat, fold-roll-ConsPat}
use Rattle.hdc_tree.specs.declared.pattern.Pat.{Pat, roll-Pat, out-Pat, roll-out-Pat, fold-roll-Pat}
use Rattle.hdc_tree.specs.declared.pattern.Apat.TheVariants as v_apat
use Rattle.hdc_tree.specs.declared.pattern.LeftPat.TheVariants as v_left_pat
use Rattle.hdc_tree.specs.NameSpelling.{Puts, word_onto, key_onto, small_onto, capital_onto, minus_onto, literal_onto, each_onto}
use Rattle.hdc_tree.specs.PatternSpelling.{apat_step, left_pat_step, comma_pat_step, cons_pat_step, pat_step, apat_onto, left_pat_onto, comma_pat_onto, cons_pat_onto, pat_onto}
use Rattle.hdc_tree.proofs.Lists.{each_is}

pub apat_tuple : (open_at : At) (first : Pat) (rest : List CommaPat) (close_at : At) (k : List text_token.Token) → apat_onto (v_apat.Tuple open_at first rest close_at) k ≡ key_onto open_at key.KOpenParen (pat_onto first (each_onto comma_pat_onto rest (key_onto close_at key.KCloseParen k)))
apat_tuple open_at first rest close_at k = ap (λ z. apat_onto z k) (sym (v_apat.rolls-Tuple open_at first rest close_at)) ∙ ap (λ (f : Puts). f k) (fold-roll-Apat Puts Puts Puts Puts Puts apat_step left_pat_step comma_pat_step cons_pat_step pat_step (Apat-F.Tuple open_at first rest close_at)) ∙ ap (λ z. key_onto open_at key.KOpenParen ((pat_onto first (z)))) (each_is comma_pat_onto rest (key_onto close_at key.KCloseParen k))

pub apat_list : (open_at : At) (first : Pat) (rest : List CommaPat) (close_at : At) (k : List text_token.Token) → apat_onto (v_apat.List open_at first rest close_at) k ≡ key_onto open_at key.KOpenBracket (pat_onto first (each_onto comma_pat_onto rest (key_onto close_at key.KCloseBracket k)))
apat_list open_at first rest close_at k = ap (λ z. apat_onto z k) (sym (v_apat.rolls-List open_at first rest close_at)) ∙ ap (λ (f : Puts). f k) (fold-roll-Apat Puts Puts Puts Puts Puts apat_step left_pat_step comma_pat_step cons_pat_step pat_step (Apat-F.List open_at first rest close_at)) ∙ ap (λ z. key_onto open_at key.KOpenBracket ((pat_onto first (z)))) (each_is comma_pat_onto rest (key_onto close_at key.KCloseBracket k))

pub left_pat_applied : (name : Name) (first : Apat) (rest : List Apat) (k : List text_token.Token) → left_pat_onto (v_left_pat.Applied name first rest) k ≡ capital_onto name (apat_onto first (each_onto apat_onto rest k))
left_pat_applied name first rest k = ap (λ z. left_pat_onto z k) (sym (v_left_pat.rolls-Applied name first rest)) ∙ ap (λ (f : Puts). f k) (fold-roll-LeftPat Puts Puts Puts Puts Puts apat_step left_pat_step comma_pat_step cons_pat_step pat_step (LeftPat-F.Applied name first rest)) ∙ ap (λ z. capital_onto name ((apat_onto first (z)))) (each_is apat_onto rest k)

pub comma_pat_parts : (part : CommaPat) (k : List text_token.Token) → comma_pat_onto part k ≡ key_onto (out-CommaPat part).comma key.KComma (pat_onto (out-CommaPat part).pat k)
comma_pat_parts part k = ap (λ z. comma_pat_onto z k) (sym (roll-out-CommaPat part)) ∙ ap (λ (f : Puts). f k) (fold-roll-CommaPat Puts Puts Puts Puts Puts apat_step left_pat_step comma_pat_step cons_pat_step pat_step (out-CommaPat part))

pub cons_pat_parts : (part : ConsPat) (k : List text_token.Token) → cons_pat_onto part k ≡ key_onto (out-ConsPat part).colon key.KColon (left_pat_onto (out-ConsPat part).pat k)
cons_pat_parts part k = ap (λ z. cons_pat_onto z k) (sym (roll-out-ConsPat part)) ∙ ap (λ (f : Puts). f k) (fold-roll-ConsPat Puts Puts Puts Puts Puts apat_step left_pat_step comma_pat_step cons_pat_step pat_step (out-ConsPat part))

pub pat_parts : (part : Pat) (k : List text_token.Token) → pat_onto part k ≡ left_pat_onto (out-Pat part).first (each_onto cons_pat_onto (out-Pat part).rest k)
pat_parts part k = ap (λ z. pat_onto z k) (sym (roll-out-Pat part)) ∙ ap (λ (f : Puts). f k) (fold-roll-Pat Puts Puts Puts Puts Puts apat_step left_pat_step comma_pat_step cons_pat_step pat_step (out-Pat part)) ∙ ap (λ z. left_pat_onto (out-Pat part).first (z)) (each_is cons_pat_onto (out-Pat part).rest k)

pub apat_var : (name : Name) (k : List text_token.Token) → apat_onto (v_apat.Var name) k ≡ small_onto name k
apat_var name k = ap (λ z. apat_onto z k) (sym (v_apat.rolls-Var name)) ∙ ap (λ (f : Puts). f k) (fold-roll-Apat Puts Puts Puts Puts Puts apat_step left_pat_step comma_pat_step cons_pat_step pat_step (Apat-F.Var name))

pub apat_as : (name : Name) (at : At) (inner : Apat) (k : List text_token.Token) → apat_onto (v_apat.As name at inner) k ≡ small_onto name (key_onto at key.KAt (apat_onto inner k))
apat_as name at inner k = ap (λ z. apat_onto z k) (sym (v_apat.rolls-As name at inner)) ∙ ap (λ (f : Puts). f k) (fold-roll-Apat Puts Puts Puts Puts Puts apat_step left_pat_step comma_pat_step cons_pat_step pat_step (Apat-F.As name at inner))

pub apat_wildcard : (at : At) (k : List text_token.Token) → apat_onto (v_apat.Wildcard at) k ≡ key_onto at key.KUnderscore k
apat_wildcard at k = ap (λ z. apat_onto z k) (sym (v_apat.rolls-Wildcard at)) ∙ ap (λ (f : Puts). f k) (fold-roll-Apat Puts Puts Puts Puts Puts apat_step left_pat_step comma_pat_step cons_pat_step pat_step (Apat-F.Wildcard at))

pub apat_con : (name : Name) (k : List text_token.Token) → apat_onto (v_apat.Con name) k ≡ capital_onto name k
apat_con name k = ap (λ z. apat_onto z k) (sym (v_apat.rolls-Con name)) ∙ ap (λ (f : Puts). f k) (fold-roll-Apat Puts Puts Puts Puts Puts apat_step left_pat_step comma_pat_step cons_pat_step pat_step (Apat-F.Con name))

pub apat_literal : (at : At) (literal : Literal) (k : List text_token.Token) → apat_onto (v_apat.Literal at literal) k ≡ literal_onto at literal k
apat_literal at literal k = ap (λ z. apat_onto z k) (sym (v_apat.rolls-Literal at literal)) ∙ ap (λ (f : Puts). f k) (fold-roll-Apat Puts Puts Puts Puts Puts apat_step left_pat_step comma_pat_step cons_pat_step pat_step (Apat-F.Literal at literal))

pub apat_unit : (open_at close_at : At) (k : List text_token.Token) → apat_onto (v_apat.Unit open_at close_at) k ≡ key_onto open_at key.KOpenParen (key_onto close_at key.KCloseParen k)
apat_unit open_at close_at k = ap (λ z. apat_onto z k) (sym (v_apat.rolls-Unit open_at close_at)) ∙ ap (λ (f : Puts). f k) (fold-roll-Apat Puts Puts Puts Puts Puts apat_step left_pat_step comma_pat_step cons_pat_step pat_step (Apat-F.Unit open_at close_at))

pub apat_nil : (open_at close_at : At) (k : List text_token.Token) → apat_onto (v_apat.Nil open_at close_at) k ≡ key_onto open_at key.KOpenBracket (key_onto close_at key.KCloseBracket k)
apat_nil open_at close_at k = ap (λ z. apat_onto z k) (sym (v_apat.rolls-Nil open_at close_at)) ∙ ap (λ (f : Puts). f k) (fold-roll-Apat Puts Puts Puts Puts Puts apat_step left_pat_step comma_pat_step cons_pat_step pat_step (Apat-F.Nil open_at close_at))

pub apat_paren : (open_at : At) (inner : Pat) (close_at : At) (k : List text_token.Token) → apat_onto (v_apat.Paren open_at inner close_at) k ≡ key_onto open_at key.KOpenParen (pat_onto inner (key_onto close_at key.KCloseParen k))
apat_paren open_at inner close_at k = ap (λ z. apat_onto z k) (sym (v_apat.rolls-Paren open_at inner close_at)) ∙ ap (λ (f : Puts). f k) (fold-roll-Apat Puts Puts Puts Puts Puts apat_step left_pat_step comma_pat_step cons_pat_step pat_step (Apat-F.Paren open_at inner close_at))

pub left_pat_plain : (apat : Apat) (k : List text_token.Token) → left_pat_onto (v_left_pat.Plain apat) k ≡ apat_onto apat k
left_pat_plain apat k = ap (λ z. left_pat_onto z k) (sym (v_left_pat.rolls-Plain apat)) ∙ ap (λ (f : Puts). f k) (fold-roll-LeftPat Puts Puts Puts Puts Puts apat_step left_pat_step comma_pat_step cons_pat_step pat_step (LeftPat-F.Plain apat))

pub left_pat_negative : (at number_at : At) (number : ℕ) (k : List text_token.Token) → left_pat_onto (v_left_pat.Negative at number_at number) k ≡ minus_onto at (word_onto number_at (word.Num number) k)
left_pat_negative at number_at number k = ap (λ z. left_pat_onto z k) (sym (v_left_pat.rolls-Negative at number_at number)) ∙ ap (λ (f : Puts). f k) (fold-roll-LeftPat Puts Puts Puts Puts Puts apat_step left_pat_step comma_pat_step cons_pat_step pat_step (LeftPat-F.Negative at number_at number))

pub comma_pat_made : (comma : At) (pat : Pat) (k : List text_token.Token) → comma_pat_onto (roll-CommaPat (record { comma = comma; pat = pat })) k ≡ key_onto comma key.KComma (pat_onto pat k)
comma_pat_made comma pat k = ap (λ (f : Puts). f k) (fold-roll-CommaPat Puts Puts Puts Puts Puts apat_step left_pat_step comma_pat_step cons_pat_step pat_step (record { comma = comma; pat = pat }))

pub cons_pat_made : (colon : At) (pat : LeftPat) (k : List text_token.Token) → cons_pat_onto (roll-ConsPat (record { colon = colon; pat = pat })) k ≡ key_onto colon key.KColon (left_pat_onto pat k)
cons_pat_made colon pat k = ap (λ (f : Puts). f k) (fold-roll-ConsPat Puts Puts Puts Puts Puts apat_step left_pat_step comma_pat_step cons_pat_step pat_step (record { colon = colon; pat = pat }))

pub pat_made : (first : LeftPat) (rest : List ConsPat) (k : List text_token.Token) → pat_onto (roll-Pat (record { first = first; rest = rest })) k ≡ left_pat_onto first (each_onto cons_pat_onto rest k)
pat_made first rest k = ap (λ (f : Puts). f k) (fold-roll-Pat Puts Puts Puts Puts Puts apat_step left_pat_step comma_pat_step cons_pat_step pat_step (record { first = first; rest = rest })) ∙ ap (λ z. left_pat_onto first z) (each_is cons_pat_onto rest k)

pub ruleset patterns_equations = (apat_tuple, apat_list, left_pat_applied, comma_pat_parts, cons_pat_parts, pat_parts)
