-- Brackets match in the spelling of patterns, and where a token divides outside brackets.
use Rattle.std.proofs.Common.{◌≡◌, true, false, List, map, refl, sym, subst}
use Rattle.hdc_base.specs.declared.token.Key.TheVariants as key
use Rattle.hdc_base.specs.declared.token.Word.TheVariants as word
use Rattle.hdc_tree.specs.declared.pattern.Apat.{Apat, Apat-F, roll-Apat, map-Apat, ind-Apat}
use Rattle.hdc_tree.specs.declared.pattern.LeftPat.{LeftPat, LeftPat-F, roll-LeftPat, map-LeftPat, ind-LeftPat}
use Rattle.hdc_tree.specs.declared.pattern.CommaPat.{CommaPat, CommaPat-F, roll-CommaPat, map-CommaPat, ind-CommaPat}
use Rattle.hdc_tree.specs.declared.pattern.ConsPat.{ConsPat, ConsPat-F, roll-ConsPat, map-ConsPat, ind-ConsPat}
use Rattle.hdc_tree.specs.declared.pattern.Pat.{Pat, Pat-F, roll-Pat, map-Pat, ind-Pat}
use Rattle.hdc_tree.specs.declared.pattern.Apat.TheVariants as v_apat
use Rattle.hdc_tree.specs.declared.pattern.LeftPat.TheVariants as v_left_pat
use Rattle.hdc_tree.specs.PatternSpelling.{apat_onto, left_pat_onto, comma_pat_onto, cons_pat_onto, pat_onto}
use Rattle.hdc_tree.proofs.PatternEquations.{apat_var, apat_as, apat_wildcard, apat_con, apat_literal, apat_unit, apat_nil, apat_paren, apat_tuple, apat_list, left_pat_plain, left_pat_applied, left_pat_negative, comma_pat_made, cons_pat_made, pat_made}
use Rattle.hdc_syntax.proofs.Balanced.{BalancedWord, word_by, put, put_free, put_none, put_both, put_word, put_key, put_divide, put_within, put_all, put_small, put_capital, put_minus, put_literal}

-- ---- patterns by their parts, of which it is known

module _ (HeldApat HeldLeftPat HeldCommaPat HeldConsPat HeldPat : Type 0)
    (apat_of : HeldApat → Apat) (left_pat_of : HeldLeftPat → LeftPat) (comma_pat_of : HeldCommaPat → CommaPat) (cons_pat_of : HeldConsPat → ConsPat) (pat_of : HeldPat → Pat)
    (apat_known : (s : HeldApat) → BalancedWord Apat apat_onto false (apat_of s))
    (left_pat_known : (s : HeldLeftPat) → BalancedWord LeftPat left_pat_onto false (left_pat_of s))
    (comma_pat_known : (s : HeldCommaPat) → BalancedWord CommaPat comma_pat_onto true (comma_pat_of s))
    (cons_pat_known : (s : HeldConsPat) → BalancedWord ConsPat cons_pat_onto false (cons_pat_of s))
    (pat_known : (s : HeldPat) → BalancedWord Pat pat_onto false (pat_of s)) where
  apat_by : (y : Apat-F HeldApat HeldLeftPat HeldCommaPat HeldConsPat HeldPat) → BalancedWord Apat apat_onto false (roll-Apat (map-Apat HeldApat HeldLeftPat HeldCommaPat HeldConsPat HeldPat Apat LeftPat CommaPat ConsPat Pat apat_of left_pat_of comma_pat_of cons_pat_of pat_of y))
  apat_by (Apat-F.Var name) = subst (BalancedWord Apat apat_onto false) (sym (v_apat.rolls-Var name)) (word_by (apat_var name) (put_small false name))
  apat_by (Apat-F.As name at inner) = subst (BalancedWord Apat apat_onto false) (sym (v_apat.rolls-As name at (apat_of inner))) (word_by (apat_as name at (apat_of inner)) (put_both (put_small false name) (put_both (put_key false at key.KAt refl) (put (apat_known inner)))))
  apat_by (Apat-F.Wildcard at) = subst (BalancedWord Apat apat_onto false) (sym (v_apat.rolls-Wildcard at)) (word_by (apat_wildcard at) (put_key false at key.KUnderscore refl))
  apat_by (Apat-F.Con name) = subst (BalancedWord Apat apat_onto false) (sym (v_apat.rolls-Con name)) (word_by (apat_con name) (put_capital false name))
  apat_by (Apat-F.Literal at literal) = subst (BalancedWord Apat apat_onto false) (sym (v_apat.rolls-Literal at literal)) (word_by (apat_literal at literal) (put_literal false at literal))
  apat_by (Apat-F.Unit open_at close_at) = subst (BalancedWord Apat apat_onto false) (sym (v_apat.rolls-Unit open_at close_at)) (word_by (apat_unit open_at close_at) (put_within false open_at key.KOpenParen close_at key.KCloseParen refl refl (put_none true)))
  apat_by (Apat-F.Nil open_at close_at) = subst (BalancedWord Apat apat_onto false) (sym (v_apat.rolls-Nil open_at close_at)) (word_by (apat_nil open_at close_at) (put_within false open_at key.KOpenBracket close_at key.KCloseBracket refl refl (put_none true)))
  apat_by (Apat-F.Paren open_at inner close_at) = subst (BalancedWord Apat apat_onto false) (sym (v_apat.rolls-Paren open_at (pat_of inner) close_at)) (word_by (apat_paren open_at (pat_of inner) close_at) (put_within false open_at key.KOpenParen close_at key.KCloseParen refl refl (put_free (pat_known inner))))
  apat_by (Apat-F.Tuple open_at first rest close_at) = subst (BalancedWord Apat apat_onto false) (sym (v_apat.rolls-Tuple open_at (pat_of first) (map comma_pat_of rest) close_at)) (word_by (apat_tuple open_at (pat_of first) (map comma_pat_of rest) close_at) (put_within false open_at key.KOpenParen close_at key.KCloseParen refl refl (put_both (put_free (pat_known first)) (put_all CommaPat comma_pat_onto true HeldCommaPat comma_pat_of comma_pat_known rest))))
  apat_by (Apat-F.List open_at first rest close_at) = subst (BalancedWord Apat apat_onto false) (sym (v_apat.rolls-List open_at (pat_of first) (map comma_pat_of rest) close_at)) (word_by (apat_list open_at (pat_of first) (map comma_pat_of rest) close_at) (put_within false open_at key.KOpenBracket close_at key.KCloseBracket refl refl (put_both (put_free (pat_known first)) (put_all CommaPat comma_pat_onto true HeldCommaPat comma_pat_of comma_pat_known rest))))

  left_pat_by : (y : LeftPat-F HeldApat HeldLeftPat HeldCommaPat HeldConsPat HeldPat) → BalancedWord LeftPat left_pat_onto false (roll-LeftPat (map-LeftPat HeldApat HeldLeftPat HeldCommaPat HeldConsPat HeldPat Apat LeftPat CommaPat ConsPat Pat apat_of left_pat_of comma_pat_of cons_pat_of pat_of y))
  left_pat_by (LeftPat-F.Plain apat) = subst (BalancedWord LeftPat left_pat_onto false) (sym (v_left_pat.rolls-Plain (apat_of apat))) (word_by (left_pat_plain (apat_of apat)) (put (apat_known apat)))
  left_pat_by (LeftPat-F.Applied name first rest) = subst (BalancedWord LeftPat left_pat_onto false) (sym (v_left_pat.rolls-Applied name (apat_of first) (map apat_of rest))) (word_by (left_pat_applied name (apat_of first) (map apat_of rest)) (put_both (put_capital false name) (put_both (put (apat_known first)) (put_all Apat apat_onto false HeldApat apat_of apat_known rest))))
  left_pat_by (LeftPat-F.Negative at number_at number) = subst (BalancedWord LeftPat left_pat_onto false) (sym (v_left_pat.rolls-Negative at number_at number)) (word_by (left_pat_negative at number_at number) (put_both (put_minus false at) (put_word false number_at (word.Num number) refl)))

  comma_pat_by : (y : CommaPat-F HeldApat HeldLeftPat HeldCommaPat HeldConsPat HeldPat) → BalancedWord CommaPat comma_pat_onto true (roll-CommaPat (map-CommaPat HeldApat HeldLeftPat HeldCommaPat HeldConsPat HeldPat Apat LeftPat CommaPat ConsPat Pat apat_of left_pat_of comma_pat_of cons_pat_of pat_of y))
  comma_pat_by y = word_by (comma_pat_made y.comma (pat_of y.pat)) (put_both (put_divide y.comma key.KComma refl) (put_free (pat_known y.pat)))

  cons_pat_by : (y : ConsPat-F HeldApat HeldLeftPat HeldCommaPat HeldConsPat HeldPat) → BalancedWord ConsPat cons_pat_onto false (roll-ConsPat (map-ConsPat HeldApat HeldLeftPat HeldCommaPat HeldConsPat HeldPat Apat LeftPat CommaPat ConsPat Pat apat_of left_pat_of comma_pat_of cons_pat_of pat_of y))
  cons_pat_by y = word_by (cons_pat_made y.colon (left_pat_of y.pat)) (put_both (put_key false y.colon key.KColon refl) (put (left_pat_known y.pat)))

  pat_by : (y : Pat-F HeldApat HeldLeftPat HeldCommaPat HeldConsPat HeldPat) → BalancedWord Pat pat_onto false (roll-Pat (map-Pat HeldApat HeldLeftPat HeldCommaPat HeldConsPat HeldPat Apat LeftPat CommaPat ConsPat Pat apat_of left_pat_of comma_pat_of cons_pat_of pat_of y))
  pat_by y = word_by (pat_made (left_pat_of y.first) (map cons_pat_of y.rest)) (put_both (put (left_pat_known y.first)) (put_all ConsPat cons_pat_onto false HeldConsPat cons_pat_of cons_pat_known y.rest))

-- ---- patterns, by induction

abbrev KnownApat : Type 0
KnownApat = (x : Apat) × BalancedWord Apat apat_onto false x

abbrev KnownLeftPat : Type 0
KnownLeftPat = (x : LeftPat) × BalancedWord LeftPat left_pat_onto false x

abbrev KnownCommaPat : Type 0
KnownCommaPat = (x : CommaPat) × BalancedWord CommaPat comma_pat_onto true x

abbrev KnownConsPat : Type 0
KnownConsPat = (x : ConsPat) × BalancedWord ConsPat cons_pat_onto false x

abbrev KnownPat : Type 0
KnownPat = (x : Pat) × BalancedWord Pat pat_onto false x

apat_at : (x : Apat-F Apat LeftPat CommaPat ConsPat Pat) (y : Apat-F KnownApat KnownLeftPat KnownCommaPat KnownConsPat KnownPat) → map-Apat KnownApat KnownLeftPat KnownCommaPat KnownConsPat KnownPat Apat LeftPat CommaPat ConsPat Pat (λ s. s.0) (λ s. s.0) (λ s. s.0) (λ s. s.0) (λ s. s.0) y ≡ x → BalancedWord Apat apat_onto false (roll-Apat x)
apat_at x y e = subst (λ (z : Apat-F Apat LeftPat CommaPat ConsPat Pat). BalancedWord Apat apat_onto false (roll-Apat z)) e (apat_by KnownApat KnownLeftPat KnownCommaPat KnownConsPat KnownPat (λ s. s.0) (λ s. s.0) (λ s. s.0) (λ s. s.0) (λ s. s.0) (λ s. s.1) (λ s. s.1) (λ s. s.1) (λ s. s.1) (λ s. s.1) y)

left_pat_at : (x : LeftPat-F Apat LeftPat CommaPat ConsPat Pat) (y : LeftPat-F KnownApat KnownLeftPat KnownCommaPat KnownConsPat KnownPat) → map-LeftPat KnownApat KnownLeftPat KnownCommaPat KnownConsPat KnownPat Apat LeftPat CommaPat ConsPat Pat (λ s. s.0) (λ s. s.0) (λ s. s.0) (λ s. s.0) (λ s. s.0) y ≡ x → BalancedWord LeftPat left_pat_onto false (roll-LeftPat x)
left_pat_at x y e = subst (λ (z : LeftPat-F Apat LeftPat CommaPat ConsPat Pat). BalancedWord LeftPat left_pat_onto false (roll-LeftPat z)) e (left_pat_by KnownApat KnownLeftPat KnownCommaPat KnownConsPat KnownPat (λ s. s.0) (λ s. s.0) (λ s. s.0) (λ s. s.0) (λ s. s.0) (λ s. s.1) (λ s. s.1) (λ s. s.1) (λ s. s.1) (λ s. s.1) y)

comma_pat_at : (x : CommaPat-F Apat LeftPat CommaPat ConsPat Pat) (y : CommaPat-F KnownApat KnownLeftPat KnownCommaPat KnownConsPat KnownPat) → map-CommaPat KnownApat KnownLeftPat KnownCommaPat KnownConsPat KnownPat Apat LeftPat CommaPat ConsPat Pat (λ s. s.0) (λ s. s.0) (λ s. s.0) (λ s. s.0) (λ s. s.0) y ≡ x → BalancedWord CommaPat comma_pat_onto true (roll-CommaPat x)
comma_pat_at x y e = subst (λ (z : CommaPat-F Apat LeftPat CommaPat ConsPat Pat). BalancedWord CommaPat comma_pat_onto true (roll-CommaPat z)) e (comma_pat_by KnownApat KnownLeftPat KnownCommaPat KnownConsPat KnownPat (λ s. s.0) (λ s. s.0) (λ s. s.0) (λ s. s.0) (λ s. s.0) (λ s. s.1) (λ s. s.1) (λ s. s.1) (λ s. s.1) (λ s. s.1) y)

cons_pat_at : (x : ConsPat-F Apat LeftPat CommaPat ConsPat Pat) (y : ConsPat-F KnownApat KnownLeftPat KnownCommaPat KnownConsPat KnownPat) → map-ConsPat KnownApat KnownLeftPat KnownCommaPat KnownConsPat KnownPat Apat LeftPat CommaPat ConsPat Pat (λ s. s.0) (λ s. s.0) (λ s. s.0) (λ s. s.0) (λ s. s.0) y ≡ x → BalancedWord ConsPat cons_pat_onto false (roll-ConsPat x)
cons_pat_at x y e = subst (λ (z : ConsPat-F Apat LeftPat CommaPat ConsPat Pat). BalancedWord ConsPat cons_pat_onto false (roll-ConsPat z)) e (cons_pat_by KnownApat KnownLeftPat KnownCommaPat KnownConsPat KnownPat (λ s. s.0) (λ s. s.0) (λ s. s.0) (λ s. s.0) (λ s. s.0) (λ s. s.1) (λ s. s.1) (λ s. s.1) (λ s. s.1) (λ s. s.1) y)

pat_at : (x : Pat-F Apat LeftPat CommaPat ConsPat Pat) (y : Pat-F KnownApat KnownLeftPat KnownCommaPat KnownConsPat KnownPat) → map-Pat KnownApat KnownLeftPat KnownCommaPat KnownConsPat KnownPat Apat LeftPat CommaPat ConsPat Pat (λ s. s.0) (λ s. s.0) (λ s. s.0) (λ s. s.0) (λ s. s.0) y ≡ x → BalancedWord Pat pat_onto false (roll-Pat x)
pat_at x y e = subst (λ (z : Pat-F Apat LeftPat CommaPat ConsPat Pat). BalancedWord Pat pat_onto false (roll-Pat z)) e (pat_by KnownApat KnownLeftPat KnownCommaPat KnownConsPat KnownPat (λ s. s.0) (λ s. s.0) (λ s. s.0) (λ s. s.0) (λ s. s.0) (λ s. s.1) (λ s. s.1) (λ s. s.1) (λ s. s.1) (λ s. s.1) y)

pub apat_word : (x : Apat) → BalancedWord Apat apat_onto false x
apat_word = ind-Apat (BalancedWord Apat apat_onto false) (BalancedWord LeftPat left_pat_onto false) (BalancedWord CommaPat comma_pat_onto true) (BalancedWord ConsPat cons_pat_onto false) (BalancedWord Pat pat_onto false) apat_at left_pat_at comma_pat_at cons_pat_at pat_at

pub left_pat_word : (x : LeftPat) → BalancedWord LeftPat left_pat_onto false x
left_pat_word = ind-LeftPat (BalancedWord Apat apat_onto false) (BalancedWord LeftPat left_pat_onto false) (BalancedWord CommaPat comma_pat_onto true) (BalancedWord ConsPat cons_pat_onto false) (BalancedWord Pat pat_onto false) apat_at left_pat_at comma_pat_at cons_pat_at pat_at

pub comma_pat_word : (x : CommaPat) → BalancedWord CommaPat comma_pat_onto true x
comma_pat_word = ind-CommaPat (BalancedWord Apat apat_onto false) (BalancedWord LeftPat left_pat_onto false) (BalancedWord CommaPat comma_pat_onto true) (BalancedWord ConsPat cons_pat_onto false) (BalancedWord Pat pat_onto false) apat_at left_pat_at comma_pat_at cons_pat_at pat_at

pub cons_pat_word : (x : ConsPat) → BalancedWord ConsPat cons_pat_onto false x
cons_pat_word = ind-ConsPat (BalancedWord Apat apat_onto false) (BalancedWord LeftPat left_pat_onto false) (BalancedWord CommaPat comma_pat_onto true) (BalancedWord ConsPat cons_pat_onto false) (BalancedWord Pat pat_onto false) apat_at left_pat_at comma_pat_at cons_pat_at pat_at

pub pat_word : (x : Pat) → BalancedWord Pat pat_onto false x
pat_word = ind-Pat (BalancedWord Apat apat_onto false) (BalancedWord LeftPat left_pat_onto false) (BalancedWord CommaPat comma_pat_onto true) (BalancedWord ConsPat cons_pat_onto false) (BalancedWord Pat pat_onto false) apat_at left_pat_at comma_pat_at cons_pat_at pat_at
