-- Each rule of patterns reads again what is spelled, unless a limit comes.
use Rattle.std.proofs.Common.{◌≡◌, ℕ, zero, suc, ◌≤◌, Bool, true, false, ◌&&◌, not, cond, nat_le, eqb, List, [], ◌∷◌, length, Option, Some, None, refl, sym, ◌∙◌, ap, subst, arith}
use Rattle.std.proofs.lemmas.Bool.Decides.{nat_tests}
use Rattle.hdc_base.specs.declared.place.At.{At}
use Rattle.hdc_base.specs.declared.token.Key.{Key}
use Rattle.hdc_base.specs.declared.token.Key.TheVariants as key
use Rattle.hdc_base.specs.declared.token.Word.{Word}
use Rattle.hdc_base.specs.declared.token.Word.TheVariants as word
use Rattle.hdc_base.specs.declared.token.Token.{Token}
use Rattle.hdc_tree.specs.declared.name.Literal.{Literal}
use Rattle.hdc_tree.specs.declared.name.Literal.TheVariants as lit
use Rattle.hdc_tree.specs.declared.name.Name.{Name}
use Rattle.hdc_tree.specs.declared.pattern.Apat.{Apat}
use Rattle.hdc_tree.specs.declared.pattern.Apat.TheVariants as a
use Rattle.hdc_tree.specs.declared.pattern.LeftPat.{LeftPat}
use Rattle.hdc_tree.specs.declared.pattern.LeftPat.TheVariants as l
use Rattle.hdc_tree.specs.declared.pattern.CommaPat.{CommaPat, roll-CommaPat}
use Rattle.hdc_tree.specs.declared.pattern.ConsPat.{ConsPat, roll-ConsPat}
use Rattle.hdc_tree.specs.declared.pattern.Pat.{Pat, roll-Pat}
use Rattle.hdc_tree.specs.NameSpelling.{word_onto, key_onto, capital_onto, minus_onto, literal_word, literal_onto, each_onto}
use Rattle.hdc_tree.specs.PatternSpelling.{apat_onto, left_pat_onto, comma_pat_onto, cons_pat_onto, pat_onto}
use Rattle.hdc_tree.specs.Form.{each_formed, few}
use Rattle.hdc_tree.specs.PatternForm.{formed_apat, formed_left_pat, formed_comma_pat, formed_cons_pat, formed_pat}
use Rattle.hdc_tree.proofs.PatternEquations.{apat_var, apat_as, apat_wildcard, apat_con, apat_literal, apat_unit, apat_nil, apat_paren, apat_tuple, apat_list, left_pat_plain, left_pat_applied, left_pat_negative, comma_pat_parts, comma_pat_made, cons_pat_parts, cons_pat_made, pat_made}
use Rattle.hdc_tree.proofs.PatternFormed.{formed_apat_as, formed_apat_paren, formed_apat_tuple, formed_apat_list, formed_left_pat_plain, formed_left_pat_applied, formed_comma_pat_made, formed_cons_pat_made, formed_pat_made}
use Rattle.hdc_tree.proofs.PatternCases.{apat_cases, left_pat_cases, comma_pat_cases, cons_pat_cases, pat_cases}
use Rattle.hdc_syntax.specs.Parser.{Parser, head}
use Rattle.hdc_syntax.specs.Words.{code, is, is_key_word, is_capital, is_minus}
use Rattle.hdc_syntax.proofs.Tests.{first_part, second_part, not_true}
use Rattle.hdc_syntax.proofs.Steps.{same_key, token_of}
use Rattle.hdc_syntax.proofs.Meets.{Meets, meets_return, meets_deep, meets_then, meets_yes, meets_no, Items, may_all, meets_many, meets_at_most}
use Rattle.hdc_syntax.specs.PatternReader.{starts_apat, apats, applied_pat, constructor_pat, negative_pat, left_pat, cons_pat, cons_pats, pat_behind, pat, comma_pat, tuple_pat, parens_behind, parens_pat, comma_pats, members_pat, list_pat, named_pat, apat_level, apat}

-- ---- a token that passes a test which a key does not pass is not that key

module _ (starts : Option Token → Bool) (k : Key) (h : (at : At) → starts (Some (token_of at (word.Key k))) ≡ false) where
  key_apart : (at : At) (d : Key) → starts (Some (token_of at (word.Key d))) ≡ true → (b : Bool) → eqb (code d) (code k) ≡ b → b ≡ false
  key_apart at d e true same = let f : starts (Some (token_of at (word.Key d))) ≡ false = ap (λ z. starts (Some (token_of at (word.Key z)))) (same_key k d same) ∙ h at in absurd (cc)
  key_apart at d e false same = refl

  word_apart : (at : At) (w : Word) → starts (Some (token_of at w)) ≡ true → is_key_word k w ≡ false
  word_apart at (word.Key d) e = key_apart at d e (eqb (code d) (code k)) refl
  word_apart at (word.Var x) e = refl
  word_apart at (word.Con x) e = refl
  word_apart at (word.Sym x) e = refl
  word_apart at (word.Num x) e = refl
  word_apart at (word.Chr x) e = refl
  word_apart at (word.Str x) e = refl

  pub not_key : (c : Option Token) → starts c ≡ true → is k c ≡ false
  not_key None e = refl
  not_key (Some t) e = word_apart t.at t.word e

-- ---- the first token of a pattern

literal_starts : (at : At) (x : Literal) → starts_apat (Some (token_of at (literal_word x))) ≡ true
literal_starts at (lit.Num n) = refl
literal_starts at (lit.Chr c) = refl
literal_starts at (lit.Str cs) = refl

pub apat_starts : (x : Apat) (k : List Token) → starts_apat (head (apat_onto x k)) ≡ true
apat_starts x k = apat_cases (λ x. starts_apat (head (apat_onto x k)) ≡ true)
    (λ n. ap (λ z. starts_apat (head z)) (apat_var n k))
    (λ n at y. ap (λ z. starts_apat (head z)) (apat_as n at y k))
    (λ at. ap (λ z. starts_apat (head z)) (apat_wildcard at k))
    (λ n. ap (λ z. starts_apat (head z)) (apat_con n k))
    (λ at y. ap (λ z. starts_apat (head z)) (apat_literal at y k) ∙ literal_starts at y)
    (λ open_at close_at. ap (λ z. starts_apat (head z)) (apat_unit open_at close_at k))
    (λ open_at close_at. ap (λ z. starts_apat (head z)) (apat_nil open_at close_at k))
    (λ open_at y close_at. ap (λ z. starts_apat (head z)) (apat_paren open_at y close_at k))
    (λ open_at y ys close_at. ap (λ z. starts_apat (head z)) (apat_tuple open_at y ys close_at k))
    (λ open_at y ys close_at. ap (λ z. starts_apat (head z)) (apat_list open_at y ys close_at k))
    x

-- the token begins a pattern
abbrev pub starts_pat : Option Token → Bool
starts_pat c = cond (starts_apat c) true (is_minus c)

apat_starts_pat : (b m : Bool) → b ≡ true → cond b true m ≡ true
apat_starts_pat true m e = refl
apat_starts_pat false m e = absurd (cc)

pub left_pat_starts : (x : LeftPat) (k : List Token) → starts_pat (head (left_pat_onto x k)) ≡ true
left_pat_starts x k = left_pat_cases (λ x. starts_pat (head (left_pat_onto x k)) ≡ true)
    (λ y. ap (λ z. starts_pat (head z)) (left_pat_plain y k) ∙ apat_starts_pat (starts_apat (head (apat_onto y k))) (is_minus (head (apat_onto y k))) (apat_starts y k))
    (λ n y ys. ap (λ z. starts_pat (head z)) (left_pat_applied n y ys k))
    (λ at number_at n. ap (λ z. starts_pat (head z)) (left_pat_negative at number_at n k))
    x

pub pat_starts : (x : Pat) (k : List Token) → starts_pat (head (pat_onto x k)) ≡ true
pat_starts x k = pat_cases (λ x. starts_pat (head (pat_onto x k)) ≡ true) (λ y ys. ap (λ z. starts_pat (head z)) (pat_made y ys k) ∙ left_pat_starts y (each_onto cons_pat_onto ys k)) x

pub cons_pat_starts : (x : ConsPat) (k : List Token) → is key.KColon (head (cons_pat_onto x k)) ≡ true
cons_pat_starts x k = ap (λ z. is key.KColon (head z)) (cons_pat_parts x k)

pub comma_pat_starts : (x : CommaPat) (k : List Token) → is key.KComma (head (comma_pat_onto x k)) ≡ true
comma_pat_starts x k = ap (λ z. is key.KComma (head z)) (comma_pat_parts x k)

-- a pattern that may be an argument does not begin with `@`, and no pattern with a closing bracket
pub apat_no_at : (x : Apat) (k : List Token) → is key.KAt (head (apat_onto x k)) ≡ false
apat_no_at x k = not_key starts_apat key.KAt (λ at. refl) (head (apat_onto x k)) (apat_starts x k)

pub apats_no_at : (xs : List Apat) (k : List Token) → is key.KAt (head k) ≡ false → is key.KAt (head (each_onto apat_onto xs k)) ≡ false
apats_no_at [] k e = e
apats_no_at (x ∷ xs) k e = apat_no_at x (each_onto apat_onto xs k)

pub pat_no_close_paren : (x : Pat) (k : List Token) → is key.KCloseParen (head (pat_onto x k)) ≡ false
pat_no_close_paren x k = not_key starts_pat key.KCloseParen (λ at. refl) (head (pat_onto x k)) (pat_starts x k)

pub pat_no_close_bracket : (x : Pat) (k : List Token) → is key.KCloseBracket (head (pat_onto x k)) ≡ false
pat_no_close_bracket x k = not_key starts_pat key.KCloseBracket (λ at. refl) (head (pat_onto x k)) (pat_starts x k)

-- ---- the token after a pattern

-- the token is not `@`, with which a name would go on
abbrev pub no_at : Option Token → Bool
no_at c = not (is key.KAt c)

-- the token goes on with no pattern that may stand beside a `:`
abbrev pub ends_left : Option Token → Bool
ends_left c = not (starts_apat c) && not (is key.KAt c)

-- the token goes on with no pattern
abbrev pub ends_pat : Option Token → Bool
ends_pat c = ends_left c && not (is key.KColon c)

pub left_no_apat : (c : Option Token) → ends_left c ≡ true → starts_apat c ≡ false
left_no_apat c e = not_true (starts_apat c) (first_part (not (starts_apat c)) (not (is key.KAt c)) e)

pub left_no_at : (c : Option Token) → ends_left c ≡ true → is key.KAt c ≡ false
left_no_at c e = not_true (is key.KAt c) (second_part (not (starts_apat c)) (not (is key.KAt c)) e)

pub pat_ends_left : (c : Option Token) → ends_pat c ≡ true → ends_left c ≡ true
pat_ends_left c e = first_part (ends_left c) (not (is key.KColon c)) e

pub pat_no_colon : (c : Option Token) → ends_pat c ≡ true → is key.KColon c ≡ false
pat_no_colon c e = not_true (is key.KColon c) (second_part (ends_left c) (not (is key.KColon c)) e)

cons_pat_ends_left : (x : ConsPat) (k : List Token) → ends_left (head (cons_pat_onto x k)) ≡ true
cons_pat_ends_left x k = ap (λ z. ends_left (head z)) (cons_pat_parts x k)

comma_pat_ends_pat : (x : CommaPat) (k : List Token) → ends_pat (head (comma_pat_onto x k)) ≡ true
comma_pat_ends_pat x k = ap (λ z. ends_pat (head z)) (comma_pat_parts x k)

comma_pat_no_close : (x : CommaPat) (k : List Token) → is key.KCloseParen (head (comma_pat_onto x k)) ≡ false
comma_pat_no_close x k = ap (λ z. is key.KCloseParen (head z)) (comma_pat_parts x k)

-- behind the second member of a tuple stand five at most
pub few_more : (n : ℕ) → (nat_le 1 (suc n) && nat_le (suc n) 6) ≡ true → n ≤ 5
few_more n e = let h = second_part (nat_le 1 (suc n)) (nat_le (suc n) 6) e in grind (arith, nat_tests, h)

literal_no_capital : (at : At) (x : Literal) → is_capital (Some (token_of at (literal_word x))) ≡ false
literal_no_capital at (lit.Num n) = refl
literal_no_capital at (lit.Chr c) = refl
literal_no_capital at (lit.Str cs) = refl

literal_no_minus : (at : At) (x : Literal) → is_minus (Some (token_of at (literal_word x))) ≡ false
literal_no_minus at (lit.Num n) = refl
literal_no_minus at (lit.Chr c) = refl
literal_no_minus at (lit.Str cs) = refl

-- ---- the rules at one depth

module _ (turns : ℕ) (apat : Parser Apat) (h : (x : Apat) → formed_apat x ≡ true → (k : List Token) → is key.KAt (head k) ≡ false → Meets Apat (apat (apat_onto x k)) x k) where
  args : Items Apat apat_onto formed_apat starts_apat no_at apat
  args = record { reads = λ x w k e. h x w k (not_true (is key.KAt (head k)) e); begins = apat_starts; follows = λ x k. ap not (apat_no_at x k) }

  pub again_apats : (xs : List Apat) → each_formed formed_apat xs ≡ true → (k : List Token) → starts_apat (head k) ≡ false → is key.KAt (head k) ≡ false → Meets (List Apat) (apats turns apat (each_onto apat_onto xs k)) xs k
  again_apats xs w k e f = meets_many Apat apat_onto formed_apat starts_apat no_at apat args turns [] xs k w e (ap not f)

  pub again_applied_pat : (name : Name) (first : Apat) (rest : List Apat) → formed_apat first ≡ true → each_formed formed_apat rest ≡ true → (k : List Token) → ends_left (head k) ≡ true
      → Meets LeftPat (applied_pat turns apat name (apat_onto first (each_onto apat_onto rest k))) (l.Applied name first rest) k
  unfolding applied_pat
  again_applied_pat name first rest v w k e =
      let no = left_no_at (head k) e in
      meets_then _ (h first v (each_onto apat_onto rest k) (apats_no_at rest k no))
      (meets_then _ (again_apats rest w k (left_no_apat (head k) e) no)
      (meets_return (l.Applied name first rest) k))

  pub again_negative_pat : (at number_at : At) (n : ℕ) (k : List Token) → Meets LeftPat (negative_pat turns apat (minus_onto at (word_onto number_at (word.Num n) k))) (l.Negative at number_at n) k
  unfolding negative_pat
  again_negative_pat at number_at n k = meets_return (l.Negative at number_at n) k

  by_plain : (x : Apat) → formed_apat x ≡ true → (k : List Token) → ends_left (head k) ≡ true → is_capital (head (apat_onto x k)) ≡ false → is_minus (head (apat_onto x k)) ≡ false
      → Meets LeftPat (left_pat turns apat (apat_onto x k)) (l.Plain x) k
  unfolding left_pat
  by_plain x w k e c m = meets_no _ _ c (meets_no _ _ m (meets_then _ (h x w k (left_no_at (head k) e)) (meets_return (l.Plain x) k)))

  again_constructor : (n : Name) (k : List Token) → ends_left (head k) ≡ true → Meets LeftPat (left_pat turns apat (capital_onto n k)) (l.Plain (a.Con n)) k
  unfolding left_pat constructor_pat
  again_constructor n k e = meets_no _ _ (left_no_apat (head k) e) (meets_return (l.Plain (a.Con n)) k)

  again_plain_pat : (x : Apat) → formed_apat x ≡ true → (k : List Token) → ends_left (head k) ≡ true → Meets LeftPat (left_pat turns apat (apat_onto x k)) (l.Plain x) k
  again_plain_pat x w k e = apat_cases (λ x. formed_apat x ≡ true → Meets LeftPat (left_pat turns apat (apat_onto x k)) (l.Plain x) k)
      (λ n w. by_plain (a.Var n) w k e (ap (λ z. is_capital (head z)) (apat_var n k)) (ap (λ z. is_minus (head z)) (apat_var n k)))
      (λ n at y w. by_plain (a.As n at y) w k e (ap (λ z. is_capital (head z)) (apat_as n at y k)) (ap (λ z. is_minus (head z)) (apat_as n at y k)))
      (λ at w. by_plain (a.Wildcard at) w k e (ap (λ z. is_capital (head z)) (apat_wildcard at k)) (ap (λ z. is_minus (head z)) (apat_wildcard at k)))
      (λ n w. subst (λ (z : List Token). Meets LeftPat (left_pat turns apat z) (l.Plain (a.Con n)) k) (sym (apat_con n k)) (again_constructor n k e))
      (λ at y w. by_plain (a.Literal at y) w k e (ap (λ z. is_capital (head z)) (apat_literal at y k) ∙ literal_no_capital at y) (ap (λ z. is_minus (head z)) (apat_literal at y k) ∙ literal_no_minus at y))
      (λ open_at close_at w. by_plain (a.Unit open_at close_at) w k e (ap (λ z. is_capital (head z)) (apat_unit open_at close_at k)) (ap (λ z. is_minus (head z)) (apat_unit open_at close_at k)))
      (λ open_at close_at w. by_plain (a.Nil open_at close_at) w k e (ap (λ z. is_capital (head z)) (apat_nil open_at close_at k)) (ap (λ z. is_minus (head z)) (apat_nil open_at close_at k)))
      (λ open_at y close_at w. by_plain (a.Paren open_at y close_at) w k e (ap (λ z. is_capital (head z)) (apat_paren open_at y close_at k)) (ap (λ z. is_minus (head z)) (apat_paren open_at y close_at k)))
      (λ open_at y ys close_at w. by_plain (a.Tuple open_at y ys close_at) w k e (ap (λ z. is_capital (head z)) (apat_tuple open_at y ys close_at k)) (ap (λ z. is_minus (head z)) (apat_tuple open_at y ys close_at k)))
      (λ open_at y ys close_at w. by_plain (a.List open_at y ys close_at) w k e (ap (λ z. is_capital (head z)) (apat_list open_at y ys close_at k)) (ap (λ z. is_minus (head z)) (apat_list open_at y ys close_at k)))
      x w

  again_applied : (n : Name) (y : Apat) (ys : List Apat) → formed_apat y ≡ true → each_formed formed_apat ys ≡ true → (k : List Token) → ends_left (head k) ≡ true
      → Meets LeftPat (left_pat turns apat (capital_onto n (apat_onto y (each_onto apat_onto ys k)))) (l.Applied n y ys) k
  unfolding left_pat constructor_pat
  again_applied n y ys v w k e = meets_yes _ _ (apat_starts y (each_onto apat_onto ys k)) (again_applied_pat n y ys v w k e)

  again_negative : (at number_at : At) (n : ℕ) (k : List Token) → Meets LeftPat (left_pat turns apat (minus_onto at (word_onto number_at (word.Num n) k))) (l.Negative at number_at n) k
  unfolding left_pat
  again_negative at number_at n k = again_negative_pat at number_at n k

  pub again_left_pat : (x : LeftPat) → formed_left_pat x ≡ true → (k : List Token) → ends_left (head k) ≡ true → Meets LeftPat (left_pat turns apat (left_pat_onto x k)) x k
  again_left_pat x w k e = left_pat_cases (λ x. formed_left_pat x ≡ true → Meets LeftPat (left_pat turns apat (left_pat_onto x k)) x k)
      (λ y w. subst (λ (z : List Token). Meets LeftPat (left_pat turns apat z) (l.Plain y) k) (sym (left_pat_plain y k)) (again_plain_pat y (sym (formed_left_pat_plain y) ∙ w) k e))
      (λ n y ys w. let f = sym (formed_left_pat_applied n y ys) ∙ w in
      subst (λ (z : List Token). Meets LeftPat (left_pat turns apat z) (l.Applied n y ys) k) (sym (left_pat_applied n y ys k))
      (again_applied n y ys (first_part (formed_apat y) (each_formed formed_apat ys) f) (second_part (formed_apat y) (each_formed formed_apat ys) f) k e))
      (λ at number_at n w. subst (λ (z : List Token). Meets LeftPat (left_pat turns apat z) (l.Negative at number_at n) k) (sym (left_pat_negative at number_at n k)) (again_negative at number_at n k))
      x w

  pub again_cons_pat : (x : ConsPat) → formed_cons_pat x ≡ true → (k : List Token) → ends_left (head k) ≡ true → Meets ConsPat (cons_pat turns apat (cons_pat_onto x k)) x k
  unfolding cons_pat
  again_cons_pat x w k e = cons_pat_cases (λ x. formed_cons_pat x ≡ true → Meets ConsPat (cons_pat turns apat (cons_pat_onto x k)) x k)
      (λ colon y w. subst (λ (z : List Token). Meets ConsPat (cons_pat turns apat z) (roll-ConsPat (record { colon = colon; pat = y })) k) (sym (cons_pat_made colon y k))
      (meets_then _ (again_left_pat y (sym (formed_cons_pat_made colon y) ∙ w) k e) (meets_return (roll-ConsPat (record { colon = colon; pat = y })) k)))
      x w

  more_cons : Items ConsPat cons_pat_onto formed_cons_pat (is key.KColon) ends_left (cons_pat turns apat)
  more_cons = record { reads = again_cons_pat; begins = cons_pat_starts; follows = cons_pat_ends_left }

  pub again_cons_pats : (xs : List ConsPat) → each_formed formed_cons_pat xs ≡ true → (k : List Token) → ends_pat (head k) ≡ true → Meets (List ConsPat) (cons_pats turns apat (each_onto cons_pat_onto xs k)) xs k
  again_cons_pats xs w k e = meets_many ConsPat cons_pat_onto formed_cons_pat (is key.KColon) ends_left (cons_pat turns apat) more_cons turns [] xs k w (pat_no_colon (head k) e) (pat_ends_left (head k) e)

  pub again_pat_behind : (first : LeftPat) (rest : List ConsPat) → each_formed formed_cons_pat rest ≡ true → (k : List Token) → ends_pat (head k) ≡ true
      → Meets Pat (pat_behind turns apat first (each_onto cons_pat_onto rest k)) (roll-Pat (record { first = first; rest = rest })) k
  again_pat_behind first rest w k e = meets_then _ (again_cons_pats rest w k e) (meets_return (roll-Pat (record { first = first; rest = rest })) k)

  -- before `:` and what follows it ends what may stand beside a `:`
  pub cons_pats_end_left : (xs : List ConsPat) (k : List Token) → ends_pat (head k) ≡ true → ends_left (head (each_onto cons_pat_onto xs k)) ≡ true
  cons_pats_end_left xs k e = may_all ConsPat cons_pat_onto formed_cons_pat (is key.KColon) ends_left (cons_pat turns apat) more_cons xs k (pat_ends_left (head k) e)

  pub again_pat : (x : Pat) → formed_pat x ≡ true → (k : List Token) → ends_pat (head k) ≡ true → Meets Pat (pat turns apat (pat_onto x k)) x k
  unfolding pat
  again_pat x w k e = pat_cases (λ x. formed_pat x ≡ true → Meets Pat (pat turns apat (pat_onto x k)) x k)
      (λ y ys w. let f = sym (formed_pat_made y ys) ∙ w in
      subst (λ (z : List Token). Meets Pat (pat turns apat z) (roll-Pat (record { first = y; rest = ys })) k) (sym (pat_made y ys k))
      (meets_then _ (again_left_pat y (first_part (formed_left_pat y) (each_formed formed_cons_pat ys) f) (each_onto cons_pat_onto ys k) (cons_pats_end_left ys k e))
      (again_pat_behind y ys (second_part (formed_left_pat y) (each_formed formed_cons_pat ys) f) k e)))
      x w

  pub again_comma_pat : (x : CommaPat) → formed_comma_pat x ≡ true → (k : List Token) → ends_pat (head k) ≡ true → Meets CommaPat (comma_pat turns apat (comma_pat_onto x k)) x k
  unfolding comma_pat
  again_comma_pat x w k e = comma_pat_cases (λ x. formed_comma_pat x ≡ true → Meets CommaPat (comma_pat turns apat (comma_pat_onto x k)) x k)
      (λ comma y w. subst (λ (z : List Token). Meets CommaPat (comma_pat turns apat z) (roll-CommaPat (record { comma = comma; pat = y })) k) (sym (comma_pat_made comma y k))
      (meets_then _ (again_pat y (sym (formed_comma_pat_made comma y) ∙ w) k e) (meets_return (roll-CommaPat (record { comma = comma; pat = y })) k)))
      x w

  more_members : Items CommaPat comma_pat_onto formed_comma_pat (is key.KComma) ends_pat (comma_pat turns apat)
  more_members = record { reads = again_comma_pat; begins = comma_pat_starts; follows = comma_pat_ends_pat }

  -- before `,` and what follows it ends a pattern
  pub comma_pats_end_pat : (xs : List CommaPat) (k : List Token) → ends_pat (head k) ≡ true → ends_pat (head (each_onto comma_pat_onto xs k)) ≡ true
  comma_pats_end_pat = may_all CommaPat comma_pat_onto formed_comma_pat (is key.KComma) ends_pat (comma_pat turns apat) more_members

  pub again_comma_pats : (xs : List CommaPat) → each_formed formed_comma_pat xs ≡ true → (k : List Token) → is key.KComma (head k) ≡ false → ends_pat (head k) ≡ true → Meets (List CommaPat) (comma_pats turns apat (each_onto comma_pat_onto xs k)) xs k
  again_comma_pats xs w k e f = meets_many CommaPat comma_pat_onto formed_comma_pat (is key.KComma) ends_pat (comma_pat turns apat) more_members turns [] xs k w e f

  pub again_tuple_pat : (open_at : At) (first : Pat) (rest : List CommaPat) (close_at : At) → each_formed formed_comma_pat rest ≡ true → few rest ≡ true → (k : List Token)
      → Meets Apat (tuple_pat turns apat open_at first (each_onto comma_pat_onto rest (key_onto close_at key.KCloseParen k))) (a.Tuple open_at first rest close_at) k
  unfolding tuple_pat
  again_tuple_pat open_at first [] close_at w small k = absurd (cc)
  again_tuple_pat open_at first (second ∷ more) close_at w small k =
      let k1 : List Token = key_onto close_at key.KCloseParen k in
      meets_then _ (again_comma_pat second (first_part (formed_comma_pat second) (each_formed formed_comma_pat more) w) (each_onto comma_pat_onto more k1) (comma_pats_end_pat more k1 refl))
      (meets_then _ (meets_at_most CommaPat comma_pat_onto formed_comma_pat (is key.KComma) ends_pat (comma_pat turns apat) more_members 5 (second ∷ []) more k1
      (second_part (formed_comma_pat second) (each_formed formed_comma_pat more) w) (few_more (length more) small) refl refl)
      (meets_return (a.Tuple open_at first (second ∷ more) close_at) k))

  pub again_parens_paren : (open_at : At) (first : Pat) (close_at : At) (k : List Token) → Meets Apat (parens_behind turns apat open_at first (key_onto close_at key.KCloseParen k)) (a.Paren open_at first close_at) k
  again_parens_paren open_at first close_at k = meets_return (a.Paren open_at first close_at) k

  pub again_parens_tuple : (open_at : At) (first : Pat) (rest : List CommaPat) (close_at : At) → each_formed formed_comma_pat rest ≡ true → few rest ≡ true → (k : List Token)
      → Meets Apat (parens_behind turns apat open_at first (each_onto comma_pat_onto rest (key_onto close_at key.KCloseParen k))) (a.Tuple open_at first rest close_at) k
  again_parens_tuple open_at first [] close_at w small k = absurd (cc)
  again_parens_tuple open_at first (second ∷ more) close_at w small k =
      meets_no _ _ (comma_pat_no_close second (each_onto comma_pat_onto more (key_onto close_at key.KCloseParen k))) (again_tuple_pat open_at first (second ∷ more) close_at w small k)

  again_literal : (at : At) (x : Literal) (k : List Token) → Meets Apat (apat_level turns apat (literal_onto at x k)) (a.Literal at x) k
  unfolding apat_level
  again_literal at (lit.Num n) k = meets_return (a.Literal at (lit.Num n)) k
  again_literal at (lit.Chr c) k = meets_return (a.Literal at (lit.Chr c)) k
  again_literal at (lit.Str cs) k = meets_return (a.Literal at (lit.Str cs)) k

  pub again_apat_level : (x : Apat) → formed_apat x ≡ true → (k : List Token) → is key.KAt (head k) ≡ false → Meets Apat (apat_level turns apat (apat_onto x k)) x k
  unfolding apat_level named_pat parens_pat list_pat members_pat
  again_apat_level x w k e = apat_cases (λ x. formed_apat x ≡ true → Meets Apat (apat_level turns apat (apat_onto x k)) x k)
      (λ n w. subst (λ (z : List Token). Meets Apat (apat_level turns apat z) (a.Var n) k) (sym (apat_var n k)) (meets_no _ _ e (meets_return (a.Var n) k)))
      (λ n at y w. subst (λ (z : List Token). Meets Apat (apat_level turns apat z) (a.As n at y) k) (sym (apat_as n at y k)) (meets_then _ (h y (sym (formed_apat_as n at y) ∙ w) k e) (meets_return (a.As n at y) k)))
      (λ at w. subst (λ (z : List Token). Meets Apat (apat_level turns apat z) (a.Wildcard at) k) (sym (apat_wildcard at k)) (meets_return (a.Wildcard at) k))
      (λ n w. subst (λ (z : List Token). Meets Apat (apat_level turns apat z) (a.Con n) k) (sym (apat_con n k)) (meets_return (a.Con n) k))
      (λ at y w. subst (λ (z : List Token). Meets Apat (apat_level turns apat z) (a.Literal at y) k) (sym (apat_literal at y k)) (again_literal at y k))
      (λ open_at close_at w. subst (λ (z : List Token). Meets Apat (apat_level turns apat z) (a.Unit open_at close_at) k) (sym (apat_unit open_at close_at k)) (meets_return (a.Unit open_at close_at) k))
      (λ open_at close_at w. subst (λ (z : List Token). Meets Apat (apat_level turns apat z) (a.Nil open_at close_at) k) (sym (apat_nil open_at close_at k)) (meets_return (a.Nil open_at close_at) k))
      (λ open_at y close_at w.
      let k1 : List Token = key_onto close_at key.KCloseParen k in
      subst (λ (z : List Token). Meets Apat (apat_level turns apat z) (a.Paren open_at y close_at) k) (sym (apat_paren open_at y close_at k))
      (meets_no _ _ (pat_no_close_paren y k1)
      (meets_then _ (again_pat y (sym (formed_apat_paren open_at y close_at) ∙ w) k1 refl) (again_parens_paren open_at y close_at k))))
      (λ open_at y ys close_at w.
      let k1 : List Token = key_onto close_at key.KCloseParen k in
      let k2 : List Token = each_onto comma_pat_onto ys k1 in
      let f = sym (formed_apat_tuple open_at y ys close_at) ∙ w in
      let g = second_part (formed_pat y) (each_formed formed_comma_pat ys && few ys) f in
      subst (λ (z : List Token). Meets Apat (apat_level turns apat z) (a.Tuple open_at y ys close_at) k) (sym (apat_tuple open_at y ys close_at k))
      (meets_no _ _ (pat_no_close_paren y k2)
      (meets_then _ (again_pat y (first_part (formed_pat y) (each_formed formed_comma_pat ys && few ys) f) k2 (comma_pats_end_pat ys k1 refl))
      (again_parens_tuple open_at y ys close_at (first_part (each_formed formed_comma_pat ys) (few ys) g) (second_part (each_formed formed_comma_pat ys) (few ys) g) k))))
      (λ open_at y ys close_at w.
      let k1 : List Token = key_onto close_at key.KCloseBracket k in
      let k2 : List Token = each_onto comma_pat_onto ys k1 in
      let f = sym (formed_apat_list open_at y ys close_at) ∙ w in
      subst (λ (z : List Token). Meets Apat (apat_level turns apat z) (a.List open_at y ys close_at) k) (sym (apat_list open_at y ys close_at k))
      (meets_no _ _ (pat_no_close_bracket y k2)
      (meets_then _ (again_pat y (first_part (formed_pat y) (each_formed formed_comma_pat ys) f) k2 (comma_pats_end_pat ys k1 refl))
      (meets_then _ (again_comma_pats ys (second_part (formed_pat y) (each_formed formed_comma_pat ys) f) k1 refl refl)
      (meets_return (a.List open_at y ys close_at) k)))))
      x w

pub again_apat : (turns depth : ℕ) (x : Apat) → formed_apat x ≡ true → (k : List Token) → is key.KAt (head k) ≡ false → Meets Apat (apat turns depth (apat_onto x k)) x k
unfolding apat
again_apat turns zero x w k e = meets_deep x k
again_apat turns (suc depth) x w k e = again_apat_level turns (apat turns depth) (again_apat turns depth) x w k e
