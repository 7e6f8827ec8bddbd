-- What is spelled is read again, unless a limit comes.
use Rattle.std.proofs.Common.{◌≡◌, ℕ, zero, suc, Bool, true, false, cond, List, [], ◌∷◌, ◌++◌, Option, Some, None, Result, Ok, Err, ◌⊎◌, inl, inr, refl, sym, ◌∙◌, ap, append_assoc, append-nil, subst, ◌&&◌, length, ◌≤◌, arith}
use Rattle.hdc_base.specs.declared.token.Token.{Token}
use Rattle.hdc_syntax.specs.declared.stop.Stop.{Stop}
use Rattle.hdc_syntax.specs.declared.stop.Stop.TheVariants.{Want, Deep, Syntax}
use Rattle.hdc_syntax.specs.Parser.{Outcome, Parser, and_then, ◌>>=◌, pure, peek, head, either, or_else, further, many_from, at_most_from}
use Rattle.hdc_tree.specs.NameSpelling.{Puts, each_onto}
use Rattle.hdc_tree.specs.Form.{each_formed}
use Rattle.hdc_syntax.proofs.Tests.{first_part, second_part}

abbrev pub IsLimit : Stop → Type 0
IsLimit Want = Unit {0}
IsLimit Deep = Unit {0}
IsLimit (Syntax n) = ⊥

pub record Meets (A : Type 0) (o : Outcome A) (x : A) (rest : List Token) : Type 0 where
  pub is : (o ≡ Ok (x, rest)) ⊎ ((s : Stop) × (o ≡ Err s) × IsLimit s)

pub meets_return : {A : Type 0} (x : A) (ts : List Token) → Meets A (Ok (x, ts)) x ts
meets_return x ts = record { is = inl refl }

pub meets_deep : {A : Type 0} (x : A) (ts : List Token) → Meets A (Err Deep) x ts
meets_deep x ts = record { is = inr (Deep, refl, tt) }

pub meets_then : {A B : Type 0} {o : Outcome A} (f : A → Parser B) {x : A} {mid : List Token} {y : B} {rest : List Token}
    → Meets A o x mid → Meets B (f x mid) y rest → Meets B (and_then o f) y rest
meets_then {A} {B} {o} f {x} {mid} {y} {rest} m n = elim m.is [
  | inl e ↦ subst (λ (z : Outcome A). Meets B (and_then z f) y rest) (sym e) n
  | inr e ↦ record { is = inr (e.0, ap (λ z. and_then z f) e.1, e.2) }
]

pub meets_yes : {A : Type 0} (p q : Parser A) {b : Bool} {ts : List Token} {x : A} {rest : List Token} → b ≡ true → Meets A (p ts) x rest → Meets A (cond b p q ts) x rest
meets_yes {A} p q {b} {ts} {x} {rest} e m = subst (λ (c : Bool). Meets A (cond c p q ts) x rest) (sym e) m

pub meets_no : {A : Type 0} (p q : Parser A) {b : Bool} {ts : List Token} {x : A} {rest : List Token} → b ≡ false → Meets A (q ts) x rest → Meets A (cond b p q ts) x rest
meets_no {A} p q {b} {ts} {x} {rest} e m = subst (λ (c : Bool). Meets A (cond c p q ts) x rest) (sym e) m

-- ---- a choice

limit_first : {A : Type 0} (b : Outcome A) (x : A) (rest : List Token) (o : Outcome A) (s : Stop) → o ≡ Err s → IsLimit s → Meets A (or_else o b) x rest
limit_first b x rest o Want e l = record { is = inr (Want, ap (λ z. or_else z b) e, tt) }
limit_first b x rest o Deep e l = record { is = inr (Deep, ap (λ z. or_else z b) e, tt) }
limit_first b x rest o (Syntax n) e l = absurd l

pub meets_first : {A : Type 0} (p q : Parser A) {ts : List Token} {x : A} {rest : List Token} → Meets A (p ts) x rest → Meets A (either p q ts) x rest
meets_first {A} p q {ts} {x} {rest} m = elim m.is [
  | inl e ↦ record { is = inl (ap (λ z. or_else z (q ts)) e) }
  | inr e ↦ limit_first (q ts) x rest (p ts) e.0 e.1 e.2
]

limit_second : {A : Type 0} (m : ℕ) (x : A) (rest : List Token) (o : Outcome A) (s : Stop) → o ≡ Err s → IsLimit s → Meets A (or_else (Err (Syntax m)) o) x rest
limit_second m x rest o Want e l = record { is = inr (Want, ap (λ z. or_else (Err (Syntax m)) z) e, tt) }
limit_second m x rest o Deep e l = record { is = inr (Deep, ap (λ z. or_else (Err (Syntax m)) z) e, tt) }
limit_second m x rest o (Syntax n) e l = absurd l

after_refusal : {A : Type 0} (m : ℕ) (b : Outcome A) (x : A) (rest : List Token) → Meets A b x rest → Meets A (or_else (Err (Syntax m)) b) x rest
after_refusal {A} m b x rest n = elim n.is [
  | inl e ↦ record { is = inl (ap (λ z. or_else (Err (Syntax m)) z) e) }
  | inr e ↦ limit_second m x rest b e.0 e.1 e.2
]

meets_second_of : {A : Type 0} (o b : Outcome A) (x : A) (rest : List Token) → ((y : A) (r : List Token) → o ≡ Ok (y, r) → ⊥) → Meets A b x rest → Meets A (or_else o b) x rest
meets_second_of (Ok p) b x rest h m = absurd (h p.0 p.1 refl)
meets_second_of (Err Want) b x rest h m = record { is = inr (Want, refl, tt) }
meets_second_of (Err Deep) b x rest h m = record { is = inr (Deep, refl, tt) }
meets_second_of (Err (Syntax n)) b x rest h m = after_refusal n b x rest m

pub meets_second : {A : Type 0} (p q : Parser A) {ts : List Token} {x : A} {rest : List Token} → ((y : A) (r : List Token) → p ts ≡ Ok (y, r) → ⊥) → Meets A (q ts) x rest → Meets A (either p q ts) x rest
meets_second {A} p q {ts} {x} {rest} h m = meets_second_of (p ts) (q ts) x rest h m

-- ---- many. An item is read again before a text of which `may` holds.

pub record Items (A : Type 0) (onto : A → Puts) (formed : A → Bool) (starts may : Option Token → Bool) (item : Parser A) : Type 0 where
  pub reads : (x : A) → formed x ≡ true → (k : List Token) → may (head k) ≡ true → Meets A (item (onto x k)) x k
  pub begins : (x : A) (k : List Token) → starts (head (onto x k)) ≡ true
  pub follows : (x : A) (k : List Token) → may (head (onto x k)) ≡ true

module _ (A : Type 0) (onto : A → Puts) (formed : A → Bool) (starts may : Option Token → Bool) (item : Parser A) (h : Items A onto formed starts may item) where
  pub may_all : (xs : List A) (k : List Token) → may (head k) ≡ true → may (head (each_onto onto xs k)) ≡ true
  may_all [] k e = e
  may_all (x ∷ xs) k e = h.follows x (each_onto onto xs k)

  pub meets_many : (n : ℕ) (found xs : List A) (k : List Token) → each_formed formed xs ≡ true → starts (head k) ≡ false → may (head k) ≡ true → Meets (List A) (many_from starts item n found (each_onto onto xs k)) (found ++ xs) k
  meets_many zero found xs k w ends e = meets_deep (found ++ xs) k
  meets_many (suc n) found [] k w ends e = meets_no _ (pure found) ends (subst (λ (z : List A). Meets (List A) (Ok (found, k)) z k) (sym (append-nil found)) (meets_return found k))
  meets_many (suc n) found (x ∷ xs) k w ends e = meets_yes _ (pure found) (h.begins x (each_onto onto xs k)) (meets_then _ (h.reads x (first_part (formed x) (each_formed formed xs) w) (each_onto onto xs k) (may_all xs k e))
      (subst (λ (z : List A). Meets (List A) (many_from starts item n (found ++ x ∷ []) (each_onto onto xs k)) z k) (append_assoc found (x ∷ []) xs)
      (meets_many n (found ++ x ∷ []) xs k (second_part (formed x) (each_formed formed xs) w) ends e)))

  pub meets_at_most : (n : ℕ) (found xs : List A) (k : List Token) → each_formed formed xs ≡ true → length xs ≤ n → starts (head k) ≡ false → may (head k) ≡ true
      → Meets (List A) (at_most_from starts item n found (each_onto onto xs k)) (found ++ xs) k
  meets_at_most zero found [] k w few ends e = subst (λ (z : List A). Meets (List A) (Ok (found, k)) z k) (sym (append-nil found)) (meets_return found k)
  meets_at_most zero found (x ∷ xs) k w few ends e = absurd (omega arith)
  meets_at_most (suc n) found [] k w few ends e = meets_no _ (pure found) ends (subst (λ (z : List A). Meets (List A) (Ok (found, k)) z k) (sym (append-nil found)) (meets_return found k))
  meets_at_most (suc n) found (x ∷ xs) k w few ends e = meets_yes _ (pure found) (h.begins x (each_onto onto xs k)) (meets_then _ (h.reads x (first_part (formed x) (each_formed formed xs) w) (each_onto onto xs k) (may_all xs k e))
      (subst (λ (z : List A). Meets (List A) (at_most_from starts item n (found ++ x ∷ []) (each_onto onto xs k)) z k) (append_assoc found (x ∷ []) xs)
      (meets_at_most n (found ++ x ∷ []) xs k (second_part (formed x) (each_formed formed xs) w) (omega arith) ends e)))
