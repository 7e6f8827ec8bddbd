-- A parser looks at no token past the one where it ends or stops.
use Rattle.std.proofs.Common.{◌≡◌, ◌≢◌, ℕ, zero, suc, ◌+◌, ◌<◌, ◌≤◌, ◌⊎◌, Bool, true, false, cond, nat_le, List, [], ◌∷◌, ◌++◌, length, Option, Some, None, Result, Ok, Err, refl, sym, ◌∙◌, ap, subst, inl, inr, arith, length-append, zero-add, ⊎_elim}
use Rattle.std.proofs.lemmas.Bool.Decides.{nat_tests}
use Rattle.hdc_base.specs.declared.token.Token.{Token}
use Rattle.hdc_syntax.specs.declared.stop.Stop.{Stop}
use Rattle.hdc_syntax.specs.declared.stop.Stop.TheVariants.{Want, Deep, Syntax}
use Rattle.hdc_syntax.specs.Parser.{Outcome, Parser, and_then, ◌>>=◌, ◌>>◌, pure, refuse, too_deep, head, peek, token, token_by, or_else, further, either, many_from, at_most_from}
use Rattle.hdc_syntax.proofs.Good.{bind_ok, bind_err, either_ok, either_err, ok_same, refused}

-- what p reads of q, c and s it reads whatever s is
pub record Keeps (A : Type 0) (p : Parser A) (q : List Token) (c : Token) (r s : List Token) (x : A) (u : List Token) : Type 0 where
  pub front : List Token
  pub is : u ≡ front ++ c ∷ r
  pub again : p (q ++ c ∷ s) ≡ Ok (x, front ++ c ∷ s)

pub record Halts (A : Type 0) (p : Parser A) (q : List Token) (c : Token) (r s : List Token) (n : ℕ) : Type 0 where
  pub before : ℕ
  pub is : n ≡ before + suc (length r)
  pub again : p (q ++ c ∷ s) ≡ Err (Syntax (before + suc (length s)))

pub record Local (A : Type 0) (p : Parser A) : Type 0 where
  pub shrinks : (ts : List Token) (x : A) (rest : List Token) → p ts ≡ Ok (x, rest) → length rest ≤ length ts
  pub counts : (ts : List Token) (n : ℕ) → p ts ≡ Err (Syntax n) → n ≤ length ts
  pub found : (q : List Token) (c : Token) (r s : List Token) (x : A) (u : List Token) → p (q ++ c ∷ r) ≡ Ok (x, u) → length r < length u → Keeps A p q c r s x u
  pub stopped : (q : List Token) (c : Token) (r s : List Token) (n : ℕ) → p (q ++ c ∷ r) ≡ Err (Syntax n) → length r < n → Halts A p q c r s n

module _ (A B : Type 0) (p : Parser A) (f : A → Parser B) (g : Local A p) (h : (x : A) → Local B (f x)) where
  bind_shrinks : (ts : List Token) (y : B) (rest : List Token) → (p >>= f) ts ≡ Ok (y, rest) → length rest ≤ length ts
  bind_shrinks ts y rest e =
      let b = bind_ok (p ts) f y rest e in
      omega (arith, g.shrinks ts b.0 b.1 b.2, (h b.0).shrinks b.1 y rest b.3)

  bind_counts : (ts : List Token) (n : ℕ) → (p >>= f) ts ≡ Err (Syntax n) → n ≤ length ts
  bind_counts ts n e = elim (bind_err (p ts) f (Syntax n) e) [
    | inl stops ↦ g.counts ts n stops
    | inr b ↦ omega (arith, g.shrinks ts b.0 b.1 b.2, (h b.0).counts b.1 n b.3)
  ]

  bind_found : (q : List Token) (c : Token) (r s : List Token) (y : B) (u : List Token) → (p >>= f) (q ++ c ∷ r) ≡ Ok (y, u) → length r < length u → Keeps B (p >>= f) q c r s y u
  bind_found q c r s y u e lt =
      let b = bind_ok (p (q ++ c ∷ r)) f y u e in
      let k = g.found q c r s b.0 b.1 b.2 (omega (arith, (h b.0).shrinks b.1 y u b.3)) in
      let m = (h b.0).found k.front c r s y u (ap (f b.0) (sym k.is) ∙ b.3) lt in
      record { front = m.front; is = m.is; again = ap (λ o. and_then o f) k.again ∙ m.again }

  bind_stopped : (q : List Token) (c : Token) (r s : List Token) (n : ℕ) → (p >>= f) (q ++ c ∷ r) ≡ Err (Syntax n) → length r < n → Halts B (p >>= f) q c r s n
  bind_stopped q c r s n e lt = elim (bind_err (p (q ++ c ∷ r)) f (Syntax n) e) [
    | inl stops ↦
        let k = g.stopped q c r s n stops lt in
        record { before = k.before; is = k.is; again = ap (λ o. and_then o f) k.again }
    | inr b ↦
        let k = g.found q c r s b.0 b.1 b.2 (omega (arith, (h b.0).counts b.1 n b.3)) in
        let m = (h b.0).stopped k.front c r s n (ap (f b.0) (sym k.is) ∙ b.3) lt in
        record { before = m.before; is = m.is; again = ap (λ o. and_then o f) k.again ∙ m.again }
  ]

  pub local_bind : Local B (p >>= f)
  local_bind = record { shrinks = bind_shrinks; counts = bind_counts; found = bind_found; stopped = bind_stopped }

pub local_pure : (A : Type 0) (x : A) → Local A (pure x)
local_pure A x = record {
  shrinks = λ ts y rest e. let h = ok_same A (x, ts) (y, rest) e in omega (arith, ap length h.1);
  counts = λ ts n e. absurd (cc);
  found = λ q c r s y u e lt. let h = ok_same A (x, q ++ c ∷ r) (y, u) e in record { front = q; is = sym h.1; again = ap (λ z. Ok (z, q ++ c ∷ s)) h.0 };
  stopped = λ q c r s n e lt. absurd (cc);
}

pub local_refuse : (A : Type 0) → Local A refuse
local_refuse A = record {
  shrinks = λ ts y rest e. absurd (cc);
  counts = λ ts n e. let h : length ts ≡ n = cc in omega arith;
  found = λ q c r s y u e lt. absurd (cc);
  stopped = λ q c r s n e lt. let h : length (q ++ c ∷ r) ≡ n = cc in
      record { before = length q; is = sym h ∙ length-append q (c ∷ r); again = ap (λ z. Err (Syntax z)) (length-append q (c ∷ s)) };
}

pub local_deep : (A : Type 0) → Local A too_deep
local_deep A = record {
  shrinks = λ ts y rest e. absurd (cc);
  counts = λ ts n e. absurd (cc);
  found = λ q c r s y u e lt. absurd (cc);
  stopped = λ q c r s n e lt. absurd (cc);
}

head_same : (q : List Token) (c : Token) (r s : List Token) → head (q ++ c ∷ r) ≡ head (q ++ c ∷ s)
head_same [] c r s = refl
head_same (d ∷ q) c r s = refl

pub local_peek : (A : Type 0) (by : Option Token → Parser A) → ((c : Option Token) → Local A (by c)) → Local A (peek >>= by)
local_peek A by h = record {
  shrinks = λ ts y rest e. (h (head ts)).shrinks ts y rest e;
  counts = λ ts n e. (h (head ts)).counts ts n e;
  found = λ q c r s y u e lt.
      let k = (h (head (q ++ c ∷ r))).found q c r s y u e lt in
      record { front = k.front; is = k.is; again = ap (λ o. by o (q ++ c ∷ s)) (sym (head_same q c r s)) ∙ k.again };
  stopped = λ q c r s n e lt.
      let k = (h (head (q ++ c ∷ r))).stopped q c r s n e lt in
      record { before = k.before; is = k.is; again = ap (λ o. by o (q ++ c ∷ s)) (sym (head_same q c r s)) ∙ k.again };
}

-- ---- a token

by_rest : (A : Type 0) (o : Option A) (c : Token) (cs : List Token) (x : A) (rest : List Token) → token_by o c cs ≡ Ok (x, rest) → (o ≡ Some x) × (cs ≡ rest)
by_rest A (Some a) c cs x rest e = let h = ok_same A (a, cs) (x, rest) e in (ap Some h.0, h.1)
by_rest A None c cs x rest e = absurd (cc)

by_none : (A : Type 0) (o : Option A) (c : Token) (cs : List Token) (n : ℕ) → token_by o c cs ≡ Err (Syntax n) → (o ≡ None) × (n ≡ suc (length cs))
by_none A (Some a) c cs n e = absurd (cc)
by_none A None c cs n e = (refl, cc)

module _ (A : Type 0) (f : Token → Option A) where
  token_shrinks : (ts : List Token) (y : A) (rest : List Token) → token f ts ≡ Ok (y, rest) → length rest ≤ length ts
  token_shrinks [] y rest e = absurd (cc)
  token_shrinks (c ∷ cs) y rest e = let h = by_rest A (f c) c cs y rest e in omega (arith, ap length h.1)

  token_counts : (ts : List Token) (n : ℕ) → token f ts ≡ Err (Syntax n) → n ≤ length ts
  token_counts [] n e = let h : n ≡ 0 = cc in omega arith
  token_counts (c ∷ cs) n e = let h = by_none A (f c) c cs n e in omega arith

  token_found : (q : List Token) (c : Token) (r s : List Token) (x : A) (u : List Token) → token f (q ++ c ∷ r) ≡ Ok (x, u) → length r < length u → Keeps A (token f) q c r s x u
  token_found [] c r s x u e lt = let h = by_rest A (f c) c r x u e in absurd (omega (arith, ap length h.1))
  token_found (d ∷ q) c r s x u e lt = let h = by_rest A (f d) d (q ++ c ∷ r) x u e in
      record { front = q; is = sym h.1; again = ap (λ o. token_by o d (q ++ c ∷ s)) h.0 }

  token_stopped : (q : List Token) (c : Token) (r s : List Token) (n : ℕ) → token f (q ++ c ∷ r) ≡ Err (Syntax n) → length r < n → Halts A (token f) q c r s n
  token_stopped [] c r s n e lt = let h = by_none A (f c) c r n e in record { before = 0; is = omega (arith, h.1); again = ap (λ o. token_by o c s) h.0 ∙ ap (λ z. Err (Syntax z)) (sym (zero-add (suc (length s)))) }
  token_stopped (d ∷ q) c r s n e lt = let h = by_none A (f d) d (q ++ c ∷ r) n e in
      record { before = suc (length q); is = omega (arith, h.1, length-append q (c ∷ r)); again = ap (λ o. token_by o d (q ++ c ∷ s)) h.0 ∙ ap (λ z. Err (Syntax z)) (omega (arith, length-append q (c ∷ s))) }

  pub token_stop : (ts : List Token) (n : ℕ) → token f ts ≡ Err (Syntax n) → n ≡ length ts
  token_stop [] n e = let h : n ≡ 0 = cc in omega arith
  token_stop (c ∷ cs) n e = let h = by_none A (f c) c cs n e in omega arith

  pub local_token : Local A (token f)
  local_token = record { shrinks = token_shrinks; counts = token_counts; found = token_found; stopped = token_stopped }

-- ---- a choice. Where p refuses and q reads on, p stops at or before the token where q ends.

pub record Within (A : Type 0) (p q : Parser A) : Type 0 where
  pub before : (ts : List Token) (m : ℕ) (x : A) (rest : List Token) → p ts ≡ Err (Syntax m) → q ts ≡ Ok (x, rest) → length rest ≤ m

further_at : (A : Type 0) (a b k : ℕ) → further {A = A} (Syntax a) (Syntax b) ≡ Err (Syntax (cond (nat_le a b) a b))
further_at A a b k = refl

least_first : (m n : ℕ) → m ≤ n → cond (nat_le m n) m n ≡ m
least_first m n le = grind (arith, nat_tests)

least_last : (m n : ℕ) → n ≤ m → cond (nat_le m n) m n ≡ n
least_last m n le = grind (arith, nat_tests)

module _ (A : Type 0) (p q : Parser A) (g : Local A p) (h : Local A q) (w : Within A p q) where
  choice_found : (a : List Token) (c : Token) (r s : List Token) (x : A) (u : List Token) → either p q (a ++ c ∷ r) ≡ Ok (x, u) → length r < length u → Keeps A (either p q) a c r s x u
  choice_found a c r s x u e lt = elim (either_ok (p (a ++ c ∷ r)) (q (a ++ c ∷ r)) x u e) [
    | inl ok ↦ let k = g.found a c r s x u ok lt in record { front = k.front; is = k.is; again = ap (λ o. or_else o (q (a ++ c ∷ s))) k.again }
    | inr b ↦
        let k = g.stopped a c r s b.0 b.1 (omega (arith, w.before (a ++ c ∷ r) b.0 x u b.1 b.2)) in
        let m = h.found a c r s x u b.2 lt in
        record { front = m.front; is = m.is; again = ap (λ o. or_else o (q (a ++ c ∷ s))) k.again ∙ ap (λ o. or_else (refused A (k.before + suc (length s))) o) m.again }
  ]

  choice_stopped : (a : List Token) (c : Token) (r s : List Token) (n : ℕ) → either p q (a ++ c ∷ r) ≡ Err (Syntax n) → length r < n → Halts A (either p q) a c r s n
  choice_stopped a c r s n e lt = elim (either_err A (p (a ++ c ∷ r)) (q (a ++ c ∷ r)) n e) [
    | inl b ↦
        let k = g.stopped a c r s n b.0 lt in
        let m = h.stopped a c r s b.1.0 b.1.1 (omega (arith, b.1.2)) in
        record {
          before = k.before;
          is = k.is;
          again = ap (λ o. or_else o (q (a ++ c ∷ s))) k.again ∙ ap (λ o. or_else (refused A (k.before + suc (length s))) o) m.again
              ∙ ap (λ z. refused A z) (least_first (k.before + suc (length s)) (m.before + suc (length s)) (omega (arith, b.1.2, k.is, m.is)));
        }
    | inr b ↦
        let k = g.stopped a c r s b.1.0 b.1.1 (omega (arith, b.1.2)) in
        let m = h.stopped a c r s n b.0 lt in
        record {
          before = m.before;
          is = m.is;
          again = ap (λ o. or_else o (q (a ++ c ∷ s))) k.again ∙ ap (λ o. or_else (refused A (k.before + suc (length s))) o) m.again
              ∙ ap (λ z. refused A z) (least_last (k.before + suc (length s)) (m.before + suc (length s)) (omega (arith, b.1.2, k.is, m.is)));
        }
  ]

  pub local_either : Local A (either p q)
  local_either = record {
    shrinks = λ ts x rest e. elim (either_ok (p ts) (q ts) x rest e) [ inl a ↦ g.shrinks ts x rest a | inr b ↦ h.shrinks ts x rest b.2 ];
    counts = λ ts n e. elim (either_err A (p ts) (q ts) n e) [ inl a ↦ g.counts ts n a.0 | inr b ↦ h.counts ts n b.0 ];
    found = choice_found;
    stopped = choice_stopped;
  }

pub local_many_from : (A : Type 0) (starts : Option Token → Bool) (p : Parser A) → Local A p → (n : ℕ) (found : List A) → Local (List A) (many_from starts p n found)
local_many_from A starts p g zero found = local_deep (List A)
local_many_from A starts p g (suc n) found =
    local_peek (List A) (λ c. cond (starts c) (p >>= (λ x. many_from starts p n (found ++ x ∷ []))) (pure found))
    (λ c. elim (starts c) as (λ b. Local (List A) (cond b (p >>= (λ x. many_from starts p n (found ++ x ∷ []))) (pure found))) [
      | true ↦ local_bind A (List A) p (λ x. many_from starts p n (found ++ x ∷ [])) g (λ x. local_many_from A starts p g n (found ++ x ∷ []))
      | false ↦ local_pure (List A) found
    ])

pub local_at_most_from : (A : Type 0) (starts : Option Token → Bool) (p : Parser A) → Local A p → (n : ℕ) (found : List A) → Local (List A) (at_most_from starts p n found)
local_at_most_from A starts p g zero found = local_pure (List A) found
local_at_most_from A starts p g (suc n) found =
    local_peek (List A) (λ c. cond (starts c) (p >>= (λ x. at_most_from starts p n (found ++ x ∷ []))) (pure found))
    (λ c. elim (starts c) as (λ b. Local (List A) (cond b (p >>= (λ x. at_most_from starts p n (found ++ x ∷ []))) (pure found))) [
      | true ↦ local_bind A (List A) p (λ x. at_most_from starts p n (found ++ x ∷ [])) g (λ x. local_at_most_from A starts p g n (found ++ x ∷ []))
      | false ↦ local_pure (List A) found
    ])
