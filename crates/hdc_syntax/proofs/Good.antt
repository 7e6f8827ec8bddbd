-- What is known of a parser: what it reads is a word of its language, and where it stops the tokens so far begin one.
use Rattle.std.proofs.Common.{◌≡◌, ◌≢◌, ℕ, zero, suc, ◌+◌, ◌<◌, ◌≤◌, ◌⊎◌, Bool, true, false, cond, nat_le, List, [], ◌∷◌, ◌++◌, length, Option, Some, None, Result, Ok, Err, refl, sym, ◌∙◌, ap, subst, inl, inr, arith, rules, append_assoc, append-nil, length-append, ⊎_elim}
use Rattle.std.proofs.lemmas.Bool.Decides.{nat_tests}
use Rattle.hdc_base.specs.declared.token.Token.{Token}
use Rattle.hdc_syntax.specs.declared.stop.Stop.{Stop}
use Rattle.hdc_syntax.specs.declared.stop.Stop.TheVariants.{Want, Deep, Syntax}
use Rattle.hdc_syntax.specs.Parser.{Outcome, Parser, and_then, ◌>>=◌, ◌>>◌, pure, refuse, too_deep, head, peek, token, token_by, or_else, further, either, many_from, at_most_from}
use Rattle.hdc_syntax.specs.Regular.{all_regular}
use Rattle.hdc_tree.specs.NameSpelling.{Puts, each_onto}
use Rattle.hdc_tree.specs.Form.{each_formed}
use Rattle.hdc_syntax.proofs.Tests.{both, regular_both}

-- ts is a word of x and then rest
pub record Reads (A : Type 0) (R : A → List Token → Type 0) (ts : List Token) (x : A) (rest : List Token) : Type 0 where
  pub word : List Token
  pub splits : ts ≡ word ++ rest
  pub is : R x word

-- all of ts but n tokens begin a word
pub record Begins (A : Type 0) (R : A → List Token → Type 0) (ts : List Token) (n : ℕ) : Type 0 where
  pub front : List Token
  pub rest : List Token
  pub splits : ts ≡ front ++ rest
  pub left : n ≡ length rest
  pub value : A
  pub more : List Token
  pub is : R value (front ++ more)
  pub regular : all_regular more ≡ true

pub record Some_of (A : Type 0) (R : A → List Token → Type 0) : Type 0 where
  pub value : A
  pub word : List Token
  pub is : R value word
  pub regular : all_regular word ≡ true

pub record Good (A : Type 0) (p : Parser A) (R : A → List Token → Type 0) : Type 0 where
  pub found : (ts : List Token) (x : A) (rest : List Token) → p ts ≡ Ok (x, rest) → Reads A R ts x rest
  pub stopped : (ts : List Token) (n : ℕ) → p ts ≡ Err (Syntax n) → Begins A R ts n
  pub some : Some_of A R

-- ---- cases of an outcome

abbrev read_to : (A : Type 0) → A × List Token → Outcome A
read_to A p = Ok p

pub ok_same : (A : Type 0) (p q : A × List Token) → read_to A p ≡ read_to A q → (p.0 ≡ q.0) × (p.1 ≡ q.1)
ok_same A p q e = let h : p ≡ q = cc in (ap (λ z. z.0) h, ap (λ z. z.1) h)

pub bind_ok : {A B : Type 0} (o : Outcome A) (f : A → Parser B) (y : B) (rest : List Token) → and_then o f ≡ Ok (y, rest)
    → (x : A) × (mid : List Token) × (o ≡ Ok (x, mid)) × (f x mid ≡ Ok (y, rest))
bind_ok (Ok p) f y rest e = (p.0, p.1, refl, e)
bind_ok (Err s) f y rest e = absurd (cc)

pub bind_err : {A B : Type 0} (o : Outcome A) (f : A → Parser B) (s : Stop) → and_then o f ≡ Err s
    → (o ≡ Err s) ⊎ ((x : A) × (mid : List Token) × (o ≡ Ok (x, mid)) × (f x mid ≡ Err s))
bind_err (Ok p) f s e = inr (p.0, p.1, refl, e)
bind_err (Err z) f s e = inl (cc)

-- ---- one step after another. What f x reads completes the word that p read.

abbrev pub After : (A B : Type 0) → (A → List Token → Type 0) → (B → List Token → Type 0) → A → B → List Token → Type 0
After A B R T x y v = (w : List Token) → R x w → T y (w ++ v)

module _ (A B : Type 0) (p : Parser A) (f : A → Parser B) (R : A → List Token → Type 0) (T : B → List Token → Type 0)
    (g : Good A p R) (h : (x : A) → Good B (f x) (After A B R T x)) where
  bind_found : (ts : List Token) (y : B) (rest : List Token) → (p >>= f) ts ≡ Ok (y, rest) → Reads B T ts y rest
  bind_found ts y rest e =
      let b = bind_ok (p ts) f y rest e in
      let r = g.found ts b.0 b.1 b.2 in
      let q = (h b.0).found b.1 y rest b.3 in
      record { word = r.word ++ q.word; splits = r.splits ∙ ap (λ z. r.word ++ z) q.splits ∙ sym (append_assoc r.word q.word rest); is = q.is r.word r.is }

  bind_stopped : (ts : List Token) (n : ℕ) → (p >>= f) ts ≡ Err (Syntax n) → Begins B T ts n
  bind_stopped ts n e = elim (bind_err (p ts) f (Syntax n) e) [
    | inl stops ↦
        let s = g.stopped ts n stops in
        let z = (h s.value).some in
        record {
          front = s.front;
          rest = s.rest;
          splits = s.splits;
          left = s.left;
          value = z.value;
          more = s.more ++ z.word;
          is = subst (λ (w : List Token). T z.value w) (append_assoc s.front s.more z.word) (z.is (s.front ++ s.more) s.is);
          regular = regular_both s.more z.word s.regular z.regular;
        }
    | inr b ↦
        let r = g.found ts b.0 b.1 b.2 in
        let s = (h b.0).stopped b.1 n b.3 in
        record {
          front = r.word ++ s.front;
          rest = s.rest;
          splits = r.splits ∙ ap (λ z. r.word ++ z) s.splits ∙ sym (append_assoc r.word s.front s.rest);
          left = s.left;
          value = s.value;
          more = s.more;
          is = subst (λ (w : List Token). T s.value w) (sym (append_assoc r.word s.front s.more)) (s.is r.word r.is);
          regular = s.regular;
        }
  ]

  pub good_bind : Good B (p >>= f) T
  good_bind = record {
    found = bind_found;
    stopped = bind_stopped;
    some = record { value = (h g.some.value).some.value; word = g.some.word ++ (h g.some.value).some.word; is = (h g.some.value).some.is g.some.word g.some.is; regular = regular_both g.some.word (h g.some.value).some.word g.some.regular (h g.some.value).some.regular };
  }

pub good_pure : (A : Type 0) (x : A) (R : A → List Token → Type 0) → R x [] → Good A (pure x) R
good_pure A x R r = record {
  found = λ ts y rest e. let h = ok_same A (x, ts) (y, rest) e in record { word = []; splits = h.1; is = subst (λ (z : A). R z []) h.0 r };
  stopped = λ ts n e. absurd (cc);
  some = record { value = x; word = []; is = r; regular = refl };
}

pub good_refuse : (A : Type 0) (R : A → List Token → Type 0) → Some_of A R → Good A refuse R
good_refuse A R s = record {
  found = λ ts y rest e. absurd (cc);
  stopped = λ ts n e. let el : length ts ≡ n = cc in record { front = []; rest = ts; splits = refl; left = sym el; value = s.value; more = s.word; is = s.is; regular = s.regular };
  some = s;
}

pub good_deep : (A : Type 0) (R : A → List Token → Type 0) → Some_of A R → Good A too_deep R
good_deep A R s = record {
  found = λ ts y rest e. absurd (cc);
  stopped = λ ts n e. absurd (cc);
  some = s;
}

pub good_peek : (A : Type 0) (by : Option Token → Parser A) (R : A → List Token → Type 0) → ((c : Option Token) → Good A (by c) R) → Good A (peek >>= by) R
good_peek A by R h = record {
  found = λ ts y rest e. (h (head ts)).found ts y rest e;
  stopped = λ ts n e. (h (head ts)).stopped ts n e;
  some = (h None).some;
}

-- a token
abbrev pub Token_of : (A : Type 0) → (Token → Option A) → A → List Token → Type 0
Token_of A f x w = (c : Token) × (w ≡ c ∷ []) × (f c ≡ Some x)

token_found : (A : Type 0) (f : Token → Option A) (o : Option A) (c : Token) (cs : List Token) (x : A) (rest : List Token) → f c ≡ o → token_by o c cs ≡ Ok (x, rest) → Reads A (Token_of A f) (c ∷ cs) x rest
token_found A f (Some a) c cs x rest is e =
    let h = ok_same A (a, cs) (x, rest) e in
    record { word = c ∷ []; splits = ap (λ z. c ∷ z) h.1; is = (c, refl, is ∙ ap Some h.0) }
token_found A f None c cs x rest is e = absurd (cc)

token_stopped : (A : Type 0) (o : Option A) (c : Token) (cs : List Token) (n : ℕ) → token_by o c cs ≡ Err (Syntax n) → n ≡ suc (length cs)
token_stopped A (Some a) c cs n e = absurd (cc)
token_stopped A None c cs n e = cc

token_finds : (A : Type 0) (f : Token → Option A) (ts : List Token) (x : A) (rest : List Token) → token f ts ≡ Ok (x, rest) → Reads A (Token_of A f) ts x rest
token_finds A f [] x rest e = absurd (cc)
token_finds A f (c ∷ cs) x rest e = token_found A f (f c) c cs x rest refl e

token_stops : (A : Type 0) (f : Token → Option A) (c : Token) (x : A) → f c ≡ Some x → all_regular (c ∷ []) ≡ true → (ts : List Token) (n : ℕ) → token f ts ≡ Err (Syntax n) → Begins A (Token_of A f) ts n
token_stops A f c x e i [] n h = let z : n ≡ 0 = cc in record { front = []; rest = []; splits = refl; left = z; value = x; more = c ∷ []; is = (c, refl, e); regular = i }
token_stops A f c x e i (d ∷ ds) n h = record { front = []; rest = d ∷ ds; splits = refl; left = token_stopped A (f d) d ds n h; value = x; more = c ∷ []; is = (c, refl, e); regular = i }

pub good_token : (A : Type 0) (f : Token → Option A) (c : Token) (x : A) → f c ≡ Some x → all_regular (c ∷ []) ≡ true → Good A (token f) (Token_of A f)
good_token A f c x e i = record { found = token_finds A f; stopped = token_stops A f c x e i; some = record { value = x; word = c ∷ []; is = (c, refl, e); regular = i } }

-- ---- a choice of two

pub either_ok : {A : Type 0} (a b : Outcome A) (x : A) (rest : List Token) → or_else a b ≡ Ok (x, rest) → (a ≡ Ok (x, rest)) ⊎ ((m : ℕ) × (a ≡ Err (Syntax m)) × (b ≡ Ok (x, rest)))
either_ok (Ok z) b x rest e = inl e
either_ok (Err (Syntax m)) (Ok y) x rest e = inr (m, refl, e)
either_ok (Err (Syntax m)) (Err (Syntax n)) x rest e = absurd (cc)
either_ok (Err (Syntax m)) (Err Deep) x rest e = absurd (cc)
either_ok (Err (Syntax m)) (Err Want) x rest e = absurd (cc)
either_ok (Err Deep) b x rest e = absurd (cc)
either_ok (Err Want) b x rest e = absurd (cc)

abbrev pub refused : (A : Type 0) → ℕ → Outcome A
refused A n = Err (Syntax n)

further_of : (A : Type 0) (k m n : ℕ) (b : Bool) → nat_le k m ≡ b → refused A (cond b k m) ≡ refused A n
    → ((refused A k ≡ refused A n) × ((j : ℕ) × (refused A m ≡ refused A j) × (n ≤ j))) ⊎ ((refused A m ≡ refused A n) × ((j : ℕ) × (refused A k ≡ refused A j) × (n ≤ j)))
further_of A k m n true t e = let h : k ≡ n = cc in inl (e, (m, refl, grind (arith, nat_tests)))
further_of A k m n false t e = let h : m ≡ n = cc in inr (e, (k, refl, grind (arith, nat_tests)))

-- both refuse, and the one that stands further on has n tokens left
pub either_err : (A : Type 0) (a b : Outcome A) (n : ℕ) → or_else a b ≡ Err (Syntax n)
    → ((a ≡ Err (Syntax n)) × ((m : ℕ) × (b ≡ Err (Syntax m)) × (n ≤ m))) ⊎ ((b ≡ Err (Syntax n)) × ((m : ℕ) × (a ≡ Err (Syntax m)) × (n ≤ m)))
either_err A (Ok z) b n e = absurd (cc)
either_err A (Err (Syntax m)) (Ok y) n e = absurd (cc)
either_err A (Err (Syntax k)) (Err (Syntax m)) n e = further_of A k m n (nat_le k m) refl e
either_err A (Err (Syntax m)) (Err Deep) n e = absurd (cc)
either_err A (Err (Syntax m)) (Err Want) n e = absurd (cc)
either_err A (Err Deep) b n e = absurd (cc)
either_err A (Err Want) b n e = absurd (cc)

pub good_either : (A : Type 0) (p q : Parser A) (R : A → List Token → Type 0) → Good A p R → Good A q R → Good A (either p q) R
good_either A p q R g h = record {
  found = λ ts x rest e. elim (either_ok (p ts) (q ts) x rest e) [ inl a ↦ g.found ts x rest a | inr b ↦ h.found ts x rest b.2 ];
  stopped = λ ts n e. elim (either_err A (p ts) (q ts) n e) [ inl a ↦ g.stopped ts n a.0 | inr b ↦ h.stopped ts n b.0 ];
  some = g.some;
}

-- ---- the same words

pub good_as : (A : Type 0) (p : Parser A) (R T : A → List Token → Type 0) → Good A p R → ((x : A) (w : List Token) → R x w → T x w) → Good A p T
good_as A p R T g f = record {
  found = λ ts x rest e. let r = g.found ts x rest e in record { word = r.word; splits = r.splits; is = f x r.word r.is };
  stopped = λ ts n e. let s = g.stopped ts n e in record { front = s.front; rest = s.rest; splits = s.splits; left = s.left; value = s.value; more = s.more; is = f s.value (s.front ++ s.more) s.is; regular = s.regular };
  some = record { value = g.some.value; word = g.some.word; is = f g.some.value g.some.word g.some.is; regular = g.some.regular };
}

-- ---- many

-- what the parser of a value reads: its spelling, of a formed value
pub record Spells (A : Type 0) (onto : A → Puts) (formed : A → Bool) (x : A) (w : List Token) : Type 0 where
  pub spelled : (k : List Token) → onto x k ≡ w ++ k
  pub sound : formed x ≡ true

-- found with the values of more behind it, each of which is formed, and no more than so many
pub record Grown (A : Type 0) (onto : A → Puts) (formed : A → Bool) (most : ℕ) (found all : List A) (w : List Token) : Type 0 where
  pub more : List A
  pub grows : all ≡ found ++ more
  pub spelled : (k : List Token) → each_onto onto more k ≡ w ++ k
  pub each : each_formed formed more ≡ true
  pub short : length more ≤ most

grown_none : (A : Type 0) (onto : A → Puts) (formed : A → Bool) (most : ℕ) (found : List A) → Grown A onto formed most found found []
grown_none A onto formed most found = record { more = []; grows = sym (append-nil found); spelled = λ k. refl; each = refl; short = omega arith }

grown_one : (A : Type 0) (onto : A → Puts) (formed : A → Bool) (most : ℕ) (found : List A) (x : A) (all : List A) (w v : List Token) → Spells A onto formed x w
    → Grown A onto formed most (found ++ x ∷ []) all v → Grown A onto formed (suc most) found all (w ++ v)
grown_one A onto formed most found x all w v a g = record {
  more = x ∷ g.more;
  grows = g.grows ∙ append_assoc found (x ∷ []) g.more;
  spelled = λ k. a.spelled (each_onto onto g.more k) ∙ ap (λ z. w ++ z) (g.spelled k) ∙ sym (append_assoc w v k);
  each = both (formed x) (each_formed formed g.more) a.sound g.each;
  short = omega (arith, g.short);
}

pub good_many_from : (A : Type 0) (onto : A → Puts) (formed : A → Bool) (starts : Option Token → Bool) (p : Parser A) → Good A p (Spells A onto formed) → (n : ℕ) (found : List A)
    → Good (List A) (many_from starts p n found) (Grown A onto formed n found)
good_many_from A onto formed starts p g zero found = good_deep (List A) (Grown A onto formed zero found) (record { value = found; word = []; is = grown_none A onto formed zero found; regular = refl })
good_many_from A onto formed starts p g (suc n) found =
    good_peek (List A) (λ c. cond (starts c) (p >>= (λ x. many_from starts p n (found ++ x ∷ []))) (pure found)) (Grown A onto formed (suc n) found)
    (λ c. elim (starts c) as (λ b. Good (List A) (cond b (p >>= (λ x. many_from starts p n (found ++ x ∷ []))) (pure found)) (Grown A onto formed (suc n) found)) [
      | true ↦ good_bind A (List A) p (λ x. many_from starts p n (found ++ x ∷ [])) (Spells A onto formed) (Grown A onto formed (suc n) found) g
          (λ x. good_as (List A) (many_from starts p n (found ++ x ∷ [])) (Grown A onto formed n (found ++ x ∷ [])) (After A (List A) (Spells A onto formed) (Grown A onto formed (suc n) found) x)
          (good_many_from A onto formed starts p g n (found ++ x ∷ [])) (λ all v h w a. grown_one A onto formed n found x all w v a h))
      | false ↦ good_pure (List A) found (Grown A onto formed (suc n) found) (grown_none A onto formed (suc n) found)
    ])

pub good_at_most_from : (A : Type 0) (onto : A → Puts) (formed : A → Bool) (starts : Option Token → Bool) (p : Parser A) → Good A p (Spells A onto formed) → (n : ℕ) (found : List A)
    → Good (List A) (at_most_from starts p n found) (Grown A onto formed n found)
good_at_most_from A onto formed starts p g zero found = good_pure (List A) found (Grown A onto formed zero found) (grown_none A onto formed zero found)
good_at_most_from A onto formed starts p g (suc n) found =
    good_peek (List A) (λ c. cond (starts c) (p >>= (λ x. at_most_from starts p n (found ++ x ∷ []))) (pure found)) (Grown A onto formed (suc n) found)
    (λ c. elim (starts c) as (λ b. Good (List A) (cond b (p >>= (λ x. at_most_from starts p n (found ++ x ∷ []))) (pure found)) (Grown A onto formed (suc n) found)) [
      | true ↦ good_bind A (List A) p (λ x. at_most_from starts p n (found ++ x ∷ [])) (Spells A onto formed) (Grown A onto formed (suc n) found) g
          (λ x. good_as (List A) (at_most_from starts p n (found ++ x ∷ [])) (Grown A onto formed n (found ++ x ∷ [])) (After A (List A) (Spells A onto formed) (Grown A onto formed (suc n) found) x)
          (good_at_most_from A onto formed starts p g n (found ++ x ∷ [])) (λ all v h w a. grown_one A onto formed n found x all w v a h))
      | false ↦ good_pure (List A) found (Grown A onto formed (suc n) found) (grown_none A onto formed (suc n) found)
    ])
