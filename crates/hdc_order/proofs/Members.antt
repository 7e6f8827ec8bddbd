-- What is in a list of numbers.
use Rattle.std.proofs.Common.{◌≡◌, ℕ, zero, suc, ◌+◌, ◌<◌, ◌≤◌, inl, inr, ◌⊎◌, Bool, true, false, cond, List, [], ◌∷◌, ◌++◌, refl, sym, ap, ◌∙◌, subst, arith, nat_eq, filter, find, Some, None, append-nil}
use Rattle.std.proofs.lemmas.List.Elements.{filter-append}
use Rattle.std.specs.Prelude.{not}
use Rattle.std.specs.List.{list_all, range_with_len}
use Rattle.std.specs.Set.{is_member}
use Rattle.std.specs.Cmp.{unsigned_Decides}
use Rattle.std.proofs.lemmas.Bool.{cases_Bool, and_parts, and_from, cases_eq, false_from_ne_true}
use Rattle.std.proofs.lemmas.Map.Made.{is_member-Decides}
use Rattle.hdc_graph.specs.Lists.{Has}
use Rattle.hdc_graph.proofs.Noting.{has_contained, contains_had}
use Rattle.hdc_graph.proofs.Scheduling.{has_left, has_push, has_last}

-- the test of membership
pub has_from_member : (xs : List ℕ) (x : ℕ) → is_member nat_eq xs x ≡ true → Has xs x
has_from_member xs x e = has_contained xs x ((is_member-Decides unsigned_Decides xs x).0 e)

pub member_from_has : (xs : List ℕ) (x : ℕ) → Has xs x → is_member nat_eq xs x ≡ true
member_from_has xs x h = (is_member-Decides unsigned_Decides xs x).1 (contains_had xs x h)

-- tests that say the same are the same
pub same_test : (b c : Bool) → (b ≡ true → c ≡ true) → (c ≡ true → b ≡ true) → b ≡ c
same_test true c f h = sym (f refl)
same_test false true f h = h refl
same_test false false f h = refl

pub not_true : (b : Bool) → not b ≡ true → b ≡ false
not_true true e = sym e
not_true false e = refl

pub not_both : (b : Bool) → b ≡ true → b ≡ false → ⊥
not_both b t f = let e : true ≡ false = sym t ∙ f in cc

-- all in a list pass a test
pub passes_all : (p : ℕ → Bool) (xs : List ℕ) → list_all p xs ≡ true → (x : ℕ) → Has xs x → p x ≡ true
passes_all p [] e x h = absurd h
passes_all p (y ∷ xs) e x (inl is) = subst (λ (z : ℕ). p z ≡ true) is (and_parts (p y) (list_all p xs) e).0
passes_all p (y ∷ xs) e x (inr h) = passes_all p xs (and_parts (p y) (list_all p xs) e).1 x h

pub all_pass : (p : ℕ → Bool) (xs : List ℕ) → ((x : ℕ) → Has xs x → p x ≡ true) → list_all p xs ≡ true
all_pass p [] h = refl
all_pass p (y ∷ xs) h = and_from (p y) (list_all p xs) (h y (inl refl)) (all_pass p xs (λ x m. h x (inr m)))

-- what a filter keeps
pub kept_has : (p : ℕ → Bool) (xs : List ℕ) (x : ℕ) → Has (filter p xs) x → Has xs x × (p x ≡ true)
kept_has p [] x h = absurd h
kept_has p (y ∷ xs) x h = elim (cases_Bool (p y)) [
  | inl t ↦ elim (subst (λ (b : Bool). Has (cond b (y ∷ filter p xs) (filter p xs)) x) t h) [
    | inl is ↦ (inl is, subst (λ (z : ℕ). p z ≡ true) is t)
    | inr m ↦ (let r = kept_has p xs x m in (inr r.0, r.1))
  ]
  | inr f ↦ (let r = kept_has p xs x (subst (λ (b : Bool). Has (cond b (y ∷ filter p xs) (filter p xs)) x) f h) in (inr r.0, r.1))
]

pub has_kept : (p : ℕ → Bool) (xs : List ℕ) (x : ℕ) → Has xs x → p x ≡ true → Has (filter p xs) x
has_kept p [] x h t = absurd h
has_kept p (y ∷ xs) x (inl is) t = subst (λ (b : Bool). Has (cond b (y ∷ filter p xs) (filter p xs)) x) (sym (ap p is ∙ t)) (inl is)
has_kept p (y ∷ xs) x (inr m) t = elim (cases_Bool (p y)) [
  | inl u ↦ subst (λ (b : Bool). Has (cond b (y ∷ filter p xs) (filter p xs)) x) (sym u) (inr (has_kept p xs x m t))
  | inr f ↦ subst (λ (b : Bool). Has (cond b (y ∷ filter p xs) (filter p xs)) x) (sym f) (has_kept p xs x m t)
]

-- what is in a range
pub has_range : (s n x : ℕ) → s ≤ x → x < s + n → Has (range_with_len s n) x
has_range s zero x low high = absurd (omega (arith, low, high))
has_range s (suc n) x low high = elim (cases_eq s x) [
  | inl is ↦ inl is
  | inr apart ↦ inr (has_range (s + 1) n x (omega (arith, low, apart)) (omega (arith, high)))
]

pub range_has : (s n x : ℕ) → Has (range_with_len s n) x → (s ≤ x) × (x < s + n)
range_has s zero x h = absurd h
range_has s (suc n) x (inl is) = (omega (arith, is), omega (arith, is))
range_has s (suc n) x (inr h) = let r = range_has (s + 1) n x h in let l = r.0 in let m = r.1 in (omega (arith, l), omega (arith, m))

range_more : (s n : ℕ) → range_with_len s (n + 1) ≡ range_with_len s n ++ (s + n) ∷ []
range_more s zero = ap (λ (x : ℕ). x ∷ []) (let e : s ≡ s + 0 = omega arith in e)
range_more s (suc n) =
    let r = range_more (s + 1) n in
    let e : s + 1 + n ≡ s + suc n = omega arith in
    let size : suc n + 1 ≡ suc (n + 1) = omega arith in
    ap (range_with_len s) size ∙ ap (λ (xs : List ℕ). s ∷ xs) r ∙ ap (λ (x : ℕ). s ∷ (range_with_len (s + 1) n ++ x ∷ [])) e

-- a filter of one number more
pub kept_push : (p : ℕ → Bool) (n : ℕ) → p n ≡ true → filter p (range_with_len 0 (n + 1)) ≡ filter p (range_with_len 0 n) ++ n ∷ []
kept_push p n t =
    let last : 0 + n ≡ n = omega arith in
    ap (filter p) (range_more 0 n ∙ ap (λ (x : ℕ). range_with_len 0 n ++ x ∷ []) last) ∙ filter-append p (range_with_len 0 n) (n ∷ []) ∙ ap (λ (b : Bool). filter p (range_with_len 0 n) ++ cond b (n ∷ []) []) t

pub kept_same : (p : ℕ → Bool) (n : ℕ) → p n ≡ false → filter p (range_with_len 0 (n + 1)) ≡ filter p (range_with_len 0 n)
kept_same p n f =
    let last : 0 + n ≡ n = omega arith in
    ap (filter p) (range_more 0 n ∙ ap (λ (x : ℕ). range_with_len 0 n ++ x ∷ []) last) ∙ filter-append p (range_with_len 0 n) (n ∷ []) ∙ ap (λ (b : Bool). filter p (range_with_len 0 n) ++ cond b (n ∷ []) []) f ∙ append-nil (filter p (range_with_len 0 n))

-- the first number of a range that passes a test
pub finds : (p : ℕ → Bool) (s n k : ℕ) → s ≤ k → k < s + n → p k ≡ true → ((j : ℕ) → s ≤ j → j < k → p j ≡ false) → find p (range_with_len s n) ≡ Some k
finds p s zero k low high t h = absurd (omega (arith, low, high))
finds p s (suc n) k low high t h = elim (cases_eq s k) [
  | inl is ↦ ap (λ (b : Bool). cond b (Some s) (find p (range_with_len (s + 1) n))) (ap p is ∙ t) ∙ ap Some is
  | inr apart ↦ ap (λ (b : Bool). cond b (Some s) (find p (range_with_len (s + 1) n))) (h s (omega arith) (omega (arith, low, apart))) ∙ finds p (s + 1) n k (omega (arith, low, apart)) (omega (arith, high)) t (λ j l m. h j (omega (arith, l)) m)
]

pub finds_none : (p : ℕ → Bool) (s n : ℕ) → ((j : ℕ) → s ≤ j → j < s + n → p j ≡ false) → find p (range_with_len s n) ≡ None
finds_none p s zero h = refl
finds_none p s (suc n) h = ap (λ (b : Bool). cond b (Some s) (find p (range_with_len (s + 1) n))) (h s (omega arith) (omega arith)) ∙ finds_none p (s + 1) n (λ j l m. h j (omega (arith, l)) (omega (arith, m)))

-- a number that was found, or none
pub record IsFound (p : ℕ → Bool) (s n k : ℕ) : Type 0 where
  pub low : s ≤ k
  pub high : k < s + n
  pub passes : p k ≡ true
  pub before : (j : ℕ) → s ≤ j → j < k → p j ≡ false

pub search_range : (p : ℕ → Bool) (s n : ℕ) → ((k : ℕ) × IsFound p s n k) ⊎ ((j : ℕ) → s ≤ j → j < s + n → p j ≡ false)
search_range p s zero = inr (λ j l m. absurd (omega (arith, l, m)))
search_range p s (suc n) = elim (cases_Bool (p s)) [
  | inl t ↦ inl (s, record { low = omega arith; high = omega arith; passes = t; before = λ j l m. absurd (omega (arith, l, m)) })
  | inr f ↦ elim (search_range p (s + 1) n) [
    | inl (k, r) ↦ inl (
      k,
      record {
        low = (let l = r.low in omega (arith, l));
        high = (let l = r.high in omega (arith, l));
        passes = r.passes;
        before = λ j l m. elim (cases_eq s j) [ inl is ↦ subst (λ (z : ℕ). p z ≡ false) is f | inr apart ↦ r.before j (omega (arith, l, apart)) m ];
      },
    )
    | inr none ↦ inr (λ j l m. elim (cases_eq s j) [ inl is ↦ subst (λ (z : ℕ). p z ≡ false) is f | inr apart ↦ none j (omega (arith, l, apart)) (omega (arith, m)) ])
  ]
]

abbrev one_unless : Bool → ℕ
one_unless true = 0
one_unless false = 1

-- how many numbers below this one are not in a list
abbrev pub left_below : ℕ → List ℕ → ℕ
left_below zero taken = 0
left_below (suc n) taken = one_unless (is_member nat_eq taken n) + left_below n taken

pub left_none : (n : ℕ) → left_below n [] ≡ n
left_none zero = refl
left_none (suc n) = let r = left_none n in omega (arith, r)

pub member_other : (xs : List ℕ) (x k : ℕ) → (x ≡ k → ⊥) → is_member nat_eq (xs ++ x ∷ []) k ≡ is_member nat_eq xs k
member_other xs x k apart = same_test (is_member nat_eq (xs ++ x ∷ []) k) (is_member nat_eq xs k)
    (λ t. member_from_has xs k (elim (has_push xs x k (has_from_member (xs ++ x ∷ []) k t)) [ inl m ↦ m | inr is ↦ absurd (apart is) ]))
    (λ t. member_from_has (xs ++ x ∷ []) k (has_left xs (x ∷ []) k (has_from_member xs k t)))

pub left_same : (n : ℕ) (taken : List ℕ) (x : ℕ) → n ≤ x → left_below n (taken ++ x ∷ []) ≡ left_below n taken
left_same zero taken x l = refl
left_same (suc n) taken x l =
    let r = left_same n taken x (omega (arith, l)) in
    let e : one_unless (is_member nat_eq (taken ++ x ∷ []) n) ≡ one_unless (is_member nat_eq taken n) = ap one_unless (member_other taken x n (omega (arith, l))) in
    omega (arith, r, e)

pub left_less : (n : ℕ) (taken : List ℕ) (x : ℕ) → x < n → (Has taken x → ⊥) → left_below n (taken ++ x ∷ []) + 1 ≡ left_below n taken
left_less zero taken x l new = absurd (omega (arith, l))
left_less (suc n) taken x l new = elim (cases_eq x n) [
  | inl is ↦ (let r = left_same n taken x (omega (arith, is)) in
      let e : one_unless (is_member nat_eq (taken ++ x ∷ []) n) ≡ 0 = ap one_unless (member_from_has (taken ++ x ∷ []) n (subst (Has (taken ++ x ∷ [])) is (has_last taken x))) in
      let f : one_unless (is_member nat_eq taken n) ≡ 1 = ap one_unless (false_from_ne_true (is_member nat_eq taken n) (λ t. new (subst (Has taken) (sym is) (has_from_member taken n t)))) in
      omega (arith, r, e, f))
  | inr apart ↦ (let r = left_less n taken x (omega (arith, l, apart)) new in
      let e : one_unless (is_member nat_eq (taken ++ x ∷ []) n) ≡ one_unless (is_member nat_eq taken n) = ap one_unless (member_other taken x n apart) in
      omega (arith, r, e))
]
