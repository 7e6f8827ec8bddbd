-- Names in lists, and what they stand for where they are bound.
use Rattle.std.proofs.Common.{◌≡◌, ℕ, suc, ◌+◌, ◌<◌, ◌⊎◌, inl, inr, Bool, true, false, ◌||◌, List, [], ◌∷◌, ◌++◌, Some, if◌then◌else◌, refl, sym, ap, ◌∙◌, arith}
use Rattle.std.specs.Str.{bytes_eq}
use Rattle.std.proofs.lemmas.Slice.Eq.{bytes_eq-Decides}
use Rattle.hdc_tree.specs.declared.name.Name.{Name}
use Rattle.hdc_written.specs.Scopes.{Binding, standing_for, bound_to, names_text}
use Rattle.hdc_written.specs.Written.{Declarations, no_declaration, declaration, bound, all_bound}
use Rattle.hdc_needs.specs.Binders.{mentions, bound_from}
use Rattle.hdc_needs.specs.Uses.{Mentions}
use Rattle.hdc_needs.specs.Walk.{Mention, count_declarations}
use Rattle.hdc_needs.proofs.Graphs.{mentions_front, mentions_back, mentions_either}

-- one of the names has the text
abbrev pub HasText : List Name → List ℕ → Type 0
HasText [] t = ⊥
HasText (x ∷ xs) t = (x.text ≡ t) ⊎ HasText xs t

pub text_is : (t u : List ℕ) → bytes_eq t u ≡ true → t ≡ u
text_is t u = (bytes_eq-Decides t u).0

pub text_same : (t u : List ℕ) → t ≡ u → bytes_eq t u ≡ true
text_same t u = (bytes_eq-Decides t u).1

pub text_decided : (t u : List ℕ) → (t ≡ u) ⊎ (t ≡ u → ⊥)
text_decided t u = by (bytes_eq t u) refl
  where
    by : (b : Bool) → bytes_eq t u ≡ b → (t ≡ u) ⊎ (t ≡ u → ⊥)
    by true e = inl (text_is t u e)
    by false e = inr (λ is. (let p : true ≡ false = sym (text_same t u is) ∙ e in absurd cc))

pub named_has : (xs : List Name) (t : List ℕ) → names_text xs t ≡ true → HasText xs t
named_has [] t h = absurd cc
named_has (x ∷ xs) t h = by (bytes_eq t x.text) refl h (named_has xs t)
  where
    by : (b : Bool) → bytes_eq t x.text ≡ b → (b || names_text xs t) ≡ true → (names_text xs t ≡ true → HasText xs t) → (x.text ≡ t) ⊎ HasText xs t
    by true e h rest = inl (sym (text_is t x.text e))
    by false e h rest = inr (rest h)

pub has_named : (xs : List Name) (t : List ℕ) → HasText xs t → names_text xs t ≡ true
has_named [] t h = absurd h
has_named (x ∷ xs) t (inl e) = ap (λ b. b || names_text xs t) (text_same t x.text (sym e))
has_named (x ∷ xs) t (inr h) = by (bytes_eq t x.text) (has_named xs t h)
  where
    by : (b : Bool) → names_text xs t ≡ true → (b || names_text xs t) ≡ true
    by true e = refl
    by false e = e

pub has_front : (xs ys : List Name) (t : List ℕ) → HasText xs t → HasText (xs ++ ys) t
has_front [] ys t h = absurd h
has_front (x ∷ xs) ys t (inl h) = inl h
has_front (x ∷ xs) ys t (inr h) = inr (has_front xs ys t h)

pub has_back : (xs ys : List Name) (t : List ℕ) → HasText ys t → HasText (xs ++ ys) t
has_back [] ys t h = h
has_back (x ∷ xs) ys t h = inr (has_back xs ys t h)

pub has_either : (xs ys : List Name) (t : List ℕ) → HasText (xs ++ ys) t → HasText xs t ⊎ HasText ys t
has_either [] ys t h = inr h
has_either (x ∷ xs) ys t (inl h) = inl (inl h)
has_either (x ∷ xs) ys t (inr h) = elim (has_either xs ys t h) [ inl k ↦ inl (inr k) | inr k ↦ inr k ]

-- ---- what a declaration mentions

pub mentions_has : (k : ℕ) (xs : List Name) (a : ℕ) (t : List ℕ) → Mentions (mentions k xs) a t → (k ≡ a) × HasText xs t
mentions_has k [] a t h = absurd h
mentions_has k (x ∷ xs) a t (inl h) = (h.0, inl h.1)
mentions_has k (x ∷ xs) a t (inr h) = let r = mentions_has k xs a t h in (r.0, inr r.1)

pub has_mentions : (k : ℕ) (xs : List Name) (t : List ℕ) → HasText xs t → Mentions (mentions k xs) k t
has_mentions k [] t h = absurd h
has_mentions k (x ∷ xs) t (inl h) = inl (refl, h)
has_mentions k (x ∷ xs) t (inr h) = inr (has_mentions k xs t h)

-- what is bound is bound by a declaration
pub has_binder : (k : ℕ) (ds : Declarations) (t : List ℕ) → HasText (all_bound ds) t → (a : ℕ) × Mentions (bound_from k ds) a t
has_binder k no_declaration t h = absurd h
has_binder k (declaration d ds) t h = elim (has_either (bound d) (all_bound ds) t h) [
  | inl own ↦ (k, mentions_front (mentions k (bound d)) (bound_from (suc k) ds) k t (has_mentions k (bound d) t own))
  | inr rest ↦ (let r = has_binder (suc k) ds t rest in (r.0, mentions_back (mentions k (bound d)) (bound_from (suc k) ds) r.0 t r.1))
]

pub binder_has : (k : ℕ) (ds : Declarations) (a : ℕ) (t : List ℕ) → Mentions (bound_from k ds) a t → HasText (all_bound ds) t
binder_has k no_declaration a t h = absurd h
binder_has k (declaration d ds) a t h = elim (mentions_either (mentions k (bound d)) (bound_from (suc k) ds) a t h) [
  | inl own ↦ has_front (bound d) (all_bound ds) t (mentions_has k (bound d) a t own).1
  | inr rest ↦ has_back (bound d) (all_bound ds) t (binder_has (suc k) ds a t rest)
]

-- each number is below this one
abbrev pub AllUnder : ℕ → List Mention → Type 0
AllUnder n [] = Unit {0}
AllUnder n (m ∷ ms) = (m.number < n) × AllUnder n ms

under_joined : (n : ℕ) (ms ns : List Mention) → AllUnder n ms → AllUnder n ns → AllUnder n (ms ++ ns)
under_joined n [] ns h g = g
under_joined n (m ∷ ms) ns h g = (h.0, under_joined n ms ns h.1 g)

under_one : (n k : ℕ) (xs : List Name) → k < n → AllUnder n (mentions k xs)
under_one n k [] h = tt
under_one n k (x ∷ xs) h = (h, under_one n k xs h)

pub all_under : (n k : ℕ) (ds : Declarations) → k + count_declarations ds ≡ n → AllUnder n (bound_from k ds)
all_under n k no_declaration e = tt
all_under n k (declaration d ds) e =
    under_joined n (mentions k (bound d)) (bound_from (suc k) ds) (under_one n k (bound d) (omega arith)) (all_under n (suc k) ds (omega arith))

-- ---- what names stand for

module _ {T : Type 0} where
  -- names that are bound to one thing
  pub stands_bound : (what : T) (xs : List Name) (base : List (Binding T)) (t : List ℕ) → standing_for t (bound_to what xs base) ≡ (if names_text xs t then Some what else standing_for t base)
  stands_bound what [] base t = refl
  stands_bound what (x ∷ xs) base t = stands_bound what xs (record { name = x.text; what = what } ∷ base) t ∙ by (names_text xs t) (bytes_eq t x.text)
    where
      by : (b c : Bool) → (if b then Some what else (if c then Some what else standing_for t base)) ≡ (if c || b then Some what else standing_for t base)
      by true true = refl
      by true false = refl
      by false true = refl
      by false false = refl
