-- What declarations use and bind says what they need, and the values that need themselves are those that are found.
use Rattle.std.proofs.Common.{◌≡◌, ℕ, zero, suc, ◌+◌, ◌⊎◌, inl, inr, Bool, true, false, List, [], ◌∷◌, get_or, Some, if◌then◌else◌, refl, sym, ap, ◌∙◌, subst, arith}
use Rattle.hdc_tree.specs.declared.name.Name.{Name}
use Rattle.hdc_tree.specs.declared.program.Top.{Top}
use Rattle.hdc_graph.specs.Lists.{Has}
use Rattle.hdc_graph.specs.Needs.{Needs, needs_of}
use Rattle.hdc_graph.proofs.Noting.{has_contained, contains_had}
use Rattle.hdc_written.specs.declared.breach.Breach.{Breach}
use Rattle.hdc_written.specs.declared.breach.Found.{Found}
use Rattle.hdc_written.specs.Breaches.{IsFirst, IsOneOf}
use Rattle.hdc_written.specs.Written.{Declaration, Declarations, no_declaration, declaration, bound, all_bound}
use Rattle.hdc_written.proofs.FirstBreach.{first_of_same, first_of_list}
use Rattle.hdc_needs.specs.Agrees.{HasFound}
use Rattle.hdc_needs.specs.Binders.{mentions, bound_from}
use Rattle.hdc_needs.specs.Ends.{logged_all, logged_declarations, ended, all_ended}
use Rattle.hdc_written.specs.Scopes.{names_text}
use Rattle.hdc_needs.specs.Free.{free_declaration}
use Rattle.hdc_needs.specs.Needy.{meets, binders, block_needs, NeedsItself, IsIn, text_blocks, IsNeedy}
use Rattle.hdc_needs.specs.Uses.{Mentions, UsesOf, Breaks, OneBreaks}
use Rattle.hdc_needs.specs.Walk.{Mention, logged}
use Rattle.hdc_needs.proofs.Graphs.{mentions_front, mentions_back, mentions_either}
use Rattle.hdc_needs.proofs.Stands.{HasText, named_has, has_named, has_front, has_back, mentions_has, has_mentions}
use Rattle.hdc_needs.proofs.Stepping.{same_steps, steps_reach, reach_steps}

-- ---- declarations by their numbers

-- something holds of the declaration of a number, where they are numbered from another one
abbrev HoldsAt : ℕ → Declarations → ℕ → (Declaration → Type 0) → Type 0
HoldsAt k no_declaration a P = ⊥
HoldsAt k (declaration d ds) a P = ((k ≡ a) × P d) ⊎ HoldsAt (suc k) ds a P

holds_also : (k : ℕ) (ds : Declarations) (a : ℕ) (P Q : Declaration → Type 0) → ((d : Declaration) → P d → Q d) → HoldsAt k ds a P → HoldsAt k ds a Q
holds_also k no_declaration a P Q f h = absurd h
holds_also k (declaration d ds) a P Q f (inl h) = inl (h.0, f d h.1)
holds_also k (declaration d ds) a P Q f (inr h) = inr (holds_also (suc k) ds a P Q f h)

-- what is there is the same for the declaration
holds_some : {X : Type 0} (k : ℕ) (ds : Declarations) (a : ℕ) (P : X → Declaration → Type 0) → HoldsAt k ds a (λ d. (x : X) × P x d) → (x : X) × HoldsAt k ds a (P x)
holds_some k no_declaration a P h = absurd h
holds_some k (declaration d ds) a P (inl h) = (h.1.0, inl (h.0, h.1.1))
holds_some k (declaration d ds) a P (inr h) = let r = holds_some (suc k) ds a P h in (r.0, inr r.1)

-- what does not speak of the declaration
holds_anyway : (k : ℕ) (ds : Declarations) (a : ℕ) (P : Type 0) → HoldsAt k ds a (λ d. P) → P
holds_anyway k no_declaration a P h = absurd h
holds_anyway k (declaration d ds) a P (inl h) = h.1
holds_anyway k (declaration d ds) a P (inr h) = holds_anyway (suc k) ds a P h

-- ---- what is bound and used

bound_at : (k : ℕ) (ds : Declarations) (b : ℕ) (t : List ℕ) → Mentions (bound_from k ds) b t → HoldsAt k ds b (λ d. HasText (bound d) t)
bound_at k no_declaration b t h = absurd h
bound_at k (declaration d ds) b t h = elim (mentions_either (mentions k (bound d)) (bound_from (suc k) ds) b t h) [
  | inl own ↦ inl (mentions_has k (bound d) b t own)
  | inr rest ↦ inr (bound_at (suc k) ds b t rest)
]

at_bound : (k : ℕ) (ds : Declarations) (b : ℕ) (t : List ℕ) → HoldsAt k ds b (λ d. HasText (bound d) t) → Mentions (bound_from k ds) b t
at_bound k no_declaration b t h = absurd h
at_bound k (declaration d ds) b t (inl h) = mentions_front (mentions k (bound d)) (bound_from (suc k) ds) b t (subst (λ (a : ℕ). Mentions (mentions k (bound d)) a t) h.0 (has_mentions k (bound d) t h.1))
at_bound k (declaration d ds) b t (inr h) = mentions_back (mentions k (bound d)) (bound_from (suc k) ds) b t (at_bound (suc k) ds b t h)

-- what is bound at all
holds_bound : (k : ℕ) (ds : Declarations) (b : ℕ) (t : List ℕ) → HoldsAt k ds b (λ d. HasText (bound d) t) → HasText (all_bound ds) t
holds_bound k no_declaration b t h = absurd h
holds_bound k (declaration d ds) b t (inl h) = has_front (bound d) (all_bound ds) t h.1
holds_bound k (declaration d ds) b t (inr h) = has_back (bound d) (all_bound ds) t (holds_bound (suc k) ds b t h)

-- names that one declaration uses
logged_has : (i : ℕ) (xs ys : List Name) (us : List Mention) (a : ℕ) (t : List ℕ) → Mentions (logged_all (Some i) xs ys us) a t → Mentions us a t ⊎ ((i ≡ a) × HasText ys t)
logged_has i xs [] us a t h = inl h
logged_has i xs (y ∷ ys) us a t h = by (names_text xs y.text) (logged_has i xs ys (if names_text xs y.text then logged (Some i) y us else us) a t h)
  where
    by : (b : Bool) → Mentions (if b then logged (Some i) y us else us) a t ⊎ ((i ≡ a) × HasText ys t) → Mentions us a t ⊎ ((i ≡ a) × HasText (y ∷ ys) t)
    by true (inl (inl e)) = inr (e.0, inl e.1)
    by true (inl (inr h)) = inl h
    by false (inl h) = inl h
    by b (inr h) = inr (h.0, inr h.1)

logged_kept : (i : ℕ) (xs ys : List Name) (us : List Mention) (a : ℕ) (t : List ℕ) → Mentions us a t → Mentions (logged_all (Some i) xs ys us) a t
logged_kept i xs [] us a t h = h
logged_kept i xs (y ∷ ys) us a t h = logged_kept i xs ys (if names_text xs y.text then logged (Some i) y us else us) a t (by (names_text xs y.text))
  where
    by : (b : Bool) → Mentions (if b then logged (Some i) y us else us) a t
    by true = inr h
    by false = h

has_logged : (i : ℕ) (xs ys : List Name) (us : List Mention) (t : List ℕ) → HasText xs t → HasText ys t → Mentions (logged_all (Some i) xs ys us) i t
has_logged i xs [] us t g h = absurd h
has_logged i xs (y ∷ ys) us t g (inl h) =
    let named : names_text xs y.text ≡ true = ap (names_text xs) h ∙ has_named xs t g in
    subst (λ b. Mentions (logged_all (Some i) xs ys (if b then logged (Some i) y us else us)) i t) (sym named)
    (logged_kept i xs ys (logged (Some i) y us) i t (inl (refl, h)))
has_logged i xs (y ∷ ys) us t g (inr h) = has_logged i xs ys (if names_text xs y.text then logged (Some i) y us else us) t g h

-- names that declarations use
used_at : (xs : List Name) (k : ℕ) (ds : Declarations) (us : List Mention) (a : ℕ) (t : List ℕ) → Mentions (logged_declarations xs k ds us) a t → Mentions us a t ⊎ HoldsAt k ds a (λ d. HasText (free_declaration d) t)
used_at xs k no_declaration us a t h = inl h
used_at xs k (declaration d ds) us a t h = elim (used_at xs (suc k) ds (logged_all (Some k) xs (free_declaration d) us) a t h) [
  | inl own ↦ elim (logged_has k xs (free_declaration d) us a t own) [ inl old' ↦ inl old' | inr new' ↦ inr (inl new') ]
  | inr rest ↦ inr (inr rest)
]

used_kept : (xs : List Name) (k : ℕ) (ds : Declarations) (us : List Mention) (a : ℕ) (t : List ℕ) → Mentions us a t → Mentions (logged_declarations xs k ds us) a t
used_kept xs k no_declaration us a t h = h
used_kept xs k (declaration d ds) us a t h = used_kept xs (suc k) ds (logged_all (Some k) xs (free_declaration d) us) a t (logged_kept k xs (free_declaration d) us a t h)

at_used : (xs : List Name) (k : ℕ) (ds : Declarations) (us : List Mention) (a : ℕ) (t : List ℕ) → HasText xs t → HoldsAt k ds a (λ d. HasText (free_declaration d) t) → Mentions (logged_declarations xs k ds us) a t
at_used xs k no_declaration us a t g h = absurd h
at_used xs k (declaration d ds) us a t g (inl h) =
    used_kept xs (suc k) ds (logged_all (Some k) xs (free_declaration d) us) a t
    (subst (λ (b : ℕ). Mentions (logged_all (Some k) xs (free_declaration d) us) b t) h.0 (has_logged k xs (free_declaration d) us t g h.1))
at_used xs k (declaration d ds) us a t g (inr h) = at_used xs (suc k) ds (logged_all (Some k) xs (free_declaration d) us) a t g h

-- ---- what is needed

meets_has : (xs ys : List Name) → meets xs ys ≡ true → (t : List ℕ) × HasText ys t × HasText xs t
meets_has [] ys h = absurd cc
meets_has (x ∷ xs) ys h = by (names_text ys x.text) refl h (meets_has xs ys)
  where
    by : (b : Bool) → names_text ys x.text ≡ b → (if b then true else meets xs ys) ≡ true → (meets xs ys ≡ true → (t : List ℕ) × HasText ys t × HasText xs t) → (t : List ℕ) × HasText ys t × HasText (x ∷ xs) t
    by true e h rest = (x.text, named_has ys x.text e, inl refl)
    by false e h rest = let r = rest h in (r.0, r.1, inr r.2)

has_meets : (xs ys : List Name) (t : List ℕ) → HasText ys t → HasText xs t → meets xs ys ≡ true
has_meets [] ys t g h = absurd h
has_meets (x ∷ xs) ys t g (inl h) = ap (λ b. if b then true else meets xs ys) (ap (names_text ys) h ∙ has_named ys t g)
has_meets (x ∷ xs) ys t g (inr h) = by (names_text ys x.text) (has_meets xs ys t g h)
  where
    by : (b : Bool) → meets xs ys ≡ true → (if b then true else meets xs ys) ≡ true
    by true e = refl
    by false e = e

binders_at : (used : List Name) (k : ℕ) (ds : Declarations) (b : ℕ) → Has (binders used k ds) b → HoldsAt k ds b (λ d. meets (bound d) used ≡ true)
binders_at used k no_declaration b h = absurd h
binders_at used k (declaration d ds) b h = by (meets (bound d) used) refl h (binders_at used (suc k) ds b)
  where
    by : (c : Bool) → meets (bound d) used ≡ c → Has (if c then k ∷ binders used (suc k) ds else binders used (suc k) ds) b → (Has (binders used (suc k) ds) b → HoldsAt (suc k) ds b (λ e. meets (bound e) used ≡ true)) → HoldsAt k (declaration d ds) b (λ e. meets (bound e) used ≡ true)
    by true e (inl h) rest = inl (h, e)
    by true e (inr h) rest = inr (rest h)
    by false e h rest = inr (rest h)

at_binders : (used : List Name) (k : ℕ) (ds : Declarations) (b : ℕ) → HoldsAt k ds b (λ d. meets (bound d) used ≡ true) → Has (binders used k ds) b
at_binders used k no_declaration b h = absurd h
at_binders used k (declaration d ds) b (inl h) = subst (λ c. Has (if c then k ∷ binders used (suc k) ds else binders used (suc k) ds) b) (sym h.1) (inl h.0)
at_binders used k (declaration d ds) b (inr h) = by (meets (bound d) used) (at_binders used (suc k) ds b h)
  where
    by : (c : Bool) → Has (binders used (suc k) ds) b → Has (if c then k ∷ binders used (suc k) ds else binders used (suc k) ds) b
    by true h = inr h
    by false h = h

-- the needs of a declaration, wherever the numbers begin
row_at : (whole ds : Declarations) (k a b : ℕ) → Has (get_or (block_needs whole ds) a []) b → HoldsAt k ds (k + a) (λ d. Has (binders (free_declaration d) 0 whole) b)
row_at whole no_declaration k a b h = absurd h
row_at whole (declaration d ds) k zero b h = inl (omega arith, h)
row_at whole (declaration d ds) k (suc a) b h =
    let same : suc k + a ≡ k + suc a = omega arith in
    inr (subst (λ (n : ℕ). HoldsAt (suc k) ds n (λ d. Has (binders (free_declaration d) 0 whole) b)) same (row_at whole ds (suc k) a b h))

holds_from : (k : ℕ) (ds : Declarations) (a : ℕ) (P : Declaration → Type 0) → HoldsAt k ds a P → (j : ℕ) × (a ≡ k + j)
holds_from k no_declaration a P h = absurd h
holds_from k (declaration d ds) a P (inl h) = (0, (let e = h.0 in omega (arith, e)))
holds_from k (declaration d ds) a P (inr h) = let r = holds_from (suc k) ds a P h in (suc r.0, (let e = r.1 in omega (arith, e)))

at_row : (whole ds : Declarations) (k a b : ℕ) → HoldsAt k ds (k + a) (λ d. Has (binders (free_declaration d) 0 whole) b) → Has (get_or (block_needs whole ds) a []) b
at_row whole no_declaration k a b h = absurd h
at_row whole (declaration d ds) k zero b (inl h) = h.1
at_row whole (declaration d ds) k zero b (inr h) =
    let r = holds_from (suc k) ds (k + 0) (λ d. Has (binders (free_declaration d) 0 whole) b) h in
    let e = r.1 in absurd (omega (arith, e))
at_row whole (declaration d ds) k (suc a) b (inl h) = let e = h.0 in absurd (omega (arith, e))
at_row whole (declaration d ds) k (suc a) b (inr h) =
    let same : k + suc a ≡ suc k + a = omega arith in
    at_row whole ds (suc k) a b (subst (λ (n : ℕ). HoldsAt (suc k) ds n (λ d. Has (binders (free_declaration d) 0 whole) b)) same h)

-- ---- one step

pub need_of : (ds : Declarations) (a b : ℕ) → UsesOf (bound_from 0 ds) (ended ds).uses a b → Needs (block_needs ds ds) a b
need_of ds a b u =
    let t = u.text in
    let q : HoldsAt 0 ds b (λ d. HasText (bound d) t) = bound_at 0 ds b t u.bound in
    let step : HoldsAt 0 ds a (λ d. HasText (free_declaration d) t) → HoldsAt 0 ds a (λ d. Has (binders (free_declaration d) 0 ds) b) =
    holds_also 0 ds a (λ d. HasText (free_declaration d) t) (λ d. Has (binders (free_declaration d) 0 ds) b)
    (λ d h. at_binders (free_declaration d) 0 ds b (holds_also 0 ds b (λ e. HasText (bound e) t) (λ e. meets (bound e) (free_declaration d) ≡ true) (λ e g. has_meets (bound e) (free_declaration d) t h g) q)) in
    let same : a ≡ 0 + a = omega arith in
    elim (used_at (all_bound ds) 0 ds [] a t u.used) [
      | inl none ↦ absurd none
      | inr p ↦ contains_had (needs_of (block_needs ds ds) a) b (at_row ds ds 0 a b (subst (λ (n : ℕ). HoldsAt 0 ds n (λ d. Has (binders (free_declaration d) 0 ds) b)) same (step p)))
    ]

-- a name that one declaration uses and another binds
abbrev Shared : Declarations → ℕ → List ℕ → Declaration → Type 0
Shared ds b t d = HasText (free_declaration d) t × HoldsAt 0 ds b (λ e. HasText (bound e) t)

shared : (ds : Declarations) (b : ℕ) (d : Declaration) → Has (binders (free_declaration d) 0 ds) b → (t : List ℕ) × Shared ds b t d
shared ds b d h =
    let met = holds_also 0 ds b (λ e. meets (bound e) (free_declaration d) ≡ true) (λ e. (t : List ℕ) × (HasText (free_declaration d) t × HasText (bound e) t))
    (λ e m. (let r = meets_has (bound e) (free_declaration d) m in (r.0, (r.1, r.2)))) (binders_at (free_declaration d) 0 ds b h) in
    let one = holds_some 0 ds b (λ t e. HasText (free_declaration d) t × HasText (bound e) t) met in (
      one.0,
      (
        holds_anyway 0 ds b (HasText (free_declaration d) one.0) (holds_also 0 ds b (λ e. HasText (free_declaration d) one.0 × HasText (bound e) one.0) (λ e. HasText (free_declaration d) one.0) (λ e g. g.0) one.1),
        holds_also 0 ds b (λ e. HasText (free_declaration d) one.0 × HasText (bound e) one.0) (λ e. HasText (bound e) one.0) (λ e g. g.1) one.1,
      ),
    )

pub use_of : (ds : Declarations) (a b : ℕ) → Needs (block_needs ds ds) a b → UsesOf (bound_from 0 ds) (ended ds).uses a b
use_of ds a b need =
    let same : 0 + a ≡ a = omega arith in
    let row : HoldsAt 0 ds a (λ d. Has (binders (free_declaration d) 0 ds) b) = subst (λ (n : ℕ). HoldsAt 0 ds n (λ d. Has (binders (free_declaration d) 0 ds) b)) same (row_at ds ds 0 a b (has_contained (needs_of (block_needs ds ds) a) b need)) in
    let one = holds_some 0 ds a (Shared ds b) (holds_also 0 ds a (λ d. Has (binders (free_declaration d) 0 ds) b) (λ d. (t : List ℕ) × Shared ds b t d) (shared ds b) row) in
    let p : HoldsAt 0 ds a (λ d. HasText (free_declaration d) one.0) = holds_also 0 ds a (Shared ds b one.0) (λ d. HasText (free_declaration d) one.0) (λ d h. h.0) one.1 in
    let q : HoldsAt 0 ds b (λ e. HasText (bound e) one.0) = holds_anyway 0 ds a (HoldsAt 0 ds b (λ e. HasText (bound e) one.0)) (holds_also 0 ds a (Shared ds b one.0) (λ d. HoldsAt 0 ds b (λ e. HasText (bound e) one.0)) (λ d h. h.1) one.1) in
    record { text = one.0; used = at_used (all_bound ds) 0 ds [] a one.0 (holds_bound 0 ds b one.0 q) p; bound = at_bound 0 ds b one.0 q }

-- ---- values that need themselves

needs_itself : (ds : Declarations) (b : Breach) → Breaks (ended ds) b → NeedsItself ds b.at
needs_itself ds b h = record { number = h.number; is_value = h.is_value; reaches = steps_reach (same_steps (need_of ds) h.steps) }

breaks : (ds : Declarations) (b : Breach) → b.rule ≡ 11 → NeedsItself ds b.at → Breaks (ended ds) b
breaks ds b rule h = record { rule = rule; number = h.number; is_value = h.is_value; steps = same_steps (use_of ds) (reach_steps h.reaches) }

-- one of these blocks is broken
record OneNeedy (bs : List Declarations) (b : Breach) : Type 0 where
  rule : b.rule ≡ 11
  declarations : Declarations
  is_in : IsIn declarations bs
  needs : NeedsItself declarations b.at

one_needy : (bs : List Declarations) (b : Breach) → OneBreaks (all_ended bs) b → OneNeedy bs b
one_needy [] b h = absurd h
one_needy (ds ∷ bs) b (inl h) = record { rule = h.rule; declarations = ds; is_in = inl refl; needs = needs_itself ds b h }
one_needy (ds ∷ bs) b (inr h) = let r = one_needy bs b h in record { rule = r.rule; declarations = r.declarations; is_in = inr r.is_in; needs = r.needs }

needy_one : (bs : List Declarations) (b : Breach) (ds : Declarations) → b.rule ≡ 11 → IsIn ds bs → NeedsItself ds b.at → OneBreaks (all_ended bs) b
needy_one [] b ds rule h n = absurd h
needy_one (es ∷ bs) b ds rule (inl e) n = inl (breaks es b rule (subst (λ (z : Declarations). NeedsItself z b.at) e n))
needy_one (es ∷ bs) b ds rule (inr h) n = inr (needy_one bs b ds rule h n)

-- what is found is the first of them
pub found_first : (ts : List Top) (f : Found) → HasFound (all_ended (text_blocks ts)) f → IsFirst (IsNeedy ts) f.breach
found_first ts f h =
    first_of_same (λ b. IsOneOf b h.breaches) (IsNeedy ts) f.breach
    (λ b any. (let r = one_needy (text_blocks ts) b ((h.exactly b).0 any) in record { rule = r.rule; declarations = r.declarations; in_text = r.is_in; needs = r.needs }))
    (λ b n. (h.exactly b).1 (needy_one (text_blocks ts) b n.declarations n.rule n.in_text n.needs))
    (subst (λ (g : Found). IsFirst (λ b. IsOneOf b h.breaches) g.breach) (sym h.noted) (first_of_list h.breaches))
