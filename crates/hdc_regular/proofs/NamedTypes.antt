-- What the names of types stand for, and what synonyms need by it.
use Rattle.std.proofs.Common.{◌==◌, ◌≡◌, ◌⊎◌, inl, inr, ℕ, suc, ◌+◌, ◌<◌, Bool, true, false, if◌then◌else◌, List, [], ◌∷◌, ◌++◌, Option, Some, None, length, get_or, Contains, refl, sym, ap, subst, ◌∙◌, arith}
use Rattle.std.specs.Str.{bytes_eq}
use Rattle.std.proofs.lemmas.List.Elements.{Contains-append_left, Contains-append_right}
use Rattle.hdc_base.specs.declared.place.At.{At}
use Rattle.hdc_tree.specs.declared.program.Top.{Top}
use Rattle.hdc_tree.specs.declared.program.Top.TheVariants as top
use Rattle.hdc_written.specs.Scopes.{Binding, standing_for}
use Rattle.hdc_written.specs.WrittenTypes.{WrittenType, type_constructor, type_variable, unit_type, type_in_parentheses, tuple_type, list_type, arrow_type, Types, no_type, next_type}
use Rattle.hdc_rules.specs.Types.{count_types}
use Rattle.hdc_synonyms.specs.Synonyms.{number_of, type_needs, each_type_needs, declared_types}
use Rattle.hdc_regular.specs.declared.standing.Standing.{Standing}
use Rattle.hdc_regular.specs.declared.standing.Standing.TheVariants as standing
use Rattle.hdc_regular.specs.Resolved.{Resolved, use_of, other, Parts, no_part, next_part, Has, EachHas}
use Rattle.hdc_regular.specs.Standings.{synonym_standing, top_standings, each_standing}
use Rattle.hdc_regular.specs.Resolving.{variable, arrows, used_where, applied, resolved, each_resolved}
use Rattle.hdc_regular.proofs.Groups.{UsesOf, in_first}

-- what a name stands for has this number
abbrev pub IsNumber : Standing → ℕ → Type 0
IsNumber (standing.DataType n) b = n ≡ b
IsNumber (standing.Synonym n k) b = n ≡ b
IsNumber standing.NotExpanded b = ⊥

-- ---- the first of two scopes counts

pub of_two : {T : Type 0} (x : List ℕ) (as' bs : List (Binding T)) (w : T) → standing_for x (as' ++ bs) ≡ Some w → (standing_for x as' ≡ Some w) ⊎ (standing_for x bs ≡ Some w)
of_two x [] bs w e = inr e
of_two x (a ∷ as') bs w e = by (bytes_eq x a.name) e (of_two x as' bs w)
  where
    by : (b : Bool) → (if b then Some a.what else standing_for x (as' ++ bs)) ≡ Some w → (standing_for x (as' ++ bs) ≡ Some w → (standing_for x as' ≡ Some w) ⊎ (standing_for x bs ≡ Some w))
        → ((if b then Some a.what else standing_for x as') ≡ Some w) ⊎ (standing_for x bs ≡ Some w)
    by true e more = inl e
    by false e more = more e

-- ---- the types of a text

-- a name stands for the declaration with the j-th place behind the n-th one
pub record StandsAt (sounds : List Bool) (n m : ℕ) (ts : List Top) (x : List ℕ) (w : Standing) : Type 0 where
  pub place : ℕ
  pub within : place < length ts
  pub names : List ℕ
  pub declares : top_standings (get_or sounds (n + place) false) (n + place) (get_or ts place top.Empty) ≡ record { name = names; what = w } ∷ []
  pub declared : standing_for x (declared_types m ts) ≡ Some (m + place)

-- one place further
later : (sounds : List Bool) (n m : ℕ) (t : Top) (ts : List Top) (x : List ℕ) (w : Standing) → standing_for x (declared_types m (t ∷ ts)) ≡ standing_for x (declared_types (suc m) ts) → StandsAt sounds (suc n) (suc m) ts x w → StandsAt sounds n m (t ∷ ts) x w
later sounds n m t ts x w same h =
    let e : suc n + h.place ≡ n + suc h.place = omega arith in
    let f : suc m + h.place ≡ m + suc h.place = omega arith in
    record {
      place = suc h.place;
      within = let lt = h.within in omega (arith, lt);
      names = h.names;
      declares = subst (λ z. top_standings (get_or sounds z false) z (get_or ts h.place top.Empty) ≡ record { name = h.names; what = w } ∷ []) e h.declares;
      declared = same ∙ h.declared ∙ ap (λ z. Some z) f;
    }

here_or_later : (sounds : List Bool) (n m : ℕ) (t : Top) (ts : List Top) (x name : List ℕ) (v w : Standing) → top_standings (get_or sounds n false) n t ≡ record { name = name; what = v } ∷ []
    → declared_types m (t ∷ ts) ≡ record { name = name; what = m } ∷ declared_types (suc m) ts
    → (standing_for x (each_standing sounds (suc n) ts) ≡ Some w → StandsAt sounds (suc n) (suc m) ts x w)
    → standing_for x (top_standings (get_or sounds n false) n t ++ each_standing sounds (suc n) ts) ≡ Some w → StandsAt sounds n m (t ∷ ts) x w
here_or_later sounds n m t ts x name v w one same more e = by (bytes_eq x name) refl (subst (λ z. standing_for x (z ++ each_standing sounds (suc n) ts) ≡ Some w) one e)
  where
    by : (b : Bool) → bytes_eq x name ≡ b → (if b then Some v else standing_for x (each_standing sounds (suc n) ts)) ≡ Some w → StandsAt sounds n m (t ∷ ts) x w
    by true d f =
        let e0 : n ≡ n + 0 = omega arith in
        let e1 : m ≡ m + 0 = omega arith in
        let same_what : v ≡ w = cc in
        record {
          place = 0;
          within = omega arith;
          names = name;
          declares = subst (λ z. top_standings (get_or sounds z false) z t ≡ record { name = name; what = w } ∷ []) e0 (one ∙ ap (λ z. record { name = name; what = z } ∷ []) same_what);
          declared = ap (standing_for x) same ∙ ap (λ z. if z then Some m else standing_for x (declared_types (suc m) ts)) d ∙ ap (λ z. Some z) e1;
        }
    by false d f = later sounds n m t ts x w (ap (standing_for x) same ∙ ap (λ z. if z then Some m else standing_for x (declared_types (suc m) ts)) d) (more f)

pub stands_at : (sounds : List Bool) (n m : ℕ) (ts : List Top) (x : List ℕ) (w : Standing) → standing_for x (each_standing sounds n ts) ≡ Some w → StandsAt sounds n m ts x w
stands_at sounds n m [] x w e = cc
stands_at sounds n m (top.Data d ∷ ts) x w e = here_or_later sounds n m (top.Data d) ts x d.name.text (standing.DataType n) w refl refl (stands_at sounds (suc n) (suc m) ts x w) e
stands_at sounds n m (top.Synonym s ∷ ts) x w e = here_or_later sounds n m (top.Synonym s) ts x s.name.text (synonym_standing (get_or sounds n false) n (length s.params)) w refl refl (stands_at sounds (suc n) (suc m) ts x w) e
stands_at sounds n m (top.Empty ∷ ts) x w e = later sounds n m top.Empty ts x w refl (stands_at sounds (suc n) (suc m) ts x w e)
stands_at sounds n m (top.Fixity f ∷ ts) x w e = later sounds n m (top.Fixity f) ts x w refl (stands_at sounds (suc n) (suc m) ts x w e)
stands_at sounds n m (top.Signature y ys a t ∷ ts) x w e = later sounds n m (top.Signature y ys a t) ts x w refl (stands_at sounds (suc n) (suc m) ts x w e)
stands_at sounds n m (top.Equation h r ∷ ts) x w e = later sounds n m (top.Equation h r) ts x w refl (stands_at sounds (suc n) (suc m) ts x w e)

-- ---- what a resolved type names is needed by the written one

module _ (names : List (Binding Standing)) (params : List (Binding ℕ)) (declared : List (Binding ℕ)) (b j : ℕ)
    (link : (x : List ℕ) (w : Standing) → standing_for x names ≡ Some w → IsNumber w b → standing_for x declared ≡ Some j) where
  other_needs : (ts : Parts) (xs : List ℕ) → (UsesOf (EachHas ts) b → Contains xs j) → UsesOf (Has (other ts)) b → Contains xs j
  other_needs ts xs each (a, us, inl e) = cc
  other_needs ts xs each (a, us, inr h) = each (a, us, h)

  use_needs : (x : List ℕ) (n : ℕ) (w : Standing) (at : At) (ts : Parts) (xs : List ℕ) → standing_for x names ≡ Some w → ((n ≡ b) → IsNumber w b)
      → (UsesOf (EachHas ts) b → Contains xs j) → UsesOf (Has (use_of n at ts)) b → Contains (number_of (standing_for x declared) ++ xs) j
  use_needs x n w at ts xs e is each (a, us, inl f) =
      let same : n ≡ b = cc in
      Contains-append_left (number_of (standing_for x declared)) xs j (subst (λ z. Contains (number_of z) j) (sym (link x w e (is same))) (in_first j []))
  use_needs x n w at ts xs e is each (a, us, inr h) = Contains-append_right (number_of (standing_for x declared)) xs j (each (a, us, h))

  behind_needs : (x : List ℕ) (ts : Parts) (xs : List ℕ) → (UsesOf (EachHas ts) b → Contains xs j) → UsesOf (Has (other ts)) b → Contains (number_of (standing_for x declared) ++ xs) j
  behind_needs x ts xs each u = Contains-append_right (number_of (standing_for x declared)) xs j (other_needs ts xs each u)

  applied_needs : (x : List ℕ) (o : Option Standing) (count : ℕ) (at : At) (ts : Parts) (xs : List ℕ) → standing_for x names ≡ o → (UsesOf (EachHas ts) b → Contains xs j)
      → UsesOf (Has (applied o count at ts)) b → Contains (number_of (standing_for x declared) ++ xs) j
  applied_needs x None count at ts xs e each u = behind_needs x ts xs each u
  applied_needs x (Some (standing.DataType n)) count at ts xs e each u = use_needs x n (standing.DataType n) at ts xs e (λ s. s) each u
  applied_needs x (Some (standing.Synonym n k)) count at ts xs e each u = by (k == count) u
    where
      by : (c : Bool) → UsesOf (Has (used_where c n at ts)) b → Contains (number_of (standing_for x declared) ++ xs) j
      by true v = use_needs x n (standing.Synonym n k) at ts xs e (λ s. s) each v
      by false v = behind_needs x ts xs each v
  applied_needs x (Some standing.NotExpanded) count at ts xs e each u = behind_needs x ts xs each u

  no_variable_needs : (o : Option ℕ) → UsesOf (Has (variable o)) b → ⊥
  no_variable_needs None (a, us, inl e) = cc
  no_variable_needs None (a, us, inr h) = h
  no_variable_needs (Some i) (a, us, e) = cc

  no_part_needs : UsesOf (Has (other no_part)) b → ⊥
  no_part_needs (a, us, inl e) = cc
  no_part_needs (a, us, inr h) = h

  next_needs : (t : Resolved) (ts : Parts) (xs ys : List ℕ) → (UsesOf (Has t) b → Contains xs j) → (UsesOf (EachHas ts) b → Contains ys j) → UsesOf (EachHas (next_part t ts)) b → Contains (xs ++ ys) j
  next_needs t ts xs ys here more (a, us, inl h) = Contains-append_left xs ys j (here (a, us, h))
  next_needs t ts xs ys here more (a, us, inr h) = Contains-append_right xs ys j (more (a, us, h))

  arrows_need : (t : Resolved) (ts : Parts) (xs ys : List ℕ) → (UsesOf (Has t) b → Contains xs j) → (UsesOf (EachHas ts) b → Contains ys j) → UsesOf (Has (arrows t ts)) b → Contains (xs ++ ys) j
  arrows_need t no_part xs ys here more u = Contains-append_left xs ys j (here u)
  arrows_need t (next_part v vs) xs ys here more u = other_needs (next_part t (next_part v vs)) (xs ++ ys) (next_needs t (next_part v vs) xs ys here more) u

  alone_needs : (t : Resolved) (xs : List ℕ) → (UsesOf (Has t) b → Contains xs j) → UsesOf (Has (other (next_part t no_part))) b → Contains xs j
  alone_needs t xs here u = other_needs (next_part t no_part) xs (λ v. by v) u
    where
      by : UsesOf (EachHas (next_part t no_part)) b → Contains xs j
      by (a, us, inl h) = here (a, us, h)
      by (a, us, inr h) = absurd h

  mutual
    pub resolved_needs : (t : WrittenType) → UsesOf (Has (resolved names params t)) b → Contains (type_needs declared t) j
    resolved_needs (type_constructor c ts) u = applied_needs c.text (standing_for c.text names) (count_types ts) c.at (each_resolved names params ts) (each_type_needs declared ts) refl (each_resolved_needs ts) u
    resolved_needs (type_variable x) u = absurd (no_variable_needs (standing_for x.text params) u)
    resolved_needs (unit_type a) u = absurd (no_part_needs u)
    resolved_needs (type_in_parentheses a t) u = resolved_needs t u
    resolved_needs (tuple_type a ts) u = other_needs (each_resolved names params ts) (each_type_needs declared ts) (each_resolved_needs ts) u
    resolved_needs (list_type a t) u = alone_needs (resolved names params t) (type_needs declared t) (resolved_needs t) u
    resolved_needs (arrow_type t ts) u = arrows_need (resolved names params t) (each_resolved names params ts) (type_needs declared t) (each_type_needs declared ts) (resolved_needs t) (each_resolved_needs ts) u

    pub each_resolved_needs : (ts : Types) → UsesOf (EachHas (each_resolved names params ts)) b → Contains (each_type_needs declared ts) j
    each_resolved_needs no_type u = absurd u.2
    each_resolved_needs (next_type t ts) u = next_needs (resolved names params t) (each_resolved names params ts) (type_needs declared t) (each_type_needs declared ts) (resolved_needs t) (each_resolved_needs ts) u
