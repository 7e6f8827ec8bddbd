-- The entries of a scope and the places of its names: what a name stands for, one entry more, and one less.
use Rattle.std.proofs.Common.{◌≡◌, ℕ, zero, suc, ◌-◌, ◌<◌, ◌≤◌, ◌⊎◌, inl, inr, leb, is_some, take, List, [], ◌∷◌, ◌++◌, length, map, reverse, get_or, Bool, true, false, Option, None, Some, cond, if◌then◌else◌, refl, sym, ap, subst, ◌∙◌, arith}
use Rattle.std.proofs.lemmas.Bool.{lt-leb}
use Rattle.std.proofs.lemmas.Bool.Decides.{leb_tells}
use Rattle.std.proofs.lemmas.List.{reverse-append, length-reverse, length-map, get_or_append_left}
use Rattle.std.proofs.lemmas.Slice.Eq.{bytes_eq-Decides}
use Rattle.std.proofs.Math.Seq.{get_or-append_seam}
use Rattle.std.specs.Borrow.{Bor}
use Rattle.std.specs.Cmp.Lexicographic.{nat_list_eq_equiv}
use Rattle.std.specs.Option.{option_flatten}
use Rattle.std.specs.Str.{bytes_eq}
use Rattle.indexmap.specs.IndexMap.{IndexMap, get_by, Updates}
use Rattle.hdc_written.specs.declared.scope.Entry.{Entry}
use Rattle.hdc_written.specs.Scopes.{Binding, standing_for}
use Rattle.hdc_written.specs.Links.{binding, place_back, IsLinkedBack, IsLinked, IsIndexed}

-- whether two names are the same
abbrev pub same_name : Bor (List ℕ) → Bor (List ℕ) → Bool
same_name x y = bytes_eq x.now y.now

module _ {T : Type 0} where
  -- the list from the last entry, with one entry more
  back_one_more : (es new : List (Entry T)) (e : Entry T) → new ≡ es ++ e ∷ [] → reverse new ≡ e ∷ reverse es
  back_one_more es new e grows = ap reverse grows ∙ reverse-append es (e ∷ [])

  -- a place is one of the entries'
  pub place_within : (name : List ℕ) (es : List (Entry T)) (place : ℕ) → place_back name es ≡ Some place → place < length es
  place_within name [] place found = absurd (cc)
  place_within name (e ∷ es) place found = by (bytes_eq name e.name.now) found (place_within name es place)
    where
      by : (b : Bool) → (if b then Some (length es) else place_back name es) ≡ Some place → (place_back name es ≡ Some place → place < length es) → place < length (e ∷ es)
      by true here rest = let same : length es ≡ place = cc in omega arith
      by false there rest = let within : place < length es = rest there in omega arith

  -- a name stands for what the entry at its place binds it to
  pub stands : (name : List ℕ) (es : List (Entry T)) (place : ℕ) (found : Entry T) → place_back name es ≡ Some place → found ≡ get_or (reverse es) place found → standing_for name (map binding es) ≡ Some found.what
  stands name [] place found at is = absurd (cc)
  stands name (e ∷ es) place found at is = by (bytes_eq name e.name.now) at (stands name es place found)
    where
      read : found ≡ get_or (reverse es ++ e ∷ []) place found
      read = is ∙ ap (λ xs. get_or xs place found) (reverse-append (e ∷ []) es)

      by : (b : Bool) → (if b then Some (length es) else place_back name es) ≡ Some place
          → (place_back name es ≡ Some place → found ≡ get_or (reverse es) place found → standing_for name (map binding es) ≡ Some found.what)
          → (if b then Some e.what else standing_for name (map binding es)) ≡ Some found.what
      by true here rest =
          let last : length es ≡ place = cc in
          ap (λ (x : Entry T). Some x.what)
          (sym (read ∙ ap (λ n. get_or (reverse es ++ e ∷ []) n found) (sym (length-reverse es ∙ last)) ∙ get_or-append_seam (reverse es) e [] found))
      by false there rest =
          let within : place < length (reverse es) = subst (λ n. place < n) (sym (length-reverse es)) (place_within name es place there) in
          rest there (read ∙ get_or_append_left (reverse es) (e ∷ []) found place within)

  -- a name without a place stands for nothing
  pub stands_for_none : (name : List ℕ) (es : List (Entry T)) → place_back name es ≡ None → standing_for name (map binding es) ≡ None
  stands_for_none name [] none = refl
  stands_for_none name (e ∷ es) none = by (bytes_eq name e.name.now) none (stands_for_none name es)
    where
      by : (b : Bool) → (if b then Some (length es) else place_back name es) ≡ None → (place_back name es ≡ None → standing_for name (map binding es) ≡ None) → (if b then Some e.what else standing_for name (map binding es)) ≡ None
      by true some rest = absurd (cc)
      by false none rest = rest none

  -- a name without a place stands for nothing by the last bindings
  stands_for_none_of : (name : List ℕ) (n : ℕ) (bs : List (Binding T)) → standing_for name bs ≡ None → standing_for name (take n bs) ≡ None
  stands_for_none_of name zero bs none = refl
  stands_for_none_of name (suc n) [] none = refl
  stands_for_none_of name (suc n) (b ∷ bs) none = by (bytes_eq name b.name) none (stands_for_none_of name n bs)
    where
      by : (t : Bool) → (if t then Some b.what else standing_for name bs) ≡ None → (standing_for name bs ≡ None → standing_for name (take n bs) ≡ None) → (if t then Some b.what else standing_for name (take n bs)) ≡ None
      by true some rest = absurd (cc)
      by false none rest = rest none

  pub not_bound_since : (name : List ℕ) (es : List (Entry T)) (size : ℕ) → place_back name es ≡ None → false ≡ is_some (standing_for name (take (length (map binding es) - size) (map binding es)))
  not_bound_since name es size none = sym (ap is_some (stands_for_none_of name (length (map binding es) - size) (map binding es) (stands_for_none name es none)))

  -- what the last bindings have, and what they do not have
  since_kept : (name : List ℕ) (e : Entry T) (es : List (Entry T)) (size : ℕ) → size ≤ length es → is_some (standing_for name (take (length (e ∷ es) - size) (map binding (e ∷ es)))) ≡ is_some (if bytes_eq name e.name.now then Some e.what else standing_for name (take (length es - size) (map binding es)))
  since_kept name e es size le =
      let more : length (e ∷ es) - size ≡ suc (length es - size) = omega (arith, le) in
      ap (λ n. is_some (standing_for name (take n (map binding (e ∷ es))))) more

  since_gone : (name : List ℕ) (e : Entry T) (es : List (Entry T)) (size : ℕ) → length es < size → is_some (standing_for name (take (length (e ∷ es) - size) (map binding (e ∷ es)))) ≡ false
  since_gone name e es size lt =
      let none : length (e ∷ es) - size ≡ 0 = omega (arith, lt) in
      ap (λ n. is_some (standing_for name (take n (map binding (e ∷ es))))) none

  -- a name has been bound since there were so many bindings where its place is not below
  abbrev Since : List ℕ → List (Entry T) → ℕ → ℕ → Type 0
  Since name es place size = leb size place ≡ is_some (standing_for name (take (length es - size) (map binding es)))

  since_by : (name : List ℕ) (e : Entry T) (es : List (Entry T)) (place size : ℕ) → (place_back name es ≡ Some place → Since name es place size) → (b : Bool) → bytes_eq name e.name.now ≡ b → ((leb size (length es) ≡ true) × (size ≤ length es)) ⊎ ((leb size (length es) ≡ false) × (length es < size)) → (if b then Some (length es) else place_back name es) ≡ Some place → Since name (e ∷ es) place size
  since_by name e es place size rest true same (inl le) here =
      let last : length es ≡ place = cc in
      ap (leb size) (sym last) ∙ le.0 ∙ sym (since_kept name e es size le.1 ∙ ap (λ t. is_some (if t then Some e.what else standing_for name (take (length es - size) (map binding es)))) same)
  since_by name e es place size rest true same (inr lt) here =
      let last : length es ≡ place = cc in
      ap (leb size) (sym last) ∙ lt.0 ∙ sym (since_gone name e es size lt.1)
  since_by name e es place size rest false other (inl le) there =
      rest there ∙ sym (since_kept name e es size le.1 ∙ ap (λ t. is_some (if t then Some e.what else standing_for name (take (length es - size) (map binding es)))) other)
  since_by name e es place size rest false other (inr lt) there =
      let within = place_within name es place there in
      let below = lt.1 in
      lt-leb size place (omega (arith, within, below)) ∙ sym (since_gone name e es size lt.1)

  since : (name : List ℕ) (es : List (Entry T)) (place size : ℕ) → place_back name es ≡ Some place → Since name es place size
  since name [] place size found = absurd (cc)
  since name (e ∷ es) place size found = since_by name e es place size (since name es place size) (bytes_eq name e.name.now) refl (leb_tells size (length es)) found

  pub bound_since : (name : List ℕ) (es : List (Entry T)) (place size : ℕ) → place_back name es ≡ Some place → leb size place ≡ is_some (standing_for name (take (length (map binding es) - size) (map binding es)))
  bound_since name es place size found =
      since name es place size found ∙ ap (λ n. is_some (standing_for name (take (n - size) (map binding es)))) (sym (length-map es binding))

  -- one entry more, which has the place of the one before
  pub linked_one_more : (es new : List (Entry T)) (e : Entry T) → new ≡ es ++ e ∷ [] → e.before ≡ place_back e.name.now (reverse es) → IsLinked es → IsLinked new
  linked_one_more es new e grows before linked = subst IsLinkedBack (sym (back_one_more es new e grows)) (before, linked)

  -- one entry less
  pub linked_one_less : (es new : List (Entry T)) (e : Entry T) → es ≡ new ++ e ∷ [] → IsLinked es → (e.before ≡ place_back e.name.now (reverse new)) × IsLinked new
  linked_one_less es new e shrinks linked = subst IsLinkedBack (back_one_more new es e shrinks) linked

  module _ {S : Type 0} (m n : IndexMap (Bor (List ℕ)) (Option ℕ) S) where
    -- the map after one entry more
    pub indexed_one_more : (es new : List (Entry T)) (e : Entry T) (place : ℕ) → new ≡ es ++ e ∷ [] → place ≡ length es → Updates same_name m n e.name (Some (Some place)) → IsIndexed m es → IsIndexed n new
    indexed_one_more es new e place grows last updates indexed name =
        ap option_flatten (updates.0 name)
        ∙ ap (λ b. option_flatten (cond b (Some (Some place)) (get_by (same_name name) m))) (nat_list_eq_equiv.symm e.name.now name.now)
        ∙ by (same_name name e.name)
        ∙ sym (ap (place_back name.now) (back_one_more es new e grows))
      where
        by : (b : Bool) → option_flatten (cond b (Some (Some place)) (get_by (same_name name) m)) ≡ (if b then Some (length (reverse es)) else place_back name.now (reverse es))
        by true = ap Some (last ∙ sym (length-reverse es))
        by false = indexed name

    -- the map after one entry less
    pub indexed_one_less : (es new : List (Entry T)) (e : Entry T) → es ≡ new ++ e ∷ [] → IsLinked es → Updates same_name m n e.name (Some e.before) → IsIndexed m es → IsIndexed n new
    indexed_one_less es new e shrinks linked updates indexed name =
        ap option_flatten (updates.0 name)
        ∙ by (same_name e.name name) refl
      where
        by : (b : Bool) → same_name e.name name ≡ b → option_flatten (cond b (Some e.before) (get_by (same_name name) m)) ≡ place_back name.now (reverse new)
        by true same =
            (linked_one_less es new e shrinks linked).0
            ∙ ap (λ bytes. place_back bytes (reverse new)) ((bytes_eq-Decides e.name.now name.now).0 same)
        by false other =
            indexed name
            ∙ ap (place_back name.now) (back_one_more new es e shrinks)
            ∙ ap (λ b. if b then Some (length (reverse new)) else place_back name.now (reverse new)) (nat_list_eq_equiv.symm name.now e.name.now ∙ other)

  -- the name of an entry is in the map
  pub name_is_there : {S : Type 0} (m : IndexMap (Bor (List ℕ)) (Option ℕ) S) (es new : List (Entry T)) (e : Entry T) → es ≡ new ++ e ∷ [] → IsIndexed m es → get_by (same_name e.name) m ≡ None → ⊥
  name_is_there m es new e shrinks indexed none =
      let absent : None ≡ Some (length (reverse new)) =
      sym (ap option_flatten none) ∙ indexed e.name ∙ ap (place_back e.name.now) (back_one_more new es e shrinks)
      ∙ ap (λ b. if b then Some (length (reverse new)) else place_back e.name.now (reverse new)) (nat_list_eq_equiv.refl e.name.now)
      in cc
