-- What declarations name as they are built are declarations.
use Rattle.std.proofs.Common.{◌≡◌, ◌==◌, ℕ, zero, suc, ◌+◌, ◌<◌, ◌≤◌, Bool, true, false, if◌then◌else◌, List, [], ◌∷◌, ◌++◌, Option, Some, None, length, get_or, Contains, sym, subst, ◌∙◌, arith}
use Rattle.std.proofs.lemmas.List.{length-map}
use Rattle.std.specs.Str.{bytes_eq}
use Rattle.hdc_base.specs.declared.place.At.{At}
use Rattle.hdc_tree.specs.declared.program.Top.{Top}
use Rattle.hdc_tree.specs.declared.program.Top.TheVariants as top
use Rattle.hdc_graph.specs.Needs.{IsClosed}
use Rattle.hdc_written.specs.Scopes.{Binding, standing_for}
use Rattle.hdc_written.specs.TypeMirror.{type_exp_of}
use Rattle.hdc_written.specs.WrittenTypes.{WrittenType, type_constructor, type_variable, unit_type, type_in_parentheses, tuple_type, list_type, arrow_type, Types, no_type, next_type}
use Rattle.hdc_rules.specs.Types.{count_types}
use Rattle.hdc_regular.specs.declared.outline.Outline.{Outline}
use Rattle.hdc_regular.specs.declared.standing.Standing.{Standing}
use Rattle.hdc_regular.specs.declared.standing.Standing.TheVariants as standing
use Rattle.hdc_regular.specs.Resolved.{Resolved, Parts, no_part, next_part, part_at, Declaration, declaration_at}
use Rattle.hdc_regular.specs.Expansion.{types_in, each_types_in}
use Rattle.hdc_regular.specs.Named.{body_of, named_needs}
use Rattle.hdc_regular.specs.Standings.{synonym_standing, top_standings, each_standing}
use Rattle.hdc_regular.specs.Irregular.{names_before, names_of}
use Rattle.hdc_regular.specs.Resolving.{params_from, data_fields, sound_synonym, variable, arrows}
use Rattle.hdc_regular.specs.Building.{outline_at, is_held, held_part, held_from, built_synonym, built_where, built_use, built, each_built}
use Rattle.hdc_regular.specs.Built.{built_declaration, each_built_declaration, built_by}
use Rattle.hdc_regular.proofs.Groups.{needs_named}
use Rattle.hdc_regular.proofs.Steps.{size_texts}

-- it holds of each item
abbrev Each : {A : Type 0} → (A → Type 0) → List A → Type 0
Each P [] = Unit {0}
Each P (x ∷ xs) = P x × Each P xs

module _ (limit : ℕ) where
  abbrev pub AreBelow : List ℕ → Type 0
  AreBelow ns = Each (λ n. n < limit) ns

  both_below : (xs ys : List ℕ) → AreBelow xs → AreBelow ys → AreBelow (xs ++ ys)
  both_below [] ys h k = k
  both_below (x ∷ xs) ys h k = (h.0, both_below xs ys h.1 k)

  left_below : (xs ys : List ℕ) → AreBelow (xs ++ ys) → AreBelow xs
  left_below [] ys h = tt
  left_below (x ∷ xs) ys h = (h.0, left_below xs ys h.1)

  right_below : (xs ys : List ℕ) → AreBelow (xs ++ ys) → AreBelow ys
  right_below [] ys h = h
  right_below (x ∷ xs) ys h = right_below xs ys h.1

  -- ---- names

  abbrev IsWithin : Standing → Type 0
  IsWithin (standing.DataType n) = n < limit
  IsWithin (standing.Synonym n k) = n < limit
  IsWithin standing.NotExpanded = Unit {0}

  abbrev IsSomeWithin : Option Standing → Type 0
  IsSomeWithin None = Unit {0}
  IsSomeWithin (Some w) = IsWithin w

  abbrev AreWithin : List (Binding Standing) → Type 0
  AreWithin [] = Unit {0}
  AreWithin (b ∷ bs) = IsWithin b.what × AreWithin bs

  both_within : (xs ys : List (Binding Standing)) → AreWithin xs → AreWithin ys → AreWithin (xs ++ ys)
  both_within [] ys h k = k
  both_within (x ∷ xs) ys h k = (h.0, both_within xs ys h.1 k)

  found_within : (x : List ℕ) (names : List (Binding Standing)) → AreWithin names → IsSomeWithin (standing_for x names)
  found_within x [] h = tt
  found_within x (b ∷ bs) h = by (bytes_eq x b.name) (found_within x bs h.1)
    where
      by : (c : Bool) → IsSomeWithin (standing_for x bs) → IsSomeWithin (if c then Some b.what else standing_for x bs)
      by true later = h.0
      by false later = later

  synonym_within : (sound : Bool) (n k : ℕ) → n < limit → IsWithin (synonym_standing sound n k)
  synonym_within true n k lt = lt
  synonym_within false n k lt = tt

  top_within : (sound : Bool) (n : ℕ) (t : Top) → n < limit → AreWithin (top_standings sound n t)
  top_within sound n (top.Data d) lt = (lt, tt)
  top_within sound n (top.Synonym s) lt = (synonym_within sound n (length s.params) lt, tt)
  top_within sound n top.Empty lt = tt
  top_within sound n (top.Fixity f) lt = tt
  top_within sound n (top.Signature x xs a t) lt = tt
  top_within sound n (top.Equation h r) lt = tt

  each_within : (sounds : List Bool) (n : ℕ) (ts : List Top) → n + length ts ≤ limit → AreWithin (each_standing sounds n ts)
  each_within sounds n [] le = tt
  each_within sounds n (t ∷ ts) le =
      both_within (top_standings (get_or sounds n false) n t) (each_standing sounds (suc n) ts) (top_within (get_or sounds n false) n t (omega (arith, le))) (each_within sounds (suc n) ts (omega (arith, le)))

  -- ---- types

  part_below : (j : ℕ) (ts : Parts) → AreBelow (each_types_in ts) → AreBelow (types_in (part_at j ts))
  part_below j no_part h = tt
  part_below zero (next_part t ts) h = left_below (types_in t) (each_types_in ts) h
  part_below (suc j) (next_part t ts) h = part_below j ts (right_below (types_in t) (each_types_in ts) h)

  held_below : (holds : List Bool) (j : ℕ) (ts : Parts) → AreBelow (each_types_in ts) → AreBelow (each_types_in (held_from holds j ts))
  held_below holds j no_part h = tt
  held_below holds j (next_part t ts) h =
      both_below (types_in (held_part (is_held holds j) t)) (each_types_in (held_from holds (suc j) ts)) (by (is_held holds j)) (held_below holds (suc j) ts (right_below (types_in t) (each_types_in ts) h))
    where
      by : (b : Bool) → AreBelow (types_in (held_part b t))
      by true = left_below (types_in t) (each_types_in ts) h
      by false = tt

  synonym_below : (a : Option ℕ) (holds : List Bool) (n : ℕ) (at : At) (ts : Parts) → n < limit → AreBelow (each_types_in ts) → AreBelow (types_in (built_synonym a holds n at ts))
  synonym_below (Some j) holds n at ts lt h = part_below j ts h
  synonym_below None holds n at ts lt h = (lt, held_below holds 0 ts h)

  use_below : (outlines : List Outline) (o : Option Standing) (count : ℕ) (at : At) (ts : Parts) → IsSomeWithin o → AreBelow (each_types_in ts) → AreBelow (types_in (built_use outlines o count at ts))
  use_below outlines None count at ts w h = h
  use_below outlines (Some (standing.DataType n)) count at ts w h = (w, h)
  use_below outlines (Some (standing.Synonym n k)) count at ts w h = by (k == count)
    where
      by : (b : Bool) → AreBelow (types_in (built_where b (outline_at outlines n) n at ts))
      by true = synonym_below (outline_at outlines n).alias (outline_at outlines n).holds n at ts w h
      by false = h
  use_below outlines (Some standing.NotExpanded) count at ts w h = h

  variable_below : (o : Option ℕ) → AreBelow (types_in (variable o))
  variable_below None = tt
  variable_below (Some i) = tt

  arrows_below : (t : Resolved) (ts : Parts) → AreBelow (types_in t) → AreBelow (each_types_in ts) → AreBelow (types_in (arrows t ts))
  arrows_below t no_part h k = h
  arrows_below t (next_part u us) h k = both_below (types_in t) (each_types_in (next_part u us)) h k

  module _ (outlines : List Outline) (names : List (Binding Standing)) (within : AreWithin names) where
    mutual
      built_below : (params : List (Binding ℕ)) (t : WrittenType) → AreBelow (types_in (built outlines names params t))
      built_below params (type_constructor c ts) = use_below outlines (standing_for c.text names) (count_types ts) c.at (each_built outlines names params ts) (found_within c.text names within) (each_below params ts)
      built_below params (type_variable x) = variable_below (standing_for x.text params)
      built_below params (unit_type a) = tt
      built_below params (type_in_parentheses a t) = built_below params t
      built_below params (tuple_type a ts) = each_below params ts
      built_below params (list_type a t) = both_below (types_in (built outlines names params t)) [] (built_below params t) tt
      built_below params (arrow_type t ts) = arrows_below (built outlines names params t) (each_built outlines names params ts) (built_below params t) (each_below params ts)

      each_below : (params : List (Binding ℕ)) (ts : Types) → AreBelow (each_types_in (each_built outlines names params ts))
      each_below params no_type = tt
      each_below params (next_type t ts) = both_below (types_in (built outlines names params t)) (each_types_in (each_built outlines names params ts)) (built_below params t) (each_below params ts)

    sound_below : (sound : Bool) (params : List (Binding ℕ)) (t : WrittenType) → AreBelow (each_types_in (body_of (sound_synonym sound (built outlines names params t))))
    sound_below true params t = both_below (types_in (built outlines names params t)) [] (built_below params t) tt
    sound_below false params t = tt

    top_below : (sound : Bool) (t : Top) → AreBelow (each_types_in (body_of (built_declaration outlines names sound t)))
    top_below sound (top.Data d) = each_below (params_from 0 d.params) (data_fields d)
    top_below sound (top.Synonym s) = sound_below sound (params_from 0 s.params) (type_exp_of s.meaning)
    top_below sound top.Empty = tt
    top_below sound (top.Fixity f) = tt
    top_below sound (top.Signature x xs a t) = tt
    top_below sound (top.Equation h r) = tt

    tops_below : (sounds : List Bool) (n : ℕ) (ts : List Top) → Each (λ d. AreBelow (each_types_in (body_of d))) (each_built_declaration outlines names sounds n ts)
    tops_below sounds n [] = tt
    tops_below sounds n (t ∷ ts) = (top_below (get_or sounds n false) t, tops_below sounds (suc n) ts)

all_both : {A : Type 0} (P : A → Type 0) (xs ys : List A) → Each P xs → Each P ys → Each P (xs ++ ys)
all_both P [] ys h k = k
all_both P (x ∷ xs) ys h k = (h.0, all_both P xs ys h.1 k)

-- one of them, or nothing
one_below : (limit : ℕ) (es : List Declaration) (a : ℕ) → Each (λ d. AreBelow limit (each_types_in (body_of d))) es → AreBelow limit (each_types_in (body_of (declaration_at es a)))
one_below limit [] a h = tt
one_below limit (e ∷ es) zero h = h.0
one_below limit (e ∷ es) (suc a) h = one_below limit es a h.1

is_below : (limit : ℕ) (ns : List ℕ) (x : ℕ) → AreBelow limit ns → Contains ns x → x < limit
is_below limit [] x h (k, lt, e) = absurd (omega (arith, lt))
is_below limit (n ∷ ns) x h (zero, lt, e) = subst (λ z. z < limit) e h.0
is_below limit (n ∷ ns) x h (suc k, lt, e) = is_below limit ns x h.1 (k, omega (arith, lt), e)

module _ (outlines : List Outline) (ps ts : List Top) (sounds : List Bool) where
  abbrev limit : ℕ
  limit = length ps + length ts

  abbrev es : List Declaration
  es = built_by outlines ps ts sounds

  before : AreWithin limit (names_before ps sounds)
  before = each_within limit sounds 0 ps (omega arith)

  there : AreWithin limit (names_of ps ts sounds)
  there = both_within limit (each_standing sounds (length ps) ts) (names_before ps sounds) (each_within limit sounds (length ps) ts (omega arith)) before

  each : Each (λ d. AreBelow limit (each_types_in (body_of d))) es
  each =
      all_both (λ d. AreBelow limit (each_types_in (body_of d))) (each_built_declaration outlines (names_before ps sounds) sounds 0 ps) (each_built_declaration outlines (names_of ps ts sounds) sounds (length ps) ts)
      (tops_below limit outlines (names_before ps sounds) before sounds 0 ps) (tops_below limit outlines (names_of ps ts sounds) there sounds (length ps) ts)

  size : length (named_needs es) ≡ limit
  size = length-map es (λ d. each_types_in (body_of d)) ∙ size_texts outlines ps ts sounds

  -- the declarations of both texts name one another, and no other
  pub closed_texts : IsClosed (named_needs (built_by outlines ps ts sounds))
  closed_texts a b need = subst (λ z. b < z) (sym size) (is_below limit (each_types_in (body_of (declaration_at es a))) b (one_below limit es a each) (subst (λ z. Contains z b) (needs_named es a) need))
