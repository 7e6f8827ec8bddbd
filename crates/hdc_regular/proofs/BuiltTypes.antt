-- What is built expands as what is written, and holds no more.
use Rattle.std.proofs.Common.{arith, ◌≡◌, ◌⊎◌, inl, inr, ℕ, zero, suc, ◌+◌, ◌==◌, Bool, true, false, List, Option, Some, None, refl, sym, ap, subst, ◌∙◌, add-zero}
use Rattle.hdc_base.specs.declared.place.At.{At}
use Rattle.hdc_written.specs.Scopes.{Binding, standing_for}
use Rattle.hdc_written.specs.WrittenTypes.{WrittenType, type_constructor, type_variable, unit_type, type_in_parentheses, tuple_type, list_type, arrow_type, Types, no_type, next_type}
use Rattle.hdc_rules.specs.Types.{count_types}
use Rattle.hdc_regular.specs.declared.outline.Outline.{Outline}
use Rattle.hdc_regular.specs.declared.standing.Standing.{Standing}
use Rattle.hdc_regular.specs.declared.standing.Standing.TheVariants as standing
use Rattle.hdc_regular.specs.Resolved.{Resolved, parameter, use_of, other, Parts, no_part, next_part, part_at, Has, EachHas}
use Rattle.hdc_regular.specs.Expansion.{placed, each_placed, used, expanded, each_expanded}
use Rattle.hdc_regular.specs.Walk.{alias_of}
use Rattle.hdc_regular.specs.Resolving.{variable, arrows, used_where, applied, resolved, each_resolved}
use Rattle.hdc_regular.specs.Building.{outline_at, is_held, held_part, held_from, built_synonym, built_where, built_use, built, each_built}
use Rattle.hdc_regular.proofs.Within.{each_of_part}
use Rattle.hdc_regular.proofs.Expanding.{part_expanded, OnlyHeld, IsExact, EachExact}
use Rattle.hdc_regular.proofs.Groups.{UsesOf}

-- ---- meanings with arguments

-- arguments that a meaning does not hold do not matter
mutual
  pub placed_same : (at : At) (us vs : Parts) (t : Resolved) → ((j : ℕ) → Has t (parameter j) → part_at j us ≡ part_at j vs) → placed at us t ≡ placed at vs t
  placed_same at us vs (parameter i) h = h i refl
  placed_same at us vs (use_of n a ts) h = ap (use_of n at) (each_placed_same at us vs ts (λ j i. h j (inr i)))
  placed_same at us vs (other ts) h = ap (λ z. other z) (each_placed_same at us vs ts (λ j i. h j (inr i)))

  pub each_placed_same : (at : At) (us vs : Parts) (ts : Parts) → ((j : ℕ) → EachHas ts (parameter j) → part_at j us ≡ part_at j vs) → each_placed at us ts ≡ each_placed at vs ts
  each_placed_same at us vs no_part h = refl
  each_placed_same at us vs (next_part t ts) h =
      ap (λ z. next_part z (each_placed at us ts)) (placed_same at us vs t (λ j i. h j (inl i)))
      ∙ ap (λ z. next_part (placed at vs t) z) (each_placed_same at us vs ts (λ j i. h j (inr i)))

-- a type that is a variable is that variable
pub is_its_alias : (t : Resolved) (j : ℕ) → alias_of t ≡ Some j → t ≡ parameter j
is_its_alias (parameter i) j e = let same : i ≡ j = cc in ap (λ z. parameter z) same
is_its_alias (use_of n at ts) j e = cc
is_its_alias (other ts) j e = cc

-- ---- arguments that are held

pub part_of_held : (holds : List Bool) (i j : ℕ) (ts : Parts) → is_held holds (i + j) ≡ true → part_at j (held_from holds i ts) ≡ part_at j ts
part_of_held holds i j no_part e = refl
part_of_held holds i zero (next_part t ts) e = here (is_held holds i) (subst (λ z. is_held holds z ≡ true) (add-zero i) e)
  where
    here : (b : Bool) → b ≡ true → held_part b t ≡ t
    here true d = refl
    here false d = cc
part_of_held holds i (suc j) (next_part t ts) e = part_of_held holds (suc i) j ts (let same : i + suc j ≡ suc i + j = omega arith in subst (λ z. is_held holds z ≡ true) same e)

pub part_not_held : (holds : List Bool) (i j : ℕ) (ts : Parts) → is_held holds (i + j) ≡ false → part_at j (held_from holds i ts) ≡ other no_part
part_not_held holds i j no_part e = refl
part_not_held holds i zero (next_part t ts) e = here (is_held holds i) (subst (λ z. is_held holds z ≡ false) (add-zero i) e)
  where
    here : (b : Bool) → b ≡ false → held_part b t ≡ other no_part
    here true d = cc
    here false d = refl
part_not_held holds i (suc j) (next_part t ts) e = part_not_held holds (suc i) j ts (let same : i + suc j ≡ suc i + j = omega arith in subst (λ z. is_held holds z ≡ false) same e)

-- ---- what is known of synonyms is so

-- what is known of the meaning of a synonym
pub record IsOutline (outline : Outline) (meaning : Resolved) : Type 0 where
  pub alias : outline.alias ≡ alias_of meaning
  pub held : (j : ℕ) → is_held outline.holds j ≡ true → Has meaning (parameter j)
  pub all : (j : ℕ) → Has meaning (parameter j) → is_held outline.holds j ≡ true

module _ (synonyms : ℕ → Bool) (meanings : ℕ → Resolved) (outlines : List Outline) (names : List (Binding Standing)) (params : List (Binding ℕ)) where
  -- a name that stands for a data type or a synonym stands for one, and of a synonym with so many arguments it is known what it means
  abbrev pub IsKnown : ℕ → Option Standing → Type 0
  IsKnown count None = Unit {0}
  IsKnown count (Some (standing.DataType n)) = synonyms n ≡ false
  IsKnown count (Some (standing.Synonym n k)) = (synonyms n ≡ true) × ((k == count) ≡ true → IsOutline (outline_at outlines n) (meanings n))
  IsKnown count (Some standing.NotExpanded) = Unit {0}

  -- so does each constructor of a type
  abbrev mutual
    pub AreKnown : WrittenType → Type 0
    AreKnown (type_constructor c ts) = IsKnown (count_types ts) (standing_for c.text names) × EachKnown ts
    AreKnown (type_variable x) = Unit {0}
    AreKnown (unit_type a) = Unit {0}
    AreKnown (type_in_parentheses a t) = AreKnown t
    AreKnown (tuple_type a ts) = EachKnown ts
    AreKnown (list_type a t) = AreKnown t
    AreKnown (arrow_type t ts) = AreKnown t × EachKnown ts

    pub EachKnown : Types → Type 0
    EachKnown no_type = Unit {0}
    EachKnown (next_type t ts) = AreKnown t × EachKnown ts

  -- ---- what is built expands to the same

  synonym_same : (n : ℕ) (at : At) (bs rs : Parts) (alias : Option ℕ) (holds : List Bool) → synonyms n ≡ true → alias ≡ alias_of (meanings n)
      → ((j : ℕ) → Has (meanings n) (parameter j) → is_held holds j ≡ true)
      → each_expanded synonyms meanings bs ≡ each_expanded synonyms meanings rs
      → expanded synonyms meanings (built_synonym alias holds n at bs) ≡ placed at (each_expanded synonyms meanings rs) (meanings n)
  synonym_same n at bs rs (Some j) holds is a all e =
      sym (part_expanded synonyms meanings j bs) ∙ ap (part_at j) e ∙ ap (placed at (each_expanded synonyms meanings rs)) (sym (is_its_alias (meanings n) j (sym a)))
  synonym_same n at bs rs None holds is a all e =
      ap (λ z. used z (meanings n) n at (each_expanded synonyms meanings (held_from holds 0 bs))) is
      ∙ placed_same at (each_expanded synonyms meanings (held_from holds 0 bs)) (each_expanded synonyms meanings bs) (meanings n)
      (λ j h. part_expanded synonyms meanings j (held_from holds 0 bs) ∙ ap (expanded synonyms meanings) (part_of_held holds 0 j bs (subst (λ z. is_held holds z ≡ true) (the j) (all j h))) ∙ sym (part_expanded synonyms meanings j bs))
      ∙ ap (λ z. placed at z (meanings n)) e
    where
      the : (j : ℕ) → j ≡ 0 + j
      the j = omega arith

  where_same : (b : Bool) (n : ℕ) (at : At) (bs rs : Parts) → synonyms n ≡ true → (b ≡ true → IsOutline (outline_at outlines n) (meanings n)) → each_expanded synonyms meanings bs ≡ each_expanded synonyms meanings rs
      → expanded synonyms meanings (built_where b (outline_at outlines n) n at bs) ≡ expanded synonyms meanings (used_where b n at rs)
  where_same true n at bs rs is o e =
      synonym_same n at bs rs (outline_at outlines n).alias (outline_at outlines n).holds is (o refl).alias (o refl).all e
      ∙ ap (λ z. used z (meanings n) n at (each_expanded synonyms meanings rs)) (sym is)
  where_same false n at bs rs is o e = ap (λ z. other z) e

  use_same : (o : Option Standing) (count : ℕ) (at : At) (bs rs : Parts) → IsKnown count o → each_expanded synonyms meanings bs ≡ each_expanded synonyms meanings rs
      → expanded synonyms meanings (built_use outlines o count at bs) ≡ expanded synonyms meanings (applied o count at rs)
  use_same None count at bs rs h e = ap (λ z. other z) e
  use_same (Some (standing.DataType n)) count at bs rs h e = ap (λ z. used (synonyms n) (meanings n) n at z) e
  use_same (Some (standing.Synonym n k)) count at bs rs h e = where_same (k == count) n at bs rs h.0 h.1 e
  use_same (Some standing.NotExpanded) count at bs rs h e = ap (λ z. other z) e

  arrows_same : (b r : Resolved) (bs rs : Parts) → expanded synonyms meanings b ≡ expanded synonyms meanings r → each_expanded synonyms meanings bs ≡ each_expanded synonyms meanings rs
      → expanded synonyms meanings (arrows b bs) ≡ expanded synonyms meanings (arrows r rs)
  arrows_same b r no_part no_part d e = d
  arrows_same b r no_part (next_part t ts) d e = cc
  arrows_same b r (next_part t ts) no_part d e = cc
  arrows_same b r (next_part t ts) (next_part v vs) d e =
      ap (λ z. other (next_part z (each_expanded synonyms meanings (next_part t ts)))) d ∙ ap (λ z. other (next_part (expanded synonyms meanings r) z)) e

  mutual
    pub built_same : (t : WrittenType) → AreKnown t → expanded synonyms meanings (built outlines names params t) ≡ expanded synonyms meanings (resolved names params t)
    built_same (type_constructor c ts) h = use_same (standing_for c.text names) (count_types ts) c.at (each_built outlines names params ts) (each_resolved names params ts) h.0 (each_built_same ts h.1)
    built_same (type_variable x) h = refl
    built_same (unit_type a) h = refl
    built_same (type_in_parentheses a t) h = built_same t h
    built_same (tuple_type a ts) h = ap (λ z. other z) (each_built_same ts h)
    built_same (list_type a t) h = ap (λ z. other (next_part z no_part)) (built_same t h)
    built_same (arrow_type t ts) h = arrows_same (built outlines names params t) (resolved names params t) (each_built outlines names params ts) (each_resolved names params ts) (built_same t h.0) (each_built_same ts h.1)

    pub each_built_same : (ts : Types) → EachKnown ts → each_expanded synonyms meanings (each_built outlines names params ts) ≡ each_expanded synonyms meanings (each_resolved names params ts)
    each_built_same no_type h = refl
    each_built_same (next_type t ts) h =
        ap (λ z. next_part z (each_expanded synonyms meanings (each_built outlines names params ts))) (built_same t h.0)
        ∙ ap (λ z. next_part (expanded synonyms meanings (resolved names params t)) z) (each_built_same ts h.1)

  -- ---- what is built is exact

  held_exact : (holds : List Bool) (i : ℕ) (ts : Parts) → EachExact synonyms meanings ts → EachExact synonyms meanings (held_from holds i ts)
  held_exact holds i no_part x = tt
  held_exact holds i (next_part t ts) x = (by (is_held holds i), held_exact holds (suc i) ts x.1)
    where
      by : (b : Bool) → IsExact synonyms meanings (held_part b t)
      by true = x.0
      by false = tt

  exact_part : (j : ℕ) (ts : Parts) → EachExact synonyms meanings ts → IsExact synonyms meanings (part_at j ts)
  exact_part j no_part x = tt
  exact_part zero (next_part t ts) x = x.0
  exact_part (suc j) (next_part t ts) x = exact_part j ts x.1

  data_exact : (n : ℕ) (at : At) (ts : Parts) → synonyms n ≡ false → EachExact synonyms meanings ts → IsExact synonyms meanings (use_of n at ts)
  data_exact n at ts is x = (subst (λ z. OnlyHeld synonyms meanings z n ts) (sym is) tt, x)

  synonym_exact : (n : ℕ) (at : At) (ts : Parts) (alias : Option ℕ) (holds : List Bool) → synonyms n ≡ true → alias ≡ alias_of (meanings n)
      → ((j : ℕ) → is_held holds j ≡ true → Has (meanings n) (parameter j)) → EachExact synonyms meanings ts → IsExact synonyms meanings (built_synonym alias holds n at ts)
  synonym_exact n at ts (Some j) holds is a held x = exact_part j ts x
  synonym_exact n at ts None holds is a held x =
      (subst (λ z. OnlyHeld synonyms meanings z n (held_from holds 0 ts)) (sym is) (sym a, λ j. by j (is_held holds j) refl), held_exact holds 0 ts x)
    where
      the : (j : ℕ) → j ≡ 0 + j
      the j = omega arith

      by : (j : ℕ) (b : Bool) → is_held holds j ≡ b → (part_at j (held_from holds 0 ts) ≡ other no_part) ⊎ Has (meanings n) (parameter j)
      by j true e = inr (held j e)
      by j false e = inl (part_not_held holds 0 j ts (subst (λ z. is_held holds z ≡ false) (the j) e))

  where_exact : (b : Bool) (n : ℕ) (at : At) (ts : Parts) → synonyms n ≡ true → (b ≡ true → IsOutline (outline_at outlines n) (meanings n)) → EachExact synonyms meanings ts → IsExact synonyms meanings (built_where b (outline_at outlines n) n at ts)
  where_exact true n at ts is o x = synonym_exact n at ts (outline_at outlines n).alias (outline_at outlines n).holds is (o refl).alias (o refl).held x
  where_exact false n at ts is o x = x

  use_exact : (o : Option Standing) (count : ℕ) (at : At) (ts : Parts) → IsKnown count o → EachExact synonyms meanings ts → IsExact synonyms meanings (built_use outlines o count at ts)
  use_exact None count at ts h x = x
  use_exact (Some (standing.DataType n)) count at ts h x = data_exact n at ts h x
  use_exact (Some (standing.Synonym n k)) count at ts h x = where_exact (k == count) n at ts h.0 h.1 x
  use_exact (Some standing.NotExpanded) count at ts h x = x

  variable_exact : (o : Option ℕ) → IsExact synonyms meanings (variable o)
  variable_exact None = tt
  variable_exact (Some i) = tt

  arrows_exact : (t : Resolved) (ts : Parts) → IsExact synonyms meanings t → EachExact synonyms meanings ts → IsExact synonyms meanings (arrows t ts)
  arrows_exact t no_part x y = x
  arrows_exact t (next_part v vs) x y = (x, y)

  mutual
    pub built_exact : (t : WrittenType) → AreKnown t → IsExact synonyms meanings (built outlines names params t)
    built_exact (type_constructor c ts) h = use_exact (standing_for c.text names) (count_types ts) c.at (each_built outlines names params ts) h.0 (each_built_exact ts h.1)
    built_exact (type_variable x) h = variable_exact (standing_for x.text params)
    built_exact (unit_type a) h = tt
    built_exact (type_in_parentheses a t) h = built_exact t h
    built_exact (tuple_type a ts) h = each_built_exact ts h
    built_exact (list_type a t) h = (built_exact t h, tt)
    built_exact (arrow_type t ts) h = arrows_exact (built outlines names params t) (each_built outlines names params ts) (built_exact t h.0) (each_built_exact ts h.1)

    pub each_built_exact : (ts : Types) → EachKnown ts → EachExact synonyms meanings (each_built outlines names params ts)
    each_built_exact no_type h = tt
    each_built_exact (next_type t ts) h = (built_exact t h.0, each_built_exact ts h.1)

-- ---- what is built names no more than what is written

module _ (outlines : List Outline) (names : List (Binding Standing)) (params : List (Binding ℕ)) where
  -- one that is used by the first is used by the second
  abbrev pub UsesNoMore : (Resolved → Type 0) → (Resolved → Type 0) → Type 0
  UsesNoMore In More = (n : ℕ) → UsesOf In n → UsesOf More n

  held_no_more : (holds : List Bool) (i : ℕ) (ts : Parts) → UsesNoMore (EachHas (held_from holds i ts)) (EachHas ts)
  held_no_more holds i no_part n u = u
  held_no_more holds i (next_part t ts) n (a, us, inl h) = by (is_held holds i) h
    where
      by : (b : Bool) → Has (held_part b t) (use_of n a us) → UsesOf (EachHas (next_part t ts)) n
      by true k = (a, us, inl k)
      by false (inl e) = cc
      by false (inr k) = absurd k
  held_no_more holds i (next_part t ts) n (a, us, inr h) = let r = held_no_more holds (suc i) ts n (a, us, h) in (r.0, r.1, inr r.2)

  abbrev pub Within : Resolved → Resolved → Type 0
  Within b r = UsesNoMore (Has b) (Has r)

  abbrev pub EachWithin : Parts → Parts → Type 0
  EachWithin bs rs = UsesNoMore (EachHas bs) (EachHas rs)

  other_within : (bs rs : Parts) → EachWithin bs rs → Within (other bs) (other rs)
  other_within bs rs w n (a, us, inl e) = cc
  other_within bs rs w n (a, us, inr h) = let r = w n (a, us, h) in (r.0, r.1, inr r.2)

  same_within : (m : ℕ) (at : At) (bs rs : Parts) → EachWithin bs rs → Within (use_of m at bs) (use_of m at rs)
  same_within m at bs rs w n (a, us, inl e) = let same : m ≡ n = cc in (at, rs, inl (ap (λ z. use_of z at rs) same))
  same_within m at bs rs w n (a, us, inr h) = let r = w n (a, us, h) in (r.0, r.1, inr r.2)

  synonym_within : (m : ℕ) (at : At) (bs rs : Parts) (alias : Option ℕ) (holds : List Bool) → EachWithin bs rs → Within (built_synonym alias holds m at bs) (use_of m at rs)
  synonym_within m at bs rs (Some j) holds w n (a, us, h) = let r = w n (a, us, each_of_part j bs (use_of n a us) tt h) in (r.0, r.1, inr r.2)
  synonym_within m at bs rs None holds w n u = same_within m at (held_from holds 0 bs) rs (λ l v. w l (held_no_more holds 0 bs l v)) n u

  where_within : (b : Bool) (o : Outline) (m : ℕ) (at : At) (bs rs : Parts) → EachWithin bs rs → Within (built_where b o m at bs) (used_where b m at rs)
  where_within true o m at bs rs w = synonym_within m at bs rs o.alias o.holds w
  where_within false o m at bs rs w = other_within bs rs w

  use_within : (o : Option Standing) (count : ℕ) (at : At) (bs rs : Parts) → EachWithin bs rs → Within (built_use outlines o count at bs) (applied o count at rs)
  use_within None count at bs rs w = other_within bs rs w
  use_within (Some (standing.DataType n)) count at bs rs w = same_within n at bs rs w
  use_within (Some (standing.Synonym n k)) count at bs rs w = where_within (k == count) (outline_at outlines n) n at bs rs w
  use_within (Some standing.NotExpanded) count at bs rs w = other_within bs rs w

  next_within : (b r : Resolved) (bs rs : Parts) → Within b r → EachWithin bs rs → EachWithin (next_part b bs) (next_part r rs)
  next_within b r bs rs v w n (a, us, inl h) = let q = v n (a, us, h) in (q.0, q.1, inl q.2)
  next_within b r bs rs v w n (a, us, inr h) = let q = w n (a, us, h) in (q.0, q.1, inr q.2)

  arrows_within : (b r : Resolved) (ts : Types) → Within b r → EachWithin (each_built outlines names params ts) (each_resolved names params ts) → Within (arrows b (each_built outlines names params ts)) (arrows r (each_resolved names params ts))
  arrows_within b r no_type v w = v
  arrows_within b r (next_type t ts) v w =
      other_within (next_part b (each_built outlines names params (next_type t ts))) (next_part r (each_resolved names params (next_type t ts)))
      (next_within b r (each_built outlines names params (next_type t ts)) (each_resolved names params (next_type t ts)) v w)

  mutual
    pub built_within : (t : WrittenType) → Within (built outlines names params t) (resolved names params t)
    built_within (type_constructor c ts) = use_within (standing_for c.text names) (count_types ts) c.at (each_built outlines names params ts) (each_resolved names params ts) (each_built_within ts)
    built_within (type_variable x) = λ n u. u
    built_within (unit_type a) = λ n u. u
    built_within (type_in_parentheses a t) = built_within t
    built_within (tuple_type a ts) = other_within (each_built outlines names params ts) (each_resolved names params ts) (each_built_within ts)
    built_within (list_type a t) = other_within (next_part (built outlines names params t) no_part) (next_part (resolved names params t) no_part) (next_within (built outlines names params t) (resolved names params t) no_part no_part (built_within t) (λ n u. u))
    built_within (arrow_type t ts) = arrows_within (built outlines names params t) (resolved names params t) ts (built_within t) (each_built_within ts)

    pub each_built_within : (ts : Types) → EachWithin (each_built outlines names params ts) (each_resolved names params ts)
    each_built_within no_type = λ n u. u
    each_built_within (next_type t ts) = next_within (built outlines names params t) (resolved names params t) (each_built outlines names params ts) (each_resolved names params ts) (built_within t) (each_built_within ts)
