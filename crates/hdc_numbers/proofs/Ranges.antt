-- Numbers that are new, by the counter; and which numbers patterns bind.
use Rattle.std.proofs.Common.{◌≡◌, ℕ, zero, suc, ◌<◌, ◌≤◌, Bool, true, false, List, [], ◌∷◌, ◌++◌, Some, refl, arith, if◌then◌else◌}
use Rattle.std.specs.Prelude.{slice_index_or}
use Rattle.std.specs.List.{AllByRecursion}
use Rattle.std.specs.Str.{bytes_eq}
use Rattle.std.proofs.lemmas.Slice.Eq.{bytes_eq-Decides}
use Rattle.hdc_base.specs.declared.place.At.{At}
use Rattle.hdc_resolved.specs.Syntax as resolved
use Rattle.hdc_resolved.specs.declared.name.Name.TheVariants as what
use Rattle.hdc_tree.specs.declared.name.Name as written_name
use Rattle.hdc_written.specs.Firsts.{first_of_pattern}
use Rattle.hdc_written.specs.Scopes.{standing_for}
use Rattle.hdc_written.specs.Written.{variables, all_variables, Pattern, named, named_as, anything, built, literal_pattern, negative_pattern, unit_pattern, nil_pattern, pattern_in_parentheses, tuple_pattern, list_pattern, cons_pattern, Patterns, no_pattern, pattern}
use Rattle.hdc_resolving.specs.declared.known.Known.{Known}
use Rattle.hdc_resolving.specs.declared.walk.Counter.{Counter}
use Rattle.hdc_resolving.specs.Numbering.{counted, numbered, named_from, number_in, variable_number}
use Rattle.hdc_resolving.specs.Patterns.{resolved_pattern, resolved_patterns, next_colons, consed_with}
use Rattle.hdc_resolving.specs.Standing.{Names, standing}
use Rattle.hdc_numbers.specs.Binders.{pattern_numbers, patterns_numbers, IsNew, AreNew}

-- ---- lists

pub all_joined : {A : Type 0} (P : A → Type 0) (xs ys : List A) → AllByRecursion P xs → AllByRecursion P ys → AllByRecursion P (xs ++ ys)
all_joined P [] ys h g = g
all_joined P (x ∷ xs) ys h g = (h.0, all_joined P xs ys h.1 g)

pub all_first : {A : Type 0} (P : A → Type 0) (xs ys : List A) → AllByRecursion P (xs ++ ys) → AllByRecursion P xs
all_first P [] ys h = tt
all_first P (x ∷ xs) ys h = (h.0, all_first P xs ys h.1)

pub all_second : {A : Type 0} (P : A → Type 0) (xs ys : List A) → AllByRecursion P (xs ++ ys) → AllByRecursion P ys
all_second P [] ys h = h
all_second P (x ∷ xs) ys h = all_second P xs ys h.1

pub all_weaker : {A : Type 0} (P Q : A → Type 0) (xs : List A) → ((x : A) → P x → Q x) → AllByRecursion P xs → AllByRecursion Q xs
all_weaker P Q [] weaker h = tt
all_weaker P Q (x ∷ xs) weaker h = (weaker x h.0, all_weaker P Q xs weaker h.1)

pub item_or : {A : Type 0} (P : A → Type 0) (xs : List A) (n : ℕ) (d : A) → AllByRecursion P xs → P d → P (slice_index_or xs n d)
item_or P [] n d h g = g
item_or P (x ∷ xs) zero d h g = h.0
item_or P (x ∷ xs) (suc n) d h g = item_or P xs n d h.1 g

pub if_either : {A : Type 0} (P : A → Type 0) (go : Bool) (a b : A) → P a → P b → P (if go then a else b)
if_either P true a b h g = h
if_either P false a b h g = g

-- ---- numbers below one, and in a range

abbrev pub Below : ℕ → List ℕ → Type 0
Below n around = AllByRecursion (λ m. m < n) around

abbrev pub InRange : ℕ → ℕ → ℕ → Type 0
InRange low high n = (low ≤ n) × (n < high)

abbrev pub AreInRange : ℕ → ℕ → List ℕ → Type 0
AreInRange low high ns = AllByRecursion (InRange low high) ns

pub below_more : (m n : ℕ) (around : List ℕ) → m ≤ n → Below m around → Below n around
below_more m n [] le h = tt
below_more m n (x ∷ xs) le h = (let p = h.0 in omega (arith, p, le), below_more m n xs le h.1)

pub one_new : (low n : ℕ) (around : List ℕ) → low ≤ n → Below low around → IsNew around n
one_new low n [] le h = tt
one_new low n (m ∷ ms) le h = (λ e. (let p = h.0 in absurd (omega (arith, p, le, e))), one_new low n ms le h.1)

pub all_new : (low high : ℕ) (ns around : List ℕ) → AreInRange low high ns → Below low around → AreNew around ns
all_new low high [] around range below = tt
all_new low high (n ∷ ns) around range below = (one_new low n around range.0.0 below, all_new low high ns around range.1 below)

pub below_range : (low high : ℕ) (ns around : List ℕ) → AreInRange low high ns → low ≤ high → Below low around → Below high (ns ++ around)
below_range low high [] around range le below = below_more low high around le below
below_range low high (n ∷ ns) around range le below = (range.0.1, below_range low high ns around range.1 le below)

-- ---- the numbers of names that have come into scope

abbrev pub HasNumber : ℕ → ℕ → Names → written_name.Name → Type 0
HasNumber low high names x = InRange low high (variable_number names x)

one_kept : (low high : ℕ) (y : List ℕ) (names : Names) (x : written_name.Name) → low ≤ high → HasNumber low high names x → HasNumber low (suc high) (standing y (what.Local high) ∷ names) x
one_kept low high y names x le h = by (bytes_eq x.text y)
  where
    by : (b : Bool) → InRange low (suc high) (number_in (if b then Some (what.Local high) else standing_for x.text names))
    by true = (le, omega (arith))
    by false = (h.0, let p = h.1 in omega (arith, p))

names_kept : (low : ℕ) (xs : List written_name.Name) (c : Counter) (names : Names) (x : written_name.Name) → low ≤ c.numbers → HasNumber low c.numbers names x → HasNumber low (numbered xs c).numbers (named_from xs c names) x
names_kept low [] c names x le h = h
names_kept low (y ∷ xs) c names x le h = names_kept low xs (counted c) (standing y.text (what.Local c.numbers) ∷ names) x (omega (arith, le)) (one_kept low c.numbers y.text names x le h)

last_number : (x : written_name.Name) (c : Counter) (names : Names) → HasNumber c.numbers (suc c.numbers) (standing x.text (what.Local c.numbers) ∷ names) x
last_number x c names = by (bytes_eq x.text x.text) ((bytes_eq-Decides x.text x.text).1 refl)
  where
    by : (b : Bool) → b ≡ true → InRange c.numbers (suc c.numbers) (number_in (if b then Some (what.Local c.numbers) else standing_for x.text names))
    by true e = (omega (arith), omega (arith))
    by false e = absurd (cc)

pub all_numbers : (xs : List written_name.Name) (c : Counter) (names : Names) → AllByRecursion (HasNumber c.numbers (numbered xs c).numbers (named_from xs c names)) xs
all_numbers [] c names = tt
all_numbers (x ∷ xs) c names =
    let more = standing x.text (what.Local c.numbers) ∷ names in
    let high = (numbered xs (counted c)).numbers in
    let scope = named_from xs (counted c) more in (
      names_kept c.numbers xs (counted c) more x (omega (arith)) (last_number x c names),
      all_weaker (HasNumber (suc c.numbers) high scope) (HasNumber c.numbers high scope) xs (λ y h. (let p = h.0 in omega (arith, p), h.1)) (all_numbers xs (counted c) more),
    )

-- ---- the numbers that patterns bind are those of their variables

mutual
  pub pattern_range : (p : Pattern) (k : Known) (names : Names) (low high : ℕ) → AllByRecursion (HasNumber low high names) (variables p) → AreInRange low high (pattern_numbers (resolved_pattern p k names))
  pattern_range (named x) k names low high h = h
  pattern_range (named_as x p) k names low high h = (h.0, pattern_range p k names low high h.1)
  pattern_range (anything a) k names low high h = tt
  pattern_range (built c ps) k names low high h = patterns_range ps k names low high h
  pattern_range (literal_pattern a l) k names low high h = tt
  pattern_range (negative_pattern a b n) k names low high h = tt
  pattern_range (unit_pattern a) k names low high h = tt
  pattern_range (nil_pattern a) k names low high h = tt
  pattern_range (pattern_in_parentheses a p) k names low high h = pattern_range p k names low high h
  pattern_range (tuple_pattern a ps) k names low high h = patterns_range ps k names low high h
  pattern_range (list_pattern a ps) k names low high h = patterns_range ps k names low high h
  pattern_range (cons_pattern p colons ps) k names low high h =
      let first = all_first (HasNumber low high names) (variables p) (all_variables ps) h in
      let rest = all_second (HasNumber low high names) (variables p) (all_variables ps) h in
      consed_range ps colons k names (first_of_pattern p) (resolved_pattern p k names) low high (pattern_range p k names low high first) rest

  pub patterns_range : (ps : Patterns) (k : Known) (names : Names) (low high : ℕ) → AllByRecursion (HasNumber low high names) (all_variables ps) → AreInRange low high (patterns_numbers (resolved_patterns ps k names))
  patterns_range no_pattern k names low high h = tt
  patterns_range (pattern p ps) k names low high h =
      let first = all_first (HasNumber low high names) (variables p) (all_variables ps) h in
      let rest = all_second (HasNumber low high names) (variables p) (all_variables ps) h in
      all_joined (InRange low high) (pattern_numbers (resolved_pattern p k names)) (patterns_numbers (resolved_patterns ps k names)) (pattern_range p k names low high first) (patterns_range ps k names low high rest)

  consed_range : (ps : Patterns) (colons : List At) (k : Known) (names : Names) (a : At) (q : resolved.Pattern) (low high : ℕ) → AreInRange low high (pattern_numbers q) → AllByRecursion (HasNumber low high names) (all_variables ps) → AreInRange low high (pattern_numbers (consed_with ps colons k names a q))
  consed_range no_pattern colons k names a q low high range h = range
  consed_range (pattern p ps) colons k names a q low high range h =
      let first = all_first (HasNumber low high names) (variables p) (all_variables ps) h in
      let rest = all_second (HasNumber low high names) (variables p) (all_variables ps) h in
      let behind = consed_with ps (next_colons colons) k names (first_of_pattern p) (resolved_pattern p k names) in
      all_joined (InRange low high) (pattern_numbers q) (pattern_numbers behind ++ []) range
      (all_joined (InRange low high) (pattern_numbers behind) [] (consed_range ps (next_colons colons) k names (first_of_pattern p) (resolved_pattern p k names) low high (pattern_range p k names low high first) rest) tt)
