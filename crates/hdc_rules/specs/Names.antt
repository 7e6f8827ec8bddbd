-- What is broken in a list of names.
use Rattle.std.specs.Prelude.{ℕ, ◌==◌, Bool, true, false, List, [], ◌∷◌, ◌++◌, Option, Some, None}
use Rattle.hdc_base.specs.declared.place.At.{At}
use Rattle.hdc_tree.specs.declared.name.Name.{Name}
use Rattle.hdc_written.specs.declared.breach.Breach.{Breach}
use Rattle.hdc_written.specs.Breaches.{breach}
use Rattle.hdc_written.specs.Scopes.{standing_for, names_text}
use Rattle.hdc_rules.specs.Known.{Values, skeletons}

abbrev pub where_so : Bool → ℕ → At → List Breach
where_so true n at = breach n at ∷ []
where_so false n at = []

abbrev pub where_not : Bool → ℕ → At → List Breach
where_not true n at = []
where_not false n at = breach n at ∷ []

-- a value that is used is known
abbrev pub unless_known : Option (Unit {0}) → At → List Breach
unless_known None at = breach 1 at ∷ []
unless_known (Some u) at = []

abbrev pub unknown : Values → List ℕ → At → List Breach
unknown values t at = unless_known (standing_for t values) at

-- a constructor that is used is known
abbrev pub unless_some : Option ℕ → At → List Breach
unless_some None at = breach 1 at ∷ []
unless_some (Some n) at = []

-- and where this rule says so, it has as many arguments as it has fields or parameters
abbrev pub unless_counted : Option ℕ → ℕ → ℕ → At → List Breach
unless_counted None rule n at = breach 1 at ∷ []
unless_counted (Some m) rule n at = where_not (m == n) rule at

-- each name that stands before it in the list, or among these, breaks this rule
abbrev pub repeated : ℕ → List Name → List Name → List Breach
repeated n seen [] = []
repeated n seen (x ∷ xs) = where_so (names_text seen x.text) n x.at ++ repeated n (x ∷ seen) xs

-- the names of skeletons are not bound
abbrev pub is_skeleton : Option (Unit {0}) → At → List Breach
is_skeleton None at = []
is_skeleton (Some u) at = breach 2 at ∷ []

abbrev pub bound_skeletons : List Name → List Breach
bound_skeletons [] = []
bound_skeletons (x ∷ xs) = is_skeleton (standing_for x.text skeletons) x.at ++ bound_skeletons xs

-- each name that is none of those that are bound breaks this rule
abbrev pub not_among : ℕ → List Name → List Name → List Breach
not_among n bound [] = []
not_among n bound (x ∷ xs) = where_not (names_text bound x.text) n x.at ++ not_among n bound xs

abbrev pub each_breach : ℕ → List Name → List Breach
each_breach n [] = []
each_breach n (x ∷ xs) = breach n x.at ∷ each_breach n xs
