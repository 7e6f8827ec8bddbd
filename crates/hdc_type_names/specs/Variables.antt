-- The numbers of the variables of types.
use Rattle.std.specs.Prelude.{ℕ, suc, List, [], ◌∷◌, Option, Some, None, length}
use Rattle.hdc_resolved.specs.Syntax.{TypeTree}
use Rattle.hdc_tree.specs.declared.name.Name.{Name}
use Rattle.hdc_written.specs.Scopes.{Binding, standing_for}
use Rattle.hdc_written.specs.WrittenTypes.{WrittenType, type_constructor, type_variable, unit_type, type_in_parentheses, tuple_type, list_type, arrow_type, Types, no_type, next_type}
use Rattle.hdc_type_names.specs.TypeNames.{TypeNames}
use Rattle.hdc_type_names.specs.ResolvedTypes.{resolved_type}

-- the variables of a head by their places, from this one on: of two with one name the first counts
abbrev pub places_from : ℕ → List Name → List (Binding ℕ)
places_from i [] = []
places_from i (x ∷ xs) = record { name = x.text; what = i } ∷ places_from (suc i) xs

-- a variable has the next number, unless it has one
abbrev pub met : Option ℕ → List ℕ → List (Binding ℕ) → List (Binding ℕ)
met (Some n) x variables = variables
met None x variables = record { name = x; what = length variables } ∷ variables

-- the variables of a type behind those that were met before it, from left to right
abbrev mutual
  pub with_variables : WrittenType → List (Binding ℕ) → List (Binding ℕ)
  with_variables (type_constructor c ts) variables = with_each_variables ts variables
  with_variables (type_variable x) variables = met (standing_for x.text variables) x.text variables
  with_variables (unit_type a) variables = variables
  with_variables (type_in_parentheses a t) variables = with_variables t variables
  with_variables (tuple_type a ts) variables = with_each_variables ts variables
  with_variables (list_type a t) variables = with_variables t variables
  with_variables (arrow_type t ts) variables = with_each_variables ts (with_variables t variables)

  pub with_each_variables : Types → List (Binding ℕ) → List (Binding ℕ)
  with_each_variables no_type variables = variables
  with_each_variables (next_type t ts) variables = with_each_variables ts (with_variables t variables)

-- the type of a signature
abbrev pub signature_type : TypeNames → WrittenType → TypeTree
signature_type names t = resolved_type names (with_variables t []) t
