-- Types by what their names stand for.
use Rattle.std.specs.Prelude.{ℕ, List, Option, Some, None}
use Rattle.hdc_resolved.specs.Syntax as tree
use Rattle.hdc_resolved.specs.Syntax.{TypeTree, TypeTrees}
use Rattle.hdc_written.specs.Scopes.{Binding, standing_for}
use Rattle.hdc_written.specs.WrittenTypes.{WrittenType, type_constructor, type_variable, unit_type, type_in_parentheses, tuple_type, list_type, arrow_type, Types, no_type, next_type}
use Rattle.hdc_type_names.specs.declared.type_name.TypeName.{TypeName}
use Rattle.hdc_type_names.specs.declared.type_name.TypeName.TheVariants as name
use Rattle.hdc_type_names.specs.TypeNames.{TypeNames}

-- what a name stands for, with arguments; Int and Char have none
abbrev pub applied : Option TypeName → TypeTrees → TypeTree
applied None ts = tree.unknown_type ts
applied (Some name.Int) ts = tree.int_type
applied (Some name.Char) ts = tree.char_type
applied (Some (name.Data n)) ts = tree.data_type n ts
applied (Some (name.Synonym n)) ts = tree.synonym_type n ts

-- a variable by its number
abbrev pub numbered : Option ℕ → TypeTree
numbered None = tree.unknown_type tree.no_type
numbered (Some n) = tree.type_variable n

-- types with -> between them, which associates to the right
abbrev pub arrows : TypeTree → TypeTrees → TypeTree
arrows t tree.no_type = t
arrows t (tree.next_type u us) = tree.function_type t (arrows u us)

-- a type, by what the names of types stand for, and by the numbers of variables
abbrev mutual
  pub resolved_type : TypeNames → List (Binding ℕ) → WrittenType → TypeTree
  resolved_type names variables (type_constructor c ts) = applied (standing_for c.text names) (each_resolved names variables ts)
  resolved_type names variables (type_variable x) = numbered (standing_for x.text variables)
  resolved_type names variables (unit_type a) = tree.tuple_type tree.no_type
  resolved_type names variables (type_in_parentheses a t) = resolved_type names variables t
  resolved_type names variables (tuple_type a ts) = tree.tuple_type (each_resolved names variables ts)
  resolved_type names variables (list_type a t) = tree.list_type (resolved_type names variables t)
  resolved_type names variables (arrow_type t ts) = arrows (resolved_type names variables t) (each_resolved names variables ts)

  pub each_resolved : TypeNames → List (Binding ℕ) → Types → TypeTrees
  each_resolved names variables no_type = tree.no_type
  each_resolved names variables (next_type t ts) = tree.next_type (resolved_type names variables t) (each_resolved names variables ts)
