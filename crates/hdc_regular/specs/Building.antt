-- Resolved types of which only that is built which their expansions hold.
use Rattle.std.specs.Prelude.{ℕ, suc, ◌==◌, Bool, true, false, List, [], Option, Some, None, slice_index_or}
use Rattle.hdc_base.specs.declared.place.At.{At}
use Rattle.hdc_written.specs.Scopes.{Binding, standing_for}
use Rattle.hdc_written.specs.WrittenTypes.{WrittenType, type_constructor, type_variable, unit_type, type_in_parentheses, tuple_type, list_type, arrow_type, Types, no_type, next_type}
use Rattle.hdc_rules.specs.Types.{count_types}
use Rattle.hdc_regular.specs.declared.outline.Outline.{Outline}
use Rattle.hdc_regular.specs.declared.standing.Standing.{Standing}
use Rattle.hdc_regular.specs.declared.standing.Standing.TheVariants as standing
use Rattle.hdc_regular.specs.Resolved.{Resolved, use_of, other, Parts, no_part, next_part, part_at}
use Rattle.hdc_regular.specs.Resolving.{variable, arrows}

-- nothing is known of a meaning
abbrev pub no_outline : Outline
no_outline = record { alias = None; holds = [] }

abbrev pub outline_at : List Outline → ℕ → Outline
outline_at outlines n = slice_index_or outlines n no_outline

-- whether a meaning holds a variable
abbrev pub is_held : List Bool → ℕ → Bool
is_held holds j = slice_index_or holds j false

abbrev pub held_part : Bool → Resolved → Resolved
held_part true t = t
held_part false t = other no_part

-- the arguments that are held, from this one on
abbrev pub held_from : List Bool → ℕ → Parts → Parts
held_from holds j no_part = no_part
held_from holds j (next_part t ts) = next_part (held_part (is_held holds j) t) (held_from holds (suc j) ts)

-- a synonym whose meaning is a variable is the argument for it
abbrev pub built_synonym : Option ℕ → List Bool → ℕ → At → Parts → Resolved
built_synonym (Some j) holds n at ts = part_at j ts
built_synonym None holds n at ts = use_of n at (held_from holds 0 ts)

abbrev pub built_where : Bool → Outline → ℕ → At → Parts → Resolved
built_where true outline n at ts = built_synonym outline.alias outline.holds n at ts
built_where false outline n at ts = other ts

abbrev pub built_use : List Outline → Option Standing → ℕ → At → Parts → Resolved
built_use outlines None count at ts = other ts
built_use outlines (Some (standing.DataType n)) count at ts = use_of n at ts
built_use outlines (Some (standing.Synonym n k)) count at ts = built_where (k == count) (outline_at outlines n) n at ts
built_use outlines (Some standing.NotExpanded) count at ts = other ts

-- a type as it is built, by what is known of the meanings of synonyms
abbrev mutual
  pub built : List Outline → List (Binding Standing) → List (Binding ℕ) → WrittenType → Resolved
  built outlines names params (type_constructor c ts) = built_use outlines (standing_for c.text names) (count_types ts) c.at (each_built outlines names params ts)
  built outlines names params (type_variable x) = variable (standing_for x.text params)
  built outlines names params (unit_type a) = other no_part
  built outlines names params (type_in_parentheses a t) = built outlines names params t
  built outlines names params (tuple_type a ts) = other (each_built outlines names params ts)
  built outlines names params (list_type a t) = other (next_part (built outlines names params t) no_part)
  built outlines names params (arrow_type t ts) = arrows (built outlines names params t) (each_built outlines names params ts)

  pub each_built : List Outline → List (Binding Standing) → List (Binding ℕ) → Types → Parts
  each_built outlines names params no_type = no_part
  each_built outlines names params (next_type t ts) = next_part (built outlines names params t) (each_built outlines names params ts)
