-- What becomes of a constructor and its arguments.
use Rattle.std.specs.Prelude.{ℕ, ◌==◌, Bool, true, false, List, Option, Some, None}
use Rattle.hdc_base.specs.declared.place.At.{At}
use Rattle.hdc_regular.specs.declared.building.Choice.{Choice}
use Rattle.hdc_regular.specs.declared.building.Choice.TheVariants as choice
use Rattle.hdc_regular.specs.declared.outline.Outline.{Outline}
use Rattle.hdc_regular.specs.declared.standing.Standing.{Standing}
use Rattle.hdc_regular.specs.declared.standing.Standing.TheVariants as standing
use Rattle.hdc_regular.specs.Resolved.{Resolved, use_of, other, Parts, part_at}
use Rattle.hdc_regular.specs.Building.{outline_at, held_from}

abbrev pub choice_where : Bool → Option ℕ → ℕ → Choice
choice_where true (Some j) n = choice.One j
choice_where true None n = choice.Holding n
choice_where false a n = choice.Whole

abbrev pub choice_of : List Outline → Option Standing → ℕ → Choice
choice_of outlines None count = choice.Whole
choice_of outlines (Some (standing.DataType n)) count = choice.Using n
choice_of outlines (Some (standing.Synonym n k)) count = choice_where (k == count) (outline_at outlines n).alias n
choice_of outlines (Some standing.NotExpanded) count = choice.Whole

-- what is built by a choice
abbrev pub chosen : List Outline → Choice → At → Parts → Resolved
chosen outlines choice.Whole at ts = other ts
chosen outlines (choice.Using n) at ts = use_of n at ts
chosen outlines (choice.Holding n) at ts = use_of n at (held_from (outline_at outlines n).holds 0 ts)
chosen outlines (choice.One j) at ts = part_at j ts
