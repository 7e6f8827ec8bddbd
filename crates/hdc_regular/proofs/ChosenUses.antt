-- What is built of a use by its choice.
use Rattle.std.proofs.Common.{◌≡◌, ℕ, ◌==◌, Bool, true, false, List, Option, Some, None, refl, sym}
use Rattle.hdc_base.specs.declared.place.At.{At}
use Rattle.hdc_regular.specs.declared.outline.Outline.{Outline}
use Rattle.hdc_regular.specs.declared.standing.Standing.{Standing}
use Rattle.hdc_regular.specs.declared.standing.Standing.TheVariants as standing
use Rattle.hdc_regular.specs.Resolved.{Parts}
use Rattle.hdc_regular.specs.Building.{outline_at, built_synonym, built_where, built_use}
use Rattle.hdc_regular.specs.Choosing.{choice_where, choice_of, chosen}

by_alias : (outlines : List Outline) (a : Option ℕ) (n : ℕ) (at : At) (ts : Parts) → chosen outlines (choice_where true a n) at ts ≡ built_synonym a (outline_at outlines n).holds n at ts
by_alias outlines (Some j) n at ts = refl
by_alias outlines None n at ts = refl

by_where : (outlines : List Outline) (b : Bool) (n : ℕ) (at : At) (ts : Parts) → chosen outlines (choice_where b (outline_at outlines n).alias n) at ts ≡ built_where b (outline_at outlines n) n at ts
by_where outlines true n at ts = by_alias outlines (outline_at outlines n).alias n at ts
by_where outlines false n at ts = refl

pub by_choice : (outlines : List Outline) (o : Option Standing) (count : ℕ) (at : At) (ts : Parts) → built_use outlines o count at ts ≡ chosen outlines (choice_of outlines o count) at ts
by_choice outlines None count at ts = refl
by_choice outlines (Some (standing.DataType n)) count at ts = refl
by_choice outlines (Some (standing.Synonym n k)) count at ts = sym (by_where outlines (k == count) n at ts)
by_choice outlines (Some standing.NotExpanded) count at ts = refl
