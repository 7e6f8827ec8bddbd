-- What becomes known of the meanings of synonyms, one after another.
use Rattle.std.specs.Prelude.{ℕ, Bool, List, [], ◌∷◌, slice_set}
use Rattle.hdc_tree.specs.declared.program.Top.{Top}
use Rattle.hdc_regular.specs.declared.outline.Outline.{Outline}
use Rattle.hdc_regular.specs.Resolved.{Parts, part_at, declaration_at}
use Rattle.hdc_regular.specs.Named.{body_of}
use Rattle.hdc_regular.specs.Walk.{alias_of}
use Rattle.hdc_regular.specs.Contents.{each_variables_in, flags_set}
use Rattle.hdc_regular.specs.Built.{built_by}

-- what is known by the types of a declaration
abbrev pub outline_of : Parts → Outline
outline_of ts = record { alias = alias_of (part_at 0 ts); holds = flags_set [] (each_variables_in ts) }

-- what is known once the declarations with these numbers are looked at, in this order
abbrev pub outlines_by : List Top → List Top → List Bool → List ℕ → List Outline → List Outline
outlines_by ps ts sounds [] outlines = outlines
outlines_by ps ts sounds (n ∷ ns) outlines = outlines_by ps ts sounds ns (slice_set outlines n (outline_of (body_of (declaration_at (built_by outlines ps ts sounds) n))))
