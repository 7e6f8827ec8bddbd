-- The type that a part in memory holds.
use Rattle.std.specs.Prelude.{List, [], ◌∷◌}
use Rattle.hdc_regular.specs.declared.part.Part.{Part, Part-F, fold-Part}
use Rattle.hdc_regular.specs.Resolved.{Resolved, parameter, use_of, other, Parts, no_part, next_part}

-- the parts of a list
abbrev pub all_parts : List Resolved → Parts
all_parts [] = no_part
all_parts (t ∷ ts) = next_part t (all_parts ts)

abbrev pub part_step : Part-F Resolved → Resolved
part_step (Part-F.Parameter i) = parameter i
part_step (Part-F.Use n at ts) = use_of n at (all_parts ts)
part_step (Part-F.Other ts) = other (all_parts ts)

abbrev pub part_of : Part → Resolved
part_of = fold-Part Resolved part_step

abbrev pub parts_of : List Part → Parts
parts_of [] = no_part
parts_of (t ∷ ts) = next_part (part_of t) (parts_of ts)

-- parts, and more behind them
abbrev pub joined : Parts → Parts → Parts
joined no_part us = us
joined (next_part t ts) us = next_part t (joined ts us)
