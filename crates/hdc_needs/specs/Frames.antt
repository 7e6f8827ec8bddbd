-- What happens to the frames that the code keeps.
use Rattle.std.specs.Prelude.{ℕ, ◌+◌, nat_lt, [], ◌∷◌, ◌++◌, length, slice_set, Option, None, Some, if◌then◌else◌}
use Rattle.hdc_graph.specs.Needs.{Nodes, needs_of}
use Rattle.hdc_needs.specs.declared.frames.OpenBlock.{OpenBlock}
use Rattle.hdc_needs.specs.declared.frames.Frame.{Frame}

-- one need more
abbrev pub linked : Nodes → ℕ → ℕ → Nodes
linked g from to = slice_set g from (needs_of g from ++ to ∷ [])

-- where both are nodes
abbrev pub linked_within : Nodes → ℕ → ℕ → Nodes
linked_within g from to = if nat_lt from (length g) then (if nat_lt to (length g) then linked g from to else g) else g

abbrev pub needing_by : Option ℕ → ℕ → Nodes → Nodes
needing_by None node g = g
needing_by (Some from) node g = linked_within g from node

abbrev pub needing : ℕ → OpenBlock → OpenBlock
needing node o = record { declarations = o.declarations; graph = needing_by o.current node o.graph; begun = o.begun; current = o.current }

abbrev pub beginning : OpenBlock → OpenBlock
beginning o = record { declarations = o.declarations; graph = o.graph; begun = o.begun + 1; current = Some o.begun }

abbrev pub going_behind : OpenBlock → OpenBlock
going_behind o = record { declarations = o.declarations; graph = o.graph; begun = o.begun; current = None }

abbrev pub in_block : (OpenBlock → OpenBlock) → Option OpenBlock → Option OpenBlock
in_block f None = None
in_block f (Some o) = Some (f o)

abbrev pub frame_needing : ℕ → Frame → Frame
frame_needing node f = record { size = f.size; block = in_block (needing node) f.block }

abbrev pub frame_beginning : Frame → Frame
frame_beginning f = record { size = f.size; block = in_block beginning f.block }

abbrev pub frame_going_behind : Frame → Frame
frame_going_behind f = record { size = f.size; block = in_block going_behind f.block }

abbrev pub no_frame : Frame
no_frame = record { size = 0; block = None }
