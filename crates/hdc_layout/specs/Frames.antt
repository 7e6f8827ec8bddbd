-- A stack in memory: its entries from the lowest, each with the summary of the stack whose top it is.
use Rattle.std.specs.Prelude.{◌≡◌, List, [], ◌∷◌, reverse}
use Rattle.hdc_layout.specs.declared.summary.Entry.{Entry}
use Rattle.hdc_layout.specs.declared.stack.Frame.{Frame}
use Rattle.hdc_layout.specs.Blocks.{summary_of}

-- the entries of frames
abbrev pub entries_of : List Frame → List Entry
entries_of [] = []
entries_of (f ∷ below) = f.entry ∷ entries_of below

-- each frame has the summary of the stack whose top it is
abbrev pub AreSummed : List Frame → Type 0
AreSummed [] = Unit {0}
AreSummed (f ∷ below) = (f.summary ≡ summary_of (f.entry ∷ entries_of below)) × AreSummed below

-- the entries from the top
abbrev pub entries : List Frame → List Entry
entries frames = entries_of (reverse frames)

-- from the top each frame has the summary of the stack whose top it is
abbrev pub IsSummed : List Frame → Type 0
IsSummed frames = AreSummed (reverse frames)
