-- The operands of a chain in memory.
use Rattle.std.specs.Prelude.{map}
use Rattle.hdc_resolved.specs.Mirror.{expression_of}
use Rattle.hdc_resolving.specs.declared.chain.Building as memory
use Rattle.hdc_resolving.specs.declared.chain.Placed as memory_placed
use Rattle.hdc_resolving.specs.Grouped.{Placed, Building}

abbrev pub placed_of : memory_placed.Placed → Placed
placed_of p = record { at = p.at; what = expression_of p.what }

abbrev pub building : memory.Building → Building
building b = record { rest = map placed_of b.rest; done = map placed_of b.done }
