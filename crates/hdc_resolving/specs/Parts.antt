-- The bindings of a block, and the qualifiers of a comprehension, that are put together.
use Rattle.std.specs.Prelude.{ℕ, List, [], ◌∷◌, map}
use Rattle.hdc_resolved.specs.Syntax as resolved
use Rattle.hdc_resolved.specs.Mirror.{expression_of, pattern_of, members_of, signed_of}
use Rattle.hdc_resolving.specs.declared.growing.Declared.{Declared}
use Rattle.hdc_resolving.specs.declared.known.Known.{Known}
use Rattle.hdc_resolving.specs.declared.quals.Part as memory
use Rattle.hdc_resolving.specs.declared.quals.Part.TheVariants as memory_part
use Rattle.hdc_resolving.specs.declared.walk.Counter.{Counter}
use Rattle.hdc_resolving.specs.Locals.{housed, order_at}
use Rattle.hdc_resolving.specs.Numbering.{ended}

-- the bindings, the signatures, and for each declaration the place of its binding
pub record Bound : Type 0 where
  pub members : resolved.Members
  pub signatures : List resolved.Signed
  pub homes : List ℕ

-- the block of what is declared, where so much is counted
abbrev pub block_at : Known → Counter → Bound → resolved.Block
block_at k c b = resolved.block b.members b.signatures (housed b.homes (order_at k c.blocks))

-- what is declared, in memory
abbrev pub bound_of : Declared → Bound
bound_of d = record { members = members_of d.members; signatures = map signed_of d.signatures; homes = d.homes }

-- ---- qualifiers

-- a qualifier whose parts are resolved
pub data Part : Type 0 where
  test : resolved.Expression → Part
  from : resolved.Pattern → resolved.Expression → Part
  bind : Bound → Part

-- the same of what is held in memory
abbrev pub part_of : memory.Part → Part
part_of (memory_part.Test e) = test (expression_of e)
part_of (memory_part.From p e) = from (pattern_of p) (expression_of e)
part_of (memory_part.Bind d) = bind (bound_of d)

-- qualifiers, and what is counted behind them
pub record Wrapped : Type 0 where
  pub quals : resolved.Qualifiers
  pub counter : Counter

-- a qualifier before those behind it
abbrev pub wrap : Known → Part → Wrapped → Wrapped
wrap k (test e) q = record { quals = resolved.condition e q.quals; counter = q.counter }
wrap k (from p e) q = record { quals = resolved.generator k.generator p e q.quals; counter = q.counter }
wrap k (bind b) q = record { quals = resolved.bindings (block_at k q.counter b) q.quals; counter = ended q.counter }

-- qualifiers before those behind them, the last one first
abbrev pub wrapped : Known → List Part → Wrapped → Wrapped
wrapped k [] q = q
wrapped k (p ∷ ps) q = wrap k p (wrapped k ps q)
