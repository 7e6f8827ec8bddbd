-- What is numbered, in memory.
use Rattle.std.specs.Prelude.{ℕ}
use Rattle.hdc_resolved.specs.declared.name.Constructor.{Constructor}
use Rattle.hdc_resolved.specs.declared.name.Family.TheVariants as family
use Rattle.hdc_resolving.specs.declared.names.Numbering.{Numbering}
use Rattle.hdc_resolving.specs.Standing.{Numbered}

abbrev pub numbered : {T : Type 0} → Numbering T → Numbered T
numbered n = record { scope = n.scope; next = n.next }

abbrev pub constructor : ℕ → ℕ → ℕ → Constructor
constructor n tag fields = record { family = family.OfData n; tag = tag; fields = fields }
