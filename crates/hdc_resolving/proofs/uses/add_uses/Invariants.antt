use Rattle.std.proofs.Common.{◌≡◌, ◌++◌, drop}
use Rattle.hdc_written.specs.Mirror.{each_link, link_of}
use Rattle.hdc_resolving.specs.Locals.{link_uses}
use Rattle.hdc_resolving.proofs.uses.add_uses.Given as goal

abbrev pub invariant-loop-link : goal.invariant-loop-link
invariant-loop-link l = l.initial.uses ++ link_uses (each_link link_of l.links) l.known l.walk.names ≡ l.uses ++ link_uses (each_link link_of (drop l.link-index l.links)) l.known l.walk.names
