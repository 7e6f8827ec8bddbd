use Rattle.std.proofs.Common.{◌≡◌, ◌++◌, drop}
use Rattle.hdc_written.specs.Mirror.{each_link, link_of}
use Rattle.hdc_names.specs.Sites.{rest_of}
use Rattle.hdc_names.proofs.site.push_links.Given as goal

abbrev pub invariant-loop-index : goal.invariant-loop-index
invariant-loop-index l = l.initial.rest ++ rest_of l.scope (each_link link_of l.links) l.last ≡ l.rest ++ rest_of l.scope (each_link link_of (drop l.index l.links)) l.last
