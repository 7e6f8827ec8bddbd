use Rattle.std.proofs.Common.{◌++◌, length, map, ap, sym, ◌∙◌}
use Rattle.hdc_resolved.specs.Mirror.{pattern_of}
use Rattle.hdc_written.specs.Mirror.{each_pattern, cons_pat_of}
use Rattle.hdc_resolving.specs.Patterns.{each_resolved}
use Rattle.hdc_resolving.proofs.Patterns.{as_many}
use Rattle.hdc_resolving.proofs.pattern.+resolve_patterns.Goals as goal

pub resolve_pat-join-requires : goal.resolve_pat-join-requires
resolve_pat-join-requires n c =
    let k = c.args.known.now in
    let names = c.args.walk.now.names in
    let parts = c.as_slice.result.now in
    ap length (c.as_slice-2.ensures ∙ sym c.as_slice.ensures)
    ∙ as_many cons_pat_of parts c.push_cons_pats.new.pats k names (c.in_ok-push_cons_pats.ensures ∙ ap (λ z. map pattern_of z ++ each_resolved (each_pattern cons_pat_of parts) k names) c.new-pats.ensures)
