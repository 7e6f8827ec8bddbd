use Rattle.std.proofs.Common.{◌∙◌, map, ap, refl, None}
use Rattle.hdc_needs.specs.declared.frames.OpenBlock.{OpenBlock}
use Rattle.hdc_needs.specs.Kept.{mention_of}
use Rattle.hdc_needs.proofs.Describing.{block_done}
use Rattle.hdc_needs.proofs.Results.{ok_then}
use Rattle.hdc_needs.proofs.walk.Walk.open_block.Goals as goal

pub returns : goal.returns
returns c state h =
    let o : OpenBlock = record { declarations = c.args.block; graph = c.bind_names.new.graph; begun = 0; current = None } in
    ok_then c.push.result
    (λ e. block_done c.args.self.now c.bind_names.new.scope c.push.new.self c.len-level.result c.size-size.result (map mention_of c.as_slice.result.now) c.in_ok-graph.graph o state c.len-level.ensures c.size-size.ensures
    (ap (map mention_of) c.as_slice.ensures ∙ c.in_ok-names.ensures) c.in_ok-graph.ensures c.in_ok-bind_names.ensures refl refl e h)
    c.push.ensures
