use Rattle.std.proofs.Common.{◌<◌, [], ◌∷◌, length, get_or, sym, ap, ◌∙◌, arith}
use Rattle.std.proofs.lemmas.Grind.{get_or_default_zero}
use Rattle.hdc_synonyms.proofs.Adding.{same_size, below_at}
use Rattle.hdc_synonyms.proofs.Loops.{next_need}
use Rattle.hdc_synonyms.proofs.graph.add_needs.Goals as goal

pub add_edge-requires-clause-to : goal.add_edge-requires-clause-to
add_edge-requires-clause-to c =
    let size = c.loop-to.invariant.size in
    let test = c.loop-to-test.true in
    let below = below_at (length c.args.graph.now) c.args.needs.now c.loop-to.to-index 0 c.requires.within (omega (arith, test)) in
    omega (arith, size, below)

pub loop-to-preserved : goal.loop-to-preserved
loop-to-preserved c =
    let size = c.loop-to.invariant.size in
    let test = c.loop-to-test.true in
    let from_in = c.requires.from in
    let lt : c.loop-to.to-index < length c.args.needs.now = omega (arith, test) in
    let within : c.args.from < length c.loop-to.graph = omega (arith, size, from_in) in
    let to = get_or c.args.needs.now c.loop-to.to-index 0 in
    record {
      size = ap length c.in_ok-add_edge.ensures.ok ∙ same_size c.args.from (to ∷ []) c.loop-to.graph ∙ size;
      so_far = next_need c.args.from c.args.needs.now c.loop-to.to-index to c.args.graph.now c.loop-to.graph c.add_edge.new.self c.loop-to.invariant.so_far within lt (sym (get_or_default_zero c.args.needs.now c.loop-to.to-index to lt)) c.in_ok-add_edge.ensures.ok;
    }
