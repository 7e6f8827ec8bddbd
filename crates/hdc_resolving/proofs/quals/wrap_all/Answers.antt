use Rattle.std.proofs.Common.{◌∙◌}
use Rattle.hdc_resolved.specs.Mirror.{qualifiers_of}
use Rattle.hdc_resolving.specs.Parts.{part_of, wrap}
use Rattle.hdc_resolving.proofs.Wrapping.{next_wrapped, moved_on}
use Rattle.hdc_resolving.proofs.quals.wrap_all.Goals as goal

pub loop-part-preserved : goal.loop-part-preserved
loop-part-preserved c =
    let k = c.args.known.now in
    let now = c.loop-part.walk in
    let next = c.wrap.new.walk in
    record {
      what = c.loop-part.invariant.what ∙ next_wrapped k c.loop-part.parts c.pop.new.self c.in-Some.part now next c.loop-part.whole c.in_ok-whole.whole c.in-Some.ensures c.in_ok-whole.ensures.what c.in_ok-whole.ensures.moved;
      moved = moved_on (wrap k (part_of c.in-Some.part) (record { quals = qualifiers_of c.loop-part.whole; counter = now.counter })).counter c.args.walk.now now next c.loop-part.invariant.moved c.in_ok-whole.ensures.moved;
    }
