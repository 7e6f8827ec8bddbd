use Rattle.std.proofs.Common.{◌≡◌, ◌+◌, ◌<◌, ◌∷◌, [], length, refl, ap, ◌∙◌, arith, le_refl, length-append}
use Rattle.hdc_graph.proofs.Emptying.{closing_none, closing_one, lies_in_states}
use Rattle.hdc_graph.proofs.search.Search.close.Goals as goal

pub loop-self-init : goal.loop-self-init
loop-self-init c = record { nodes = closing_none c.args.self.now c.requires.path; count = refl; above = c.requires.lies; within = le_refl _ }

pub set-requires : goal.set-requires
set-requires c =
    let k = c.loop-self.invariant in
    lies_in_states c.args.self.now c.loop-self.self (record c.loop-self.self { path = c.pop.new.self }) c.in-Some.node c.requires.path k.nodes c.in-Some.ensures k.within

pub loop-self-preserved-in-Some : goal.loop-self-preserved-in-Some
loop-self-preserved-in-Some c =
    let k = c.loop-self.invariant in
    let more : c.args.from < length c.loop-self.self.path = omega arith in
    let size : length c.loop-self.self.path ≡ length c.pop.new.self + 1 = ap length c.in-Some.ensures ∙ length-append c.pop.new.self (c.in-Some.node ∷ []) in
    let within = k.within in record {
      nodes = closing_one c.args.self.now c.loop-self.self (record c.loop-self.self { states = c.set.new.self; path = c.pop.new.self }) c.in-Some.node c.requires.path k.nodes c.in-Some.ensures within (rw (← k.count) c.set.ensures) refl refl;
      count = k.count;
      above = omega (arith, more, size);
      within = omega (arith, within, size);
    }
