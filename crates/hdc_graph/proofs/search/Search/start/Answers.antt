use Rattle.std.proofs.Common.{◌≡◌, ◌+◌, ◌∷◌, [], refl, ap, ◌∙◌, arith, length, length-append}
use Rattle.hdc_graph.specs.declared.search.State.TheVariants.{Unseen}
use Rattle.hdc_graph.proofs.Starting.{under_way, unseen_push, opened_push, counts_push}
use Rattle.hdc_graph.proofs.search.Search.start.Goals as goal

pub loop-node-preserved : goal.loop-node-preserved
loop-node-preserved c =
    let k = c.loop-node.invariant in
    let fewer = opened_push c.loop-node.states Unseen in
    rw (c.in_ok-push.ensures.ok, c.in_ok-push-2.ensures.ok) (record {
      each = length-append c.loop-node.states (Unseen ∷ []) ∙ ap (λ n. n + 1) k.each;
      unseen = unseen_push c.loop-node.states k.unseen;
      opened = fewer ∙ ap (λ n. n + 1) k.opened;
      size = length-append c.loop-node.pending (c.loop-node.node ∷ []) ∙ ap (λ n. n + 1) k.size;
      pending = counts_push c.loop-node.pending c.loop-node.node k.size k.pending;
    })

pub returns : goal.returns
returns c =
    let k = c.loop-node.invariant in
    let len = c.len-node-end.ensures in
    let all : c.loop-node.node ≡ length c.args.graph.now = omega arith in
    under_way c.args.graph.now _ len.closed c.requires (k.each ∙ all) k.unseen (k.opened ∙ all) (k.size ∙ all) (λ j l. k.pending j (omega (arith, l, all))) c.new.ensures c.new-2.ensures refl
