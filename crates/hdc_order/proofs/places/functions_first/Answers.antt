use Rattle.std.proofs.Common.{ℕ, List, ◌++◌, ◌∷◌, [], sym, ap, ◌∙◌}
use Rattle.std.specs.Prelude.{not}
use Rattle.std.proofs.lemmas.Bool.{not_from_true, not_from_false}
use Rattle.hdc_order.specs.Order.{is_value}
use Rattle.hdc_order.proofs.Members.{kept_push, kept_same}
use Rattle.hdc_order.proofs.places.functions_first.Goals as goal
use Rattle.hdc_order.proofs.places.functions_first.Goals.{then-is_value+in_ok-push, else-is_value+in_ok-push-2}

pub loop-node-preserved : goal.loop-node-preserved
loop-node-preserved c =
    let node = c.loop-node.node in
    let value : ℕ → _ = is_value c.args.values.now in
    let push = λ (xs : List ℕ). xs ++ node ∷ [] in
    elim c.if-is_value.branch [
      | then-is_value+in_ok-push w ↦ record {
        functions = w.nodes-is ∙ c.loop-node.invariant.functions ∙ sym (kept_same (λ n. not (value n)) node (not_from_true (value node) w.if-is_value.true));
        values = w.behind-is ∙ w.in_ok-push.ensures.ok ∙ ap push c.loop-node.invariant.values ∙ sym (kept_push value node w.if-is_value.true);
      }
      | else-is_value+in_ok-push-2 w ↦ record {
        functions = w.nodes-is ∙ w.in_ok-push-2.ensures.ok ∙ ap push c.loop-node.invariant.functions ∙ sym (kept_push (λ n. not (value n)) node (not_from_false (value node) w.if-is_value.false));
        values = w.behind-is ∙ c.loop-node.invariant.values ∙ sym (kept_same value node w.if-is_value.false);
      }
    ]
