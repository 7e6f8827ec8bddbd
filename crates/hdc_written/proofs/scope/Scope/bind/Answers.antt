use Rattle.std.proofs.Common.{◌≡◌, [], ◌∷◌, ◌++◌, ap, ◌∙◌}
use Rattle.std.specs.Option.{option_flatten}
use Rattle.hdc_written.specs.declared.scope.Entry.{Entry}
use Rattle.hdc_written.proofs.Linked.{linked_one_more, indexed_one_more}
use Rattle.hdc_written.proofs.scope.Scope.bind.Goals as goal

pub invariant_of-self-2 : goal.invariant_of-self-2
invariant_of-self-2 g c =
    let entry : Entry g.row.T.Denot = record { name = c.args.name; what = c.args.what; before = c.flatten-before.result } in
    let grows : c.push.new.self.items ≡ c.self.inside.entries.items ++ entry ∷ [] = c.in_ok-push.ensures.items ∙ ap (λ es. es ++ entry ∷ []) c.try_reserve.ensures.items in (
      linked_one_more c.self.inside.entries.items c.push.new.self.items entry grows
          (c.flatten-before.ensures ∙ ap option_flatten (c.copied.ensures ∙ c.get.ensures.value) ∙ c.self.invariant.1 c.args.name) c.self.invariant.0,
      indexed_one_more c.self.inside.places c.insert.new.self c.self.inside.entries.items c.push.new.self.items entry c.len-place.result grows (c.len-place.ensures ∙ c.self.inside.entries.ok.0) c.in_ok-insert.ensures.updates c.self.invariant.1,
    )
