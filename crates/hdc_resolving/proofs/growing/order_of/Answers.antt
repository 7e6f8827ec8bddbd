use Rattle.std.proofs.Common.{[], sym, ap, ◌∙◌}
use Rattle.std.specs.Option.{option_copied, unwrap_or}
use Rattle.std.proofs.lemmas.Option.{unwrap_or-slice_get}
use Rattle.hdc_resolving.specs.Locals.{housed}
use Rattle.hdc_resolving.proofs.growing.order_of.Goals as goal

pub returns-in-None : goal.returns-in-None
returns-in-None c =
    let orders = c.args.known.now.orders in
    let none = sym (unwrap_or-slice_get orders _ []) ∙ ap (λ z. unwrap_or z []) (sym c.get.ensures.value ∙ ap option_copied c.in-None.is) in
    c.new.ensures ∙ sym (ap (housed c.args.homes.now) none)
