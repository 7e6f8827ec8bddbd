use Rattle.std.proofs.Common.{ap, ◌∙◌, refl}
use Rattle.hdc_written.specs.Mirror.{tops_of}
use Rattle.hdc_bindings.specs.Defined.{Defined, defining}
use Rattle.hdc_bindings.proofs.Texts.{both_defined, bindings_are, signatures_are}
use Rattle.hdc_bindings.proofs.resolve.resolve_bindings.Goals as goal

pub returns-clause-decls : goal.returns-clause-decls
returns-clause-decls c =
    let ps = tops_of c.args.prelude.now in
    let ts = tops_of c.args.program.now in
    let o = c.in_ok-opened.opened in
    let o2 = c.in_ok-opened-2.opened in
    ap (λ (z : Defined). z.done)
    (both_defined ps ts c.args.orders o o2 o.known o2.known o.walk c.resolve_text.new.walk o2.walk (defining c.new-defining.result) (defining c.resolve_text.new.defining) (defining c.resolve_text-2.new.defining) (defining c.close.new.self)
    c.new-defining.ensures c.in_ok-opened.ensures refl refl c.in_ok-resolve_text.ensures.what c.in_ok-resolve_text.ensures.moved c.in_ok-opened-2.ensures refl refl c.in_ok-resolve_text-2.ensures.what c.in_ok-close.ensures)
    ∙ bindings_are ps ts c.args.orders

pub returns-clause-signatures : goal.returns-clause-signatures
returns-clause-signatures c =
    let ps = tops_of c.args.prelude.now in
    let ts = tops_of c.args.program.now in
    let o = c.in_ok-opened.opened in
    let o2 = c.in_ok-opened-2.opened in
    ap (λ (z : Defined). z.signatures)
    (both_defined ps ts c.args.orders o o2 o.known o2.known o.walk c.resolve_text.new.walk o2.walk (defining c.new-defining.result) (defining c.resolve_text.new.defining) (defining c.resolve_text-2.new.defining) (defining c.close.new.self)
    c.new-defining.ensures c.in_ok-opened.ensures refl refl c.in_ok-resolve_text.ensures.what c.in_ok-resolve_text.ensures.moved c.in_ok-opened-2.ensures refl refl c.in_ok-resolve_text-2.ensures.what c.in_ok-close.ensures)
    ∙ signatures_are ps ts c.args.orders
