use Rattle.std.proofs.Common.{◌≡◌, Some, None, refl}
use Rattle.hdc_written.specs.Scopes.{standing_for}
use Rattle.hdc_needs.specs.declared.bind.Target.TheVariants as target
use Rattle.hdc_needs.proofs.Describing.{used_done}
use Rattle.hdc_needs.proofs.Results.{ok_then}
use Rattle.hdc_needs.proofs.walk.Walk.need.Goals as goal

pub returns-in-Some-Local : goal.returns-in-Some-Local
returns-in-Some-Local c state h =
    let r = Some (target.Local c.in-Some-Local.level c.in-Some-Local.node) in
    let stands : standing_for c.args.name.now.text c.args.self.now.scope ≡ r = cc in
    ok_then c.need.result (λ e. used_done c.args.self.now c.args.name.now c.need.new.self r state stands e h) c.need.ensures

pub returns-in-Some-Variable : goal.returns-in-Some-Variable
returns-in-Some-Variable c state h =
    let stands : standing_for c.args.name.now.text c.args.self.now.scope ≡ Some target.Variable = cc in
    used_done c.args.self.now c.args.name.now c.args.self.now.frames (Some target.Variable) state stands refl h

pub returns-in-None : goal.returns-in-None
returns-in-None c state h =
    let stands : standing_for c.args.name.now.text c.args.self.now.scope ≡ None = cc in
    used_done c.args.self.now c.args.name.now c.args.self.now.frames None state stands refl h
