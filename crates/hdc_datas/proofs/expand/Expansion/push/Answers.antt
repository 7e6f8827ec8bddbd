use Rattle.std.proofs.Common.{refl}
use Rattle.hdc_datas.proofs.Steps.{push_puts}
use Rattle.hdc_datas.proofs.expand.Expansion.push.Goals as goal

pub returns : goal.returns
returns c = push_puts c.args.self.now (record { arguments = c.args.self.now.arguments; pending = c.push.new.self }) (record { part = c.args.part; environment = c.args.environment }) refl c.in_ok-push.ensures.ok c.requires.well c.requires.within
