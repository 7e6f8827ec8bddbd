use Rattle.std.proofs.Common.{refl}
use Rattle.hdc_datas.proofs.Steps.{takes}
use Rattle.hdc_datas.proofs.expand.Expansion.next.Goals as goal

pub returns : goal.returns
returns c = takes c.args.self.now (record { arguments = c.args.self.now.arguments; pending = c.pop.new.self }) c.pop.result refl c.pop.ensures (record { arguments = c.requires.arguments; pending = c.requires.pending })
