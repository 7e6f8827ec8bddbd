use Rattle.std.proofs.Common.{◌++◌, ap, ◌∙◌, append-nil}
use Rattle.hdc_names.specs.Fixities.{standard}
use Rattle.hdc_written.specs.Mirror.{tops_of}
use Rattle.hdc_names.proofs.Checking.{walked_in}
use Rattle.hdc_names.proofs.check.check_prelude.Goals as goal

pub returns : goal.returns
returns c =
    walked_in _ standard (tops_of c.args.prelude.now) c.check_tree.result (c.in_ok-bind_standard.ensures ∙ ap (λ s. standard ++ s) c.new-scope.ensures ∙ append-nil standard) c.check_tree.ensures
