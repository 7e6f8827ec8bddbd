use Rattle.std.proofs.Common.{◌≡◌, drop}
use Rattle.hdc_written.specs.Written.{all_bound}
use Rattle.hdc_written.specs.Mirror.{each_declaration, next_decl_of}
use Rattle.hdc_resolving.specs.Numbering.{entered}
use Rattle.hdc_resolving.proofs.binders.enter_decls.Given as goal

abbrev pub invariant-loop-part : goal.invariant-loop-part
invariant-loop-part l = entered (all_bound (each_declaration next_decl_of l.parts)) l.initial.walk ≡ entered (all_bound (each_declaration next_decl_of (drop l.part-index l.parts))) l.walk
