use Rattle.std.proofs.Common.{◌≡◌, drop}
use Rattle.hdc_written.specs.Scopes.{bound_to}
use Rattle.hdc_written.specs.Written.{all_bound}
use Rattle.hdc_written.specs.Mirror.{each_declaration, next_decl_of}
use Rattle.hdc_written.proofs.binders.bind_decls.Given as goal

abbrev pub invariant-loop-part : goal.invariant-loop-part
invariant-loop-part g l = bound_to l.what (all_bound (each_declaration next_decl_of l.parts)) l.initial.scope ≡ bound_to l.what (all_bound (each_declaration next_decl_of (drop l.part-index l.parts))) l.scope
