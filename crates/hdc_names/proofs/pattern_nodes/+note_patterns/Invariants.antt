use Rattle.std.proofs.Common.{◌≡◌, drop}
use Rattle.hdc_written.specs.Mirror.{each_pattern, apat_of, comma_pat_of, cons_pat_of}
use Rattle.hdc_names.specs.Sites.{each_pattern_nodes, cons_nodes}
use Rattle.hdc_names.specs.Trees.{all_found}
use Rattle.hdc_names.proofs.pattern_nodes.+note_patterns.Given as goal

abbrev pub invariant-note_apats-loop-part : goal.invariant-note_apats-loop-part
invariant-note_apats-loop-part l = all_found l.initial.found (each_pattern_nodes l.depth (each_pattern apat_of l.parts)) ≡ all_found l.found (each_pattern_nodes l.depth (each_pattern apat_of (drop l.part-index l.parts)))

abbrev pub invariant-note_comma_pats-loop-part : goal.invariant-note_comma_pats-loop-part
invariant-note_comma_pats-loop-part l = all_found l.initial.found (each_pattern_nodes l.depth (each_pattern comma_pat_of l.parts)) ≡ all_found l.found (each_pattern_nodes l.depth (each_pattern comma_pat_of (drop l.part-index l.parts)))

abbrev pub invariant-note_cons_pats-loop-index : goal.invariant-note_cons_pats-loop-index
invariant-note_cons_pats-loop-index l = all_found l.initial.found (cons_nodes l.initial.depth (each_pattern cons_pat_of l.parts)) ≡ all_found l.found (cons_nodes l.depth (each_pattern cons_pat_of (drop l.index l.parts)))
