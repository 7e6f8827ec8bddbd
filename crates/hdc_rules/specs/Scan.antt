-- The events of right sides, gone through in order, as the code has it.
use Rattle.std.specs.Prelude.{ℕ, ◌-◌, List, [], ◌∷◌, ◌++◌, length, take, drop, is_some, codes}
use Rattle.hdc_tree.specs.declared.name.Name.{Name}
use Rattle.hdc_tree.specs.declared.program.Top.{Top}
use Rattle.hdc_tree.specs.declared.program.Top.TheVariants as top
use Rattle.hdc_written.specs.declared.breach.Breach.{Breach}
use Rattle.hdc_written.specs.Breaches.{all_noted}
use Rattle.hdc_written.specs.Scopes.{standing_for}
use Rattle.hdc_written.specs.Written.{Declarations, all_bound}
use Rattle.hdc_written.specs.Mirror.{head_patterns, rhs_of}
use Rattle.hdc_written.specs.Events.{Event, used, constructed, matched, ranged, generated, opened, introduced, block, declaring, body, closed, equation_events}
use Rattle.hdc_rules.specs.declared.known.Known.{Known}
use Rattle.hdc_rules.specs.declared.scan.Scan.{Scan}
use Rattle.hdc_rules.specs.Known.{Values, value, skeletons}
use Rattle.hdc_rules.specs.Names.{where_so, unknown, unless_some, unless_counted, is_skeleton}
use Rattle.hdc_rules.specs.Bindings.{block_breaches}
use Rattle.hdc_rules.specs.Uses.{locally}

abbrev pub note_all : List Breach → Scan → Scan
note_all bs s = record { scope = s.scope; marks = s.marks; found = all_noted s.found bs }

-- how many bindings there were when what is in scope last came into scope
abbrev pub last_mark : List ℕ → ℕ
last_mark [] = 0
last_mark (m ∷ ms) = m

-- the bindings since then
abbrev pub bound_last : Scan → Values
bound_last s = take (length s.scope - last_mark s.marks) s.scope

abbrev pub marked : Scan → Scan
marked s = record { scope = s.scope; marks = length s.scope ∷ s.marks; found = s.found }

abbrev pub introduction : Name → Scan → List Breach
introduction x s = where_so (is_some (standing_for x.text (bound_last s))) 3 x.at ++ is_skeleton (standing_for x.text skeletons) x.at

abbrev pub introduce : Name → Scan → Scan
introduce x s = record { scope = value x.text ∷ s.scope; marks = s.marks; found = all_noted s.found (introduction x s) }

abbrev pub blocked : Known → Declarations → Scan → Scan
blocked k ds s = record { scope = locally (all_bound ds) s.scope; marks = length s.scope ∷ s.marks; found = all_noted s.found (block_breaches k.types ds) }

abbrev pub left : Scan → Scan
left s = record { scope = drop (length s.scope - last_mark s.marks) s.scope; marks = drop 1 s.marks; found = s.found }

abbrev pub step : Known → Event → Scan → Scan
step k (used x) s = note_all (unknown s.scope x.text x.at) s
step k (constructed c) s = note_all (unless_some (standing_for c.text k.constructors) c.at) s
step k (matched c n) s = note_all (unless_counted (standing_for c.text k.constructors) 6 n c.at) s
step k (ranged a) s = note_all (unknown k.library (codes "enumFromTo") a) s
step k (generated a) s = note_all (unknown k.library (codes "concatMap") a) s
step k opened s = marked s
step k (introduced x) s = introduce x s
step k (block ds) s = blocked k ds s
step k declaring s = s
step k body s = s
step k closed s = left s

abbrev pub run : Known → List Event → Scan → Scan
run k [] s = s
run k (e ∷ es) s = run k es (step k e s)

abbrev pub run_top : Known → Top → Scan → Scan
run_top k top.Empty s = s
run_top k (top.Data d) s = s
run_top k (top.Synonym y) s = s
run_top k (top.Fixity f) s = s
run_top k (top.Signature x xs a t) s = s
run_top k (top.Equation h r) s = run k (equation_events (head_patterns h) (rhs_of r)) s

abbrev pub run_tops : Known → List Top → Scan → Scan
run_tops k [] s = s
run_tops k (t ∷ ts) s = run_tops k ts (run_top k t s)
