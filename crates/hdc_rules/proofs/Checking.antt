-- What is found in a text is its first breach.
use Rattle.std.proofs.Common.{◌≡◌, ℕ, List, ap, sym, ◌∙◌}
use Rattle.hdc_tree.specs.declared.program.Top.{Top}
use Rattle.hdc_written.specs.declared.breach.Found.{Found}
use Rattle.hdc_written.specs.Breaches.{IsFirst, IsOneOf, all_noted, nothing_found}
use Rattle.hdc_written.proofs.FirstBreach.{noted_joined, first_of_list}
use Rattle.hdc_rules.specs.declared.known.Known.{Known}
use Rattle.hdc_rules.specs.declared.scan.Scan.{Scan}
use Rattle.hdc_rules.specs.Known.{Values}
use Rattle.hdc_rules.specs.Bindings.{tops_breaches}
use Rattle.hdc_rules.specs.Uses.{each_top_breaches, text_breaches}
use Rattle.hdc_rules.specs.Scan.{run_tops}
use Rattle.hdc_rules.proofs.Scanning.{ran_tops}

all_found : (k : Known) (v : Values) (ts : List Top) (ms : List ℕ) (f : Found) (s : Scan) → f ≡ all_noted nothing_found (tops_breaches k.types ts) → s ≡ run_tops k ts (record { scope = v; marks = ms; found = f }) → s.found ≡ all_noted nothing_found (text_breaches k v ts)
all_found k v ts ms f s e g =
    ap (λ (t : Scan). t.found) (g ∙ ran_tops k ts (record { scope = v; marks = ms; found = f }))
    ∙ ap (λ (h : Found). all_noted h (each_top_breaches k v ts)) e
    ∙ sym (noted_joined nothing_found (tops_breaches k.types ts) (each_top_breaches k v ts))

pub first_found : (k : Known) (v : Values) (ts : List Top) (ms : List ℕ) (f : Found) (s : Scan) → f ≡ all_noted nothing_found (tops_breaches k.types ts) → s ≡ run_tops k ts (record { scope = v; marks = ms; found = f }) → IsFirst (λ b. IsOneOf b (text_breaches k v ts)) s.found.breach
first_found k v ts ms f s e g = rw (all_found k v ts ms f s e g) (first_of_list (text_breaches k v ts))
