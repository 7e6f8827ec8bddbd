-- One turn of a loop over the declarations behind the first, or over the needs of one.
use Rattle.std.proofs.Common.{◌≡◌, ℕ, suc, ◌+◌, ◌<◌, List, [], ◌∷◌, length, drop, get_or, false, Bool, sym, ap, ◌∙◌, add-one}
use Rattle.hdc_tree.specs.declared.program.NextTop.{NextTop}
use Rattle.hdc_graph.specs.Needs.{Nodes}
use Rattle.hdc_written.specs.declared.breach.Found.{Found}
use Rattle.hdc_written.specs.Breaches.{all_noted}
use Rattle.hdc_written.specs.Mirror.{tops_behind}
use Rattle.hdc_written.specs.Scopes.{Binding}
use Rattle.hdc_written.proofs.FirstBreach.{noted_joined}
use Rattle.hdc_written.proofs.Loops.{stepped}
use Rattle.hdc_synonyms.specs.Adding.{with_needs, top_added, each_added}
use Rattle.hdc_synonyms.specs.Noted.{where_cyclic, cyclic_breaches}
use Rattle.hdc_synonyms.proofs.Adding.{with_joined}

-- one more declaration is looked at
pub next_top_noted : (cyclic : List Bool) (tops : List NextTop) (i : ℕ) (x : NextTop) (start now next : Found) → all_noted start (cyclic_breaches cyclic 1 (tops_behind tops)) ≡ all_noted now (cyclic_breaches cyclic (suc i) (tops_behind (drop i tops))) → i < length tops → x ≡ get_or tops i x → next ≡ all_noted now (where_cyclic (get_or cyclic (i + 1) false) x.top) → all_noted start (cyclic_breaches cyclic 1 (tops_behind tops)) ≡ all_noted next (cyclic_breaches cyclic (suc (i + 1)) (tops_behind (drop (i + 1) tops)))
next_top_noted cyclic tops i x start now next so_far lt is e =
    let rest = tops_behind (drop (i + 1) tops) in
    so_far
    ∙ ap (λ z. all_noted now (cyclic_breaches cyclic (suc i) (tops_behind z))) (stepped tops i x lt is)
    ∙ noted_joined now (where_cyclic (get_or cyclic (suc i) false) x.top) (cyclic_breaches cyclic (suc (suc i)) rest)
    ∙ ap (λ n. all_noted (all_noted now (where_cyclic (get_or cyclic n false) x.top)) (cyclic_breaches cyclic (suc n) rest)) (sym (add-one i))
    ∙ ap (λ (f : Found). all_noted f (cyclic_breaches cyclic (suc (i + 1)) rest)) (sym e)

-- one more declaration gets its needs
pub next_top_added : (declared : List (Binding ℕ)) (tops : List NextTop) (i : ℕ) (x : NextTop) (start now next : Nodes) → each_added declared 1 (tops_behind tops) start ≡ each_added declared (suc i) (tops_behind (drop i tops)) now → i < length tops → x ≡ get_or tops i x → next ≡ top_added declared (i + 1) x.top now → each_added declared 1 (tops_behind tops) start ≡ each_added declared (suc (i + 1)) (tops_behind (drop (i + 1) tops)) next
next_top_added declared tops i x start now next so_far lt is e =
    let rest = tops_behind (drop (i + 1) tops) in
    so_far
    ∙ ap (λ z. each_added declared (suc i) (tops_behind z) now) (stepped tops i x lt is)
    ∙ ap (λ n. each_added declared (suc n) rest (top_added declared n x.top now)) (sym (add-one i))
    ∙ ap (each_added declared (suc (i + 1)) rest) (sym e)

-- one more need is added
pub next_need : (n : ℕ) (needs : List ℕ) (i x : ℕ) (start now next : Nodes) → with_needs n needs start ≡ with_needs n (drop i needs) now → n < length now → i < length needs → x ≡ get_or needs i x → next ≡ with_needs n (x ∷ []) now → with_needs n needs start ≡ with_needs n (drop (i + 1) needs) next
next_need n needs i x start now next so_far within lt is e =
    so_far
    ∙ ap (λ z. with_needs n z now) (stepped needs i x lt is)
    ∙ with_joined n (x ∷ []) (drop (i + 1) needs) now within
    ∙ ap (with_needs n (drop (i + 1) needs)) (sym e)
