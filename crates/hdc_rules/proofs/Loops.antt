-- One turn of a loop over a list.
use Rattle.std.proofs.Common.{◌≡◌, ℕ, ◌+◌, ◌<◌, List, ◌∷◌, ◌++◌, length, drop, get_or, sym, ap, ◌∙◌, append_assoc}
use Rattle.hdc_written.specs.declared.breach.Breach.{Breach}
use Rattle.hdc_written.specs.declared.breach.Found.{Found}
use Rattle.hdc_written.specs.Breaches.{all_noted}
use Rattle.hdc_written.proofs.FirstBreach.{noted_joined}
use Rattle.hdc_written.proofs.Loops.{stepped}

-- what is broken in one more item is noted, where what comes before decides what is broken behind
pub next_noted : {A S : Type 0} (g : S → List A → List Breach) (h : S → A → List Breach) (step : S → A → S) (split : (s : S) (x : A) (xs : List A) → g s (x ∷ xs) ≡ h s x ++ g (step s x) xs) (parts : List A) (i : ℕ) (x : A) (s0 s t : S) (start now next : Found) → all_noted start (g s0 parts) ≡ all_noted now (g s (drop i parts)) → i < length parts → x ≡ get_or parts i x → t ≡ step s x → next ≡ all_noted now (h s x) → all_noted start (g s0 parts) ≡ all_noted next (g t (drop (i + 1) parts))
next_noted g h step split parts i x s0 s t start now next so_far lt is steps e =
    let rest = drop (i + 1) parts in
    so_far
    ∙ ap (λ z. all_noted now (g s z)) (stepped parts i x lt is)
    ∙ ap (all_noted now) (split s x rest)
    ∙ noted_joined now (h s x) (g (step s x) rest)
    ∙ ap (λ z. all_noted (all_noted now (h s x)) (g z rest)) (sym steps)
    ∙ ap (λ (f : Found). all_noted f (g t rest)) (sym e)

-- the same where what comes before decides nothing
pub next_each : {A : Type 0} (g : List A → List Breach) (h : A → List Breach) (split : (x : A) (xs : List A) → g (x ∷ xs) ≡ h x ++ g xs) (parts : List A) (i : ℕ) (x : A) (start now next : Found) → all_noted start (g parts) ≡ all_noted now (g (drop i parts)) → i < length parts → x ≡ get_or parts i x → next ≡ all_noted now (h x) → all_noted start (g parts) ≡ all_noted next (g (drop (i + 1) parts))
next_each g h split parts i x start now next so_far lt is e =
    let rest = drop (i + 1) parts in
    so_far
    ∙ ap (λ z. all_noted now (g z)) (stepped parts i x lt is)
    ∙ ap (all_noted now) (split x rest)
    ∙ noted_joined now (h x) (g rest)
    ∙ ap (λ (f : Found). all_noted f (g rest)) (sym e)

-- one more item adds what it has to a list
pub next_added : {A X : Type 0} (g : List A → List X) (h : A → List X) (split : (x : A) (xs : List A) → g (x ∷ xs) ≡ h x ++ g xs) (parts : List A) (i : ℕ) (x : A) (start now next : List X) → start ++ g parts ≡ now ++ g (drop i parts) → i < length parts → x ≡ get_or parts i x → next ≡ now ++ h x → start ++ g parts ≡ next ++ g (drop (i + 1) parts)
next_added g h split parts i x start now next so_far lt is e =
    let rest = drop (i + 1) parts in
    so_far
    ∙ ap (λ z. now ++ g z) (stepped parts i x lt is)
    ∙ ap (λ z. now ++ z) (split x rest)
    ∙ sym (append_assoc now (h x) (g rest))
    ∙ ap (λ z. z ++ g rest) (sym e)
