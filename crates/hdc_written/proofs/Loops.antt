-- One turn of a loop over a list.
use Rattle.std.proofs.Common.{◌≡◌, ℕ, ◌+◌, ◌-◌, ◌<◌, List, ◌∷◌, ◌++◌, length, take, drop, get_or, sym, ap, ◌∙◌, append_assoc}
use Rattle.std.proofs.Math.Seq.{take-length}
use Rattle.std.proofs.lemmas.List.{drop_more, length-drop}
use Rattle.hdc_written.specs.Scopes.{Binding, bound_to}
use Rattle.hdc_written.specs.Written.{Pattern, variables, all_variables, Declaration, bound, all_bound}
use Rattle.hdc_written.specs.Mirror.{each_pattern, each_declaration}
use Rattle.hdc_written.proofs.Scoping.{bound_joined}

-- what is left of a list begins with the item of the turn
pub stepped : {A : Type 0} (parts : List A) (i : ℕ) (x : A) → i < length parts → x ≡ get_or parts i x → drop i parts ≡ x ∷ drop (i + 1) parts
stepped parts i x lt is = drop_more parts i x lt ∙ ap (λ y. y ∷ drop (i + 1) parts) (sym is)

-- the variables of one more pattern are bound
pub next_pattern : {A T : Type 0} (what : T) (f : A → Pattern) (parts : List A) (i : ℕ) (x : A) (p : Pattern) (start now next : List (Binding T)) → bound_to what (all_variables (each_pattern f parts)) start ≡ bound_to what (all_variables (each_pattern f (drop i parts))) now → i < length parts → x ≡ get_or parts i x → f x ≡ p → next ≡ bound_to what (variables p) now → bound_to what (all_variables (each_pattern f parts)) start ≡ bound_to what (all_variables (each_pattern f (drop (i + 1) parts))) next
next_pattern what f parts i x p start now next so_far lt is same e =
    so_far
    ∙ ap (λ z. bound_to what (all_variables (each_pattern f z)) now) (stepped parts i x lt is)
    ∙ bound_joined what (variables (f x)) (all_variables (each_pattern f (drop (i + 1) parts))) now
    ∙ ap (λ q. bound_to what (all_variables (each_pattern f (drop (i + 1) parts))) (bound_to what (variables q) now)) same
    ∙ ap (bound_to what (all_variables (each_pattern f (drop (i + 1) parts)))) (sym e)

-- what one more declaration binds is bound
pub next_declaration : {A T : Type 0} (what : T) (f : A → Declaration) (parts : List A) (i : ℕ) (x : A) (d : Declaration) (start now next : List (Binding T)) → bound_to what (all_bound (each_declaration f parts)) start ≡ bound_to what (all_bound (each_declaration f (drop i parts))) now → i < length parts → x ≡ get_or parts i x → f x ≡ d → next ≡ bound_to what (bound d) now → bound_to what (all_bound (each_declaration f parts)) start ≡ bound_to what (all_bound (each_declaration f (drop (i + 1) parts))) next
next_declaration what f parts i x d start now next so_far lt is same e =
    so_far
    ∙ ap (λ z. bound_to what (all_bound (each_declaration f z)) now) (stepped parts i x lt is)
    ∙ bound_joined what (bound (f x)) (all_bound (each_declaration f (drop (i + 1) parts))) now
    ∙ ap (λ q. bound_to what (all_bound (each_declaration f (drop (i + 1) parts))) (bound_to what (bound q) now)) same
    ∙ ap (bound_to what (all_bound (each_declaration f (drop (i + 1) parts)))) (sym e)

-- one more part of a list is put behind what there is
pub next_listed : {A B : Type 0} (g : List A → List B) (h : A → List B) (split : (x : A) (xs : List A) → g (x ∷ xs) ≡ h x ++ g xs) (parts : List A) (i : ℕ) (x : A) (ys : List B) (start now next : List B) → start ++ g parts ≡ now ++ g (drop i parts) → i < length parts → x ≡ get_or parts i x → h x ≡ ys → next ≡ now ++ ys → start ++ g parts ≡ next ++ g (drop (i + 1) parts)
next_listed g h split parts i x ys start now next so_far lt is same e =
    so_far
    ∙ ap (λ z. now ++ g z) (stepped parts i x lt is)
    ∙ ap (λ z. now ++ z) (split x (drop (i + 1) parts) ∙ ap (λ z. z ++ g (drop (i + 1) parts)) same)
    ∙ sym (append_assoc now ys (g (drop (i + 1) parts)))
    ∙ ap (λ z. z ++ g (drop (i + 1) parts)) (sym e)

-- a slice up to the end is the rest of a list
pub rest_slice : {A : Type 0} (xs : List A) (k : ℕ) → take (length xs - k) (drop k xs) ≡ drop k xs
rest_slice xs k = ap (λ n. take n (drop k xs)) (sym (length-drop k xs)) ∙ take-length (drop k xs)
