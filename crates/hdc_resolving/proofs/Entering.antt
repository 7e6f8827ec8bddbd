-- Names that come into scope one after the other, and go again.
use Rattle.std.proofs.Common.{◌≡◌, ℕ, zero, suc, ◌+◌, ◌-◌, ◌<◌, List, [], ◌∷◌, ◌++◌, length, drop, get_or, refl, ap, sym, ◌∙◌, arith}
use Rattle.hdc_tree.specs.declared.name.Name as tree
use Rattle.hdc_written.specs.Scopes.{Binding}
use Rattle.hdc_written.specs.Written.{Pattern, variables, all_variables, Declaration, bound, all_bound}
use Rattle.hdc_written.specs.Mirror.{each_pattern, each_declaration}
use Rattle.hdc_written.proofs.Loops.{stepped}
use Rattle.hdc_written.proofs.Scoping.{bound_joined, left_bound}
use Rattle.hdc_names.specs.Fixities.{Scope, locally, undeclared}
use Rattle.hdc_resolved.specs.declared.name.Name.{Name}
use Rattle.hdc_resolved.specs.declared.name.Name.TheVariants as name
use Rattle.hdc_resolving.specs.declared.walk.Counter.{Counter}
use Rattle.hdc_resolving.specs.declared.walk.Walk.{Walk}
use Rattle.hdc_resolving.specs.Numbering.{counted, numbered, named_from, entered, moved, left_at}
use Rattle.hdc_resolving.specs.Standing.{Names, standing}

numbered_joined : (xs ys : List tree.Name) (c : Counter) → numbered (xs ++ ys) c ≡ numbered ys (numbered xs c)
numbered_joined [] ys c = refl
numbered_joined (x ∷ xs) ys c = numbered_joined xs ys (counted c)

named_joined : (xs ys : List tree.Name) (c : Counter) (s : Names) → named_from (xs ++ ys) c s ≡ named_from ys (numbered xs c) (named_from xs c s)
named_joined [] ys c s = refl
named_joined (x ∷ xs) ys c s = named_joined xs ys (counted c) (standing x.text (name.Local c.numbers) ∷ s)

-- one list behind another
pub entered_joined : (xs ys : List tree.Name) (w : Walk) → entered (xs ++ ys) w ≡ entered ys (entered xs w)
entered_joined xs ys w =
    ap (λ (z : Names). record { names = z; fixities = locally (xs ++ ys) w.fixities; counter = numbered (xs ++ ys) w.counter }) (named_joined xs ys w.counter w.names)
    ∙ ap (λ z. record { names = named_from ys (numbered xs w.counter) (named_from xs w.counter w.names); fixities = z; counter = numbered (xs ++ ys) w.counter }) (bound_joined undeclared xs ys w.fixities)
    ∙ ap (λ (z : Counter). record { names = named_from ys (numbered xs w.counter) (named_from xs w.counter w.names); fixities = locally ys (locally xs w.fixities); counter = z }) (numbered_joined xs ys w.counter)

size_named : (xs : List tree.Name) (c : Counter) (s : Names) → length (named_from xs c s) ≡ length s + length xs
size_named [] c s = omega arith
size_named (x ∷ xs) c s = let h = size_named xs (counted c) (standing x.text (name.Local c.numbers) ∷ s) in omega (arith, h)

drop_tail : (n : ℕ) (bs : Names) (b : Binding Name) (rest : Names) → drop n bs ≡ b ∷ rest → drop (suc n) bs ≡ rest
drop_tail zero [] b rest e = absurd cc
drop_tail (suc n) [] b rest e = absurd cc
drop_tail zero (c ∷ cs) b rest e = cc
drop_tail (suc n) (c ∷ cs) b rest e = drop_tail n cs b rest e

drop_named : (xs : List tree.Name) (c : Counter) (s : Names) → drop (length xs) (named_from xs c s) ≡ s
drop_named [] c s = refl
drop_named (x ∷ xs) c s = drop_tail (length xs) (named_from xs (counted c) (standing x.text (name.Local c.numbers) ∷ s)) (standing x.text (name.Local c.numbers)) s (drop_named xs (counted c) (standing x.text (name.Local c.numbers) ∷ s))

pub left_named : (xs : List tree.Name) (c : Counter) (s : Names) → drop (length (named_from xs c s) - length s) (named_from xs c s) ≡ s
left_named xs c s =
    let h = size_named xs c s in
    let n : length (named_from xs c s) - length s ≡ length xs = omega (arith, h) in
    ap (λ k. drop k (named_from xs c s)) n ∙ drop_named xs c s

-- what came into scope goes again
pub left_entered : (xs : List tree.Name) (w : Walk) (c : Counter) → left_at (length w.names) (length w.fixities) (moved c (entered xs w)) ≡ moved c w
left_entered xs w c =
    ap (λ (z : Names). record { names = z; fixities = drop (length (locally xs w.fixities) - length w.fixities) (locally xs w.fixities); counter = c }) (left_named xs w.counter w.names)
    ∙ ap (λ z. record { names = w.names; fixities = z; counter = c }) (left_bound undeclared xs w.fixities)

pub ruleset in_order = (entered_joined)

pub left_local : (xs : List tree.Name) (s : Scope) → drop (length (locally xs s) - length s) (locally xs s) ≡ s
left_local xs s = left_bound undeclared xs s

pub ruleset leaving = (left_entered, left_named, left_local)

-- ---- one turn of a loop over what binds names

-- the variables of one more pattern come into scope
pub next_pattern : {A : Type 0} (f : A → Pattern) (parts : List A) (i : ℕ) (x : A) (p : Pattern) (start now next : Walk) → entered (all_variables (each_pattern f parts)) start ≡ entered (all_variables (each_pattern f (drop i parts))) now → i < length parts → x ≡ get_or parts i x → f x ≡ p → next ≡ entered (variables p) now → entered (all_variables (each_pattern f parts)) start ≡ entered (all_variables (each_pattern f (drop (i + 1) parts))) next
next_pattern f parts i x p start now next so_far lt is same e =
    so_far
    ∙ ap (λ z. entered (all_variables (each_pattern f z)) now) (stepped parts i x lt is)
    ∙ entered_joined (variables (f x)) (all_variables (each_pattern f (drop (i + 1) parts))) now
    ∙ ap (λ q. entered (all_variables (each_pattern f (drop (i + 1) parts))) (entered (variables q) now)) same
    ∙ ap (entered (all_variables (each_pattern f (drop (i + 1) parts)))) (sym e)

-- what one more declaration binds comes into scope
pub next_declaration : {A : Type 0} (f : A → Declaration) (parts : List A) (i : ℕ) (x : A) (d : Declaration) (start now next : Walk) → entered (all_bound (each_declaration f parts)) start ≡ entered (all_bound (each_declaration f (drop i parts))) now → i < length parts → x ≡ get_or parts i x → f x ≡ d → next ≡ entered (bound d) now → entered (all_bound (each_declaration f parts)) start ≡ entered (all_bound (each_declaration f (drop (i + 1) parts))) next
next_declaration f parts i x d start now next so_far lt is same e =
    so_far
    ∙ ap (λ z. entered (all_bound (each_declaration f z)) now) (stepped parts i x lt is)
    ∙ entered_joined (bound (f x)) (all_bound (each_declaration f (drop (i + 1) parts))) now
    ∙ ap (λ q. entered (all_bound (each_declaration f (drop (i + 1) parts))) (entered (bound q) now)) same
    ∙ ap (entered (all_bound (each_declaration f (drop (i + 1) parts)))) (sym e)
