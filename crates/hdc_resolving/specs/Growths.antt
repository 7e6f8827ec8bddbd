-- The declarations of a block, while they become bindings.
use Rattle.std.specs.Borrow.{Bor}
use Rattle.std.specs.Prelude.{ℕ, suc, ◌-◌, Bool, true, false, List, [], ◌∷◌, ◌++◌, map, Option, None, Some, if◌then◌else◌}
use Rattle.hdc_base.specs.declared.place.Place.{Place}
use Rattle.hdc_resolved.specs.Syntax as resolved
use Rattle.hdc_resolved.specs.Mirror.{chain, equation_of, member_of, signed_of}
use Rattle.hdc_written.specs.Written.{Patterns, no_pattern, pattern}
use Rattle.hdc_resolving.specs.declared.growing.Current as memory
use Rattle.hdc_resolving.specs.declared.growing.Growing.{Growing}
use Rattle.hdc_resolving.specs.Parts.{Bound}
use Rattle.hdc_resolving.specs.Standing.{goes_on, opened}

-- a list of equations or bindings to which others can be added
abbrev pub Equating : Type 0
Equating = resolved.Equations → resolved.Equations

abbrev pub Binding : Type 0
Binding = resolved.Members → resolved.Members

-- a function or a plain name, whose equations may go on
pub record Current : Type 0 where
  pub place : Place
  pub number : ℕ
  pub equations : List Equating

-- the bindings that are done, the current one, the function with which the next equation may go on, the signatures, for each
-- declaration the place of its binding, and the place of the next binding
pub record Grown : Type 0 where
  pub done : List Binding
  pub current : Option Current
  pub before : Option (List ℕ)
  pub signatures : List resolved.Signed
  pub homes : List ℕ
  pub next : ℕ

abbrev pub text_of : Option (Bor (List ℕ)) → Option (List ℕ)
text_of None = None
text_of (Some t) = Some t.now

abbrev pub current_of : Option memory.Current → Option Current
current_of None = None
current_of (Some c) = Some (record { place = c.place; number = c.number; equations = map equation_of c.equations })

-- the same of what is held in memory
abbrev pub grown : Growing → Grown
grown g = record { done = map member_of g.done; current = current_of g.current; before = text_of g.before; signatures = map signed_of g.signatures; homes = g.homes; next = g.next }

abbrev pub nothing_grown : Grown
nothing_grown = record { done = []; current = None; before = None; signatures = []; homes = []; next = 0 }

abbrev pub has_some : Patterns → Bool
has_some no_pattern = false
has_some (pattern p ps) = true

-- a function with all its equations
abbrev pub named : Current → Binding
named c = resolved.named c.place c.number (chain c.equations resolved.no_equation)

-- the bindings that are done, with the current one
abbrev pub done_with : List Binding → Option Current → List Binding
done_with ms None = ms
done_with ms (Some c) = ms ++ (named c ∷ [])

abbrev pub with_further : Option Current → Equating → Option Current
with_further None a = None
with_further (Some c) a = Some (record { place = c.place; number = c.number; equations = c.equations ++ (a ∷ []) })

abbrev pub stayed : Grown → Grown
stayed g = record { done = g.done; current = g.current; before = g.before; signatures = g.signatures; homes = g.homes ++ (g.next ∷ []); next = g.next }

abbrev pub with_signature : resolved.Signed → Grown → Grown
with_signature s g = record { done = g.done; current = g.current; before = None; signatures = g.signatures ++ (s ∷ []); homes = g.homes ++ (g.next ∷ []); next = g.next }

abbrev pub closed : Grown → Grown
closed g = record { done = done_with g.done g.current; current = None; before = g.before; signatures = g.signatures; homes = g.homes; next = g.next }

abbrev pub counted : Grown → Grown
counted g = record { done = g.done; current = g.current; before = g.before; signatures = g.signatures; homes = g.homes ++ (g.next ∷ []); next = suc g.next }

abbrev pub gone_on : Equating → Grown → Grown
gone_on a g = record { done = g.done; current = with_further g.current a; before = g.before; signatures = g.signatures; homes = g.homes ++ ((g.next - 1) ∷ []); next = g.next }

abbrev pub begun : Place → ℕ → Option (List ℕ) → Equating → Grown → Grown
begun p n b a g = record { done = done_with g.done g.current; current = Some (record { place = p; number = n; equations = a ∷ [] }); before = b; signatures = g.signatures; homes = g.homes ++ (g.next ∷ []); next = suc g.next }

-- an equation of the name with this text, and with these parameters
abbrev pub with_equation : Place → ℕ → List ℕ → Patterns → Equating → Grown → Grown
with_equation p n t ps a g = if goes_on g.before t ps then gone_on a g else begun p n (opened t ps) a g

abbrev pub with_pattern : Place → resolved.Pattern → resolved.RightSide → Grown → Grown
with_pattern p q r g = record { done = done_with g.done g.current ++ (resolved.matched p q r ∷ []); current = None; before = None; signatures = g.signatures; homes = g.homes ++ (g.next ∷ []); next = suc g.next }

abbrev pub finished : Grown → Bound
finished g = record { members = chain (done_with g.done g.current) resolved.no_member; signatures = g.signatures; homes = g.homes }
