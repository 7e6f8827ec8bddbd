-- A path that reaches an end is the only one.
use Rattle.std.proofs.Common.{◌≡◌, ℕ, zero, suc, ◌≤◌, List, [], ◌∷◌, refl, sym, ap, ◌∙◌, subst, arith, Option, Some, None, Result, Ok, Err, ◌⊎◌, inl, inr, ℤ}
use Rattle.std.specs.Prelude.{IsSome, slice_get}
use Rattle.std.specs.Option.{option_and_then}
use Rattle.hdc_base.specs.declared.place.Place.{Place}
use Rattle.hdc_value.specs.declared.outcome.Value.{Value}
use Rattle.hdc_value.specs.declared.outcome.Value.TheVariants as value
use Rattle.hdc_value.specs.declared.outcome.TrapKind.{TrapKind}
use Rattle.hdc_value.specs.declared.outcome.Outcome.{Outcome}
use Rattle.hdc_value.specs.Arithmetic.{arith_of}
use Rattle.hdc_code.specs.declared.instr.Instr.{Instr}
use Rattle.hdc_code.specs.declared.instr.Instr.TheVariants as instr
use Rattle.hdc_code.specs.Machine.{State, running, ended, Config, ended_with, after_operator, start, execute, step_of, step, steps}
use Rattle.hdc_code.specs.Sound.{Reaches, HasEnded, IsSound, EndsWith}

-- a step that was made
stepped : (n : ℕ) (code : List Instr) (o : Option Config) (d : Config) → option_and_then (steps n code) o ≡ Some d → (c : Config) × (o ≡ Some c) × (steps n code c ≡ Some d)
stepped n code None d h = cc
stepped n code (Some c) d h = (c, refl, h)

-- from anywhere on a path, an end that the path reaches is still reached
pub goes_on : (k n : ℕ) (code : List Instr) (s c e : Config) → step code e ≡ None → steps n code s ≡ Some e → steps k code s ≡ Some c → (m : ℕ) × (steps m code c ≡ Some e)
goes_on zero n code s c e last all path = (n, subst (λ x. steps n code x ≡ Some e) (let same : s ≡ c = cc in same) all)
goes_on (suc k) zero code s c e last all path =
    let first = stepped k code (step code s) c path in
    let same : s ≡ e = cc in
    let none : step code s ≡ None = ap (step code) same ∙ last in
    cc
goes_on (suc k) (suc n) code s c e last all path =
    let first = stepped k code (step code s) c path in
    let second = stepped n code (step code s) e all in
    let same : second.0 ≡ first.0 = cc in
    goes_on k n code first.0 c e last (subst (λ x. steps n code x ≡ Some e) same second.2) first.2

-- ticks never fall
abbrev CountsOn : ℕ → Option Config → Type 0
CountsOn ticks None = Unit {0}
CountsOn ticks (Some d) = ticks ≤ d.ticks

operator_counts : (at : Place) (place : ℕ) (stack : List Value) (ticks : ℕ) (r : Result ℤ TrapKind) → ticks ≤ (after_operator at place stack ticks r).ticks
operator_counts at place stack ticks (Ok n) = omega arith
operator_counts at place stack ticks (Err kind) = omega arith

execute_counts : (i : Instr) (place : ℕ) (stack : List Value) (ticks : ℕ) → CountsOn ticks (execute i place stack ticks)
execute_counts (instr.Int n) place stack ticks = omega arith
execute_counts (instr.Prim op at) place [] ticks = tt
execute_counts (instr.Prim op at) place (b ∷ []) ticks = tt
execute_counts (instr.Prim op at) place (value.Int b ∷ value.Int a ∷ stack) ticks = operator_counts at place stack ticks (arith_of op a b)
execute_counts instr.Tick place stack ticks = omega arith
execute_counts instr.Ret place [] ticks = tt
execute_counts instr.Ret place (v ∷ stack) ticks = omega arith

found_counts : (i : Option Instr) (place : ℕ) (stack : List Value) (ticks : ℕ) → CountsOn ticks (option_and_then (λ x. execute x place stack ticks) i)
found_counts None place stack ticks = tt
found_counts (Some i) place stack ticks = execute_counts i place stack ticks

state_counts : (code : List Instr) (s : State) (ticks : ℕ) → CountsOn ticks (step_of code s ticks)
state_counts code (running place stack) ticks = found_counts (slice_get code place) place stack ticks
state_counts code (ended result) ticks = tt

step_counts : (code : List Instr) (c d : Config) → step code c ≡ Some d → c.ticks ≤ d.ticks
step_counts code c d h = subst (CountsOn c.ticks) h (state_counts code c.state c.ticks)

steps_count : (n : ℕ) (code : List Instr) (c d : Config) → steps n code c ≡ Some d → c.ticks ≤ d.ticks
steps_count zero code c d h = let same : c ≡ d = cc in subst (λ x. c.ticks ≤ x.ticks) same (omega arith)
steps_count (suc n) code c d h =
    let first = stepped n code (step code c) d h in
    let here = step_counts code c first.0 first.1 in
    let rest = steps_count n code first.0 d first.2 in
    omega arith

-- a configuration on a path to an end has ended, or has a step
first_step : (n : ℕ) (code : List Instr) (c e : Config) → HasEnded e.state → steps n code c ≡ Some e → HasEnded c.state ⊎ IsSome (step code c)
first_step zero code c e over h = let same : c ≡ e = cc in inl (subst (λ x. HasEnded x.state) (sym same) over)
first_step (suc n) code c e over h =
    let first = stepped n code (step code c) e h in
    inr (subst IsSome (sym first.1) refl)

pub path_sound : (code : List Instr) (result : Outcome) (ticks : ℕ) → EndsWith code result ticks → IsSound code
path_sound code result ticks end c reached =
    let rest = goes_on reached.count end.count code start c (ended_with result ticks) refl end.path reached.path in
    first_step rest.0 code c (ended_with result ticks) tt rest.1

pub path_counts : (code : List Instr) (result : Outcome) (ticks : ℕ) → EndsWith code result ticks → (c : Config) → Reaches code c → c.ticks ≤ ticks
path_counts code result ticks end c reached =
    let rest = goes_on reached.count end.count code start c (ended_with result ticks) refl end.path reached.path in
    steps_count rest.0 code c (ended_with result ticks) rest.1

-- no step leads on from an end
at_end : (n : ℕ) (code : List Instr) (result : Outcome) (ticks : ℕ) (e : Config) → steps n code (ended_with result ticks) ≡ Some e → ended_with result ticks ≡ e
at_end zero code result ticks e h = cc
at_end (suc n) code result ticks e h = let first = stepped n code None e h in cc

pub same_end : (code : List Instr) (first second : Outcome) (ticks others : ℕ) → EndsWith code first ticks → EndsWith code second others → ended_with first ticks ≡ ended_with second others
same_end code first second ticks others a b =
    let rest = goes_on a.count b.count code start (ended_with first ticks) (ended_with second others) refl b.path a.path in
    at_end rest.0 code first ticks (ended_with second others) rest.1

-- one more step at the end of a path
longer : (n : ℕ) (code : List Instr) (s c d : Config) → steps n code s ≡ Some c → step code c ≡ Some d → steps (suc n) code s ≡ Some d
longer zero code s c d path last = let same : s ≡ c = cc in subst (λ x. option_and_then (steps 0 code) (step code x) ≡ Some d) (sym same) (ap (option_and_then (steps 0 code)) last)
longer (suc n) code s c d path last =
    let first = stepped n code (step code s) c path in
    ap (option_and_then (steps (suc n) code)) first.1 ∙ longer n code first.0 c d first.2 last

pub reaches_next : (code : List Instr) (c d : Config) → Reaches code c → step code c ≡ Some d → Reaches code d
reaches_next code c d reached last = record { count = suc reached.count; path = longer reached.count code start c d reached.path last }
