-- The code of a program carries its meaning.
use Rattle.std.proofs.Common.{◌≡◌, ℕ, zero, suc, ◌+◌, ◌<◌, List, [], ◌∷◌, ◌++◌, length, Option, Some, None, Result, Ok, Err, ℤ, refl, ap, ◌∙◌, subst, arith, append_assoc, length-append}
use Rattle.std.specs.Prelude.{slice_get}
use Rattle.std.specs.Option.{option_and_then}
use Rattle.std.proofs.Math.Seq.{get_or-append_seam}
use Rattle.std.proofs.lemmas.Option.{slice_get-get_or}
use Rattle.hdc_base.specs.declared.place.Place.{Place}
use Rattle.hdc_value.specs.declared.arithmetic.Op.{Op}
use Rattle.hdc_value.specs.declared.outcome.Value.{Value}
use Rattle.hdc_value.specs.declared.outcome.Value.TheVariants as value
use Rattle.hdc_value.specs.declared.outcome.TrapKind.{TrapKind}
use Rattle.hdc_value.specs.declared.outcome.Outcome.{Outcome}
use Rattle.hdc_value.specs.declared.outcome.Outcome.TheVariants as outcome
use Rattle.hdc_value.specs.Arithmetic.{arith_of}
use Rattle.hdc_code.specs.declared.instr.Instr.{Instr}
use Rattle.hdc_code.specs.declared.instr.Instr.TheVariants as instr
use Rattle.hdc_code.specs.Machine.{Config, running_at, ended_with, start, after_operator, execute, step, steps}
use Rattle.hdc_code.specs.Sound.{EndsWith, CarriesAt}
use Rattle.hdc_code.proofs.Paths.{path_sound, path_counts, same_end}
use Rattle.hdc_top.specs.Arithmetic.{Tree, literal, binary}
use Rattle.hdc_top.specs.Meaning.{at_operator, apply, eval, meaning}
use Rattle.hdc_top.specs.Code.{CarriesMeaning, exp_code}

-- the unfolding of main, its expression, and the end
abbrev pub program_code : Tree → List Instr
program_code tree = instr.Tick ∷ (exp_code tree ++ instr.Ret ∷ [])

-- the instructions stand in the code at this place
abbrev HasAt : List Instr → ℕ → List Instr → Type 0
HasAt code place [] = Unit {0}
HasAt code place (i ∷ is) = (slice_get code place ≡ Some i) × HasAt code (place + 1) is

has_front : (code : List Instr) (place : ℕ) (a b : List Instr) → HasAt code place (a ++ b) → HasAt code place a
has_front code place [] b h = tt
has_front code place (i ∷ a) b h = (h.0, has_front code (place + 1) a b h.1)

has_back : (code : List Instr) (place : ℕ) (a b : List Instr) → HasAt code place (a ++ b) → HasAt code (place + length a) b
has_back code place [] b h = let e : place ≡ place + 0 = omega arith in subst (λ n. HasAt code n b) e h
has_back code place (i ∷ a) b h =
    let e : place + 1 + length a ≡ place + length (i ∷ a) = omega arith in
    subst (λ n. HasAt code n b) e (has_back code (place + 1) a b h.1)

has_all : (is front : List Instr) → HasAt (front ++ is) (length front) is
has_all [] front = tt
has_all (i ∷ is) front =
    let within : length front < length (front ++ i ∷ is) = omega (arith, length-append front (i ∷ is)) in
    let here = slice_get-get_or (front ++ i ∷ is) (length front) i within ∙ ap Some (get_or-append_seam front i is i) in
    let next : length (front ++ i ∷ []) ≡ length front + 1 = omega (arith, length-append front (i ∷ [])) in
    let rest = subst (λ l. HasAt l (length (front ++ i ∷ [])) is) (append_assoc front (i ∷ []) is) (has_all is (front ++ i ∷ [])) in
    (here, subst (λ n. HasAt (front ++ i ∷ is) n is) next rest)

-- some number of steps leads from one configuration to the other
record Path (code : List Instr) (c d : Config) : Type 0 where
  count : ℕ
  path : steps count code c ≡ Some d

path_here : (code : List Instr) (c : Config) → Path code c c
path_here code c = record { count = 0; path = refl }

path_first : (code : List Instr) (c d e : Config) → step code c ≡ Some d → Path code d e → Path code c e
path_first code c d e h rest = record { count = suc rest.count; path = ap (option_and_then (steps rest.count code)) h ∙ rest.path }

path_one : (code : List Instr) (c d : Config) → step code c ≡ Some d → Path code c d
path_one code c d h = path_first code c d d h (path_here code d)

joined : (n : ℕ) (code : List Instr) (c d e : Config) → steps n code c ≡ Some d → Path code d e → Path code c e
joined zero code c d e h rest = let same : d ≡ c = cc in subst (λ x. Path code x e) same rest
joined (suc n) code c d e h rest = by_first (step code c) refl h (λ x g. joined n code x d e g rest)
  where
    by_first : (o : Option Config) → step code c ≡ o → option_and_then (steps n code) o ≡ Some d → ((x : Config) → steps n code x ≡ Some d → Path code x e) → Path code c e
    by_first None f h again = absurd (let clash : ◌≡◌ {A = Option Config} None (Some d) = h in cc)
    by_first (Some x) f h again = path_first code c x e f (again x h)

path_join : (code : List Instr) (c d e : Config) → Path code c d → Path code d e → Path code c e
path_join code c d e first second = joined first.count code c d e first.path second

-- one instruction
executed : (code : List Instr) (place : ℕ) (stack : List Value) (ticks : ℕ) (i : Instr) (d : Config) → slice_get code place ≡ Some i → execute i place stack ticks ≡ Some d → Path code (running_at place stack ticks) d
executed code place stack ticks i d h e = path_one code _ d (ap (option_and_then (λ x. execute x place stack ticks)) h ∙ e)

-- where the code of an expression leads: behind it with the value on the stack, or to the end with its trap
abbrev after : Outcome → ℕ → List Value → ℕ → Config
after (outcome.Value v) place stack ticks = running_at place (v ∷ stack) ticks
after (outcome.Trap t) place stack ticks = ended_with (outcome.Trap t) ticks

operated : (at : Place) (place : ℕ) (stack : List Value) (ticks : ℕ) (r : Result ℤ TrapKind) → after_operator at place stack ticks r ≡ after (at_operator at r) (place + 1) stack ticks
operated at place stack ticks (Ok n) = refl
operated at place stack ticks (Err kind) = refl

binary_path : (code : List Instr) (op : Op) (at : Place) (place middle last : ℕ) (stack : List Value) (ticks : ℕ) (a b : Outcome)
    → Path code (running_at place stack ticks) (after a middle stack ticks)
    → ((v : Value) → Path code (running_at middle (v ∷ stack) ticks) (after b last (v ∷ stack) ticks))
    → slice_get code last ≡ Some (instr.Prim op at)
    → Path code (running_at place stack ticks) (after (apply op at a b) (last + 1) stack ticks)
binary_path code op at place middle last stack ticks (outcome.Trap t) b first second h = first
binary_path code op at place middle last stack ticks (outcome.Value (value.Int m)) (outcome.Trap t) first second h = path_join code _ _ _ first (second (value.Int m))
binary_path code op at place middle last stack ticks (outcome.Value (value.Int m)) (outcome.Value (value.Int n)) first second h =
    let prim = executed code last (value.Int n ∷ value.Int m ∷ stack) ticks (instr.Prim op at) _ h (ap Some (operated at last stack ticks (arith_of op m n))) in
    path_join code _ _ _ first (path_join code _ _ _ (second (value.Int m)) prim)

exp_path : (tree : Tree) (code : List Instr) (place : ℕ) (stack : List Value) (ticks : ℕ) → HasAt code place (exp_code tree) → Path code (running_at place stack ticks) (after (eval tree) (place + length (exp_code tree)) stack ticks)
exp_path (literal at n) code place stack ticks has = executed code place stack ticks (instr.Int n) _ has.0 refl
exp_path (binary op at a b) code place stack ticks has =
    let prim = instr.Prim op at ∷ [] in
    let ca = exp_code a in
    let cb = exp_code b in
    let back = has_back code place ca (cb ++ prim) has in
    let last = has_back code (place + length ca) cb prim back in
    let first = exp_path a code place stack ticks (has_front code place ca (cb ++ prim) has) in
    let whole = binary_path code op at place (place + length ca) (place + length ca + length cb) stack ticks (eval a) (eval b) first (λ v. exp_path b code (place + length ca) (v ∷ stack) ticks (has_front code (place + length ca) cb prim back)) last.0 in
    let size : place + length ca + length cb + 1 ≡ place + length (exp_code (binary op at a b)) = omega (arith, length-append ca (cb ++ prim), length-append cb prim) in
    subst (λ n. Path code (running_at place stack ticks) (after (apply op at (eval a) (eval b)) n stack ticks)) size whole

-- the last instruction ends with the value
ret_path : (code : List Instr) (place : ℕ) (o : Outcome) (ticks : ℕ) → slice_get code place ≡ Some instr.Ret → Path code (after o place [] ticks) (ended_with o ticks)
ret_path code place (outcome.Value v) ticks h = executed code place (v ∷ []) ticks instr.Ret _ h refl
ret_path code place (outcome.Trap t) ticks h = path_here code (ended_with (outcome.Trap t) ticks)

-- the code of a program ends with its outcome, after one unfolding
pub program_ends : (tree : Tree) → EndsWith (program_code tree) (eval tree) 1
program_ends tree =
    let code = program_code tree in
    let has = has_all code [] in
    let first : Path code start (running_at 1 [] 1) = executed code 0 [] 0 instr.Tick _ has.0 refl in
    let second = exp_path tree code 1 [] 1 (has_front code 1 (exp_code tree) (instr.Ret ∷ []) has.1) in
    let third = ret_path code (1 + length (exp_code tree)) (eval tree) 1 (has_back code 1 (exp_code tree) (instr.Ret ∷ []) has.1).0 in
    let whole = path_join code _ _ _ first (path_join code _ _ _ second third) in
    record { count = whole.count; path = whole.path }

carries_at : (tree : Tree) (budget : ℕ) → CarriesAt (program_code tree) budget (meaning tree budget)
carries_at tree zero = λ result ticks end within.
    let same = ap (λ (e : Config). e.ticks) (same_end (program_code tree) result (eval tree) ticks 1 end (program_ends tree)) in
    omega (arith, same)
carries_at tree (suc budget) = (path_counts (program_code tree) (eval tree) 1 (program_ends tree), λ result ticks end. same_parts result ticks (same_end (program_code tree) result (eval tree) ticks 1 end (program_ends tree)))
  where
    same_parts : (result : Outcome) (ticks : ℕ) → ended_with result ticks ≡ ended_with (eval tree) 1 → (result ≡ eval tree) × (ticks ≡ 1)
    same_parts result ticks h = let state = ap (λ (e : Config). e.state) h in (cc, ap (λ (e : Config). e.ticks) h)

pub program_carries : (tree : Tree) → CarriesMeaning (program_code tree) tree
program_carries tree = record { sound = path_sound (program_code tree) (eval tree) 1 (program_ends tree); each_budget = carries_at tree }
