-- The code of a program.
use Rattle.std.specs.Prelude.{◌≡◌, ℕ, List, [], ◌∷◌, ◌++◌, Bool, true, false, Option, Some, None, Result, Ok, Err}
use Rattle.std.specs.declared.alloc.AllocError.{AllocError}
use Rattle.hdc_code.specs.declared.instr.Instr.{Instr}
use Rattle.hdc_code.specs.declared.instr.Instr.TheVariants as instr
use Rattle.hdc_code.specs.Sound.{IsSound, CarriesAt}
use Rattle.hdc_top.specs.Arithmetic.{Tree, literal, binary}
use Rattle.hdc_top.specs.Meaning.{meaning}

-- the code does what the program with this tree means, whatever the budget, and is never without a step before its end
pub record CarriesMeaning (code : List Instr) (tree : Tree) : Type 0 where
  pub sound : IsSound code
  pub each_budget : (budget : ℕ) → CarriesAt code budget (meaning tree budget)

-- the code carries the meaning of the tree, or there is no tree
abbrev pub Carries : Option Tree → Option (List Instr) → Type 0
Carries read (Some code) = (tree : Tree) × (read ≡ Some tree) × CarriesMeaning code tree
Carries read None = read ≡ None

-- ---- as the code has it

-- the operands, the left one first, and then the operator
abbrev pub exp_code : Tree → List Instr
exp_code (literal at value) = instr.Int value ∷ []
exp_code (binary op at a b) = exp_code a ++ (exp_code b ++ instr.Prim op at ∷ [])

-- behind this code comes that of the tree, or there is no tree
abbrev pub Emits : Option Tree → List Instr → List Instr → Result Bool AllocError → Type 0
Emits read before after (Ok true) = (tree : Tree) × (read ≡ Some tree) × (after ≡ before ++ exp_code tree)
Emits read before after (Ok false) = read ≡ None
Emits read before after (Err want) = Unit {0}
