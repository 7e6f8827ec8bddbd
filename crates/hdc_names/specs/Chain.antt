-- Chains, and how their trees are built.
use Rattle.std.specs.Prelude.{◌≡◌, ℕ, suc, ◌<◌, ◌≤◌, Bool, true, false, List, [], ◌∷◌, ◌++◌, take, length, Option, Some, None, Result, Ok, Err}
use Rattle.std.specs.Option.{option_and_then}
use Rattle.std.specs.declared.alloc.AllocError.{AllocError}
use Rattle.hdc_names.specs.declared.fixity.Fixity.{Fixity}
use Rattle.hdc_names.specs.declared.chain.NextOperand.{NextOperand}
use Rattle.hdc_names.specs.declared.chain.Progress.{Progress}
use Rattle.hdc_names.specs.declared.chain.Step.{Step}
use Rattle.hdc_names.specs.declared.chain.Step.TheVariants as step
use Rattle.hdc_names.specs.declared.chain.ChainStop.{ChainStop}
use Rattle.hdc_names.specs.declared.chain.ChainStop.TheVariants as stop
use Rattle.hdc_names.specs.declared.waiting.Waiting.{Waiting}
use Rattle.hdc_names.specs.declared.waiting.Waiting.TheVariants as waiting
use Rattle.hdc_names.specs.OperatorTrees.{sign, Element, operand, operator, minus, Grouping, leaf, binary, negated, Resolves}
use Rattle.hdc_names.specs.Grouping.{taker, taken}

-- an operator of a chain: the number of the operand behind it, and how it binds
pub record Numbered : Type 0 where
  pub number : ℕ
  pub fixity : Fixity

-- the elements and the trees of a chain whose operands are numbered
abbrev pub Piece : Type 0
Piece = Element ℕ Numbered ℕ

abbrev pub Tree : Type 0
Tree = Grouping ℕ Numbered ℕ

-- an operand, with its sign before it if it has one
abbrev pub signed_operand : Bool → ℕ → List Piece
signed_operand true k = minus k ∷ (operand k ∷ [])
signed_operand false k = operand k ∷ []

-- the elements of the operands from this number on
abbrev pub pieces_from : ℕ → List NextOperand → List Piece
pieces_from k [] = []
pieces_from k (n ∷ ns) = operator (record { number = k; fixity = n.fixity }) ∷ (signed_operand n.signed k ++ pieces_from (suc k) ns)

-- the elements of a chain, whose operands are numbered from 0
abbrev pub pieces : Bool → List NextOperand → List Piece
pieces signed rest = signed_operand signed 0 ++ pieces_from 1 rest

-- the tree of a chain
abbrev pub IsTreeOf : Bool → List NextOperand → Tree → Type 0
IsTreeOf signed rest t = Resolves (λ o. o.fixity) (pieces signed rest) t

-- how a tree is built: its operands, and then what joins them
abbrev pub steps_of : Tree → List Step
steps_of (leaf k) = step.Operand ∷ []
steps_of (binary l o r) = steps_of l ++ (steps_of r ++ (step.Operator o.number ∷ []))
steps_of (negated k e) = steps_of e ++ (step.Sign k ∷ [])

-- the tree of a chain is built by these steps
pub record IsBuilt (signed : Bool) (rest : List NextOperand) (steps : List Step) : Type 0 where
  pub tree : Tree
  pub tree_of : IsTreeOf signed rest tree
  pub built : steps ≡ steps_of tree

-- up to the operand of this number, and up to none before it, a chain has no tree
pub record HasNoTree (signed : Bool) (rest : List NextOperand) (k : ℕ) : Type 0 where
  pub within : k ≤ length rest
  pub none : (t : Tree) → IsTreeOf signed (take k rest) t → ⊥
  pub before : (j : ℕ) → j < k → (t : Tree) × IsTreeOf signed (take j rest) t

-- the tree of a chain, or where it has none; memory may be wanting
abbrev pub Answers : Bool → List NextOperand → Result (List Step) ChainStop → Type 0
Answers signed rest (Ok steps) = IsBuilt signed rest steps
Answers signed rest (Err (stop.NoTree k)) = HasNoTree signed rest k
Answers signed rest (Err stop.Want) = Unit {0}

-- ---- as the code has it

abbrev pub want : ChainStop
want = stop.Want

abbrev pub fixity_of : Waiting → Fixity
fixity_of (waiting.Operator k f) = f
fixity_of (waiting.Sign k) = sign

abbrev pub step_of : Waiting → Step
step_of (waiting.Operator k f) = step.Operator k
step_of (waiting.Sign k) = step.Sign k

-- the first operand is read
abbrev pub start : Bool → Progress
start true = record { stack = waiting.Sign 0 ∷ []; steps = step.Operand ∷ [] }
start false = record { stack = []; steps = step.Operand ∷ [] }

-- an operator takes what is its left operand
abbrev pub left_taken : List Waiting → List Step → Fixity → Option Progress
left_taken [] steps q = Some (record { stack = []; steps = steps })
left_taken (w ∷ ws) steps q = taken (taker (fixity_of w) q) (left_taken ws (steps ++ (step_of w ∷ [])) q) (Some (record { stack = w ∷ ws; steps = steps }))

-- a sign behind an operator, and its operand
abbrev pub sign_behind : Fixity → ℕ → Progress → Option Progress
sign_behind f k p = taken (taker f sign) None (Some (record { stack = waiting.Sign k ∷ p.stack; steps = p.steps ++ (step.Operand ∷ []) }))

-- an operand behind an operator
abbrev pub operand_behind : Bool → Fixity → ℕ → Progress → Option Progress
operand_behind true f k p = sign_behind f k p
operand_behind false f k p = Some (record { stack = p.stack; steps = p.steps ++ (step.Operand ∷ []) })

-- an operator and its right operand
abbrev pub next_read : ℕ → NextOperand → Progress → Option Progress
next_read k n p = option_and_then (λ q. operand_behind n.signed n.fixity k (record { stack = waiting.Operator k n.fixity ∷ q.stack; steps = q.steps })) (left_taken p.stack p.steps n.fixity)

-- nothing follows
abbrev pub all_taken : List Waiting → List Step → List Step
all_taken [] steps = steps
all_taken (w ∷ ws) steps = all_taken ws (steps ++ (step_of w ∷ []))

-- what follows an operand that was read, or the number of one that was not
abbrev pub read_or : ℕ → (Progress → Result Progress ℕ) → Option Progress → Result Progress ℕ
read_or k next None = Err k
read_or k next (Some p) = next p

-- the operands from this number on; or the number of the one where the chain has no tree
abbrev pub rest_read : ℕ → List NextOperand → Progress → Result Progress ℕ
rest_read k [] p = Ok p
rest_read k (n ∷ ns) p = read_or k (λ q. rest_read (suc k) ns q) (next_read k n p)

-- what is read so, if it is; memory may be wanting
abbrev pub Reads : Option Progress → Result Bool AllocError → Progress → Type 0
Reads found (Ok true) p = found ≡ Some p
Reads found (Ok false) p = found ≡ None
Reads found (Err e) p = Unit {0}

-- the steps that the code writes, or the number of the operand up to which the chain has no tree
abbrev pub read_out : Result Progress ℕ → Result (List Step) ℕ
read_out (Ok p) = Ok (all_taken p.stack p.steps)
read_out (Err k) = Err k

abbrev pub read : Bool → List NextOperand → Result (List Step) ℕ
read signed rest = read_out (rest_read 1 rest (start signed))

abbrev pub IsRead : Result (List Step) ℕ → Result (List Step) ChainStop → Type 0
IsRead found (Ok steps) = found ≡ Ok steps
IsRead found (Err (stop.NoTree k)) = found ≡ Err k
IsRead found (Err stop.Want) = Unit {0}
