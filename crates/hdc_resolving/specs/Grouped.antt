-- The operands of a chain, joined as its tree has it.
use Rattle.std.specs.Prelude.{ℕ, ◌-◌, Bool, List, [], ◌∷◌, Result, Ok, Err, slice_index_or}
use Rattle.hdc_base.specs.declared.place.At.{At}
use Rattle.hdc_base.specs.declared.place.Src.{Src}
use Rattle.hdc_resolved.specs.declared.name.Name.TheVariants as name
use Rattle.hdc_resolved.specs.declared.name.RowKind.TheVariants as kind
use Rattle.hdc_resolved.specs.declared.name.Use.{Use}
use Rattle.hdc_resolved.specs.Syntax as resolved
use Rattle.hdc_written.specs.Firsts.{nowhere, start_at}
use Rattle.hdc_written.specs.Written.{Expression}
use Rattle.hdc_names.specs.declared.chain.NextOperand.{NextOperand}
use Rattle.hdc_names.specs.declared.chain.Step.{Step}
use Rattle.hdc_names.specs.declared.chain.Step.TheVariants as step
use Rattle.hdc_names.specs.OperatorTrees.{leaf, binary, negated}
use Rattle.hdc_names.specs.Chain.{Tree, read}
use Rattle.hdc_names.specs.Sites.{is_minus, sign_of}
use Rattle.hdc_resolving.specs.Literals.{place_in}

-- an operand, or operands that are joined, with the first token
pub record Placed : Type 0 where
  pub at : At
  pub what : resolved.Expression

-- what stands for an operand or an operator that a chain does not have
abbrev pub no_operand : Src → Placed
no_operand s = record { at = nowhere; what = resolved.row (place_in s nowhere) kind.OfTuple resolved.no_expression }

abbrev pub no_use : Src → Use
no_use s = record { first = place_in s nowhere; place = place_in s nowhere; name = name.Unknown }

-- the operator before the operand of this number
abbrev pub use_before : Src → List Use → ℕ → Use
use_before s us n = slice_index_or us (n - 1) (no_use s)

abbrev pub joined : Src → Use → Placed → Placed → Placed
joined s u l r = record { at = l.at; what = resolved.infix_application (place_in s l.at) l.what u r.what }

abbrev pub signed : Src → At → Placed → Placed
signed s a x = record { at = a; what = resolved.negation (place_in s a) x.what }

-- the operands of a chain, and the operators between them, by its tree
abbrev pub grouped : Src → Expression → List Use → List Placed → Tree → Placed
grouped s e us xs (leaf n) = slice_index_or xs n (no_operand s)
grouped s e us xs (binary l o r) = joined s (use_before s us o.number) (grouped s e us xs l) (grouped s e us xs r)
grouped s e us xs (negated n t) = signed s (start_at e n) (grouped s e us xs t)

-- ---- as the code has it: by the steps that build the tree

-- the operands that are still to come, and what is built, the last first
pub record Building : Type 0 where
  pub rest : List Placed
  pub done : List Placed

abbrev pub operand_taken : List Placed → List Placed → Building
operand_taken [] done = record { rest = []; done = done }
operand_taken (x ∷ xs) done = record { rest = xs; done = x ∷ done }

abbrev pub sign_put : Src → At → List Placed → List Placed → Building
sign_put s a rest [] = record { rest = rest; done = [] }
sign_put s a rest (x ∷ done) = record { rest = rest; done = signed s a x ∷ done }

abbrev pub operator_put : Src → Use → List Placed → List Placed → Building
operator_put s u rest [] = record { rest = rest; done = [] }
operator_put s u rest (x ∷ []) = record { rest = rest; done = [] }
operator_put s u rest (x ∷ y ∷ done) = record { rest = rest; done = joined s u y x ∷ done }

abbrev pub turn : Src → Expression → List Use → Step → Building → Building
turn s e us step.Operand b = operand_taken b.rest b.done
turn s e us (step.Sign n) b = sign_put s (start_at e n) b.rest b.done
turn s e us (step.Operator n) b = operator_put s (use_before s us n) b.rest b.done

abbrev pub turned : Src → Expression → List Use → List Step → Building → Building
turned s e us [] b = b
turned s e us (x ∷ xs) b = turned s e us xs (turn s e us x b)

abbrev pub top_of : Src → List Placed → Placed
top_of s [] = no_operand s
top_of s (x ∷ xs) = x

-- what steps build
abbrev pub built_by : Src → Expression → List Use → List Placed → List Step → Placed
built_by s e us xs steps = top_of s (turned s e us steps (record { rest = xs; done = [] })).done

-- the steps of a chain; of one that has no tree those of its first operand
abbrev pub steps_or_first : Result (List Step) ℕ → List Step
steps_or_first (Ok steps) = steps
steps_or_first (Err k) = step.Operand ∷ []

abbrev pub steps_in : Bool → List NextOperand → List Step
steps_in signed rest = steps_or_first (read signed rest)

-- how the operands of a chain are joined, by its operators, their uses, and its operands
abbrev pub Joining : Type 0
Joining = Src → Expression → List NextOperand → List Use → List Placed → Placed

abbrev pub by_trees : (Bool → List NextOperand → Tree) → Joining
by_trees trees s e rest us xs = grouped s e us xs (trees (is_minus (sign_of e)) rest)

abbrev pub by_steps : Joining
by_steps s e rest us xs = built_by s e us xs (steps_in (is_minus (sign_of e)) rest)
