-- How a chain is grouped, element by element.
use Rattle.std.specs.Prelude.{List, [], ◌∷◌, Option, Some, None, Bool, true, false, nat_lt}
use Rattle.std.specs.Option.{option_and_then}
use Rattle.hdc_tree.specs.declared.program.Associativity.{Associativity}
use Rattle.hdc_tree.specs.declared.program.Associativity.TheVariants.{Left, Right}
use Rattle.hdc_names.specs.declared.fixity.Fixity.{Fixity}
use Rattle.hdc_names.specs.declared.fixity.Taker.{Taker}
use Rattle.hdc_names.specs.declared.fixity.Taker.TheVariants.{First, Second, Unclear}
use Rattle.hdc_names.specs.OperatorTrees.{sign, Element, operand, operator, minus, Grouping, leaf, binary, negated}

-- which of two operators of one precedence takes what stands between them
abbrev pub by_side : Associativity → Associativity → Taker
by_side Left Left = First
by_side Right Right = Second
by_side _ _ = Unclear

abbrev pub by_precedence : Bool → Bool → Taker → Taker
by_precedence true _ t = First
by_precedence false true t = Second
by_precedence false false t = t

abbrev pub taker : Fixity → Fixity → Taker
taker p q = by_precedence (nat_lt q.precedence p.precedence) (nat_lt p.precedence q.precedence) (by_side p.associativity q.associativity)

-- what waits for its right operand: an operator with its left operand, or a sign
pub data Waiting (A O M : Type 0) : Type 0 where
  behind : Grouping A O M → O → Waiting A O M
  signed : M → Waiting A O M

-- an operand is wanted, or has been read
pub data State (A O M : Type 0) : Type 0 where
  wants : List (Waiting A O M) → State A O M
  has : List (Waiting A O M) → A → State A O M

abbrev pub closed : {A O M : Type 0} → Waiting A O M → Grouping A O M → Grouping A O M
closed (behind l o) e = binary l o e
closed (signed m) e = negated m e

-- the tree at the end
abbrev pub finish : {A O M : Type 0} → List (Waiting A O M) → Grouping A O M → Grouping A O M
finish [] e = e
finish (w ∷ ws) e = finish ws (closed w e)

-- the tree of a state in which nothing is wanted
abbrev pub tree_in : {A O M : Type 0} → Option (State A O M) → Option (Grouping A O M)
tree_in None = None
tree_in (Some (wants ws)) = None
tree_in (Some (has ws a)) = Some (finish ws (leaf a))

-- what follows where the first takes it, and where the second does
abbrev pub taken : {X : Type 0} → Taker → Option X → Option X → Option X
taken First a b = a
taken Second a b = b
taken Unclear a b = None

module _ {A O M : Type 0} (fixity : O → Fixity) where
  abbrev pub fixity_of : Waiting A O M → Fixity
  fixity_of (behind l o) = fixity o
  fixity_of (signed m) = sign

  -- what is left to wait, and the left operand, where an operator follows
  abbrev pub left_of : List (Waiting A O M) → Grouping A O M → Fixity → Option (List (Waiting A O M) × Grouping A O M)
  left_of [] e q = Some ([], e)
  left_of (w ∷ ws) e q = taken (taker (fixity_of w) q) (left_of ws (closed w e) q) (Some (w ∷ ws, e))

  abbrev pub behind_left : O → Option (List (Waiting A O M) × Grouping A O M) → Option (State A O M)
  behind_left o None = None
  behind_left o (Some (ws, l)) = Some (wants (behind l o ∷ ws))

  -- a sign where an operand is wanted
  abbrev pub signed_in : List (Waiting A O M) → M → Option (State A O M)
  signed_in [] m = Some (wants (signed m ∷ []))
  signed_in (w ∷ ws) m = taken (taker (fixity_of w) sign) None (Some (wants (signed m ∷ w ∷ ws)))

  -- one element further
  abbrev pub advance : State A O M → Element A O M → Option (State A O M)
  advance (wants ws) (operand a) = Some (has ws a)
  advance (wants ws) (operator o) = None
  advance (wants ws) (minus m) = signed_in ws m
  advance (has ws a) (operand b) = None
  advance (has ws a) (operator o) = behind_left o (left_of ws (leaf a) (fixity o))
  advance (has ws a) (minus m) = None

  -- all elements further
  abbrev pub read : State A O M → List (Element A O M) → Option (State A O M)
  read s [] = Some s
  read s (x ∷ xs) = option_and_then (λ n. read n xs) (advance s x)

  -- the tree of a chain
  abbrev pub grouped : List (Element A O M) → Option (Grouping A O M)
  grouped xs = tree_in (read (wants []) xs)
