-- Operator trees: which tree a chain of operands and operators stands for.
use Rattle.std.specs.Prelude.{◌≡◌, ◌⊎◌, ◌<◌, List, [], ◌∷◌, ◌++◌, Option, Some, None}
use Rattle.hdc_tree.specs.declared.program.Associativity.TheVariants.{Left, Right}
use Rattle.hdc_names.specs.declared.fixity.Fixity.{Fixity}

-- a sign binds as an operator of precedence 6 that associates to the left
abbrev pub sign : Fixity
sign = record { precedence = 6; associativity = Left }

-- an operand, an operator, or a minus sign before an operand
pub data Element (A O M : Type 0) : Type 0 where
  operand : A → Element A O M
  operator : O → Element A O M
  minus : M → Element A O M

-- a tree over operands
pub data Grouping (A O M : Type 0) : Type 0 where
  leaf : A → Grouping A O M
  binary : Grouping A O M → O → Grouping A O M → Grouping A O M
  negated : M → Grouping A O M → Grouping A O M

-- what stands in a tree, from left to right
abbrev pub elements : {A O M : Type 0} → Grouping A O M → List (Element A O M)
elements (leaf a) = operand a ∷ []
elements (binary l o r) = elements l ++ (operator o ∷ elements r)
elements (negated m e) = minus m ∷ elements e

-- what has this operator at its root, or none, may be the left operand of another
abbrev pub MayBeLeft : Option Fixity → Fixity → Type 0
MayBeLeft None p = Unit {0}
MayBeLeft (Some q) p = (p.precedence < q.precedence) ⊎ ((q.precedence ≡ p.precedence) × (q.associativity ≡ Left) × (p.associativity ≡ Left))

-- the same of the right operand
abbrev pub MayBeRight : Option Fixity → Fixity → Type 0
MayBeRight None p = Unit {0}
MayBeRight (Some q) p = (p.precedence < q.precedence) ⊎ ((q.precedence ≡ p.precedence) × (q.associativity ≡ Right) × (p.associativity ≡ Right))

module _ {A O M : Type 0} (fixity : O → Fixity) where
  -- the operator at the root
  abbrev pub root : Grouping A O M → Option Fixity
  root (leaf a) = None
  root (binary l o r) = Some (fixity o)
  root (negated m e) = Some sign

  -- each operand stands where it may
  abbrev pub IsOperatorTree : Grouping A O M → Type 0
  IsOperatorTree (leaf a) = Unit {0}
  IsOperatorTree (binary l o r) = IsOperatorTree l × IsOperatorTree r × MayBeLeft (root l) (fixity o) × MayBeRight (root r) (fixity o)
  IsOperatorTree (negated m e) = IsOperatorTree e × MayBeRight (root e) sign

  -- the tree that a chain stands for
  pub record Resolves (chain : List (Element A O M)) (tree : Grouping A O M) : Type 0 where
    pub reads : elements tree ≡ chain
    pub stands : IsOperatorTree tree
