-- Whether each chain and section of a program has a tree, and no tree is too deep; and where the first stands that has none
-- or is too deep.
use Rattle.std.specs.Prelude.{◌≡◌, ◌⊎◌, ◌<◌, ℕ, zero, suc, ◌-◌, Bool, false, ◌&&◌, ◌||◌, ◌==◌, nat_lt, List, [], ◌∷◌, length, slice_get, Option, Some, None, Result, Ok, Err, if◌then◌else◌}
use Rattle.hdc_base.specs.declared.place.At.{At}
use Rattle.hdc_tree.specs.declared.program.Top.{Top}
use Rattle.hdc_written.specs.Breaches.{IsBefore}
use Rattle.hdc_names.specs.declared.chain.NextOperand.{NextOperand}
use Rattle.hdc_names.specs.declared.chain.Step.{Step}
use Rattle.hdc_names.specs.declared.chain.Step.TheVariants as step
use Rattle.hdc_names.specs.declared.check.TreesStop.{TreesStop}
use Rattle.hdc_names.specs.declared.check.TreesStop.TheVariants as stop
use Rattle.hdc_names.specs.OperatorTrees.{leaf, binary, negated}
use Rattle.hdc_names.specs.Chain.{Tree, IsTreeOf, HasNoTree, read}
use Rattle.hdc_names.specs.declared.found.Found.{Found}
use Rattle.hdc_names.specs.Sites.{Site, whole, rooted, node, prelude_sites, program_sites}

-- the operator before the operand of this number is at the root of a tree
abbrev pub IsRoot : ℕ → Tree → Type 0
IsRoot k (leaf a) = ⊥
IsRoot k (binary l o r) = o.number ≡ k
IsRoot k (negated m e) = ⊥

-- what has to have a tree has one
abbrev pub HasTree : Site → Type 0
HasTree (whole signed rest) = (t : Tree) × IsTreeOf signed rest t
HasTree (rooted signed rest k p) = (t : Tree) × IsTreeOf signed rest t × IsRoot k t
HasTree (node d p) = Unit {0}

-- the place of the last operator up to the operand of this number
abbrev pub place_in : Option NextOperand → Option At
place_in None = None
place_in (Some n) = Some n.at

abbrev pub place_of : ℕ → List NextOperand → Option At
place_of zero rest = None
place_of (suc k) rest = place_in (slice_get rest k)

-- it has none: a chain, up to an operand and up to none before it; a section, with its operator at the root
abbrev pub IsAtFault : Site → At → Type 0
IsAtFault (whole signed rest) at = (k : ℕ) × HasNoTree signed rest k × (place_of k rest ≡ Some at)
IsAtFault (rooted signed rest k p) at = ((t : Tree) → IsTreeOf signed rest t → IsRoot k t → ⊥) × (at ≡ p)
IsAtFault (node d p) at = ⊥

abbrev pub IsOneOf : Site → List Site → Type 0
IsOneOf s [] = ⊥
IsOneOf s (x ∷ xs) = (s ≡ x) ⊎ IsOneOf s xs

abbrev pub EachHasTree : List Site → Type 0
EachHasTree sites = (s : Site) → IsOneOf s sites → HasTree s

-- the least place where one is at fault
pub record FirstFault (sites : List Site) (at : At) : Type 0 where
  pub site : Site
  pub one_of : IsOneOf site sites
  pub at_fault : IsAtFault site at
  pub first : (s : Site) → IsOneOf s sites → (p : At) → IsAtFault s p → IsBefore p at → ⊥

-- the depth of a node that is too deep; each deeper one stands below one of this depth
abbrev pub too_deep : ℕ
too_deep = 1025

abbrev pub NoneTooDeep : List Site → Type 0
NoneTooDeep sites = (p : At) → IsOneOf (node too_deep p) sites → ⊥

-- the least place of a node of that depth
pub record FirstTooDeep (sites : List Site) (at : At) : Type 0 where
  pub one_of : IsOneOf (node too_deep at) sites
  pub first : (p : At) → IsOneOf (node too_deep p) sites → IsBefore p at → ⊥

-- each chain has its tree; one that has none is given an operand alone
abbrev pub IsGiven : Bool → List NextOperand → Tree → Type 0
IsGiven signed rest t = IsTreeOf signed rest t ⊎ (((u : Tree) → IsTreeOf signed rest u → ⊥) × (t ≡ leaf 0))

abbrev pub AreTrees : (Bool → List NextOperand → Tree) → Type 0
AreTrees trees = (signed : Bool) (rest : List NextOperand) → IsGiven signed rest (trees signed rest)

-- what is said of the sites of a prelude and of a program, the chains and sections before the depths, and the prelude before
-- the program; memory may be wanting
abbrev pub SitesAnswer : List Site → List Site → Result (Unit {0}) TreesStop → Type 0
SitesAnswer ps qs (Ok done) = EachHasTree ps × EachHasTree qs × NoneTooDeep ps × NoneTooDeep qs
SitesAnswer ps qs (Err (stop.Fixity at)) = FirstFault ps at ⊎ (EachHasTree ps × FirstFault qs at)
SitesAnswer ps qs (Err (stop.Depth at)) = EachHasTree ps × EachHasTree qs × (FirstTooDeep ps at ⊎ (NoneTooDeep ps × FirstTooDeep qs at))
SitesAnswer ps qs (Err stop.Want) = Unit {0}

-- what is said of a prelude and a program
pub record IsChecked (prelude program : List Top) (result : Result (Unit {0}) TreesStop) : Type 0 where
  pub trees : Bool → List NextOperand → Tree
  pub right : AreTrees trees
  pub answer : SitesAnswer (prelude_sites trees prelude) (program_sites trees program) result

-- ---- as the code has it

-- the root of the tree that steps build is the operator before this operand
abbrev pub is_operator : ℕ → Option Step → Bool
is_operator k None = false
is_operator k (Some step.Operand) = false
is_operator k (Some (step.Sign j)) = false
is_operator k (Some (step.Operator j)) = j == k

abbrev pub ends_with : ℕ → List Step → Bool
ends_with k steps = is_operator k (slice_get steps (length steps - 1))

-- where something is at fault, if it is
abbrev pub whole_fault : List NextOperand → Result (List Step) ℕ → Option At
whole_fault rest (Ok steps) = None
whole_fault rest (Err k) = place_of k rest

abbrev pub root_fault : ℕ → At → Result (List Step) ℕ → Option At
root_fault k p (Ok steps) = if ends_with k steps then None else Some p
root_fault k p (Err j) = Some p

abbrev pub fault_of : Site → Option At
fault_of (whole signed rest) = whole_fault rest (read signed rest)
fault_of (rooted signed rest k p) = root_fault k p (read signed rest)
fault_of (node d p) = None

abbrev pub is_before : At → At → Bool
is_before p q = nat_lt p.line q.line || ((p.line == q.line) && nat_lt p.col q.col)

-- the first of two faults
abbrev pub noted : Option At → Option At → Option At
noted found None = found
noted None (Some p) = Some p
noted (Some q) (Some p) = if is_before p q then Some p else Some q

-- where a site is too deep, if it is
abbrev pub deep_of : Site → Option At
deep_of (whole signed rest) = None
deep_of (rooted signed rest k p) = None
deep_of (node d p) = if d == too_deep then Some p else None

-- the first of one found so far and those of sites
abbrev pub all_noted : (Site → Option At) → Option At → List Site → Option At
all_noted what found [] = found
all_noted what found (s ∷ ss) = all_noted what (noted found (what s)) ss

-- the same of both
abbrev pub found_with : Found → Site → Found
found_with f s = record { fault = noted f.fault (fault_of s); deep = noted f.deep (deep_of s) }

abbrev pub all_found : Found → List Site → Found
all_found f [] = f
all_found f (s ∷ ss) = all_found (found_with f s) ss

abbrev pub nothing_found : Found
nothing_found = record { fault = None; deep = None }

abbrev pub want : TreesStop
want = stop.Want

-- the answer for what was found in a prelude and in a program
abbrev pub by_depth : Option At → Option At → Result (Unit {0}) TreesStop
by_depth None None = Ok tt
by_depth (Some at) deep = Err (stop.Depth at)
by_depth None (Some at) = Err (stop.Depth at)

abbrev pub by_fault : Option At → Option At → Result (Unit {0}) TreesStop → Result (Unit {0}) TreesStop
by_fault None None behind = behind
by_fault (Some at) fault behind = Err (stop.Fixity at)
by_fault None (Some at) behind = Err (stop.Fixity at)

abbrev pub judged : Found → Found → Result (Unit {0}) TreesStop
judged p q = by_fault p.fault q.fault (by_depth p.deep q.deep)
