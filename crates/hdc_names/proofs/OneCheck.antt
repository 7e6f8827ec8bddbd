-- A prelude and a program have one answer, but for want of memory.
use Rattle.std.proofs.Common.{◌≡◌, Bool, List, Result, Ok, Err, ◌⊎◌, inl, inr, refl, sym, ap, ◌∙◌, subst}
use mathlib.Core.Path.{fun_ext}
use Rattle.hdc_base.specs.declared.place.At.{At}
use Rattle.hdc_tree.specs.declared.program.Top.{Top}
use Rattle.hdc_names.specs.declared.chain.NextOperand.{NextOperand}
use Rattle.hdc_names.specs.declared.check.TreesStop.{TreesStop}
use Rattle.hdc_names.specs.declared.check.TreesStop.TheVariants as stop
use Rattle.hdc_names.specs.Chain.{Tree, pieces}
use Rattle.hdc_names.specs.Sites.{Site, prelude_sites, program_sites}
use Rattle.hdc_names.specs.Trees.{EachHasTree, NoneTooDeep, FirstFault, FirstTooDeep, IsGiven, AreTrees, SitesAnswer, IsChecked}
use Rattle.hdc_names.proofs.Grouping.{one_tree}
use Rattle.hdc_names.proofs.Faults.{fault_once, fault_or_none, deep_once}

-- the trees that chains are given are one function
given_once : (s : Bool) (rest : List NextOperand) (t u : Tree) → IsGiven s rest t → IsGiven s rest u → t ≡ u
given_once s rest t u (inl g) (inl h) = one_tree (λ o. o.fixity) (pieces s rest) t u g h
given_once s rest t u (inl g) (inr h) = absurd (h.0 t g)
given_once s rest t u (inr g) (inl h) = absurd (g.0 u h)
given_once s rest t u (inr g) (inr h) = g.1 ∙ sym h.1

trees_once : (f g : Bool → List NextOperand → Tree) → AreTrees f → AreTrees g → f ≡ g
trees_once f g a b = fun_ext (λ s. fun_ext (λ rest. given_once s rest (f s rest) (g s rest) (a s rest) (b s rest)))

-- the first fault of a prelude and a program
abbrev FaultIn : List Site → List Site → At → Type 0
FaultIn ps qs at = FirstFault ps at ⊎ (EachHasTree ps × FirstFault qs at)

fault_in_once : (ps qs : List Site) (a b : At) → FaultIn ps qs a → FaultIn ps qs b → a ≡ b
fault_in_once ps qs a b (inl h) (inl g) = fault_once ps a b h g
fault_in_once ps qs a b (inl h) (inr g) = absurd (fault_or_none ps a h g.0)
fault_in_once ps qs a b (inr h) (inl g) = absurd (fault_or_none ps b g h.0)
fault_in_once ps qs a b (inr h) (inr g) = fault_once qs a b h.1 g.1

fault_in_none : (ps qs : List Site) (at : At) → FaultIn ps qs at → EachHasTree ps → EachHasTree qs → ⊥
fault_in_none ps qs at (inl h) g k = fault_or_none ps at h g
fault_in_none ps qs at (inr h) g k = fault_or_none qs at h.1 k

-- the first of what is too deep
abbrev DeepIn : List Site → List Site → At → Type 0
DeepIn ps qs at = FirstTooDeep ps at ⊎ (NoneTooDeep ps × FirstTooDeep qs at)

deep_in_once : (ps qs : List Site) (a b : At) → DeepIn ps qs a → DeepIn ps qs b → a ≡ b
deep_in_once ps qs a b (inl h) (inl g) = deep_once ps a b h g
deep_in_once ps qs a b (inl h) (inr g) = absurd (g.0 a h.one_of)
deep_in_once ps qs a b (inr h) (inl g) = absurd (h.0 b g.one_of)
deep_in_once ps qs a b (inr h) (inr g) = deep_once qs a b h.1 g.1

deep_in_none : (ps qs : List Site) (at : At) → DeepIn ps qs at → NoneTooDeep ps → NoneTooDeep qs → ⊥
deep_in_none ps qs at (inl h) g k = g at h.one_of
deep_in_none ps qs at (inr h) g k = k at h.1.one_of

answer_once : (ps qs : List Site) (r s : Result (Unit {0}) TreesStop) → SitesAnswer ps qs r → SitesAnswer ps qs s → (r ≡ Err stop.Want → ⊥) → (s ≡ Err stop.Want → ⊥) → r ≡ s
answer_once ps qs (Ok u) (Ok v) h g n m = refl
answer_once ps qs (Ok u) (Err (stop.Fixity b)) h g n m = absurd (fault_in_none ps qs b g h.0 h.1)
answer_once ps qs (Ok u) (Err (stop.Depth b)) h g n m = absurd (deep_in_none ps qs b g.2 h.2 h.3)
answer_once ps qs (Ok u) (Err stop.Want) h g n m = absurd (m refl)
answer_once ps qs (Err (stop.Fixity a)) (Ok v) h g n m = absurd (fault_in_none ps qs a h g.0 g.1)
answer_once ps qs (Err (stop.Fixity a)) (Err (stop.Fixity b)) h g n m = ap (λ at. Err (stop.Fixity at)) (fault_in_once ps qs a b h g)
answer_once ps qs (Err (stop.Fixity a)) (Err (stop.Depth b)) h g n m = absurd (fault_in_none ps qs a h g.0 g.1)
answer_once ps qs (Err (stop.Fixity a)) (Err stop.Want) h g n m = absurd (m refl)
answer_once ps qs (Err (stop.Depth a)) (Ok v) h g n m = absurd (deep_in_none ps qs a h.2 g.2 g.3)
answer_once ps qs (Err (stop.Depth a)) (Err (stop.Fixity b)) h g n m = absurd (fault_in_none ps qs b g h.0 h.1)
answer_once ps qs (Err (stop.Depth a)) (Err (stop.Depth b)) h g n m = ap (λ at. Err (stop.Depth at)) (deep_in_once ps qs a b h.2 g.2)
answer_once ps qs (Err (stop.Depth a)) (Err stop.Want) h g n m = absurd (m refl)
answer_once ps qs (Err stop.Want) s h g n m = absurd (n refl)

pub checked_once : (ps qs : List Top) (r s : Result (Unit {0}) TreesStop) → IsChecked ps qs r → IsChecked ps qs s → (r ≡ Err stop.Want → ⊥) → (s ≡ Err stop.Want → ⊥) → r ≡ s
checked_once ps qs r s h g n m =
    let same = trees_once h.trees g.trees h.right g.right in
    answer_once (prelude_sites g.trees ps) (program_sites g.trees qs) r s (subst (λ (trees : Bool → List NextOperand → Tree). SitesAnswer (prelude_sites trees ps) (program_sites trees qs) r) same h.answer) g.answer n m
