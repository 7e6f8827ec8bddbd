-- There is one answer for a prelude and a program.
use Rattle.std.proofs.Common.{◌≡◌, List, Option, Some, None, Result, Ok, Err, refl, ap, inl, inr}
use Rattle.hdc_base.specs.declared.place.At.{At}
use Rattle.hdc_tree.specs.declared.program.Top.{Top}
use Rattle.hdc_written.specs.declared.breach.Breach.{Breach}
use Rattle.hdc_written.specs.Breaches.{IsFirst}
use Rattle.hdc_written.proofs.FirstBreach.{first_once}
use Rattle.hdc_names.specs.declared.check.TreesStop.{TreesStop}
use Rattle.hdc_names.specs.declared.check.TreesStop.TheVariants as trees
use Rattle.hdc_names.specs.Trees.{IsChecked}
use Rattle.hdc_names.proofs.OneCheck.{checked_once}
use Rattle.hdc_top.specs.declared.names.NamesStop.{NamesStop}
use Rattle.hdc_top.specs.declared.names.NamesStop.TheVariants as stop
use Rattle.hdc_top.specs.Names.{BreaksInPrelude, BreaksInProgram, BreakNone, BreakFirst, AreChecked}

some_once : (a b : Breach) → ◌≡◌ {A = Option Breach} (Some a) (Some b) → a ≡ b
some_once a b h = cc

never_both : (P : Breach → Type 0) (b : Breach) → IsFirst P None → IsFirst P (Some b) → ⊥
never_both P b h g = h b g.0

first_keeps : (ps ts : List Top) (b : Breach) → BreakFirst ps ts b → BreakNone ps ts → ⊥
first_keeps ps ts b (inl h) keep = never_both (BreaksInPrelude ps) b keep.0 h
first_keeps ps ts b (inr h) keep = never_both (BreaksInProgram ps ts) b keep.1 h.1

first_same : (ps ts : List Top) (a b : Breach) → BreakFirst ps ts a → BreakFirst ps ts b → a ≡ b
first_same ps ts a b (inl h) (inl g) = some_once a b (first_once (BreaksInPrelude ps) (Some a) (Some b) h g)
first_same ps ts a b (inl h) (inr g) = absurd (never_both (BreaksInPrelude ps) a g.0 h)
first_same ps ts a b (inr h) (inl g) = absurd (never_both (BreaksInPrelude ps) b h.0 g)
first_same ps ts a b (inr h) (inr g) = some_once a b (first_once (BreaksInProgram ps ts) (Some a) (Some b) h.1 g.1)

-- the trees are told in one way
trees_differ : (ps ts : List Top) (r s : Result (Unit {0}) TreesStop) → IsChecked ps ts r → IsChecked ps ts s → (r ≡ Err trees.Want → ⊥) → (s ≡ Err trees.Want → ⊥) → (r ≡ s → ⊥) → ⊥
trees_differ ps ts r s h g n m differ = differ (checked_once ps ts r s h g n m)

fixity_once : (ps ts : List Top) (a b : At) → IsChecked ps ts (Err (trees.Fixity a)) → IsChecked ps ts (Err (trees.Fixity b)) → a ≡ b
fixity_once ps ts a b h g = let same = checked_once ps ts (Err (trees.Fixity a)) (Err (trees.Fixity b)) h g (λ e. cc) (λ e. cc) in cc

depth_once : (ps ts : List Top) (a b : At) → IsChecked ps ts (Err (trees.Depth a)) → IsChecked ps ts (Err (trees.Depth b)) → a ≡ b
depth_once ps ts a b h g = let same = checked_once ps ts (Err (trees.Depth a)) (Err (trees.Depth b)) h g (λ e. cc) (λ e. cc) in cc

pub answered_once : (ps ts : List Top) (r s : Result (Unit {0}) NamesStop) → AreChecked ps ts r → AreChecked ps ts s → (r ≡ Err stop.Want → ⊥) → (s ≡ Err stop.Want → ⊥) → r ≡ s
answered_once ps ts (Ok u) (Ok v) h g n m = refl
answered_once ps ts (Ok u) (Err (stop.Fixity b)) h g n m = absurd (trees_differ ps ts (Ok tt) (Err (trees.Fixity b)) h.0 g (λ e. cc) (λ e. cc) (λ e. cc))
answered_once ps ts (Ok u) (Err (stop.Depth b)) h g n m = absurd (trees_differ ps ts (Ok tt) (Err (trees.Depth b)) h.0 g (λ e. cc) (λ e. cc) (λ e. cc))
answered_once ps ts (Ok u) (Err (stop.Name b)) h g n m = absurd (first_keeps ps ts b g.1 h.1)
answered_once ps ts (Err (stop.Fixity a)) (Ok v) h g n m = absurd (trees_differ ps ts (Err (trees.Fixity a)) (Ok tt) h g.0 (λ e. cc) (λ e. cc) (λ e. cc))
answered_once ps ts (Err (stop.Fixity a)) (Err (stop.Fixity b)) h g n m = ap (λ at. Err (stop.Fixity at)) (fixity_once ps ts a b h g)
answered_once ps ts (Err (stop.Fixity a)) (Err (stop.Depth b)) h g n m = absurd (trees_differ ps ts (Err (trees.Fixity a)) (Err (trees.Depth b)) h g (λ e. cc) (λ e. cc) (λ e. cc))
answered_once ps ts (Err (stop.Fixity a)) (Err (stop.Name b)) h g n m = absurd (trees_differ ps ts (Err (trees.Fixity a)) (Ok tt) h g.0 (λ e. cc) (λ e. cc) (λ e. cc))
answered_once ps ts (Err (stop.Depth a)) (Ok v) h g n m = absurd (trees_differ ps ts (Err (trees.Depth a)) (Ok tt) h g.0 (λ e. cc) (λ e. cc) (λ e. cc))
answered_once ps ts (Err (stop.Depth a)) (Err (stop.Fixity b)) h g n m = absurd (trees_differ ps ts (Err (trees.Depth a)) (Err (trees.Fixity b)) h g (λ e. cc) (λ e. cc) (λ e. cc))
answered_once ps ts (Err (stop.Depth a)) (Err (stop.Depth b)) h g n m = ap (λ at. Err (stop.Depth at)) (depth_once ps ts a b h g)
answered_once ps ts (Err (stop.Depth a)) (Err (stop.Name b)) h g n m = absurd (trees_differ ps ts (Err (trees.Depth a)) (Ok tt) h g.0 (λ e. cc) (λ e. cc) (λ e. cc))
answered_once ps ts (Err (stop.Name a)) (Ok v) h g n m = absurd (first_keeps ps ts a h.1 g.1)
answered_once ps ts (Err (stop.Name a)) (Err (stop.Fixity b)) h g n m = absurd (trees_differ ps ts (Ok tt) (Err (trees.Fixity b)) h.0 g (λ e. cc) (λ e. cc) (λ e. cc))
answered_once ps ts (Err (stop.Name a)) (Err (stop.Depth b)) h g n m = absurd (trees_differ ps ts (Ok tt) (Err (trees.Depth b)) h.0 g (λ e. cc) (λ e. cc) (λ e. cc))
answered_once ps ts (Err (stop.Name a)) (Err (stop.Name b)) h g n m = ap (λ x. Err (stop.Name x)) (first_same ps ts a b h.1 g.1)
answered_once ps ts (Ok u) (Err stop.Want) h g n m = absurd (m refl)
answered_once ps ts (Err (stop.Fixity a)) (Err stop.Want) h g n m = absurd (m refl)
answered_once ps ts (Err (stop.Depth a)) (Err stop.Want) h g n m = absurd (m refl)
answered_once ps ts (Err (stop.Name a)) (Err stop.Want) h g n m = absurd (m refl)
answered_once ps ts (Err stop.Want) s h g n m = absurd (n refl)
