-- What is said of a prelude and a program, by what was found in each.
use Rattle.std.proofs.Common.{◌≡◌, inl, inr, List, Option, Some, None, Result, Err, sym, ap, ◌∙◌, subst}
use Rattle.std.specs.Prelude.{IfOk}
use Rattle.std.specs.declared.alloc.AllocError.{AllocError}
use Rattle.hdc_base.specs.declared.place.At.{At}
use Rattle.hdc_tree.specs.declared.program.Top.{Top}
use Rattle.hdc_names.specs.declared.check.TreesStop.{TreesStop}
use Rattle.hdc_names.specs.declared.check.TreesStop.TheVariants as stop
use Rattle.hdc_names.specs.declared.found.Found.{Found}
use Rattle.hdc_names.specs.Fixities.{Scope, standard, program_scope}
use Rattle.hdc_names.specs.Sites.{Site, prelude_sites, program_sites}
use Rattle.hdc_names.specs.Trees.{EachHasTree, SitesAnswer, IsChecked, fault_of, deep_of, all_noted, all_found, nothing_found, by_depth, by_fault, judged}
use Rattle.hdc_names.specs.Walk.{at_first, walk_tops}
use Rattle.hdc_names.proofs.Faults.{first_found, none_found, first_deep, none_deep}
use Rattle.hdc_names.proofs.Noting.{fault_found, deep_found}
use Rattle.hdc_names.proofs.ChainNodes.{the_tree, are_trees}
use Rattle.hdc_names.proofs.Walking.{tree_walked}

-- the same where the scope is the same
pub walked_in : (scope other : Scope) (ts : List Top) (r : Result Found AllocError) → scope ≡ other → IfOk r (λ f. f ≡ (walk_tops ts (at_first scope)).found) → IfOk r (λ f. f ≡ (walk_tops ts (at_first other)).found)
walked_in scope other ts r e h = subst (λ (s : Scope). IfOk r (λ f. f ≡ (walk_tops ts (at_first s)).found)) e h

-- all have trees
deep_told : (ps qs : List Site) (p q : Option At) → EachHasTree ps → EachHasTree qs → all_noted deep_of None ps ≡ p → all_noted deep_of None qs ≡ q → SitesAnswer ps qs (by_depth p q)
deep_told ps qs None None g h d e = (g, h, none_deep ps d, none_deep qs e)
deep_told ps qs (Some at) q g h d e = (g, h, inl (first_deep ps at d))
deep_told ps qs None (Some at) g h d e = (g, h, inr (none_deep ps d, first_deep qs at e))

sites_told : (ps qs : List Site) (f g p q : Option At) → all_noted fault_of None ps ≡ f → all_noted fault_of None qs ≡ g → all_noted deep_of None ps ≡ p → all_noted deep_of None qs ≡ q → SitesAnswer ps qs (by_fault f g (by_depth p q))
sites_told ps qs None None p q a b d e = deep_told ps qs p q (none_found ps a) (none_found qs b) d e
sites_told ps qs (Some at) g p q a b d e = inl (first_found ps at a)
sites_told ps qs None (Some at) p q a b d e = inr (none_found ps a, first_found qs at b)

found_told : (ps qs : List Site) (f g : Found) → f ≡ all_found nothing_found ps → g ≡ all_found nothing_found qs → SitesAnswer ps qs (judged f g)
found_told ps qs f g a b =
    sites_told ps qs f.fault g.fault f.deep g.deep
    (sym (fault_found nothing_found ps) ∙ ap (λ (z : Found). z.fault) (sym a)) (sym (fault_found nothing_found qs) ∙ ap (λ (z : Found). z.fault) (sym b))
    (sym (deep_found nothing_found ps) ∙ ap (λ (z : Found). z.deep) (sym a)) (sym (deep_found nothing_found qs) ∙ ap (λ (z : Found). z.deep) (sym b))

-- what was found is what is said
pub told : (ps qs : List Top) (f g : Found) (r : Result (Unit {0}) TreesStop) → f ≡ (walk_tops ps (at_first standard)).found → g ≡ (walk_tops qs (at_first (program_scope qs))).found → r ≡ judged f g → IsChecked ps qs r
told ps qs f g r a b e =
    subst (IsChecked ps qs) (sym e) (record {
      trees = the_tree;
      right = are_trees;
      answer = found_told (prelude_sites the_tree ps) (program_sites the_tree qs) f g (a ∙ tree_walked standard ps) (b ∙ tree_walked (program_scope qs) qs);
    })

-- where memory is wanting, nothing is said
pub want_told : (ps qs : List Top) → IsChecked ps qs (Err stop.Want)
want_told ps qs = record { trees = the_tree; right = are_trees; answer = tt }
