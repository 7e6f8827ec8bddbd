-- What a binding needs is a binding.
use Rattle.std.proofs.Common.{◌≡◌, ℕ, zero, suc, ◌<◌, List, [], ◌∷◌, length, get_or, true, sym, subst}
use Rattle.std.proofs.lemmas.Bool.{ltb-true}
use Rattle.std.proofs.lemmas.List.{length-map}
use Rattle.std.proofs.lemmas.List.Elements.{All-nil, filter_passes}
use Rattle.std.specs.Prelude.{nat_lt, map, All}
use Rattle.hdc_graph.specs.Needs.{IsClosed}
use Rattle.hdc_resolved.specs.Syntax.{Binding}
use Rattle.hdc_groups.specs.Needs.{needs_among, binding_needs}
use Rattle.hdc_groups.specs.TopUses.{equations_uses}

-- each of these numbers is below the count
AllBelow : ℕ → List ℕ → Type 0
AllBelow count = All (λ n. nat_lt n count ≡ true)

-- what the bindings need is below the count
needs_below : (count : ℕ) (bs : List Binding) (a : ℕ) → AllBelow count (get_or (map (needs_among count) bs) a [])
unfolding AllBelow
needs_below count [] a = All-nil (λ n. nat_lt n count ≡ true)
needs_below count (b ∷ bs) zero = filter_passes (λ n. nat_lt n count) (equations_uses b.equations)
needs_below count (b ∷ bs) (suc a) = needs_below count bs a

-- each binding that is needed is one of the bindings
pub binding_needs_closed : (bs : List Binding) → IsClosed (binding_needs bs)
unfolding AllBelow
binding_needs_closed bs a b needs =
    let count = length bs in
    let passes = needs_below count bs a needs.0 b needs.1 in
    let lt : b < count = ltb-true b count (subst (λ n. nat_lt n count ≡ true) needs.2 passes) in
    subst (λ n. b < n) (sym (length-map bs (needs_among count))) lt
