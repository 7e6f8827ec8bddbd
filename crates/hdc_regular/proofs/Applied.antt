-- What is built of a constructor with arguments.
use Rattle.std.proofs.Common.{◌==◌, ◌≡◌, ℕ, zero, suc, ◌+◌, ◌-◌, ◌<◌, Bool, true, false, List, [], ◌∷◌, length, refl, sym, ap, ◌∙◌, add-one, arith}
use Rattle.hdc_tree.specs.declared.name.Name.{Name}
use Rattle.hdc_tree.specs.declared.type_tree.Atype.{Atype}
use Rattle.hdc_tree.specs.declared.type_tree.Btype.{Btype}
use Rattle.hdc_tree.specs.declared.type_tree.Btype.TheVariants as v_btype
use Rattle.hdc_written.specs.Scopes.{Binding, standing_for}
use Rattle.hdc_written.specs.TypeMirror.{each_type, atype_of, btype_of}
use Rattle.hdc_written.proofs.TypeMirror.{btype_applied}
use Rattle.hdc_rules.proofs.Listing.{count_types_each}
use Rattle.hdc_regular.specs.declared.building.Choice.{Choice}
use Rattle.hdc_regular.specs.declared.outline.Outline.{Outline}
use Rattle.hdc_regular.specs.declared.standing.Standing.{Standing}
use Rattle.hdc_written.specs.WrittenTypes.{WrittenType}
use Rattle.hdc_regular.specs.Resolving.{arrows}
use Rattle.hdc_regular.specs.Resolved.{Resolved, other, Parts, no_part, next_part, part_at}
use Rattle.hdc_regular.specs.Building.{held_part, built, each_built, built_use}
use Rattle.hdc_regular.specs.Choosing.{choice_of, chosen}
use Rattle.hdc_regular.proofs.ChosenUses.{by_choice}

pub built_applied : (outlines : List Outline) (names : List (Binding Standing)) (params : List (Binding ℕ)) (b : Btype) (c : Name) (t : Atype) (ts us : List Atype) (choice : Choice)
    → b ≡ v_btype.Applied c t ts → us ≡ ts → choice ≡ choice_of outlines (standing_for c.text names) (length us + 1)
    → built outlines names params (btype_of b) ≡ chosen outlines choice c.at (next_part (built outlines names params (atype_of t)) (each_built outlines names params (each_type atype_of us)))
built_applied outlines names params b c t ts us choice is same e =
    ap (λ z. built outlines names params (btype_of z)) (is ∙ ap (λ z. v_btype.Applied c t z) (sym same))
    ∙ ap (built outlines names params) (btype_applied c t us)
    ∙ ap (λ z. built_use outlines (standing_for c.text names) z c.at (next_part (built outlines names params (atype_of t)) (each_built outlines names params (each_type atype_of us)))) (ap (λ z. suc z) (count_types_each atype_of us) ∙ sym (add-one (length us)))
    ∙ by_choice outlines (standing_for c.text names) (length us + 1) c.at (next_part (built outlines names params (atype_of t)) (each_built outlines names params (each_type atype_of us)))
    ∙ ap (λ z. chosen outlines z c.at (next_part (built outlines names params (atype_of t)) (each_built outlines names params (each_type atype_of us)))) (sym e)

-- a part that is held, or not
pub held_true : (b : Bool) (t r : Resolved) → b ≡ true → t ≡ r → t ≡ held_part b r
held_true true t r d e = e
held_true false t r d e = cc

pub held_false : (b : Bool) (t r : Resolved) → b ≡ false → t ≡ other no_part → t ≡ held_part b r
held_false true t r d e = cc
held_false false t r d e = e

-- a part behind the first one
pub part_behind : (j : ℕ) (t : Resolved) (ts : Parts) → (j ≡ 0 → ⊥) → part_at j (next_part t ts) ≡ part_at (j - 1) ts
part_behind zero t ts h = absurd (h refl)
part_behind (suc k) t ts h = let e : k ≡ suc k - 1 = omega arith in ap (λ z. part_at z ts) e

-- types with arrows between them
pub some_arrows : {X : Type 0} (f : X → WrittenType) (outlines : List Outline) (names : List (Binding Standing)) (params : List (Binding ℕ)) (t : Resolved) (xs : List X) → 0 < length xs
    → arrows t (each_built outlines names params (each_type f xs)) ≡ other (next_part t (each_built outlines names params (each_type f xs)))
some_arrows f outlines names params t [] lt = absurd (omega (arith, lt))
some_arrows f outlines names params t (x ∷ xs) lt = refl

-- a length that is not 0
pub not_empty : (n : ℕ) → (n == 0) ≡ false → 0 < n
not_empty zero e = cc
not_empty (suc n) e = omega arith
