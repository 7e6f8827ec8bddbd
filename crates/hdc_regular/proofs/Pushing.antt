-- Parts that are built one after another.
use Rattle.std.proofs.Common.{refl, Bool, ◌≡◌, ℕ, zero, suc, ◌+◌, ◌<◌, ◌≤◌, List, [], ◌∷◌, ◌++◌, length, get_or, drop, sym, ap, ◌∙◌, drop-cons, add-one}
use Rattle.std.proofs.Math.ListN.{drop_of_length-le}
use Rattle.hdc_written.specs.Scopes.{Binding}
use Rattle.hdc_written.specs.WrittenTypes.{WrittenType}
use Rattle.hdc_tree.specs.declared.type_tree.Atype.{Atype}
use Rattle.hdc_tree.specs.declared.program.BarConstr.{BarConstr}
use Rattle.hdc_regular.specs.Resolving.{fields_behind}
use Rattle.hdc_written.specs.TypeMirror.{each_type, atype_of}
use Rattle.hdc_regular.specs.declared.outline.Outline.{Outline}
use Rattle.hdc_regular.specs.declared.part.Part.{Part}
use Rattle.hdc_regular.specs.declared.standing.Standing.{Standing}
use Rattle.hdc_regular.specs.Resolved.{Resolved, Parts, next_part, part_at}
use Rattle.hdc_regular.specs.PartMirror.{part_of, parts_of, joined}
use Rattle.hdc_regular.specs.Building.{is_held, held_part, held_from, built, each_built}
use Rattle.hdc_regular.proofs.PartMirror.{pushed_part, joined_nothing, joined_behind}

-- the items from one on are that one and those behind it
from_item : {X : Type 0} (xs : List X) (i : ℕ) (x : X) → i < length xs → x ≡ get_or xs i x → drop i xs ≡ x ∷ drop (i + 1) xs
from_item xs i x lt e = drop-cons xs i x lt ∙ ap (λ z. z ∷ drop (suc i) xs) (sym e) ∙ ap (λ z. x ∷ drop z xs) (sym (add-one i))

module _ {X : Type 0} (f : X → WrittenType) (outlines : List Outline) (names : List (Binding Standing)) (params : List (Binding ℕ)) (xs : List X) (i : ℕ) where
  -- one more type is built
  pub pushed_step : (x : X) (t : Part) (ts us : List Part) → us ≡ ts ++ t ∷ [] → i < length xs → x ≡ get_or xs i x → part_of t ≡ built outlines names params (f x)
      → joined (parts_of ts) (each_built outlines names params (each_type f (drop i xs))) ≡ joined (parts_of us) (each_built outlines names params (each_type f (drop (i + 1) xs)))
  pushed_step x t ts us p lt e b =
      ap (λ z. joined (parts_of ts) (each_built outlines names params (each_type f z))) (from_item xs i x lt e)
      ∙ ap (λ z. joined (parts_of ts) (next_part z (each_built outlines names params (each_type f (drop (i + 1) xs))))) (sym b)
      ∙ sym (pushed_part ts t (each_built outlines names params (each_type f (drop (i + 1) xs))))
      ∙ ap (λ z. joined (parts_of z) (each_built outlines names params (each_type f (drop (i + 1) xs)))) (sym p)

  -- none is left
  pub pushed_all : (ts : List Part) → length xs ≤ i → joined (parts_of ts) (each_built outlines names params (each_type f (drop i xs))) ≡ parts_of ts
  pushed_all ts ge = ap (λ z. joined (parts_of ts) (each_built outlines names params (each_type f z))) (drop_of_length-le xs ge) ∙ joined_nothing (parts_of ts)

  -- the same where some are held
  pub held_step : (holds : List Bool) (j k : ℕ) (x : X) (t : Part) (ts us : List Part) → k ≡ suc j → us ≡ ts ++ t ∷ [] → i < length xs → x ≡ get_or xs i x → part_of t ≡ held_part (is_held holds j) (built outlines names params (f x))
      → joined (parts_of ts) (held_from holds j (each_built outlines names params (each_type f (drop i xs)))) ≡ joined (parts_of us) (held_from holds k (each_built outlines names params (each_type f (drop (i + 1) xs))))
  held_step holds j k x t ts us next p lt e b =
      ap (λ z. joined (parts_of ts) (held_from holds j (each_built outlines names params (each_type f z)))) (from_item xs i x lt e)
      ∙ ap (λ z. joined (parts_of ts) (next_part z (held_from holds (suc j) (each_built outlines names params (each_type f (drop (i + 1) xs)))))) (sym b)
      ∙ sym (pushed_part ts t (held_from holds (suc j) (each_built outlines names params (each_type f (drop (i + 1) xs)))))
      ∙ ap (λ z. joined (parts_of z) (held_from holds (suc j) (each_built outlines names params (each_type f (drop (i + 1) xs))))) (sym p)
      ∙ ap (λ z. joined (parts_of us) (held_from holds z (each_built outlines names params (each_type f (drop (i + 1) xs))))) (sym next)

  pub held_all : (holds : List Bool) (j : ℕ) (ts : List Part) → length xs ≤ i → joined (parts_of ts) (held_from holds j (each_built outlines names params (each_type f (drop i xs)))) ≡ parts_of ts
  held_all holds j ts ge = ap (λ z. joined (parts_of ts) (held_from holds j (each_built outlines names params (each_type f z)))) (drop_of_length-le xs ge) ∙ joined_nothing (parts_of ts)

  -- one of them is passed
  pub passed_step : (j : ℕ) (x : X) → i < length xs → x ≡ get_or xs i x → part_at (suc j) (each_built outlines names params (each_type f (drop i xs))) ≡ part_at j (each_built outlines names params (each_type f (drop (i + 1) xs)))
  passed_step j x lt e = ap (λ z. part_at (suc j) (each_built outlines names params (each_type f z))) (from_item xs i x lt e)

  pub passed_here : (x : X) → i < length xs → x ≡ get_or xs i x → part_at zero (each_built outlines names params (each_type f (drop i xs))) ≡ built outlines names params (f x)
  passed_here x lt e = ap (λ z. part_at zero (each_built outlines names params (each_type f z))) (from_item xs i x lt e)

-- one part, and those behind it
pub first_and_more : (t : Part) (ts us vs : List Part) (r : Resolved) (rs : Parts) → ts ≡ [] → us ≡ ts ++ t ∷ [] → part_of t ≡ r → parts_of vs ≡ joined (parts_of us) rs → parts_of vs ≡ next_part r rs
first_and_more t ts us vs r rs none one b more =
    more
    ∙ ap (λ z. joined (parts_of z) rs) (one ∙ ap (λ z. z ++ t ∷ []) none)
    ∙ ap (λ z. next_part z rs) b

-- types that are built one behind another
pub built_both : (outlines : List Outline) (names : List (Binding Standing)) (params : List (Binding ℕ)) (xs ys : List Atype)
    → each_built outlines names params (each_type atype_of (xs ++ ys)) ≡ joined (each_built outlines names params (each_type atype_of xs)) (each_built outlines names params (each_type atype_of ys))
built_both outlines names params [] ys = refl
built_both outlines names params (x ∷ xs) ys = ap (λ z. next_part (built outlines names params (atype_of x)) z) (built_both outlines names params xs ys)

-- ---- the fields of constructors

module _ (outlines : List Outline) (names : List (Binding Standing)) (params : List (Binding ℕ)) (cs : List BarConstr) (i : ℕ) where
  pub fields_step : (c : BarConstr) (ts us : List Part) → i < length cs → c ≡ get_or cs i c → parts_of us ≡ joined (parts_of ts) (each_built outlines names params (each_type atype_of c.constr.fields))
      → joined (parts_of ts) (each_built outlines names params (each_type atype_of (fields_behind (drop i cs)))) ≡ joined (parts_of us) (each_built outlines names params (each_type atype_of (fields_behind (drop (i + 1) cs))))
  fields_step c ts us lt e p =
      ap (λ z. joined (parts_of ts) (each_built outlines names params (each_type atype_of (fields_behind z)))) (from_item cs i c lt e)
      ∙ ap (joined (parts_of ts)) (built_both outlines names params c.constr.fields (fields_behind (drop (i + 1) cs)))
      ∙ sym (joined_behind (parts_of ts) (each_built outlines names params (each_type atype_of c.constr.fields)) (each_built outlines names params (each_type atype_of (fields_behind (drop (i + 1) cs)))))
      ∙ ap (λ z. joined z (each_built outlines names params (each_type atype_of (fields_behind (drop (i + 1) cs))))) (sym p)

  pub fields_all : (ts : List Part) → length cs ≤ i → joined (parts_of ts) (each_built outlines names params (each_type atype_of (fields_behind (drop i cs)))) ≡ parts_of ts
  fields_all ts ge = ap (λ z. joined (parts_of ts) (each_built outlines names params (each_type atype_of (fields_behind z)))) (drop_of_length-le cs ge) ∙ joined_nothing (parts_of ts)
