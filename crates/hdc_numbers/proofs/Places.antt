-- Items of lists by their places, and what a name stands for in scopes that grow.
use Rattle.std.proofs.Common.{◌≡◌, ℕ, zero, suc, Bool, true, false, List, [], ◌∷◌, ◌++◌, Some, length, refl, sym, subst, if◌then◌else◌}
use Rattle.std.specs.List.{slice_get}
use Rattle.std.specs.Str.{bytes_eq}
use Rattle.std.proofs.lemmas.Slice.Eq.{bytes_eq-Decides}
use Rattle.hdc_written.specs.Scopes.{Binding, standing_for}

-- an item stays where it is where others come behind
pub get_more : {A : Type 0} (xs ys : List A) (n : ℕ) (x : A) → slice_get xs n ≡ Some x → slice_get (xs ++ ys) n ≡ Some x
get_more [] ys n x h = absurd (cc)
get_more (y ∷ xs) ys zero x h = h
get_more (y ∷ xs) ys (suc n) x h = get_more xs ys n x h

at_seam : {A : Type 0} (xs ys : List A) (x : A) → slice_get (xs ++ x ∷ ys) (length xs) ≡ Some x
at_seam [] ys x = refl
at_seam (y ∷ xs) ys x = at_seam xs ys x

pub get_next : {A : Type 0} (xs ys : List A) (x : A) (n : ℕ) → n ≡ length xs → slice_get (xs ++ x ∷ ys) n ≡ Some x
get_next xs ys x n is = subst (λ k. slice_get (xs ++ x ∷ ys) k ≡ Some x) (sym is) (at_seam xs ys x)

-- what a name stands for where one more name is bound: what that is bound to, or what it stood for
pub found : {T W : Type 0} (x y : List ℕ) (what r : T) (scope : List (Binding T)) → (x ≡ y → what ≡ r → W) → (standing_for x scope ≡ Some r → W) → standing_for x (record { name = y; what = what } ∷ scope) ≡ Some r → W
found {T} {W} x y what r scope here behind is = by (bytes_eq x y) ((bytes_eq-Decides x y).0) is
  where
    by : (b : Bool) → (b ≡ true → x ≡ y) → (if b then Some what else standing_for x scope) ≡ Some r → W
    by true d e = let same : what ≡ r = cc in here (d refl) same
    by false d e = behind e
