-- Names in lists.
use Rattle.std.proofs.Common.{◌≡◌, ℕ, suc, append_assoc, append-nil, length, Bool, true, false, List, [], ◌∷◌, ◌++◌, ◌||◌, map, if◌then◌else◌, Some, is_some, refl, ap}
use Rattle.std.specs.Borrow.{Bor}
use Rattle.std.specs.Str.{bytes_eq}
use Rattle.hdc_base.specs.declared.place.At.{At}
use Rattle.hdc_tree.specs.declared.name.Name.{Name}
use Rattle.hdc_written.specs.Scopes.{Binding, standing_for, names_text}
use Rattle.hdc_written.specs.WrittenTypes.{WrittenType}
use Rattle.hdc_written.specs.TypeMirror.{each_type}
use Rattle.hdc_rules.specs.Types.{count_types}

-- one more name at the end
pub one_more : (xs : List (Bor Name)) (x : Bor Name) → map (λ y. y.now) (xs ++ x ∷ []) ≡ map (λ y. y.now) xs ++ x.now ∷ []
one_more [] x = refl
one_more (y ∷ ys) x = ap (λ rest. y.now ∷ rest) (one_more ys x)

-- the name that a binding with a place stands for
abbrev pub name_at : Binding At → Name
name_at b = record { at = b.what; text = b.name }

-- a text stands for a place where one of the names has it
pub stands_among : (t : List ℕ) (bs : List (Binding At)) → names_text (map name_at bs) t ≡ is_some (standing_for t bs)
stands_among t [] = refl
stands_among t (b ∷ bs) = by (bytes_eq t b.name) (stands_among t bs)
  where
    by : (c : Bool) → names_text (map name_at bs) t ≡ is_some (standing_for t bs) → (c || names_text (map name_at bs) t) ≡ is_some (if c then Some b.what else standing_for t bs)
    by true rest = refl
    by false rest = rest

pub ruleset in_order = (append_assoc, append-nil)

-- as many types are written as a list holds
pub count_types_each : {A : Type 0} (f : A → WrittenType) (xs : List A) → count_types (each_type f xs) ≡ length xs
count_types_each f [] = refl
count_types_each f (x ∷ xs) = ap (λ (n : ℕ). suc n) (count_types_each f xs)
