-- The bindings of a scope, from the last one, and what a name stands for by them.
use Rattle.std.specs.Prelude.{ℕ, Bool, false, ◌||◌, List, [], ◌∷◌, Option, None, Some, if◌then◌else◌}
use Rattle.std.specs.Str.{bytes_eq}
use Rattle.hdc_tree.specs.declared.name.Name.{Name}

-- a name, and what it is bound to
pub record Binding (T : Type 0) : Type 0 where
  pub name : List ℕ
  pub what : T

module _ {T : Type 0} where
  -- what the first binding of the name binds it to
  abbrev pub standing_for : List ℕ → List (Binding T) → Option T
  standing_for name [] = None
  standing_for name (b ∷ bs) = if bytes_eq name b.name then Some b.what else standing_for name bs

  -- names that are bound to one thing, one behind the other
  abbrev pub bound_to : T → List Name → List (Binding T) → List (Binding T)
  bound_to what [] scope = scope
  bound_to what (x ∷ xs) scope = bound_to what xs (record { name = x.text; what = what } ∷ scope)

-- whether a text is that of one of these names
abbrev pub names_text : List Name → List ℕ → Bool
names_text [] t = false
names_text (x ∷ xs) t = bytes_eq t x.text || names_text xs t
