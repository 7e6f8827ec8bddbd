-- How the entries of a scope, from the first one, and the places of its names belong together.
use Rattle.std.specs.Prelude.{◌≡◌, ℕ, List, [], ◌∷◌, length, map, reverse, Option, None, Some, if◌then◌else◌}
use Rattle.std.specs.Borrow.{Bor}
use Rattle.std.specs.Option.{option_flatten}
use Rattle.std.specs.Str.{bytes_eq}
use Rattle.indexmap.specs.IndexMap.{IndexMap, get_by}
use Rattle.hdc_written.specs.Scopes.{Binding}
use Rattle.hdc_written.specs.declared.scope.Entry.{Entry}

module _ {T : Type 0} where
  -- the binding of an entry
  abbrev pub binding : Entry T → Binding T
  binding e = record { name = e.name.now; what = e.what }

  -- the bindings of the entries, from the last one
  abbrev pub bindings : List (Entry T) → List (Binding T)
  bindings es = map binding (reverse es)

  -- the place of the last entry of the name, among entries from the last one
  abbrev pub place_back : List ℕ → List (Entry T) → Option ℕ
  place_back name [] = None
  place_back name (e ∷ es) = if bytes_eq name e.name.now then Some (length es) else place_back name es

  -- each entry has the place of the one before of its name, among entries from the last one
  abbrev pub IsLinkedBack : List (Entry T) → Type 0
  IsLinkedBack [] = Unit {0}
  IsLinkedBack (e ∷ es) = (e.before ≡ place_back e.name.now es) × IsLinkedBack es

  -- each entry has the place of the one before of its name
  abbrev pub IsLinked : List (Entry T) → Type 0
  IsLinked es = IsLinkedBack (reverse es)

-- the map has the place of the last entry of each name
abbrev pub IsIndexed : {T S : Type 0} → IndexMap (Bor (List ℕ)) (Option ℕ) S → List (Entry T) → Type 0
IsIndexed places es =
    (name : Bor (List ℕ)) → option_flatten (get_by (λ k. bytes_eq name.now k.now) places) ≡ place_back name.now (reverse es)
