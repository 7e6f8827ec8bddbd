-- The values of a block whose nodes reach themselves.
use Rattle.std.specs.Prelude.{◌≡◌, ℕ, suc, ◌↔◌, Bool, true, false, List, [], ◌∷◌, ◌++◌, slice_index_or, Option, None, Some}
use Rattle.hdc_base.specs.declared.place.At.{At}
use Rattle.hdc_graph.specs.Needs.{Nodes, Reaches}
use Rattle.hdc_written.specs.declared.breach.Breach.{Breach}
use Rattle.hdc_written.specs.declared.breach.Found.{Found}
use Rattle.hdc_written.specs.Breaches.{breach, all_noted, IsOneOf}
use Rattle.hdc_written.specs.Written.{Patterns, no_pattern, pattern, Declarations, no_declaration, declaration}
use Rattle.hdc_needs.specs.Needy.{value_at, declaration_at, value_in}

-- a value's first token, if it has no parameters
abbrev pub plain_at : At → Patterns → Option At
plain_at at no_pattern = Some at
plain_at at (pattern p ps) = None

abbrev pub needy_value : Bool → Option At → List Breach
needy_value b None = []
needy_value true (Some at) = breach 11 at ∷ []
needy_value false (Some at) = []

-- the values, numbered from this number on, at whose numbers something is set
abbrev pub needy_values : List Bool → ℕ → Declarations → List Breach
needy_values cyclic k no_declaration = []
needy_values cyclic k (declaration d ds) = needy_value (slice_index_or cyclic k false) (value_at d) ++ needy_values cyclic (suc k) ds

-- a value's node reaches itself
pub record IsCyclic (g : Nodes) (ds : Declarations) (b : Breach) : Type 0 where
  pub rule : b.rule ≡ 11
  pub number : ℕ
  pub is_value : value_in (declaration_at number ds) ≡ Some b.at
  pub reaches : Reaches g number number

-- just such values were noted
pub record AreNoted (g : Nodes) (ds : Declarations) (old new : Found) : Type 0 where
  pub breaches : List Breach
  pub noted : new ≡ all_noted old breaches
  pub exactly : (b : Breach) → IsOneOf b breaches ↔ IsCyclic g ds b
