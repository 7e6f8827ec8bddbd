-- The names that declarations bind, with the numbers of the declarations.
use Rattle.std.specs.Prelude.{ℕ, suc, List, [], ◌∷◌, ◌++◌}
use Rattle.hdc_tree.specs.declared.name.Name.{Name}
use Rattle.hdc_written.specs.Written.{Declarations, no_declaration, declaration, bound}
use Rattle.hdc_written.specs.Events.{Event, used, constructed, matched, ranged, generated, opened, introduced, block, declaring, body, closed}
use Rattle.hdc_needs.specs.Walk.{Mention}

-- one declaration mentions these names
abbrev pub mentions : ℕ → List Name → List Mention
mentions k [] = []
mentions k (x ∷ xs) = record { number = k; name = x } ∷ mentions k xs

-- what declarations bind, numbered from this number on
abbrev pub bound_from : ℕ → Declarations → List Mention
bound_from k no_declaration = []
bound_from k (declaration d ds) = mentions k (bound d) ++ bound_from (suc k) ds

-- the variables that come into scope
abbrev pub introduced_by : ℕ → Event → List Mention
introduced_by k (used x) = []
introduced_by k (constructed x) = []
introduced_by k (matched x n) = []
introduced_by k (ranged a) = []
introduced_by k (generated a) = []
introduced_by k opened = []
introduced_by k (introduced x) = record { number = k; name = x } ∷ []
introduced_by k (block ds) = []
introduced_by k declaring = []
introduced_by k body = []
introduced_by k closed = []

abbrev pub introduced_in : ℕ → List Event → List Mention
introduced_in k [] = []
introduced_in k (e ∷ es) = introduced_by k e ++ introduced_in k es
