-- The breaches that are noted, where it is known which declarations reach themselves.
use Rattle.std.specs.Prelude.{ℕ, suc, Bool, true, false, List, [], ◌∷◌, ◌++◌, slice_index_or}
use Rattle.hdc_tree.specs.declared.program.Top.{Top}
use Rattle.hdc_tree.specs.declared.program.Top.TheVariants as top
use Rattle.hdc_written.specs.declared.breach.Breach.{Breach}
use Rattle.hdc_written.specs.Breaches.{breach}

-- rule 9 is broken at the name of a synonym
abbrev pub synonym_breaches : Top → List Breach
synonym_breaches (top.Synonym s) = breach 9 s.name.at ∷ []
synonym_breaches top.Empty = []
synonym_breaches (top.Data d) = []
synonym_breaches (top.Fixity f) = []
synonym_breaches (top.Signature x xs a t) = []
synonym_breaches (top.Equation h r) = []

-- where a declaration reaches itself
abbrev pub where_cyclic : Bool → Top → List Breach
where_cyclic true t = synonym_breaches t
where_cyclic false t = []

-- the same for declarations, numbered from this number on
abbrev pub cyclic_breaches : List Bool → ℕ → List Top → List Breach
cyclic_breaches cyclic n [] = []
cyclic_breaches cyclic n (t ∷ ts) = where_cyclic (slice_index_or cyclic n false) t ++ cyclic_breaches cyclic (suc n) ts
