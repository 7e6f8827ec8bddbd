-- Synonyms in lists.
use Rattle.std.proofs.Common.{◌≡◌, List, [], ◌∷◌, ◌++◌, map, refl, ap, append_assoc, append-nil}
use Rattle.hdc_resolved.specs.declared.program.Synonym.{Synonym}
use Rattle.hdc_resolved.specs.Mirror.{synonym_of}

-- one more synonym at the end
pub one_more : (xs : List Synonym) (x : Synonym) → map synonym_of (xs ++ x ∷ []) ≡ map synonym_of xs ++ synonym_of x ∷ []
one_more [] x = refl
one_more (y ∷ ys) x = ap (λ rest. synonym_of y ∷ rest) (one_more ys x)

pub ruleset in_order = (append_assoc, append-nil, one_more)
