-- What is found among the uses in types is what a walk over the types finds.
use Rattle.std.proofs.Common.{◌≡◌, ℕ, Bool, true, false, List, [], ◌∷◌, ◌++◌, Option, Some, get_or, refl, sym, ap, ◌∙◌, append_assoc}
use Rattle.hdc_base.specs.declared.place.At.{At}
use Rattle.hdc_regular.specs.declared.contents.Usage.{Usage}
use Rattle.hdc_regular.specs.declared.demand.Demand.{Demand}
use Rattle.hdc_regular.specs.Resolved.{Resolved, parameter, use_of, other, Parts, no_part, next_part}
use Rattle.hdc_regular.specs.Walk.{each_alias_of, Tables, each_followed, use_fits, wrong_use, wrong, each_wrong, is_in_group}
use Rattle.hdc_regular.specs.Contents.{usage, uses_in, each_uses_in}
use Rattle.hdc_regular.specs.Demands.{demand_at, met}
use Rattle.hdc_regular.specs.Judging.{fits_by, usage_wrong, uses_wrong}
use Rattle.hdc_regular.proofs.Walking.{each_itself}

module _ (synonyms : List Bool) (demands : List Demand) (numbers : List ℕ) (group k : ℕ) where
  abbrev pub listed : Tables
  listed = record { synonyms = λ n. get_or synonyms n false; fits = λ n. met (demand_at demands n) }

  same_fits : (b : Bool) (n : ℕ) (at : At) (vs : List (Option ℕ)) → use_fits listed b n k (each_followed (λ j. Some j) vs) ≡ fits_by b demands k (usage n at vs)
  same_fits true n at vs = ap (met (demand_at demands n) k) (each_itself vs)
  same_fits false n at vs = ap (λ z. use_fits listed false n k z) (each_itself vs)

  both_found : (xs ys : List Usage) → uses_wrong synonyms demands numbers group k (xs ++ ys) ≡ uses_wrong synonyms demands numbers group k xs ++ uses_wrong synonyms demands numbers group k ys
  both_found [] ys = refl
  both_found (x ∷ xs) ys =
      ap (λ z. usage_wrong synonyms demands numbers group k x ++ z) (both_found xs ys)
      ∙ sym (append_assoc (usage_wrong synonyms demands numbers group k x) (uses_wrong synonyms demands numbers group k xs) (uses_wrong synonyms demands numbers group k ys))

  mutual
    pub found_in : (t : Resolved) → wrong listed (is_in_group numbers group) k (λ j. Some j) t ≡ uses_wrong synonyms demands numbers group k (uses_in t)
    found_in (parameter i) = refl
    found_in (use_of n at ts) =
        ap (λ z. wrong_use (is_in_group numbers group n) z at ++ each_wrong listed (is_in_group numbers group) k (λ j. Some j) ts) (same_fits (get_or synonyms n false) n at (each_alias_of ts))
        ∙ ap (λ z. usage_wrong synonyms demands numbers group k (usage n at (each_alias_of ts)) ++ z) (found_in_each ts)
    found_in (other ts) = found_in_each ts

    pub found_in_each : (ts : Parts) → each_wrong listed (is_in_group numbers group) k (λ j. Some j) ts ≡ uses_wrong synonyms demands numbers group k (each_uses_in ts)
    found_in_each no_part = refl
    found_in_each (next_part t ts) =
        ap (λ z. z ++ each_wrong listed (is_in_group numbers group) k (λ j. Some j) ts) (found_in t)
        ∙ ap (λ z. uses_wrong synonyms demands numbers group k (uses_in t) ++ z) (found_in_each ts)
        ∙ sym (both_found (uses_in t) (each_uses_in ts))
