-- What the passes find is what is found in the declarations as they are built.
use Rattle.std.proofs.Common.{◌≡◌, ℕ, zero, suc, ◌+◌, Bool, false, List, [], ◌∷◌, ◌++◌, Some, map, drop, length, get_or, refl, sym, ap, subst, ◌∙◌, append-nil}
use Rattle.std.proofs.Math.Path.{fun_ext}
use Rattle.std.proofs.lemmas.List.{drop-map, length-map}
use Rattle.std.specs.Prelude.{slice_set}
use Rattle.hdc_tree.specs.declared.program.Top.{Top}
use Rattle.hdc_graph.specs.Needs.{IsClosed, IsNumbering}
use Rattle.hdc_written.specs.declared.breach.Found.{Found}
use Rattle.hdc_written.specs.Breaches.{all_noted, nothing_found}
use Rattle.hdc_regular.specs.declared.contents.Usage.{Usage}
use Rattle.hdc_regular.specs.declared.demand.Demand.{Demand}
use Rattle.hdc_regular.specs.declared.outline.Outline.{Outline}
use Rattle.hdc_regular.specs.declared.summary.Summary.{Summary}
use Rattle.hdc_regular.specs.Resolved.{Resolved, parameter, use_of, other, Parts, no_part, next_part, Declaration, data_type, synonym, neither, declaration_at, is_synonym}
use Rattle.hdc_regular.specs.Expansion.{types_in, each_types_in, synonyms_of}
use Rattle.hdc_regular.specs.Named.{body_of, named_needs}
use Rattle.hdc_regular.specs.Contents.{uses_in, each_uses_in}
use Rattle.hdc_regular.specs.Walk.{each_wrong, is_in_group}
use Rattle.hdc_regular.specs.Building.{no_outline}
use Rattle.hdc_regular.specs.Built.{built_by}
use Rattle.hdc_regular.specs.Outlines.{outlines_by}
use Rattle.hdc_regular.specs.Demands.{no_demand, demand_at, met, demanded, demands_by}
use Rattle.hdc_regular.specs.Judged.{repeat_of, built_in_order, uses_of_synonym, demands_of, tables_of, breaches_from}
use Rattle.hdc_regular.specs.Model.{declared_wrong, all_wrong}
use Rattle.hdc_regular.specs.Passes.{kind_of, summary_of, summary_at, is_synonym_kind, synonym_flags, numbers_used, summary_needs, synonym_uses, demands_set, summary_wrong, summaries_wrong, IsFoundIn}
use Rattle.hdc_regular.proofs.UsesFound.{listed, found_in_each}
use Rattle.hdc_regular.proofs.Steps.{size_texts}
use Rattle.hdc_regular.proofs.BelowCount.{closed_texts}

numbers_both : (xs ys : List Usage) → numbers_used (xs ++ ys) ≡ numbers_used xs ++ numbers_used ys
numbers_both [] ys = refl
numbers_both (x ∷ xs) ys = ap (λ z. x.number ∷ z) (numbers_both xs ys)

-- the numbers of the uses in a type are those of what it names
mutual
  numbers_in : (t : Resolved) → numbers_used (uses_in t) ≡ types_in t
  numbers_in (parameter i) = refl
  numbers_in (use_of n at ts) = ap (λ z. n ∷ z) (each_numbers_in ts)
  numbers_in (other ts) = each_numbers_in ts

  each_numbers_in : (ts : Parts) → numbers_used (each_uses_in ts) ≡ each_types_in ts
  each_numbers_in no_part = refl
  each_numbers_in (next_part t ts) =
      numbers_both (uses_in t) (each_uses_in ts)
      ∙ ap (λ z. z ++ numbers_used (each_uses_in ts)) (numbers_in t)
      ∙ ap (λ z. types_in t ++ z) (each_numbers_in ts)

-- what summaries need is what the declarations name
pub needs_summed : (es : List Declaration) → summary_needs (map summary_of es) ≡ named_needs es
needs_summed [] = refl
needs_summed (e ∷ es) =
    ap (λ z. z ∷ summary_needs (map summary_of es)) (each_numbers_in (body_of e))
    ∙ ap (λ z. each_types_in (body_of e) ∷ z) (needs_summed es)

kind_synonym : (d : Declaration) → is_synonym_kind (kind_of d) ≡ is_synonym d
kind_synonym (data_type k ts) = refl
kind_synonym (synonym t) = refl
kind_synonym neither = refl

flag_of : (es : List Declaration) (n : ℕ) → get_or (synonym_flags (map summary_of es)) n false ≡ synonyms_of es n
flag_of [] n = refl
flag_of (e ∷ es) zero = kind_synonym e
flag_of (e ∷ es) (suc n) = flag_of es n

-- the flags are those of the synonyms
flags_of : (es : List Declaration) → (λ (n : ℕ). get_or (synonym_flags (map summary_of es)) n false) ≡ synonyms_of es
flags_of es = fun_ext (λ n. flag_of es n)

uses_there : (d : Declaration) → synonym_uses (summary_of d) ≡ uses_of_synonym d
uses_there (data_type k ts) = refl
uses_there (synonym t) = append-nil (uses_in t)
uses_there neither = refl

uses_at : (es : List Declaration) (n : ℕ) → synonym_uses (summary_at (map summary_of es) n) ≡ uses_of_synonym (declaration_at es n)
uses_at [] n = refl
uses_at (e ∷ es) zero = uses_there e
uses_at (e ∷ es) (suc n) = uses_at es n

module _ (es : List Declaration) (numbers : List ℕ) where
  abbrev ss : List Summary
  ss = map summary_of es

  abbrev flags : List Bool
  flags = synonym_flags (map summary_of es)

  -- what is asked is what the synonyms ask
  demands_same : (order : List ℕ) (demands : List Demand)
      → demands_set ss flags numbers order demands ≡ demands_by (λ n. is_in_group numbers (get_or numbers n 0)) (synonyms_of es) (λ n. uses_of_synonym (declaration_at es n)) order demands
  demands_same [] demands = refl
  demands_same (n ∷ ns) demands =
      ap (λ z. demands_set ss flags numbers ns (slice_set demands n (demanded (is_in_group numbers (get_or numbers n 0)) z demands (synonym_uses (summary_at ss n)) no_demand))) (flags_of es)
      ∙ ap (λ z. demands_set ss flags numbers ns (slice_set demands n (demanded (is_in_group numbers (get_or numbers n 0)) (synonyms_of es) demands z no_demand))) (uses_at es n)
      ∙ demands_same ns (slice_set demands n (demanded (is_in_group numbers (get_or numbers n 0)) (synonyms_of es) demands (uses_of_synonym (declaration_at es n)) no_demand))

  demands_whole : (order : List ℕ) → demands_set ss flags numbers order (repeat_of no_demand (length ss)) ≡ demands_of es numbers order
  demands_whole order =
      ap (λ z. demands_set ss flags numbers order (repeat_of no_demand z)) (length-map es summary_of)
      ∙ demands_same order (repeat_of no_demand (length es))

  module _ (demands : List Demand) where
    listed_same : (group k : ℕ) → listed flags demands numbers group k ≡ tables_of es demands
    listed_same group k = ap (λ (z : ℕ → Bool). record { synonyms = z; fits = λ n. met (demand_at demands n) }) (flags_of es)

    -- what is found in a summary is what is found in the declaration
    one_judged : (n : ℕ) (d : Declaration) → summary_wrong flags demands numbers n (summary_of d) ≡ declared_wrong (tables_of es demands) numbers n d
    one_judged n (data_type k ts) =
        sym (found_in_each flags demands numbers (get_or numbers n 0) k ts)
        ∙ ap (λ z. each_wrong z (is_in_group numbers (get_or numbers n 0)) k (λ j. Some j) ts) (listed_same (get_or numbers n 0) k)
    one_judged n (synonym t) = refl
    one_judged n neither = refl

    all_judged : (n : ℕ) (ds : List Declaration) → summaries_wrong flags demands numbers n (map summary_of ds) ≡ all_wrong (tables_of es demands) numbers n ds
    all_judged n [] = refl
    all_judged n (d ∷ ds) =
        ap (λ z. z ++ summaries_wrong flags demands numbers (suc n) (map summary_of ds)) (one_judged n d)
        ∙ ap (λ z. declared_wrong (tables_of es demands) numbers n d ++ z) (all_judged (suc n) ds)

  breaches_same : (order : List ℕ) (from : ℕ)
      → summaries_wrong flags (demands_set ss flags numbers order (repeat_of no_demand (length ss))) numbers from (drop from ss) ≡ breaches_from from es numbers order
  breaches_same order from =
      ap (λ z. summaries_wrong flags z numbers from (drop from ss)) (demands_whole order)
      ∙ ap (λ z. summaries_wrong flags (demands_of es numbers order) numbers from z) (drop-map summary_of from es)
      ∙ all_judged (demands_of es numbers order) from (drop from es)

-- ---- the whole search

module _ (ps ts : List Top) (sounds : List Bool) (order : List ℕ) (size : ℕ) (outlines : List Outline) (ss : List Summary)
    (sized : size ≡ length ps + length ts) (known : outlines ≡ outlines_by ps ts sounds order (repeat_of no_outline size)) (summed : ss ≡ map summary_of (built_by outlines ps ts sounds)) where
  abbrev es : List Declaration
  es = built_in_order ps ts sounds order (length ps + length ts)

  summed_whole : ss ≡ map summary_of es
  summed_whole = summed ∙ ap (λ z. map summary_of (built_by z ps ts sounds)) known ∙ ap (λ z. map summary_of (built_in_order ps ts sounds order z)) sized

  closed_whole : IsClosed (named_needs es)
  closed_whole = closed_texts (outlines_by ps ts sounds order (repeat_of no_outline (length ps + length ts))) ps ts sounds

  needs_whole : summary_needs ss ≡ named_needs es
  needs_whole = ap summary_needs summed_whole ∙ needs_summed es

  pub needs_closed : (needs : List (List ℕ)) → needs ≡ summary_needs ss → IsClosed needs
  needs_closed needs e = subst IsClosed (sym (e ∙ needs_whole)) closed_whole

  pub needs_size : (needs : List (List ℕ)) → needs ≡ summary_needs ss → length needs ≡ size
  needs_size needs e =
      ap length (e ∙ ap summary_needs summed)
      ∙ ap length (needs_summed (built_by outlines ps ts sounds))
      ∙ length-map (built_by outlines ps ts sounds) (λ d. each_types_in (body_of d))
      ∙ size_texts outlines ps ts sounds
      ∙ sym sized

  pub judged_found : (needs : List (List ℕ)) (numbers : List ℕ) (synonyms : List Bool) (demands : List Demand) (f g : Found) (from : ℕ) → needs ≡ summary_needs ss → IsNumbering needs numbers → synonyms ≡ synonym_flags ss
      → demands ≡ demands_set ss synonyms numbers order (repeat_of no_demand (length ss)) → f ≡ nothing_found → from ≡ length ps → g ≡ all_noted f (summaries_wrong synonyms demands numbers from (drop from ss)) → IsFoundIn ps ts sounds order g
  judged_found needs numbers synonyms demands f g from e numbering flagged asked nothing start noted = record {
    closed = closed_whole;
    numbers = numbers;
    numbering = subst (λ z. IsNumbering z numbers) (e ∙ needs_whole) numbering;
    noted =
        noted
        ∙ ap (λ z. all_noted f (summaries_wrong synonyms z numbers from (drop from ss))) asked
        ∙ ap (λ z. all_noted f (summaries_wrong z (demands_set ss z numbers order (repeat_of no_demand (length ss))) numbers from (drop from ss))) flagged
        ∙ ap (λ z. all_noted f (summaries_wrong (synonym_flags z) (demands_set z (synonym_flags z) numbers order (repeat_of no_demand (length z))) numbers from (drop from z))) summed_whole
        ∙ ap (all_noted f) (breaches_same es numbers order from)
        ∙ ap (λ z. all_noted z (breaches_from from es numbers order)) nothing
        ∙ ap (λ z. all_noted nothing_found (breaches_from z es numbers order)) start;
  }
