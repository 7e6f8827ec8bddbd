-- Names of types are numbered in the order of the text.
use Rattle.std.proofs.Common.{◌≡◌, ℕ, List, [], ◌∷◌, ◌++◌, Some, length, map, refl, sym, ap, subst, ◌∙◌, append_assoc, append-nil, arith, length-append}
use Rattle.std.specs.Prelude.{codes}
use Rattle.std.specs.List.{slice_get}
use Rattle.std.proofs.lemmas.List.{map-append}
use Rattle.hdc_resolved.specs.Syntax.{TypeTree}
use Rattle.hdc_tree.specs.declared.program.Top.{Top}
use Rattle.hdc_tree.specs.declared.program.Top.TheVariants as top
use Rattle.hdc_type_names.specs.Synonyms.{top_synonyms, each_synonym, all_synonyms}
use Rattle.hdc_type_names.specs.TypeNames.{TypeNames, named, built_in, with_top, with_tops, prelude_types, program_types}
use Rattle.hdc_type_names.specs.declared.naming.Naming.{Naming}
use Rattle.hdc_type_names.specs.declared.type_name.TypeName.TheVariants as kind
use Rattle.hdc_value.specs.declared.ty.TypeNode.{TypeNode}
use Rattle.hdc_written.specs.Scopes.{standing_for}
use Rattle.hdc_datas.specs.Datas.{top_datas, each_data}
use Rattle.hdc_datas.specs.Expanded.{expanded}
use Rattle.hdc_numbers.specs.Numbers.{synonym_name, data_name, synonym_names, data_names}
use Rattle.hdc_numbers.proofs.Places.{get_more, get_next, found}

-- ---- the names that declarations bring

abbrev declared_synonym : Top → List (List ℕ)
declared_synonym top.Empty = []
declared_synonym (top.Data d) = []
declared_synonym (top.Synonym s) = s.name.text ∷ []
declared_synonym (top.Fixity f) = []
declared_synonym (top.Signature x xs a t) = []
declared_synonym (top.Equation h r) = []

abbrev declared_synonyms : List Top → List (List ℕ)
declared_synonyms [] = []
declared_synonyms (t ∷ ts) = declared_synonym t ++ declared_synonyms ts

abbrev declared_data : Top → List (List ℕ)
declared_data top.Empty = []
declared_data (top.Data d) = d.name.text ∷ []
declared_data (top.Synonym s) = []
declared_data (top.Fixity f) = []
declared_data (top.Signature x xs a t) = []
declared_data (top.Equation h r) = []

abbrev declared_datas : List Top → List (List ℕ)
declared_datas [] = []
declared_datas (t ∷ ts) = declared_data t ++ declared_datas ts

synonym_declared : (names : TypeNames) (t : Top) → map synonym_name (top_synonyms names t) ≡ declared_synonym t
synonym_declared names top.Empty = refl
synonym_declared names (top.Data d) = refl
synonym_declared names (top.Synonym s) = refl
synonym_declared names (top.Fixity f) = refl
synonym_declared names (top.Signature x xs a t) = refl
synonym_declared names (top.Equation h r) = refl

synonyms_declared : (names : TypeNames) (ts : List Top) → map synonym_name (each_synonym names ts) ≡ declared_synonyms ts
synonyms_declared names [] = refl
synonyms_declared names (t ∷ ts) =
    map-append synonym_name (top_synonyms names t) (each_synonym names ts)
    ∙ ap (λ z. map synonym_name (top_synonyms names t) ++ z) (synonyms_declared names ts)
    ∙ ap (λ z. z ++ declared_synonyms ts) (synonym_declared names t)

data_declared : (prefix : TypeTree → List TypeNode) (names : TypeNames) (t : Top) → map data_name (top_datas prefix names t) ≡ declared_data t
data_declared prefix names top.Empty = refl
data_declared prefix names (top.Data d) = refl
data_declared prefix names (top.Synonym s) = refl
data_declared prefix names (top.Fixity f) = refl
data_declared prefix names (top.Signature x xs a t) = refl
data_declared prefix names (top.Equation h r) = refl

datas_declared : (prefix : TypeTree → List TypeNode) (names : TypeNames) (ts : List Top) → map data_name (each_data prefix names ts) ≡ declared_datas ts
datas_declared prefix names [] = refl
datas_declared prefix names (t ∷ ts) =
    map-append data_name (top_datas prefix names t) (each_data prefix names ts)
    ∙ ap (λ z. map data_name (top_datas prefix names t) ++ z) (datas_declared prefix names ts)
    ∙ ap (λ z. z ++ declared_datas ts) (data_declared prefix names t)

-- ---- each brings the next number

-- names of synonyms and of data types that are bound have the numbers of their places
record AreNumbered (n : Naming) (ss ds : List (List ℕ)) : Type 0 where
  pub synonyms : n.synonyms ≡ length ss
  pub datas : n.datas ≡ length ds
  pub synonym : (x : List ℕ) (k : ℕ) → standing_for x n.names ≡ Some (kind.Synonym k) → slice_get ss k ≡ Some x
  pub data_type : (x : List ℕ) (k : ℕ) → standing_for x n.names ≡ Some (kind.Data k) → slice_get ds k ≡ Some x

no_more : (n : Naming) (ss ds : List (List ℕ)) → AreNumbered n ss ds → AreNumbered n (ss ++ []) (ds ++ [])
no_more n ss ds are = subst (λ z. AreNumbered n z (ds ++ [])) (sym (append-nil ss)) (subst (λ z. AreNumbered n ss z) (sym (append-nil ds)) are)

one_more : (n : Naming) (t : Top) (ss ds : List (List ℕ)) → AreNumbered n ss ds → AreNumbered (with_top n t) (ss ++ declared_synonym t) (ds ++ declared_data t)
one_more n top.Empty ss ds are = no_more n ss ds are
one_more n (top.Data d) ss ds are =
    let x0 = d.name.text in
    record {
      synonyms = are.synonyms ∙ ap length (sym (append-nil ss));
      datas = let l = length-append ds (d.name.text ∷ []) in omega (arith, l, are.datas);
      synonym = λ x k is. found x x0 (kind.Data n.datas) (kind.Synonym k) n.names (λ e same. absurd (cc)) (λ e. get_more ss [] k x (are.synonym x k e)) is;
      data_type = λ x k is.
          found x x0 (kind.Data n.datas) (kind.Data k) n.names
          (λ e same. let number : n.datas ≡ k = cc in subst (λ z. slice_get (ds ++ x0 ∷ []) k ≡ Some z) (sym e) (get_next ds [] x0 k (sym number ∙ are.datas)))
          (λ e. get_more ds (x0 ∷ []) k x (are.data_type x k e)) is;
    }
one_more n (top.Synonym s) ss ds are =
    let x0 = s.name.text in
    record {
      synonyms = let l = length-append ss (s.name.text ∷ []) in omega (arith, l, are.synonyms);
      datas = are.datas ∙ ap length (sym (append-nil ds));
      synonym = λ x k is.
          found x x0 (kind.Synonym n.synonyms) (kind.Synonym k) n.names
          (λ e same. let number : n.synonyms ≡ k = cc in subst (λ z. slice_get (ss ++ x0 ∷ []) k ≡ Some z) (sym e) (get_next ss [] x0 k (sym number ∙ are.synonyms)))
          (λ e. get_more ss (x0 ∷ []) k x (are.synonym x k e)) is;
      data_type = λ x k is. found x x0 (kind.Synonym n.synonyms) (kind.Data k) n.names (λ e same. absurd (cc)) (λ e. get_more ds [] k x (are.data_type x k e)) is;
    }
one_more n (top.Fixity f) ss ds are = no_more n ss ds are
one_more n (top.Signature x xs a t) ss ds are = no_more n ss ds are
one_more n (top.Equation h r) ss ds are = no_more n ss ds are

all_more : (n : Naming) (ts : List Top) (ss ds : List (List ℕ)) → AreNumbered n ss ds → AreNumbered (with_tops n ts) (ss ++ declared_synonyms ts) (ds ++ declared_datas ts)
all_more n [] ss ds are = no_more n ss ds are
all_more n (t ∷ ts) ss ds are =
    subst (λ z. AreNumbered (with_tops (with_top n t) ts) z (ds ++ (declared_data t ++ declared_datas ts))) (append_assoc ss (declared_synonym t) (declared_synonyms ts))
    (subst (λ z. AreNumbered (with_tops (with_top n t) ts) ((ss ++ declared_synonym t) ++ declared_synonyms ts) z) (append_assoc ds (declared_data t) (declared_datas ts))
    (all_more (with_top n t) ts (ss ++ declared_synonym t) (ds ++ declared_data t) (one_more n t ss ds are)))

-- what is built in
abbrev after_int : TypeNames
after_int = named (codes "Char") kind.Char ∷ (named (codes "Bool") (kind.Data 0) ∷ [])

abbrev after_char : TypeNames
after_char = named (codes "Bool") (kind.Data 0) ∷ []

first_names : AreNumbered built_in [] (codes "Bool" ∷ [])
first_names = record {
  synonyms = refl;
  datas = refl;
  synonym = λ x k is.
      found x (codes "Int") kind.Int (kind.Synonym k) after_int (λ e same. absurd (cc))
      (λ f. found x (codes "Char") kind.Char (kind.Synonym k) after_char (λ e same. absurd (cc))
      (λ g. found x (codes "Bool") (kind.Data 0) (kind.Synonym k) [] (λ e same. absurd (cc)) (λ h. absurd (cc)) g) f) is;
  data_type = λ x k is.
      found x (codes "Int") kind.Int (kind.Data k) after_int (λ e same. absurd (cc))
      (λ f. found x (codes "Char") kind.Char (kind.Data k) after_char (λ e same. absurd (cc))
      (λ g. found x (codes "Bool") (kind.Data 0) (kind.Data k) [] (λ e same. let number : 0 ≡ k = cc in subst (λ z. slice_get (codes "Bool" ∷ []) k ≡ Some z) (sym e) (get_next [] [] (codes "Bool") k (sym number))) (λ h. absurd (cc)) g) f) is;
}

module _ (ps ts : List Top) where
  in_prelude : AreNumbered (with_tops built_in ps) (declared_synonyms ps) (codes "Bool" ∷ declared_datas ps)
  in_prelude = all_more built_in ps [] (codes "Bool" ∷ []) first_names

  in_program : AreNumbered (with_tops (with_tops built_in ps) ts) (declared_synonyms ps ++ declared_synonyms ts) ((codes "Bool" ∷ declared_datas ps) ++ declared_datas ts)
  in_program = all_more (with_tops built_in ps) ts (declared_synonyms ps) (codes "Bool" ∷ declared_datas ps) in_prelude

  all_synonym_names : synonym_names ps ts ≡ declared_synonyms ps ++ declared_synonyms ts
  all_synonym_names =
      map-append synonym_name (each_synonym (prelude_types ps) ps) (each_synonym (program_types ps ts) ts)
      ∙ ap (λ z. z ++ map synonym_name (each_synonym (program_types ps ts) ts)) (synonyms_declared (prelude_types ps) ps)
      ∙ ap (λ z. declared_synonyms ps ++ z) (synonyms_declared (program_types ps ts) ts)

  datas_by_prefix : (prefix : TypeTree → List TypeNode) → map data_name (each_data prefix (prelude_types ps) ps ++ each_data prefix (program_types ps ts) ts) ≡ declared_datas ps ++ declared_datas ts
  datas_by_prefix prefix =
      map-append data_name (each_data prefix (prelude_types ps) ps) (each_data prefix (program_types ps ts) ts)
      ∙ ap (λ z. z ++ map data_name (each_data prefix (program_types ps ts) ts)) (datas_declared prefix (prelude_types ps) ps)
      ∙ ap (λ z. declared_datas ps ++ z) (datas_declared prefix (program_types ps ts) ts)

  all_data_names : data_names ps ts ≡ (codes "Bool" ∷ declared_datas ps) ++ declared_datas ts
  all_data_names = ap (λ z. codes "Bool" ∷ z) (datas_by_prefix (expanded (all_synonyms ps ts)))

  pub prelude_synonym : (x : List ℕ) (n : ℕ) → standing_for x (prelude_types ps) ≡ Some (kind.Synonym n) → slice_get (synonym_names ps ts) n ≡ Some x
  prelude_synonym x n is = subst (λ z. slice_get z n ≡ Some x) (sym all_synonym_names) (get_more (declared_synonyms ps) (declared_synonyms ts) n x (in_prelude.synonym x n is))

  pub program_synonym : (x : List ℕ) (n : ℕ) → standing_for x (program_types ps ts) ≡ Some (kind.Synonym n) → slice_get (synonym_names ps ts) n ≡ Some x
  program_synonym x n is = subst (λ z. slice_get z n ≡ Some x) (sym all_synonym_names) (in_program.synonym x n is)

  pub prelude_data : (x : List ℕ) (n : ℕ) → standing_for x (prelude_types ps) ≡ Some (kind.Data n) → slice_get (data_names ps ts) n ≡ Some x
  prelude_data x n is = subst (λ z. slice_get z n ≡ Some x) (sym all_data_names) (get_more (codes "Bool" ∷ declared_datas ps) (declared_datas ts) n x (in_prelude.data_type x n is))

  pub program_data : (x : List ℕ) (n : ℕ) → standing_for x (program_types ps ts) ≡ Some (kind.Data n) → slice_get (data_names ps ts) n ≡ Some x
  program_data x n is = subst (λ z. slice_get z n ≡ Some x) (sym all_data_names) (in_program.data_type x n is)
