-- Names of constructors stand for those of the data types.
use Rattle.std.proofs.Common.{◌≡◌, ℕ, suc, List, [], ◌∷◌, ◌++◌, Some, length, refl, sym, ap, subst, ◌∙◌, append_assoc, append-nil, arith, length-append}
use Rattle.std.specs.Prelude.{codes}
use Rattle.std.specs.List.{slice_get}
use Rattle.hdc_resolved.specs.Syntax.{TypeTree}
use Rattle.hdc_resolved.specs.declared.name.Constructor.{Constructor}
use Rattle.hdc_tree.specs.declared.program.BarConstr.{BarConstr}
use Rattle.hdc_tree.specs.declared.program.Constr.{Constr}
use Rattle.hdc_tree.specs.declared.program.Data.{Data}
use Rattle.hdc_tree.specs.declared.program.Top.{Top}
use Rattle.hdc_tree.specs.declared.program.Top.TheVariants as top
use Rattle.hdc_tree.specs.declared.type_tree.Atype.{Atype}
use Rattle.hdc_type_names.specs.Synonyms.{all_synonyms}
use Rattle.hdc_type_names.specs.TypeNames.{TypeNames, prelude_types, program_types}
use Rattle.hdc_type_names.specs.Variables.{places_from}
use Rattle.hdc_value.specs.declared.ty.Con.{Con}
use Rattle.hdc_value.specs.declared.ty.DataDef.{DataDef}
use Rattle.hdc_value.specs.declared.ty.TypeNode.{TypeNode}
use Rattle.hdc_written.specs.Scopes as scopes
use Rattle.hdc_written.specs.Scopes.{standing_for}
use Rattle.hdc_resolving.specs.Standing.{Constructors, Numbered, constructor_of, constructors_from, data_constructors, top_constructors, constructors_in, truth, built_in_constructors, prelude_constructors, program_constructors}
use Rattle.hdc_datas.specs.Datas as datas
use Rattle.hdc_datas.specs.Datas.{bool_type, fields_of, constructors_behind, data_of, top_datas, each_data, all_datas}
use Rattle.hdc_datas.specs.Expanded.{expanded}
use Rattle.hdc_numbers.specs.Numbers.{IsConstructor}
use Rattle.hdc_numbers.proofs.Places.{get_more, get_next, found}

-- what stands for a constructor is one of these data types
AreThose : Constructors → List DataDef → Type 0
AreThose scope ds = (x : List ℕ) (c : Constructor) → standing_for x scope ≡ Some c → IsConstructor ds x c

those_more : (scope : Constructors) (ds es : List DataDef) → AreThose scope ds → AreThose scope (ds ++ es)
unfolding AreThose
those_more scope ds es are = λ x c is.
    let h = are x c is in
    record {
      number = h.number;
      of_data = h.of_data;
      data_type = h.data_type;
      at_number = get_more ds es h.number h.data_type h.at_number;
      con = h.con;
      at_tag = h.at_tag;
      named = h.named;
      fields = h.fields;
    }

-- one constructor more, which is that of the data type with this number
one_those : (n tag : ℕ) (c : Constr) (d : DataDef) (con : Con) (ds : List DataDef) (scope : Constructors) → slice_get ds n ≡ Some d → slice_get d.cons tag ≡ Some con → con.name ≡ c.name.text → length con.fields ≡ length c.fields → AreThose scope ds → AreThose (constructor_of n tag c ∷ scope) ds
unfolding AreThose
one_those n tag c d con ds scope at_number at_tag named fields are = λ x e is.
    found x c.name.text (constructor_of n tag c).what e scope
    (λ same here. subst (IsConstructor ds x) here (record { number = n; of_data = refl; data_type = d; at_number = at_number; con = con; at_tag = at_tag; named = named ∙ sym same; fields = fields }))
    (are x e) is

module _ (prefix : TypeTree → List TypeNode) (names : TypeNames) where
  fields_counted : (vs : List (scopes.Binding ℕ)) (ts : List Atype) → length (fields_of prefix names vs ts) ≡ length ts
  fields_counted vs [] = refl
  fields_counted vs (t ∷ ts) = ap suc (fields_counted vs ts)

  -- the constructors of a data type from one on
  rest_those : (n tag : ℕ) (vs : List (scopes.Binding ℕ)) (d : DataDef) (ds : List DataDef) (cs : List BarConstr) (before : List Con) (scope : Constructors) → slice_get ds n ≡ Some d → tag ≡ length before → d.cons ≡ before ++ constructors_behind prefix names vs cs → AreThose scope ds → AreThose (constructors_from n tag cs scope) ds
  rest_those n tag vs d ds [] before scope at_number place cons are = are
  rest_those n tag vs d ds (c ∷ cs) before scope at_number place cons are =
      let con = datas.constructor_of prefix names vs c.constr in
      let behind = constructors_behind prefix names vs cs in
      rest_those n (suc tag) vs d ds cs (before ++ con ∷ []) (constructor_of n tag c.constr ∷ scope) at_number
      (let l = length-append before (con ∷ []) in omega (arith, l, place))
      (cons ∙ sym (append_assoc before (con ∷ []) behind))
      (one_those n tag c.constr d con ds scope at_number (subst (λ z. slice_get z tag ≡ Some con) (sym cons) (get_next before behind con tag place)) refl (fields_counted vs c.constr.fields) are)

  -- all that a data type declares
  data_those : (d : Data) (s : Numbered Constructor) (ds : List DataDef) → s.next ≡ length ds → AreThose s.scope ds → AreThose (data_constructors d s).scope (ds ++ data_of prefix names d ∷ [])
  data_those d s ds next are =
      let this = data_of prefix names d in
      let vs = places_from 0 d.params in
      let first = datas.constructor_of prefix names vs d.first in
      let more = ds ++ this ∷ [] in
      let at_number = get_next ds [] this s.next next in
      rest_those s.next 1 vs this more d.rest (first ∷ []) (constructor_of s.next 0 d.first ∷ s.scope) at_number refl refl
      (one_those s.next 0 d.first this first more s.scope at_number refl refl (fields_counted vs d.first.fields) (those_more s.scope ds (this ∷ []) are))

  -- names of constructors that are bound are those of these data types
  record AreNumbered (s : Numbered Constructor) (ds : List DataDef) : Type 0 where
    pub next : s.next ≡ length ds
    pub those : AreThose s.scope ds

  no_more : (s : Numbered Constructor) (ds : List DataDef) → AreNumbered s ds → AreNumbered s (ds ++ [])
  no_more s ds are = subst (AreNumbered s) (sym (append-nil ds)) are

  one_more : (t : Top) (s : Numbered Constructor) (ds : List DataDef) → AreNumbered s ds → AreNumbered (top_constructors t s) (ds ++ top_datas prefix names t)
  one_more top.Empty s ds are = no_more s ds are
  one_more (top.Data d) s ds are = record {
    next = let l = length-append ds (data_of prefix names d ∷ []) in omega (arith, l, are.next);
    those = data_those d s ds are.next are.those;
  }
  one_more (top.Synonym y) s ds are = no_more s ds are
  one_more (top.Fixity f) s ds are = no_more s ds are
  one_more (top.Signature x xs a t) s ds are = no_more s ds are
  one_more (top.Equation h r) s ds are = no_more s ds are

  all_more : (ts : List Top) (s : Numbered Constructor) (ds : List DataDef) → AreNumbered s ds → AreNumbered (constructors_in ts s) (ds ++ each_data prefix names ts)
  all_more [] s ds are = no_more s ds are
  all_more (t ∷ ts) s ds are =
      subst (AreNumbered (constructors_in ts (top_constructors t s))) (append_assoc ds (top_datas prefix names t) (each_data prefix names ts))
      (all_more ts (top_constructors t s) (ds ++ top_datas prefix names t) (one_more t s ds are))

-- ---- what is built in

first_those : AreThose built_in_constructors (bool_type ∷ [])
unfolding AreThose
first_those = λ x c is.
    found x (codes "True") (truth (codes "True") 1).what c (truth (codes "False") 0 ∷ [])
    (λ same here. subst (IsConstructor (bool_type ∷ []) x) here (record { number = 0; of_data = refl; data_type = bool_type; at_number = refl; con = record { name = codes "True"; fields = [] }; at_tag = refl; named = sym same; fields = refl }))
    (λ e. found x (codes "False") (truth (codes "False") 0).what c []
    (λ same here. subst (IsConstructor (bool_type ∷ []) x) here (record { number = 0; of_data = refl; data_type = bool_type; at_number = refl; con = record { name = codes "False"; fields = [] }; at_tag = refl; named = sym same; fields = refl }))
    (λ f. absurd (cc)) e) is

module _ (prefix : TypeTree → List TypeNode) (ps ts : List Top) where
  first_numbered : AreNumbered prefix (prelude_types ps) (record { scope = built_in_constructors; next = 1 }) (bool_type ∷ [])
  first_numbered = record { next = refl; those = first_those }

  in_prelude : AreNumbered prefix (prelude_types ps) (prelude_constructors ps) (bool_type ∷ each_data prefix (prelude_types ps) ps)
  in_prelude = all_more prefix (prelude_types ps) ps (record { scope = built_in_constructors; next = 1 }) (bool_type ∷ []) first_numbered

  in_program : AreNumbered prefix (program_types ps ts) (program_constructors ps ts) ((bool_type ∷ each_data prefix (prelude_types ps) ps) ++ each_data prefix (program_types ps ts) ts)
  in_program = all_more prefix (program_types ps ts) ts (prelude_constructors ps) (bool_type ∷ each_data prefix (prelude_types ps) ps) (record { next = in_prelude.next; those = in_prelude.those })

pub prelude_constructor : (ps ts : List Top) (x : List ℕ) (c : Constructor) → standing_for x (prelude_constructors ps).scope ≡ Some c → IsConstructor (all_datas ps ts) x c
unfolding AreThose
prelude_constructor ps ts x c is =
    let prefix = expanded (all_synonyms ps ts) in
    those_more (prelude_constructors ps).scope (bool_type ∷ each_data prefix (prelude_types ps) ps) (each_data prefix (program_types ps ts) ts) (in_prelude prefix ps ts).those x c is

pub program_constructor : (ps ts : List Top) (x : List ℕ) (c : Constructor) → standing_for x (program_constructors ps ts).scope ≡ Some c → IsConstructor (all_datas ps ts) x c
unfolding AreThose
program_constructor ps ts x c is = (in_program (expanded (all_synonyms ps ts)) ps ts).those x c is
