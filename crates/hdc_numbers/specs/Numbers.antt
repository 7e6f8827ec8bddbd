-- What has a number, by its place in a list; and local numbers in scope.
use Rattle.std.specs.Prelude.{◌≡◌, ◌<◌, ℕ, List, Some, map, length}
use Rattle.std.specs.List.{slice_get}
use Rattle.hdc_bindings.specs.Tops.{all_bindings}
use Rattle.hdc_datas.specs.Datas.{all_datas}
use Rattle.hdc_resolved.specs.Syntax.{Binding, SynonymOf}
use Rattle.hdc_resolved.specs.declared.name.Constructor.{Constructor}
use Rattle.hdc_resolved.specs.declared.name.Family.TheVariants as family
use Rattle.hdc_resolved.specs.declared.name.Name.TheVariants as what
use Rattle.hdc_resolving.specs.Grouped.{Joining}
use Rattle.hdc_resolving.specs.declared.walk.Walk.{Walk}
use Rattle.hdc_tree.specs.declared.program.Top.{Top}
use Rattle.hdc_type_names.specs.Synonyms.{all_synonyms}
use Rattle.hdc_value.specs.declared.ty.Con.{Con}
use Rattle.hdc_value.specs.declared.ty.DataDef.{DataDef}
use Rattle.hdc_written.specs.Scopes.{standing_for}

-- ---- names by their numbers

abbrev pub synonym_name : SynonymOf → List ℕ
synonym_name s = s.text

abbrev pub data_name : DataDef → List ℕ
data_name d = d.name

abbrev pub binding_name : Binding → List ℕ
binding_name b = b.text

-- of all synonyms, of all data types, and of all bindings at the top
abbrev pub synonym_names : List Top → List Top → List (List ℕ)
synonym_names ps ts = map synonym_name (all_synonyms ps ts)

abbrev pub data_names : List Top → List Top → List (List ℕ)
data_names ps ts = map data_name (all_datas ps ts)

abbrev pub binding_names : Joining → List (List ℕ) → List Top → List Top → List (List ℕ)
binding_names join orders ps ts = map binding_name (all_bindings join ps ts orders)

-- among these data types, the constructor of this name
pub record IsConstructor (ds : List DataDef) (x : List ℕ) (c : Constructor) : Type 0 where
  -- its data type, by its number
  pub number : ℕ
  pub of_data : c.family ≡ family.OfData number
  pub data_type : DataDef
  pub at_number : slice_get ds number ≡ Some data_type
  -- and in it the constructor, by its place
  pub con : Con
  pub at_tag : slice_get data_type.cons c.tag ≡ Some con
  pub named : con.name ≡ x
  pub fields : length con.fields ≡ c.fields

-- ---- local numbers

-- the local numbers of the names that are in scope are taken, and each is that of one name
pub record HaveNumbers (w : Walk) : Type 0 where
  pub taken : (x : List ℕ) (n : ℕ) → standing_for x w.names ≡ Some (what.Local n) → n < w.counter.numbers
  pub one_name : (x y : List ℕ) (n : ℕ) → standing_for x w.names ≡ Some (what.Local n) → standing_for y w.names ≡ Some (what.Local n) → x ≡ y
