-- The data types of a prelude and of a program behind it, in which synonyms are expanded.
use Rattle.std.specs.Prelude.{ℕ, List, [], ◌∷◌, ◌++◌, length, codes}
use Rattle.hdc_resolved.specs.Syntax.{TypeTree, SynonymOf}
use Rattle.hdc_tree.specs.declared.program.BarConstr.{BarConstr}
use Rattle.hdc_tree.specs.declared.program.Constr.{Constr}
use Rattle.hdc_tree.specs.declared.program.Data.{Data}
use Rattle.hdc_tree.specs.declared.program.Top.{Top}
use Rattle.hdc_tree.specs.declared.program.Top.TheVariants as top
use Rattle.hdc_tree.specs.declared.type_tree.Atype.{Atype}
use Rattle.hdc_type_names.specs.ResolvedTypes.{resolved_type}
use Rattle.hdc_type_names.specs.Synonyms.{all_synonyms}
use Rattle.hdc_type_names.specs.TypeNames.{TypeNames, prelude_types, program_types}
use Rattle.hdc_type_names.specs.Variables.{places_from}
use Rattle.hdc_value.specs.declared.ty.Con.{Con}
use Rattle.hdc_value.specs.declared.ty.DataDef.{DataDef}
use Rattle.hdc_value.specs.declared.ty.TypeNode.{TypeNode}
use Rattle.hdc_written.specs.Scopes.{Binding}
use Rattle.hdc_written.specs.TypeMirror.{atype_of}
use Rattle.hdc_datas.specs.Expanded.{expanded}

-- the built-in type of truth values
abbrev pub bool_type : DataDef
bool_type = record { name = codes "Bool"; params = 0; cons = record { name = codes "False"; fields = [] } ∷ (record { name = codes "True"; fields = [] } ∷ []) }

-- types of fields, in prefix order
abbrev pub fields_of : (TypeTree → List TypeNode) → TypeNames → List (Binding ℕ) → List Atype → List (List TypeNode)
fields_of prefix names variables [] = []
fields_of prefix names variables (t ∷ ts) = prefix (resolved_type names variables (atype_of t)) ∷ fields_of prefix names variables ts

-- a constructor and its fields
abbrev pub constructor_of : (TypeTree → List TypeNode) → TypeNames → List (Binding ℕ) → Constr → Con
constructor_of prefix names variables c = record { name = c.name.text; fields = fields_of prefix names variables c.fields }

abbrev pub constructors_behind : (TypeTree → List TypeNode) → TypeNames → List (Binding ℕ) → List BarConstr → List Con
constructors_behind prefix names variables [] = []
constructors_behind prefix names variables (c ∷ cs) = constructor_of prefix names variables c.constr ∷ constructors_behind prefix names variables cs

-- a data type with its name, the number of its parameters, and its constructors
abbrev pub data_of : (TypeTree → List TypeNode) → TypeNames → Data → DataDef
data_of prefix names d = record {
  name = d.name.text;
  params = length d.params;
  cons = constructor_of prefix names (places_from 0 d.params) d.first ∷ constructors_behind prefix names (places_from 0 d.params) d.rest;
}

-- the data type that a declaration declares, if it declares one
abbrev pub top_datas : (TypeTree → List TypeNode) → TypeNames → Top → List DataDef
top_datas prefix names top.Empty = []
top_datas prefix names (top.Data d) = data_of prefix names d ∷ []
top_datas prefix names (top.Synonym s) = []
top_datas prefix names (top.Fixity f) = []
top_datas prefix names (top.Signature x xs a t) = []
top_datas prefix names (top.Equation h r) = []

abbrev pub each_data : (TypeTree → List TypeNode) → TypeNames → List Top → List DataDef
each_data prefix names [] = []
each_data prefix names (t ∷ ts) = top_datas prefix names t ++ each_data prefix names ts

-- Bool, and behind it the others in the order of the text, the prelude's first
abbrev pub datas_by : (TypeTree → List TypeNode) → List Top → List Top → List DataDef
datas_by prefix ps ts = bool_type ∷ (each_data prefix (prelude_types ps) ps ++ each_data prefix (program_types ps ts) ts)

-- all data types, where these are the synonyms
abbrev pub datas_with : List SynonymOf → List Top → List Top → List DataDef
datas_with ss ps ts = datas_by (expanded ss) ps ts

-- all data types
abbrev pub all_datas : List Top → List Top → List DataDef
all_datas ps ts = datas_with (all_synonyms ps ts) ps ts
