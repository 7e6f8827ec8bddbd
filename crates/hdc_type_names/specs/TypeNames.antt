-- What the names of types stand for in a prelude, and in a program behind it.
use Rattle.std.specs.Prelude.{ℕ, suc, List, [], ◌∷◌, codes}
use Rattle.hdc_tree.specs.declared.program.Top.{Top}
use Rattle.hdc_tree.specs.declared.program.Top.TheVariants as top
use Rattle.hdc_written.specs.Scopes.{Binding}
use Rattle.hdc_type_names.specs.declared.type_name.TypeName.{TypeName}
use Rattle.hdc_type_names.specs.declared.type_name.TypeName.TheVariants as name
use Rattle.hdc_type_names.specs.declared.naming.Naming.{Naming}

-- names of types; of two bindings of one name the first counts
abbrev pub TypeNames : Type 0
TypeNames = List (Binding TypeName)

abbrev pub named : List ℕ → TypeName → Binding TypeName
named t n = record { name = t; what = n }

-- the names that are built in; the next data type has the number 1, and the next synonym the number 0
abbrev pub built_in : Naming
built_in = record { names = named (codes "Int") name.Int ∷ (named (codes "Char") name.Char ∷ (named (codes "Bool") (name.Data 0) ∷ [])); datas = 1; synonyms = 0 }

-- the name that a declaration declares stands for the next data type or for the next synonym
abbrev pub with_top : Naming → Top → Naming
with_top n top.Empty = n
with_top n (top.Data d) = record { names = named d.name.text (name.Data n.datas) ∷ n.names; datas = suc n.datas; synonyms = n.synonyms }
with_top n (top.Synonym s) = record { names = named s.name.text (name.Synonym n.synonyms) ∷ n.names; datas = n.datas; synonyms = suc n.synonyms }
with_top n (top.Fixity f) = n
with_top n (top.Signature x xs a t) = n
with_top n (top.Equation h r) = n

-- the same for declarations one after another
abbrev pub with_tops : Naming → List Top → Naming
with_tops n [] = n
with_tops n (t ∷ ts) = with_tops (with_top n t) ts

-- the names in a prelude
abbrev pub prelude_types : List Top → TypeNames
prelude_types ps = (with_tops built_in ps).names

-- the names in a program behind a prelude
abbrev pub program_types : List Top → List Top → TypeNames
program_types ps ts = (with_tops (with_tops built_in ps) ts).names
