-- What is known in a text: its values, constructors and types at the top, with those of the prelude and the built-in ones.
use Rattle.std.specs.Borrow.{Bor}
use Rattle.std.specs.Prelude.{ℕ, List, [], ◌∷◌, ◌++◌, length, codes}
use Rattle.hdc_tree.specs.declared.program.BarConstr.{BarConstr}
use Rattle.hdc_tree.specs.declared.program.Constr.{Constr}
use Rattle.hdc_tree.specs.declared.program.Data.{Data}
use Rattle.hdc_tree.specs.declared.program.Top.{Top}
use Rattle.hdc_tree.specs.declared.program.Top.TheVariants as top
use Rattle.hdc_written.specs.Scopes.{Binding}
use Rattle.hdc_written.specs.Mirror.{head_name}
use Rattle.hdc_rules.specs.declared.known.Known.{Known}

-- values that are in scope
abbrev pub Values : Type 0
Values = List (Binding (Unit {0}))

abbrev pub value : List ℕ → Binding (Unit {0})
value t = record { name = t; what = tt }

-- a constructor with the number of its fields, or a type with that of its parameters; of two of one name the first counts
abbrev pub Counted : Type 0
Counted = List (Binding ℕ)

abbrev pub counted : List ℕ → ℕ → Binding ℕ
counted t n = record { name = t; what = n }

-- ---- what the declarations of a text add

abbrev pub constructor_of : Constr → Binding ℕ
constructor_of c = counted c.name.text (length c.fields)

abbrev pub constructors_behind : List BarConstr → Counted
constructors_behind [] = []
constructors_behind (c ∷ cs) = constructor_of c.constr ∷ constructors_behind cs

abbrev pub data_constructors : Data → Counted
data_constructors d = constructor_of d.first ∷ constructors_behind d.rest

abbrev pub top_values : Top → Values
top_values top.Empty = []
top_values (top.Data d) = []
top_values (top.Synonym s) = []
top_values (top.Fixity f) = []
top_values (top.Signature x xs a t) = []
top_values (top.Equation h r) = value (head_name h).text ∷ []

abbrev pub top_constructors : Top → Counted
top_constructors top.Empty = []
top_constructors (top.Data d) = data_constructors d
top_constructors (top.Synonym s) = []
top_constructors (top.Fixity f) = []
top_constructors (top.Signature x xs a t) = []
top_constructors (top.Equation h r) = []

abbrev pub top_types : Top → Counted
top_types top.Empty = []
top_types (top.Data d) = counted d.name.text (length d.params) ∷ []
top_types (top.Synonym s) = counted s.name.text (length s.params) ∷ []
top_types (top.Fixity f) = []
top_types (top.Signature x xs a t) = []
top_types (top.Equation h r) = []

abbrev pub values_of : List Top → Values
values_of [] = []
values_of (t ∷ ts) = top_values t ++ values_of ts

abbrev pub constructors_of : List Top → Counted
constructors_of [] = []
constructors_of (t ∷ ts) = top_constructors t ++ constructors_of ts

abbrev pub types_of : List Top → Counted
types_of [] = []
types_of (t ∷ ts) = top_types t ++ types_of ts

-- ---- what is built in

abbrev pub skeletons : Values
skeletons = value (codes "dcGen") ∷ (value (codes "dcDeg") ∷ (value (codes "dcDepth") ∷ (value (codes "dcElem") ∷ [])))

abbrev pub primitives : Values
primitives =
    value (codes "+")
    ∷ (value (codes "-")
    ∷ (value (codes "*")
    ∷ (value (codes "div")
    ∷ (value (codes "mod")
    ∷ (value (codes "quot")
    ∷ (value (codes "rem")
    ∷ (value (codes "negate")
    ∷ (value (codes "==")
    ∷ (value (codes "/=")
    ∷ (value (codes "<")
    ∷ (value (codes "<=") ∷ (value (codes ">") ∷ (value (codes ">=") ∷ (value (codes "&&") ∷ (value (codes "||") ∷ (value (codes "ord") ∷ (value (codes "chr") ∷ (value (codes "error") ∷ []))))))))))))))))))

abbrev pub built_in_values : Values
built_in_values = primitives ++ skeletons

abbrev pub built_in_constructors : Counted
built_in_constructors = counted (codes "False") 0 ∷ (counted (codes "True") 0 ∷ [])

abbrev pub built_in_types : Counted
built_in_types = counted (codes "Int") 0 ∷ (counted (codes "Char") 0 ∷ (counted (codes "Bool") 0 ∷ []))

-- names that are bound to one thing, the first one first
abbrev pub each_bound : {T : Type 0} → T → List (Bor (List ℕ)) → List (Binding T)
each_bound what [] = []
each_bound what (x ∷ xs) = record { name = x.now; what = what } ∷ each_bound what xs

-- ---- what is in scope in a prelude, and in a program behind it

abbrev pub prelude_values : List Top → Values
prelude_values ps = values_of ps ++ built_in_values

abbrev pub program_values : List Top → List Top → Values
program_values ps ts = values_of ts ++ prelude_values ps

abbrev pub prelude_known : List Top → Known
prelude_known ps = record {
  constructors = constructors_of ps ++ built_in_constructors;
  types = types_of ps ++ built_in_types;
  library = values_of ps;
}

abbrev pub program_known : List Top → List Top → Known
program_known ps ts = record {
  constructors = constructors_of ts ++ (constructors_of ps ++ built_in_constructors);
  types = types_of ts ++ (types_of ps ++ built_in_types);
  library = values_of ps;
}
