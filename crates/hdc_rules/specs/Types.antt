-- What is broken in types: they are known, with as many arguments as they have parameters, and their variables are those of a
-- head, or none where the binding is local.
use Rattle.std.specs.Prelude.{ℕ, suc, List, [], ◌∷◌, ◌++◌}
use Rattle.hdc_tree.specs.declared.name.Name.{Name}
use Rattle.hdc_written.specs.declared.breach.Breach.{Breach}
use Rattle.hdc_tree.specs.declared.type_tree.Atype.{Atype}
use Rattle.hdc_tree.specs.declared.program.BarConstr.{BarConstr}
use Rattle.hdc_written.specs.Scopes.{standing_for}
use Rattle.hdc_written.specs.WrittenTypes.{WrittenType, type_constructor, type_variable, unit_type, type_in_parentheses, tuple_type, list_type, arrow_type, Types, no_type, next_type}
use Rattle.hdc_written.specs.TypeMirror.{atype_of}
use Rattle.hdc_rules.specs.Known.{Counted}
use Rattle.hdc_rules.specs.Names.{unless_counted, not_among}

abbrev pub count_types : Types → ℕ
count_types no_type = 0
count_types (next_type t ts) = suc (count_types ts)

abbrev mutual
  pub type_breaches : Counted → WrittenType → List Breach
  type_breaches types (type_constructor c ts) = unless_counted (standing_for c.text types) 7 (count_types ts) c.at ++ each_type_breaches types ts
  type_breaches types (type_variable x) = []
  type_breaches types (unit_type a) = []
  type_breaches types (type_in_parentheses a t) = type_breaches types t
  type_breaches types (tuple_type a ts) = each_type_breaches types ts
  type_breaches types (list_type a t) = type_breaches types t
  type_breaches types (arrow_type t ts) = type_breaches types t ++ each_type_breaches types ts

  pub each_type_breaches : Counted → Types → List Breach
  each_type_breaches types no_type = []
  each_type_breaches types (next_type t ts) = type_breaches types t ++ each_type_breaches types ts

abbrev mutual
  pub type_variables : WrittenType → List Name
  type_variables (type_constructor c ts) = each_type_variables ts
  type_variables (type_variable x) = x ∷ []
  type_variables (unit_type a) = []
  type_variables (type_in_parentheses a t) = type_variables t
  type_variables (tuple_type a ts) = each_type_variables ts
  type_variables (list_type a t) = type_variables t
  type_variables (arrow_type t ts) = type_variables t ++ each_type_variables ts

  pub each_type_variables : Types → List Name
  each_type_variables no_type = []
  each_type_variables (next_type t ts) = type_variables t ++ each_type_variables ts

-- the variables of a right side are those of its head
abbrev pub head_breaches : Counted → List Name → WrittenType → List Breach
head_breaches types params t = type_breaches types t ++ not_among 8 params (type_variables t)

abbrev pub field_breaches : Counted → List Name → List Atype → List Breach
field_breaches types params [] = []
field_breaches types params (t ∷ ts) = head_breaches types params (atype_of t) ++ field_breaches types params ts

abbrev pub constructor_breaches : Counted → List Name → List BarConstr → List Breach
constructor_breaches types params [] = []
constructor_breaches types params (c ∷ cs) = field_breaches types params c.constr.fields ++ constructor_breaches types params cs
