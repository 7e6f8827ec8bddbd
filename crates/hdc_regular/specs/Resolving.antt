-- Types whose names are resolved, as they are written.
use Rattle.std.specs.Prelude.{ℕ, suc, ◌==◌, Bool, true, false, List, [], ◌∷◌, ◌++◌, Option, Some, None, length, slice_index_or}
use Rattle.hdc_base.specs.declared.place.At.{At}
use Rattle.hdc_tree.specs.declared.name.Name.{Name}
use Rattle.hdc_tree.specs.declared.type_tree.Atype.{Atype}
use Rattle.hdc_tree.specs.declared.program.BarConstr.{BarConstr}
use Rattle.hdc_tree.specs.declared.program.Data.{Data}
use Rattle.hdc_tree.specs.declared.program.Top.{Top}
use Rattle.hdc_tree.specs.declared.program.Top.TheVariants as top
use Rattle.hdc_written.specs.Scopes.{Binding, standing_for}
use Rattle.hdc_written.specs.WrittenTypes.{WrittenType, type_constructor, type_variable, unit_type, type_in_parentheses, tuple_type, list_type, arrow_type, Types, no_type, next_type}
use Rattle.hdc_written.specs.TypeMirror.{each_type, atype_of, type_exp_of}
use Rattle.hdc_rules.specs.Types.{count_types}
use Rattle.hdc_regular.specs.declared.standing.Standing.{Standing}
use Rattle.hdc_regular.specs.declared.standing.Standing.TheVariants as standing
use Rattle.hdc_regular.specs.Resolved.{Resolved, parameter, use_of, other, Parts, no_part, next_part, Declaration, data_type, synonym, neither}

-- the variables of a head by their places, from this one on: of two with one name the first counts
abbrev pub params_from : ℕ → List Name → List (Binding ℕ)
params_from i [] = []
params_from i (x ∷ xs) = record { name = x.text; what = i } ∷ params_from (suc i) xs

-- a variable of the head, or another
abbrev pub variable : Option ℕ → Resolved
variable None = other no_part
variable (Some i) = parameter i

-- types with arrows between them, or one type alone
abbrev pub arrows : Resolved → Parts → Resolved
arrows t no_part = t
arrows t (next_part u us) = other (next_part t (next_part u us))

-- a use that is expanded, or not
abbrev pub used_where : Bool → ℕ → At → Parts → Resolved
used_where true n at ts = use_of n at ts
used_where false n at ts = other ts

-- a constructor with so many arguments; a synonym is expanded where they are as many as its parameters
abbrev pub applied : Option Standing → ℕ → At → Parts → Resolved
applied None count at ts = other ts
applied (Some (standing.DataType n)) count at ts = use_of n at ts
applied (Some (standing.Synonym n k)) count at ts = used_where (k == count) n at ts
applied (Some standing.NotExpanded) count at ts = other ts

-- a type, by what the names of types stand for, and by the variables of its head
abbrev mutual
  pub resolved : List (Binding Standing) → List (Binding ℕ) → WrittenType → Resolved
  resolved names params (type_constructor c ts) = applied (standing_for c.text names) (count_types ts) c.at (each_resolved names params ts)
  resolved names params (type_variable x) = variable (standing_for x.text params)
  resolved names params (unit_type a) = other no_part
  resolved names params (type_in_parentheses a t) = resolved names params t
  resolved names params (tuple_type a ts) = other (each_resolved names params ts)
  resolved names params (list_type a t) = other (next_part (resolved names params t) no_part)
  resolved names params (arrow_type t ts) = arrows (resolved names params t) (each_resolved names params ts)

  pub each_resolved : List (Binding Standing) → List (Binding ℕ) → Types → Parts
  each_resolved names params no_type = no_part
  each_resolved names params (next_type t ts) = next_part (resolved names params t) (each_resolved names params ts)

-- the fields of all constructors of a data type
abbrev pub fields_behind : List BarConstr → List Atype
fields_behind [] = []
fields_behind (c ∷ cs) = c.constr.fields ++ fields_behind cs

abbrev pub data_fields : Data → Types
data_fields d = each_type atype_of (d.first.fields ++ fields_behind d.rest)

-- a synonym, if it is sound
abbrev pub sound_synonym : Bool → Resolved → Declaration
sound_synonym true t = synonym t
sound_synonym false t = neither

-- what is declared, by what the names of types stand for
abbrev pub declaration_of : List (Binding Standing) → Bool → Top → Declaration
declaration_of names sound (top.Data d) = data_type (length d.params) (each_resolved names (params_from 0 d.params) (data_fields d))
declaration_of names sound (top.Synonym s) = sound_synonym sound (resolved names (params_from 0 s.params) (type_exp_of s.meaning))
declaration_of names sound top.Empty = neither
declaration_of names sound (top.Fixity f) = neither
declaration_of names sound (top.Signature x xs a t) = neither
declaration_of names sound (top.Equation h r) = neither

-- the same for declarations that are numbered from this number on
abbrev pub each_declaration : List (Binding Standing) → List Bool → ℕ → List Top → List Declaration
each_declaration names sounds n [] = []
each_declaration names sounds n (t ∷ ts) = declaration_of names (slice_index_or sounds n false) t ∷ each_declaration names sounds (suc n) ts
