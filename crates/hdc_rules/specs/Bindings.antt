-- What is broken in the bindings and signatures of a block, and of a text.
use Rattle.std.specs.Prelude.{ℕ, zero, suc, ◌==◌, Bool, true, false, ◌&&◌, List, [], ◌∷◌, ◌++◌, Option, Some, None, if◌then◌else◌}
use Rattle.std.specs.Str.{bytes_eq}
use Rattle.hdc_base.specs.declared.place.At.{At}
use Rattle.hdc_tree.specs.declared.name.Name.{Name}
use Rattle.hdc_tree.specs.declared.program.BarConstr.{BarConstr}
use Rattle.hdc_tree.specs.declared.program.CommaVarOp.{CommaVarOp}
use Rattle.hdc_tree.specs.declared.program.Top.{Top}
use Rattle.hdc_tree.specs.declared.program.Top.TheVariants as top
use Rattle.hdc_written.specs.declared.breach.Breach.{Breach}
use Rattle.hdc_written.specs.Written.{variables, count_patterns, empty, signature, equation, binding, Declarations, no_declaration, declaration}
use Rattle.hdc_written.specs.Mirror.{op_name, head_name, head_patterns, first_of_head, signed_names}
use Rattle.hdc_written.specs.TypeMirror.{type_exp_of}
use Rattle.hdc_rules.specs.Known.{Counted}
use Rattle.hdc_rules.specs.Names.{where_not, repeated, bound_skeletons, not_among, each_breach}
use Rattle.hdc_rules.specs.Types.{type_breaches, type_variables, head_breaches, field_breaches, constructor_breaches}

-- ---- bindings, of which adjacent equations of a function are one

-- the function whose equations may go on, with the number of its parameters
pub record Open : Type 0 where
  pub text : List ℕ
  pub count : ℕ

abbrev pub has_some : ℕ → Bool
has_some zero = false
has_some (suc n) = true

-- an equation with parameters goes on with a function
abbrev pub goes_on : Option Open → List ℕ → ℕ → Bool
goes_on None t n = false
goes_on (Some o) t n = bytes_eq t o.text && has_some n

-- what an equation begins with so many parameters, or goes on with
abbrev pub opened : List ℕ → ℕ → Option Open
opened t zero = None
opened t (suc n) = Some (record { text = t; count = suc n })

-- the number of parameters of each equation is that of the first one
abbrev pub uneven : Option Open → ℕ → At → List Breach
uneven None n at = []
uneven (Some o) n at = where_not (o.count == n) 4 at

-- the names of the bindings of a block
abbrev pub bindings_of : Option Open → Declarations → List Name
bindings_of going no_declaration = []
bindings_of going (declaration empty ds) = bindings_of going ds
bindings_of going (declaration (signature xs t) ds) = bindings_of None ds
bindings_of going (declaration (equation at x ps r) ds) = if goes_on going x.text (count_patterns ps) then bindings_of going ds else x ∷ bindings_of (opened x.text (count_patterns ps)) ds
bindings_of going (declaration (binding p r) ds) = variables p ++ bindings_of None ds

abbrev pub uneven_equations : Option Open → Declarations → List Breach
uneven_equations going no_declaration = []
uneven_equations going (declaration empty ds) = uneven_equations going ds
uneven_equations going (declaration (signature xs t) ds) = uneven_equations None ds
uneven_equations going (declaration (equation at x ps r) ds) =
    if goes_on going x.text (count_patterns ps) then uneven going (count_patterns ps) at ++ uneven_equations going ds else uneven_equations (opened x.text (count_patterns ps)) ds
uneven_equations going (declaration (binding p r) ds) = uneven_equations None ds

-- ---- signatures of a block, and their types, which have no variables

abbrev pub signed_in : Declarations → List Name
signed_in no_declaration = []
signed_in (declaration empty ds) = signed_in ds
signed_in (declaration (signature xs t) ds) = xs ++ signed_in ds
signed_in (declaration (equation at x ps r) ds) = signed_in ds
signed_in (declaration (binding p r) ds) = signed_in ds

abbrev pub local_signatures : Counted → Declarations → List Breach
local_signatures types no_declaration = []
local_signatures types (declaration empty ds) = local_signatures types ds
local_signatures types (declaration (signature xs t) ds) = type_breaches types t ++ (each_breach 12 (type_variables t) ++ local_signatures types ds)
local_signatures types (declaration (equation at x ps r) ds) = local_signatures types ds
local_signatures types (declaration (binding p r) ds) = local_signatures types ds

-- names that are bound and signed together: each is bound once and signed at most once, and what is signed is bound
abbrev pub bound_breaches : List Name → List Name → List Breach
bound_breaches bound signed = repeated 2 [] bound ++ (bound_skeletons bound ++ (not_among 5 bound signed ++ repeated 5 [] signed))

abbrev pub block_breaches : Counted → Declarations → List Breach
block_breaches types ds = bound_breaches (bindings_of None ds) (signed_in ds) ++ (uneven_equations None ds ++ local_signatures types ds)

-- ---- the same at the top

abbrev pub top_bindings : Option Open → List Top → List Name
top_bindings going [] = []
top_bindings going (top.Empty ∷ ts) = top_bindings going ts
top_bindings going (top.Data d ∷ ts) = top_bindings None ts
top_bindings going (top.Synonym s ∷ ts) = top_bindings None ts
top_bindings going (top.Fixity f ∷ ts) = top_bindings None ts
top_bindings going (top.Signature x xs a t ∷ ts) = top_bindings None ts
top_bindings going (top.Equation h r ∷ ts) =
    if goes_on going (head_name h).text (count_patterns (head_patterns h)) then top_bindings going ts else head_name h ∷ top_bindings (opened (head_name h).text (count_patterns (head_patterns h))) ts

abbrev pub uneven_tops : Option Open → List Top → List Breach
uneven_tops going [] = []
uneven_tops going (top.Empty ∷ ts) = uneven_tops going ts
uneven_tops going (top.Data d ∷ ts) = uneven_tops None ts
uneven_tops going (top.Synonym s ∷ ts) = uneven_tops None ts
uneven_tops going (top.Fixity f ∷ ts) = uneven_tops None ts
uneven_tops going (top.Signature x xs a t ∷ ts) = uneven_tops None ts
uneven_tops going (top.Equation h r ∷ ts) =
    if goes_on going (head_name h).text (count_patterns (head_patterns h)) then uneven going (count_patterns (head_patterns h)) (first_of_head h) ++ uneven_tops going ts
    else uneven_tops (opened (head_name h).text (count_patterns (head_patterns h))) ts

abbrev pub constructors_named : List BarConstr → List Name
constructors_named [] = []
constructors_named (c ∷ cs) = c.constr.name ∷ constructors_named cs

abbrev pub operators_named : List CommaVarOp → List Name
operators_named [] = []
operators_named (o ∷ os) = op_name o.op ∷ operators_named os

-- the types, the constructors, the names with signatures and those with fixities that a text declares
abbrev pub types_named : Top → List Name
types_named top.Empty = []
types_named (top.Data d) = d.name ∷ []
types_named (top.Synonym s) = s.name ∷ []
types_named (top.Fixity f) = []
types_named (top.Signature x xs a t) = []
types_named (top.Equation h r) = []

abbrev pub constructed_in : Top → List Name
constructed_in top.Empty = []
constructed_in (top.Data d) = d.first.name ∷ constructors_named d.rest
constructed_in (top.Synonym s) = []
constructed_in (top.Fixity f) = []
constructed_in (top.Signature x xs a t) = []
constructed_in (top.Equation h r) = []

abbrev pub signed_at : Top → List Name
signed_at top.Empty = []
signed_at (top.Data d) = []
signed_at (top.Synonym s) = []
signed_at (top.Fixity f) = []
signed_at (top.Signature x xs a t) = signed_names x xs
signed_at (top.Equation h r) = []

abbrev pub fixed_at : Top → List Name
fixed_at top.Empty = []
fixed_at (top.Data d) = []
fixed_at (top.Synonym s) = []
fixed_at (top.Fixity f) = op_name f.first ∷ operators_named f.rest
fixed_at (top.Signature x xs a t) = []
fixed_at (top.Equation h r) = []

abbrev pub each_named : (Top → List Name) → List Top → List Name
each_named f [] = []
each_named f (t ∷ ts) = f t ++ each_named f ts

-- what is broken in the types of a top declaration
abbrev pub typed_breaches : Counted → Top → List Breach
typed_breaches types top.Empty = []
typed_breaches types (top.Data d) = repeated 2 [] d.params ++ (field_breaches types d.params d.first.fields ++ constructor_breaches types d.params d.rest)
typed_breaches types (top.Synonym s) = repeated 2 [] s.params ++ head_breaches types s.params (type_exp_of s.meaning)
typed_breaches types (top.Fixity f) = []
typed_breaches types (top.Signature x xs a t) = type_breaches types (type_exp_of t)
typed_breaches types (top.Equation h r) = []

abbrev pub each_typed : Counted → List Top → List Breach
each_typed types [] = []
each_typed types (t ∷ ts) = typed_breaches types t ++ each_typed types ts

-- what is broken in a text, but for its right sides
abbrev pub tops_breaches : Counted → List Top → List Breach
tops_breaches types ts =
    bound_breaches (top_bindings None ts) (each_named signed_at ts)
    ++ (repeated 2 [] (each_named types_named ts)
    ++ (repeated 2 [] (each_named constructed_in ts)
    ++ (not_among 5 (top_bindings None ts) (each_named fixed_at ts) ++ (repeated 5 [] (each_named fixed_at ts) ++ (uneven_tops None ts ++ each_typed types ts)))))
