-- What names stand for in the bindings of a text.
use Rattle.std.specs.Borrow.{Bor}
use Rattle.std.specs.Prelude.{ℕ, suc, List, [], ◌∷◌, Option, None, Some, Bool, true, false, codes, length}
use Rattle.std.specs.Str.{bytes_eq}
use Rattle.hdc_tree.specs.declared.program.BarConstr.{BarConstr}
use Rattle.hdc_tree.specs.declared.program.Constr.{Constr}
use Rattle.hdc_tree.specs.declared.program.Data.{Data}
use Rattle.hdc_tree.specs.declared.program.Top.{Top}
use Rattle.hdc_tree.specs.declared.program.Top.TheVariants as top
use Rattle.hdc_written.specs.Scopes.{Binding}
use Rattle.hdc_written.specs.Written.{Patterns, no_pattern, pattern}
use Rattle.hdc_written.specs.Mirror.{head_name, head_patterns}
use Rattle.hdc_resolved.specs.declared.name.Constructor.{Constructor}
use Rattle.hdc_resolved.specs.declared.name.Degree.TheVariants as degree
use Rattle.hdc_resolved.specs.declared.name.Family.TheVariants as family
use Rattle.hdc_resolved.specs.declared.name.Name.{Name}
use Rattle.hdc_resolved.specs.declared.name.Name.TheVariants as name
use Rattle.hdc_resolved.specs.declared.name.Primitive.TheVariants as primitive
use Rattle.hdc_base.specs.declared.skeleton.SkelKind.TheVariants as kind

-- what is in scope, the last binding of a name first
abbrev pub Names : Type 0
Names = List (Binding Name)

abbrev pub Constructors : Type 0
Constructors = List (Binding Constructor)

abbrev pub standing : List ℕ → Name → Binding Name
standing t n = record { name = t; what = n }

-- the functions that are built in, and the skeletons
abbrev pub built_in : Names
built_in =
    standing (codes "+") (name.Primitive primitive.Add)
    ∷ standing (codes "-") (name.Primitive primitive.Sub)
    ∷ standing (codes "*") (name.Primitive primitive.Mul)
    ∷ standing (codes "div") (name.Primitive primitive.Div)
    ∷ standing (codes "mod") (name.Primitive primitive.Mod)
    ∷ standing (codes "quot") (name.Primitive primitive.Quot)
    ∷ standing (codes "rem") (name.Primitive primitive.Rem)
    ∷ standing (codes "negate") (name.Primitive primitive.Negate)
    ∷ standing (codes "==") (name.Primitive primitive.Equal)
    ∷ standing (codes "/=") (name.Primitive primitive.Unequal)
    ∷ standing (codes "<") (name.Primitive primitive.Less)
    ∷ standing (codes "<=") (name.Primitive primitive.AtMost)
    ∷ standing (codes ">") (name.Primitive primitive.Greater)
    ∷ standing (codes ">=") (name.Primitive primitive.AtLeast)
    ∷ standing (codes "&&") (name.Primitive primitive.And)
    ∷ standing (codes "||") (name.Primitive primitive.Or)
    ∷ standing (codes "ord") (name.Primitive primitive.Ord)
    ∷ standing (codes "chr") (name.Primitive primitive.Chr)
    ∷ standing (codes "error") (name.Primitive primitive.Error)
    ∷ standing (codes "dcGen") (name.Skeleton kind.Gen degree.Unneeded)
    ∷ standing (codes "dcDeg") (name.Skeleton kind.Deg degree.Missing)
    ∷ standing (codes "dcDepth") (name.Skeleton kind.Depth degree.Missing)
    ∷ standing (codes "dcElem") (name.Skeleton kind.Elem degree.Missing)
    ∷ []

-- the same from a table
abbrev pub each_row : List (Bor (List ℕ) × Name) → Names
each_row [] = []
each_row (r ∷ rs) = standing r.0.now r.1 ∷ each_row rs

-- what stands for a name, or nothing
abbrev pub or_unknown : Option Name → Name
or_unknown None = name.Unknown
or_unknown (Some n) = n

-- ---- the bindings at the top, of which adjacent equations of a function are one

-- whether an equation with these parameters goes on with the function of the equation before it
abbrev pub goes_on : Option (List ℕ) → List ℕ → Patterns → Bool
goes_on None t ps = false
goes_on (Some u) t no_pattern = false
goes_on (Some u) t (pattern p ps) = bytes_eq t u

-- the function with which the next equation may go on
abbrev pub opened : List ℕ → Patterns → Option (List ℕ)
opened t no_pattern = None
opened t (pattern p ps) = Some t

-- what is numbered, and the number that comes next
pub record Numbered (T : Type 0) : Type 0 where
  pub scope : List (Binding T)
  pub next : ℕ

-- a binding with the next number
abbrev pub named_top : List ℕ → Numbered Name → Numbered Name
named_top t s = record { scope = standing t (name.Top s.next) ∷ s.scope; next = suc s.next }

-- a binding that begins, or one that goes on
abbrev pub named_unless : Bool → List ℕ → Numbered Name → Numbered Name
named_unless true t s = s
named_unless false t s = named_top t s

abbrev pub before_unless : Bool → Option (List ℕ) → Option (List ℕ) → Option (List ℕ)
before_unless true b c = b
before_unless false b c = c

-- the function with which the declaration behind one may go on
abbrev pub behind_top : Option (List ℕ) → Top → Option (List ℕ)
behind_top b top.Empty = b
behind_top b (top.Data d) = None
behind_top b (top.Synonym s) = None
behind_top b (top.Fixity f) = None
behind_top b (top.Signature x xs a t) = None
behind_top b (top.Equation h r) = before_unless (goes_on b (head_name h).text (head_patterns h)) b (opened (head_name h).text (head_patterns h))

abbrev pub top_named : Option (List ℕ) → Top → Numbered Name → Numbered Name
top_named b top.Empty s = s
top_named b (top.Data d) s = s
top_named b (top.Synonym y) s = s
top_named b (top.Fixity f) s = s
top_named b (top.Signature x xs a t) s = s
top_named b (top.Equation h r) s = named_unless (goes_on b (head_name h).text (head_patterns h)) (head_name h).text s

-- the bindings of a text, numbered in its order
abbrev pub tops_named : List Top → Option (List ℕ) → Numbered Name → Numbered Name
tops_named [] b s = s
tops_named (t ∷ ts) b s = tops_named ts (behind_top b t) (top_named b t s)

-- what is in scope in a prelude, and in a program behind it
abbrev pub prelude_named : List Top → Numbered Name
prelude_named ps = tops_named ps None (record { scope = built_in; next = 0 })

abbrev pub program_named : List Top → List Top → Numbered Name
program_named ps ts = tops_named ts None (prelude_named ps)

-- ---- constructors

abbrev pub constructor_of : ℕ → ℕ → Constr → Binding Constructor
constructor_of n tag c = record { name = c.name.text; what = record { family = family.OfData n; tag = tag; fields = length c.fields } }

-- those of a data type from this one on
abbrev pub constructors_from : ℕ → ℕ → List BarConstr → Constructors → Constructors
constructors_from n tag [] s = s
constructors_from n tag (c ∷ cs) s = constructors_from n (suc tag) cs (constructor_of n tag c.constr ∷ s)

abbrev pub data_constructors : Data → Numbered Constructor → Numbered Constructor
data_constructors d s = record { scope = constructors_from s.next 1 d.rest (constructor_of s.next 0 d.first ∷ s.scope); next = suc s.next }

abbrev pub top_constructors : Top → Numbered Constructor → Numbered Constructor
top_constructors top.Empty s = s
top_constructors (top.Data d) s = data_constructors d s
top_constructors (top.Synonym y) s = s
top_constructors (top.Fixity f) s = s
top_constructors (top.Signature x xs a t) s = s
top_constructors (top.Equation h r) s = s

-- those of a text, whose data types are numbered in its order
abbrev pub constructors_in : List Top → Numbered Constructor → Numbered Constructor
constructors_in [] s = s
constructors_in (t ∷ ts) s = constructors_in ts (top_constructors t s)

abbrev pub truth : List ℕ → ℕ → Binding Constructor
truth t n = record { name = t; what = record { family = family.OfData 0; tag = n; fields = 0 } }

-- the data type that is built in has the number 0
abbrev pub built_in_constructors : Constructors
built_in_constructors = truth (codes "True") 1 ∷ truth (codes "False") 0 ∷ []

abbrev pub prelude_constructors : List Top → Numbered Constructor
prelude_constructors ps = constructors_in ps (record { scope = built_in_constructors; next = 1 })

abbrev pub program_constructors : List Top → List Top → Numbered Constructor
program_constructors ps ts = constructors_in ts (prelude_constructors ps)
