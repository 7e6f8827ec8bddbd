-- How the operators of a text bind.
use Rattle.std.specs.Borrow.{Bor}
use Rattle.std.specs.Prelude.{ℕ, List, [], ◌∷◌, ◌++◌, Option, Some, None, codes}
use Rattle.hdc_tree.specs.declared.name.Name.{Name}
use Rattle.hdc_tree.specs.declared.name.Op.{Op}
use Rattle.hdc_tree.specs.declared.name.Op.TheVariants as op
use Rattle.hdc_tree.specs.declared.program.Associativity.{Associativity}
use Rattle.hdc_tree.specs.declared.program.Associativity.TheVariants as side
use Rattle.hdc_tree.specs.declared.program.CommaVarOp.{CommaVarOp}
use Rattle.hdc_tree.specs.declared.program.Top.{Top}
use Rattle.hdc_tree.specs.declared.program.Top.TheVariants as top
use Rattle.hdc_names.specs.declared.fixity.Fixity.{Fixity}
use Rattle.hdc_written.specs.Scopes.{Binding, standing_for, bound_to}
use Rattle.hdc_written.specs.Mirror.{op_name, head_name}

-- how the names that are in scope bind
abbrev pub Scope : Type 0
Scope = List (Binding Fixity)

abbrev pub binds : ℕ → Associativity → Fixity
binds p a = record { precedence = p; associativity = a }

-- an operator without a declaration is infixl 9, and so is one that is bound locally, whatever is declared
abbrev pub undeclared : Fixity
undeclared = binds 9 side.Left

abbrev pub or_undeclared : Option Fixity → Fixity
or_undeclared None = undeclared
or_undeclared (Some f) = f

-- how an operator binds in a scope
abbrev pub fixity_in : Scope → Op → Fixity
fixity_in scope (op.Var x) = or_undeclared (standing_for (op_name x).text scope)
fixity_in scope (op.Cons a) = binds 5 side.Right
fixity_in scope (op.Con a c b) = undeclared

-- where names are bound locally
abbrev pub locally : List Name → Scope → Scope
locally = bound_to undeclared

-- the operators of the prelude
abbrev pub standard : Scope
standard =
    record { name = codes "."; what = binds 9 side.Right }
    ∷ record { name = codes "!!"; what = binds 9 side.Left }
    ∷ record { name = codes "*"; what = binds 7 side.Left }
    ∷ record { name = codes "div"; what = binds 7 side.Left }
    ∷ record { name = codes "mod"; what = binds 7 side.Left }
    ∷ record { name = codes "quot"; what = binds 7 side.Left }
    ∷ record { name = codes "rem"; what = binds 7 side.Left }
    ∷ record { name = codes "+"; what = binds 6 side.Left }
    ∷ record { name = codes "-"; what = binds 6 side.Left }
    ∷ record { name = codes "++"; what = binds 5 side.Right }
    ∷ record { name = codes "=="; what = binds 4 side.Neither }
    ∷ record { name = codes "/="; what = binds 4 side.Neither }
    ∷ record { name = codes "<"; what = binds 4 side.Neither }
    ∷ record { name = codes "<="; what = binds 4 side.Neither }
    ∷ record { name = codes ">"; what = binds 4 side.Neither }
    ∷ record { name = codes ">="; what = binds 4 side.Neither }
    ∷ record { name = codes "&&"; what = binds 3 side.Right }
    ∷ record { name = codes "||"; what = binds 2 side.Right }
    ∷ record { name = codes "$"; what = binds 0 side.Right }
    ∷ []

-- the same from a table
abbrev pub each_row : List (Bor (List ℕ) × ℕ × Associativity) → Scope
each_row [] = []
each_row (r ∷ rs) = record { name = r.0.now; what = binds r.1 r.2 } ∷ each_row rs

-- what the declarations of a program say of operators
abbrev pub saying : Fixity → List CommaVarOp → Scope
saying f [] = []
saying f (o ∷ os) = record { name = (op_name o.op).text; what = f } ∷ saying f os

abbrev pub declared : Top → Scope
declared top.Empty = []
declared (top.Data d) = []
declared (top.Synonym s) = []
declared (top.Fixity f) = record { name = (op_name f.first).text; what = binds f.number f.associativity } ∷ saying (binds f.number f.associativity) f.rest
declared (top.Signature x xs a t) = []
declared (top.Equation h r) = []

-- the first declaration of an operator comes first
abbrev pub all_declared : List Top → Scope
all_declared [] = []
all_declared (t ∷ ts) = declared t ++ all_declared ts

-- what a program defines binds as the program declares it, and nothing else counts
abbrev pub own : Scope → Top → Scope
own declarations top.Empty = []
own declarations (top.Data d) = []
own declarations (top.Synonym s) = []
own declarations (top.Fixity f) = []
own declarations (top.Signature x xs a t) = []
own declarations (top.Equation h r) = record { name = (head_name h).text; what = or_undeclared (standing_for (head_name h).text declarations) } ∷ []

abbrev pub each_own : Scope → List Top → Scope
each_own declarations [] = []
each_own declarations (t ∷ ts) = own declarations t ++ each_own declarations ts

-- what is in scope in a program
abbrev pub program_scope : List Top → Scope
program_scope ts = each_own (all_declared ts) ts ++ standard
