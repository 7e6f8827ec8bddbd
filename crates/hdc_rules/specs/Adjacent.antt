-- Bindings and signatures one by one, as the code has them: what each adds, and the function whose equations may go on behind it.
use Rattle.std.specs.Prelude.{ℕ, List, [], ◌∷◌, ◌++◌, Option, Some, None, if◌then◌else◌}
use Rattle.hdc_base.specs.declared.place.At.{At}
use Rattle.hdc_tree.specs.declared.name.Name.{Name}
use Rattle.hdc_tree.specs.declared.program.Top.{Top}
use Rattle.hdc_tree.specs.declared.program.Top.TheVariants as top
use Rattle.hdc_written.specs.declared.breach.Breach.{Breach}
use Rattle.hdc_written.specs.Written.{variables, count_patterns, Declaration, empty, signature, equation, binding}
use Rattle.hdc_written.specs.WrittenTypes.{WrittenType}
use Rattle.hdc_written.specs.Mirror.{head_name, head_patterns, first_of_head}
use Rattle.hdc_rules.specs.declared.equations.Function.{Function}
use Rattle.hdc_rules.specs.Known.{Counted}
use Rattle.hdc_rules.specs.Names.{each_breach}
use Rattle.hdc_rules.specs.Types.{type_breaches, type_variables}
use Rattle.hdc_rules.specs.Bindings.{Open, goes_on, opened, uneven}

-- the function that is kept in memory
abbrev pub open_of : Option Function → Option Open
open_of None = None
open_of (Some f) = Some (record { text = f.name.now.text; count = f.count })

-- ---- an equation

abbrev pub behind_equation : Option Open → List ℕ → ℕ → Option Open
behind_equation going t n = if goes_on going t n then going else opened t n

abbrev pub bound_by : Option Open → Name → ℕ → List Name
bound_by going x n = if goes_on going x.text n then [] else x ∷ []

abbrev pub uneven_by : Option Open → List ℕ → ℕ → At → List Breach
uneven_by going t n at = if goes_on going t n then uneven going n at else []

-- ---- a declaration of a block

abbrev pub going_behind : Option Open → Declaration → Option Open
going_behind going empty = going
going_behind going (signature xs t) = None
going_behind going (equation at x ps r) = behind_equation going x.text (count_patterns ps)
going_behind going (binding p r) = None

abbrev pub bound_at : Option Open → Declaration → List Name
bound_at going empty = []
bound_at going (signature xs t) = []
bound_at going (equation at x ps r) = bound_by going x (count_patterns ps)
bound_at going (binding p r) = variables p

abbrev pub uneven_at : Option Open → Declaration → List Breach
uneven_at going empty = []
uneven_at going (signature xs t) = []
uneven_at going (equation at x ps r) = uneven_by going x.text (count_patterns ps) at
uneven_at going (binding p r) = []

abbrev pub signed_by : Declaration → List Name
signed_by empty = []
signed_by (signature xs t) = xs
signed_by (equation at x ps r) = []
signed_by (binding p r) = []

-- a local type is broken, or has variables
abbrev pub local_type_breaches : Counted → WrittenType → List Breach
local_type_breaches types t = type_breaches types t ++ each_breach 12 (type_variables t)

abbrev pub signature_breaches : Counted → Declaration → List Breach
signature_breaches types empty = []
signature_breaches types (signature xs t) = local_type_breaches types t
signature_breaches types (equation at x ps r) = []
signature_breaches types (binding p r) = []

-- ---- a declaration at the top

abbrev pub going_behind_top : Option Open → Top → Option Open
going_behind_top going top.Empty = going
going_behind_top going (top.Data d) = None
going_behind_top going (top.Synonym s) = None
going_behind_top going (top.Fixity f) = None
going_behind_top going (top.Signature x xs a t) = None
going_behind_top going (top.Equation h r) = behind_equation going (head_name h).text (count_patterns (head_patterns h))

abbrev pub bound_at_top : Option Open → Top → List Name
bound_at_top going top.Empty = []
bound_at_top going (top.Data d) = []
bound_at_top going (top.Synonym s) = []
bound_at_top going (top.Fixity f) = []
bound_at_top going (top.Signature x xs a t) = []
bound_at_top going (top.Equation h r) = bound_by going (head_name h) (count_patterns (head_patterns h))

abbrev pub uneven_at_top : Option Open → Top → List Breach
uneven_at_top going top.Empty = []
uneven_at_top going (top.Data d) = []
uneven_at_top going (top.Synonym s) = []
uneven_at_top going (top.Fixity f) = []
uneven_at_top going (top.Signature x xs a t) = []
uneven_at_top going (top.Equation h r) = uneven_by going (head_name h).text (count_patterns (head_patterns h)) (first_of_head h)
