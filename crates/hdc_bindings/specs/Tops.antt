-- The bindings and signatures at the top of a prelude and of a program behind it.
use Rattle.std.specs.Prelude.{ℕ, List, [], ◌∷◌, ◌++◌, Option, None, if◌then◌else◌, codes}
use Rattle.hdc_base.specs.declared.place.Src.TheVariants as src
use Rattle.hdc_tree.specs.declared.expression.Rhs.{Rhs}
use Rattle.hdc_tree.specs.declared.head.Head.{Head}
use Rattle.hdc_tree.specs.declared.program.Top.{Top}
use Rattle.hdc_tree.specs.declared.program.Top.TheVariants as top
use Rattle.hdc_resolved.specs.declared.name.Name.{Name}
use Rattle.hdc_resolved.specs.Syntax as resolved
use Rattle.hdc_written.specs.Scopes.{standing_for}
use Rattle.hdc_written.specs.Written.{all_variables}
use Rattle.hdc_written.specs.Mirror.{head_name, head_patterns, first_of_head, rhs_of, signed_names}
use Rattle.hdc_written.specs.TypeMirror.{type_exp_of}
use Rattle.hdc_names.specs.Fixities as Fixities
use Rattle.hdc_names.specs.Fixities.{standard, program_scope}
use Rattle.hdc_type_names.specs.TypeNames.{prelude_types, program_types}
use Rattle.hdc_resolving.specs.declared.known.Known.{Known}
use Rattle.hdc_resolving.specs.declared.walk.Counter.{Counter}
use Rattle.hdc_resolving.specs.declared.walk.Walk.{Walk}
use Rattle.hdc_resolving.specs.Grouped.{Joining}
use Rattle.hdc_resolving.specs.Literals.{place_in}
use Rattle.hdc_resolving.specs.Locals.{resolved_signature}
use Rattle.hdc_resolving.specs.Numbering.{numbered, entered, moved}
use Rattle.hdc_resolving.specs.Patterns.{resolved_patterns}
use Rattle.hdc_bindings.specs.Resolving.{behind_right_side, equation_before, resolved_right_side}
use Rattle.hdc_resolving.specs.Standing.{Names, or_unknown, goes_on, opened, prelude_named, program_named, prelude_constructors, program_constructors}

-- what is counted behind a declaration at the top
abbrev pub behind_declared : Top → Counter → Counter
behind_declared top.Empty c = c
behind_declared (top.Data d) c = c
behind_declared (top.Synonym s) c = c
behind_declared (top.Fixity f) c = c
behind_declared (top.Signature x xs a t) c = c
behind_declared (top.Equation h r) c = behind_right_side (rhs_of r) (numbered (all_variables (head_patterns h)) c)

abbrev pub behind_text : List Top → Counter → Counter
behind_text [] c = c
behind_text (t ∷ ts) c = behind_text ts (behind_declared t c)

-- the signatures of a text
abbrev pub top_signatures : List Top → Known → Names → List resolved.Signed
top_signatures [] k names = []
top_signatures (top.Empty ∷ ts) k names = top_signatures ts k names
top_signatures (top.Data d ∷ ts) k names = top_signatures ts k names
top_signatures (top.Synonym s ∷ ts) k names = top_signatures ts k names
top_signatures (top.Fixity f ∷ ts) k names = top_signatures ts k names
top_signatures (top.Signature x xs a t ∷ ts) k names = resolved_signature k names (signed_names x xs) (type_exp_of t) ∷ top_signatures ts k names
top_signatures (top.Equation h r ∷ ts) k names = top_signatures ts k names

module _ (join : Joining) (k : Known) where
  -- an equation before others
  abbrev pub equation_in : Head → Rhs → Walk → resolved.Equations → resolved.Equations
  equation_in h r w = equation_before k (first_of_head h) (resolved_patterns (head_patterns h) k (entered (all_variables (head_patterns h)) w).names) (resolved_right_side join k (rhs_of r) (entered (all_variables (head_patterns h)) w))

  -- the equations with which the function of the equation before goes on
  abbrev pub further_tops : List Top → Option (List ℕ) → Walk → resolved.Equations
  further_tops [] b w = resolved.no_equation
  further_tops (top.Empty ∷ ts) b w = further_tops ts b w
  further_tops (top.Data d ∷ ts) b w = resolved.no_equation
  further_tops (top.Synonym s ∷ ts) b w = resolved.no_equation
  further_tops (top.Fixity f ∷ ts) b w = resolved.no_equation
  further_tops (top.Signature x xs a t ∷ ts) b w = resolved.no_equation
  further_tops (top.Equation h r ∷ ts) b w =
      if goes_on b (head_name h).text (head_patterns h)
      then equation_in h r w (further_tops ts b (moved (behind_declared (top.Equation h r) w.counter) w))
      else resolved.no_equation

  -- the bindings of a text, where equations may go on with a function
  abbrev pub top_bindings : List Top → Option (List ℕ) → Walk → List resolved.Binding
  top_bindings [] b w = []
  top_bindings (top.Empty ∷ ts) b w = top_bindings ts b w
  top_bindings (top.Data d ∷ ts) b w = top_bindings ts None w
  top_bindings (top.Synonym s ∷ ts) b w = top_bindings ts None w
  top_bindings (top.Fixity f ∷ ts) b w = top_bindings ts None w
  top_bindings (top.Signature x xs a t ∷ ts) b w = top_bindings ts None w
  top_bindings (top.Equation h r ∷ ts) b w =
      if goes_on b (head_name h).text (head_patterns h)
      then top_bindings ts b (moved (behind_declared (top.Equation h r) w.counter) w)
      else
      record {
        text = (head_name h).text;
        place = place_in k.src (head_name h).at;
        equations = equation_in h r w (further_tops ts (opened (head_name h).text (head_patterns h)) (moved (behind_declared (top.Equation h r) w.counter) w));
      }
      ∷ top_bindings ts (opened (head_name h).text (head_patterns h)) (moved (behind_declared (top.Equation h r) w.counter) w)

-- ---- what is known and in scope

abbrev pub name_in : Names → List ℕ → Name
name_in names t = or_unknown (standing_for t names)

abbrev pub standard_fixities : Fixities.Scope
standard_fixities = standard

abbrev pub library_name : List Top → List ℕ → Name
library_name ps t = name_in (prelude_named ps).scope t

abbrev pub prelude_known : List Top → List (List ℕ) → Known
prelude_known ps orders = record {
  src = src.Prelude;
  constructors = (prelude_constructors ps).scope;
  types = prelude_types ps;
  range = library_name ps (codes "enumFromTo");
  generator = library_name ps (codes "concatMap");
  orders = orders;
}

abbrev pub program_known : List Top → List Top → List (List ℕ) → Known
program_known ps ts orders = record {
  src = src.Program;
  constructors = (program_constructors ps ts).scope;
  types = program_types ps ts;
  range = library_name ps (codes "enumFromTo");
  generator = library_name ps (codes "concatMap");
  orders = orders;
}

abbrev pub prelude_walk : List Top → Walk
prelude_walk ps = record { names = (prelude_named ps).scope; fixities = standard_fixities; counter = record { numbers = 0; blocks = 0 } }

-- the numbers of local names go on in the program
abbrev pub program_walk : List Top → List Top → Walk
program_walk ps ts = record { names = (program_named ps ts).scope; fixities = program_scope ts; counter = behind_text ps (record { numbers = 0; blocks = 0 }) }

-- ---- both texts

unfoldable pub all_bindings : Joining → List Top → List Top → List (List ℕ) → List resolved.Binding
all_bindings join ps ts orders = top_bindings join (prelude_known ps orders) ps None (prelude_walk ps) ++ top_bindings join (program_known ps ts orders) ts None (program_walk ps ts)

unfoldable pub all_signatures : List Top → List Top → List (List ℕ) → List resolved.Signed
all_signatures ps ts orders = top_signatures ps (prelude_known ps orders) (prelude_walk ps).names ++ top_signatures ts (program_known ps ts orders) (program_walk ps ts).names
