-- The bindings at the top, while they are defined.
use Rattle.std.specs.Prelude.{ℕ, List, [], ◌∷◌, ◌++◌, map, Option, None, Some, if◌then◌else◌}
use Rattle.hdc_base.specs.declared.place.Place.{Place}
use Rattle.hdc_tree.specs.declared.head.Head.{Head}
use Rattle.hdc_tree.specs.declared.program.Top.{Top}
use Rattle.hdc_tree.specs.declared.program.Top.TheVariants as top
use Rattle.hdc_resolved.specs.declared.program.Decl.{Decl}
use Rattle.hdc_resolved.specs.Syntax as resolved
use Rattle.hdc_resolved.specs.Mirror.{chain, equation_of, binding_of, signed_of}
use Rattle.hdc_written.specs.Mirror.{head_name, head_patterns, signed_names}
use Rattle.hdc_written.specs.TypeMirror.{type_exp_of}
use Rattle.hdc_resolving.specs.declared.known.Known.{Known}
use Rattle.hdc_bindings.specs.declared.tops.Defining.{Defining}
use Rattle.hdc_resolving.specs.declared.walk.Walk.{Walk}
use Rattle.hdc_resolving.specs.Grouped.{Joining}
use Rattle.hdc_resolving.specs.Growths.{Equating, text_of}
use Rattle.hdc_resolving.specs.Literals.{place_in}
use Rattle.hdc_resolving.specs.Locals.{resolved_signature}
use Rattle.hdc_resolving.specs.Numbering.{moved}
use Rattle.hdc_resolving.specs.Standing.{goes_on, opened}
use Rattle.hdc_bindings.specs.Tops.{behind_declared, equation_in}

-- a function or a plain name, whose equations may go on
pub record Current : Type 0 where
  pub text : List ℕ
  pub place : Place
  pub equations : List Equating

-- the bindings that are done, the current one, the function with which the next equation may go on, and the signatures
pub record Defined : Type 0 where
  pub done : List resolved.Binding
  pub current : Option Current
  pub before : Option (List ℕ)
  pub signatures : List resolved.Signed

abbrev pub current_of : Option Decl → Option Current
current_of None = None
current_of (Some d) = Some (record { text = d.name; place = d.place; equations = map equation_of d.equations })

-- the same of what is held in memory
abbrev pub defining : Defining → Defined
defining g = record { done = map binding_of g.done; current = current_of g.current; before = text_of g.before; signatures = map signed_of g.signatures }

abbrev pub nothing : Defined
nothing = record { done = []; current = None; before = None; signatures = [] }

-- a function with all its equations
abbrev pub whole : Current → resolved.Binding
whole c = record { text = c.text; place = c.place; equations = chain c.equations resolved.no_equation }

abbrev pub done_with : List resolved.Binding → Option Current → List resolved.Binding
done_with bs None = bs
done_with bs (Some c) = bs ++ (whole c ∷ [])

abbrev pub closed : Defined → Defined
closed g = record { done = done_with g.done g.current; current = None; before = None; signatures = g.signatures }

abbrev pub with_signature : resolved.Signed → Defined → Defined
with_signature s g = record { done = g.done; current = g.current; before = g.before; signatures = g.signatures ++ (s ∷ []) }

abbrev pub with_further : Option Current → Equating → Option Current
with_further None a = None
with_further (Some c) a = Some (record { text = c.text; place = c.place; equations = c.equations ++ (a ∷ []) })

abbrev pub gone_on : Equating → Defined → Defined
gone_on a g = record { done = g.done; current = with_further g.current a; before = g.before; signatures = g.signatures }

abbrev pub begun : Known → Head → Equating → Defined → Defined
begun k h a g = record {
  done = done_with g.done g.current;
  current = Some (record { text = (head_name h).text; place = place_in k.src (head_name h).at; equations = a ∷ [] });
  before = opened (head_name h).text (head_patterns h);
  signatures = g.signatures;
}

abbrev pub with_equation : Known → Head → Equating → Defined → Defined
with_equation k h a g = if goes_on g.before (head_name h).text (head_patterns h) then gone_on a g else begun k h a g

module _ (join : Joining) (k : Known) where
  -- with one declaration more
  abbrev pub defined_in : Top → Walk → Defined → Defined
  defined_in top.Empty w g = g
  defined_in (top.Data d) w g = closed g
  defined_in (top.Synonym s) w g = closed g
  defined_in (top.Fixity f) w g = closed g
  defined_in (top.Signature x xs a t) w g = with_signature (resolved_signature k w.names (signed_names x xs) (type_exp_of t)) (closed g)
  defined_in (top.Equation h r) w g = with_equation k h (equation_in join k h r w) g

  abbrev pub all_defined_in : List Top → Walk → Defined → Defined
  all_defined_in [] w g = g
  all_defined_in (t ∷ ts) w g = all_defined_in ts (moved (behind_declared t w.counter) w) (defined_in t w g)
