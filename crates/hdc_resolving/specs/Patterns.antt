-- Patterns with numbers in place of names.
use Rattle.std.specs.Prelude.{ℕ, neg_ℤ, pos, List, [], ◌∷◌, Option, None, Some}
use Rattle.hdc_base.specs.declared.place.At.{At}
use Rattle.hdc_tree.specs.declared.name.Name.{Name}
use Rattle.hdc_resolved.specs.declared.name.Literal.TheVariants as literal
use Rattle.hdc_resolved.specs.declared.name.RowKind.TheVariants as kind
use Rattle.hdc_resolved.specs.Syntax as resolved
use Rattle.hdc_resolved.specs.Mirror.{pattern_of}
use Rattle.hdc_resolved.specs.declared.pattern.Pat.{Pat}
use Rattle.hdc_written.specs.Scopes.{standing_for}
use Rattle.hdc_written.specs.Firsts.{nowhere, first_of_pattern}
use Rattle.hdc_written.specs.Written.{Pattern, named, named_as, anything, built, literal_pattern, negative_pattern, unit_pattern, nil_pattern, pattern_in_parentheses, tuple_pattern, list_pattern, cons_pattern, Patterns, no_pattern, pattern}
use Rattle.hdc_resolving.specs.declared.known.Known.{Known}
use Rattle.hdc_resolving.specs.Literals.{cons, place_in, fitted, literal_of}
use Rattle.hdc_resolving.specs.Numbering.{variable_number}
use Rattle.hdc_resolving.specs.Standing.{Names}

-- two patterns with : between them, of which the first begins here, and where : stands
abbrev pub consed : Known → At → At → resolved.Pattern → resolved.Pattern → resolved.Pattern
consed k a colon p q = resolved.built (place_in k.src a) (place_in k.src colon) (Some cons) (resolved.pattern p (resolved.pattern q resolved.no_pattern))

-- the first of places, and those behind it
abbrev pub first_colon : List At → At
first_colon [] = nowhere
first_colon (a ∷ as') = a

abbrev pub next_colons : List At → List At
next_colons [] = []
next_colons (a ∷ as') = as'

-- a constructor and its arguments
abbrev pub built_with : Known → Name → resolved.Patterns → resolved.Pattern
built_with k c ps = resolved.built (place_in k.src c.at) (place_in k.src c.at) (standing_for c.text k.constructors) ps

-- a number behind -
abbrev pub negative : Known → At → ℕ → resolved.Pattern
negative k a n = resolved.literal_pattern (place_in k.src a) (literal.Int (neg_ℤ (pos (fitted n))))

abbrev mutual
  pub resolved_pattern : Pattern → Known → Names → resolved.Pattern
  resolved_pattern (named x) k names = resolved.variable (place_in k.src x.at) (variable_number names x)
  resolved_pattern (named_as x p) k names = resolved.named_as (place_in k.src x.at) (variable_number names x) (resolved_pattern p k names)
  resolved_pattern (anything a) k names = resolved.anything (place_in k.src a)
  resolved_pattern (built c ps) k names = built_with k c (resolved_patterns ps k names)
  resolved_pattern (literal_pattern a l) k names = resolved.literal_pattern (place_in k.src a) (literal_of l)
  resolved_pattern (negative_pattern a b n) k names = negative k a n
  resolved_pattern (unit_pattern a) k names = resolved.row_pattern (place_in k.src a) kind.OfTuple resolved.no_pattern
  resolved_pattern (nil_pattern a) k names = resolved.row_pattern (place_in k.src a) kind.OfList resolved.no_pattern
  resolved_pattern (pattern_in_parentheses a p) k names = resolved_pattern p k names
  resolved_pattern (tuple_pattern a ps) k names = resolved.row_pattern (place_in k.src a) kind.OfTuple (resolved_patterns ps k names)
  resolved_pattern (list_pattern a ps) k names = resolved.row_pattern (place_in k.src a) kind.OfList (resolved_patterns ps k names)
  resolved_pattern (cons_pattern p colons ps) k names = consed_with ps colons k names (first_of_pattern p) (resolved_pattern p k names)

  pub resolved_patterns : Patterns → Known → Names → resolved.Patterns
  resolved_patterns no_pattern k names = resolved.no_pattern
  resolved_patterns (pattern p ps) k names = resolved.pattern (resolved_pattern p k names) (resolved_patterns ps k names)

  -- a pattern that begins here, and those behind it, with : between them, which stand here
  pub consed_with : Patterns → List At → Known → Names → At → resolved.Pattern → resolved.Pattern
  consed_with no_pattern colons k names a q = q
  consed_with (pattern p ps) colons k names a q = consed k a (first_colon colons) q (consed_with ps (next_colons colons) k names (first_of_pattern p) (resolved_pattern p k names))

-- the same as a list
abbrev pub each_resolved : Patterns → Known → Names → List resolved.Pattern
each_resolved no_pattern k names = []
each_resolved (pattern p ps) k names = resolved_pattern p k names ∷ each_resolved ps k names

-- where each begins
abbrev pub each_first : Patterns → List At
each_first no_pattern = []
each_first (pattern p ps) = first_of_pattern p ∷ each_first ps

-- a pattern that begins here, before what is joined behind it, if there is any, and where the : before that stands
abbrev pub joined_to : Known → At → resolved.Pattern → Option (At × resolved.Pattern) → resolved.Pattern
joined_to k a p None = p
joined_to k a p (Some x) = consed k a x.0 p x.1

-- resolved patterns with : between them, where each : stands and where each begins
abbrev pub joined_tail : Known → List At → List At → List resolved.Pattern → Option (At × resolved.Pattern)
joined_tail k colons firsts [] = None
joined_tail k colons firsts (q ∷ qs) = Some (first_colon colons, joined_to k (first_colon firsts) q (joined_tail k (next_colons colons) (next_colons firsts) qs))

abbrev pub tail_of : Option (At × Pat) → Option (At × resolved.Pattern)
tail_of None = None
tail_of (Some x) = Some (x.0, pattern_of x.1)
