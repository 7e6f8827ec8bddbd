-- Lists that are put together from the left.
use Rattle.std.proofs.Common.{◌≡◌, suc, ◌+◌, List, [], ◌∷◌, ◌++◌, length, map, refl, sym, ap, ◌∙◌, append_assoc, append-nil, arith}
use Rattle.hdc_tree.specs.declared.name.Name.{Name}
use Rattle.hdc_written.specs.declared.events.Event.{Event}
use Rattle.hdc_written.specs.Written.{Pattern, count_patterns}
use Rattle.hdc_written.specs.Mirror.{each_pattern}
use Rattle.hdc_written.specs.Events.{each_introduced, introduced}
use Rattle.hdc_written.specs.Recorded.{event_of}

-- variables behind variables
pub introduced_joined : (xs ys : List Name) → each_introduced (xs ++ ys) ≡ each_introduced xs ++ each_introduced ys
introduced_joined [] ys = refl
introduced_joined (x ∷ xs) ys = ap (λ es. introduced x ∷ es) (introduced_joined xs ys)

pub ruleset in_order = (append_assoc, append-nil, introduced_joined)

-- how many patterns there are, with one more
pub count_patterns_more : {A : Type 0} (f : A → Pattern) (xs : List A) → length xs + 1 ≡ suc (count_patterns (each_pattern f xs))
count_patterns_more f [] = omega arith
count_patterns_more f (x ∷ xs) = let h = count_patterns_more f xs in omega (arith, h)

-- one event more
pub recorded_more : (es : List Event) (e : Event) → map event_of (es ++ e ∷ []) ≡ map event_of es ++ event_of e ∷ []
recorded_more [] e = refl
recorded_more (d ∷ es) e = ap (λ rest. event_of d ∷ rest) (recorded_more es e)
