-- Parts of right sides in lists.
use Rattle.std.proofs.Common.{◌≡◌, Bool, false, List, [], ◌∷◌, ◌++◌, map, refl, ap, ◌∙◌}
use Rattle.hdc_base.specs.declared.place.Place.{Place}
use Rattle.hdc_resolved.specs.Syntax as resolved
use Rattle.hdc_resolved.specs.Mirror.{chain, expressions}
use Rattle.hdc_written.specs.Written.{Operands, no_operand, operand, Expressions, no_expression, expression, Alternative, blank, alternative, Alternatives, no_alternative, next_alternative, Guards, no_guard, guard}
use Rattle.hdc_resolving.specs.declared.known.Known.{Known}
use Rattle.hdc_resolving.specs.declared.walk.Walk.{Walk}
use Rattle.hdc_resolving.specs.Grouped.{Joining}
use Rattle.hdc_resolving.specs.Numbering.{moved}
use Rattle.hdc_bindings.specs.Resolving.{behind_expression, behind_operand, behind_alternative, applied_unless, applied_to, resolved_operand, resolved_expression, resolved_expressions, resolved_alternatives, alternative_before, resolved_guards}
use Rattle.hdc_bindings.specs.Blocks.{applied_each, operands_in, each_resolved, alternative_in, alternatives_in, guard_in, guards_in}

pub chain_joined : {A : Type 0} (fs gs : List (A → A)) (end : A) → chain (fs ++ gs) end ≡ chain fs (chain gs end)
chain_joined [] gs end = refl
chain_joined (f ∷ fs) gs end = ap f (chain_joined fs gs end)

pub listed_expressions : (es : Expressions) (join : Joining) (k : Known) (w : Walk) → expressions (each_resolved join k es w) ≡ resolved_expressions join k es w
listed_expressions no_expression join k w = refl
listed_expressions (expression e es) join k w = ap (resolved.expression (resolved_expression join k e w)) (listed_expressions es join k (moved (behind_expression e w.counter) w))

pub listed_arguments : (as' : Operands) (join : Joining) (k : Known) (skip : Bool) (p : Place) (e : resolved.Expression) (w : Walk) → applied_each skip p e (operands_in join k as' w) ≡ applied_to join k as' skip p e w
listed_arguments no_operand join k skip p e w = refl
listed_arguments (operand a as') join k skip p e w = listed_arguments as' join k false p (applied_unless skip p e (resolved_operand join k a w)) (moved (behind_operand a w.counter) w)

pub listed_alternative : (b : Alternative) (join : Joining) (k : Known) (w : Walk) (es : resolved.Equations) → chain (alternative_in join k b w) es ≡ alternative_before join k b w es
listed_alternative blank join k w es = refl
listed_alternative (alternative p r) join k w es = refl

pub listed_alternatives : (bs : Alternatives) (join : Joining) (k : Known) (w : Walk) → chain (alternatives_in join k bs w) resolved.no_equation ≡ resolved_alternatives join k bs w
listed_alternatives no_alternative join k w = refl
listed_alternatives (next_alternative b bs) join k w =
    let next = moved (behind_alternative b w.counter) w in
    chain_joined (alternative_in join k b w) (alternatives_in join k bs next) resolved.no_equation
    ∙ ap (chain (alternative_in join k b w)) (listed_alternatives bs join k next)
    ∙ listed_alternative b join k w (resolved_alternatives join k bs next)

pub listed_guards : (gs : Guards) (join : Joining) (k : Known) (w : Walk) → chain (guards_in join k gs w) resolved.no_guard ≡ resolved_guards join k gs w
listed_guards no_guard join k w = refl
listed_guards (guard e f gs) join k w = ap (guard_in join k e f w) (listed_guards gs join k (moved (behind_expression f (behind_expression e w.counter)) w))

-- a part and those behind it
pub pushed_first : {A B : Type 0} (f : A → B) (none once all : List A) (x : A) (rest : List B) → none ≡ [] → once ≡ none ++ (x ∷ []) → map f all ≡ map f once ++ rest → map f all ≡ f x ∷ rest
pushed_first f none once all x rest empty first behind = behind ∙ ap (λ z. map f z ++ rest) (first ∙ ap (λ z. z ++ (x ∷ [])) empty)

pub ruleset listed = (listed_expressions, listed_arguments, chain_joined, listed_alternative, listed_alternatives)

pub ruleset guards = (listed_guards)
