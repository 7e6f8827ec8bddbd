-- Parts that bind names, put together.
use Rattle.std.proofs.Common.{◌≡◌, ℕ, List, [], ◌∷◌, ◌++◌, ap, ◌∙◌}
use Rattle.hdc_base.specs.declared.place.At.{At}
use Rattle.hdc_tree.specs.declared.name.Name as tree
use Rattle.hdc_resolved.specs.Mirror as made
use Rattle.hdc_resolved.specs.Syntax as resolved
use Rattle.hdc_written.specs.Firsts.{first_of_pattern}
use Rattle.hdc_written.specs.Written.{Pattern, Patterns, no_pattern, pattern, variables, all_variables, Expression, let_in, lambda, alternative, RightSide, plain, guarded, Guards, guard, equation, Declarations}
use Rattle.hdc_resolving.specs.declared.known.Known.{Known}
use Rattle.hdc_resolving.specs.declared.walk.Counter.{Counter}
use Rattle.hdc_resolving.specs.declared.walk.Walk.{Walk}
use Rattle.hdc_resolving.specs.Grouped.{Joining}
use Rattle.hdc_resolving.specs.Growths.{Equating, Grown, with_equation}
use Rattle.hdc_resolving.specs.Literals.{place_in}
use Rattle.hdc_resolving.specs.Numbering.{entered, moved, variable_number}
use Rattle.hdc_resolving.specs.Parts.{Bound, block_at}
use Rattle.hdc_resolving.specs.Patterns.{resolved_patterns}
use Rattle.hdc_bindings.specs.Blocks.{Guarding, bound_in, guard_in, guards_in, alternative_in, declared_in}
use Rattle.hdc_bindings.specs.Resolving.{behind_expression, behind_guards, behind_declarations, inside, behind, equation_before, resolved_expression, resolved_operand, resolved_right_side}
use Rattle.hdc_bindings.proofs.Leaving.{behind_is, closed_block}
use Rattle.hdc_bindings.proofs.Lists.{listed_guards}

module _ (join : Joining) (k : Known) where
  -- declarations and an expression in their scope
  pub plain_is : (e : Expression) (ds : Declarations) (w w1 w2 w3 : Walk) (bound : Bound) (exp : resolved.Expression) (own : resolved.Block) (whole : resolved.RightSide) → w1 ≡ inside ds w → bound ≡ bound_in join k ds w1 → w2 ≡ moved (behind_declarations ds w1.counter) w1 → exp ≡ resolved_expression join k e w2 → w3 ≡ moved (behind_expression e w2.counter) w2 → own ≡ block_at k w3.counter bound → whole ≡ resolved.plain exp own → whole ≡ resolved_right_side join k (plain e ds) w
  plain_is e ds w w1 w2 w3 bound exp own whole w1_is bound_is w2_is exp_is w3_is block_is whole_is =
      whole_is
      ∙ (λ i. resolved.plain
      ((exp_is ∙ ap (resolved_expression join k e) (behind_is ds w w1 w2 w1_is w2_is)) i)
      (closed_block join k ds (behind_expression e) w w1 w2 w3 bound own w1_is bound_is w2_is w3_is block_is i))

  pub let_is : (a : At) (e : Expression) (ds : Declarations) (w w1 w2 w3 : Walk) (bound : Bound) (exp : resolved.Expression) (own : resolved.Block) (whole : resolved.Expression) → w1 ≡ inside ds w → bound ≡ bound_in join k ds w1 → w2 ≡ moved (behind_declarations ds w1.counter) w1 → exp ≡ resolved_expression join k e w2 → w3 ≡ moved (behind_expression e w2.counter) w2 → own ≡ block_at k w3.counter bound → whole ≡ resolved.let_in (place_in k.src a) own exp → whole ≡ resolved_operand join k (let_in a ds e) w
  let_is a e ds w w1 w2 w3 bound exp own whole w1_is bound_is w2_is exp_is w3_is block_is whole_is =
      whole_is
      ∙ (λ i. resolved.let_in (place_in k.src a)
      (closed_block join k ds (behind_expression e) w w1 w2 w3 bound own w1_is bound_is w2_is w3_is block_is i)
      ((exp_is ∙ ap (resolved_expression join k e) (behind_is ds w w1 w2 w1_is w2_is)) i))

  -- declarations and guards in their scope
  pub guarded_is : (a : At) (e f : Expression) (gs : Guards) (ds : Declarations) (w w1 w2 w3 w4 : Walk) (bound : Bound) (first : Guarding) (all : List Guarding) (own : resolved.Block) (whole : resolved.RightSide) → w1 ≡ inside ds w → bound ≡ bound_in join k ds w1 → w2 ≡ moved (behind_declarations ds w1.counter) w1 → first ≡ guard_in join k e f w2 → w3 ≡ moved (behind_expression f (behind_expression e w2.counter)) w2 → all ≡ first ∷ guards_in join k gs w3 → w4 ≡ moved (behind_guards gs w3.counter) w3 → own ≡ block_at k w4.counter bound → whole ≡ resolved.guarded (place_in k.src a) (made.chain all resolved.no_guard) own → whole ≡ resolved_right_side join k (guarded a (guard e f gs) ds) w
  guarded_is a e f gs ds w w1 w2 w3 w4 bound first all own whole w1_is bound_is w2_is first_is w3_is all_is w4_is block_is whole_is =
      let counts = behind_guards (guard e f gs) in
      let last_is = w4_is ∙ ap (λ (z : Walk). moved (behind_guards gs z.counter) z) w3_is in
      let guards_are = all_is ∙ (λ i. first_is i ∷ guards_in join k gs (w3_is i)) ∙ ap (guards_in join k (guard e f gs)) (behind_is ds w w1 w2 w1_is w2_is) in
      whole_is
      ∙ (λ i. resolved.guarded (place_in k.src a)
      ((ap (λ z. made.chain z resolved.no_guard) guards_are ∙ listed_guards (guard e f gs) join k (behind ds w)) i)
      (closed_block join k ds counts w w1 w2 w4 bound own w1_is bound_is w2_is last_is block_is i))

  -- parameters and what stands in their scope
  pub lambda_is : (a : At) (ps : Patterns) (e : Expression) (w w1 : Walk) (pats : resolved.Patterns) (body whole : resolved.Expression) → w1 ≡ entered (all_variables ps) w → pats ≡ resolved_patterns ps k (entered (all_variables ps) w).names → body ≡ resolved_expression join k e w1 → whole ≡ resolved.lambda (place_in k.src a) pats body → whole ≡ resolved_operand join k (lambda a ps e) w
  lambda_is a ps e w w1 pats body whole w1_is pats_are body_is whole_is =
      whole_is ∙ (λ i. resolved.lambda (place_in k.src a) (pats_are i) ((body_is ∙ ap (resolved_expression join k e) w1_is) i))

  pub equated_is : (at : At) (ps : Patterns) (r : RightSide) (w w1 : Walk) (pats : resolved.Patterns) (right : resolved.RightSide) (alt : Equating) → w1 ≡ entered (all_variables ps) w → pats ≡ resolved_patterns ps k w1.names → right ≡ resolved_right_side join k r w1 → alt ≡ equation_before k at pats right → alt ≡ equation_before k at (resolved_patterns ps k (entered (all_variables ps) w).names) (resolved_right_side join k r (entered (all_variables ps) w))
  equated_is at ps r w w1 pats right alt w1_is pats_are right_is alt_is =
      alt_is
      ∙ (λ i. equation_before k at
      ((pats_are ∙ ap (λ (z : Walk). resolved_patterns ps k z.names) w1_is) i)
      ((right_is ∙ ap (resolved_right_side join k r) w1_is) i))

  pub grown_equation : (at : At) (x : tree.Name) (ps : Patterns) (r : RightSide) (w w1 w2 : Walk) (c : Counter) (pats : resolved.Patterns) (right : resolved.RightSide) (alt : Equating) (number : ℕ) (g g1 : Grown) → w1 ≡ entered (all_variables ps) w → pats ≡ resolved_patterns ps k w1.names → right ≡ resolved_right_side join k r w1 → alt ≡ equation_before k at pats right → w2 ≡ moved c w → number ≡ variable_number w2.names x → g1 ≡ with_equation (place_in k.src x.at) number x.text ps alt g → g1 ≡ declared_in join k (equation at x ps r) w g
  grown_equation at x ps r w w1 w2 c pats right alt number g g1 w1_is pats_are right_is alt_is w2_is number_is g1_is =
      let number_before = number_is ∙ ap (λ (z : Walk). variable_number z.names x) w2_is in
      g1_is ∙ (λ i. with_equation (place_in k.src x.at) (number_before i) x.text ps (equated_is at ps r w w1 pats right alt w1_is pats_are right_is alt_is i) g)

  pub alternative_is : (p : Pattern) (r : RightSide) (w w1 : Walk) (pats : resolved.Patterns) (right : resolved.RightSide) (alt : Equating) (before after : List Equating) → w1 ≡ entered (variables p) w → pats ≡ resolved_patterns (pattern p no_pattern) k w1.names → right ≡ resolved_right_side join k r w1 → alt ≡ equation_before k (first_of_pattern p) pats right → after ≡ before ++ (alt ∷ []) → after ≡ before ++ alternative_in join k (alternative p r) w
  alternative_is p r w w1 pats right alt before after w1_is pats_are right_is alt_is after_is =
      let same = alt_is ∙ (λ i. equation_before k (first_of_pattern p)
      ((pats_are ∙ ap (λ (z : Walk). resolved_patterns (pattern p no_pattern) k z.names) w1_is) i)
      ((right_is ∙ ap (resolved_right_side join k r) w1_is) i)) in
      after_is ∙ ap (λ z. before ++ (z ∷ [])) same
