-- What a pattern in memory holds, one equation for each production with a list or with parts.
use Rattle.std.proofs.Common.{◌≡◌, List, [], ◌∷◌, map, refl, sym, ◌∙◌, ap}
use Rattle.hdc_base.specs.declared.place.At.{At}
use Rattle.hdc_tree.specs.declared.name.Name.{Name}
use Rattle.hdc_tree.specs.declared.pattern.Apat.{Apat, Apat-F, fold-roll-Apat}
use Rattle.hdc_tree.specs.declared.pattern.LeftPat.{LeftPat-F, fold-roll-LeftPat}
use Rattle.hdc_tree.specs.declared.pattern.CommaPat.{CommaPat, out-CommaPat, roll-out-CommaPat, fold-roll-CommaPat}
use Rattle.hdc_tree.specs.declared.pattern.ConsPat.{ConsPat, out-ConsPat, roll-out-ConsPat, fold-roll-ConsPat}
use Rattle.hdc_tree.specs.declared.pattern.Pat.{Pat, out-Pat, roll-out-Pat, fold-roll-Pat}
use Rattle.hdc_tree.specs.declared.pattern.Apat.TheVariants as v_apat
use Rattle.hdc_tree.specs.declared.pattern.LeftPat.TheVariants as v_left_pat
use Rattle.hdc_written.specs.Written.{Pattern, pattern, tuple_pattern, list_pattern, built, cons_pattern}
use Rattle.hdc_written.specs.Mirror.{apat_step, left_pat_step, comma_pat_step, cons_pat_step, pat_step, apat_of, left_pat_of, comma_pat_of, consed_of, cons_pat_of, pat_of, all_patterns, each_pattern, Consed, all_colons, all_consed}

patterns_each : {A : Type 0} (f : A → Pattern) (xs : List A) → all_patterns (map f xs) ≡ each_pattern f xs
patterns_each f [] = refl
patterns_each f (x ∷ xs) = ap (λ z. pattern (f x) z) (patterns_each f xs)

colons_each : {A : Type 0} (f : A → Consed) (colon_of : A → At) → ((x : A) → (f x).colon ≡ colon_of x) → (xs : List A) → all_colons (map f xs) ≡ map colon_of xs
colons_each f colon_of same [] = refl
colons_each f colon_of same (x ∷ xs) = ap (λ z. z ∷ all_colons (map f xs)) (same x) ∙ ap (λ z. colon_of x ∷ z) (colons_each f colon_of same xs)

consed_each : {A : Type 0} (f : A → Consed) (xs : List A) → all_consed (map f xs) ≡ each_pattern (λ x. (f x).pat) xs
consed_each f [] = refl
consed_each f (x ∷ xs) = ap (λ z. pattern (f x).pat z) (consed_each f xs)

pub apat_tuple : (a : At) (p : Pat) (ps : List CommaPat) (b : At) → apat_of (v_apat.Tuple a p ps b) ≡ tuple_pattern a (pattern (pat_of p) (each_pattern comma_pat_of ps))
apat_tuple a p ps b = ap apat_of (sym (v_apat.rolls-Tuple a p ps b)) ∙ fold-roll-Apat Pattern Pattern Pattern Consed Pattern apat_step left_pat_step comma_pat_step cons_pat_step pat_step (Apat-F.Tuple a p ps b) ∙ ap (λ z. tuple_pattern a (pattern (pat_of p) z)) (patterns_each comma_pat_of ps)

pub apat_list : (a : At) (p : Pat) (ps : List CommaPat) (b : At) → apat_of (v_apat.List a p ps b) ≡ list_pattern a (pattern (pat_of p) (each_pattern comma_pat_of ps))
apat_list a p ps b = ap apat_of (sym (v_apat.rolls-List a p ps b)) ∙ fold-roll-Apat Pattern Pattern Pattern Consed Pattern apat_step left_pat_step comma_pat_step cons_pat_step pat_step (Apat-F.List a p ps b) ∙ ap (λ z. list_pattern a (pattern (pat_of p) z)) (patterns_each comma_pat_of ps)

pub left_pat_applied : (c : Name) (p : Apat) (ps : List Apat) → left_pat_of (v_left_pat.Applied c p ps) ≡ built c (pattern (apat_of p) (each_pattern apat_of ps))
left_pat_applied c p ps = ap left_pat_of (sym (v_left_pat.rolls-Applied c p ps)) ∙ fold-roll-LeftPat Pattern Pattern Pattern Consed Pattern apat_step left_pat_step comma_pat_step cons_pat_step pat_step (LeftPat-F.Applied c p ps) ∙ ap (λ z. built c (pattern (apat_of p) z)) (patterns_each apat_of ps)

pub comma_pat_parts : (part : CommaPat) → comma_pat_of part ≡ pat_of (out-CommaPat part).pat
comma_pat_parts part = ap comma_pat_of (sym (roll-out-CommaPat part)) ∙ fold-roll-CommaPat Pattern Pattern Pattern Consed Pattern apat_step left_pat_step comma_pat_step cons_pat_step pat_step (out-CommaPat part)

consed_parts : (part : ConsPat) → consed_of part ≡ record { colon = (out-ConsPat part).colon; pat = left_pat_of (out-ConsPat part).pat }
consed_parts part = ap consed_of (sym (roll-out-ConsPat part)) ∙ fold-roll-ConsPat Pattern Pattern Pattern Consed Pattern apat_step left_pat_step comma_pat_step cons_pat_step pat_step (out-ConsPat part)

pub cons_pat_parts : (part : ConsPat) → cons_pat_of part ≡ left_pat_of (out-ConsPat part).pat
cons_pat_parts part = ap (λ (c : Consed). c.pat) (consed_parts part)

cons_pat_colon : (part : ConsPat) → (consed_of part).colon ≡ (out-ConsPat part).colon
cons_pat_colon part = ap (λ (c : Consed). c.colon) (consed_parts part)

-- where each : stands
abbrev pub colon_of : ConsPat → At
colon_of part = (out-ConsPat part).colon

pub pat_parts : (part : Pat) → pat_of part ≡ cons_pattern (left_pat_of (out-Pat part).first) (map colon_of (out-Pat part).rest) (each_pattern cons_pat_of (out-Pat part).rest)
pat_parts part = ap pat_of (sym (roll-out-Pat part)) ∙ fold-roll-Pat Pattern Pattern Pattern Consed Pattern apat_step left_pat_step comma_pat_step cons_pat_step pat_step (out-Pat part) ∙ ap (λ z. cons_pattern (left_pat_of (out-Pat part).first) z (all_consed (map consed_of (out-Pat part).rest))) (colons_each consed_of colon_of cons_pat_colon (out-Pat part).rest) ∙ ap (λ z. cons_pattern (left_pat_of (out-Pat part).first) (map colon_of (out-Pat part).rest) z) (consed_each consed_of (out-Pat part).rest)

pub ruleset mirrored_patterns = (apat_tuple, apat_list, left_pat_applied, comma_pat_parts, cons_pat_parts, pat_parts)
