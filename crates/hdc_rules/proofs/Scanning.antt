-- The events of a right side lead to what is broken in it, and leave what is in scope as it was.
use Rattle.std.proofs.Common.{◌≡◌, ℕ, ◌-◌, Bool, true, false, ◌||◌, List, [], ◌∷◌, ◌++◌, length, take, is_some, Some, if◌then◌else◌, codes, refl, sym, ap, ◌∙◌, append_assoc}
use Rattle.std.specs.Str.{bytes_eq}
use Rattle.hdc_base.specs.declared.place.At.{At}
use Rattle.hdc_tree.specs.declared.name.Name.{Name}
use Rattle.hdc_tree.specs.declared.name.Op.{Op}
use Rattle.hdc_tree.specs.declared.name.Op.TheVariants as op
use Rattle.hdc_tree.specs.declared.program.Top.{Top}
use Rattle.hdc_tree.specs.declared.program.Top.TheVariants as top
use Rattle.hdc_written.specs.declared.breach.Breach.{Breach}
use Rattle.hdc_written.specs.declared.breach.Found.{Found}
use Rattle.hdc_written.specs.Breaches.{all_noted}
use Rattle.hdc_written.specs.Scopes.{standing_for, names_text}
use Rattle.hdc_written.specs.Written.{Pattern, named, named_as, anything, built, literal_pattern, negative_pattern, unit_pattern, nil_pattern, pattern_in_parentheses, tuple_pattern, list_pattern, cons_pattern, Patterns, no_pattern, pattern}
use Rattle.hdc_written.specs.Written.{variables, all_variables, count_patterns, Expression, chain, Links, no_link, link, Operand, variable, constructor, literal, unit, nil, cons, in_parentheses, tuple, list, range, comprehension, left_section, right_section, applied, lambda, let_in, if_else, case_of, Operands, no_operand, operand, Expressions, no_expression, expression, Qualifier, generator, condition, let_qualifier, Qualifiers, no_qualifier, qualifier, Alternative, blank, alternative, Alternatives, no_alternative, next_alternative, RightSide, plain, guarded, Guards, no_guard, guard, Declaration, empty, signature, equation, binding, Declarations, no_declaration, declaration, all_bound}
use Rattle.hdc_written.specs.Mirror.{head_patterns, rhs_of}
use Rattle.hdc_written.specs.Events.{Event, opened, block, body, closed, each_introduced, matches, each_matches, operator_events, closing, closings, expression_events, link_events, operand_events, each_operand_events, each_expression_events, opening, openings, alternative_events, each_alternative_events, right_side_events, guard_events, declaration_events, each_declaration_events}
use Rattle.hdc_written.proofs.FirstBreach.{noted_joined}
use Rattle.hdc_written.proofs.Scoping.{left_bound}
use Rattle.hdc_rules.specs.declared.known.Known.{Known}
use Rattle.hdc_rules.specs.declared.scan.Scan.{Scan}
use Rattle.hdc_rules.specs.Known.{Values, value, skeletons}
use Rattle.hdc_rules.specs.Names.{where_so, unknown, unless_counted, is_skeleton}
use Rattle.hdc_rules.specs.Bindings.{block_breaches}
use Rattle.hdc_rules.specs.Uses.{locally, bound_together, pattern_breaches, each_pattern_breaches, behind, all_behind, operator_breaches, expression_breaches, link_breaches, operand_breaches, each_operand_breaches, each_expression_breaches, qualifier_breaches, each_qualifier_breaches, alternative_breaches, each_alternative_breaches, right_side_breaches, guard_breaches, declaration_breaches, each_declaration_breaches, top_breaches, each_top_breaches}
use Rattle.hdc_rules.specs.Scan.{note_all, left, run, run_top, run_tops}
use Rattle.hdc_rules.proofs.Taking.{taken_front}

-- ---- one list of events behind another

run_joined : (k : Known) (xs ys : List Event) (s : Scan) → run k (xs ++ ys) s ≡ run k ys (run k xs s)
run_joined k [] ys s = refl
run_joined k (x ∷ xs) ys s = run_joined k xs ys _

noted_twice : (bs cs : List Breach) (s : Scan) → note_all cs (note_all bs s) ≡ note_all (bs ++ cs) s
noted_twice bs cs s = ap (λ (f : Found). record { scope = s.scope; marks = s.marks; found = f }) (sym (noted_joined s.found bs cs))

and_then : (k : Known) (xs ys : List Event) (s : Scan) (bs : List Breach) (cs : Values → List Breach) → run k xs s ≡ note_all bs s → ((t : Scan) → run k ys t ≡ note_all (cs t.scope) t) → run k (xs ++ ys) s ≡ note_all (bs ++ cs s.scope) s
and_then k xs ys s bs cs e f = run_joined k xs ys s ∙ ap (run k ys) e ∙ f (note_all bs s) ∙ noted_twice bs (cs s.scope) s

-- ---- what comes into scope, and goes

-- what is in scope behind names, and how many bindings there were before
abbrev entered : List Name → Scan → Found → Scan
entered xs s f = record { scope = locally xs s.scope; marks = length s.scope ∷ s.marks; found = f }

left_entered : (xs : List Name) (s : Scan) (f : Found) → left (entered xs s f) ≡ record { scope = s.scope; marks = s.marks; found = f }
left_entered xs s f = ap (λ (v : Values). record { scope = v; marks = s.marks; found = f }) (left_bound tt xs s.scope)

-- the bindings of names, the last one first
abbrev named_values : List Name → Values
named_values [] = []
named_values (x ∷ xs) = value x.text ∷ named_values xs

named_stands : (seen : List Name) (t : List ℕ) → is_some (standing_for t (named_values seen)) ≡ names_text seen t
named_stands [] t = refl
named_stands (x ∷ xs) t = by (bytes_eq t x.text) (named_stands xs t)
  where
    by : (b : Bool) → is_some (standing_for t (named_values xs)) ≡ names_text xs t → is_some (if b then Some tt else standing_for t (named_values xs)) ≡ (b || names_text xs t)
    by true e = refl
    by false e = e

introduced_all : (k : Known) (xs seen : List Name) (v : Values) (ms : List ℕ) (f : Found) → run k (each_introduced xs) (record { scope = named_values seen ++ v; marks = length v ∷ ms; found = f }) ≡ record { scope = locally xs (named_values seen ++ v); marks = length v ∷ ms; found = all_noted f (bound_together seen xs) }
introduced_all k [] seen v ms f = refl
introduced_all k (x ∷ xs) seen v ms f =
    let own = where_so (names_text seen x.text) 3 x.at in
    let skeleton = is_skeleton (standing_for x.text skeletons) x.at in
    let since : is_some (standing_for x.text (take (length (named_values seen ++ v) - length v) (named_values seen ++ v))) ≡ names_text seen x.text = ap (λ vs. is_some (standing_for x.text vs)) (taken_front (named_values seen) v) ∙ named_stands seen x.text in
    ap (λ b. run k (each_introduced xs) (record { scope = value x.text ∷ (named_values seen ++ v); marks = length v ∷ ms; found = all_noted f (where_so b 3 x.at ++ skeleton) })) since
    ∙ introduced_all k xs (x ∷ seen) v ms (all_noted f (own ++ skeleton))
    ∙ ap (λ (g : Found). record { scope = locally (x ∷ xs) (named_values seen ++ v); marks = length v ∷ ms; found = g }) (sym (noted_joined f (own ++ skeleton) (bound_together (x ∷ seen) xs)) ∙ ap (all_noted f) (append_assoc own skeleton (bound_together (x ∷ seen) xs)))

opened_all : (k : Known) (xs : List Name) (es : List Event) (s : Scan) → run k (opened ∷ (each_introduced xs ++ es)) s ≡ run k es (entered xs s (all_noted s.found (bound_together [] xs)))
opened_all k xs es s =
    run_joined k (each_introduced xs) es (record { scope = s.scope; marks = length s.scope ∷ s.marks; found = s.found })
    ∙ ap (run k es) (introduced_all k xs [] s.scope s.marks s.found)

-- what comes into scope is left behind what it is for
closed_behind : (k : Known) (xs : List Name) (inner : List Event) (bs cs : List Breach) (s : Scan) → ((f : Found) → run k inner (entered xs s f) ≡ note_all cs (entered xs s f)) → run k (inner ++ (closed ∷ [])) (entered xs s (all_noted s.found bs)) ≡ note_all (bs ++ cs) s
closed_behind k xs inner bs cs s g =
    run_joined k inner (closed ∷ []) (entered xs s (all_noted s.found bs))
    ∙ ap left (g (all_noted s.found bs))
    ∙ left_entered xs s (all_noted (all_noted s.found bs) cs)
    ∙ noted_twice bs cs s

-- variables, the constructors of their patterns, and what they are for
grouped : (k : Known) (xs : List Name) (ms inner : List Event) (bs cs : List Breach) (s : Scan) → ((t : Scan) → run k ms t ≡ note_all bs t) → ((f : Found) → run k inner (entered xs s f) ≡ note_all cs (entered xs s f)) → run k (opened ∷ (each_introduced xs ++ (ms ++ (inner ++ (closed ∷ []))))) s ≡ note_all (bound_together [] xs ++ (bs ++ cs)) s
grouped k xs ms inner bs cs s h g =
    let together = bound_together [] xs in
    opened_all k xs (ms ++ (inner ++ (closed ∷ []))) s
    ∙ run_joined k ms (inner ++ (closed ∷ [])) (entered xs s (all_noted s.found together))
    ∙ ap (run k (inner ++ (closed ∷ []))) (h (entered xs s (all_noted s.found together)) ∙ ap (entered xs s) (sym (noted_joined s.found together bs)))
    ∙ closed_behind k xs inner (together ++ bs) cs s g
    ∙ ap (λ z. note_all z s) (append_assoc together bs cs)

-- declarations, and what they are for
blocked_by : (k : Known) (ds : Declarations) (es inner : List Event) (bs cs : List Breach) (s : Scan) → ((f : Found) → run k es (entered (all_bound ds) s f) ≡ note_all bs (entered (all_bound ds) s f)) → ((f : Found) → run k inner (entered (all_bound ds) s f) ≡ note_all cs (entered (all_bound ds) s f)) → run k (block ds ∷ (es ++ (body ∷ (inner ++ (closed ∷ []))))) s ≡ note_all (block_breaches k.types ds ++ (bs ++ cs)) s
blocked_by k ds es inner bs cs s h g =
    let own = block_breaches k.types ds in
    run_joined k es (body ∷ (inner ++ (closed ∷ []))) (entered (all_bound ds) s (all_noted s.found own))
    ∙ ap (run k (inner ++ (closed ∷ []))) (h (all_noted s.found own) ∙ ap (entered (all_bound ds) s) (sym (noted_joined s.found own bs)))
    ∙ closed_behind k (all_bound ds) inner (own ++ bs) cs s g
    ∙ ap (λ z. note_all z s) (append_assoc own bs cs)

-- ---- patterns and operators

mutual
  ran_matches : (k : Known) (p : Pattern) (s : Scan) → run k (matches p) s ≡ note_all (pattern_breaches k.constructors p) s
  ran_matches k (named x) s = refl
  ran_matches k (named_as x p) s = ran_matches k p s
  ran_matches k (anything a) s = refl
  ran_matches k (built c ps) s =
      let own = unless_counted (standing_for c.text k.constructors) 6 (count_patterns ps) c.at in
      ran_each_matches k ps (note_all own s) ∙ noted_twice own (each_pattern_breaches k.constructors ps) s
  ran_matches k (literal_pattern a l) s = refl
  ran_matches k (negative_pattern a b n) s = refl
  ran_matches k (unit_pattern a) s = refl
  ran_matches k (nil_pattern a) s = refl
  ran_matches k (pattern_in_parentheses a p) s = ran_matches k p s
  ran_matches k (tuple_pattern a ps) s = ran_each_matches k ps s
  ran_matches k (list_pattern a ps) s = ran_each_matches k ps s
  ran_matches k (cons_pattern p colons ps) s = and_then k (matches p) (each_matches ps) s (pattern_breaches k.constructors p) (λ v. each_pattern_breaches k.constructors ps) (ran_matches k p s) (ran_each_matches k ps)

  ran_each_matches : (k : Known) (ps : Patterns) (s : Scan) → run k (each_matches ps) s ≡ note_all (each_pattern_breaches k.constructors ps) s
  ran_each_matches k no_pattern s = refl
  ran_each_matches k (pattern p ps) s = and_then k (matches p) (each_matches ps) s (pattern_breaches k.constructors p) (λ v. each_pattern_breaches k.constructors ps) (ran_matches k p s) (ran_each_matches k ps)

ran_operator : (k : Known) (o : Op) (s : Scan) → run k (operator_events o) s ≡ note_all (operator_breaches k s.scope o) s
ran_operator k (op.Var x) s = refl
ran_operator k (op.Cons a) s = refl
ran_operator k (op.Con a c b) s = refl

-- ---- qualifiers, which stay in scope

abbrev marks_behind : Values → Qualifier → List ℕ → List ℕ
marks_behind v (generator p e) ms = length v ∷ ms
marks_behind v (condition e) ms = ms
marks_behind v (let_qualifier a ds) ms = length v ∷ ms

abbrev all_marks : Values → Qualifiers → List ℕ → List ℕ
all_marks v no_qualifier ms = ms
all_marks v (qualifier q qs) ms = all_marks (behind v q) qs (marks_behind v q ms)

abbrev qualified : Qualifier → Scan → List Breach → Scan
qualified q s bs = record { scope = behind s.scope q; marks = marks_behind s.scope q s.marks; found = all_noted s.found bs }

abbrev all_qualified : Qualifiers → Scan → List Breach → Scan
all_qualified qs s bs = record { scope = all_behind s.scope qs; marks = all_marks s.scope qs s.marks; found = all_noted s.found bs }

closed_qualifier : (k : Known) (q : Qualifier) (v : Values) (ms : List ℕ) (f : Found) → run k (closing q) (record { scope = behind v q; marks = marks_behind v q ms; found = f }) ≡ record { scope = v; marks = ms; found = f }
closed_qualifier k (generator p e) v ms f = left_entered (variables p) (record { scope = v; marks = ms; found = f }) f
closed_qualifier k (condition e) v ms f = refl
closed_qualifier k (let_qualifier a ds) v ms f = left_entered (all_bound ds) (record { scope = v; marks = ms; found = f }) f

closed_qualifiers : (k : Known) (qs : Qualifiers) (v : Values) (ms : List ℕ) (f : Found) → run k (closings qs) (record { scope = all_behind v qs; marks = all_marks v qs ms; found = f }) ≡ record { scope = v; marks = ms; found = f }
closed_qualifiers k no_qualifier v ms f = refl
closed_qualifiers k (qualifier q qs) v ms f =
    run_joined k (closings qs) (closing q) (record { scope = all_behind (behind v q) qs; marks = all_marks (behind v q) qs (marks_behind v q ms); found = f })
    ∙ ap (run k (closing q)) (closed_qualifiers k qs (behind v q) (marks_behind v q ms) f)
    ∙ closed_qualifier k q v ms f

-- ---- expressions and declarations

mutual
  ran_expression : (k : Known) (e : Expression) (s : Scan) → run k (expression_events e) s ≡ note_all (expression_breaches k s.scope e) s
  ran_expression k (chain ls g a) s = and_then k (link_events ls) (operand_events a) s (link_breaches k s.scope ls) (λ v. operand_breaches k v a) (ran_links k ls s) (ran_operand k a)

  ran_links : (k : Known) (ls : Links) (s : Scan) → run k (link_events ls) s ≡ note_all (link_breaches k s.scope ls) s
  ran_links k no_link s = refl
  ran_links k (link g a o ls) s =
      and_then k (operand_events a) (operator_events o ++ link_events ls) s (operand_breaches k s.scope a) (λ v. operator_breaches k v o ++ link_breaches k v ls) (ran_operand k a s)
      (λ t. and_then k (operator_events o) (link_events ls) t (operator_breaches k t.scope o) (λ v. link_breaches k v ls) (ran_operator k o t) (ran_links k ls))

  ran_operand : (k : Known) (a : Operand) (s : Scan) → run k (operand_events a) s ≡ note_all (operand_breaches k s.scope a) s
  ran_operand k (variable x) s = refl
  ran_operand k (constructor c) s = refl
  ran_operand k (literal a l) s = refl
  ran_operand k (unit a) s = refl
  ran_operand k (nil a) s = refl
  ran_operand k (cons a b) s = refl
  ran_operand k (in_parentheses a e) s = ran_expression k e s
  ran_operand k (tuple a es) s = ran_expressions k es s
  ran_operand k (list a es) s = ran_expressions k es s
  ran_operand k (range a e f) s =
      let own = unknown k.library (codes "enumFromTo") a in
      and_then k (expression_events e) (expression_events f) (note_all own s) (expression_breaches k s.scope e) (λ v. expression_breaches k v f) (ran_expression k e (note_all own s)) (ran_expression k f)
      ∙ noted_twice own (expression_breaches k s.scope e ++ expression_breaches k s.scope f) s
  ran_operand k (comprehension a e qs) s =
      let bs = each_qualifier_breaches k s.scope a qs in
      let cs = expression_breaches k (all_behind s.scope qs) e in
      run_joined k (openings a qs) (expression_events e ++ closings qs) s
      ∙ ap (run k (expression_events e ++ closings qs)) (ran_qualifiers k a qs s)
      ∙ run_joined k (expression_events e) (closings qs) (all_qualified qs s bs)
      ∙ ap (run k (closings qs)) (ran_expression k e (all_qualified qs s bs))
      ∙ closed_qualifiers k qs s.scope s.marks (all_noted (all_noted s.found bs) cs)
      ∙ noted_twice bs cs s
  ran_operand k (left_section a e o) s = and_then k (expression_events e) (operator_events o) s (expression_breaches k s.scope e) (λ v. operator_breaches k v o) (ran_expression k e s) (ran_operator k o)
  ran_operand k (right_section a o e) s = and_then k (operator_events o) (expression_events e) s (operator_breaches k s.scope o) (λ v. expression_breaches k v e) (ran_operator k o s) (ran_expression k e)
  ran_operand k (applied f as') s = and_then k (operand_events f) (each_operand_events as') s (operand_breaches k s.scope f) (λ v. each_operand_breaches k v as') (ran_operand k f s) (ran_operands k as')
  ran_operand k (lambda a ps e) s =
      grouped k (all_variables ps) (each_matches ps) (expression_events e) (each_pattern_breaches k.constructors ps) (expression_breaches k (locally (all_variables ps) s.scope) e) s (ran_each_matches k ps) (λ f. ran_expression k e (entered (all_variables ps) s f))
  ran_operand k (let_in a ds e) s =
      blocked_by k ds (each_declaration_events ds) (expression_events e) (each_declaration_breaches k (locally (all_bound ds) s.scope) ds) (expression_breaches k (locally (all_bound ds) s.scope) e) s (λ f. ran_declarations k ds (entered (all_bound ds) s f)) (λ f. ran_expression k e (entered (all_bound ds) s f))
  ran_operand k (if_else a e f g) s =
      and_then k (expression_events e) (expression_events f ++ expression_events g) s (expression_breaches k s.scope e) (λ v. expression_breaches k v f ++ expression_breaches k v g) (ran_expression k e s)
      (λ t. and_then k (expression_events f) (expression_events g) t (expression_breaches k t.scope f) (λ v. expression_breaches k v g) (ran_expression k f t) (ran_expression k g))
  ran_operand k (case_of a e bs) s = and_then k (expression_events e) (each_alternative_events bs) s (expression_breaches k s.scope e) (λ v. each_alternative_breaches k v bs) (ran_expression k e s) (ran_alternatives k bs)

  ran_operands : (k : Known) (as' : Operands) (s : Scan) → run k (each_operand_events as') s ≡ note_all (each_operand_breaches k s.scope as') s
  ran_operands k no_operand s = refl
  ran_operands k (operand a as') s = and_then k (operand_events a) (each_operand_events as') s (operand_breaches k s.scope a) (λ v. each_operand_breaches k v as') (ran_operand k a s) (ran_operands k as')

  ran_expressions : (k : Known) (es : Expressions) (s : Scan) → run k (each_expression_events es) s ≡ note_all (each_expression_breaches k s.scope es) s
  ran_expressions k no_expression s = refl
  ran_expressions k (expression e es) s = and_then k (expression_events e) (each_expression_events es) s (expression_breaches k s.scope e) (λ v. each_expression_breaches k v es) (ran_expression k e s) (ran_expressions k es)

  ran_qualifier : (k : Known) (a : At) (q : Qualifier) (s : Scan) → run k (opening a q) s ≡ qualified q s (qualifier_breaches k s.scope a q)
  ran_qualifier k a (generator p e) s =
      let library = unknown k.library (codes "concatMap") a in
      let bs = expression_breaches k s.scope e in
      let cs = bound_together [] (variables p) in
      let ds = pattern_breaches k.constructors p in
      let first = note_all library s in
      run_joined k (expression_events e) (opened ∷ (each_introduced (variables p) ++ matches p)) first
      ∙ ap (run k (opened ∷ (each_introduced (variables p) ++ matches p))) (ran_expression k e first)
      ∙ opened_all k (variables p) (matches p) (note_all bs first)
      ∙ ran_matches k p (entered (variables p) s (all_noted (all_noted (all_noted s.found library) bs) cs))
      ∙ ap (entered (variables p) s) (sym (noted_joined s.found library (bs ++ (cs ++ ds)) ∙ noted_joined (all_noted s.found library) bs (cs ++ ds) ∙ noted_joined (all_noted (all_noted s.found library) bs) cs ds))
  ran_qualifier k a (condition e) s = ran_expression k e s
  ran_qualifier k a (let_qualifier b ds) s =
      let own = block_breaches k.types ds in
      let inner = entered (all_bound ds) s (all_noted s.found own) in
      run_joined k (each_declaration_events ds) (body ∷ []) inner
      ∙ ran_declarations k ds inner
      ∙ ap (entered (all_bound ds) s) (sym (noted_joined s.found own (each_declaration_breaches k (locally (all_bound ds) s.scope) ds)))

  ran_qualifiers : (k : Known) (a : At) (qs : Qualifiers) (s : Scan) → run k (openings a qs) s ≡ all_qualified qs s (each_qualifier_breaches k s.scope a qs)
  ran_qualifiers k a no_qualifier s = refl
  ran_qualifiers k a (qualifier q qs) s =
      let bs = qualifier_breaches k s.scope a q in
      let cs = each_qualifier_breaches k (behind s.scope q) a qs in
      run_joined k (opening a q) (openings a qs) s
      ∙ ap (run k (openings a qs)) (ran_qualifier k a q s)
      ∙ ran_qualifiers k a qs (qualified q s bs)
      ∙ ap (λ (f : Found). record { scope = all_behind (behind s.scope q) qs; marks = all_marks (behind s.scope q) qs (marks_behind s.scope q s.marks); found = f }) (sym (noted_joined s.found bs cs))

  ran_alternative : (k : Known) (b : Alternative) (s : Scan) → run k (alternative_events b) s ≡ note_all (alternative_breaches k s.scope b) s
  ran_alternative k blank s = refl
  ran_alternative k (alternative p r) s =
      grouped k (variables p) (matches p) (right_side_events r) (pattern_breaches k.constructors p) (right_side_breaches k (locally (variables p) s.scope) r) s (ran_matches k p) (λ f. ran_right_side k r (entered (variables p) s f))

  ran_alternatives : (k : Known) (bs : Alternatives) (s : Scan) → run k (each_alternative_events bs) s ≡ note_all (each_alternative_breaches k s.scope bs) s
  ran_alternatives k no_alternative s = refl
  ran_alternatives k (next_alternative b bs) s = and_then k (alternative_events b) (each_alternative_events bs) s (alternative_breaches k s.scope b) (λ v. each_alternative_breaches k v bs) (ran_alternative k b s) (ran_alternatives k bs)

  ran_right_side : (k : Known) (r : RightSide) (s : Scan) → run k (right_side_events r) s ≡ note_all (right_side_breaches k s.scope r) s
  ran_right_side k (plain e ds) s =
      blocked_by k ds (each_declaration_events ds) (expression_events e) (each_declaration_breaches k (locally (all_bound ds) s.scope) ds) (expression_breaches k (locally (all_bound ds) s.scope) e) s (λ f. ran_declarations k ds (entered (all_bound ds) s f)) (λ f. ran_expression k e (entered (all_bound ds) s f))
  ran_right_side k (guarded a gs ds) s =
      blocked_by k ds (each_declaration_events ds) (guard_events gs) (each_declaration_breaches k (locally (all_bound ds) s.scope) ds) (guard_breaches k (locally (all_bound ds) s.scope) gs) s (λ f. ran_declarations k ds (entered (all_bound ds) s f)) (λ f. ran_guards k gs (entered (all_bound ds) s f))

  ran_guards : (k : Known) (gs : Guards) (s : Scan) → run k (guard_events gs) s ≡ note_all (guard_breaches k s.scope gs) s
  ran_guards k no_guard s = refl
  ran_guards k (guard e f gs) s =
      and_then k (expression_events e) (expression_events f ++ guard_events gs) s (expression_breaches k s.scope e) (λ v. expression_breaches k v f ++ guard_breaches k v gs) (ran_expression k e s)
      (λ t. and_then k (expression_events f) (guard_events gs) t (expression_breaches k t.scope f) (λ v. guard_breaches k v gs) (ran_expression k f t) (ran_guards k gs))

  ran_declaration : (k : Known) (d : Declaration) (s : Scan) → run k (declaration_events d) s ≡ note_all (declaration_breaches k s.scope d) s
  ran_declaration k empty s = refl
  ran_declaration k (signature xs t) s = refl
  ran_declaration k (equation at x ps r) s =
      grouped k (all_variables ps) (each_matches ps) (right_side_events r) (each_pattern_breaches k.constructors ps) (right_side_breaches k (locally (all_variables ps) s.scope) r) s (ran_each_matches k ps) (λ f. ran_right_side k r (entered (all_variables ps) s f))
  ran_declaration k (binding p r) s = and_then k (matches p) (right_side_events r) s (pattern_breaches k.constructors p) (λ v. right_side_breaches k v r) (ran_matches k p s) (ran_right_side k r)

  ran_declarations : (k : Known) (ds : Declarations) (s : Scan) → run k (each_declaration_events ds) s ≡ note_all (each_declaration_breaches k s.scope ds) s
  ran_declarations k no_declaration s = refl
  ran_declarations k (declaration d ds) s = and_then k (declaration_events d) (each_declaration_events ds) s (declaration_breaches k s.scope d) (λ v. each_declaration_breaches k v ds) (ran_declaration k d s) (ran_declarations k ds)

-- ---- the top

ran_top : (k : Known) (t : Top) (s : Scan) → run_top k t s ≡ note_all (top_breaches k s.scope t) s
ran_top k top.Empty s = refl
ran_top k (top.Data d) s = refl
ran_top k (top.Synonym y) s = refl
ran_top k (top.Fixity f) s = refl
ran_top k (top.Signature x xs a t) s = refl
ran_top k (top.Equation h r) s =
    grouped k (all_variables (head_patterns h)) (each_matches (head_patterns h)) (right_side_events (rhs_of r)) (each_pattern_breaches k.constructors (head_patterns h)) (right_side_breaches k (locally (all_variables (head_patterns h)) s.scope) (rhs_of r)) s (ran_each_matches k (head_patterns h)) (λ f. ran_right_side k (rhs_of r) (entered (all_variables (head_patterns h)) s f))

pub ran_tops : (k : Known) (ts : List Top) (s : Scan) → run_tops k ts s ≡ note_all (each_top_breaches k s.scope ts) s
ran_tops k [] s = refl
ran_tops k (t ∷ ts) s = ap (run_tops k ts) (ran_top k t s) ∙ ran_tops k ts (note_all (top_breaches k s.scope t) s) ∙ noted_twice (top_breaches k s.scope t) (each_top_breaches k s.scope ts) s
