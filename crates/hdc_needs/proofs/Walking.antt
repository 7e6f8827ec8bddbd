-- The events of a text lead to the uses of names that are free in it, and to its blocks.
use Rattle.std.proofs.Common.{◌≡◌, ℕ, suc, ◌+◌, ◌<◌, Bool, true, false, nat_lt, List, [], ◌∷◌, ◌++◌, Option, Some, None, if◌then◌else◌, refl, sym, ap, ◌∙◌, append_assoc, append-nil, arith}
use borrow.Author.Tests.{ltb-false}
use Rattle.hdc_base.specs.declared.place.At.{At}
use Rattle.hdc_tree.specs.declared.name.Name.{Name}
use Rattle.hdc_tree.specs.declared.name.Op.{Op}
use Rattle.hdc_tree.specs.declared.name.Op.TheVariants as op
use Rattle.hdc_tree.specs.declared.program.Top.{Top}
use Rattle.hdc_tree.specs.declared.program.Top.TheVariants as top
use Rattle.hdc_written.specs.Written.{Pattern, named, named_as, anything, built, literal_pattern, negative_pattern, unit_pattern, nil_pattern, pattern_in_parentheses, tuple_pattern, list_pattern, cons_pattern, Patterns, no_pattern, pattern}
use Rattle.hdc_written.specs.Written.{variables, all_variables, Expression, chain, Links, no_link, link, Operand, variable, constructor, literal, unit, nil, cons, in_parentheses, tuple, list, range, comprehension, left_section, right_section, applied, lambda, let_in, if_else, case_of, Operands, no_operand, operand, Expressions, no_expression, expression, generator, condition, let_qualifier, Qualifiers, no_qualifier, qualifier, Alternative, blank, alternative, Alternatives, no_alternative, next_alternative, RightSide, plain, guarded, Guards, no_guard, guard, Declaration, empty, signature, equation, binding, Declarations, no_declaration, declaration, all_bound}
use Rattle.hdc_written.specs.Mirror.{head_patterns, rhs_of}
use Rattle.hdc_written.specs.Events.{Event, used, generated, opened, block, declaring, body, closed, each_introduced, matches, each_matches, operator_events, closings, expression_events, link_events, operand_events, each_operand_events, each_expression_events, openings, alternative_events, each_alternative_events, right_side_events, guard_events, declaration_events, each_declaration_events}
use Rattle.hdc_written.specs.Scopes.{names_text}
use Rattle.hdc_needs.specs.Free.{without, operator_name, free_expression, free_links, free_operand, free_operands, free_expressions, free_behind, free_alternative, free_alternatives, free_right_side, free_guards, free_declaration, free_declarations}
use Rattle.hdc_needs.specs.Blocks.{expression_blocks, link_blocks, operand_blocks, each_operand_blocks, each_expression_blocks, blocks_behind, alternative_blocks, each_alternative_blocks, right_side_blocks, guard_blocks, declaration_blocks, each_declaration_blocks}
use Rattle.hdc_needs.specs.Walk.{Mention, Frame, patterns, local, Ended, State, lost, going, count_declarations, logged, use_name, step, run, run_tops}
use Rattle.hdc_needs.specs.Ends.{logged_all, logged_declarations, ended, all_ended}
use Rattle.hdc_needs.specs.Needy.{text_blocks}

-- ---- names that are used one behind the other

abbrev use_all : List Name → List Frame → List Frame
use_all [] fs = fs
use_all (y ∷ ys) fs = use_all ys (use_name y fs)

used_joined : (xs ys : List Name) (fs : List Frame) → use_all (xs ++ ys) fs ≡ use_all ys (use_all xs fs)
used_joined [] ys fs = refl
used_joined (x ∷ xs) ys fs = used_joined xs ys (use_name x fs)

without_joined : (xs ys zs : List Name) → without xs (ys ++ zs) ≡ without xs ys ++ without xs zs
without_joined xs [] zs = refl
without_joined xs (y ∷ ys) zs = by (names_text xs y.text) (without_joined xs ys zs)
  where
    by : (b : Bool) → without xs (ys ++ zs) ≡ without xs ys ++ without xs zs → (if b then without xs (ys ++ zs) else (y ∷ without xs (ys ++ zs))) ≡ (if b then without xs ys else (y ∷ without xs ys)) ++ without xs zs
    by true e = e
    by false e = ap (λ rest. y ∷ rest) e

-- names that are used under variables of patterns
used_under : (xs ys : List Name) (fs : List Frame) → use_all ys (patterns xs ∷ fs) ≡ patterns xs ∷ use_all (without xs ys) fs
used_under xs [] fs = refl
used_under xs (y ∷ ys) fs = by (used_under xs ys) (names_text xs y.text)
  where
    by : ((gs : List Frame) → use_all ys (patterns xs ∷ gs) ≡ patterns xs ∷ use_all (without xs ys) gs) → (b : Bool) → use_all ys (if b then patterns xs ∷ fs else (patterns xs ∷ use_name y fs)) ≡ patterns xs ∷ use_all (if b then without xs ys else (y ∷ without xs ys)) fs
    by rest true = rest fs
    by rest false = rest (use_name y fs)

-- names that are used in a block
used_in : (ds : Declarations) (k : ℕ) (c : Option ℕ) (ys : List Name) (us : List Mention) (fs : List Frame) → use_all ys (local ds k c us ∷ fs) ≡ local ds k c (logged_all c (all_bound ds) ys us) ∷ use_all (without (all_bound ds) ys) fs
used_in ds k c [] us fs = refl
used_in ds k c (y ∷ ys) us fs = by (used_in ds k c ys) (names_text (all_bound ds) y.text)
  where
    by : ((vs : List Mention) (gs : List Frame) → use_all ys (local ds k c vs ∷ gs) ≡ local ds k c (logged_all c (all_bound ds) ys vs) ∷ use_all (without (all_bound ds) ys) gs) → (b : Bool) → use_all ys (if b then local ds k c (logged c y us) ∷ fs else (local ds k c us ∷ use_name y fs)) ≡ local ds k c (logged_all c (all_bound ds) ys (if b then logged c y us else us)) ∷ use_all (if b then without (all_bound ds) ys else (y ∷ without (all_bound ds) ys)) fs
    by rest true = rest (logged c y us) fs
    by rest false = rest us (use_name y fs)

unlogged : (xs ys : List Name) (us : List Mention) → logged_all None xs ys us ≡ us
unlogged xs [] us = refl
unlogged xs (y ∷ ys) us = by (unlogged xs ys us) (names_text xs y.text)
  where
    by : logged_all None xs ys us ≡ us → (b : Bool) → logged_all None xs ys (if b then us else us) ≡ us
    by rest true = rest
    by rest false = rest

-- ---- events

run_joined : (xs ys : List Event) (s : State) → run (xs ++ ys) s ≡ run ys (run xs s)
run_joined [] ys s = refl
run_joined (x ∷ xs) ys s = run_joined xs ys (step x s)

ended_joined : (xs ys : List Declarations) → all_ended (xs ++ ys) ≡ all_ended xs ++ all_ended ys
ended_joined [] ys = refl
ended_joined (x ∷ xs) ys = ap (λ rest. ended x ∷ rest) (ended_joined xs ys)

-- events use these names, and these blocks end
abbrev Does : List Event → List Name → List Declarations → Type 0
Does es ys bs = (fs : List Frame) (done : List Ended) → run es (going fs done) ≡ going (use_all ys fs) (done ++ all_ended bs)

-- events do nothing
abbrev IsSilent : List Event → Type 0
IsSilent es = (fs : List Frame) (done : List Ended) → run es (going fs done) ≡ going fs done

silent : (es : List Event) → IsSilent es → Does es [] []
silent es h fs done = h fs done ∙ ap (going fs) (sym (append-nil done))

nothing : Does [] [] []
nothing fs done = ap (going fs) (sym (append-nil done))

and_then : (xs xs' : List Event) (ys ys' : List Name) (bs bs' : List Declarations) → Does xs ys bs → Does xs' ys' bs' → Does (xs ++ xs') (ys ++ ys') (bs ++ bs')
and_then xs xs' ys ys' bs bs' h g fs done =
    run_joined xs xs' (going fs done)
    ∙ ap (run xs') (h fs done)
    ∙ g (use_all ys fs) (done ++ all_ended bs)
    ∙ ap (λ us. going us ((done ++ all_ended bs) ++ all_ended bs')) (sym (used_joined ys ys' fs))
    ∙ ap (going (use_all (ys ++ ys') fs)) (append_assoc done (all_ended bs) (all_ended bs') ∙ ap (λ rest. done ++ rest) (sym (ended_joined bs bs')))

-- names, and no blocks, come first or last
and_names : (xs xs' : List Event) (ys ys' : List Name) (bs : List Declarations) → Does xs ys bs → Does xs' ys' [] → Does (xs ++ xs') (ys ++ ys') bs
and_names xs xs' ys ys' bs h g fs done = and_then xs xs' ys ys' bs [] h g fs done ∙ ap (λ rest. going (use_all (ys ++ ys') fs) (done ++ all_ended rest)) (append-nil bs)

introduced_all : (ys xs : List Name) (fs : List Frame) (done : List Ended) → run (each_introduced ys) (going (patterns xs ∷ fs) done) ≡ going (patterns (xs ++ ys) ∷ fs) done
introduced_all [] xs fs done = ap (λ zs. going (patterns zs ∷ fs) done) (sym (append-nil xs))
introduced_all (y ∷ ys) xs fs done = introduced_all ys (xs ++ y ∷ []) fs done ∙ ap (λ zs. going (patterns zs ∷ fs) done) (append_assoc xs (y ∷ []) ys)

-- events under variables of patterns
under : (xs ys : List Name) (inner : List Event) (bs : List Declarations) → Does inner ys bs → Does (opened ∷ (each_introduced xs ++ (inner ++ (closed ∷ [])))) (without xs ys) bs
under xs ys inner bs h fs done =
    run_joined (each_introduced xs) (inner ++ (closed ∷ [])) (going (patterns [] ∷ fs) done)
    ∙ ap (run (inner ++ (closed ∷ []))) (introduced_all xs [] fs done)
    ∙ run_joined inner (closed ∷ []) (going (patterns xs ∷ fs) done)
    ∙ ap (run (closed ∷ [])) (h (patterns xs ∷ fs) done ∙ ap (λ gs. going gs (done ++ all_ended bs)) (used_under xs ys fs))

-- the patterns' constructors come first
grouped : (xs ys : List Name) (ms inner : List Event) (bs : List Declarations) → IsSilent ms → Does inner ys bs → Does (opened ∷ (each_introduced xs ++ (ms ++ (inner ++ (closed ∷ []))))) (without xs ys) bs
grouped xs ys ms inner bs quiet h fs done =
    ap (λ es. run (opened ∷ (each_introduced xs ++ es)) (going fs done)) (sym (append_assoc ms inner (closed ∷ [])))
    ∙ under xs ys (ms ++ inner) bs (and_then ms inner [] ys [] bs (silent ms quiet) h) fs done

-- the declarations of a block from a number on, and what they are for
abbrev Declare : Declarations → Type 0
Declare ds = (whole : Declarations) (k : ℕ) (c : Option ℕ) (us : List Mention) (fs : List Frame) (done : List Ended) (rest : List Event) → k + count_declarations ds ≡ count_declarations whole → run (each_declaration_events ds ++ (body ∷ rest)) (going (local whole k c us ∷ fs) done) ≡ run rest (going (local whole (count_declarations whole) None (logged_declarations (all_bound whole) k ds us) ∷ use_all (without (all_bound whole) (free_declarations ds)) fs) (done ++ all_ended (each_declaration_blocks ds)))

declared_none : Declare no_declaration
declared_none whole k c us fs done rest e =
    let same : k ≡ count_declarations whole = omega arith in
    ap (λ n. run rest (going (local whole n None us ∷ fs) done)) same
    ∙ ap (λ all. run rest (going (local whole (count_declarations whole) None us ∷ fs) all)) (sym (append-nil done))

begun : (k : ℕ) (whole : Declarations) (c : Option ℕ) (us : List Mention) (fs : List Frame) (done : List Ended) → k < count_declarations whole → step declaring (going (local whole k c us ∷ fs) done) ≡ going (local whole (suc k) (Some k) us ∷ fs) done
begun k whole c us fs done lt = by (nat_lt k (count_declarations whole)) refl
  where
    by : (b : Bool) → nat_lt k (count_declarations whole) ≡ b → (if b then going (local whole (suc k) (Some k) us ∷ fs) done else lost) ≡ going (local whole (suc k) (Some k) us ∷ fs) done
    by true e = refl
    by false e = let le = ltb-false k (count_declarations whole) e in absurd (omega arith)

declared_more : (d : Declaration) (ds : Declarations) → Does (declaration_events d) (free_declaration d) (declaration_blocks d) → Declare ds → Declare (declaration d ds)
declared_more d ds h g whole k c us fs done rest e =
    let lt : k < count_declarations whole = omega arith in
    let next : suc k + count_declarations ds ≡ count_declarations whole = omega arith in
    let xs = all_bound whole in
    let vs = logged_all (Some k) xs (free_declaration d) us in
    let gs = use_all (without xs (free_declaration d)) fs in
    let more = done ++ all_ended (declaration_blocks d) in
    ap (run ((declaration_events d ++ each_declaration_events ds) ++ (body ∷ rest))) (begun k whole c us fs done lt)
    ∙ ap (λ es. run es (going (local whole (suc k) (Some k) us ∷ fs) done)) (append_assoc (declaration_events d) (each_declaration_events ds) (body ∷ rest))
    ∙ run_joined (declaration_events d) (each_declaration_events ds ++ (body ∷ rest)) (going (local whole (suc k) (Some k) us ∷ fs) done)
    ∙ ap (run (each_declaration_events ds ++ (body ∷ rest))) (h (local whole (suc k) (Some k) us ∷ fs) done ∙ ap (λ hs. going hs more) (used_in whole (suc k) (Some k) (free_declaration d) us fs))
    ∙ g whole (suc k) (Some k) vs gs more rest next
    ∙ ap (λ hs. run rest (going (local whole (count_declarations whole) None (logged_declarations xs (suc k) ds vs) ∷ hs) (more ++ all_ended (each_declaration_blocks ds))))
    (sym (used_joined (without xs (free_declaration d)) (without xs (free_declarations ds)) fs) ∙ ap (λ zs. use_all zs fs) (sym (without_joined xs (free_declaration d) (free_declarations ds))))
    ∙ ap (λ all. run rest (going (local whole (count_declarations whole) None (logged_declarations xs (suc k) ds vs) ∷ use_all (without xs (free_declaration d ++ free_declarations ds)) fs) all))
    (append_assoc done (all_ended (declaration_blocks d)) (all_ended (each_declaration_blocks ds)) ∙ ap (λ all. done ++ all) (sym (ended_joined (declaration_blocks d) (each_declaration_blocks ds))))

-- a block, and what it is for
blocked : (ds : Declarations) (ys : List Name) (inner : List Event) (bs : List Declarations) → Declare ds → Does inner ys bs → Does (block ds ∷ (each_declaration_events ds ++ (body ∷ (inner ++ (closed ∷ []))))) (without (all_bound ds) (free_declarations ds ++ ys)) (each_declaration_blocks ds ++ (bs ++ (ds ∷ [])))
blocked ds ys inner bs g h fs done =
    let xs = all_bound ds in
    let n = count_declarations ds in
    let us = logged_declarations xs 0 ds [] in
    let zs = without xs (free_declarations ds) in
    let first = done ++ all_ended (each_declaration_blocks ds) in
    let same : 0 + n ≡ n = omega arith in
    g ds 0 None [] fs done (inner ++ (closed ∷ [])) same
    ∙ run_joined inner (closed ∷ []) (going (local ds n None us ∷ use_all zs fs) first)
    ∙ ap (run (closed ∷ []))
    (h (local ds n None us ∷ use_all zs fs) first
    ∙ ap (λ hs. going hs (first ++ all_ended bs)) (used_in ds n None ys us (use_all zs fs))
    ∙ ap (λ vs. going (local ds n None vs ∷ use_all (without xs ys) (use_all zs fs)) (first ++ all_ended bs)) (unlogged xs ys us))
    ∙ ap (λ hs. going hs ((first ++ all_ended bs) ++ (ended ds ∷ []))) (sym (used_joined zs (without xs ys) fs) ∙ ap (λ vs. use_all vs fs) (sym (without_joined xs (free_declarations ds) ys)))
    ∙ ap (going (use_all (without xs (free_declarations ds ++ ys)) fs))
    (append_assoc first (all_ended bs) (ended ds ∷ [])
    ∙ append_assoc done (all_ended (each_declaration_blocks ds)) (all_ended bs ++ (ended ds ∷ []))
    ∙ ap (λ all. done ++ (all_ended (each_declaration_blocks ds) ++ all)) (sym (ended_joined bs (ds ∷ [])))
    ∙ ap (λ all. done ++ all) (sym (ended_joined (each_declaration_blocks ds) (bs ++ (ds ∷ [])))))

-- ---- patterns and operators

mutual
  quiet_matches : (p : Pattern) → IsSilent (matches p)
  quiet_matches (named x) fs done = refl
  quiet_matches (named_as x p) fs done = quiet_matches p fs done
  quiet_matches (anything a) fs done = refl
  quiet_matches (built c ps) fs done = quiet_each_matches ps fs done
  quiet_matches (literal_pattern a l) fs done = refl
  quiet_matches (negative_pattern a b n) fs done = refl
  quiet_matches (unit_pattern a) fs done = refl
  quiet_matches (nil_pattern a) fs done = refl
  quiet_matches (pattern_in_parentheses a p) fs done = quiet_matches p fs done
  quiet_matches (tuple_pattern a ps) fs done = quiet_each_matches ps fs done
  quiet_matches (list_pattern a ps) fs done = quiet_each_matches ps fs done
  quiet_matches (cons_pattern p colons ps) fs done = run_joined (matches p) (each_matches ps) (going fs done) ∙ ap (run (each_matches ps)) (quiet_matches p fs done) ∙ quiet_each_matches ps fs done

  quiet_each_matches : (ps : Patterns) → IsSilent (each_matches ps)
  quiet_each_matches no_pattern fs done = refl
  quiet_each_matches (pattern p ps) fs done = run_joined (matches p) (each_matches ps) (going fs done) ∙ ap (run (each_matches ps)) (quiet_matches p fs done) ∙ quiet_each_matches ps fs done

one_use : (y : Name) → Does (used y ∷ []) (y ∷ []) []
one_use y fs done = ap (going (use_name y fs)) (sym (append-nil done))

ran_operator : (o : Op) → Does (operator_events o) (operator_name o) []
ran_operator (op.Var x) = one_use _
ran_operator (op.Cons a) = nothing
ran_operator (op.Con a c b) = λ fs done. nothing fs done

-- ---- qualifiers, whose head comes behind them

abbrev Heads : Qualifiers → Type 0
Heads qs = (a : At) (inner : List Event) (ys : List Name) (bs : List Declarations) → Does inner ys bs → Does (openings a qs ++ (inner ++ closings qs)) (free_behind qs ys) (blocks_behind qs bs)

same_events : (es es' : List Event) (ys : List Name) (bs : List Declarations) → es ≡ es' → Does es' ys bs → Does es ys bs
same_events es es' ys bs e h fs done = ap (λ all. run all (going fs done)) e ∙ h fs done

headed_none : Heads no_qualifier
headed_none a inner ys bs h = same_events (inner ++ []) inner ys bs (append-nil inner) h

regroup_generator : (a : At) (us : List Event) (xs : List Event) (ms os is cs : List Event) → ((generated a ∷ (us ++ (opened ∷ (xs ++ ms)))) ++ os) ++ (is ++ (cs ++ (closed ∷ []))) ≡ generated a ∷ (us ++ (opened ∷ (xs ++ (ms ++ ((os ++ (is ++ cs)) ++ (closed ∷ []))))))
regroup_generator a us xs ms os is cs = simp append_assoc

regroup_condition : (us os is cs : List Event) → (us ++ os) ++ (is ++ (cs ++ [])) ≡ us ++ (os ++ (is ++ cs))
regroup_condition us os is cs = simp (append_assoc, append-nil)

regroup_let : (ds : Declarations) (us os is cs : List Event) → ((block ds ∷ (us ++ (body ∷ []))) ++ os) ++ (is ++ (cs ++ (closed ∷ []))) ≡ block ds ∷ (us ++ (body ∷ ((os ++ (is ++ cs)) ++ (closed ∷ []))))
regroup_let ds us os is cs = simp append_assoc

headed_generator : (p : Pattern) (e : Expression) (qs : Qualifiers) → Does (expression_events e) (free_expression e) (expression_blocks e) → Heads qs → Heads (qualifier (generator p e) qs)
headed_generator p e qs h g a inner ys bs k =
    let rest = openings a qs ++ (inner ++ closings qs) in
    let under_pattern = grouped (variables p) (free_behind qs ys) (matches p) rest (blocks_behind qs bs) (quiet_matches p) (g a inner ys bs k) in
    same_events _ _ (free_behind (qualifier (generator p e) qs) ys) (blocks_behind (qualifier (generator p e) qs) bs)
    (regroup_generator a (expression_events e) (each_introduced (variables p)) (matches p) (openings a qs) inner (closings qs))
    (λ fs done. and_then (expression_events e) (opened ∷ (each_introduced (variables p) ++ (matches p ++ (rest ++ (closed ∷ []))))) (free_expression e) (without (variables p) (free_behind qs ys)) (expression_blocks e) (blocks_behind qs bs) h under_pattern fs done)

headed_condition : (e : Expression) (qs : Qualifiers) → Does (expression_events e) (free_expression e) (expression_blocks e) → Heads qs → Heads (qualifier (condition e) qs)
headed_condition e qs h g a inner ys bs k =
    let rest = openings a qs ++ (inner ++ closings qs) in
    same_events _ _ (free_behind (qualifier (condition e) qs) ys) (blocks_behind (qualifier (condition e) qs) bs)
    (regroup_condition (expression_events e) (openings a qs) inner (closings qs))
    (and_then (expression_events e) rest (free_expression e) (free_behind qs ys) (expression_blocks e) (blocks_behind qs bs) h (g a inner ys bs k))

headed_let : (b : At) (ds : Declarations) (qs : Qualifiers) → Declare ds → Heads qs → Heads (qualifier (let_qualifier b ds) qs)
headed_let b ds qs h g a inner ys bs k =
    let rest = openings a qs ++ (inner ++ closings qs) in
    same_events _ _ (free_behind (qualifier (let_qualifier b ds) qs) ys) (blocks_behind (qualifier (let_qualifier b ds) qs) bs)
    (regroup_let ds (each_declaration_events ds) (openings a qs) inner (closings qs))
    (blocked ds (free_behind qs ys) rest (blocks_behind qs bs) h (g a inner ys bs k))

-- ---- expressions and declarations

mutual
  ran_expression : (e : Expression) → Does (expression_events e) (free_expression e) (expression_blocks e)
  ran_expression (chain ls g a) = and_then (link_events ls) (operand_events a) (free_links ls) (free_operand a) (link_blocks ls) (operand_blocks a) (ran_links ls) (ran_operand a)

  ran_links : (ls : Links) → Does (link_events ls) (free_links ls) (link_blocks ls)
  ran_links no_link = nothing
  ran_links (link g a o ls) =
      and_then (operand_events a) (operator_events o ++ link_events ls) (free_operand a) (operator_name o ++ free_links ls) (operand_blocks a) (link_blocks ls) (ran_operand a)
      (and_then (operator_events o) (link_events ls) (operator_name o) (free_links ls) [] (link_blocks ls) (ran_operator o) (ran_links ls))

  ran_operand : (a : Operand) → Does (operand_events a) (free_operand a) (operand_blocks a)
  ran_operand (variable x) = one_use _
  ran_operand (constructor c) = λ fs done. nothing fs done
  ran_operand (literal a l) = nothing
  ran_operand (unit a) = nothing
  ran_operand (nil a) = nothing
  ran_operand (cons a b) = nothing
  ran_operand (in_parentheses a e) = ran_expression e
  ran_operand (tuple a es) = ran_expressions es
  ran_operand (list a es) = ran_expressions es
  ran_operand (range a e f) = λ fs done. and_then (expression_events e) (expression_events f) (free_expression e) (free_expression f) (expression_blocks e) (expression_blocks f) (ran_expression e) (ran_expression f) fs done
  ran_operand (comprehension a e qs) = ran_qualifiers qs a (expression_events e) (free_expression e) (expression_blocks e) (ran_expression e)
  ran_operand (left_section a e o) = and_names (expression_events e) (operator_events o) (free_expression e) (operator_name o) (expression_blocks e) (ran_expression e) (ran_operator o)
  ran_operand (right_section a o e) = and_then (operator_events o) (expression_events e) (operator_name o) (free_expression e) [] (expression_blocks e) (ran_operator o) (ran_expression e)
  ran_operand (applied f as') = and_then (operand_events f) (each_operand_events as') (free_operand f) (free_operands as') (operand_blocks f) (each_operand_blocks as') (ran_operand f) (ran_operands as')
  ran_operand (lambda a ps e) = grouped (all_variables ps) (free_expression e) (each_matches ps) (expression_events e) (expression_blocks e) (quiet_each_matches ps) (ran_expression e)
  ran_operand (let_in a ds e) = blocked ds (free_expression e) (expression_events e) (expression_blocks e) (ran_declarations ds) (ran_expression e)
  ran_operand (if_else a e f g) =
      and_then (expression_events e) (expression_events f ++ expression_events g) (free_expression e) (free_expression f ++ free_expression g) (expression_blocks e) (expression_blocks f ++ expression_blocks g) (ran_expression e)
      (and_then (expression_events f) (expression_events g) (free_expression f) (free_expression g) (expression_blocks f) (expression_blocks g) (ran_expression f) (ran_expression g))
  ran_operand (case_of a e bs) = and_then (expression_events e) (each_alternative_events bs) (free_expression e) (free_alternatives bs) (expression_blocks e) (each_alternative_blocks bs) (ran_expression e) (ran_alternatives bs)

  ran_operands : (as' : Operands) → Does (each_operand_events as') (free_operands as') (each_operand_blocks as')
  ran_operands no_operand = nothing
  ran_operands (operand a as') = and_then (operand_events a) (each_operand_events as') (free_operand a) (free_operands as') (operand_blocks a) (each_operand_blocks as') (ran_operand a) (ran_operands as')

  ran_expressions : (es : Expressions) → Does (each_expression_events es) (free_expressions es) (each_expression_blocks es)
  ran_expressions no_expression = nothing
  ran_expressions (expression e es) = and_then (expression_events e) (each_expression_events es) (free_expression e) (free_expressions es) (expression_blocks e) (each_expression_blocks es) (ran_expression e) (ran_expressions es)

  ran_qualifiers : (qs : Qualifiers) → Heads qs
  ran_qualifiers no_qualifier = headed_none
  ran_qualifiers (qualifier (generator p e) qs) = headed_generator p e qs (ran_expression e) (ran_qualifiers qs)
  ran_qualifiers (qualifier (condition e) qs) = headed_condition e qs (ran_expression e) (ran_qualifiers qs)
  ran_qualifiers (qualifier (let_qualifier b ds) qs) = headed_let b ds qs (ran_declarations ds) (ran_qualifiers qs)

  ran_alternative : (b : Alternative) → Does (alternative_events b) (free_alternative b) (alternative_blocks b)
  ran_alternative blank = nothing
  ran_alternative (alternative p r) = grouped (variables p) (free_right_side r) (matches p) (right_side_events r) (right_side_blocks r) (quiet_matches p) (ran_right_side r)

  ran_alternatives : (bs : Alternatives) → Does (each_alternative_events bs) (free_alternatives bs) (each_alternative_blocks bs)
  ran_alternatives no_alternative = nothing
  ran_alternatives (next_alternative b bs) = and_then (alternative_events b) (each_alternative_events bs) (free_alternative b) (free_alternatives bs) (alternative_blocks b) (each_alternative_blocks bs) (ran_alternative b) (ran_alternatives bs)

  ran_right_side : (r : RightSide) → Does (right_side_events r) (free_right_side r) (right_side_blocks r)
  ran_right_side (plain e ds) = blocked ds (free_expression e) (expression_events e) (expression_blocks e) (ran_declarations ds) (ran_expression e)
  ran_right_side (guarded a gs ds) = blocked ds (free_guards gs) (guard_events gs) (guard_blocks gs) (ran_declarations ds) (ran_guards gs)

  ran_guards : (gs : Guards) → Does (guard_events gs) (free_guards gs) (guard_blocks gs)
  ran_guards no_guard = nothing
  ran_guards (guard e f gs) =
      and_then (expression_events e) (expression_events f ++ guard_events gs) (free_expression e) (free_expression f ++ free_guards gs) (expression_blocks e) (expression_blocks f ++ guard_blocks gs) (ran_expression e)
      (and_then (expression_events f) (guard_events gs) (free_expression f) (free_guards gs) (expression_blocks f) (guard_blocks gs) (ran_expression f) (ran_guards gs))

  ran_declaration : (d : Declaration) → Does (declaration_events d) (free_declaration d) (declaration_blocks d)
  ran_declaration empty = nothing
  ran_declaration (signature xs t) = nothing
  ran_declaration (equation at x ps r) = grouped (all_variables ps) (free_right_side r) (each_matches ps) (right_side_events r) (right_side_blocks r) (quiet_each_matches ps) (ran_right_side r)
  ran_declaration (binding p r) = and_then (matches p) (right_side_events r) [] (free_right_side r) [] (right_side_blocks r) (silent (matches p) (quiet_matches p)) (ran_right_side r)

  ran_declarations : (ds : Declarations) → Declare ds
  ran_declarations no_declaration = declared_none
  ran_declarations (declaration d ds) = declared_more d ds (ran_declaration d) (ran_declarations ds)

-- ---- the top

used_nowhere : (ys : List Name) → use_all ys [] ≡ []
used_nowhere [] = refl
used_nowhere (y ∷ ys) = used_nowhere ys

pub ran_tops : (ts : List Top) (done : List Ended) → run_tops ts (going [] done) ≡ going [] (done ++ all_ended (text_blocks ts))
ran_tops [] done = ap (going []) (sym (append-nil done))
ran_tops (top.Empty ∷ ts) done = ran_tops ts done
ran_tops (top.Data d ∷ ts) done = ran_tops ts done
ran_tops (top.Synonym s ∷ ts) done = ran_tops ts done
ran_tops (top.Fixity f ∷ ts) done = ran_tops ts done
ran_tops (top.Signature x xs a t ∷ ts) done = ran_tops ts done
ran_tops (top.Equation h r ∷ ts) done =
    let xs = all_variables (head_patterns h) in
    let ys = free_right_side (rhs_of r) in
    let bs = right_side_blocks (rhs_of r) in
    ap (run_tops ts)
    (grouped xs ys (each_matches (head_patterns h)) (right_side_events (rhs_of r)) bs (quiet_each_matches (head_patterns h)) (ran_right_side (rhs_of r)) [] done
    ∙ ap (λ fs. going fs (done ++ all_ended bs)) (used_nowhere (without xs ys)))
    ∙ ran_tops ts (done ++ all_ended bs)
    ∙ ap (going []) (append_assoc done (all_ended bs) (all_ended (text_blocks ts)) ∙ ap (λ all. done ++ all) (sym (ended_joined bs (text_blocks ts))))
