-- Where a chain or section is at fault, and which is the first.
use Rattle.std.proofs.Common.{◌≡◌, ◌⊎◌, inl, inr, ℕ, zero, suc, ◌-◌, ◌<◌, ◌≤◌, ◌==◌, nat_lt, ◌||◌, ◌&&◌, List, [], ◌∷◌, ◌++◌, length, refl, sym, ap, ◌∙◌, subst, arith, append_assoc, length-append, Bool, true, false, Option, Some, None, Result, Ok, Err, if◌then◌else◌}
use Rattle.std.specs.List.{slice_get}
use Rattle.std.proofs.lemmas.Bool.{cases_lt, cases_order, eqb-true, eq-eqb, ltb-true, ltb-false}
use Rattle.hdc_base.specs.declared.place.At.{At}
use Rattle.hdc_written.specs.Breaches.{IsBefore}
use Rattle.hdc_names.specs.declared.chain.NextOperand.{NextOperand}
use Rattle.hdc_names.specs.declared.chain.Progress.{Progress}
use Rattle.hdc_names.specs.declared.chain.Step.{Step}
use Rattle.hdc_names.specs.declared.chain.Step.TheVariants as step
use Rattle.hdc_names.specs.OperatorTrees.{leaf, binary, negated}
use Rattle.hdc_names.specs.Chain.{Tree, IsTreeOf, IsBuilt, HasNoTree, steps_of, pieces, start, rest_read, read, read_out}
use Rattle.hdc_names.specs.Sites.{Site, whole, rooted, node}
use Rattle.hdc_names.specs.Trees.{IsRoot, HasTree, IsAtFault, IsOneOf, EachHasTree, FirstFault, place_in, place_of, is_operator, ends_with, whole_fault, root_fault, fault_of, is_before, noted, deep_of, all_noted, too_deep, NoneTooDeep, FirstTooDeep}
use Rattle.hdc_names.proofs.Grouping.{one_tree}
use Rattle.hdc_names.proofs.Building.{Answered, started, no_tree}

-- ---- what reading says of a chain

abbrev pub Told : Bool → List NextOperand → Result (List Step) ℕ → Type 0
Told s rest (Ok steps) = IsBuilt s rest steps
Told s rest (Err k) = HasNoTree s rest k

told_out : (s : Bool) (rest : List NextOperand) (r : Result Progress ℕ) → Answered s rest r → Told s rest (read_out r)
told_out s rest (Ok p) h = h
told_out s rest (Err k) h = h

pub told : (s : Bool) (rest : List NextOperand) → Told s rest (read s rest)
told s rest = told_out s rest (rest_read 1 rest (start s)) (started s rest)

-- a chain that has no tree up to an operand has none
pub no_tree_of : (s : Bool) (rest : List NextOperand) (k : ℕ) → HasNoTree s rest k → (t : Tree) → IsTreeOf s rest t → ⊥
no_tree_of s rest k h t g = no_tree s rest k h t g

-- one operand alone has a tree
one_has : (s : Bool) → (t : Tree) × IsTreeOf s [] t
one_has true = let h = started true [] in (h.tree, h.tree_of)
one_has false = let h = started false [] in (h.tree, h.tree_of)

none_first : (s : Bool) (rest : List NextOperand) → HasNoTree s rest 0 → ⊥
none_first s rest h = let one = one_has s in h.none one.0 one.1

one_number : (s : Bool) (rest : List NextOperand) (j k : ℕ) → HasNoTree s rest j → HasNoTree s rest k → j ≡ k
one_number s rest j k g h = by (cases_order j k)
  where
    by : (j ≡ k) ⊎ ((j < k) ⊎ (k < j)) → j ≡ k
    by (inl e) = e
    by (inr (inl lt)) = let t = h.before j lt in absurd (g.none t.0 t.1)
    by (inr (inr lt)) = let t = g.before k lt in absurd (h.none t.0 t.1)

has_place : (rest : List NextOperand) (k : ℕ) → suc k ≤ length rest → place_in (slice_get rest k) ≡ None → ⊥
has_place [] k within e = omega (arith, within)
has_place (n ∷ ns) zero within e = cc
has_place (n ∷ ns) (suc k) within e = has_place ns k (omega (arith, within)) e

-- ---- a whole chain

whole_is_fault : (s : Bool) (rest : List NextOperand) (r : Result (List Step) ℕ) (at : At) → Told s rest r → whole_fault rest r ≡ Some at → IsAtFault (whole s rest) at
whole_is_fault s rest (Ok steps) at h e = absurd cc
whole_is_fault s rest (Err k) at h e = (k, h, e)

whole_has_tree : (s : Bool) (rest : List NextOperand) (r : Result (List Step) ℕ) → Told s rest r → whole_fault rest r ≡ None → HasTree (whole s rest)
whole_has_tree s rest (Ok steps) h e = (h.tree, h.tree_of)
whole_has_tree s rest (Err zero) h e = absurd (none_first s rest h)
whole_has_tree s rest (Err (suc k)) h e = absurd (has_place rest k h.within e)

whole_only : (s : Bool) (rest : List NextOperand) (r : Result (List Step) ℕ) (at : At) → Told s rest r → IsAtFault (whole s rest) at → whole_fault rest r ≡ Some at
whole_only s rest (Ok steps) at h f = absurd (no_tree s rest f.0 f.1 h.tree h.tree_of)
whole_only s rest (Err j) at h f = ap (λ i. place_of i rest) (one_number s rest j f.0 h f.1) ∙ f.2

-- ---- the root of the tree that steps build

last_is : {X : Type 0} (xs : List X) (y : X) → slice_get (xs ++ (y ∷ [])) (length (xs ++ (y ∷ [])) - 1) ≡ Some y
last_is [] y = refl
last_is (x ∷ xs) y =
    let size = length-append xs (y ∷ []) in
    let one : length ((x ∷ xs) ++ (y ∷ [])) - 1 ≡ suc (length (xs ++ (y ∷ [])) - 1) = omega (arith, size) in
    ap (slice_get ((x ∷ xs) ++ (y ∷ []))) one ∙ last_is xs y

abbrev is_root : ℕ → Tree → Bool
is_root k (leaf a) = false
is_root k (binary l o r) = o.number == k
is_root k (negated m e) = false

ends : (k : ℕ) (t : Tree) → ends_with k (steps_of t) ≡ is_root k t
ends k (leaf a) = refl
ends k (binary l o r) =
    ap (ends_with k) (sym (append_assoc (steps_of l) (steps_of r) (step.Operator o.number ∷ [])))
    ∙ ap (is_operator k) (last_is (steps_of l ++ steps_of r) (step.Operator o.number))
ends k (negated m e) = ap (is_operator k) (last_is (steps_of e) (step.Sign m))

root_from : (k : ℕ) (t : Tree) → is_root k t ≡ true → IsRoot k t
root_from k (leaf a) e = cc
root_from k (binary l o r) e = eqb-true o.number k e
root_from k (negated m b) e = cc

is_root_of : (k : ℕ) (t : Tree) → IsRoot k t → is_root k t ≡ true
is_root_of k (leaf a) h = absurd h
is_root_of k (binary l o r) h = eq-eqb o.number k h
is_root_of k (negated m e) h = absurd h

-- ---- a section

section_has_tree : (s : Bool) (rest : List NextOperand) (k : ℕ) (p : At) (r : Result (List Step) ℕ) → Told s rest r → root_fault k p r ≡ None → HasTree (rooted s rest k p)
section_has_tree s rest k p (Err j) h e = absurd cc
section_has_tree s rest k p (Ok steps) h e = (h.tree, h.tree_of, root_from k h.tree (sym (ends k h.tree) ∙ ap (ends_with k) (sym h.built) ∙ ended (ends_with k steps) e))
  where
    ended : (b : Bool) → (if b then None else Some p) ≡ None → b ≡ true
    ended true e = refl
    ended false e = absurd cc

section_is_fault : (s : Bool) (rest : List NextOperand) (k : ℕ) (p at : At) (r : Result (List Step) ℕ) → Told s rest r → root_fault k p r ≡ Some at → IsAtFault (rooted s rest k p) at
section_is_fault s rest k p at (Err j) h e = (λ t g root. no_tree s rest j h t g, here e)
  where
    here : Some p ≡ Some at → at ≡ p
    here e = cc
section_is_fault s rest k p at (Ok steps) h e = by (ends_with k steps) refl e
  where
    by : (b : Bool) → ends_with k steps ≡ b → (if b then None else Some p) ≡ Some at → IsAtFault (rooted s rest k p) at
    by true is e = absurd cc
    by false is e = (
      λ t g root.
          let same = one_tree (λ o. o.fixity) (pieces s rest) t h.tree g h.tree_of in
          let yes = ap (ends_with k) h.built ∙ ends k h.tree ∙ ap (is_root k) (sym same) ∙ is_root_of k t root in
          let clash : false ≡ true = sym is ∙ yes in
          absurd cc,
      cc,
    )

section_only : (s : Bool) (rest : List NextOperand) (k : ℕ) (p at : At) (r : Result (List Step) ℕ) → Told s rest r → IsAtFault (rooted s rest k p) at → root_fault k p r ≡ Some at
section_only s rest k p at (Err j) h f = ap Some (sym f.1)
section_only s rest k p at (Ok steps) h f = by (ends_with k steps) refl
  where
    by : (b : Bool) → ends_with k steps ≡ b → (if b then None else Some p) ≡ Some at
    by true is = absurd (f.0 h.tree h.tree_of (root_from k h.tree (sym (ends k h.tree) ∙ ap (ends_with k) (sym h.built) ∙ is)))
    by false is = ap Some (sym f.1)

-- ---- one that has to have a tree

is_fault : (s : Site) (at : At) → fault_of s ≡ Some at → IsAtFault s at
is_fault (whole signed rest) at e = whole_is_fault signed rest (read signed rest) at (told signed rest) e
is_fault (node d p) at e = absurd cc
is_fault (rooted signed rest k p) at e = section_is_fault signed rest k p at (read signed rest) (told signed rest) e

has_tree : (s : Site) → fault_of s ≡ None → HasTree s
has_tree (whole signed rest) e = whole_has_tree signed rest (read signed rest) (told signed rest) e
has_tree (node d p) e = tt
has_tree (rooted signed rest k p) e = section_has_tree signed rest k p (read signed rest) (told signed rest) e

fault_only : (s : Site) (at : At) → IsAtFault s at → fault_of s ≡ Some at
fault_only (whole signed rest) at f = whole_only signed rest (read signed rest) at (told signed rest) f
fault_only (node d p) at f = absurd f
fault_only (rooted signed rest k p) at f = section_only signed rest k p at (read signed rest) (told signed rest) f

-- ---- the first of two places

or_either : (a b : Bool) → (a || b) ≡ true → (a ≡ true) ⊎ (b ≡ true)
or_either true b e = inl refl
or_either false b e = inr e

or_neither : (a b : Bool) → (a || b) ≡ false → (a ≡ false) × (b ≡ false)
or_neither true b e = absurd cc
or_neither false b e = (refl, e)

and_both : (a b : Bool) → (a && b) ≡ true → (a ≡ true) × (b ≡ true)
and_both true b e = (refl, e)
and_both false b e = absurd cc

and_second : (a b : Bool) → (a && b) ≡ false → a ≡ true → b ≡ false
and_second true b e h = e
and_second false b e h = absurd cc

before_yes : (p q : At) → is_before p q ≡ true → IsBefore p q
before_yes p q e = by (or_either (nat_lt p.line q.line) ((p.line == q.line) && nat_lt p.col q.col) e)
  where
    by : (nat_lt p.line q.line ≡ true) ⊎ (((p.line == q.line) && nat_lt p.col q.col) ≡ true) → IsBefore p q
    by (inl h) = inl (ltb-true p.line q.line h)
    by (inr h) = let both = and_both (p.line == q.line) (nat_lt p.col q.col) h in inr (eqb-true p.line q.line both.0, ltb-true p.col q.col both.1)

before_no : (p q : At) → is_before p q ≡ false → IsBefore p q → ⊥
before_no p q e (inl h) =
    let no = ltb-false p.line q.line (or_neither (nat_lt p.line q.line) ((p.line == q.line) && nat_lt p.col q.col) e).0 in
    omega (arith, no, h)
before_no p q e (inr h) =
    let no = ltb-false p.col q.col (and_second (p.line == q.line) (nat_lt p.col q.col) (or_neither (nat_lt p.line q.line) ((p.line == q.line) && nat_lt p.col q.col) e).1 (eq-eqb p.line q.line h.0)) in
    let lt = h.1 in
    omega (arith, no, lt)

never_before : (p : At) → IsBefore p p → ⊥
never_before p (inl h) = omega (arith, h)
never_before p (inr h) = let lt = h.1 in omega (arith, lt)

not_both_before : (p q : At) → IsBefore p q → IsBefore q p → ⊥
not_both_before p q (inl g) (inl h) = omega (arith, g, h)
not_both_before p q (inl g) (inr h) = let e = h.0 in omega (arith, g, e)
not_both_before p q (inr g) (inl h) = let e = g.0 in omega (arith, h, e)
not_both_before p q (inr g) (inr h) = let lt = g.1 in let more = h.1 in omega (arith, lt, more)

-- what is not before the middle one, which is not before the last, is not before the last
after_both : (p m q : At) → (IsBefore p m → ⊥) → (IsBefore m q → ⊥) → IsBefore p q → ⊥
after_both p m q g h (inl lt) = by (cases_lt p.line m.line)
  where
    by : (p.line < m.line) ⊎ (m.line ≤ p.line) → ⊥
    by (inl more) = g (inl more)
    by (inr le) = h (inl (omega (arith, le, lt)))
after_both p m q g h (inr b) = by (cases_order p.line m.line) (cases_order p.col m.col)
  where
    by : (p.line ≡ m.line) ⊎ ((p.line < m.line) ⊎ (m.line < p.line)) → (p.col ≡ m.col) ⊎ ((p.col < m.col) ⊎ (m.col < p.col)) → ⊥
    by (inl e) (inl c) = let lt = b.1 in h (inr (sym e ∙ b.0, omega (arith, c, lt)))
    by (inl e) (inr (inl c)) = g (inr (e, c))
    by (inl e) (inr (inr c)) = let lt = b.1 in h (inr (sym e ∙ b.0, omega (arith, c, lt)))
    by (inr (inl lt)) c = g (inl lt)
    by (inr (inr lt)) c = let e = b.0 in h (inl (omega (arith, e, lt)))

noted_from : (f x : Option At) (at : At) → noted f x ≡ Some at → (f ≡ Some at) ⊎ (x ≡ Some at)
noted_from f None at e = inl e
noted_from None (Some p) at e = inr e
noted_from (Some q) (Some p) at e = by (is_before p q) e
  where
    by : (b : Bool) → (if b then Some p else Some q) ≡ Some at → (Some q ≡ Some at) ⊎ (Some p ≡ Some at)
    by true e = inr e
    by false e = inl e

noted_none : (f x : Option At) → noted f x ≡ None → (f ≡ None) × (x ≡ None)
noted_none f None e = (e, refl)
noted_none None (Some p) e = absurd cc
noted_none (Some q) (Some p) e = by (is_before p q) e
  where
    by : (b : Bool) → (if b then Some p else Some q) ≡ None → (Some q ≡ None) × (Some p ≡ None)
    by true e = absurd cc
    by false e = absurd cc

-- neither of two is before the one that is noted
noted_least : (f x : Option At) (p : At) → (f ≡ Some p) ⊎ (x ≡ Some p) → (m : At) × (noted f x ≡ Some m) × (IsBefore p m → ⊥)
noted_least f None p (inl e) = (p, e, never_before p)
noted_least f None p (inr e) = absurd cc
noted_least None (Some a) p (inl e) = absurd cc
noted_least None (Some a) p (inr e) = (p, e, never_before p)
noted_least (Some b) (Some a) p h = by (is_before a b) refl h
  where
    by : (t : Bool) → is_before a b ≡ t → (Some b ≡ Some p) ⊎ (Some a ≡ Some p) → (m : At) × ((if t then Some a else Some b) ≡ Some m) × (IsBefore p m → ⊥)
    by true is (inl e) = let same : b ≡ p = cc in (a, refl, λ h. not_both_before p a h (subst (λ z. IsBefore a z) same (before_yes a b is)))
    by true is (inr e) = let same : a ≡ p = cc in (a, refl, λ h. never_before a (subst (λ z. IsBefore z a) (sym same) h))
    by false is (inl e) = let same : b ≡ p = cc in (b, refl, λ h. never_before b (subst (λ z. IsBefore z b) (sym same) h))
    by false is (inr e) = let same : a ≡ p = cc in (b, refl, λ h. before_no a b is (subst (λ z. IsBefore z b) (sym same) h))

-- ---- the first of all

same_place : (f : Option At) (p q : At) → f ≡ Some p → f ≡ Some q → p ≡ q
same_place f p q g h = some (sym g ∙ h)
  where
    some : Some p ≡ Some q → p ≡ q
    some e = cc

module _ (what : Site → Option At) where
  abbrev Faults : Option At → List Site → At → Type 0
  Faults f ss p = (f ≡ Some p) ⊎ ((s : Site) × IsOneOf s ss × (what s ≡ Some p))

  record Least (f : Option At) (ss : List Site) (at : At) : Type 0 where
    origin : Faults f ss at
    least : (p : At) → Faults f ss p → IsBefore p at → ⊥

  least_more : (x : Site) (ss : List Site) (f : Option At) (at : At) → Least (noted f (what x)) ss at → Least f (x ∷ ss) at
  least_more x ss f at again = record { origin = from again.origin; least = among }
    where
      first_from : (f ≡ Some at) ⊎ (what x ≡ Some at) → Faults f (x ∷ ss) at
      first_from (inl h) = inl h
      first_from (inr h) = inr (x, inl refl, h)

      from : Faults (noted f (what x)) ss at → Faults f (x ∷ ss) at
      from (inl h) = first_from (noted_from f (what x) at h)
      from (inr h) = inr (h.0, inr h.1, h.2)

      noted_among : (p : At) → (f ≡ Some p) ⊎ (what x ≡ Some p) → IsBefore p at → ⊥
      noted_among p h b = let m = noted_least f (what x) p h in after_both p m.0 at m.2 (again.least m.0 (inl m.1)) b

      site_among : (p : At) (s : Site) → IsOneOf s (x ∷ ss) → what s ≡ Some p → IsBefore p at → ⊥
      site_among p s (inl same) h b = noted_among p (inr (ap what (sym same) ∙ h)) b
      site_among p s (inr one) h b = again.least p (inr (s, one, h)) b

      among : (p : At) → Faults f (x ∷ ss) p → IsBefore p at → ⊥
      among p (inl h) b = noted_among p (inl h) b
      among p (inr h) b = site_among p h.0 h.1 h.2 b

  least_none : (f : Option At) (at p : At) → f ≡ Some at → Faults f [] p → IsBefore p at → ⊥
  least_none f at p e (inl h) b = never_before at (subst (λ z. IsBefore z at) (same_place f p at h e) b)
  least_none f at p e (inr h) b = absurd h.1

  least_of : (ss : List Site) (f : Option At) (at : At) → all_noted what f ss ≡ Some at → Least f ss at
  least_of [] f at e = record { origin = inl e; least = λ p h b. least_none f at p e h b }
  least_of (x ∷ ss) f at e = least_more x ss f at (least_of ss (noted f (what x)) at e)

  abbrev NoneLeft : List Site → Option At → Type 0
  NoneLeft ss f = (f ≡ None) × ((s : Site) → IsOneOf s ss → what s ≡ None)

  none_more : (x : Site) (ss : List Site) (f : Option At) → NoneLeft ss (noted f (what x)) → NoneLeft (x ∷ ss) f
  none_more x ss f again = (both.0, each)
    where
      both : (f ≡ None) × (what x ≡ None)
      both = noted_none f (what x) again.0

      each : (s : Site) → IsOneOf s (x ∷ ss) → what s ≡ None
      each s (inl same) = ap what same ∙ both.1
      each s (inr one) = again.1 s one

  none_left : (ss : List Site) (f : Option At) → all_noted what f ss ≡ None → NoneLeft ss f
  none_left [] f e = (e, λ s one. absurd one)
  none_left (x ∷ ss) f e = none_more x ss f (none_left ss (noted f (what x)) e)

-- where nothing is noted, each has a tree
pub none_found : (ss : List Site) → all_noted fault_of None ss ≡ None → EachHasTree ss
none_found ss e s one = has_tree s ((none_left fault_of ss None e).1 s one)

-- what is noted is the first fault
pub first_found : (ss : List Site) (at : At) → all_noted fault_of None ss ≡ Some at → FirstFault ss at
first_found ss at e = by (least_of fault_of ss None at e).origin
  where
    least : (p : At) → Faults fault_of None ss p → IsBefore p at → ⊥
    least = (least_of fault_of ss None at e).least

    by : Faults fault_of None ss at → FirstFault ss at
    by (inl h) = absurd cc
    by (inr h) = record {
      site = h.0;
      one_of = h.1;
      at_fault = is_fault h.0 at h.2;
      first = λ s one p f b. least p (inr (s, one, fault_only s p f)) b;
    }

-- ---- nodes that are too deep

deep_node : (p : At) → deep_of (node too_deep p) ≡ Some p
deep_node p = refl

node_from : (s : Site) (at : At) → deep_of s ≡ Some at → s ≡ node too_deep at
node_from (whole signed rest) at e = absurd cc
node_from (rooted signed rest k p) at e = absurd cc
node_from (node d p) at e = by (d == too_deep) refl e
  where
    by : (b : Bool) → (d == too_deep) ≡ b → (if b then Some p else None) ≡ Some at → node d p ≡ node too_deep at
    by true is e = let same : p ≡ at = cc in ap (λ n. node n p) (eqb-true d too_deep is) ∙ ap (node too_deep) same
    by false is e = absurd cc

-- where nothing is noted, none is too deep
pub none_deep : (ss : List Site) → all_noted deep_of None ss ≡ None → NoneTooDeep ss
none_deep ss e p one = by (sym (deep_node p) ∙ (none_left deep_of ss None e).1 (node too_deep p) one)
  where
    by : Some p ≡ None → ⊥
    by e = cc

-- what is noted is the first that is too deep
pub first_deep : (ss : List Site) (at : At) → all_noted deep_of None ss ≡ Some at → FirstTooDeep ss at
first_deep ss at e = by (least_of deep_of ss None at e).origin
  where
    least : (p : At) → Faults deep_of None ss p → IsBefore p at → ⊥
    least = (least_of deep_of ss None at e).least

    by : Faults deep_of None ss at → FirstTooDeep ss at
    by (inl h) = absurd cc
    by (inr h) = record { one_of = subst (λ s. IsOneOf s ss) (node_from h.0 at h.2) h.1; first = λ p one b. least p (inr (node too_deep p, one, deep_node p)) b }

-- ---- one answer

one_of_two : (p q : At) → (IsBefore p q → ⊥) → (IsBefore q p → ⊥) → p ≡ q
one_of_two p q g h = by (cases_order p.line q.line) (cases_order p.col q.col)
  where
    by : (p.line ≡ q.line) ⊎ ((p.line < q.line) ⊎ (q.line < p.line)) → (p.col ≡ q.col) ⊎ ((p.col < q.col) ⊎ (q.col < p.col)) → p ≡ q
    by (inl e) (inl c) = ap (λ l. record { line = l; col = p.col }) e ∙ ap (λ i. record { line = q.line; col = i }) c
    by (inl e) (inr (inl c)) = absurd (g (inr (e, c)))
    by (inl e) (inr (inr c)) = absurd (h (inr (sym e, c)))
    by (inr (inl lt)) c = absurd (g (inl lt))
    by (inr (inr lt)) c = absurd (h (inl lt))

-- two first faults stand at one place
pub fault_once : (ss : List Site) (p q : At) → FirstFault ss p → FirstFault ss q → p ≡ q
fault_once ss p q g h = one_of_two p q (h.first g.site g.one_of p g.at_fault) (g.first h.site h.one_of q h.at_fault)

-- what has a tree is at fault nowhere
tree_or_fault : (s : Site) (at : At) → HasTree s → IsAtFault s at → ⊥
tree_or_fault (whole signed rest) at h f = no_tree signed rest f.0 f.1 h.0 h.1
tree_or_fault (node d p) at h f = absurd f
tree_or_fault (rooted signed rest k p) at h f = f.0 h.0 h.1 h.2

-- two first ones that are too deep stand at one place
pub deep_once : (ss : List Site) (p q : At) → FirstTooDeep ss p → FirstTooDeep ss q → p ≡ q
deep_once ss p q g h = one_of_two p q (h.first p g.one_of) (g.first q h.one_of)

pub fault_or_none : (ss : List Site) (p : At) → FirstFault ss p → EachHasTree ss → ⊥
fault_or_none ss p g h = tree_or_fault g.site p (h g.site g.one_of) g.at_fault
