-- The steps that the code writes build the tree of the chain.
use Rattle.std.proofs.Common.{◌≡◌, ◌⊎◌, inl, inr, ℕ, zero, suc, ◌+◌, ◌<◌, ◌≤◌, List, [], ◌∷◌, ◌++◌, length, take, drop, refl, sym, ap, ◌∙◌, subst, arith, append_assoc, append-nil, Bool, true, false, Option, Some, None, Result, Ok, Err}
use Rattle.std.specs.Option.{option_and_then}
use Rattle.hdc_names.specs.declared.fixity.Fixity.{Fixity}
use Rattle.hdc_names.specs.declared.fixity.Taker.{Taker}
use Rattle.hdc_names.specs.declared.fixity.Taker.TheVariants.{First, Second, Unclear}
use Rattle.hdc_names.specs.declared.chain.NextOperand.{NextOperand}
use Rattle.hdc_names.specs.declared.chain.Progress.{Progress}
use Rattle.hdc_names.specs.declared.chain.Step.{Step}
use Rattle.hdc_names.specs.declared.chain.Step.TheVariants as step
use Rattle.hdc_names.specs.declared.waiting.Waiting as code
use Rattle.hdc_names.specs.declared.waiting.Waiting.TheVariants as waiting
use Rattle.hdc_names.specs.OperatorTrees.{sign, operand, operator, leaf}
use Rattle.hdc_names.specs.Grouping.{taker, taken, Waiting, behind, signed, State, wants, has, closed, finish, fixity_of, left_of, behind_left, advance, read, tree_in}
use Rattle.hdc_names.specs.Chain as chain
use Rattle.hdc_names.specs.Chain.{Numbered, Piece, Tree, signed_operand, pieces_from, pieces, IsTreeOf, steps_of, step_of, start, left_taken, operand_behind, next_read, all_taken, read_or, rest_read, IsBuilt, HasNoTree}
use Rattle.hdc_names.proofs.Grouping.{grouped_sound, grouped_only}

abbrev binds : Numbered → Fixity
binds o = o.fixity

-- what waits, as the code has it
abbrev label : Waiting ℕ Numbered ℕ → code.Waiting
label (behind l o) = waiting.Operator o.number o.fixity
label (signed k) = waiting.Sign k

abbrev labels : List (Waiting ℕ Numbered ℕ) → List code.Waiting
labels [] = []
labels (w ∷ ws) = label w ∷ labels ws

-- the steps of what stands before
abbrev before : List (Waiting ℕ Numbered ℕ) → List Step
before [] = []
before (behind l o ∷ ws) = before ws ++ steps_of l
before (signed k ∷ ws) = before ws

abbrev shown : List (Waiting ℕ Numbered ℕ) → Tree → Progress
shown ws e = record { stack = labels ws; steps = before ws ++ steps_of e }

same_fixity : (w : Waiting ℕ Numbered ℕ) → chain.fixity_of (label w) ≡ fixity_of binds w
same_fixity (behind l o) = refl
same_fixity (signed k) = refl

step_closed : (w : Waiting ℕ Numbered ℕ) (ws : List (Waiting ℕ Numbered ℕ)) (e : Tree) → (before (w ∷ ws) ++ steps_of e) ++ (step_of (label w) ∷ []) ≡ before ws ++ steps_of (closed w e)
step_closed (behind l o) ws e =
    append_assoc (before ws ++ steps_of l) (steps_of e) (step.Operator o.number ∷ []) ∙ append_assoc (before ws) (steps_of l) (steps_of e ++ (step.Operator o.number ∷ []))
step_closed (signed k) ws e = append_assoc (before ws) (steps_of e) (step.Sign k ∷ [])

abbrev shown_left : Option (List (Waiting ℕ Numbered ℕ) × Tree) → Option Progress
shown_left None = None
shown_left (Some (ws, l)) = Some (shown ws l)

shown_taken : (t : Taker) (a b : Option (List (Waiting ℕ Numbered ℕ) × Tree)) → taken t (shown_left a) (shown_left b) ≡ shown_left (taken t a b)
shown_taken First a b = refl
shown_taken Second a b = refl
shown_taken Unclear a b = refl

left_shown : (ws : List (Waiting ℕ Numbered ℕ)) (e : Tree) (q : Fixity) → left_taken (labels ws) (before ws ++ steps_of e) q ≡ shown_left (left_of binds ws e q)
left_shown [] e q = refl
left_shown (w ∷ ws) e q =
    ap (λ f. taken (taker f q) (left_taken (labels ws) ((before (w ∷ ws) ++ steps_of e) ++ (step_of (label w) ∷ [])) q) (Some (shown (w ∷ ws) e))) (same_fixity w)
    ∙ ap (λ s. taken (taker (fixity_of binds w) q) (left_taken (labels ws) s q) (Some (shown (w ∷ ws) e))) (step_closed w ws e)
    ∙ ap (λ z. taken (taker (fixity_of binds w) q) z (Some (shown (w ∷ ws) e))) (left_shown ws (closed w e) q)
    ∙ shown_taken (taker (fixity_of binds w) q) (left_of binds ws (closed w e) q) (Some (w ∷ ws, e))

-- what is read up to an operand
abbrev shown_state : Option (State ℕ Numbered ℕ) → Option Progress
shown_state None = None
shown_state (Some (wants ws)) = None
shown_state (Some (has ws k)) = Some (shown ws (leaf k))

signed_shown : (t : Taker) (w : Waiting ℕ Numbered ℕ) (ws : List (Waiting ℕ Numbered ℕ)) (k : ℕ) → taken t None (Some (shown (signed k ∷ w ∷ ws) (leaf k))) ≡ shown_state (option_and_then (λ n. read binds n (operand k ∷ [])) (taken t None (Some (wants (signed k ∷ w ∷ ws)))))
signed_shown First w ws k = refl
signed_shown Second w ws k = refl
signed_shown Unclear w ws k = refl

-- what waits where an operand is wanted
abbrev wanted : List (Waiting ℕ Numbered ℕ) → Progress
wanted ws = record { stack = labels ws; steps = before ws }

operand_shown : (b : Bool) (f : Fixity) (k : ℕ) (l : Tree) (ws : List (Waiting ℕ Numbered ℕ)) → operand_behind b f k (wanted (behind l (record { number = k; fixity = f }) ∷ ws)) ≡ shown_state (read binds (wants (behind l (record { number = k; fixity = f }) ∷ ws)) (signed_operand b k))
operand_shown true f k l ws = signed_shown (taker f sign) (behind l (record { number = k; fixity = f })) ws k
operand_shown false f k l ws = refl

behind_shown : (n : NextOperand) (k : ℕ) (found : Option (List (Waiting ℕ Numbered ℕ) × Tree)) → option_and_then (λ q. operand_behind n.signed n.fixity k (record { stack = waiting.Operator k n.fixity ∷ q.stack; steps = q.steps })) (shown_left found) ≡ shown_state (option_and_then (λ s. read binds s (signed_operand n.signed k)) (behind_left binds (record { number = k; fixity = n.fixity }) found))
behind_shown n k None = refl
behind_shown n k (Some (ws, l)) = operand_shown n.signed n.fixity k l ws

-- the elements of an operator and its right operand
abbrev next_pieces : ℕ → NextOperand → List Piece
next_pieces k n = operator (record { number = k; fixity = n.fixity }) ∷ signed_operand n.signed k

next_shown : (n : NextOperand) (k a : ℕ) (ws : List (Waiting ℕ Numbered ℕ)) → next_read k n (shown ws (leaf a)) ≡ shown_state (read binds (has ws a) (next_pieces k n))
next_shown n k a ws =
    ap (option_and_then (λ q. operand_behind n.signed n.fixity k (record { stack = waiting.Operator k n.fixity ∷ q.stack; steps = q.steps }))) (left_shown ws (leaf a) n.fixity)
    ∙ behind_shown n k (left_of binds ws (leaf a) n.fixity)

finish_shown : (ws : List (Waiting ℕ Numbered ℕ)) (e : Tree) → all_taken (labels ws) (before ws ++ steps_of e) ≡ steps_of (finish ws e)
finish_shown [] e = refl
finish_shown (w ∷ ws) e = ap (all_taken (labels ws)) (step_closed w ws e) ∙ finish_shown ws (closed w e)

-- ---- the elements of one operand more

append_by : (next : Option (State ℕ Numbered ℕ)) (xs ys : List Piece) → ((m : State ℕ Numbered ℕ) → read binds m (xs ++ ys) ≡ option_and_then (λ n. read binds n ys) (read binds m xs)) → option_and_then (λ m. read binds m (xs ++ ys)) next ≡ option_and_then (λ n. read binds n ys) (option_and_then (λ m. read binds m xs) next)
append_by None xs ys h = refl
append_by (Some m) xs ys h = h m

read_append : (s : State ℕ Numbered ℕ) (xs ys : List Piece) → read binds s (xs ++ ys) ≡ option_and_then (λ n. read binds n ys) (read binds s xs)
read_append s [] ys = refl
read_append s (x ∷ xs) ys = append_by (advance binds s x) xs ys (λ m. read_append m xs ys)

from_snoc : (k : ℕ) (front : List NextOperand) (n : NextOperand) → pieces_from k (front ++ (n ∷ [])) ≡ pieces_from k front ++ next_pieces (k + length front) n
from_snoc k [] n =
    let at : k ≡ k + 0 = omega arith in
    ap (λ z. operator (record { number = k; fixity = n.fixity }) ∷ z) (append-nil (signed_operand n.signed k)) ∙ ap (λ z. next_pieces z n) at
from_snoc k (m ∷ ms) n =
    let at : suc k + length ms ≡ k + length (m ∷ ms) = omega arith in
    ap (λ z. operator (record { number = k; fixity = m.fixity }) ∷ (signed_operand m.signed k ++ z)) (from_snoc (suc k) ms n ∙ ap (λ z. pieces_from (suc k) ms ++ next_pieces z n) at)
    ∙ ap (λ z. operator (record { number = k; fixity = m.fixity }) ∷ z) (sym (append_assoc (signed_operand m.signed k) (pieces_from (suc k) ms) (next_pieces (k + length (m ∷ ms)) n)))

pieces_snoc : (s : Bool) (front : List NextOperand) (n : NextOperand) → pieces s (front ++ (n ∷ [])) ≡ pieces s front ++ next_pieces (suc (length front)) n
pieces_snoc s front n =
    let at : 1 + length front ≡ suc (length front) = omega arith in
    ap (λ z. signed_operand s 0 ++ z) (from_snoc 1 front n ∙ ap (λ m. pieces_from 1 front ++ next_pieces m n) at) ∙ sym (append_assoc (signed_operand s 0) (pieces_from 1 front) (next_pieces (suc (length front)) n))

-- ---- the chain is read up to an operand

abbrev Reached : Bool → List NextOperand → List (Waiting ℕ Numbered ℕ) → ℕ → Type 0
Reached s front ws a = read binds (wants []) (pieces s front) ≡ Some (has ws a)

reached_next : (s : Bool) (front : List NextOperand) (n : NextOperand) (ws : List (Waiting ℕ Numbered ℕ)) (a : ℕ) (r : Option (State ℕ Numbered ℕ)) → Reached s front ws a → read binds (has ws a) (next_pieces (suc (length front)) n) ≡ r → read binds (wants []) (pieces s (front ++ (n ∷ []))) ≡ r
reached_next s front n ws a r h e =
    ap (read binds (wants [])) (pieces_snoc s front n)
    ∙ read_append (wants []) (pieces s front) (next_pieces (suc (length front)) n)
    ∙ ap (option_and_then (λ m. read binds m (next_pieces (suc (length front)) n))) h
    ∙ e

reached_tree : (s : Bool) (front : List NextOperand) (ws : List (Waiting ℕ Numbered ℕ)) (a : ℕ) → Reached s front ws a → IsTreeOf s front (finish ws (leaf a))
reached_tree s front ws a h = grouped_sound binds (pieces s front) (finish ws (leaf a)) (ap tree_in h)

-- ---- the answer

-- each front up to this operand has a tree
abbrev HaveTrees : Bool → List NextOperand → ℕ → Type 0
HaveTrees s rest m = (j : ℕ) → j ≤ m → (t : Tree) × IsTreeOf s (take j rest) t

abbrev pub Answered : Bool → List NextOperand → Result Progress ℕ → Type 0
Answered s rest (Ok p) = IsBuilt s rest (all_taken p.stack p.steps)
Answered s rest (Err k) = HasNoTree s rest k

take_front : (front ns : List NextOperand) (n : NextOperand) → take (suc (length front)) (front ++ (n ∷ ns)) ≡ front ++ (n ∷ [])
take_front [] ns n = refl
take_front (m ∷ ms) ns n = ap (λ z. m ∷ z) (take_front ms ns n)

length_front : (front ns : List NextOperand) (n : NextOperand) → suc (length front) ≤ length (front ++ (n ∷ ns))
length_front [] ns n = omega arith
length_front (m ∷ ms) ns n = let h = length_front ms ns n in omega (arith, h)

length_snoc : (front : List NextOperand) (n : NextOperand) → length (front ++ (n ∷ [])) ≡ suc (length front)
length_snoc [] n = refl
length_snoc (m ∷ ms) n = ap suc (length_snoc ms n)

none_here : (s : Bool) (front ns : List NextOperand) (n : NextOperand) (r : Option (State ℕ Numbered ℕ)) → HaveTrees s (front ++ (n ∷ ns)) (length front) → read binds (wants []) (pieces s (front ++ (n ∷ []))) ≡ r → tree_in r ≡ None → HasNoTree s (front ++ (n ∷ ns)) (suc (length front))
none_here s front ns n r trees e none = record {
  within = length_front front ns n;
  none = λ t h.
      let only = grouped_only binds (pieces s (front ++ (n ∷ []))) t (subst (λ z. IsTreeOf s z t) (take_front front ns n) h) in
      let clash : None ≡ Some t = sym none ∙ sym (ap tree_in e) ∙ only in
      cc;
  before = λ j lt. trees j (omega (arith, lt));
}

more_trees : (s : Bool) (front ns : List NextOperand) (n : NextOperand) (t : Tree) → HaveTrees s (front ++ (n ∷ ns)) (length front) → IsTreeOf s (front ++ (n ∷ [])) t → HaveTrees s (front ++ (n ∷ ns)) (suc (length front))
more_trees s front ns n t trees h j le = by j (last_or j (suc (length front)) le)
  where
    last_or : (j m : ℕ) → j ≤ m → (j < m) ⊎ (j ≡ m)
    last_or zero zero le = inr refl
    last_or zero (suc m) le = inl (omega arith)
    last_or (suc j) zero le = absurd (omega arith)
    last_or (suc j) (suc m) le = up (last_or j m (omega (arith, le)))
      where
        up : (j < m) ⊎ (j ≡ m) → (suc j < suc m) ⊎ (suc j ≡ suc m)
        up (inl h) = inl (omega (arith, h))
        up (inr e) = inr (ap suc e)

    by : (j : ℕ) → (j < suc (length front)) ⊎ (j ≡ suc (length front)) → (t : Tree) × IsTreeOf s (take j (front ++ (n ∷ ns))) t
    by j (inl lt) = trees j (omega (arith, lt))
    by j (inr same) = (t, subst (λ z. IsTreeOf s z t) (sym (ap (λ i. take i (front ++ (n ∷ ns))) same ∙ take_front front ns n)) h)

answered_by : (s : Bool) (front ns : List NextOperand) (n : NextOperand) (r : Option (State ℕ Numbered ℕ)) → HaveTrees s (front ++ (n ∷ ns)) (length front) → read binds (wants []) (pieces s (front ++ (n ∷ []))) ≡ r → ((ws : List (Waiting ℕ Numbered ℕ)) (a : ℕ) → Reached s (front ++ (n ∷ [])) ws a → HaveTrees s ((front ++ (n ∷ [])) ++ ns) (length (front ++ (n ∷ []))) → Answered s ((front ++ (n ∷ [])) ++ ns) (rest_read (suc (length (front ++ (n ∷ [])))) ns (shown ws (leaf a)))) → Answered s (front ++ (n ∷ ns)) (read_or (suc (length front)) (λ q. rest_read (suc (suc (length front))) ns q) (shown_state r))
answered_by s front ns n None trees e again = none_here s front ns n None trees e refl
answered_by s front ns n (Some (wants ws)) trees e again = none_here s front ns n (Some (wants ws)) trees e refl
answered_by s front ns n (Some (has ws a)) trees e again =
    let all = append_assoc front (n ∷ []) ns in
    let size = length_snoc front n in
    let more = more_trees s front ns n (finish ws (leaf a)) trees (reached_tree s (front ++ (n ∷ [])) ws a e) in
    let got = again ws a e (subst (λ z. HaveTrees s z (length (front ++ (n ∷ [])))) (sym all) (subst (λ m. HaveTrees s (front ++ (n ∷ ns)) m) (sym size) more)) in
    subst (λ m. Answered s (front ++ (n ∷ ns)) (rest_read (suc m) ns (shown ws (leaf a)))) size (subst (λ z. Answered s z (rest_read (suc (length (front ++ (n ∷ [])))) ns (shown ws (leaf a)))) all got)

answered : (s : Bool) (ns front : List NextOperand) (ws : List (Waiting ℕ Numbered ℕ)) (a : ℕ) → Reached s front ws a → HaveTrees s (front ++ ns) (length front) → Answered s (front ++ ns) (rest_read (suc (length front)) ns (shown ws (leaf a)))
answered s [] front ws a h trees = record {
  tree = finish ws (leaf a);
  tree_of = subst (λ z. IsTreeOf s z (finish ws (leaf a))) (sym (append-nil front)) (reached_tree s front ws a h);
  built = finish_shown ws (leaf a);
}
answered s (n ∷ ns) front ws a h trees =
    subst (λ z. Answered s (front ++ (n ∷ ns)) (read_or (suc (length front)) (λ q. rest_read (suc (suc (length front))) ns q) z)) (sym (next_shown n (suc (length front)) a ws))
    (answered_by s front ns n (read binds (has ws a) (next_pieces (suc (length front)) n)) trees (reached_next s front n ws a (read binds (has ws a) (next_pieces (suc (length front)) n)) h refl) (λ ws a h trees. answered s ns (front ++ (n ∷ [])) ws a h trees))

first_tree : (s : Bool) (rest : List NextOperand) (t : Tree) → IsTreeOf s [] t → HaveTrees s rest 0
first_tree s rest t h zero le = (t, h)
first_tree s rest t h (suc j) le = absurd (omega arith)

-- what the code reads from the start
pub started : (s : Bool) (rest : List NextOperand) → Answered s rest (rest_read 1 rest (start s))
started true rest =
    let tree = reached_tree true [] (signed 0 ∷ []) 0 refl in
    answered true rest [] (signed 0 ∷ []) 0 refl (first_tree true rest (finish (signed 0 ∷ []) (leaf 0)) tree)
started false rest =
    let tree = reached_tree false [] [] 0 refl in
    answered false rest [] [] 0 refl (first_tree false rest (finish [] (leaf 0)) tree)

-- the operand of this number was not read
pub not_read_out : (s : Bool) (rest : List NextOperand) (i k : ℕ) (n : NextOperand) (ns : List NextOperand) (p : Progress) → rest_read 1 rest (start s) ≡ rest_read (suc i) (drop i rest) p → drop i rest ≡ n ∷ ns → k ≡ suc i → next_read k n p ≡ None → rest_read 1 rest (start s) ≡ Err k
not_read_out s rest i k n ns p all here at none =
    all ∙ ap (λ z. rest_read (suc i) z p) here ∙ ap (λ m. read_or m (λ q. rest_read (suc m) ns q) (next_read m n p)) (sym at) ∙ ap (read_or k (λ q. rest_read (suc k) ns q)) none

pub not_read : (s : Bool) (rest : List NextOperand) (k : ℕ) → rest_read 1 rest (start s) ≡ Err k → HasNoTree s rest k
not_read s rest k stops = subst (λ r. Answered s rest r) stops (started s rest)

-- all operands were read
pub all_read_out : (s : Bool) (rest : List NextOperand) (i : ℕ) (p : Progress) → rest_read 1 rest (start s) ≡ rest_read (suc i) (drop i rest) p → drop i rest ≡ [] → rest_read 1 rest (start s) ≡ Ok p
all_read_out s rest i p all end = all ∙ ap (λ z. rest_read (suc i) z p) end

pub all_read : (s : Bool) (rest : List NextOperand) (p : Progress) (steps : List Step) → rest_read 1 rest (start s) ≡ Ok p → steps ≡ all_taken p.stack p.steps → IsBuilt s rest steps
all_read s rest p steps ends written = subst (λ z. IsBuilt s rest z) (sym written) (subst (λ r. Answered s rest r) ends (started s rest))

-- ---- a chain has a tree up to each operand, where it has one

-- an operand was the last that was read
abbrev ReadOperand : Option (State ℕ Numbered ℕ) → Type 0
ReadOperand None = Unit {0}
ReadOperand (Some (wants ws)) = ⊥
ReadOperand (Some (has ws a)) = Unit {0}

sign_read : (t : Taker) (w : Waiting ℕ Numbered ℕ) (ws : List (Waiting ℕ Numbered ℕ)) (k : ℕ) → ReadOperand (option_and_then (λ n. read binds n (operand k ∷ [])) (taken t None (Some (wants (signed k ∷ w ∷ ws)))))
sign_read First w ws k = tt
sign_read Second w ws k = tt
sign_read Unclear w ws k = tt

operand_read : (b : Bool) (w : Waiting ℕ Numbered ℕ) (ws : List (Waiting ℕ Numbered ℕ)) (k : ℕ) → ReadOperand (read binds (wants (w ∷ ws)) (signed_operand b k))
operand_read true w ws k = sign_read (taker (fixity_of binds w) sign) w ws k
operand_read false w ws k = tt

behind_read : (n : NextOperand) (k : ℕ) (found : Option (List (Waiting ℕ Numbered ℕ) × Tree)) → ReadOperand (option_and_then (λ s. read binds s (signed_operand n.signed k)) (behind_left binds (record { number = k; fixity = n.fixity }) found))
behind_read n k None = tt
behind_read n k (Some (ws, l)) = operand_read n.signed (behind l (record { number = k; fixity = n.fixity })) ws k

next_by : (r : Option (State ℕ Numbered ℕ)) (xs : List Piece) → ReadOperand r → ((ws : List (Waiting ℕ Numbered ℕ)) (a : ℕ) → ReadOperand (read binds (has ws a) xs)) → ReadOperand (option_and_then (λ m. read binds m xs) r)
next_by None xs h again = tt
next_by (Some (wants ws)) xs h again = absurd h
next_by (Some (has ws a)) xs h again = again ws a

rest_operand : (ns : List NextOperand) (k : ℕ) (ws : List (Waiting ℕ Numbered ℕ)) (a : ℕ) → ReadOperand (read binds (has ws a) (pieces_from k ns))
rest_operand [] k ws a = tt
rest_operand (n ∷ ns) k ws a =
    subst ReadOperand (sym (read_append (has ws a) (next_pieces k n) (pieces_from (suc k) ns)))
    (next_by (read binds (has ws a) (next_pieces k n)) (pieces_from (suc k) ns) (behind_read n k (left_of binds ws (leaf a) n.fixity)) (λ ws a. rest_operand ns (suc k) ws a))

all_operand : (s : Bool) (ns : List NextOperand) → ReadOperand (read binds (wants []) (pieces s ns))
all_operand true ns = rest_operand ns 1 (signed 0 ∷ []) 0
all_operand false ns = rest_operand ns 1 [] 0

from_split : (k j : ℕ) (ns : List NextOperand) → pieces_from j ns ≡ pieces_from j (take k ns) ++ pieces_from (j + k) (drop k ns)
from_split zero j ns = ap (λ i. pieces_from i ns) (omega arith)
from_split (suc k) j [] = refl
from_split (suc k) j (n ∷ ns) =
    let at : suc j + k ≡ j + suc k = omega arith in
    ap (λ z. operator (record { number = j; fixity = n.fixity }) ∷ (signed_operand n.signed j ++ z)) (from_split k (suc j) ns ∙ ap (λ i. pieces_from (suc j) (take k ns) ++ pieces_from i (drop k ns)) at)
    ∙ ap (λ z. operator (record { number = j; fixity = n.fixity }) ∷ z) (sym (append_assoc (signed_operand n.signed j) (pieces_from (suc j) (take k ns)) (pieces_from (j + suc k) (drop k ns))))

split : (s : Bool) (k : ℕ) (ns : List NextOperand) → pieces s ns ≡ pieces s (take k ns) ++ pieces_from (1 + k) (drop k ns)
split s k ns = ap (λ z. signed_operand s 0 ++ z) (from_split k 1 ns) ∙ sym (append_assoc (signed_operand s 0) (pieces_from 1 (take k ns)) (pieces_from (1 + k) (drop k ns)))

front_by : (s : Bool) (front : List NextOperand) (r : Option (State ℕ Numbered ℕ)) (xs : List Piece) (t : Tree) → read binds (wants []) (pieces s front) ≡ r → ReadOperand r → tree_in (option_and_then (λ m. read binds m xs) r) ≡ Some t → (u : Tree) × IsTreeOf s front u
front_by s front None xs t e h whole = absurd cc
front_by s front (Some (wants ws)) xs t e h whole = absurd h
front_by s front (Some (has ws a)) xs t e h whole = (finish ws (leaf a), reached_tree s front ws a e)

-- where a chain has a tree, it has one up to each of its operands
pub front_tree : (s : Bool) (rest : List NextOperand) (k : ℕ) (t : Tree) → IsTreeOf s rest t → (u : Tree) × IsTreeOf s (take k rest) u
front_tree s rest k t h =
    let whole = ap tree_in (sym (read_append (wants []) (pieces s (take k rest)) (pieces_from (1 + k) (drop k rest))) ∙ ap (read binds (wants [])) (sym (split s k rest))) ∙ grouped_only binds (pieces s rest) t h in
    front_by s (take k rest) (read binds (wants []) (pieces s (take k rest))) (pieces_from (1 + k) (drop k rest)) t refl (all_operand s (take k rest)) whole

-- so a chain that has none up to one of them has none
pub no_tree : (s : Bool) (rest : List NextOperand) (k : ℕ) → HasNoTree s rest k → (t : Tree) → IsTreeOf s rest t → ⊥
no_tree s rest k h t g = let u = front_tree s rest k t g in h.none u.0 u.1
