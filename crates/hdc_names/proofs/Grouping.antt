-- A chain is grouped as its tree, and what it is grouped as is its tree.
use Rattle.std.proofs.Common.{◌≡◌, inl, inr, List, [], ◌∷◌, ◌++◌, refl, sym, ap, ◌∙◌, subst, arith, append_assoc, append-nil, Bool, true, false, Option, Some, None, nat_lt}
use Rattle.std.specs.Option.{option_and_then}
use Rattle.std.proofs.lemmas.Bool.Decides.{nat_tests}
use Rattle.hdc_tree.specs.declared.program.Associativity.{Associativity}
use Rattle.hdc_tree.specs.declared.program.Associativity.TheVariants.{Neither, Left, Right}
use Rattle.hdc_names.specs.declared.fixity.Fixity.{Fixity}
use Rattle.hdc_names.specs.declared.fixity.Taker.{Taker}
use Rattle.hdc_names.specs.declared.fixity.Taker.TheVariants.{First, Second, Unclear}
use Rattle.hdc_names.specs.OperatorTrees.{sign, Element, operand, operator, minus, Grouping, leaf, binary, negated, elements, MayBeLeft, MayBeRight, root, IsOperatorTree, Resolves}
use Rattle.hdc_names.specs.Grouping.{by_side, by_precedence, taker, Waiting, behind, signed, State, wants, has, closed, finish, taken, fixity_of, left_of, behind_left, signed_in, advance, read, tree_in, grouped}

-- which operator takes an operand is where it may stand

first_by : (a b : Bool) (p q : Fixity) → nat_lt q.precedence p.precedence ≡ a → nat_lt p.precedence q.precedence ≡ b → MayBeLeft (Some p) q → by_precedence a b (by_side p.associativity q.associativity) ≡ First
first_by true b p q e f h = refl
first_by false true p q e f (inl lt) = absurd (grind (arith, nat_tests, e, lt))
first_by false true p q e f (inr (same, l, r)) = absurd (grind (arith, nat_tests, f, same))
first_by false false p q e f (inl lt) = absurd (grind (arith, nat_tests, e, lt))
first_by false false p q e f (inr (same, l, r)) = ap (λ s. by_side s q.associativity) l ∙ ap (λ s. by_side Left s) r

pub left_first : (p q : Fixity) → MayBeLeft (Some p) q → taker p q ≡ First
left_first p q h = first_by (nat_lt q.precedence p.precedence) (nat_lt p.precedence q.precedence) p q refl refl h

second_by : (a b : Bool) (p q : Fixity) → nat_lt q.precedence p.precedence ≡ a → nat_lt p.precedence q.precedence ≡ b → MayBeRight (Some q) p → by_precedence a b (by_side p.associativity q.associativity) ≡ Second
second_by true b p q e f (inl lt) = absurd (grind (arith, nat_tests, e, lt))
second_by true b p q e f (inr (same, l, r)) = absurd (grind (arith, nat_tests, e, same))
second_by false true p q e f h = refl
second_by false false p q e f (inl lt) = absurd (grind (arith, nat_tests, f, lt))
second_by false false p q e f (inr (same, l, r)) = ap (λ s. by_side s q.associativity) r ∙ ap (λ s. by_side Right s) l

pub right_second : (p q : Fixity) → MayBeRight (Some q) p → taker p q ≡ Second
right_second p q h = second_by (nat_lt q.precedence p.precedence) (nat_lt p.precedence q.precedence) p q refl refl h

both_left : (s t : Associativity) → by_side s t ≡ First → (s ≡ Left) × (t ≡ Left)
both_left Left Left e = (refl, refl)
both_left Left Right e = absurd cc
both_left Left Neither e = absurd cc
both_left Right Left e = absurd cc
both_left Right Right e = absurd cc
both_left Right Neither e = absurd cc
both_left Neither t e = absurd cc

both_right : (s t : Associativity) → by_side s t ≡ Second → (s ≡ Right) × (t ≡ Right)
both_right Left Left e = absurd cc
both_right Left Right e = absurd cc
both_right Left Neither e = absurd cc
both_right Right Left e = absurd cc
both_right Right Right e = (refl, refl)
both_right Right Neither e = absurd cc
both_right Neither t e = absurd cc

left_by : (a b : Bool) (p q : Fixity) → nat_lt q.precedence p.precedence ≡ a → nat_lt p.precedence q.precedence ≡ b → by_precedence a b (by_side p.associativity q.associativity) ≡ First → MayBeLeft (Some p) q
left_by true b p q e f h = inl (grind (arith, nat_tests, e))
left_by false true p q e f h = absurd cc
left_by false false p q e f h =
    let same : p.precedence ≡ q.precedence = grind (arith, nat_tests, e, f) in
    let sides = both_left p.associativity q.associativity h in
    inr (same, sides.0, sides.1)

pub first_left : (p q : Fixity) → taker p q ≡ First → MayBeLeft (Some p) q
first_left p q h = left_by (nat_lt q.precedence p.precedence) (nat_lt p.precedence q.precedence) p q refl refl h

right_by : (a b : Bool) (p q : Fixity) → nat_lt q.precedence p.precedence ≡ a → nat_lt p.precedence q.precedence ≡ b → by_precedence a b (by_side p.associativity q.associativity) ≡ Second → MayBeRight (Some q) p
right_by true b p q e f h = absurd cc
right_by false true p q e f h = inl (grind (arith, nat_tests, f))
right_by false false p q e f h =
    let same : q.precedence ≡ p.precedence = grind (arith, nat_tests, e, f) in
    let sides = both_right p.associativity q.associativity h in
    inr (same, sides.1, sides.0)

pub second_right : (p q : Fixity) → taker p q ≡ Second → MayBeRight (Some q) p
second_right p q h = right_by (nat_lt q.precedence p.precedence) (nat_lt p.precedence q.precedence) p q refl refl h

-- ---- what is read is a tree of the elements

module _ {A O M : Type 0} (fixity : O → Fixity) where
  -- the elements that were read before an operand is wanted
  abbrev waiting : List (Waiting A O M) → List (Element A O M)
  waiting [] = []
  waiting (behind l o ∷ ws) = waiting ws ++ (elements l ++ (operator o ∷ []))
  waiting (signed m ∷ ws) = waiting ws ++ (minus m ∷ [])

  -- what is grouped may stand behind what waits
  abbrev Fits : Option Fixity → List (Waiting A O M) → Type 0
  Fits q [] = Unit {0}
  Fits q (w ∷ ws) = MayBeRight q (fixity_of fixity w)

  abbrev StandsLeft : Waiting A O M → Type 0
  StandsLeft (behind l o) = IsOperatorTree fixity l × MayBeLeft (root fixity l) (fixity o)
  StandsLeft (signed m) = Unit {0}

  abbrev Stands : List (Waiting A O M) → Type 0
  Stands [] = Unit {0}
  Stands (w ∷ ws) = StandsLeft w × Fits (Some (fixity_of fixity w)) ws × Stands ws

  record Sound (xs : List (Element A O M)) (ws : List (Waiting A O M)) (e : Grouping A O M) : Type 0 where
    fits : Fits (root fixity e) ws
    tree : IsOperatorTree fixity e
    stands : Stands ws
    all : waiting ws ++ elements e ≡ xs

  root_closed : (w : Waiting A O M) (e : Grouping A O M) → root fixity (closed w e) ≡ Some (fixity_of fixity w)
  root_closed (behind l o) e = refl
  root_closed (signed m) e = refl

  closed_sound : (xs : List (Element A O M)) (w : Waiting A O M) (ws : List (Waiting A O M)) (e : Grouping A O M) → Sound xs (w ∷ ws) e → Sound xs ws (closed w e)
  closed_sound xs (behind l o) ws e h = record {
    fits = h.stands.1;
    tree = (h.stands.0.0, h.tree, h.stands.0.1, h.fits);
    stands = h.stands.2;
    all = ap (λ z. waiting ws ++ z) (sym (append_assoc (elements l) (operator o ∷ []) (elements e))) ∙ sym (append_assoc (waiting ws) (elements l ++ (operator o ∷ [])) (elements e)) ∙ h.all;
  }
  closed_sound xs (signed m) ws e h = record {
    fits = h.stands.1;
    tree = (h.tree, h.fits);
    stands = h.stands.2;
    all = sym (append_assoc (waiting ws) (minus m ∷ []) (elements e)) ∙ h.all;
  }

  finish_sound : (xs : List (Element A O M)) (ws : List (Waiting A O M)) (e : Grouping A O M) → Sound xs ws e → Resolves fixity xs (finish ws e)
  finish_sound xs [] e h = record { reads = h.all; stands = h.tree }
  finish_sound xs (w ∷ ws) e h = finish_sound xs ws (closed w e) (closed_sound xs w ws e h)

  -- what waits, and the left operand before an operator
  record Parted (xs : List (Element A O M)) (q : Fixity) (r : List (Waiting A O M) × Grouping A O M) : Type 0 where
    sound : Sound xs r.0 r.1
    left : MayBeLeft (root fixity r.1) q
    right : Fits (Some q) r.0

  parted_by : (t : Taker) (xs : List (Element A O M)) (w : Waiting A O M) (ws : List (Waiting A O M)) (e : Grouping A O M) (q : Fixity) (r : List (Waiting A O M) × Grouping A O M) → taker (fixity_of fixity w) q ≡ t → Sound xs (w ∷ ws) e → MayBeLeft (root fixity e) q → (Sound xs ws (closed w e) → MayBeLeft (root fixity (closed w e)) q → left_of fixity ws (closed w e) q ≡ Some r → Parted xs q r) → taken t (left_of fixity ws (closed w e) q) (Some (w ∷ ws, e)) ≡ Some r → Parted xs q r
  parted_by First xs w ws e q r which h left again found = again (closed_sound xs w ws e h) (subst (λ o. MayBeLeft o q) (sym (root_closed w e)) (first_left (fixity_of fixity w) q which)) found
  parted_by Second xs w ws e q r which h left again found =
      let same : (w ∷ ws, e) ≡ r = cc in
      subst (λ r. Parted xs q r) same (record { sound = h; left = left; right = second_right (fixity_of fixity w) q which })
  parted_by Unclear xs w ws e q r which h left again found = absurd cc

  parted : (xs : List (Element A O M)) (ws : List (Waiting A O M)) (e : Grouping A O M) (q : Fixity) (r : List (Waiting A O M) × Grouping A O M) → Sound xs ws e → MayBeLeft (root fixity e) q → left_of fixity ws e q ≡ Some r → Parted xs q r
  parted xs [] e q r h left found =
      let same : ([], e) ≡ r = cc in
      subst (λ r. Parted xs q r) same (record { sound = h; left = left; right = tt })
  parted xs (w ∷ ws) e q r h left found = parted_by (taker (fixity_of fixity w) q) xs w ws e q r refl h left (λ h left found. parted xs ws (closed w e) q r h left found) found

  -- what a state stands for
  abbrev StateSound : List (Element A O M) → State A O M → Type 0
  StateSound xs (wants ws) = Stands ws × (waiting ws ≡ xs)
  StateSound xs (has ws a) = Stands ws × (waiting ws ++ (operand a ∷ []) ≡ xs)

  operand_sound : (xs : List (Element A O M)) (ws : List (Waiting A O M)) (a : A) → StateSound xs (has ws a) → Sound xs ws (leaf a)
  operand_sound xs [] a h = record { fits = tt; tree = tt; stands = h.0; all = h.1 }
  operand_sound xs (w ∷ ws) a h = record { fits = tt; tree = tt; stands = h.0; all = h.1 }

  behind_sound : (xs : List (Element A O M)) (o : O) (r : List (Waiting A O M) × Grouping A O M) → Parted xs (fixity o) r → StateSound (xs ++ (operator o ∷ [])) (wants (behind r.1 o ∷ r.0))
  behind_sound xs o r h = (((h.sound.tree, h.left), h.right, h.sound.stands), sym (append_assoc (waiting r.0) (elements r.1) (operator o ∷ [])) ∙ ap (λ z. z ++ (operator o ∷ [])) h.sound.all)

  signed_by : (t : Taker) (xs : List (Element A O M)) (w : Waiting A O M) (ws : List (Waiting A O M)) (m : M) (s : State A O M) → taker (fixity_of fixity w) sign ≡ t → StateSound xs (wants (w ∷ ws)) → taken t None (Some (wants (signed m ∷ w ∷ ws))) ≡ Some s → StateSound (xs ++ (minus m ∷ [])) s
  signed_by First xs w ws m s which h found = absurd cc
  signed_by Second xs w ws m s which h found =
      let same : wants (signed m ∷ w ∷ ws) ≡ s = cc in
      subst (λ s. StateSound (xs ++ (minus m ∷ [])) s) same ((tt, second_right (fixity_of fixity w) sign which, h.0), ap (λ z. z ++ (minus m ∷ [])) h.1)
  signed_by Unclear xs w ws m s which h found = absurd cc

  behind_by : (xs : List (Element A O M)) (o : O) (found : Option (List (Waiting A O M) × Grouping A O M)) (s : State A O M) → ((r : List (Waiting A O M) × Grouping A O M) → found ≡ Some r → Parted xs (fixity o) r) → behind_left fixity o found ≡ Some s → StateSound (xs ++ (operator o ∷ [])) s
  behind_by xs o None s h e = absurd cc
  behind_by xs o (Some (ws, l)) s h e =
      let same : wants (behind l o ∷ ws) ≡ s = cc in
      subst (λ s. StateSound (xs ++ (operator o ∷ [])) s) same (behind_sound xs o (ws, l) (h (ws, l) refl))

  advance_sound : (xs : List (Element A O M)) (s : State A O M) (x : Element A O M) (n : State A O M) → StateSound xs s → advance fixity s x ≡ Some n → StateSound (xs ++ (x ∷ [])) n
  advance_sound xs (wants ws) (operand a) n h e =
      let same : has ws a ≡ n = cc in
      subst (λ n. StateSound (xs ++ (operand a ∷ [])) n) same (h.0, ap (λ z. z ++ (operand a ∷ [])) h.1)
  advance_sound xs (wants ws) (operator o) n h e = absurd cc
  advance_sound xs (wants []) (minus m) n h e =
      let same : wants (signed m ∷ []) ≡ n = cc in
      subst (λ n. StateSound (xs ++ (minus m ∷ [])) n) same ((tt, tt, tt), ap (λ z. z ++ (minus m ∷ [])) h.1)
  advance_sound xs (wants (w ∷ ws)) (minus m) n h e = signed_by (taker (fixity_of fixity w) sign) xs w ws m n refl h e
  advance_sound xs (has ws a) (operand b) n h e = absurd cc
  advance_sound xs (has ws a) (operator o) n h e = behind_by xs o (left_of fixity ws (leaf a) (fixity o)) n (λ r found. parted xs ws (leaf a) (fixity o) r (operand_sound xs ws a h) tt found) e
  advance_sound xs (has ws a) (minus m) n h e = absurd cc

  read_by : (next : Option (State A O M)) (xs ys : List (Element A O M)) (x : Element A O M) (n : State A O M) → ((m : State A O M) → next ≡ Some m → StateSound (xs ++ (x ∷ [])) m) → ((m : State A O M) → StateSound (xs ++ (x ∷ [])) m → read fixity m ys ≡ Some n → StateSound ((xs ++ (x ∷ [])) ++ ys) n) → option_and_then (λ m. read fixity m ys) next ≡ Some n → StateSound (xs ++ (x ∷ ys)) n
  read_by None xs ys x n h again e = absurd cc
  read_by (Some m) xs ys x n h again e = subst (λ z. StateSound z n) (append_assoc xs (x ∷ []) ys) (again m (h m refl) e)

  pub read_sound : (xs : List (Element A O M)) (s : State A O M) (ys : List (Element A O M)) (n : State A O M) → StateSound xs s → read fixity s ys ≡ Some n → StateSound (xs ++ ys) n
  read_sound xs s [] n h e =
      let same : s ≡ n = cc in
      subst (λ z. StateSound z n) (sym (append-nil xs)) (subst (λ n. StateSound xs n) same h)
  read_sound xs s (y ∷ ys) n h e = read_by (advance fixity s y) xs ys y n (λ m next. advance_sound xs s y m h next) (λ m sound e. read_sound (xs ++ (y ∷ [])) m ys n sound e) e

  tree_sound : (xs : List (Element A O M)) (r : Option (State A O M)) (t : Grouping A O M) → ((n : State A O M) → r ≡ Some n → StateSound xs n) → tree_in r ≡ Some t → Resolves fixity xs t
  tree_sound xs None t h e = absurd cc
  tree_sound xs (Some (wants ws)) t h e = absurd cc
  tree_sound xs (Some (has ws a)) t h e =
      let same : finish ws (leaf a) ≡ t = cc in
      subst (λ t. Resolves fixity xs t) same (finish_sound xs ws (leaf a) (operand_sound xs ws a (h (has ws a) refl)))

  -- what a chain is grouped as is its tree
  pub grouped_sound : (xs : List (Element A O M)) (t : Grouping A O M) → grouped fixity xs ≡ Some t → Resolves fixity xs t
  grouped_sound xs t e = tree_sound xs (read fixity (wants []) xs) t (λ n found. read_sound [] (wants []) xs n (tt, refl) found) e

-- ---- a tree is found

-- what stands to the right of an operator binds tighter than what may stand behind it
left_within : (r : Option Fixity) (p q : Fixity) → MayBeRight r p → MayBeLeft (Some p) q → MayBeLeft r q
left_within None p q h g = tt
left_within (Some s) p q (inl lt) (inl more) = inl (omega (arith, lt, more))
left_within (Some s) p q (inl lt) (inr (same, l, r)) = inl (omega (arith, lt, same))
left_within (Some s) p q (inr (same, l, r)) (inl more) = inl (omega (arith, same, more))
left_within (Some s) p q (inr (same, l, r)) (inr (alike, k, t)) = absurd (clash p.associativity r k)
  where
    clash : (s : Associativity) → s ≡ Right → s ≡ Left → ⊥
    clash s a b = cc

right_within : (l : Option Fixity) (p q : Fixity) → MayBeLeft l p → MayBeRight (Some p) q → MayBeRight l q
right_within None p q h g = tt
right_within (Some s) p q (inl lt) (inl more) = inl (omega (arith, lt, more))
right_within (Some s) p q (inl lt) (inr (same, l, r)) = inl (omega (arith, lt, same))
right_within (Some s) p q (inr (same, l, r)) (inl more) = inl (omega (arith, same, more))
right_within (Some s) p q (inr (same, l, r)) (inr (alike, k, t)) = absurd (clash p.associativity r k)
  where
    clash : (s : Associativity) → s ≡ Left → s ≡ Right → ⊥
    clash s a b = cc

module _ {A O M : Type 0} (fixity : O → Fixity) where
  -- what waits where the last operand of a tree has been read
  abbrev spine : Grouping A O M → List (Waiting A O M) → List (Waiting A O M)
  spine (leaf a) ws = ws
  spine (binary l o r) ws = spine r (behind l o ∷ ws)
  spine (negated m e) ws = spine e (signed m ∷ ws)

  abbrev last : Grouping A O M → A
  last (leaf a) = a
  last (binary l o r) = last r
  last (negated m e) = last e

  finish_spine : (t : Grouping A O M) (ws : List (Waiting A O M)) → finish (spine t ws) (leaf (last t)) ≡ finish ws t
  finish_spine (leaf a) ws = refl
  finish_spine (binary l o r) ws = finish_spine r (behind l o ∷ ws)
  finish_spine (negated m e) ws = finish_spine e (signed m ∷ ws)

  fits_within : (l : Option Fixity) (p : Fixity) (ws : List (Waiting A O M)) → MayBeLeft l p → Fits fixity (Some p) ws → Fits fixity l ws
  fits_within l p [] h g = tt
  fits_within l p (w ∷ ws) h g = right_within l p (fixity_of fixity w) h g

  -- an operator takes all of a tree that may be its left operand
  left_spine : (t : Grouping A O M) (ws : List (Waiting A O M)) (q : Fixity) → IsOperatorTree fixity t → MayBeLeft (root fixity t) q → left_of fixity (spine t ws) (leaf (last t)) q ≡ left_of fixity ws t q
  left_spine (leaf a) ws q h left = refl
  left_spine (binary l o r) ws q h left =
      left_spine r (behind l o ∷ ws) q h.1 (left_within (root fixity r) (fixity o) q h.3 left)
      ∙ ap (λ t. taken t (left_of fixity ws (binary l o r) q) (Some (behind l o ∷ ws, r))) (left_first (fixity o) q left)
  left_spine (negated m e) ws q h left =
      left_spine e (signed m ∷ ws) q h.0 (left_within (root fixity e) sign q h.1 left)
      ∙ ap (λ t. taken t (left_of fixity ws (negated m e) q) (Some (signed m ∷ ws, e))) (left_first sign q left)

  -- and nothing of what waits before it
  left_stays : (ws : List (Waiting A O M)) (t : Grouping A O M) (q : Fixity) → Fits fixity (Some q) ws → left_of fixity ws t q ≡ Some (ws, t)
  left_stays [] t q h = refl
  left_stays (w ∷ ws) t q h = ap (λ z. taken z (left_of fixity ws (closed w t) q) (Some (w ∷ ws, t))) (right_second (fixity_of fixity w) q h)

  signed_goes : (ws : List (Waiting A O M)) (m : M) → Fits fixity (Some sign) ws → signed_in fixity ws m ≡ Some (wants (signed m ∷ ws))
  signed_goes [] m h = refl
  signed_goes (w ∷ ws) m h = ap (λ z. taken z None (Some (wants (signed m ∷ w ∷ ws)))) (right_second (fixity_of fixity w) sign h)

  step : (s n : State A O M) (x : Element A O M) (xs : List (Element A O M)) → advance fixity s x ≡ Some n → read fixity s (x ∷ xs) ≡ read fixity n xs
  step s n x xs h = ap (option_and_then (λ m. read fixity m xs)) h

  -- the elements of a tree are read
  found : (t : Grouping A O M) (ws : List (Waiting A O M)) (xs : List (Element A O M)) → IsOperatorTree fixity t → Fits fixity (root fixity t) ws → read fixity (wants ws) (elements t ++ xs) ≡ read fixity (has (spine t ws) (last t)) xs
  found (leaf a) ws xs h fits = refl
  found (binary l o r) ws xs h fits =
      ap (read fixity (wants ws)) (append_assoc (elements l) (operator o ∷ elements r) xs)
      ∙ found l ws (operator o ∷ (elements r ++ xs)) h.0 (fits_within (root fixity l) (fixity o) ws h.2 fits)
      ∙ step (has (spine l ws) (last l)) (wants (behind l o ∷ ws)) (operator o) (elements r ++ xs) (ap (behind_left fixity o) (left_spine l ws (fixity o) h.0 h.2 ∙ left_stays ws l (fixity o) fits))
      ∙ found r (behind l o ∷ ws) xs h.1 h.3
  found (negated m e) ws xs h fits =
      step (wants ws) (wants (signed m ∷ ws)) (minus m) (elements e ++ xs) (signed_goes ws m fits)
      ∙ found e (signed m ∷ ws) xs h.0 h.1

  -- a tree of a chain is what the chain is grouped as
  pub grouped_only : (xs : List (Element A O M)) (t : Grouping A O M) → Resolves fixity xs t → grouped fixity xs ≡ Some t
  grouped_only xs t h =
      ap (λ z. tree_in (read fixity (wants []) z)) (sym h.reads ∙ sym (append-nil (elements t)))
      ∙ ap tree_in (found t [] [] h.stands tt)
      ∙ ap (λ z. Some z) (finish_spine t [])

  -- a chain has at most one tree
  pub one_tree : (xs : List (Element A O M)) (t u : Grouping A O M) → Resolves fixity xs t → Resolves fixity xs u → t ≡ u
  one_tree xs t u h g =
      let both : Some t ≡ Some u = sym (grouped_only xs t h) ∙ grouped_only xs u g in
      cc
