-- What a parser that is exact on regular tokens answers on a part of the tokens tells where they are refused.
use Rattle.std.proofs.Common.{◌≡◌, ℕ, suc, ◌-◌, ◌<◌, ◌≤◌, true, false, List, [], ◌∷◌, ◌++◌, length, take, drop, Ok, Err, inl, inr, refl, sym, ◌∙◌, ap, subst, arith, append-nil, append_assoc, length-append}
use Rattle.hdc_base.specs.declared.token.Token.{Token}
use Rattle.hdc_tree.specs.declared.program.Tree.{Tree}
use Rattle.hdc_tree.specs.ProgramSpelling.{tree_onto, spell}
use Rattle.hdc_tree.specs.ProgramForm.{formed_tree}
use Rattle.hdc_syntax.specs.declared.stop.Stop.{Stop}
use Rattle.hdc_syntax.specs.declared.stop.Stop.TheVariants.{Want, Deep, Syntax}
use Rattle.hdc_syntax.specs.Parser.{Parser}
use Rattle.hdc_syntax.specs.Regular.{regular, all_regular}
use Rattle.hdc_syntax.proofs.Good.{Good, Spells}
use Rattle.hdc_syntax.proofs.Local.{Local}
use Rattle.hdc_syntax.proofs.Meets.{Meets, IsLimit}
use Rattle.hdc_syntax.proofs.Tests.{both, first_part, second_part, regular_both}
use Rattle.hdc_parse.specs.Exact.{Begun, Blocked, Fails}

-- ---- lists

pub take_front : (front rest : List Token) → take (length front) (front ++ rest) ≡ front
take_front [] rest = refl
take_front (c ∷ cs) rest = ap (λ z. c ∷ z) (take_front cs rest)

pub drop_front : (front rest : List Token) → drop (length front) (front ++ rest) ≡ rest
drop_front [] rest = refl
drop_front (c ∷ cs) rest = drop_front cs rest

pub regular_first : (v w : List Token) → all_regular (v ++ w) ≡ true → all_regular v ≡ true
regular_first [] w e = refl
regular_first (t ∷ v) w e = both (regular t) (all_regular v) (first_part (regular t) (all_regular (v ++ w)) e) (regular_first v w (second_part (regular t) (all_regular (v ++ w)) e))

pub regular_last : (v w : List Token) → all_regular (v ++ w) ≡ true → all_regular w ≡ true
regular_last [] w e = e
regular_last (t ∷ v) w e = regular_last v w (second_part (regular t) (all_regular (v ++ w)) e)

-- a spelling of a well-formed tree has no token that is not regular
irregular_blocked : (front : List Token) (c : Token) (cs : List Token) → regular c ≡ false → Blocked front (c ∷ cs)
irregular_blocked front c cs e = λ b.
    let whole = ap all_regular (sym b.spelled) ∙ b.well_formed.regular in
    let start = regular_last front (c ∷ []) (regular_first (front ++ c ∷ []) b.more whole) in
    let h = first_part (regular c) true start in
    absurd (cc)

fails_at : (front rest : List Token) → Begun front → Blocked front rest → Fails (front ++ rest) (length front)
fails_at front rest b h = record {
  within = omega (arith, length-append front rest);
  begun = subst Begun (sym (take_front front rest)) b;
  blocked = subst (λ (z : List Token). Blocked z (drop (length front) (front ++ rest))) (sym (take_front front rest)) (subst (λ (z : List Token). Blocked front z) (sym (drop_front front rest)) h);
}

-- the tokens up to one that is not regular begin a spelling, so they are refused at it
pub irregular_fails : (ts front : List Token) (c : Token) (cs : List Token) → ts ≡ front ++ c ∷ cs → regular c ≡ false → Begun front → Fails ts (length front)
irregular_fails ts front c cs e r b = subst (λ z. Fails z (length front)) (sym e) (fails_at front (c ∷ cs) b (irregular_blocked front c cs r))

-- ---- the parser

no_tokens : (ts : List Token) → 0 ≡ length ts → ts ≡ []
no_tokens [] e = refl
no_tokens (c ∷ cs) e = absurd (omega (arith, e))

syntax_limit : (n : ℕ) (s : Stop) → IsLimit s → Syntax n ≡ s → ⊥
syntax_limit n Want l e = absurd (cc)
syntax_limit n Deep l e = absurd (cc)
syntax_limit n (Syntax m) l e = l

module _ (p : Parser Tree) (good : Good Tree p (Spells Tree tree_onto formed_tree)) (whole : (ts : List Token) (x : Tree) (rest : List Token) → p ts ≡ Ok (x, rest) → rest ≡ [])
    (local_ : Local Tree p) (again : (x : Tree) → formed_tree x ≡ true → Meets Tree (p (spell x)) x []) where
  -- what is spelled is not refused
  never_refused : (x : Tree) (n : ℕ) → formed_tree x ≡ true → p (spell x) ≡ Err (Syntax n) → ⊥
  never_refused x n f e = elim (again x f).is [
    | inl ok ↦ absurd (cc)
    | inr s ↦ let same : Syntax n ≡ s.0 = cc in syntax_limit n s.0 s.2 same
  ]

  blocked : (front rest : List Token) → p (front ++ rest) ≡ Err (Syntax (length rest)) → Blocked front rest
  blocked front [] e = λ x f s. never_refused x 0 f.formed (ap p (s ∙ sym (append-nil front)) ∙ e)
  blocked front (c ∷ cs) e = λ b.
      let k = local_.stopped front c cs b.more (suc (length cs)) e (omega arith) in
      never_refused b.tree _ b.well_formed.formed (ap p (b.spelled ∙ append_assoc front (c ∷ []) b.more) ∙ k.again)

  -- where it is refused: the tokens before begin a spelling, and none goes on
  pub record Stops (ts : List Token) (n : ℕ) : Type 0 where
    pub front : List Token
    pub rest : List Token
    pub splits : ts ≡ front ++ rest
    pub left : n ≡ length rest
    pub begun : Begun front
    pub blocked : Blocked front rest

  pub refused : (ts : List Token) (n : ℕ) → all_regular ts ≡ true → p ts ≡ Err (Syntax n) → Stops ts n
  refused ts n r e =
      let s = good.stopped ts n e in
      let f = regular_first s.front s.rest (ap all_regular (sym s.splits) ∙ r) in
      record {
        front = s.front;
        rest = s.rest;
        splits = s.splits;
        left = s.left;
        begun = record {
          tree = s.value;
          more = s.more;
          well_formed = record { formed = s.is.sound; regular = ap all_regular (s.is.spelled [] ∙ append-nil (s.front ++ s.more)) ∙ regular_both s.front s.more f s.regular };
          spelled = s.is.spelled [] ∙ append-nil (s.front ++ s.more);
        };
        blocked = blocked s.front s.rest (ap p (sym s.splits) ∙ e ∙ ap (λ z. Err (Syntax z)) s.left);
      }

  pub found : (ts : List Token) (x : Tree) (rest : List Token) → p ts ≡ Ok (x, rest) → (formed_tree x ≡ true) × (spell x ≡ ts)
  found ts x rest e =
      let r = good.found ts x rest e in
      (r.is.sound, r.is.spelled [] ∙ ap (λ z. r.word ++ z) (sym (whole ts x rest e)) ∙ sym r.splits)

  pub read : (x : Tree) → formed_tree x ≡ true → ((s : Stop) → IsLimit s → p (spell x) ≡ Err s → ⊥) → p (spell x) ≡ Ok (x, [])
  read x f h = elim (again x f).is [
    | inl ok ↦ ok
    | inr s ↦ absurd (h s.0 s.2 s.1)
  ]

  -- what is read begins a spelling, and what is refused at its end
  pub begun_ok : (front : List Token) (x : Tree) (rest : List Token) → all_regular front ≡ true → p front ≡ Ok (x, rest) → Begun front
  begun_ok front x rest r e =
      let f = found front x rest e in
      record { tree = x; more = []; well_formed = record { formed = f.0; regular = ap all_regular f.1 ∙ r }; spelled = f.1 ∙ sym (append-nil front) }

  pub begun_end : (front : List Token) → all_regular front ≡ true → p front ≡ Err (Syntax 0) → Begun front
  begun_end front r e =
      let s = refused front 0 r e in
      let none : s.rest ≡ [] = no_tokens s.rest s.left in
      subst Begun (sym (append-nil s.front) ∙ ap (λ z. s.front ++ z) (sym none) ∙ sym s.splits) s.begun

  pub end_fails : (ts : List Token) → all_regular ts ≡ true → p ts ≡ Err (Syntax 0) → Fails ts (length ts)
  end_fails ts r e = subst (λ z. Fails z (length ts)) (append-nil ts) (fails_at ts [] (begun_end ts r e) (blocked ts [] (ap p (append-nil ts) ∙ e)))

  -- a refusal before the end of a part of the tokens is one of the tokens
  fails_in : (front rest tail : List Token) → 0 < length rest → Begun front → Blocked front rest → Fails (front ++ (rest ++ tail)) (length front)
  fails_in front [] tail some b h = absurd (omega arith)
  fails_in front (c ∷ cs) tail some b h = fails_at front (c ∷ (cs ++ tail)) b h

  pub part_fails : (ts front tail : List Token) (n : ℕ) → ts ≡ front ++ tail → all_regular front ≡ true → 0 < n → p front ≡ Err (Syntax n) → Fails ts (length front - n)
  part_fails ts front tail n e r some h =
      let s = refused front n r h in
      let at : length s.front ≡ length front - n = omega (arith, s.left, ap length s.splits, length-append s.front s.rest) in
      let whole : s.front ++ (s.rest ++ tail) ≡ ts = sym (append_assoc s.front s.rest tail) ∙ ap (λ z. z ++ tail) (sym s.splits) ∙ sym e in
      subst (λ z. Fails ts z) at (subst (λ z. Fails z (length s.front)) whole (fails_in s.front s.rest tail (omega (arith, s.left)) s.begun s.blocked))

  pub counted : (ts : List Token) (n : ℕ) → p ts ≡ Err (Syntax n) → n ≤ length ts
  counted ts n e = local_.counts ts n e
