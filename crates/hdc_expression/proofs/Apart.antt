-- The two forms of the beginning of a qualifier: which it is shows within it.
use Rattle.std.proofs.Common.{◌≡◌, ℕ, zero, ◌≤◌, Bool, true, false, cond, eqb, List, [], ◌∷◌, ◌++◌, Ok, Err, length, inl, inr, refl, sym, ◌∙◌, ap, subst, arith}
use Rattle.hdc_base.specs.declared.place.At.{At}
use Rattle.hdc_base.specs.declared.token.Key.{Key}
use Rattle.hdc_base.specs.declared.token.Key.TheVariants as key
use Rattle.hdc_base.specs.declared.token.Word.{Word}
use Rattle.hdc_base.specs.declared.token.Word.TheVariants as word
use Rattle.hdc_base.specs.declared.token.Token.{Token}
use Rattle.hdc_tree.specs.declared.pattern.Pat.{Pat}
use Rattle.hdc_tree.specs.declared.expression.Exp.{Exp}
use Rattle.hdc_tree.specs.NameSpelling.{key_onto}
use Rattle.hdc_tree.specs.PatternSpelling.{pat_onto}
use Rattle.hdc_tree.specs.ExpressionSpelling.{exp_onto}
use Rattle.hdc_syntax.specs.declared.stop.Stop.TheVariants.{Syntax}
use Rattle.hdc_syntax.specs.Parser.{Parser, ◌>>=◌, pure, refuse, peek, head}
use Rattle.hdc_syntax.specs.Words.{code, key_at, fixed, is_key_word}
use Rattle.hdc_syntax.proofs.Good.{Good, bind_ok, bind_err, ok_same}
use Rattle.hdc_syntax.proofs.Local.{Within, token_stop}
use Rattle.hdc_syntax.proofs.Steps.{same_key, good_key, good_return}
use Rattle.hdc_syntax.proofs.Balanced.{key_role, word_role, ahead_by, ahead, ahead_shrinks, front_ahead, flat_word, flat_of}
use Rattle.hdc_syntax.specs.PatternReader.{pat}
use Rattle.hdc_syntax.proofs.PatternBalanced.{pat_word}
use Rattle.hdc_syntax.proofs.PatternWords.{good_pat}
use Rattle.hdc_expression.specs.declared.qualifier.QualHead.{QualHead}
use Rattle.hdc_expression.specs.declared.qualifier.QualHead.TheVariants as h
use Rattle.hdc_expression.specs.ExpressionReader.{Inner, ends_qual, whole, generator, condition}
use Rattle.hdc_expression.proofs.Opened.{GoodInner}
use Rattle.hdc_expression.proofs.ExpressionBalanced.{exp_word}
use Rattle.hdc_expression.proofs.ExpressionWords.{good_whole}

-- ---- what ends a qualifier divides or closes

key_ends : (k : Key) (b : Bool) → eqb (code k) (code key.KComma) ≡ b → cond b true (eqb (code k) (code key.KCloseBracket)) ≡ true → (rest : ℕ → List Token) (here : List Token) → ahead_by (key_role k) rest zero here ≡ here
key_ends k true same e rest here = ap (λ z. ahead_by (key_role z) rest zero here) (same_key key.KComma k same)
key_ends k false same e rest here = ap (λ z. ahead_by (key_role z) rest zero here) (same_key key.KCloseBracket k e)

word_ends : (w : Word) → cond (is_key_word key.KComma w) true (is_key_word key.KCloseBracket w) ≡ true → (rest : ℕ → List Token) (here : List Token) → ahead_by (word_role w) rest zero here ≡ here
word_ends (word.Key k) e rest here = key_ends k (eqb (code k) (code key.KComma)) refl e rest here
word_ends _ e rest here = absurd (cc)

pub ends_ahead : (ts : List Token) → ends_qual (head ts) ≡ true → ahead ts 0 ≡ ts
ends_ahead [] e = refl
ends_ahead (c ∷ cs) e = word_ends c.word e (ahead cs) (c ∷ cs)

-- ---- steps of the two forms

if_ok : {A : Type 0} (b : Bool) (x y : A) (ts rest : List Token) → cond b (pure x) refuse ts ≡ Ok (y, rest) → (b ≡ true) × (ts ≡ rest)
if_ok {A} true x y ts rest e = let same = ok_same A (x, ts) (y, rest) e in (refl, same.1)
if_ok false x y ts rest e = absurd (cc)

abbrev arrow_behind : Pat → Parser QualHead
arrow_behind p = fixed key.KLeftArrow >>= (λ arrow. pure (h.Source p arrow))

arrow_stop : (p : Pat) (ts : List Token) (m : ℕ) → arrow_behind p ts ≡ Err (Syntax m) → m ≡ length ts
arrow_stop p ts m e = elim (bind_err (fixed key.KLeftArrow ts) (λ arrow. pure (h.Source p arrow)) (Syntax m) e) [ inl stops ↦ token_stop At (key_at key.KLeftArrow) ts m stops | inr b ↦ absurd (cc) ]

good_arrow : (p : Pat) → Good QualHead (arrow_behind p) (λ x v. (at : At) × (v ≡ key_onto at key.KLeftArrow []))
good_arrow p = good_key key.KLeftArrow (λ at. good_return (h.Source p at) (at, refl))

arrow_read : (p : Pat) (ts : List Token) (y : QualHead) (rest : List Token) → arrow_behind p ts ≡ Ok (y, rest) → (at : At) × (ts ≡ key_onto at key.KLeftArrow rest)
arrow_read p ts y rest e = let r = (good_arrow p).found ts y rest e in (r.is.0, r.splits ∙ ap (λ z. z ++ rest) r.is.1)

no_arrow : (k rest : List Token) (at : At) → ends_qual (head k) ≡ true → k ≡ key_onto at key.KLeftArrow rest → ⊥
no_arrow k rest at e same = let f : false ≡ true = subst (λ (z : List Token). ends_qual (head z) ≡ true) same e in absurd (cc)

module _ (turns : ℕ) (inner : Inner) (g : GoodInner inner) where
  -- where a condition is read, the part that divides comes behind it
  pub condition_ahead : (ts : List Token) (x : QualHead) (rest : List Token) → condition turns inner ts ≡ Ok (x, rest) → ahead ts 0 ≡ rest
  unfolding condition
  condition_ahead ts x rest e =
      let b = bind_ok (whole turns inner ts) (λ e. peek >>= (λ c. cond (ends_qual c) (pure (h.Condition e)) refuse)) x rest e in
      let w = (good_whole turns inner g).found ts b.0 b.1 b.2 in
      let i = if_ok (ends_qual (head b.1)) (h.Condition b.0) x b.1 rest b.3 in
      ap (λ z. ahead z 0) w.splits ∙ flat_of exp_onto b.0 w.word (exp_word b.0) w.is.spelled 0 b.1 ∙ ends_ahead b.1 i.0 ∙ i.1

  -- a generator does not stop behind the part that divides
  generator_ahead : (ts : List Token) (m : ℕ) → generator turns inner ts ≡ Err (Syntax m) → length (ahead ts 0) ≤ m
  unfolding generator
  generator_ahead ts m e = elim (bind_err (pat turns inner.apat ts) arrow_behind (Syntax m) e) [
    | inl stops ↦
        let s = (good_pat turns inner.apat g.apat).stopped ts m stops in
        omega (arith, ap length (ap (λ z. ahead z 0) s.splits), front_ahead s.front s.more s.rest (flat_of pat_onto s.value (s.front ++ s.more) (pat_word s.value) s.is.spelled), s.left)
    | inr b ↦
        let w = (good_pat turns inner.apat g.apat).found ts b.0 b.1 b.2 in
        let stop : m ≡ length b.1 = arrow_stop b.0 b.1 m b.3 in
        omega (arith, ap length (ap (λ z. ahead z 0) w.splits ∙ flat_of pat_onto b.0 w.word (pat_word b.0) w.is.spelled 0 b.1), ahead_shrinks b.1 0)
  ]

  -- where a generator stops and a condition is read, it stops before the end of that
  pub apart : Within QualHead (generator turns inner) (condition turns inner)
  apart = record { before = λ ts m x rest e f. omega (arith, generator_ahead ts m e, ap length (condition_ahead ts x rest f)) }

  -- an expression before what ends a qualifier is no generator
  pub no_generator : (e : Exp) (k : List Token) → ends_qual (head k) ≡ true → (y : QualHead) (rest : List Token) → generator turns inner (exp_onto e k) ≡ Ok (y, rest) → ⊥
  unfolding generator
  no_generator e k ends y rest f =
      let b = bind_ok (pat turns inner.apat (exp_onto e k)) arrow_behind y rest f in
      let w = (good_pat turns inner.apat g.apat).found (exp_onto e k) b.0 b.1 b.2 in
      let arrow = arrow_read b.0 b.1 y rest b.3 in
      let at_arrow : ahead (exp_onto e k) 0 ≡ key_onto arrow.0 key.KLeftArrow rest = ap (λ z. ahead z 0) w.splits ∙ flat_of pat_onto b.0 w.word (pat_word b.0) w.is.spelled 0 b.1 ∙ ap (λ z. ahead z 0) arrow.1 in
      let text = exp_word e in
      let at_end : ahead (exp_onto e k) 0 ≡ k = ap (λ z. ahead z 0) (text.spelled k) ∙ flat_word text.balanced 0 k ∙ ends_ahead k ends in
      no_arrow k rest arrow.0 ends (sym at_end ∙ at_arrow)
