-- Which rule reads an operand of a chain, and what follows it.
use Rattle.std.proofs.Common.{◌≡◌, ℕ, suc, Bool, true, false, ◌&&◌, if◌then◌else◌, List, Option, Some, None, Result, Ok, Err, refl, ap, ◌∙◌}
use Rattle.hdc_base.specs.declared.token.Key.TheVariants as key
use Rattle.hdc_base.specs.declared.token.Token.{Token}
use Rattle.hdc_tree.specs.declared.name.Op.{Op}
use Rattle.hdc_tree.specs.declared.name.Sign.{Sign}
use Rattle.hdc_tree.specs.declared.name.Sign.TheVariants as sign
use Rattle.hdc_tree.specs.declared.expression.Apply.{Apply}
use Rattle.hdc_tree.specs.declared.expression.Link.{Link}
use Rattle.hdc_tree.specs.declared.expression.Operand.TheVariants as o
use Rattle.hdc_syntax.specs.declared.stop.Stop.{Stop}
use Rattle.hdc_syntax.specs.Parser.{Parser, and_then, ◌>>=◌, pure, peek, head}
use Rattle.hdc_syntax.specs.Words.{is}
use Rattle.hdc_syntax.specs.Names.{starts_op, op}
use Rattle.hdc_expression.specs.ExpressionReader.{Opened, Inner, made, linked, apply, lambda, let_in, choice, cases, signed, after_op, operands, chain_by, chain}

-- a choice between two parsers, where the test is decided
by_true : {A : Type 0} (p q : Parser A) {b : Bool} (ts : List Token) → b ≡ true → (if b then p else q) ts ≡ p ts
by_true p q ts e = ap (λ b. (if b then p else q) ts) e

by_false : {A : Type 0} (p q : Parser A) {b : Bool} (ts : List Token) → b ≡ false → (if b then p else q) ts ≡ q ts
by_false p q ts e = ap (λ b. (if b then p else q) ts) e

module _ (turns : ℕ) (inner : Inner) (section : Bool) (n : ℕ) (taken : Sign) (links : List Link) (ts : List Token) where
  -- the chain stops at the sign
  pub chain_stopped : (stop : Stop) → signed turns inner taken ts ≡ Err stop → chain turns inner section (suc n) taken links ts ≡ Err stop
  unfolding chain
  chain_stopped stop e = ap (λ r. and_then r (λ s. peek >>= chain_by turns inner (chain turns inner section n sign.Absent) section links s)) e

  module _ (s : Sign) (mid : List Token) (e : signed turns inner taken ts ≡ Ok (s, mid)) where
    behind_sign : chain turns inner section (suc n) taken links ts ≡ chain_by turns inner (chain turns inner section n sign.Absent) section links s (head mid) mid
    unfolding chain
    behind_sign = ap (λ r. and_then r (λ z. peek >>= chain_by turns inner (chain turns inner section n sign.Absent) section links z)) e

    pub chain_lambda : is key.KBackslash (head mid) ≡ true → chain turns inner section (suc n) taken links ts ≡ lambda turns inner section links s mid
    chain_lambda a = behind_sign ∙ by_true _ _ mid a

    pub chain_let : is key.KBackslash (head mid) ≡ false → is key.KLet (head mid) ≡ true → chain turns inner section (suc n) taken links ts ≡ let_in turns inner section links s mid
    chain_let a b = behind_sign ∙ by_false _ _ mid a ∙ by_true _ _ mid b

    pub chain_choice : is key.KBackslash (head mid) ≡ false → is key.KLet (head mid) ≡ false → is key.KIf (head mid) ≡ true
        → chain turns inner section (suc n) taken links ts ≡ choice turns inner section links s mid
    chain_choice a b c = behind_sign ∙ by_false _ _ mid a ∙ by_false _ _ mid b ∙ by_true _ _ mid c

    pub chain_cases : is key.KBackslash (head mid) ≡ false → is key.KLet (head mid) ≡ false → is key.KIf (head mid) ≡ false → is key.KCase (head mid) ≡ true
        → chain turns inner section (suc n) taken links ts ≡ cases turns inner section links s mid
    chain_cases a b c d = behind_sign ∙ by_false _ _ mid a ∙ by_false _ _ mid b ∙ by_false _ _ mid c ∙ by_true _ _ mid d

    module _ (a : is key.KBackslash (head mid) ≡ false) (b : is key.KLet (head mid) ≡ false) (c : is key.KIf (head mid) ≡ false) (d : is key.KCase (head mid) ≡ false) where
      others : chain turns inner section (suc n) taken links ts ≡ operands turns inner (chain turns inner section n sign.Absent) section links s mid
      others = behind_sign ∙ by_false _ _ mid a ∙ by_false _ _ mid b ∙ by_false _ _ mid c ∙ by_false _ _ mid d

      -- the chain stops in the operand
      pub chain_refused : (stop : Stop) → apply turns inner mid ≡ Err stop → chain turns inner section (suc n) taken links ts ≡ Err stop
      unfolding operands
      chain_refused stop f = others ∙ ap (λ r. and_then r (λ x. peek >>= (λ t. if starts_op t then after_op turns inner (chain turns inner section n sign.Absent) section links s x else pure (made links s (o.Applied x), None)))) f

      module _ (x : Apply) (back : List Token) (f : apply turns inner mid ≡ Ok (x, back)) where
        behind : chain turns inner section (suc n) taken links ts
            ≡ (if starts_op (head back) then after_op turns inner (chain turns inner section n sign.Absent) section links s x else pure (made links s (o.Applied x), None)) back
        unfolding operands
        behind = others ∙ ap (λ r. and_then r (λ y. peek >>= (λ t. if starts_op t then after_op turns inner (chain turns inner section n sign.Absent) section links s y else pure (made links s (o.Applied y), None)))) f

        -- no operator follows
        pub chain_ends : starts_op (head back) ≡ false → chain turns inner section (suc n) taken links ts ≡ Ok ((made links s (o.Applied x), None), back)
        chain_ends g = behind ∙ by_false _ _ back g

        module _ (g : starts_op (head back) ≡ true) where
          -- the chain stops in the operator
          pub chain_op_refused : (stop : Stop) → op back ≡ Err stop → chain turns inner section (suc n) taken links ts ≡ Err stop
          unfolding after_op
          chain_op_refused stop h = behind ∙ by_true _ _ back g ∙ ap (λ r. and_then r (λ y. peek >>= (λ t. if section && is key.KCloseParen t then pure (made links s (o.Applied x), Some y) else chain turns inner section n sign.Absent (linked links s x y)))) h

          module _ (y : Op) (rest : List Token) (h : op back ≡ Ok (y, rest)) where
            behind_op : chain turns inner section (suc n) taken links ts
                ≡ (if section && is key.KCloseParen (head rest) then pure (made links s (o.Applied x), Some y) else chain turns inner section n sign.Absent (linked links s x y)) rest
            unfolding after_op
            behind_op = behind ∙ by_true _ _ back g ∙ ap (λ r. and_then r (λ z. peek >>= (λ t. if section && is key.KCloseParen t then pure (made links s (o.Applied x), Some z) else chain turns inner section n sign.Absent (linked links s x z)))) h

            -- the operator ends a section
            pub chain_closed : (section && is key.KCloseParen (head rest)) ≡ true → chain turns inner section (suc n) taken links ts ≡ Ok ((made links s (o.Applied x), Some y), rest)
            chain_closed i = behind_op ∙ by_true _ _ rest i

            -- the chain goes on behind the operator
            pub chain_on : (section && is key.KCloseParen (head rest)) ≡ false → chain turns inner section (suc n) taken links ts ≡ chain turns inner section n sign.Absent (linked links s x y) rest
            chain_on i = behind_op ∙ by_false _ _ rest i
