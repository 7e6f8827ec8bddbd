-- What answers find.
use Rattle.std.proofs.Common.{◌≡◌, List, [], ◌∷◌, refl, sym, ap, ◌∙◌, true, false, ◌||◌}
use Rattle.hdc_layout.specs.declared.role.Answer.{Answer}
use Rattle.hdc_layout.specs.declared.role.Answer.TheVariants as answer
use Rattle.hdc_layout.specs.declared.role.Opener.TheVariants as opener
use Rattle.hdc_layout.specs.declared.summary.Entry.{Entry}
use Rattle.hdc_layout.specs.declared.summary.Entry.TheVariants as entry
use Rattle.hdc_layout.specs.declared.summary.Summary.{Summary}
use Rattle.hdc_layout.specs.Blocks.{finds, summary_of}

-- a comma finds what ) or ] finds
pub finds-comma : (stack : List Entry) → finds answer.Comma stack ≡ (finds answer.CloseParen stack || finds answer.CloseBracket stack)
finds-comma [] = refl
finds-comma (entry.Implicit n ∷ below) = finds-comma below
finds-comma (entry.Explicit ∷ below) = refl
finds-comma (entry.Opener opener.Let ∷ below) = finds-comma below
finds-comma (entry.Opener opener.If ∷ below) = finds-comma below
finds-comma (entry.Opener opener.Then ∷ below) = finds-comma below
finds-comma (entry.Opener opener.Case ∷ below) = finds-comma below
finds-comma (entry.Opener opener.Paren ∷ below) = refl
finds-comma (entry.Opener opener.Bracket ∷ below) = refl

-- the two tests for a comma
pub comma_paren : (stack : List Entry) (s : Summary) (a : Answer) → a ≡ answer.Comma → s ≡ summary_of stack → s.paren ≡ true → s.paren ≡ finds a stack
comma_paren stack s a is e p =
    p ∙ sym (ap (λ a. finds a stack) is ∙ finds-comma stack ∙ ap (λ b. b || finds answer.CloseBracket stack) (sym (ap (λ s. s.paren) e) ∙ p))

pub comma_bracket : (stack : List Entry) (s : Summary) (a : Answer) → a ≡ answer.Comma → s ≡ summary_of stack → s.paren ≡ false → s.bracket ≡ finds a stack
comma_bracket stack s a is e p =
    ap (λ s. s.bracket) e ∙ sym (ap (λ a. finds a stack) is ∙ finds-comma stack ∙ ap (λ b. b || finds answer.CloseBracket stack) (sym (ap (λ s. s.paren) e) ∙ p))
