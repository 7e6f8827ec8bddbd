-- The laid-out tokens of a text.
use Rattle.std.specs.Prelude.{◌≡◌, ℕ, List, Ok}
use Rattle.hdc_base.specs.declared.place.At.{At}
use Rattle.hdc_base.specs.declared.token.Token.{Token}
use Rattle.hdc_lex.specs.declared.lexeme.Form.TheVariants as form
use Rattle.hdc_lex.specs.Place.{first_place, behind_all}
use Rattle.hdc_lex.specs.Lexing.{Lexes}
use Rattle.hdc_layout.specs.LaidOut.{laid_out}

-- the place where a next byte would stand
abbrev pub end_place : List ℕ → At
end_place text = behind_all first_place text

-- the laid-out tokens of a text
pub record HasLayout (text : List ℕ) (laid : List Token) : Type 0 where
  pub tokens : List Token
  pub lexed : Lexes form.Program text (Ok tokens)
  pub laid_out : laid_out tokens (end_place text) ≡ Ok laid
