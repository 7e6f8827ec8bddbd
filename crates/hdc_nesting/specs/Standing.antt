-- What stands directly in which bracket, as the brackets match, with no reading from left to right.
use Rattle.std.specs.Prelude.{◌≡◌, Bool, true, false, List, [], ◌∷◌, ◌++◌}
use Rattle.hdc_base.specs.declared.token.Token.{Token}
use Rattle.hdc_nesting.specs.declared.role.Role.{Role}
use Rattle.hdc_nesting.specs.declared.role.Role.TheVariants as role
use Rattle.hdc_nesting.specs.Roles.{role_of}
use Rattle.hdc_nesting.specs.Nesting.{Levels, Inside}

-- a ( [ or {
abbrev pub Opening : Token → Type 0
Opening t = role_of t.word ≡ role.Opens

-- a ) ] or }
abbrev pub Closing : Token → Type 0
Closing t = role_of t.word ≡ role.Closes

-- the role is that of a bracket
abbrev pub is_bracket : Role → Bool
is_bracket role.Opens = true
is_bracket role.Closes = true
is_bracket _ = false

-- a token that is no bracket
abbrev pub Plain : Token → Type 0
Plain t = is_bracket (role_of t.word) ≡ false

-- tokens in which each bracket that opens closes and no other closes, and those of them that stand in none of these
-- brackets, from the last to the first
pub data Matched : List Token → Inside → Type 0 where
  none : Matched [] []
  plain : {tokens : List Token} {inside : Inside} → Matched tokens inside → (t : Token) → Plain t → Matched (tokens ++ t ∷ []) (t ∷ inside)
  bracket : {tokens within : List Token} {inside hidden : Inside} → Matched tokens inside → (o : Token) → Opening o → Matched within hidden → (c : Token) → Closing c → Matched (tokens ++ (o ∷ within ++ c ∷ [])) (o ∷ inside)

-- the same of the whole text, where brackets that close nothing may stand between
pub data Outermost : List Token → Inside → Type 0 where
  start : Outermost [] []
  matched : {tokens more : List Token} {inside later : Inside} → Outermost tokens inside → Matched more later → Outermost (tokens ++ more) (later ++ inside)
  stray : {tokens : List Token} {inside : Inside} → Outermost tokens inside → (c : Token) → Closing c → Outermost (tokens ++ c ∷ []) (c ∷ inside)

-- in these tokens these stand directly in each bracket that opens and does not close, and directly in the whole text
pub data Stands : List Token → Levels Inside → Type 0 where
  whole : {tokens : List Token} {inside : Inside} → Outermost tokens inside → Stands tokens (record { innermost = inside; around = [] })
  opened : {tokens within : List Token} {levels : Levels Inside} {inside : Inside} → Stands tokens levels → (o : Token) → Opening o → Matched within inside → Stands (tokens ++ o ∷ within) (record { innermost = inside; around = (o ∷ levels.innermost) ∷ levels.around })
