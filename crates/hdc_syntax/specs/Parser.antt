-- Parsers over lists of tokens, and the steps that every rule is made of.
use Rattle.std.specs.Prelude.{◌≡◌, ℕ, zero, suc, Bool, true, false, nat_le, if◌then◌else◌, List, [], ◌∷◌, ◌++◌, length, Option, Some, None, Result, Ok, Err}
use Rattle.hdc_base.specs.declared.token.Token.{Token}
use Rattle.hdc_syntax.specs.declared.stop.Stop.{Stop}
use Rattle.hdc_syntax.specs.declared.stop.Stop.TheVariants.{Want, Deep, Syntax}

-- a value and the tokens behind it, or why there is none
abbrev pub Outcome : Type 0 → Type 0
Outcome A = Result (A × List Token) Stop

abbrev pub Parser : Type 0 → Type 0
Parser A = List Token → Outcome A

abbrev pub and_then : {A B : Type 0} → Outcome A → (A → Parser B) → Outcome B
and_then (Ok p) f = f p.0 p.1
and_then (Err e) f = Err e

-- one after another
infixl 10 ◌>>=◌
abbrev pub ◌>>=◌ : {A B : Type 0} → Parser A → (A → Parser B) → Parser B
p >>= f = λ i. and_then (p i) f

infixl 10 ◌>>◌
abbrev pub ◌>>◌ : {A B : Type 0} → Parser A → Parser B → Parser B
p >> q = p >>= (λ _. q)

-- a value, before any token
abbrev pub pure : {A : Type 0} → A → Parser A
pure a = λ i. Ok (a, i)

-- no text goes on with the next token
abbrev pub refuse : {A : Type 0} → Parser A
refuse = λ i. Err (Syntax (length i))

-- the text has more parts in a row, or nests deeper, than the parser was told
abbrev pub too_deep : {A : Type 0} → Parser A
too_deep = λ i. Err Deep

abbrev pub head : List Token → Option Token
head [] = None
head (c ∷ cs) = Some c

-- the next token, which stays
abbrev pub peek : Parser (Option Token)
peek = λ i. Ok (head i, i)

abbrev pub token_by : {A : Type 0} → Option A → Token → Parser A
token_by (Some a) c cs = Ok (a, cs)
token_by None c cs = Err (Syntax (suc (length cs)))

-- a token that f gives a value
abbrev pub token : {A : Type 0} → (Token → Option A) → Parser A
token f [] = Err (Syntax 0)
token f (c ∷ cs) = token_by (f c) c cs

-- the further of two refusals
abbrev pub further : {A : Type 0} → Stop → Stop → Outcome A
further (Syntax m) (Syntax n) = Err (Syntax (if nat_le m n then m else n))
further (Syntax m) stop = Err stop
further stop other = Err stop

abbrev pub or_else : {A : Type 0} → Outcome A → Outcome A → Outcome A
or_else (Ok x) o = Ok x
or_else (Err (Syntax m)) (Ok y) = Ok y
or_else (Err (Syntax m)) (Err e) = further (Syntax m) e
or_else (Err e) o = Err e

-- p, or else q; where neither goes on, the refusal that stands further on
abbrev pub either : {A : Type 0} → Parser A → Parser A → Parser A
either p q = λ i. or_else (p i) (q i)

-- while the next token starts an item, an item; the number bounds the turns
abbrev pub many_from : {A : Type 0} → (Option Token → Bool) → Parser A → ℕ → List A → Parser (List A)
many_from starts item zero found = too_deep
many_from starts item (suc n) found = peek >>= (λ c. if starts c then (item >>= (λ x. many_from starts item n (found ++ x ∷ []))) else pure found)

-- the same, but at most so many items
abbrev pub at_most_from : {A : Type 0} → (Option Token → Bool) → Parser A → ℕ → List A → Parser (List A)
at_most_from starts item zero found = pure found
at_most_from starts item (suc n) found = peek >>= (λ c. if starts c then (item >>= (λ x. at_most_from starts item n (found ++ x ∷ []))) else pure found)
