-- The laid-out tokens of a list of tokens.
use Rattle.std.specs.Prelude.{◌≡◌, List, [], ◌∷◌, ◌⊎◌, Result, Ok, Err}
use Rattle.hdc_base.specs.declared.place.At.{At}
use Rattle.hdc_base.specs.declared.token.Key.TheVariants as key
use Rattle.hdc_base.specs.declared.token.Word.{Word}
use Rattle.hdc_base.specs.declared.token.Word.TheVariants as word
use Rattle.hdc_base.specs.declared.token.Token.{Token}
use Rattle.hdc_layout.specs.declared.mark.Before.TheVariants as before
use Rattle.hdc_layout.specs.declared.stop.LayoutStop.{LayoutStop}
use Rattle.hdc_layout.specs.declared.stop.LayoutStop.TheVariants as stop
use Rattle.hdc_layout.specs.Marks.{marked_list}
use Rattle.hdc_layout.specs.Rules.{Laid, given, inserted, LaidResult, apply}

-- the answer for the tokens of a text and its end, which tells given tokens from inserted ones
abbrev pub laid_list : List Token → At → LaidResult
laid_list tokens end = apply (marked_list before.Beginning tokens end) end []

-- given and inserted tokens alike
abbrev pub tokens_of : List Laid → List Token
tokens_of [] = []
tokens_of (given t ∷ laid) = t ∷ tokens_of laid
tokens_of (inserted t ∷ laid) = t ∷ tokens_of laid

-- the given tokens alone
abbrev pub without_inserted : List Laid → List Token
without_inserted [] = []
without_inserted (given t ∷ laid) = t ∷ without_inserted laid
without_inserted (inserted t ∷ laid) = without_inserted laid

-- an answer that does not tell given tokens from inserted ones
abbrev pub forget : LaidResult → Result (List Token) At
forget (Ok laid) = Ok (tokens_of laid)
forget (Err at) = Err at

-- the laid-out tokens, or the place of the brace
abbrev pub laid_out : List Token → At → Result (List Token) At
laid_out tokens end = forget (laid_list tokens end)

-- a result has the laid-out tokens, or the place of the brace; want of memory tells nothing
abbrev pub IsLaidOut : Result (List Token) At → Result (List Token) LayoutStop → Type 0
IsLaidOut answer (Ok laid) = answer ≡ Ok laid
IsLaidOut answer (Err (stop.Brace at)) = answer ≡ Err at
IsLaidOut answer (Err stop.Want) = Unit {0}

-- the place of the next token of the text, or the end
abbrev pub next_place : List Laid → At → At
next_place [] end = end
next_place (given t ∷ laid) end = t.at
next_place (inserted t ∷ laid) end = next_place laid end

-- a brace or a semicolon
abbrev pub IsInsertion : Word → Type 0
IsInsertion w = (w ≡ word.Key key.KOpenBrace) ⊎ ((w ≡ word.Key key.KCloseBrace) ⊎ (w ≡ word.Key key.KSemicolon))

-- each inserted token is a brace or a semicolon, and has the place of the token of the text before which it stands, or
-- of the end
abbrev pub ArePlaced : List Laid → At → Type 0
ArePlaced [] end = Unit {0}
ArePlaced (given t ∷ laid) end = ArePlaced laid end
ArePlaced (inserted t ∷ laid) end = (t.at ≡ next_place laid end) × IsInsertion t.word × ArePlaced laid end

-- the answer has its inserted tokens in their places
abbrev pub PlacesInserted : List Token → At → Type 0
PlacesInserted tokens end = (laid : List Laid) → laid_list tokens end ≡ Ok laid → ArePlaced laid end

-- without the inserted tokens the answer is the given list
abbrev pub KeepsTokens : List Token → At → Type 0
KeepsTokens tokens end = (laid : List Laid) → laid_list tokens end ≡ Ok laid → without_inserted laid ≡ tokens
