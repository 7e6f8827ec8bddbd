-- Tokens that a grammar may have.
use Rattle.std.specs.Prelude.{ℕ, Bool, true, false, not, ◌&&◌, ◌==◌, List, [], ◌∷◌, length}
use Rattle.std.specs.List.{take_while}
use Rattle.hdc_base.specs.declared.token.Word.{Word}
use Rattle.hdc_base.specs.declared.token.Word.TheVariants as word
use Rattle.hdc_base.specs.declared.token.Token.{Token}

-- a name of symbols that begins with : has no production; its first byte is 58
abbrev pub begins_with_colon : List ℕ → Bool
begins_with_colon [] = false
begins_with_colon (c ∷ cs) = c == 58

abbrev pub regular_word : Word → Bool
regular_word (word.Sym text) = not (begins_with_colon text)
regular_word (word.Var text) = true
regular_word (word.Con text) = true
regular_word (word.Num n) = true
regular_word (word.Chr code) = true
regular_word (word.Str codes) = true
regular_word (word.Key k) = true

-- a token that is no name of symbols that begins with :
abbrev pub regular : Token → Bool
regular t = regular_word t.word

abbrev pub all_regular : List Token → Bool
all_regular [] = true
all_regular (t ∷ ts) = regular t && all_regular ts

-- how many tokens stand before the first that is not regular
abbrev pub regular_count : List Token → ℕ
regular_count ts = length (take_while regular ts)
