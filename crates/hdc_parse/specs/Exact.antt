-- Which tokens are a program, and where tokens that are none are refused.
use Rattle.std.specs.Prelude.{◌≡◌, ℕ, zero, suc, ◌+◌, ◌-◌, ◌<◌, ◌≤◌, true, List, [], ◌∷◌, ◌++◌, length, take, drop, Ok, Err}
use Rattle.hdc_base.specs.declared.place.At.{At}
use Rattle.hdc_base.specs.declared.token.Token.{Token}
use Rattle.hdc_nesting.specs.Nesting.{nesting, IsFirstPast, NonePasses}
use Rattle.hdc_tree.specs.declared.program.Tree.{Tree}
use Rattle.hdc_tree.specs.ProgramSpelling.{spell}
use Rattle.hdc_tree.specs.ProgramForm.{formed_tree}
use Rattle.hdc_syntax.specs.declared.stop.Stop.TheVariants.{Want, Deep, Syntax}
use Rattle.hdc_syntax.specs.Parser.{Outcome}
use Rattle.hdc_syntax.specs.Regular.{all_regular}

-- the tree has what the grammar asks for beyond its shape, and no name of symbols in it begins with :
pub record IsWellFormed (tree : Tree) : Type 0 where
  pub formed : formed_tree tree ≡ true
  pub regular : all_regular (spell tree) ≡ true

-- the spelling of some tree begins with these tokens
pub record Begun (tokens : List Token) : Type 0 where
  pub tree : Tree
  pub more : List Token
  pub well_formed : IsWellFormed tree
  pub spelled : spell tree ≡ tokens ++ more

-- No spelling goes on with the token that follows. The end follows a whole spelling alone.
abbrev pub Blocked : List Token → List Token → Type 0
Blocked front [] = (tree : Tree) → IsWellFormed tree → spell tree ≡ front → ⊥
Blocked front (token ∷ tokens) = Begun (front ++ token ∷ []) → ⊥

-- i is the least number such that no spelling begins with the tokens up to i; the end counts as one last token
pub record Fails (tokens : List Token) (i : ℕ) : Type 0 where
  pub within : i ≤ length tokens
  pub begun : Begun (take i tokens)
  pub blocked : Blocked (take i tokens) (drop i tokens)

-- how deep a token may nest
abbrev pub most_nesting : ℕ
most_nesting = 256

-- the place of a token, and of the end behind the last
abbrev pub place_of : List Token → At → ℕ → At
place_of [] end i = end
place_of (token ∷ tokens) end zero = token.at
place_of (token ∷ tokens) end (suc i) = place_of tokens end i

-- the tokens are the spelling of the tree, and none nests too deep
pub record IsParsed (tokens : List Token) (tree : Tree) : Type 0 where
  pub well_formed : IsWellFormed tree
  pub spelled : spell tree ≡ tokens
  pub nests : NonePasses most_nesting tokens

-- at the place no spelling goes on, and no token before it nests too deep
pub record IsSyntax (tokens : List Token) (end at : At) : Type 0 where
  pub i : ℕ
  pub fails : Fails tokens i
  pub nests : (k : ℕ) → k < i → nesting tokens k ≤ most_nesting
  pub place : at ≡ place_of tokens end i

-- the token at the place is the first that nests too deep, and a spelling begins with the tokens up to it
pub record IsNesting (tokens : List Token) (end at : At) : Type 0 where
  pub i : ℕ
  pub first : IsFirstPast most_nesting tokens i
  pub begun : Begun (take (i + 1) tokens)
  pub place : at ≡ place_of tokens end i

-- a tree and nothing behind it where the tokens spell one, and else the refusal at the least token with which no spelling
-- goes on; the number of a refusal counts the tokens from it on
abbrev pub ExactFor : List Token → Outcome Tree → Type 0
ExactFor tokens (Ok (tree, rest)) = IsWellFormed tree × (spell tree ≡ tokens) × (rest ≡ [])
ExactFor tokens (Err (Syntax n)) = (n ≤ length tokens) × Fails tokens (length tokens - n)
ExactFor tokens (Err Deep) = ⊥
ExactFor tokens (Err Want) = ⊥
