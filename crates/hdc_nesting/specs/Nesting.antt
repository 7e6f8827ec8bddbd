-- The nesting of tokens.
use Rattle.std.specs.Prelude.{ℕ, ◌+◌, ◌<◌, ◌≤◌, List, [], ◌∷◌, length, map, take, sum}
use Rattle.std.specs.List.{fold, count_by, take_while}
use Rattle.hdc_base.specs.declared.token.Token.{Token}
use Rattle.hdc_nesting.specs.declared.role.Role.{Role}
use Rattle.hdc_nesting.specs.declared.role.Role.TheVariants as role
use Rattle.hdc_nesting.specs.Roles.{role_of, counts, joins}

-- something of the innermost open bracket or brace, and of each of those around it, from the inside out; the last of all
-- is that of the whole text, which is the innermost where nothing is open
pub record Levels (A : Type 0) : Type 0 where
  pub innermost : A
  pub around : List A

-- the tokens that stand directly in a bracket, from the last to the first
abbrev pub Inside : Type 0
Inside = List Token

-- before the first token nothing stands in the whole text
abbrev pub nothing : Levels Inside
nothing = record { innermost = []; around = [] }

-- a token stands directly in the innermost
abbrev pub stands_in : Token → Levels Inside → Levels Inside
stands_in t levels = record { innermost = t ∷ levels.innermost; around = levels.around }

-- a bracket with nothing in it opens in the innermost
abbrev pub opens_in : Levels Inside → Levels Inside
opens_in levels = record { innermost = []; around = levels.innermost ∷ levels.around }

-- the innermost closes, unless that is the whole text
abbrev pub closes : Inside → List Inside → Levels Inside
closes inside [] = record { innermost = inside; around = [] }
closes inside (outer ∷ around) = record { innermost = outer; around = around }

-- behind a token: it stands in the innermost before it, and then opens or closes
abbrev pub behind : Token → Role → Levels Inside → Levels Inside
behind t role.Opens levels = opens_in (stands_in t levels)
behind t role.Closes levels = closes (t ∷ levels.innermost) levels.around
behind t role.Counts levels = stands_in t levels
behind t role.Separates levels = stands_in t levels
behind t role.Other levels = stands_in t levels

-- what stands directly in each bracket that is open behind the tokens, and directly in the whole text
abbrev pub insides : List Token → Levels Inside
insides tokens = fold (λ levels t. behind t (role_of t.word) levels) nothing tokens

-- how many of \ @ `if` `case` `let` stand directly in a bracket behind the last ; or , directly in it
abbrev pub count : Inside → ℕ
count inside = count_by (λ t. counts (role_of t.word)) (take_while (λ t. joins (role_of t.word)) inside)

-- one for each open bracket, and the counts of these and of the whole text
abbrev pub nesting_in : Levels Inside → ℕ
nesting_in levels = length levels.around + sum (map count (levels.innermost ∷ levels.around))

-- the nesting of a token that comes behind the tokens
abbrev pub nesting_after : List Token → ℕ
nesting_after tokens = nesting_in (insides tokens)

-- the nesting of the token at a place
abbrev pub nesting : List Token → ℕ → ℕ
nesting tokens i = nesting_after (take i tokens)

-- the token at the place is the first whose nesting passes the limit
pub record IsFirstPast (limit : ℕ) (tokens : List Token) (i : ℕ) : Type 0 where
  pub within : i < length tokens
  pub passes : limit < nesting tokens i
  pub first : (k : ℕ) → k < i → nesting tokens k ≤ limit

-- the nesting of no token passes the limit
abbrev pub NonePasses : ℕ → List Token → Type 0
NonePasses limit tokens = (k : ℕ) → k < length tokens → nesting tokens k ≤ limit
