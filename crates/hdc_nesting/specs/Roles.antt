-- What tokens are to the nesting.
use Rattle.std.specs.Prelude.{Bool, true, false}
use Rattle.hdc_base.specs.declared.token.Key.{Key}
use Rattle.hdc_base.specs.declared.token.Key.TheVariants as key
use Rattle.hdc_base.specs.declared.token.Word.{Word}
use Rattle.hdc_base.specs.declared.token.Word.TheVariants as word
use Rattle.hdc_nesting.specs.declared.role.Role.{Role}
use Rattle.hdc_nesting.specs.declared.role.Role.TheVariants as role

-- ( [ { open, ) ] } close, \ @ `if` `case` `let` count, and ; and , separate; the others are nothing to the nesting
abbrev pub key_role : Key → Role
key_role key.KOpenParen = role.Opens
key_role key.KOpenBracket = role.Opens
key_role key.KOpenBrace = role.Opens
key_role key.KCloseParen = role.Closes
key_role key.KCloseBracket = role.Closes
key_role key.KCloseBrace = role.Closes
key_role key.KBackslash = role.Counts
key_role key.KAt = role.Counts
key_role key.KIf = role.Counts
key_role key.KCase = role.Counts
key_role key.KLet = role.Counts
key_role key.KSemicolon = role.Separates
key_role key.KComma = role.Separates
key_role _ = role.Other

-- a name and a literal are nothing to the nesting
abbrev pub role_of : Word → Role
role_of (word.Key k) = key_role k
role_of _ = role.Other

-- the token counts
abbrev pub counts : Role → Bool
counts role.Counts = true
counts _ = false

-- the token does not separate
abbrev pub joins : Role → Bool
joins role.Separates = false
joins _ = true
