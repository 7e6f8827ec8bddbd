-- What tokens are to the layout.
use Rattle.std.specs.Prelude.{Bool, true, false}
use Rattle.hdc_base.specs.declared.token.Key.{Key}
use Rattle.hdc_base.specs.declared.token.Key.TheVariants as key
use Rattle.hdc_base.specs.declared.token.Word.{Word}
use Rattle.hdc_base.specs.declared.token.Word.TheVariants as word
use Rattle.hdc_layout.specs.declared.role.Role.{Role}
use Rattle.hdc_layout.specs.declared.role.Role.TheVariants as role
use Rattle.hdc_layout.specs.declared.role.Opener.{Opener}
use Rattle.hdc_layout.specs.declared.role.Opener.TheVariants as opener
use Rattle.hdc_layout.specs.declared.role.Answer.{Answer}
use Rattle.hdc_layout.specs.declared.role.Answer.TheVariants as answer

-- the braces, the openers, the answers, `where` and `module`; the others are nothing to the layout
abbrev pub key_role : Key → Role
key_role key.KOpenBrace = role.OpenBrace
key_role key.KCloseBrace = role.CloseBrace
key_role key.KLet = role.Opens opener.Let
key_role key.KIf = role.Opens opener.If
key_role key.KCase = role.Opens opener.Case
key_role key.KOpenParen = role.Opens opener.Paren
key_role key.KOpenBracket = role.Opens opener.Bracket
key_role key.KIn = role.Answers answer.In
key_role key.KThen = role.Answers answer.Then
key_role key.KElse = role.Answers answer.Else
key_role key.KOf = role.Answers answer.Of
key_role key.KCloseParen = role.Answers answer.CloseParen
key_role key.KCloseBracket = role.Answers answer.CloseBracket
key_role key.KComma = role.Answers answer.Comma
key_role key.KWhere = role.Where
key_role key.KModule = role.Module
key_role key.KClass = role.Other
key_role key.KData = role.Other
key_role key.KDefault = role.Other
key_role key.KDeriving = role.Other
key_role key.KDo = role.Other
key_role key.KImport = role.Other
key_role key.KInfix = role.Other
key_role key.KInfixl = role.Other
key_role key.KInfixr = role.Other
key_role key.KInstance = role.Other
key_role key.KNewtype = role.Other
key_role key.KType = role.Other
key_role key.KUnderscore = role.Other
key_role key.KDots = role.Other
key_role key.KColon = role.Other
key_role key.KDoubleColon = role.Other
key_role key.KEqual = role.Other
key_role key.KBackslash = role.Other
key_role key.KBar = role.Other
key_role key.KLeftArrow = role.Other
key_role key.KRightArrow = role.Other
key_role key.KAt = role.Other
key_role key.KTilde = role.Other
key_role key.KDoubleArrow = role.Other
key_role key.KSemicolon = role.Other
key_role key.KBackquote = role.Other

-- a name and a literal are nothing to the layout
abbrev pub role_of : Word → Role
role_of (word.Key k) = key_role k
role_of (word.Var name) = role.Other
role_of (word.Con name) = role.Other
role_of (word.Sym name) = role.Other
role_of (word.Num n) = role.Other
role_of (word.Chr code) = role.Other
role_of (word.Str codes) = role.Other

-- a block begins behind `let`, `where` and `of`
abbrev pub begins_block : Role → Bool
begins_block (role.Opens opener.Let) = true
begins_block role.Where = true
begins_block (role.Answers answer.Of) = true
begins_block (role.Opens opener.If) = false
begins_block (role.Opens opener.Then) = false
begins_block (role.Opens opener.Case) = false
begins_block (role.Opens opener.Paren) = false
begins_block (role.Opens opener.Bracket) = false
begins_block (role.Answers answer.In) = false
begins_block (role.Answers answer.Then) = false
begins_block (role.Answers answer.Else) = false
begins_block (role.Answers answer.CloseParen) = false
begins_block (role.Answers answer.CloseBracket) = false
begins_block (role.Answers answer.Comma) = false
begins_block role.OpenBrace = false
begins_block role.CloseBrace = false
begins_block role.Module = false
begins_block role.Other = false

-- the token is a {
abbrev pub is_open_brace : Role → Bool
is_open_brace role.OpenBrace = true
is_open_brace role.CloseBrace = false
is_open_brace (role.Opens o) = false
is_open_brace (role.Answers a) = false
is_open_brace role.Where = false
is_open_brace role.Module = false
is_open_brace role.Other = false

-- the token is `module`
abbrev pub is_module : Role → Bool
is_module role.Module = true
is_module role.OpenBrace = false
is_module role.CloseBrace = false
is_module (role.Opens o) = false
is_module (role.Answers a) = false
is_module role.Where = false
is_module role.Other = false

-- the token is `where`
abbrev pub is_where : Role → Bool
is_where role.Where = true
is_where role.OpenBrace = false
is_where role.CloseBrace = false
is_where (role.Opens o) = false
is_where (role.Answers a) = false
is_where role.Module = false
is_where role.Other = false

-- the opener is a ( or a [
abbrev pub is_bracket : Opener → Bool
is_bracket opener.Paren = true
is_bracket opener.Bracket = true
is_bracket opener.Let = false
is_bracket opener.If = false
is_bracket opener.Then = false
is_bracket opener.Case = false

-- `in` answers `let`, `then` answers `if`, `else` answers `then`, `of` answers `case`, ) answers (, ] answers [, and a
-- comma answers ( and [
abbrev pub answers : Answer → Opener → Bool
answers answer.In opener.Let = true
answers answer.Then opener.If = true
answers answer.Else opener.Then = true
answers answer.Of opener.Case = true
answers answer.CloseParen opener.Paren = true
answers answer.CloseBracket opener.Bracket = true
answers answer.Comma opener.Paren = true
answers answer.Comma opener.Bracket = true
answers answer.In opener.If = false
answers answer.In opener.Then = false
answers answer.In opener.Case = false
answers answer.In opener.Paren = false
answers answer.In opener.Bracket = false
answers answer.Then opener.Let = false
answers answer.Then opener.Then = false
answers answer.Then opener.Case = false
answers answer.Then opener.Paren = false
answers answer.Then opener.Bracket = false
answers answer.Else opener.Let = false
answers answer.Else opener.If = false
answers answer.Else opener.Case = false
answers answer.Else opener.Paren = false
answers answer.Else opener.Bracket = false
answers answer.Of opener.Let = false
answers answer.Of opener.If = false
answers answer.Of opener.Then = false
answers answer.Of opener.Paren = false
answers answer.Of opener.Bracket = false
answers answer.CloseParen opener.Let = false
answers answer.CloseParen opener.If = false
answers answer.CloseParen opener.Then = false
answers answer.CloseParen opener.Case = false
answers answer.CloseParen opener.Bracket = false
answers answer.CloseBracket opener.Let = false
answers answer.CloseBracket opener.If = false
answers answer.CloseBracket opener.Then = false
answers answer.CloseBracket opener.Case = false
answers answer.CloseBracket opener.Paren = false
answers answer.Comma opener.Let = false
answers answer.Comma opener.If = false
answers answer.Comma opener.Then = false
answers answer.Comma opener.Case = false
