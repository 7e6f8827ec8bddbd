-- How names, operators and literals are spelled. Each puts its tokens before those that follow.
use Rattle.std.specs.Prelude.{List, [], ◌∷◌, codes}
use Rattle.hdc_base.specs.declared.place.At.{At}
use Rattle.hdc_base.specs.declared.token.Key.{Key}
use Rattle.hdc_base.specs.declared.token.Key.TheVariants as key
use Rattle.hdc_base.specs.declared.token.Word as text_word
use Rattle.hdc_base.specs.declared.token.Word.TheVariants as word
use Rattle.hdc_base.specs.declared.token.Token as text_token
use Rattle.hdc_tree.specs.declared.name.Name.{Name}
use Rattle.hdc_tree.specs.declared.name.Var.{Var}
use Rattle.hdc_tree.specs.declared.name.Var.TheVariants as var
use Rattle.hdc_tree.specs.declared.name.VarOp.{VarOp}
use Rattle.hdc_tree.specs.declared.name.VarOp.TheVariants as var_op
use Rattle.hdc_tree.specs.declared.name.Op.{Op}
use Rattle.hdc_tree.specs.declared.name.Op.TheVariants as op
use Rattle.hdc_tree.specs.declared.name.Sign.{Sign}
use Rattle.hdc_tree.specs.declared.name.Sign.TheVariants as sign
use Rattle.hdc_tree.specs.declared.name.CommaVar.{CommaVar}
use Rattle.hdc_tree.specs.declared.name.Literal.{Literal}
use Rattle.hdc_tree.specs.declared.name.Literal.TheVariants as literal

-- what puts tokens before others
abbrev pub Puts : Type 0
Puts = List text_token.Token → List text_token.Token

-- a token of a word at a place
abbrev pub word_onto : At → text_word.Word → Puts
word_onto at w k = record { at = at; word = w } ∷ k

abbrev pub key_onto : At → Key → Puts
key_onto at k rest = word_onto at (word.Key k) rest

-- a name that begins with a small letter or _, one that begins with a capital letter, and a name of symbols
abbrev pub small_onto : Name → Puts
small_onto n k = word_onto n.at (word.Var n.text) k

abbrev pub capital_onto : Name → Puts
capital_onto n k = word_onto n.at (word.Con n.text) k

abbrev pub symbol_onto : Name → Puts
symbol_onto n k = word_onto n.at (word.Sym n.text) k

-- the sign -
abbrev pub minus_onto : At → Puts
minus_onto at k = word_onto at (word.Sym (codes "-")) k

abbrev pub var_onto : Var → Puts
var_onto (var.Plain n) k = small_onto n k
var_onto (var.Operator o n c) k = key_onto o key.KOpenParen (symbol_onto n (key_onto c key.KCloseParen k))

abbrev pub var_op_onto : VarOp → Puts
var_op_onto (var_op.Symbol n) k = symbol_onto n k
var_op_onto (var_op.Quoted o n c) k = key_onto o key.KBackquote (small_onto n (key_onto c key.KBackquote k))

abbrev pub op_onto : Op → Puts
op_onto (op.Var v) k = var_op_onto v k
op_onto (op.Cons at) k = key_onto at key.KColon k
op_onto (op.Con o n c) k = key_onto o key.KBackquote (capital_onto n (key_onto c key.KBackquote k))

abbrev pub literal_word : Literal → text_word.Word
literal_word (literal.Num n) = word.Num n
literal_word (literal.Chr code) = word.Chr code
literal_word (literal.Str codes) = word.Str codes

abbrev pub literal_onto : At → Literal → Puts
literal_onto at l k = word_onto at (literal_word l) k

abbrev pub sign_onto : Sign → Puts
sign_onto sign.Absent k = k
sign_onto (sign.Minus at) k = minus_onto at k

abbrev pub comma_var_onto : CommaVar → Puts
comma_var_onto c k = key_onto c.comma key.KComma (var_onto c.var k)

-- all of a list, in order
abbrev pub all_onto : List Puts → Puts
all_onto [] k = k
all_onto (x ∷ xs) k = x (all_onto xs k)

abbrev pub each_onto : {A : Type 0} → (A → Puts) → List A → Puts
each_onto onto [] k = k
each_onto onto (x ∷ xs) k = onto x (each_onto onto xs k)
