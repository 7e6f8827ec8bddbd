-- The steps of a rule, for proofs that read like the rule.
use Rattle.std.proofs.Common.{◌≡◌, ℕ, zero, suc, ◌<◌, Bool, true, false, cond, eqb, List, [], ◌∷◌, ◌++◌, Option, Some, None, codes, refl, sym, ◌∙◌, ap, subst, arith}
use Rattle.std.proofs.lemmas.Bool.Decides.{nat_tests}
use Rattle.std.proofs.lemmas.Slice.Eq.{bytes_eq-Decides}
use Rattle.std.specs.Str.{bytes_eq}
use Rattle.hdc_base.specs.declared.place.At.{At}
use Rattle.hdc_base.specs.declared.token.Key.{Key}
use Rattle.hdc_base.specs.declared.token.Key.TheVariants as key
use Rattle.hdc_base.specs.declared.token.Word.{Word}
use Rattle.hdc_base.specs.declared.token.Word.TheVariants as word
use Rattle.hdc_base.specs.declared.token.Token.{Token}
use Rattle.hdc_tree.specs.declared.name.Name.{Name}
use Rattle.hdc_tree.specs.declared.name.Literal.{Literal}
use Rattle.hdc_tree.specs.declared.name.Literal.TheVariants as lit
use Rattle.hdc_tree.specs.NameSpelling.{Puts, word_onto, key_onto, small_onto, capital_onto, symbol_onto, minus_onto, literal_word, literal_onto}
use Rattle.hdc_syntax.specs.Parser.{Outcome, Parser, and_then, ◌>>=◌, ◌>>◌, pure, refuse, peek, token, either}
use Rattle.hdc_syntax.specs.Regular.{all_regular}
use Rattle.hdc_syntax.specs.Words.{code, key_word_at, key_at, fixed, small_word_at, small_of, small, capital_word_at, capital_of, capital, symbol_word_at, symbol_of, symbol, is_minus_text, minus_word_at, minus_of, minus, number_word_at, number_of, number, literal_word_at, literal_of, literal}
use Rattle.hdc_syntax.proofs.Good.{Good, Some_of, After, Token_of, good_bind, good_pure, good_peek, good_token, good_as}
use Rattle.hdc_syntax.proofs.Local.{Local, local_bind, local_peek, local_token}

-- ---- what a token that is taken is

abbrev numbered : ℕ → Key
numbered n = cond (eqb n 0) key.KCase (cond (eqb n 1) key.KClass (cond (eqb n 2) key.KData (cond (eqb n 3) key.KDefault (cond (eqb n 4) key.KDeriving (cond (eqb n 5) key.KDo (cond (eqb n 6) key.KElse (cond (eqb n 7) key.KIf (cond (eqb n 8) key.KImport (cond (eqb n 9) key.KIn (cond (eqb n 10) key.KInfix (cond (eqb n 11) key.KInfixl (cond (eqb n 12) key.KInfixr (cond (eqb n 13) key.KInstance (cond (eqb n 14) key.KLet (cond (eqb n 15) key.KModule (cond (eqb n 16) key.KNewtype (cond (eqb n 17) key.KOf (cond (eqb n 18) key.KThen (cond (eqb n 19) key.KType (cond (eqb n 20) key.KWhere (cond (eqb n 21) key.KUnderscore (cond (eqb n 22) key.KDots (cond (eqb n 23) key.KColon (cond (eqb n 24) key.KDoubleColon (cond (eqb n 25) key.KEqual (cond (eqb n 26) key.KBackslash (cond (eqb n 27) key.KBar (cond (eqb n 28) key.KLeftArrow (cond (eqb n 29) key.KRightArrow (cond (eqb n 30) key.KAt (cond (eqb n 31) key.KTilde (cond (eqb n 32) key.KDoubleArrow (cond (eqb n 33) key.KOpenParen (cond (eqb n 34) key.KCloseParen (cond (eqb n 35) key.KComma (cond (eqb n 36) key.KSemicolon (cond (eqb n 37) key.KOpenBracket (cond (eqb n 38) key.KCloseBracket (cond (eqb n 39) key.KOpenBrace (cond (eqb n 40) key.KCloseBrace (key.KBackquote)))))))))))))))))))))))))))))))))))))))))

decoded : (k : Key) → numbered (code k) ≡ k
decoded key.KCase = refl
decoded key.KClass = refl
decoded key.KData = refl
decoded key.KDefault = refl
decoded key.KDeriving = refl
decoded key.KDo = refl
decoded key.KElse = refl
decoded key.KIf = refl
decoded key.KImport = refl
decoded key.KIn = refl
decoded key.KInfix = refl
decoded key.KInfixl = refl
decoded key.KInfixr = refl
decoded key.KInstance = refl
decoded key.KLet = refl
decoded key.KModule = refl
decoded key.KNewtype = refl
decoded key.KOf = refl
decoded key.KThen = refl
decoded key.KType = refl
decoded key.KWhere = refl
decoded key.KUnderscore = refl
decoded key.KDots = refl
decoded key.KColon = refl
decoded key.KDoubleColon = refl
decoded key.KEqual = refl
decoded key.KBackslash = refl
decoded key.KBar = refl
decoded key.KLeftArrow = refl
decoded key.KRightArrow = refl
decoded key.KAt = refl
decoded key.KTilde = refl
decoded key.KDoubleArrow = refl
decoded key.KOpenParen = refl
decoded key.KCloseParen = refl
decoded key.KComma = refl
decoded key.KSemicolon = refl
decoded key.KOpenBracket = refl
decoded key.KCloseBracket = refl
decoded key.KOpenBrace = refl
decoded key.KCloseBrace = refl
decoded key.KBackquote = refl

-- a key is known by its number
pub same_key : (k c : Key) → eqb (code c) (code k) ≡ true → c ≡ k
same_key k c e = let same : code c ≡ code k = grind (arith, nat_tests) in sym (decoded c) ∙ ap numbered same ∙ decoded k

abbrev held : {A : Type 0} → A → Bool → Option A
held x b = cond b (Some x) None

held_is : {A : Type 0} (x y : A) (b : Bool) → held x b ≡ Some y → (b ≡ true) × (x ≡ y)
held_is x y true e = (refl, cc)
held_is x y false e = absurd (cc)

-- a token of a place and a word
abbrev pub token_of : At → Word → Token
token_of at w = record { at = at; word = w }

token_is : (d : Token) (at : At) (w : Word) → d.at ≡ at → d.word ≡ w → d ≡ token_of at w
token_is d at w e f = ap (λ z. token_of z d.word) e ∙ ap (token_of at) f

key_word_is : (k : Key) (w : Word) (there at : At) → key_word_at k there w ≡ Some at → (there ≡ at) × (w ≡ word.Key k)
key_word_is k (word.Key c) there at e = let h = held_is there at (eqb (code c) (code k)) e in (h.1, ap word.Key (same_key k c h.0))
key_word_is k (word.Var x) there at e = absurd (cc)
key_word_is k (word.Con x) there at e = absurd (cc)
key_word_is k (word.Sym x) there at e = absurd (cc)
key_word_is k (word.Num x) there at e = absurd (cc)
key_word_is k (word.Chr x) there at e = absurd (cc)
key_word_is k (word.Str x) there at e = absurd (cc)

pub key_is : (k : Key) (d : Token) (at : At) → key_at k d ≡ Some at → d ≡ token_of at (word.Key k)
key_is k d at e = let h = key_word_is k d.word d.at at e in token_is d at (word.Key k) h.0 h.1

abbrev pub small_token : Name → Token
small_token n = token_of n.at (word.Var n.text)

small_word_is : (w : Word) (there : At) (n : Name) → small_word_at there w ≡ Some n → token_of there w ≡ small_token n
small_word_is (word.Var x) there n e = let h : record { at = there; text = x } ≡ n = cc in ap small_token h
small_word_is _ there n e = absurd (cc)

pub small_is : (d : Token) (n : Name) → small_of d ≡ Some n → d ≡ small_token n
small_is d n e = small_word_is d.word d.at n e

abbrev pub capital_token : Name → Token
capital_token n = token_of n.at (word.Con n.text)

capital_word_is : (w : Word) (there : At) (n : Name) → capital_word_at there w ≡ Some n → token_of there w ≡ capital_token n
capital_word_is (word.Con x) there n e = let h : record { at = there; text = x } ≡ n = cc in ap capital_token h
capital_word_is _ there n e = absurd (cc)

pub capital_is : (d : Token) (n : Name) → capital_of d ≡ Some n → d ≡ capital_token n
capital_is d n e = capital_word_is d.word d.at n e

abbrev pub symbol_token : Name → Token
symbol_token n = token_of n.at (word.Sym n.text)

symbol_word_is : (w : Word) (there : At) (n : Name) → symbol_word_at there w ≡ Some n → token_of there w ≡ symbol_token n
symbol_word_is (word.Sym x) there n e = let h : record { at = there; text = x } ≡ n = cc in ap symbol_token h
symbol_word_is _ there n e = absurd (cc)

pub symbol_is : (d : Token) (n : Name) → symbol_of d ≡ Some n → d ≡ symbol_token n
symbol_is d n e = symbol_word_is d.word d.at n e

abbrev pub minus_token : At → Token
minus_token at = token_of at (word.Sym (codes "-"))

minus_word_is : (w : Word) (there at : At) → minus_word_at there w ≡ Some at → token_of there w ≡ minus_token at
minus_word_is (word.Sym x) there at e = let h = held_is there at (is_minus_text x) e in ap (λ z. token_of z (word.Sym x)) h.1 ∙ ap (λ z. token_of at (word.Sym z)) ((bytes_eq-Decides x (codes "-")).0 h.0)
minus_word_is _ there at e = absurd (cc)

pub minus_is : (d : Token) (at : At) → minus_of d ≡ Some at → d ≡ minus_token at
minus_is d at e = minus_word_is d.word d.at at e

abbrev pub number_token : At × ℕ → Token
number_token n = token_of n.0 (word.Num n.1)

number_word_is : (w : Word) (there : At) (n : At × ℕ) → number_word_at there w ≡ Some n → token_of there w ≡ number_token n
number_word_is (word.Num x) there n e = let h : (there, x) ≡ n = cc in ap number_token h
number_word_is _ there n e = absurd (cc)

pub number_is : (d : Token) (n : At × ℕ) → number_of d ≡ Some n → d ≡ number_token n
number_is d n e = number_word_is d.word d.at n e

abbrev pub literal_token : At × Literal → Token
literal_token l = token_of l.0 (literal_word l.1)

literal_word_is : (w : Word) (there : At) (l : At × Literal) → literal_word_at there w ≡ Some l → token_of there w ≡ literal_token l
literal_word_is (word.Num x) there l e = let h : (there, lit.Num x) ≡ l = cc in ap literal_token h
literal_word_is (word.Chr x) there l e = let h : (there, lit.Chr x) ≡ l = cc in ap literal_token h
literal_word_is (word.Str x) there l e = let h : (there, lit.Str x) ≡ l = cc in ap literal_token h
literal_word_is _ there l e = absurd (cc)

pub literal_is : (d : Token) (l : At × Literal) → literal_of d ≡ Some l → d ≡ literal_token l
literal_is d l e = literal_word_is d.word d.at l e

-- ---- good steps

pub good_then : {A B : Type 0} {p : Parser A} {f : A → Parser B} {R : A → List Token → Type 0} {T : B → List Token → Type 0}
    → Good A p R → ((x : A) → Good B (f x) (After A B R T x)) → Good B (p >>= f) T
good_then {A} {B} {p} {f} {R} {T} g h = good_bind A B p f R T g h

-- a token with a value
module _ (A : Type 0) (f : Token → Option A) (back : A → Token) (inverse : (d : Token) (x : A) → f d ≡ Some x → d ≡ back x) (c : Token) (x : A) (some : f c ≡ Some x) (regular : all_regular (c ∷ []) ≡ true) where
  pub good_value : (B : Type 0) (g : A → Parser B) (T : B → List Token → Type 0) → ((y : A) → Good B (g y) (λ z v. T z (back y ∷ v))) → Good B (token f >>= g) T
  good_value B g T h = good_bind A B (token f) g (Token_of A f) T (good_token A f c x some regular)
      (λ y. good_as B (g y) (λ z v. T z (back y ∷ v)) (After A B (Token_of A f) T y) (h y)
      (λ z v r w k. subst (λ (u : List Token). T z (u ++ v)) (sym (k.1 ∙ ap (λ d. d ∷ []) (inverse k.0 y k.2))) r))

abbrev pub some_at : At
some_at = record { line = 1; col = 1 }

abbrev pub some_name : Name
some_name = record { at = some_at; text = [] }

key_takes : (k : Key) → key_at k (token_of some_at (word.Key k)) ≡ Some some_at
key_takes k = let e : eqb (code k) (code k) ≡ true = grind (arith, nat_tests) in ap (held some_at) e

pub good_key : {B : Type 0} {g : At → Parser B} {T : B → List Token → Type 0} (k : Key) → ((at : At) → Good B (g at) (λ y v. T y (key_onto at k v))) → Good B (fixed k >>= g) T
good_key {B} {g} {T} k h = good_value At (key_at k) (λ at. token_of at (word.Key k)) (key_is k) (token_of some_at (word.Key k)) some_at (key_takes k) refl B g T h

pub good_small : {B : Type 0} {g : Name → Parser B} {T : B → List Token → Type 0} → ((n : Name) → Good B (g n) (λ y v. T y (small_onto n v))) → Good B (small >>= g) T
good_small {B} {g} {T} h = good_value Name small_of small_token small_is (small_token some_name) some_name refl refl B g T h

pub good_capital : {B : Type 0} {g : Name → Parser B} {T : B → List Token → Type 0} → ((n : Name) → Good B (g n) (λ y v. T y (capital_onto n v))) → Good B (capital >>= g) T
good_capital {B} {g} {T} h = good_value Name capital_of capital_token capital_is (capital_token some_name) some_name refl refl B g T h

pub good_symbol : {B : Type 0} {g : Name → Parser B} {T : B → List Token → Type 0} → ((n : Name) → Good B (g n) (λ y v. T y (symbol_onto n v))) → Good B (symbol >>= g) T
good_symbol {B} {g} {T} h = good_value Name symbol_of symbol_token symbol_is (symbol_token some_name) some_name refl refl B g T h

pub good_minus : {B : Type 0} {g : At → Parser B} {T : B → List Token → Type 0} → ((at : At) → Good B (g at) (λ y v. T y (minus_onto at v))) → Good B (minus >>= g) T
good_minus {B} {g} {T} h = good_value At minus_of minus_token minus_is (minus_token some_at) some_at refl refl B g T h

pub good_number : {B : Type 0} {g : At × ℕ → Parser B} {T : B → List Token → Type 0} → ((n : At × ℕ) → Good B (g n) (λ y v. T y (word_onto n.0 (word.Num n.1) v))) → Good B (number >>= g) T
good_number {B} {g} {T} h = good_value (At × ℕ) number_of number_token number_is (number_token (some_at, 0)) (some_at, 0) refl refl B g T h

pub good_literal : {B : Type 0} {g : At × Literal → Parser B} {T : B → List Token → Type 0} → ((l : At × Literal) → Good B (g l) (λ y v. T y (literal_onto l.0 l.1 v))) → Good B (literal >>= g) T
good_literal {B} {g} {T} h = good_value (At × Literal) literal_of literal_token literal_is (literal_token (some_at, lit.Num 0)) (some_at, lit.Num 0) refl refl B g T h

pub good_look : {A : Type 0} {by : Option Token → Parser A} {R : A → List Token → Type 0} → ((c : Option Token) → Good A (by c) R) → Good A (peek >>= by) R
good_look {A} {by} {R} h = good_peek A by R h

pub good_if : {A : Type 0} {p q : Parser A} {R : A → List Token → Type 0} (b : Bool) → Good A p R → Good A q R → Good A (cond b p q) R
good_if true g h = g
good_if false g h = h

pub good_return : {A : Type 0} {R : A → List Token → Type 0} (x : A) → R x [] → Good A (pure x) R
good_return {A} {R} x r = good_pure A x R r

-- ---- local steps

pub local_then : {A B : Type 0} {p : Parser A} {f : A → Parser B} → Local A p → ((x : A) → Local B (f x)) → Local B (p >>= f)
local_then {A} {B} {p} {f} g h = local_bind A B p f g h

pub local_key : {B : Type 0} {g : At → Parser B} (k : Key) → ((at : At) → Local B (g at)) → Local B (fixed k >>= g)
local_key {B} {g} k h = local_bind At B (fixed k) g (local_token At (key_at k)) h

pub local_small : {B : Type 0} {g : Name → Parser B} → ((x : Name) → Local B (g x)) → Local B (small >>= g)
local_small {B} {g} h = local_bind Name B small g (local_token Name small_of) h

pub local_capital : {B : Type 0} {g : Name → Parser B} → ((x : Name) → Local B (g x)) → Local B (capital >>= g)
local_capital {B} {g} h = local_bind Name B capital g (local_token Name capital_of) h

pub local_symbol : {B : Type 0} {g : Name → Parser B} → ((x : Name) → Local B (g x)) → Local B (symbol >>= g)
local_symbol {B} {g} h = local_bind Name B symbol g (local_token Name symbol_of) h

pub local_minus : {B : Type 0} {g : At → Parser B} → ((x : At) → Local B (g x)) → Local B (minus >>= g)
local_minus {B} {g} h = local_bind At B minus g (local_token At minus_of) h

pub local_number : {B : Type 0} {g : At × ℕ → Parser B} → ((x : At × ℕ) → Local B (g x)) → Local B (number >>= g)
local_number {B} {g} h = local_bind (At × ℕ) B number g (local_token (At × ℕ) number_of) h

pub local_literal : {B : Type 0} {g : At × Literal → Parser B} → ((x : At × Literal) → Local B (g x)) → Local B (literal >>= g)
local_literal {B} {g} h = local_bind (At × Literal) B literal g (local_token (At × Literal) literal_of) h

pub local_look : {A : Type 0} {by : Option Token → Parser A} → ((c : Option Token) → Local A (by c)) → Local A (peek >>= by)
local_look {A} {by} h = local_peek A by h

pub local_if : {A : Type 0} {p q : Parser A} (b : Bool) → Local A p → Local A q → Local A (cond b p q)
local_if true g h = g
local_if false g h = h
