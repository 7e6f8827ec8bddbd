-- Words in which brackets match, and tokens divide only what stands in brackets.
use Rattle.std.proofs.Common.{◌≡◌, ℕ, zero, suc, ◌<◌, ◌≤◌, Bool, true, false, List, [], ◌∷◌, ◌++◌, map, length, ◌⊎◌, inl, inr, refl, sym, ◌∙◌, ap, subst, arith, append_assoc, append-nil, length-append, codes}
use Rattle.hdc_base.specs.declared.place.At.{At}
use Rattle.hdc_base.specs.declared.token.Key.{Key}
use Rattle.hdc_base.specs.declared.token.Key.TheVariants as key
use Rattle.hdc_base.specs.declared.token.Word.{Word}
use Rattle.hdc_base.specs.declared.token.Word.TheVariants as word
use Rattle.hdc_base.specs.declared.token.Token.{Token}
use Rattle.hdc_tree.specs.declared.name.Name.{Name}
use Rattle.hdc_tree.specs.declared.name.Var.{Var}
use Rattle.hdc_tree.specs.declared.name.Var.TheVariants as var
use Rattle.hdc_tree.specs.declared.name.VarOp.{VarOp}
use Rattle.hdc_tree.specs.declared.name.VarOp.TheVariants as var_op
use Rattle.hdc_tree.specs.declared.name.Op.{Op}
use Rattle.hdc_tree.specs.declared.name.Op.TheVariants as op
use Rattle.hdc_tree.specs.declared.name.Sign.{Sign}
use Rattle.hdc_tree.specs.declared.name.Sign.TheVariants as sign
use Rattle.hdc_tree.specs.declared.name.CommaVar.{CommaVar}
use Rattle.hdc_tree.specs.declared.name.Literal.{Literal}
use Rattle.hdc_tree.specs.declared.name.Literal.TheVariants as literal
use Rattle.hdc_tree.specs.NameSpelling.{Puts, word_onto, key_onto, small_onto, capital_onto, symbol_onto, minus_onto, var_onto, var_op_onto, op_onto, literal_onto, sign_onto, comma_var_onto, each_onto}

-- what a token does among others
pub data Role : Type 0 where
  plain : Role
  opens : Role
  closes : Role
  divides : Role

abbrev pub key_role : Key → Role
key_role key.KOpenParen = opens
key_role key.KOpenBracket = opens
key_role key.KOpenBrace = opens
key_role key.KCloseParen = closes
key_role key.KCloseBracket = closes
key_role key.KCloseBrace = closes
key_role key.KComma = divides
key_role key.KSemicolon = divides
key_role key.KBar = divides
key_role key.KLeftArrow = divides
key_role _ = plain

abbrev pub word_role : Word → Role
word_role (word.Key k) = key_role k
word_role _ = plain

-- brackets open and close; commas, semicolons, bars and left arrows divide
abbrev pub role : Token → Role
role c = word_role c.word

-- Brackets match; where the word is not free, no token divides outside brackets.
pub data Balanced : Bool → List Token → Type 0 where
  nothing : {free : Bool} → Balanced free []
  plainly : {free : Bool} (c : Token) (w : List Token) → role c ≡ plain → Balanced free w → Balanced free (c ∷ w)
  divided : (c : Token) (w : List Token) → role c ≡ divides → Balanced true w → Balanced true (c ∷ w)
  bracketed : {free : Bool} (o c : Token) (v w : List Token) → role o ≡ opens → role c ≡ closes → Balanced true v → Balanced free w → Balanced free (o ∷ (v ++ c ∷ w))

-- one word after another
pub balanced_both : {free : Bool} {v : List Token} (w : List Token) → Balanced free v → Balanced free w → Balanced free (v ++ w)
balanced_both w nothing d = d
balanced_both w (plainly c v r b) d = plainly c (v ++ w) r (balanced_both w b d)
balanced_both w (divided c v r b) d = divided c (v ++ w) r (balanced_both w b d)
balanced_both {free} w (bracketed o c u v r s a b) d = subst (λ z. Balanced free (o ∷ z)) (sym (append_assoc u (c ∷ v) w)) (bracketed o c u (v ++ w) r s a (balanced_both w b d))

-- a word that is not free may stand where one may be free
pub balanced_free : {free : Bool} {w : List Token} → Balanced free w → Balanced true w
balanced_free nothing = nothing
balanced_free (plainly c w r b) = plainly c w r (balanced_free b)
balanced_free (divided c w r b) = divided c w r b
balanced_free (bracketed o c v w r s a b) = bracketed o c v w r s a (balanced_free b)

-- the word of a value, of which brackets match
pub record BalancedWord (A : Type 0) (onto : A → Puts) (free : Bool) (x : A) : Type 0 where
  pub word : List Token
  pub spelled : (k : List Token) → onto x k ≡ word ++ k
  pub balanced : Balanced free word

-- ---- what puts such a word before a text

pub record Balances (free : Bool) (puts : Puts) : Type 0 where
  pub word : List Token
  pub spelled : (k : List Token) → puts k ≡ word ++ k
  pub balanced : Balanced free word

-- a value spelled by what puts such a word
pub word_by : {A : Type 0} {onto : A → Puts} {free : Bool} {x : A} {puts : Puts} → ((k : List Token) → onto x k ≡ puts k) → Balances free puts → BalancedWord A onto free x
word_by e b = record { word = b.word; spelled = λ k. e k ∙ b.spelled k; balanced = b.balanced }

pub put : {A : Type 0} {onto : A → Puts} {free : Bool} {x : A} → BalancedWord A onto free x → Balances free (onto x)
put b = record { word = b.word; spelled = b.spelled; balanced = b.balanced }

pub put_free : {A : Type 0} {onto : A → Puts} {x : A} → BalancedWord A onto false x → Balances true (onto x)
put_free b = record { word = b.word; spelled = b.spelled; balanced = balanced_free b.balanced }

pub put_loose : {puts : Puts} → Balances false puts → Balances true puts
put_loose b = record { word = b.word; spelled = b.spelled; balanced = balanced_free b.balanced }

pub put_none : (free : Bool) → Balances free (λ k. k)
put_none free = record { word = []; spelled = λ k. refl; balanced = nothing }

-- a word behind another
pub put_both : {free : Bool} {f g : Puts} → Balances free f → Balances free g → Balances free (λ k. f (g k))
put_both {free} {f} {g} a b = record {
  word = a.word ++ b.word;
  spelled = λ k. a.spelled (g k) ∙ ap (λ z. a.word ++ z) (b.spelled k) ∙ sym (append_assoc a.word b.word k);
  balanced = balanced_both b.word a.balanced b.balanced;
}

-- a token that is no bracket and does not divide; one that divides
pub put_word : (free : Bool) (at : At) (w : Word) → word_role w ≡ plain → Balances free (word_onto at w)
put_word free at w r = record { word = word_onto at w []; spelled = λ k. refl; balanced = plainly (record { at = at; word = w }) [] r nothing }

pub put_key : (free : Bool) (at : At) (k : Key) → key_role k ≡ plain → Balances free (key_onto at k)
put_key free at k r = put_word free at (word.Key k) r

pub put_divide : (at : At) (k : Key) → key_role k ≡ divides → Balances true (key_onto at k)
put_divide at k r = record { word = key_onto at k []; spelled = λ t. refl; balanced = divided (record { at = at; word = word.Key k }) [] r nothing }

-- a word in brackets
pub put_within : (free : Bool) (at : At) (k : Key) (end : At) (l : Key) {f : Puts} → key_role k ≡ opens → key_role l ≡ closes → Balances true f → Balances free (λ t. key_onto at k (f (key_onto end l t)))
put_within free at k end l {f} r s b = record {
  word = key_onto at k (b.word ++ key_onto end l []);
  spelled = λ t. ap (key_onto at k) (b.spelled (key_onto end l t) ∙ sym (append_assoc b.word (key_onto end l []) t));
  balanced = bracketed (record { at = at; word = word.Key k }) (record { at = end; word = word.Key l }) b.word [] r s b.balanced nothing;
}

-- of a list
pub put_each : {A : Type 0} {onto : A → Puts} {free : Bool} → ((x : A) → BalancedWord A onto free x) → (xs : List A) → Balances free (each_onto onto xs)
put_each {A} {onto} {free} known [] = put_none free
put_each {A} {onto} {free} known (x ∷ xs) = put_both (put (known x)) (put_each known xs)

-- of a list of values, each with what is known of it
module _ (A : Type 0) (onto : A → Puts) (free : Bool) (S : Type 0) (value : S → A) (known : (s : S) → BalancedWord A onto free (value s)) where
  pub put_all : (ys : List S) → Balances free (each_onto onto (map value ys))
  put_all [] = put_none free
  put_all (y ∷ ys) = put_both (put (known y)) (put_all ys)

-- names, operators and literals
pub put_small : (free : Bool) (n : Name) → Balances free (small_onto n)
put_small free n = put_word free n.at (word.Var n.text) refl

pub put_capital : (free : Bool) (n : Name) → Balances free (capital_onto n)
put_capital free n = put_word free n.at (word.Con n.text) refl

pub put_symbol : (free : Bool) (n : Name) → Balances free (symbol_onto n)
put_symbol free n = put_word free n.at (word.Sym n.text) refl

pub put_minus : (free : Bool) (at : At) → Balances free (minus_onto at)
put_minus free at = put_word free at (word.Sym (codes "-")) refl

pub put_literal : (free : Bool) (at : At) (l : Literal) → Balances free (literal_onto at l)
put_literal free at (literal.Num n) = put_word free at (word.Num n) refl
put_literal free at (literal.Chr c) = put_word free at (word.Chr c) refl
put_literal free at (literal.Str s) = put_word free at (word.Str s) refl

pub put_sign : (free : Bool) (s : Sign) → Balances free (sign_onto s)
put_sign free sign.Absent = put_none free
put_sign free (sign.Minus at) = put_minus free at

pub put_var : (free : Bool) (v : Var) → Balances free (var_onto v)
put_var free (var.Plain n) = put_small free n
put_var free (var.Operator at n end) = put_within free at key.KOpenParen end key.KCloseParen refl refl (put_symbol true n)

pub put_var_op : (free : Bool) (v : VarOp) → Balances free (var_op_onto v)
put_var_op free (var_op.Symbol n) = put_symbol free n
put_var_op free (var_op.Quoted at n end) = put_both (put_key free at key.KBackquote refl) (put_both (put_small free n) (put_key free end key.KBackquote refl))

pub put_op : (free : Bool) (y : Op) → Balances free (op_onto y)
put_op free (op.Var v) = put_var_op free v
put_op free (op.Cons at) = put_key free at key.KColon refl
put_op free (op.Con at n end) = put_both (put_key free at key.KBackquote refl) (put_both (put_capital free n) (put_key free end key.KBackquote refl))

pub comma_var_word : (c : CommaVar) → BalancedWord CommaVar comma_var_onto true c
comma_var_word c = word_by (λ k. refl) (put_both (put_divide c.comma key.KComma refl) (put_var true c.var))

-- ---- what is ahead

abbrev pub ahead_by : Role → (ℕ → List Token) → ℕ → List Token → List Token
ahead_by plain rest d here = rest d
ahead_by opens rest d here = rest (suc d)
ahead_by closes rest zero here = here
ahead_by closes rest (suc d) here = rest d
ahead_by divides rest zero here = here
ahead_by divides rest (suc d) here = rest (suc d)

-- the text from the first token on that ends or divides the bracket that is so many brackets further out
abbrev pub ahead : List Token → ℕ → List Token
ahead [] d = []
ahead (c ∷ cs) d = ahead_by (role c) (ahead cs) d (c ∷ cs)

abbrev pub Flat : List Token → Type 0
Flat w = (d : ℕ) (k : List Token) → ahead (w ++ k) d ≡ ahead k d

-- within a bracket
inner_passed : {free : Bool} {w : List Token} → Balanced free w → (d : ℕ) (k : List Token) → ahead (w ++ k) (suc d) ≡ ahead k (suc d)
inner_passed nothing d k = refl
inner_passed (plainly c w r b) d k = ap (λ z. ahead_by z (ahead (w ++ k)) (suc d) (c ∷ (w ++ k))) r ∙ inner_passed b d k
inner_passed (divided c w r b) d k = ap (λ z. ahead_by z (ahead (w ++ k)) (suc d) (c ∷ (w ++ k))) r ∙ inner_passed b d k
inner_passed (bracketed o c v w r s a b) d k =
    ap (λ z. ahead_by z (ahead ((v ++ c ∷ w) ++ k)) (suc d) (o ∷ ((v ++ c ∷ w) ++ k))) r ∙ ap (λ z. ahead z (suc (suc d))) (append_assoc v (c ∷ w) k)
    ∙ inner_passed a (suc d) (c ∷ (w ++ k)) ∙ ap (λ z. ahead_by z (ahead (w ++ k)) (suc (suc d)) (c ∷ (w ++ k))) s ∙ inner_passed b d k

-- a word that is not free has no token that divides outside brackets
pub flat_word : {w : List Token} → Balanced false w → Flat w
flat_word nothing d k = refl
flat_word (plainly c w r b) d k = ap (λ z. ahead_by z (ahead (w ++ k)) d (c ∷ (w ++ k))) r ∙ flat_word b d k
flat_word (bracketed o c v w r s a b) d k =
    ap (λ z. ahead_by z (ahead ((v ++ c ∷ w) ++ k)) d (o ∷ ((v ++ c ∷ w) ++ k))) r ∙ ap (λ z. ahead z (suc d)) (append_assoc v (c ∷ w) k)
    ∙ inner_passed a d (c ∷ (w ++ k)) ∙ ap (λ z. ahead_by z (ahead (w ++ k)) (suc d) (c ∷ (w ++ k))) s ∙ flat_word b d k

by_shrinks : (x : Role) (rest : ℕ → List Token) (d : ℕ) (c : Token) (cs : List Token) → ((n : ℕ) → length (rest n) ≤ length cs) → length (ahead_by x rest d (c ∷ cs)) ≤ suc (length cs)
by_shrinks plain rest d c cs h = omega (arith, h d)
by_shrinks opens rest d c cs h = omega (arith, h (suc d))
by_shrinks closes rest zero c cs h = omega arith
by_shrinks closes rest (suc d) c cs h = omega (arith, h d)
by_shrinks divides rest zero c cs h = omega arith
by_shrinks divides rest (suc d) c cs h = omega (arith, h (suc d))

pub ahead_shrinks : (ts : List Token) (d : ℕ) → length (ahead ts d) ≤ length ts
ahead_shrinks [] d = omega arith
ahead_shrinks (c ∷ cs) d = by_shrinks (role c) (ahead cs) d c cs (ahead_shrinks cs)

-- Of a front either no token ends or divides, or one does whatever follows.
abbrev Passes : List Token → ℕ → Type 0
Passes f d = ((n : ℕ) × ((k : List Token) → ahead (f ++ k) d ≡ ahead k n)) ⊎ ((k : List Token) → length k < length (ahead (f ++ k) d))

front_by : (x : Role) (c : Token) (cs : List Token) (d : ℕ) → ((n : ℕ) → Passes cs n)
    → ((n : ℕ) × ((k : List Token) → ahead_by x (ahead (cs ++ k)) d (c ∷ (cs ++ k)) ≡ ahead k n)) ⊎ ((k : List Token) → length k < length (ahead_by x (ahead (cs ++ k)) d (c ∷ (cs ++ k))))
front_by plain c cs d h = h d
front_by opens c cs d h = h (suc d)
front_by closes c cs zero h = inr (λ k. omega (arith, length-append cs k))
front_by closes c cs (suc d) h = h d
front_by divides c cs zero h = inr (λ k. omega (arith, length-append cs k))
front_by divides c cs (suc d) h = h (suc d)

passes : (f : List Token) (d : ℕ) → Passes f d
passes [] d = inl (d, λ k. refl)
passes (c ∷ cs) d = front_by (role c) c cs d (passes cs)

-- what begins a flat word has no such token
pub front_ahead : (f more r : List Token) → Flat (f ++ more) → length (ahead (f ++ r) 0) ≤ length r
front_ahead f more r flat = elim (passes f 0) [
  | inl h ↦ omega (arith, ap length (h.1 r), ahead_shrinks r h.0)
  | inr h ↦ absurd (omega (arith, h more, ap length (ap (λ z. ahead z 0) (append-nil (f ++ more))), ap length (flat 0 [])))
]

-- a word is determined by what it spells
pub one_word : {A : Type 0} (onto : A → Puts) (x : A) (v w : List Token) → ((k : List Token) → onto x k ≡ v ++ k) → ((k : List Token) → onto x k ≡ w ++ k) → v ≡ w
one_word onto x v w f g = sym (append-nil v) ∙ sym (f []) ∙ g [] ∙ append-nil w

pub flat_of : {A : Type 0} (onto : A → Puts) (x : A) (w : List Token) → BalancedWord A onto false x → ((k : List Token) → onto x k ≡ w ++ k) → Flat w
flat_of onto x w h f = subst (λ (z : List Token). Flat z) (one_word onto x h.word w h.spelled f) (flat_word h.balanced)
