-- The first tokens of expressions, and the token after one.
use Rattle.std.proofs.Common.{◌≡◌, ℕ, Bool, true, false, not, cond, List, [], ◌∷◌, Option, Some, None, ◌⊎◌, inl, inr, refl, ◌∙◌, ap}
use Rattle.hdc_base.specs.declared.place.At.{At}
use Rattle.hdc_base.specs.declared.token.Key.TheVariants as key
use Rattle.hdc_base.specs.declared.token.Word.{Word}
use Rattle.hdc_base.specs.declared.token.Word.TheVariants as word
use Rattle.hdc_base.specs.declared.token.Token.{Token}
use Rattle.hdc_tree.specs.declared.name.Literal.{Literal}
use Rattle.hdc_tree.specs.declared.name.Literal.TheVariants as lit
use Rattle.hdc_tree.specs.declared.name.Op.{Op}
use Rattle.hdc_tree.specs.declared.name.Op.TheVariants as op
use Rattle.hdc_tree.specs.declared.name.Sign.{Sign}
use Rattle.hdc_tree.specs.declared.name.Sign.TheVariants as sign
use Rattle.hdc_tree.specs.declared.name.Var.{Var}
use Rattle.hdc_tree.specs.declared.name.Var.TheVariants as var
use Rattle.hdc_tree.specs.declared.name.VarOp.TheVariants as var_op
use Rattle.hdc_tree.specs.declared.expression.Aexp.{Aexp}
use Rattle.hdc_tree.specs.declared.expression.Apply.{Apply}
use Rattle.hdc_tree.specs.declared.expression.Block.{Block}
use Rattle.hdc_tree.specs.declared.expression.CommaExp.{CommaExp}
use Rattle.hdc_tree.specs.declared.expression.CommaQual.{CommaQual}
use Rattle.hdc_tree.specs.declared.expression.Exp.{Exp, roll-Exp}
use Rattle.hdc_tree.specs.declared.expression.Link.{Link, roll-Link}
use Rattle.hdc_tree.specs.declared.expression.ListExp.{ListExp}
use Rattle.hdc_tree.specs.declared.expression.Operand.{Operand}
use Rattle.hdc_tree.specs.declared.expression.Operand.TheVariants as o
use Rattle.hdc_tree.specs.NameSpelling.{minus_onto, literal_onto, var_onto, op_onto, sign_onto, each_onto}
use Rattle.hdc_tree.specs.ExpressionSpelling.{aexp_onto, apply_onto, comma_exp_onto, comma_qual_onto, exp_onto, link_onto, list_exp_onto, operand_onto}
use Rattle.hdc_tree.proofs.ExpressionCases.{aexp_cases, apply_cases, exp_cases, link_cases, list_exp_cases, operand_cases}
use Rattle.hdc_tree.proofs.ExpressionEquations.{aexp_var, aexp_con, aexp_literal, aexp_unit, aexp_nil, aexp_cons, aexp_paren, aexp_tuple, aexp_list, aexp_left_section, aexp_right_section, apply_made, comma_exp_parts, comma_qual_parts, exp_made, link_made, list_exp_members, list_exp_range, list_exp_comprehension, operand_applied, operand_lambda, operand_let, operand_if, operand_case}
use Rattle.hdc_syntax.specs.Parser.{head}
use Rattle.hdc_syntax.specs.Words.{is, is_minus, is_minus_word, is_symbol, is_symbol_word}
use Rattle.hdc_syntax.specs.Names.{starts_op}
use Rattle.hdc_syntax.proofs.Steps.{token_of}
use Rattle.hdc_syntax.proofs.Tests.{not_true}
use Rattle.hdc_syntax.proofs.PatternAgain.{not_key}
use Rattle.hdc_expression.specs.ExpressionReader.{made, starts_aexp, ends_qual}
use Rattle.hdc_expression.proofs.Opened.{tail, ends_exp, Follows}

-- ---- a token that passes a test which no symbol passes is no symbol

module _ (starts : Option Token → Bool) (h : (at : At) (text : List ℕ) → starts (Some (token_of at (word.Sym text))) ≡ false) where
  word_no_symbol : (at : At) (w : Word) → starts (Some (token_of at w)) ≡ true → is_symbol_word w ≡ false
  word_no_symbol at (word.Sym text) e = let f = h at text in absurd (cc)
  word_no_symbol at (word.Key k) e = refl
  word_no_symbol at (word.Var x) e = refl
  word_no_symbol at (word.Con x) e = refl
  word_no_symbol at (word.Num x) e = refl
  word_no_symbol at (word.Chr x) e = refl
  word_no_symbol at (word.Str x) e = refl

  pub not_symbol : (c : Option Token) → starts c ≡ true → is_symbol c ≡ false
  not_symbol None e = refl
  not_symbol (Some t) e = word_no_symbol t.at t.word e

minus_word_is_symbol : (w : Word) → is_symbol_word w ≡ false → is_minus_word w ≡ false
minus_word_is_symbol (word.Sym text) e = absurd (cc)
minus_word_is_symbol (word.Key k) e = refl
minus_word_is_symbol (word.Var x) e = refl
minus_word_is_symbol (word.Con x) e = refl
minus_word_is_symbol (word.Num x) e = refl
minus_word_is_symbol (word.Chr x) e = refl
minus_word_is_symbol (word.Str x) e = refl

-- `-` is a symbol
pub no_symbol_no_minus : (c : Option Token) → is_symbol c ≡ false → is_minus c ≡ false
no_symbol_no_minus None e = refl
no_symbol_no_minus (Some t) e = minus_word_is_symbol t.word e

-- ---- the first token of an expression

-- the token begins an operand
abbrev pub starts_operand : Option Token → Bool
starts_operand c = cond (starts_aexp c) true (cond (is key.KBackslash c) true (cond (is key.KLet c) true (cond (is key.KIf c) true (is key.KCase c))))

-- the token begins an expression
abbrev pub starts_exp : Option Token → Bool
starts_exp c = cond (starts_operand c) true (is_minus c)

pub either_of : (a b : Bool) → a ≡ true → cond a true b ≡ true
either_of true b e = refl
either_of false b e = absurd (cc)

literal_starts_aexp : (at : At) (x : Literal) (k : List Token) → starts_aexp (head (literal_onto at x k)) ≡ true
literal_starts_aexp at (lit.Num n) k = refl
literal_starts_aexp at (lit.Chr c) k = refl
literal_starts_aexp at (lit.Str cs) k = refl

var_starts_aexp : (x : Var) (k : List Token) → starts_aexp (head (var_onto x k)) ≡ true
var_starts_aexp (var.Plain n) k = refl
var_starts_aexp (var.Operator open_at n close_at) k = refl

list_exp_starts : (x : ListExp) (k : List Token) → starts_aexp (head (list_exp_onto x k)) ≡ true
list_exp_starts x k = list_exp_cases (λ x. starts_aexp (head (list_exp_onto x k)) ≡ true)
    (λ open_at e es close_at. ap (λ z. starts_aexp (head z)) (list_exp_members open_at e es close_at k))
    (λ open_at low dots high close_at. ap (λ z. starts_aexp (head z)) (list_exp_range open_at low dots high close_at k))
    (λ open_at e bar y ys close_at. ap (λ z. starts_aexp (head z)) (list_exp_comprehension open_at e bar y ys close_at k))
    x

pub aexp_starts : (x : Aexp) (k : List Token) → starts_aexp (head (aexp_onto x k)) ≡ true
aexp_starts x k = aexp_cases (λ x. starts_aexp (head (aexp_onto x k)) ≡ true)
    (λ v. ap (λ z. starts_aexp (head z)) (aexp_var v k) ∙ var_starts_aexp v k)
    (λ n. ap (λ z. starts_aexp (head z)) (aexp_con n k))
    (λ at y. ap (λ z. starts_aexp (head z)) (aexp_literal at y k) ∙ literal_starts_aexp at y k)
    (λ open_at close_at. ap (λ z. starts_aexp (head z)) (aexp_unit open_at close_at k))
    (λ open_at close_at. ap (λ z. starts_aexp (head z)) (aexp_nil open_at close_at k))
    (λ open_at at close_at. ap (λ z. starts_aexp (head z)) (aexp_cons open_at at close_at k))
    (λ open_at e close_at. ap (λ z. starts_aexp (head z)) (aexp_paren open_at e close_at k))
    (λ open_at e es close_at. ap (λ z. starts_aexp (head z)) (aexp_tuple open_at e es close_at k))
    (λ y. ap (λ z. starts_aexp (head z)) (aexp_list y k) ∙ list_exp_starts y k)
    (λ open_at e y close_at. ap (λ z. starts_aexp (head z)) (aexp_left_section open_at e y close_at k))
    (λ open_at y e close_at. ap (λ z. starts_aexp (head z)) (aexp_right_section open_at y e close_at k))
    x

pub apply_starts : (x : Apply) (k : List Token) → starts_aexp (head (apply_onto x k)) ≡ true
apply_starts x k = apply_cases (λ x. starts_aexp (head (apply_onto x k)) ≡ true) (λ y ys. ap (λ z. starts_aexp (head z)) (apply_made y ys k) ∙ aexp_starts y (each_onto aexp_onto ys k)) x

pub apply_starts_operand : (x : Apply) (k : List Token) → starts_operand (head (apply_onto x k)) ≡ true
apply_starts_operand x k = let c : Option Token = head (apply_onto x k) in either_of (starts_aexp c) (cond (is key.KBackslash c) true (cond (is key.KLet c) true (cond (is key.KIf c) true (is key.KCase c)))) (apply_starts x k)

pub operand_starts : (x : Operand) (k : List Token) → starts_operand (head (operand_onto x k)) ≡ true
operand_starts x k = operand_cases (λ x. starts_operand (head (operand_onto x k)) ≡ true)
    (λ y. ap (λ z. starts_operand (head z)) (operand_applied y k) ∙ apply_starts_operand y k)
    (λ at y ys arrow e. ap (λ z. starts_operand (head z)) (operand_lambda at y ys arrow e k))
    (λ at decls in_at e. ap (λ z. starts_operand (head z)) (operand_let at decls in_at e k))
    (λ at c then_at d else_at e. ap (λ z. starts_operand (head z)) (operand_if at c then_at d else_at e k))
    (λ at e of_at alts. ap (λ z. starts_operand (head z)) (operand_case at e of_at alts k))
    x

signed_starts : (s : Sign) (k : List Token) → starts_operand (head k) ≡ true → starts_exp (head (sign_onto s k)) ≡ true
signed_starts sign.Absent k e = either_of (starts_operand (head k)) (is_minus (head k)) e
signed_starts (sign.Minus at) k e = refl

pub chain_starts : (ls : List Link) (s : Sign) (x : Operand) (k : List Token) → starts_exp (head (each_onto link_onto ls (sign_onto s (operand_onto x k)))) ≡ true
chain_starts [] s x k = signed_starts s (operand_onto x k) (operand_starts x k)
chain_starts (l ∷ ls) s x k =
    let rest : List Token = each_onto link_onto ls (sign_onto s (operand_onto x k)) in
    link_cases (λ l. starts_exp (head (link_onto l rest)) ≡ true)
    (λ t y z. ap (λ z. starts_exp (head z)) (link_made t y z rest) ∙ signed_starts t (apply_onto y (op_onto z rest)) (apply_starts_operand y (op_onto z rest)))
    l

pub exp_starts : (e : Exp) (k : List Token) → starts_exp (head (exp_onto e k)) ≡ true
exp_starts e k = exp_cases (λ e. starts_exp (head (exp_onto e k)) ≡ true) (λ ls s x. ap (λ z. starts_exp (head z)) (exp_made ls s x k) ∙ chain_starts ls s x k) e

pub exp_no_close_paren : (e : Exp) (k : List Token) → is key.KCloseParen (head (exp_onto e k)) ≡ false
exp_no_close_paren e k = not_key starts_exp key.KCloseParen (λ at. refl) (head (exp_onto e k)) (exp_starts e k)

pub exp_no_close_bracket : (e : Exp) (k : List Token) → is key.KCloseBracket (head (exp_onto e k)) ≡ false
exp_no_close_bracket e k = not_key starts_exp key.KCloseBracket (λ at. refl) (head (exp_onto e k)) (exp_starts e k)

-- an operand begins with no sign
pub operand_no_symbol : (c : Option Token) → starts_operand c ≡ true → is_symbol c ≡ false
operand_no_symbol c e = not_symbol starts_operand (λ at text. refl) c e

pub operand_no_minus : (c : Option Token) → starts_operand c ≡ true → is_minus c ≡ false
operand_no_minus c e = no_symbol_no_minus c (operand_no_symbol c e)

-- ---- whether an expression begins with a sign

-- a text of each rest begins with `-` and an operand
abbrev pub Negated : (List Token → List Token) → Type 0
Negated onto = (at : At) × ((k : List Token) → (ts : List Token) × (onto k ≡ minus_onto at ts) × (starts_operand (head ts) ≡ true))

abbrev pub Unsigned : (List Token → List Token) → Type 0
Unsigned onto = (k : List Token) → starts_operand (head (onto k)) ≡ true

-- a text of each rest begins with the sign and an operand, or with the operand
abbrev pub Front : (List Token → List Token) → Type 0
Front onto = Negated onto ⊎ Unsigned onto

sign_front : (onto : List Token → List Token) → Unsigned onto → (s : Sign) → Front (λ k. sign_onto s (onto k))
sign_front onto h sign.Absent = inr h
sign_front onto h (sign.Minus at) = inl (at, λ k. (onto k, refl, h k))

same_front : (f g : List Token → List Token) → ((k : List Token) → f k ≡ g k) → Front g → Front f
same_front f g h x = elim x [
  | inl n ↦ inl (n.0, λ k. let m = n.1 k in (m.0, h k ∙ m.1, m.2))
  | inr u ↦ inr (λ k. ap (λ z. starts_operand (head z)) (h k) ∙ u k)
]

chain_front : (ls : List Link) (s : Sign) (x : Operand) → Front (λ k. each_onto link_onto ls (sign_onto s (operand_onto x k)))
chain_front [] s x = sign_front (operand_onto x) (operand_starts x) s
chain_front (l ∷ ls) s x = link_cases (λ l. Front (λ k. link_onto l (each_onto link_onto ls (sign_onto s (operand_onto x k)))))
    (λ t y z. same_front (λ k. link_onto (roll-Link (record { sign = t; left = y; op = z })) (each_onto link_onto ls (sign_onto s (operand_onto x k))))
    (λ k. sign_onto t (apply_onto y (op_onto z (each_onto link_onto ls (sign_onto s (operand_onto x k))))))
    (λ k. link_made t y z (each_onto link_onto ls (sign_onto s (operand_onto x k))))
    (sign_front (λ k. apply_onto y (op_onto z (each_onto link_onto ls (sign_onto s (operand_onto x k))))) (λ k. apply_starts_operand y (op_onto z (each_onto link_onto ls (sign_onto s (operand_onto x k))))) t))
    l

pub exp_front : (e : Exp) → Front (exp_onto e)
exp_front e = exp_cases (λ e. Front (exp_onto e)) (λ ls s x. same_front (exp_onto (roll-Exp (record { links = ls; sign = s; last = x }))) (λ k. each_onto link_onto ls (sign_onto s (operand_onto x k))) (λ k. exp_made ls s x k) (chain_front ls s x)) e

abbrev sign_there : Option Token → Sign
sign_there None = sign.Absent
sign_there (Some t) = sign.Minus t.at

abbrev behind_one : List Token → List Token
behind_one [] = []
behind_one (c ∷ cs) = cs

-- two texts that begin with signs are the same behind them
pub same_behind : (at there : At) (u ts : List Token) → minus_onto at u ≡ minus_onto there ts → (sign.Minus at ≡ sign.Minus there) × (u ≡ ts)
same_behind at there u ts e = (ap (λ z. sign_there (head z)) e, ap behind_one e)

-- ---- whether an expression begins with `let`

-- an expression is a `let` alone
pub record LoneLet (e : Exp) : Type 0 where
  pub at : At
  pub decls : Block
  pub in_at : At
  pub body : Exp
  pub same : e ≡ made [] sign.Absent (o.Let at decls in_at body)

abbrev pub NoLet : (List Token → List Token) → Type 0
NoLet onto = (k : List Token) → is key.KLet (head (onto k)) ≡ false

aexp_no_let : (c : Option Token) → starts_aexp c ≡ true → is key.KLet c ≡ false
aexp_no_let c e = not_key starts_aexp key.KLet (λ at. refl) c e

signed_no_let : (s : Sign) (k : List Token) → is key.KLet (head k) ≡ false → is key.KLet (head (sign_onto s k)) ≡ false
signed_no_let sign.Absent k e = e
signed_no_let (sign.Minus at) k e = refl

link_no_let : (l : Link) (k : List Token) → is key.KLet (head (link_onto l k)) ≡ false
link_no_let l k = link_cases (λ l. is key.KLet (head (link_onto l k)) ≡ false)
    (λ t y z. ap (λ z. is key.KLet (head z)) (link_made t y z k) ∙ signed_no_let t (apply_onto y (op_onto z k)) (aexp_no_let (head (apply_onto y (op_onto z k))) (apply_starts y (op_onto z k))))
    l

last_let : (x : Operand) → LoneLet (made [] sign.Absent x) ⊎ NoLet (exp_onto (made [] sign.Absent x))
last_let x = operand_cases (λ x. LoneLet (made [] sign.Absent x) ⊎ NoLet (exp_onto (made [] sign.Absent x)))
    (λ y. inr (λ k. ap (λ z. is key.KLet (head z)) (exp_made [] sign.Absent (o.Applied y) k ∙ operand_applied y k) ∙ aexp_no_let (head (apply_onto y k)) (apply_starts y k)))
    (λ at y ys arrow e. inr (λ k. ap (λ z. is key.KLet (head z)) (exp_made [] sign.Absent (o.Lambda at y ys arrow e) k ∙ operand_lambda at y ys arrow e k)))
    (λ at decls in_at e. inl (record { at = at; decls = decls; in_at = in_at; body = e; same = refl }))
    (λ at c then_at d else_at e. inr (λ k. ap (λ z. is key.KLet (head z)) (exp_made [] sign.Absent (o.If at c then_at d else_at e) k ∙ operand_if at c then_at d else_at e k)))
    (λ at e of_at alts. inr (λ k. ap (λ z. is key.KLet (head z)) (exp_made [] sign.Absent (o.Case at e of_at alts) k ∙ operand_case at e of_at alts k)))
    x

chain_let : (ls : List Link) (s : Sign) (x : Operand) → LoneLet (made ls s x) ⊎ NoLet (exp_onto (made ls s x))
chain_let [] sign.Absent x = last_let x
chain_let [] (sign.Minus at) x = inr (λ k. ap (λ z. is key.KLet (head z)) (exp_made [] (sign.Minus at) x k))
chain_let (l ∷ ls) s x = inr (λ k. ap (λ z. is key.KLet (head z)) (exp_made (l ∷ ls) s x k) ∙ link_no_let l (each_onto link_onto ls (sign_onto s (operand_onto x k))))

pub exp_let : (e : Exp) → LoneLet e ⊎ NoLet (exp_onto e)
exp_let e = exp_cases (λ e. LoneLet e ⊎ NoLet (exp_onto e)) chain_let e

-- ---- the token after an expression

pub no_aexp : (b c : Bool) → cond b false (not c) ≡ true → b ≡ false
no_aexp true c e = absurd (cc)
no_aexp false c e = refl

pub no_op : (b c : Bool) → cond b false (not c) ≡ true → c ≡ false
no_op true c e = absurd (cc)
no_op false c e = not_true c e

pub op_no_aexp : (x : Op) (k : List Token) → starts_aexp (head (op_onto x k)) ≡ false
op_no_aexp (op.Var (var_op.Symbol n)) k = refl
op_no_aexp (op.Var (var_op.Quoted open_at n close_at)) k = refl
op_no_aexp (op.Cons at) k = refl
op_no_aexp (op.Con open_at n close_at) k = refl

pub follows_no_aexp : (section : Bool) (end : Option Op) (k : List Token) → Follows section end k → starts_aexp (head (tail end k)) ≡ false
follows_no_aexp section None k f = no_aexp (starts_aexp (head k)) (starts_op (head k)) f
follows_no_aexp section (Some y) k f = op_no_aexp y k

ends_by_word : (at : At) (w : Word) → ends_qual (Some (token_of at w)) ≡ true → ends_exp (Some (token_of at w)) ≡ true
ends_by_word at (word.Key key.KComma) e = refl
ends_by_word at (word.Key key.KCloseBracket) e = refl
ends_by_word at (word.Key _) e = absurd (cc)
ends_by_word at (word.Sym text) e = absurd (cc)
ends_by_word at (word.Var x) e = absurd (cc)
ends_by_word at (word.Con x) e = absurd (cc)
ends_by_word at (word.Num x) e = absurd (cc)
ends_by_word at (word.Chr x) e = absurd (cc)
ends_by_word at (word.Str x) e = absurd (cc)

-- what ends a qualifier ends an expression
pub qual_ends_exp : (c : Option Token) → ends_qual c ≡ true → ends_exp c ≡ true
qual_ends_exp None e = absurd (cc)
qual_ends_exp (Some t) e = ends_by_word t.at t.word e

pub comma_exp_starts : (x : CommaExp) (k : List Token) → is key.KComma (head (comma_exp_onto x k)) ≡ true
comma_exp_starts x k = ap (λ z. is key.KComma (head z)) (comma_exp_parts x k)

pub comma_exp_ends_exp : (x : CommaExp) (k : List Token) → ends_exp (head (comma_exp_onto x k)) ≡ true
comma_exp_ends_exp x k = ap (λ z. ends_exp (head z)) (comma_exp_parts x k)

pub comma_exp_no_close : (x : CommaExp) (k : List Token) → is key.KCloseParen (head (comma_exp_onto x k)) ≡ false
comma_exp_no_close x k = ap (λ z. is key.KCloseParen (head z)) (comma_exp_parts x k)

pub comma_qual_starts : (x : CommaQual) (k : List Token) → is key.KComma (head (comma_qual_onto x k)) ≡ true
comma_qual_starts x k = ap (λ z. is key.KComma (head z)) (comma_qual_parts x k)

pub comma_qual_ends_qual : (x : CommaQual) (k : List Token) → ends_qual (head (comma_qual_onto x k)) ≡ true
comma_qual_ends_qual x k = ap (λ z. ends_qual (head z)) (comma_qual_parts x k)
