-- What is known of the parsers of what nests.
use Rattle.std.proofs.Common.{◌≡◌, ℕ, Bool, true, false, cond, not, List, [], ◌∷◌, ◌++◌, Option, Some, None}
use Rattle.hdc_base.specs.declared.token.Token.{Token}
use Rattle.hdc_base.specs.declared.token.Key.TheVariants as key
use Rattle.hdc_tree.specs.declared.name.Op.{Op}
use Rattle.hdc_tree.specs.declared.name.Sign.{Sign}
use Rattle.hdc_tree.specs.declared.name.Sign.TheVariants as sign
use Rattle.hdc_tree.specs.declared.pattern.Apat.{Apat}
use Rattle.hdc_tree.specs.declared.type_tree.Atype.{Atype}
use Rattle.hdc_tree.specs.declared.expression.Alts.{Alts}
use Rattle.hdc_tree.specs.declared.expression.Block.{Block}
use Rattle.hdc_tree.specs.declared.expression.Exp.{Exp}
use Rattle.hdc_tree.specs.NameSpelling.{op_onto, sign_onto}
use Rattle.hdc_tree.specs.PatternSpelling.{apat_onto}
use Rattle.hdc_tree.specs.TypeSpelling.{atype_onto}
use Rattle.hdc_tree.specs.ExpressionSpelling.{exp_onto, block_onto, alts_onto}
use Rattle.hdc_tree.specs.PatternForm.{formed_apat}
use Rattle.hdc_tree.specs.TypeForm.{formed_atype}
use Rattle.hdc_tree.specs.ExpressionForm.{formed_exp, formed_block, formed_alts}
use Rattle.hdc_syntax.specs.Parser.{Parser, head}
use Rattle.hdc_syntax.specs.Words.{is}
use Rattle.hdc_syntax.specs.Names.{starts_op}
use Rattle.hdc_syntax.proofs.Good.{Good, Spells}
use Rattle.hdc_syntax.proofs.Local.{Local}
use Rattle.hdc_syntax.proofs.Meets.{Meets}
use Rattle.hdc_expression.specs.ExpressionReader.{Opened, Inner, starts_aexp}

-- the operator that ends a section, before a text
abbrev pub tail : Option Op → List Token → List Token
tail None k = k
tail (Some y) k = op_onto y k

-- w is the spelling of an expression and of the operator behind it, without the sign that was taken before; only in
-- parentheses an operator may stand there
pub record OpenedWord (section : Bool) (taken : Sign) (x : Opened) (w : List Token) : Type 0 where
  pub spelled : (k : List Token) → exp_onto x.0 (tail x.1 k) ≡ sign_onto taken (w ++ k)
  pub sound : formed_exp x.0 ≡ true
  pub closed : section ≡ false → x.1 ≡ None

pub record GoodInner (inner : Inner) : Type 0 where
  pub exp : (section : Bool) (taken : Sign) → Good Opened (inner.exp section taken) (OpenedWord section taken)
  pub block : Good Block inner.block (Spells Block block_onto formed_block)
  pub alts : Good Alts inner.alts (Spells Alts alts_onto formed_alts)
  pub apat : Good Apat inner.apat (Spells Apat apat_onto formed_apat)
  pub atype : Good Atype inner.atype (Spells Atype atype_onto formed_atype)

pub record LocalInner (inner : Inner) : Type 0 where
  pub exp : (section : Bool) (taken : Sign) → Local Opened (inner.exp section taken)
  pub block : Local Block inner.block
  pub alts : Local Alts inner.alts
  pub apat : Local Apat inner.apat
  pub atype : Local Atype inner.atype

-- the token may follow an expression
abbrev pub ends_exp : Option Token → Bool
ends_exp c = cond (starts_aexp c) false (not (starts_op c))

-- what may follow an expression with the operator that may stand behind it
abbrev pub Follows : Bool → Option Op → List Token → Type 0
Follows section None k = ends_exp (head k) ≡ true
Follows section (Some y) k = (section ≡ true) × (is key.KCloseParen (head k) ≡ true)

pub record MeetsInner (inner : Inner) : Type 0 where
  pub exp : (section : Bool) (taken : Sign) (e : Exp) → formed_exp e ≡ true → (end : Option Op) (k : List Token) → Follows section end k → (ts : List Token) → exp_onto e (tail end k) ≡ sign_onto taken ts
      → Meets Opened (inner.exp section taken ts) (e, end) k
  pub block : (x : Block) → formed_block x ≡ true → (k : List Token) → Meets Block (inner.block (block_onto x k)) x k
  pub alts : (x : Alts) → formed_alts x ≡ true → (k : List Token) → Meets Alts (inner.alts (alts_onto x k)) x k
  pub apat : (x : Apat) → formed_apat x ≡ true → (k : List Token) → is key.KAt (head k) ≡ false → Meets Apat (inner.apat (apat_onto x k)) x k
  pub atype : (x : Atype) → formed_atype x ≡ true → (k : List Token) → Meets Atype (inner.atype (atype_onto x k)) x k
