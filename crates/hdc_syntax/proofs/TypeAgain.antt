-- Each rule of types reads again what is spelled, unless a limit comes.
use Rattle.std.proofs.Common.{◌≡◌, ℕ, zero, suc, Bool, true, false, ◌&&◌, not, List, [], ◌∷◌, length, Option, refl, sym, ◌∙◌, ap, subst}
use Rattle.hdc_base.specs.declared.place.At.{At}
use Rattle.hdc_base.specs.declared.token.Key.TheVariants as key
use Rattle.hdc_base.specs.declared.token.Token.{Token}
use Rattle.hdc_tree.specs.declared.name.Name.{Name}
use Rattle.hdc_tree.specs.declared.type_tree.Atype.{Atype}
use Rattle.hdc_tree.specs.declared.type_tree.Atype.TheVariants as a
use Rattle.hdc_tree.specs.declared.type_tree.Btype.{Btype}
use Rattle.hdc_tree.specs.declared.type_tree.Btype.TheVariants as b
use Rattle.hdc_tree.specs.declared.type_tree.ArrowType.{ArrowType, roll-ArrowType}
use Rattle.hdc_tree.specs.declared.type_tree.CommaType.{CommaType, roll-CommaType}
use Rattle.hdc_tree.specs.declared.type_tree.TypeExp.{TypeExp, roll-TypeExp}
use Rattle.hdc_tree.specs.NameSpelling.{key_onto, capital_onto, each_onto}
use Rattle.hdc_tree.specs.TypeSpelling.{atype_onto, btype_onto, arrow_type_onto, comma_type_onto, type_exp_onto}
use Rattle.hdc_tree.specs.Form.{each_formed, few}
use Rattle.hdc_tree.specs.TypeForm.{formed_atype, formed_btype, formed_arrow_type, formed_comma_type, formed_type_exp}
use Rattle.hdc_tree.proofs.TypeEquations.{atype_con, atype_var, atype_unit, atype_paren, atype_tuple, atype_list, btype_plain, btype_applied, arrow_type_parts, arrow_type_made, comma_type_parts, comma_type_made, type_exp_made}
use Rattle.hdc_tree.proofs.TypeFormed.{formed_atype_paren, formed_atype_tuple, formed_atype_list, formed_btype_plain, formed_btype_applied, formed_arrow_type_made, formed_comma_type_made, formed_type_exp_made}
use Rattle.hdc_tree.proofs.TypeCases.{atype_cases, btype_cases, arrow_type_cases, comma_type_cases, type_exp_cases}
use Rattle.hdc_syntax.specs.Parser.{Parser, head}
use Rattle.hdc_syntax.specs.Words.{is, is_capital}
use Rattle.hdc_syntax.proofs.NameRules.{always}
use Rattle.hdc_syntax.proofs.Tests.{first_part, second_part, not_true}
use Rattle.hdc_syntax.proofs.Meets.{Meets, meets_return, meets_deep, meets_then, meets_yes, meets_no, Items, may_all, meets_many, meets_at_most}
use Rattle.hdc_syntax.specs.TypeReader.{starts_atype, atypes, applied_type, constructor_type, btype, arrow_type, arrow_types, type_exp, comma_type, tuple_type, parens_type_behind, parens_type, list_type, atype_level, atype}
use Rattle.hdc_syntax.proofs.PatternAgain.{not_key, few_more}

-- ---- the first token of a type

pub atype_starts : (x : Atype) (k : List Token) → starts_atype (head (atype_onto x k)) ≡ true
atype_starts x k = atype_cases (λ x. starts_atype (head (atype_onto x k)) ≡ true)
    (λ n. ap (λ z. starts_atype (head z)) (atype_con n k))
    (λ n. ap (λ z. starts_atype (head z)) (atype_var n k))
    (λ open_at close_at. ap (λ z. starts_atype (head z)) (atype_unit open_at close_at k))
    (λ open_at y close_at. ap (λ z. starts_atype (head z)) (atype_paren open_at y close_at k))
    (λ open_at y ys close_at. ap (λ z. starts_atype (head z)) (atype_tuple open_at y ys close_at k))
    (λ open_at y close_at. ap (λ z. starts_atype (head z)) (atype_list open_at y close_at k))
    x

pub btype_starts : (x : Btype) (k : List Token) → starts_atype (head (btype_onto x k)) ≡ true
btype_starts x k = btype_cases (λ x. starts_atype (head (btype_onto x k)) ≡ true)
    (λ y. ap (λ z. starts_atype (head z)) (btype_plain y k) ∙ atype_starts y k)
    (λ n y ys. ap (λ z. starts_atype (head z)) (btype_applied n y ys k))
    x

pub type_exp_starts : (x : TypeExp) (k : List Token) → starts_atype (head (type_exp_onto x k)) ≡ true
type_exp_starts x k = type_exp_cases (λ x. starts_atype (head (type_exp_onto x k)) ≡ true) (λ y ys. ap (λ z. starts_atype (head z)) (type_exp_made y ys k) ∙ btype_starts y (each_onto arrow_type_onto ys k)) x

pub arrow_type_starts : (x : ArrowType) (k : List Token) → is key.KRightArrow (head (arrow_type_onto x k)) ≡ true
arrow_type_starts x k = ap (λ z. is key.KRightArrow (head z)) (arrow_type_parts x k)

pub comma_type_starts : (x : CommaType) (k : List Token) → is key.KComma (head (comma_type_onto x k)) ≡ true
comma_type_starts x k = ap (λ z. is key.KComma (head z)) (comma_type_parts x k)

-- no type begins with a closing bracket
pub type_no_close_paren : (x : TypeExp) (k : List Token) → is key.KCloseParen (head (type_exp_onto x k)) ≡ false
type_no_close_paren x k = not_key starts_atype key.KCloseParen (λ at. refl) (head (type_exp_onto x k)) (type_exp_starts x k)

-- ---- the token after a type

-- the token goes on with no type that may stand beside a `->`
abbrev pub ends_btype : Option Token → Bool
ends_btype c = not (starts_atype c)

-- the token goes on with no type
abbrev pub ends_type : Option Token → Bool
ends_type c = ends_btype c && not (is key.KRightArrow c)

pub type_ends_btype : (c : Option Token) → ends_type c ≡ true → ends_btype c ≡ true
type_ends_btype c e = first_part (ends_btype c) (not (is key.KRightArrow c)) e

pub type_no_arrow : (c : Option Token) → ends_type c ≡ true → is key.KRightArrow c ≡ false
type_no_arrow c e = not_true (is key.KRightArrow c) (second_part (ends_btype c) (not (is key.KRightArrow c)) e)

arrow_type_ends_btype : (x : ArrowType) (k : List Token) → ends_btype (head (arrow_type_onto x k)) ≡ true
arrow_type_ends_btype x k = ap (λ z. ends_btype (head z)) (arrow_type_parts x k)

comma_type_ends_type : (x : CommaType) (k : List Token) → ends_type (head (comma_type_onto x k)) ≡ true
comma_type_ends_type x k = ap (λ z. ends_type (head z)) (comma_type_parts x k)

comma_type_no_close : (x : CommaType) (k : List Token) → is key.KCloseParen (head (comma_type_onto x k)) ≡ false
comma_type_no_close x k = ap (λ z. is key.KCloseParen (head z)) (comma_type_parts x k)

-- ---- the rules at one depth

module _ (turns : ℕ) (atype : Parser Atype) (h : (x : Atype) → formed_atype x ≡ true → (k : List Token) → Meets Atype (atype (atype_onto x k)) x k) where
  type_args : Items Atype atype_onto formed_atype starts_atype always atype
  type_args = record { reads = λ x w k e. h x w k; begins = atype_starts; follows = λ x k. refl }

  pub again_atypes : (xs : List Atype) → each_formed formed_atype xs ≡ true → (k : List Token) → starts_atype (head k) ≡ false → Meets (List Atype) (atypes turns atype (each_onto atype_onto xs k)) xs k
  again_atypes xs w k e = meets_many Atype atype_onto formed_atype starts_atype always atype type_args turns [] xs k w e refl

  pub again_applied_type : (name : Name) (first : Atype) (rest : List Atype) → formed_atype first ≡ true → each_formed formed_atype rest ≡ true → (k : List Token) → ends_btype (head k) ≡ true
      → Meets Btype (applied_type turns atype name (atype_onto first (each_onto atype_onto rest k))) (b.Applied name first rest) k
  unfolding applied_type
  again_applied_type name first rest v w k e = meets_then _ (h first v (each_onto atype_onto rest k))
      (meets_then _ (again_atypes rest w k (not_true (starts_atype (head k)) e)) (meets_return (b.Applied name first rest) k))

  by_plain_type : (x : Atype) → formed_atype x ≡ true → (k : List Token) → is_capital (head (atype_onto x k)) ≡ false → Meets Btype (btype turns atype (atype_onto x k)) (b.Plain x) k
  unfolding btype
  by_plain_type x w k c = meets_no _ _ c (meets_then _ (h x w k) (meets_return (b.Plain x) k))

  again_constructor_alone : (n : Name) (k : List Token) → ends_btype (head k) ≡ true → Meets Btype (btype turns atype (capital_onto n k)) (b.Plain (a.Con n)) k
  unfolding btype constructor_type
  again_constructor_alone n k e = meets_no _ _ (not_true (starts_atype (head k)) e) (meets_return (b.Plain (a.Con n)) k)

  again_plain_type : (x : Atype) → formed_atype x ≡ true → (k : List Token) → ends_btype (head k) ≡ true → Meets Btype (btype turns atype (atype_onto x k)) (b.Plain x) k
  again_plain_type x w k e = atype_cases (λ x. formed_atype x ≡ true → Meets Btype (btype turns atype (atype_onto x k)) (b.Plain x) k)
      (λ n w. subst (λ (z : List Token). Meets Btype (btype turns atype z) (b.Plain (a.Con n)) k) (sym (atype_con n k)) (again_constructor_alone n k e))
      (λ n w. by_plain_type (a.Var n) w k (ap (λ z. is_capital (head z)) (atype_var n k)))
      (λ open_at close_at w. by_plain_type (a.Unit open_at close_at) w k (ap (λ z. is_capital (head z)) (atype_unit open_at close_at k)))
      (λ open_at y close_at w. by_plain_type (a.Paren open_at y close_at) w k (ap (λ z. is_capital (head z)) (atype_paren open_at y close_at k)))
      (λ open_at y ys close_at w. by_plain_type (a.Tuple open_at y ys close_at) w k (ap (λ z. is_capital (head z)) (atype_tuple open_at y ys close_at k)))
      (λ open_at y close_at w. by_plain_type (a.List open_at y close_at) w k (ap (λ z. is_capital (head z)) (atype_list open_at y close_at k)))
      x w

  again_applied_whole : (n : Name) (y : Atype) (ys : List Atype) → formed_atype y ≡ true → each_formed formed_atype ys ≡ true → (k : List Token) → ends_btype (head k) ≡ true
      → Meets Btype (btype turns atype (capital_onto n (atype_onto y (each_onto atype_onto ys k)))) (b.Applied n y ys) k
  unfolding btype constructor_type
  again_applied_whole n y ys v w k e = meets_yes _ _ (atype_starts y (each_onto atype_onto ys k)) (again_applied_type n y ys v w k e)

  pub again_btype : (x : Btype) → formed_btype x ≡ true → (k : List Token) → ends_btype (head k) ≡ true → Meets Btype (btype turns atype (btype_onto x k)) x k
  again_btype x w k e = btype_cases (λ x. formed_btype x ≡ true → Meets Btype (btype turns atype (btype_onto x k)) x k)
      (λ y w. subst (λ (z : List Token). Meets Btype (btype turns atype z) (b.Plain y) k) (sym (btype_plain y k)) (again_plain_type y (sym (formed_btype_plain y) ∙ w) k e))
      (λ n y ys w. let f = sym (formed_btype_applied n y ys) ∙ w in
      subst (λ (z : List Token). Meets Btype (btype turns atype z) (b.Applied n y ys) k) (sym (btype_applied n y ys k))
      (again_applied_whole n y ys (first_part (formed_atype y) (each_formed formed_atype ys) f) (second_part (formed_atype y) (each_formed formed_atype ys) f) k e))
      x w

  pub again_arrow_type : (x : ArrowType) → formed_arrow_type x ≡ true → (k : List Token) → ends_btype (head k) ≡ true → Meets ArrowType (arrow_type turns atype (arrow_type_onto x k)) x k
  unfolding arrow_type
  again_arrow_type x w k e = arrow_type_cases (λ x. formed_arrow_type x ≡ true → Meets ArrowType (arrow_type turns atype (arrow_type_onto x k)) x k)
      (λ arrow y w. subst (λ (z : List Token). Meets ArrowType (arrow_type turns atype z) (roll-ArrowType (record { arrow = arrow; part = y })) k) (sym (arrow_type_made arrow y k))
      (meets_then _ (again_btype y (sym (formed_arrow_type_made arrow y) ∙ w) k e) (meets_return (roll-ArrowType (record { arrow = arrow; part = y })) k)))
      x w

  more_arrows : Items ArrowType arrow_type_onto formed_arrow_type (is key.KRightArrow) ends_btype (arrow_type turns atype)
  more_arrows = record { reads = again_arrow_type; begins = arrow_type_starts; follows = arrow_type_ends_btype }

  pub again_arrow_types : (xs : List ArrowType) → each_formed formed_arrow_type xs ≡ true → (k : List Token) → ends_type (head k) ≡ true → Meets (List ArrowType) (arrow_types turns atype (each_onto arrow_type_onto xs k)) xs k
  again_arrow_types xs w k e = meets_many ArrowType arrow_type_onto formed_arrow_type (is key.KRightArrow) ends_btype (arrow_type turns atype) more_arrows turns [] xs k w (type_no_arrow (head k) e) (type_ends_btype (head k) e)

  -- before `->` and what follows it ends what may stand beside a `->`
  pub arrow_types_end_btype : (xs : List ArrowType) (k : List Token) → ends_type (head k) ≡ true → ends_btype (head (each_onto arrow_type_onto xs k)) ≡ true
  arrow_types_end_btype xs k e = may_all ArrowType arrow_type_onto formed_arrow_type (is key.KRightArrow) ends_btype (arrow_type turns atype) more_arrows xs k (type_ends_btype (head k) e)

  pub again_type_exp : (x : TypeExp) → formed_type_exp x ≡ true → (k : List Token) → ends_type (head k) ≡ true → Meets TypeExp (type_exp turns atype (type_exp_onto x k)) x k
  unfolding type_exp
  again_type_exp x w k e = type_exp_cases (λ x. formed_type_exp x ≡ true → Meets TypeExp (type_exp turns atype (type_exp_onto x k)) x k)
      (λ y ys w. let f = sym (formed_type_exp_made y ys) ∙ w in
      subst (λ (z : List Token). Meets TypeExp (type_exp turns atype z) (roll-TypeExp (record { first = y; rest = ys })) k) (sym (type_exp_made y ys k))
      (meets_then _ (again_btype y (first_part (formed_btype y) (each_formed formed_arrow_type ys) f) (each_onto arrow_type_onto ys k) (arrow_types_end_btype ys k e))
      (meets_then _ (again_arrow_types ys (second_part (formed_btype y) (each_formed formed_arrow_type ys) f) k e)
      (meets_return (roll-TypeExp (record { first = y; rest = ys })) k))))
      x w

  pub again_comma_type : (x : CommaType) → formed_comma_type x ≡ true → (k : List Token) → ends_type (head k) ≡ true → Meets CommaType (comma_type turns atype (comma_type_onto x k)) x k
  unfolding comma_type
  again_comma_type x w k e = comma_type_cases (λ x. formed_comma_type x ≡ true → Meets CommaType (comma_type turns atype (comma_type_onto x k)) x k)
      (λ comma y w. subst (λ (z : List Token). Meets CommaType (comma_type turns atype z) (roll-CommaType (record { comma = comma; part = y })) k) (sym (comma_type_made comma y k))
      (meets_then _ (again_type_exp y (sym (formed_comma_type_made comma y) ∙ w) k e) (meets_return (roll-CommaType (record { comma = comma; part = y })) k)))
      x w

  more_types : Items CommaType comma_type_onto formed_comma_type (is key.KComma) ends_type (comma_type turns atype)
  more_types = record { reads = again_comma_type; begins = comma_type_starts; follows = comma_type_ends_type }

  -- before `,` and what follows it ends a type
  pub comma_types_end_type : (xs : List CommaType) (k : List Token) → ends_type (head k) ≡ true → ends_type (head (each_onto comma_type_onto xs k)) ≡ true
  comma_types_end_type = may_all CommaType comma_type_onto formed_comma_type (is key.KComma) ends_type (comma_type turns atype) more_types

  pub again_tuple_type : (open_at : At) (first : TypeExp) (rest : List CommaType) (close_at : At) → each_formed formed_comma_type rest ≡ true → few rest ≡ true → (k : List Token)
      → Meets Atype (tuple_type turns atype open_at first (each_onto comma_type_onto rest (key_onto close_at key.KCloseParen k))) (a.Tuple open_at first rest close_at) k
  unfolding tuple_type
  again_tuple_type open_at first [] close_at w small k = absurd (cc)
  again_tuple_type open_at first (second ∷ more) close_at w small k =
      let k1 : List Token = key_onto close_at key.KCloseParen k in
      meets_then _ (again_comma_type second (first_part (formed_comma_type second) (each_formed formed_comma_type more) w) (each_onto comma_type_onto more k1) (comma_types_end_type more k1 refl))
      (meets_then _ (meets_at_most CommaType comma_type_onto formed_comma_type (is key.KComma) ends_type (comma_type turns atype) more_types 5 (second ∷ []) more k1
      (second_part (formed_comma_type second) (each_formed formed_comma_type more) w) (few_more (length more) small) refl refl)
      (meets_return (a.Tuple open_at first (second ∷ more) close_at) k))

  pub again_parens_type_paren : (open_at : At) (first : TypeExp) (close_at : At) (k : List Token) → Meets Atype (parens_type_behind turns atype open_at first (key_onto close_at key.KCloseParen k)) (a.Paren open_at first close_at) k
  again_parens_type_paren open_at first close_at k = meets_return (a.Paren open_at first close_at) k

  pub again_parens_type_tuple : (open_at : At) (first : TypeExp) (rest : List CommaType) (close_at : At) → each_formed formed_comma_type rest ≡ true → few rest ≡ true → (k : List Token)
      → Meets Atype (parens_type_behind turns atype open_at first (each_onto comma_type_onto rest (key_onto close_at key.KCloseParen k))) (a.Tuple open_at first rest close_at) k
  again_parens_type_tuple open_at first [] close_at w small k = absurd (cc)
  again_parens_type_tuple open_at first (second ∷ more) close_at w small k =
      meets_no _ _ (comma_type_no_close second (each_onto comma_type_onto more (key_onto close_at key.KCloseParen k))) (again_tuple_type open_at first (second ∷ more) close_at w small k)

  pub again_atype_level : (x : Atype) → formed_atype x ≡ true → (k : List Token) → Meets Atype (atype_level turns atype (atype_onto x k)) x k
  unfolding atype_level parens_type list_type
  again_atype_level x w k = atype_cases (λ x. formed_atype x ≡ true → Meets Atype (atype_level turns atype (atype_onto x k)) x k)
      (λ n w. subst (λ (z : List Token). Meets Atype (atype_level turns atype z) (a.Con n) k) (sym (atype_con n k)) (meets_return (a.Con n) k))
      (λ n w. subst (λ (z : List Token). Meets Atype (atype_level turns atype z) (a.Var n) k) (sym (atype_var n k)) (meets_return (a.Var n) k))
      (λ open_at close_at w. subst (λ (z : List Token). Meets Atype (atype_level turns atype z) (a.Unit open_at close_at) k) (sym (atype_unit open_at close_at k)) (meets_return (a.Unit open_at close_at) k))
      (λ open_at y close_at w.
      let k1 : List Token = key_onto close_at key.KCloseParen k in
      subst (λ (z : List Token). Meets Atype (atype_level turns atype z) (a.Paren open_at y close_at) k) (sym (atype_paren open_at y close_at k))
      (meets_no _ _ (type_no_close_paren y k1)
      (meets_then _ (again_type_exp y (sym (formed_atype_paren open_at y close_at) ∙ w) k1 refl) (again_parens_type_paren open_at y close_at k))))
      (λ open_at y ys close_at w.
      let k1 : List Token = key_onto close_at key.KCloseParen k in
      let k2 : List Token = each_onto comma_type_onto ys k1 in
      let f = sym (formed_atype_tuple open_at y ys close_at) ∙ w in
      let g = second_part (formed_type_exp y) (each_formed formed_comma_type ys && few ys) f in
      subst (λ (z : List Token). Meets Atype (atype_level turns atype z) (a.Tuple open_at y ys close_at) k) (sym (atype_tuple open_at y ys close_at k))
      (meets_no _ _ (type_no_close_paren y k2)
      (meets_then _ (again_type_exp y (first_part (formed_type_exp y) (each_formed formed_comma_type ys && few ys) f) k2 (comma_types_end_type ys k1 refl))
      (again_parens_type_tuple open_at y ys close_at (first_part (each_formed formed_comma_type ys) (few ys) g) (second_part (each_formed formed_comma_type ys) (few ys) g) k))))
      (λ open_at y close_at w.
      let k1 : List Token = key_onto close_at key.KCloseBracket k in
      subst (λ (z : List Token). Meets Atype (atype_level turns atype z) (a.List open_at y close_at) k) (sym (atype_list open_at y close_at k))
      (meets_then _ (again_type_exp y (sym (formed_atype_list open_at y close_at) ∙ w) k1 refl) (meets_return (a.List open_at y close_at) k)))
      x w

pub again_atype : (turns depth : ℕ) (x : Atype) → formed_atype x ≡ true → (k : List Token) → Meets Atype (atype turns depth (atype_onto x k)) x k
unfolding atype
again_atype turns zero x w k = meets_deep x k
again_atype turns (suc depth) x w k = again_atype_level turns (atype turns depth) (again_atype turns depth) x w k
