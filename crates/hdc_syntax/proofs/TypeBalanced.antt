-- Brackets match in the spelling of types, and where a token divides outside brackets.
use Rattle.std.proofs.Common.{◌≡◌, true, false, List, map, refl, sym, subst}
use Rattle.hdc_base.specs.declared.token.Key.TheVariants as key
use Rattle.hdc_tree.specs.declared.type_tree.Atype.{Atype, Atype-F, roll-Atype, map-Atype, ind-Atype}
use Rattle.hdc_tree.specs.declared.type_tree.Btype.{Btype, Btype-F, roll-Btype, map-Btype, ind-Btype}
use Rattle.hdc_tree.specs.declared.type_tree.ArrowType.{ArrowType, ArrowType-F, roll-ArrowType, map-ArrowType, ind-ArrowType}
use Rattle.hdc_tree.specs.declared.type_tree.CommaType.{CommaType, CommaType-F, roll-CommaType, map-CommaType, ind-CommaType}
use Rattle.hdc_tree.specs.declared.type_tree.TypeExp.{TypeExp, TypeExp-F, roll-TypeExp, map-TypeExp, ind-TypeExp}
use Rattle.hdc_tree.specs.declared.type_tree.Atype.TheVariants as v_atype
use Rattle.hdc_tree.specs.declared.type_tree.Btype.TheVariants as v_btype
use Rattle.hdc_tree.specs.TypeSpelling.{atype_onto, btype_onto, arrow_type_onto, comma_type_onto, type_exp_onto}
use Rattle.hdc_tree.proofs.TypeEquations.{atype_con, atype_var, atype_unit, atype_paren, atype_tuple, atype_list, btype_plain, btype_applied, arrow_type_made, comma_type_made, type_exp_made}
use Rattle.hdc_syntax.proofs.Balanced.{BalancedWord, word_by, put, put_free, put_none, put_both, put_key, put_divide, put_within, put_all, put_small, put_capital}

-- ---- types by their parts, of which it is known

module _ (HeldAtype HeldBtype HeldArrowType HeldCommaType HeldTypeExp : Type 0)
    (atype_of : HeldAtype → Atype) (btype_of : HeldBtype → Btype) (arrow_type_of : HeldArrowType → ArrowType) (comma_type_of : HeldCommaType → CommaType) (type_exp_of : HeldTypeExp → TypeExp)
    (atype_known : (s : HeldAtype) → BalancedWord Atype atype_onto false (atype_of s))
    (btype_known : (s : HeldBtype) → BalancedWord Btype btype_onto false (btype_of s))
    (arrow_type_known : (s : HeldArrowType) → BalancedWord ArrowType arrow_type_onto false (arrow_type_of s))
    (comma_type_known : (s : HeldCommaType) → BalancedWord CommaType comma_type_onto true (comma_type_of s))
    (type_exp_known : (s : HeldTypeExp) → BalancedWord TypeExp type_exp_onto false (type_exp_of s)) where
  atype_by : (y : Atype-F HeldAtype HeldBtype HeldArrowType HeldCommaType HeldTypeExp) → BalancedWord Atype atype_onto false (roll-Atype (map-Atype HeldAtype HeldBtype HeldArrowType HeldCommaType HeldTypeExp Atype Btype ArrowType CommaType TypeExp atype_of btype_of arrow_type_of comma_type_of type_exp_of y))
  atype_by (Atype-F.Con name) = subst (BalancedWord Atype atype_onto false) (sym (v_atype.rolls-Con name)) (word_by (atype_con name) (put_capital false name))
  atype_by (Atype-F.Var name) = subst (BalancedWord Atype atype_onto false) (sym (v_atype.rolls-Var name)) (word_by (atype_var name) (put_small false name))
  atype_by (Atype-F.Unit open_at close_at) = subst (BalancedWord Atype atype_onto false) (sym (v_atype.rolls-Unit open_at close_at)) (word_by (atype_unit open_at close_at) (put_within false open_at key.KOpenParen close_at key.KCloseParen refl refl (put_none true)))
  atype_by (Atype-F.Paren open_at inner close_at) = subst (BalancedWord Atype atype_onto false) (sym (v_atype.rolls-Paren open_at (type_exp_of inner) close_at)) (word_by (atype_paren open_at (type_exp_of inner) close_at) (put_within false open_at key.KOpenParen close_at key.KCloseParen refl refl (put_free (type_exp_known inner))))
  atype_by (Atype-F.Tuple open_at first rest close_at) = subst (BalancedWord Atype atype_onto false) (sym (v_atype.rolls-Tuple open_at (type_exp_of first) (map comma_type_of rest) close_at)) (word_by (atype_tuple open_at (type_exp_of first) (map comma_type_of rest) close_at) (put_within false open_at key.KOpenParen close_at key.KCloseParen refl refl (put_both (put_free (type_exp_known first)) (put_all CommaType comma_type_onto true HeldCommaType comma_type_of comma_type_known rest))))
  atype_by (Atype-F.List open_at inner close_at) = subst (BalancedWord Atype atype_onto false) (sym (v_atype.rolls-List open_at (type_exp_of inner) close_at)) (word_by (atype_list open_at (type_exp_of inner) close_at) (put_within false open_at key.KOpenBracket close_at key.KCloseBracket refl refl (put_free (type_exp_known inner))))

  btype_by : (y : Btype-F HeldAtype HeldBtype HeldArrowType HeldCommaType HeldTypeExp) → BalancedWord Btype btype_onto false (roll-Btype (map-Btype HeldAtype HeldBtype HeldArrowType HeldCommaType HeldTypeExp Atype Btype ArrowType CommaType TypeExp atype_of btype_of arrow_type_of comma_type_of type_exp_of y))
  btype_by (Btype-F.Plain atype) = subst (BalancedWord Btype btype_onto false) (sym (v_btype.rolls-Plain (atype_of atype))) (word_by (btype_plain (atype_of atype)) (put (atype_known atype)))
  btype_by (Btype-F.Applied name first rest) = subst (BalancedWord Btype btype_onto false) (sym (v_btype.rolls-Applied name (atype_of first) (map atype_of rest))) (word_by (btype_applied name (atype_of first) (map atype_of rest)) (put_both (put_capital false name) (put_both (put (atype_known first)) (put_all Atype atype_onto false HeldAtype atype_of atype_known rest))))

  arrow_type_by : (y : ArrowType-F HeldAtype HeldBtype HeldArrowType HeldCommaType HeldTypeExp) → BalancedWord ArrowType arrow_type_onto false (roll-ArrowType (map-ArrowType HeldAtype HeldBtype HeldArrowType HeldCommaType HeldTypeExp Atype Btype ArrowType CommaType TypeExp atype_of btype_of arrow_type_of comma_type_of type_exp_of y))
  arrow_type_by y = word_by (arrow_type_made y.arrow (btype_of y.part)) (put_both (put_key false y.arrow key.KRightArrow refl) (put (btype_known y.part)))

  comma_type_by : (y : CommaType-F HeldAtype HeldBtype HeldArrowType HeldCommaType HeldTypeExp) → BalancedWord CommaType comma_type_onto true (roll-CommaType (map-CommaType HeldAtype HeldBtype HeldArrowType HeldCommaType HeldTypeExp Atype Btype ArrowType CommaType TypeExp atype_of btype_of arrow_type_of comma_type_of type_exp_of y))
  comma_type_by y = word_by (comma_type_made y.comma (type_exp_of y.part)) (put_both (put_divide y.comma key.KComma refl) (put_free (type_exp_known y.part)))

  type_exp_by : (y : TypeExp-F HeldAtype HeldBtype HeldArrowType HeldCommaType HeldTypeExp) → BalancedWord TypeExp type_exp_onto false (roll-TypeExp (map-TypeExp HeldAtype HeldBtype HeldArrowType HeldCommaType HeldTypeExp Atype Btype ArrowType CommaType TypeExp atype_of btype_of arrow_type_of comma_type_of type_exp_of y))
  type_exp_by y = word_by (type_exp_made (btype_of y.first) (map arrow_type_of y.rest)) (put_both (put (btype_known y.first)) (put_all ArrowType arrow_type_onto false HeldArrowType arrow_type_of arrow_type_known y.rest))

-- ---- types, by induction

abbrev KnownAtype : Type 0
KnownAtype = (x : Atype) × BalancedWord Atype atype_onto false x

abbrev KnownBtype : Type 0
KnownBtype = (x : Btype) × BalancedWord Btype btype_onto false x

abbrev KnownArrowType : Type 0
KnownArrowType = (x : ArrowType) × BalancedWord ArrowType arrow_type_onto false x

abbrev KnownCommaType : Type 0
KnownCommaType = (x : CommaType) × BalancedWord CommaType comma_type_onto true x

abbrev KnownTypeExp : Type 0
KnownTypeExp = (x : TypeExp) × BalancedWord TypeExp type_exp_onto false x

atype_at : (x : Atype-F Atype Btype ArrowType CommaType TypeExp) (y : Atype-F KnownAtype KnownBtype KnownArrowType KnownCommaType KnownTypeExp) → map-Atype KnownAtype KnownBtype KnownArrowType KnownCommaType KnownTypeExp Atype Btype ArrowType CommaType TypeExp (λ s. s.0) (λ s. s.0) (λ s. s.0) (λ s. s.0) (λ s. s.0) y ≡ x → BalancedWord Atype atype_onto false (roll-Atype x)
atype_at x y e = subst (λ (z : Atype-F Atype Btype ArrowType CommaType TypeExp). BalancedWord Atype atype_onto false (roll-Atype z)) e (atype_by KnownAtype KnownBtype KnownArrowType KnownCommaType KnownTypeExp (λ s. s.0) (λ s. s.0) (λ s. s.0) (λ s. s.0) (λ s. s.0) (λ s. s.1) (λ s. s.1) (λ s. s.1) (λ s. s.1) (λ s. s.1) y)

btype_at : (x : Btype-F Atype Btype ArrowType CommaType TypeExp) (y : Btype-F KnownAtype KnownBtype KnownArrowType KnownCommaType KnownTypeExp) → map-Btype KnownAtype KnownBtype KnownArrowType KnownCommaType KnownTypeExp Atype Btype ArrowType CommaType TypeExp (λ s. s.0) (λ s. s.0) (λ s. s.0) (λ s. s.0) (λ s. s.0) y ≡ x → BalancedWord Btype btype_onto false (roll-Btype x)
btype_at x y e = subst (λ (z : Btype-F Atype Btype ArrowType CommaType TypeExp). BalancedWord Btype btype_onto false (roll-Btype z)) e (btype_by KnownAtype KnownBtype KnownArrowType KnownCommaType KnownTypeExp (λ s. s.0) (λ s. s.0) (λ s. s.0) (λ s. s.0) (λ s. s.0) (λ s. s.1) (λ s. s.1) (λ s. s.1) (λ s. s.1) (λ s. s.1) y)

arrow_type_at : (x : ArrowType-F Atype Btype ArrowType CommaType TypeExp) (y : ArrowType-F KnownAtype KnownBtype KnownArrowType KnownCommaType KnownTypeExp) → map-ArrowType KnownAtype KnownBtype KnownArrowType KnownCommaType KnownTypeExp Atype Btype ArrowType CommaType TypeExp (λ s. s.0) (λ s. s.0) (λ s. s.0) (λ s. s.0) (λ s. s.0) y ≡ x → BalancedWord ArrowType arrow_type_onto false (roll-ArrowType x)
arrow_type_at x y e = subst (λ (z : ArrowType-F Atype Btype ArrowType CommaType TypeExp). BalancedWord ArrowType arrow_type_onto false (roll-ArrowType z)) e (arrow_type_by KnownAtype KnownBtype KnownArrowType KnownCommaType KnownTypeExp (λ s. s.0) (λ s. s.0) (λ s. s.0) (λ s. s.0) (λ s. s.0) (λ s. s.1) (λ s. s.1) (λ s. s.1) (λ s. s.1) (λ s. s.1) y)

comma_type_at : (x : CommaType-F Atype Btype ArrowType CommaType TypeExp) (y : CommaType-F KnownAtype KnownBtype KnownArrowType KnownCommaType KnownTypeExp) → map-CommaType KnownAtype KnownBtype KnownArrowType KnownCommaType KnownTypeExp Atype Btype ArrowType CommaType TypeExp (λ s. s.0) (λ s. s.0) (λ s. s.0) (λ s. s.0) (λ s. s.0) y ≡ x → BalancedWord CommaType comma_type_onto true (roll-CommaType x)
comma_type_at x y e = subst (λ (z : CommaType-F Atype Btype ArrowType CommaType TypeExp). BalancedWord CommaType comma_type_onto true (roll-CommaType z)) e (comma_type_by KnownAtype KnownBtype KnownArrowType KnownCommaType KnownTypeExp (λ s. s.0) (λ s. s.0) (λ s. s.0) (λ s. s.0) (λ s. s.0) (λ s. s.1) (λ s. s.1) (λ s. s.1) (λ s. s.1) (λ s. s.1) y)

type_exp_at : (x : TypeExp-F Atype Btype ArrowType CommaType TypeExp) (y : TypeExp-F KnownAtype KnownBtype KnownArrowType KnownCommaType KnownTypeExp) → map-TypeExp KnownAtype KnownBtype KnownArrowType KnownCommaType KnownTypeExp Atype Btype ArrowType CommaType TypeExp (λ s. s.0) (λ s. s.0) (λ s. s.0) (λ s. s.0) (λ s. s.0) y ≡ x → BalancedWord TypeExp type_exp_onto false (roll-TypeExp x)
type_exp_at x y e = subst (λ (z : TypeExp-F Atype Btype ArrowType CommaType TypeExp). BalancedWord TypeExp type_exp_onto false (roll-TypeExp z)) e (type_exp_by KnownAtype KnownBtype KnownArrowType KnownCommaType KnownTypeExp (λ s. s.0) (λ s. s.0) (λ s. s.0) (λ s. s.0) (λ s. s.0) (λ s. s.1) (λ s. s.1) (λ s. s.1) (λ s. s.1) (λ s. s.1) y)

pub atype_word : (x : Atype) → BalancedWord Atype atype_onto false x
atype_word = ind-Atype (BalancedWord Atype atype_onto false) (BalancedWord Btype btype_onto false) (BalancedWord ArrowType arrow_type_onto false) (BalancedWord CommaType comma_type_onto true) (BalancedWord TypeExp type_exp_onto false) atype_at btype_at arrow_type_at comma_type_at type_exp_at

pub btype_word : (x : Btype) → BalancedWord Btype btype_onto false x
btype_word = ind-Btype (BalancedWord Atype atype_onto false) (BalancedWord Btype btype_onto false) (BalancedWord ArrowType arrow_type_onto false) (BalancedWord CommaType comma_type_onto true) (BalancedWord TypeExp type_exp_onto false) atype_at btype_at arrow_type_at comma_type_at type_exp_at

pub arrow_type_word : (x : ArrowType) → BalancedWord ArrowType arrow_type_onto false x
arrow_type_word = ind-ArrowType (BalancedWord Atype atype_onto false) (BalancedWord Btype btype_onto false) (BalancedWord ArrowType arrow_type_onto false) (BalancedWord CommaType comma_type_onto true) (BalancedWord TypeExp type_exp_onto false) atype_at btype_at arrow_type_at comma_type_at type_exp_at

pub comma_type_word : (x : CommaType) → BalancedWord CommaType comma_type_onto true x
comma_type_word = ind-CommaType (BalancedWord Atype atype_onto false) (BalancedWord Btype btype_onto false) (BalancedWord ArrowType arrow_type_onto false) (BalancedWord CommaType comma_type_onto true) (BalancedWord TypeExp type_exp_onto false) atype_at btype_at arrow_type_at comma_type_at type_exp_at

pub type_exp_word : (x : TypeExp) → BalancedWord TypeExp type_exp_onto false x
type_exp_word = ind-TypeExp (BalancedWord Atype atype_onto false) (BalancedWord Btype btype_onto false) (BalancedWord ArrowType arrow_type_onto false) (BalancedWord CommaType comma_type_onto true) (BalancedWord TypeExp type_exp_onto false) atype_at btype_at arrow_type_at comma_type_at type_exp_at
