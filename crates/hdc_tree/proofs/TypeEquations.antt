-- The equations of the spelling of types, one for each production, and of their parts.
use Rattle.std.proofs.Common.{◌≡◌, List, sym, ◌∙◌, ap}
use Rattle.hdc_base.specs.declared.place.At.{At}
use Rattle.hdc_base.specs.declared.token.Key.TheVariants as key
use Rattle.hdc_base.specs.declared.token.Token as text_token
use Rattle.hdc_tree.specs.declared.name.Name.{Name}
use Rattle.hdc_tree.specs.declared.type_tree.Atype.{Atype, Atype-F, fold-roll-Atype}
use Rattle.hdc_tree.specs.declared.type_tree.Btype.{Btype, Btype-F, fold-roll-Btype}
use Rattle.hdc_tree.specs.declared.type_tree.ArrowType.{ArrowType, roll-ArrowType, out-ArrowType, roll-out-ArrowType, fold-roll-ArrowType}
use Rattle.hdc_tree.specs.declared.type_tree.CommaType.{CommaType, roll-CommaType, out-CommaType, roll-out-CommaType, fold-roll-CommaType}
use Rattle.hdc_tree.specs.declared.type_tree.TypeExp.{TypeExp, roll-TypeExp, out-TypeExp, roll-out-TypeExp, fold-roll-TypeExp}
use Rattle.hdc_tree.specs.declared.type_tree.Atype.TheVariants as v_atype
use Rattle.hdc_tree.specs.declared.type_tree.Btype.TheVariants as v_btype
use Rattle.hdc_tree.specs.NameSpelling.{Puts, key_onto, small_onto, capital_onto, each_onto}
use Rattle.hdc_tree.specs.TypeSpelling.{atype_step, btype_step, arrow_type_step, comma_type_step, type_exp_step, atype_onto, btype_onto, arrow_type_onto, comma_type_onto, type_exp_onto}
use Rattle.hdc_tree.proofs.Lists.{each_is}

pub atype_tuple : (open_at : At) (first : TypeExp) (rest : List CommaType) (close_at : At) (k : List text_token.Token) → atype_onto (v_atype.Tuple open_at first rest close_at) k ≡ key_onto open_at key.KOpenParen (type_exp_onto first (each_onto comma_type_onto rest (key_onto close_at key.KCloseParen k)))
atype_tuple open_at first rest close_at k = ap (λ z. atype_onto z k) (sym (v_atype.rolls-Tuple open_at first rest close_at)) ∙ ap (λ (f : Puts). f k) (fold-roll-Atype Puts Puts Puts Puts Puts atype_step btype_step arrow_type_step comma_type_step type_exp_step (Atype-F.Tuple open_at first rest close_at)) ∙ ap (λ z. key_onto open_at key.KOpenParen ((type_exp_onto first (z)))) (each_is comma_type_onto rest (key_onto close_at key.KCloseParen k))

pub btype_applied : (name : Name) (first : Atype) (rest : List Atype) (k : List text_token.Token) → btype_onto (v_btype.Applied name first rest) k ≡ capital_onto name (atype_onto first (each_onto atype_onto rest k))
btype_applied name first rest k = ap (λ z. btype_onto z k) (sym (v_btype.rolls-Applied name first rest)) ∙ ap (λ (f : Puts). f k) (fold-roll-Btype Puts Puts Puts Puts Puts atype_step btype_step arrow_type_step comma_type_step type_exp_step (Btype-F.Applied name first rest)) ∙ ap (λ z. capital_onto name ((atype_onto first (z)))) (each_is atype_onto rest k)

pub arrow_type_parts : (part : ArrowType) (k : List text_token.Token) → arrow_type_onto part k ≡ key_onto (out-ArrowType part).arrow key.KRightArrow (btype_onto (out-ArrowType part).part k)
arrow_type_parts part k = ap (λ z. arrow_type_onto z k) (sym (roll-out-ArrowType part)) ∙ ap (λ (f : Puts). f k) (fold-roll-ArrowType Puts Puts Puts Puts Puts atype_step btype_step arrow_type_step comma_type_step type_exp_step (out-ArrowType part))

pub comma_type_parts : (part : CommaType) (k : List text_token.Token) → comma_type_onto part k ≡ key_onto (out-CommaType part).comma key.KComma (type_exp_onto (out-CommaType part).part k)
comma_type_parts part k = ap (λ z. comma_type_onto z k) (sym (roll-out-CommaType part)) ∙ ap (λ (f : Puts). f k) (fold-roll-CommaType Puts Puts Puts Puts Puts atype_step btype_step arrow_type_step comma_type_step type_exp_step (out-CommaType part))

pub type_exp_parts : (part : TypeExp) (k : List text_token.Token) → type_exp_onto part k ≡ btype_onto (out-TypeExp part).first (each_onto arrow_type_onto (out-TypeExp part).rest k)
type_exp_parts part k = ap (λ z. type_exp_onto z k) (sym (roll-out-TypeExp part)) ∙ ap (λ (f : Puts). f k) (fold-roll-TypeExp Puts Puts Puts Puts Puts atype_step btype_step arrow_type_step comma_type_step type_exp_step (out-TypeExp part)) ∙ ap (λ z. btype_onto (out-TypeExp part).first (z)) (each_is arrow_type_onto (out-TypeExp part).rest k)

pub atype_con : (name : Name) (k : List text_token.Token) → atype_onto (v_atype.Con name) k ≡ capital_onto name k
atype_con name k = ap (λ z. atype_onto z k) (sym (v_atype.rolls-Con name)) ∙ ap (λ (f : Puts). f k) (fold-roll-Atype Puts Puts Puts Puts Puts atype_step btype_step arrow_type_step comma_type_step type_exp_step (Atype-F.Con name))

pub atype_var : (name : Name) (k : List text_token.Token) → atype_onto (v_atype.Var name) k ≡ small_onto name k
atype_var name k = ap (λ z. atype_onto z k) (sym (v_atype.rolls-Var name)) ∙ ap (λ (f : Puts). f k) (fold-roll-Atype Puts Puts Puts Puts Puts atype_step btype_step arrow_type_step comma_type_step type_exp_step (Atype-F.Var name))

pub atype_unit : (open_at close_at : At) (k : List text_token.Token) → atype_onto (v_atype.Unit open_at close_at) k ≡ key_onto open_at key.KOpenParen (key_onto close_at key.KCloseParen k)
atype_unit open_at close_at k = ap (λ z. atype_onto z k) (sym (v_atype.rolls-Unit open_at close_at)) ∙ ap (λ (f : Puts). f k) (fold-roll-Atype Puts Puts Puts Puts Puts atype_step btype_step arrow_type_step comma_type_step type_exp_step (Atype-F.Unit open_at close_at))

pub atype_paren : (open_at : At) (inner : TypeExp) (close_at : At) (k : List text_token.Token) → atype_onto (v_atype.Paren open_at inner close_at) k ≡ key_onto open_at key.KOpenParen (type_exp_onto inner (key_onto close_at key.KCloseParen k))
atype_paren open_at inner close_at k = ap (λ z. atype_onto z k) (sym (v_atype.rolls-Paren open_at inner close_at)) ∙ ap (λ (f : Puts). f k) (fold-roll-Atype Puts Puts Puts Puts Puts atype_step btype_step arrow_type_step comma_type_step type_exp_step (Atype-F.Paren open_at inner close_at))

pub atype_list : (open_at : At) (inner : TypeExp) (close_at : At) (k : List text_token.Token) → atype_onto (v_atype.List open_at inner close_at) k ≡ key_onto open_at key.KOpenBracket (type_exp_onto inner (key_onto close_at key.KCloseBracket k))
atype_list open_at inner close_at k = ap (λ z. atype_onto z k) (sym (v_atype.rolls-List open_at inner close_at)) ∙ ap (λ (f : Puts). f k) (fold-roll-Atype Puts Puts Puts Puts Puts atype_step btype_step arrow_type_step comma_type_step type_exp_step (Atype-F.List open_at inner close_at))

pub btype_plain : (atype : Atype) (k : List text_token.Token) → btype_onto (v_btype.Plain atype) k ≡ atype_onto atype k
btype_plain atype k = ap (λ z. btype_onto z k) (sym (v_btype.rolls-Plain atype)) ∙ ap (λ (f : Puts). f k) (fold-roll-Btype Puts Puts Puts Puts Puts atype_step btype_step arrow_type_step comma_type_step type_exp_step (Btype-F.Plain atype))

pub arrow_type_made : (arrow : At) (part : Btype) (k : List text_token.Token) → arrow_type_onto (roll-ArrowType (record { arrow = arrow; part = part })) k ≡ key_onto arrow key.KRightArrow (btype_onto part k)
arrow_type_made arrow part k = ap (λ (f : Puts). f k) (fold-roll-ArrowType Puts Puts Puts Puts Puts atype_step btype_step arrow_type_step comma_type_step type_exp_step (record { arrow = arrow; part = part }))

pub comma_type_made : (comma : At) (part : TypeExp) (k : List text_token.Token) → comma_type_onto (roll-CommaType (record { comma = comma; part = part })) k ≡ key_onto comma key.KComma (type_exp_onto part k)
comma_type_made comma part k = ap (λ (f : Puts). f k) (fold-roll-CommaType Puts Puts Puts Puts Puts atype_step btype_step arrow_type_step comma_type_step type_exp_step (record { comma = comma; part = part }))

pub type_exp_made : (first : Btype) (rest : List ArrowType) (k : List text_token.Token) → type_exp_onto (roll-TypeExp (record { first = first; rest = rest })) k ≡ btype_onto first (each_onto arrow_type_onto rest k)
type_exp_made first rest k = ap (λ (f : Puts). f k) (fold-roll-TypeExp Puts Puts Puts Puts Puts atype_step btype_step arrow_type_step comma_type_step type_exp_step (record { first = first; rest = rest })) ∙ ap (λ z. btype_onto first z) (each_is arrow_type_onto rest k)

pub ruleset types_equations = (atype_tuple, btype_applied, arrow_type_parts, comma_type_parts, type_exp_parts)
