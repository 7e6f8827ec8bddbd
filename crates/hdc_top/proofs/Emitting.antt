-- The code of an operator comes behind that of its operands.
use Rattle.std.proofs.Common.{◌≡◌, Bool, true, false, List, [], ◌∷◌, ◌++◌, Option, Some, None, Ok, refl, sym, ap, subst, ◌∙◌, append_assoc}
use Rattle.hdc_base.specs.declared.place.Place.{Place}
use Rattle.hdc_value.specs.declared.arithmetic.Op.{Op}
use Rattle.hdc_code.specs.declared.instr.Instr.{Instr}
use Rattle.hdc_code.specs.declared.instr.Instr.TheVariants as instr
use Rattle.hdc_top.specs.Arithmetic.{Tree, binary, operation}
use Rattle.hdc_top.specs.Code.{CarriesMeaning, Carries, exp_code, Emits}
use Rattle.hdc_top.proofs.Carrying.{program_code, program_carries}

-- without an operand there is no tree
pub left_lacks : (op : Op) (at : Place) (left right : Option Tree) → left ≡ None → operation (Some op) at left right ≡ None
left_lacks op at None right h = refl
left_lacks op at (Some left) right h = cc

pub right_lacks : (op : Op) (at : Place) (left right : Option Tree) → right ≡ None → operation (Some op) at left right ≡ None
right_lacks op at None right h = refl
right_lacks op at (Some left) None h = refl
right_lacks op at (Some left) (Some right) h = cc

pub ruleset lacks = (left_lacks, right_lacks)

-- what is emitted behind other code
abbrev pub Emitted : Option Tree → List Instr → List Instr → Type 0
Emitted read before after = (tree : Tree) × (read ≡ Some tree) × (after ≡ before ++ exp_code tree)

emitted : (read : Option Tree) (before after : List Instr) (done : Bool) → done ≡ true → Emits read before after (Ok done) → Emitted read before after
emitted read before after true is h = h
emitted read before after false is h = cc

-- the operands, and then the operator
joined : (op : Op) (at : Place) (left right : Option Tree) (start middle last end : List Instr) → Emitted left start middle → Emitted right middle last → end ≡ last ++ instr.Prim op at ∷ [] → Emitted (operation (Some op) at left right) start end
joined op at left right start middle last end (a, l, e) (b, r, f) g =
    let prim = instr.Prim op at ∷ [] in
    let code = g ∙ ap (λ is. is ++ prim) (f ∙ ap (λ is. is ++ exp_code b) e) ∙ ap (λ is. is ++ prim) (append_assoc start (exp_code a) (exp_code b)) ∙ append_assoc start (exp_code a ++ exp_code b) prim ∙ ap (λ is. start ++ is) (append_assoc (exp_code a) (exp_code b) prim) in
    (binary op at a b, ap (λ o. operation (Some op) at o right) l ∙ ap (λ o. operation (Some op) at (Some a) o) r, code)

pub operator_emitted : (op : Op) (at : Place) (left right : Option Tree) (start middle last end : List Instr) (first second : Bool) → first ≡ true → second ≡ true → Emits left start middle (Ok first) → Emits right middle last (Ok second) → end ≡ last ++ instr.Prim op at ∷ [] → Emitted (operation (Some op) at left right) start end
operator_emitted op at left right start middle last end first second is too h g e = joined op at left right start middle last end (emitted left start middle first is h) (emitted right middle last second too g) e

-- the whole code
carried : (read : Option Tree) (fresh first whole last result : List Instr) → fresh ≡ [] → first ≡ fresh ++ instr.Tick ∷ [] → Emitted read first whole → last ≡ whole ++ instr.Ret ∷ [] → result ≡ last → Carries read (Some result)
carried read fresh first whole last result e f (tree, is, g) h i =
    let code : result ≡ program_code tree = i ∙ h ∙ ap (λ is. is ++ instr.Ret ∷ []) (g ∙ ap (λ is. is ++ exp_code tree) (f ∙ ap (λ is. is ++ instr.Tick ∷ []) e)) in
    (tree, is, subst (λ is. CarriesMeaning is tree) (sym code) (program_carries tree))

pub program_emitted : (read : Option Tree) (fresh first whole last result : List Instr) (done : Bool) → fresh ≡ [] → first ≡ fresh ++ instr.Tick ∷ [] → done ≡ true → Emits read first whole (Ok done) → last ≡ whole ++ instr.Ret ∷ [] → result ≡ last → Carries read (Some result)
program_emitted read fresh first whole last result done e f is g h i = carried read fresh first whole last result e f (emitted read first whole done is g) h i
