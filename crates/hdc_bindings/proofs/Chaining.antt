-- The operands of a chain, joined.
use Rattle.std.proofs.Common.{◌≡◌, List, [], ◌∷◌, ◌++◌, length, map, refl, ap, ◌∙◌}
use Rattle.std.proofs.lemmas.List.{map-append}
use Rattle.hdc_base.specs.declared.place.At.{At}
use Rattle.hdc_tree.specs.declared.name.Sign.{Sign}
use Rattle.hdc_written.specs.Firsts.{first_of_operand, operand_in}
use Rattle.hdc_written.specs.Written.{chain, Links, Operand}
use Rattle.hdc_written.specs.Mirror.{Linked, each_link}
use Rattle.hdc_names.specs.declared.chain.NextOperand.{NextOperand}
use Rattle.hdc_names.specs.Sites.{rest_in}
use Rattle.hdc_resolved.specs.declared.name.Use.{Use}
use Rattle.hdc_resolved.specs.Mirror.{expression_of}
use Rattle.hdc_resolved.specs.Syntax as resolved
use Rattle.hdc_resolving.specs.declared.chain.Placed as memory
use Rattle.hdc_resolving.specs.declared.known.Known.{Known}
use Rattle.hdc_resolving.specs.declared.walk.Walk.{Walk}
use Rattle.hdc_resolving.specs.Grouped.{Placed, Joining}
use Rattle.hdc_resolving.specs.Locals.{link_uses}
use Rattle.hdc_resolving.specs.Numbering.{moved}
use Rattle.hdc_resolving.specs.Placing.{placed_of}
use Rattle.hdc_bindings.specs.Resolving.{behind_links, placed_before, resolved_operand, resolved_expression}

-- behind so many links stands the last operand
pub last_place : {A : Type 0} (f : A → Linked) (xs : List A) (a : Operand) → operand_in (each_link f xs) a (length xs) ≡ first_of_operand a
last_place f [] a = refl
last_place f (x ∷ xs) a = last_place f xs a

-- the operands before the last, and this
pub with_last : (before now : List memory.Placed) (last : memory.Placed) (front : List Placed) (at : At) (what : resolved.Expression) → map placed_of before ≡ front → now ≡ before ++ (last ∷ []) → last.at ≡ at → expression_of last.what ≡ what → map placed_of now ≡ front ++ (record { at = at; what = what } ∷ [])
with_last before now last front at what front_is now_is at_is what_is =
    ap (map placed_of) now_is ∙ map-append placed_of before (last ∷ []) ∙ (λ i. front_is i ++ (record { at = at_is i; what = what_is i } ∷ []))

module _ (join : Joining) (k : Known) where
  pub chained : (ls : Links) (s : Sign) (a : Operand) (w last : Walk) (rest : List NextOperand) (uses : List Use) (all : List Placed) (what : resolved.Expression) (whole : resolved.Expression) → rest ≡ rest_in w.fixities (chain ls s a) → uses ≡ link_uses ls k w.names → last ≡ moved (behind_links ls w.counter) w → what ≡ resolved_operand join k a last → all ≡ placed_before join k ls w ++ (record { at = first_of_operand a; what = what } ∷ []) → whole ≡ (join k.src (chain ls s a) rest uses all).what → whole ≡ resolved_expression join k (chain ls s a) w
  chained ls s a w last rest uses all what whole rest_is uses_is last_is what_is all_is whole_is =
      let operand_is = what_is ∙ ap (resolved_operand join k a) last_is in
      whole_is ∙ (λ i. (join k.src (chain ls s a) (rest_is i) (uses_is i) ((all_is ∙ ap (λ z. placed_before join k ls w ++ (record { at = first_of_operand a; what = z } ∷ [])) operand_is) i)).what)
