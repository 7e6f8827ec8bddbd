-- The bindings and signatures of both texts.
use Rattle.std.proofs.Common.{◌≡◌, ℕ, List, ◌++◌, None, ap, ◌∙◌}
use Rattle.hdc_tree.specs.declared.program.Top.{Top}
use Rattle.hdc_bindings.specs.declared.resolve.Opened.{Opened}
use Rattle.hdc_resolving.specs.declared.known.Known.{Known}
use Rattle.hdc_resolving.specs.declared.walk.Walk.{Walk}
use Rattle.hdc_bindings.specs.Defined.{Defined, nothing, closed, all_defined_in}
use Rattle.hdc_resolving.specs.Grouped.{by_steps}
use Rattle.hdc_resolving.specs.Numbering.{moved}
use Rattle.hdc_bindings.specs.Opening.{prelude_opened, opened_behind}
use Rattle.hdc_bindings.specs.Tops.{behind_text, top_bindings, top_signatures, prelude_known, prelude_walk, program_known, program_walk, all_bindings, all_signatures}
use Rattle.hdc_bindings.proofs.Defining.{bindings_of_text, signatures_of_text}

module _ (ps ts : List Top) (orders : List (List ℕ)) where
  -- what is opened for the prelude, and what is left of it behind the prelude's bindings
  abbrev first : Opened
  first = prelude_opened ps orders

  abbrev left : Opened
  left = record { known = first.known; walk = moved (behind_text ps first.walk.counter) first.walk; next_top = first.next_top; next_data = first.next_data }

  abbrev of_prelude : Defined
  of_prelude = all_defined_in by_steps first.known ps first.walk (closed nothing)

  abbrev of_program : Defined
  of_program = all_defined_in by_steps (opened_behind ps ts left).known ts (opened_behind ps ts left).walk (closed of_prelude)

  pub bindings_are : (closed of_program).done ≡ all_bindings by_steps ps ts orders
  unfolding all_bindings
  bindings_are =
      bindings_of_text by_steps (program_known ps ts orders) ts (program_walk ps ts) of_prelude
      ∙ ap (λ z. z ++ top_bindings by_steps (program_known ps ts orders) ts None (program_walk ps ts)) (bindings_of_text by_steps (prelude_known ps orders) ps (prelude_walk ps) nothing)

  pub signatures_are : (closed of_program).signatures ≡ all_signatures ps ts orders
  unfolding all_signatures
  signatures_are =
      signatures_of_text by_steps (program_known ps ts orders) ts (program_walk ps ts) of_prelude
      ∙ ap (λ z. z ++ top_signatures ts (program_known ps ts orders) (program_walk ps ts).names) (signatures_of_text by_steps (prelude_known ps orders) ps (prelude_walk ps) nothing)

  -- one text after the other
  pub both_defined : (o o2 : Opened) (k k2 : Known) (v v1 v2 : Walk) (d d1 d2 d3 : Defined) → d ≡ nothing → o ≡ prelude_opened ps orders → k ≡ o.known → v ≡ o.walk → d1 ≡ all_defined_in by_steps k ps v (closed d) → v1 ≡ moved (behind_text ps v.counter) v → o2 ≡ opened_behind ps ts (record { known = k; walk = v1; next_top = o.next_top; next_data = o.next_data }) → k2 ≡ o2.known → v2 ≡ o2.walk → d2 ≡ all_defined_in by_steps k2 ts v2 (closed d1) → d3 ≡ closed d2 → d3 ≡ closed of_program
  both_defined o o2 k k2 v v1 v2 d d1 d2 d3 d_is o_is k_is v_is d1_is v1_is o2_is k2_is v2_is d2_is d3_is =
      let known_is = k_is ∙ ap (λ (z : Opened). z.known) o_is in
      let walk_is = v_is ∙ ap (λ (z : Opened). z.walk) o_is in
      let first_is : d1 ≡ of_prelude = d1_is ∙ (λ i. all_defined_in by_steps (known_is i) ps (walk_is i) (closed (d_is i))) in
      let left_is = v1_is ∙ ap (λ (z : Walk). moved (behind_text ps z.counter) z) walk_is in
      let opened_is : o2 ≡ opened_behind ps ts left = o2_is ∙ (λ i. opened_behind ps ts (record { known = known_is i; walk = left_is i; next_top = (o_is i).next_top; next_data = (o_is i).next_data })) in
      d3_is ∙ ap closed (d2_is ∙ (λ i. all_defined_in by_steps ((k2_is ∙ ap (λ (z : Opened). z.known) opened_is) i) ts ((v2_is ∙ ap (λ (z : Opened). z.walk) opened_is) i) (closed (first_is i))))
