-- Declarations that become bindings one after the other are the bindings of their block.
use Rattle.std.proofs.Common.{◌≡◌, ℕ, suc, ◌-◌, Bool, true, false, List, [], ◌∷◌, ◌++◌, Option, None, Some, if◌then◌else◌, refl, ap, sym, ◌∙◌, append_assoc, append-nil}
use Rattle.hdc_base.specs.declared.place.Place.{Place}
use Rattle.hdc_resolved.specs.Syntax as resolved
use Rattle.hdc_resolved.specs.Mirror.{chain}
use Rattle.hdc_written.specs.Firsts.{first_of_pattern}
use Rattle.hdc_written.specs.Written.{all_variables, Declaration, empty, signature, equation, binding, Declarations, no_declaration, declaration}
use Rattle.hdc_resolving.specs.declared.known.Known.{Known}
use Rattle.hdc_resolving.specs.declared.walk.Walk.{Walk}
use Rattle.hdc_resolving.specs.Grouped.{Joining}
use Rattle.hdc_resolving.specs.Growths.{Equating, Binding, Current, Grown, nothing_grown, named, done_with, with_further, gone_on, begun, finished}
use Rattle.hdc_resolving.specs.Literals.{place_in}
use Rattle.hdc_resolving.specs.Locals.{resolved_signature}
use Rattle.hdc_resolving.specs.Numbering.{entered, moved, variable_number}
use Rattle.hdc_resolving.specs.Parts.{Bound}
use Rattle.hdc_resolving.specs.Patterns.{resolved_pattern, resolved_patterns}
use Rattle.hdc_resolving.specs.Standing.{goes_on, opened}
use Rattle.hdc_bindings.specs.Resolving.{behind_declaration, homes, resolved_signatures, equation_before, resolved_right_side, resolved_members, further_equations}
use Rattle.hdc_bindings.specs.Blocks.{bound_in, declared_in, all_declared_in}
use Rattle.hdc_bindings.proofs.Lists.{chain_joined}

-- the equations with which the current function goes on, and the bindings behind it
abbrev continued : Option Current → resolved.Equations → resolved.Members → resolved.Members
continued None es ms = ms
continued (Some c) es ms = resolved.named c.place c.number (chain c.equations es) ms

continued_further : (c : Option Current) (e : Equating) (es : resolved.Equations) (ms : resolved.Members) → continued (with_further c e) es ms ≡ continued c (e es) ms
continued_further None e es ms = refl
continued_further (Some c) e es ms = ap (λ z. resolved.named c.place c.number z ms) (chain_joined c.equations (e ∷ []) es)

done_all : (ms : List Binding) (c : Option Current) (end : resolved.Members) → chain (done_with ms c) end ≡ chain ms (continued c resolved.no_equation end)
done_all ms None end = refl
done_all ms (Some c) end = chain_joined ms (named c ∷ []) end

abbrev bound : resolved.Members → List resolved.Signed → List ℕ → Bound
bound ms ss hs = record { members = ms; signatures = ss; homes = hs }

same_bound : (ms ns : resolved.Members) (ss ts : List resolved.Signed) (hs is : List ℕ) → ms ≡ ns → ss ≡ ts → hs ≡ is → bound ms ss hs ≡ bound ns ts is
same_bound ms ns ss ts hs is p q r = λ i. bound (p i) (q i) (r i)

module _ (join : Joining) (k : Known) where
  -- what has grown, and what further declarations become
  abbrev total : Grown → Declarations → Walk → Bound
  total g ds w = bound (chain g.done (continued g.current (further_equations join k ds g.before w) (resolved_members join k ds g.before w))) (g.signatures ++ resolved_signatures ds k w.names) (g.homes ++ homes ds g.before g.next)

  -- no equation goes on where there is none before it
  none_further : (ds : Declarations) (w : Walk) → further_equations join k ds None w ≡ resolved.no_equation
  none_further no_declaration w = refl
  none_further (declaration empty ds) w = none_further ds w
  none_further (declaration (signature xs t) ds) w = refl
  none_further (declaration (equation at x ps r) ds) w = refl
  none_further (declaration (binding p r) ds) w = refl

  -- an equation goes on with the function before it, or begins another with this place and number
  equation_step : (b : Bool) (p : Place) (n : ℕ) (o : Option (List ℕ)) (e : Equating) (ds : Declarations) (w : Walk) (g : Grown) →
      total (if b then gone_on e g else begun p n o e g) ds w
      ≡ bound
      (chain g.done (continued g.current (if b then e (further_equations join k ds g.before w) else resolved.no_equation) (if b then resolved_members join k ds g.before w else resolved.named p n (e (further_equations join k ds o w)) (resolved_members join k ds o w))))
      (g.signatures ++ resolved_signatures ds k w.names)
      (g.homes ++ (if b then (g.next - 1) ∷ homes ds g.before g.next else g.next ∷ homes ds o (suc g.next)))
  equation_step true p n o e ds w g = λ i. bound
      (chain g.done (continued_further g.current e (further_equations join k ds g.before w) (resolved_members join k ds g.before w) i))
      (g.signatures ++ resolved_signatures ds k w.names)
      (append_assoc g.homes ((g.next - 1) ∷ []) (homes ds g.before g.next) i)
  equation_step false p n o e ds w g = λ i. bound
      (done_all g.done g.current (resolved.named p n (e (further_equations join k ds o w)) (resolved_members join k ds o w)) i)
      (g.signatures ++ resolved_signatures ds k w.names)
      (append_assoc g.homes (g.next ∷ []) (homes ds o (suc g.next)) i)

  declared_step : (d : Declaration) (ds : Declarations) (w : Walk) (g : Grown) → total (declared_in join k d w g) ds (moved (behind_declaration d w.counter) w) ≡ total g (declaration d ds) w
  declared_step empty ds w g = ap (bound (chain g.done (continued g.current (further_equations join k ds g.before w) (resolved_members join k ds g.before w))) (g.signatures ++ resolved_signatures ds k w.names)) (append_assoc g.homes (g.next ∷ []) (homes ds g.before g.next))
  declared_step (signature xs t) ds w g = λ i. bound
      (chain g.done (continued g.current (none_further ds w i) (resolved_members join k ds None w)))
      (append_assoc g.signatures (resolved_signature k w.names xs t ∷ []) (resolved_signatures ds k w.names) i)
      (append_assoc g.homes (g.next ∷ []) (homes ds None g.next) i)
  declared_step (equation at x ps r) ds w g = equation_step (goes_on g.before x.text ps) (place_in k.src x.at) (variable_number w.names x) (opened x.text ps) (equation_before k at (resolved_patterns ps k (entered (all_variables ps) w).names) (resolved_right_side join k r (entered (all_variables ps) w))) ds (moved (behind_declaration (equation at x ps r) w.counter) w) g
  declared_step (binding p r) ds w g =
      let next = moved (behind_declaration (binding p r) w.counter) w in
      let e = resolved.matched (place_in k.src (first_of_pattern p)) (resolved_pattern p k w.names) (resolved_right_side join k r w) in
      same_bound
      (chain (done_with g.done g.current ++ (e ∷ [])) (resolved_members join k ds None next)) (chain g.done (continued g.current resolved.no_equation (e (resolved_members join k ds None next))))
      (g.signatures ++ resolved_signatures ds k w.names) (g.signatures ++ resolved_signatures ds k w.names)
      ((g.homes ++ (g.next ∷ [])) ++ homes ds None (suc g.next)) (g.homes ++ (g.next ∷ homes ds None (suc g.next)))
      (chain_joined (done_with g.done g.current) (e ∷ []) (resolved_members join k ds None next) ∙ done_all g.done g.current (e (resolved_members join k ds None next)))
      refl
      (append_assoc g.homes (g.next ∷ []) (homes ds None (suc g.next)))

  finished_total : (ds : Declarations) (w : Walk) (g : Grown) → finished (all_declared_in join k ds w g) ≡ total g ds w
  finished_total no_declaration w g = same_bound
      (chain (done_with g.done g.current) resolved.no_member) (chain g.done (continued g.current resolved.no_equation resolved.no_member))
      g.signatures (g.signatures ++ []) g.homes (g.homes ++ [])
      (done_all g.done g.current resolved.no_member) (sym (append-nil g.signatures)) (sym (append-nil g.homes))
  finished_total (declaration d ds) w g = finished_total ds (moved (behind_declaration d w.counter) w) (declared_in join k d w g) ∙ declared_step d ds w g

-- a block of declarations
pub declared_block : (join : Joining) (k : Known) (ds : Declarations) (w : Walk) → finished (all_declared_in join k ds w nothing_grown) ≡ bound_in join k ds w
declared_block join k ds w = finished_total join k ds w nothing_grown

-- the same, one declaration after the other
pub grown_block : (join : Joining) (k : Known) (d : Declaration) (ds : Declarations) (w w1 : Walk) (g g1 g2 : Grown) → g ≡ nothing_grown → g1 ≡ declared_in join k d w g → w1 ≡ moved (behind_declaration d w.counter) w → g2 ≡ all_declared_in join k ds w1 g1 → finished g2 ≡ bound_in join k (declaration d ds) w
grown_block join k d ds w w1 g g1 g2 none first moved_is rest =
    ap finished (rest ∙ (λ i. all_declared_in join k ds (moved_is i) ((first ∙ ap (declared_in join k d w) none) i)))
    ∙ declared_block join k (declaration d ds) w

pub ruleset declared = (declared_block)
