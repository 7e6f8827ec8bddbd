-- Declarations at the top that become bindings one after the other are the bindings of their text.
use Rattle.std.proofs.Common.{◌≡◌, Bool, true, false, List, [], ◌∷◌, ◌++◌, Option, None, Some, if◌then◌else◌, refl, ap, sym, ◌∙◌, append_assoc, append-nil}
use Rattle.hdc_tree.specs.declared.head.Head.{Head}
use Rattle.hdc_tree.specs.declared.program.Top.{Top}
use Rattle.hdc_tree.specs.declared.program.Top.TheVariants as top
use Rattle.hdc_resolved.specs.Syntax as resolved
use Rattle.hdc_resolved.specs.Mirror.{chain}
use Rattle.hdc_written.specs.Mirror.{head_name, head_patterns, signed_names}
use Rattle.hdc_written.specs.TypeMirror.{type_exp_of}
use Rattle.hdc_resolving.specs.declared.known.Known.{Known}
use Rattle.hdc_resolving.specs.declared.walk.Walk.{Walk}
use Rattle.hdc_bindings.specs.Defined.{Current, Defined, whole, done_with, closed, with_further, gone_on, begun, defined_in, all_defined_in}
use Rattle.hdc_resolving.specs.Grouped.{Joining}
use Rattle.hdc_resolving.specs.Growths.{Equating}
use Rattle.hdc_resolving.specs.Literals.{place_in}
use Rattle.hdc_resolving.specs.Locals.{resolved_signature}
use Rattle.hdc_resolving.specs.Numbering.{moved}
use Rattle.hdc_resolving.specs.Standing.{goes_on, opened}
use Rattle.hdc_bindings.specs.Tops.{behind_declared, equation_in, further_tops, top_bindings, top_signatures}
use Rattle.hdc_bindings.proofs.Lists.{chain_joined}

-- what is defined
record AllDefined : Type 0 where
  bindings : List resolved.Binding
  signatures : List resolved.Signed

abbrev all_defined : List resolved.Binding → List resolved.Signed → AllDefined
all_defined bs ss = record { bindings = bs; signatures = ss }

-- the equations with which the current function goes on, and the bindings behind it
abbrev continued : Option Current → resolved.Equations → List resolved.Binding → List resolved.Binding
continued None es bs = bs
continued (Some c) es bs = record { text = c.text; place = c.place; equations = chain c.equations es } ∷ bs

continued_further : (c : Option Current) (e : Equating) (es : resolved.Equations) (bs : List resolved.Binding) → continued (with_further c e) es bs ≡ continued c (e es) bs
continued_further None e es bs = refl
continued_further (Some c) e es bs = ap (λ z. record { text = c.text; place = c.place; equations = z } ∷ bs) (chain_joined c.equations (e ∷ []) es)

done_all : (ds : List resolved.Binding) (c : Option Current) (bs : List resolved.Binding) → done_with ds c ++ bs ≡ ds ++ continued c resolved.no_equation bs
done_all ds None bs = refl
done_all ds (Some c) bs = append_assoc ds (whole c ∷ []) bs

module _ (join : Joining) (k : Known) where
  -- what is defined, and what further declarations become
  abbrev total : Defined → List Top → Walk → AllDefined
  total g ts w = all_defined (g.done ++ continued g.current (further_tops join k ts g.before w) (top_bindings join k ts g.before w)) (g.signatures ++ top_signatures ts k w.names)

  -- no equation goes on where there is none before it
  none_further : (ts : List Top) (w : Walk) → further_tops join k ts None w ≡ resolved.no_equation
  none_further [] w = refl
  none_further (top.Empty ∷ ts) w = none_further ts w
  none_further (top.Data d ∷ ts) w = refl
  none_further (top.Synonym s ∷ ts) w = refl
  none_further (top.Fixity f ∷ ts) w = refl
  none_further (top.Signature x xs a t ∷ ts) w = refl
  none_further (top.Equation h r ∷ ts) w = refl

  closed_total : (ts : List Top) (w : Walk) (g : Defined) → total (closed g) ts w ≡ all_defined (g.done ++ continued g.current resolved.no_equation (top_bindings join k ts None w)) (g.signatures ++ top_signatures ts k w.names)
  closed_total ts w g = ap (λ z. all_defined z (g.signatures ++ top_signatures ts k w.names)) (done_all g.done g.current (top_bindings join k ts None w))

  -- an equation goes on with the function before it, or begins another
  equation_step : (b : Bool) (h : Head) (e : Equating) (ts : List Top) (w : Walk) (g : Defined) →
      total (if b then gone_on e g else begun k h e g) ts w
      ≡ all_defined
      (g.done ++ continued g.current (if b then e (further_tops join k ts g.before w) else resolved.no_equation) (if b then top_bindings join k ts g.before w else record { text = (head_name h).text; place = place_in k.src (head_name h).at; equations = e (further_tops join k ts (opened (head_name h).text (head_patterns h)) w) } ∷ top_bindings join k ts (opened (head_name h).text (head_patterns h)) w))
      (g.signatures ++ top_signatures ts k w.names)
  equation_step true h e ts w g = ap (λ z. all_defined (g.done ++ z) (g.signatures ++ top_signatures ts k w.names)) (continued_further g.current e (further_tops join k ts g.before w) (top_bindings join k ts g.before w))
  equation_step false h e ts w g = ap (λ z. all_defined z (g.signatures ++ top_signatures ts k w.names)) (done_all g.done g.current (record { text = (head_name h).text; place = place_in k.src (head_name h).at; equations = e (further_tops join k ts (opened (head_name h).text (head_patterns h)) w) } ∷ top_bindings join k ts (opened (head_name h).text (head_patterns h)) w))

  defined_step : (t : Top) (ts : List Top) (w : Walk) (g : Defined) → total (defined_in join k t w g) ts (moved (behind_declared t w.counter) w) ≡ total g (t ∷ ts) w
  defined_step top.Empty ts w g = refl
  defined_step (top.Data d) ts w g = closed_total ts w g
  defined_step (top.Synonym s) ts w g = closed_total ts w g
  defined_step (top.Fixity f) ts w g = closed_total ts w g
  defined_step (top.Signature x xs a t) ts w g = λ i. all_defined
      (done_all g.done g.current (top_bindings join k ts None w) i)
      (append_assoc g.signatures (resolved_signature k w.names (signed_names x xs) (type_exp_of t) ∷ []) (top_signatures ts k w.names) i)
  defined_step (top.Equation h r) ts w g = equation_step (goes_on g.before (head_name h).text (head_patterns h)) h (equation_in join k h r w) ts (moved (behind_declared (top.Equation h r) w.counter) w) g

  -- all declarations of a text, behind what is defined before it
  defined_total : (ts : List Top) (w : Walk) (g : Defined) → all_defined (closed (all_defined_in join k ts w g)).done (all_defined_in join k ts w g).signatures ≡ total g ts w
  defined_total [] w g = λ i. all_defined ((sym (append-nil (done_with g.done g.current)) ∙ done_all g.done g.current []) i) (sym (append-nil g.signatures) i)
  defined_total (t ∷ ts) w g = defined_total ts (moved (behind_declared t w.counter) w) (defined_in join k t w g) ∙ defined_step t ts w g

  pub bindings_of_text : (ts : List Top) (w : Walk) (g : Defined) → done_with (all_defined_in join k ts w (closed g)).done (all_defined_in join k ts w (closed g)).current ≡ (closed g).done ++ top_bindings join k ts None w
  bindings_of_text ts w g = ap (λ (z : AllDefined). z.bindings) (defined_total ts w (closed g))

  pub signatures_of_text : (ts : List Top) (w : Walk) (g : Defined) → (all_defined_in join k ts w (closed g)).signatures ≡ g.signatures ++ top_signatures ts k w.names
  signatures_of_text ts w g = ap (λ (z : AllDefined). z.signatures) (defined_total ts w (closed g))

pub ruleset defined = (bindings_of_text, signatures_of_text)
