-- Qualifiers are put before those behind them, from the last to the first.
use Rattle.std.proofs.Common.{◌≡◌, List, [], ◌∷◌, ◌++◌, map, refl, ap, sym, ◌∙◌}
use Rattle.std.proofs.lemmas.List.{map-append}
use Rattle.hdc_resolved.specs.declared.expression.Quals.{Quals}
use Rattle.hdc_resolved.specs.Mirror.{qualifiers_of}
use Rattle.hdc_resolving.specs.declared.known.Known.{Known}
use Rattle.hdc_resolving.specs.declared.quals.Part as memory
use Rattle.hdc_resolving.specs.declared.walk.Counter.{Counter}
use Rattle.hdc_resolving.specs.declared.walk.Walk.{Walk}
use Rattle.hdc_resolving.specs.Numbering.{moved}
use Rattle.hdc_resolving.specs.Parts.{Part, part_of, Wrapped, wrap, wrapped}

wrapped_last : (k : Known) (ps : List Part) (p : Part) (q : Wrapped) → wrapped k (ps ++ (p ∷ [])) q ≡ wrapped k ps (wrap k p q)
wrapped_last k [] p q = refl
wrapped_last k (x ∷ ps) p q = ap (wrap k x) (wrapped_last k ps p q)

abbrev held : Quals → Counter → Wrapped
held q c = record { quals = qualifiers_of q; counter = c }

-- one qualifier more is put before those behind it
pub next_wrapped : (k : Known) (parts left : List memory.Part) (p : memory.Part) (walk next : Walk) (whole after : Quals) → parts ≡ left ++ (p ∷ []) → qualifiers_of after ≡ (wrap k (part_of p) (held whole walk.counter)).quals → next ≡ moved (wrap k (part_of p) (held whole walk.counter)).counter walk → wrapped k (map part_of parts) (held whole walk.counter) ≡ wrapped k (map part_of left) (held after next.counter)
next_wrapped k parts left p walk next whole after split quals counter =
    let q = held whole walk.counter in
    let now : wrap k (part_of p) q ≡ held after next.counter = λ i. record { quals = sym quals i; counter = sym (ap (λ (w : Walk). w.counter) counter) i } in
    ap (λ z. wrapped k (map part_of z) q) split
    ∙ ap (λ z. wrapped k z q) (map-append part_of left (p ∷ []))
    ∙ wrapped_last k (map part_of left) (part_of p) q
    ∙ ap (wrapped k (map part_of left)) now

pub moved_on : (c : Counter) (start walk next : Walk) → walk ≡ moved walk.counter start → next ≡ moved c walk → next ≡ moved next.counter start
moved_on c start walk next before now = now ∙ ap (moved c) before ∙ ap (λ z. moved z start) (sym (ap (λ (w : Walk). w.counter) now))
