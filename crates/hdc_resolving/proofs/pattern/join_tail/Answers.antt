use Rattle.std.proofs.Common.{◌≡◌, ℕ, suc, ◌-◌, ◌<◌, ◌++◌, [], ◌∷◌, length, map, take, drop, sym, ap, ◌∙◌, arith}
use Rattle.hdc_resolved.specs.Mirror.{pattern_of}
use Rattle.hdc_written.specs.Firsts.{first_of_pattern}
use Rattle.hdc_written.specs.Mirror.{each_pattern, cons_pat_of}
use Rattle.hdc_written.proofs.PatternMirror.{colon_of, cons_pat_parts}
use Rattle.hdc_resolving.specs.Patterns.{consed, each_first, joined_to, joined_tail, tail_of}
use Rattle.hdc_resolving.proofs.Patterns.{taken, next_joined, all_joined}
use Rattle.hdc_resolving.proofs.pattern.join_tail.Goals as goal
use Rattle.hdc_resolving.proofs.pattern.join_tail.Goals.{in-Some-tail+in_ok-joined-in-Some-tail, in-None}

pub loop-count-preserved-in-Some : goal.loop-count-preserved-in-Some
loop-count-preserved-in-Some c =
    let test = c.loop-count-test.true in
    let within = c.loop-count.invariant.within in
    let enough = c.requires in
    let k = c.args.known.now in
    let parts = c.args.parts.now in
    let pats = c.args.pats in
    let part = c.index-parts-count.result in
    let i : ℕ = c.loop-count.count - 1 in
    let one : suc i ≡ c.loop-count.count = omega (arith, test) in
    let lt : i < length parts = omega (arith, test, within) in
    let popped : take (suc i) pats ≡ c.pop.new.self ++ (c.in-Some.pat ∷ []) = ap (λ z. take z pats) one ∙ sym c.loop-count.invariant.left ∙ c.in-Some.ensures in
    let t = taken i pats c.pop.new.self c.in-Some.pat (omega (arith, lt, enough)) popped in
    let so_far = c.loop-count.invariant.tail ∙ ap (λ z. joined_tail k (map colon_of (drop z parts)) (each_first (each_pattern cons_pat_of (drop z parts))) (map pattern_of (drop z pats))) (sym one) in
    let first = first_of_pattern (cons_pat_of part) in
    let done : pattern_of c.match-tail.joined ≡ joined_to k first (pattern_of c.in-Some.pat) (tail_of c.loop-count.tail) =
    elim c.match-tail.branch [
      | in-None w ↦ ap pattern_of w.joined-is ∙ sym (ap (λ z. joined_to k first (pattern_of c.in-Some.pat) (tail_of z)) w.in-None.is)
      | in-Some-tail+in_ok-joined-in-Some-tail w ↦
          ap pattern_of w.joined-is
          ∙ w.in_ok-joined-in-Some-tail.ensures
          ∙ ap (λ a. consed k a w.in-Some-tail.colon (pattern_of c.in-Some.pat) (pattern_of w.in-Some-tail.behind)) (w.first_of_left_pat.ensures ∙ ap first_of_pattern (sym (cons_pat_parts part)))
          ∙ sym (ap (λ z. joined_to k first (pattern_of c.in-Some.pat) (tail_of z)) w.in-Some-tail.is)
    ] in
    record {
      within = omega (arith, within);
      left = t.left_is;
      tail = next_joined k parts i part pats c.in-Some.pat c.match-tail.joined c.loop-count.tail lt c.index-parts-count.is t.behind so_far done;
    }

pub returns : goal.returns
returns c =
    let test = c.loop-count-test.false in
    all_joined c.args.known.now c.args.parts.now c.args.pats c.loop-count.tail c.loop-count.count (omega (arith, test)) c.loop-count.invariant.tail
