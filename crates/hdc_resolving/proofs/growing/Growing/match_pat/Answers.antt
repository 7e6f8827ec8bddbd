use Rattle.std.proofs.Common.{◌≡◌, [], ◌∷◌, ◌++◌, map, ap, ◌∙◌}
use Rattle.hdc_resolved.specs.Mirror.{member_of, pattern_of, right_of}
use Rattle.hdc_resolved.specs.Syntax as resolved
use Rattle.hdc_resolving.specs.Growths.{Grown, grown}
use Rattle.hdc_resolving.proofs.Members.{on_ok, with_matched, begins_anew}
use Rattle.hdc_resolving.proofs.growing.Growing.match_pat.Goals as goal

pub returns : goal.returns
returns c =
    let matched = resolved.matched c.args.place (pattern_of c.args.pat) (right_of c.args.rhs) in
    let before : Grown = grown c.close.new.self in
    let done : map member_of c.push.new.self ≡ before.done ++ (matched ∷ []) = ap (map member_of) c.in_ok-push.ensures.ok ∙ with_matched c.close.new.self.done c.args.place c.args.pat c.args.rhs in
    on_ok c.count.result
    (λ counted. counted ∙ ap (begins_anew before) done ∙ ap (λ (z : Grown). begins_anew z (z.done ++ (matched ∷ []))) c.in_ok-close.ensures)
    c.count.ensures
