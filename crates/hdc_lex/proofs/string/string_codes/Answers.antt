use Rattle.std.proofs.Common.{◌+◌, ◌≤◌, length, sym, ap, subst, ◌∙◌, arith, Ok, Err, None}
use Rattle.std.proofs.lemmas.List.{append-nil}
use Rattle.hdc_lex.specs.Characters.{character_at}
use Rattle.hdc_lex.specs.Pieces.{begins_with}
use Rattle.hdc_lex.proofs.Strings.{CodesSoFar, codes_more, codes_closed, codes_stopped}
use Rattle.hdc_lex.proofs.string.string_codes.Goals as goal

pub returns-then-begins_with-clause-found : goal.returns-then-begins_with-clause-found
returns-then-begins_with-clause-found c =
    codes_closed c.args.text.now c.loop-rest.codes c.loop-rest.offset c.loop-rest.invariant.front (ap (begins_with 34) (sym c.behind-rest.ensures.rest) ∙ sym c.begins_with.ensures.found ∙ c.if-begins_with.true)

pub loop-rest-preserved-in-Ok-Some-default : goal.loop-rest-preserved-in-Ok-Some-default
loop-rest-preserved-in-Ok-Some-default c =
    let g = ap (begins_with 34) (sym c.behind-rest.ensures.rest) ∙ sym c.begins_with.ensures.found ∙ c.if-begins_with.false in
    let h = ap (character_at 34) (sym c.behind-rest.ensures.rest) ∙ sym c.character_at.ensures.found ∙ c.in-Ok-Some-default.is ∙ ap (λ o. Ok (o, c.in-Ok-Some-default.size)) c.in-Ok-Some-default.field-0-0-is in
    let within = subst (λ rest. c.in-Ok-Some-default.size ≤ length rest) c.behind-rest.ensures.rest c.in-Ok-Some-default.ensures.within in
    let front = codes_more c.args.text.now c.loop-rest.codes c.loop-rest.offset c.in-Ok-Some-default.size _ c.loop-rest.invariant.front g h c.in-Ok-Some-default.ensures.some within in
    record {
      front = subst (λ codes. CodesSoFar c.args.text.now codes (c.loop-rest.offset + c.in-Ok-Some-default.size)) (sym c.in_ok-push-in-Ok-Some-default.ensures.ok) front;
      within = omega (arith, c.in-Ok-Some-default.ensures.within, c.behind-rest.ensures.size, c.loop-rest.invariant.within);
    }

pub loop-rest-preserved : goal.loop-rest-preserved
loop-rest-preserved c =
    let g = ap (begins_with 34) (sym c.behind-rest.ensures.rest) ∙ sym c.begins_with.ensures.found ∙ c.if-begins_with.false in
    let h = ap (character_at 34) (sym c.behind-rest.ensures.rest) ∙ sym c.character_at.ensures.found ∙ c.in-Ok-None-default.is ∙ ap (λ o. Ok (o, c.in-Ok-None-default.size)) c.in-Ok-None-default.field-0-0-is in
    let within = subst (λ rest. c.in-Ok-None-default.size ≤ length rest) c.behind-rest.ensures.rest c.in-Ok-None-default.ensures.within in
    let front = codes_more c.args.text.now c.loop-rest.codes c.loop-rest.offset c.in-Ok-None-default.size None c.loop-rest.invariant.front g h c.in-Ok-None-default.ensures.some within in
    record {
      front = subst (λ codes. CodesSoFar c.args.text.now codes (c.loop-rest.offset + c.in-Ok-None-default.size)) (append-nil c.loop-rest.codes) front;
      within = omega (arith, c.in-Ok-None-default.ensures.within, c.behind-rest.ensures.size, c.loop-rest.invariant.within);
    }

pub returns-in-Err-clause-found : goal.returns-in-Err-clause-found
returns-in-Err-clause-found c =
    let g = ap (begins_with 34) (sym c.behind-rest.ensures.rest) ∙ sym c.begins_with.ensures.found ∙ c.if-begins_with.false in
    let h = ap (character_at 34) (sym c.behind-rest.ensures.rest) ∙ sym c.character_at.ensures.found ∙ c.in-Err.is in
    ap Err c.further.ensures.found ∙ codes_stopped c.args.text.now c.loop-rest.codes c.loop-rest.offset c.in-Err.fault c.loop-rest.invariant.front g h
