use Rattle.std.proofs.Common.{◌≤◌, length, take, drop, sym, ap, subst, ◌∙◌, false, Ok, Err}
use Rattle.hdc_lex.specs.Pieces.{piece_at}
use Rattle.hdc_lex.specs.declared.lexeme.Piece.TheVariants as piece
use Rattle.hdc_lex.proofs.Lexemes.{Reading, reading_none, reading_next, one_more_token, size_within, too_many, stopped}
use Rattle.std.proofs.lemmas.List.{append-nil}
use Rattle.std.proofs.lemmas.Bool.{leb-true, leb-false}
use Rattle.hdc_lex.specs.Place.{behind_all}
use Rattle.hdc_lex.specs.Lexing.{most_lexemes, stop_of, Lexes}
use Rattle.hdc_lex.proofs.lexer.lex.Goals.{in-White, in-Comment, in-Lexeme+else-is_full+in_ok-push-in-Lexeme}
use Rattle.hdc_lex.proofs.lexer.lex.Goals as goal

pub loop-offset-init : goal.loop-offset-init
loop-offset-init c = subst (λ tokens. Reading c.args.form c.args.text.now tokens false (record { line = 1; col = 1 }) 0) (sym c.new-tokens.ensures) (reading_none c.args.form c.args.text.now c.requires)

pub returns-then-is_full : goal.returns-then-is_full
returns-then-is_full c =
    let found = ap (λ g. piece_at g (drop c.loop-offset.offset c.args.text.now)) (sym c.greatest_number.ensures.found) ∙ ap (piece_at c.greatest_number.result) (sym c.behind-rest.ensures.rest) ∙ sym c.in_ok-piece.ensures.found ∙ c.in-Ok.is ∙ ap (λ p. Ok (p, c.in-Ok.size)) c.in-Lexeme.is in
    too_many c.args.form c.args.text.now c.loop-offset.tokens c.loop-offset.minus c.loop-offset.at c.loop-offset.offset c.in-Lexeme.word c.in-Ok.size c.loop-offset.invariant found (leb-true most_lexemes (length c.loop-offset.tokens) (sym c.is_full.ensures ∙ c.if-is_full.true))

pub loop-offset-preserved : goal.loop-offset-preserved
loop-offset-preserved c =
    let found = ap (λ g. piece_at g (drop c.loop-offset.offset c.args.text.now)) (sym c.greatest_number.ensures.found) ∙ ap (piece_at c.greatest_number.result) (sym c.behind-rest.ensures.rest) ∙ sym c.in_ok-piece.ensures.found ∙ c.in-Ok.is in
    let within = subst (λ rest. c.in-Ok.size ≤ length rest) c.behind-rest.ensures.rest (size_within (length c.behind-rest.result.now) c.in_ok-piece.field-0 c.in-Ok.piece c.in-Ok.size c.in-Ok.is c.in_ok-piece.ensures.within) in
    let there = c.behind_all-next.ensures ∙ ap (behind_all c.loop-offset.at) (c.front.ensures ∙ ap (take c.in-Ok.size) c.behind-rest.ensures.rest) in
    let next = reading_next c.args.form c.args.text.now c.loop-offset.tokens c.loop-offset.minus c.loop-offset.at c.loop-offset.offset in
    elim c.match-piece.branch [
      | in-White w ↦ next piece.White c.in-Ok.size c.loop-offset.invariant (found ∙ ap (λ p. Ok (p, c.in-Ok.size)) w.in-White.is) within _ _ _ (w.tokens-is ∙ sym (append-nil c.loop-offset.tokens)) w.minus-is there (subst (λ ts. length ts ≤ most_lexemes) (sym w.tokens-is) c.loop-offset.invariant.count)
      | in-Comment w ↦ next piece.Comment c.in-Ok.size c.loop-offset.invariant (found ∙ ap (λ p. Ok (p, c.in-Ok.size)) w.in-Comment.is) within _ _ _ (w.tokens-is ∙ sym (append-nil c.loop-offset.tokens)) w.minus-is there (subst (λ ts. length ts ≤ most_lexemes) (sym w.tokens-is) c.loop-offset.invariant.count)
      | in-Lexeme+else-is_full+in_ok-push-in-Lexeme w ↦ next (piece.Lexeme w.in-Lexeme.word) c.in-Ok.size c.loop-offset.invariant (found ∙ ap (λ p. Ok (p, c.in-Ok.size)) w.in-Lexeme.is) within _ _ _ (w.tokens-is ∙ w.in_ok-push-in-Lexeme.ensures.ok) (w.minus-is ∙ w.is_minus-minus.ensures) there (one_more_token c.loop-offset.tokens _ _ _ w.tokens-is w.in_ok-push-in-Lexeme.ensures.ok (leb-false most_lexemes (length c.loop-offset.tokens) (sym w.is_full.ensures ∙ w.if-is_full.false)))
    ]

pub returns-in-Err : goal.returns-in-Err
returns-in-Err c =
    let found = ap (λ g. piece_at g (drop c.loop-offset.offset c.args.text.now)) (sym c.greatest_number.ensures.found) ∙ ap (piece_at c.greatest_number.result) (sym c.behind-rest.ensures.rest) ∙ sym c.in_ok-piece.ensures.found ∙ c.in-Err.is in
    let told = c.stop_of.ensures ∙ ap (λ rest. stop_of c.loop-offset.at rest c.in-Err.fault) c.behind-rest.ensures.rest in
    subst (λ s. Lexes c.args.form c.args.text.now (Err s)) (sym told) (stopped c.args.form c.args.text.now c.loop-offset.tokens c.loop-offset.minus c.loop-offset.at c.loop-offset.offset c.in-Err.fault c.loop-offset.invariant found c.loop-offset-test.true)
