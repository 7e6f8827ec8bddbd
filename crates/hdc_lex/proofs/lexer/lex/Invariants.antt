use Rattle.std.proofs.Common.{◌-◌, length}
use Rattle.hdc_lex.proofs.Lexemes.{Reading}
use Rattle.hdc_lex.proofs.lexer.lex.Given as goal

abbrev pub invariant-loop-offset : goal.invariant-loop-offset
invariant-loop-offset l = Reading l.form l.text l.tokens l.minus l.at l.offset

abbrev pub decreases-loop-offset : goal.decreases-loop-offset
decreases-loop-offset l = length l.text - l.offset
