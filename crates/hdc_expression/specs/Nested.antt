-- The parsers of what nests, by how deep it may nest.
use Rattle.std.specs.Prelude.{ℕ, zero, suc, Bool}
use Rattle.hdc_syntax.specs.Parser.{too_deep}
use Rattle.hdc_syntax.specs.PatternReader.{apat}
use Rattle.hdc_syntax.specs.TypeReader.{atype}
use Rattle.hdc_expression.specs.ExpressionReader.{Inner, exp_level}
use Rattle.hdc_expression.specs.DeclarationReader.{block, alts}

-- each reads what nests less deep than this
abbrev pub nested : ℕ → ℕ → Inner
nested turns zero = record { exp = λ section taken. too_deep; block = too_deep; alts = too_deep; apat = apat turns zero; atype = atype turns zero }
nested turns (suc depth) = record {
  exp = exp_level turns (nested turns depth);
  block = block turns (nested turns depth);
  alts = alts turns (nested turns depth);
  apat = apat turns (suc depth);
  atype = atype turns (suc depth);
}
