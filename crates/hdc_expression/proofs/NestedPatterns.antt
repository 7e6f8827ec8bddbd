-- Patterns and types nest alike at every depth.
use Rattle.std.proofs.Common.{◌≡◌, ℕ, zero, suc, refl}
use Rattle.hdc_syntax.specs.PatternReader.{apat}
use Rattle.hdc_syntax.specs.TypeReader.{atype}
use Rattle.hdc_expression.specs.Nested.{nested}

pub nested_apat : (turns depth : ℕ) → (nested turns depth).apat ≡ apat turns depth
nested_apat turns zero = refl
nested_apat turns (suc depth) = refl

pub nested_atype : (turns depth : ℕ) → (nested turns depth).atype ≡ atype turns depth
nested_atype turns zero = refl
nested_atype turns (suc depth) = refl
