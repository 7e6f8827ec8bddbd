-- Types among the parsers of what nests.
use Rattle.std.proofs.Common.{◌≡◌, ℕ, zero, suc, refl}
use Rattle.hdc_syntax.specs.TypeReader.{atype}
use Rattle.hdc_expression.specs.Nested.{nested}

pub nested_atype : (turns depth : ℕ) → (nested turns depth).atype ≡ atype turns depth
nested_atype turns zero = refl
nested_atype turns (suc depth) = refl
