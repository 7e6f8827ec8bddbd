-- Function values that parse what nests, to a depth.
use Rattle.std.specs.Prelude.{ℕ, Bool, Result}
use denote.Ref.{MutBor}
use Rattle.hdc_tree.specs.declared.name.Sign.{Sign}
use Rattle.hdc_tree.specs.declared.expression.Alts.{Alts}
use Rattle.hdc_tree.specs.declared.expression.Block.{Block}
use Rattle.hdc_syntax.specs.declared.cursor.Cursor.{Cursor}
use Rattle.hdc_syntax.specs.declared.stop.Stop.{Stop}
use Rattle.hdc_syntax.specs.Results.{Reads}
use Rattle.hdc_expression.specs.ExpressionReader.{Opened}
use Rattle.hdc_expression.specs.Nested.{nested}

-- each may be called at these turns and this depth, and reads what its parser reads there
pub record Nests (turns depth : ℕ)
    (may_exp : MutBor Cursor → ℕ → ℕ → Bool → Sign → Type 0) (exp : MutBor Cursor → ℕ → ℕ → Bool → Sign → Result Opened Stop → MutBor Cursor → Type 0)
    (may_block : MutBor Cursor → ℕ → ℕ → Type 0) (block : MutBor Cursor → ℕ → ℕ → Result Block Stop → MutBor Cursor → Type 0)
    (may_alts : MutBor Cursor → ℕ → ℕ → Type 0) (alts : MutBor Cursor → ℕ → ℕ → Result Alts Stop → MutBor Cursor → Type 0) : Type 0 where
  pub exp_callable : (old : MutBor Cursor) (section : Bool) (taken : Sign) → may_exp old turns depth section taken
  pub exp_reads : (old new : MutBor Cursor) (section : Bool) (taken : Sign) (r : Result Opened Stop) → exp old turns depth section taken r new
      → Reads ((nested turns depth).exp section taken old.now.rest.now) r new.now.rest.now
  pub block_callable : (old : MutBor Cursor) → may_block old turns depth
  pub block_reads : (old new : MutBor Cursor) (r : Result Block Stop) → block old turns depth r new
      → Reads ((nested turns depth).block old.now.rest.now) r new.now.rest.now
  pub alts_callable : (old : MutBor Cursor) → may_alts old turns depth
  pub alts_reads : (old new : MutBor Cursor) (r : Result Alts Stop) → alts old turns depth r new
      → Reads ((nested turns depth).alts old.now.rest.now) r new.now.rest.now
