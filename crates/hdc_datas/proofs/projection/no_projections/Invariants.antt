use Rattle.std.proofs.Common.{◌≡◌, ℕ, None, get_or}
use Rattle.hdc_datas.proofs.projection.no_projections.Given as goal

abbrev pub invariant-loop : goal.invariant-loop
invariant-loop l = (n : ℕ) → get_or l.projections n None ≡ None
