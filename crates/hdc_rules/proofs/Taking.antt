-- The front of a list.
use Rattle.std.proofs.Common.{◌≡◌, ◌-◌, List, ◌++◌, length, take, ap, ◌∙◌, arith, length-append}
use Rattle.std.proofs.Math.Seq.{take-append_seam}

module _ {X : Type 0} where
  -- what was put in front of a list
  pub taken_front : (bs s : List X) → take (length (bs ++ s) - length s) (bs ++ s) ≡ bs
  taken_front bs s =
      let bound : length (bs ++ s) - length s ≡ length bs = omega (arith, length-append bs s) in
      ap (λ n. take n (bs ++ s)) bound ∙ take-append_seam bs s
