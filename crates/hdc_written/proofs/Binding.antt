-- What is left of a list of bindings where the last ones go.
use Rattle.std.proofs.Common.{◌≡◌, ℕ, suc, ◌-◌, ◌<◌, List, [], ◌∷◌, ◌++◌, length, drop, sym, ap, ◌∙◌, arith, length-append}
use Rattle.std.proofs.Math.Seq.{drop-append_seam}

module _ {X : Type 0} where
  -- a list is left again where what was put in front of it goes
  pub left_again : (bs s : List X) → drop (length (bs ++ s) - length s) (bs ++ s) ≡ s
  left_again bs s =
      let bound : length (bs ++ s) - length s ≡ length bs = omega (arith, length-append bs s) in
      ap (λ n. drop n (bs ++ s)) bound ∙ drop-append_seam bs s

  -- what is left is the same where one has gone of those that go
  pub left_past_one : (s : List X) (size : ℕ) → size < length s → drop (length (drop 1 s) - size) (drop 1 s) ≡ drop (length s - size) s
  left_past_one [] size more = absurd (omega arith)
  left_past_one (b ∷ s) size more =
      let one : length (b ∷ s) - size ≡ suc (length s - size) = omega arith in
      sym (ap (λ n. drop n (b ∷ s)) one)
