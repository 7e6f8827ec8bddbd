-- A declaration in which nothing is found is sound.
use Rattle.std.proofs.Common.{◌≡◌, Bool, true, false, ◌&&◌, not, List, [], ◌∷◌, is_some, refl, sym, ap}
use Rattle.hdc_written.specs.declared.breach.Breach.{Breach}
use Rattle.hdc_written.specs.declared.breach.Found.{Found}
use Rattle.hdc_written.specs.Breaches.{nothing_found, noted, all_noted}
use Rattle.hdc_regular.specs.Standings.{is_sound}

still_some : (f : Found) (bs : List Breach) → is_some f.breach ≡ true → is_some (all_noted f bs).breach ≡ true
still_some f [] e = e
still_some f (b ∷ bs) e = still_some (noted f b) bs refl

pub sound_found : (bs : List Breach) (c : Bool) → is_sound bs c ≡ (not (is_some (all_noted nothing_found bs).breach) && not c)
sound_found [] true = refl
sound_found [] false = refl
sound_found (b ∷ bs) c = ap (λ z. not z && not c) (by (still_some (noted nothing_found b) bs refl))
  where
    by : is_some (all_noted (noted nothing_found b) bs).breach ≡ true → true ≡ is_some (all_noted nothing_found (b ∷ bs)).breach
    by e = sym e
