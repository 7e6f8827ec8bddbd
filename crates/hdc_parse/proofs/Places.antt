-- Places of tokens.
use Rattle.std.proofs.Common.{◌≡◌, ℕ, zero, suc, ◌≤◌, List, [], ◌∷◌, length, drop, refl, arith}
use Rattle.hdc_base.specs.declared.place.At.{At}
use Rattle.hdc_base.specs.declared.token.Token.{Token}
use Rattle.hdc_parse.specs.Exact.{place_of}

-- the place of a token is that of the first behind those before it
pub place_behind : (ts : List Token) (end : At) (i : ℕ) → place_of ts end i ≡ place_of (drop i ts) end 0
place_behind [] end zero = refl
place_behind [] end (suc i) = refl
place_behind (t ∷ ts) end zero = refl
place_behind (t ∷ ts) end (suc i) = place_behind ts end i

-- past the last token it is the end's
pub place_past : (ts : List Token) (end : At) (i : ℕ) → length ts ≤ i → end ≡ place_of ts end i
place_past [] end i le = refl
place_past (t ∷ ts) end zero le = absurd (omega arith)
place_past (t ∷ ts) end (suc i) le = place_past ts end i (omega arith)
