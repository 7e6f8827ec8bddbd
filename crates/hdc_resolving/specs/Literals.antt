-- Places and literals.
use Rattle.std.specs.Prelude.{ℕ, ◌^◌, ◌-◌, pos, nat_lt, if◌then◌else◌}
use Rattle.hdc_base.specs.declared.place.At.{At}
use Rattle.hdc_base.specs.declared.place.Place.{Place}
use Rattle.hdc_base.specs.declared.place.Src.{Src}
use Rattle.hdc_tree.specs.declared.name.Literal as tree
use Rattle.hdc_tree.specs.declared.name.Literal.TheVariants as written
use Rattle.hdc_resolved.specs.declared.name.Constructor.{Constructor}
use Rattle.hdc_resolved.specs.declared.name.Family.TheVariants as family
use Rattle.hdc_resolved.specs.declared.name.Literal.{Literal}
use Rattle.hdc_resolved.specs.declared.name.Literal.TheVariants as literal

-- a place in a text
abbrev pub place_in : Src → At → Place
place_in s a = record { src = s; at = a }

-- a number as an integer of 64 bits; one that these do not hold, which no text has, is the greatest
abbrev pub fitted : ℕ → ℕ
fitted n = if nat_lt n (2 ^ 63) then n else 2 ^ 63 - 1

-- a literal
abbrev pub literal_of : tree.Literal → Literal
literal_of (written.Num n) = literal.Int (pos (fitted n))
literal_of (written.Chr c) = literal.Chr c
literal_of (written.Str s) = literal.Str s

-- the constructor :
abbrev pub cons : Constructor
cons = record { family = family.OfList; tag = 1; fields = 2 }
