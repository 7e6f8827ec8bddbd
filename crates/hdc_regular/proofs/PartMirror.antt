-- What a part in memory holds, one equation for each kind.
use Rattle.std.proofs.Common.{◌<◌, length, get_or, arith, ◌≡◌, ℕ, List, [], ◌∷◌, ◌++◌, map, refl, sym, ◌∙◌, ap}
use Rattle.hdc_base.specs.declared.place.At.{At}
use Rattle.hdc_regular.specs.declared.part.Part.{Part, Part-F, fold-roll-Part}
use Rattle.hdc_regular.specs.declared.part.Part.TheVariants as v_part
use Rattle.hdc_regular.specs.Resolved.{Resolved, use_of, other, Parts, no_part, next_part, part_at}
use Rattle.hdc_regular.specs.PartMirror.{all_parts, part_step, part_of, parts_of, joined}

parts_each : (ts : List Part) → all_parts (map part_of ts) ≡ parts_of ts
parts_each [] = refl
parts_each (t ∷ ts) = ap (λ z. next_part (part_of t) z) (parts_each ts)

pub part_use : (n : ℕ) (at : At) (ts : List Part) → part_of (v_part.Use n at ts) ≡ use_of n at (parts_of ts)
part_use n at ts = ap part_of (sym (v_part.rolls-Use n at ts)) ∙ fold-roll-Part Resolved part_step (Part-F.Use n at ts) ∙ ap (λ z. use_of n at z) (parts_each ts)

pub part_other : (ts : List Part) → part_of (v_part.Other ts) ≡ other (parts_of ts)
part_other ts = ap part_of (sym (v_part.rolls-Other ts)) ∙ fold-roll-Part Resolved part_step (Part-F.Other ts) ∙ ap (λ z. other z) (parts_each ts)

pub ruleset mirrored_parts = (part_use, part_other)

-- ---- parts one behind another

pub joined_behind : (ts us vs : Parts) → joined (joined ts us) vs ≡ joined ts (joined us vs)
joined_behind no_part us vs = refl
joined_behind (next_part t ts) us vs = ap (λ z. next_part t z) (joined_behind ts us vs)

pub joined_nothing : (ts : Parts) → joined ts no_part ≡ ts
joined_nothing no_part = refl
joined_nothing (next_part t ts) = ap (λ z. next_part t z) (joined_nothing ts)

pub one_more_part : (ts : List Part) (t : Part) → parts_of (ts ++ t ∷ []) ≡ joined (parts_of ts) (next_part (part_of t) no_part)
one_more_part [] t = refl
one_more_part (u ∷ ts) t = ap (λ z. next_part (part_of u) z) (one_more_part ts t)

-- one more part, and more behind it
pub pushed_part : (ts : List Part) (t : Part) (us : Parts) → joined (parts_of (ts ++ t ∷ [])) us ≡ joined (parts_of ts) (next_part (part_of t) us)
pushed_part ts t us = ap (λ z. joined z us) (one_more_part ts t) ∙ joined_behind (parts_of ts) (next_part (part_of t) no_part) us

pub ruleset parts_in_order = (pushed_part, joined_nothing, joined_behind, one_more_part)

-- the first part
pub first_part : (ts : List Part) (t : Part) → 0 < length ts → part_at 0 (parts_of ts) ≡ part_of (get_or ts 0 t)
first_part [] t h = absurd (omega (arith, h))
first_part (u ∷ ts) t h = refl

pub no_first_part : (ts : List Part) → length ts ≡ 0 → part_at 0 (parts_of ts) ≡ other no_part
no_first_part [] h = refl
no_first_part (u ∷ ts) h = absurd (omega (arith, h))

pub ruleset first_parts = (first_part, no_first_part)
