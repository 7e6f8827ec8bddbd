-- Which alternatives are not empty.
use Rattle.std.proofs.Common.{◌≡◌, ap, sym, ◌∙◌}
use Rattle.hdc_tree.specs.declared.expression.NextAlt.{NextAlt, out-NextAlt, roll-out-NextAlt}
use Rattle.hdc_tree.specs.ExpressionForm.{filled_alt, filled_next_alt}
use Rattle.hdc_tree.proofs.ExpressionFormed.{filled_alt_blank, filled_alt_arrow, filled_alt_guarded, filled_next_alt_made}

pub filled_next_alt_parts : (part : NextAlt) → filled_next_alt part ≡ filled_alt (out-NextAlt part).alt
filled_next_alt_parts part = ap filled_next_alt (sym (roll-out-NextAlt part)) ∙ filled_next_alt_made (out-NextAlt part).semicolon (out-NextAlt part).alt

pub ruleset filled_rules = (filled_alt_blank, filled_alt_arrow, filled_alt_guarded, filled_next_alt_parts)
