-- Which patterns are well formed: what the grammar asks of them beyond their shape.
use Rattle.std.specs.Prelude.{List, [], ◌∷◌, Bool, true, false, ◌&&◌}
use Rattle.hdc_tree.specs.declared.pattern.Apat.{Apat, Apat-F, fold-Apat, out-Apat}
use Rattle.hdc_tree.specs.declared.pattern.LeftPat.{LeftPat, LeftPat-F, fold-LeftPat, out-LeftPat}
use Rattle.hdc_tree.specs.declared.pattern.CommaPat.{CommaPat, CommaPat-F, fold-CommaPat}
use Rattle.hdc_tree.specs.declared.pattern.ConsPat.{ConsPat, ConsPat-F, fold-ConsPat}
use Rattle.hdc_tree.specs.declared.pattern.Pat.{Pat, Pat-F, fold-Pat, out-Pat}
use Rattle.hdc_tree.specs.Form.{every, few}

-- a pattern that may be an argument, by its parts; a tuple has two to seven members
abbrev pub formed_apat_step : Apat-F Bool Bool Bool Bool Bool → Bool
formed_apat_step (Apat-F.Var name) = true
formed_apat_step (Apat-F.As name at inner) = inner
formed_apat_step (Apat-F.Wildcard at) = true
formed_apat_step (Apat-F.Con name) = true
formed_apat_step (Apat-F.Literal at literal) = true
formed_apat_step (Apat-F.Unit open_at close_at) = true
formed_apat_step (Apat-F.Nil open_at close_at) = true
formed_apat_step (Apat-F.Paren open_at inner close_at) = inner
formed_apat_step (Apat-F.Tuple open_at first rest close_at) = first && (every rest && few rest)
formed_apat_step (Apat-F.List open_at first rest close_at) = first && every rest

-- a pattern that may stand beside a `:`, by its parts
abbrev pub formed_left_pat_step : LeftPat-F Bool Bool Bool Bool Bool → Bool
formed_left_pat_step (LeftPat-F.Plain apat) = apat
formed_left_pat_step (LeftPat-F.Applied name first rest) = first && every rest
formed_left_pat_step (LeftPat-F.Negative at number_at number) = true

-- `,` and a pattern
abbrev pub formed_comma_pat_step : CommaPat-F Bool Bool Bool Bool Bool → Bool
formed_comma_pat_step part = part.pat

-- `:` and a pattern
abbrev pub formed_cons_pat_step : ConsPat-F Bool Bool Bool Bool Bool → Bool
formed_cons_pat_step part = part.pat

-- patterns with `:` between them
abbrev pub formed_pat_step : Pat-F Bool Bool Bool Bool Bool → Bool
formed_pat_step part = part.first && every part.rest

-- a pattern that may be an argument, with all that is in it
abbrev pub formed_apat : Apat → Bool
formed_apat = fold-Apat Bool Bool Bool Bool Bool formed_apat_step formed_left_pat_step formed_comma_pat_step formed_cons_pat_step formed_pat_step

-- a pattern that may stand beside a `:`, with all that is in it
abbrev pub formed_left_pat : LeftPat → Bool
formed_left_pat = fold-LeftPat Bool Bool Bool Bool Bool formed_apat_step formed_left_pat_step formed_comma_pat_step formed_cons_pat_step formed_pat_step

-- `,` and a pattern, with all that is in it
abbrev pub formed_comma_pat : CommaPat → Bool
formed_comma_pat = fold-CommaPat Bool Bool Bool Bool Bool formed_apat_step formed_left_pat_step formed_comma_pat_step formed_cons_pat_step formed_pat_step

-- `:` and a pattern, with all that is in it
abbrev pub formed_cons_pat : ConsPat → Bool
formed_cons_pat = fold-ConsPat Bool Bool Bool Bool Bool formed_apat_step formed_left_pat_step formed_comma_pat_step formed_cons_pat_step formed_pat_step

-- patterns with `:` between them, with all that is in them
abbrev pub formed_pat : Pat → Bool
formed_pat = fold-Pat Bool Bool Bool Bool Bool formed_apat_step formed_left_pat_step formed_comma_pat_step formed_cons_pat_step formed_pat_step

-- whether a pattern that may be an argument is a variable
abbrev pub is_variable : Apat-F Apat LeftPat CommaPat ConsPat Pat → Bool
is_variable (Apat-F.Var name) = true
is_variable (Apat-F.As name at inner) = false
is_variable (Apat-F.Wildcard at) = false
is_variable (Apat-F.Con name) = false
is_variable (Apat-F.Literal at literal) = false
is_variable (Apat-F.Unit open_at close_at) = false
is_variable (Apat-F.Nil open_at close_at) = false
is_variable (Apat-F.Paren open_at inner close_at) = false
is_variable (Apat-F.Tuple open_at first rest close_at) = false
is_variable (Apat-F.List open_at first rest close_at) = false

-- whether a pattern beside a `:` is a variable
abbrev pub is_plain_left : LeftPat-F Apat LeftPat CommaPat ConsPat Pat → Bool
is_plain_left (LeftPat-F.Plain apat) = is_variable (out-Apat apat)
is_plain_left (LeftPat-F.Applied name first rest) = false
is_plain_left (LeftPat-F.Negative at number_at number) = false

-- whether there is no `:`
abbrev pub is_alone : List ConsPat → Bool
is_alone [] = true
is_alone (part ∷ rest) = false

-- whether a pattern is a plain name
abbrev pub is_plain_name : Pat → Bool
is_plain_name pat = is_alone (out-Pat pat).rest && is_plain_left (out-LeftPat (out-Pat pat).first)
