-- How patterns are spelled, one equation for each production.
use Rattle.hdc_base.specs.declared.token.Key.TheVariants as key
use Rattle.hdc_base.specs.declared.token.Word.TheVariants as word
use Rattle.hdc_tree.specs.declared.pattern.Apat.{Apat, Apat-F, fold-Apat}
use Rattle.hdc_tree.specs.declared.pattern.LeftPat.{LeftPat, LeftPat-F, fold-LeftPat}
use Rattle.hdc_tree.specs.declared.pattern.CommaPat.{CommaPat, CommaPat-F, fold-CommaPat}
use Rattle.hdc_tree.specs.declared.pattern.ConsPat.{ConsPat, ConsPat-F, fold-ConsPat}
use Rattle.hdc_tree.specs.declared.pattern.Pat.{Pat, Pat-F, fold-Pat}
use Rattle.hdc_tree.specs.NameSpelling.{Puts, word_onto, key_onto, small_onto, capital_onto, minus_onto, literal_onto, all_onto}

abbrev pub apat_step : Apat-F Puts Puts Puts Puts Puts → Puts
apat_step (Apat-F.Var name) k = small_onto name k
apat_step (Apat-F.As name at inner) k = small_onto name (key_onto at key.KAt (inner k))
apat_step (Apat-F.Wildcard at) k = key_onto at key.KUnderscore k
apat_step (Apat-F.Con name) k = capital_onto name k
apat_step (Apat-F.Literal at literal) k = literal_onto at literal k
apat_step (Apat-F.Unit open_at close_at) k = key_onto open_at key.KOpenParen (key_onto close_at key.KCloseParen k)
apat_step (Apat-F.Nil open_at close_at) k = key_onto open_at key.KOpenBracket (key_onto close_at key.KCloseBracket k)
apat_step (Apat-F.Paren open_at inner close_at) k = key_onto open_at key.KOpenParen (inner (key_onto close_at key.KCloseParen k))
apat_step (Apat-F.Tuple open_at first rest close_at) k = key_onto open_at key.KOpenParen (first (all_onto rest (key_onto close_at key.KCloseParen k)))
apat_step (Apat-F.List open_at first rest close_at) k = key_onto open_at key.KOpenBracket (first (all_onto rest (key_onto close_at key.KCloseBracket k)))

abbrev pub left_pat_step : LeftPat-F Puts Puts Puts Puts Puts → Puts
left_pat_step (LeftPat-F.Plain apat) k = apat k
left_pat_step (LeftPat-F.Applied name first rest) k = capital_onto name (first (all_onto rest k))
left_pat_step (LeftPat-F.Negative at number_at number) k = minus_onto at (word_onto number_at (word.Num number) k)

abbrev pub comma_pat_step : CommaPat-F Puts Puts Puts Puts Puts → Puts
comma_pat_step part k = key_onto part.comma key.KComma (part.pat k)

abbrev pub cons_pat_step : ConsPat-F Puts Puts Puts Puts Puts → Puts
cons_pat_step part k = key_onto part.colon key.KColon (part.pat k)

abbrev pub pat_step : Pat-F Puts Puts Puts Puts Puts → Puts
pat_step part k = part.first (all_onto part.rest k)

abbrev pub apat_onto : Apat → Puts
apat_onto = fold-Apat Puts Puts Puts Puts Puts apat_step left_pat_step comma_pat_step cons_pat_step pat_step

abbrev pub left_pat_onto : LeftPat → Puts
left_pat_onto = fold-LeftPat Puts Puts Puts Puts Puts apat_step left_pat_step comma_pat_step cons_pat_step pat_step

abbrev pub comma_pat_onto : CommaPat → Puts
comma_pat_onto = fold-CommaPat Puts Puts Puts Puts Puts apat_step left_pat_step comma_pat_step cons_pat_step pat_step

abbrev pub cons_pat_onto : ConsPat → Puts
cons_pat_onto = fold-ConsPat Puts Puts Puts Puts Puts apat_step left_pat_step comma_pat_step cons_pat_step pat_step

abbrev pub pat_onto : Pat → Puts
pat_onto = fold-Pat Puts Puts Puts Puts Puts apat_step left_pat_step comma_pat_step cons_pat_step pat_step
