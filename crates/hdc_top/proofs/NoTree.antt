-- A text that has no tree.
use Rattle.std.proofs.Common.{ℕ, List, subst}
use Rattle.hdc_base.specs.declared.place.At.{At}
use Rattle.hdc_base.specs.declared.token.Token.{Token}
use Rattle.hdc_base.specs.declared.refusal.Stop.{Stop}
use Rattle.hdc_tree.specs.declared.program.Tree.{Tree}
use Rattle.hdc_parse.specs.Exact.{IsParsed, IsSyntax, IsNesting}
use Rattle.hdc_parse.proofs.OneAnswer.{parsed_no_syntax, parsed_no_nesting}
use Rattle.hdc_top.specs.Stopped.{HasLayout, LacksLayout}
use Rattle.hdc_top.specs.Prelude.{HasTree}
use Rattle.hdc_top.proofs.Dues.{unlaid_none, layout_once}

-- a text without laid-out tokens has no tree
pub unlaid_no_tree : (text : List ℕ) (s : Stop) → LacksLayout text s → (tree : Tree) → HasTree text tree → ⊥
unlaid_no_tree text s h tree p = unlaid_none text s p.laid h p.layout

parsed_too : (text : List ℕ) (laid : List Token) (tree : Tree) → HasLayout text laid → HasTree text tree → IsParsed laid tree
parsed_too text laid tree has p = subst (λ ts. IsParsed ts tree) (layout_once text p.laid laid p.layout has) p.parsed

-- a text whose laid-out tokens are refused, or nest too deep, has no tree
pub syntax_no_tree : (text : List ℕ) (laid : List Token) (end at : At) → HasLayout text laid → IsSyntax laid end at → (tree : Tree) → HasTree text tree → ⊥
syntax_no_tree text laid end at has h tree p = parsed_no_syntax laid end at tree (parsed_too text laid tree has p) h

pub nesting_no_tree : (text : List ℕ) (laid : List Token) (end at : At) → HasLayout text laid → IsNesting laid end at → (tree : Tree) → HasTree text tree → ⊥
nesting_no_tree text laid end at has h tree p = parsed_no_nesting laid end at tree (parsed_too text laid tree has p) h
