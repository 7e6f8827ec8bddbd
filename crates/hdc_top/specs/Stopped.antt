-- A text as a program, and why it is none.
use Rattle.std.specs.Prelude.{◌≡◌, ◌⊎◌, ℕ, ◌<◌, List, length, Option, Some, None, Ok, Err, Result}
use Rattle.hdc_base.specs.declared.place.At.{At}
use Rattle.hdc_base.specs.declared.token.Token.{Token}
use Rattle.hdc_base.specs.declared.refusal.Kind.{Kind}
use Rattle.hdc_base.specs.declared.refusal.Kind.TheVariants as kind
use Rattle.hdc_base.specs.declared.refusal.Which.TheVariants as which
use Rattle.hdc_base.specs.declared.refusal.Limit.TheVariants as limit
use Rattle.hdc_base.specs.declared.refusal.Refusal.{Refusal}
use Rattle.hdc_base.specs.declared.refusal.Stop.{Stop}
use Rattle.hdc_base.specs.declared.refusal.Stop.TheVariants as stop
use Rattle.hdc_lex.specs.declared.lexeme.Form.TheVariants as form
use Rattle.hdc_lex.specs.declared.lexer.LexStop.{LexStop}
use Rattle.hdc_lex.specs.declared.lexer.LexStop.TheVariants as lex
use Rattle.hdc_lex.specs.Place.{first_place}
use Rattle.hdc_lex.specs.Lexing.{Lexes}
use Rattle.hdc_layout.specs.declared.stop.LayoutStop.{LayoutStop}
use Rattle.hdc_layout.specs.declared.stop.LayoutStop.TheVariants as laying
use Rattle.hdc_layout.specs.LaidOut.{laid_out}
use Rattle.hdc_tree.specs.declared.program.Tree as program
use Rattle.hdc_parse.specs.declared.stop.ParseStop.{ParseStop}
use Rattle.hdc_parse.specs.declared.stop.ParseStop.TheVariants as parsing
use Rattle.hdc_parse.specs.Exact.{IsParsed, IsSyntax, IsNesting}
use Rattle.hdc_top.specs.declared.names.NamesStop.{NamesStop}
use Rattle.hdc_top.specs.declared.names.NamesStop.TheVariants as checking
use Rattle.hdc_written.specs.Mirror.{tops_of}
use Rattle.hdc_top.specs.Names.{AreChecked}
use Rattle.hdc_top.specs.Prelude.{IsPrelude}
use Rattle.hdc_top.specs.Arithmetic.{Tree}
use Rattle.hdc_top.specs.Main.{main_tree}
use Rattle.hdc_resolved.specs.Syntax.{Binding}
use Rattle.hdc_top.specs.Resolved.{AreBindings}
pub use Rattle.hdc_top.specs.Layout.{end_place, HasLayout}

-- the most bytes of a file
abbrev pub most_bytes : ℕ
most_bytes = 1048576

-- a refusal by no rule of a number
abbrev pub refused_at : Kind → At → Stop
refused_at k at = stop.Refused (record { kind = k; rule = 0; at = at })

-- a text that is not of the form that is built
abbrev pub not_yet : Stop
not_yet = refused_at kind.NotYet first_place

-- what a stop of the lexer is for a program
abbrev pub lexer_stop : LexStop → Stop
lexer_stop (lex.Byte at) = refused_at kind.Byte at
lexer_stop (lex.Literal at) = refused_at kind.Literal at
lexer_stop (lex.Unclosed at) = refused_at kind.Unclosed at
lexer_stop (lex.Tokens at) = stop.Limit (limit.Tokens which.Program at)
lexer_stop lex.Want = stop.Want

-- what a stop of the layout is for a program
abbrev pub layout_stop : LayoutStop → Stop
layout_stop (laying.Brace at) = refused_at kind.Brace at
layout_stop laying.Want = stop.Want

-- what a stop of the parser is for a program
abbrev pub parser_stop : ParseStop → Stop
parser_stop (parsing.Syntax at) = refused_at kind.Syntax at
parser_stop (parsing.Nesting at) = stop.Limit (limit.Nesting which.Program at)
parser_stop parsing.Want = stop.Want

-- what a program is that breaks a rule on chains, depths or names
abbrev pub names_stop : NamesStop → Stop
names_stop (checking.Fixity at) = refused_at kind.Fixity at
names_stop (checking.Depth at) = stop.Limit (limit.Depth at)
names_stop (checking.Name b) = stop.Refused (record { kind = kind.Name; rule = b.rule; at = b.at })
names_stop checking.Want = stop.Want

-- what is said of a program behind the prelude, where they are asked to keep the rules on chains, depths and names
pub record IsAsked (whole : program.Tree) (result : Result (Unit {0}) NamesStop) : Type 0 where
  pub prelude : program.Tree
  pub is : IsPrelude prelude
  pub checked : AreChecked (tops_of prelude) (tops_of whole) result

-- they keep them, and their resolved program has this tree of arithmetic, or none
pub record ResolvesTo (whole : program.Tree) (tree : Option Tree) : Type 0 where
  pub prelude : program.Tree
  pub is : IsPrelude prelude
  pub keeps : AreChecked (tops_of prelude) (tops_of whole) (Ok tt)
  pub bindings : List Binding
  pub are : AreBindings (tops_of prelude) (tops_of whole) bindings
  pub resolved : main_tree (tops_of whole) bindings ≡ tree

-- the laid-out tokens are a program of the language that keeps the rules on chains, depths and names, and whose resolved
-- program has the tree
pub record MeansLaid (laid : List Token) (tree : Tree) : Type 0 where
  pub whole : program.Tree
  pub parsed : IsParsed laid whole
  pub resolves : ResolvesTo whole (Some tree)

-- the text is such a program
pub record MeansTree (text : List ℕ) (tree : Tree) : Type 0 where
  pub laid : List Token
  pub layout : HasLayout text laid
  pub means : MeansLaid laid tree

-- why a program has no tree: it breaks a rule on chains, depths or names, or breaks none, but is not of the form that is built
pub data StopsWhole (whole : program.Tree) : Stop → Type 0 where
  names_at : (s : NamesStop) → IsAsked whole (Err s) → (s ≡ checking.Want → ⊥) → StopsWhole whole (names_stop s)
  not_built : ResolvesTo whole None → StopsWhole whole not_yet

-- why laid-out tokens have no tree: no program goes on with one of them, one nests too deep, or they are a program that has none
pub data StopsLaid (laid : List Token) (end : At) : Stop → Type 0 where
  syntax_at : (at : At) → IsSyntax laid end at → StopsLaid laid end (parser_stop (parsing.Syntax at))
  nesting_at : (at : At) → IsNesting laid end at → StopsLaid laid end (parser_stop (parsing.Nesting at))
  whole_at : (whole : program.Tree) (s : Stop) → IsParsed laid whole → StopsWhole whole s → StopsLaid laid end s

-- why a text has no laid-out tokens: its lexemes or its layout are refused, or it has too many lexemes
pub data LacksLayout (text : List ℕ) : Stop → Type 0 where
  lexemes : (s : LexStop) → Lexes form.Program text (Err s) → (s ≡ lex.Want → ⊥) → LacksLayout text (lexer_stop s)
  layout : (tokens : List Token) (at : At) → Lexes form.Program text (Ok tokens) → laid_out tokens (end_place text) ≡ Err at → LacksLayout text (layout_stop (laying.Brace at))

-- why a text has no tree, whatever its length: it has no laid-out tokens, or these have none
pub data IsStopped (text : List ℕ) : Stop → Type 0 where
  no_tokens : (s : Stop) → LacksLayout text s → IsStopped text s
  laid_tokens : (laid : List Token) (s : Stop) → HasLayout text laid → StopsLaid laid (end_place text) s → IsStopped text s

-- the lexemes, the layout, the syntax, the chains, the names or the form of a text are refused
abbrev pub IsRefused : List ℕ → Type 0
IsRefused text = (r : Refusal) × IsStopped text (stop.Refused r)

-- a token of a text nests too deep, and no token up to it is refused
pub record NestsTooDeep (text : List ℕ) : Type 0 where
  pub laid : List Token
  pub layout : HasLayout text laid
  pub at : At
  pub nesting : IsNesting laid (end_place text) at

-- a tree of a text's program or of the prelude is too deep, and each chain and section has one
pub record HasDeepTree (text : List ℕ) : Type 0 where
  pub laid : List Token
  pub layout : HasLayout text laid
  pub whole : program.Tree
  pub parsed : IsParsed laid whole
  pub at : At
  pub deep : IsAsked whole (Err (checking.Depth at))

-- a text passes a limit: it has too many bytes, or too many lexemes, or nests too deep, or a tree of it is too deep
abbrev pub PassesLimit : List ℕ → Type 0
PassesLimit text = (most_bytes < length text) ⊎ (((at : At) × Lexes form.Program text (Err (lex.Tokens at))) ⊎ (NestsTooDeep text ⊎ HasDeepTree text))
