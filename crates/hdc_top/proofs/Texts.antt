-- What a text means, from what the steps of compiling it answer.
use Rattle.std.proofs.Common.{◌≡◌, ◌≢◌, ℕ, List, map, refl, sym, subst, Option, Some, None, Result, Ok, Err}
use Rattle.hdc_base.specs.declared.place.At.{At}
use Rattle.hdc_base.specs.declared.token.Token.{Token}
use Rattle.hdc_base.specs.declared.refusal.Stop.{Stop}
use Rattle.hdc_base.specs.declared.refusal.Stop.TheVariants as stop
use Rattle.hdc_lex.specs.declared.lexeme.Form.TheVariants as form
use Rattle.hdc_lex.specs.declared.lexer.LexStop.{LexStop}
use Rattle.hdc_lex.specs.declared.lexer.LexStop.TheVariants as lex
use Rattle.hdc_lex.specs.Lexing.{Lexes}
use Rattle.hdc_layout.specs.declared.stop.LayoutStop.{LayoutStop}
use Rattle.hdc_layout.specs.declared.stop.LayoutStop.TheVariants as laying
use Rattle.hdc_layout.specs.LaidOut.{laid_out, IsLaidOut}
use Rattle.hdc_parse.specs.declared.stop.ParseStop.{ParseStop}
use Rattle.hdc_parse.specs.declared.stop.ParseStop.TheVariants as parsing
use Rattle.hdc_parse.specs.Exact.{IsParsed}
use Rattle.hdc_parse.specs.Answer.{IsAnswer}
use Rattle.hdc_tree.specs.declared.program.Tree as program
use Rattle.hdc_written.specs.Mirror.{tops_of}
use Rattle.hdc_resolved.specs.Mirror.{binding_of}
use Rattle.hdc_code.specs.declared.instr.Instr.{Instr}
use Rattle.hdc_top.specs.declared.names.NamesStop.{NamesStop}
use Rattle.hdc_top.specs.declared.names.NamesStop.TheVariants as checking
use Rattle.hdc_resolved.specs.declared.program.Resolved.{Resolved}
use Rattle.hdc_top.specs.Names.{AreChecked}
use Rattle.hdc_top.specs.Resolved.{Resolves}
use Rattle.hdc_top.specs.Prelude.{IsPrelude}
use Rattle.hdc_top.specs.Arithmetic.{Tree}
use Rattle.hdc_top.specs.Main.{main_tree}
use Rattle.hdc_top.specs.Code.{Carries}
use Rattle.hdc_top.specs.Stopped.{not_yet, layout_stop, lexer_stop, parser_stop, names_stop, end_place, HasLayout, IsAsked, ResolvesTo, names_at, not_built, StopsLaid, syntax_at, nesting_at, whole_at, IsStopped, no_tokens, lexemes, layout, laid_tokens}
use Rattle.hdc_top.proofs.Resolving.{resolved_are}
use Rattle.hdc_top.specs.Results.{LaysText, CompilesWhole, CompilesLaid, Compiles}

-- the tree of a program whose bindings these are
abbrev read_tree : program.Tree → Resolved → Option Tree
read_tree whole r = main_tree (tops_of whole) (map binding_of r.decls)

resolves_to : (whole prelude : program.Tree) (r : Resolved) (read : Option Tree) → IsPrelude prelude → Resolves (tops_of prelude) (tops_of whole) (Ok r) → read_tree whole r ≡ read → ResolvesTo whole read
resolves_to whole prelude r read is h e = record { prelude = prelude; is = is; keeps = h.0; bindings = map binding_of r.decls; are = resolved_are (tops_of prelude) (tops_of whole) r h.1; resolved = e }

-- code of what main stands for is code of the program
pub code_compiles : (whole prelude : program.Tree) (r : Resolved) (code : List Instr) → IsPrelude prelude → Resolves (tops_of prelude) (tops_of whole) (Ok r) → Carries (read_tree whole r) (Some code) → CompilesWhole whole (Ok code)
code_compiles whole prelude r code is h g = (g.0, resolves_to whole prelude r (Some g.0) is h g.1, g.2)

-- a program that is not of the form that is built
pub not_built_compiles : (whole prelude : program.Tree) (r : Resolved) (s : Stop) → IsPrelude prelude → Resolves (tops_of prelude) (tops_of whole) (Ok r) → read_tree whole r ≡ None → s ≡ not_yet → CompilesWhole whole (Err s)
not_built_compiles whole prelude r s is h e same = subst (λ s. CompilesWhole whole (Err s)) (sym same) (not_built (resolves_to whole prelude r None is h e))

-- where a rule on chains, depths or names is broken
asked_compiles : (whole : program.Tree) (why : NamesStop) → IsAsked whole (Err why) → CompilesWhole whole (Err (names_stop why))
asked_compiles whole (checking.Fixity at) h = names_at (checking.Fixity at) h (λ e. cc)
asked_compiles whole (checking.Depth at) h = names_at (checking.Depth at) h (λ e. cc)
asked_compiles whole (checking.Name b) h = names_at (checking.Name b) h (λ e. cc)
asked_compiles whole checking.Want h = tt

pub names_compiles : (whole prelude : program.Tree) (why : NamesStop) (s : Stop) → IsPrelude prelude → AreChecked (tops_of prelude) (tops_of whole) (Err why) → s ≡ names_stop why → CompilesWhole whole (Err s)
names_compiles whole prelude why s is h same = subst (λ s. CompilesWhole whole (Err s)) (sym same) (asked_compiles whole why (record { prelude = prelude; is = is; checked = h }))

-- what is said of a program is said of its laid-out tokens
pub whole_compiles : (laid : List Token) (end : At) (whole : program.Tree) (r : Result (List Instr) Stop) → IsParsed laid whole → CompilesWhole whole r → CompilesLaid laid end r
whole_compiles laid end whole (Ok code) parsed h = (h.0, record { whole = whole; parsed = parsed; resolves = h.1 }, h.2)
whole_compiles laid end whole (Err stop.Want) parsed h = tt
whole_compiles laid end whole (Err (stop.Refused r)) parsed h = whole_at whole (stop.Refused r) parsed h
whole_compiles laid end whole (Err (stop.Limit l)) parsed h = whole_at whole (stop.Limit l) parsed h

parsing_compiles : (laid : List Token) (end : At) (s : ParseStop) → IsAnswer laid end (Err s) → CompilesLaid laid end (Err (parser_stop s))
parsing_compiles laid end (parsing.Syntax at) h = syntax_at at h
parsing_compiles laid end (parsing.Nesting at) h = nesting_at at h
parsing_compiles laid end parsing.Want h = tt

-- what the parser's stop is for a text
pub parser_compiles : (laid : List Token) (end : At) (s : ParseStop) (t : Stop) → IsAnswer laid end (Err s) → t ≡ parser_stop s → CompilesLaid laid end (Err t)
parser_compiles laid end s t h same = subst (λ t. CompilesLaid laid end (Err t)) (sym same) (parsing_compiles laid end s h)

lexer_lays : (text : List ℕ) (s : LexStop) → Lexes form.Program text (Err s) → LaysText text (Err (lexer_stop s))
lexer_lays text (lex.Byte at) h = lexemes (lex.Byte at) h (λ e. cc)
lexer_lays text (lex.Literal at) h = lexemes (lex.Literal at) h (λ e. cc)
lexer_lays text (lex.Unclosed at) h = lexemes (lex.Unclosed at) h (λ e. cc)
lexer_lays text (lex.Tokens at) h = lexemes (lex.Tokens at) h (λ e. cc)
lexer_lays text lex.Want h = tt

-- a stop of the lexer is a stop of the text
pub lexer_stops : (text : List ℕ) (s : LexStop) (t : Stop) → Lexes form.Program text (Err s) → t ≡ lexer_stop s → LaysText text (Err t)
lexer_stops text s t h same = subst (λ t. LaysText text (Err t)) (sym same) (lexer_lays text s h)

layout_lays : (text : List ℕ) (tokens : List Token) (s : LayoutStop) → Lexes form.Program text (Ok tokens) → IsLaidOut (laid_out tokens (end_place text)) (Err s) → LaysText text (Err (layout_stop s))
layout_lays text tokens (laying.Brace at) lexed h = layout tokens at lexed h
layout_lays text tokens laying.Want lexed h = tt

-- a stop of the layout is a stop of the text
pub layout_stops : (text : List ℕ) (tokens : List Token) (end : At) (s : LayoutStop) (t : Stop) → Lexes form.Program text (Ok tokens) → end ≡ end_place text → IsLaidOut (laid_out tokens end) (Err s) → t ≡ layout_stop s → LaysText text (Err t)
layout_stops text tokens end s t lexed place h same = subst (λ t. LaysText text (Err t)) (sym same) (layout_lays text tokens s lexed (subst (λ at. IsLaidOut (laid_out tokens at) (Err s)) place h))

-- what is said of a text's laid-out tokens is said of the text
pub laid_compiles : (text : List ℕ) (laid : List Token) (end : At) (r : Result (List Instr) Stop) → HasLayout text laid → end ≡ end_place text → CompilesLaid laid end r → Compiles text r
laid_compiles text laid end (Ok code) has place h = (h.0, record { laid = laid; layout = has; means = h.1 }, h.2)
laid_compiles text laid end (Err stop.Want) has place h = tt
laid_compiles text laid end (Err (stop.Refused x)) has place h = laid_tokens laid (stop.Refused x) has (subst (λ at. StopsLaid laid at (stop.Refused x)) place h)
laid_compiles text laid end (Err (stop.Limit l)) has place h = laid_tokens laid (stop.Limit l) has (subst (λ at. StopsLaid laid at (stop.Limit l)) place h)

-- a text without laid-out tokens is stopped
pub unlaid_compiles : (text : List ℕ) (s : Stop) → LaysText text (Err s) → Compiles text (Err s)
unlaid_compiles text stop.Want h = tt
unlaid_compiles text (stop.Refused r) h = no_tokens (stop.Refused r) h
unlaid_compiles text (stop.Limit l) h = no_tokens (stop.Limit l) h

-- why a text was not compiled
pub compiled_stop : (text : List ℕ) (s : Stop) → s ≢ stop.Want → Compiles text (Err s) → IsStopped text s
compiled_stop text stop.Want told h = absurd (told refl)
compiled_stop text (stop.Refused r) told h = h
compiled_stop text (stop.Limit l) told h = h
