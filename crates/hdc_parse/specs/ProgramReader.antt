-- What the parser reads of a program, one definition for each rule.
use Rattle.std.specs.Prelude.{ℕ, true, nat_le, if◌then◌else◌, List, [], ◌∷◌, Option, Some, None, Ok}
use Rattle.hdc_base.specs.declared.place.At.{At}
use Rattle.hdc_base.specs.declared.token.Key.{Key}
use Rattle.hdc_base.specs.declared.token.Key.TheVariants as key
use Rattle.hdc_base.specs.declared.token.Word.{Word}
use Rattle.hdc_base.specs.declared.token.Word.TheVariants as word
use Rattle.hdc_base.specs.declared.token.Token.{Token}
use Rattle.hdc_tree.specs.declared.name.Name.{Name}
use Rattle.hdc_tree.specs.declared.expression.Alt.{Alt}
use Rattle.hdc_tree.specs.declared.expression.Aexp.{Aexp}
use Rattle.hdc_tree.specs.declared.expression.ListExp.{ListExp}
use Rattle.hdc_tree.specs.declared.expression.Operand.{Operand}
use Rattle.hdc_tree.specs.declared.expression.Qual.{Qual}
use Rattle.hdc_tree.specs.declared.expression.Where.{Where}
use Rattle.hdc_tree.specs.declared.expression.Alts.{Alts}
use Rattle.hdc_tree.specs.declared.expression.Apply.{Apply}
use Rattle.hdc_tree.specs.declared.expression.ArrowGuard.{ArrowGuard}
use Rattle.hdc_tree.specs.declared.expression.Block.{Block}
use Rattle.hdc_tree.specs.declared.expression.CommaExp.{CommaExp}
use Rattle.hdc_tree.specs.declared.expression.CommaQual.{CommaQual}
use Rattle.hdc_tree.specs.declared.expression.EqualGuard.{EqualGuard}
use Rattle.hdc_tree.specs.declared.expression.Exp.{Exp}
use Rattle.hdc_tree.specs.declared.expression.Link.{Link}
use Rattle.hdc_tree.specs.declared.expression.NextAlt.{NextAlt}
use Rattle.hdc_tree.specs.declared.expression.NextDecl.{NextDecl}
use Rattle.hdc_tree.specs.declared.expression.Decl.{Decl, Decl-F, out-Decl}
use Rattle.hdc_tree.specs.declared.expression.Rhs.{Rhs}
use Rattle.hdc_tree.specs.declared.program.Associativity.{Associativity}
use Rattle.hdc_tree.specs.declared.program.Associativity.TheVariants as side
use Rattle.hdc_tree.specs.declared.program.BarConstr.{BarConstr}
use Rattle.hdc_tree.specs.declared.program.CommaExport.{CommaExport}
use Rattle.hdc_tree.specs.declared.program.CommaName.{CommaName}
use Rattle.hdc_tree.specs.declared.program.CommaVarOp.{CommaVarOp}
use Rattle.hdc_tree.specs.declared.program.Constr.{Constr}
use Rattle.hdc_tree.specs.declared.program.Deriving.{Deriving}
use Rattle.hdc_tree.specs.declared.program.Deriving.TheVariants as derive
use Rattle.hdc_tree.specs.declared.program.Export.{Export}
use Rattle.hdc_tree.specs.declared.program.Export.TheVariants as exported
use Rattle.hdc_tree.specs.declared.program.ModuleHead.{ModuleHead}
use Rattle.hdc_tree.specs.declared.program.ModuleHead.TheVariants as h
use Rattle.hdc_tree.specs.declared.program.NextTop.{NextTop}
use Rattle.hdc_tree.specs.declared.program.Top.{Top}
use Rattle.hdc_tree.specs.declared.program.Top.TheVariants as t
use Rattle.hdc_tree.specs.declared.program.Tree.{Tree}
use Rattle.hdc_syntax.specs.Parser.{Parser, ◌>>=◌, pure, refuse, peek, token, many_from}
use Rattle.hdc_syntax.specs.Words.{fixed, is, small, is_small, capital, is_capital}
use Rattle.hdc_syntax.specs.Names.{var, var_op}
use Rattle.hdc_syntax.specs.TypeReader.{atypes, type_exp}
use Rattle.hdc_expression.specs.ExpressionReader.{Inner}
use Rattle.hdc_expression.specs.DeclarationReader.{ends_member, stated}
use Rattle.hdc_expression.specs.Nested.{nested}

-- the head

abbrev pub con_export : Parser Export
con_export = capital >>= (λ name. pure (exported.Con name))

abbrev pub var_export : Parser Export
var_export = var >>= (λ v. pure (exported.Var v))

unfoldable pub export : Parser Export
export = peek >>= (λ c. if is_capital c then con_export else var_export)

unfoldable pub comma_export : Parser CommaExport
comma_export = fixed key.KComma >>= (λ comma. export >>= (λ x. pure (record { comma = comma; export = x })))

-- a precedence, and its place
abbrev pub precedence_word_at : At → Word → Option (At × ℕ)
precedence_word_at at (word.Num n) = if nat_le n 9 then Some (at, n) else None
precedence_word_at at _ = None

abbrev pub precedence_of : Token → Option (At × ℕ)
precedence_of c = precedence_word_at c.at c.word

abbrev pub precedence : Parser (At × ℕ)
precedence = token precedence_of

unfoldable pub comma_name : Parser CommaName
comma_name = fixed key.KComma >>= (λ comma. capital >>= (λ name. pure (record { comma = comma; name = name })))

unfoldable pub comma_var_op : Parser CommaVarOp
comma_var_op = fixed key.KComma >>= (λ comma. var_op >>= (λ x. pure (record { comma = comma; op = x })))

-- the top declaration that a declaration is, where it binds no pattern
abbrev pub top_layer : Decl-F Aexp Alt Decl ListExp Operand Qual Rhs Where Alts Apply ArrowGuard Block CommaExp CommaQual EqualGuard Exp Link NextAlt NextDecl → Parser Top
top_layer (Decl-F.Signature first rest at part) = pure (t.Signature first rest at part)
top_layer (Decl-F.Equation what right) = pure (t.Equation what right)
top_layer (Decl-F.Binding p right) = refuse
top_layer Decl-F.Empty = refuse

abbrev pub top_of : Decl → Parser Top
top_of x = top_layer (out-Decl x)

-- the rules without anything that nests; the number bounds the turns of each loop
module _ (turns : ℕ) where
  abbrev pub comma_exports : Parser (List CommaExport)
  comma_exports = many_from (is key.KComma) comma_export turns []

  unfoldable pub exporting : At → Name → Parser ModuleHead
  exporting at name = do
    open_at ← fixed key.KOpenParen
    first ← export
    rest ← comma_exports
    close_at ← fixed key.KCloseParen
    where_at ← fixed key.KWhere
    pure (h.Exporting at name open_at first rest close_at where_at)

  abbrev pub plain_head : At → Name → Parser ModuleHead
  plain_head at name = fixed key.KWhere >>= (λ where_at. pure (h.Plain at name where_at))

  unfoldable pub named_head : Parser ModuleHead
  named_head = fixed key.KModule >>= (λ at. capital >>= (λ name. peek >>= (λ c. if is key.KOpenParen c then exporting at name else plain_head at name)))

  -- the head of a program, or nothing
  unfoldable pub module_head : Parser ModuleHead
  module_head = peek >>= (λ c. if is key.KModule c then named_head else pure h.Absent)

  abbrev pub params : Parser (List Name)
  params = many_from is_small small turns []

  abbrev pub comma_names : Parser (List CommaName)
  comma_names = many_from (is key.KComma) comma_name turns []

  unfoldable pub derived_list : At → At → Parser Deriving
  derived_list at open_at = do
    first ← capital
    rest ← comma_names
    close_at ← fixed key.KCloseParen
    pure (derive.List at open_at first rest close_at)

  abbrev pub derived_none : At → At → Parser Deriving
  derived_none at open_at = fixed key.KCloseParen >>= (λ close_at. pure (derive.Unit at open_at close_at))

  unfoldable pub derived_parens : At → Parser Deriving
  derived_parens at = fixed key.KOpenParen >>= (λ open_at. peek >>= (λ c. if is key.KCloseParen c then derived_none at open_at else derived_list at open_at))

  abbrev pub derived_con : At → Parser Deriving
  derived_con at = capital >>= (λ name. pure (derive.Con at name))

  -- what is derived, or nothing
  unfoldable pub derived : Parser Deriving
  derived = peek >>= (λ c. if is key.KDeriving c then (fixed key.KDeriving >>= (λ at. peek >>= (λ d. if is_capital d then derived_con at else derived_parens at))) else pure derive.Absent)

  abbrev pub comma_var_ops : Parser (List CommaVarOp)
  comma_var_ops = many_from (is key.KComma) comma_var_op turns []

  unfoldable pub fixity_top : Key → Associativity → Parser Top
  fixity_top k side = do
    at ← fixed k
    number ← precedence
    first ← var_op
    rest ← comma_var_ops
    pure (t.Fixity (record { at = at; associativity = side; number_at = number.0; number = number.1; first = first; rest = rest }))

-- the rules with what nests in a program's braces, by its parsers
module _ (turns : ℕ) (inner : Inner) where
  unfoldable pub constr : Parser Constr
  constr = capital >>= (λ name. atypes turns inner.atype >>= (λ fields. pure (record { name = name; fields = fields })))

  unfoldable pub bar_constr : Parser BarConstr
  bar_constr = fixed key.KBar >>= (λ bar. constr >>= (λ x. pure (record { bar = bar; constr = x })))

  abbrev pub bar_constrs : Parser (List BarConstr)
  bar_constrs = many_from (is key.KBar) bar_constr turns []

  unfoldable pub data_top : Parser Top
  data_top = do
    at ← fixed key.KData
    name ← capital
    ps ← params turns
    equal ← fixed key.KEqual
    first ← constr
    rest ← bar_constrs
    what ← derived turns
    pure (t.Data (record { at = at; name = name; params = ps; equal = equal; first = first; rest = rest; derived = what }))

  unfoldable pub synonym_top : Parser Top
  synonym_top = do
    at ← fixed key.KType
    name ← capital
    ps ← params turns
    equal ← fixed key.KEqual
    meaning ← type_exp turns inner.atype
    pure (t.Synonym (record { at = at; name = name; params = ps; equal = equal; meaning = meaning }))

  abbrev pub stated_top : Parser Top
  stated_top = stated turns inner true >>= top_of

  abbrev pub top_by : Option Token → Parser Top
  top_by c = if ends_member c then pure t.Empty else (if is key.KData c then data_top else (if is key.KType c then synonym_top else (if is key.KInfix c then fixity_top turns key.KInfix side.Neither else (if is key.KInfixl c then fixity_top turns key.KInfixl side.Left else (if is key.KInfixr c then fixity_top turns key.KInfixr side.Right else stated_top)))))

  unfoldable pub top : Parser Top
  top = peek >>= top_by

  unfoldable pub next_top : Parser NextTop
  next_top = fixed key.KSemicolon >>= (λ semicolon. top >>= (λ x. pure (record { semicolon = semicolon; top = x })))

  abbrev pub next_tops : Parser (List NextTop)
  next_tops = many_from (is key.KSemicolon) next_top turns []

  -- a program
  unfoldable pub tree : Parser Tree
  tree = do
    head ← module_head turns
    open_at ← fixed key.KOpenBrace
    first ← top
    rest ← next_tops
    close_at ← fixed key.KCloseBrace
    pure (record { head = head; open_at = open_at; first = first; rest = rest; close_at = close_at })

-- nothing more
abbrev pub at_end : Parser (Unit {0})
at_end [] = Ok (tt, [])
at_end (c ∷ cs) = refuse (c ∷ cs)

-- a program and nothing behind it
unfoldable pub program : ℕ → ℕ → Parser Tree
program turns depth = tree turns (nested turns depth) >>= (λ x. at_end >>= (λ _. pure x))
