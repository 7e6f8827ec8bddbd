-- How programs are spelled, one equation for each production.
use Rattle.std.specs.Prelude.{List, []}
use Rattle.hdc_base.specs.declared.token.Key.{Key}
use Rattle.hdc_base.specs.declared.token.Key.TheVariants as key
use Rattle.hdc_base.specs.declared.token.Word.TheVariants as word
use Rattle.hdc_base.specs.declared.token.Token as text_token
use Rattle.hdc_tree.specs.declared.program.Tree.{Tree}
use Rattle.hdc_tree.specs.declared.program.ModuleHead.{ModuleHead}
use Rattle.hdc_tree.specs.declared.program.Export.{Export}
use Rattle.hdc_tree.specs.declared.program.CommaExport.{CommaExport}
use Rattle.hdc_tree.specs.declared.program.NextTop.{NextTop}
use Rattle.hdc_tree.specs.declared.program.Top.{Top}
use Rattle.hdc_tree.specs.declared.program.Data.{Data}
use Rattle.hdc_tree.specs.declared.program.Constr.{Constr}
use Rattle.hdc_tree.specs.declared.program.BarConstr.{BarConstr}
use Rattle.hdc_tree.specs.declared.program.Deriving.{Deriving}
use Rattle.hdc_tree.specs.declared.program.CommaName.{CommaName}
use Rattle.hdc_tree.specs.declared.program.Synonym.{Synonym}
use Rattle.hdc_tree.specs.declared.program.Fixity.{Fixity}
use Rattle.hdc_tree.specs.declared.program.Associativity.{Associativity}
use Rattle.hdc_tree.specs.declared.program.CommaVarOp.{CommaVarOp}
use Rattle.hdc_tree.specs.declared.program.ModuleHead.TheVariants as head
use Rattle.hdc_tree.specs.declared.program.Export.TheVariants as export
use Rattle.hdc_tree.specs.declared.program.Top.TheVariants as top
use Rattle.hdc_tree.specs.declared.program.Deriving.TheVariants as derive
use Rattle.hdc_tree.specs.declared.program.Associativity.TheVariants as side
use Rattle.hdc_tree.specs.NameSpelling.{Puts, word_onto, key_onto, small_onto, capital_onto, var_onto, var_op_onto, comma_var_onto, each_onto}
use Rattle.hdc_tree.specs.TypeSpelling.{atype_onto, type_exp_onto}
use Rattle.hdc_tree.specs.HeadSpelling.{head_onto}
use Rattle.hdc_tree.specs.ExpressionSpelling.{rhs_onto}

abbrev pub export_onto : Export → Puts
export_onto (export.Var v) k = var_onto v k
export_onto (export.Con n) k = capital_onto n k

abbrev pub comma_export_onto : CommaExport → Puts
comma_export_onto part k = key_onto part.comma key.KComma (export_onto part.export k)

abbrev pub module_head_onto : ModuleHead → Puts
module_head_onto head.Absent k = k
module_head_onto (head.Plain at n where_at) k = key_onto at key.KModule (capital_onto n (key_onto where_at key.KWhere k))
module_head_onto (head.Exporting at n open_at first rest close_at where_at) k = key_onto at key.KModule (capital_onto n (key_onto open_at key.KOpenParen (export_onto first (each_onto comma_export_onto rest (key_onto close_at key.KCloseParen (key_onto where_at key.KWhere k))))))

abbrev pub constr_onto : Constr → Puts
constr_onto part k = capital_onto part.name (each_onto atype_onto part.fields k)

abbrev pub bar_constr_onto : BarConstr → Puts
bar_constr_onto part k = key_onto part.bar key.KBar (constr_onto part.constr k)

abbrev pub comma_name_onto : CommaName → Puts
comma_name_onto part k = key_onto part.comma key.KComma (capital_onto part.name k)

abbrev pub deriving_onto : Deriving → Puts
deriving_onto derive.Absent k = k
deriving_onto (derive.Con at n) k = key_onto at key.KDeriving (capital_onto n k)
deriving_onto (derive.Unit at open_at close_at) k = key_onto at key.KDeriving (key_onto open_at key.KOpenParen (key_onto close_at key.KCloseParen k))
deriving_onto (derive.List at open_at first rest close_at) k = key_onto at key.KDeriving (key_onto open_at key.KOpenParen (capital_onto first (each_onto comma_name_onto rest (key_onto close_at key.KCloseParen k))))

abbrev pub data_onto : Data → Puts
data_onto part k = key_onto part.at key.KData (capital_onto part.name (each_onto small_onto part.params (key_onto part.equal key.KEqual (constr_onto part.first (each_onto bar_constr_onto part.rest (deriving_onto part.derived k))))))

abbrev pub synonym_onto : Synonym → Puts
synonym_onto part k = key_onto part.at key.KType (capital_onto part.name (each_onto small_onto part.params (key_onto part.equal key.KEqual (type_exp_onto part.meaning k))))

abbrev pub fixity_key : Associativity → Key
fixity_key side.Neither = key.KInfix
fixity_key side.Left = key.KInfixl
fixity_key side.Right = key.KInfixr

abbrev pub comma_var_op_onto : CommaVarOp → Puts
comma_var_op_onto part k = key_onto part.comma key.KComma (var_op_onto part.op k)

abbrev pub fixity_onto : Fixity → Puts
fixity_onto part k = key_onto part.at (fixity_key part.associativity) (word_onto part.number_at (word.Num part.number) (var_op_onto part.first (each_onto comma_var_op_onto part.rest k)))

abbrev pub top_onto : Top → Puts
top_onto top.Empty k = k
top_onto (top.Data part) k = data_onto part k
top_onto (top.Synonym part) k = synonym_onto part k
top_onto (top.Fixity part) k = fixity_onto part k
top_onto (top.Signature first rest at part) k = var_onto first (each_onto comma_var_onto rest (key_onto at key.KDoubleColon (type_exp_onto part k)))
top_onto (top.Equation what rhs) k = head_onto what (rhs_onto rhs k)

abbrev pub next_top_onto : NextTop → Puts
next_top_onto part k = key_onto part.semicolon key.KSemicolon (top_onto part.top k)

abbrev pub tree_onto : Tree → Puts
tree_onto part k = module_head_onto part.head (key_onto part.open_at key.KOpenBrace (top_onto part.first (each_onto next_top_onto part.rest (key_onto part.close_at key.KCloseBrace k))))

-- the tokens of a tree, from the first to the last
abbrev pub spell : Tree → List text_token.Token
spell tree = tree_onto tree []
