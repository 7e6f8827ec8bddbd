-- Brackets match in the spelling of programs, and where a token divides outside brackets.
use Rattle.std.proofs.Common.{◌≡◌, ℕ, true, false, refl}
use Rattle.hdc_base.specs.declared.place.At.{At}
use Rattle.hdc_base.specs.declared.token.Key.TheVariants as key
use Rattle.hdc_base.specs.declared.token.Word.TheVariants as word
use Rattle.hdc_tree.specs.declared.name.Name.{Name}
use Rattle.hdc_tree.specs.declared.name.VarOp.{VarOp}
use Rattle.hdc_tree.specs.declared.program.Associativity.{Associativity}
use Rattle.hdc_tree.specs.declared.program.Associativity.TheVariants as side
use Rattle.hdc_tree.specs.declared.program.BarConstr.{BarConstr}
use Rattle.hdc_tree.specs.declared.program.CommaExport.{CommaExport}
use Rattle.hdc_tree.specs.declared.program.CommaName.{CommaName}
use Rattle.hdc_tree.specs.declared.program.CommaVarOp.{CommaVarOp}
use Rattle.hdc_tree.specs.declared.program.Constr.{Constr}
use Rattle.hdc_tree.specs.declared.program.Data.{Data}
use Rattle.hdc_tree.specs.declared.program.Deriving.{Deriving}
use Rattle.hdc_tree.specs.declared.program.Deriving.TheVariants as derive
use Rattle.hdc_tree.specs.declared.program.Export.{Export}
use Rattle.hdc_tree.specs.declared.program.Export.TheVariants as exported
use Rattle.hdc_tree.specs.declared.program.Fixity.{Fixity}
use Rattle.hdc_tree.specs.declared.program.ModuleHead.{ModuleHead}
use Rattle.hdc_tree.specs.declared.program.ModuleHead.TheVariants as h
use Rattle.hdc_tree.specs.declared.program.NextTop.{NextTop}
use Rattle.hdc_tree.specs.declared.program.Synonym.{Synonym}
use Rattle.hdc_tree.specs.declared.program.Top.{Top}
use Rattle.hdc_tree.specs.declared.program.Top.TheVariants as t
use Rattle.hdc_tree.specs.declared.program.Tree.{Tree}
use Rattle.hdc_tree.specs.NameSpelling.{small_onto, var_op_onto}
use Rattle.hdc_tree.specs.ProgramSpelling.{export_onto, comma_export_onto, module_head_onto, constr_onto, bar_constr_onto, comma_name_onto, deriving_onto, data_onto, synonym_onto, fixity_key, comma_var_op_onto, fixity_onto, top_onto, next_top_onto, tree_onto}
use Rattle.hdc_syntax.proofs.Balanced.{plain, key_role, BalancedWord, word_by, put, put_free, put_loose, put_none, put_both, put_word, put_key, put_divide, put_within, put_each, put_small, put_capital, put_var, put_var_op, comma_var_word}
use Rattle.hdc_syntax.proofs.TypeBalanced.{atype_word, type_exp_word}
use Rattle.hdc_expression.proofs.ExpressionBalanced.{head_word, rhs_word}
use Rattle.hdc_parse.proofs.ProgramWords.{precedence_onto}

-- names, operators and precedences
pub small_word : (x : Name) → BalancedWord Name small_onto false x
small_word x = word_by (λ k. refl) (put_small false x)

pub comma_name_word : (x : CommaName) → BalancedWord CommaName comma_name_onto true x
comma_name_word x = word_by (λ k. refl) (put_both (put_divide x.comma key.KComma refl) (put_capital true x.name))

pub var_op_word : (x : VarOp) → BalancedWord VarOp var_op_onto false x
var_op_word x = word_by (λ k. refl) (put_var_op false x)

pub comma_var_op_word : (x : CommaVarOp) → BalancedWord CommaVarOp comma_var_op_onto true x
comma_var_op_word x = word_by (λ k. refl) (put_both (put_divide x.comma key.KComma refl) (put_var_op true x.op))

pub precedence_word : (x : At × ℕ) → BalancedWord (At × ℕ) precedence_onto false x
precedence_word x = word_by (λ k. refl) (put_word false x.0 (word.Num x.1) refl)

-- the head
pub export_word : (x : Export) → BalancedWord Export export_onto false x
export_word (exported.Var v) = word_by (λ k. refl) (put_var false v)
export_word (exported.Con n) = word_by (λ k. refl) (put_capital false n)

pub comma_export_word : (x : CommaExport) → BalancedWord CommaExport comma_export_onto true x
comma_export_word x = word_by (λ k. refl) (put_both (put_divide x.comma key.KComma refl) (put_free (export_word x.export)))

pub module_head_word : (x : ModuleHead) → BalancedWord ModuleHead module_head_onto false x
module_head_word h.Absent = word_by (λ k. refl) (put_none false)
module_head_word (h.Plain at n where_at) = word_by (λ k. refl) (put_both (put_key false at key.KModule refl) (put_both (put_capital false n) (put_key false where_at key.KWhere refl)))
module_head_word (h.Exporting at n open_at first rest close_at where_at) = word_by (λ k. refl) (put_both (put_key false at key.KModule refl) (put_both (put_capital false n)
    (put_both (put_within false open_at key.KOpenParen close_at key.KCloseParen refl refl (put_both (put_free (export_word first)) (put_each comma_export_word rest))) (put_key false where_at key.KWhere refl))))

-- types
pub constr_word : (x : Constr) → BalancedWord Constr constr_onto false x
constr_word x = word_by (λ k. refl) (put_both (put_capital false x.name) (put_each atype_word x.fields))

pub bar_constr_word : (x : BarConstr) → BalancedWord BarConstr bar_constr_onto true x
bar_constr_word x = word_by (λ k. refl) (put_both (put_divide x.bar key.KBar refl) (put_free (constr_word x.constr)))

pub deriving_word : (x : Deriving) → BalancedWord Deriving deriving_onto false x
deriving_word derive.Absent = word_by (λ k. refl) (put_none false)
deriving_word (derive.Con at n) = word_by (λ k. refl) (put_both (put_key false at key.KDeriving refl) (put_capital false n))
deriving_word (derive.Unit at open_at close_at) = word_by (λ k. refl) (put_both (put_key false at key.KDeriving refl) (put_within false open_at key.KOpenParen close_at key.KCloseParen refl refl (put_none true)))
deriving_word (derive.List at open_at first rest close_at) = word_by (λ k. refl) (put_both (put_key false at key.KDeriving refl)
    (put_within false open_at key.KOpenParen close_at key.KCloseParen refl refl (put_both (put_capital true first) (put_each comma_name_word rest))))

pub data_word : (x : Data) → BalancedWord Data data_onto true x
data_word x = word_by (λ k. refl) (put_both (put_key true x.at key.KData refl) (put_both (put_capital true x.name) (put_both (put_loose (put_each small_word x.params)) (put_both (put_key true x.equal key.KEqual refl)
    (put_both (put_free (constr_word x.first)) (put_both (put_each bar_constr_word x.rest) (put_free (deriving_word x.derived))))))))

pub synonym_word : (x : Synonym) → BalancedWord Synonym synonym_onto true x
synonym_word x = word_by (λ k. refl) (put_both (put_key true x.at key.KType refl) (put_both (put_capital true x.name) (put_both (put_loose (put_each small_word x.params)) (put_both (put_key true x.equal key.KEqual refl) (put_free (type_exp_word x.meaning))))))

-- fixities
fixity_plain : (x : Associativity) → key_role (fixity_key x) ≡ plain
fixity_plain side.Neither = refl
fixity_plain side.Left = refl
fixity_plain side.Right = refl

pub fixity_word : (x : Fixity) → BalancedWord Fixity fixity_onto true x
fixity_word x = word_by (λ k. refl) (put_both (put_key true x.at (fixity_key x.associativity) (fixity_plain x.associativity)) (put_both (put_word true x.number_at (word.Num x.number) refl) (put_both (put_var_op true x.first) (put_each comma_var_op_word x.rest))))

-- top declarations
pub top_word : (x : Top) → BalancedWord Top top_onto true x
top_word t.Empty = word_by (λ k. refl) (put_none true)
top_word (t.Data x) = word_by (λ k. refl) (put (data_word x))
top_word (t.Synonym x) = word_by (λ k. refl) (put (synonym_word x))
top_word (t.Fixity x) = word_by (λ k. refl) (put (fixity_word x))
top_word (t.Signature first rest at part) = word_by (λ k. refl) (put_both (put_var true first) (put_both (put_each comma_var_word rest) (put_both (put_key true at key.KDoubleColon refl) (put_free (type_exp_word part)))))
top_word (t.Equation what right) = word_by (λ k. refl) (put_both (put_free (head_word what)) (put (rhs_word right)))

pub next_top_word : (x : NextTop) → BalancedWord NextTop next_top_onto true x
next_top_word x = word_by (λ k. refl) (put_both (put_divide x.semicolon key.KSemicolon refl) (put (top_word x.top)))

pub tree_word : (x : Tree) → BalancedWord Tree tree_onto false x
tree_word x = word_by (λ k. refl) (put_both (put (module_head_word x.head)) (put_within false x.open_at key.KOpenBrace x.close_at key.KCloseBrace refl refl (put_both (put (top_word x.first)) (put_each next_top_word x.rest))))
