-- The parsers of what nests, at every depth.
use Rattle.std.proofs.Common.{◌≡◌, ℕ, zero, suc, Bool, true, false, List, [], None, refl, ◌∙◌, ap, ◌||◌}
use Rattle.hdc_base.specs.declared.token.Token.{Token}
use Rattle.hdc_tree.specs.declared.expression.Alt.{Alt}
use Rattle.hdc_tree.specs.declared.expression.Alts.{Alts}
use Rattle.hdc_tree.specs.declared.expression.Block.{Block}
use Rattle.hdc_base.specs.declared.token.Key.TheVariants as key
use Rattle.hdc_tree.specs.declared.name.Var.TheVariants as var
use Rattle.hdc_tree.specs.declared.name.Sign.{Sign}
use Rattle.hdc_tree.specs.declared.name.Sign.TheVariants as sign
use Rattle.hdc_tree.specs.declared.pattern.Apat.TheVariants as a
use Rattle.hdc_tree.specs.declared.pattern.LeftPat.TheVariants as l
use Rattle.hdc_tree.specs.declared.pattern.Pat.{Pat, roll-Pat}
use Rattle.hdc_tree.specs.declared.expression.Aexp.TheVariants as x
use Rattle.hdc_tree.specs.declared.expression.Alt.TheVariants as alternative
use Rattle.hdc_tree.specs.declared.expression.Alts.{roll-Alts}
use Rattle.hdc_tree.specs.declared.expression.Apply.{Apply, roll-Apply}
use Rattle.hdc_tree.specs.declared.expression.Block.{roll-Block}
use Rattle.hdc_tree.specs.declared.expression.Decl.TheVariants as d
use Rattle.hdc_tree.specs.declared.expression.Exp.{Exp}
use Rattle.hdc_tree.specs.declared.expression.Operand.TheVariants as o
use Rattle.hdc_tree.specs.declared.expression.Where.TheVariants as w
use Rattle.hdc_tree.specs.NameSpelling.{key_onto, small_onto, sign_onto}
use Rattle.hdc_tree.specs.PatternSpelling.{pat_onto}
use Rattle.hdc_tree.specs.PatternForm.{formed_pat}
use Rattle.hdc_tree.specs.ExpressionSpelling.{exp_onto, block_onto, alts_onto}
use Rattle.hdc_tree.specs.ExpressionForm.{formed_exp, formed_block, formed_alts}
use Rattle.hdc_tree.proofs.PatternEquations.{apat_var, left_pat_plain, pat_made}
use Rattle.hdc_tree.proofs.PatternFormed.{formed_apat_var, formed_left_pat_plain, formed_pat_made}
use Rattle.hdc_tree.proofs.ExpressionEquations.{aexp_var, alt_arrow, decl_empty, operand_applied, where_absent, alts_made, apply_made, block_made, exp_made}
use Rattle.hdc_tree.proofs.ExpressionFormed.{formed_aexp_var, formed_alt_arrow, filled_alt_arrow, formed_decl_empty, formed_operand_applied, formed_where_absent, formed_alts_made, formed_apply_made, formed_block_made, formed_exp_made}
use Rattle.hdc_syntax.proofs.Tests.{both}
use Rattle.hdc_syntax.proofs.Steps.{some_at, some_name}
use Rattle.hdc_syntax.proofs.PatternWords.{good_apat}
use Rattle.hdc_syntax.proofs.PatternLooks.{local_apat}
use Rattle.hdc_syntax.proofs.PatternAgain.{again_apat}
use Rattle.hdc_syntax.proofs.TypeWords.{good_atype}
use Rattle.hdc_syntax.proofs.TypeLooks.{local_atype}
use Rattle.hdc_syntax.proofs.TypeAgain.{again_atype}
use Rattle.hdc_syntax.proofs.Good.{Some_of, Spells, good_deep}
use Rattle.hdc_syntax.proofs.Local.{local_deep}
use Rattle.hdc_syntax.proofs.Meets.{meets_deep}
use Rattle.hdc_expression.specs.ExpressionReader.{Opened, made}
use Rattle.hdc_expression.specs.Nested.{nested}
use Rattle.hdc_expression.proofs.Opened.{OpenedWord, GoodInner, LocalInner, MeetsInner}
use Rattle.hdc_expression.proofs.ExpressionWords.{good_exp_level}
use Rattle.hdc_expression.proofs.ExpressionLooks.{local_exp_level}
use Rattle.hdc_expression.proofs.ExpressionAgain.{again_exp_level}
use Rattle.hdc_expression.proofs.Apart.{apart, no_generator}
use Rattle.hdc_parse.proofs.DeclarationWords.{good_block, good_alts}
use Rattle.hdc_parse.proofs.DeclarationLooks.{local_block, local_alts}
use Rattle.hdc_parse.proofs.AlternativeAgain.{again_alts}
use Rattle.hdc_parse.proofs.DeclarationAgain.{again_block}

or_first : (a b : Bool) → a ≡ true → (a || b) ≡ true
or_first true b e = refl
or_first false b e = absurd (cc)

-- ---- a name is an expression and a pattern; a block may be empty

abbrev name_apply : Apply
name_apply = roll-Apply (record { head = x.Var (var.Plain some_name); args = [] })

abbrev name_exp : Sign → Exp
name_exp taken = made [] taken (o.Applied name_apply)

name_exp_spelled : (taken : Sign) (k : List Token) → exp_onto (name_exp taken) k ≡ sign_onto taken (small_onto some_name k)
name_exp_spelled taken k = exp_made [] taken (o.Applied name_apply) k ∙ ap (sign_onto taken) (operand_applied name_apply k ∙ apply_made (x.Var (var.Plain some_name)) [] k ∙ aexp_var (var.Plain some_name) k)

name_exp_formed : (taken : Sign) → formed_exp (name_exp taken) ≡ true
name_exp_formed taken = formed_exp_made [] taken (o.Applied name_apply) ∙ formed_operand_applied name_apply ∙ formed_apply_made (x.Var (var.Plain some_name)) [] ∙ both _ _ (formed_aexp_var (var.Plain some_name)) refl

some_opened : (section : Bool) (taken : Sign) → Some_of Opened (OpenedWord section taken)
some_opened section taken = record { value = (name_exp taken, None); word = small_onto some_name []; is = record { spelled = name_exp_spelled taken; sound = name_exp_formed taken; closed = λ e. refl }; regular = refl }

some_block : Some_of Block (Spells Block block_onto formed_block)
some_block = record {
  value = roll-Block (record { open_at = some_at; first = d.Empty; rest = []; close_at = some_at });
  word = key_onto some_at key.KOpenBrace (key_onto some_at key.KCloseBrace []);
  is = record {
    spelled = λ k. block_made some_at d.Empty [] some_at k ∙ ap (key_onto some_at key.KOpenBrace) (decl_empty (key_onto some_at key.KCloseBrace k));
    sound = formed_block_made some_at d.Empty [] some_at ∙ both _ _ formed_decl_empty refl;
  };
  regular = refl;
}

abbrev name_pat : Pat
name_pat = roll-Pat (record { first = l.Plain (a.Var some_name); rest = [] })

name_pat_spelled : (k : List Token) → pat_onto name_pat k ≡ small_onto some_name k
name_pat_spelled k = pat_made (l.Plain (a.Var some_name)) [] k ∙ left_pat_plain (a.Var some_name) k ∙ apat_var some_name k

name_pat_formed : formed_pat name_pat ≡ true
name_pat_formed = formed_pat_made (l.Plain (a.Var some_name)) [] ∙ both _ _ (formed_left_pat_plain (a.Var some_name) ∙ formed_apat_var some_name) refl

abbrev name_alt : Alt
name_alt = alternative.Arrow name_pat some_at (name_exp sign.Absent) w.Absent

some_alts : Some_of Alts (Spells Alts alts_onto formed_alts)
some_alts = record {
  value = roll-Alts (record { open_at = some_at; first = name_alt; rest = []; close_at = some_at });
  word = key_onto some_at key.KOpenBrace (small_onto some_name (key_onto some_at key.KRightArrow (small_onto some_name (key_onto some_at key.KCloseBrace []))));
  is = record {
    spelled = λ k.
        let rest : List Token = key_onto some_at key.KCloseBrace k in
        alts_made some_at name_alt [] some_at k ∙ ap (key_onto some_at key.KOpenBrace) (alt_arrow name_pat some_at (name_exp sign.Absent) w.Absent rest
        ∙ ap (λ z. pat_onto name_pat (key_onto some_at key.KRightArrow z)) (ap (exp_onto (name_exp sign.Absent)) (where_absent rest) ∙ name_exp_spelled sign.Absent rest)
        ∙ name_pat_spelled (key_onto some_at key.KRightArrow (small_onto some_name rest)));
    sound = formed_alts_made some_at name_alt [] some_at ∙ both _ _ (formed_alt_arrow name_pat some_at (name_exp sign.Absent) w.Absent ∙ both _ _ name_pat_formed (both _ _ (name_exp_formed sign.Absent) formed_where_absent))
        (both _ _ refl (or_first _ _ (filled_alt_arrow name_pat some_at (name_exp sign.Absent) w.Absent)));
  };
  regular = refl;
}

-- ---- every depth

pub good_nested : (turns depth : ℕ) → GoodInner (nested turns depth)
good_nested turns zero = record {
  exp = λ section taken. good_deep Opened (OpenedWord section taken) (some_opened section taken);
  block = good_deep Block (Spells Block block_onto formed_block) some_block;
  alts = good_deep Alts (Spells Alts alts_onto formed_alts) some_alts;
  apat = good_apat turns zero;
  atype = good_atype turns zero;
}
good_nested turns (suc depth) = let g = good_nested turns depth in record {
  exp = good_exp_level turns (nested turns depth) g;
  block = good_block turns (nested turns depth) g;
  alts = good_alts turns (nested turns depth) g;
  apat = good_apat turns (suc depth);
  atype = good_atype turns (suc depth);
}

pub local_nested : (turns depth : ℕ) → LocalInner (nested turns depth)
local_nested turns zero = record {
  exp = λ section taken. local_deep Opened;
  block = local_deep Block;
  alts = local_deep Alts;
  apat = local_apat turns zero;
  atype = local_atype turns zero;
}
local_nested turns (suc depth) =
    let l = local_nested turns depth in
    let a = apart turns (nested turns depth) (good_nested turns depth) in record {
      exp = local_exp_level turns (nested turns depth) l a;
      block = local_block turns (nested turns depth) l a;
      alts = local_alts turns (nested turns depth) l a;
      apat = local_apat turns (suc depth);
      atype = local_atype turns (suc depth);
    }

pub meets_nested : (turns depth : ℕ) → MeetsInner (nested turns depth)
meets_nested turns zero = record {
  exp = λ section taken e formed end k follows ts same. meets_deep (e, end) k;
  block = λ x formed k. meets_deep x k;
  alts = λ x formed k. meets_deep x k;
  apat = again_apat turns zero;
  atype = again_atype turns zero;
}
meets_nested turns (suc depth) =
    let m = meets_nested turns depth in
    let n = no_generator turns (nested turns depth) (good_nested turns depth) in record {
      exp = again_exp_level turns (nested turns depth) m n;
      block = again_block turns (nested turns depth) m n;
      alts = again_alts turns (nested turns depth) m n;
      apat = again_apat turns (suc depth);
      atype = again_atype turns (suc depth);
    }
