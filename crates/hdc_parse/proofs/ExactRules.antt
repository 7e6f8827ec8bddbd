-- The rules of a program are exact.
use Rattle.std.proofs.Common.{◌≡◌, ℕ, zero, suc, ◌+◌, ◌-◌, true, List, [], length, Ok, Err, refl, sym, ◌∙◌, ap, subst, arith, append-nil}
use Rattle.hdc_base.specs.declared.token.Token.{Token}
use Rattle.hdc_nesting.specs.Nesting.{NonePasses}
use Rattle.hdc_nesting.specs.Counts.{no_counts}
use Rattle.hdc_tree.specs.declared.program.Tree.{Tree}
use Rattle.hdc_syntax.specs.declared.stop.Stop.TheVariants.{Want, Deep, Syntax}
use Rattle.hdc_syntax.specs.Parser.{Outcome}
use Rattle.hdc_syntax.specs.Regular.{all_regular}
use Rattle.hdc_parse.specs.ProgramReader.{program}
use Rattle.hdc_parse.specs.Exact.{Fails, ExactFor}
use Rattle.hdc_parse.proofs.Exact as exact
use Rattle.hdc_parse.proofs.ProgramWords.{program_rest}
use Rattle.hdc_parse.proofs.Whole.{good_whole, local_whole, again_whole, ample_whole}
use Rattle.hdc_parse.proofs.Fitting.{fits_all}

abbrev depth : ℕ
depth = 258

module _ (turns : ℕ) (ts : List Token) (regular : all_regular ts ≡ true) where
  whole : (us : List Token) (x : Tree) (rest : List Token) → program turns depth us ≡ Ok (x, rest) → rest ≡ []
  whole us x rest e = program_rest turns depth us x rest e

  refused_at : (n : ℕ) → program turns depth ts ≡ Err (Syntax n) → Fails ts (length ts - n)
  refused_at zero e = subst (λ z. Fails ts z) (omega arith) (exact.end_fails (program turns depth) (good_whole turns depth) whole (local_whole turns depth) (again_whole turns depth) ts regular e)
  refused_at (suc n) e = exact.part_fails (program turns depth) (good_whole turns depth) whole (local_whole turns depth) (again_whole turns depth) ts ts [] (suc n) (sym (append-nil ts)) regular (omega arith) e

  exact_by : (o : Outcome Tree) → program turns depth ts ≡ o → (program turns depth ts ≡ Err Deep → ⊥) → (program turns depth ts ≡ Err Want → ⊥) → ExactFor ts o
  exact_by (Ok (x, rest)) e deep want =
      let f = exact.found (program turns depth) (good_whole turns depth) whole (local_whole turns depth) (again_whole turns depth) ts x rest e in
      (record { formed = f.0; regular = ap all_regular f.1 ∙ regular }, f.1, whole ts x rest e)
  exact_by (Err (Syntax n)) e deep want = (exact.counted (program turns depth) (good_whole turns depth) whole (local_whole turns depth) (again_whole turns depth) ts n e, refused_at n e)
  exact_by (Err Deep) e deep want = deep e
  exact_by (Err Want) e deep want = want e

pub exact_rules : (ts : List Token) → all_regular ts ≡ true → NonePasses 256 ts → ExactFor ts (program (length ts + 1) depth ts)
exact_rules ts regular nests =
    let fits = fits_all ts 257 (λ k lt. let h = nests k lt in omega (arith, h)) in
    exact_by (length ts + 1) ts regular (program (length ts + 1) depth ts) refl
    (λ e. (ample_whole (length ts + 1) 258 depth (length ts) (omega arith)).enough no_counts ts (omega arith) fits (omega arith) Deep tt e)
    (λ e. (ample_whole (length ts + 1) 258 depth (length ts) (omega arith)).enough no_counts ts (omega arith) fits (omega arith) Want tt e)
