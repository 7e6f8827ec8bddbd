-- Each rule of alternatives and of right sides reads again what is spelled, unless a limit comes.
use Rattle.std.proofs.Common.{◌≡◌, ℕ, true, false, ◌&&◌, ◌||◌, List, [], Ok, refl, sym, ◌∙◌, subst}
use Rattle.hdc_base.specs.declared.place.At.{At}
use Rattle.hdc_base.specs.declared.token.Key.TheVariants as key
use Rattle.hdc_base.specs.declared.token.Token.{Token}
use Rattle.hdc_tree.specs.declared.pattern.Pat.{Pat}
use Rattle.hdc_tree.specs.declared.expression.Alt.{Alt}
use Rattle.hdc_tree.specs.declared.expression.Alt.TheVariants as alternative
use Rattle.hdc_tree.specs.declared.expression.Alts.{Alts, roll-Alts}
use Rattle.hdc_tree.specs.declared.expression.ArrowGuard.{ArrowGuard, roll-ArrowGuard}
use Rattle.hdc_tree.specs.declared.expression.EqualGuard.{EqualGuard, roll-EqualGuard}
use Rattle.hdc_tree.specs.declared.expression.Exp.{Exp}
use Rattle.hdc_tree.specs.declared.expression.NextAlt.{NextAlt, roll-NextAlt}
use Rattle.hdc_tree.specs.declared.expression.Rhs.{Rhs}
use Rattle.hdc_tree.specs.declared.expression.Rhs.TheVariants as r
use Rattle.hdc_tree.specs.declared.expression.Where.{Where}
use Rattle.hdc_tree.specs.declared.expression.Where.TheVariants as w
use Rattle.hdc_tree.specs.NameSpelling.{key_onto, each_onto}
use Rattle.hdc_tree.specs.PatternSpelling.{pat_onto}
use Rattle.hdc_tree.specs.ExpressionSpelling.{alt_onto, alts_onto, arrow_guard_onto, equal_guard_onto, exp_onto, next_alt_onto, rhs_onto, where_onto}
use Rattle.hdc_tree.specs.Form.{each_formed, any_of}
use Rattle.hdc_tree.specs.PatternForm.{formed_pat}
use Rattle.hdc_tree.specs.ExpressionForm.{formed_alt, filled_alt, formed_alts, formed_arrow_guard, formed_equal_guard, formed_exp, formed_next_alt, filled_next_alt, formed_rhs, formed_where}
use Rattle.hdc_tree.proofs.ExpressionCases.{alt_cases, alts_cases, arrow_guard_cases, equal_guard_cases, next_alt_cases, rhs_cases, where_cases}
use Rattle.hdc_tree.proofs.ExpressionEquations.{alt_blank, alt_arrow, alt_guarded, alts_made, arrow_guard_made, equal_guard_made, next_alt_made, rhs_equal, rhs_guards, where_absent, where_present}
use Rattle.hdc_tree.proofs.ExpressionFormed.{formed_alt_arrow, formed_alt_guarded, formed_alts_made, formed_arrow_guard_made, formed_equal_guard_made, formed_next_alt_made, formed_rhs_equal, formed_rhs_guards, formed_where_present}
use Rattle.hdc_syntax.specs.Parser.{head}
use Rattle.hdc_syntax.specs.Words.{is}
use Rattle.hdc_syntax.proofs.Tests.{first_part, second_part}
use Rattle.hdc_syntax.proofs.Meets.{Meets, meets_return, meets_then, meets_yes, meets_no, Items, may_all, meets_many}
use Rattle.hdc_syntax.proofs.PatternAgain.{again_pat}
use Rattle.hdc_expression.specs.declared.qualifier.QualHead.{QualHead}
use Rattle.hdc_expression.specs.ExpressionReader.{Inner, ends_qual, whole, generator}
use Rattle.hdc_expression.proofs.Opened.{ends_exp, MeetsInner}
use Rattle.hdc_expression.proofs.ExpressionAgain.{again_whole}
use Rattle.hdc_expression.specs.DeclarationReader.{ends_member, local, arrow_guard, arrow_guards, arrow_alt, guarded_alt, filled, alt, next_alt, next_alts, alts, equal_guard, equal_guards, equal_rhs, guards_rhs, rhs}
use Rattle.hdc_parse.proofs.DeclarationStarts.{member_no_where, where_ends_exp, where_no_bar, arrow_guard_starts, arrow_guard_ends_exp, arrow_guard_ends_pat, equal_guard_starts, equal_guard_ends_exp, next_alt_starts, next_alt_ends_member, pat_ends_no_member}

module _ (turns : ℕ) (inner : Inner) (m : MeetsInner inner)
    (none : (e : Exp) (k : List Token) → ends_qual (head k) ≡ true → (y : QualHead) (rest : List Token) → generator turns inner (exp_onto e k) ≡ Ok (y, rest) → ⊥) where
  exp_again : (e : Exp) → formed_exp e ≡ true → (k : List Token) → ends_exp (head k) ≡ true → Meets Exp (whole turns inner (exp_onto e k)) e k
  exp_again = again_whole turns inner m none

  pub again_local : (x : Where) → formed_where x ≡ true → (k : List Token) → ends_member (head k) ≡ true → Meets Where (local turns inner (where_onto x k)) x k
  unfolding local
  again_local x v k e = where_cases (λ x. formed_where x ≡ true → Meets Where (local turns inner (where_onto x k)) x k)
      (λ v. subst (λ (z : List Token). Meets Where (local turns inner z) w.Absent k) (sym (where_absent k)) (meets_no _ _ (member_no_where (head k) e) (meets_return w.Absent k)))
      (λ at decls v. subst (λ (z : List Token). Meets Where (local turns inner z) (w.Present at decls) k) (sym (where_present at decls k))
      (meets_then _ (m.block decls (sym (formed_where_present at decls) ∙ v) k) (meets_return (w.Present at decls) k)))
      x v

  -- ---- alternatives

  pub again_arrow_guard : (x : ArrowGuard) → formed_arrow_guard x ≡ true → (k : List Token) → ends_exp (head k) ≡ true → Meets ArrowGuard (arrow_guard turns inner (arrow_guard_onto x k)) x k
  unfolding arrow_guard
  again_arrow_guard x v k f = arrow_guard_cases (λ x. formed_arrow_guard x ≡ true → Meets ArrowGuard (arrow_guard turns inner (arrow_guard_onto x k)) x k)
      (λ bar c arrow e v.
      let u = sym (formed_arrow_guard_made bar c arrow e) ∙ v in
      subst (λ (z : List Token). Meets ArrowGuard (arrow_guard turns inner z) (roll-ArrowGuard (record { bar = bar; condition = c; arrow = arrow; exp = e })) k) (sym (arrow_guard_made bar c arrow e k))
      (meets_then _ (exp_again c (first_part (formed_exp c) (formed_exp e) u) (key_onto arrow key.KRightArrow (exp_onto e k)) refl)
      (meets_then _ (exp_again e (second_part (formed_exp c) (formed_exp e) u) k f) (meets_return (roll-ArrowGuard (record { bar = bar; condition = c; arrow = arrow; exp = e })) k))))
      x v

  more_arrow_guards : Items ArrowGuard arrow_guard_onto formed_arrow_guard (is key.KBar) ends_exp (arrow_guard turns inner)
  more_arrow_guards = record { reads = again_arrow_guard; begins = arrow_guard_starts; follows = arrow_guard_ends_exp }

  pub again_arrow_guards : (xs : List ArrowGuard) → each_formed formed_arrow_guard xs ≡ true → (k : List Token) → is key.KBar (head k) ≡ false → ends_exp (head k) ≡ true → Meets (List ArrowGuard) (arrow_guards turns inner (each_onto arrow_guard_onto xs k)) xs k
  again_arrow_guards xs v k e f = meets_many ArrowGuard arrow_guard_onto formed_arrow_guard (is key.KBar) ends_exp (arrow_guard turns inner) more_arrow_guards turns [] xs k v e f

  pub again_arrow_alt : (p : Pat) (arrow : At) (e : Exp) (decls : Where) → formed_exp e ≡ true → formed_where decls ≡ true → (k : List Token) → ends_member (head k) ≡ true
      → Meets Alt (arrow_alt turns inner p (key_onto arrow key.KRightArrow (exp_onto e (where_onto decls k)))) (alternative.Arrow p arrow e decls) k
  unfolding arrow_alt
  again_arrow_alt p arrow e decls u v k f = meets_then _ (exp_again e u (where_onto decls k) (where_ends_exp decls k f)) (meets_then _ (again_local decls v k f) (meets_return (alternative.Arrow p arrow e decls) k))

  pub again_guarded_alt : (p : Pat) (x : ArrowGuard) (xs : List ArrowGuard) (decls : Where) → formed_arrow_guard x ≡ true → each_formed formed_arrow_guard xs ≡ true → formed_where decls ≡ true → (k : List Token) → ends_member (head k) ≡ true
      → Meets Alt (guarded_alt turns inner p (arrow_guard_onto x (each_onto arrow_guard_onto xs (where_onto decls k)))) (alternative.Guarded p x xs decls) k
  unfolding guarded_alt
  again_guarded_alt p x xs decls t u v k f =
      let e = where_ends_exp decls k f in
      meets_then _ (again_arrow_guard x t (each_onto arrow_guard_onto xs (where_onto decls k)) (may_all ArrowGuard arrow_guard_onto formed_arrow_guard (is key.KBar) ends_exp (arrow_guard turns inner) more_arrow_guards xs (where_onto decls k) e))
      (meets_then _ (again_arrow_guards xs u (where_onto decls k) (where_no_bar decls k f) e)
      (meets_then _ (again_local decls v k f) (meets_return (alternative.Guarded p x xs decls) k)))

  by_arrow : (p : Pat) (arrow : At) (e : Exp) (decls : Where) → formed_pat p ≡ true → formed_exp e ≡ true → formed_where decls ≡ true → (k : List Token) → ends_member (head k) ≡ true
      → Meets Alt (alt turns inner (pat_onto p (key_onto arrow key.KRightArrow (exp_onto e (where_onto decls k))))) (alternative.Arrow p arrow e decls) k
  unfolding alt filled
  by_arrow p arrow e decls t u v k f =
      let k1 : List Token = key_onto arrow key.KRightArrow (exp_onto e (where_onto decls k)) in
      meets_no _ _ (pat_ends_no_member p k1) (meets_then _ (again_pat turns inner.apat m.apat p t k1 refl) (again_arrow_alt p arrow e decls u v k f))

  by_guard : (p : Pat) (x : ArrowGuard) (xs : List ArrowGuard) (decls : Where) → formed_pat p ≡ true → formed_arrow_guard x ≡ true → each_formed formed_arrow_guard xs ≡ true → formed_where decls ≡ true → (k : List Token) → ends_member (head k) ≡ true
      → Meets Alt (alt turns inner (pat_onto p (arrow_guard_onto x (each_onto arrow_guard_onto xs (where_onto decls k))))) (alternative.Guarded p x xs decls) k
  unfolding alt filled
  by_guard p x xs decls s t u v k f =
      let k2 : List Token = each_onto arrow_guard_onto xs (where_onto decls k) in
      meets_no _ _ (pat_ends_no_member p (arrow_guard_onto x k2))
      (meets_then _ (again_pat turns inner.apat m.apat p s (arrow_guard_onto x k2) (arrow_guard_ends_pat x k2)) (meets_yes _ _ (arrow_guard_starts x k2) (again_guarded_alt p x xs decls t u v k f)))

  blank_alt : (k : List Token) → ends_member (head k) ≡ true → Meets Alt (alt turns inner k) alternative.Blank k
  unfolding alt
  blank_alt k f = meets_yes _ _ f (meets_return alternative.Blank k)

  pub again_alt : (x : Alt) → formed_alt x ≡ true → (k : List Token) → ends_member (head k) ≡ true → Meets Alt (alt turns inner (alt_onto x k)) x k
  again_alt x v k f = alt_cases (λ x. formed_alt x ≡ true → Meets Alt (alt turns inner (alt_onto x k)) x k)
      (λ v. subst (λ (z : List Token). Meets Alt (alt turns inner z) alternative.Blank k) (sym (alt_blank k)) (blank_alt k f))
      (λ p arrow e decls v.
      let u = sym (formed_alt_arrow p arrow e decls) ∙ v in
      let t = second_part (formed_pat p) (formed_exp e && formed_where decls) u in
      subst (λ (z : List Token). Meets Alt (alt turns inner z) (alternative.Arrow p arrow e decls) k) (sym (alt_arrow p arrow e decls k))
      (by_arrow p arrow e decls (first_part (formed_pat p) (formed_exp e && formed_where decls) u) (first_part (formed_exp e) (formed_where decls) t) (second_part (formed_exp e) (formed_where decls) t) k f))
      (λ p y ys decls v.
      let u = sym (formed_alt_guarded p y ys decls) ∙ v in
      let t = second_part (formed_pat p) (formed_arrow_guard y && (each_formed formed_arrow_guard ys && formed_where decls)) u in
      let s = second_part (formed_arrow_guard y) (each_formed formed_arrow_guard ys && formed_where decls) t in
      subst (λ (z : List Token). Meets Alt (alt turns inner z) (alternative.Guarded p y ys decls) k) (sym (alt_guarded p y ys decls k))
      (by_guard p y ys decls (first_part (formed_pat p) (formed_arrow_guard y && (each_formed formed_arrow_guard ys && formed_where decls)) u)
      (first_part (formed_arrow_guard y) (each_formed formed_arrow_guard ys && formed_where decls) t) (first_part (each_formed formed_arrow_guard ys) (formed_where decls) s) (second_part (each_formed formed_arrow_guard ys) (formed_where decls) s) k f))
      x v

  pub again_next_alt : (x : NextAlt) → formed_next_alt x ≡ true → (k : List Token) → ends_member (head k) ≡ true → Meets NextAlt (next_alt turns inner (next_alt_onto x k)) x k
  unfolding next_alt
  again_next_alt x v k f = next_alt_cases (λ x. formed_next_alt x ≡ true → Meets NextAlt (next_alt turns inner (next_alt_onto x k)) x k)
      (λ semicolon y v. subst (λ (z : List Token). Meets NextAlt (next_alt turns inner z) (roll-NextAlt (record { semicolon = semicolon; alt = y })) k) (sym (next_alt_made semicolon y k))
      (meets_then _ (again_alt y (sym (formed_next_alt_made semicolon y) ∙ v) k f) (meets_return (roll-NextAlt (record { semicolon = semicolon; alt = y })) k)))
      x v

  more_alts : Items NextAlt next_alt_onto formed_next_alt (is key.KSemicolon) ends_member (next_alt turns inner)
  more_alts = record { reads = again_next_alt; begins = next_alt_starts; follows = next_alt_ends_member }

  pub again_next_alts : (xs : List NextAlt) → each_formed formed_next_alt xs ≡ true → (k : List Token) → is key.KSemicolon (head k) ≡ false → ends_member (head k) ≡ true → Meets (List NextAlt) (next_alts turns inner (each_onto next_alt_onto xs k)) xs k
  again_next_alts xs v k e f = meets_many NextAlt next_alt_onto formed_next_alt (is key.KSemicolon) ends_member (next_alt turns inner) more_alts turns [] xs k v e f

  pub again_alts : (x : Alts) → formed_alts x ≡ true → (k : List Token) → Meets Alts (alts turns inner (alts_onto x k)) x k
  unfolding alts
  again_alts x v k = alts_cases (λ x. formed_alts x ≡ true → Meets Alts (alts turns inner (alts_onto x k)) x k)
      (λ open_at y ys close_at v.
      let k1 : List Token = key_onto close_at key.KCloseBrace k in
      let u = sym (formed_alts_made open_at y ys close_at) ∙ v in
      let t = second_part (formed_alt y) (each_formed formed_next_alt ys && (filled_alt y || any_of filled_next_alt ys)) u in
      subst (λ (z : List Token). Meets Alts (alts turns inner z) (roll-Alts (record { open_at = open_at; first = y; rest = ys; close_at = close_at })) k) (sym (alts_made open_at y ys close_at k))
      (meets_then _ (again_alt y (first_part (formed_alt y) (each_formed formed_next_alt ys && (filled_alt y || any_of filled_next_alt ys)) u) (each_onto next_alt_onto ys k1)
      (may_all NextAlt next_alt_onto formed_next_alt (is key.KSemicolon) ends_member (next_alt turns inner) more_alts ys k1 refl))
      (meets_then _ (again_next_alts ys (first_part (each_formed formed_next_alt ys) (filled_alt y || any_of filled_next_alt ys) t) k1 refl refl)
      (meets_yes _ _ (second_part (each_formed formed_next_alt ys) (filled_alt y || any_of filled_next_alt ys) t) (meets_return (roll-Alts (record { open_at = open_at; first = y; rest = ys; close_at = close_at })) k)))))
      x v

  -- ---- right sides

  pub again_equal_guard : (x : EqualGuard) → formed_equal_guard x ≡ true → (k : List Token) → ends_exp (head k) ≡ true → Meets EqualGuard (equal_guard turns inner (equal_guard_onto x k)) x k
  unfolding equal_guard
  again_equal_guard x v k f = equal_guard_cases (λ x. formed_equal_guard x ≡ true → Meets EqualGuard (equal_guard turns inner (equal_guard_onto x k)) x k)
      (λ bar c equal e v.
      let u = sym (formed_equal_guard_made bar c equal e) ∙ v in
      subst (λ (z : List Token). Meets EqualGuard (equal_guard turns inner z) (roll-EqualGuard (record { bar = bar; condition = c; equal = equal; exp = e })) k) (sym (equal_guard_made bar c equal e k))
      (meets_then _ (exp_again c (first_part (formed_exp c) (formed_exp e) u) (key_onto equal key.KEqual (exp_onto e k)) refl)
      (meets_then _ (exp_again e (second_part (formed_exp c) (formed_exp e) u) k f) (meets_return (roll-EqualGuard (record { bar = bar; condition = c; equal = equal; exp = e })) k))))
      x v

  more_equal_guards : Items EqualGuard equal_guard_onto formed_equal_guard (is key.KBar) ends_exp (equal_guard turns inner)
  more_equal_guards = record { reads = again_equal_guard; begins = equal_guard_starts; follows = equal_guard_ends_exp }

  pub again_equal_guards : (xs : List EqualGuard) → each_formed formed_equal_guard xs ≡ true → (k : List Token) → is key.KBar (head k) ≡ false → ends_exp (head k) ≡ true → Meets (List EqualGuard) (equal_guards turns inner (each_onto equal_guard_onto xs k)) xs k
  again_equal_guards xs v k e f = meets_many EqualGuard equal_guard_onto formed_equal_guard (is key.KBar) ends_exp (equal_guard turns inner) more_equal_guards turns [] xs k v e f

  pub again_equal_rhs : (equal : At) (e : Exp) (decls : Where) → formed_exp e ≡ true → formed_where decls ≡ true → (k : List Token) → ends_member (head k) ≡ true
      → Meets Rhs (equal_rhs turns inner (key_onto equal key.KEqual (exp_onto e (where_onto decls k)))) (r.Equal equal e decls) k
  unfolding equal_rhs
  again_equal_rhs equal e decls u v k f = meets_then _ (exp_again e u (where_onto decls k) (where_ends_exp decls k f)) (meets_then _ (again_local decls v k f) (meets_return (r.Equal equal e decls) k))

  pub again_guards_rhs : (x : EqualGuard) (xs : List EqualGuard) (decls : Where) → formed_equal_guard x ≡ true → each_formed formed_equal_guard xs ≡ true → formed_where decls ≡ true → (k : List Token) → ends_member (head k) ≡ true
      → Meets Rhs (guards_rhs turns inner (equal_guard_onto x (each_onto equal_guard_onto xs (where_onto decls k)))) (r.Guards x xs decls) k
  unfolding guards_rhs
  again_guards_rhs x xs decls t u v k f =
      let e = where_ends_exp decls k f in
      meets_then _ (again_equal_guard x t (each_onto equal_guard_onto xs (where_onto decls k)) (may_all EqualGuard equal_guard_onto formed_equal_guard (is key.KBar) ends_exp (equal_guard turns inner) more_equal_guards xs (where_onto decls k) e))
      (meets_then _ (again_equal_guards xs u (where_onto decls k) (where_no_bar decls k f) e)
      (meets_then _ (again_local decls v k f) (meets_return (r.Guards x xs decls) k)))

  pub again_rhs : (x : Rhs) → formed_rhs x ≡ true → (k : List Token) → ends_member (head k) ≡ true → Meets Rhs (rhs turns inner (rhs_onto x k)) x k
  unfolding rhs
  again_rhs x v k f = rhs_cases (λ x. formed_rhs x ≡ true → Meets Rhs (rhs turns inner (rhs_onto x k)) x k)
      (λ equal e decls v.
      let u = sym (formed_rhs_equal equal e decls) ∙ v in
      subst (λ (z : List Token). Meets Rhs (rhs turns inner z) (r.Equal equal e decls) k) (sym (rhs_equal equal e decls k))
      (again_equal_rhs equal e decls (first_part (formed_exp e) (formed_where decls) u) (second_part (formed_exp e) (formed_where decls) u) k f))
      (λ y ys decls v.
      let u = sym (formed_rhs_guards y ys decls) ∙ v in
      let t = second_part (formed_equal_guard y) (each_formed formed_equal_guard ys && formed_where decls) u in
      subst (λ (z : List Token). Meets Rhs (rhs turns inner z) (r.Guards y ys decls) k) (sym (rhs_guards y ys decls k))
      (meets_yes _ _ (equal_guard_starts y (each_onto equal_guard_onto ys (where_onto decls k)))
      (again_guards_rhs y ys decls (first_part (formed_equal_guard y) (each_formed formed_equal_guard ys && formed_where decls) u) (first_part (each_formed formed_equal_guard ys) (formed_where decls) t) (second_part (each_formed formed_equal_guard ys) (formed_where decls) t) k f)))
      x v
