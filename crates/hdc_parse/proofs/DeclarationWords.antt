-- What each rule of declarations reads is a declaration's spelling, and where a rule stops the tokens so far begin one.
use Rattle.std.proofs.Common.{◌≡◌, ℕ, Bool, true, false, not, ◌&&◌, ◌||◌, cond, List, [], ◌∷◌, ◌++◌, length, Option, Some, Ok, Err, refl, sym, ◌∙◌, ap, subst, append_assoc, append-nil}
use Rattle.hdc_base.specs.declared.place.At.{At}
use Rattle.hdc_base.specs.declared.token.Key.TheVariants as key
use Rattle.hdc_base.specs.declared.token.Word.TheVariants as word
use Rattle.hdc_base.specs.declared.token.Token.{Token}
use Rattle.hdc_tree.specs.declared.name.Name.{Name}
use Rattle.hdc_tree.specs.declared.name.CommaVar.{CommaVar}
use Rattle.hdc_tree.specs.declared.name.Var.{Var}
use Rattle.hdc_tree.specs.declared.name.Var.TheVariants as var
use Rattle.hdc_tree.specs.declared.pattern.Apat.{Apat, out-Apat}
use Rattle.hdc_tree.specs.declared.pattern.Apat.TheVariants as a
use Rattle.hdc_tree.specs.declared.pattern.ConsPat.{ConsPat}
use Rattle.hdc_tree.specs.declared.pattern.LeftPat.{LeftPat, out-LeftPat}
use Rattle.hdc_tree.specs.declared.pattern.LeftPat.TheVariants as l
use Rattle.hdc_tree.specs.declared.pattern.Pat.{Pat, roll-Pat}
use Rattle.hdc_tree.specs.declared.type_tree.TypeExp.{TypeExp}
use Rattle.hdc_tree.specs.declared.head.Head.{Head}
use Rattle.hdc_tree.specs.declared.head.Head.TheVariants as lhs
use Rattle.hdc_tree.specs.declared.expression.Aexp.{Aexp}
use Rattle.hdc_tree.specs.declared.expression.Alt.{Alt}
use Rattle.hdc_tree.specs.declared.expression.Alt.TheVariants as alternative
use Rattle.hdc_tree.specs.declared.expression.Alts.{Alts, roll-Alts}
use Rattle.hdc_tree.specs.declared.expression.Apply.{Apply}
use Rattle.hdc_tree.specs.declared.expression.ArrowGuard.{ArrowGuard, roll-ArrowGuard}
use Rattle.hdc_tree.specs.declared.expression.Block.{Block, roll-Block}
use Rattle.hdc_tree.specs.declared.expression.CommaExp.{CommaExp}
use Rattle.hdc_tree.specs.declared.expression.CommaQual.{CommaQual}
use Rattle.hdc_tree.specs.declared.expression.Decl.{Decl, Decl-F, out-Decl, out-roll-Decl}
use Rattle.hdc_tree.specs.declared.expression.Decl.TheVariants as d
use Rattle.hdc_tree.specs.declared.expression.EqualGuard.{EqualGuard, roll-EqualGuard}
use Rattle.hdc_tree.specs.declared.expression.Exp.{Exp}
use Rattle.hdc_tree.specs.declared.expression.Link.{Link}
use Rattle.hdc_tree.specs.declared.expression.ListExp.{ListExp}
use Rattle.hdc_tree.specs.declared.expression.NextAlt.{NextAlt, roll-NextAlt}
use Rattle.hdc_tree.specs.declared.expression.NextDecl.{NextDecl, roll-NextDecl}
use Rattle.hdc_tree.specs.declared.expression.Operand.{Operand}
use Rattle.hdc_tree.specs.declared.expression.Qual.{Qual}
use Rattle.hdc_tree.specs.declared.expression.Rhs.{Rhs}
use Rattle.hdc_tree.specs.declared.expression.Rhs.TheVariants as r
use Rattle.hdc_tree.specs.declared.expression.Where.{Where}
use Rattle.hdc_tree.specs.declared.expression.Where.TheVariants as wh
use Rattle.hdc_tree.specs.Form.{each_formed, any_of}
use Rattle.hdc_tree.specs.NameSpelling.{Puts, word_onto, key_onto, small_onto, capital_onto, symbol_onto, var_onto, comma_var_onto, each_onto}
use Rattle.hdc_tree.specs.PatternSpelling.{apat_onto, left_pat_onto, cons_pat_onto, pat_onto}
use Rattle.hdc_tree.specs.HeadSpelling.{head_onto}
use Rattle.hdc_tree.specs.ExpressionSpelling.{alt_onto, decl_onto, rhs_onto, where_onto, alts_onto, arrow_guard_onto, block_onto, equal_guard_onto, next_alt_onto, next_decl_onto}
use Rattle.hdc_tree.specs.PatternForm.{formed_apat, formed_left_pat, formed_cons_pat, formed_pat, is_variable, is_plain_left, is_alone, is_plain_name}
use Rattle.hdc_tree.specs.HeadForm.{formed_head}
use Rattle.hdc_tree.specs.ExpressionForm.{formed_alt, filled_alt, formed_decl, formed_rhs, formed_where, formed_alts, formed_arrow_guard, formed_block, formed_equal_guard, formed_next_alt, filled_next_alt, formed_next_decl}
use Rattle.hdc_tree.proofs.PatternCases.{apat_cases, left_pat_cases}
use Rattle.hdc_tree.proofs.PatternEquations.{apat_var, apat_as, apat_wildcard, apat_con, apat_unit, left_pat_plain, left_pat_negative, pat_made}
use Rattle.hdc_tree.proofs.PatternFormed.{formed_apat_var, formed_apat_as, formed_apat_wildcard, formed_apat_con, formed_apat_unit, formed_left_pat_plain, formed_left_pat_negative, formed_pat_made, is_plain_name_made, is_plain_left_plain, is_plain_left_applied, is_plain_left_negative, is_variable_as, is_variable_wildcard, is_variable_con, is_variable_literal, is_variable_unit, is_variable_nil, is_variable_paren, is_variable_tuple, is_variable_list}
use Rattle.hdc_tree.proofs.ExpressionEquations.{alt_blank, alt_arrow, alt_guarded, decl_empty, decl_signature, decl_equation, decl_binding, rhs_equal, rhs_guards, where_absent, where_present, alts_made, arrow_guard_made, block_made, equal_guard_made, next_alt_made, next_decl_made}
use Rattle.hdc_tree.proofs.ExpressionFormed.{formed_alt_blank, formed_alt_arrow, filled_alt_arrow, formed_alt_guarded, filled_alt_guarded, formed_decl_empty, formed_decl_signature, formed_decl_equation, formed_decl_binding, formed_rhs_equal, formed_rhs_guards, formed_where_absent, formed_where_present, formed_alts_made, formed_arrow_guard_made, formed_block_made, formed_equal_guard_made, formed_next_alt_made, filled_next_alt_made, formed_next_decl_made}
use Rattle.hdc_syntax.specs.declared.stop.Stop.TheVariants.{Syntax}
use Rattle.hdc_syntax.specs.Parser.{Parser, ◌>>=◌, and_then, refuse, peek, head}
use Rattle.hdc_syntax.specs.Words.{is, is_small, is_capital, is_symbol, is_minus, is_minus_text}
use Rattle.hdc_syntax.specs.Names.{starts_var_op}
use Rattle.hdc_syntax.specs.Regular.{all_regular}
use Rattle.hdc_syntax.proofs.Good.{Good, Spells, Grown, Reads, Begins, Some_of, good_refuse, good_as, good_many_from}
use Rattle.hdc_syntax.proofs.Steps.{some_at, good_then, good_key, good_small, good_capital, good_symbol, good_minus, good_number, good_look, good_if, good_return}
use Rattle.hdc_syntax.proofs.NameRules.{always, good_var, good_var_op}
use Rattle.hdc_syntax.proofs.Tests.{both, first_part, second_part, not_both, regular_both, not_true}
use Rattle.hdc_syntax.specs.PatternReader.{starts_apat, applied_pat, negative_pat, cons_pat, pat_behind}
use Rattle.hdc_syntax.proofs.Several.{good_many}
use Rattle.hdc_syntax.proofs.PatternWords.{good_apats, good_applied_pat, good_cons_pat, good_cons_pats, good_pat_behind, good_parens_behind, good_pat}
use Rattle.hdc_syntax.proofs.TypeWords.{good_type_exp}
use Rattle.hdc_expression.specs.ExpressionReader.{Inner}
use Rattle.hdc_expression.proofs.Opened.{GoodInner}
use Rattle.hdc_expression.proofs.ExpressionWords.{good_whole, minus_name}
use Rattle.hdc_expression.specs.DeclarationReader.{ends_member, local, arrow_guard, arrow_guards, arrow_alt, guarded_alt, filled, alt, next_alt, next_alts, alts_closed, alts, equal_guard, equal_guards, equal_rhs, guards_rhs, rhs, comma_var, comma_vars, signature, prefix_decl, var_behind, infix_decl, binding, left_behind, apat_behind, as_decl, cons_decl, named_by, named, applied_behind, constructed, negative, paren_infix, paren_left, paren_behind, operator_decl, minus_decl, symbol_by, symbol_decl, unit_decl, paren_applied, paren_constructed, parens_by, parens, decl_by, stated, decl, next_decl, next_decls, block}

-- ---- lists and tests

each_append : {A : Type 0} (onto : A → Puts) (xs ys : List A) (k : List Token) → each_onto onto (xs ++ ys) k ≡ each_onto onto xs (each_onto onto ys k)
each_append onto [] ys k = refl
each_append onto (x ∷ xs) ys k = ap (onto x) (each_append onto xs ys k)

formed_append : {A : Type 0} (formed : A → Bool) (xs ys : List A) → each_formed formed xs ≡ true → each_formed formed ys ≡ true → each_formed formed (xs ++ ys) ≡ true
formed_append formed [] ys e f = f
formed_append formed (x ∷ xs) ys e f = both (formed x) (each_formed formed (xs ++ ys)) (first_part (formed x) (each_formed formed xs) e) (formed_append formed xs ys (second_part (formed x) (each_formed formed xs) e) f)

or_second : (b c : Bool) → c ≡ true → (b || c) ≡ true
or_second true c e = refl
or_second false c e = e

or_first : (b c : Bool) → b ≡ true → (b || c) ≡ true
or_first true c e = refl
or_first false c e = absurd (cc)

any_last : {A : Type 0} (holds : A → Bool) (xs : List A) (y : A) → holds y ≡ true → any_of holds (xs ++ y ∷ []) ≡ true
any_last holds [] y e = or_first (holds y) false e
any_last holds (x ∷ xs) y e = or_second (holds x) (any_of holds (xs ++ y ∷ [])) (any_last holds xs y e)

-- the second rule stands only where the flag is not set
good_or : {A : Type 0} {p q : Parser A} {R : A → List Token → Type 0} (top b : Bool) → Good A p R → (top ≡ false → Good A q R) → Good A (cond (top || b) p q) R
good_or true b g h = g
good_or false b g h = good_if b g (h refl)

-- the first rule stands only where the flag is not set
good_unless : {A : Type 0} {p q : Parser A} {R : A → List Token → Type 0} (top b : Bool) → (top ≡ false → Good A p R) → Good A q R → Good A (cond (not top && b) p q) R
good_unless true b g h = h
good_unless false b g h = good_if b (g refl) h

-- the same parser
good_same : (A : Type 0) (p q : Parser A) (R : A → List Token → Type 0) → ((ts : List Token) → p ts ≡ q ts) → Good A q R → Good A p R
good_same A p q R same g = record { found = λ ts x rest e. g.found ts x rest (sym (same ts) ∙ e); stopped = λ ts n e. g.stopped ts n (sym (same ts) ∙ e); some = g.some }

other_same : {A : Type 0} (b : Bool) (o p q : Parser A) (ts : List Token) → p ts ≡ q ts → cond b o p ts ≡ cond b o q ts
other_same true o p q ts e = refl
other_same false o p q ts e = e

-- ---- patterns that are no plain name

abbrev pub formed_fresh : Apat → Bool
formed_fresh x = formed_apat x && not (is_variable (out-Apat x))

abbrev pub formed_fresh_left : LeftPat → Bool
formed_fresh_left x = formed_left_pat x && not (is_plain_left (out-LeftPat x))

abbrev pub formed_fresh_pat : Pat → Bool
formed_fresh_pat x = formed_pat x && not (is_plain_name x)

-- what does not begin with a name is no variable
no_variable : (x : Apat) (k : List Token) → is_small (head (apat_onto x k)) ≡ false → is_variable (out-Apat x) ≡ false
no_variable = apat_cases (λ x. (k : List Token) → is_small (head (apat_onto x k)) ≡ false → is_variable (out-Apat x) ≡ false)
    (λ name k e. let f = ap (λ z. is_small (head z)) (apat_var name k) in absurd (cc))
    (λ name at x k e. is_variable_as name at x)
    (λ at k e. is_variable_wildcard at)
    (λ name k e. is_variable_con name)
    (λ at x k e. is_variable_literal at x)
    (λ open_at close_at k e. is_variable_unit open_at close_at)
    (λ open_at close_at k e. is_variable_nil open_at close_at)
    (λ open_at x close_at k e. is_variable_paren open_at x close_at)
    (λ open_at x rest close_at k e. is_variable_tuple open_at x rest close_at)
    (λ open_at x rest close_at k e. is_variable_list open_at x rest close_at)

no_plain_left : (x : LeftPat) (k : List Token) → is_small (head (left_pat_onto x k)) ≡ false → is_plain_left (out-LeftPat x) ≡ false
no_plain_left = left_pat_cases (λ x. (k : List Token) → is_small (head (left_pat_onto x k)) ≡ false → is_plain_left (out-LeftPat x) ≡ false)
    (λ x k e. is_plain_left_plain x ∙ no_variable x k (ap (λ z. is_small (head z)) (sym (left_pat_plain x k)) ∙ e))
    (λ name first rest k e. is_plain_left_applied name first rest)
    (λ at number_at number k e. is_plain_left_negative at number_at number)

fresh_by : (x : Apat) (c : Token) (w : List Token) → is_small (Some c) ≡ false → Spells Apat apat_onto formed_apat x (c ∷ w) → Spells Apat apat_onto formed_fresh x (c ∷ w)
fresh_by x c w e h = record { spelled = h.spelled; sound = both _ _ h.sound (ap not (no_variable x [] (ap (λ z. is_small (head z)) (h.spelled []) ∙ e))) }

fresh_left_by : (x : LeftPat) (c : Token) (w : List Token) → is_small (Some c) ≡ false → Spells LeftPat left_pat_onto formed_left_pat x (c ∷ w) → Spells LeftPat left_pat_onto formed_fresh_left x (c ∷ w)
fresh_left_by x c w e h = record { spelled = h.spelled; sound = both _ _ h.sound (ap not (no_plain_left x [] (ap (λ z. is_small (head z)) (h.spelled []) ∙ e))) }

apat_of_fresh : (x : Apat) (w : List Token) → Spells Apat apat_onto formed_fresh x w → Spells Apat apat_onto formed_apat x w
apat_of_fresh x w h = record { spelled = h.spelled; sound = first_part (formed_apat x) (not (is_variable (out-Apat x))) h.sound }

left_of_apat : (x : Apat) (w : List Token) → Spells Apat apat_onto formed_apat x w → Spells LeftPat left_pat_onto formed_left_pat (l.Plain x) w
left_of_apat x w h = record { spelled = λ k. left_pat_plain x k ∙ h.spelled k; sound = formed_left_pat_plain x ∙ h.sound }

left_of_fresh : (x : Apat) (w : List Token) → Spells Apat apat_onto formed_fresh x w → Spells LeftPat left_pat_onto formed_fresh_left (l.Plain x) w
left_of_fresh x w h = record {
  spelled = λ k. left_pat_plain x k ∙ h.spelled k;
  sound = both _ _ (formed_left_pat_plain x ∙ first_part (formed_apat x) (not (is_variable (out-Apat x))) h.sound) (ap not (is_plain_left_plain x) ∙ second_part (formed_apat x) (not (is_variable (out-Apat x))) h.sound);
}

-- a first part that is no plain name
no_plain : (x : LeftPat) → formed_fresh_left x ≡ true → is_plain_left (out-LeftPat x) ≡ false
no_plain x e = not_true (is_plain_left (out-LeftPat x)) (second_part (formed_left_pat x) (not (is_plain_left (out-LeftPat x))) e)

-- a name, `:` and more
cons_named : (name : Name) (first : ConsPat) (rest : List ConsPat) (most : ℕ) (w u : List Token) → Spells ConsPat cons_pat_onto formed_cons_pat first w → Grown ConsPat cons_pat_onto formed_cons_pat most (first ∷ []) rest u
    → Spells Pat pat_onto formed_fresh_pat (roll-Pat (record { first = l.Plain (a.Var name); rest = rest })) (small_onto name (w ++ u))
cons_named name first rest most w u h i = subst (λ (z : List ConsPat). Spells Pat pat_onto formed_fresh_pat (roll-Pat (record { first = l.Plain (a.Var name); rest = z })) (small_onto name (w ++ u))) (sym i.grows) (record {
  spelled = λ k. pat_made (l.Plain (a.Var name)) (first ∷ i.more) k ∙ left_pat_plain (a.Var name) (each_onto cons_pat_onto (first ∷ i.more) k) ∙ apat_var name (each_onto cons_pat_onto (first ∷ i.more) k)
      ∙ ap (small_onto name) (h.spelled (each_onto cons_pat_onto i.more k) ∙ ap (λ z. w ++ z) (i.spelled k) ∙ sym (append_assoc w u k));
  sound = both _ _ (formed_pat_made (l.Plain (a.Var name)) (first ∷ i.more) ∙ both _ _ (formed_left_pat_plain (a.Var name) ∙ formed_apat_var name) (both _ _ h.sound i.each)) (ap not (is_plain_name_made (l.Plain (a.Var name)) (first ∷ i.more)));
})

-- ---- declarations

-- whether a declaration is a signature or an equation
abbrev pub is_plain_layer : Decl-F Aexp Alt Decl ListExp Operand Qual Rhs Where Alts Apply ArrowGuard Block CommaExp CommaQual EqualGuard Exp Link NextAlt NextDecl → Bool
is_plain_layer Decl-F.Empty = false
is_plain_layer (Decl-F.Signature first rest at part) = true
is_plain_layer (Decl-F.Equation left right) = true
is_plain_layer (Decl-F.Binding p right) = false

abbrev pub is_plain_decl : Decl → Bool
is_plain_decl x = is_plain_layer (out-Decl x)

pub is_plain_signature : (first : Var) (rest : List CommaVar) (at : At) (part : TypeExp) → is_plain_decl (d.Signature first rest at part) ≡ true
is_plain_signature first rest at part = ap is_plain_decl (sym (d.rolls-Signature first rest at part)) ∙ ap is_plain_layer (out-roll-Decl (Decl-F.Signature first rest at part))

pub is_plain_equation : (left : Head) (right : Rhs) → is_plain_decl (d.Equation left right) ≡ true
is_plain_equation left right = ap is_plain_decl (sym (d.rolls-Equation left right)) ∙ ap is_plain_layer (out-roll-Decl (Decl-F.Equation left right))

-- w is the spelling of a declaration that is formed; at top level it is a signature or an equation
pub record Stated (top : Bool) (x : Decl) (w : List Token) : Type 0 where
  pub spells : Spells Decl decl_onto formed_decl x w
  pub plain : top ≡ true → is_plain_decl x ≡ true

stated_below : (top : Bool) (x : Decl) (w : List Token) → top ≡ false → Spells Decl decl_onto formed_decl x w → Stated top x w
stated_below top x w e h = record { spells = h; plain = λ f. absurd (cc) }

stated_equation : {w : List Token} (top : Bool) (left : Head) (right : Rhs) → ((k : List Token) → head_onto left (rhs_onto right k) ≡ w ++ k) → formed_head left ≡ true → formed_rhs right ≡ true → Stated top (d.Equation left right) w
stated_equation {w} top left right h e f = record {
  spells = record { spelled = λ k. decl_equation left right k ∙ h k; sound = formed_decl_equation left right ∙ both _ _ e f };
  plain = λ _. is_plain_equation left right;
}

-- an alternative that is not empty
abbrev pub formed_filled : Alt → Bool
formed_filled x = formed_alt x && filled_alt x

some_fresh : Some_of Apat (Spells Apat apat_onto formed_fresh)
some_fresh = record {
  value = a.Wildcard some_at;
  word = key_onto some_at key.KUnderscore [];
  is = record { spelled = λ k. apat_wildcard some_at k; sound = both _ _ (formed_apat_wildcard some_at) (ap not (is_variable_wildcard some_at)) };
  regular = refl;
}

-- the rules at one depth, by the parsers of what nests
module _ (turns : ℕ) (inner : Inner) (g : GoodInner inner) where
  pub good_local : Good Where (local turns inner) (Spells Where where_onto formed_where)
  unfolding local
  good_local = good_look (λ c. good_if (is key.KWhere c)
      (good_key key.KWhere (λ at. good_then g.block (λ decls. good_return (wh.Present at decls) (λ w h. record {
        spelled = λ k. let f = h.spelled in simp (where_present, f, append-nil);
        sound = formed_where_present at decls ∙ h.sound;
      }))))
      (good_return wh.Absent (record { spelled = λ k. where_absent k; sound = formed_where_absent })))

  -- alternatives

  pub good_arrow_guard : Good ArrowGuard (arrow_guard turns inner) (Spells ArrowGuard arrow_guard_onto formed_arrow_guard)
  unfolding arrow_guard
  good_arrow_guard = good_key key.KBar (λ bar. good_then (good_whole turns inner g) (λ condition. good_key key.KRightArrow (λ arrow. good_then (good_whole turns inner g) (λ e.
      good_return (roll-ArrowGuard (record { bar = bar; condition = condition; arrow = arrow; exp = e })) (λ we he w h. record {
        spelled = λ k. let f = h.spelled in let s = he.spelled in simp (arrow_guard_made, f, s, append_assoc, append-nil);
        sound = formed_arrow_guard_made bar condition arrow e ∙ both _ _ h.sound he.sound;
      })))))

  pub good_arrow_guards : Good (List ArrowGuard) (arrow_guards turns inner) (Spells (List ArrowGuard) (each_onto arrow_guard_onto) (each_formed formed_arrow_guard))
  good_arrow_guards = good_many arrow_guard_onto formed_arrow_guard (is key.KBar) turns good_arrow_guard

  pub good_arrow_alt : (p : Pat) → Good Alt (arrow_alt turns inner p) (λ x v. (w : List Token) → Spells Pat pat_onto formed_pat p w → Spells Alt alt_onto formed_filled x (w ++ v))
  unfolding arrow_alt
  good_arrow_alt p = good_key key.KRightArrow (λ arrow. good_then (good_whole turns inner g) (λ e. good_then good_local (λ decls. good_return (alternative.Arrow p arrow e decls) (λ wd hd we he w h. record {
    spelled = λ k. let f = h.spelled in let s = he.spelled in let m = hd.spelled in simp (alt_arrow, f, s, m, append_assoc, append-nil);
    sound = both _ _ (formed_alt_arrow p arrow e decls ∙ both _ _ h.sound (both _ _ he.sound hd.sound)) (filled_alt_arrow p arrow e decls);
  }))))

  pub good_guarded_alt : (p : Pat) → Good Alt (guarded_alt turns inner p) (λ x v. (w : List Token) → Spells Pat pat_onto formed_pat p w → Spells Alt alt_onto formed_filled x (w ++ v))
  unfolding guarded_alt
  good_guarded_alt p = good_then good_arrow_guard (λ first. good_then good_arrow_guards (λ rest. good_then good_local (λ decls. good_return (alternative.Guarded p first rest decls) (λ wd hd ws hs wf hf w h. record {
    spelled = λ k. let f = h.spelled in let n = hf.spelled in let s = hs.spelled in let m = hd.spelled in simp (alt_guarded, f, n, s, m, append_assoc, append-nil);
    sound = both _ _ (formed_alt_guarded p first rest decls ∙ both _ _ h.sound (both _ _ hf.sound (both _ _ hs.sound hd.sound))) (filled_alt_guarded p first rest decls);
  }))))

  pub good_filled : Good Alt (filled turns inner) (Spells Alt alt_onto formed_filled)
  unfolding filled
  good_filled = good_then (good_pat turns inner.apat g.apat) (λ p. good_look (λ c. good_if (is key.KBar c) (good_guarded_alt p) (good_arrow_alt p)))

  pub good_alt : Good Alt (alt turns inner) (Spells Alt alt_onto formed_alt)
  unfolding alt
  good_alt = good_look (λ c. good_if (ends_member c) (good_return alternative.Blank (record { spelled = λ k. alt_blank k; sound = formed_alt_blank }))
      (good_as Alt (filled turns inner) (Spells Alt alt_onto formed_filled) (Spells Alt alt_onto formed_alt) good_filled (λ x w h. record { spelled = h.spelled; sound = first_part (formed_alt x) (filled_alt x) h.sound })))

  pub good_next_alt : Good NextAlt (next_alt turns inner) (Spells NextAlt next_alt_onto formed_next_alt)
  unfolding next_alt
  good_next_alt = good_key key.KSemicolon (λ semicolon. good_then good_alt (λ x. good_return (roll-NextAlt (record { semicolon = semicolon; alt = x })) (λ w h. record {
    spelled = λ k. let f = h.spelled in simp (next_alt_made, f, append-nil);
    sound = formed_next_alt_made semicolon x ∙ h.sound;
  })))

  pub good_next_alts : Good (List NextAlt) (next_alts turns inner) (Spells (List NextAlt) (each_onto next_alt_onto) (each_formed formed_next_alt))
  good_next_alts = good_many next_alt_onto formed_next_alt (is key.KSemicolon) turns good_next_alt

  -- what is known of the tokens behind the alternatives
  abbrev Behind_alts : At → Alt → List NextAlt → Alts → List Token → Type 0
  Behind_alts open_at first rest x v = (ws : List Token) → Spells (List NextAlt) (each_onto next_alt_onto) (each_formed formed_next_alt) rest ws
      → (w : List Token) → Spells Alt alt_onto formed_alt first w → Spells Alts alts_onto formed_alts x (key_onto open_at key.KOpenBrace (w ++ (ws ++ v)))

  good_alts_closed : (open_at : At) (first : Alt) (rest : List NextAlt) → (filled_alt first || any_of filled_next_alt rest) ≡ true → Good Alts (alts_closed turns inner open_at first rest) (Behind_alts open_at first rest)
  good_alts_closed open_at first rest e = good_key key.KCloseBrace (λ close_at. good_return (roll-Alts (record { open_at = open_at; first = first; rest = rest; close_at = close_at })) (λ ws hs w h. record {
    spelled = λ k. let f = h.spelled in let s = hs.spelled in simp (alts_made, f, s, append_assoc);
    sound = formed_alts_made open_at first rest close_at ∙ both _ _ h.sound (both _ _ hs.sound e);
  }))

  -- an alternative that is not empty, behind its semicolon
  abbrev another : NextAlt
  another = roll-NextAlt (record { semicolon = some_at; alt = good_filled.some.value })

  some_alts : (open_at : At) (first : Alt) (rest : List NextAlt) → Some_of Alts (Behind_alts open_at first rest)
  some_alts open_at first rest = let i = good_filled.some.is in record {
    value = roll-Alts (record { open_at = open_at; first = first; rest = rest ++ another ∷ []; close_at = some_at });
    word = key_onto some_at key.KSemicolon (good_filled.some.word ++ key_onto some_at key.KCloseBrace []);
    is = λ ws hs w h. record {
      spelled = λ k. let f = h.spelled in let s = hs.spelled in let n = i.spelled in alts_made open_at first (rest ++ another ∷ []) some_at k ∙ simp (each_append, next_alt_made, f, s, n, append_assoc);
      sound = formed_alts_made open_at first (rest ++ another ∷ []) some_at ∙ both _ _ h.sound (both _ _
          (formed_append formed_next_alt rest (another ∷ []) hs.sound (both _ _ (formed_next_alt_made some_at good_filled.some.value ∙ first_part (formed_alt good_filled.some.value) (filled_alt good_filled.some.value) i.sound) refl))
          (or_second (filled_alt first) (any_of filled_next_alt (rest ++ another ∷ [])) (any_last filled_next_alt rest another (filled_next_alt_made some_at good_filled.some.value ∙ second_part (formed_alt good_filled.some.value) (filled_alt good_filled.some.value) i.sound))));
    };
    regular = regular_both good_filled.some.word (key_onto some_at key.KCloseBrace []) good_filled.some.regular refl;
  }

  good_alts_by : (open_at : At) (first : Alt) (rest : List NextAlt) (b : Bool) → (filled_alt first || any_of filled_next_alt rest) ≡ b → Good Alts (cond b (alts_closed turns inner open_at first rest) refuse) (Behind_alts open_at first rest)
  good_alts_by open_at first rest true e = good_alts_closed open_at first rest e
  good_alts_by open_at first rest false e = good_refuse Alts (Behind_alts open_at first rest) (some_alts open_at first rest)

  pub good_alts : Good Alts (alts turns inner) (Spells Alts alts_onto formed_alts)
  unfolding alts
  good_alts = good_key key.KOpenBrace (λ open_at. good_then good_alt (λ first. good_then good_next_alts (λ rest. good_alts_by open_at first rest (filled_alt first || any_of filled_next_alt rest) refl)))

  -- right sides

  pub good_equal_guard : Good EqualGuard (equal_guard turns inner) (Spells EqualGuard equal_guard_onto formed_equal_guard)
  unfolding equal_guard
  good_equal_guard = good_key key.KBar (λ bar. good_then (good_whole turns inner g) (λ condition. good_key key.KEqual (λ equal. good_then (good_whole turns inner g) (λ e.
      good_return (roll-EqualGuard (record { bar = bar; condition = condition; equal = equal; exp = e })) (λ we he w h. record {
        spelled = λ k. let f = h.spelled in let s = he.spelled in simp (equal_guard_made, f, s, append_assoc, append-nil);
        sound = formed_equal_guard_made bar condition equal e ∙ both _ _ h.sound he.sound;
      })))))

  pub good_equal_guards : Good (List EqualGuard) (equal_guards turns inner) (Spells (List EqualGuard) (each_onto equal_guard_onto) (each_formed formed_equal_guard))
  good_equal_guards = good_many equal_guard_onto formed_equal_guard (is key.KBar) turns good_equal_guard

  pub good_equal_rhs : Good Rhs (equal_rhs turns inner) (Spells Rhs rhs_onto formed_rhs)
  unfolding equal_rhs
  good_equal_rhs = good_key key.KEqual (λ equal. good_then (good_whole turns inner g) (λ e. good_then good_local (λ decls. good_return (r.Equal equal e decls) (λ wd hd w h. record {
    spelled = λ k. let f = h.spelled in let m = hd.spelled in simp (rhs_equal, f, m, append_assoc, append-nil);
    sound = formed_rhs_equal equal e decls ∙ both _ _ h.sound hd.sound;
  }))))

  pub good_guards_rhs : Good Rhs (guards_rhs turns inner) (Spells Rhs rhs_onto formed_rhs)
  unfolding guards_rhs
  good_guards_rhs = good_then good_equal_guard (λ first. good_then good_equal_guards (λ rest. good_then good_local (λ decls. good_return (r.Guards first rest decls) (λ wd hd ws hs w h. record {
    spelled = λ k. let f = h.spelled in let s = hs.spelled in let m = hd.spelled in simp (rhs_guards, f, s, m, append_assoc, append-nil);
    sound = formed_rhs_guards first rest decls ∙ both _ _ h.sound (both _ _ hs.sound hd.sound);
  }))))

  pub good_rhs : Good Rhs (rhs turns inner) (Spells Rhs rhs_onto formed_rhs)
  unfolding rhs
  good_rhs = good_look (λ c. good_if (is key.KBar c) good_guards_rhs good_equal_rhs)

  -- signatures and equations

  pub good_comma_var : Good CommaVar (comma_var turns inner) (Spells CommaVar comma_var_onto always)
  unfolding comma_var
  good_comma_var = good_key key.KComma (λ comma. good_then good_var (λ v. good_return (record { comma = comma; var = v }) (λ w h. record { spelled = λ k. let f = h.spelled in simp (f, append-nil); sound = refl })))

  pub good_comma_vars : Good (List CommaVar) (comma_vars turns inner) (Spells (List CommaVar) (each_onto comma_var_onto) (each_formed always))
  good_comma_vars = good_many comma_var_onto always (is key.KComma) turns good_comma_var

  pub good_signature : (top : Bool) (first : Var) → Good Decl (signature turns inner first) (λ x v. (w : List Token) → Spells Var var_onto always first w → Stated top x (w ++ v))
  unfolding signature
  good_signature top first = good_then good_comma_vars (λ rest. good_key key.KDoubleColon (λ at. good_then (good_type_exp turns inner.atype g.atype) (λ part. good_return (d.Signature first rest at part) (λ wt ht ws hs w h. record {
    spells = record {
      spelled = λ k. let f = h.spelled in let s = hs.spelled in let m = ht.spelled in simp (decl_signature, f, s, m, append_assoc, append-nil);
      sound = formed_decl_signature first rest at part ∙ ht.sound;
    };
    plain = λ _. is_plain_signature first rest at part;
  }))))

  pub good_prefix_decl : (top : Bool) (first : Var) → Good Decl (prefix_decl turns inner first) (λ x v. (w : List Token) → Spells Var var_onto always first w → Stated top x (w ++ v))
  unfolding prefix_decl
  good_prefix_decl top first = good_then (good_apats turns inner.apat g.apat) (λ ps. good_then good_rhs (λ right. good_return (d.Equation (lhs.Prefix first ps) right) (λ wr hr ws hs w h.
      stated_equation top (lhs.Prefix first ps) right (λ k. let f = h.spelled in let s = hs.spelled in let m = hr.spelled in simp (f, s, m, append_assoc, append-nil)) hs.sound hr.sound)))

  pub good_var_behind : (top : Bool) (first : Var) → Good Decl (var_behind turns inner first) (λ x v. (w : List Token) → Spells Var var_onto always first w → Stated top x (w ++ v))
  good_var_behind top first = good_look (λ c. good_if (is key.KComma c || is key.KDoubleColon c) (good_signature top first) (good_prefix_decl top first))

  pub good_infix_decl : (top : Bool) (p : Apat) → Good Decl (infix_decl turns inner p) (λ x v. (w : List Token) → Spells Apat apat_onto formed_apat p w → Stated top x (w ++ v))
  unfolding infix_decl
  good_infix_decl top p = good_then good_var_op (λ o. good_then g.apat (λ q. good_then good_rhs (λ right. good_return (d.Equation (lhs.Infix p o q) right) (λ wr hr wq hq wo ho w h.
      stated_equation top (lhs.Infix p o q) right (λ k. let f = h.spelled in let n = ho.spelled in let s = hq.spelled in let m = hr.spelled in simp (f, n, s, m, append_assoc, append-nil)) (both _ _ h.sound hq.sound) hr.sound))))

  -- bindings

  pub good_binding : (p : Pat) → Good Decl (binding turns inner p) (λ x v. (w : List Token) → Spells Pat pat_onto formed_fresh_pat p w → Spells Decl decl_onto formed_decl x (w ++ v))
  good_binding p = good_then good_rhs (λ right. good_return (d.Binding p right) (λ wr hr w h. record {
    spelled = λ k. let f = h.spelled in let m = hr.spelled in simp (decl_binding, f, m, append_assoc, append-nil);
    sound = formed_decl_binding p right ∙ both _ _ (first_part (formed_pat p) (not (is_plain_name p)) h.sound) (both _ _ hr.sound (second_part (formed_pat p) (not (is_plain_name p)) h.sound));
  }))

  good_fresh_behind : (first : LeftPat) → Good Pat (pat_behind turns inner.apat first) (λ x v. (w : List Token) → Spells LeftPat left_pat_onto formed_fresh_left first w → Spells Pat pat_onto formed_fresh_pat x (w ++ v))
  good_fresh_behind first = good_then (good_cons_pats turns inner.apat g.apat) (λ rest. good_return (roll-Pat (record { first = first; rest = rest })) (λ ws hs w h. record {
    spelled = λ k. let f = h.spelled in let s = hs.spelled in simp (pat_made, f, s, append_assoc, append-nil);
    sound = both _ _ (formed_pat_made first rest ∙ both _ _ (first_part (formed_left_pat first) (not (is_plain_left (out-LeftPat first))) h.sound) hs.sound)
        (ap not (is_plain_name_made first rest ∙ not_both (is_alone rest) (is_plain_left (out-LeftPat first)) (no_plain first h.sound)));
  }))

  pub good_left_behind : (first : LeftPat) → Good Decl (left_behind turns inner first) (λ x v. (w : List Token) → Spells LeftPat left_pat_onto formed_fresh_left first w → Spells Decl decl_onto formed_decl x (w ++ v))
  unfolding left_behind
  good_left_behind first = good_then (good_fresh_behind first) (λ p. good_as Decl (binding turns inner p) (λ x v. (w : List Token) → Spells Pat pat_onto formed_fresh_pat p w → Spells Decl decl_onto formed_decl x (w ++ v))
      (λ x v. (u : List Token) → ((w : List Token) → Spells LeftPat left_pat_onto formed_fresh_left first w → Spells Pat pat_onto formed_fresh_pat p (w ++ u)) → (w : List Token) → Spells LeftPat left_pat_onto formed_fresh_left first w → Spells Decl decl_onto formed_decl x (w ++ (u ++ v)))
      (good_binding p) (λ x v f u i w h. subst (Spells Decl decl_onto formed_decl x) (append_assoc w u v) (f (w ++ u) (i w h))))

  pub good_apat_behind : (top : Bool) (x : Apat) → Good Decl (apat_behind turns inner top x) (λ y v. (w : List Token) → Spells Apat apat_onto formed_fresh x w → Stated top y (w ++ v))
  good_apat_behind top x = good_look (λ c. good_or top (starts_var_op c)
      (good_as Decl (infix_decl turns inner x) (λ y v. (w : List Token) → Spells Apat apat_onto formed_apat x w → Stated top y (w ++ v)) (λ y v. (w : List Token) → Spells Apat apat_onto formed_fresh x w → Stated top y (w ++ v))
      (good_infix_decl top x) (λ y v f w h. f w (apat_of_fresh x w h)))
      (λ e. good_as Decl (left_behind turns inner (l.Plain x)) (λ y v. (w : List Token) → Spells LeftPat left_pat_onto formed_fresh_left (l.Plain x) w → Spells Decl decl_onto formed_decl y (w ++ v))
      (λ y v. (w : List Token) → Spells Apat apat_onto formed_fresh x w → Stated top y (w ++ v)) (good_left_behind (l.Plain x)) (λ y v f w h. stated_below top y (w ++ v) e (f w (left_of_fresh x w h)))))

  -- what begins with a name

  pub good_as_decl : (top : Bool) (name : Name) → Good Decl (as_decl turns inner top name) (λ x v. Stated top x (small_onto name v))
  unfolding as_decl
  good_as_decl top name = good_key key.KAt (λ at. good_then g.apat (λ x. good_as Decl (apat_behind turns inner top (a.As name at x)) (λ y v. (w : List Token) → Spells Apat apat_onto formed_fresh (a.As name at x) w → Stated top y (w ++ v))
      (λ y v. (w : List Token) → Spells Apat apat_onto formed_apat x w → Stated top y (small_onto name (key_onto at key.KAt (w ++ v)))) (good_apat_behind top (a.As name at x))
      (λ y v f w h. f (small_onto name (key_onto at key.KAt w)) (record {
        spelled = λ k. let s = h.spelled in simp (apat_as, s);
        sound = both _ _ (formed_apat_as name at x ∙ h.sound) (ap not (is_variable_as name at x));
      }))))

  pub good_cons_decl : (name : Name) → Good Decl (cons_decl turns inner name) (λ x v. Spells Decl decl_onto formed_decl x (small_onto name v))
  unfolding cons_decl
  good_cons_decl name = good_then (good_cons_pat turns inner.apat g.apat) (λ first.
      good_then (good_many_from ConsPat cons_pat_onto formed_cons_pat (is key.KColon) (cons_pat turns inner.apat) (good_cons_pat turns inner.apat g.apat) turns (first ∷ [])) (λ rest.
      good_as Decl (binding turns inner (roll-Pat (record { first = l.Plain (a.Var name); rest = rest }))) (λ x v. (w : List Token) → Spells Pat pat_onto formed_fresh_pat (roll-Pat (record { first = l.Plain (a.Var name); rest = rest })) w → Spells Decl decl_onto formed_decl x (w ++ v))
      (λ x v. (u : List Token) → Grown ConsPat cons_pat_onto formed_cons_pat turns (first ∷ []) rest u → (w : List Token) → Spells ConsPat cons_pat_onto formed_cons_pat first w → Spells Decl decl_onto formed_decl x (small_onto name (w ++ (u ++ v))))
      (good_binding (roll-Pat (record { first = l.Plain (a.Var name); rest = rest })))
      (λ x v f u i w h. subst (λ z. Spells Decl decl_onto formed_decl x (small_onto name z)) (append_assoc w u v) (f (small_onto name (w ++ u)) (cons_named name first rest turns w u h i)))))

  good_named_cons : (top : Bool) (name : Name) → top ≡ false → Good Decl (cons_decl turns inner name) (λ x v. Stated top x (small_onto name v))
  good_named_cons top name e = good_as Decl (cons_decl turns inner name) (λ x v. Spells Decl decl_onto formed_decl x (small_onto name v)) (λ x v. Stated top x (small_onto name v)) (good_cons_decl name) (λ x v h. stated_below top x (small_onto name v) e h)

  good_named_infix : (top : Bool) (name : Name) → Good Decl (infix_decl turns inner (a.Var name)) (λ x v. Stated top x (small_onto name v))
  good_named_infix top name = good_as Decl (infix_decl turns inner (a.Var name)) (λ x v. (w : List Token) → Spells Apat apat_onto formed_apat (a.Var name) w → Stated top x (w ++ v)) (λ x v. Stated top x (small_onto name v))
      (good_infix_decl top (a.Var name)) (λ x v f. f (small_onto name []) (record { spelled = λ k. apat_var name k; sound = formed_apat_var name }))

  good_named_var : (top : Bool) (name : Name) → Good Decl (var_behind turns inner (var.Plain name)) (λ x v. Stated top x (small_onto name v))
  good_named_var top name = good_as Decl (var_behind turns inner (var.Plain name)) (λ x v. (w : List Token) → Spells Var var_onto always (var.Plain name) w → Stated top x (w ++ v)) (λ x v. Stated top x (small_onto name v))
      (good_var_behind top (var.Plain name)) (λ x v f. f (small_onto name []) (record { spelled = λ k. refl; sound = refl }))

  pub good_named_by : (top : Bool) (name : Name) (c : Option Token) → Good Decl (named_by turns inner top name c) (λ x v. Stated top x (small_onto name v))
  good_named_by top name c = good_if (is key.KAt c) (good_as_decl top name) (good_unless top (is key.KColon c) (good_named_cons top name) (good_if (starts_var_op c) (good_named_infix top name) (good_named_var top name)))

  pub good_named : (top : Bool) → Good Decl (named turns inner top) (Stated top)
  unfolding named
  good_named top = good_small (λ name. good_look (good_named_by top name))

  -- what begins with a constructor or a sign

  good_fresh_applied : (name : Name) → Good LeftPat (applied_pat turns inner.apat name) (λ x v. Spells LeftPat left_pat_onto formed_fresh_left x (capital_onto name v))
  good_fresh_applied name = good_as LeftPat (applied_pat turns inner.apat name) (λ x v. Spells LeftPat left_pat_onto formed_left_pat x (capital_onto name v)) (λ x v. Spells LeftPat left_pat_onto formed_fresh_left x (capital_onto name v))
      (good_applied_pat turns inner.apat g.apat name) (λ x v h. fresh_left_by x _ v refl h)

  pub good_applied_behind : (name : Name) → Good Decl (applied_behind turns inner name) (λ x v. Spells Decl decl_onto formed_decl x (capital_onto name v))
  good_applied_behind name = good_then (good_fresh_applied name) (λ first. good_as Decl (left_behind turns inner first) (λ x v. (w : List Token) → Spells LeftPat left_pat_onto formed_fresh_left first w → Spells Decl decl_onto formed_decl x (w ++ v))
      (λ x v. (w : List Token) → Spells LeftPat left_pat_onto formed_fresh_left first (capital_onto name w) → Spells Decl decl_onto formed_decl x (capital_onto name (w ++ v))) (good_left_behind first) (λ x v f w h. f (capital_onto name w) h))

  good_constructed_alone : (top : Bool) (name : Name) → Good Decl (apat_behind turns inner top (a.Con name)) (λ x v. Stated top x (capital_onto name v))
  good_constructed_alone top name = good_as Decl (apat_behind turns inner top (a.Con name)) (λ x v. (w : List Token) → Spells Apat apat_onto formed_fresh (a.Con name) w → Stated top x (w ++ v)) (λ x v. Stated top x (capital_onto name v))
      (good_apat_behind top (a.Con name)) (λ x v f. f (capital_onto name []) (record { spelled = λ k. apat_con name k; sound = both _ _ (formed_apat_con name) (ap not (is_variable_con name)) }))

  pub good_constructed : (top : Bool) → Good Decl (constructed turns inner top) (Stated top)
  unfolding constructed
  good_constructed top = good_capital (λ name. good_look (λ c. good_unless top (starts_apat c)
      (λ e. good_as Decl (applied_behind turns inner name) (λ x v. Spells Decl decl_onto formed_decl x (capital_onto name v)) (λ x v. Stated top x (capital_onto name v)) (good_applied_behind name) (λ x v h. stated_below top x (capital_onto name v) e h))
      (good_constructed_alone top name)))

  good_fresh_negative : Good LeftPat (negative_pat turns inner.apat) (Spells LeftPat left_pat_onto formed_fresh_left)
  unfolding negative_pat
  good_fresh_negative = good_minus (λ at. good_number (λ n. good_return (l.Negative at n.0 n.1) (record {
    spelled = λ k. left_pat_negative at n.0 n.1 k;
    sound = both _ _ (formed_left_pat_negative at n.0 n.1) (ap not (is_plain_left_negative at n.0 n.1));
  })))

  pub good_negative : Good Decl (negative turns inner) (Spells Decl decl_onto formed_decl)
  unfolding negative
  good_negative = good_then good_fresh_negative good_left_behind

  -- what begins with a parenthesis

  pub good_paren_infix : (top : Bool) (open_at : At) (p : Apat) → Good Decl (paren_infix turns inner open_at p) (λ x v. (w : List Token) → Spells Apat apat_onto formed_apat p w → Stated top x (key_onto open_at key.KOpenParen (w ++ v)))
  unfolding paren_infix
  good_paren_infix top open_at p = good_then good_var_op (λ o. good_then g.apat (λ q. good_key key.KCloseParen (λ close_at. good_then g.apat (λ first. good_then (good_apats turns inner.apat g.apat) (λ rest. good_then good_rhs (λ right.
      good_return (d.Equation (lhs.Paren open_at p o q close_at first rest) right) (λ wr hr ws hs wf hf wq hq wo ho w h. stated_equation top (lhs.Paren open_at p o q close_at first rest) right
      (λ k. let f = h.spelled in let n = ho.spelled in let s = hq.spelled in let t = hf.spelled in let u = hs.spelled in let m = hr.spelled in simp (f, n, s, t, u, m, append_assoc, append-nil))
      (both _ _ h.sound (both _ _ hq.sound (both _ _ hf.sound hs.sound))) hr.sound)))))))

  pub good_paren_left : (top : Bool) (open_at : At) (first : LeftPat) → Good Decl (paren_left turns inner top open_at first) (λ x v. (w : List Token) → Spells LeftPat left_pat_onto formed_left_pat first w → Stated top x (key_onto open_at key.KOpenParen (w ++ v)))
  unfolding paren_left
  good_paren_left top open_at first = good_then (good_pat_behind turns inner.apat g.apat first) (λ p. good_then (good_parens_behind turns inner.apat g.apat open_at p) (λ x.
      good_as Decl (apat_behind turns inner top x) (λ y v. (w : List Token) → Spells Apat apat_onto formed_fresh x w → Stated top y (w ++ v))
      (λ y v. (t : List Token) → ((w : List Token) → Spells Pat pat_onto formed_pat p w → Spells Apat apat_onto formed_apat x (key_onto open_at key.KOpenParen (w ++ t)))
      → (u : List Token) → ((w : List Token) → Spells LeftPat left_pat_onto formed_left_pat first w → Spells Pat pat_onto formed_pat p (w ++ u))
      → (w : List Token) → Spells LeftPat left_pat_onto formed_left_pat first w → Stated top y (key_onto open_at key.KOpenParen (w ++ (u ++ (t ++ v)))))
      (good_apat_behind top x)
      (λ y v f t i u j w h. subst (λ z. Stated top y (key_onto open_at key.KOpenParen z)) (append_assoc (w ++ u) t v ∙ append_assoc w u (t ++ v)) (f (key_onto open_at key.KOpenParen ((w ++ u) ++ t)) (fresh_by x _ ((w ++ u) ++ t) refl (i (w ++ u) (j w h)))))))

  pub good_paren_behind : (top : Bool) (open_at : At) (x : Apat) → Good Decl (paren_behind turns inner top open_at x) (λ y v. (w : List Token) → Spells Apat apat_onto formed_apat x w → Stated top y (key_onto open_at key.KOpenParen (w ++ v)))
  good_paren_behind top open_at x = good_look (λ c. good_if (starts_var_op c) (good_paren_infix top open_at x)
      (good_as Decl (paren_left turns inner top open_at (l.Plain x)) (λ y v. (w : List Token) → Spells LeftPat left_pat_onto formed_left_pat (l.Plain x) w → Stated top y (key_onto open_at key.KOpenParen (w ++ v)))
      (λ y v. (w : List Token) → Spells Apat apat_onto formed_apat x w → Stated top y (key_onto open_at key.KOpenParen (w ++ v))) (good_paren_left top open_at (l.Plain x)) (λ y v f w h. f w (left_of_apat x w h))))

  pub good_operator_decl : (top : Bool) (open_at : At) (name : Name) → Good Decl (operator_decl turns inner open_at name) (λ x v. Stated top x (key_onto open_at key.KOpenParen (symbol_onto name v)))
  good_operator_decl top open_at name = good_key key.KCloseParen (λ close_at. good_as Decl (var_behind turns inner (var.Operator open_at name close_at)) (λ x v. (w : List Token) → Spells Var var_onto always (var.Operator open_at name close_at) w → Stated top x (w ++ v))
      (λ x v. Stated top x (key_onto open_at key.KOpenParen (symbol_onto name (key_onto close_at key.KCloseParen v)))) (good_var_behind top (var.Operator open_at name close_at))
      (λ x v f. f (key_onto open_at key.KOpenParen (symbol_onto name (key_onto close_at key.KCloseParen []))) (record { spelled = λ k. refl; sound = refl })))

  pub good_minus_decl : (top : Bool) (open_at : At) (name : Name) → is_minus_text name.text ≡ true → Good Decl (minus_decl turns inner top open_at name) (λ x v. Stated top x (key_onto open_at key.KOpenParen (symbol_onto name v)))
  good_minus_decl top open_at name e = good_number (λ n. good_as Decl (paren_left turns inner top open_at (l.Negative name.at n.0 n.1))
      (λ x v. (w : List Token) → Spells LeftPat left_pat_onto formed_left_pat (l.Negative name.at n.0 n.1) w → Stated top x (key_onto open_at key.KOpenParen (w ++ v)))
      (λ x v. Stated top x (key_onto open_at key.KOpenParen (symbol_onto name (word_onto n.0 (word.Num n.1) v)))) (good_paren_left top open_at (l.Negative name.at n.0 n.1))
      (λ x v f. f (symbol_onto name (word_onto n.0 (word.Num n.1) [])) (record { spelled = λ k. left_pat_negative name.at n.0 n.1 k ∙ minus_name name (word_onto n.0 (word.Num n.1) k) e; sound = formed_left_pat_negative name.at n.0 n.1 })))

  good_signed_decl : (top : Bool) (open_at : At) (name : Name) (b : Bool) → is_minus_text name.text ≡ b → Good Decl (cond b (minus_decl turns inner top open_at name) refuse) (λ x v. Stated top x (key_onto open_at key.KOpenParen (symbol_onto name v)))
  good_signed_decl top open_at name true e = good_minus_decl top open_at name e
  good_signed_decl top open_at name false e = good_refuse Decl (λ x v. Stated top x (key_onto open_at key.KOpenParen (symbol_onto name v))) (good_operator_decl top open_at name).some

  pub good_symbol_by : (top : Bool) (open_at : At) (name : Name) (c : Option Token) → Good Decl (symbol_by turns inner top open_at name c) (λ x v. Stated top x (key_onto open_at key.KOpenParen (symbol_onto name v)))
  good_symbol_by top open_at name c = good_if (is key.KCloseParen c) (good_operator_decl top open_at name) (good_signed_decl top open_at name (is_minus_text name.text) refl)

  pub good_symbol_decl : (top : Bool) (open_at : At) → Good Decl (symbol_decl turns inner top open_at) (λ x v. Stated top x (key_onto open_at key.KOpenParen v))
  unfolding symbol_decl
  good_symbol_decl top open_at = good_symbol (λ name. good_look (good_symbol_by top open_at name))

  pub good_unit_decl : (top : Bool) (open_at : At) → Good Decl (unit_decl turns inner top open_at) (λ x v. Stated top x (key_onto open_at key.KOpenParen v))
  good_unit_decl top open_at = good_key key.KCloseParen (λ close_at. good_as Decl (apat_behind turns inner top (a.Unit open_at close_at)) (λ x v. (w : List Token) → Spells Apat apat_onto formed_fresh (a.Unit open_at close_at) w → Stated top x (w ++ v))
      (λ x v. Stated top x (key_onto open_at key.KOpenParen (key_onto close_at key.KCloseParen v))) (good_apat_behind top (a.Unit open_at close_at))
      (λ x v f. f (key_onto open_at key.KOpenParen (key_onto close_at key.KCloseParen [])) (record { spelled = λ k. apat_unit open_at close_at k; sound = both _ _ (formed_apat_unit open_at close_at) (ap not (is_variable_unit open_at close_at)) })))

  pub good_paren_applied : (top : Bool) (open_at : At) (name : Name) → Good Decl (paren_applied turns inner top open_at name) (λ x v. Stated top x (key_onto open_at key.KOpenParen (capital_onto name v)))
  good_paren_applied top open_at name = good_then (good_applied_pat turns inner.apat g.apat name) (λ first. good_as Decl (paren_left turns inner top open_at first)
      (λ x v. (w : List Token) → Spells LeftPat left_pat_onto formed_left_pat first w → Stated top x (key_onto open_at key.KOpenParen (w ++ v)))
      (λ x v. (w : List Token) → Spells LeftPat left_pat_onto formed_left_pat first (capital_onto name w) → Stated top x (key_onto open_at key.KOpenParen (capital_onto name (w ++ v)))) (good_paren_left top open_at first) (λ x v f w h. f (capital_onto name w) h))

  good_paren_alone : (top : Bool) (open_at : At) (name : Name) → Good Decl (paren_behind turns inner top open_at (a.Con name)) (λ x v. Stated top x (key_onto open_at key.KOpenParen (capital_onto name v)))
  good_paren_alone top open_at name = good_as Decl (paren_behind turns inner top open_at (a.Con name)) (λ x v. (w : List Token) → Spells Apat apat_onto formed_apat (a.Con name) w → Stated top x (key_onto open_at key.KOpenParen (w ++ v)))
      (λ x v. Stated top x (key_onto open_at key.KOpenParen (capital_onto name v))) (good_paren_behind top open_at (a.Con name)) (λ x v f. f (capital_onto name []) (record { spelled = λ k. apat_con name k; sound = formed_apat_con name }))

  pub good_paren_constructed : (top : Bool) (open_at : At) → Good Decl (paren_constructed turns inner top open_at) (λ x v. Stated top x (key_onto open_at key.KOpenParen v))
  unfolding paren_constructed
  good_paren_constructed top open_at = good_capital (λ name. good_look (λ c. good_if (starts_apat c) (good_paren_applied top open_at name) (good_paren_alone top open_at name)))

  pub good_parens_by : (top : Bool) (open_at : At) (c : Option Token) → Good Decl (parens_by turns inner top open_at c) (λ x v. Stated top x (key_onto open_at key.KOpenParen v))
  good_parens_by top open_at c = good_if (is_symbol c) (good_symbol_decl top open_at) (good_if (is key.KCloseParen c) (good_unit_decl top open_at) (good_if (is_capital c) (good_paren_constructed top open_at) (good_then g.apat (good_paren_behind top open_at))))

  pub good_parens : (top : Bool) → Good Decl (parens turns inner top) (Stated top)
  unfolding parens
  good_parens top = good_key key.KOpenParen (λ open_at. good_look (good_parens_by top open_at))

  -- a pattern that does not begin with a name

  abbrev fresh_apat : Parser Apat
  fresh_apat = peek >>= (λ c. cond (is_small c) refuse inner.apat)

  fresh_found : (ts : List Token) (x : Apat) (rest : List Token) (b : Bool) → is_small (head ts) ≡ b → cond b refuse inner.apat ts ≡ Ok (x, rest) → Reads Apat (Spells Apat apat_onto formed_fresh) ts x rest
  fresh_found ts x rest true s e = absurd (cc)
  fresh_found ts x rest false s e = let found = g.apat.found ts x rest e in let i = found.is in record {
    word = found.word;
    splits = found.splits;
    is = record { spelled = i.spelled; sound = both _ _ i.sound (ap not (no_variable x rest (ap (λ z. is_small (head z)) (i.spelled rest ∙ sym found.splits) ∙ s))) };
  }

  fresh_begins : (ts front rest : List Token) (n : ℕ) (x : Apat) (more : List Token) → is_small (head ts) ≡ false → ts ≡ front ++ rest → n ≡ length rest → Spells Apat apat_onto formed_apat x (front ++ more) → all_regular more ≡ true
      → Begins Apat (Spells Apat apat_onto formed_fresh) ts n
  fresh_begins ts [] rest n x more s e h i f = record { front = []; rest = rest; splits = e; left = h; value = some_fresh.value; more = some_fresh.word; is = some_fresh.is; regular = some_fresh.regular }
  fresh_begins ts (c ∷ front) rest n x more s e h i f = record { front = c ∷ front; rest = rest; splits = e; left = h; value = x; more = more; is = fresh_by x c (front ++ more) (ap (λ z. is_small (head z)) (sym e) ∙ s) i; regular = f }

  fresh_stopped : (ts : List Token) (n : ℕ) (b : Bool) → is_small (head ts) ≡ b → cond b refuse inner.apat ts ≡ Err (Syntax n) → Begins Apat (Spells Apat apat_onto formed_fresh) ts n
  fresh_stopped ts n true s e = (good_refuse Apat (Spells Apat apat_onto formed_fresh) some_fresh).stopped ts n e
  fresh_stopped ts n false s e = let stop = g.apat.stopped ts n e in fresh_begins ts stop.front stop.rest n stop.value stop.more s stop.splits stop.left stop.is stop.regular

  good_fresh : Good Apat fresh_apat (Spells Apat apat_onto formed_fresh)
  good_fresh = record { found = λ ts x rest e. fresh_found ts x rest (is_small (head ts)) refl e; stopped = λ ts n e. fresh_stopped ts n (is_small (head ts)) refl e; some = some_fresh }

  -- a declaration that is not empty

  abbrev fresh_decl_by : Bool → Option Token → Parser Decl
  fresh_decl_by top c = cond (is_small c) (named turns inner top) (cond (is key.KOpenParen c) (parens turns inner top) (cond (is_capital c) (constructed turns inner top) (cond (not top && is_minus c) (negative turns inner) (fresh_apat >>= apat_behind turns inner top))))

  fresh_same : (top : Bool) (ts : List Token) (b : Bool) → is_small (head ts) ≡ b
      → cond b (named turns inner top) (cond (is key.KOpenParen (head ts)) (parens turns inner top) (cond (is_capital (head ts)) (constructed turns inner top) (cond (not top && is_minus (head ts)) (negative turns inner) (inner.apat >>= apat_behind turns inner top)))) ts
      ≡ cond b (named turns inner top) (cond (is key.KOpenParen (head ts)) (parens turns inner top) (cond (is_capital (head ts)) (constructed turns inner top) (cond (not top && is_minus (head ts)) (negative turns inner) (fresh_apat >>= apat_behind turns inner top)))) ts
  fresh_same top ts true e = refl
  fresh_same top ts false e = other_same (is key.KOpenParen (head ts)) _ _ _ ts (other_same (is_capital (head ts)) _ _ _ ts (other_same (not top && is_minus (head ts)) _ _ _ ts
      (ap (λ z. and_then (cond z refuse inner.apat ts) (apat_behind turns inner top)) (sym e))))

  good_stated_by : (top : Bool) (c : Option Token) → Good Decl (fresh_decl_by top c) (Stated top)
  good_stated_by top c = good_if (is_small c) (good_named top) (good_if (is key.KOpenParen c) (good_parens top) (good_if (is_capital c) (good_constructed top) (good_unless top (is_minus c)
      (λ e. good_as Decl (negative turns inner) (Spells Decl decl_onto formed_decl) (Stated top) good_negative (λ x w h. stated_below top x w e h))
      (good_then good_fresh (good_apat_behind top)))))

  pub good_stated : (top : Bool) → Good Decl (stated turns inner top) (Stated top)
  unfolding stated
  good_stated top = good_same Decl (peek >>= decl_by turns inner top) (peek >>= fresh_decl_by top) (Stated top) (λ ts. fresh_same top ts (is_small (head ts)) refl) (good_look (good_stated_by top))

  -- blocks

  pub good_decl : Good Decl (decl turns inner) (Spells Decl decl_onto formed_decl)
  unfolding decl
  good_decl = good_look (λ c. good_if (ends_member c) (good_return d.Empty (record { spelled = λ k. decl_empty k; sound = formed_decl_empty }))
      (good_as Decl (stated turns inner false) (Stated false) (Spells Decl decl_onto formed_decl) (good_stated false) (λ x w h. h.spells)))

  pub good_next_decl : Good NextDecl (next_decl turns inner) (Spells NextDecl next_decl_onto formed_next_decl)
  unfolding next_decl
  good_next_decl = good_key key.KSemicolon (λ semicolon. good_then good_decl (λ x. good_return (roll-NextDecl (record { semicolon = semicolon; decl = x })) (λ w h. record {
    spelled = λ k. let f = h.spelled in simp (next_decl_made, f, append-nil);
    sound = formed_next_decl_made semicolon x ∙ h.sound;
  })))

  pub good_next_decls : Good (List NextDecl) (next_decls turns inner) (Spells (List NextDecl) (each_onto next_decl_onto) (each_formed formed_next_decl))
  good_next_decls = good_many next_decl_onto formed_next_decl (is key.KSemicolon) turns good_next_decl

  pub good_block : Good Block (block turns inner) (Spells Block block_onto formed_block)
  unfolding block
  good_block = good_key key.KOpenBrace (λ open_at. good_then good_decl (λ first. good_then good_next_decls (λ rest. good_key key.KCloseBrace (λ close_at. good_return (roll-Block (record { open_at = open_at; first = first; rest = rest; close_at = close_at })) (λ ws hs w h. record {
    spelled = λ k. let f = h.spelled in let s = hs.spelled in simp (block_made, f, s, append_assoc);
    sound = formed_block_made open_at first rest close_at ∙ both _ _ h.sound hs.sound;
  })))))
