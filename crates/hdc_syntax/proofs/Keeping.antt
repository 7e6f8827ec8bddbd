-- Words whose brackets match keep the measures of the nesting.
use Rattle.std.proofs.Common.{◌≡◌, ℕ, ◌+◌, ◌≤◌, Bool, true, false, List, [], ◌∷◌, ◌++◌, refl, sym, ◌∙◌, ap, subst, arith, append-nil, length, sum}
use Rattle.std.proofs.lemmas.List.Sums.{sum_by-cons}
use Rattle.hdc_base.specs.declared.token.Key.{Key}
use Rattle.hdc_base.specs.declared.token.Key.TheVariants as key
use Rattle.hdc_base.specs.declared.token.Word.{Word}
use Rattle.hdc_base.specs.declared.token.Word.TheVariants as word
use Rattle.hdc_base.specs.declared.token.Token.{Token}
use Rattle.hdc_nesting.specs.declared.role.Role.TheVariants as role
use Rattle.hdc_nesting.specs.Roles.{role_of}
use Rattle.hdc_nesting.specs.Nesting.{Levels}
use Rattle.hdc_nesting.specs.Counts.{counts_closed, counts_behind, nesting_of}
use Rattle.hdc_tree.specs.NameSpelling.{Puts}
use Rattle.hdc_syntax.proofs.Good.{Spells}
use Rattle.hdc_syntax.proofs.Balanced.{Role, plain, opens, closes, divides, word_role, Balanced, nothing, plainly, divided, bracketed, balanced_free, BalancedWord}
use Rattle.hdc_syntax.proofs.Ample.{steps, here, floor, outer, Keeps}

-- the counts with more in the innermost
record More (c d : Levels ℕ) : Type 0 where
  more : ℕ
  is : d ≡ record { innermost = c.innermost + more; around = c.around }

-- the counts with whatever in the innermost
record Within (c d : Levels ℕ) : Type 0 where
  count : ℕ
  is : d ≡ record { innermost = count; around = c.around }

no_more : (c : Levels ℕ) → More c c
no_more c = record { more = 0; is = ap (λ n. record { innermost = n; around = c.around }) (omega arith) }

one_more : (c : Levels ℕ) → More c (record { innermost = c.innermost + 1; around = c.around })
one_more c = record { more = 1; is = refl }

plain_more : (w : Word) → word_role w ≡ plain → (c : Levels ℕ) → More c (counts_behind (role_of w) c)
plain_more (word.Var x) e c = no_more c
plain_more (word.Con x) e c = no_more c
plain_more (word.Sym x) e c = no_more c
plain_more (word.Num x) e c = no_more c
plain_more (word.Chr x) e c = no_more c
plain_more (word.Str x) e c = no_more c
plain_more (word.Key key.KCase) e c = one_more c
plain_more (word.Key key.KClass) e c = no_more c
plain_more (word.Key key.KData) e c = no_more c
plain_more (word.Key key.KDefault) e c = no_more c
plain_more (word.Key key.KDeriving) e c = no_more c
plain_more (word.Key key.KDo) e c = no_more c
plain_more (word.Key key.KElse) e c = no_more c
plain_more (word.Key key.KIf) e c = one_more c
plain_more (word.Key key.KImport) e c = no_more c
plain_more (word.Key key.KIn) e c = no_more c
plain_more (word.Key key.KInfix) e c = no_more c
plain_more (word.Key key.KInfixl) e c = no_more c
plain_more (word.Key key.KInfixr) e c = no_more c
plain_more (word.Key key.KInstance) e c = no_more c
plain_more (word.Key key.KLet) e c = one_more c
plain_more (word.Key key.KModule) e c = no_more c
plain_more (word.Key key.KNewtype) e c = no_more c
plain_more (word.Key key.KOf) e c = no_more c
plain_more (word.Key key.KThen) e c = no_more c
plain_more (word.Key key.KType) e c = no_more c
plain_more (word.Key key.KWhere) e c = no_more c
plain_more (word.Key key.KUnderscore) e c = no_more c
plain_more (word.Key key.KDots) e c = no_more c
plain_more (word.Key key.KColon) e c = no_more c
plain_more (word.Key key.KDoubleColon) e c = no_more c
plain_more (word.Key key.KEqual) e c = no_more c
plain_more (word.Key key.KBackslash) e c = one_more c
plain_more (word.Key key.KBar) e c = absurd (cc)
plain_more (word.Key key.KLeftArrow) e c = absurd (cc)
plain_more (word.Key key.KRightArrow) e c = no_more c
plain_more (word.Key key.KAt) e c = one_more c
plain_more (word.Key key.KTilde) e c = no_more c
plain_more (word.Key key.KDoubleArrow) e c = no_more c
plain_more (word.Key key.KOpenParen) e c = absurd (cc)
plain_more (word.Key key.KCloseParen) e c = absurd (cc)
plain_more (word.Key key.KComma) e c = absurd (cc)
plain_more (word.Key key.KSemicolon) e c = absurd (cc)
plain_more (word.Key key.KOpenBracket) e c = absurd (cc)
plain_more (word.Key key.KCloseBracket) e c = absurd (cc)
plain_more (word.Key key.KOpenBrace) e c = absurd (cc)
plain_more (word.Key key.KCloseBrace) e c = absurd (cc)
plain_more (word.Key key.KBackquote) e c = no_more c

divided_within : (w : Word) → word_role w ≡ divides → (c : Levels ℕ) → Within c (counts_behind (role_of w) c)
divided_within (word.Key key.KComma) e c = record { count = 0; is = refl }
divided_within (word.Key key.KSemicolon) e c = record { count = 0; is = refl }
divided_within (word.Key key.KBar) e c = record { count = c.innermost; is = refl }
divided_within (word.Key key.KLeftArrow) e c = record { count = c.innermost; is = refl }
divided_within _ e c = absurd (cc)

opening : (w : Word) → word_role w ≡ opens → role_of w ≡ role.Opens
opening (word.Key key.KOpenParen) e = refl
opening (word.Key key.KOpenBracket) e = refl
opening (word.Key key.KOpenBrace) e = refl
opening _ e = absurd (cc)

closing : (w : Word) → word_role w ≡ closes → role_of w ≡ role.Closes
closing (word.Key key.KCloseParen) e = refl
closing (word.Key key.KCloseBracket) e = refl
closing (word.Key key.KCloseBrace) e = refl
closing _ e = absurd (cc)

pub steps_both : (v w : List Token) (c : Levels ℕ) → steps c (v ++ w) ≡ steps (steps c v) w
steps_both [] w c = refl
steps_both (t ∷ v) w c = steps_both v w (counts_behind (role_of t.word) c)

more_within : {c d e : Levels ℕ} → More c d → Within d e → Within c e
more_within a b = record { count = b.count; is = b.is ∙ ap (λ (z : Levels ℕ). record { innermost = b.count; around = z.around }) a.is }

within_both : {c d e : Levels ℕ} → Within c d → Within d e → Within c e
within_both a b = record { count = b.count; is = b.is ∙ ap (λ (z : Levels ℕ). record { innermost = b.count; around = z.around }) a.is }

more_both : {c d e : Levels ℕ} → More c d → More d e → More c e
more_both {c} {d} {e} a b = record {
  more = a.more + b.more;
  is = b.is ∙ ap (λ (z : Levels ℕ). record { innermost = z.innermost + b.more; around = z.around }) a.is ∙ ap (λ n. record { innermost = n; around = c.around }) (omega arith);
}

-- a bracket leaves the counts as they were
closed : (o t : Token) (v : List Token) (c : Levels ℕ) → role_of o.word ≡ role.Opens → role_of t.word ≡ role.Closes
    → Within (record { innermost = 0; around = c.innermost ∷ c.around }) (steps (record { innermost = 0; around = c.innermost ∷ c.around }) v)
    → counts_behind (role_of t.word) (steps (counts_behind (role_of o.word) c) v) ≡ c
closed o t v c e f w =
    ap (λ r. counts_behind (role_of t.word) (steps (counts_behind r c) v)) e ∙ ap (λ z. counts_behind (role_of t.word) z) w.is ∙ ap (λ r. counts_behind r (record { innermost = w.count; around = c.innermost ∷ c.around })) f

-- behind a balanced word only the innermost count is another
balanced_within : {w : List Token} → Balanced true w → (c : Levels ℕ) → Within c (steps c w)
balanced_within nothing c = record { count = c.innermost; is = refl }
balanced_within (plainly t w r b) c = more_within (plain_more t.word r c) (balanced_within b (counts_behind (role_of t.word) c))
balanced_within (divided t w r b) c = within_both (divided_within t.word r c) (balanced_within b (counts_behind (role_of t.word) c))
balanced_within (bracketed o t v w r s a b) c =
    let inside = balanced_within a (record { innermost = 0; around = c.innermost ∷ c.around }) in
    let back = closed o t v c (opening o.word r) (closing t.word s) inside in
    subst (λ z. Within c z) (sym (steps_both v (t ∷ w) (counts_behind (role_of o.word) c) ∙ ap (λ z. steps z w) back)) (balanced_within b c)

-- and where no token divides outside brackets, it is no less
balanced_more : {w : List Token} → Balanced false w → (c : Levels ℕ) → More c (steps c w)
balanced_more nothing c = no_more c
balanced_more (plainly t w r b) c = more_both (plain_more t.word r c) (balanced_more b (counts_behind (role_of t.word) c))
balanced_more (bracketed o t v w r s a b) c =
    let inside = balanced_within a (record { innermost = 0; around = c.innermost ∷ c.around }) in
    let back = closed o t v c (opening o.word r) (closing t.word s) inside in
    subst (λ z. More c z) (sym (steps_both v (t ∷ w) (counts_behind (role_of o.word) c) ∙ ap (λ z. steps z w) back)) (balanced_more b c)

sum_more : (n : ℕ) (ns : List ℕ) → sum (n ∷ ns) ≡ n + sum ns
sum_more n ns = sum_by-cons (λ (n : ℕ). n) n ns

pub keeps_here : {w : List Token} → Balanced false w → Keeps here w
keeps_here b c = let m = balanced_more b c in omega (arith, ap here m.is, sum_more (c.innermost + m.more) c.around, sum_more c.innermost c.around)

pub keeps_floor : {w : List Token} → Balanced true w → Keeps floor w
keeps_floor b c = let m = balanced_within b c in omega (arith, ap floor m.is)

pub keeps_outer : {w : List Token} → Balanced true w → Keeps outer w
keeps_outer b c = let m = balanced_within b c in omega (arith, ap outer m.is)

-- a word is determined by what it spells
pub one_word : {A : Type 0} (onto : A → Puts) (x : A) (v w : List Token) → ((k : List Token) → onto x k ≡ v ++ k) → ((k : List Token) → onto x k ≡ w ++ k) → v ≡ w
one_word onto x v w f g = sym (append-nil v) ∙ sym (f []) ∙ g [] ∙ append-nil w

pub spelled_balanced : {A : Type 0} {onto : A → Puts} {formed : A → Bool} {free : Bool} {x : A} {w : List Token} → BalancedWord A onto free x → Spells A onto formed x w → Balanced free w
spelled_balanced {A} {onto} {formed} {free} {x} {w} b s = subst (Balanced free) (one_word onto x b.word w b.spelled s.spelled) b.balanced
