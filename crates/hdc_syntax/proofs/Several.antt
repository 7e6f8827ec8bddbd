-- Lists of items that a rule reads in a row.
use Rattle.std.proofs.Common.{◌≡◌, ℕ, ◌≤◌, Bool, true, List, [], ◌∷◌, ◌++◌, length, Option, sym, ◌∙◌, ap, subst, arith, append_assoc}
use Rattle.std.proofs.lemmas.Bool.Decides.{nat_tests}
use Rattle.hdc_base.specs.declared.token.Token.{Token}
use Rattle.hdc_tree.specs.NameSpelling.{Puts, each_onto}
use Rattle.hdc_tree.specs.Form.{each_formed, few}
use Rattle.hdc_syntax.specs.Parser.{Parser, many_from}
use Rattle.hdc_syntax.proofs.Good.{Good, Spells, Grown, good_as, good_many_from}
use Rattle.hdc_syntax.proofs.Tests.{both}

-- a loop that begins with nothing reads a list of items
pub good_many : {A : Type 0} {p : Parser A} (onto : A → Puts) (formed : A → Bool) (starts : Option Token → Bool) (n : ℕ) → Good A p (Spells A onto formed)
    → Good (List A) (many_from starts p n []) (Spells (List A) (each_onto onto) (each_formed formed))
good_many {A} {p} onto formed starts n g = good_as (List A) (many_from starts p n []) (Grown A onto formed n []) (Spells (List A) (each_onto onto) (each_formed formed)) (good_many_from A onto formed starts p g n [])
    (λ xs w h. subst (λ (z : List A). Spells (List A) (each_onto onto) (each_formed formed) z w) (sym h.grows) (record { spelled = h.spelled; sound = h.each }))

-- one to six items, each of which is formed, spelled in a row
pub record Members (A : Type 0) (onto : A → Puts) (formed : A → Bool) (xs : List A) (w : List Token) : Type 0 where
  pub spelled : (k : List Token) → each_onto onto xs k ≡ w ++ k
  pub each : each_formed formed xs ≡ true
  pub some : few xs ≡ true

few_more : {A : Type 0} (x : A) (xs : List A) → length xs ≤ 5 → few (x ∷ xs) ≡ true
few_more x xs short = grind (arith, nat_tests)

-- one item and at most five more
pub members : {A : Type 0} {onto : A → Puts} {formed : A → Bool} (second : A) (rest : List A) (v w : List Token) → Spells A onto formed second v → Grown A onto formed 5 (second ∷ []) rest w
    → Members A onto formed rest (v ++ w)
members {A} {onto} {formed} second rest v w s g = subst (λ (z : List A). Members A onto formed z (v ++ w)) (sym g.grows) (record {
  spelled = λ k. s.spelled (each_onto onto g.more k) ∙ ap (λ z. v ++ z) (g.spelled k) ∙ sym (append_assoc v w k);
  each = both (formed second) (each_formed formed g.more) s.sound g.each;
  some = few_more second g.more g.short;
})
