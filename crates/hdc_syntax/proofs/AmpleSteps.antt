-- Steps in which no limit comes where the turns and the depth suffice, by the words that they read.
use Rattle.std.proofs.Common.{◌≡◌, ℕ, suc, ◌<◌, ◌≤◌, Bool, true, false, cond, List, [], ◌∷◌, ◌++◌, Option, None, Some, Ok, length, inl, inr, refl, sym, ◌∙◌, ap, subst, arith, length-append, append_assoc}
use Rattle.hdc_base.specs.declared.token.Key.{Key}
use Rattle.hdc_base.specs.declared.token.Key.TheVariants as key
use Rattle.hdc_base.specs.declared.token.Word.TheVariants as word
use Rattle.hdc_base.specs.declared.token.Token.{Token}
use Rattle.hdc_base.specs.declared.place.At.{At}
use Rattle.hdc_tree.specs.declared.name.Name.{Name}
use Rattle.hdc_tree.specs.declared.name.Var.{Var}
use Rattle.hdc_tree.specs.declared.name.Var.TheVariants as v
use Rattle.hdc_tree.specs.declared.name.VarOp.{VarOp}
use Rattle.hdc_tree.specs.declared.name.VarOp.TheVariants as vo
use Rattle.hdc_tree.specs.declared.name.Op.{Op}
use Rattle.hdc_tree.specs.declared.name.Op.TheVariants as o
use Rattle.hdc_tree.specs.NameSpelling.{Puts, each_onto}
use Rattle.hdc_nesting.specs.declared.role.Role.TheVariants as role
use Rattle.hdc_nesting.specs.Roles.{role_of}
use Rattle.hdc_nesting.specs.Nesting.{Levels}
use Rattle.hdc_nesting.specs.Counts.{counts_closed, counts_behind}
use Rattle.hdc_syntax.specs.Parser.{Parser, ◌>>=◌, pure, peek, head, token_by, many_from, at_most_from}
use Rattle.hdc_syntax.specs.Words.{key_at, fixed, is, small_of, small, capital_of, capital, symbol_of, symbol, minus, number, is_capital}
use Rattle.hdc_syntax.specs.Names.{operator_var, var, quoted_var, var_op, quoted_op, op}
use Rattle.hdc_syntax.proofs.Good.{Good, Reads, Spells, Grown, ok_same, bind_ok, bind_err, good_at_most_from}
use Rattle.hdc_syntax.proofs.Steps.{key_is}
use Rattle.hdc_syntax.proofs.Balanced.{Balanced, balanced_free, BalancedWord, word_by, put_each}
use Rattle.hdc_syntax.proofs.Keeping.{keeps_here, keeps_floor, keeps_outer, steps_both, one_word, spelled_balanced}
use Rattle.hdc_syntax.proofs.Ample.{steps, Fits, fits_behind, here, floor, outer, Keeps, Free, free_pure, free_then, free_token, free_look, free_if, free_last, Ample, ample_less, ample_then, ample_token, ample_key, ample_comma, ample_counting, ample_counting_floor, ample_open, ample_open_floor, ample_close, ample_small, ample_capital, ample_symbol, ample_minus, ample_number, ample_many, ample_at_most, nonempty}

-- ---- words

-- the spelling of a list, of which the items are balanced
pub each_word : {A : Type 0} {onto : A → Puts} {free : Bool} → ((x : A) → BalancedWord A onto free x) → (xs : List A) → BalancedWord (List A) (each_onto onto) free xs
each_word known xs = word_by (λ k. refl) (put_each known xs)

-- what a loop reads is balanced where the items are
pub grown_balanced : {A : Type 0} {onto : A → Puts} {formed : A → Bool} {free : Bool} {most : ℕ} {found all : List A} {w : List Token} → ((x : A) → BalancedWord A onto free x) → Grown A onto formed most found all w → Balanced free w
grown_balanced {A} {onto} {formed} {free} {most} {found} {all} {w} known g =
    let b = put_each known g.more in subst (Balanced free) (one_word (each_onto onto) g.more b.word w b.spelled g.spelled) b.balanced

-- ---- one step after another

-- a rule whose last part has no limit
pub ample_last : {A B : Type 0} {p : Parser A} {f : A → Parser B} {most n depth : ℕ} {m : Levels ℕ → ℕ} → Ample A p most n depth m → ((x : A) → Free B (f x)) → Ample B (p >>= f) most n depth m
ample_last {A} {B} {p} {f} g h = record { enough = λ c ts le fits d s l e. elim (bind_err (p ts) f s e) [ inl b ↦ g.enough c ts le fits d s l b | inr b ↦ (h b.0).never b.1 s l b.3 ] }

-- a rule whose first part has no limit
pub ample_first : {A B : Type 0} {p : Parser A} {f : A → Parser B} {most n depth : ℕ} {m : Levels ℕ → ℕ} {R : A → List Token → Type 0}
    → Free A p → Good A p R → ((x : A) (w : List Token) → R x w → Keeps m w) → ((x : A) (w : List Token) → R x w → 0 < length w) → ((x : A) (j : ℕ) → j < n → Ample B (f x) most j depth m) → Ample B (p >>= f) most n depth m
ample_first {A} {B} {p} {f} {most} {n} {depth} {m} g good keeps some h = record {
  enough = λ c ts le fits d s l e. elim (bind_err (p ts) f s e) [
    | inl b ↦ g.never ts s l b
    | inr b ↦
        let r = good.found ts b.0 b.1 b.2 in
        let kept = keeps b.0 r.word r.is c in
        let more = some b.0 r.word r.is in
        (h b.0 (length b.1) (omega (arith, ap length r.splits, length-append r.word b.1))).enough
        (steps c r.word) b.1 (omega (arith)) (fits_behind most c r.word b.1 (subst (Fits most c) r.splits fits)) (omega (arith, kept)) s l b.3
  ];
}

module _ {A B : Type 0} {p : Parser A} {f : A → Parser B} {onto : A → Puts} {formed : A → Bool} {most n depth : ℕ} where
  pub then_here : Ample A p most n depth here → Good A p (Spells A onto formed) → ((x : A) → BalancedWord A onto false x) → ((x : A) → Ample B (f x) most n depth here) → Ample B (p >>= f) most n depth here
  then_here g good known h = ample_then g good (λ x w r. keeps_here (spelled_balanced (known x) r)) h

  pub then_floor : {free : Bool} → Ample A p most n depth floor → Good A p (Spells A onto formed) → ((x : A) → BalancedWord A onto free x) → ((x : A) → Ample B (f x) most n depth floor) → Ample B (p >>= f) most n depth floor
  then_floor g good known h = ample_then g good (λ x w r. keeps_floor (balanced_free (spelled_balanced (known x) r))) h

  pub then_outer : {free : Bool} → Ample A p most n depth outer → Good A p (Spells A onto formed) → ((x : A) → BalancedWord A onto free x) → ((x : A) → Ample B (f x) most n depth outer) → Ample B (p >>= f) most n depth outer
  then_outer g good known h = ample_then g good (λ x w r. keeps_outer (balanced_free (spelled_balanced (known x) r))) h

-- ---- what a parser leaves: behind its words one measure is no less than another before them

abbrev pub Moves : (Levels ℕ → ℕ) → (Levels ℕ → ℕ) → List Token → Type 0
Moves m after w = (c : Levels ℕ) → m c ≤ after (steps c w)

pub record Leads (A : Type 0) (p : Parser A) (m after : Levels ℕ → ℕ) : Type 0 where
  pub behind : (ts : List Token) (x : A) (rest : List Token) → p ts ≡ Ok (x, rest) → Reads A (λ x w. Moves m after w) ts x rest

pub leads_pure : {A : Type 0} {m : Levels ℕ → ℕ} (x : A) → Leads A (pure x) m m
leads_pure {A} {m} x = record { behind = λ ts y rest e. let h = ok_same A (x, ts) (y, rest) e in record { word = []; splits = h.1; is = λ c. omega arith } }

pub leads_look : {A : Type 0} {by : Option Token → Parser A} {m after : Levels ℕ → ℕ} → ((c : Option Token) → Leads A (by c) m after) → Leads A (peek >>= by) m after
leads_look h = record { behind = λ ts x rest e. (h (head ts)).behind ts x rest e }

pub leads_if : {A : Type 0} {p q : Parser A} {m after : Levels ℕ → ℕ} (b : Bool) → Leads A p m after → Leads A q m after → Leads A (cond b p q) m after
leads_if true g h = g
leads_if false g h = h

pub leads_good : {A : Type 0} {p : Parser A} {R : A → List Token → Type 0} {m : Levels ℕ → ℕ} → Good A p R → ((x : A) (w : List Token) → R x w → Keeps m w) → Leads A p m m
leads_good g h = record { behind = λ ts x rest e. let r = g.found ts x rest e in record { word = r.word; splits = r.splits; is = h x r.word r.is } }

pub leads_then : {A B : Type 0} {p : Parser A} {f : A → Parser B} {m mid after : Levels ℕ → ℕ} → Leads A p m mid → ((x : A) → Leads B (f x) mid after) → Leads B (p >>= f) m after
leads_then {A} {B} {p} {f} {m} {mid} {after} g h = record {
  behind = λ ts y rest e.
      let b = bind_ok (p ts) f y rest e in
      let r = g.behind ts b.0 b.1 b.2 in
      let q = (h b.0).behind b.1 y rest b.3 in
      record {
        word = r.word ++ q.word;
        splits = r.splits ∙ ap (λ z. r.word ++ z) q.splits ∙ sym (append_assoc r.word q.word rest);
        is = λ c. let a = r.is c in let b = q.is (steps c r.word) in omega (arith, ap after (steps_both r.word q.word c));
      };
}

closed_moves : (n : ℕ) (around : List ℕ) → outer (record { innermost = n; around = around }) ≤ floor (counts_closed n around)
closed_moves n [] = omega arith
closed_moves n (i ∷ around) = omega arith

close_behind : (k : Key) (a : Option At) (t : Token) (cs : List Token) (at : At) (rest : List Token) → role_of (word.Key k) ≡ role.Closes → key_at k t ≡ a → token_by a t cs ≡ Ok (at, rest) → Reads At (λ x w. Moves outer floor w) (t ∷ cs) at rest
close_behind k (Some x) t cs at rest r some e =
    let h = ok_same At (x, cs) (at, rest) e in
    let closes : role_of t.word ≡ role.Closes = ap (λ z. role_of z.word) (key_is k t x some) ∙ r in
    record { word = t ∷ []; splits = ap (λ z. t ∷ z) h.1; is = λ c. subst (λ z. outer c ≤ floor (counts_behind z c)) (sym closes) (closed_moves c.innermost c.around) }
close_behind k None t cs at rest r some e = absurd (cc)

close_leads : (k : Key) → role_of (word.Key k) ≡ role.Closes → (ts : List Token) (at : At) (rest : List Token) → fixed k ts ≡ Ok (at, rest) → Reads At (λ x w. Moves outer floor w) ts at rest
close_leads k r [] at rest e = absurd (cc)
close_leads k r (t ∷ cs) at rest e = close_behind k (key_at k t) t cs at rest r refl e

-- a closing key
pub leads_close : {B : Type 0} {g : At → Parser B} {after : Levels ℕ → ℕ} (k : Key) → role_of (word.Key k) ≡ role.Closes → ((at : At) → Leads B (g at) floor after) → Leads B (fixed k >>= g) outer after
leads_close k r h = leads_then (record { behind = close_leads k r }) h

-- where a parser leaves another measure, no limit comes behind it by that
pub ample_lead : {A B : Type 0} {p : Parser A} {f : A → Parser B} {most n depth : ℕ} {m after : Levels ℕ → ℕ} → Ample A p most n depth m → Leads A p m after → ((x : A) → Ample B (f x) most n depth after) → Ample B (p >>= f) most n depth m
ample_lead {A} {B} {p} {f} {most} {n} {depth} {m} {after} g w h = record {
  enough = λ c ts le fits d s l e. elim (bind_err (p ts) f s e) [
    | inl b ↦ g.enough c ts le fits d s l b
    | inr b ↦
        let r = w.behind ts b.0 b.1 b.2 in
        let moved = r.is c in
        (h b.0).enough (steps c r.word) b.1 (omega (arith, ap length r.splits, length-append r.word b.1)) (fits_behind most c r.word b.1 (subst (Fits most c) r.splits fits)) (omega (arith, moved)) s l b.3
  ];
}

-- ---- a token, and what follows it

module _ {B : Type 0} {g : At → Parser B} {most n depth : ℕ} (k : Key) where
  pub past_key : {m : Levels ℕ → ℕ} → role_of (word.Key k) ≡ role.Other → ((at : At) → Ample B (g at) most n depth m) → Ample B (fixed k >>= g) most n depth m
  past_key r h = ample_key k r (λ at j l. ample_less (omega arith) (h at))

  pub past_comma : role_of (word.Key k) ≡ role.Separates → ((at : At) → Ample B (g at) most n depth floor) → Ample B (fixed k >>= g) most n depth floor
  past_comma r h = ample_comma k r (λ at j l. ample_less (omega arith) (h at))

  pub past_comma_outer : role_of (word.Key k) ≡ role.Separates → ((at : At) → Ample B (g at) most n depth outer) → Ample B (fixed k >>= g) most n depth outer
  past_comma_outer r h = ample_token (key_at k) g role.Separates (λ t at e. ap (λ z. role_of z.word) (key_is k t at e) ∙ r) most n depth depth outer outer (λ c. omega arith) (λ at j l. ample_less (omega arith) (h at))

  pub past_counting : role_of (word.Key k) ≡ role.Counts → ((at : At) → Ample B (g at) most n depth here) → Ample B (fixed k >>= g) most n (suc depth) here
  past_counting r h = ample_counting k r (λ at j l. ample_less (omega arith) (h at))

  pub past_counting_floor : role_of (word.Key k) ≡ role.Counts → ((at : At) → Ample B (g at) most n depth floor) → Ample B (fixed k >>= g) most n depth floor
  past_counting_floor r h = ample_counting_floor k r (λ at j l. ample_less (omega arith) (h at))

  pub past_open : role_of (word.Key k) ≡ role.Opens → ((at : At) → Ample B (g at) most n depth floor) → Ample B (fixed k >>= g) most n (suc depth) here
  past_open r h = ample_open k r (λ at j l. ample_less (omega arith) (h at))

  pub past_open_floor : role_of (word.Key k) ≡ role.Opens → ((at : At) → Ample B (g at) most n depth outer) → Ample B (fixed k >>= g) most n depth floor
  past_open_floor r h = ample_open_floor k r (λ at j l. ample_less (omega arith) (h at))

  pub past_close : role_of (word.Key k) ≡ role.Closes → ((at : At) → Ample B (g at) most n depth floor) → Ample B (fixed k >>= g) most n depth outer
  past_close r h = ample_close k r (λ at j l. ample_less (omega arith) (h at))

module _ {B : Type 0} {most n depth : ℕ} {m : Levels ℕ → ℕ} where
  pub past_small : {g : Name → Parser B} → ((x : Name) → Ample B (g x) most n depth m) → Ample B (small >>= g) most n depth m
  past_small h = ample_small (λ x j l. ample_less (omega arith) (h x))

  pub past_capital : {g : Name → Parser B} → ((x : Name) → Ample B (g x) most n depth m) → Ample B (capital >>= g) most n depth m
  past_capital h = ample_capital (λ x j l. ample_less (omega arith) (h x))

  pub past_symbol : {g : Name → Parser B} → ((x : Name) → Ample B (g x) most n depth m) → Ample B (symbol >>= g) most n depth m
  past_symbol h = ample_symbol (λ x j l. ample_less (omega arith) (h x))

  pub past_minus : {g : At → Parser B} → ((x : At) → Ample B (g x) most n depth m) → Ample B (minus >>= g) most n depth m
  past_minus h = ample_minus (λ x j l. ample_less (omega arith) (h x))

  pub past_number : {g : At × ℕ → Parser B} → ((x : At × ℕ) → Ample B (g x) most n depth m) → Ample B (number >>= g) most n depth m
  past_number h = ample_number (λ x j l. ample_less (omega arith) (h x))

-- ---- many

module _ {A : Type 0} {p : Parser A} (onto : A → Puts) (formed : A → Bool) (starts : Option Token → Bool) (none : starts None ≡ false) (begins : (x : A) (k : List Token) → starts (head (onto x k)) ≡ true)
    (good : Good A p (Spells A onto formed)) {turns most n depth : ℕ} (lt : n < turns) where
  pub many_here : ((x : A) → BalancedWord A onto false x) → (found : List A) → Ample A p most n depth here → Ample (List A) (many_from starts p turns found) most n depth here
  many_here known found g = ample_many A starts p (Spells A onto formed) most depth here good (λ x w r. keeps_here (spelled_balanced (known x) r)) (nonempty onto formed starts none begins) turns n found lt g

  pub many_floor : {free : Bool} → ((x : A) → BalancedWord A onto free x) → (found : List A) → Ample A p most n depth floor → Ample (List A) (many_from starts p turns found) most n depth floor
  many_floor known found g = ample_many A starts p (Spells A onto formed) most depth floor good (λ x w r. keeps_floor (balanced_free (spelled_balanced (known x) r))) (nonempty onto formed starts none begins) turns n found lt g

-- at most so many, and then nothing with a limit
module _ {A : Type 0} {p : Parser A} (onto : A → Puts) (formed : A → Bool) (starts : Option Token → Bool) (count : ℕ) (found : List A) (good : Good A p (Spells A onto formed)) {free : Bool} (known : (x : A) → BalancedWord A onto free x) where
  pub members_floor : {most n depth : ℕ} → Ample A p most n depth floor → Ample (List A) (at_most_from starts p count found) most n depth floor
  members_floor {most} {n} {depth} g = ample_at_most A starts p (Spells A onto formed) most depth floor good (λ x w r. keeps_floor (balanced_free (spelled_balanced (known x) r))) count n found g

  pub members_outer : {most n depth : ℕ} → Ample A p most n depth outer → Ample (List A) (at_most_from starts p count found) most n depth outer
  members_outer {most} {n} {depth} g = ample_at_most A starts p (Spells A onto formed) most depth outer good (λ x w r. keeps_outer (balanced_free (spelled_balanced (known x) r))) count n found g

  pub members_lead : Leads (List A) (at_most_from starts p count found) outer outer
  members_lead = leads_good (good_at_most_from A onto formed starts p good count found) (λ xs w r. keeps_outer (balanced_free (grown_balanced known r)))

-- ---- variables and operators have no limit

pub free_operator_var : Free Var operator_var
unfolding operator_var
free_operator_var = free_last key.KOpenParen (λ open_at. free_then (free_token symbol_of) (λ name. free_last key.KCloseParen (λ close_at. free_pure (v.Operator open_at name close_at))))

pub free_var : Free Var var
unfolding var
free_var = free_look (λ c. free_if (is key.KOpenParen c) free_operator_var (free_then (free_token small_of) (λ name. free_pure (v.Plain name))))

pub free_quoted_var : Free VarOp quoted_var
unfolding quoted_var
free_quoted_var = free_last key.KBackquote (λ open_at. free_then (free_token small_of) (λ name. free_last key.KBackquote (λ close_at. free_pure (vo.Quoted open_at name close_at))))

pub free_var_op : Free VarOp var_op
unfolding var_op
free_var_op = free_look (λ c. free_if (is key.KBackquote c) free_quoted_var (free_then (free_token symbol_of) (λ name. free_pure (vo.Symbol name))))

pub free_quoted_op : Free Op quoted_op
unfolding quoted_op
free_quoted_op = free_last key.KBackquote (λ open_at. free_look (λ c. free_if (is_capital c)
    (free_then (free_token capital_of) (λ name. free_last key.KBackquote (λ close_at. free_pure (o.Con open_at name close_at))))
    (free_then (free_token small_of) (λ name. free_last key.KBackquote (λ close_at. free_pure (o.Var (vo.Quoted open_at name close_at)))))))

pub free_op : Free Op op
unfolding op
free_op = free_look (λ c. free_if (is key.KColon c)
    (free_last key.KColon (λ at. free_pure (o.Cons at)))
    (free_if (is key.KBackquote c) free_quoted_op (free_then (free_token symbol_of) (λ name. free_pure (o.Var (vo.Symbol name))))))
