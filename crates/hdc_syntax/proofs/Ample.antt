-- No limit comes where the number of turns is larger than the text is long, and the depth suffices for the nesting.
use Rattle.std.proofs.Common.{◌≡◌, ℕ, zero, suc, ◌+◌, ◌<◌, ◌≤◌, Bool, true, false, cond, nat_le, List, [], ◌∷◌, ◌++◌, Option, Some, None, Result, Ok, Err, length, sum, ◌⊎◌, inl, inr, refl, sym, ◌∙◌, ap, subst, arith, length-append}
use Rattle.std.proofs.lemmas.List.Sums.{sum_by-cons}
use Rattle.hdc_base.specs.declared.token.Key.{Key}
use Rattle.hdc_base.specs.declared.token.Word.TheVariants as word
use Rattle.hdc_base.specs.declared.token.Token.{Token}
use Rattle.hdc_base.specs.declared.place.At.{At}
use Rattle.hdc_tree.specs.declared.name.Name.{Name}
use Rattle.hdc_tree.specs.declared.name.Literal.{Literal}
use Rattle.hdc_tree.specs.declared.name.Literal.TheVariants as lit
use Rattle.hdc_tree.specs.NameSpelling.{Puts, literal_word}
use Rattle.hdc_nesting.specs.declared.role.Role.{Role}
use Rattle.hdc_nesting.specs.declared.role.Role.TheVariants as role
use Rattle.hdc_nesting.specs.Roles.{role_of}
use Rattle.hdc_nesting.specs.Nesting.{Levels}
use Rattle.hdc_nesting.specs.Counts.{counts_closed, counts_behind, nesting_of}
use Rattle.hdc_syntax.specs.declared.stop.Stop.{Stop}
use Rattle.hdc_syntax.specs.declared.stop.Stop.TheVariants.{Want, Deep, Syntax}
use Rattle.hdc_syntax.specs.Parser.{Outcome, Parser, and_then, ◌>>=◌, ◌>>◌, pure, refuse, too_deep, peek, head, token, token_by, either, or_else, further, many_from, at_most_from}
use Rattle.hdc_syntax.specs.Words.{key_at, fixed, small_of, small, capital_of, capital, symbol_of, symbol, minus_of, minus, number_of, number, literal_of, literal}
use Rattle.hdc_syntax.proofs.Good.{Good, Reads, Spells, bind_ok, bind_err}
use Rattle.hdc_syntax.proofs.Meets.{IsLimit}
use Rattle.hdc_syntax.proofs.Steps.{key_is, small_is, capital_is, symbol_is, minus_is, number_is, literal_is}

-- ---- the counts of the open brackets, behind a text

abbrev pub steps : Levels ℕ → List Token → Levels ℕ
steps c [] = c
steps c (t ∷ ts) = steps (counts_behind (role_of t.word) c) ts

-- from these counts on, no token nests deeper than so, nor would one at the end
abbrev pub Fits : ℕ → Levels ℕ → List Token → Type 0
Fits most c [] = nesting_of c ≤ most
Fits most c (t ∷ ts) = (nesting_of c ≤ most) × Fits most (counts_behind (role_of t.word) c) ts

pub fits_here : (most : ℕ) (c : Levels ℕ) (ts : List Token) → Fits most c ts → nesting_of c ≤ most
fits_here most c [] f = f
fits_here most c (t ∷ ts) f = f.0

pub fits_behind : (most : ℕ) (c : Levels ℕ) (w rest : List Token) → Fits most c (w ++ rest) → Fits most (steps c w) rest
fits_behind most c [] rest f = f
fits_behind most c (t ∷ w) rest f = fits_behind most (counts_behind (role_of t.word) c) w rest f.1

-- how deep a place nests: as it stands, behind a `,` or `;`, and behind one when the bracket has closed
abbrev pub here : Levels ℕ → ℕ
here c = nesting_of c

abbrev pub floor : Levels ℕ → ℕ
floor c = length c.around + sum c.around

abbrev pub outer_of : List ℕ → ℕ
outer_of [] = 0
outer_of (n ∷ around) = length around + sum around

abbrev pub outer : Levels ℕ → ℕ
outer c = outer_of c.around

sum_more : (n : ℕ) (ns : List ℕ) → sum (n ∷ ns) ≡ n + sum ns
sum_more n ns = sum_by-cons (λ (n : ℕ). n) n ns

pub floor_here : (c : Levels ℕ) → floor c ≤ here c
floor_here c = omega (arith, sum_more c.innermost c.around)

outer_floor_of : (around : List ℕ) → outer_of around ≤ length around + sum around
outer_floor_of [] = omega arith
outer_floor_of (n ∷ around) = omega (arith, sum_more n around)

pub outer_floor : (c : Levels ℕ) → outer c ≤ floor c
outer_floor c = outer_floor_of c.around

-- ---- what keeps a measure of the nesting

abbrev pub Keeps : (Levels ℕ → ℕ) → List Token → Type 0
Keeps m w = (c : Levels ℕ) → m c ≤ m (steps c w)

-- ---- no limit at all

pub record Free (A : Type 0) (p : Parser A) : Type 0 where
  pub never : (ts : List Token) (s : Stop) → IsLimit s → p ts ≡ Err s → ⊥

pub no_limit : (n : ℕ) (s : Stop) → IsLimit s → Syntax n ≡ s → ⊥
no_limit n Want l e = absurd (cc)
no_limit n Deep l e = absurd (cc)
no_limit n (Syntax m) l e = l

pub free_pure : {A : Type 0} (x : A) → Free A (pure x)
free_pure x = record { never = λ ts s l e. absurd (cc) }

pub free_refuse : {A : Type 0} → Free A refuse
free_refuse = record { never = λ ts s l e. let h : Syntax (length ts) ≡ s = cc in no_limit (length ts) s l h }

pub free_then : {A B : Type 0} {p : Parser A} {f : A → Parser B} → Free A p → ((x : A) → Free B (f x)) → Free B (p >>= f)
free_then {A} {B} {p} {f} g h = record {
  never = λ ts s l e. elim (bind_err (p ts) f s e) [ inl b ↦ g.never ts s l b | inr b ↦ (h b.0).never b.1 s l b.3 ];
}

token_never : {A : Type 0} (o : Option A) (c : Token) (cs : List Token) (s : Stop) → IsLimit s → token_by o c cs ≡ Err s → ⊥
token_never (Some x) c cs s l e = absurd (cc)
token_never None c cs s l e = let h : Syntax (suc (length cs)) ≡ s = cc in no_limit (suc (length cs)) s l h

tokens_never : {A : Type 0} (f : Token → Option A) (ts : List Token) (s : Stop) → IsLimit s → token f ts ≡ Err s → ⊥
tokens_never f [] s l e = let h : Syntax 0 ≡ s = cc in no_limit 0 s l h
tokens_never f (c ∷ cs) s l e = token_never (f c) c cs s l e

pub free_token : {A : Type 0} (f : Token → Option A) → Free A (token f)
free_token f = record { never = tokens_never f }

pub free_look : {A : Type 0} {by : Option Token → Parser A} → ((c : Option Token) → Free A (by c)) → Free A (peek >>= by)
free_look h = record { never = λ ts s l e. (h (head ts)).never ts s l e }

pub free_if : {A : Type 0} {p q : Parser A} (b : Bool) → Free A p → Free A q → Free A (cond b p q)
free_if true g h = g
free_if false g h = h

-- ---- no limit on texts of at most n tokens in which nothing nests deeper than `most`, where the depth is more than
-- what is left of that by a measure of the place

pub record Ample (A : Type 0) (p : Parser A) (most n depth : ℕ) (m : Levels ℕ → ℕ) : Type 0 where
  pub enough : (c : Levels ℕ) (ts : List Token) → length ts ≤ n → Fits most c ts → most < m c + depth → (s : Stop) → IsLimit s → p ts ≡ Err s → ⊥

pub ample_free : {A : Type 0} {p : Parser A} {most n depth : ℕ} {m : Levels ℕ → ℕ} → Free A p → Ample A p most n depth m
ample_free g = record { enough = λ c ts h f d s l e. g.never ts s l e }

pub ample_less : {A : Type 0} {p : Parser A} {most k n depth : ℕ} {m : Levels ℕ → ℕ} → k ≤ n → Ample A p most n depth m → Ample A p most k depth m
ample_less le g = record { enough = λ c ts h f d s l e. g.enough c ts (omega arith) f d s l e }

pub ample_floor : {A : Type 0} {p : Parser A} {most n depth : ℕ} → Ample A p most n depth here → Ample A p most n depth floor
ample_floor g = record { enough = λ c ts h f d s l e. g.enough c ts h f (omega (arith, floor_here c)) s l e }

pub ample_outer : {A : Type 0} {p : Parser A} {most n depth : ℕ} → Ample A p most n depth floor → Ample A p most n depth outer
ample_outer g = record { enough = λ c ts h f d s l e. g.enough c ts h f (omega (arith, outer_floor c)) s l e }

pub ample_none : {A : Type 0} {most n : ℕ} {p : Parser A} → Ample A p most n 0 here
ample_none {A} {most} = record { enough = λ c ts h f d s l e. omega (arith, fits_here most c ts f) }

pub ample_then : {A B : Type 0} {p : Parser A} {f : A → Parser B} {most n depth : ℕ} {m : Levels ℕ → ℕ} {R : A → List Token → Type 0}
    → Ample A p most n depth m → Good A p R → ((x : A) (w : List Token) → R x w → Keeps m w) → ((x : A) → Ample B (f x) most n depth m) → Ample B (p >>= f) most n depth m
ample_then {A} {B} {p} {f} {most} {n} {depth} {m} g w k h = record {
  enough = λ c ts le fits d s l e. elim (bind_err (p ts) f s e) [
    | inl b ↦ g.enough c ts le fits d s l b
    | inr b ↦
        let r = w.found ts b.0 b.1 b.2 in
        let kept = k b.0 r.word r.is c in
        (h b.0).enough (steps c r.word) b.1 (omega (arith, ap length r.splits, length-append r.word b.1)) (fits_behind most c r.word b.1 (subst (Fits most c) r.splits fits)) (omega (arith, kept)) s l b.3
  ];
}

pub ample_look : {A : Type 0} {by : Option Token → Parser A} {most n depth : ℕ} {m : Levels ℕ → ℕ} → ((c : Option Token) → Ample A (by c) most n depth m) → Ample A (peek >>= by) most n depth m
ample_look h = record { enough = λ c ts le f d s l e. (h (head ts)).enough c ts le f d s l e }

pub ample_if : {A : Type 0} {p q : Parser A} {most n depth : ℕ} {m : Levels ℕ → ℕ} (b : Bool) → Ample A p most n depth m → Ample A q most n depth m → Ample A (cond b p q) most n depth m
ample_if true g h = g
ample_if false g h = h

-- ---- a token, and what follows it; its role changes the measure and the depth that suffices

abbrev pub Leaves : Role → ℕ → (Levels ℕ → ℕ) → ℕ → (Levels ℕ → ℕ) → Type 0
Leaves r depth m rest after = (c : Levels ℕ) → m c + depth ≤ after (counts_behind r c) + rest

module _ {A B : Type 0} (f : Token → Option A) (g : A → Parser B) (r : Role) (is : (t : Token) (x : A) → f t ≡ Some x → role_of t.word ≡ r)
    (most n depth rest : ℕ) (m after : Levels ℕ → ℕ) (leaves : Leaves r depth m rest after) (h : (x : A) (k : ℕ) → k < n → Ample B (g x) most k rest after) where
  token_limit : (o : Option A) (t : Token) (cs : List Token) (c : Levels ℕ) → f t ≡ o → length cs < n → Fits most (counts_behind (role_of t.word) c) cs → most < m c + depth
      → (s : Stop) → IsLimit s → and_then (token_by o t cs) g ≡ Err s → ⊥
  token_limit (Some x) t cs c some lt fits d s l e =
      let grows = leaves c in
      (h x (length cs) lt).enough (counts_behind r c) cs (omega arith) (subst (λ z. Fits most (counts_behind z c) cs) (is t x some) fits) (omega (arith, grows)) s l e
  token_limit None t cs c some lt fits d s l e = let z : Syntax (suc (length cs)) ≡ s = cc in no_limit (suc (length cs)) s l z

  token_enough : (c : Levels ℕ) (ts : List Token) → length ts ≤ n → Fits most c ts → most < m c + depth → (s : Stop) → IsLimit s → and_then (token f ts) g ≡ Err s → ⊥
  token_enough c [] le fits d s l e = let z : Syntax 0 ≡ s = cc in no_limit 0 s l z
  token_enough c (t ∷ cs) le fits d s l e = token_limit (f t) t cs c refl (omega arith) fits.1 d s l e

  pub ample_token : Ample B (token f >>= g) most n depth m
  ample_token = record { enough = token_enough }

key_has : (k : Key) (t : Token) (at : At) → key_at k t ≡ Some at → role_of t.word ≡ role_of (word.Key k)
key_has k t at e = ap (λ z. role_of z.word) (key_is k t at e)

closed_leaves : (n : ℕ) (around : List ℕ) (depth : ℕ) → outer_of around + depth ≤ floor (counts_closed n around) + depth
closed_leaves n [] depth = omega arith
closed_leaves n (i ∷ around) depth = omega arith

-- a key
module _ {B : Type 0} {g : At → Parser B} {most n depth : ℕ} (k : Key) where
  pub ample_key : {m : Levels ℕ → ℕ} → role_of (word.Key k) ≡ role.Other → ((at : At) (j : ℕ) → j < n → Ample B (g at) most j depth m) → Ample B (fixed k >>= g) most n depth m
  ample_key {m} r h = ample_token (key_at k) g role.Other (λ t at e. key_has k t at e ∙ r) most n depth depth m m (λ c. omega arith) h

  pub ample_comma : role_of (word.Key k) ≡ role.Separates → ((at : At) (j : ℕ) → j < n → Ample B (g at) most j depth floor) → Ample B (fixed k >>= g) most n depth floor
  ample_comma r h = ample_token (key_at k) g role.Separates (λ t at e. key_has k t at e ∙ r) most n depth depth floor floor (λ c. omega arith) h

  pub ample_counting : role_of (word.Key k) ≡ role.Counts → ((at : At) (j : ℕ) → j < n → Ample B (g at) most j depth here) → Ample B (fixed k >>= g) most n (suc depth) here
  ample_counting r h = ample_token (key_at k) g role.Counts (λ t at e. key_has k t at e ∙ r) most n (suc depth) depth here here (λ c. omega (arith, sum_more (c.innermost + 1) c.around, sum_more c.innermost c.around)) h

  pub ample_counting_floor : role_of (word.Key k) ≡ role.Counts → ((at : At) (j : ℕ) → j < n → Ample B (g at) most j depth floor) → Ample B (fixed k >>= g) most n depth floor
  ample_counting_floor r h = ample_token (key_at k) g role.Counts (λ t at e. key_has k t at e ∙ r) most n depth depth floor floor (λ c. omega arith) h

  pub ample_open : role_of (word.Key k) ≡ role.Opens → ((at : At) (j : ℕ) → j < n → Ample B (g at) most j depth floor) → Ample B (fixed k >>= g) most n (suc depth) here
  ample_open r h = ample_token (key_at k) g role.Opens (λ t at e. key_has k t at e ∙ r) most n (suc depth) depth here floor (λ c. omega arith) h

  pub ample_open_floor : role_of (word.Key k) ≡ role.Opens → ((at : At) (j : ℕ) → j < n → Ample B (g at) most j depth outer) → Ample B (fixed k >>= g) most n depth floor
  ample_open_floor r h = ample_token (key_at k) g role.Opens (λ t at e. key_has k t at e ∙ r) most n depth depth floor outer (λ c. omega arith) h

  pub ample_close : role_of (word.Key k) ≡ role.Closes → ((at : At) (j : ℕ) → j < n → Ample B (g at) most j depth floor) → Ample B (fixed k >>= g) most n depth outer
  ample_close r h = ample_token (key_at k) g role.Closes (λ t at e. key_has k t at e ∙ r) most n depth depth outer floor (λ c. closed_leaves c.innermost c.around depth) h

-- a key with which a rule ends
pub free_last : {B : Type 0} {g : At → Parser B} (k : Key) → ((at : At) → Free B (g at)) → Free B (fixed k >>= g)
free_last k h = free_then (free_token (key_at k)) h

pub ample_small : {B : Type 0} {g : Name → Parser B} {most n depth : ℕ} {m : Levels ℕ → ℕ} → ((x : Name) (j : ℕ) → j < n → Ample B (g x) most j depth m) → Ample B (small >>= g) most n depth m
ample_small {B} {g} {most} {n} {depth} {m} h = ample_token small_of g role.Other (λ t x e. ap (λ z. role_of z.word) (small_is t x e)) most n depth depth m m (λ c. omega arith) h

pub ample_capital : {B : Type 0} {g : Name → Parser B} {most n depth : ℕ} {m : Levels ℕ → ℕ} → ((x : Name) (j : ℕ) → j < n → Ample B (g x) most j depth m) → Ample B (capital >>= g) most n depth m
ample_capital {B} {g} {most} {n} {depth} {m} h = ample_token capital_of g role.Other (λ t x e. ap (λ z. role_of z.word) (capital_is t x e)) most n depth depth m m (λ c. omega arith) h

pub ample_symbol : {B : Type 0} {g : Name → Parser B} {most n depth : ℕ} {m : Levels ℕ → ℕ} → ((x : Name) (j : ℕ) → j < n → Ample B (g x) most j depth m) → Ample B (symbol >>= g) most n depth m
ample_symbol {B} {g} {most} {n} {depth} {m} h = ample_token symbol_of g role.Other (λ t x e. ap (λ z. role_of z.word) (symbol_is t x e)) most n depth depth m m (λ c. omega arith) h

pub ample_minus : {B : Type 0} {g : At → Parser B} {most n depth : ℕ} {m : Levels ℕ → ℕ} → ((x : At) (j : ℕ) → j < n → Ample B (g x) most j depth m) → Ample B (minus >>= g) most n depth m
ample_minus {B} {g} {most} {n} {depth} {m} h = ample_token minus_of g role.Other (λ t x e. ap (λ z. role_of z.word) (minus_is t x e)) most n depth depth m m (λ c. omega arith) h

pub ample_number : {B : Type 0} {g : At × ℕ → Parser B} {most n depth : ℕ} {m : Levels ℕ → ℕ} → ((x : At × ℕ) (j : ℕ) → j < n → Ample B (g x) most j depth m) → Ample B (number >>= g) most n depth m
ample_number {B} {g} {most} {n} {depth} {m} h = ample_token number_of g role.Other (λ t x e. ap (λ z. role_of z.word) (number_is t x e)) most n depth depth m m (λ c. omega arith) h

literal_other : (x : Literal) → role_of (literal_word x) ≡ role.Other
literal_other (lit.Num n) = refl
literal_other (lit.Chr n) = refl
literal_other (lit.Str n) = refl

pub ample_literal : {B : Type 0} {g : At × Literal → Parser B} {most n depth : ℕ} {m : Levels ℕ → ℕ} → ((x : At × Literal) (j : ℕ) → j < n → Ample B (g x) most j depth m) → Ample B (literal >>= g) most n depth m
ample_literal {B} {g} {most} {n} {depth} {m} h = ample_token literal_of g role.Other (λ t x e. ap (λ z. role_of z.word) (literal_is t x e) ∙ literal_other x.1) most n depth depth m m (λ c. omega arith) h

-- ---- a choice

or_limit : {A : Type 0} (a b : Outcome A) (s : Stop) → IsLimit s → or_else a b ≡ Err s → (a ≡ Err s) ⊎ (b ≡ Err s)
or_limit (Ok x) b s l e = absurd (cc)
or_limit (Err Want) b s l e = inl e
or_limit (Err Deep) b s l e = inl e
or_limit (Err (Syntax m)) (Ok y) s l e = absurd (cc)
or_limit (Err (Syntax m)) (Err (Syntax n)) s l e = let z : Syntax (cond (nat_le m n) m n) ≡ s = cc in absurd (no_limit (cond (nat_le m n) m n) s l z)
or_limit (Err (Syntax m)) (Err Want) s l e = inr e
or_limit (Err (Syntax m)) (Err Deep) s l e = inr e

pub ample_either : {A : Type 0} {p q : Parser A} {most n depth : ℕ} {m : Levels ℕ → ℕ} → Ample A p most n depth m → Ample A q most n depth m → Ample A (either p q) most n depth m
ample_either {A} {p} {q} g h = record { enough = λ c ts le f d s l e. elim (or_limit (p ts) (q ts) s l e) [ inl b ↦ g.enough c ts le f d s l b | inr b ↦ h.enough c ts le f d s l b ] }

-- ---- many

pub ample_many : (A : Type 0) (starts : Option Token → Bool) (p : Parser A) (R : A → List Token → Type 0) (most depth : ℕ) (m : Levels ℕ → ℕ) → Good A p R
    → ((x : A) (w : List Token) → R x w → Keeps m w) → ((x : A) (w : List Token) → R x w → 0 < length w)
    → (turns n : ℕ) (found : List A) → n < turns → Ample A p most n depth m → Ample (List A) (many_from starts p turns found) most n depth m
ample_many A starts p R most depth m good keeps some zero n found lt g = absurd (omega arith)
ample_many A starts p R most depth m good keeps some (suc turns) n found lt g = ample_look (λ c. ample_if (starts c) (record {
  enough = λ c ts le fits d s l e. elim (bind_err (p ts) (λ x. many_from starts p turns (found ++ x ∷ [])) s e) [
    | inl b ↦ g.enough c ts le fits d s l b
    | inr b ↦
        let r = good.found ts b.0 b.1 b.2 in
        let kept = keeps b.0 r.word r.is c in
        let more = some b.0 r.word r.is in
        let shorter : length b.1 < n = omega (arith, ap length r.splits, length-append r.word b.1) in
        (ample_many A starts p R most depth m good keeps some turns (length b.1) (found ++ b.0 ∷ []) (omega arith) (ample_less (omega arith) g)).enough
        (steps c r.word) b.1 (omega arith) (fits_behind most c r.word b.1 (subst (Fits most c) r.splits fits)) (omega (arith, kept)) s l b.3
  ];
}) (ample_free (free_pure found)))

pub ample_at_most : (A : Type 0) (starts : Option Token → Bool) (p : Parser A) (R : A → List Token → Type 0) (most depth : ℕ) (m : Levels ℕ → ℕ) → Good A p R
    → ((x : A) (w : List Token) → R x w → Keeps m w)
    → (turns n : ℕ) (found : List A) → Ample A p most n depth m → Ample (List A) (at_most_from starts p turns found) most n depth m
ample_at_most A starts p R most depth m good keeps zero n found g = ample_free (free_pure found)
ample_at_most A starts p R most depth m good keeps (suc turns) n found g = ample_look (λ c. ample_if (starts c)
    (ample_then g good keeps (λ x. ample_at_most A starts p R most depth m good keeps turns n (found ++ x ∷ []) g))
    (ample_free (free_pure found)))

-- no word is empty of what begins with a token
pub nonempty : {A : Type 0} (onto : A → Puts) (formed : A → Bool) (starts : Option Token → Bool) → starts None ≡ false → ((x : A) (k : List Token) → starts (head (onto x k)) ≡ true)
    → (x : A) (w : List Token) → Spells A onto formed x w → 0 < length w
nonempty onto formed starts e h x [] s = let z : starts None ≡ true = subst (λ (y : List Token). starts (head y) ≡ true) (s.spelled []) (h x []) in absurd (cc)
nonempty onto formed starts e h x (c ∷ cs) s = omega arith
