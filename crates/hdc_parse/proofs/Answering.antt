-- What the parser of a program answers on a part of the tokens tells the answer for them all.
use Rattle.std.proofs.Common.{◌≡◌, ◌≢◌, ℕ, zero, suc, ◌+◌, ◌-◌, ◌<◌, ◌≤◌, ◌⊎◌, Bool, true, false, cond, List, [], ◌∷◌, ◌++◌, length, take, drop, Ok, Err, inl, inr, refl, sym, ◌∙◌, ap, subst, arith, take-append-drop}
use Rattle.std.specs.List.{take_while}
use Rattle.std.proofs.lemmas.List.Sums.{take_while-cons}
use Rattle.hdc_base.specs.declared.place.At.{At}
use Rattle.hdc_base.specs.declared.token.Token.{Token}
use Rattle.hdc_nesting.specs.Nesting.{nesting, IsFirstPast}
use Rattle.hdc_tree.specs.declared.program.Tree.{Tree}
use Rattle.hdc_tree.specs.ProgramSpelling.{spell}
use Rattle.hdc_tree.specs.ProgramForm.{formed_tree}
use Rattle.hdc_syntax.specs.declared.stop.Stop.{Stop}
use Rattle.hdc_syntax.specs.declared.stop.Stop.TheVariants.{Want, Deep, Syntax}
use Rattle.hdc_syntax.specs.Parser.{Outcome}
use Rattle.hdc_syntax.specs.Regular.{regular, all_regular, regular_count}
use Rattle.hdc_syntax.proofs.Tests.{both}
use Rattle.hdc_parse.specs.ProgramReader.{program}
use Rattle.hdc_parse.specs.Exact.{Begun, Fails, most_nesting, place_of, IsParsed, IsSyntax, IsNesting}
use Rattle.hdc_parse.proofs.Exact as exact
use Rattle.hdc_parse.proofs.ProgramWords.{program_rest}
use Rattle.hdc_parse.proofs.Whole.{good_whole, local_whole, again_whole, ample_whole}
use Rattle.hdc_nesting.specs.Counts.{no_counts}
use Rattle.hdc_parse.proofs.Fitting.{fits_all, first_past_nests, nesting_part}

-- ---- regular tokens

count_by_test : (b : Bool) (t : Token) (ts : List Token) → length (cond b (t ∷ take_while regular ts) []) ≡ cond b (suc (regular_count ts)) 0
count_by_test true t ts = refl
count_by_test false t ts = refl

count_cons : (t : Token) (ts : List Token) → regular_count (t ∷ ts) ≡ cond (regular t) (suc (regular_count ts)) 0
count_cons t ts = ap length (take_while-cons regular t ts) ∙ count_by_test (regular t) t ts

regular_by : (b : Bool) (t : Token) (ts : List Token) (m : ℕ) → regular t ≡ b → suc m ≤ cond b (suc (regular_count ts)) 0 → (m ≤ regular_count ts → all_regular (take m ts) ≡ true) → all_regular (t ∷ take m ts) ≡ true
regular_by true t ts m e le h = both (regular t) (all_regular (take m ts)) e (h (omega arith))
regular_by false t ts m e le h = absurd (omega arith)

-- the tokens before the first that is not regular are regular
pub regular_taken : (ts : List Token) (m : ℕ) → m ≤ regular_count ts → all_regular (take m ts) ≡ true
regular_taken ts zero le = refl
regular_taken [] (suc m) le = refl
regular_taken (t ∷ ts) (suc m) le = regular_by (regular t) t ts m refl (subst (λ n. suc m ≤ n) (count_cons t ts) le) (regular_taken ts m)

record Irregular (ts : List Token) : Type 0 where
  token : Token
  rest : List Token
  behind : drop (regular_count ts) ts ≡ token ∷ rest
  irregular : regular token ≡ false

irregular_by : (b : Bool) (t : Token) (ts : List Token) → regular t ≡ b → cond b (suc (regular_count ts)) 0 < suc (length ts) → (regular_count ts < length ts → Irregular ts) → Irregular (t ∷ ts)
irregular_by true t ts e lt h =
    let i = h (omega arith) in
    record { token = i.token; rest = i.rest; behind = ap (λ n. drop n (t ∷ ts)) (count_cons t ts ∙ ap (λ b. cond b (suc (regular_count ts)) 0) e) ∙ i.behind; irregular = i.irregular }
irregular_by false t ts e lt h = record { token = t; rest = ts; behind = ap (λ n. drop n (t ∷ ts)) (count_cons t ts ∙ ap (λ b. cond b (suc (regular_count ts)) 0) e); irregular = e }

-- behind them stands one that is not
irregular_next : (ts : List Token) → regular_count ts < length ts → Irregular ts
irregular_next [] lt = absurd (omega arith)
irregular_next (t ∷ ts) lt = irregular_by (regular t) t ts refl (subst (λ n. n < suc (length ts)) (count_cons t ts) lt) (irregular_next ts)

count_by_length : (b : Bool) (ts : List Token) → regular_count ts ≤ length ts → cond b (suc (regular_count ts)) 0 ≤ suc (length ts)
count_by_length true ts le = omega (arith, le)
count_by_length false ts le = omega arith

pub count_within : (ts : List Token) → regular_count ts ≤ length ts
count_within [] = omega arith
count_within (t ∷ ts) = subst (λ n. n ≤ suc (length ts)) (sym (count_cons t ts)) (count_by_length (regular t) ts (count_within ts))

length_taken : (ts : List Token) (m : ℕ) → m ≤ length ts → length (take m ts) ≡ m
length_taken ts zero le = refl
length_taken [] (suc m) le = absurd (omega arith)
length_taken (t ∷ ts) (suc m) le = ap suc (length_taken ts m (omega arith))

taken_all : (ts : List Token) → take (length ts) ts ≡ ts
taken_all [] = refl
taken_all (t ∷ ts) = ap (λ z. t ∷ z) (taken_all ts)

-- ---- the answers, for any number of turns

abbrev depth : ℕ
depth = 258

module _ (turns : ℕ) where
  whole : (ts : List Token) (x : Tree) (rest : List Token) → program turns depth ts ≡ Ok (x, rest) → rest ≡ []
  whole ts x rest e = program_rest turns depth ts x rest e

  abbrev known_found : (ts : List Token) (x : Tree) (rest : List Token) → program turns depth ts ≡ Ok (x, rest) → (formed_tree x ≡ true) × (spell x ≡ ts)
  known_found = exact.found (program turns depth) (good_whole turns depth) whole (local_whole turns depth) (again_whole turns depth)

  pub parsed_answer : (ts : List Token) (x : Tree) → regular_count ts ≡ length ts → ((k : ℕ) → k < regular_count ts → nesting ts k ≤ most_nesting) → program turns depth (take (regular_count ts) ts) ≡ Ok (x, []) → IsParsed ts x
  parsed_answer ts x all nests e =
      let same : take (regular_count ts) ts ≡ ts = ap (λ n. take n ts) all ∙ taken_all ts in
      let f = known_found ts x [] (ap (program turns depth) (sym same) ∙ e) in
      record {
        well_formed = record { formed = f.0; regular = ap all_regular f.1 ∙ ap all_regular (sym same) ∙ regular_taken ts (regular_count ts) (omega arith) };
        spelled = f.1;
        nests = λ k lt. nests k (omega (arith, all, lt));
      }

  begun_ok : (ts : List Token) (m : ℕ) (x : Tree) → m ≤ regular_count ts → program turns depth (take m ts) ≡ Ok (x, []) → Begun (take m ts)
  begun_ok ts m x le e = exact.begun_ok (program turns depth) (good_whole turns depth) whole (local_whole turns depth) (again_whole turns depth) (take m ts) x [] (regular_taken ts m le) e

  begun_end : (ts : List Token) (m : ℕ) → m ≤ regular_count ts → program turns depth (take m ts) ≡ Err (Syntax 0) → Begun (take m ts)
  begun_end ts m le e = exact.begun_end (program turns depth) (good_whole turns depth) whole (local_whole turns depth) (again_whole turns depth) (take m ts) (regular_taken ts m le) e

  pub left_within : (ts : List Token) (m n : ℕ) → m ≤ length ts → program turns depth (take m ts) ≡ Err (Syntax n) → n ≤ m
  left_within ts m n le e =
      let h = exact.counted (program turns depth) (good_whole turns depth) whole (local_whole turns depth) (again_whole turns depth) (take m ts) n e in
      omega (arith, h, length_taken ts m le)

  -- a refusal before the end of the part
  pub part_answer : (ts : List Token) (end : At) (m n : ℕ) → m ≤ regular_count ts → 0 < n → ((k : ℕ) → k < m - n → nesting ts k ≤ most_nesting) → program turns depth (take m ts) ≡ Err (Syntax n) → IsSyntax ts end (place_of ts end (m - n))
  part_answer ts end m n le some nests e =
      let long = length_taken ts m (omega (arith, le, count_within ts)) in
      let f = exact.part_fails (program turns depth) (good_whole turns depth) whole (local_whole turns depth) (again_whole turns depth) ts (take m ts) (drop m ts) n (sym (take-append-drop m ts)) (regular_taken ts m le) some e in
      record { i = m - n; fails = subst (λ z. Fails ts (z - n)) long f; nests = nests; place = refl }

  -- the tokens up to the first that is not regular begin a program
  pub irregular_answer : (ts : List Token) (end : At) → regular_count ts ≢ length ts → ((k : ℕ) → k < regular_count ts → nesting ts k ≤ most_nesting) → Begun (take (regular_count ts) ts) → IsSyntax ts end (place_of ts end (regular_count ts))
  irregular_answer ts end short nests b =
      let within = count_within ts in
      let i = irregular_next ts (less (regular_count ts) (length ts) within short) in
      let long = length_taken ts (regular_count ts) within in
      let f = exact.irregular_fails ts (take (regular_count ts) ts) i.token i.rest (sym (take-append-drop (regular_count ts) ts) ∙ ap (λ z. take (regular_count ts) ts ++ z) i.behind) i.irregular b in
      record { i = regular_count ts; fails = subst (λ z. Fails ts z) long f; nests = nests; place = refl }
    where
      less : (m n : ℕ) → m ≤ n → m ≢ n → m < n
      less m n le ne = omega (arith, le, ne)

  pub ok_irregular : (ts : List Token) (end : At) (x : Tree) → regular_count ts ≢ length ts → ((k : ℕ) → k < regular_count ts → nesting ts k ≤ most_nesting) → program turns depth (take (regular_count ts) ts) ≡ Ok (x, []) → IsSyntax ts end (place_of ts end (regular_count ts))
  ok_irregular ts end x short nests e = irregular_answer ts end short nests (begun_ok ts (regular_count ts) x (omega arith) e)

  end_by : (ts : List Token) (end : At) → (regular_count ts ≡ length ts) ⊎ (regular_count ts ≢ length ts) → ((k : ℕ) → k < regular_count ts → nesting ts k ≤ most_nesting) → program turns depth (take (regular_count ts) ts) ≡ Err (Syntax 0) → IsSyntax ts end (place_of ts end (regular_count ts))
  end_by ts end (inl all) nests e =
      let same : take (regular_count ts) ts ≡ ts = ap (λ n. take n ts) all ∙ taken_all ts in
      let f = exact.end_fails (program turns depth) (good_whole turns depth) whole (local_whole turns depth) (again_whole turns depth) ts (ap all_regular (sym same) ∙ regular_taken ts (regular_count ts) (omega arith)) (ap (program turns depth) (sym same) ∙ e) in
      record { i = regular_count ts; fails = subst (λ z. Fails ts z) (sym all) f; nests = nests; place = refl }
  end_by ts end (inr short) nests e = irregular_answer ts end short nests (begun_end ts (regular_count ts) (omega arith) e)

  -- a refusal among the regular tokens, or at their end
  pub syntax_answer : (ts : List Token) (end : At) (n : ℕ) → ((k : ℕ) → k < regular_count ts → nesting ts k ≤ most_nesting) → program turns depth (take (regular_count ts) ts) ≡ Err (Syntax n) → IsSyntax ts end (place_of ts end (regular_count ts - n))
  syntax_answer ts end zero nests e = subst (λ z. IsSyntax ts end (place_of ts end z)) (omega arith) (end_by ts end (same_or_not (regular_count ts) (length ts)) nests e)
    where
      same_or_not : (m n : ℕ) → (m ≡ n) ⊎ (m ≢ n)
      same_or_not zero zero = inl refl
      same_or_not zero (suc n) = inr (λ e. omega (arith, e))
      same_or_not (suc m) zero = inr (λ e. omega (arith, e))
      same_or_not (suc m) (suc n) = elim (same_or_not m n) [ inl e ↦ inl (ap suc e) | inr ne ↦ inr (λ e. ne (omega (arith, e))) ]
  syntax_answer ts end (suc n) nests e = part_answer ts end (regular_count ts) (suc n) (omega arith) (omega arith) (λ k lt. nests k (omega (arith, lt))) e

  -- up to the first token that nests too deep
  nesting_answer : (ts : List Token) (end : At) (i : ℕ) → IsFirstPast most_nesting ts i → Begun (take (i + 1) ts) → IsNesting ts end (place_of ts end i)
  nesting_answer ts end i past b = record { i = i; first = past; begun = b; place = refl }

  pub ok_nested : (ts : List Token) (end : At) (i : ℕ) (x : Tree) → IsFirstPast most_nesting ts i → i < regular_count ts → program turns depth (take (i + 1) ts) ≡ Ok (x, []) → IsNesting ts end (place_of ts end i)
  ok_nested ts end i x past lt e = nesting_answer ts end i past (begun_ok ts (i + 1) x (omega (arith, lt)) e)

  pub end_nested : (ts : List Token) (end : At) (i : ℕ) → IsFirstPast most_nesting ts i → i < regular_count ts → program turns depth (take (i + 1) ts) ≡ Err (Syntax 0) → IsNesting ts end (place_of ts end i)
  end_nested ts end i past lt e = nesting_answer ts end i past (begun_end ts (i + 1) (omega (arith, lt)) e)

  pub part_nested : (ts : List Token) (end : At) (i n : ℕ) → IsFirstPast most_nesting ts i → i < regular_count ts → 0 < n → program turns depth (take (i + 1) ts) ≡ Err (Syntax n) → IsSyntax ts end (place_of ts end (i + 1 - n))
  part_nested ts end i n past lt some e = part_answer ts end (i + 1) n (omega (arith, lt)) some (λ k less. past.first k (omega (arith, less, some))) e

-- ---- the depth suffices

deep_never : (ts : List Token) → ((k : ℕ) → k < length ts → nesting ts k ≤ 257) → program (length ts + 1) depth ts ≡ Err Deep → ⊥
deep_never ts nests e = (ample_whole (length ts + 1) 258 depth (length ts) (omega arith)).enough no_counts ts (omega arith) (fits_all ts 257 nests) (omega arith) Deep tt e

pub regular_never_deep : (ts : List Token) → ((k : ℕ) → k < regular_count ts → nesting ts k ≤ most_nesting) → program (length (take (regular_count ts) ts) + 1) depth (take (regular_count ts) ts) ≡ Err Deep → ⊥
regular_never_deep ts nests e =
    let long = length_taken ts (regular_count ts) (count_within ts) in
    deep_never (take (regular_count ts) ts) (λ k lt. let h = nests k (omega (arith, lt, long)) in let p = nesting_part ts k (regular_count ts) (omega (arith, lt, long)) in omega (arith, h, p)) e

nested_by : (ts : List Token) (i k : ℕ) → IsFirstPast most_nesting ts i → (k < i) ⊎ (k ≡ i) → nesting ts k ≤ 257
nested_by ts i k past (inl lt) = let h = past.first k lt in omega (arith, h)
nested_by ts i k past (inr same) = subst (λ n. nesting ts n ≤ 257) (sym same) (first_past_nests ts most_nesting i past)

before_or_at : (i k : ℕ) → k < i + 1 → (k < i) ⊎ (k ≡ i)
before_or_at zero zero lt = inr refl
before_or_at zero (suc k) lt = absurd (omega arith)
before_or_at (suc i) zero lt = inl (omega arith)
before_or_at (suc i) (suc k) lt = elim (before_or_at i k (omega arith)) [ inl h ↦ inl (omega (arith, h)) | inr e ↦ inr (ap suc e) ]

pub nested_never_deep : (ts : List Token) (i : ℕ) → IsFirstPast most_nesting ts i → program (length (take (i + 1) ts) + 1) depth (take (i + 1) ts) ≡ Err Deep → ⊥
nested_never_deep ts i past e =
    let long = length_taken ts (i + 1) (omega (arith, past.within)) in
    deep_never (take (i + 1) ts) (λ k lt. let h = nested_by ts i k past (before_or_at i k (omega (arith, lt, long))) in let p = nesting_part ts k (i + 1) (omega (arith, lt, long)) in omega (arith, h, p)) e

-- ---- what the code's parser answers

syntax_known : (n : ℕ) → Syntax n ≢ Want
syntax_known n e = cc

pub syntax_read : (o : Outcome Tree) (s : Stop) (n : ℕ) → (s ≢ Want → o ≡ Err s) → s ≡ Syntax n → o ≡ Err (Syntax n)
syntax_read o s n h e = h (λ z. syntax_known n (sym e ∙ z)) ∙ ap (λ z. Err z) e

deep_known : Deep ≢ Want
deep_known e = cc

pub deep_read : (o : Outcome Tree) (s : Stop) → (s ≢ Want → o ≡ Err s) → s ≡ Deep → o ≡ Err Deep
deep_read o s h e = h (λ z. deep_known (sym e ∙ z)) ∙ ap (λ z. Err z) e
