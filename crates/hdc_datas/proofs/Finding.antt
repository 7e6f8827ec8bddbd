-- Synonyms in memory, and renamings.
use Rattle.std.proofs.Common.{◌≡◌, ◌⊎◌, inl, inr, ℕ, zero, suc, ◌-◌, ◌<◌, ◌≤◌, List, [], ◌∷◌, ◌++◌, length, get_or, map, drop, refl, sym, ap, subst, ◌∙◌, append_assoc, append-nil, arith, length-append, get_or-set_same, get_or-set_other}
use Rattle.std.proofs.lemmas.Bool.{cases_lt}
use Rattle.std.proofs.lemmas.List.{length-map, drop_all}
use Rattle.std.proofs.Math.ListN.{set, get_or-append}
use Rattle.std.proofs.Math.Seq.{drop-cons, get_or-append_seam, get_or-append_right}
use Rattle.hdc_resolved.proofs.Mirror.{type_synonym}
use Rattle.hdc_resolved.specs.declared.program.Synonym.{Synonym}
use Rattle.hdc_resolved.specs.declared.type_exp.Type as T
use Rattle.hdc_resolved.specs.declared.type_exp.Type.TheVariants as v
use Rattle.hdc_resolved.specs.Mirror.{types, type_tree_of, synonym_of}
use Rattle.hdc_resolved.specs.Syntax.{SynonymOf, next_type, type_variable}
use Rattle.hdc_value.specs.declared.ty.TypeNode.{TypeNode}
use Rattle.hdc_datas.specs.Expanded.{substituted, flat, each_flat, expanded, flat_at}
use Rattle.hdc_datas.specs.Settled.{meaning_of, EachUnfolds, StandsFor, params_at, variables_from, Renames, AreEnds}
use Rattle.hdc_datas.proofs.Ranks.{meaning_past}
use Rattle.hdc_datas.proofs.Substitution.{substituted_twice}

pub params_here : (ss : List Synonym) (n : ℕ) (x : Synonym) → n < length ss → x ≡ get_or ss n x → x.params ≡ params_at (map synonym_of ss) n
params_here [] n x lt is = absurd (omega (arith, lt))
params_here (s ∷ ss) zero x lt is = ap (λ (z : Synonym). z.params) is
params_here (s ∷ ss) (suc n) x lt is = params_here ss n x (omega (arith, lt)) is

pub params_past : (ss : List Synonym) (n : ℕ) → length ss ≤ n → 0 ≡ params_at (map synonym_of ss) n
params_past [] n ge = refl
params_past (s ∷ ss) zero ge = absurd (omega (arith, ge))
params_past (s ∷ ss) (suc n) ge = params_past ss n (omega (arith, ge))

flat_here : (m : ℕ → List TypeNode) (ss : List Synonym) (n : ℕ) (x : Synonym) → n < length ss → x ≡ get_or ss n x → flat_at m (map synonym_of ss) n ≡ flat m (type_tree_of x.meaning)
flat_here m [] n x lt is = absurd (omega (arith, lt))
flat_here m (s ∷ ss) zero x lt is = ap (λ (z : Synonym). flat m (type_tree_of z.meaning)) (sym is)
flat_here m (s ∷ ss) (suc n) x lt is = flat_here m ss n x (omega (arith, lt)) is

-- what a synonym means is its meaning, expanded
pub meaning_here : (ss : List Synonym) (n : ℕ) (x : Synonym) → EachUnfolds (map synonym_of ss) → n < length ss → x ≡ get_or ss n x → meaning_of (map synonym_of ss) n ≡ expanded (map synonym_of ss) (type_tree_of x.meaning)
meaning_here ss n x each lt is =
    let size = length-map ss synonym_of in
    each n (omega (arith, lt, size)) ∙ flat_here (meaning_of (map synonym_of ss)) ss n x lt is

-- and nothing past the end
pub meaning_none : (ss : List Synonym) (n : ℕ) → length ss ≤ n → meaning_of (map synonym_of ss) n ≡ []
meaning_none ss n ge = let size = length-map ss synonym_of in meaning_past (length (map synonym_of ss)) (map synonym_of ss) n (omega (arith, ge, size))

-- ---- renamings

pub ended : (ss : List SynonymOf) (ends : List ℕ) (n count end : ℕ) → AreEnds ss ends → count ≡ params_at ss n → end ≡ get_or ends n n → StandsFor ss n count (meaning_of ss end)
ended ss ends n count end all counted is = λ xs sized. (all n).means xs (sized ∙ counted) ∙ ap (λ (k : ℕ). substituted xs (meaning_of ss k)) (sym is)

pub renames_itself : (ss : List SynonymOf) (n m : ℕ) → m ≡ n → Renames ss n m
renames_itself ss n m is = record {
  params = ap (params_at ss) (sym is);
  means = λ xs sized. ap (λ (k : ℕ). substituted xs (meaning_of ss k)) (sym is);
}

pub renames_on : (ss : List SynonymOf) (n m k : ℕ) → Renames ss n m → Renames ss m k → Renames ss n k
renames_on ss n m k one other = record {
  params = one.params ∙ other.params;
  means = λ xs sized. one.means xs sized ∙ other.means xs (sized ∙ one.params);
}

-- each number at its own place
pub own_more : (xs : List ℕ) (m : ℕ) → ((n : ℕ) → get_or xs n n ≡ n) → m ≡ length xs → (n : ℕ) → get_or (xs ++ m ∷ []) n n ≡ n
own_more xs m own is n = by (cases_lt n (length xs))
  where
    last : (k : ℕ) → k ≡ n - length xs → length xs ≤ n → get_or (m ∷ []) k n ≡ n
    last zero e ge = omega (arith, e, ge, is)
    last (suc k) e ge = refl

    by : (n < length xs) ⊎ (length xs ≤ n) → get_or (xs ++ m ∷ []) n n ≡ n
    by (inl lt) = get_or-append xs (m ∷ []) n n lt ∙ own n
    by (inr ge) = get_or-append_right xs (m ∷ []) n n ge ∙ last (n - length xs) refl ge

pub own_ends : (ss : List SynonymOf) (ends : List ℕ) → ((n : ℕ) → get_or ends n n ≡ n) → AreEnds ss ends
own_ends ss ends own n = renames_itself ss n (get_or ends n n) (own n)

-- one has the end of the one that it renames
pub end_set : (ss : List SynonymOf) (ends made : List ℕ) (n m end : ℕ) → AreEnds ss ends → Renames ss n m → n < length ends → end ≡ get_or ends m m → made ≡ set ends n end → AreEnds ss made
end_set ss ends made n m end all one lt is put k = subst (λ (z : List ℕ). Renames ss k (get_or z k k)) (sym put) (by (cases_lt k n) (cases_lt n k))
  where
    other : (k ≡ n → ⊥) → Renames ss k (get_or (set ends n end) k k)
    other apart = subst (Renames ss k) (sym (get_or-set_other ends n k end k apart)) (all k)

    here : k ≡ n → Renames ss k (get_or (set ends n end) k k)
    here same =
        subst (λ (z : ℕ). Renames ss z (get_or (set ends n end) z z)) (sym same)
        (subst (Renames ss n) (sym (get_or-set_same ends n end n lt)) (renames_on ss n m end one (subst (Renames ss m) (sym is) (all m))))

    by : (k < n) ⊎ (n ≤ k) → (n < k) ⊎ (k ≤ n) → Renames ss k (get_or (set ends n end) k k)
    by (inl less) more = other (λ e. omega (arith, less, e))
    by (inr ge) (inl less) = other (λ e. omega (arith, less, e))
    by (inr ge) (inr le) = here (omega (arith, ge, le))

-- arguments in place of as many variables, which begin behind other arguments
each_variable : (m : ℕ → List TypeNode) (before xs : List (List TypeNode)) (i : ℕ) → length before ≡ i → map (substituted (before ++ xs)) (each_flat m (variables_from i (length xs))) ≡ xs
each_variable m before [] i size = refl
each_variable m before (y ∷ ys) i size =
    ap (λ z. z ∷ map (substituted (before ++ y ∷ ys)) (each_flat m (variables_from (suc i) (length ys)))) (append-nil (get_or (before ++ y ∷ ys) i []) ∙ ap (λ (z : ℕ). get_or (before ++ y ∷ ys) z []) (sym size) ∙ get_or-append_seam before y ys [])
    ∙ ap (λ z. y ∷ map (substituted z) (each_flat m (variables_from (suc i) (length ys)))) (sym (append_assoc before (y ∷ []) ys))
    ∙ ap (λ z. y ∷ z) (each_variable m (before ++ y ∷ []) ys (suc i) (let l = length-append before (y ∷ []) in omega (arith, l, size)))

-- one whose meaning has another at its root, with its own parameters as arguments
pub renames_by : (ss : List Synonym) (n m : ℕ) (x : Synonym) (root : T.Type) (ts : List T.Type) → EachUnfolds (map synonym_of ss) → n < length ss → x ≡ get_or ss n x → expanded (map synonym_of ss) (type_tree_of root) ≡ expanded (map synonym_of ss) (type_tree_of x.meaning) → root ≡ v.Synonym m ts → types (map type_tree_of ts) ≡ variables_from 0 x.params → params_at (map synonym_of ss) m ≡ x.params → Renames (map synonym_of ss) n m
renames_by ss n m x root ts each lt is rooted meant variables same = record {
  params = sym (params_here ss n x lt is) ∙ sym same;
  means = λ xs sized.
      ap (substituted xs)
      (meaning_here ss n x each lt is
      ∙ sym rooted
      ∙ ap (λ z. expanded (map synonym_of ss) (type_tree_of z)) meant
      ∙ ap (expanded (map synonym_of ss)) (type_synonym m ts)
      ∙ ap (λ z. substituted (each_flat (meaning_of (map synonym_of ss)) z) (meaning_of (map synonym_of ss) m)) variables)
      ∙ substituted_twice xs (each_flat (meaning_of (map synonym_of ss)) (variables_from 0 x.params)) (meaning_of (map synonym_of ss) m)
      ∙ ap (λ z. substituted z (meaning_of (map synonym_of ss) m)) (ap (λ (k : ℕ). map (substituted xs) (each_flat (meaning_of (map synonym_of ss)) (variables_from 0 k))) (params_here ss n x lt is ∙ sym sized) ∙ each_variable (meaning_of (map synonym_of ss)) [] xs 0 refl);
}

-- ---- types that are the parameters, read from the left
abbrev pub AreRead : List T.Type → ℕ → Type 0
AreRead ts i = types (map type_tree_of (drop i ts)) ≡ variables_from i (length ts - i) → types (map type_tree_of ts) ≡ variables_from 0 (length ts)

pub read_none : (ts : List T.Type) → AreRead ts 0
read_none ts is = let all : length ts - 0 ≡ length ts = omega arith in is ∙ ap (variables_from 0) all

pub read_more : (ts : List T.Type) (i k : ℕ) (t : T.Type) → i < length ts → k ≡ suc i → t ≡ get_or ts i t → type_tree_of t ≡ type_variable i → AreRead ts i → AreRead ts k
read_more ts i k t lt is at variable read behind =
    let left : suc (length ts - k) ≡ length ts - i = omega (arith, lt, is) in
    read (ap (λ z. types (map type_tree_of z)) (drop-cons ts i t lt ∙ ap (λ z. z ∷ drop (suc i) ts) (sym at) ∙ ap (λ (z : ℕ). t ∷ drop z ts) (sym is))
    ∙ ap (λ z. next_type z (types (map type_tree_of (drop k ts)))) variable
    ∙ ap (next_type (type_variable i)) (behind ∙ ap (λ (z : ℕ). variables_from z (length ts - k)) is)
    ∙ ap (variables_from i) left)

pub read_all : (ts : List T.Type) (i n : ℕ) → i ≡ length ts → n ≡ length ts → AreRead ts i → types (map type_tree_of ts) ≡ variables_from 0 n
read_all ts i n all size read =
    let left : 0 ≡ length ts - i = omega (arith, all) in
    read (ap (λ z. types (map type_tree_of z)) (drop_all i ts (omega (arith, all))) ∙ ap (variables_from i) left)
    ∙ ap (variables_from 0) (sym size)
