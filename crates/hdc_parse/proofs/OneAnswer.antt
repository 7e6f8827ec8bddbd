-- Tokens have one answer: a program, a place where no spelling goes on, or a token that nests too deep.
use Rattle.std.proofs.Common.{◌≡◌, ℕ, zero, suc, ◌+◌, ◌<◌, ◌≤◌, ◌⊎◌, List, [], ◌∷◌, ◌++◌, length, take, drop, inl, inr, refl, sym, ◌∙◌, ap, subst, arith, append-nil, append_assoc}
use Rattle.hdc_base.specs.declared.place.At.{At}
use Rattle.hdc_base.specs.declared.token.Token.{Token}
use Rattle.hdc_tree.specs.declared.program.Tree.{Tree}
use Rattle.hdc_parse.specs.Exact.{Begun, Blocked, Fails, place_of, IsParsed, IsSyntax, IsNesting}

-- what begins with more begins with less
begun_less : (v w : List Token) → Begun (v ++ w) → Begun v
begun_less v w b = record { tree = b.tree; more = w ++ b.more; well_formed = b.well_formed; spelled = b.spelled ∙ append_assoc v w b.more }

-- a part up to a place, and one up to a later place
take_more : (ts : List Token) (i j : ℕ) → i ≤ j → (w : List Token) × (take j ts ≡ take i ts ++ w)
take_more ts zero j le = (take j ts, refl)
take_more ts (suc i) zero le = absurd (omega arith)
take_more [] (suc i) (suc j) le = ([], refl)
take_more (t ∷ ts) (suc i) (suc j) le = let h = take_more ts i j (omega arith) in (h.0, ap (λ z. t ∷ z) h.1)

begun_up_to : (ts : List Token) (i j : ℕ) → i ≤ j → Begun (take j ts) → Begun (take i ts)
begun_up_to ts i j le b = let h = take_more ts i j le in begun_less (take i ts) h.0 (subst Begun h.1 b)

-- the tokens up to a place, and those up to the next one
next_token : (ts : List Token) (i : ℕ) → i < length ts → (t : Token) × (rest : List Token) × (drop i ts ≡ t ∷ rest) × (take (suc i) ts ≡ take i ts ++ t ∷ [])
next_token [] i lt = absurd (omega arith)
next_token (t ∷ ts) zero lt = (t, ts, refl, refl)
next_token (t ∷ ts) (suc i) lt = let h = next_token ts i (omega arith) in (h.0, h.1, h.2, ap (λ z. t ∷ z) h.3)

-- no spelling begins with the tokens up to and including the one that is refused
refused_stays : (ts : List Token) (i j : ℕ) → Fails ts i → i < j → i < length ts → Begun (take j ts) → ⊥
refused_stays ts i j f lt within b =
    let n = next_token ts i within in
    let blocked = subst (λ (z : List Token). Blocked (take i ts) z) n.2 f.blocked in
    blocked (subst Begun n.3 (begun_up_to ts (suc i) j (omega arith) b))

fails_least : (ts : List Token) (i j : ℕ) → Fails ts i → Fails ts j → i < j → ⊥
fails_least ts i j f g lt = refused_stays ts i j f lt (omega (arith, g.within)) g.begun

three_ways : (i j : ℕ) → (i < j) ⊎ ((j < i) ⊎ (i ≡ j))
three_ways zero zero = inr (inr refl)
three_ways zero (suc j) = inl (omega arith)
three_ways (suc i) zero = inr (inl (omega arith))
three_ways (suc i) (suc j) = elim (three_ways i j) [
  | inl lt ↦ inl (omega (arith, lt))
  | inr more ↦ elim more [ inl gt ↦ inr (inl (omega (arith, gt))) | inr same ↦ inr (inr (ap suc same)) ]
]

pub fails_once : (ts : List Token) (i j : ℕ) → Fails ts i → Fails ts j → i ≡ j
fails_once ts i j f g = elim (three_ways i j) [
  | inl lt ↦ absurd (fails_least ts i j f g lt)
  | inr more ↦ elim more [ inl gt ↦ absurd (fails_least ts j i g f gt) | inr same ↦ same ]
]

all_taken : (ts : List Token) → take (length ts) ts ≡ ts
all_taken [] = refl
all_taken (t ∷ ts) = ap (λ z. t ∷ z) (all_taken ts)

none_dropped : (ts : List Token) → drop (length ts) ts ≡ []
none_dropped [] = refl
none_dropped (t ∷ ts) = none_dropped ts

pub parsed_no_syntax : (ts : List Token) (end at : At) (tree : Tree) → IsParsed ts tree → IsSyntax ts end at → ⊥
parsed_no_syntax ts end at tree p s = elim (three_ways s.i (length ts)) [
  | inl lt ↦ refused_stays ts s.i (length ts) s.fails lt lt (subst Begun (sym (all_taken ts)) (record { tree = tree; more = []; well_formed = p.well_formed; spelled = p.spelled ∙ sym (append-nil ts) }))
  | inr more ↦ elim more [
    | inl gt ↦ absurd (omega (arith, s.fails.within))
    | inr same ↦
        let fails = subst (λ n. Fails ts n) same s.fails in
        let blocked = subst (λ (z : List Token). Blocked (take (length ts) ts) z) (none_dropped ts) fails.blocked in
        blocked tree p.well_formed (p.spelled ∙ sym (all_taken ts))
  ]
]

pub parsed_no_nesting : (ts : List Token) (end at : At) (tree : Tree) → IsParsed ts tree → IsNesting ts end at → ⊥
parsed_no_nesting ts end at tree p n = let h = p.nests n.i n.first.within in absurd (omega (arith, h, n.first.passes))

pub syntax_once : (ts : List Token) (end a b : At) → IsSyntax ts end a → IsSyntax ts end b → a ≡ b
syntax_once ts end a b s t = s.place ∙ ap (place_of ts end) (fails_once ts s.i t.i s.fails t.fails) ∙ sym t.place

pub nesting_once : (ts : List Token) (end a b : At) → IsNesting ts end a → IsNesting ts end b → a ≡ b
nesting_once ts end a b s t = elim (three_ways s.i t.i) [
  | inl lt ↦ let h = t.first.first s.i lt in absurd (omega (arith, h, s.first.passes))
  | inr more ↦ elim more [
    | inl gt ↦ let h = s.first.first t.i gt in absurd (omega (arith, h, t.first.passes))
    | inr same ↦ s.place ∙ ap (place_of ts end) same ∙ sym t.place
  ]
]

pub syntax_no_nesting : (ts : List Token) (end a b : At) → IsSyntax ts end a → IsNesting ts end b → ⊥
syntax_no_nesting ts end a b s n = elim (three_ways n.i s.i) [
  | inl lt ↦ let h = s.nests n.i lt in absurd (omega (arith, h, n.first.passes))
  | inr more ↦ refused_stays ts s.i (n.i + 1) s.fails (not_more s.i n.i more) (omega (arith, not_more s.i n.i more, n.first.within)) n.begun
]
  where
    not_more : (i j : ℕ) → (i < j) ⊎ (j ≡ i) → i < j + 1
    not_more i j (inl lt) = omega (arith, lt)
    not_more i j (inr same) = omega (arith, same)
