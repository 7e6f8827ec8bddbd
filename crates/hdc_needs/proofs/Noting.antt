-- The values that are noted where a block goes.
use Rattle.std.proofs.Common.{◌≡◌, ℕ, zero, suc, ◌+◌, ◌<◌, ◌⊎◌, inl, inr, Bool, true, false, List, [], ◌∷◌, ◌++◌, length, get_or, Option, Some, None, refl, sym, ap, ◌∙◌, subst, arith}
use Rattle.hdc_base.specs.declared.place.At.{At}
use Rattle.hdc_tree.specs.declared.pattern.Apat.{Apat}
use Rattle.hdc_graph.specs.Needs.{Nodes, Reaches, one, further, AreCyclic}
use Rattle.hdc_written.specs.declared.breach.Breach.{Breach}
use Rattle.hdc_written.specs.declared.breach.Found.{Found}
use Rattle.hdc_written.specs.Breaches.{breach, all_noted, nothing_found, IsOneOf}
use Rattle.hdc_written.specs.Written.{Declarations, no_declaration, declaration}
use Rattle.hdc_written.specs.Mirror.{each_pattern, apat_of}
use Rattle.hdc_written.proofs.FirstBreach.{noted_joined, one_of_left, one_of_right, one_of_either}
use Rattle.hdc_needs.specs.Agrees.{IsGraph, HasFound}
use Rattle.hdc_needs.specs.Binders.{bound_from}
use Rattle.hdc_needs.specs.Needy.{value_at, declaration_at, value_in}
use Rattle.hdc_needs.specs.Uses.{Breaks, OneBreaks}
use Rattle.hdc_needs.specs.Values.{plain_at, needy_value, needy_values, IsCyclic, AreNoted}
use Rattle.hdc_needs.specs.Walk.{Mention, Ended, count_declarations}
use Rattle.hdc_needs.proofs.Linking.{needing_lies}
use Rattle.hdc_needs.proofs.Stepping.{to_steps, from_steps}

-- ---- which values are noted

-- a value at whose number something is set
abbrev IsSetAt : List Bool → ℕ → Declarations → Breach → Type 0
IsSetAt cyclic k ds b = (number : ℕ) × (value_in (declaration_at number ds) ≡ Some b.at) × (b.rule ≡ 11) × (get_or cyclic (k + number) false ≡ true)

one_value : (c : Bool) (v : Option At) (b : Breach) → IsOneOf b (needy_value c v) → (v ≡ Some b.at) × (b.rule ≡ 11) × (c ≡ true)
one_value true None b h = absurd h
one_value false None b h = absurd h
one_value false (Some at) b h = absurd h
one_value true (Some at) b (inl e) = (ap (λ (x : Breach). Some x.at) (sym e), ap (λ (x : Breach). x.rule) e, refl)
one_value true (Some at) b (inr h) = absurd h

value_one : (c : Bool) (v : Option At) (b : Breach) → v ≡ Some b.at → b.rule ≡ 11 → c ≡ true → IsOneOf b (needy_value c v)
value_one c v b e r set =
    subst (λ (w : Option At). IsOneOf b (needy_value c w)) (sym e)
    (subst (λ (d : Bool). IsOneOf b (needy_value d (Some b.at))) (sym set)
    (inl (ap (λ (n : ℕ). breach n b.at) r)))

set_noted : (cyclic : List Bool) (k : ℕ) (ds : Declarations) (b : Breach) → IsOneOf b (needy_values cyclic k ds) → IsSetAt cyclic k ds b
set_noted cyclic k no_declaration b h = absurd h
set_noted cyclic k (declaration d ds) b h = elim (one_of_either b (needy_value (get_or cyclic k false) (value_at d)) (needy_values cyclic (suc k) ds) h) [
  | inl own ↦ (let v = one_value (get_or cyclic k false) (value_at d) b own in let same : k + 0 ≡ k = omega arith in (0, v.0, v.1, ap (λ (n : ℕ). get_or cyclic n false) same ∙ v.2))
  | inr rest ↦ (let r = set_noted cyclic (suc k) ds b rest in let same : k + suc r.0 ≡ suc k + r.0 = omega arith in (suc r.0, r.1, r.2, ap (λ (n : ℕ). get_or cyclic n false) same ∙ r.3))
]

noted_set : (cyclic : List Bool) (number k : ℕ) (ds : Declarations) (b : Breach) → value_in (declaration_at number ds) ≡ Some b.at → b.rule ≡ 11 → get_or cyclic (k + number) false ≡ true → IsOneOf b (needy_values cyclic k ds)
noted_set cyclic zero k no_declaration b e r set = absurd cc
noted_set cyclic (suc number) k no_declaration b e r set = absurd cc
noted_set cyclic zero k (declaration d ds) b e r set =
    let same : k ≡ k + 0 = omega arith in
    one_of_left b (needy_value (get_or cyclic k false) (value_at d)) (needy_values cyclic (suc k) ds) (value_one (get_or cyclic k false) (value_at d) b e r (ap (λ (n : ℕ). get_or cyclic n false) same ∙ set))
noted_set cyclic (suc number) k (declaration d ds) b e r set =
    let same : suc k + number ≡ k + suc number = omega arith in
    one_of_right b (needy_value (get_or cyclic k false) (value_at d)) (needy_values cyclic (suc k) ds) (noted_set cyclic number (suc k) ds b e r (ap (λ (n : ℕ). get_or cyclic n false) same ∙ set))

-- a node that reaches something is in the graph
reaching_lies : {g : Nodes} {a b : ℕ} → Reaches g a b → a < length g
reaching_lies {g} (one a b need) = needing_lies g a b need
reaching_lies {g} (further a b c need r) = needing_lies g a b need

cyclic_lies : (cyclic : List Bool) (n : ℕ) → get_or cyclic n false ≡ true → n < length cyclic
cyclic_lies [] n e = absurd (let p : false ≡ true = e in cc)
cyclic_lies (b ∷ bs) zero e = omega arith
cyclic_lies (b ∷ bs) (suc n) e = let rest = cyclic_lies bs n e in omega (arith, rest)

pub are_noted : (g : Nodes) (cyclic : List Bool) (ds : Declarations) (old new : Found) → AreCyclic g cyclic → new ≡ all_noted old (needy_values cyclic 0 ds) → AreNoted g ds old new
are_noted g cyclic ds old new h e = record {
  breaches = needy_values cyclic 0 ds;
  noted = e;
  exactly = λ b. (to b, from b);
}
  where
    to : (b : Breach) → IsOneOf b (needy_values cyclic 0 ds) → IsCyclic g ds b
    to b any =
        let s = set_noted cyclic 0 ds b any in
        let same : 0 + s.0 ≡ s.0 = omega arith in
        let set : get_or cyclic s.0 false ≡ true = ap (λ (n : ℕ). get_or cyclic n false) (sym same) ∙ s.3 in
        let lies : s.0 < length g = (let l = cyclic_lies cyclic s.0 set in let size = h.each in omega (arith, l, size)) in
        record { rule = s.2; number = s.0; is_value = s.1; reaches = (h.reaches s.0 lies).0 set }

    from : (b : Breach) → IsCyclic g ds b → IsOneOf b (needy_values cyclic 0 ds)
    from b c =
        let same : 0 + c.number ≡ c.number = omega arith in
        noted_set cyclic c.number 0 ds b c.is_value c.rule (ap (λ (n : ℕ). get_or cyclic n false) same ∙ (h.reaches c.number (reaching_lies c.reaches)).1 c.reaches)

-- ---- what is found so far

value_lies : (number : ℕ) (ds : Declarations) (at : At) → value_in (declaration_at number ds) ≡ Some at → number < count_declarations ds
value_lies zero no_declaration at e = absurd cc
value_lies (suc number) no_declaration at e = absurd cc
value_lies zero (declaration d ds) at e = omega arith
value_lies (suc number) (declaration d ds) at e = let rest = value_lies number ds at e in omega (arith, rest)

breaks_left : (es fs : List Ended) (b : Breach) → OneBreaks es b → OneBreaks (es ++ fs) b
breaks_left [] fs b h = absurd h
breaks_left (e ∷ es) fs b (inl h) = inl h
breaks_left (e ∷ es) fs b (inr h) = inr (breaks_left es fs b h)

breaks_right : (es fs : List Ended) (b : Breach) → OneBreaks fs b → OneBreaks (es ++ fs) b
breaks_right [] fs b h = h
breaks_right (e ∷ es) fs b h = inr (breaks_right es fs b h)

breaks_either : (es fs : List Ended) (b : Breach) → OneBreaks (es ++ fs) b → OneBreaks es b ⊎ OneBreaks fs b
breaks_either [] fs b h = inr h
breaks_either (e ∷ es) fs b (inl h) = inl (inl h)
breaks_either (e ∷ es) fs b (inr h) = elim (breaks_either es fs b h) [ inl k ↦ inl (inr k) | inr k ↦ inr k ]

pub found_nothing : HasFound [] nothing_found
found_nothing = record { breaches = []; noted = refl; exactly = λ b. (λ h. h, λ h. h) }

pub found_more : (ds : Declarations) (us : List Mention) (node : List ℕ → Option ℕ) (g : Nodes) (es : List Ended) (old new : Found) → IsGraph (count_declarations ds) (bound_from 0 ds) us node g → AreNoted g ds old new → HasFound es old → HasFound (es ++ record { declarations = ds; uses = us } ∷ []) new
found_more ds us node g es old new graph n h = record {
  breaches = h.breaches ++ n.breaches;
  noted = n.noted ∙ ap (λ (f : Found). all_noted f n.breaches) h.noted ∙ sym (noted_joined nothing_found h.breaches n.breaches);
  exactly = λ b. (to b, from b);
}
  where
    breaks : (b : Breach) → IsCyclic g ds b → Breaks (record { declarations = ds; uses = us }) b
    breaks b c = record { rule = c.rule; number = c.number; is_value = c.is_value; steps = to_steps (count_declarations ds) (bound_from 0 ds) us node g graph c.number (value_lies c.number ds b.at c.is_value) c.reaches }

    cyclic : (b : Breach) → Breaks (record { declarations = ds; uses = us }) b → IsCyclic g ds b
    cyclic b c = record { rule = c.rule; number = c.number; is_value = c.is_value; reaches = from_steps (count_declarations ds) (bound_from 0 ds) us node g graph c.number (value_lies c.number ds b.at c.is_value) c.steps }

    to : (b : Breach) → IsOneOf b (h.breaches ++ n.breaches) → OneBreaks (es ++ record { declarations = ds; uses = us } ∷ []) b
    to b any = elim (one_of_either b h.breaches n.breaches any) [
      | inl old' ↦ breaks_left es (record { declarations = ds; uses = us } ∷ []) b ((h.exactly b).0 old')
      | inr new' ↦ breaks_right es (record { declarations = ds; uses = us } ∷ []) b (inl (breaks b ((n.exactly b).0 new')))
    ]

    from : (b : Breach) → OneBreaks (es ++ record { declarations = ds; uses = us } ∷ []) b → IsOneOf b (h.breaches ++ n.breaches)
    from b any = elim (breaks_either es (record { declarations = ds; uses = us } ∷ []) b any) [
      | inl old' ↦ one_of_left b h.breaches n.breaches ((h.exactly b).1 old')
      | inr new' ↦ elim new' [ inl it ↦ one_of_right b h.breaches n.breaches ((n.exactly b).1 (cyclic b it)) | inr none ↦ absurd none ]
    ]

-- ---- what has parameters

pub not_plain : (at : At) (ps : List Apat) → (length ps ≡ 0 → ⊥) → None ≡ plain_at at (each_pattern apat_of ps)
not_plain at [] some = absurd (some refl)
not_plain at (p ∷ ps) some = refl
