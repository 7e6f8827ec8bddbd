-- Passes over declarations, step by step.
use Rattle.std.proofs.Common.{◌≡◌, ℕ, zero, suc, ◌+◌, ◌-◌, ◌<◌, ◌≤◌, Bool, true, false, List, [], ◌∷◌, ◌++◌, map, length, length-append, get_or, drop, refl, sym, ap, subst, ◌∙◌, arith, add-one, drop-cons, append_assoc, append-nil}
use Rattle.std.proofs.lemmas.List.{set_past, get_or_append_left, get_or-append-add}
use Rattle.std.proofs.Math.ListN.{drop_of_length-le}
use Rattle.std.specs.Prelude.{slice_set, slice_index, EachIndex}
use Rattle.hdc_tree.specs.declared.program.Top.{Top}
use Rattle.hdc_tree.specs.declared.program.Top.TheVariants as top
use Rattle.hdc_tree.specs.declared.program.NextTop.{NextTop}
use Rattle.hdc_tree.specs.declared.program.Tree.{Tree}
use Rattle.hdc_written.specs.declared.breach.Found.{Found}
use Rattle.hdc_written.specs.Breaches.{all_noted}
use Rattle.hdc_written.proofs.FirstBreach.{noted_joined}
use Rattle.hdc_regular.specs.declared.demand.Demand.{Demand}
use Rattle.hdc_regular.specs.declared.summary.Summary.{Summary}
use Rattle.hdc_graph.specs.Groups.{AreGroups}
use Rattle.hdc_graph.specs.Needs.{Nodes, IsClosed, IsNumbering, NeedsComeFirst, AreCyclic}
use Rattle.hdc_graph.specs.declared.components.Components.{Components}
use Rattle.hdc_written.specs.Mirror.{tops_of, tops_behind}
use Rattle.hdc_written.specs.Scopes.{Binding}
use Rattle.hdc_synonyms.specs.Synonyms.{synonym_needs}
use Rattle.hdc_synonyms.proofs.Adding.{size_tops_behind}
use Rattle.hdc_regular.specs.declared.standing.Standing.{Standing}
use Rattle.hdc_regular.specs.declared.outline.Outline.{Outline}
use Rattle.hdc_regular.specs.declared.texts.Texts.{Texts}
use Rattle.hdc_regular.specs.Resolved.{Declaration, neither, declaration_at}
use Rattle.hdc_regular.specs.Irregular.{names_before, names_of}
use Rattle.hdc_regular.specs.Built.{built_declaration, each_built_declaration, built_by}
use Rattle.hdc_regular.specs.Judged.{repeat_of}
use Rattle.hdc_regular.specs.Laws.{AreRanked}
use Rattle.hdc_regular.specs.Known.{AreKnown}
use Rattle.hdc_regular.specs.Passes.{kind_of, top_kind, before_of, text_of, AreTexts, built_texts, summary_of, summary_wrong, summaries_wrong}
use Rattle.hdc_regular.proofs.Whole.{built_each, size_built}

-- nothing is set behind the last one
pub nothing_set : {A : Type 0} (xs : List A) (n : ℕ) (x : A) → length xs ≤ n → slice_set xs n x ≡ xs
nothing_set xs n x le = set_past xs n x le

-- the declarations of a text are one more than those behind the first
pub size_of_tree : (t : Tree) → length (tops_of t) ≡ suc (length t.rest)
size_of_tree t = ap (λ z. suc z) (size_tops_behind t.rest)

-- the declaration behind the first one of a text
behind_at : (ns : List NextTop) (i : ℕ) (n : NextTop) → i < length ns → n ≡ get_or ns i n → get_or (tops_behind ns) i top.Empty ≡ n.top
behind_at [] i n lt e = absurd (omega (arith, lt))
behind_at (m ∷ ns) zero n lt e = sym (ap (λ (z : NextTop). z.top) e)
behind_at (m ∷ ns) (suc i) n lt e = behind_at ns i n (omega (arith, lt)) e

past_at : (ns : List NextTop) (i : ℕ) → length ns ≤ i → get_or (tops_behind ns) i top.Empty ≡ top.Empty
past_at [] i le = refl
past_at (m ∷ ns) zero le = absurd (omega (arith, le))
past_at (m ∷ ns) (suc i) le = past_at ns i (omega (arith, le))

pub next_there : (t : Tree) (rest : List NextTop) (i : ℕ) (n : NextTop) → rest ≡ t.rest → (i ≡ 0 → ⊥) → i - 1 < length rest → n ≡ get_or rest (i - 1) n → get_or (tops_of t) i top.Empty ≡ n.top
next_there t rest zero n e some lt is = absurd (some refl)
next_there t rest (suc i) n e some lt is =
    let same : suc i - 1 ≡ i = omega arith in
    ap (λ z. get_or (tops_behind z) i top.Empty) (sym e) ∙ behind_at rest i n (subst (λ z. z < length rest) same lt) (subst (λ z. n ≡ get_or rest z n) same is)

pub none_there : (t : Tree) (rest : List NextTop) (i : ℕ) → rest ≡ t.rest → (i ≡ 0 → ⊥) → length rest ≤ i - 1 → get_or (tops_of t) i top.Empty ≡ top.Empty
none_there t rest zero e some le = absurd (some refl)
none_there t rest (suc i) e some le =
    let same : suc i - 1 ≡ i = omega arith in
    ap (λ z. get_or (tops_behind z) i top.Empty) (sym e) ∙ past_at rest i (subst (λ z. length rest ≤ z) same le)

-- one more of the same
pub one_more_of : {A : Type 0} (x : A) (n : ℕ) → repeat_of x n ++ x ∷ [] ≡ repeat_of x (suc n)
one_more_of x zero = refl
one_more_of x (suc n) = ap (λ z. x ∷ z) (one_more_of x n)

pub known_by : (ts : List Top) (g : Nodes) (cs : Components) (groups : List (List ℕ)) → g ≡ synonym_needs ts → AreCyclic g cs.cyclic → IsNumbering g cs.numbers → NeedsComeFirst g cs.numbers
    → EachIndex cs.numbers (λ node. slice_index cs.numbers node < length g) → IsClosed g → AreGroups g groups → AreKnown ts (record { components = cs; groups = groups })
known_by ts g cs groups e cyclic numbering first below closed are =
    let each = numbering.each in
    let ranked : AreRanked g cs.numbers = record { numbering = numbering; first = first; below = λ a lt. below a (subst (λ z. a < z) (sym each) lt); closed = closed } in
    record {
      cyclic = subst (λ z. AreCyclic z cs.cyclic) e cyclic;
      ranked = subst (λ z. AreRanked z cs.numbers) e ranked;
      groups = subst (λ z. AreGroups z groups) e are;
    }

-- ---- declarations by their numbers

-- the kind of a declaration does not depend on what is known of synonyms
pub kind_built : (outlines : List Outline) (names : List (Binding Standing)) (sound : Bool) (t : Top) → kind_of (built_declaration outlines names sound t) ≡ top_kind sound t
kind_built outlines names sound (top.Data d) = refl
kind_built outlines names true (top.Synonym s) = refl
kind_built outlines names false (top.Synonym s) = refl
kind_built outlines names sound top.Empty = refl
kind_built outlines names sound (top.Fixity f) = refl
kind_built outlines names sound (top.Signature x xs a t) = refl
kind_built outlines names sound (top.Equation h r) = refl

built_before : (outlines : List Outline) (ps ts : List Top) (sounds : List Bool) (n : ℕ) → n < length ps
    → declaration_at (built_by outlines ps ts sounds) n ≡ built_declaration outlines (names_before ps sounds) (get_or sounds n false) (get_or ps n top.Empty)
built_before outlines ps ts sounds n lt =
    let less : n < length (each_built_declaration outlines (names_before ps sounds) sounds 0 ps) = subst (λ z. n < z) (sym (size_built outlines (names_before ps sounds) sounds 0 ps)) lt in
    let e : 0 + n ≡ n = omega arith in
    get_or_append_left (each_built_declaration outlines (names_before ps sounds) sounds 0 ps) (each_built_declaration outlines (names_of ps ts sounds) sounds (length ps) ts) neither n less
    ∙ built_each outlines (names_before ps sounds) sounds 0 ps n
    ∙ ap (λ z. built_declaration outlines (names_before ps sounds) (get_or sounds z false) (get_or ps n top.Empty)) e

built_text : (outlines : List Outline) (ps ts : List Top) (sounds : List Bool) (i : ℕ)
    → declaration_at (built_by outlines ps ts sounds) (length ps + i) ≡ built_declaration outlines (names_of ps ts sounds) (get_or sounds (length ps + i) false) (get_or ts i top.Empty)
built_text outlines ps ts sounds i =
    ap (λ z. get_or (each_built_declaration outlines (names_before ps sounds) sounds 0 ps ++ each_built_declaration outlines (names_of ps ts sounds) sounds (length ps) ts) (z + i) neither) (sym (size_built outlines (names_before ps sounds) sounds 0 ps))
    ∙ get_or-append-add (each_built_declaration outlines (names_before ps sounds) sounds 0 ps) (each_built_declaration outlines (names_of ps ts sounds) sounds (length ps) ts) i neither
    ∙ built_each outlines (names_of ps ts sounds) sounds (length ps) ts i

-- a declaration of the prelude, and one of the text, as they are built
pub texts_before : (outlines : List Outline) (t : Texts) (n : ℕ) (sound : Bool) → AreTexts t → n < t.count → sound ≡ get_or t.sounds n false
    → declaration_at (built_texts outlines t) n ≡ built_declaration outlines t.names_before sound (get_or (before_of t) n top.Empty)
texts_before outlines t n sound are lt e =
    built_before outlines (before_of t) (text_of t) t.sounds n (subst (λ z. n < z) are.count lt)
    ∙ ap (λ z. built_declaration outlines z (get_or t.sounds n false) (get_or (before_of t) n top.Empty)) (sym are.names_before)
    ∙ ap (λ z. built_declaration outlines t.names_before z (get_or (before_of t) n top.Empty)) (sym e)

pub texts_there : (outlines : List Outline) (t : Texts) (n : ℕ) (sound : Bool) → AreTexts t → t.count ≤ n → sound ≡ get_or t.sounds n false
    → declaration_at (built_texts outlines t) n ≡ built_declaration outlines t.names sound (get_or (text_of t) (n - t.count) top.Empty)
texts_there outlines t n sound are le e =
    let at : t.count + (n - t.count) ≡ n = omega (arith, le) in
    let there : length (before_of t) + (n - t.count) ≡ n = ap (λ z. z + (n - t.count)) (sym are.count) ∙ at in
    ap (declaration_at (built_texts outlines t)) (sym there)
    ∙ built_text outlines (before_of t) (text_of t) t.sounds (n - t.count)
    ∙ ap (λ z. built_declaration outlines (names_of (before_of t) (text_of t) t.sounds) (get_or t.sounds z false) (get_or (text_of t) (n - t.count) top.Empty)) there
    ∙ ap (λ z. built_declaration outlines z (get_or t.sounds n false) (get_or (text_of t) (n - t.count) top.Empty)) (sym are.names)
    ∙ ap (λ z. built_declaration outlines t.names z (get_or (text_of t) (n - t.count) top.Empty)) (sym e)

-- both together are as many as are built
pub size_texts : (outlines : List Outline) (ps ts : List Top) (sounds : List Bool) → length (built_by outlines ps ts sounds) ≡ length ps + length ts
size_texts outlines ps ts sounds =
    length-append (each_built_declaration outlines (names_before ps sounds) sounds 0 ps) (each_built_declaration outlines (names_of ps ts sounds) sounds (length ps) ts)
    ∙ ap (λ z. z + length (each_built_declaration outlines (names_of ps ts sounds) sounds (length ps) ts)) (size_built outlines (names_before ps sounds) sounds 0 ps)
    ∙ ap (λ z. length ps + z) (size_built outlines (names_of ps ts sounds) sounds (length ps) ts)

-- ---- one after another

-- one more is summed up
pub one_more_summed : (es : List Declaration) (n : ℕ) (ss us : List Summary) (s : Summary) → n < length es → us ≡ ss ++ s ∷ [] → s ≡ summary_of (declaration_at es n)
    → map summary_of es ≡ ss ++ map summary_of (drop n es) → map summary_of es ≡ us ++ map summary_of (drop (n + 1) es)
one_more_summed es n ss us s lt pushed is h =
    h
    ∙ ap (λ z. ss ++ map summary_of z) (drop-cons es n neither lt)
    ∙ ap (λ z. ss ++ z ∷ map summary_of (drop (suc n) es)) (sym is)
    ∙ sym (append_assoc ss (s ∷ []) (map summary_of (drop (suc n) es)))
    ∙ ap (λ z. z ++ map summary_of (drop (suc n) es)) (sym pushed)
    ∙ ap (λ z. us ++ map summary_of (drop z es)) (sym (add-one n))

pub all_summed : (es : List Declaration) (n : ℕ) (ss : List Summary) → length es ≤ n → map summary_of es ≡ ss ++ map summary_of (drop n es) → ss ≡ map summary_of es
all_summed es n ss le h = sym (h ∙ ap (λ z. ss ++ map summary_of z) (drop_of_length-le es le) ∙ append-nil ss)

-- one more is judged
pub one_more_judged : (synonyms : List Bool) (demands : List Demand) (numbers : List ℕ) (ss : List Summary) (n : ℕ) (s : Summary) (f g : Found) → n < length ss → s ≡ get_or ss n s → g ≡ all_noted f (summary_wrong synonyms demands numbers n s)
    → all_noted f (summaries_wrong synonyms demands numbers n (drop n ss)) ≡ all_noted g (summaries_wrong synonyms demands numbers (n + 1) (drop (n + 1) ss))
one_more_judged synonyms demands numbers ss n s f g lt is noted =
    ap (λ z. all_noted f (summaries_wrong synonyms demands numbers n z)) (drop-cons ss n s lt)
    ∙ ap (λ z. all_noted f (summary_wrong synonyms demands numbers n z ++ summaries_wrong synonyms demands numbers (suc n) (drop (suc n) ss))) (sym is)
    ∙ noted_joined f (summary_wrong synonyms demands numbers n s) (summaries_wrong synonyms demands numbers (suc n) (drop (suc n) ss))
    ∙ ap (λ z. all_noted z (summaries_wrong synonyms demands numbers (suc n) (drop (suc n) ss))) (sym noted)
    ∙ ap (λ z. all_noted g (summaries_wrong synonyms demands numbers z (drop z ss))) (sym (add-one n))
