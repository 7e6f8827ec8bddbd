-- Names of bindings at the top are numbered in the order of the text.
use Rattle.std.proofs.Common.{◌≡◌, ℕ, Bool, true, false, List, [], ◌∷◌, ◌++◌, Option, None, Some, length, map, refl, sym, ap, subst, ◌∙◌, append_assoc, append-nil, arith, length-append, if◌then◌else◌}
use Rattle.std.specs.List.{slice_get}
use Rattle.std.proofs.lemmas.List.{map-append}
use Rattle.hdc_resolved.specs.Syntax as resolved
use Rattle.hdc_resolved.specs.declared.name.Name.{Name}
use Rattle.hdc_resolved.specs.declared.name.Name.TheVariants as what
use Rattle.hdc_tree.specs.declared.program.Top.{Top}
use Rattle.hdc_tree.specs.declared.program.Top.TheVariants as top
use Rattle.hdc_written.specs.Mirror.{head_name, head_patterns}
use Rattle.hdc_written.specs.Scopes.{standing_for}
use Rattle.hdc_resolving.specs.declared.known.Known.{Known}
use Rattle.hdc_resolving.specs.declared.walk.Walk.{Walk}
use Rattle.hdc_resolving.specs.Grouped.{Joining}
use Rattle.hdc_resolving.specs.Literals.{place_in}
use Rattle.hdc_resolving.specs.Numbering.{moved}
use Rattle.hdc_resolving.specs.Standing.{Names, Numbered, built_in, goes_on, opened, named_unless, before_unless, behind_top, top_named, tops_named, prelude_named, program_named}
use Rattle.hdc_bindings.specs.Tops.{behind_declared, equation_in, further_tops, top_bindings, all_bindings, prelude_known, program_known, prelude_walk, program_walk}
use Rattle.hdc_numbers.specs.Numbers.{binding_name, binding_names}
use Rattle.hdc_numbers.proofs.Places.{get_more, get_next, found}

-- ---- the names that begin a binding

abbrev begun_unless : Bool → List ℕ → List (List ℕ)
begun_unless true x = []
begun_unless false x = x ∷ []

abbrev begun_by : Option (List ℕ) → Top → List (List ℕ)
begun_by b top.Empty = []
begun_by b (top.Data d) = []
begun_by b (top.Synonym s) = []
begun_by b (top.Fixity f) = []
begun_by b (top.Signature x xs a t) = []
begun_by b (top.Equation h r) = begun_unless (goes_on b (head_name h).text (head_patterns h)) (head_name h).text

abbrev begun : List Top → Option (List ℕ) → List (List ℕ)
begun [] b = []
begun (t ∷ ts) b = begun_by b t ++ begun ts (behind_top b t)

-- an equation that goes on with a binding, or begins one
either_begun : (go : Bool) (b c : Option (List ℕ)) (ts : List Top) (rest : List resolved.Binding) (first : resolved.Binding) (behind : List resolved.Binding) → map binding_name rest ≡ begun ts b → map binding_name behind ≡ begun ts c → map binding_name (if go then rest else first ∷ behind) ≡ begun_unless go first.text ++ begun ts (before_unless go b c)
either_begun true b c ts rest first behind on new = on
either_begun false b c ts rest first behind on new = ap (λ z. first.text ∷ z) new

module _ (join : Joining) (k : Known) where
  names_begun : (ts : List Top) (b : Option (List ℕ)) (w : Walk) → map binding_name (top_bindings join k ts b w) ≡ begun ts b
  names_begun [] b w = refl
  names_begun (top.Empty ∷ ts) b w = names_begun ts b w
  names_begun (top.Data d ∷ ts) b w = names_begun ts None w
  names_begun (top.Synonym s ∷ ts) b w = names_begun ts None w
  names_begun (top.Fixity f ∷ ts) b w = names_begun ts None w
  names_begun (top.Signature x xs a t ∷ ts) b w = names_begun ts None w
  names_begun (top.Equation h r ∷ ts) b w =
      let next = moved (behind_declared (top.Equation h r) w.counter) w in
      let new = opened (head_name h).text (head_patterns h) in
      let first : resolved.Binding = record { text = (head_name h).text; place = place_in k.src (head_name h).at; equations = equation_in join k h r w (further_tops join k ts new next) } in
      either_begun (goes_on b (head_name h).text (head_patterns h)) b new ts (top_bindings join k ts b next) first (top_bindings join k ts new next) (names_begun ts b next) (names_begun ts new next)

-- ---- each brings the next number

-- names of bindings at the top have the numbers of their places
record AreNumbered (s : Numbered Name) (names : List (List ℕ)) : Type 0 where
  pub next : s.next ≡ length names
  pub top : (x : List ℕ) (n : ℕ) → standing_for x s.scope ≡ Some (what.Top n) → slice_get names n ≡ Some x

no_more : (s : Numbered Name) (names : List (List ℕ)) → AreNumbered s names → AreNumbered s (names ++ [])
no_more s names are = subst (AreNumbered s) (sym (append-nil names)) are

unless_more : (go : Bool) (y : List ℕ) (s : Numbered Name) (names : List (List ℕ)) → AreNumbered s names → AreNumbered (named_unless go y s) (names ++ begun_unless go y)
unless_more true y s names are = no_more s names are
unless_more false y s names are = record {
  next = let l = length-append names (y ∷ []) in omega (arith, l, are.next);
  top = λ x n is.
      found x y (what.Top s.next) (what.Top n) s.scope
      (λ e same. let number : s.next ≡ n = cc in subst (λ z. slice_get (names ++ y ∷ []) n ≡ Some z) (sym e) (get_next names [] y n (sym number ∙ are.next)))
      (λ e. get_more names (y ∷ []) n x (are.top x n e)) is;
}

one_more : (b : Option (List ℕ)) (t : Top) (s : Numbered Name) (names : List (List ℕ)) → AreNumbered s names → AreNumbered (top_named b t s) (names ++ begun_by b t)
one_more b top.Empty s names are = no_more s names are
one_more b (top.Data d) s names are = no_more s names are
one_more b (top.Synonym y) s names are = no_more s names are
one_more b (top.Fixity f) s names are = no_more s names are
one_more b (top.Signature x xs a t) s names are = no_more s names are
one_more b (top.Equation h r) s names are = unless_more (goes_on b (head_name h).text (head_patterns h)) (head_name h).text s names are

all_more : (ts : List Top) (b : Option (List ℕ)) (s : Numbered Name) (names : List (List ℕ)) → AreNumbered s names → AreNumbered (tops_named ts b s) (names ++ begun ts b)
all_more [] b s names are = no_more s names are
all_more (t ∷ ts) b s names are =
    subst (AreNumbered (tops_named ts (behind_top b t) (top_named b t s))) (append_assoc names (begun_by b t) (begun ts (behind_top b t)))
    (all_more ts (behind_top b t) (top_named b t s) (names ++ begun_by b t) (one_more b t s names are))

-- ---- what is built in is no binding

abbrev is_top : Name → Bool
is_top (what.Top n) = true
is_top (what.Local x) = false
is_top (what.Con c) = false
is_top (what.Primitive p) = false
is_top (what.Skeleton kind degree) = false
is_top what.Unknown = false

abbrev have_no_top : Names → Bool
have_no_top [] = true
have_no_top (b ∷ bs) = if is_top b.what then false else have_no_top bs

none_top : (names : Names) → have_no_top names ≡ true → (x : List ℕ) (n : ℕ) → standing_for x names ≡ Some (what.Top n) → ⊥
none_top [] h x n is = absurd (cc)
none_top (b ∷ bs) h x n is = by (is_top b.what) refl h (λ g. none_top bs g x n)
  where
    by : (v : Bool) → is_top b.what ≡ v → (if v then false else have_no_top bs) ≡ true → (have_no_top bs ≡ true → standing_for x bs ≡ Some (what.Top n) → ⊥) → ⊥
    by true e g behind = absurd (cc)
    by false e g behind = found x b.name b.what (what.Top n) bs (λ same top. absurd (let t = ap is_top top in cc)) (behind g) is

first_numbered : AreNumbered (record { scope = built_in; next = 0 }) []
first_numbered = record { next = refl; top = λ x n is. absurd (none_top built_in refl x n is) }

module _ (ps ts : List Top) where
  in_prelude : AreNumbered (prelude_named ps) (begun ps None)
  in_prelude = all_more ps None (record { scope = built_in; next = 0 }) [] first_numbered

  in_program : AreNumbered (program_named ps ts) (begun ps None ++ begun ts None)
  in_program = all_more ts None (prelude_named ps) (begun ps None) in_prelude

  module _ (join : Joining) (orders : List (List ℕ)) where
    all_begun : binding_names join orders ps ts ≡ begun ps None ++ begun ts None
    unfolding all_bindings
    all_begun =
        let k = prelude_known ps orders in
        let l = program_known ps ts orders in
        map-append binding_name (top_bindings join k ps None (prelude_walk ps)) (top_bindings join l ts None (program_walk ps ts))
        ∙ ap (λ z. z ++ map binding_name (top_bindings join l ts None (program_walk ps ts))) (names_begun join k ps None (prelude_walk ps))
        ∙ ap (λ z. begun ps None ++ z) (names_begun join l ts None (program_walk ps ts))

    pub prelude_binding : (x : List ℕ) (n : ℕ) → standing_for x (prelude_named ps).scope ≡ Some (what.Top n) → slice_get (binding_names join orders ps ts) n ≡ Some x
    prelude_binding x n is = subst (λ z. slice_get z n ≡ Some x) (sym all_begun) (get_more (begun ps None) (begun ts None) n x (in_prelude.top x n is))

    pub program_binding : (x : List ℕ) (n : ℕ) → standing_for x (program_named ps ts).scope ≡ Some (what.Top n) → slice_get (binding_names join orders ps ts) n ≡ Some x
    program_binding x n is = subst (λ z. slice_get z n ≡ Some x) (sym all_begun) (in_program.top x n is)
