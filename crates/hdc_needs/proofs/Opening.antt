-- How a block comes into scope.
use Rattle.std.proofs.Common.{◌≡◌, ℕ, zero, suc, ◌-◌, ◌<◌, ◌≤◌, inl, inr, Bool, true, false, List, [], ◌∷◌, ◌++◌, length, take, Option, Some, None, is_some, if◌then◌else◌, refl, sym, ap, ◌∙◌, subst, arith, length-append, append_assoc, append-nil, Contains}
use Rattle.std.proofs.Math.Seq.{take-append_seam}
use Rattle.std.specs.Str.{bytes_eq}
use Rattle.hdc_graph.specs.Needs.{Nodes, Needs, needs_of}
use Rattle.hdc_written.specs.Scopes.{standing_for}
use Rattle.hdc_written.specs.Written.{Declarations, no_declaration, declaration}
use Rattle.hdc_needs.specs.declared.bind.Target.{Target}
use Rattle.hdc_needs.specs.declared.bind.Target.TheVariants as target
use Rattle.hdc_needs.specs.declared.frames.OpenBlock.{OpenBlock}
use Rattle.hdc_needs.specs.declared.frames.Frame as kept
use Rattle.hdc_needs.specs.Agrees.{IsGraph, located, OverBlock, InScope}
use Rattle.hdc_needs.specs.Bind.{Targets, start, Named, known_if, known_node, bind_as, bind_one, bind_all}
use Rattle.hdc_needs.specs.Binders.{bound_from}
use Rattle.hdc_needs.specs.Frames.{linked_within}
use Rattle.hdc_needs.specs.Kept.{declarations_of}
use Rattle.hdc_needs.specs.Walk.{Mention, Frame, count_declarations}
use Rattle.hdc_needs.proofs.Graphs.{node_more, IsNodeOf, bound_more}
use Rattle.hdc_needs.proofs.Linking.{none_needed, within_is}
use Rattle.hdc_needs.proofs.Stands.{text_is, text_same, text_decided, AllUnder, all_under}

-- some names of a block of so many declarations are in scope
pub record IsBound (level n : ℕ) (base : Targets) (ms : List Mention) (s : Targets) (g : Nodes) : Type 0 where
  pub front : Targets
  pub node : List ℕ → Option ℕ
  pub scope_is : s ≡ front ++ base
  pub stands : (t : List ℕ) → standing_for t s ≡ located level (node t) (standing_for t base)
  pub since : (t : List ℕ) → is_some (standing_for t front) ≡ is_some (node t)
  pub graph : IsGraph n ms [] node g

taken_front : (bs s : Targets) → take (length (bs ++ s) - length s) (bs ++ s) ≡ bs
taken_front bs s =
    let bound : length (bs ++ s) - length s ≡ length bs = omega (arith, length-append bs s) in
    ap (λ n. take n (bs ++ s)) bound ∙ take-append_seam bs s

known_located : (level : ℕ) (own : Option ℕ) (rest : Option Target) → known_if (is_some own) (located level own rest) ≡ own
known_located level None rest = refl
known_located level (Some m) rest = refl

-- the name's node is known where it has one
known_is : (level n size : ℕ) (base : Targets) (ms : List Mention) (s : Targets) (g : Nodes) (h : IsBound level n base ms s g) → size ≡ length base → (t : List ℕ) → known_node size t s ≡ h.node t
known_is level n size base ms s g h e t =
    let front : take (length s - size) s ≡ h.front =
    ap (λ (k : ℕ). take (length s - k) s) e ∙ ap (λ (v : Targets). take (length v - length base) v) h.scope_is ∙ taken_front h.front base in
    ap (λ (v : Targets). known_if (is_some (standing_for t v)) (standing_for t s)) front
    ∙ ap (λ b. known_if b (standing_for t s)) (h.since t)
    ∙ ap (known_if (is_some (h.node t))) (h.stands t)
    ∙ known_located level (h.node t) (standing_for t base)

-- the nodes of names, where one comes to them
abbrev next_node : (List ℕ → Option ℕ) → List ℕ → ℕ → List ℕ → Option ℕ
next_node node t k u = if bytes_eq u t then Some k else node u

next_same : (node : List ℕ → Option ℕ) (t : List ℕ) (k : ℕ) (u : List ℕ) → u ≡ t → next_node node t k u ≡ Some k
next_same node t k u e = ap (λ b. if b then Some k else node u) (text_same u t e)

next_other : (node : List ℕ → Option ℕ) (t : List ℕ) (k : ℕ) (u : List ℕ) → (u ≡ t → ⊥) → next_node node t k u ≡ node u
next_other node t k u differs = by (bytes_eq u t) refl
  where
    by : (b : Bool) → bytes_eq u t ≡ b → (if b then Some k else node u) ≡ node u
    by true e = absurd (differs (text_is u t e))
    by false e = refl

next_stands : (level : ℕ) (node : List ℕ → Option ℕ) (t : List ℕ) (k : ℕ) (s base : Targets) (u : List ℕ) → standing_for u s ≡ located level (node u) (standing_for u base) → standing_for u (record { name = t; what = target.Local level k } ∷ s) ≡ located level (next_node node t k u) (standing_for u base)
next_stands level node t k s base u e = by (bytes_eq u t)
  where
    by : (b : Bool) → (if b then Some (target.Local level k) else standing_for u s) ≡ located level (if b then Some k else node u) (standing_for u base)
    by true = refl
    by false = e

next_since : (level : ℕ) (node : List ℕ → Option ℕ) (t : List ℕ) (k : ℕ) (front : Targets) (u : List ℕ) → is_some (standing_for u front) ≡ is_some (node u) → is_some (standing_for u (record { name = t; what = target.Local level k } ∷ front)) ≡ is_some (next_node node t k u)
next_since level node t k front u e = by (bytes_eq u t)
  where
    by : (b : Bool) → is_some (if b then Some (target.Local level k) else standing_for u front) ≡ is_some (if b then Some k else node u)
    by true = refl
    by false = e

-- what is bound with a node of its own
bound_as : (level n : ℕ) (base : Targets) (ms : List Mention) (s : Targets) (g : Nodes) (h : IsBound level n base ms s g) (m : Mention) (k : ℕ) (wide : Nodes) → m.number < n → n ≤ k → k < length wide → IsNodeOf h.node m.name.text k → IsGraph n ms [] h.node wide → IsBound level n base (ms ++ m ∷ []) (record { name = m.name.text; what = target.Local level k } ∷ s) (linked_within wide k m.number)
bound_as level n base ms s g h m k wide number_lies ge lies is graph =
    let enough = graph.enough in
    let in_graph : m.number < length wide = omega (arith, number_lies, enough) in
    record {
      front = record { name = m.name.text; what = target.Local level k } ∷ h.front;
      node = next_node h.node m.name.text k;
      scope_is = ap (λ (v : Targets). record { name = m.name.text; what = target.Local level k } ∷ v) h.scope_is;
      stands = λ u. next_stands level h.node m.name.text k s base u (h.stands u);
      since = λ u. next_since level h.node m.name.text k h.front u (h.since u);
      graph = subst (λ (gg : Nodes). IsGraph n (ms ++ m ∷ []) [] (next_node h.node m.name.text k) gg) (sym (within_is wide k m.number lies in_graph))
          (bound_more n ms h.node (next_node h.node m.name.text k) wide graph m k number_lies ge lies is (next_same h.node m.name.text k) (next_other h.node m.name.text k) (λ u. text_decided u m.name.text));
    }

bound_by : (level n : ℕ) (base : Targets) (ms : List Mention) (s : Targets) (g : Nodes) (h : IsBound level n base ms s g) (m : Mention) → m.number < n → (known : Option ℕ) → h.node m.name.text ≡ known → IsBound level n base (ms ++ m ∷ []) (bind_as level known m s g).scope (bind_as level known m s g).graph
bound_by level n base ms s g h m number_lies None e =
    let size = length-append g ([] ∷ []) in
    let enough = h.graph.enough in
    bound_as level n base ms s g h m (length g) (g ++ [] ∷ []) number_lies enough (omega (arith, size))
    (inr (e, λ u f. (let i = h.graph.inside u (length g) f in omega (arith, i.1))))
    (node_more n ms [] h.node g h.graph)
bound_by level n base ms s g h m number_lies (Some k) e =
    let i = h.graph.inside m.name.text k e in
    bound_as level n base ms s g h m k g number_lies i.0 i.1 (inl e) h.graph

bound_one : (level n size : ℕ) (base : Targets) (ms : List Mention) (s : Targets) (g : Nodes) (h : IsBound level n base ms s g) (m : Mention) → size ≡ length base → m.number < n → IsBound level n base (ms ++ m ∷ []) (bind_one level size m s g).scope (bind_one level size m s g).graph
bound_one level n size base ms s g h m e number_lies =
    subst (λ (known : Option ℕ). IsBound level n base (ms ++ m ∷ []) (bind_as level known m s g).scope (bind_as level known m s g).graph) (sym (known_is level n size base ms s g h e m.name.text))
    (bound_by level n base ms s g h m number_lies (h.node m.name.text) refl)

bound_all : (level n size : ℕ) (base : Targets) (ns ms : List Mention) (s : Targets) (g : Nodes) → IsBound level n base ms s g → size ≡ length base → AllUnder n ns → IsBound level n base (ms ++ ns) (bind_all level size ns s g).scope (bind_all level size ns s g).graph
bound_all level n size base [] ms s g h e under = subst (λ (all : List Mention). IsBound level n base all s g) (sym (append-nil ms)) h
bound_all level n size base (m ∷ ns) ms s g h e under =
    let next = bind_one level size m s g in
    subst (λ (all : List Mention). IsBound level n base all (bind_all level size ns next.scope next.graph).scope (bind_all level size ns next.scope next.graph).graph) (append_assoc ms (m ∷ []) ns)
    (bound_all level n size base ns (ms ++ m ∷ []) next.scope next.graph (bound_one level n size base ms s g h m e under.0) e under.1)

-- ---- before a name is bound

start_size : (ds : Declarations) → length (start ds) ≡ count_declarations ds
start_size no_declaration = refl
start_size (declaration d ds) = ap (λ (n : ℕ). suc n) (start_size ds)

start_none : (ds : Declarations) (a : ℕ) → needs_of (start ds) a ≡ []
start_none no_declaration a = refl
start_none (declaration d ds) zero = refl
start_none (declaration d ds) (suc a) = start_none ds a

unneeded : (ds : Declarations) (a b : ℕ) → Needs (start ds) a b → ⊥
unneeded ds a b need = none_needed b (subst (λ (xs : List ℕ). Contains xs b) (start_none ds a) need)

start_bound : (level : ℕ) (ds : Declarations) (base : Targets) → IsBound level (count_declarations ds) base [] base (start ds)
start_bound level ds base = record {
  front = [];
  node = λ t. None;
  scope_is = refl;
  stands = λ t. refl;
  since = λ t. refl;
  graph = record {
    enough = (let size = start_size ds in omega (arith, size));
    inside = λ t m e. absurd cc;
    apart = λ t u m e f. absurd cc;
    known = λ a t h. absurd h;
    only = λ t m e. absurd cc;
    below = λ a t h. absurd h;
    using = λ a m lt. (λ need. absurd (unneeded ds a m need), λ l. absurd l.mentioned);
    binding = λ m a ge. (λ need. absurd (unneeded ds m a need), λ l. absurd l.mentioned);
  };
}

-- ---- the block's frame

pub kept_block : (ds : Declarations) (gs : List Frame) (s t : Targets) (fs : List kept.Frame) (o : OpenBlock) (ms : List Mention) (g : Nodes) → InScope gs s fs → ms ≡ bound_from 0 ds → g ≡ start ds → bind_all (length fs) (length s) ms s g ≡ record { scope = t; graph = o.graph } → declarations_of o.declarations ≡ ds → o.begun ≡ 0 → o.current ≡ None → OverBlock ds 0 None [] (InScope gs) t (fs ++ record { size = length s; block = Some o } ∷ [])
kept_block ds gs s t fs o ms g h names starts e block begun current =
    let n = count_declarations ds in
    let whole : n ≡ n = refl in
    let now = bind_all (length fs) (length s) (bound_from 0 ds) s (start ds) in
    let same : now ≡ record { scope = t; graph = o.graph } = ap (λ (all : List Mention). bind_all (length fs) (length s) all s (start ds)) (sym names) ∙ ap (bind_all (length fs) (length s) ms s) (sym starts) ∙ e in
    let bound : IsBound (length fs) n s (bound_from 0 ds) now.scope now.graph = bound_all (length fs) n (length s) s (bound_from 0 ds) [] s (start ds) (start_bound (length fs) ds s) refl (all_under n 0 ds (omega arith)) in
    let there : IsBound (length fs) n s (bound_from 0 ds) t o.graph = subst (λ (all : Named). IsBound (length fs) n s (bound_from 0 ds) all.scope all.graph) same bound in
    record {
      scope = s;
      frames = fs;
      front = there.front;
      node = there.node;
      open_block = o;
      scope_is = there.scope_is;
      stands = there.stands;
      frames_are = refl;
      is_open = record { block_is = block; begun_is = begun; current_is = current; under = λ i f. absurd cc; graph = there.graph };
      below = h;
    }
