-- What the code keeps stays as it is to be, whatever event comes.
use Rattle.std.proofs.Common.{◌≡◌, ℕ, zero, suc, ◌+◌, ◌-◌, ◌<◌, ◌≤◌, Bool, true, false, List, [], ◌∷◌, ◌++◌, length, drop, get_or, set, Option, Some, None, if◌then◌else◌, refl, sym, ap, ◌∙◌, subst, arith, length-append, length-set}
use Rattle.hdc_tree.specs.declared.name.Name.{Name}
use Rattle.hdc_written.specs.Scopes.{standing_for, names_text}
use Rattle.hdc_written.specs.Written.{Declarations, all_bound}
use Rattle.hdc_written.proofs.Scoping.{bound_joined, left_bound}
use Rattle.hdc_written.proofs.Binding.{left_again}
use Rattle.hdc_needs.specs.declared.bind.Target.{Target}
use Rattle.hdc_needs.specs.declared.bind.Target.TheVariants as target
use Rattle.hdc_needs.specs.declared.frames.OpenBlock.{OpenBlock}
use Rattle.hdc_needs.specs.declared.frames.Frame as kept
use Rattle.hdc_needs.specs.Agrees.{IsGraph, IsOpen, located, OverPatterns, OverBlock, InScope}
use Rattle.hdc_needs.specs.Bind.{Targets}
use Rattle.hdc_needs.specs.Binders.{bound_from}
use Rattle.hdc_needs.specs.Frames.{needing_by, needing, beginning, going_behind, frame_needing, frame_beginning, frame_going_behind, no_frame}
use Rattle.hdc_needs.specs.Walk.{Mention, Frame, patterns, local, count_declarations, logged, use_name}
use Rattle.hdc_needs.proofs.Graphs.{used_more}
use Rattle.hdc_needs.proofs.Linking.{within_is}
use Rattle.hdc_needs.proofs.Stands.{named_has, has_named, has_binder, binder_has, stands_bound}

-- ---- lists that grow at the end

module _ {X : Type 0} where
  last_size : (xs : List X) (x : X) → length (xs ++ x ∷ []) ≡ length xs + 1
  last_size xs x = length-append xs (x ∷ [])

  last_set : (xs : List X) (x y : X) → set (xs ++ x ∷ []) (length xs) y ≡ xs ++ y ∷ []
  last_set [] x y = refl
  last_set (z ∷ xs) x y = ap (λ rest. z ∷ rest) (last_set xs x y)

  last_got : (xs : List X) (x d : X) → get_or (xs ++ x ∷ []) (length xs) d ≡ x
  last_got [] x d = refl
  last_got (z ∷ xs) x d = last_got xs x d

  front_set : (xs : List X) (x y : X) (i : ℕ) → i < length xs → set (xs ++ x ∷ []) i y ≡ set xs i y ++ x ∷ []
  front_set [] x y i lt = absurd (omega arith)
  front_set (z ∷ xs) x y zero lt = refl
  front_set (z ∷ xs) x y (suc i) lt = ap (λ rest. z ∷ rest) (front_set xs x y i (omega arith))

  front_got : (xs : List X) (x d : X) (i : ℕ) → i < length xs → get_or (xs ++ x ∷ []) i d ≡ get_or xs i d
  front_got [] x d i lt = absurd (omega arith)
  front_got (z ∷ xs) x d zero lt = refl
  front_got (z ∷ xs) x d (suc i) lt = front_got xs x d i (omega arith)

  -- the last one is changed
  pub last_changed : (f : X → X) (xs : List X) (x d : X) → set (xs ++ x ∷ []) (length (xs ++ x ∷ []) - 1) (f (get_or (xs ++ x ∷ []) (length (xs ++ x ∷ []) - 1) d)) ≡ xs ++ f x ∷ []
  last_changed f xs x d =
      let size = last_size xs x in
      let at : length (xs ++ x ∷ []) - 1 ≡ length xs = omega (arith, size) in
      ap (λ n. set (xs ++ x ∷ []) n (f (get_or (xs ++ x ∷ []) n d))) at
      ∙ ap (λ z. set (xs ++ x ∷ []) (length xs) (f z)) (last_got xs x d)
      ∙ last_set xs x (f x)

-- ---- a name is used

-- what a use does to frames
abbrev pub needed : Option Target → List kept.Frame → List kept.Frame
needed None fs = fs
needed (Some target.Variable) fs = fs
needed (Some (target.Local level node)) fs = set fs level (frame_needing node (get_or fs level no_frame))

-- a block is below the number of frames
abbrev IsUnder : Option Target → ℕ → Type 0
IsUnder None n = Unit {0}
IsUnder (Some target.Variable) n = Unit {0}
IsUnder (Some (target.Local level node)) n = level < n

under_more : (r : Option Target) (n m : ℕ) → n ≤ m → IsUnder r n → IsUnder r m
under_more None n m le h = tt
under_more (Some target.Variable) n m le h = tt
under_more (Some (target.Local level node)) n m le h = omega (arith, le, h)

needed_below : (r : Option Target) (fs : List kept.Frame) (f : kept.Frame) → IsUnder r (length fs) → needed r (fs ++ f ∷ []) ≡ needed r fs ++ f ∷ []
needed_below None fs f h = refl
needed_below (Some target.Variable) fs f h = refl
needed_below (Some (target.Local level node)) fs f h =
    ap (λ g. set (fs ++ f ∷ []) level (frame_needing node g)) (front_got fs f no_frame level h)
    ∙ front_set fs f (frame_needing node (get_or fs level no_frame)) level h

needed_size : (r : Option Target) (fs : List kept.Frame) → length (needed r fs) ≡ length fs
needed_size None fs = refl
needed_size (Some target.Variable) fs = refl
needed_size (Some (target.Local level node)) fs = length-set fs level (frame_needing node (get_or fs level no_frame))

-- whatever stands below, and a block's own names
under_located : (level n : ℕ) (own : Option ℕ) (rest : Option Target) → level < n → IsUnder rest n → IsUnder (located level own rest) n
under_located level n None rest lt h = h
under_located level n (Some node) rest lt h = lt

under_if : (b : Bool) (rest : Option Target) (n : ℕ) → IsUnder rest n → IsUnder (if b then Some target.Variable else rest) n
under_if true rest n h = tt
under_if false rest n h = h

all_under : (gs : List Frame) (s : Targets) (fs : List kept.Frame) → InScope gs s fs → (t : List ℕ) → IsUnder (standing_for t s) (length fs)
all_under [] s fs h t = subst (λ (v : Targets). IsUnder (standing_for t v) (length fs)) (sym h.0) tt
all_under (patterns xs ∷ gs) s fs h t =
    let rest = all_under gs h.scope h.frames h.below t in
    let size = ap length h.frames_are ∙ last_size h.frames _ in
    subst (λ (r : Option Target). IsUnder r (length fs)) (sym (ap (standing_for t) h.scope_is ∙ stands_bound target.Variable xs h.scope t))
    (under_if (names_text xs t) (standing_for t h.scope) (length fs) (under_more (standing_for t h.scope) (length h.frames) (length fs) (omega (arith, size)) rest))
all_under (local ds k c us ∷ gs) s fs h t =
    let rest = all_under gs h.scope h.frames h.below t in
    let size = ap length h.frames_are ∙ last_size h.frames _ in
    subst (λ (r : Option Target). IsUnder r (length fs)) (sym (h.stands t))
    (under_located (length h.frames) (length fs) (h.node t) (standing_for t h.scope) (omega (arith, size)) (under_more (standing_for t h.scope) (length h.frames) (length fs) (omega (arith, size)) rest))

-- a block's own name is used
open_needing : (ds : Declarations) (k : ℕ) (c : Option ℕ) (us : List Mention) (node : List ℕ → Option ℕ) (o : OpenBlock) (y : Name) (m : ℕ) → IsOpen ds k c us node o → node y.text ≡ Some m → IsOpen ds k c (logged c y us) node (needing m o)
open_needing ds k None us node o y m h e = record {
  block_is = h.block_is;
  begun_is = h.begun_is;
  current_is = h.current_is;
  under = h.under;
  graph = subst (λ (g : List (List ℕ)). IsGraph (count_declarations ds) (bound_from 0 ds) us node g) (sym (ap (λ cur. needing_by cur m o.graph) h.current_is)) h.graph;
}
open_needing ds k (Some i) us node o y m h e =
    let lies : i < count_declarations ds = h.under i refl in
    let enough = h.graph.enough in
    let in_graph : i < length o.graph = omega (arith, lies, enough) in
    let inside = h.graph.inside y.text m e in
    record {
      block_is = h.block_is;
      begun_is = h.begun_is;
      current_is = h.current_is;
      under = h.under;
      graph = subst (λ (g : List (List ℕ)). IsGraph (count_declarations ds) (bound_from 0 ds) (record { number = i; name = y } ∷ us) node g) (sym (ap (λ cur. needing_by cur m o.graph) h.current_is ∙ within_is o.graph i m in_graph inside.1))
          (used_more (count_declarations ds) (bound_from 0 ds) us node o.graph h.graph (record { number = i; name = y }) m lies e);
    }

-- a name has a node where the block binds it
own_node : (ds : Declarations) (us : List Mention) (node : List ℕ → Option ℕ) (g : List (List ℕ)) (t : List ℕ) → IsGraph (count_declarations ds) (bound_from 0 ds) us node g → names_text (all_bound ds) t ≡ true → (m : ℕ) × (node t ≡ Some m)
own_node ds us node g t h e = let r = has_binder 0 ds t (named_has (all_bound ds) t e) in h.known r.0 t r.1

no_node : (ds : Declarations) (us : List Mention) (node : List ℕ → Option ℕ) (g : List (List ℕ)) (t : List ℕ) → IsGraph (count_declarations ds) (bound_from 0 ds) us node g → names_text (all_bound ds) t ≡ false → node t ≡ None
no_node ds us node g t h e = by (node t) refl
  where
    by : (r : Option ℕ) → node t ≡ r → r ≡ None
    by None f = refl
    by (Some m) f = let r = h.only t m f in let p : true ≡ false = sym (has_named (all_bound ds) t (binder_has 0 ds r.0 t r.1)) ∙ e in absurd cc

-- a name of a block above is not one of this frame
passed_patterns : (y : Name) (xs : List Name) (gs : List Frame) (s : Targets) (fs : List kept.Frame) (h : OverPatterns xs (InScope gs) s fs) → InScope (use_name y gs) h.scope (needed (standing_for y.text h.scope) h.frames) → (b : Bool) → names_text xs y.text ≡ b → InScope (if b then patterns xs ∷ gs else (patterns xs ∷ use_name y gs)) s (needed (standing_for y.text s) fs)
passed_patterns y xs gs s fs h rest true e =
    let stands : standing_for y.text s ≡ Some target.Variable = ap (standing_for y.text) h.scope_is ∙ stands_bound target.Variable xs h.scope y.text ∙ ap (λ b. if b then Some target.Variable else standing_for y.text h.scope) e in
    subst (λ (r : Option Target). OverPatterns xs (InScope gs) s (needed r fs)) (sym stands) h
passed_patterns y xs gs s fs h rest false e =
    let r = standing_for y.text h.scope in
    let stands : standing_for y.text s ≡ r = ap (standing_for y.text) h.scope_is ∙ stands_bound target.Variable xs h.scope y.text ∙ ap (λ b. if b then Some target.Variable else standing_for y.text h.scope) e in
    record {
      scope = h.scope;
      frames = needed r h.frames;
      scope_is = h.scope_is;
      frames_are = ap (λ q. needed q fs) stands ∙ ap (needed r) h.frames_are ∙ needed_below r h.frames (record { size = length h.scope; block = None }) (all_under gs h.scope h.frames h.below y.text);
      below = rest;
    }

passed_block : (y : Name) (ds : Declarations) (k : ℕ) (c : Option ℕ) (us : List Mention) (gs : List Frame) (s : Targets) (fs : List kept.Frame) (h : OverBlock ds k c us (InScope gs) s fs) → InScope (use_name y gs) h.scope (needed (standing_for y.text h.scope) h.frames) → (b : Bool) → names_text (all_bound ds) y.text ≡ b → InScope (if b then local ds k c (logged c y us) ∷ gs else (local ds k c us ∷ use_name y gs)) s (needed (standing_for y.text s) fs)
passed_block y ds k c us gs s fs h rest true e =
    let own = own_node ds us h.node h.open_block.graph y.text h.is_open.graph e in
    let top : kept.Frame = record { size = length h.scope; block = Some h.open_block } in
    let stands : standing_for y.text s ≡ Some (target.Local (length h.frames) own.0) = h.stands y.text ∙ ap (λ r. located (length h.frames) r (standing_for y.text h.scope)) own.1 in
    record {
      scope = h.scope;
      frames = h.frames;
      front = h.front;
      node = h.node;
      open_block = needing own.0 h.open_block;
      scope_is = h.scope_is;
      stands = h.stands;
      frames_are = ap (λ q. needed q fs) stands ∙ ap (λ gs. set gs (length h.frames) (frame_needing own.0 (get_or gs (length h.frames) no_frame))) h.frames_are
          ∙ ap (λ f. set (h.frames ++ top ∷ []) (length h.frames) (frame_needing own.0 f)) (last_got h.frames top no_frame)
          ∙ last_set h.frames top (frame_needing own.0 top);
      is_open = open_needing ds k c us h.node h.open_block y own.0 h.is_open own.1;
      below = h.below;
    }
passed_block y ds k c us gs s fs h rest false e =
    let none = no_node ds us h.node h.open_block.graph y.text h.is_open.graph e in
    let r = standing_for y.text h.scope in
    let stands : standing_for y.text s ≡ r = h.stands y.text ∙ ap (λ q. located (length h.frames) q r) none in
    let size = needed_size r h.frames in
    record {
      scope = h.scope;
      frames = needed r h.frames;
      front = h.front;
      node = h.node;
      open_block = h.open_block;
      scope_is = h.scope_is;
      stands = λ t. (h.stands t ∙ ap (λ n. located n (h.node t) (standing_for t h.scope)) (sym size));
      frames_are = ap (λ q. needed q fs) stands ∙ ap (needed r) h.frames_are ∙ needed_below r h.frames (record { size = length h.scope; block = Some h.open_block }) (all_under gs h.scope h.frames h.below y.text);
      is_open = h.is_open;
      below = rest;
    }

pub kept_use : (y : Name) (gs : List Frame) (s : Targets) (fs : List kept.Frame) → InScope gs s fs → InScope (use_name y gs) s (needed (standing_for y.text s) fs)
kept_use y [] s fs h = subst (λ (v : Targets). InScope [] s (needed (standing_for y.text v) fs)) (sym h.0) h
kept_use y (patterns xs ∷ gs) s fs h = passed_patterns y xs gs s fs h (kept_use y gs h.scope h.frames h.below) (names_text xs y.text) refl
kept_use y (local ds k c us ∷ gs) s fs h = passed_block y ds k c us gs s fs h (kept_use y gs h.scope h.frames h.below) (names_text (all_bound ds) y.text) refl

-- ---- the last frame changes

pub kept_begun : (ds : Declarations) (k : ℕ) (c : Option ℕ) (us : List Mention) (gs : List Frame) (s : Targets) (fs : List kept.Frame) → k < count_declarations ds → OverBlock ds k c us (InScope gs) s fs → OverBlock ds (suc k) (Some k) us (InScope gs) s (set fs (length fs - 1) (frame_beginning (get_or fs (length fs - 1) no_frame)))
kept_begun ds k c us gs s fs lt h =
    let top : kept.Frame = record { size = length h.scope; block = Some h.open_block } in
    let one = h.is_open.begun_is in
    record {
      scope = h.scope;
      frames = h.frames;
      front = h.front;
      node = h.node;
      open_block = beginning h.open_block;
      scope_is = h.scope_is;
      stands = h.stands;
      frames_are = ap (λ gs. set gs (length gs - 1) (frame_beginning (get_or gs (length gs - 1) no_frame))) h.frames_are ∙ last_changed frame_beginning h.frames top no_frame;
      is_open = record {
        block_is = h.is_open.block_is;
        begun_is = omega (arith, one);
        current_is = ap Some h.is_open.begun_is;
        under = λ i e. (let same : k ≡ i = cc in omega (arith, lt, same));
        graph = h.is_open.graph;
      };
      below = h.below;
    }

pub kept_behind : (ds : Declarations) (k : ℕ) (c : Option ℕ) (us : List Mention) (gs : List Frame) (s : Targets) (fs : List kept.Frame) → OverBlock ds k c us (InScope gs) s fs → OverBlock ds k None us (InScope gs) s (set fs (length fs - 1) (frame_going_behind (get_or fs (length fs - 1) no_frame)))
kept_behind ds k c us gs s fs h =
    let top : kept.Frame = record { size = length h.scope; block = Some h.open_block } in
    record {
      scope = h.scope;
      frames = h.frames;
      front = h.front;
      node = h.node;
      open_block = going_behind h.open_block;
      scope_is = h.scope_is;
      stands = h.stands;
      frames_are = ap (λ gs. set gs (length gs - 1) (frame_going_behind (get_or gs (length gs - 1) no_frame))) h.frames_are ∙ last_changed frame_going_behind h.frames top no_frame;
      is_open = record {
        block_is = h.is_open.block_is;
        begun_is = h.is_open.begun_is;
        current_is = refl;
        under = λ i e. absurd cc;
        graph = h.is_open.graph;
      };
      below = h.below;
    }

-- ---- variables come into scope

pub kept_opened : (gs : List Frame) (s : Targets) (fs : List kept.Frame) → InScope gs s fs → OverPatterns [] (InScope gs) s (fs ++ record { size = length s; block = None } ∷ [])
kept_opened gs s fs h = record { scope = s; frames = fs; scope_is = refl; frames_are = refl; below = h }

pub kept_introduced : (x : Name) (xs : List Name) (gs : List Frame) (s : Targets) (fs : List kept.Frame) → OverPatterns xs (InScope gs) s fs → OverPatterns (xs ++ x ∷ []) (InScope gs) (record { name = x.text; what = target.Variable } ∷ s) fs
kept_introduced x xs gs s fs h = record {
  scope = h.scope;
  frames = h.frames;
  scope_is = ap (λ (v : Targets). record { name = x.text; what = target.Variable } ∷ v) h.scope_is ∙ sym (bound_joined target.Variable xs (x ∷ []) h.scope);
  frames_are = h.frames_are;
  below = h.below;
}

-- ---- what came into scope last goes

module _ {X : Type 0} where
  pub same_ends : (xs ys : List X) (x y : X) → xs ++ x ∷ [] ≡ ys ++ y ∷ [] → (xs ≡ ys) × (x ≡ y)
  same_ends [] [] x y e = (refl, cc)
  same_ends [] (b ∷ ys) x y e = (let size = ap length e in let more = last_size ys y in absurd (omega (arith, size, more)))
  same_ends (a ∷ xs) [] x y e = (let size = ap length e in let more = last_size xs x in absurd (omega (arith, size, more)))
  same_ends (a ∷ xs) (b ∷ ys) x y e =
      let first : a ≡ b = cc in
      let rest : xs ++ x ∷ [] ≡ ys ++ y ∷ [] = cc in
      let both = same_ends xs ys x y rest in
      let front = both.0 in
      (cc, both.1)

pub left_patterns : (xs : List Name) (gs : List Frame) (s : Targets) (fs rest : List kept.Frame) (f : kept.Frame) → OverPatterns xs (InScope gs) s fs → fs ≡ rest ++ f ∷ [] → (f.block ≡ None) × InScope gs (drop (length s - f.size) s) rest
left_patterns xs gs s fs rest f h e =
    let ends = same_ends h.frames rest (record { size = length h.scope; block = None }) f (sym h.frames_are ∙ e) in
    let left : drop (length s - f.size) s ≡ h.scope =
    ap (λ (g : kept.Frame). drop (length s - g.size) s) (sym ends.1)
    ∙ ap (λ (v : Targets). drop (length v - length h.scope) v) h.scope_is
    ∙ left_bound target.Variable xs h.scope in
    (ap (λ (g : kept.Frame). g.block) (sym ends.1), subst (λ (v : Targets). InScope gs v rest) (sym left) (subst (λ (gs' : List kept.Frame). InScope gs h.scope gs') ends.0 h.below))

-- a block that goes, with its graph
pub record LeftBlock (ds : Declarations) (k : ℕ) (c : Option ℕ) (us : List Mention) (b : Option OpenBlock) : Type 0 where
  pub node : List ℕ → Option ℕ
  pub open_block : OpenBlock
  pub is : b ≡ Some open_block
  pub is_open : IsOpen ds k c us node open_block

pub left_block : (ds : Declarations) (k : ℕ) (c : Option ℕ) (us : List Mention) (gs : List Frame) (s : Targets) (fs rest : List kept.Frame) (f : kept.Frame) → OverBlock ds k c us (InScope gs) s fs → fs ≡ rest ++ f ∷ [] → LeftBlock ds k c us f.block × InScope gs (drop (length s - f.size) s) rest
left_block ds k c us gs s fs rest f h e =
    let ends = same_ends h.frames rest (record { size = length h.scope; block = Some h.open_block }) f (sym h.frames_are ∙ e) in
    let left : drop (length s - f.size) s ≡ h.scope =
    ap (λ (g : kept.Frame). drop (length s - g.size) s) (sym ends.1)
    ∙ ap (λ (v : Targets). drop (length v - length h.scope) v) h.scope_is
    ∙ left_again h.front h.scope in (
      record { node = h.node; open_block = h.open_block; is = ap (λ (g : kept.Frame). g.block) (sym ends.1); is_open = h.is_open },
      subst (λ (v : Targets). InScope gs v rest) (sym left) (subst (λ (gs' : List kept.Frame). InScope gs h.scope gs') ends.0 h.below),
    )
