-- What the code keeps is described by the state behind each event.
use Rattle.std.proofs.Common.{◌≡◌, ℕ, suc, ◌+◌, ◌-◌, ◌<◌, Bool, true, false, nat_lt, List, [], ◌∷◌, ◌++◌, map, length, take, drop, get_or, set, Option, Some, None, if◌then◌else◌, refl, sym, ap, ◌∙◌, subst}
use borrow.Author.Tests.{ltb-true}
use Rattle.std.proofs.lemmas.List.{take_more}
use Rattle.hdc_tree.specs.declared.name.Name.{Name}
use Rattle.hdc_tree.specs.declared.program.NextTop.{NextTop}
use Rattle.hdc_tree.specs.declared.program.Top.{Top}
use Rattle.hdc_graph.specs.Needs.{Nodes}
use Rattle.hdc_written.specs.declared.breach.Found.{Found}
use Rattle.hdc_written.specs.declared.events.Event as recorded_event
use Rattle.hdc_written.specs.Breaches.{IsFirst}
use Rattle.hdc_written.specs.Events.{used, opened, introduced, block, declaring, body, closed}
use Rattle.hdc_written.specs.Mirror.{tops_behind}
use Rattle.hdc_written.specs.Recorded.{event_of}
use Rattle.hdc_written.specs.Scopes.{standing_for}
use Rattle.hdc_written.specs.Written.{Declarations}
use Rattle.hdc_needs.specs.declared.bind.Target.{Target}
use Rattle.hdc_needs.specs.declared.bind.Target.TheVariants as target
use Rattle.hdc_needs.specs.declared.frames.OpenBlock.{OpenBlock}
use Rattle.hdc_needs.specs.declared.frames.Frame as kept
use Rattle.hdc_needs.specs.declared.walk.Walk.{Walk}
use Rattle.hdc_needs.specs.Agrees.{InScope, OverPatterns, OverBlock, HaveOrders, Describes}
use Rattle.hdc_needs.specs.Bind.{Targets, start, bind_all}
use Rattle.hdc_needs.specs.Binders.{bound_from}
use Rattle.hdc_needs.specs.Frames.{frame_beginning, frame_going_behind, no_frame}
use Rattle.hdc_needs.specs.Kept.{declarations_of}
use Rattle.hdc_needs.specs.Needy.{IsNeedy, text_blocks}
use Rattle.hdc_needs.specs.Orders.{IsOrderIn, AreOrders}
use Rattle.hdc_needs.specs.Values.{AreNoted}
use Rattle.hdc_needs.specs.Walk.{Mention, Frame, patterns, local, Ended, State, lost, going, count_declarations, use_name, step, run, run_top, run_tops}
use Rattle.hdc_needs.proofs.Finding.{found_first}
use Rattle.hdc_needs.proofs.Keeping.{needed, kept_use, kept_begun, kept_behind, kept_opened, kept_introduced, left_patterns, left_block}
use Rattle.hdc_needs.proofs.Noting.{found_more}
use Rattle.hdc_needs.proofs.Opening.{kept_block}
use Rattle.hdc_needs.proofs.Ordering.{ordered_more, has_order, have_orders}
use Rattle.hdc_needs.proofs.Walking.{ran_tops}

-- a name is used
pub used_done : (w : Walk) (y : Name) (fs : List kept.Frame) (r : Option Target) (state : State) → standing_for y.text w.scope ≡ r → fs ≡ needed r w.frames → Describes w state → Describes (record { scope = w.scope; frames = fs; found = w.found; orders = w.orders }) (step (used y) state)
used_done w y fs r lost stands e h = h
used_done w y fs r (going gs es) stands e h =
    (subst (λ (all : List kept.Frame). InScope (use_name y gs) w.scope all) (ap (λ q. needed q w.frames) stands ∙ sym e) (kept_use y gs w.scope w.frames h.0), h.1, h.2)

-- variables are to come into scope, and one comes
pub opened_done : (w : Walk) (fs : List kept.Frame) (state : State) → fs ≡ w.frames ++ record { size = length w.scope; block = None } ∷ [] → Describes w state → Describes (record { scope = w.scope; frames = fs; found = w.found; orders = w.orders }) (step opened state)
opened_done w fs lost e h = h
opened_done w fs (going gs es) e h = (subst (λ (all : List kept.Frame). OverPatterns [] (InScope gs) w.scope all) (sym e) (kept_opened gs w.scope w.frames h.0), h.1, h.2)

pub introduced_done : (w : Walk) (x : Name) (s : Targets) (state : State) → s ≡ record { name = x.text; what = target.Variable } ∷ w.scope → Describes w state → Describes (record { scope = s; frames = w.frames; found = w.found; orders = w.orders }) (step (introduced x) state)
introduced_done w x s lost e h = h
introduced_done w x s (going [] es) e h = tt
introduced_done w x s (going (patterns xs ∷ gs) es) e h = (subst (λ (v : Targets). OverPatterns (xs ++ x ∷ []) (InScope gs) v w.frames) (sym e) (kept_introduced x xs gs w.scope w.frames h.0), h.1, h.2)
introduced_done w x s (going (local ds k c us ∷ gs) es) e h = tt

-- a declaration begins, and what the declarations are for
begun_by : (w : Walk) (fs : List kept.Frame) (ds : Declarations) (k : ℕ) (c : Option ℕ) (us : List Mention) (gs : List Frame) (es : List Ended) → fs ≡ set w.frames (length w.frames - 1) (frame_beginning (get_or w.frames (length w.frames - 1) no_frame)) → Describes w (going (local ds k c us ∷ gs) es) → (b : Bool) → nat_lt k (count_declarations ds) ≡ b → Describes (record { scope = w.scope; frames = fs; found = w.found; orders = w.orders }) (if b then going (local ds (suc k) (Some k) us ∷ gs) es else lost)
begun_by w fs ds k c us gs es e h true lt = (subst (λ (all : List kept.Frame). OverBlock ds (suc k) (Some k) us (InScope gs) w.scope all) (sym e) (kept_begun ds k c us gs w.scope w.frames (ltb-true k (count_declarations ds) lt) h.0), h.1, h.2)
begun_by w fs ds k c us gs es e h false ge = tt

pub begun_done : (w : Walk) (fs : List kept.Frame) (state : State) → fs ≡ set w.frames (length w.frames - 1) (frame_beginning (get_or w.frames (length w.frames - 1) no_frame)) → Describes w state → Describes (record { scope = w.scope; frames = fs; found = w.found; orders = w.orders }) (step declaring state)
begun_done w fs lost e h = h
begun_done w fs (going [] es) e h = tt
begun_done w fs (going (patterns xs ∷ gs) es) e h = tt
begun_done w fs (going (local ds k c us ∷ gs) es) e h = begun_by w fs ds k c us gs es e h (nat_lt k (count_declarations ds)) refl

pub behind_done : (w : Walk) (fs : List kept.Frame) (state : State) → fs ≡ set w.frames (length w.frames - 1) (frame_going_behind (get_or w.frames (length w.frames - 1) no_frame)) → Describes w state → Describes (record { scope = w.scope; frames = fs; found = w.found; orders = w.orders }) (step body state)
behind_done w fs lost e h = h
behind_done w fs (going [] es) e h = tt
behind_done w fs (going (patterns xs ∷ gs) es) e h = tt
behind_done w fs (going (local ds k c us ∷ gs) es) e h = (subst (λ (all : List kept.Frame). OverBlock ds k None us (InScope gs) w.scope all) (sym e) (kept_behind ds k c us gs w.scope w.frames h.0), h.1, h.2)

-- variables go
pub closed_patterns : (w : Walk) (s : Targets) (rest : List kept.Frame) (f : kept.Frame) (state : State) → w.frames ≡ rest ++ f ∷ [] → s ≡ drop (length w.scope - f.size) w.scope → f.block ≡ None → Describes w state → Describes (record { scope = s; frames = rest; found = w.found; orders = w.orders }) (step closed state)
closed_patterns w s rest f lost e left is h = h
closed_patterns w s rest f (going [] es) e left is h = tt
closed_patterns w s rest f (going (patterns xs ∷ gs) es) e left is h = (subst (λ (v : Targets). InScope gs v rest) (sym left) (left_patterns xs gs w.scope w.frames rest f h.0 e).1, h.1, h.2)
closed_patterns w s rest f (going (local ds k c us ∷ gs) es) e left is h =
    let l = (left_block ds k c us gs w.scope w.frames rest f h.0 e).0 in
    let wrong : None ≡ Some l.open_block = sym is ∙ l.is in
    absurd cc

-- a block goes
pub closed_block : (w : Walk) (s : Targets) (rest : List kept.Frame) (f : kept.Frame) (o : OpenBlock) (found : Found) (order : List ℕ) (orders : List (List ℕ)) (state : State) → w.frames ≡ rest ++ f ∷ [] → s ≡ drop (length w.scope - f.size) w.scope → f.block ≡ Some o → AreNoted o.graph (declarations_of o.declarations) w.found found → IsOrderIn o.graph (declarations_of o.declarations) order → orders ≡ w.orders ++ order ∷ [] → Describes w state → Describes (record { scope = s; frames = rest; found = found; orders = orders }) (step closed state)
closed_block w s rest f o found order orders lost e left is noted ordered more h = h
closed_block w s rest f o found order orders (going [] es) e left is noted ordered more h = tt
closed_block w s rest f o found order orders (going (patterns xs ∷ gs) es) e left is noted ordered more h =
    let wrong : Some o ≡ None = sym is ∙ (left_patterns xs gs w.scope w.frames rest f h.0 e).0 in
    absurd cc
closed_block w s rest f o found order orders (going (local ds k c us ∷ gs) es) e left is noted ordered more h =
    let both = left_block ds k c us gs w.scope w.frames rest f h.0 e in
    let l = both.0 in
    let some : Some o ≡ Some l.open_block = sym is ∙ l.is in
    let same : o ≡ l.open_block = cc in
    let own = subst (λ (p : OpenBlock). AreNoted p.graph (declarations_of p.declarations) w.found found) same noted in
    let here = subst (λ (z : Declarations). AreNoted l.open_block.graph z w.found found) l.is_open.block_is own in
    let own_order = subst (λ (p : OpenBlock). IsOrderIn p.graph (declarations_of p.declarations) order) same ordered in
    let order_here = subst (λ (z : Declarations). IsOrderIn l.open_block.graph z order) l.is_open.block_is own_order in (
      subst (λ (v : Targets). InScope gs v rest) (sym left) both.1,
      found_more ds us l.node l.open_block.graph es w.found found l.is_open.graph here h.1,
      subst (HaveOrders (es ++ record { declarations = ds; uses = us } ∷ [])) (sym more) (ordered_more es w.orders (record { declarations = ds; uses = us }) order h.2 (has_order ds us l.node l.open_block.graph l.is_open.graph order order_here)),
    )

-- a block comes into scope
pub block_done : (w : Walk) (s : Targets) (fs : List kept.Frame) (level size : ℕ) (ms : List Mention) (first : Nodes) (o : OpenBlock) (state : State) → level ≡ length w.frames → size ≡ length w.scope → ms ≡ bound_from 0 (declarations_of o.declarations) → first ≡ start (declarations_of o.declarations) → bind_all level size ms w.scope first ≡ record { scope = s; graph = o.graph } → o.begun ≡ 0 → o.current ≡ None → fs ≡ w.frames ++ record { size = size; block = Some o } ∷ [] → Describes w state → Describes (record { scope = s; frames = fs; found = w.found; orders = w.orders }) (step (block (declarations_of o.declarations)) state)
block_done w s fs level size ms first o lost level_is size_is ms_is first_is bound begun current e h = h
block_done w s fs level size ms first o (going gs es) level_is size_is ms_is first_is bound begun current e h =
    let now : bind_all (length w.frames) (length w.scope) ms w.scope first ≡ record { scope = s; graph = o.graph } =
    ap (λ (n : ℕ). bind_all n (length w.scope) ms w.scope first) (sym level_is) ∙ ap (λ (n : ℕ). bind_all level n ms w.scope first) (sym size_is) ∙ bound in
    let frames : fs ≡ w.frames ++ record { size = length w.scope; block = Some o } ∷ [] =
    e ∙ ap (λ (n : ℕ). w.frames ++ record { size = n; block = Some o } ∷ []) size_is in (
      subst (λ (all : List kept.Frame). OverBlock (declarations_of o.declarations) 0 None [] (InScope gs) s all) (sym frames)
          (kept_block (declarations_of o.declarations) gs w.scope s w.frames o ms first h.0 ms_is first_is now refl begun current),
      h.1,
      h.2,
    )

-- ---- one turn of a loop

run_behind : (xs : List recorded_event.Event) (e : recorded_event.Event) (state : State) → run (map event_of (xs ++ e ∷ [])) state ≡ step (event_of e) (run (map event_of xs) state)
run_behind [] e state = refl
run_behind (x ∷ xs) e state = run_behind xs e (step (event_of x) state)

pub next_event : (es : List recorded_event.Event) (i : ℕ) (e : recorded_event.Event) (state : State) → i < length es → e ≡ get_or es i e → run (map event_of (take (i + 1) es)) state ≡ step (event_of e) (run (map event_of (take i es)) state)
next_event es i e state lt is = ap (λ xs. run (map event_of xs) state) (take_more es i e lt ∙ ap (λ x. take i es ++ x ∷ []) (sym is)) ∙ run_behind (take i es) e state

tops_joined : (xs : List NextTop) (x : NextTop) (state : State) → run_tops (tops_behind (xs ++ x ∷ [])) state ≡ run_top x.top (run_tops (tops_behind xs) state)
tops_joined [] x state = refl
tops_joined (y ∷ xs) x state = tops_joined xs x (run_top y.top state)

pub next_top : (ts : List NextTop) (i : ℕ) (t : NextTop) (state : State) → i < length ts → t ≡ get_or ts i t → run_tops (tops_behind (take (i + 1) ts)) state ≡ run_top t.top (run_tops (tops_behind (take i ts)) state)
next_top ts i t state lt is = ap (λ xs. run_tops (tops_behind xs) state) (take_more ts i t lt ∙ ap (λ x. take i ts ++ x ∷ []) (sym is)) ∙ tops_joined (take i ts) t state

-- ---- the whole

pub found_of : (w : Walk) (ts : List Top) → Describes w (run_tops ts (going [] [])) → IsFirst (IsNeedy ts) w.found.breach
found_of w ts h = found_first ts w.found (subst (Describes w) (ran_tops ts []) h).1

pub orders_of : (w : Walk) (ts : List Top) → Describes w (run_tops ts (going [] [])) → AreOrders (text_blocks ts) w.orders
orders_of w ts h = have_orders (text_blocks ts) w.orders (subst (Describes w) (ran_tops ts []) h).2
