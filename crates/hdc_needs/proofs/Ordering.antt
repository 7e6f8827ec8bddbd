-- The order of a block's values by its graph is their order.
use Rattle.std.proofs.Common.{◌≡◌, ℕ, zero, suc, ◌<◌, ◌≤◌, ◌⊎◌, inl, inr, Bool, true, false, is_some, List, [], ◌∷◌, ◌++◌, length, Option, Some, None, refl, sym, ap, ◌∙◌, subst, arith}
use Rattle.std.proofs.lemmas.List.{get_or_past}
use Rattle.std.proofs.lemmas.Bool.{cases_lt}
use Rattle.hdc_base.specs.declared.place.At.{At}
use Rattle.hdc_graph.specs.Needs.{Nodes, Needs, IsClosed, Reaches, one, further}
use Rattle.hdc_order.specs.Order as order
use Rattle.hdc_order.specs.Order.{is_value, NoValueReachesItself, IsReady, GoesOn, order_of}
use Rattle.hdc_order.proofs.Taking.{one_order, goes_by, goes_alike}
use Rattle.hdc_written.specs.Written.{Declarations, no_declaration, declaration}
use Rattle.hdc_needs.specs.Agrees.{LeadsTo, IsGraph, HasNeeds, HasOrder, HaveOrders}
use Rattle.hdc_needs.specs.Binders.{bound_from}
use Rattle.hdc_needs.specs.Ends.{ended, all_ended}
use Rattle.hdc_needs.specs.Needy.{block_needs, value_at, declaration_at, value_in}
use Rattle.hdc_needs.specs.Orders.{values_in, IsOrderOf, AreOrders, IsOrderIn, AreFirst}
use Rattle.hdc_needs.specs.Uses.{Mentions, UsesOf}
use Rattle.hdc_needs.specs.Walk.{Mention, Ended, count_declarations}
use Rattle.hdc_needs.proofs.Finding.{need_of, use_of}
use Rattle.hdc_needs.proofs.Linking.{needing_lies}
use Rattle.hdc_needs.proofs.Stepping.{same_steps, steps_reach, to_steps, one_step}

-- ---- values by their numbers

pub values_each : (ds : Declarations) → length (values_in ds) ≡ count_declarations ds
values_each no_declaration = refl
values_each (declaration d ds) = ap suc (values_each ds)

no_value : (ds : Declarations) (n : ℕ) → count_declarations ds ≤ n → is_value (values_in ds) n ≡ false
no_value ds n l = get_or_past (values_in ds) n false (let e = values_each ds in omega (arith, e, l))

value_lies : (ds : Declarations) (n : ℕ) → is_value (values_in ds) n ≡ true → n < count_declarations ds
value_lies ds n t = elim (cases_lt n (count_declarations ds)) [
  | inl lt ↦ lt
  | inr ge ↦ absurd (let e : true ≡ false = sym t ∙ no_value ds n ge in cc)
]

some_of : (v : Option At) → is_some v ≡ true → (at : At) × (v ≡ Some at)
some_of None e = absurd cc
some_of (Some at) e = (at, refl)

value_some : (ds : Declarations) (n : ℕ) → is_value (values_in ds) n ≡ true → (at : At) × (value_in (declaration_at n ds) ≡ Some at)
value_some no_declaration n e = absurd cc
value_some (declaration d ds) zero e = some_of (value_at d) e
value_some (declaration d ds) (suc n) e = value_some ds n e

-- ---- the order that was found, where the values of a graph's nodes were given

reaching_lies : {g : Nodes} {a b : ℕ} → Reaches g a b → a < length g
reaching_lies {g} (one a b need) = needing_lies g a b need
reaching_lies {g} (further a b c need r) = needing_lies g a b need

pub order_in : (g : Nodes) (ds : Declarations) (count : ℕ) (first values : List Bool) (xs : List ℕ) → IsClosed g → count ≡ length g → AreFirst (values_in ds) count first → values ≡ first → (NoValueReachesItself g values → xs ≡ order_of g values) → IsOrderIn g ds xs
order_in g ds count first values xs closed size f is o none =
    let same : (n : ℕ) → n < length g → is_value values n ≡ is_value (values_in ds) n = λ n l. (let lt : n < count = omega (arith, l, size) in ap (λ (vs : List Bool). is_value vs n) is ∙ f.same n lt) in
    goes_alike g (is_value values) (is_value (values_in ds)) closed same xs []
    ((one_order g values xs closed).1 (o (λ n t r. none n (sym (same n (reaching_lies r)) ∙ t) r)))

-- ---- a block's graph, in which names stand between its declarations, and a graph of the declarations alone

module _ (ds : Declarations) (us : List Mention) (node : List ℕ → Option ℕ) (g : Nodes) (h : IsGraph (count_declarations ds) (bound_from 0 ds) us node g) (plain : Nodes) (k : HasNeeds (record { declarations = ds; uses = us }) plain) where
  abbrev n : ℕ
  n = count_declarations ds

  abbrev value : ℕ → Bool
  value = is_value (values_in ds)

  plain_closed : IsClosed plain
  plain_closed a b need =
      let u = (k.needs a b).0 need in
      let l = h.below b u.text u.bound in
      let e = k.each in
      omega (arith, l, e)

  -- from a name to a declaration that binds it, and on
  abbrev Onward : ℕ → ℕ → Type 0
  Onward a b = (c : ℕ) × Needs g a c × ((c ≡ b) ⊎ ((value c ≡ false) × order.LeadsTo plain value c b))

  by_name : (a f b : ℕ) → LeadsTo us node a f → Onward f b → order.LeadsTo plain value a b
  by_name a f b l on =
      let ge : n ≤ f = (h.inside l.text f l.stands).0 in
      let c = on.0 in
      let bound = (h.binding f c ge).0 on.1 in
      let same : bound.text ≡ l.text = h.apart bound.text l.text f bound.stands l.stands in
      let uses : UsesOf (bound_from 0 ds) us a c = record { text = l.text; used = l.mentioned; bound = subst (λ (t : List ℕ). Mentions (bound_from 0 ds) c t) same bound.mentioned } in
      let need : Needs plain a c = (k.needs a c).1 uses in
      elim on.2 [
        | inl e ↦ order.directly a b (subst (Needs plain a) e need)
        | inr r ↦ order.by_function a c b need r.0 r.1
      ]

  down : (a b : ℕ) → order.LeadsTo g value a b → b < n → (a < n → order.LeadsTo plain value a b) × (n ≤ a → Onward a b)
  down a b (order.directly a' b' need) below = (
    λ lt. (let l = (h.using a b lt).0 need in let lies = (h.inside l.text b l.stands).0 in absurd (omega (arith, lies, below))),
    λ ge. (b, need, inl refl),
  )
  down a b (order.by_function a' f b' need e r) below =
      let rest = down f b r below in (
        λ lt. (let l = (h.using a f lt).0 need in let lies = (h.inside l.text f l.stands).0 in by_name a f b l (rest.1 lies)),
        λ ge. (let l = (h.binding a f ge).0 need in (f, need, inr (e, rest.0 (h.below f l.text l.mentioned)))),
      )

  up : (a b : ℕ) → order.LeadsTo plain value a b → a < n → order.LeadsTo g value a b
  up a b (order.directly a' b' need) lt =
      let s = one_step n (bound_from 0 ds) us node g h a b ((k.needs a b).0 need) lt in
      let l = (h.using a s.0 lt).0 s.1 in
      order.by_function a s.0 b s.1 (no_value ds s.0 (h.inside l.text s.0 l.stands).0) (order.directly s.0 b s.2)
  up a b (order.by_function a' f b' need e r) lt =
      let u = (k.needs a f).0 need in
      let s = one_step n (bound_from 0 ds) us node g h a f u lt in
      let l = (h.using a s.0 lt).0 s.1 in
      order.by_function a s.0 b s.1 (no_value ds s.0 (h.inside l.text s.0 l.stands).0) (order.by_function s.0 f b s.2 e (up f b r (h.below f u.text u.bound)))

  ready_down : (taken : List ℕ) (a : ℕ) → IsReady g value taken a → IsReady plain value taken a
  ready_down taken a r =
      let lies = value_lies ds a r.valued in record {
        within = (let e = k.each in omega (arith, e, lies));
        valued = r.valued;
        left = r.left;
        met = λ b need. r.met b (need.0, up a b need.1 lies);
      }

  ready_up : (taken : List ℕ) (a : ℕ) → IsReady plain value taken a → IsReady g value taken a
  ready_up taken a r =
      let lies = value_lies ds a r.valued in record {
        within = (let e = h.enough in omega (arith, e, lies));
        valued = r.valued;
        left = r.left;
        met = λ b need. r.met b (need.0, (down a b need.1 (value_lies ds b need.0)).0 lies);
      }

  none_itself : NoValueReachesItself plain (values_in ds) → NoValueReachesItself g (values_in ds)
  none_itself none m t r = none m t (steps_reach (same_steps (λ a b u. (k.needs a b).1 u) (to_steps n (bound_from 0 ds) us node g h m (value_lies ds m t) r)))

  pub plain_order : (xs : List ℕ) → IsOrderIn g ds xs → NoValueReachesItself plain (values_in ds) → xs ≡ order_of plain (values_in ds)
  plain_order xs o none = (one_order plain (values_in ds) xs plain_closed).0 (goes_by g plain value value ready_down ready_up xs [] (o (none_itself none)))

pub has_order : (ds : Declarations) (us : List Mention) (node : List ℕ → Option ℕ) (g : Nodes) → IsGraph (count_declarations ds) (bound_from 0 ds) us node g → (xs : List ℕ) → IsOrderIn g ds xs → HasOrder (record { declarations = ds; uses = us }) xs
has_order ds us node g h xs o plain k none = plain_order ds us node g h plain k xs o none

-- ---- one block more

pub ordered_more : (es : List Ended) (orders : List (List ℕ)) (e : Ended) (xs : List ℕ) → HaveOrders es orders → HasOrder e xs → HaveOrders (es ++ e ∷ []) (orders ++ xs ∷ [])
ordered_more [] [] e xs h o = (o, tt)
ordered_more [] (ys ∷ orders) e xs h o = absurd h
ordered_more (f ∷ es) [] e xs h o = absurd h
ordered_more (f ∷ es) (ys ∷ orders) e xs h o = (h.0, ordered_more es orders e xs h.1 o)

-- ---- the whole

needs_each : (whole ds : Declarations) → length (block_needs whole ds) ≡ count_declarations ds
needs_each whole no_declaration = refl
needs_each whole (declaration d ds) = ap suc (needs_each whole ds)

is_order : (ds : Declarations) (xs : List ℕ) → HasOrder (ended ds) xs → IsOrderOf ds xs
is_order ds xs h none = h (block_needs ds ds) (record { each = needs_each ds ds; needs = λ a b. (use_of ds a b, need_of ds a b) })
    (λ m t r. (let v = value_some ds m t in none v.0 (record { number = m; is_value = v.1; reaches = r })))

pub have_orders : (blocks : List Declarations) (orders : List (List ℕ)) → HaveOrders (all_ended blocks) orders → AreOrders blocks orders
have_orders [] [] h = tt
have_orders [] (xs ∷ orders) h = absurd h
have_orders (ds ∷ blocks) [] h = absurd h
have_orders (ds ∷ blocks) (xs ∷ orders) h = (is_order ds xs h.0, have_orders blocks orders h.1)
