-- Steps from declaration to declaration, and ways through graphs in which names stand between them.
use Rattle.std.proofs.Common.{◌≡◌, ℕ, ◌<◌, ◌≤◌, ◌⊎◌, inl, inr, List, Option, refl, subst, arith}
use Rattle.hdc_graph.specs.Needs.{Nodes, Needs, Reaches, one, further}
use Rattle.hdc_needs.specs.Agrees.{LeadsTo, IsGraph}
use Rattle.hdc_needs.specs.Uses.{Mentions, UsesOf, Steps, last, more}
use Rattle.hdc_needs.specs.Walk.{Mention}

-- the steps of another relation
pub same_steps : {R S : ℕ → ℕ → Type 0} (f : (a b : ℕ) → R a b → S a b) {a b : ℕ} → Steps R a b → Steps S a b
same_steps f (last a b r) = last a b (f a b r)
same_steps f (more a b c r s) = more a b c (f a b r) (same_steps f s)

pub steps_reach : {g : Nodes} {a b : ℕ} → Steps (Needs g) a b → Reaches g a b
steps_reach (last a b r) = one a b r
steps_reach (more a b c r s) = further a b c r (steps_reach s)

pub reach_steps : {g : Nodes} {a b : ℕ} → Reaches g a b → Steps (Needs g) a b
reach_steps (one a b r) = last a b r
reach_steps (further a b c r s) = more a b c r (reach_steps s)

-- what a name's node needs is the end, or the end is reached from there
abbrev Onward : List Mention → List Mention → Nodes → ℕ → ℕ → Type 0
Onward binds uses g a b = (c : ℕ) × Needs g a c × ((c ≡ b) ⊎ Steps (UsesOf binds uses) c b)

module _ (n : ℕ) (binds uses : List Mention) (node : List ℕ → Option ℕ) (g : Nodes) (h : IsGraph n binds uses node g) where
  -- from a declaration by a name to another
  by_name : (a m c b : ℕ) → LeadsTo uses node a m → LeadsTo binds node c m → (c ≡ b) ⊎ Steps (UsesOf binds uses) c b → Steps (UsesOf binds uses) a b
  by_name a m c b l k on =
      let same : k.text ≡ l.text = h.apart k.text l.text m k.stands l.stands in
      let step : UsesOf binds uses a c = record { text = l.text; used = l.mentioned; bound = subst (λ (t : List ℕ). Mentions binds c t) same k.mentioned } in
      elim on [
        | inl e ↦ last a b (subst (λ (x : ℕ). UsesOf binds uses a x) e step)
        | inr s ↦ more a c b step s
      ]

  by_use : (a m b : ℕ) → LeadsTo uses node a m → (n ≤ m → Onward binds uses g m b) → Steps (UsesOf binds uses) a b
  by_use a m b l rest =
      let lies : n ≤ m = (h.inside l.text m l.stands).0 in
      let on : Onward binds uses g m b = rest lies in
      by_name a m on.0 b l ((h.binding m on.0 lies).0 on.1) on.2

  way : {a b : ℕ} → Reaches g a b → b < n → (a < n → Steps (UsesOf binds uses) a b) × (n ≤ a → Onward binds uses g a b)
  way (one a b need) below = (
    λ lt. (let l : LeadsTo uses node a b = (h.using a b lt).0 need in let lies = (h.inside l.text b l.stands).0 in absurd (omega (arith, lies, below))),
    λ ge. (b, need, inl refl),
  )
  way (further a c b need r) below =
      let rest = way r below in (
        λ lt. by_use a c b ((h.using a c lt).0 need) rest.1,
        λ ge. (let l : LeadsTo binds node c a = (h.binding a c ge).0 need in (c, need, inr (rest.0 (h.below c l.text l.mentioned)))),
      )

  pub one_step : (a b : ℕ) → UsesOf binds uses a b → a < n → (m : ℕ) × Needs g a m × Needs g m b
  one_step a b u lt =
      let m = h.known b u.text u.bound in
      let lies : n ≤ m.0 = (h.inside u.text m.0 m.1).0 in
      (m.0, (h.using a m.0 lt).1 (record { text = u.text; mentioned = u.used; stands = m.1 }), (h.binding m.0 b lies).1 (record { text = u.text; mentioned = u.bound; stands = m.1 }))

  reached : {a b : ℕ} → Steps (UsesOf binds uses) a b → a < n → Reaches g a b
  reached (last a b u) lt = let s = one_step a b u lt in further a s.0 b s.1 (one s.0 b s.2)
  reached (more a c b u r) lt = let s = one_step a c u lt in further a s.0 b s.1 (further s.0 c b s.2 (reached r (h.below c u.text u.bound)))

  pub to_steps : (a : ℕ) → a < n → Reaches g a a → Steps (UsesOf binds uses) a a
  to_steps a lt r = (way r lt).0 lt

  pub from_steps : (a : ℕ) → a < n → Steps (UsesOf binds uses) a a → Reaches g a a
  from_steps a lt s = reached s lt
