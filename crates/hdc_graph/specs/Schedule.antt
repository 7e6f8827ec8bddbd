-- What holds while components are taken one by one.
use Rattle.std.specs.Prelude.{◌≡◌, ℕ, ◌<◌, ◌≤◌, ◌+◌, ◌-◌, ◌⊎◌, ◌≢◌, List, [], ◌∷◌, ◌++◌, length, drop, slice_index, slice_set, Option, Some, None}
use Rattle.hdc_graph.specs.declared.schedule.Schedule.{Schedule}
use Rattle.hdc_graph.specs.Lists.{Has, list_at, place_in}
use Rattle.hdc_graph.specs.Labels.{IsLabel}

-- the component is taken
abbrev pub IsPlaced : (ℕ → Option ℕ) → ℕ → Type 0
IsPlaced place c = (i : ℕ) × (place c ≡ Some i)

module _ (Used : ℕ → Type 0) (N : ℕ → ℕ → Type 0) where
  -- all that the component needs is taken, or in the component
  abbrev pub IsMet : (ℕ → Option ℕ) → ℕ → Type 0
  IsMet place c = (k : ℕ) → N c k → IsPlaced place k ⊎ (k ≡ c)

  -- the components taken so far have their places
  pub record ArePlaced (place : ℕ → Option ℕ) (next : ℕ) : Type 0 where
    pub below : (c i : ℕ) → place c ≡ Some i → (i < next) × Used c
    pub filled : (i : ℕ) → i < next → (c : ℕ) × (place c ≡ Some i)
    pub single : (c d i : ℕ) → place c ≡ Some i → place d ≡ Some i → c ≡ d
    pub needs : (c k i : ℕ) → place c ≡ Some i → N c k → (j : ℕ) × (place k ≡ Some j) × (j ≤ i)
    pub least : (c d i : ℕ) → place c ≡ Some i → Used d → c ≢ d → ((j : ℕ) → place d ≡ Some j → i < j) → ((k : ℕ) → N d k → ((j : ℕ) × (place k ≡ Some j) × (j < i)) ⊎ (k ≡ d)) → c < d

  -- where each component is that is not taken yet
  pub record AreKept (place : ℕ → Option ℕ) (unmet waiting : ℕ → List ℕ) (restless ready : List ℕ) : Type 0 where
    pub located : (c : ℕ) → Used c → place c ≡ None → Has restless c ⊎ Has ready c ⊎ ((k : ℕ) × (place k ≡ None) × Has (waiting k) c)
    pub met : (c k : ℕ) → N c k → IsPlaced place k ⊎ (k ≡ c) ⊎ Has (unmet c) k
    pub owed : (c k : ℕ) → Has (unmet c) k → N c k
    pub waits : (k c : ℕ) → Has (waiting k) c → N c k × (k ≢ c)
    pub can : (c : ℕ) → Has ready c → Used c × (place c ≡ None) × IsMet place c
    pub inside : (c : ℕ) → Has restless c → Used c

-- what a component needs behind its cursor
abbrev pub owed_at : List (List ℕ) → List ℕ → ℕ → List ℕ
owed_at needs cursors c = drop (slice_index cursors c) (list_at needs c)

-- the schedule is on its way
pub record IsScheduling (s : Schedule) : Type 0 where
  pub kept : AreKept (IsLabel s.labels) (λ c k. Has (list_at s.needs c) k) (place_in s.places) (owed_at s.needs s.cursors) (list_at s.waiting) s.restless s.ready
  pub placed : ArePlaced (IsLabel s.labels) (λ c k. Has (list_at s.needs c) k) (place_in s.places) (length s.taken)
  pub within : (c k : ℕ) → Has (list_at s.needs c) k → IsLabel s.labels c × IsLabel s.labels k
  pub needs_each : length s.needs ≡ length s.labels
  pub cursors_each : length s.cursors ≡ length s.labels
  pub waiting_each : length s.waiting ≡ length s.labels
  pub places_each : length s.places ≡ length s.labels

-- one component more is to be looked at
abbrev pub with_restless : ℕ → Schedule → Schedule
with_restless c s = record s { restless = s.restless ++ c ∷ [] }

-- a component was taken
abbrev pub with_taken : ℕ → Schedule → Schedule
with_taken c s = record s {
  places = slice_set s.places c (Some (length s.taken));
  taken = s.taken ++ c ∷ [];
  restless = s.restless ++ list_at s.waiting c;
}

-- components and what they need stay
pub record IsLater (old new : Schedule) : Type 0 where
  pub labels : new.labels ≡ old.labels
  pub needs : new.needs ≡ old.needs

-- and those that are taken stay
pub record IsSettling (old new : Schedule) : Type 0 where
  pub labels : new.labels ≡ old.labels
  pub needs : new.needs ≡ old.needs
  pub places : new.places ≡ old.places

-- how much is to be looked at
abbrev pub remaining : List (List ℕ) → List ℕ → ℕ
remaining [] cursors = 0
remaining (n ∷ needs) [] = 0
remaining (n ∷ needs) (k ∷ cursors) = (length n - k) + remaining needs cursors

-- of all components
abbrev pub left : Schedule → ℕ
left s = remaining s.needs s.cursors + length s.restless

-- how many are not taken
abbrev pub is_untaken : Option ℕ → ℕ
is_untaken None = 1
is_untaken (Some i) = 0

-- among all places
abbrev pub untaken : List (Option ℕ) → ℕ
untaken [] = 0
untaken (p ∷ places) = is_untaken p + untaken places
