-- What synonyms ask of their arguments.
use Rattle.std.specs.Prelude.{ℕ, zero, suc, ◌==◌, Bool, true, false, ◌&&◌, List, [], ◌∷◌, Option, Some, None, length, slice_index_or, slice_set}
use Rattle.hdc_regular.specs.declared.contents.Usage.{Usage}
use Rattle.hdc_regular.specs.declared.demand.Demand.{Demand}
use Rattle.hdc_regular.specs.Walk.{one_of, is_variable}

-- nothing is asked
abbrev pub no_demand : Demand
no_demand = record { possible = true; count = None; wanted = [] }

abbrev pub demand_at : List Demand → ℕ → Demand
demand_at demands n = slice_index_or demands n no_demand

-- ---- what is asked is so

abbrev pub is_count : Option ℕ → ℕ → Bool
is_count None k = true
is_count (Some c) k = c == k

abbrev pub behind : List (Option ℕ) → List (Option ℕ)
behind [] = []
behind (v ∷ vs) = vs

abbrev pub is_wanted : Option ℕ → Option ℕ → Bool
is_wanted None a = true
is_wanted (Some i) a = is_variable i a

abbrev pub all_wanted : List (Option ℕ) → List (Option ℕ) → Bool
all_wanted [] vs = true
all_wanted (None ∷ ws) vs = all_wanted ws (behind vs)
all_wanted (Some i ∷ ws) vs = is_variable i (one_of vs 0) && all_wanted ws (behind vs)

-- for a head of so many variables, where these are the variables that the arguments are
abbrev pub met : Demand → ℕ → List (Option ℕ) → Bool
met d k vs = d.possible && (is_count d.count k && all_wanted d.wanted vs)

-- ---- more is asked

abbrev pub possible_where : Bool → Demand → Demand
possible_where b d = record d { possible = b && d.possible }

abbrev pub counted_before : Option ℕ → ℕ → Demand → Demand
counted_before None c d = record d { count = Some c }
counted_before (Some e) c d = possible_where (c == e) d

-- the head has so many variables
abbrev pub with_count : ℕ → Demand → Demand
with_count c d = counted_before d.count c d

abbrev pub count_where : Option ℕ → Demand → Demand
count_where None d = d
count_where (Some c) d = with_count c d

abbrev pub want_kept : Option ℕ → ℕ → Option ℕ
want_kept None i = Some i
want_kept (Some h) i = Some h

abbrev pub want_set : List (Option ℕ) → ℕ → ℕ → List (Option ℕ)
want_set [] zero i = Some i ∷ []
want_set [] (suc j) i = None ∷ want_set [] j i
want_set (w ∷ ws) zero i = want_kept w i ∷ ws
want_set (w ∷ ws) (suc j) i = w ∷ want_set ws j i

abbrev pub fits_want : Option ℕ → ℕ → Bool
fits_want None i = true
fits_want (Some h) i = h == i

-- this argument is this variable
abbrev pub with_want : ℕ → ℕ → Demand → Demand
with_want j i d = record d { possible = fits_want (one_of d.wanted j) i && d.possible; wanted = want_set d.wanted j i }

-- what stands for an argument is this variable
abbrev pub with_alias : Option ℕ → ℕ → Demand → Demand
with_alias None i d = possible_where false d
with_alias (Some j) i d = with_want j i d

-- these are variables in order, from this one on
abbrev pub with_order : ℕ → List (Option ℕ) → Demand → Demand
with_order i [] d = d
with_order i (a ∷ vs) d = with_order (suc i) vs (with_alias a i d)

-- what stands for an argument is this variable, if it is wanted to be one
abbrev pub with_optional : Option ℕ → Option ℕ → Demand → Demand
with_optional None a d = d
with_optional (Some i) a d = with_alias a i d

-- these are the variables that are wanted
abbrev pub with_wants : List (Option ℕ) → List (Option ℕ) → Demand → Demand
with_wants [] vs d = d
with_wants (None ∷ ws) vs d = with_wants ws (behind vs) d
with_wants (Some i ∷ ws) vs d = with_wants ws (behind vs) (with_alias (one_of vs 0) i d)

-- by a use of a synonym with this demand, or of a data type
abbrev pub by_use : Bool → Demand → List (Option ℕ) → Demand → Demand
by_use true e vs d = with_wants e.wanted vs (count_where e.count (possible_where e.possible d))
by_use false e vs d = with_order 0 vs (with_count (length vs) d)

-- where what is used is of the group
abbrev pub by_own : Bool → Bool → Demand → List (Option ℕ) → Demand → Demand
by_own true s e vs d = by_use s e vs d
by_own false s e vs d = d

-- by these uses, where this says what is of the group and what are synonyms
abbrev pub demanded : (ℕ → Bool) → (ℕ → Bool) → List Demand → List Usage → Demand → Demand
demanded own synonyms demands [] d = d
demanded own synonyms demands (x ∷ xs) d = demanded own synonyms demands xs (by_own (own x.number) (synonyms x.number) (demand_at demands x.number) x.arguments d)

-- what is known to be asked once the synonyms with these numbers are looked at, in this order: where these are the uses in a
-- declaration, and this says what is of the group of a declaration
abbrev pub demands_by : (ℕ → ℕ → Bool) → (ℕ → Bool) → (ℕ → List Usage) → List ℕ → List Demand → List Demand
demands_by own synonyms uses [] demands = demands
demands_by own synonyms uses (n ∷ ns) demands = demands_by own synonyms uses ns (slice_set demands n (demanded (own n) synonyms demands (uses n) no_demand))
