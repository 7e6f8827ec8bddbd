-- Local names come into scope, each with a number of its own.
use Rattle.std.specs.Prelude.{ℕ, suc, ◌-◌, List, [], ◌∷◌, Option, None, Some, length, drop}
use Rattle.hdc_tree.specs.declared.name.Name as tree
use Rattle.hdc_written.specs.Scopes.{standing_for}
use Rattle.hdc_names.specs.Fixities.{locally}
use Rattle.hdc_resolved.specs.declared.name.Name.{Name}
use Rattle.hdc_resolved.specs.declared.name.Name.TheVariants as name
use Rattle.hdc_resolving.specs.declared.walk.Counter.{Counter}
use Rattle.hdc_resolving.specs.declared.walk.Walk.{Walk}
use Rattle.hdc_resolving.specs.Standing.{Names, standing}

-- one number more is taken
abbrev pub counted : Counter → Counter
counted c = record { numbers = suc c.numbers; blocks = c.blocks }

-- one block more has ended
abbrev pub ended : Counter → Counter
ended c = record { numbers = c.numbers; blocks = suc c.blocks }

-- a number for each name
abbrev pub numbered : List tree.Name → Counter → Counter
numbered [] c = c
numbered (x ∷ xs) c = numbered xs (counted c)

abbrev pub named_from : List tree.Name → Counter → Names → Names
named_from [] c s = s
named_from (x ∷ xs) c s = named_from xs (counted c) (standing x.text (name.Local c.numbers) ∷ s)

-- names come into scope, with the next numbers
abbrev pub entered : List tree.Name → Walk → Walk
entered xs w = record { names = named_from xs w.counter w.names; fixities = locally xs w.fixities; counter = numbered xs w.counter }

-- what is in scope stays, and more numbers are taken
abbrev pub moved : Counter → Walk → Walk
moved c w = record { names = w.names; fixities = w.fixities; counter = c }

-- the last names go, until there are so many of either kind
abbrev pub left_at : ℕ → ℕ → Walk → Walk
left_at n f w = record { names = drop (length w.names - n) w.names; fixities = drop (length w.fixities - f) w.fixities; counter = w.counter }

-- the number of a name that is bound locally; of another, which no binding asks for, 0
abbrev pub local_number : Name → ℕ
local_number (name.Local n) = n
local_number (name.Top n) = 0
local_number (name.Con c) = 0
local_number (name.Primitive p) = 0
local_number (name.Skeleton k d) = 0
local_number name.Unknown = 0

abbrev pub number_in : Option Name → ℕ
number_in None = 0
number_in (Some n) = local_number n

abbrev pub variable_number : Names → tree.Name → ℕ
variable_number names x = number_in (standing_for x.text names)
