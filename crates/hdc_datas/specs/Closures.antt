-- Types with the arguments of synonyms in place of their variables, as the code keeps them.
use Rattle.std.specs.Prelude.{◌≡◌, ℕ, suc, ◌+◌, ◌≤◌, List, [], ◌∷◌, ◌++◌, length, map, take, drop, Option, None, Some, MatchOption}
use Rattle.hdc_resolved.specs.Mirror.{type_tree_of}
use Rattle.hdc_resolved.specs.Syntax.{SynonymOf, TypeTree, TypeTrees}
use Rattle.hdc_value.specs.declared.ty.TypeNode.{TypeNode}
use Rattle.hdc_datas.specs.declared.expand.Environment.{Environment}
use Rattle.hdc_datas.specs.declared.expand.Closure.{Closure}
use Rattle.hdc_datas.specs.declared.expand.Expansion.{Expansion}
use Rattle.hdc_datas.specs.Expanded.{substituted, all_flat, each_flat, expanded, expanded_meaning}

-- each of these types, in which synonyms are expanded
abbrev pub each_expanded : List SynonymOf → TypeTrees → List (List TypeNode)
each_expanded ss ts = each_flat (expanded_meaning (length ss) ss) ts

-- the arguments of an environment, by the values of all arguments
abbrev pub arguments_of : List (List TypeNode) → Environment → List (List TypeNode)
arguments_of values e = take e.count (drop e.start values)

-- a type in prefix order in an environment; without one variables stay
abbrev pub in_environment : List (List TypeNode) → Option Environment → List TypeNode → List TypeNode
in_environment values None ns = ns
in_environment values (Some e) ns = substituted (arguments_of values e) ns

-- what a closure stands for, in prefix order
abbrev pub value_of : List SynonymOf → List (List TypeNode) → Closure → List TypeNode
value_of ss values c = in_environment values c.environment (expanded ss (type_tree_of c.part.now))

-- the values of arguments behind those of earlier ones
abbrev pub values_behind : List SynonymOf → List (List TypeNode) → List Closure → List (List TypeNode)
values_behind ss values [] = values
values_behind ss values (c ∷ cs) = values_behind ss (values ++ value_of ss values c ∷ []) cs

-- what is put out for what is pending, from the last to the first
abbrev pub output_by : List SynonymOf → List (List TypeNode) → List Closure → List TypeNode
output_by ss values [] = []
output_by ss values (c ∷ cs) = output_by ss values cs ++ value_of ss values c

abbrev pub values_in : List SynonymOf → Expansion → List (List TypeNode)
values_in ss x = values_behind ss [] x.arguments

abbrev pub output_of : List SynonymOf → Expansion → List TypeNode
output_of ss x = output_by ss (values_in ss x) x.pending

-- what a type stands for in an environment, and what types do one behind another
abbrev pub type_in : List SynonymOf → Expansion → Option Environment → TypeTree → List TypeNode
type_in ss x e t = in_environment (values_in ss x) e (expanded ss t)

abbrev pub types_in : List SynonymOf → Expansion → Option Environment → TypeTrees → List TypeNode
types_in ss x e ts = in_environment (values_in ss x) e (all_flat (expanded_meaning (length ss) ss) ts)

-- an environment is among so many arguments
abbrev pub IsWithin : ℕ → Option Environment → Type 0
IsWithin n None = Unit {0}
IsWithin n (Some e) = e.start + e.count ≤ n

-- each closure has its environment among so many arguments
abbrev pub AreWithin : ℕ → List Closure → Type 0
AreWithin n [] = Unit {0}
AreWithin n (c ∷ cs) = IsWithin n c.environment × AreWithin n cs

-- each argument has its environment among those before it, of which so many come before the list
abbrev pub AreBehind : ℕ → List Closure → Type 0
AreBehind n [] = Unit {0}
AreBehind n (c ∷ cs) = IsWithin n c.environment × AreBehind (suc n) cs

-- all environments are among the arguments, those of arguments among earlier ones
pub record IsWell (x : Expansion) : Type 0 where
  pub arguments : AreBehind 0 x.arguments
  pub pending : AreWithin (length x.arguments) x.pending

-- what stands for a variable, if there is such an argument
abbrev pub stands_for : List SynonymOf → List (List TypeNode) → Option Closure → List TypeNode
stands_for ss values None = []
stands_for ss values (Some c) = value_of ss values c

-- this is put out before what was pending
pub record Goes (ss : List SynonymOf) (ns : List TypeNode) (old new : Expansion) : Type 0 where
  pub well : IsWell new
  pub output : output_of ss new ≡ ns ++ output_of ss old

-- the same for any synonyms, and no argument comes
pub record Puts (ns : List SynonymOf → List TypeNode) (old new : Expansion) : Type 0 where
  pub well : IsWell new
  pub arguments : new.arguments ≡ old.arguments
  pub output : (ss : List SynonymOf) → output_of ss new ≡ ns ss ++ output_of ss old

-- the last one was taken from what is pending, if there was one
pub record TakesOne (old new : Expansion) (c : Closure) : Type 0 where
  pub within : IsWithin (length new.arguments) c.environment
  pub output : (ss : List SynonymOf) → output_of ss old ≡ value_of ss (values_in ss new) c ++ output_of ss new

pub record Takes (old new : Expansion) (taken : Option Closure) : Type 0 where
  pub well : IsWell new
  pub output : MatchOption taken ((ss : List SynonymOf) → output_of ss old ≡ []) (TakesOne old new)

-- this comes to the nodes that are put out already, and what was pending behind it
pub record IsPut (ss : List SynonymOf) (ns nodes : List TypeNode) (old : Expansion) (made : List TypeNode) (new : Expansion) : Type 0 where
  pub well : IsWell new
  pub output : made ++ output_of ss new ≡ nodes ++ (ns ++ output_of ss old)

-- an environment comes, whose arguments are these in another one
pub record Opens (ss : List SynonymOf) (environment : Option Environment) (ts : TypeTrees) (inner : Environment) (old new : Expansion) : Type 0 where
  pub well : IsWell new
  pub within : IsWithin (length new.arguments) (Some inner)
  pub values : arguments_of (values_in ss new) inner ≡ map (in_environment (values_in ss old) environment) (each_expanded ss ts)
  pub output : output_of ss new ≡ output_of ss old
