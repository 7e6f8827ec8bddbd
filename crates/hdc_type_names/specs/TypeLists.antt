-- Lists of types.
use Rattle.std.specs.Prelude.{List, map, Option, Some, None}
use Rattle.hdc_resolved.specs.declared.type_exp.Type as T
use Rattle.hdc_resolved.specs.Mirror.{types, type_tree_of}
use Rattle.hdc_resolved.specs.Syntax.{TypeTree, function_type, TypeTrees, no_type, next_type}

-- the types of a list in memory
abbrev pub types_of : List T.Type → TypeTrees
types_of ts = types (map type_tree_of ts)

-- types, and more behind them
abbrev pub joined : TypeTrees → TypeTrees → TypeTrees
joined no_type us = us
joined (next_type t ts) us = next_type t (joined ts us)

-- a type with -> and a result behind it, if there is one
abbrev pub arrow : TypeTree → Option T.Type → TypeTree
arrow t None = t
arrow t (Some u) = function_type t (type_tree_of u)
