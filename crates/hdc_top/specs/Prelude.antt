-- The tree of the prelude.
use Rattle.std.specs.Prelude.{ℕ, List, [], Option, Some, None}
use Rattle.hdc_base.specs.declared.token.Token.{Token}
use Rattle.hdc_lex.specs.Place.{first_place}
use Rattle.hdc_tree.specs.declared.prelude.TheConstants.{PRELUDE}
use Rattle.hdc_tree.specs.declared.program.ModuleHead.TheVariants as head
use Rattle.hdc_tree.specs.declared.program.Top.TheVariants as top
use Rattle.hdc_tree.specs.declared.program.Tree.{Tree}
use Rattle.hdc_parse.specs.Exact.{IsParsed}
use Rattle.hdc_top.specs.Layout.{HasLayout}

-- the tree whose spelling is the laid-out lexemes of a text
pub record HasTree (text : List ℕ) (tree : Tree) : Type 0 where
  pub laid : List Token
  pub layout : HasLayout text laid
  pub parsed : IsParsed laid tree

-- the tree without declarations
abbrev pub no_declarations : Tree
no_declarations = record { head = head.Absent; open_at = first_place; first = top.Empty; rest = []; close_at = first_place }

-- the tree of the stored text, or that it has none
abbrev pub IsStored : Option Tree → Type 0
IsStored (Some tree) = HasTree PRELUDE.now tree
IsStored None = (tree : Tree) → HasTree PRELUDE.now tree → ⊥

-- the tree of the stored text, or, where it has none, the tree without declarations
pub data IsPrelude : Tree → Type 0 where
  stored : (tree : Tree) → HasTree PRELUDE.now tree → IsPrelude tree
  without : ((tree : Tree) → HasTree PRELUDE.now tree → ⊥) → IsPrelude no_declarations
