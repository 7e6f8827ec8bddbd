-- Local values that need themselves.
use Rattle.std.specs.Prelude.{◌≡◌, ◌⊎◌, ℕ, zero, suc, Bool, true, false, List, [], ◌∷◌, ◌++◌, Option, Some, None, if◌then◌else◌}
use Rattle.hdc_base.specs.declared.place.At.{At}
use Rattle.hdc_tree.specs.declared.name.Name.{Name}
use Rattle.hdc_tree.specs.declared.program.Top.{Top}
use Rattle.hdc_tree.specs.declared.program.Top.TheVariants as top
use Rattle.hdc_graph.specs.Needs.{Nodes, Reaches}
use Rattle.hdc_written.specs.declared.breach.Breach.{Breach}
use Rattle.hdc_written.specs.Firsts.{first_of_pattern}
use Rattle.hdc_written.specs.Written.{no_pattern, pattern, Declaration, empty, signature, equation, binding, Declarations, no_declaration, declaration, bound}
use Rattle.hdc_written.specs.Mirror.{rhs_of}
use Rattle.hdc_written.specs.Scopes.{names_text}
use Rattle.hdc_needs.specs.Free.{free_declaration}
use Rattle.hdc_needs.specs.Blocks.{right_side_blocks}

-- whether one of the names is among the others
abbrev pub meets : List Name → List Name → Bool
meets [] ys = false
meets (x ∷ xs) ys = if names_text ys x.text then true else meets xs ys

-- the numbers, from this one on, of the declarations that bind one of these names
abbrev pub binders : List Name → ℕ → Declarations → List ℕ
binders used n no_declaration = []
binders used n (declaration d ds) = if meets (bound d) used then n ∷ binders used (suc n) ds else binders used (suc n) ds

-- what the declarations of a block need of it, each by its number
abbrev pub block_needs : Declarations → Declarations → Nodes
block_needs whole no_declaration = []
block_needs whole (declaration d ds) = binders (free_declaration d) 0 whole ∷ block_needs whole ds

-- the first token of a value, which has no parameters
abbrev pub value_at : Declaration → Option At
value_at empty = None
value_at (signature xs t) = None
value_at (equation at x no_pattern r) = Some at
value_at (equation at x (pattern p ps) r) = None
value_at (binding p r) = Some (first_of_pattern p)

abbrev pub declaration_at : ℕ → Declarations → Option Declaration
declaration_at n no_declaration = None
declaration_at zero (declaration d ds) = Some d
declaration_at (suc n) (declaration d ds) = declaration_at n ds

abbrev pub value_in : Option Declaration → Option At
value_in None = None
value_in (Some d) = value_at d

-- a value of a block needs itself, by any number of steps, through functions and values
pub record NeedsItself (ds : Declarations) (at : At) : Type 0 where
  pub number : ℕ
  pub is_value : value_in (declaration_at number ds) ≡ Some at
  pub reaches : Reaches (block_needs ds ds) number number

-- one of a list
abbrev pub IsIn : Declarations → List Declarations → Type 0
IsIn x [] = ⊥
IsIn x (y ∷ ys) = (x ≡ y) ⊎ IsIn x ys

-- the blocks of the right sides of a text
abbrev pub text_blocks : List Top → List Declarations
text_blocks [] = []
text_blocks (top.Empty ∷ ts) = text_blocks ts
text_blocks (top.Data d ∷ ts) = text_blocks ts
text_blocks (top.Synonym s ∷ ts) = text_blocks ts
text_blocks (top.Fixity f ∷ ts) = text_blocks ts
text_blocks (top.Signature x xs a t ∷ ts) = text_blocks ts
text_blocks (top.Equation h r ∷ ts) = right_side_blocks (rhs_of r) ++ text_blocks ts

-- rule 11 is broken at the first token of each local value that needs itself
pub record IsNeedy (ts : List Top) (b : Breach) : Type 0 where
  pub rule : b.rule ≡ 11
  pub declarations : Declarations
  pub in_text : IsIn declarations (text_blocks ts)
  pub needs : NeedsItself declarations b.at
