-- Programs that bind main to an expression, and nothing else.
use Rattle.std.specs.Prelude.{List, [], ◌∷◌, Bool, true, false, filter, codes, Option, Some, None, if◌then◌else◌}
use Rattle.std.specs.Str.{bytes_eq}
use Rattle.std.specs.Option.{option_and_then}
use Rattle.hdc_base.specs.declared.place.Src.{Src}
use Rattle.hdc_base.specs.declared.place.Src.TheVariants as src
use Rattle.hdc_tree.specs.declared.program.Top.{Top}
use Rattle.hdc_tree.specs.declared.program.Top.TheVariants as top
use Rattle.hdc_resolved.specs.Syntax.{Expression, Equations, no_equation, equation, no_pattern, pattern, RightSide, plain, guarded, Block, block, no_member, named, matched, Binding}
use Rattle.hdc_top.specs.Arithmetic.{Tree, arithmetic}

-- whether a signature, a data type or a synonym is declared
abbrev pub is_typed : Top → Bool
is_typed top.Empty = false
is_typed (top.Data d) = true
is_typed (top.Synonym s) = true
is_typed (top.Fixity f) = false
is_typed (top.Signature x xs a t) = true
is_typed (top.Equation h r) = false

abbrev pub are_typed : List Top → Bool
are_typed [] = false
are_typed (t ∷ ts) = if is_typed t then true else are_typed ts

-- the bindings of the program, which stand behind those of the prelude
abbrev pub in_program : Src → Bool
in_program src.Program = true
in_program src.Prelude = false

abbrev pub is_own : Binding → Bool
is_own b = in_program b.place.src

abbrev pub own_bindings : List Binding → List Binding
own_bindings bs = filter is_own bs

-- the one binding of a list that has no other
abbrev pub only : List Binding → Option Binding
only [] = None
only (b ∷ []) = Some b
only (b ∷ c ∷ bs) = None

-- whether nothing is bound or signed
abbrev pub is_empty : Block → Bool
is_empty (block no_member [] order) = true
is_empty (block no_member (s ∷ ss) order) = false
is_empty (block (named at x es ms) ss order) = false
is_empty (block (matched at p r ms) ss order) = false

-- the expression of a right side without guards, behind which nothing is bound
abbrev pub plain_side : RightSide → Option Expression
plain_side (plain e b) = if is_empty b then Some e else None
plain_side (guarded at gs b) = None

-- what a plain name stands for: it has one equation, which has no patterns
abbrev pub plain_equation : Equations → Option Expression
plain_equation no_equation = None
plain_equation (equation at no_pattern r no_equation) = plain_side r
plain_equation (equation at no_pattern r (equation other ps s es)) = None
plain_equation (equation at (pattern p ps) r es) = None

abbrev pub plain_main : Binding → Option Expression
plain_main b = if bytes_eq b.text (codes "main") then plain_equation b.equations else None

-- what main stands for, where a program whose declarations are these, of all these bindings, binds that alone and declares no types
abbrev pub main_expression : List Top → List Binding → Option Expression
main_expression ts bs = if are_typed ts then None else option_and_then plain_main (only (own_bindings bs))

-- and its tree, where it is an expression of arithmetic
abbrev pub main_tree : List Top → List Binding → Option Tree
main_tree ts bs = option_and_then arithmetic (main_expression ts bs)
