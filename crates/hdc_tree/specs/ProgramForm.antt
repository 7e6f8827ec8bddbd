-- Which programs are well formed. Their heads, and what is exported or derived, have names alone, and are always so.
use Rattle.std.specs.Prelude.{Bool, true, nat_le, ◌&&◌}
use Rattle.hdc_tree.specs.declared.program.Tree.{Tree}
use Rattle.hdc_tree.specs.declared.program.NextTop.{NextTop}
use Rattle.hdc_tree.specs.declared.program.Top.{Top}
use Rattle.hdc_tree.specs.declared.program.Data.{Data}
use Rattle.hdc_tree.specs.declared.program.Constr.{Constr}
use Rattle.hdc_tree.specs.declared.program.BarConstr.{BarConstr}
use Rattle.hdc_tree.specs.declared.program.Synonym.{Synonym}
use Rattle.hdc_tree.specs.declared.program.Fixity.{Fixity}
use Rattle.hdc_tree.specs.declared.program.Top.TheVariants as top
use Rattle.hdc_tree.specs.Form.{each_formed}
use Rattle.hdc_tree.specs.TypeForm.{formed_atype, formed_type_exp}
use Rattle.hdc_tree.specs.HeadForm.{formed_head}
use Rattle.hdc_tree.specs.ExpressionForm.{formed_rhs}

-- a constructor and the types of its fields
abbrev pub formed_constr : Constr → Bool
formed_constr part = each_formed formed_atype part.fields

-- `|` and a constructor
abbrev pub formed_bar_constr : BarConstr → Bool
formed_bar_constr part = formed_constr part.constr

-- a type with its constructors
abbrev pub formed_data : Data → Bool
formed_data part = formed_constr part.first && each_formed formed_bar_constr part.rest

-- a name for a type
abbrev pub formed_synonym : Synonym → Bool
formed_synonym part = formed_type_exp part.meaning

-- how operators associate, with a precedence from 0 to 9
abbrev pub formed_fixity : Fixity → Bool
formed_fixity part = nat_le part.number 9

-- a top declaration, by its parts
abbrev pub formed_top : Top → Bool
formed_top top.Empty = true
formed_top (top.Data part) = formed_data part
formed_top (top.Synonym part) = formed_synonym part
formed_top (top.Fixity part) = formed_fixity part
formed_top (top.Signature first rest at part) = formed_type_exp part
formed_top (top.Equation what rhs) = formed_head what && formed_rhs rhs

-- `;` and a top declaration
abbrev pub formed_next_top : NextTop → Bool
formed_next_top part = formed_top part.top

-- a program: its top declarations are well formed
abbrev pub formed_tree : Tree → Bool
formed_tree part = formed_top part.first && each_formed formed_next_top part.rest
