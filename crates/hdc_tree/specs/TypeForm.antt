-- Which types are well formed: what the grammar asks of them beyond their shape.
use Rattle.std.specs.Prelude.{Bool, true, ◌&&◌}
use Rattle.hdc_tree.specs.declared.type_tree.Atype.{Atype, Atype-F, fold-Atype}
use Rattle.hdc_tree.specs.declared.type_tree.Btype.{Btype, Btype-F, fold-Btype}
use Rattle.hdc_tree.specs.declared.type_tree.ArrowType.{ArrowType, ArrowType-F, fold-ArrowType}
use Rattle.hdc_tree.specs.declared.type_tree.CommaType.{CommaType, CommaType-F, fold-CommaType}
use Rattle.hdc_tree.specs.declared.type_tree.TypeExp.{TypeExp, TypeExp-F, fold-TypeExp}
use Rattle.hdc_tree.specs.Form.{every, few}

-- a type that may be an argument, by its parts; a tuple has two to seven members
abbrev pub formed_atype_step : Atype-F Bool Bool Bool Bool Bool → Bool
formed_atype_step (Atype-F.Con name) = true
formed_atype_step (Atype-F.Var name) = true
formed_atype_step (Atype-F.Unit open_at close_at) = true
formed_atype_step (Atype-F.Paren open_at inner close_at) = inner
formed_atype_step (Atype-F.Tuple open_at first rest close_at) = first && (every rest && few rest)
formed_atype_step (Atype-F.List open_at inner close_at) = inner

-- a type that may stand beside a `->`, by its parts
abbrev pub formed_btype_step : Btype-F Bool Bool Bool Bool Bool → Bool
formed_btype_step (Btype-F.Plain atype) = atype
formed_btype_step (Btype-F.Applied name first rest) = first && every rest

-- `->` and a type
abbrev pub formed_arrow_type_step : ArrowType-F Bool Bool Bool Bool Bool → Bool
formed_arrow_type_step part = part.part

-- `,` and a type
abbrev pub formed_comma_type_step : CommaType-F Bool Bool Bool Bool Bool → Bool
formed_comma_type_step part = part.part

-- types with `->` between them
abbrev pub formed_type_exp_step : TypeExp-F Bool Bool Bool Bool Bool → Bool
formed_type_exp_step part = part.first && every part.rest

-- a type that may be an argument, with all that is in it
abbrev pub formed_atype : Atype → Bool
formed_atype = fold-Atype Bool Bool Bool Bool Bool formed_atype_step formed_btype_step formed_arrow_type_step formed_comma_type_step formed_type_exp_step

-- a type that may stand beside a `->`, with all that is in it
abbrev pub formed_btype : Btype → Bool
formed_btype = fold-Btype Bool Bool Bool Bool Bool formed_atype_step formed_btype_step formed_arrow_type_step formed_comma_type_step formed_type_exp_step

-- `->` and a type, with all that is in it
abbrev pub formed_arrow_type : ArrowType → Bool
formed_arrow_type = fold-ArrowType Bool Bool Bool Bool Bool formed_atype_step formed_btype_step formed_arrow_type_step formed_comma_type_step formed_type_exp_step

-- `,` and a type, with all that is in it
abbrev pub formed_comma_type : CommaType → Bool
formed_comma_type = fold-CommaType Bool Bool Bool Bool Bool formed_atype_step formed_btype_step formed_arrow_type_step formed_comma_type_step formed_type_exp_step

-- types with `->` between them, with all that is in them
abbrev pub formed_type_exp : TypeExp → Bool
formed_type_exp = fold-TypeExp Bool Bool Bool Bool Bool formed_atype_step formed_btype_step formed_arrow_type_step formed_comma_type_step formed_type_exp_step
