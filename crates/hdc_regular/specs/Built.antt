-- Declarations as they are built.
use Rattle.std.specs.Prelude.{ℕ, suc, Bool, false, List, [], ◌∷◌, ◌++◌, length, slice_index_or}
use Rattle.hdc_tree.specs.declared.program.Top.{Top}
use Rattle.hdc_tree.specs.declared.program.Top.TheVariants as top
use Rattle.hdc_written.specs.Scopes.{Binding}
use Rattle.hdc_written.specs.TypeMirror.{type_exp_of}
use Rattle.hdc_regular.specs.declared.outline.Outline.{Outline}
use Rattle.hdc_regular.specs.declared.standing.Standing.{Standing}
use Rattle.hdc_regular.specs.Resolved.{Declaration, data_type, neither}
use Rattle.hdc_regular.specs.Resolving.{params_from, data_fields, sound_synonym}
use Rattle.hdc_regular.specs.Irregular.{names_before, names_of}
use Rattle.hdc_regular.specs.Building.{built, each_built}

-- a declaration, by what is known of the meanings of synonyms
abbrev pub built_declaration : List Outline → List (Binding Standing) → Bool → Top → Declaration
built_declaration outlines names sound (top.Data d) = data_type (length d.params) (each_built outlines names (params_from 0 d.params) (data_fields d))
built_declaration outlines names sound (top.Synonym s) = sound_synonym sound (built outlines names (params_from 0 s.params) (type_exp_of s.meaning))
built_declaration outlines names sound top.Empty = neither
built_declaration outlines names sound (top.Fixity f) = neither
built_declaration outlines names sound (top.Signature x xs a t) = neither
built_declaration outlines names sound (top.Equation h r) = neither

-- the same for declarations that are numbered from this number on
abbrev pub each_built_declaration : List Outline → List (Binding Standing) → List Bool → ℕ → List Top → List Declaration
each_built_declaration outlines names sounds n [] = []
each_built_declaration outlines names sounds n (t ∷ ts) = built_declaration outlines names (slice_index_or sounds n false) t ∷ each_built_declaration outlines names sounds (suc n) ts

-- the declarations of a prelude and of a text behind it
abbrev pub built_by : List Outline → List Top → List Top → List Bool → List Declaration
built_by outlines ps ts sounds = each_built_declaration outlines (names_before ps sounds) sounds 0 ps ++ each_built_declaration outlines (names_of ps ts sounds) sounds (length ps) ts
