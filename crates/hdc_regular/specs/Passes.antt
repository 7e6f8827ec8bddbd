-- What the passes over a text and a prelude before it come to.
use Rattle.std.specs.Borrow.{Bor}
use Rattle.std.specs.Prelude.{◌≡◌, ℕ, suc, ◌+◌, Bool, true, false, List, [], ◌∷◌, ◌++◌, Option, Some, None, map, length, slice_index_or, slice_set}
use Rattle.hdc_tree.specs.declared.program.Top.{Top}
use Rattle.hdc_tree.specs.declared.program.Top.TheVariants as top
use Rattle.hdc_tree.specs.declared.program.Tree.{Tree}
use Rattle.hdc_graph.specs.Needs.{IsClosed, IsNumbering}
use Rattle.hdc_written.specs.Mirror.{tops_of}
use Rattle.hdc_written.specs.declared.breach.Breach.{Breach}
use Rattle.hdc_written.specs.declared.breach.Found.{Found}
use Rattle.hdc_written.specs.Breaches.{all_noted, nothing_found}
use Rattle.hdc_regular.specs.declared.contents.Usage.{Usage}
use Rattle.hdc_regular.specs.declared.demand.Demand.{Demand}
use Rattle.hdc_regular.specs.declared.outline.Outline.{Outline}
use Rattle.hdc_regular.specs.declared.texts.Texts.{Texts}
use Rattle.hdc_regular.specs.declared.summary.Kind.{Kind}
use Rattle.hdc_regular.specs.declared.summary.Kind.TheVariants as kind
use Rattle.hdc_regular.specs.declared.summary.Body.{Body}
use Rattle.hdc_regular.specs.declared.summary.Summary.{Summary}
use Rattle.hdc_regular.specs.Resolved.{Declaration, data_type, synonym, neither}
use Rattle.hdc_regular.specs.PartMirror.{parts_of}
use Rattle.hdc_regular.specs.Named.{body_of, named_needs}
use Rattle.hdc_regular.specs.Irregular.{names_before, names_of}
use Rattle.hdc_regular.specs.Built.{built_by}
use Rattle.hdc_regular.specs.Contents.{each_uses_in}
use Rattle.hdc_regular.specs.Walk.{is_in_group}
use Rattle.hdc_regular.specs.Demands.{no_demand, demand_at, by_own, demanded}
use Rattle.hdc_regular.specs.Judging.{uses_wrong}
use Rattle.hdc_regular.specs.Judged.{built_in_order, breaches_from}

-- ---- texts

-- the declarations of a prelude, if there is one
abbrev pub tops_before : Option (Bor Tree) → List Top
tops_before None = []
tops_before (Some tree) = tops_of tree.now

abbrev pub before_of : Texts → List Top
before_of t = tops_before t.before

abbrev pub text_of : Texts → List Top
text_of t = tops_of t.text.now

-- what names stand for in both texts is what their declarations say
pub record AreTexts (t : Texts) : Type 0 where
  pub count : t.count ≡ length (before_of t)
  pub names_before : t.names_before ≡ names_before (before_of t) t.sounds
  pub names : t.names ≡ names_of (before_of t) (text_of t) t.sounds

-- the declarations of both as they are built
abbrev pub built_texts : List Outline → Texts → List Declaration
built_texts outlines t = built_by outlines (before_of t) (text_of t) t.sounds

-- ---- declarations

abbrev pub kind_of : Declaration → Kind
kind_of (data_type k ts) = kind.DataType k
kind_of (synonym t) = kind.Synonym
kind_of neither = kind.Neither

-- a synonym is one where it is sound
abbrev pub kind_where : Bool → Kind
kind_where true = kind.Synonym
kind_where false = kind.Neither

abbrev pub top_kind : Bool → Top → Kind
top_kind sound (top.Data d) = kind.DataType (length d.params)
top_kind sound (top.Synonym s) = kind_where sound
top_kind sound top.Empty = kind.Neither
top_kind sound (top.Fixity f) = kind.Neither
top_kind sound (top.Signature x xs a t) = kind.Neither
top_kind sound (top.Equation h r) = kind.Neither

-- the kind of a declaration and its types
abbrev pub IsBody : Body → Declaration → Type 0
IsBody b d = (b.kind ≡ kind_of d) × (parts_of b.parts ≡ body_of d)

-- the kind of a declaration and the uses in its types
abbrev pub summary_of : Declaration → Summary
summary_of d = record { kind = kind_of d; uses = each_uses_in (body_of d) }

abbrev pub no_summary : Summary
no_summary = record { kind = kind.Neither; uses = [] }

abbrev pub summary_at : List Summary → ℕ → Summary
summary_at summaries n = slice_index_or summaries n no_summary

abbrev pub is_synonym_kind : Kind → Bool
is_synonym_kind (kind.DataType k) = false
is_synonym_kind kind.Synonym = true
is_synonym_kind kind.Neither = false

-- which declarations are synonyms
abbrev pub synonym_flags : List Summary → List Bool
synonym_flags summaries = map (λ (s : Summary). is_synonym_kind s.kind) summaries

-- the numbers of what is used
abbrev pub numbers_used : List Usage → List ℕ
numbers_used uses = map (λ (u : Usage). u.number) uses

abbrev pub summary_needs : List Summary → List (List ℕ)
summary_needs summaries = map (λ (s : Summary). numbers_used s.uses) summaries

-- ---- demands

-- the uses in the meaning of a synonym
abbrev pub uses_where : Bool → List Usage → List Usage
uses_where true uses = uses
uses_where false uses = []

abbrev pub synonym_uses : Summary → List Usage
synonym_uses s = uses_where (is_synonym_kind s.kind) s.uses

-- by one use, in a synonym of this group
abbrev pub usage_demanded : List Bool → List Demand → List ℕ → ℕ → Usage → Demand → Demand
usage_demanded synonyms demands numbers group x d = by_own (is_in_group numbers group x.number) (slice_index_or synonyms x.number false) (demand_at demands x.number) x.arguments d

-- by these uses
abbrev pub uses_demanded : List Bool → List Demand → List ℕ → ℕ → List Usage → Demand → Demand
uses_demanded synonyms demands numbers group xs d = demanded (is_in_group numbers group) (λ n. slice_index_or synonyms n false) demands xs d

-- what a synonym with this number asks
abbrev pub demand_set : List Summary → List Bool → List ℕ → ℕ → List Demand → List Demand
demand_set summaries synonyms numbers n demands = slice_set demands n (uses_demanded synonyms demands numbers (slice_index_or numbers n 0) (synonym_uses (summary_at summaries n)) no_demand)

abbrev pub demands_set : List Summary → List Bool → List ℕ → List ℕ → List Demand → List Demand
demands_set summaries synonyms numbers [] demands = demands
demands_set summaries synonyms numbers (n ∷ ns) demands = demands_set summaries synonyms numbers ns (demand_set summaries synonyms numbers n demands)

-- ---- breaches

-- in a declaration of this kind
abbrev pub kind_wrong : List Bool → List Demand → List ℕ → ℕ → Kind → List Usage → List Breach
kind_wrong synonyms demands numbers group (kind.DataType k) uses = uses_wrong synonyms demands numbers group k uses
kind_wrong synonyms demands numbers group kind.Synonym uses = []
kind_wrong synonyms demands numbers group kind.Neither uses = []

abbrev pub summary_wrong : List Bool → List Demand → List ℕ → ℕ → Summary → List Breach
summary_wrong synonyms demands numbers n s = kind_wrong synonyms demands numbers (slice_index_or numbers n 0) s.kind s.uses

-- in declarations that are numbered from this number on
abbrev pub summaries_wrong : List Bool → List Demand → List ℕ → ℕ → List Summary → List Breach
summaries_wrong synonyms demands numbers n [] = []
summaries_wrong synonyms demands numbers n (s ∷ ss) = summary_wrong synonyms demands numbers n s ++ summaries_wrong synonyms demands numbers (suc n) ss

-- ---- the whole search

-- what is found among the declarations as they are built in this order, by the components of what they name
pub record IsFoundIn (ps ts : List Top) (sounds : List Bool) (order : List ℕ) (found : Found) : Type 0 where
  pub closed : IsClosed (named_needs (built_in_order ps ts sounds order (length ps + length ts)))
  pub numbers : List ℕ
  pub numbering : IsNumbering (named_needs (built_in_order ps ts sounds order (length ps + length ts))) numbers
  pub noted : found ≡ all_noted nothing_found (breaches_from (length ps) (built_in_order ps ts sounds order (length ps + length ts)) numbers order)
