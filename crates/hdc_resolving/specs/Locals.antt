-- Parts of blocks: orders of evaluation, signatures, and operators of chains.
use Rattle.std.specs.Prelude.{ℕ, List, [], ◌∷◌, slice_index_or}
use Rattle.hdc_tree.specs.declared.name.Name as written_name
use Rattle.hdc_resolved.specs.declared.name.Use.{Use}
use Rattle.hdc_resolved.specs.declared.expression.SignedName.{SignedName}
use Rattle.hdc_resolved.specs.Syntax as resolved
use Rattle.hdc_written.specs.Written.{Links, no_link, link}
use Rattle.hdc_written.specs.WrittenTypes.{WrittenType}
use Rattle.hdc_type_names.specs.Variables.{signature_type}
use Rattle.hdc_resolving.specs.declared.known.Known.{Known}
use Rattle.hdc_resolving.specs.Literals.{place_in}
use Rattle.hdc_resolving.specs.Standing.{Names}
use Rattle.hdc_resolving.specs.Uses.{named, operator_use}

-- the binding of a declaration, by the binding of each
abbrev pub home_of : List ℕ → ℕ → ℕ
home_of hs i = slice_index_or hs i 0

-- declarations as bindings
abbrev pub housed : List ℕ → List ℕ → List ℕ
housed hs [] = []
housed hs (i ∷ is) = home_of hs i ∷ housed hs is

-- the order in which the values of the block with this number are evaluated, by their declarations
abbrev pub order_at : Known → ℕ → List ℕ
order_at k n = slice_index_or k.orders n []

-- the names of a signature
abbrev pub signed_name : Known → Names → written_name.Name → SignedName
signed_name k names x = record { place = place_in k.src x.at; name = named names x }

abbrev pub signed_names : Known → Names → List written_name.Name → List SignedName
signed_names k names [] = []
signed_names k names (x ∷ xs) = signed_name k names x ∷ signed_names k names xs

-- a signature
abbrev pub resolved_signature : Known → Names → List written_name.Name → WrittenType → resolved.Signed
resolved_signature k names xs t = record { names = signed_names k names xs; type_of = signature_type k.types t }

-- the operators of a chain
abbrev pub link_uses : Links → Known → Names → List Use
link_uses no_link k names = []
link_uses (link s a o ls) k names = operator_use o k names ∷ link_uses ls k names
