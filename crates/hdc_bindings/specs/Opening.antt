-- What is known and in scope at the top of a prelude, and of a program behind it.
use Rattle.std.specs.Prelude.{ℕ, List, None}
use Rattle.hdc_base.specs.declared.place.Src.TheVariants as src
use Rattle.hdc_tree.specs.declared.program.Top.{Top}
use Rattle.hdc_names.specs.Fixities.{program_scope}
use Rattle.hdc_type_names.specs.TypeNames.{program_types}
use Rattle.hdc_resolved.specs.declared.name.Constructor.{Constructor}
use Rattle.hdc_resolved.specs.declared.name.Name.{Name}
use Rattle.hdc_bindings.specs.declared.resolve.Opened.{Opened}
use Rattle.hdc_resolving.specs.Standing.{Numbered, tops_named, constructors_in, prelude_named, prelude_constructors}
use Rattle.hdc_bindings.specs.Tops.{prelude_known, prelude_walk}

abbrev pub prelude_opened : List Top → List (List ℕ) → Opened
prelude_opened ps orders = record { known = prelude_known ps orders; walk = prelude_walk ps; next_top = (prelude_named ps).next; next_data = (prelude_constructors ps).next }

-- the names and constructors of a program behind what was opened before
abbrev pub named_behind : List Top → Opened → Numbered Name
named_behind ts o = tops_named ts None (record { scope = o.walk.names; next = o.next_top })

abbrev pub constructed_behind : List Top → Opened → Numbered Constructor
constructed_behind ts o = constructors_in ts (record { scope = o.known.constructors; next = o.next_data })

abbrev pub opened_behind : List Top → List Top → Opened → Opened
opened_behind ps ts o = record {
  known = record {
    src = src.Program;
    constructors = (constructed_behind ts o).scope;
    types = program_types ps ts;
    range = o.known.range;
    generator = o.known.generator;
    orders = o.known.orders;
  };
  walk = record { names = (named_behind ts o).scope; fixities = program_scope ts; counter = o.walk.counter };
  next_top = (named_behind ts o).next;
  next_data = (constructed_behind ts o).next;
}
