-- Types as they are written, without the memory that holds them.
use Rattle.hdc_base.specs.declared.place.At.{At}
use Rattle.hdc_tree.specs.declared.name.Name.{Name}

mutual
  pub data WrittenType : Type 0 where
    -- a constructor and its arguments
    type_constructor : Name → Types → WrittenType
    type_variable : Name → WrittenType
    unit_type : At → WrittenType
    type_in_parentheses : At → WrittenType → WrittenType
    tuple_type : At → Types → WrittenType
    list_type : At → WrittenType → WrittenType
    -- types with arrows between them
    arrow_type : WrittenType → Types → WrittenType

  pub data Types : Type 0 where
    no_type : Types
    next_type : WrittenType → Types → Types
