-- What an operand is, where a part of the code is for one kind alone.
use Rattle.hdc_written.specs.Written.{Operand, variable, constructor, literal, unit, nil, cons, in_parentheses, tuple, list, range, comprehension, left_section, right_section, applied, lambda, let_in, if_else, case_of}

abbrev pub IsIf : Operand → Type 0
IsIf (variable x) = ⊥
IsIf (constructor x) = ⊥
IsIf (literal a l) = ⊥
IsIf (unit a) = ⊥
IsIf (nil a) = ⊥
IsIf (cons a b) = ⊥
IsIf (in_parentheses a e) = ⊥
IsIf (tuple a es) = ⊥
IsIf (list a es) = ⊥
IsIf (range a e f) = ⊥
IsIf (comprehension a e qs) = ⊥
IsIf (left_section a e o) = ⊥
IsIf (right_section a o e) = ⊥
IsIf (applied f as') = ⊥
IsIf (lambda a ps e) = ⊥
IsIf (let_in a ds e) = ⊥
IsIf (if_else a e f g) = Unit {0}
IsIf (case_of a e bs) = ⊥

abbrev pub IsCase : Operand → Type 0
IsCase (variable x) = ⊥
IsCase (constructor x) = ⊥
IsCase (literal a l) = ⊥
IsCase (unit a) = ⊥
IsCase (nil a) = ⊥
IsCase (cons a b) = ⊥
IsCase (in_parentheses a e) = ⊥
IsCase (tuple a es) = ⊥
IsCase (list a es) = ⊥
IsCase (range a e f) = ⊥
IsCase (comprehension a e qs) = ⊥
IsCase (left_section a e o) = ⊥
IsCase (right_section a o e) = ⊥
IsCase (applied f as') = ⊥
IsCase (lambda a ps e) = ⊥
IsCase (let_in a ds e) = ⊥
IsCase (if_else a e f g) = ⊥
IsCase (case_of a e bs) = Unit {0}
