-- What the declarations of blocks use of them.
use Rattle.std.specs.Prelude.{ℕ, suc, List, [], ◌∷◌, map, Option, Some, if◌then◌else◌}
use Rattle.hdc_tree.specs.declared.name.Name.{Name}
use Rattle.hdc_written.specs.Written.{Declarations, no_declaration, declaration, all_bound}
use Rattle.hdc_written.specs.Scopes.{names_text}
use Rattle.hdc_needs.specs.Free.{free_declaration}
use Rattle.hdc_needs.specs.Walk.{Mention, Ended, logged}

-- names are used, those of a block that binds these
abbrev pub logged_all : Option ℕ → List Name → List Name → List Mention → List Mention
logged_all c xs [] us = us
logged_all c xs (y ∷ ys) us = logged_all c xs ys (if names_text xs y.text then logged c y us else us)

-- declarations from this number on use names of a block that binds these
abbrev pub logged_declarations : List Name → ℕ → Declarations → List Mention → List Mention
logged_declarations xs k no_declaration us = us
logged_declarations xs k (declaration d ds) us = logged_declarations xs (suc k) ds (logged_all (Some k) xs (free_declaration d) us)

abbrev pub ended : Declarations → Ended
ended ds = record { declarations = ds; uses = logged_declarations (all_bound ds) 0 ds [] }

abbrev pub all_ended : List Declarations → List Ended
all_ended = map ended
