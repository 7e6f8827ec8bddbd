-- The list of the tokens of a text with the marks between them.
use Rattle.std.specs.Prelude.{List, [], ◌∷◌, ◌++◌, Bool, ◌==◌, ◌&&◌, ◌||◌, not, if◌then◌else◌}
use Rattle.hdc_base.specs.declared.place.At.{At}
use Rattle.hdc_base.specs.declared.token.Token.{Token}
use Rattle.hdc_layout.specs.declared.role.Role.{Role}
use Rattle.hdc_layout.specs.declared.mark.Before.{Before}
use Rattle.hdc_layout.specs.declared.mark.Before.TheVariants as before
use Rattle.hdc_layout.specs.declared.mark.Mark.{Mark}
use Rattle.hdc_layout.specs.declared.mark.Mark.TheVariants as mark
use Rattle.hdc_layout.specs.Roles.{role_of, begins_block, is_open_brace, is_module}

-- a token, or a mark with the place of what comes next
pub data Item : Type 0 where
  token : Token → Item
  marked : Mark → At → Item

-- of the token before, only its line and its role count
abbrev pub behind : Token → Before
behind t = before.Token t.at.line (role_of t.word)

-- a text that begins with neither { nor `module` begins with a block
abbrev pub starts_block : Role → Bool
starts_block r = not (is_open_brace r || is_module r)

-- a block's mark stands first where the text begins with neither { nor `module`, and behind `let`, `where` and `of`
-- where no { comes next; else a line's mark stands before the first token of a line; each has the column of the token
abbrev pub mark_before : Before → Token → Mark
mark_before before.Beginning t = if starts_block (role_of t.word) then mark.Block t.at.col else mark.Line t.at.col
mark_before (before.Token line r) t =
    if begins_block r && not (is_open_brace (role_of t.word)) then mark.Block t.at.col
    else (if line == t.at.line then mark.Nothing else mark.Line t.at.col)

-- at the end of a text stands at most a block's mark, of column 0
abbrev pub mark_at_end : Before → Mark
mark_at_end before.Beginning = mark.Block 0
mark_at_end (before.Token line r) = if begins_block r then mark.Block 0 else mark.Nothing

-- a mark at a place in the list, where there is one
abbrev pub items_of : Mark → At → List Item
items_of mark.Nothing at = []
items_of (mark.Block n) at = marked (mark.Block n) at ∷ []
items_of (mark.Line n) at = marked (mark.Line n) at ∷ []

-- the tokens with the marks between them, behind what stands before and up to the end
abbrev pub marked_list : Before → List Token → At → List Item
marked_list b [] end = items_of (mark_at_end b) end
marked_list b (t ∷ ts) end = items_of (mark_before b t) t.at ++ (token t ∷ marked_list (behind t) ts end)
