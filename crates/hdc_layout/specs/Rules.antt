-- What a mark, a token and the end give, and which stack they leave.
use Rattle.std.specs.Prelude.{ℕ, List, [], ◌∷◌, ◌++◌, Bool, true, false, not, ◌==◌, ◌&&◌, ◌||◌, nat_lt, if◌then◌else◌, Result, Ok, Err}
use Rattle.hdc_base.specs.declared.place.At.{At}
use Rattle.hdc_base.specs.declared.token.Key.{Key}
use Rattle.hdc_base.specs.declared.token.Key.TheVariants as key
use Rattle.hdc_base.specs.declared.token.Word.TheVariants as word
use Rattle.hdc_base.specs.declared.token.Token.{Token}
use Rattle.hdc_layout.specs.declared.role.Role.{Role}
use Rattle.hdc_layout.specs.declared.role.Role.TheVariants as role
use Rattle.hdc_layout.specs.declared.role.Opener.TheVariants as opener
use Rattle.hdc_layout.specs.declared.role.Answer.{Answer}
use Rattle.hdc_layout.specs.declared.role.Answer.TheVariants as answer
use Rattle.hdc_layout.specs.declared.mark.Mark.{Mark}
use Rattle.hdc_layout.specs.declared.mark.Mark.TheVariants as mark
use Rattle.hdc_layout.specs.declared.summary.Entry.{Entry}
use Rattle.hdc_layout.specs.declared.summary.Entry.TheVariants as entry
use Rattle.hdc_layout.specs.declared.summary.Block.{Block}
use Rattle.hdc_layout.specs.declared.summary.Block.TheVariants as block
use Rattle.hdc_layout.specs.Roles.{role_of, answers, is_where}
use Rattle.hdc_layout.specs.Marks.{Item, token, marked}
use Rattle.hdc_layout.specs.Blocks.{current, column, is_explicit, finds}

-- a token of the answer: one of the text, or one that is inserted
pub data Laid : Type 0 where
  given : Token → Laid
  inserted : Token → Laid

-- the token of a key at a place, inserted
abbrev pub insert : Key → At → Laid
insert k at = inserted (record { at = at; word = word.Key k })

-- what is given, and the stack that is left
pub record Step : Type 0 where
  pub gives : List Laid
  pub stack : List Entry

-- a step that gives these tokens and leaves this stack
abbrev pub step : List Laid → List Entry → Step
step gives stack = record { gives = gives; stack = stack }

-- a step with something given in front
abbrev pub gives_before : List Laid → Step → Step
gives_before front s = step (front ++ s.gives) s.stack

-- a step with something given behind
abbrev pub gives_behind : Step → List Laid → Step
gives_behind s back = step (s.gives ++ back) s.stack

-- what is given for a removed entry: a } for an implicit block
abbrev pub closing : Entry → At → List Laid
closing (entry.Implicit n) at = insert key.KCloseBrace at ∷ []
closing entry.Explicit at = []
closing (entry.Opener o) at = []

-- as long as a test holds of the stack, its top is removed; each implicit block that is removed gives a }
abbrev pub close_while : (List Entry → Bool) → At → List Entry → Step
close_while test at [] = step [] []
close_while test at (e ∷ below) = if test (e ∷ below) then gives_before (closing e at) (close_while test at below) else step [] (e ∷ below)

-- a line at a column ends an implicit block of a greater column, and before `where` one of its own column too
abbrev pub ends : ℕ → Bool → Block → Bool
ends n before_where (block.Implicit m) = nat_lt n m || ((m == n) && before_where)
ends n before_where block.Explicit = false
ends n before_where block.Nowhere = false

-- the block is implicit, of the column
abbrev pub is_at : ℕ → Block → Bool
is_at n (block.Implicit m) = m == n
is_at n block.Explicit = false
is_at n block.Nowhere = false

-- a line at the column of a block that is current and implicit gives a ;
abbrev pub semicolon : ℕ → At → Block → List Laid
semicolon n at b = if is_at n b then insert key.KSemicolon at ∷ [] else []

-- a line, behind the blocks that it ends
abbrev pub after_ends : ℕ → At → Step → Step
after_ends n at s = gives_behind s (semicolon n at (current s.stack))

-- a line ends the current block, with all above it, as long as it ends that; then it gives a ; where it is at the column
-- of the block that is now current and implicit
abbrev pub line : ℕ → Bool → At → List Entry → Step
line n before_where at stack = after_ends n at (close_while (λ s. ends n before_where (current s)) at stack)

-- a block at a greater column than the current block begins; any other block is empty, and a line begins there
abbrev pub begin_block : ℕ → Bool → At → List Entry → Step
begin_block n before_where at stack =
    if nat_lt (column (current stack)) n then step (insert key.KOpenBrace at ∷ []) (entry.Implicit n ∷ stack)
    else gives_before (insert key.KOpenBrace at ∷ insert key.KCloseBrace at ∷ []) (line n before_where at stack)

-- what a mark gives, before `where` or not, and the stack that is left
abbrev pub mark_step : Mark → Bool → At → List Entry → Step
mark_step mark.Nothing before_where at stack = step [] stack
mark_step (mark.Line n) before_where at stack = line n before_where at stack
mark_step (mark.Block n) before_where at stack = begin_block n before_where at stack

-- the stack without its current block and all above it
abbrev pub below_block : List Entry → List Entry
below_block [] = []
below_block (entry.Implicit n ∷ below) = below
below_block (entry.Explicit ∷ below) = below
below_block (entry.Opener o ∷ below) = below_block below

-- the top is not the opener that is answered
abbrev pub is_above : Answer → List Entry → Bool
is_above a [] = false
is_above a (entry.Implicit n ∷ below) = true
is_above a (entry.Explicit ∷ below) = true
is_above a (entry.Opener o ∷ below) = not (answers a o)

-- the stack for one whose top is answered: a comma leaves the opener, and `then` stands in the place of its `if`
abbrev pub answered : Answer → List Entry → List Entry
answered a [] = []
answered answer.In (e ∷ below) = below
answered answer.Then (e ∷ below) = entry.Opener opener.Then ∷ below
answered answer.Else (e ∷ below) = below
answered answer.Of (e ∷ below) = below
answered answer.CloseParen (e ∷ below) = below
answered answer.CloseBracket (e ∷ below) = below
answered answer.Comma (e ∷ below) = e ∷ below

-- an answer that finds its opener removes all above that, and leaves what stands in the opener's place; an answer that
-- finds none changes nothing
abbrev pub take_answer : Answer → At → List Entry → Step
take_answer a at stack =
    if finds a stack then (let s = close_while (is_above a) at stack in step s.gives (answered a s.stack))
    else step [] stack

-- what a token of a role at a place closes, and the stack that is left, or the place where a } ends no explicit block
abbrev pub role_step : Role → At → List Entry → Result Step At
role_step role.OpenBrace at stack = Ok (step [] (entry.Explicit ∷ stack))
role_step role.CloseBrace at stack = if is_explicit (current stack) then Ok (step [] (below_block stack)) else Err at
role_step (role.Opens o) at stack = Ok (step [] (entry.Opener o ∷ stack))
role_step (role.Answers a) at stack = Ok (take_answer a at stack)
role_step role.Where at stack = Ok (step [] stack)
role_step role.Module at stack = Ok (step [] stack)
role_step role.Other at stack = Ok (step [] stack)

-- a token is given behind what it closes
abbrev pub and_given : Token → Result Step At → Result Step At
and_given t (Ok s) = Ok (gives_behind s (given t ∷ []))
and_given t (Err at) = Err at

-- what a token gives, and the stack that is left, or the place of the brace
abbrev pub token_step : Token → List Entry → Result Step At
token_step t stack = and_given t (role_step (role_of t.word) t.at stack)

-- laid-out tokens, or the place of a brace
abbrev pub LaidResult : Type 0
LaidResult = Result (List Laid) At

-- an answer with tokens in front
abbrev pub with_front : List Laid → LaidResult → LaidResult
with_front front (Ok laid) = Ok (front ++ laid)
with_front front (Err at) = Err at

-- at the end a } is given for each implicit block, and an explicit block is a fault there
abbrev pub finish : List Entry → At → LaidResult
finish [] end = Ok []
finish (entry.Implicit n ∷ below) end = with_front (insert key.KCloseBrace end ∷ []) (finish below end)
finish (entry.Explicit ∷ below) end = Err end
finish (entry.Opener o ∷ below) end = finish below end

-- the next token is `where`
abbrev pub before_where : List Item → Bool
before_where [] = false
before_where (token t ∷ items) = is_where (role_of t.word)
before_where (marked m at ∷ items) = false

-- the answer of what comes behind a step
abbrev pub behind_step : Result Step At → (List Entry → LaidResult) → LaidResult
behind_step (Ok s) rest = with_front s.gives (rest s.stack)
behind_step (Err at) rest = Err at

-- the rules, applied to a list of marks and tokens
abbrev pub apply : List Item → At → List Entry → LaidResult
apply [] end stack = finish stack end
apply (token t ∷ items) end stack = behind_step (token_step t stack) (λ s. apply items end s)
apply (marked m at ∷ items) end stack = behind_step (Ok (mark_step m (before_where items) at stack)) (λ s. apply items end s)
