-- The texts that are written.
use Rattle.std.specs.Prelude.{ℕ, List, [], ◌++◌, codes}
use Rattle.std.specs.Fmt.{decimal, signed_decimal}
use Rattle.hdc_base.specs.declared.place.At.{At}
use Rattle.hdc_base.specs.declared.place.Place.{Place}
use Rattle.hdc_base.specs.declared.place.Src.{Src}
use Rattle.hdc_base.specs.declared.place.Src.TheVariants.{Program, Prelude}
use Rattle.hdc_base.specs.declared.refusal.Kind.{Kind}
use Rattle.hdc_base.specs.declared.refusal.Kind.TheVariants as kind
use Rattle.hdc_base.specs.declared.refusal.Refusal.{Refusal}
use Rattle.hdc_base.specs.declared.refusal.Which.{Which}
use Rattle.hdc_base.specs.declared.refusal.Which.TheVariants as which
use Rattle.hdc_base.specs.declared.refusal.Limit.{Limit}
use Rattle.hdc_base.specs.declared.refusal.Limit.TheVariants as limit
use Rattle.hdc_base.specs.declared.refusal.Stop.{Stop}
use Rattle.hdc_base.specs.declared.refusal.Stop.TheVariants as stop
use Rattle.hdc_value.specs.declared.outcome.Value.{Value}
use Rattle.hdc_value.specs.declared.outcome.Value.TheVariants as value
use Rattle.hdc_value.specs.declared.outcome.TrapKind.{TrapKind}
use Rattle.hdc_value.specs.declared.outcome.TrapKind.TheVariants as trap
use Rattle.hdc_value.specs.declared.outcome.Outcome.{Outcome}
use Rattle.hdc_value.specs.declared.outcome.Outcome.TheVariants as outcome

-- a place as line:column
abbrev pub at_text : At → List ℕ
at_text at = decimal at.line ++ codes ":" ++ decimal at.col

-- the text in which a place lies is named where it is the prelude
abbrev pub src_text : Src → List ℕ
src_text Program = []
src_text Prelude = codes "prelude "

abbrev pub place_text : Place → List ℕ
place_text place = src_text place.src ++ at_text place.at

abbrev pub value_text : Value → List ℕ
value_text (value.Int n) = signed_decimal n

abbrev pub trap_text : TrapKind → List ℕ
trap_text trap.Overflow = codes "overflow"

-- the line of an outcome, without its end
abbrev pub outcome_text : Outcome → List ℕ
outcome_text (outcome.Value v) = codes "value " ++ value_text v
outcome_text (outcome.Trap t) = codes "trap " ++ trap_text t.kind ++ codes " at " ++ place_text t.place

-- the report of a run on one processor, which makes all the unfoldings and sends no message
abbrev pub run_text : Outcome → ℕ → List ℕ
run_text o unfoldings = outcome_text o ++ codes "\nunfoldings " ++ decimal unfoldings ++ codes "\nwork " ++ decimal unfoldings ++ codes "\nmessages 0\n"

-- the name of a kind of refusals, and the letter of its rules where it has some
abbrev pub kind_name : Kind → List ℕ
kind_name kind.Byte = codes "byte"
kind_name kind.Literal = codes "literal"
kind_name kind.Unclosed = codes "unclosed"
kind_name kind.Brace = codes "brace"
kind_name kind.Syntax = codes "syntax"
kind_name kind.Fixity = codes "fixity"
kind_name kind.Name = codes "name N"
kind_name kind.Skeleton = codes "skeleton S"
kind_name kind.Typing = codes "type"
kind_name kind.Main = codes "main M"
kind_name kind.Input = codes "input"
kind_name kind.Schedule = codes "schedule"
kind_name kind.NotYet = codes "notyet"

-- the number of the broken rule, for the kinds that have rules
abbrev pub rule_text : Kind → ℕ → List ℕ
rule_text kind.Name rule = decimal rule
rule_text kind.Skeleton rule = decimal rule
rule_text kind.Main rule = decimal rule
rule_text other rule = []

abbrev pub refusal_text : Refusal → List ℕ
refusal_text r = codes "refused " ++ kind_name r.kind ++ rule_text r.kind r.rule ++ codes " at " ++ at_text r.at ++ codes "\n"

-- the name of a limit on a file's length, and what stands before the name of a limit on its tokens or nesting
abbrev pub long_name : Which → List ℕ
long_name which.Program = codes "long program"
long_name which.Input = codes "long input"
long_name which.Schedule = codes "long schedule"

abbrev pub which_prefix : Which → List ℕ
which_prefix which.Program = []
which_prefix which.Input = codes "input "
which_prefix which.Schedule = codes "schedule "

-- the name of a limit, with its place where it has one
abbrev pub limit_name : Limit → List ℕ
limit_name (limit.Long w) = long_name w
limit_name (limit.Tokens w at) = which_prefix w ++ codes "tokens at " ++ at_text at
limit_name (limit.Nesting w at) = which_prefix w ++ codes "nesting at " ++ at_text at
limit_name (limit.Depth at) = codes "depth at " ++ at_text at
limit_name (limit.TypeSize at) = codes "type size at " ++ at_text at
limit_name limit.Instances = codes "instances"
limit_name limit.Trace = codes "trace"

-- the line of a stop; want of memory has none
abbrev pub stop_text : Stop → List ℕ
stop_text (stop.Refused r) = refusal_text r
stop_text (stop.Limit l) = codes "limit " ++ limit_name l ++ codes "\n"
stop_text stop.Want = []
