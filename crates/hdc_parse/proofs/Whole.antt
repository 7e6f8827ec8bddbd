-- What is known of the parser of a program at any number of turns and any depth.
use Rattle.std.proofs.Common.{◌≡◌, ℕ, suc, ◌<◌, true, []}
use Rattle.hdc_tree.specs.declared.program.Tree.{Tree}
use Rattle.hdc_tree.specs.ProgramSpelling.{tree_onto, spell}
use Rattle.hdc_tree.specs.ProgramForm.{formed_tree}
use Rattle.hdc_syntax.proofs.Good.{Good, Spells}
use Rattle.hdc_syntax.proofs.Local.{Local}
use Rattle.hdc_syntax.proofs.Meets.{Meets}
use Rattle.hdc_syntax.proofs.Ample.{Ample, here}
use Rattle.hdc_parse.proofs.NestedParsers.{good_nested, local_nested, meets_nested}
use Rattle.hdc_parse.proofs.NestedAmple.{ample_nested}
use Rattle.hdc_parse.specs.ProgramReader.{program}
use Rattle.hdc_parse.proofs.ProgramWords.{good_program}
use Rattle.hdc_parse.proofs.ProgramLooks.{local_program}
use Rattle.hdc_parse.proofs.ProgramAgain.{again_program}
use Rattle.hdc_parse.proofs.ProgramAmple.{ample_program}

pub good_whole : (turns depth : ℕ) → Good Tree (program turns depth) (Spells Tree tree_onto formed_tree)
good_whole turns depth = good_program turns depth (good_nested turns depth)

pub local_whole : (turns depth : ℕ) → Local Tree (program turns depth)
local_whole turns depth = local_program turns depth (good_nested turns depth) (local_nested turns depth)

pub again_whole : (turns depth : ℕ) (x : Tree) → formed_tree x ≡ true → Meets Tree (program turns depth (spell x)) x []
again_whole turns depth = again_program turns depth (good_nested turns depth) (meets_nested turns depth)

pub ample_whole : (turns most depth n : ℕ) → n < turns → Ample Tree (program turns depth) most n (suc depth) here
ample_whole turns most depth n lt = ample_program turns most depth n lt (good_nested turns depth) (ample_nested turns (good_nested turns) most depth n lt)
