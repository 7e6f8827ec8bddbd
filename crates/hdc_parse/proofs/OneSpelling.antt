-- No two well-formed trees have one spelling, since each is read again from it.
use Rattle.std.proofs.Common.{◌≡◌, ℕ, ◌+◌, ◌<◌, true, [], length, Ok, inl, inr, sym, ◌∙◌, ap, arith}
use Rattle.hdc_nesting.specs.Counts.{no_counts}
use Rattle.hdc_tree.specs.declared.program.Tree.{Tree}
use Rattle.hdc_tree.specs.ProgramSpelling.{spell}
use Rattle.hdc_tree.specs.ProgramForm.{formed_tree}
use Rattle.hdc_syntax.proofs.Good.{ok_same}
use Rattle.hdc_syntax.proofs.Ample.{Fits}
use Rattle.hdc_parse.specs.ProgramReader.{program}
use Rattle.hdc_parse.proofs.Whole.{again_whole, ample_whole}
use Rattle.hdc_parse.proofs.Fitting.{fits_any}

-- a tree is read from its tokens, where the turns and the depth are more than these are
reads_at : (n : ℕ) (t : Tree) → formed_tree t ≡ true → length (spell t) < n → Fits n no_counts (spell t) → program n n (spell t) ≡ Ok (t, [])
reads_at n t f lt fits = elim (again_whole n n t f).is [
  | inl ok ↦ ok
  | inr s ↦ absurd ((ample_whole n n n (length (spell t)) lt).enough no_counts (spell t) (omega arith) fits (omega arith) s.0 s.2 s.1)
]

read_again : (t : Tree) → formed_tree t ≡ true → program (length (spell t) + 1) (length (spell t) + 1) (spell t) ≡ Ok (t, [])
read_again t f = reads_at (length (spell t) + 1) t f (omega arith) (fits_any (spell t))

pub one_spelling : (s t : Tree) → formed_tree s ≡ true → formed_tree t ≡ true → spell s ≡ spell t → s ≡ t
one_spelling s t f g same =
    (ok_same Tree (s, []) (t, []) (sym (read_again s f) ∙ ap (λ ts. program (length ts + 1) (length ts + 1) ts) same ∙ read_again t g)).0
