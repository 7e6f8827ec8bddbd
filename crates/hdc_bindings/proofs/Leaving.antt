-- What comes into scope for a part goes behind it, and a block ends.
use Rattle.std.proofs.Common.{◌≡◌, ℕ, List, None, length, ap, ◌∙◌}
use Rattle.hdc_tree.specs.declared.name.Name as tree
use Rattle.hdc_resolved.specs.Syntax as resolved
use Rattle.hdc_written.specs.Written.{Declarations, all_bound}
use Rattle.hdc_resolving.specs.declared.known.Known.{Known}
use Rattle.hdc_resolving.specs.declared.walk.Counter.{Counter}
use Rattle.hdc_resolving.specs.declared.walk.Walk.{Walk}
use Rattle.hdc_resolving.specs.Grouped.{Joining}
use Rattle.hdc_resolving.specs.Numbering.{ended, numbered, entered, moved, left_at}
use Rattle.hdc_resolving.specs.Parts.{Bound, block_at}
use Rattle.hdc_resolving.proofs.Entering.{left_entered}
use Rattle.hdc_bindings.specs.Blocks.{bound_in}
use Rattle.hdc_bindings.specs.Resolving.{behind_declarations, inside, behind, block_of, resolved_members}

-- names come into scope, more is counted, and they go
pub left_again : (xs : List tree.Name) (counts : Counter → Counter) (w w1 w2 w3 : Walk) (n f : ℕ) → n ≡ length w.names → f ≡ length w.fixities → w1 ≡ entered xs w → w2 ≡ moved (counts w1.counter) w1 → w3 ≡ left_at n f w2 → w3 ≡ moved (counts (numbered xs w.counter)) w
left_again xs counts w w1 w2 w3 n f n_is f_is w1_is w2_is w3_is =
    w3_is
    ∙ (λ i. left_at (n_is i) (f_is i) ((w2_is ∙ ap (λ (z : Walk). moved (counts z.counter) z) w1_is) i))
    ∙ left_entered xs w (counts (numbered xs w.counter))

-- the same of the names of a block, which ends
pub left_block : (ds : Declarations) (counts : Counter → Counter) (w w1 w2 w3 w4 : Walk) (n f : ℕ) → n ≡ length w.names → f ≡ length w.fixities → w1 ≡ inside ds w → w2 ≡ moved (behind_declarations ds w1.counter) w1 → w3 ≡ moved (counts w2.counter) w2 → w4 ≡ left_at n f (moved (ended w3.counter) w3) → w4 ≡ moved (ended (counts (behind_declarations ds (numbered (all_bound ds) w.counter)))) w
left_block ds counts w w1 w2 w3 w4 n f n_is f_is w1_is w2_is w3_is w4_is =
    left_again (all_bound ds) (λ c. ended (counts (behind_declarations ds c))) w w1 (moved (ended w3.counter) w3) w4 n f n_is f_is w1_is
    (ap (λ (z : Walk). moved (ended z.counter) z) (w3_is ∙ ap (λ (z : Walk). moved (counts z.counter) z) w2_is))
    w4_is

-- what is in scope behind the declarations of a block
pub behind_is : (ds : Declarations) (w w1 w2 : Walk) → w1 ≡ inside ds w → w2 ≡ moved (behind_declarations ds w1.counter) w1 → w2 ≡ behind ds w
behind_is ds w w1 w2 w1_is w2_is = w2_is ∙ ap (λ (z : Walk). moved (behind_declarations ds z.counter) z) w1_is

-- the block, where more is counted before it ends
pub closed_block : (join : Joining) (k : Known) (ds : Declarations) (counts : Counter → Counter) (w w1 w2 w3 : Walk) (bound : Bound) (made : resolved.Block) → w1 ≡ inside ds w → bound ≡ bound_in join k ds w1 → w2 ≡ moved (behind_declarations ds w1.counter) w1 → w3 ≡ moved (counts w2.counter) w2 → made ≡ block_at k w3.counter bound → made ≡ block_of k ds (resolved_members join k ds None (inside ds w)) (inside ds w).names (counts (behind ds w).counter)
closed_block join k ds counts w w1 w2 w3 bound made w1_is bound_is w2_is w3_is block_is =
    let counter_is = ap (λ (z : Walk). z.counter) w3_is ∙ ap (λ (z : Walk). counts z.counter) (behind_is ds w w1 w2 w1_is w2_is) in
    block_is ∙ (λ i. block_at k (counter_is i) ((bound_is ∙ ap (bound_in join k ds) w1_is) i))
