-- What the walk does to the chain of an expression, part by part.
use Rattle.std.proofs.Common.{◌≡◌, ℕ, List, length, Result, Ok, Err, sym, ap, ◌∙◌}
use Rattle.std.specs.Prelude.{OnOk}
use Rattle.hdc_tree.specs.declared.name.Sign.{Sign}
use Rattle.hdc_tree.specs.declared.expression.Link.{Link}
use Rattle.hdc_names.specs.declared.walk.Walk.{Walk}
use Rattle.hdc_written.specs.Written as written
use Rattle.hdc_written.specs.Written.{Expression, chain}
use Rattle.hdc_written.specs.Mirror.{each_link, link_of}
use Rattle.hdc_names.specs.Sites.{depth_at}
use Rattle.hdc_written.specs.Written.{count_links}
use Rattle.hdc_names.specs.Walk.{chain_joined, joined_in, walk_expression, walk_links, walk_operand}
use Rattle.hdc_written.proofs.Numbered.{count_links-each}

expression_walked : (d : ℕ) (e : Expression) (links : List Link) (s : Sign) (a : written.Operand) (ds : List ℕ) (last : ℕ) (w w1 w2 w3 : Walk) → e ≡ chain (each_link link_of links) s a → w1 ≡ joined_in w (chain_joined d e w) → ds ≡ (chain_joined d e w).depths → w2 ≡ walk_links ds 0 (each_link link_of links) w1 → last ≡ depth_at ds (length links) → w3 ≡ walk_operand last a w2 → w3 ≡ walk_expression d e w
expression_walked d e links s a ds last w w1 w2 w3 parts noted depths h2 number h3 =
    let ls = each_link link_of links in
    let j = chain_joined d (chain ls s a) w in
    let first : w1 ≡ joined_in w j = noted ∙ ap (λ z. joined_in w (chain_joined d z w)) parts in
    let same : ds ≡ j.depths = depths ∙ ap (λ z. (chain_joined d z w).depths) parts in
    h3
    ∙ ap (λ k. walk_operand k a w2) (number ∙ ap (depth_at ds) (sym (count_links-each links)) ∙ ap (λ z. depth_at z (count_links ls)) same)
    ∙ ap (walk_operand (depth_at j.depths (count_links ls)) a) (h2 ∙ ap (λ z. walk_links z 0 ls w1) same ∙ ap (walk_links j.depths 0 ls) first)
    ∙ sym (ap (λ z. walk_expression d z w) parts)

on_ok : {T E : Type 0} (r : Result T E) (P Q : Type 0) → (P → Q) → OnOk r P → OnOk r Q
on_ok (Ok x) P Q f h = f h
on_ok (Err e) P Q f h = tt

-- where the last operand is walked, the expression is
pub chain_walked : {T E : Type 0} (r : Result T E) (d : ℕ) (e : Expression) (links : List Link) (s : Sign) (a : written.Operand) (ds : List ℕ) (last : ℕ) (w w1 w2 w3 : Walk) → e ≡ chain (each_link link_of links) s a → w1 ≡ joined_in w (chain_joined d e w) → ds ≡ (chain_joined d e w).depths → w2 ≡ walk_links ds 0 (each_link link_of links) w1 → last ≡ depth_at ds (length links) → OnOk r (w3 ≡ walk_operand last a w2) → OnOk r (w3 ≡ walk_expression d e w)
chain_walked r d e links s a ds last w w1 w2 w3 parts noted depths h2 number h3 =
    on_ok r (w3 ≡ walk_operand last a w2) (w3 ≡ walk_expression d e w) (expression_walked d e links s a ds last w w1 w2 w3 parts noted depths h2 number) h3
