-- One turn of a loop over a list.
use Rattle.std.proofs.Common.{◌≡◌, ℕ, suc, Bool, ◌+◌, ◌<◌, List, ◌∷◌, ◌++◌, length, drop, get_or, sym, ap, ◌∙◌}
use Rattle.hdc_base.specs.declared.place.At.{At}
use Rattle.hdc_tree.specs.declared.pattern.ConsPat.{ConsPat}
use Rattle.hdc_tree.specs.declared.type_tree.ArrowType.{ArrowType}
use Rattle.hdc_names.specs.declared.found.Found.{Found}
use Rattle.hdc_written.specs.WrittenTypes.{WrittenType}
use Rattle.hdc_written.specs.TypeMirror.{each_type, arrow_type_of}
use Rattle.hdc_written.specs.Firsts.{first_of_pattern, first_of_type}
use Rattle.hdc_names.specs.Sites.{Site, joined, below, follow, types_follow, pattern_nodes, cons_nodes, type_nodes, arrow_nodes}
use Rattle.hdc_names.specs.Trees.{all_found}
use Rattle.hdc_written.specs.Written.{Pattern}
use Rattle.hdc_written.specs.Mirror.{each_pattern, cons_pat_of}
use Rattle.hdc_names.proofs.Noting.{found_joined}
use Rattle.hdc_written.proofs.Loops.{stepped}

-- the sites of one more part are noted
pub next_found : {A : Type 0} (g : List A → List Site) (h : A → List Site) (split : (x : A) (xs : List A) → g (x ∷ xs) ≡ h x ++ g xs) (parts : List A) (i : ℕ) (x : A) (ss : List Site) (start now next : Found) → all_found start (g parts) ≡ all_found now (g (drop i parts)) → i < length parts → x ≡ get_or parts i x → h x ≡ ss → next ≡ all_found now ss → all_found start (g parts) ≡ all_found next (g (drop (i + 1) parts))
next_found g h split parts i x ss start now next so_far lt is same e =
    so_far
    ∙ ap (λ z. all_found now (g z)) (stepped parts i x lt is)
    ∙ ap (all_found now) (split x (drop (i + 1) parts))
    ∙ found_joined now (h x) (g (drop (i + 1) parts))
    ∙ ap (λ z. all_found (all_found now z) (g (drop (i + 1) parts))) same
    ∙ ap (λ (f : Found). all_found f (g (drop (i + 1) parts))) (sym e)

-- one more of the parts that are joined with what follows: its node, if it has one, and its own nodes
three_found : (now n1 n2 : Found) (xs ys zs : List Site) → n1 ≡ all_found now xs → n2 ≡ all_found n1 ys → all_found now (xs ++ (ys ++ zs)) ≡ all_found n2 zs
three_found now n1 n2 xs ys zs e f =
    found_joined now xs (ys ++ zs)
    ∙ ap (λ (g : Found). all_found g (ys ++ zs)) (sym e)
    ∙ found_joined n1 ys zs
    ∙ ap (λ (g : Found). all_found g zs) (sym f)

pub next_cons : (parts : List ConsPat) (i d0 d d' inner : ℕ) (x : ConsPat) (p : Pattern) (at : At) (b : Bool) (start now n1 n2 : Found) → all_found start (cons_nodes d0 (each_pattern cons_pat_of parts)) ≡ all_found now (cons_nodes d (each_pattern cons_pat_of (drop i parts))) → i < length parts → x ≡ get_or parts i x → cons_pat_of x ≡ p → b ≡ follow (each_pattern cons_pat_of (drop (i + 1) parts)) → at ≡ first_of_pattern p → inner ≡ below d b → n1 ≡ all_found now (joined d at b) → n2 ≡ all_found n1 (pattern_nodes inner p) → d' ≡ suc d → all_found start (cons_nodes d0 (each_pattern cons_pat_of parts)) ≡ all_found n2 (cons_nodes d' (each_pattern cons_pat_of (drop (i + 1) parts)))
next_cons parts i d0 d d' inner x p at b start now n1 n2 so_far lt is same follows first depth e f deeper =
    let rest = drop (i + 1) parts in
    let some = follow (each_pattern cons_pat_of rest) in
    let noted : n1 ≡ all_found now (joined d (first_of_pattern (cons_pat_of x)) some) = e ∙ ap (λ z. all_found now (joined d z b)) (first ∙ ap first_of_pattern (sym same)) ∙ ap (λ z. all_found now (joined d (first_of_pattern (cons_pat_of x)) z)) follows in
    let own : n2 ≡ all_found n1 (pattern_nodes (below d some) (cons_pat_of x)) = f ∙ ap (λ z. all_found n1 (pattern_nodes z p)) (depth ∙ ap (below d) follows) ∙ ap (λ z. all_found n1 (pattern_nodes (below d some) z)) (sym same) in
    so_far
    ∙ ap (λ z. all_found now (cons_nodes d (each_pattern cons_pat_of z))) (stepped parts i x lt is)
    ∙ three_found now n1 n2 (joined d (first_of_pattern (cons_pat_of x)) some) (pattern_nodes (below d some) (cons_pat_of x)) (cons_nodes (suc d) (each_pattern cons_pat_of rest)) noted own
    ∙ ap (λ z. all_found n2 (cons_nodes z (each_pattern cons_pat_of rest))) (sym deeper)

pub next_arrow : (parts : List ArrowType) (i d0 d d' inner : ℕ) (x : ArrowType) (t : WrittenType) (at : At) (b : Bool) (start now n1 n2 : Found) → all_found start (arrow_nodes d0 (each_type arrow_type_of parts)) ≡ all_found now (arrow_nodes d (each_type arrow_type_of (drop i parts))) → i < length parts → x ≡ get_or parts i x → arrow_type_of x ≡ t → b ≡ types_follow (each_type arrow_type_of (drop (i + 1) parts)) → at ≡ first_of_type t → inner ≡ below d b → n1 ≡ all_found now (joined d at b) → n2 ≡ all_found n1 (type_nodes inner t) → d' ≡ suc d → all_found start (arrow_nodes d0 (each_type arrow_type_of parts)) ≡ all_found n2 (arrow_nodes d' (each_type arrow_type_of (drop (i + 1) parts)))
next_arrow parts i d0 d d' inner x t at b start now n1 n2 so_far lt is same follows first depth e f deeper =
    let rest = drop (i + 1) parts in
    let some = types_follow (each_type arrow_type_of rest) in
    let noted : n1 ≡ all_found now (joined d (first_of_type (arrow_type_of x)) some) = e ∙ ap (λ z. all_found now (joined d z b)) (first ∙ ap first_of_type (sym same)) ∙ ap (λ z. all_found now (joined d (first_of_type (arrow_type_of x)) z)) follows in
    let own : n2 ≡ all_found n1 (type_nodes (below d some) (arrow_type_of x)) = f ∙ ap (λ z. all_found n1 (type_nodes z t)) (depth ∙ ap (below d) follows) ∙ ap (λ z. all_found n1 (type_nodes (below d some) z)) (sym same) in
    so_far
    ∙ ap (λ z. all_found now (arrow_nodes d (each_type arrow_type_of z))) (stepped parts i x lt is)
    ∙ three_found now n1 n2 (joined d (first_of_type (arrow_type_of x)) some) (type_nodes (below d some) (arrow_type_of x)) (arrow_nodes (suc d) (each_type arrow_type_of rest)) noted own
    ∙ ap (λ z. all_found n2 (arrow_nodes z (each_type arrow_type_of rest))) (sym deeper)
