-- Arguments in place of variables, one after another.
use Rattle.std.proofs.Common.{◌≡◌, ℕ, zero, suc, List, [], ◌∷◌, ◌++◌, get_or, map, refl, sym, ap, ◌∙◌, append_assoc}
use Rattle.hdc_value.specs.declared.ty.TypeNode.{TypeNode}
use Rattle.hdc_value.specs.declared.ty.TypeNode.TheVariants as node
use Rattle.hdc_datas.specs.Expanded.{replaced, substituted}

pub substituted_append : (xs : List (List TypeNode)) (ms ns : List TypeNode) → substituted xs (ms ++ ns) ≡ substituted xs ms ++ substituted xs ns
substituted_append xs [] ns = refl
substituted_append xs (m ∷ ms) ns = ap (λ z. replaced xs m ++ z) (substituted_append xs ms ns) ∙ sym (append_assoc (replaced xs m) (substituted xs ms) (substituted xs ns))

substituted_at : (outer inner : List (List TypeNode)) (i : ℕ) → substituted outer (get_or inner i []) ≡ get_or (map (substituted outer) inner) i []
substituted_at outer [] i = refl
substituted_at outer (x ∷ inner) zero = refl
substituted_at outer (x ∷ inner) (suc i) = substituted_at outer inner i

replaced_twice : (outer inner : List (List TypeNode)) (n : TypeNode) → substituted outer (replaced inner n) ≡ replaced (map (substituted outer) inner) n
replaced_twice outer inner node.Int = refl
replaced_twice outer inner node.Char = refl
replaced_twice outer inner node.List = refl
replaced_twice outer inner (node.Tuple n) = refl
replaced_twice outer inner node.Fun = refl
replaced_twice outer inner (node.Data n k) = refl
replaced_twice outer inner (node.Var i) = substituted_at outer inner i

-- arguments in place of variables, and then others in place of the variables of the arguments
pub substituted_twice : (outer inner : List (List TypeNode)) (ns : List TypeNode) → substituted outer (substituted inner ns) ≡ substituted (map (substituted outer) inner) ns
substituted_twice outer inner [] = refl
substituted_twice outer inner (n ∷ ns) =
    substituted_append outer (replaced inner n) (substituted inner ns)
    ∙ ap (λ z. z ++ substituted outer (substituted inner ns)) (replaced_twice outer inner n)
    ∙ ap (λ z. replaced (map (substituted outer) inner) n ++ z) (substituted_twice outer inner ns)
