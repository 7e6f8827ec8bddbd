-- The parts of lists in memory, by their numbers, and how many there are.
use Rattle.std.proofs.Common.{◌≡◌, ℕ, zero, suc, ◌<◌, ◌≤◌, List, [], ◌∷◌, length, get_or, refl, ap, arith}
use Rattle.hdc_tree.specs.declared.name.Sign.{Sign}
use Rattle.hdc_tree.specs.declared.expression.Link.{Link}
use Rattle.hdc_written.specs.Written as written
use Rattle.hdc_written.specs.Written.{Qualifier}
use Rattle.hdc_written.specs.Mirror.{each_link, link_of, each_operand, each_qualifier}
use Rattle.hdc_written.specs.Firsts.{first_of_op, first_of_operand, behind_sign, operand_in, start_in, operator_behind, nowhere}
use Rattle.hdc_written.specs.Written.{count_links, count_operands, count_qualifiers}

pub operand_some : (links : List Link) (a : written.Operand) (k : ℕ) (x : Link) → k < length links → operand_in (each_link link_of links) a k ≡ first_of_operand (link_of (get_or links k x)).operand
operand_some [] a k x lt = absurd (omega arith)
operand_some (y ∷ ys) a zero x lt = refl
operand_some (y ∷ ys) a (suc k) x lt = operand_some ys a k x (omega arith)

pub operand_none : (links : List Link) (a : written.Operand) (k : ℕ) → length links ≤ k → operand_in (each_link link_of links) a k ≡ first_of_operand a
operand_none [] a k le = refl
operand_none (y ∷ ys) a zero le = absurd (omega arith)
operand_none (y ∷ ys) a (suc k) le = operand_none ys a k (omega arith)

pub start_some : (links : List Link) (s : Sign) (a : written.Operand) (k : ℕ) (x : Link) → k < length links → start_in (each_link link_of links) s a k ≡ behind_sign (link_of (get_or links k x)).sign (first_of_operand (link_of (get_or links k x)).operand)
start_some [] s a k x lt = absurd (omega arith)
start_some (y ∷ ys) s a zero x lt = refl
start_some (y ∷ ys) s a (suc k) x lt = start_some ys s a k x (omega arith)

pub start_none : (links : List Link) (s : Sign) (a : written.Operand) (k : ℕ) → length links ≤ k → start_in (each_link link_of links) s a k ≡ behind_sign s (first_of_operand a)
start_none [] s a k le = refl
start_none (y ∷ ys) s a zero le = absurd (omega arith)
start_none (y ∷ ys) s a (suc k) le = start_none ys s a k (omega arith)

pub operator_some : (links : List Link) (k : ℕ) (x : Link) → k < length links → operator_behind (each_link link_of links) k ≡ first_of_op (link_of (get_or links k x)).op
operator_some [] k x lt = absurd (omega arith)
operator_some (y ∷ ys) zero x lt = refl
operator_some (y ∷ ys) (suc k) x lt = operator_some ys k x (omega arith)

pub operator_none : (links : List Link) (k : ℕ) → length links ≤ k → operator_behind (each_link link_of links) k ≡ nowhere
operator_none [] k le = refl
operator_none (y ∷ ys) zero le = absurd (omega arith)
operator_none (y ∷ ys) (suc k) le = operator_none ys k (omega arith)

pub count_links-each : (links : List Link) → count_links (each_link link_of links) ≡ length links
count_links-each [] = refl
count_links-each (x ∷ xs) = ap (λ (n : ℕ). suc n) (count_links-each xs)

pub count_operands-each : {A : Type 0} (f : A → written.Operand) (xs : List A) → count_operands (each_operand f xs) ≡ length xs
count_operands-each f [] = refl
count_operands-each f (x ∷ xs) = ap (λ (n : ℕ). suc n) (count_operands-each f xs)

pub count_qualifiers-each : {A : Type 0} (f : A → Qualifier) (xs : List A) → count_qualifiers (each_qualifier f xs) ≡ length xs
count_qualifiers-each f [] = refl
count_qualifiers-each f (x ∷ xs) = ap (λ (n : ℕ). suc n) (count_qualifiers-each f xs)
