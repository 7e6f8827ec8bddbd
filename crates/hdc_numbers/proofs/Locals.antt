-- Local numbers in scope, and how many are taken.
use Rattle.std.proofs.Common.{◌≡◌, ℕ, ◌≤◌, Bool, true, false, List, [], ◌∷◌, Option, None, Some, refl, sym, ap, ◌∙◌, arith, if◌then◌else◌}
use Rattle.std.proofs.Math.Nat.{le_trans}
use Rattle.hdc_tree.specs.declared.name.Name as written_name
use Rattle.hdc_tree.specs.declared.program.Top.{Top}
use Rattle.hdc_tree.specs.declared.program.Top.TheVariants as top
use Rattle.hdc_written.specs.Mirror.{head_name, head_patterns, rhs_of}
use Rattle.hdc_written.specs.Scopes.{standing_for}
use Rattle.hdc_written.specs.Written.{variables, all_variables, Expression, chain, Links, no_link, link, Operand, variable, constructor, literal, unit, nil, cons, in_parentheses, tuple, list, range, comprehension, left_section, right_section, applied, lambda, let_in, if_else, case_of, Operands, no_operand, operand, Expressions, no_expression, expression, generator, condition, let_qualifier, Qualifiers, no_qualifier, qualifier, Alternative, blank, alternative, Alternatives, no_alternative, next_alternative, RightSide, plain, guarded, Guards, no_guard, guard, Declaration, empty, signature, equation, binding, Declarations, no_declaration, declaration, all_bound}
use Rattle.hdc_resolved.specs.declared.name.Name.{Name}
use Rattle.hdc_resolved.specs.declared.name.Name.TheVariants as what
use Rattle.hdc_resolving.specs.declared.walk.Counter.{Counter}
use Rattle.hdc_resolving.specs.declared.walk.Walk.{Walk}
use Rattle.hdc_resolving.specs.Numbering.{counted, numbered, entered, moved}
use Rattle.hdc_resolving.specs.Standing.{Names, Numbered, built_in, goes_on, named_unless, behind_top, top_named, tops_named, prelude_named, program_named}
use Rattle.hdc_bindings.specs.Resolving.{behind_expression, behind_links, behind_operand, behind_operands, behind_expressions, behind_qualifiers, behind_alternative, behind_alternatives, behind_right_side, behind_guards, behind_declaration, behind_declarations}
use Rattle.hdc_bindings.specs.Tops.{behind_declared, prelude_walk, program_walk}
use Rattle.hdc_numbers.specs.Numbers.{HaveNumbers}
use Rattle.hdc_numbers.proofs.Places.{found}

-- ---- at the top no local name is in scope

abbrev is_local : Name → Bool
is_local (what.Top n) = false
is_local (what.Local x) = true
is_local (what.Con c) = false
is_local (what.Primitive p) = false
is_local (what.Skeleton kind degree) = false
is_local what.Unknown = false

abbrev have_no_local : Names → Bool
have_no_local [] = true
have_no_local (b ∷ bs) = if is_local b.what then false else have_no_local bs

none_local : (names : Names) → have_no_local names ≡ true → (x : List ℕ) (n : ℕ) → standing_for x names ≡ Some (what.Local n) → ⊥
none_local [] h x n is = absurd (cc)
none_local (b ∷ bs) h x n is = by (is_local b.what) refl h (λ g. none_local bs g x n)
  where
    by : (v : Bool) → is_local b.what ≡ v → (if v then false else have_no_local bs) ≡ true → (have_no_local bs ≡ true → standing_for x bs ≡ Some (what.Local n) → ⊥) → ⊥
    by true e g behind = absurd (cc)
    by false e g behind = found x b.name b.what (what.Local n) bs (λ same local. absurd (let t = ap is_local local in cc)) (behind g) is

unless_local : (go : Bool) (y : List ℕ) (s : Numbered Name) → have_no_local s.scope ≡ true → have_no_local (named_unless go y s).scope ≡ true
unless_local true y s none = none
unless_local false y s none = none

top_local : (b : Option (List ℕ)) (t : Top) (s : Numbered Name) → have_no_local s.scope ≡ true → have_no_local (top_named b t s).scope ≡ true
top_local b top.Empty s none = none
top_local b (top.Data d) s none = none
top_local b (top.Synonym y) s none = none
top_local b (top.Fixity f) s none = none
top_local b (top.Signature x xs a t) s none = none
top_local b (top.Equation h r) s none = unless_local (goes_on b (head_name h).text (head_patterns h)) (head_name h).text s none

tops_local : (ts : List Top) (b : Option (List ℕ)) (s : Numbered Name) → have_no_local s.scope ≡ true → have_no_local (tops_named ts b s).scope ≡ true
tops_local [] b s none = none
tops_local (t ∷ ts) b s none = tops_local ts (behind_top b t) (top_named b t s) (top_local b t s none)

in_prelude : (ps : List Top) → have_no_local (prelude_named ps).scope ≡ true
in_prelude ps = tops_local ps None (record { scope = built_in; next = 0 }) refl

in_program : (ps ts : List Top) → have_no_local (program_named ps ts).scope ≡ true
in_program ps ts = tops_local ts None (prelude_named ps) (in_prelude ps)

-- where none is in scope, each has a number of its own
without_local : (w : Walk) → have_no_local w.names ≡ true → HaveNumbers w
without_local w none = record {
  taken = λ x n is. absurd (none_local w.names none x n is);
  one_name = λ x y n is other. absurd (none_local w.names none x n is);
}

pub prelude_locals : (ps : List Top) → HaveNumbers (prelude_walk ps)
prelude_locals ps = without_local (prelude_walk ps) (in_prelude ps)

pub program_locals : (ps ts : List Top) → HaveNumbers (program_walk ps ts)
program_locals ps ts = without_local (program_walk ps ts) (in_program ps ts)

-- ---- names come into scope, and numbers are taken

-- the number that is taken next is that of no name
one_entered : (x : written_name.Name) (w : Walk) → HaveNumbers w → HaveNumbers (entered (x ∷ []) w)
one_entered x w have =
    let new = w.counter.numbers in
    record {
      taken = λ y n is. found y x.text (what.Local new) (what.Local n) w.names (λ e same. let number : new ≡ n = cc in omega (arith, number)) (λ f. let before = have.taken y n f in omega (arith, before)) is;
      one_name = λ y z n is other.
          found y x.text (what.Local new) (what.Local n) w.names
          (λ e same. let number : new ≡ n = cc in found z x.text (what.Local new) (what.Local n) w.names (λ g again. e ∙ sym g) (λ f. let before = have.taken z n f in absurd (omega (arith, before, number))) other)
          (λ f. found z x.text (what.Local new) (what.Local n) w.names (λ g again. let number : new ≡ n = cc in let before = have.taken y n f in absurd (omega (arith, before, number))) (λ g. have.one_name y z n f g) other) is;
    }

pub all_entered : (xs : List written_name.Name) (w : Walk) → HaveNumbers w → HaveNumbers (entered xs w)
all_entered [] w have = record { taken = have.taken; one_name = have.one_name }
all_entered (x ∷ xs) w have = all_entered xs (entered (x ∷ []) w) (one_entered x w have)

pub all_moved : (c : Counter) (w : Walk) → w.counter.numbers ≤ c.numbers → HaveNumbers w → HaveNumbers (moved c w)
all_moved c w more have = record {
  taken = λ x n is. let before = have.taken x n is in omega (arith, before, more);
  one_name = have.one_name;
}

-- ---- behind a part at least as many are taken as before it

pub one_on : (c : Counter) → c.numbers ≤ (counted c).numbers
one_on c = omega (arith)

pub names_on : (xs : List written_name.Name) (c : Counter) → c.numbers ≤ (numbered xs c).numbers
names_on [] c = omega (arith)
names_on (x ∷ xs) c = le_trans (one_on c) (names_on xs (counted c))

mutual
  pub expression_on : (e : Expression) (c : Counter) → c.numbers ≤ (behind_expression e c).numbers
  expression_on (chain ls s a) c = le_trans (links_on ls c) (operand_on a (behind_links ls c))

  pub links_on : (ls : Links) (c : Counter) → c.numbers ≤ (behind_links ls c).numbers
  links_on no_link c = omega (arith)
  links_on (link s a o ls) c = le_trans (operand_on a c) (links_on ls (behind_operand a c))

  pub operand_on : (a : Operand) (c : Counter) → c.numbers ≤ (behind_operand a c).numbers
  operand_on (variable x) c = omega (arith)
  operand_on (constructor x) c = omega (arith)
  operand_on (literal a l) c = omega (arith)
  operand_on (unit a) c = omega (arith)
  operand_on (nil a) c = omega (arith)
  operand_on (cons a b) c = omega (arith)
  operand_on (in_parentheses a e) c = expression_on e c
  operand_on (tuple a es) c = expressions_on es c
  operand_on (list a es) c = expressions_on es c
  operand_on (range a e f) c = le_trans (expression_on e c) (expression_on f (behind_expression e c))
  operand_on (comprehension a e qs) c = qualifiers_on qs (behind_expression e) (expression_on e) c
  operand_on (left_section a e o) c = le_trans (one_on c) (expression_on e (counted c))
  operand_on (right_section a o e) c = le_trans (one_on c) (expression_on e (counted c))
  operand_on (applied f as') c = le_trans (operand_on f c) (operands_on as' (behind_operand f c))
  operand_on (lambda a ps e) c = le_trans (names_on (all_variables ps) c) (expression_on e (numbered (all_variables ps) c))
  operand_on (let_in a ds e) c = le_trans (le_trans (names_on (all_bound ds) c) (declarations_on ds (numbered (all_bound ds) c))) (expression_on e (behind_declarations ds (numbered (all_bound ds) c)))
  operand_on (if_else a e f g) c = le_trans (expression_on e c) (le_trans (expression_on f (behind_expression e c)) (expression_on g (behind_expression f (behind_expression e c))))
  operand_on (case_of a e bs) c = le_trans (expression_on e c) (alternatives_on bs (behind_expression e c))

  operands_on : (as' : Operands) (c : Counter) → c.numbers ≤ (behind_operands as' c).numbers
  operands_on no_operand c = omega (arith)
  operands_on (operand a as') c = le_trans (operand_on a c) (operands_on as' (behind_operand a c))

  expressions_on : (es : Expressions) (c : Counter) → c.numbers ≤ (behind_expressions es c).numbers
  expressions_on no_expression c = omega (arith)
  expressions_on (expression e es) c = le_trans (expression_on e c) (expressions_on es (behind_expression e c))

  qualifiers_on : (qs : Qualifiers) (head : Counter → Counter) → ((c : Counter) → c.numbers ≤ (head c).numbers) → (c : Counter) → c.numbers ≤ (behind_qualifiers qs head c).numbers
  qualifiers_on no_qualifier head on c = on c
  qualifiers_on (qualifier (generator p e) qs) head on c =
      le_trans (expression_on e c) (le_trans (names_on (variables p) (behind_expression e c)) (qualifiers_on qs head on (numbered (variables p) (behind_expression e c))))
  qualifiers_on (qualifier (condition e) qs) head on c = le_trans (expression_on e c) (qualifiers_on qs head on (behind_expression e c))
  qualifiers_on (qualifier (let_qualifier a ds) qs) head on c = le_trans (le_trans (names_on (all_bound ds) c) (declarations_on ds (numbered (all_bound ds) c))) (qualifiers_on qs head on (behind_declarations ds (numbered (all_bound ds) c)))

  pub alternative_on : (b : Alternative) (c : Counter) → c.numbers ≤ (behind_alternative b c).numbers
  alternative_on blank c = omega (arith)
  alternative_on (alternative p r) c = le_trans (names_on (variables p) c) (right_side_on r (numbered (variables p) c))

  alternatives_on : (bs : Alternatives) (c : Counter) → c.numbers ≤ (behind_alternatives bs c).numbers
  alternatives_on no_alternative c = omega (arith)
  alternatives_on (next_alternative b bs) c = le_trans (alternative_on b c) (alternatives_on bs (behind_alternative b c))

  pub right_side_on : (r : RightSide) (c : Counter) → c.numbers ≤ (behind_right_side r c).numbers
  right_side_on (plain e ds) c = le_trans (le_trans (names_on (all_bound ds) c) (declarations_on ds (numbered (all_bound ds) c))) (expression_on e (behind_declarations ds (numbered (all_bound ds) c)))
  right_side_on (guarded a gs ds) c = le_trans (le_trans (names_on (all_bound ds) c) (declarations_on ds (numbered (all_bound ds) c))) (guards_on gs (behind_declarations ds (numbered (all_bound ds) c)))

  guards_on : (gs : Guards) (c : Counter) → c.numbers ≤ (behind_guards gs c).numbers
  guards_on no_guard c = omega (arith)
  guards_on (guard e f gs) c = le_trans (expression_on e c) (le_trans (expression_on f (behind_expression e c)) (guards_on gs (behind_expression f (behind_expression e c))))

  pub declaration_on : (d : Declaration) (c : Counter) → c.numbers ≤ (behind_declaration d c).numbers
  declaration_on empty c = omega (arith)
  declaration_on (signature xs t) c = omega (arith)
  declaration_on (equation at x ps r) c = le_trans (names_on (all_variables ps) c) (right_side_on r (numbered (all_variables ps) c))
  declaration_on (binding p r) c = right_side_on r c

  pub declarations_on : (ds : Declarations) (c : Counter) → c.numbers ≤ (behind_declarations ds c).numbers
  declarations_on no_declaration c = omega (arith)
  declarations_on (declaration d ds) c = le_trans (declaration_on d c) (declarations_on ds (behind_declaration d c))

pub top_on : (t : Top) (c : Counter) → c.numbers ≤ (behind_declared t c).numbers
top_on top.Empty c = omega (arith)
top_on (top.Data d) c = omega (arith)
top_on (top.Synonym s) c = omega (arith)
top_on (top.Fixity f) c = omega (arith)
top_on (top.Signature x xs a t) c = omega (arith)
top_on (top.Equation h r) c = le_trans (names_on (all_variables (head_patterns h)) c) (right_side_on (rhs_of r) (numbered (all_variables (head_patterns h)) c))
