-- What becomes of qualifiers from the last to the first, and what they bind goes again.
use Rattle.std.proofs.Common.{◌≡◌, ℕ, ◌+◌, ◌-◌, List, [], ◌∷◌, ◌++◌, length, drop, refl, ap, sym, ◌∙◌, arith, append_assoc}
use Rattle.hdc_tree.specs.declared.name.Name as tree
use Rattle.hdc_resolved.specs.Syntax as resolved
use Rattle.hdc_written.specs.Written.{variables, all_bound, Qualifier, generator, condition, let_qualifier, Qualifiers, no_qualifier, qualifier}
use Rattle.hdc_names.specs.Fixities.{Scope, locally, undeclared}
use Rattle.hdc_resolved.specs.declared.name.Name.TheVariants as name
use Rattle.hdc_resolving.specs.declared.known.Known.{Known}
use Rattle.hdc_resolving.specs.declared.walk.Counter.{Counter}
use Rattle.hdc_resolving.specs.declared.walk.Walk.{Walk}
use Rattle.hdc_bindings.specs.Blocks.{part_in, parts_in, past_qualifier, past_qualifiers}
use Rattle.hdc_resolving.specs.Parts.{Part, Wrapped, wrap, wrapped}
use Rattle.hdc_resolving.specs.Grouped.{Joining}
use Rattle.hdc_resolving.specs.Numbering.{counted, named_from, moved, left_at}
use Rattle.hdc_bindings.specs.Resolving.{behind_expression, behind_qualifiers, resolved_qualifiers}
use Rattle.hdc_resolving.specs.Standing.{Names, standing}

-- the head, and what is counted behind it
abbrev pub headed : (Walk → resolved.Expression) → (Counter → Counter) → Walk → Wrapped
headed head counts w = record { quals = resolved.head_of (head w); counter = counts w.counter }

-- what becomes of qualifiers, from the last to the first
pub wrapped_parts : (qs : Qualifiers) (join : Joining) (k : Known) (head : Walk → resolved.Expression) (counts : Counter → Counter) (w : Walk) → wrapped k (parts_in join k qs w) (headed head counts (past_qualifiers qs w)) ≡ record { quals = resolved_qualifiers join k qs head counts w; counter = behind_qualifiers qs counts w.counter }
wrapped_parts no_qualifier join k head counts w = refl
wrapped_parts (qualifier (generator p e) qs) join k head counts w = ap (wrap k (part_in join k (generator p e) w)) (wrapped_parts qs join k head counts (past_qualifier (generator p e) w))
wrapped_parts (qualifier (condition e) qs) join k head counts w = ap (wrap k (part_in join k (condition e) w)) (wrapped_parts qs join k head counts (past_qualifier (condition e) w))
wrapped_parts (qualifier (let_qualifier a ds) qs) join k head counts w = ap (wrap k (part_in join k (let_qualifier a ds) w)) (wrapped_parts qs join k head counts (past_qualifier (let_qualifier a ds) w))

-- ---- what came into scope goes

module _ {T : Type 0} where
  size_joined : (xs ys : List T) → length (xs ++ ys) ≡ length xs + length ys
  size_joined [] ys = omega arith
  size_joined (x ∷ xs) ys = let h = size_joined xs ys in omega (arith, h)

  drop_whole : (xs ys : List T) → drop (length xs) (xs ++ ys) ≡ ys
  drop_whole [] ys = refl
  drop_whole (x ∷ xs) ys = drop_whole xs ys

  drop_front : (xs ys : List T) → drop (length (xs ++ ys) - length ys) (xs ++ ys) ≡ ys
  drop_front xs ys =
      let h = size_joined xs ys in
      let n : length (xs ++ ys) - length ys ≡ length xs = omega (arith, h) in
      ap (λ k. drop k (xs ++ ys)) n ∙ drop_whole xs ys

-- a list ends with another
record IsLonger {T : Type 0} (new old : List T) : Type 0 where
  front : List T
  is : new ≡ front ++ old

behind_both : {T : Type 0} (a b c : List T) → IsLonger a b → IsLonger b c → IsLonger a c
behind_both a b c h g = record { front = h.front ++ g.front; is = h.is ∙ ap (λ z. h.front ++ z) g.is ∙ sym (append_assoc h.front g.front c) }

named_front : (xs : List tree.Name) (c : Counter) (s : Names) → IsLonger (named_from xs c s) s
named_front [] c s = record { front = []; is = refl }
named_front (x ∷ xs) c s = behind_both (named_from xs (counted c) (standing x.text (name.Local c.numbers) ∷ s)) (standing x.text (name.Local c.numbers) ∷ s) s (named_front xs (counted c) (standing x.text (name.Local c.numbers) ∷ s)) (record { front = standing x.text (name.Local c.numbers) ∷ []; is = refl })

local_front : (xs : List tree.Name) (s : Scope) → IsLonger (locally xs s) s
local_front [] s = record { front = []; is = refl }
local_front (x ∷ xs) s = behind_both (locally xs (record { name = x.text; what = undeclared } ∷ s)) (record { name = x.text; what = undeclared } ∷ s) s (local_front xs (record { name = x.text; what = undeclared } ∷ s)) (record { front = record { name = x.text; what = undeclared } ∷ []; is = refl })

names_front : (qs : Qualifiers) (w : Walk) → IsLonger (past_qualifiers qs w).names w.names
names_front no_qualifier w = record { front = []; is = refl }
names_front (qualifier (generator p e) qs) w = let v = past_qualifier (generator p e) w in behind_both (past_qualifiers qs v).names v.names w.names (names_front qs v) (named_front (variables p) (moved (behind_expression e w.counter) w).counter w.names)
names_front (qualifier (condition e) qs) w = names_front qs (past_qualifier (condition e) w)
names_front (qualifier (let_qualifier a ds) qs) w = let v = past_qualifier (let_qualifier a ds) w in behind_both (past_qualifiers qs v).names v.names w.names (names_front qs v) (named_front (all_bound ds) w.counter w.names)

fixities_front : (qs : Qualifiers) (w : Walk) → IsLonger (past_qualifiers qs w).fixities w.fixities
fixities_front no_qualifier w = record { front = []; is = refl }
fixities_front (qualifier (generator p e) qs) w = let v = past_qualifier (generator p e) w in behind_both (past_qualifiers qs v).fixities v.fixities w.fixities (fixities_front qs v) (local_front (variables p) w.fixities)
fixities_front (qualifier (condition e) qs) w = fixities_front qs (past_qualifier (condition e) w)
fixities_front (qualifier (let_qualifier a ds) qs) w = let v = past_qualifier (let_qualifier a ds) w in behind_both (past_qualifiers qs v).fixities v.fixities w.fixities (fixities_front qs v) (local_front (all_bound ds) w.fixities)

left_front : {T : Type 0} (new old : List T) → IsLonger new old → drop (length new - length old) new ≡ old
left_front new old h = ap (λ z. drop (length z - length old) z) h.is ∙ drop_front h.front old

pub left_names : (qs : Qualifiers) (w : Walk) → drop (length (past_qualifiers qs w).names - length w.names) (past_qualifiers qs w).names ≡ w.names
left_names qs w = left_front (past_qualifiers qs w).names w.names (names_front qs w)

pub left_fixities : (qs : Qualifiers) (w : Walk) → drop (length (past_qualifiers qs w).fixities - length w.fixities) (past_qualifiers qs w).fixities ≡ w.fixities
left_fixities qs w = left_front (past_qualifiers qs w).fixities w.fixities (fixities_front qs w)

-- ---- a comprehension

module _ (join : Joining) (k : Known) (q : Qualifier) (qs : Qualifiers) (head : Walk → resolved.Expression) (counts : Counter → Counter) (w : Walk) where
  -- the head, which stands in the scope of the qualifiers, and these
  pub all_qualified : (w1 w2 w3 : Walk) (first : Part) (parts : List Part) (exp : resolved.Expression) (behind : resolved.Qualifiers) → first ≡ part_in join k q w → w1 ≡ past_qualifier q w → parts ≡ first ∷ parts_in join k qs w1 → w2 ≡ past_qualifiers qs w1 → exp ≡ head w2 → w3 ≡ moved (counts w2.counter) w2 → behind ≡ resolved.head_of exp → wrapped k parts (record { quals = behind; counter = w3.counter }) ≡ record { quals = resolved_qualifiers join k (qualifier q qs) head counts w; counter = behind_qualifiers (qualifier q qs) counts w.counter }
  all_qualified w1 w2 w3 first parts exp behind first_is w1_is parts_are w2_is exp_is w3_is behind_is =
      let last_is : w2 ≡ past_qualifiers (qualifier q qs) w = w2_is ∙ ap (past_qualifiers qs) w1_is in
      let all_are : parts ≡ parts_in join k (qualifier q qs) w = parts_are ∙ (λ i. first_is i ∷ parts_in join k qs (w1_is i)) in
      let quals_are = behind_is ∙ ap resolved.head_of (exp_is ∙ ap head last_is) in
      let counter_is = ap (λ (z : Walk). z.counter) w3_is ∙ ap (λ (z : Walk). counts z.counter) last_is in
      (λ i. wrapped k (all_are i) (record { quals = quals_are i; counter = counter_is i }))
      ∙ wrapped_parts (qualifier q qs) join k head counts w

  -- and what the qualifiers bind goes
  pub left_qualified : (w1 w2 w3 w4 w5 : Walk) (c : Counter) (n f : ℕ) → n ≡ length w.names → f ≡ length w.fixities → w1 ≡ past_qualifier q w → w2 ≡ past_qualifiers qs w1 → w3 ≡ moved (counts w2.counter) w2 → w4 ≡ moved c w3 → w5 ≡ left_at n f w4 → w5 ≡ moved c w
  left_qualified w1 w2 w3 w4 w5 c n f n_is f_is w1_is w2_is w3_is w4_is w5_is =
      let last = past_qualifiers (qualifier q qs) w in
      let last_is : w4 ≡ moved c last = w4_is ∙ ap (moved c) (w3_is ∙ ap (λ (z : Walk). moved (counts z.counter) z) (w2_is ∙ ap (past_qualifiers qs) w1_is)) in
      w5_is
      ∙ (λ i. left_at (n_is i) (f_is i) (last_is i))
      ∙ (λ i. record { names = left_names (qualifier q qs) w i; fixities = left_fixities (qualifier q qs) w i; counter = c })

pub ruleset qualified = (left_names, left_fixities)
