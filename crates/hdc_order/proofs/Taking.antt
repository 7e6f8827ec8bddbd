-- The values are taken in the one order in which the next is always the first that is ready.
use Rattle.std.proofs.Common.{◌≡◌, ℕ, zero, suc, ◌<◌, ◌≤◌, ◌↔◌, inl, inr, Bool, true, List, [], ◌∷◌, ◌++◌, length, sym, ap, ◌∙◌, subst, arith, append_assoc, append-nil, nat_eq, Option, Some, None}
use Rattle.std.specs.Prelude.{not, ◌&&◌}
use Rattle.std.specs.List.{list_all, range_with_len}
use Rattle.std.specs.Set.{is_member}
use Rattle.std.proofs.lemmas.Bool.{and_parts, and_from, not_from_false, false_from_ne_true, cases_lt}
use Rattle.hdc_graph.specs.Needs.{Nodes, IsClosed}
use Rattle.hdc_order.specs.Order.{is_value, LeadsTo, directly, by_function, IsReady, GoesOn, leads_below, value_needs, is_ready, first_ready, taking, taken_in, order_of}
use Rattle.hdc_order.proofs.Leading.{sound, complete}
use Rattle.hdc_order.proofs.Members.{has_from_member, member_from_has, not_both, not_true, passes_all, all_pass, kept_has, has_kept, has_range, finds, finds_none, search_range, left_below, left_none, left_less}

module _ (g : Nodes) (closed : IsClosed g) (value : ℕ → Bool) where
  lies : (a b : ℕ) → LeadsTo g value a b → b < length g
  lies a b (directly a' b' n) = closed a b n
  lies a b (by_function a' f b' n e r) = lies f b r

  -- the test of readiness
  ready_sound : (taken : List ℕ) (a : ℕ) → a < length g → is_ready g value taken a ≡ true → IsReady g value taken a
  ready_sound taken a l e =
      let p = and_parts (value a) (not (is_member nat_eq taken a) && list_all (is_member nat_eq taken) (value_needs g value a)) e in
      let q = and_parts (not (is_member nat_eq taken a)) (list_all (is_member nat_eq taken) (value_needs g value a)) p.1 in
      record {
        within = l;
        valued = p.0;
        left = λ h. not_both (is_member nat_eq taken a) (member_from_has taken a h) (not_true (is_member nat_eq taken a) q.0);
        met = λ b n. has_from_member taken b (passes_all (is_member nat_eq taken) (value_needs g value a) q.1 b
            (has_kept (λ c. value c && leads_below g value (length g) a c) (range_with_len 0 (length g)) b
            (has_range 0 (length g) b (omega arith) (let r = lies a b n.1 in omega (arith, r)))
            (and_from (value b) (leads_below g value (length g) a b) n.0 (complete g value a b closed n.1))));
      }

  ready_complete : (taken : List ℕ) (a : ℕ) → IsReady g value taken a → is_ready g value taken a ≡ true
  ready_complete taken a r =
      and_from (value a) (not (is_member nat_eq taken a) && list_all (is_member nat_eq taken) (value_needs g value a)) r.valued
      (and_from (not (is_member nat_eq taken a)) (list_all (is_member nat_eq taken) (value_needs g value a))
      (not_from_false (is_member nat_eq taken a) (false_from_ne_true (is_member nat_eq taken a) (λ t. r.left (has_from_member taken a t))))
      (all_pass (is_member nat_eq taken) (value_needs g value a) (λ b h.
      let k = kept_has (λ c. value c && leads_below g value (length g) a c) (range_with_len 0 (length g)) b h in
      let p = and_parts (value b) (leads_below g value (length g) a b) k.1 in
      member_from_has taken b (r.met b (p.0, sound g value (length g) a b p.1)))))

  -- the first that is ready is found
  first_is : (taken : List ℕ) (next : ℕ) → IsReady g value taken next → ((node : ℕ) → IsReady g value taken node → next ≤ node) → first_ready g value taken ≡ Some next
  first_is taken next r least = finds (is_ready g value taken) 0 (length g) next (omega arith) (let l = r.within in omega (arith, l)) (ready_complete taken next r)
      (λ j low lt. false_from_ne_true (is_ready g value taken j) (λ t. let l = r.within in let m = least j (ready_sound taken j (omega (arith, l, lt)) t) in omega (arith, m, lt)))

  first_none : (taken : List ℕ) → ((node : ℕ) → IsReady g value taken node → ⊥) → first_ready g value taken ≡ None
  first_none taken none = finds_none (is_ready g value taken) 0 (length g)
      (λ j low lt. false_from_ne_true (is_ready g value taken j) (λ t. none j (ready_sound taken j (omega (arith, lt)) t)))

  -- what goes on so is what is taken
  takes : (xs : List ℕ) (count : ℕ) (taken : List ℕ) → GoesOn g value taken xs → left_below (length g) taken ≤ count → taken_in count g value taken ≡ taken ++ xs
  takes [] zero taken h l = sym (append-nil taken)
  takes [] (suc count) taken h l = ap (λ (o : Option ℕ). taking o taken (taken_in count g value)) (first_none taken h) ∙ sym (append-nil taken)
  takes (x ∷ xs) zero taken h l = absurd (let r = left_less (length g) taken x h.0.within h.0.left in omega (arith, r, l))
  takes (x ∷ xs) (suc count) taken h l =
      let r = left_less (length g) taken x h.0.within h.0.left in
      ap (λ (o : Option ℕ). taking o taken (taken_in count g value)) (first_is taken x h.0 h.1) ∙ takes xs count (taken ++ x ∷ []) h.2 (omega (arith, r, l)) ∙ append_assoc taken (x ∷ []) xs

  record IsTaken (count : ℕ) (taken : List ℕ) : Type 0 where
    xs : List ℕ
    is : taken_in count g value taken ≡ taken ++ xs
    goes_on : GoesOn g value taken xs

  -- and what is taken goes on so
  is_taken : (count : ℕ) (taken : List ℕ) → left_below (length g) taken ≤ count → IsTaken count taken
  is_taken zero taken l = record {
    xs = [];
    is = sym (append-nil taken);
    goes_on = λ node r. (let m = left_less (length g) taken node r.within r.left in omega (arith, m, l));
  }
  is_taken (suc count) taken l = elim (search_range (is_ready g value taken) 0 (length g)) [
    | inl (k, f) ↦ (
        let ready : IsReady g value taken k = ready_sound taken k (let h = f.high in omega (arith, h)) f.passes in
        let least : (node : ℕ) → IsReady g value taken node → k ≤ node = λ node r. elim (cases_lt node k) [
          | inl lt ↦ absurd (not_both (is_ready g value taken node) (ready_complete taken node r) (f.before node (omega arith) lt))
          | inr ge ↦ ge
        ] in
        let less = left_less (length g) taken k ready.within ready.left in
        let rest = is_taken count (taken ++ k ∷ []) (omega (arith, less, l)) in
        record {
          xs = k ∷ rest.xs;
          is = ap (λ (o : Option ℕ). taking o taken (taken_in count g value)) (first_is taken k ready least) ∙ rest.is ∙ append_assoc taken (k ∷ []) rest.xs;
          goes_on = (ready, least, rest.goes_on);
        })
    | inr none ↦ (
        let nothing : (node : ℕ) → IsReady g value taken node → ⊥ = λ node r. not_both (is_ready g value taken node) (ready_complete taken node r) (none node (omega arith) (let w = r.within in omega (arith, w))) in
        record {
          xs = [];
          is = ap (λ (o : Option ℕ). taking o taken (taken_in count g value)) (first_none taken nothing) ∙ sym (append-nil taken);
          goes_on = nothing;
        })
  ]

pub one_order : (g : Nodes) (values : List Bool) (order : List ℕ) → IsClosed g → GoesOn g (is_value values) [] order ↔ (order ≡ order_of g values)
one_order g values order closed = (
  λ h. sym (takes g closed (is_value values) order (length g) [] h (let e = left_none (length g) in omega (arith, e))),
  λ e. (let t = is_taken g closed (is_value values) (length g) [] (let n = left_none (length g) in omega (arith, n)) in
      subst (GoesOn g (is_value values) []) (sym (e ∙ t.is)) t.goes_on),
)

-- what goes on so in one graph goes on so in another, where the same is ready
pub goes_by : (g h : Nodes) (v w : ℕ → Bool) → ((taken : List ℕ) (a : ℕ) → IsReady g v taken a → IsReady h w taken a) → ((taken : List ℕ) (a : ℕ) → IsReady h w taken a → IsReady g v taken a) → (xs taken : List ℕ) → GoesOn g v taken xs → GoesOn h w taken xs
goes_by g h v w there back [] taken none = λ a r. none a (back taken a r)
goes_by g h v w there back (x ∷ xs) taken (ready, least, rest) = (there taken x ready, λ a r. least a (back taken a r), goes_by g h v w there back xs (taken ++ x ∷ []) rest)

leads_alike : (g : Nodes) (v w : ℕ → Bool) → IsClosed g → ((m : ℕ) → m < length g → v m ≡ w m) → (a b : ℕ) → LeadsTo g v a b → LeadsTo g w a b
leads_alike g v w closed agree a b (directly a' b' n) = directly a b n
leads_alike g v w closed agree a b (by_function a' f b' n e r) = by_function a f b n (sym (agree f (closed a f n)) ∙ e) (leads_alike g v w closed agree f b r)

ready_alike : (g : Nodes) (v w : ℕ → Bool) → IsClosed g → ((m : ℕ) → m < length g → v m ≡ w m) → (taken : List ℕ) (a : ℕ) → IsReady g v taken a → IsReady g w taken a
ready_alike g v w closed agree taken a r =
    let back : (m : ℕ) → m < length g → w m ≡ v m = λ m l. sym (agree m l) in
    record {
      within = r.within;
      valued = back a r.within ∙ r.valued;
      left = r.left;
      met = λ b n. r.met b (agree b (lies g closed w a b n.1) ∙ n.0, leads_alike g w v closed back a b n.1);
    }

-- whether a number that is no node is a value says nothing
pub goes_alike : (g : Nodes) (v w : ℕ → Bool) → IsClosed g → ((m : ℕ) → m < length g → v m ≡ w m) → (xs taken : List ℕ) → GoesOn g v taken xs → GoesOn g w taken xs
goes_alike g v w closed agree = goes_by g g v w (ready_alike g v w closed agree) (ready_alike g w v closed (λ m l. sym (agree m l)))
