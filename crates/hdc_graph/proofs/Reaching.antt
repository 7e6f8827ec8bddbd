-- Ways through a graph, one after another.
use Rattle.std.proofs.Common.{ℕ, inl, inr, sym, subst}
use Rattle.hdc_graph.specs.Needs.{Nodes, Reaches, one, further, AreMutual}
use Rattle.hdc_graph.specs.Search.{Leads}

-- two ways are one
pub through : {g : Nodes} {a b c : ℕ} → Reaches g a b → Reaches g b c → Reaches g a c
through (one a b n) r = further a b _ n r
through (further a b c n s) r = further a b _ n (through s r)

-- a way that may be no step, and one
pub after_leads : {g : Nodes} {a b c : ℕ} → Leads g a b → Reaches g b c → Reaches g a c
after_leads {g} {a} {b} {c} (inl e) r = subst (λ (x : ℕ). Reaches g x c) (sym e) r
after_leads (inr s) r = through s r

-- a way, and one that may be no step
pub then_leads : {g : Nodes} {a b c : ℕ} → Reaches g a b → Leads g b c → Reaches g a c
then_leads {g} {a} {b} {c} r (inl e) = subst (λ (x : ℕ). Reaches g a x) e r
then_leads r (inr s) = through r s

-- two that lead to one another are mutual
pub mutual_from : {g : Nodes} {a b : ℕ} → Leads g a b → Leads g b a → AreMutual g a b
mutual_from (inl e) s = inl e
mutual_from (inr r) (inl e) = inl (sym e)
mutual_from (inr r) (inr s) = inr (r, s)

-- each of two mutual nodes leads to the other
pub mutual_leads : {g : Nodes} {a b : ℕ} → AreMutual g a b → Leads g a b
mutual_leads (inl e) = inl e
mutual_leads (inr r) = inr r.0

pub mutual_back : {g : Nodes} {a b : ℕ} → AreMutual g a b → AreMutual g b a
mutual_back (inl e) = inl (sym e)
mutual_back (inr r) = inr (r.1, r.0)

pub leads_through : {g : Nodes} {a b c : ℕ} → Leads g a b → Leads g b c → Leads g a c
leads_through {g} {a} {b} {c} (inl e) s = subst (λ (x : ℕ). Leads g x c) (sym e) s
leads_through (inr r) s = inr (then_leads r s)

pub trans_mutual : {g : Nodes} (a b c : ℕ) → AreMutual g a b → AreMutual g b c → AreMutual g a c
trans_mutual a b c m n = mutual_from (leads_through (mutual_leads m) (mutual_leads n)) (leads_through (mutual_leads (mutual_back n)) (mutual_leads (mutual_back m)))
