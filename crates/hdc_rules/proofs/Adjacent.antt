-- Bindings and signatures one by one: what a list of them adds is what the first one adds, and what the others add behind it.
use Rattle.std.proofs.Common.{◌≡◌, ℕ, zero, suc, ◌<◌, ◌≤◌, Bool, true, false, List, [], ◌∷◌, ◌++◌, length, Option, Some, None, if◌then◌else◌, refl, sym, ap, append_assoc, arith}
use Rattle.hdc_tree.specs.declared.name.Name.{Name}
use Rattle.hdc_tree.specs.declared.program.Top.{Top}
use Rattle.hdc_tree.specs.declared.program.Top.TheVariants as top
use Rattle.hdc_written.specs.declared.breach.Breach.{Breach}
use Rattle.hdc_written.specs.Written.{Pattern, count_patterns, Declaration, empty, signature, equation, binding, Declarations, declaration}
use Rattle.hdc_written.specs.Mirror.{each_pattern, head_name, head_patterns, first_of_head}
use Rattle.hdc_rules.specs.Known.{Counted}
use Rattle.hdc_rules.specs.Names.{each_breach}
use Rattle.hdc_rules.specs.Types.{type_breaches, type_variables}
use Rattle.hdc_rules.specs.Bindings.{Open, has_some, goes_on, opened, uneven, bindings_of, uneven_equations, signed_in, local_signatures, top_bindings, uneven_tops}
use Rattle.hdc_rules.specs.Adjacent.{going_behind, bound_at, uneven_at, signed_by, signature_breaches, going_behind_top, bound_at_top, uneven_at_top}

-- ---- the number of parameters

pub has_none : (n : ℕ) → n ≤ 0 → has_some n ≡ false
has_none zero le = refl
has_none (suc n) le = absurd (omega arith)

pub has_one : (n : ℕ) → 0 < n → has_some n ≡ true
has_one zero lt = absurd (omega arith)
has_one (suc n) lt = refl

pub opened_none : (t : List ℕ) (n : ℕ) → n ≤ 0 → opened t n ≡ None
opened_none t zero le = refl
opened_none t (suc n) le = absurd (omega arith)

pub opened_some : (t : List ℕ) (n : ℕ) → 0 < n → opened t n ≡ Some (record { text = t; count = n })
opened_some t zero lt = absurd (omega arith)
opened_some t (suc n) lt = refl

-- as many patterns are written as a list holds
pub count_patterns_each : {A : Type 0} (f : A → Pattern) (xs : List A) → count_patterns (each_pattern f xs) ≡ length xs
count_patterns_each f [] = refl
count_patterns_each f (x ∷ xs) = ap (λ (n : ℕ). suc n) (count_patterns_each f xs)

-- ---- blocks

-- an equation goes on, or begins a function
equation_bound : (b : Bool) (going other : Option Open) (x : Name) (f : Option Open → List Name) → (if b then f going else x ∷ f other) ≡ (if b then [] else x ∷ []) ++ f (if b then going else other)
equation_bound true going other x f = refl
equation_bound false going other x f = refl

equation_uneven : (b : Bool) (going other : Option Open) (bs : List Breach) (f : Option Open → List Breach) → (if b then bs ++ f going else f other) ≡ (if b then bs else []) ++ f (if b then going else other)
equation_uneven true going other bs f = refl
equation_uneven false going other bs f = refl

pub bindings_split : (going : Option Open) (d : Declaration) (ds : Declarations) → bindings_of going (declaration d ds) ≡ bound_at going d ++ bindings_of (going_behind going d) ds
bindings_split going empty ds = refl
bindings_split going (signature xs t) ds = refl
bindings_split going (equation at x ps r) ds = equation_bound (goes_on going x.text (count_patterns ps)) going (opened x.text (count_patterns ps)) x (λ g. bindings_of g ds)
bindings_split going (binding p r) ds = refl

pub uneven_split : (going : Option Open) (d : Declaration) (ds : Declarations) → uneven_equations going (declaration d ds) ≡ uneven_at going d ++ uneven_equations (going_behind going d) ds
uneven_split going empty ds = refl
uneven_split going (signature xs t) ds = refl
uneven_split going (equation at x ps r) ds = equation_uneven (goes_on going x.text (count_patterns ps)) going (opened x.text (count_patterns ps)) (uneven going (count_patterns ps) at) (λ g. uneven_equations g ds)
uneven_split going (binding p r) ds = refl

pub signed_split : (d : Declaration) (ds : Declarations) → signed_in (declaration d ds) ≡ signed_by d ++ signed_in ds
signed_split empty ds = refl
signed_split (signature xs t) ds = refl
signed_split (equation at x ps r) ds = refl
signed_split (binding p r) ds = refl

pub signatures_split : (types : Counted) (d : Declaration) (ds : Declarations) → local_signatures types (declaration d ds) ≡ signature_breaches types d ++ local_signatures types ds
signatures_split types empty ds = refl
signatures_split types (signature xs t) ds = sym (append_assoc (type_breaches types t) (each_breach 12 (type_variables t)) (local_signatures types ds))
signatures_split types (equation at x ps r) ds = refl
signatures_split types (binding p r) ds = refl

pub ruleset split_blocks = (bindings_split, uneven_split, signed_split, signatures_split)

-- ---- the top

pub top_bindings_split : (going : Option Open) (t : Top) (ts : List Top) → top_bindings going (t ∷ ts) ≡ bound_at_top going t ++ top_bindings (going_behind_top going t) ts
top_bindings_split going top.Empty ts = refl
top_bindings_split going (top.Data d) ts = refl
top_bindings_split going (top.Synonym s) ts = refl
top_bindings_split going (top.Fixity f) ts = refl
top_bindings_split going (top.Signature x xs a t) ts = refl
top_bindings_split going (top.Equation h r) ts =
    let n = count_patterns (head_patterns h) in
    equation_bound (goes_on going (head_name h).text n) going (opened (head_name h).text n) (head_name h) (λ g. top_bindings g ts)

pub uneven_tops_split : (going : Option Open) (t : Top) (ts : List Top) → uneven_tops going (t ∷ ts) ≡ uneven_at_top going t ++ uneven_tops (going_behind_top going t) ts
uneven_tops_split going top.Empty ts = refl
uneven_tops_split going (top.Data d) ts = refl
uneven_tops_split going (top.Synonym s) ts = refl
uneven_tops_split going (top.Fixity f) ts = refl
uneven_tops_split going (top.Signature x xs a t) ts = refl
uneven_tops_split going (top.Equation h r) ts =
    let n = count_patterns (head_patterns h) in
    equation_uneven (goes_on going (head_name h).text n) going (opened (head_name h).text n) (uneven going n (first_of_head h)) (λ g. uneven_tops g ts)

pub ruleset split_tops = (top_bindings_split, uneven_tops_split)
