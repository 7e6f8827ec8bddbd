-- What declarations of a block need of it by the names that they use and bind.
use Rattle.std.specs.Prelude.{◌≡◌, ◌⊎◌, ℕ, List, [], ◌∷◌, Some}
use Rattle.hdc_written.specs.declared.breach.Breach.{Breach}
use Rattle.hdc_needs.specs.Needy.{declaration_at, value_in}
use Rattle.hdc_needs.specs.Binders.{bound_from}
use Rattle.hdc_needs.specs.Walk.{Mention, Ended}

-- a declaration mentions a text
abbrev pub Mentions : List Mention → ℕ → List ℕ → Type 0
Mentions [] a t = ⊥
Mentions (m ∷ ms) a t = ((m.number ≡ a) × (m.name.text ≡ t)) ⊎ Mentions ms a t

-- the first declaration uses a name that the second binds
pub record UsesOf (binds uses : List Mention) (a b : ℕ) : Type 0 where
  pub text : List ℕ
  pub used : Mentions uses a text
  pub bound : Mentions binds b text

-- one or more steps of a relation
pub data Steps (R : ℕ → ℕ → Type 0) : ℕ → ℕ → Type 0 where
  last : (a b : ℕ) → R a b → Steps R a b
  more : (a b c : ℕ) → R a b → Steps R b c → Steps R a c

-- a value of a block that has ended needs itself
pub record Breaks (e : Ended) (b : Breach) : Type 0 where
  pub rule : b.rule ≡ 11
  pub number : ℕ
  pub is_value : value_in (declaration_at number e.declarations) ≡ Some b.at
  pub steps : Steps (UsesOf (bound_from 0 e.declarations) e.uses) number number

-- one of some blocks
abbrev pub OneBreaks : List Ended → Breach → Type 0
OneBreaks [] b = ⊥
OneBreaks (e ∷ es) b = Breaks e b ⊎ OneBreaks es b
