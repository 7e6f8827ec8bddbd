-- What one read does to a reader whose bytes are known.
use Rattle.std.proofs.Common.{◌≡◌, ◌≤◌, ◌<◌, ℕ, ◌+◌, List, [], ◌++◌, Option, None, Some, IfSome, length, arith, refl, append_assoc, append-nil, length-append}
use Rattle.std.proofs.lemmas.Grind.{common_steps}
use Rattle.std.specs.Io.KnownBytes.{Keeps, Consumes, IsAtEnd}
use Rattle.hdc_base.specs.Read.{GivesAtMost}

-- at first nothing was read
pub consumes_at_first : (old : Option (List ℕ)) → Consumes old old []
consumes_at_first None = tt
consumes_at_first (Some bytes) = refl

-- two reads, one after the other
pub consumes_more : (old mid new : Option (List ℕ)) (first second : List ℕ) → Consumes old mid first → Consumes mid new second → Consumes old new (first ++ second)
consumes_more None mid new first second p q = tt
consumes_more (Some bytes) None new first second p q = absurd p
consumes_more (Some bytes) (Some more) None first second p q = absurd q
consumes_more (Some bytes) (Some more) (Some rest) first second p q = grind (arith, common_steps, append_assoc)

-- a read that fails takes nothing
pub consumes_kept : (old mid new : Option (List ℕ)) (first : List ℕ) → Consumes old mid first → Keeps mid new → Consumes old new first
consumes_kept None mid new first p q = tt
consumes_kept (Some bytes) None new first p q = absurd p
consumes_kept (Some bytes) (Some more) None first p q = absurd q
consumes_kept (Some bytes) (Some more) (Some rest) first p q = cc

-- what was read up to the end is all
pub consumes_all : (old mid new : Option (List ℕ)) (first : List ℕ) → Consumes old mid first → Consumes mid new [] → IsAtEnd new → IfSome old (λ bytes. first ≡ bytes)
consumes_all None mid new first p q e = tt
consumes_all (Some bytes) None new first p q e = absurd p
consumes_all (Some bytes) (Some more) None first p q e = absurd q
consumes_all (Some bytes) (Some more) (Some rest) first p q e = grind (arith, common_steps, append-nil {A = ℕ})

-- there are at least as many bytes as were read
pub consumes_longer : (old mid new : Option (List ℕ)) (first second : List ℕ) (limit : ℕ) → Consumes old mid first → Consumes mid new second → limit < length first + length second → IfSome old (λ bytes. limit < length bytes)
consumes_longer None mid new first second limit p q h = tt
consumes_longer (Some bytes) None new first second limit p q h = absurd p
consumes_longer (Some bytes) (Some more) None first second limit p q h = absurd q
consumes_longer (Some bytes) (Some more) (Some rest) first second limit p q h = grind (arith, common_steps, length-append {A = ℕ})

-- a reader gave no more than was read
pub gives_at_most : (old new : Option (List ℕ)) (first : List ℕ) (most : ℕ) → Consumes old new first → length first ≤ most → GivesAtMost old new most
gives_at_most None new first most p h = tt
gives_at_most (Some bytes) None first most p h = tt
gives_at_most (Some bytes) (Some rest) first most p h = grind (arith, common_steps, length-append {A = ℕ})

-- the same over two reads
pub gives_at_most_twice : (old mid new : Option (List ℕ)) (first second : List ℕ) (most : ℕ) → Consumes old mid first → Consumes mid new second → length first + length second ≤ most → GivesAtMost old new most
gives_at_most_twice None mid new first second most p q h = tt
gives_at_most_twice (Some bytes) None new first second most p q h = absurd p
gives_at_most_twice (Some bytes) (Some more) None first second most p q h = tt
gives_at_most_twice (Some bytes) (Some more) (Some rest) first second most p q h = grind (arith, common_steps, length-append {A = ℕ})

-- what a loop of reads keeps, and what it answers by
pub ruleset read_steps = (consumes_at_first, consumes_more, consumes_kept, consumes_all, consumes_longer, gives_at_most, gives_at_most_twice)
