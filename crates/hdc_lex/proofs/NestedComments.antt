-- The function that finds a comment's end, against the grammar of comments.
use Rattle.std.proofs.Common.{◌≡◌, ℕ, zero, suc, ◌+◌, ◌-◌, ◌<◌, ◌≤◌, List, [], ◌∷◌, ◌++◌, length, refl, sym, ap, ◌∙◌, arith, Bool, true, false, cond, ◌==◌, Option, Some, None}
use Rattle.std.proofs.lemmas.List.{append_assoc, length-append}
use Rattle.std.proofs.lemmas.Bool.Decides.{nat_tests}
use Rattle.hdc_lex.specs.Pieces.{more_by, comment_end}
use Rattle.hdc_lex.specs.Grammar.{begins_with_both}
use Rattle.hdc_lex.specs.Fronts.{EndsComment, close, nested, other}
use Rattle.hdc_lex.proofs.Comments.{more_twice, opened, closed, walked}

-- what a comment's end at so many bytes leads to, where so many comments are open behind it
abbrev behind_end : ℕ → ℕ → List ℕ → Option ℕ
behind_end depth size rest = cond (depth == 0) (Some size) (more_by size (comment_end depth rest))

-- bytes before the end add to what it leads to
behind_more : (more depth size : ℕ) (rest : List ℕ) → more_by more (behind_end depth size rest) ≡ behind_end depth (more + size) rest
behind_more more depth size rest = by_test (depth == 0) refl
  where
    by_test : (t : Bool) → (depth == 0) ≡ t → more_by more (behind_end depth size rest) ≡ behind_end depth (more + size) rest
    by_test true e = ap (λ t. more_by more (cond t (Some size) (more_by size (comment_end depth rest)))) e ∙ sym (ap (λ t. cond t (Some (more + size)) (more_by (more + size) (comment_end depth rest))) e)
    by_test false e = ap (λ t. more_by more (cond t (Some size) (more_by size (comment_end depth rest)))) e ∙ more_twice more size (comment_end depth rest) ∙ sym (ap (λ t. cond t (Some (more + size)) (more_by (more + size) (comment_end depth rest))) e)

-- a comment within another leads on
behind_inner : (depth size : ℕ) (rest : List ℕ) → behind_end (depth + 1) size rest ≡ more_by size (comment_end (depth + 1) rest)
behind_inner depth size rest =
    let e : ((depth + 1) == 0) ≡ false = grind (arith, nat_tests) in
    ap (λ t. cond t (Some size) (more_by size (comment_end (depth + 1) rest))) e

-- the two closing bytes lead to the end, or to the comment around
behind_close : (depth : ℕ) (rest : List ℕ) → comment_end (depth + 1) (45 ∷ 125 ∷ rest) ≡ behind_end depth 2 rest
behind_close depth rest =
    let less : depth + 1 - 1 ≡ depth = omega arith in
    closed (depth + 1) (45 ∷ 125 ∷ rest) refl refl ∙ ap (λ n. cond ((depth + 1) == 1) (Some 2) (more_by 2 (comment_end n rest))) less ∙ by_test (depth == 0) refl
  where
    by_test : (t : Bool) → (depth == 0) ≡ t → cond ((depth + 1) == 1) (Some 2) (more_by 2 (comment_end depth rest)) ≡ behind_end depth 2 rest
    by_test true e =
        let last : ((depth + 1) == 1) ≡ true = grind (arith, nat_tests, e) in
        ap (λ t. cond t (Some 2) (more_by 2 (comment_end depth rest))) (last ∙ sym e)
    by_test false e =
        let last : ((depth + 1) == 1) ≡ false = grind (arith, nat_tests, e) in
        ap (λ t. cond t (Some 2) (more_by 2 (comment_end depth rest))) (last ∙ sym e)

-- a comment has an end, so a byte
ends_some : (bytes : List ℕ) → EndsComment bytes → 0 < length bytes
ends_some bytes close = omega arith
ends_some bytes (nested inner more h g) = omega arith
ends_some bytes (other b more opens closes h) = omega arith

-- which two bytes begin a text shows at its first two
begins_front : (first second b : ℕ) (bytes rest : List ℕ) → 0 < length bytes → begins_with_both first second (b ∷ (bytes ++ rest)) ≡ begins_with_both first second (b ∷ bytes)
begins_front first second b [] rest some = absurd (omega (arith, some))
begins_front first second b (c ∷ bytes) rest some = refl

-- the end of a comment is found at each depth
read_at : (depth : ℕ) (bytes rest : List ℕ) → EndsComment bytes → comment_end (depth + 1) (bytes ++ rest) ≡ behind_end depth (length bytes) rest
read_at depth bytes rest close = behind_close depth rest
read_at depth bytes rest (nested inner more h g) =
    let size : 2 + length inner + length more ≡ length (123 ∷ 45 ∷ (inner ++ more)) = omega (arith, length-append inner more) in
    opened (depth + 1) (123 ∷ 45 ∷ ((inner ++ more) ++ rest)) refl
    ∙ ap (λ text. more_by 2 (comment_end (depth + 1 + 1) text)) (append_assoc inner more rest)
    ∙ ap (more_by 2) (read_at (depth + 1) inner (more ++ rest) h ∙ behind_inner depth (length inner) (more ++ rest))
    ∙ more_twice 2 (length inner) (comment_end (depth + 1) (more ++ rest))
    ∙ ap (more_by (2 + length inner)) (read_at depth more rest g)
    ∙ behind_more (2 + length inner) depth (length more) rest
    ∙ ap (λ n. behind_end depth n rest) size
read_at depth bytes rest (other b more opens closes h) =
    let some : 0 < length more = ends_some more h in
    let long : 2 ≤ length (b ∷ (more ++ rest)) = omega (arith, some, length-append more rest) in
    let size : 1 + length more ≡ length (b ∷ more) = omega arith in
    walked (depth + 1) (b ∷ (more ++ rest)) (begins_front 123 45 b more rest some ∙ opens) (begins_front 45 125 b more rest some ∙ closes) long
    ∙ ap (more_by 1) (read_at depth more rest h)
    ∙ behind_more 1 depth (length more) rest
    ∙ ap (λ n. behind_end depth n rest) size

-- the end of a comment is found
pub comment_read : (bytes rest : List ℕ) → EndsComment bytes → comment_end 0 (123 ∷ 45 ∷ (bytes ++ rest)) ≡ Some (2 + length bytes)
comment_read bytes rest h = opened 0 (123 ∷ 45 ∷ (bytes ++ rest)) refl ∙ ap (more_by 2) (read_at 0 bytes rest h)

-- what more_by leads to it leads to behind so many bytes
more_back : (n m : ℕ) (size : Option ℕ) → more_by n size ≡ Some m → (k : ℕ) × (size ≡ Some k) × (m ≡ n + k)
more_back n m None e = absurd (cc)
more_back n m (Some k) e = (k, refl, cc)

-- a comment at the front of a text, whose end leads to so many bytes
abbrev IsRead : ℕ → List ℕ → ℕ → Type 0
IsRead depth text n = (bytes : List ℕ) × (rest : List ℕ) × (text ≡ bytes ++ rest) × EndsComment bytes × (behind_end depth (length bytes) rest ≡ Some n)

-- the two bytes are those
both_true : (a b first second : ℕ) (rest : List ℕ) → begins_with_both first second (a ∷ b ∷ rest) ≡ true → (a ≡ first) × (b ≡ second)
both_true a b first second rest h = (grind (arith, nat_tests, h), grind (arith, nat_tests, h))

-- in texts of at most so many bytes an end that is found at a depth is the end of a comment
abbrev ReadsWithin : ℕ → Type 0
ReadsWithin bound = (depth : ℕ) (text : List ℕ) (n : ℕ) → length text ≤ bound → comment_end (depth + 1) text ≡ Some n → IsRead depth text n

-- two comments in turn behind two bytes that open the first
opened_around : (depth a b n m k : ℕ) (text inner behind : List ℕ) → begins_with_both 123 45 (a ∷ b ∷ text) ≡ true → n ≡ 2 + m → text ≡ inner ++ behind → EndsComment inner → m ≡ length inner + k → IsRead depth behind k → IsRead depth (a ∷ b ∷ text) n
opened_around depth a b n m k text inner behind h n_is text_is ends m_is (more, rest, behind_is, ends_more, told) =
    let same = both_true a b 123 45 text h in
    let size : length (123 ∷ 45 ∷ (inner ++ more)) ≡ 2 + length inner + length more = omega (arith, length-append inner more) in
    let sum : 2 + length inner + k ≡ n = omega (arith, n_is, m_is) in
    let text_all : text ≡ (inner ++ more) ++ rest = text_is ∙ ap (λ bs. inner ++ bs) behind_is ∙ sym (append_assoc inner more rest) in
    let end = sym (behind_more (2 + length inner) depth (length more) rest) ∙ ap (more_by (2 + length inner)) told ∙ ap Some sum in
    (123 ∷ 45 ∷ (inner ++ more), rest, ap (λ c. c ∷ b ∷ text) same.0 ∙ ap (λ c. 123 ∷ c ∷ text) same.1 ∙ ap (λ bs. 123 ∷ 45 ∷ bs) text_all, nested inner more ends ends_more, ap (λ s. behind_end depth s rest) size ∙ end)

-- behind two bytes that open a comment, and behind that comment
opened_more : (bound depth a b n m : ℕ) (text : List ℕ) → ReadsWithin bound → length (a ∷ b ∷ text) ≤ suc bound → begins_with_both 123 45 (a ∷ b ∷ text) ≡ true → n ≡ 2 + m → IsRead (depth + 1) text m → IsRead depth (a ∷ b ∷ text) n
opened_more bound depth a b n m text reads short h n_is (inner, behind, text_is, ends, told) = by_rest (more_back (length inner) m (comment_end (depth + 1) behind) (sym (behind_inner depth (length inner) behind) ∙ told))
  where
    by_rest : (k : ℕ) × (comment_end (depth + 1) behind ≡ Some k) × (m ≡ length inner + k) → IsRead depth (a ∷ b ∷ text) n
    by_rest (k, outside, m_is) = opened_around depth a b n m k text inner behind h n_is text_is ends m_is (reads depth behind k (omega (arith, short, ap length text_is, length-append inner behind)) outside)

-- behind two bytes that open a comment
is_opened : (bound depth a b n : ℕ) (text : List ℕ) → ReadsWithin bound → length (a ∷ b ∷ text) ≤ suc bound → begins_with_both 123 45 (a ∷ b ∷ text) ≡ true → comment_end (depth + 1) (a ∷ b ∷ text) ≡ Some n → IsRead depth (a ∷ b ∷ text) n
is_opened bound depth a b n text reads short h e = by_rest (more_back 2 n (comment_end (depth + 1 + 1) text) (sym (opened (depth + 1) (a ∷ b ∷ text) h) ∙ e))
  where
    by_rest : (m : ℕ) × (comment_end (depth + 1 + 1) text ≡ Some m) × (n ≡ 2 + m) → IsRead depth (a ∷ b ∷ text) n
    by_rest (m, inside, n_is) = opened_more bound depth a b n m text reads short h n_is (reads (depth + 1) text m (omega (arith, short)) inside)

-- behind two bytes that close a comment
is_closed : (depth a b n : ℕ) (text : List ℕ) → begins_with_both 45 125 (a ∷ b ∷ text) ≡ true → comment_end (depth + 1) (a ∷ b ∷ text) ≡ Some n → IsRead depth (a ∷ b ∷ text) n
is_closed depth a b n text h e =
    let bytes = both_true a b 45 125 text h in
    let same : a ∷ b ∷ text ≡ 45 ∷ 125 ∷ text = ap (λ c. c ∷ b ∷ text) bytes.0 ∙ ap (λ c. 45 ∷ c ∷ text) bytes.1 in
    (45 ∷ 125 ∷ [], text, same, close, sym (behind_close depth text) ∙ ap (comment_end (depth + 1)) (sym same) ∙ e)

-- a byte before a comment's rest
walked_around : (depth a b n m : ℕ) (text : List ℕ) → begins_with_both 123 45 (a ∷ b ∷ text) ≡ false → begins_with_both 45 125 (a ∷ b ∷ text) ≡ false → n ≡ 1 + m → IsRead depth (b ∷ text) m → IsRead depth (a ∷ b ∷ text) n
walked_around depth a b n m text opens closes n_is (bytes, rest, text_is, ends, told) = (a ∷ bytes, rest, ap (λ bs. a ∷ bs) text_is, other a bytes (front 123 45 ∙ opens) (front 45 125 ∙ closes) ends, ap (λ s. behind_end depth s rest) size ∙ sym (behind_more 1 depth (length bytes) rest) ∙ ap (more_by 1) told ∙ ap Some (sym n_is))
  where
    front : (first second : ℕ) → begins_with_both first second (a ∷ bytes) ≡ begins_with_both first second (a ∷ b ∷ text)
    front first second = sym (begins_front first second a bytes rest (ends_some bytes ends)) ∙ ap (λ bs. begins_with_both first second (a ∷ bs)) (sym text_is)

    size : length (a ∷ bytes) ≡ 1 + length bytes
    size = omega arith

-- behind one byte of a comment
is_walked : (bound depth a b n : ℕ) (text : List ℕ) → ReadsWithin bound → length (a ∷ b ∷ text) ≤ suc bound → begins_with_both 123 45 (a ∷ b ∷ text) ≡ false → begins_with_both 45 125 (a ∷ b ∷ text) ≡ false → comment_end (depth + 1) (a ∷ b ∷ text) ≡ Some n → IsRead depth (a ∷ b ∷ text) n
is_walked bound depth a b n text reads short opens closes e = by_rest (more_back 1 n (comment_end (depth + 1) (b ∷ text)) (sym (walked (depth + 1) (a ∷ b ∷ text) opens closes (omega arith)) ∙ e))
  where
    by_rest : (m : ℕ) × (comment_end (depth + 1) (b ∷ text) ≡ Some m) × (n ≡ 1 + m) → IsRead depth (a ∷ b ∷ text) n
    by_rest (m, inside, n_is) = walked_around depth a b n m text opens closes n_is (reads depth (b ∷ text) m (omega (arith, short)) inside)

-- the same at two bytes
is_step : (bound depth a b n : ℕ) (text : List ℕ) → ReadsWithin bound → length (a ∷ b ∷ text) ≤ suc bound → comment_end (depth + 1) (a ∷ b ∷ text) ≡ Some n → IsRead depth (a ∷ b ∷ text) n
is_step bound depth a b n text reads short e = by_opens (begins_with_both 123 45 (a ∷ b ∷ text)) refl
  where
    by_closes : begins_with_both 123 45 (a ∷ b ∷ text) ≡ false → (t : Bool) → begins_with_both 45 125 (a ∷ b ∷ text) ≡ t → IsRead depth (a ∷ b ∷ text) n
    by_closes opens true h = is_closed depth a b n text h e
    by_closes opens false h = is_walked bound depth a b n text reads short opens h e

    by_opens : (t : Bool) → begins_with_both 123 45 (a ∷ b ∷ text) ≡ t → IsRead depth (a ∷ b ∷ text) n
    by_opens true h = is_opened bound depth a b n text reads short h e
    by_opens false h = by_closes h (begins_with_both 45 125 (a ∷ b ∷ text)) refl

-- an end that is found at a depth is the end of a comment
is_at : (bound depth : ℕ) (text : List ℕ) (n : ℕ) → length text ≤ bound → comment_end (depth + 1) text ≡ Some n → IsRead depth text n
is_at bound depth [] n short e = absurd (cc)
is_at bound depth (a ∷ []) n short e = absurd (cc)
is_at zero depth (a ∷ b ∷ text) n short e = absurd (omega (arith, short))
is_at (suc bound) depth (a ∷ b ∷ text) n short e = is_step bound depth a b n text (is_at bound) short e

-- what is found is a comment
pub comment_is : (text : List ℕ) (n : ℕ) → comment_end 0 (123 ∷ 45 ∷ text) ≡ Some n → (bytes : List ℕ) × (rest : List ℕ) × (text ≡ bytes ++ rest) × EndsComment bytes × (n ≡ 2 + length bytes)
comment_is text n e = by_rest (more_back 2 n (comment_end 1 text) (sym (opened 0 (123 ∷ 45 ∷ text) refl) ∙ e))
  where
    by_read : (m : ℕ) → n ≡ 2 + m → IsRead 0 text m → (bytes : List ℕ) × (rest : List ℕ) × (text ≡ bytes ++ rest) × EndsComment bytes × (n ≡ 2 + length bytes)
    by_read m n_is (bytes, rest, text_is, ends, told) =
        let size : length bytes ≡ m = cc in
        (bytes, rest, text_is, ends, n_is ∙ ap (λ k. 2 + k) (sym size))

    by_rest : (m : ℕ) × (comment_end 1 text ≡ Some m) × (n ≡ 2 + m) → (bytes : List ℕ) × (rest : List ℕ) × (text ≡ bytes ++ rest) × EndsComment bytes × (n ≡ 2 + length bytes)
    by_rest (m, inside, n_is) = by_read m n_is (is_at (length text) 0 text m (omega arith) inside)
