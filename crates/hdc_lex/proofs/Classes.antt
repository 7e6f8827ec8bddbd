-- What the class of a byte tells, and which bytes have a class.
use Rattle.std.proofs.Common.{◌≡◌, ℕ, List, [], ◌∷◌, refl, sym, ap, subst, ◌∙◌, arith, Bool, true, false, cond}
use Rattle.std.specs.Prelude.{◌||◌, ◌==◌, nat_le, codes}
use Rattle.std.specs.List.{list_any}
use Rattle.std.proofs.lemmas.Bool.{false≢true}
use Rattle.std.proofs.lemmas.Bool.Decides.{nat_tests}
use Rattle.hdc_base.specs.declared.token.Key.{Key}
use Rattle.hdc_lex.specs.Bytes.{is_one_of, is_white, is_small, is_capital, is_digit, is_symbol, class_of, class_of_rest}
use Rattle.hdc_lex.specs.Grammar.{IsSpecial, open_paren, close_paren, comma, semicolon, open_bracket, close_bracket, open_brace, close_brace, backquote}
use Rattle.hdc_lex.specs.declared.class.Class.{Class}
use Rattle.hdc_lex.specs.declared.class.Class.TheVariants as class

-- what a class tells of its bytes
abbrev pub Meets : Class → ℕ → Type 0
Meets class.White b = is_white b ≡ true
Meets class.Small b = is_small b ≡ true
Meets class.Capital b = is_capital b ≡ true
Meets class.Digit b = is_digit b ≡ true
Meets class.Symbol b = is_symbol b ≡ true
Meets (class.Special k) b = IsSpecial b k
Meets class.Quote b = b ≡ 39
Meets class.DoubleQuote b = b ≡ 34
Meets class.Other b = is_white b ≡ false

same : (a b : ℕ) → (a == b) ≡ true → a ≡ b
same a b e = grind (arith, nat_tests, e)

-- one test more
if_meets : (b : ℕ) (test : Bool) (c d : Class) → (test ≡ true → Meets c b) → (test ≡ false → Meets d b) → Meets (cond test c d) b
if_meets b true c d met other = met refl
if_meets b false c d met other = other refl

special_meets : (b n : ℕ) (k : Key) → IsSpecial n k → (b == n) ≡ true → Meets (class.Special k) b
special_meets b n k s e = subst (λ m. IsSpecial m k) (sym (same b n e)) s

rest_meets : (b : ℕ) → is_white b ≡ false → Meets (class_of_rest b) b
rest_meets b h =
    if_meets b _ _ _ (special_meets b 40 _ open_paren) (λ _. if_meets b _ _ _ (special_meets b 41 _ close_paren) (λ _. if_meets b _ _ _ (special_meets b 44 _ comma) (λ _. if_meets b _ _ _ (special_meets b 59 _ semicolon) (λ _. if_meets b _ _ _ (special_meets b 91 _ open_bracket) (λ _. if_meets b _ _ _ (special_meets b 93 _ close_bracket) (λ _. if_meets b _ _ _ (special_meets b 123 _ open_brace) (λ _. if_meets b _ _ _ (special_meets b 125 _ close_brace) (λ _. if_meets b _ _ _ (special_meets b 96 _ backquote) (λ _. if_meets b (b == 39) class.Quote _ (same b 39) (λ _. if_meets b (b == 34) class.DoubleQuote class.Other (same b 34) (λ _. h)))))))))))

-- each byte meets what its class tells
pub class_meets : (b : ℕ) → Meets (class_of b) b
class_meets b =
    if_meets b (is_white b) class.White _ (λ e. e) (λ h. if_meets b (is_small b) class.Small _ (λ e. e) (λ _. if_meets b (is_capital b) class.Capital _ (λ e. e) (λ _. if_meets b (is_digit b) class.Digit _ (λ e. e) (λ _. if_meets b (is_symbol b) class.Symbol _ (λ e. e) (λ _. rest_meets b h)))))

-- the class that is met
pub meets : (b : ℕ) (c : Class) → class_of b ≡ c → Meets c b
meets b c e = subst (λ c. Meets c b) e (class_meets b)

-- a fact of each of some bytes
abbrev ForEach : (ℕ → Type 0) → List ℕ → Type 0
ForEach P [] = Unit {0}
ForEach P (x ∷ xs) = P x × ForEach P xs

one_of : (P : ℕ → Type 0) (bytes : List ℕ) (b : ℕ) → ForEach P bytes → is_one_of bytes b ≡ true → P b
one_of P [] b all e = absurd (false≢true e)
one_of P (x ∷ xs) b (first, others) e = by_test (x == b) refl (one_of P xs b others)
  where
    by_test : (t : Bool) → (x == b) ≡ t → (is_one_of xs b ≡ true → P b) → P b
    by_test true h other = subst P (same x b h) first
    by_test false h other = other (ap (λ t. t || list_any (λ x. x == b) xs) (sym h) ∙ e)

abbrev HasClass : Class → ℕ → Type 0
HasClass c b = class_of b ≡ c

pub white_class : (b : ℕ) → is_white b ≡ true → class_of b ≡ class.White
white_class b e = one_of (HasClass class.White) (9 ∷ 10 ∷ 13 ∷ 32 ∷ []) b (refl, (refl, (refl, (refl, tt)))) e

pub symbol_class : (b : ℕ) → is_symbol b ≡ true → class_of b ≡ class.Symbol
symbol_class b e = one_of (HasClass class.Symbol) (codes "!#$%&*+./<=>?@\\^-~:|") b (refl, (refl, (refl, (refl, (refl, (refl, (refl, (refl, (refl, (refl, (refl, (refl, (refl, (refl, (refl, (refl, (refl, (refl, (refl, (refl, tt)))))))))))))))))))) e

is_no_white : (b : ℕ) → nat_le 33 b ≡ true → is_white b ≡ false
is_no_white b e = grind (arith, nat_tests, e)

pub small_class : (b : ℕ) → is_small b ≡ true → class_of b ≡ class.Small
small_class b e =
    let low : nat_le 33 b ≡ true = grind (arith, nat_tests, e) in
    ap (λ t. cond t class.White (cond (is_small b) class.Small (cond (is_capital b) class.Capital (cond (is_digit b) class.Digit (cond (is_symbol b) class.Symbol (class_of_rest b)))))) (is_no_white b low) ∙ ap (λ t. cond t class.Small (cond (is_capital b) class.Capital (cond (is_digit b) class.Digit (cond (is_symbol b) class.Symbol (class_of_rest b))))) e

pub capital_class : (b : ℕ) → is_capital b ≡ true → class_of b ≡ class.Capital
capital_class b e =
    let low : nat_le 33 b ≡ true = grind (arith, nat_tests, e) in
    let small : is_small b ≡ false = grind (arith, nat_tests, e) in
    ap (λ t. cond t class.White (cond (is_small b) class.Small (cond (is_capital b) class.Capital (cond (is_digit b) class.Digit (cond (is_symbol b) class.Symbol (class_of_rest b)))))) (is_no_white b low) ∙ ap (λ t. cond t class.Small (cond (is_capital b) class.Capital (cond (is_digit b) class.Digit (cond (is_symbol b) class.Symbol (class_of_rest b))))) small ∙ ap (λ t. cond t class.Capital (cond (is_digit b) class.Digit (cond (is_symbol b) class.Symbol (class_of_rest b)))) e

pub digit_class : (b : ℕ) → is_digit b ≡ true → class_of b ≡ class.Digit
digit_class b e =
    let low : nat_le 33 b ≡ true = grind (arith, nat_tests, e) in
    let small : is_small b ≡ false = grind (arith, nat_tests, e) in
    let capital : is_capital b ≡ false = grind (arith, nat_tests, e) in
    ap (λ t. cond t class.White (cond (is_small b) class.Small (cond (is_capital b) class.Capital (cond (is_digit b) class.Digit (cond (is_symbol b) class.Symbol (class_of_rest b)))))) (is_no_white b low) ∙ ap (λ t. cond t class.Small (cond (is_capital b) class.Capital (cond (is_digit b) class.Digit (cond (is_symbol b) class.Symbol (class_of_rest b))))) small ∙ ap (λ t. cond t class.Capital (cond (is_digit b) class.Digit (cond (is_symbol b) class.Symbol (class_of_rest b)))) capital ∙ ap (λ t. cond t class.Digit (cond (is_symbol b) class.Symbol (class_of_rest b))) e

pub special_class : (b : ℕ) (k : Key) → IsSpecial b k → class_of b ≡ class.Special k
special_class _ _ open_paren = refl
special_class _ _ close_paren = refl
special_class _ _ comma = refl
special_class _ _ semicolon = refl
special_class _ _ open_bracket = refl
special_class _ _ close_bracket = refl
special_class _ _ open_brace = refl
special_class _ _ close_brace = refl
special_class _ _ backquote = refl
