-- Strings: what is read is a lexeme, each lexeme is read, and where none is the fault is the first.
use Rattle.std.proofs.Common.{◌≡◌, ℕ, zero, suc, ◌+◌, ◌<◌, ◌≤◌, List, [], ◌∷◌, ◌++◌, length, drop, refl, sym, ap, subst, ◌∙◌, arith, Bool, true, false, is_err, Option, Some, None, Ok, Err}
use Rattle.std.proofs.lemmas.Bool.{false≢true}
use Rattle.std.proofs.lemmas.List.{append-nil, append_assoc, length-append, drop_at}
use Rattle.hdc_base.specs.declared.token.Word.{Word}
use Rattle.hdc_base.specs.declared.token.Word.TheVariants as word
use Rattle.hdc_lex.specs.Characters.{Character, character_at}
use Rattle.hdc_lex.specs.Pieces.{further, lexeme, begins_with, Codes, with_front, code_list, behind_character, string_codes, as_string, string_literal}
use Rattle.hdc_lex.specs.Grammar.{begins_with_member, AreCharacters, IsLexeme}
use Rattle.hdc_lex.specs.Fronts.{BeginsLexeme, stop_at}
use Rattle.hdc_lex.specs.declared.lexeme.Fault.{Fault}
use Rattle.hdc_lex.specs.declared.lexeme.Piece.{Piece}
use Rattle.hdc_lex.proofs.Strings.{at_character}
use Rattle.hdc_lex.proofs.Runs.{begins_with_none, begins_the_same, begins_with_next}
use Rattle.hdc_lex.proofs.Parts.{IsPart, BeginsPart, PartView, part_read, part_view, part_is_no_quote, part_has_some, ends_at_double_quote, quote_first}
use Rattle.hdc_lex.proofs.FirstFaults.{double_quoted_is, further_stop, told_behind, LexemeBehind, FaultBehind, lexeme_behind, fault_behind}

-- the codes behind a part
behind_part : (is_more : ℕ → Bool) (bytes : List ℕ) (code : Option ℕ) (rest : List ℕ) (most : ℕ) → IsPart 34 is_more bytes code → begins_with_member is_more rest ≡ false → string_codes (suc most) (bytes ++ rest) ≡ with_front (code_list code) (length bytes) (string_codes most rest)
behind_part is_more bytes code rest most part ends =
    at_character most (bytes ++ rest) (part_is_no_quote 34 is_more bytes code rest refl part)
    ∙ ap (λ c. behind_character c (λ size. string_codes most (drop size (bytes ++ rest)))) (part_read 34 is_more bytes code rest part ends)
    ∙ ap (λ xs. with_front (code_list code) (length bytes) (string_codes most xs)) (drop_at bytes rest (length bytes) refl)

-- what does not begin with a byte of a class, with a quote behind it that is none
begins_before_quote : (is_more : ℕ → Bool) (bytes rest : List ℕ) → is_more 34 ≡ false → begins_with_member is_more bytes ≡ false → begins_with_member is_more (bytes ++ (34 ∷ rest)) ≡ false
begins_before_quote is_more [] rest e ends = e
begins_before_quote is_more (b ∷ bs) rest e ends = ends

-- a list that does not begin with a byte of a class is so without its back
begins_without : (is_more : ℕ → Bool) (bytes rest : List ℕ) → begins_with_member is_more (bytes ++ rest) ≡ false → begins_with_member is_more bytes ≡ false
begins_without is_more [] rest ends = refl
begins_without is_more (b ∷ bs) rest ends = ends

-- one more part is read
read_more : (is_more : ℕ → Bool) (part : List ℕ) (code : Option ℕ) (bytes codes rest : List ℕ) (most : ℕ) → IsPart 34 is_more part code → begins_with_member is_more (bytes ++ (34 ∷ rest)) ≡ false → length (part ++ bytes) < most → ((most : ℕ) → length bytes < most → string_codes most (bytes ++ (34 ∷ rest)) ≡ Ok (codes, length bytes + 1)) → string_codes most ((part ++ bytes) ++ (34 ∷ rest)) ≡ Ok (code_list code ++ codes, length (part ++ bytes) + 1)
read_more is_more part code bytes codes rest zero is ends short later = absurd (omega (arith, short))
read_more is_more part code bytes codes rest (suc most) is ends short later =
    let size : length part + (length bytes + 1) ≡ length (part ++ bytes) + 1 = omega (arith, length-append part bytes) in
    let left : length bytes < most = omega (arith, short, length-append part bytes, part_has_some 34 is_more part code is) in
    ap (string_codes (suc most)) (append_assoc part bytes (34 ∷ rest))
    ∙ behind_part is_more part code (bytes ++ (34 ∷ rest)) most is ends
    ∙ ap (with_front (code_list code) (length part)) (later most left)
    ∙ ap (λ n. Ok (code_list code ++ codes, n)) size

-- the characters of a string are read up to its quote
codes_read : (bytes codes : List ℕ) → AreCharacters bytes codes → (rest : List ℕ) (most : ℕ) → length bytes < most → string_codes most (bytes ++ (34 ∷ rest)) ≡ Ok (codes, length bytes + 1)
codes_read bytes codes AreCharacters.none rest zero short = absurd (omega (arith, short))
codes_read bytes codes AreCharacters.none rest (suc most) short = refl
codes_read bytes codes (AreCharacters.plain b bs cs e are) rest most short = read_more (λ digit. false) (b ∷ []) (Some b) bs cs rest most (IsPart.plain b e) (begins_with_none (bs ++ (34 ∷ rest))) short (λ n h. codes_read bs cs are rest n h)
codes_read bytes codes (AreCharacters.escaped is_more escape bs c cs e ends are) rest most short = read_more is_more (92 ∷ escape) (Some c) bs cs rest most (IsPart.escaped is_more escape c e) (begins_before_quote is_more bs rest (ends_at_double_quote is_more escape c e) ends) short (λ n h. codes_read bs cs are rest n h)
codes_read bytes codes (AreCharacters.empty bs cs are) rest most short = read_more (λ digit. false) (92 ∷ 38 ∷ []) None bs cs rest most (IsPart.empty refl) (begins_with_none (bs ++ (34 ∷ rest))) short (λ n h. codes_read bs cs are rest n h)

-- each string is read, whatever follows its closing quote
pub string_read : (bytes codes rest : List ℕ) → AreCharacters bytes codes → string_literal (bytes ++ (34 ∷ rest)) ≡ lexeme (word.Str codes) (length bytes + 2)
string_read bytes codes rest are =
    let size : length bytes + 1 + 1 ≡ length bytes + 2 = omega arith in
    ap as_string (codes_read bytes codes are rest (length (bytes ++ (34 ∷ rest))) (omega (arith, length-append bytes (34 ∷ rest)))) ∙ ap (lexeme (word.Str codes)) size

-- a part in front of the characters of a string
part_more : (is_more : ℕ → Bool) (part : List ℕ) (code : Option ℕ) (bytes codes : List ℕ) → IsPart 34 is_more part code → begins_with_member is_more bytes ≡ false → AreCharacters bytes codes → AreCharacters (part ++ bytes) (code_list code ++ codes)
part_more is_more part code bytes codes (IsPart.plain b e) ends are = AreCharacters.plain b bytes codes e are
part_more is_more part code bytes codes (IsPart.escaped m escape c e) ends are = AreCharacters.escaped m escape bytes c codes e ends are
part_more is_more part code bytes codes (IsPart.empty e) ends are = AreCharacters.empty bytes codes are

-- what a text behind the quote of a string is: characters with a quote behind them, or bytes that some characters begin with,
-- with a byte behind them with which none do; what more makes characters of these begins as the text does, or is nothing
data StringView (text : List ℕ) : Codes → Type 0 where
  read : (bytes codes rest : List ℕ) → text ≡ bytes ++ (34 ∷ rest) → AreCharacters bytes codes → StringView text (Ok (codes, length bytes + 1))
  stops : (front more rest codes : List ℕ) → text ≡ front ++ rest → AreCharacters (front ++ more) codes → ((is_more : ℕ → Bool) → begins_with_member is_more (front ++ rest) ≡ false → begins_with_member is_more (front ++ more) ≡ false) → ((b : ℕ) (bs others : List ℕ) (most : ℕ) → rest ≡ b ∷ bs → is_err (string_codes most (front ++ (b ∷ others))) ≡ true) → StringView text (Err (stop_at (length front) rest))

-- what is an error behind a part is one with it
err_in_front : (codes : List ℕ) (size : ℕ) (r : Codes) → is_err r ≡ true → is_err (with_front codes size r) ≡ true
err_in_front codes size (Ok found) e = absurd (false≢true e)
err_in_front codes size (Err f) e = refl

-- what is an error in a character is one of the string
err_at_character : (c : Character) (rest : ℕ → Codes) → is_err c ≡ true → is_err (behind_character c rest) ≡ true
err_at_character (Ok found) rest e = absurd (false≢true e)
err_at_character (Err f) rest e = refl

-- where the text stops behind a part, it stops with the part in front at the same byte
next_behind : (is_more : ℕ → Bool) (part : List ℕ) (code : Option ℕ) (front rest : List ℕ) → IsPart 34 is_more part code → begins_with_member is_more (front ++ rest) ≡ false → ((b : ℕ) (bs others : List ℕ) (most : ℕ) → rest ≡ b ∷ bs → is_err (string_codes most (front ++ (b ∷ others))) ≡ true) → (b : ℕ) (bs others : List ℕ) (most : ℕ) → rest ≡ b ∷ bs → is_err (string_codes most ((part ++ front) ++ (b ∷ others))) ≡ true
next_behind is_more part code front rest is ends none b bs others zero same = refl
next_behind is_more part code front rest is ends none b bs others (suc most) same =
    let shared : begins_with_member is_more (front ++ (b ∷ others)) ≡ false = begins_with_next is_more front b others bs ∙ ap (λ xs. begins_with_member is_more (front ++ xs)) (sym same) ∙ ends in
    ap (λ xs. is_err (string_codes (suc most) xs)) (append_assoc part front (b ∷ others))
    ∙ ap (λ r. is_err r) (behind_part is_more part code (front ++ (b ∷ others)) most is shared)
    ∙ err_in_front (code_list code) (length part) (string_codes most (front ++ (b ∷ others))) (none b bs others most same)

-- one more part in front of a text
view_more : (is_more : ℕ → Bool) (part : List ℕ) (code : Option ℕ) (text : List ℕ) → IsPart 34 is_more part code → begins_with_member is_more text ≡ false → (r : Codes) → StringView text r → StringView (part ++ text) (with_front (code_list code) (length part) r)
view_more is_more part code text is ends r (StringView.read bytes codes rest parts are) =
    let size : length (part ++ bytes) + 1 ≡ length part + (length bytes + 1) = omega (arith, length-append part bytes) in
    let apart : begins_with_member is_more bytes ≡ false = begins_without is_more bytes (34 ∷ rest) (sym (ap (begins_with_member is_more) parts) ∙ ends) in
    subst (λ n. StringView (part ++ text) (Ok (code_list code ++ codes, n))) size
    (read (part ++ bytes) (code_list code ++ codes) rest (ap (λ xs. part ++ xs) parts ∙ sym (append_assoc part bytes (34 ∷ rest))) (part_more is_more part code bytes codes is apart are))
view_more is_more part code text is ends r (StringView.stops front more rest codes parts are begins none) =
    let told : stop_at (length (part ++ front)) rest ≡ further (length part) (stop_at (length front) rest) = ap (λ n. stop_at n rest) (length-append part front) ∙ sym (further_stop (length part) (length front) rest) in
    let ends_there : begins_with_member is_more (front ++ rest) ≡ false = sym (ap (begins_with_member is_more) parts) ∙ ends in
    let shape : (part ++ front) ++ more ≡ part ++ (front ++ more) = append_assoc part front more in
    let some : 0 < length (part ++ front) = omega (arith, length-append part front, part_has_some 34 is_more part code is) in
    subst (λ f. StringView (part ++ text) (Err f)) told
    (stops (part ++ front) more rest (code_list code ++ codes) (ap (λ xs. part ++ xs) parts ∙ sym (append_assoc part front rest))
    (subst (λ xs. AreCharacters xs (code_list code ++ codes)) (sym shape) (part_more is_more part code (front ++ more) codes is (begins is_more ends_there) are))
    (λ m e. begins_the_same m (part ++ front) more rest some ∙ e)
    (next_behind is_more part code front rest is ends_there none))

-- bytes with which a part begins stop a string where they stop the part
stops_here : (text front rest : List ℕ) → begins_with 34 text ≡ false → text ≡ front ++ rest → BeginsPart front → ((b : ℕ) (bs others : List ℕ) → rest ≡ b ∷ bs → is_err (character_at 34 (front ++ (b ∷ others))) ≡ true) → StringView text (Err (stop_at (length front) rest))
stops_here text front rest open_yet parts BeginsPart.nothing none = stops [] [] rest [] parts AreCharacters.none (λ m e. refl) none_at
  where
    none_at : (b : ℕ) (bs others : List ℕ) (most : ℕ) → rest ≡ b ∷ bs → is_err (string_codes most (b ∷ others)) ≡ true
    none_at b bs others zero same = refl
    none_at b bs others (suc most) same =
        ap (λ r. is_err r) (at_character most (b ∷ others) (sym (ap (begins_with 34) (parts ∙ same)) ∙ open_yet))
        ∙ err_at_character (character_at 34 (b ∷ others)) (λ size. string_codes most (drop size (b ∷ others))) (none b bs others same)
stops_here text front rest open_yet parts (BeginsPart.begun is_more start more code e) none =
    stops (92 ∷ start) more rest (code ∷ []) parts (subst (λ xs. AreCharacters (92 ∷ xs) (code ∷ [])) (append-nil (start ++ more)) (AreCharacters.escaped is_more (start ++ more) [] code [] e refl AreCharacters.none)) (λ m same. same) none_at
  where
    none_at : (b : ℕ) (bs others : List ℕ) (most : ℕ) → rest ≡ b ∷ bs → is_err (string_codes most (92 ∷ (start ++ (b ∷ others)))) ≡ true
    none_at b bs others zero same = refl
    none_at b bs others (suc most) same = err_at_character (character_at 34 (92 ∷ (start ++ (b ∷ others)))) (λ size. string_codes most (drop size (92 ∷ (start ++ (b ∷ others))))) (none b bs others same)

-- what stands behind the quote of a string is one of these
string_view : (most : ℕ) (text : List ℕ) → length text ≤ most → StringView text (string_codes most text)
string_view zero [] short = stops [] [] [] [] refl AreCharacters.none (λ m e. refl) (λ b bs others most e. absurd (omega (arith, ap length e)))
string_view zero (b ∷ bs) short = absurd (omega (arith, short))
string_view (suc most) text short = by_test (λ rest h. string_view most rest h) (begins_with 34 text) refl
  where
    by_part : ((rest : List ℕ) → length rest ≤ most → StringView rest (string_codes most rest)) → begins_with 34 text ≡ false → (c : Character) → character_at 34 text ≡ c → PartView 34 text c → StringView text (behind_character c (λ size. string_codes most (drop size text)))
    by_part later open_yet c e (PartView.read is_more bytes rest code parts is ends) =
        let left : length rest ≤ most = omega (arith, short, ap length parts, length-append bytes rest, part_has_some 34 is_more bytes code is) in
        let back : drop (length bytes) text ≡ rest = ap (drop (length bytes)) parts ∙ drop_at bytes rest (length bytes) refl in
        subst (λ xs. StringView text (with_front (code_list code) (length bytes) (string_codes most xs))) (sym back)
        (subst (λ xs. StringView xs (with_front (code_list code) (length bytes) (string_codes most rest))) (sym parts) (view_more is_more bytes code rest is ends (string_codes most rest) (later rest left)))
    by_part later open_yet c e (PartView.stops front rest parts begins none) = stops_here text front rest open_yet parts begins none

    by_test : ((rest : List ℕ) → length rest ≤ most → StringView rest (string_codes most rest)) → (test : Bool) → begins_with 34 text ≡ test → StringView text (string_codes (suc most) text)
    by_test later true e = subst (λ xs. StringView xs (string_codes (suc most) xs)) (sym (quote_first 34 text e)) (read [] [] (drop 1 text) refl AreCharacters.none)
    by_test later false e = subst (λ r. StringView text r) (sym (at_character most text e)) (by_part later e (character_at 34 text) refl (part_view 34 text e))

-- what is read behind a double quote is a string
pub string_is : (text : List ℕ) (p : Piece) (size : ℕ) → string_literal text ≡ Ok (p, size) → LexemeBehind 34 text p size
string_is text p size found = by_view (string_codes (length text) text) (string_view (length text) text (omega arith)) found
  where
    by_view : (r : Codes) → StringView text r → as_string r ≡ Ok (p, size) → LexemeBehind 34 text p size
    by_view r (StringView.read bytes codes rest parts are) e =
        let sum : length bytes + 2 ≡ length bytes + 1 + 1 = omega arith in
        lexeme_behind 34 bytes rest (word.Str codes) (IsLexeme.string bytes codes are) text parts p size (ap (lexeme (word.Str codes)) sum ∙ e)
    by_view r (StringView.stops front more rest codes parts are begins none) e = cc e

-- no string goes on with the byte at which the characters of one stop
no_string : (front rest : List ℕ) → ((b : ℕ) (bs others : List ℕ) (most : ℕ) → rest ≡ b ∷ bs → is_err (string_codes most (front ++ (b ∷ others))) ≡ true) → (b : ℕ) (bs more : List ℕ) (w : Word) → rest ≡ b ∷ bs → IsLexeme (34 ∷ (front ++ (b ∷ more))) w → ⊥
no_string front rest none b bs more w same is =
    let s = double_quoted_is (front ++ (b ∷ more)) w is in
    let ok = codes_read s.inner s.codes s.characters [] (suc (length s.inner)) (omega arith) in
    false≢true (sym (ap (λ r. is_err r) (ap (string_codes (suc (length s.inner))) s.closed ∙ ok)) ∙ none b bs more (suc (length s.inner)) same)

-- a fault behind a double quote is the first
pub string_fault : (text : List ℕ) (f : Fault) → string_literal text ≡ Err f → FaultBehind 34 text f
string_fault text f found = by_view (string_codes (length text) text) (string_view (length text) text (omega arith)) found
  where
    by_view : (r : Codes) → StringView text r → as_string r ≡ Err f → FaultBehind 34 text f
    by_view r (StringView.read bytes codes rest parts are) e = cc e
    by_view r (StringView.stops front more rest codes parts are begins none) e =
        let same_fault : further 1 (stop_at (length front) rest) ≡ f = cc e in
        let told : stop_at (suc (length front)) rest ≡ f = sym (told_behind (length front) rest) ∙ same_fault in
        let whole : IsLexeme (34 ∷ (front ++ (more ++ (34 ∷ [])))) (word.Str codes) = subst (λ xs. IsLexeme (34 ∷ xs) (word.Str codes)) (append_assoc front more (34 ∷ [])) (IsLexeme.string (front ++ more) codes are) in
        let begun : BeginsLexeme (34 ∷ front) = (more ++ (34 ∷ []), word.Str codes, whole) in
        subst (λ g. FaultBehind 34 text g) told (fault_behind 34 front rest begun (no_string front rest none) text parts)
