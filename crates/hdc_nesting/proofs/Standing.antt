-- What stands directly in the open brackets, read from left to right, is what stands there as the brackets match.
use Rattle.std.proofs.Common.{◌≡◌, ◌↔◌, List, [], ◌∷◌, ◌++◌, refl, sym, ap, ◌∙◌, subst, false}
use Rattle.std.specs.List.{fold}
use Rattle.std.proofs.lemmas.List.{append-nil, append_assoc}
use Rattle.std.proofs.lemmas.List.Sums.{fold_push, fold-append}
use Rattle.hdc_base.specs.declared.token.Token.{Token}
use Rattle.hdc_nesting.specs.declared.role.Role.{Role}
use Rattle.hdc_nesting.specs.declared.role.Role.TheVariants as role
use Rattle.hdc_nesting.specs.Roles.{role_of}
use Rattle.hdc_nesting.specs.Nesting.{Levels, Inside, nothing, behind, insides}
use Rattle.hdc_nesting.specs.Standing.{Closing, Plain, is_bracket, Matched, none, plain, bracket, Outermost, start, matched, stray, Stands, whole, opened}

-- read on from some levels
abbrev read : Levels Inside → List Token → Levels Inside
read levels tokens = fold (λ levels t. behind t (role_of t.word) levels) levels tokens

-- levels with more in the innermost
abbrev with : Inside → Levels Inside → Levels Inside
with inside levels = record { innermost = inside ++ levels.innermost; around = levels.around }

-- a token that is no bracket stands in the innermost
plain_stands : (t : Token) (r : Role) (levels : Levels Inside) → is_bracket r ≡ false → behind t r levels ≡ with (t ∷ []) levels
plain_stands t role.Opens levels e = cc
plain_stands t role.Closes levels e = cc
plain_stands t role.Counts levels e = refl
plain_stands t role.Separates levels e = refl
plain_stands t role.Other levels e = refl

-- past matched tokens
past_matched : (tokens : List Token) (inside : Inside) → Matched tokens inside → (levels : Levels Inside) → read levels tokens ≡ with inside levels
past_matched _ _ none levels = refl
past_matched _ _ (plain {tokens} {inside} h t e) levels =
    fold_push (λ levels (t : Token). behind t (role_of t.word) levels) levels tokens t
    ∙ ap (λ l. behind t (role_of t.word) l) (past_matched tokens inside h levels)
    ∙ plain_stands t (role_of t.word) (with inside levels) e
past_matched _ _ (bracket {tokens} {within} {inside} {hidden} h o eo g c ec) levels =
    fold-append (λ levels (t : Token). behind t (role_of t.word) levels) levels tokens (o ∷ within ++ c ∷ [])
    ∙ ap (λ l. read l (o ∷ within ++ c ∷ [])) (past_matched tokens inside h levels)
    ∙ ap (λ r. read (behind o r (with inside levels)) (within ++ c ∷ [])) eo
    ∙ fold_push (λ levels (t : Token). behind t (role_of t.word) levels) (behind o role.Opens (with inside levels)) within c
    ∙ ap (λ l. behind c (role_of c.word) l) (past_matched within hidden g (behind o role.Opens (with inside levels)))
    ∙ ap (λ r. behind c r (with hidden (behind o role.Opens (with inside levels)))) ec

-- in the whole text
past_outermost : (tokens : List Token) (inside : Inside) → Outermost tokens inside → insides tokens ≡ record { innermost = inside; around = [] }
past_outermost _ _ start = refl
past_outermost _ _ (matched {tokens} {more} {inside} {later} h g) =
    fold-append (λ levels (t : Token). behind t (role_of t.word) levels) nothing tokens more
    ∙ ap (λ l. read l more) (past_outermost tokens inside h)
    ∙ past_matched more later g (record { innermost = inside; around = [] })
past_outermost _ _ (stray {tokens} {inside} h c e) =
    fold_push (λ levels (t : Token). behind t (role_of t.word) levels) nothing tokens c
    ∙ ap (λ l. behind c (role_of c.word) l) (past_outermost tokens inside h)
    ∙ ap (λ r. behind c r (record { innermost = inside; around = [] })) e

-- what stands in the open brackets as they match is what was read
read_as_matched : (tokens : List Token) (levels : Levels Inside) → Stands tokens levels → insides tokens ≡ levels
read_as_matched _ _ (whole {tokens} {inside} h) = past_outermost tokens inside h
read_as_matched _ _ (opened {tokens} {within} {levels} {inside} h o e g) =
    fold-append (λ levels (t : Token). behind t (role_of t.word) levels) nothing tokens (o ∷ within)
    ∙ ap (λ l. read l (o ∷ within)) (read_as_matched tokens levels h)
    ∙ ap (λ r. read (behind o r levels) within) e
    ∙ past_matched within inside g (behind o role.Opens levels)
    ∙ ap (λ inside. record { innermost = inside; around = (o ∷ levels.innermost) ∷ levels.around }) (append-nil inside)

-- matched tokens behind others
matched_append : (tokens : List Token) (inside : Inside) → Matched tokens inside → (more : List Token) (later : Inside) → Matched more later → Matched (tokens ++ more) (later ++ inside)
matched_append tokens inside h _ _ none = subst (λ ts. Matched ts inside) (sym (append-nil tokens)) h
matched_append tokens inside h _ _ (plain {tokens = more} {inside = later} g t e) =
    subst (λ ts. Matched ts (t ∷ later ++ inside)) (append_assoc tokens more (t ∷ [])) (plain (matched_append tokens inside h more later g) t e)
matched_append tokens inside h _ _ (bracket {tokens = more} {within} {inside = later} {hidden} g o eo k c ec) =
    subst (λ ts. Matched ts (o ∷ later ++ inside)) (append_assoc tokens more (o ∷ within ++ c ∷ [])) (bracket (matched_append tokens inside h more later g) o eo k c ec)

-- matched tokens stand in the innermost
stands_more : (tokens : List Token) (levels : Levels Inside) → Stands tokens levels → (more : List Token) (later : Inside) → Matched more later → Stands (tokens ++ more) (with later levels)
stands_more _ _ (whole h) more later g = whole (matched h g)
stands_more _ _ (opened {tokens} {within} {levels} {inside} h o e k) more later g =
    subst (λ ts. Stands ts (record { innermost = later ++ inside; around = (o ∷ levels.innermost) ∷ levels.around })) (sym (append_assoc tokens (o ∷ within) more)) (opened h o e (matched_append within inside k more later g))

-- a token that is no bracket, behind others
stands_plain : (tokens : List Token) (levels : Levels Inside) → Stands tokens levels → (t : Token) → Plain t → Stands (tokens ++ t ∷ []) (with (t ∷ []) levels)
stands_plain tokens levels h t e = stands_more tokens levels h (t ∷ []) (t ∷ []) (plain none t e)

-- a closing token behind others
stands_closed : (tokens : List Token) (levels : Levels Inside) → Stands tokens levels → (c : Token) → Closing c → Stands (tokens ++ c ∷ []) (behind c role.Closes levels)
stands_closed _ _ (whole h) c e = whole (stray h c e)
stands_closed _ _ (opened {tokens} {within} {levels} {inside} h o eo k) c e =
    subst (λ ts. Stands ts (with (o ∷ []) levels)) (sym (append_assoc tokens (o ∷ within) (c ∷ []))) (stands_more tokens levels h (o ∷ within ++ c ∷ []) (o ∷ []) (bracket none o eo k c e))

-- a token behind others
stands_behind : (tokens : List Token) (levels : Levels Inside) → Stands tokens levels → (t : Token) (r : Role) → role_of t.word ≡ r → Stands (tokens ++ t ∷ []) (behind t r levels)
stands_behind tokens levels h t role.Opens e = opened h t e none
stands_behind tokens levels h t role.Closes e = stands_closed tokens levels h t e
stands_behind tokens levels h t role.Counts e = stands_plain tokens levels h t (ap is_bracket e)
stands_behind tokens levels h t role.Separates e = stands_plain tokens levels h t (ap is_bracket e)
stands_behind tokens levels h t role.Other e = stands_plain tokens levels h t (ap is_bracket e)

-- tokens behind others
stands_along : (tokens more : List Token) (levels : Levels Inside) → Stands tokens levels → Stands (tokens ++ more) (read levels more)
stands_along tokens [] levels h = subst (λ ts. Stands ts levels) (sym (append-nil tokens)) h
stands_along tokens (t ∷ more) levels h =
    subst (λ ts. Stands ts (read levels (t ∷ more))) (append_assoc tokens (t ∷ []) more)
    (stands_along (tokens ++ t ∷ []) more (behind t (role_of t.word) levels) (stands_behind tokens levels h t (role_of t.word) refl))

-- what was read is what stands in the open brackets as they match
pub insides_stand : (tokens : List Token) (levels : Levels Inside) → Stands tokens levels ↔ (insides tokens ≡ levels)
insides_stand tokens levels = (read_as_matched tokens levels, λ e. subst (Stands tokens) e (stands_along [] tokens nothing (whole start)))
