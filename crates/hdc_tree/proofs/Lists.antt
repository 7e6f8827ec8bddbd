-- Lists that are spelled, and lists that are well formed.
use Rattle.std.proofs.Common.{◌≡◌, List, [], ◌∷◌, refl, ap, map, Bool, ◌&&◌, ◌||◌, nat_le}
use Rattle.std.proofs.lemmas.List.{length-map}
use Rattle.hdc_base.specs.declared.token.Token as text_token
use Rattle.hdc_tree.specs.NameSpelling.{Puts, all_onto, each_onto}
use Rattle.hdc_tree.specs.Form.{every, each_formed, any_of, few}

-- what puts all of a list, by what puts each
pub each_is : {A : Type 0} (onto : A → Puts) (xs : List A) (k : List text_token.Token) → all_onto (map onto xs) k ≡ each_onto onto xs k
each_is onto [] k = refl
each_is onto (x ∷ xs) k = ap (onto x) (each_is onto xs k)

-- whether all of a list are formed, by whether each is
pub every_is : {A : Type 0} (formed : A → Bool) (xs : List A) → every (map formed xs) ≡ each_formed formed xs
every_is formed [] = refl
every_is formed (x ∷ xs) = ap (λ z. formed x && z) (every_is formed xs)

pub each_formed_map : {A B : Type 0} (formed : B → Bool) (f : A → B) (xs : List A) → each_formed formed (map f xs) ≡ each_formed (λ x. formed (f x)) xs
each_formed_map formed f [] = refl
each_formed_map formed f (x ∷ xs) = ap (λ z. formed (f x) && z) (each_formed_map formed f xs)

pub any_of_map : {A B : Type 0} (holds : B → Bool) (f : A → B) (xs : List A) → any_of holds (map f xs) ≡ any_of (λ x. holds (f x)) xs
any_of_map holds f [] = refl
any_of_map holds f (x ∷ xs) = ap (λ z. holds (f x) || z) (any_of_map holds f xs)

-- a list has as many members as what is made of it, one of each
pub few_map : {A B : Type 0} (f : A → B) (xs : List A) → few (map f xs) ≡ few xs
few_map f xs = ap (λ n. nat_le 1 n && nat_le n 6) (length-map xs f)
