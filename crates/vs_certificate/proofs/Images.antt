-- The values of a list's entries, beside the list.
use Rattle.std.proofs.Common.{◌≡◌, ℕ, suc, ◌+◌, ◌<◌, ◌≤◌, Bool, true, false, le-leb, ◌&&◌, arith, nat_le, nat_lt, List, [], ◌∷◌, length, get_or, drop, map, refl, ap, sym, ◌∙◌}
use Rattle.std.proofs.lemmas.List.{drop_more, drop_all}
use Rattle.std.proofs.lemmas.Bool.Decides.{nat_tests}
use Rattle.serde_json.specs.Data.{Data}
use Rattle.serde_json.specs.Events.{items_len}
use Rattle.serde_json.specs.View.{items_of}
use Rattle.vs_certificate.specs.JsonValue.{whole_value, list_value}
use Rattle.vs_certificate.specs.Shape.{all_items}
use Rattle.vs_certificate.specs.Limits.{rise, is_within}

pub items_len-images : {A : Type 0} (value : A → Data) (xs : List A) → items_len (items_of (map value xs)) ≡ length xs
items_len-images value [] = refl
items_len-images value (x ∷ xs) = ap suc (items_len-images value xs)

-- the entries from one on pass where it does, and those behind it do
pub all_items-images : {A : Type 0} (value : A → Data) (test : Data → Bool) (xs : List A) (i : ℕ) (x : A) → i < length xs → x ≡ get_or xs i x
    → all_items test (items_of (map value (drop i xs))) ≡ (test (value x) && all_items test (items_of (map value (drop (i + 1) xs))))
all_items-images value test xs i x within at =
    ap (λ ys. all_items test (items_of (map value ys))) (drop_more xs i x within) ∙ ap (λ y. test (value y) && all_items test (items_of (map value (drop (i + 1) xs)))) (sym at)

pub all_items-images_past : {A : Type 0} (value : A → Data) (test : Data → Bool) (xs : List A) (i : ℕ) → length xs ≤ i → all_items test (items_of (map value (drop i xs))) ≡ true
all_items-images_past value test xs i past = ap (λ ys. all_items test (items_of (map value ys))) (drop_all i xs past)

pub rise-images : (low modulus : ℕ) (rs : List ℕ) (i r : ℕ) → i < length rs → r ≡ get_or rs i 0
    → rise low modulus (items_of (map whole_value (drop i rs))) ≡ (nat_le low r && nat_lt r modulus && rise (r + 1) modulus (items_of (map whole_value (drop (i + 1) rs))))
rise-images low modulus rs i r within at =
    ap (λ ys. rise low modulus (items_of (map whole_value ys))) (drop_more rs i 0 within)
    ∙ ap (λ y. nat_le low y && nat_lt y modulus && rise (y + 1) modulus (items_of (map whole_value (drop (i + 1) rs)))) (sym at)

pub rise-images_past : (low modulus : ℕ) (rs : List ℕ) (i : ℕ) → length rs ≤ i → rise low modulus (items_of (map whole_value (drop i rs))) ≡ true
rise-images_past low modulus rs i past = ap (λ ys. rise low modulus (items_of (map whole_value ys))) (drop_all i rs past)

-- a list that is too long, and one that isn't
pub over_most : {A : Type 0} (value : A → Data) (xs : List A) (most : ℕ) (others : Bool) → most < length xs → false ≡ (is_within most (list_value value xs) && others)
over_most value xs most others h = let over : nat_le (length xs) most ≡ false = grind (arith, nat_tests) in rw (items_len-images value xs, over) refl

pub within_most : {A : Type 0} (value : A → Data) (xs : List A) (most : ℕ) (others : Bool) → length xs ≤ most → true ≡ others → true ≡ (is_within most (list_value value xs) && others)
within_most value xs most others h e = let within : nat_le (length xs) most ≡ true = le-leb (length xs) most h in rw (items_len-images value xs, within) e

pub is_within-images : {A : Type 0} (value : A → Data) (xs : List A) (most : ℕ) → is_within most (list_value value xs) ≡ nat_le (length xs) most
is_within-images value xs most = ap (λ n. nat_le n most) (items_len-images value xs)
