-- Lists that grow by what each value of a row gives.
use Rattle.std.proofs.Common.{◌≡◌, ℕ, ◌+◌, ◌<◌, ◌≤◌, List, [], ◌∷◌, ◌++◌, length, get_or, take, map, append_assoc}
use Rattle.std.specs.List.{flat_map}
use Rattle.std.proofs.lemmas.List.{take_more, take_all, append-nil, map-append}
use Rattle.std.proofs.lemmas.Grind.{flat_map-append}

-- what one more value gives stands behind what those before it gave
pub one_more : {A B : Type 0} (f : A → List B) (xs : List A) (i : ℕ) (x : A) (old now new : List B) → now ≡ old ++ flat_map f (take i xs) → i < length xs → x ≡ get_or xs i x → new ≡ now ++ f x → new ≡ old ++ flat_map f (take (i + 1) xs)
one_more f xs i x old now new before within here added = rw (take_more xs i x within, ← here, flat_map-append, append-nil, ← append_assoc, ← before) added

-- behind the last value stands what all of them give
pub all_taken : {A B : Type 0} (f : A → List B) (xs : List A) (i : ℕ) (old now : List B) → now ≡ old ++ flat_map f (take i xs) → length xs ≤ i → now ≡ old ++ flat_map f xs
all_taken f xs i old now before end = rw (← take_all i xs end) before

-- the same, where each value gives one
pub one_mapped : {A B : Type 0} (f : A → B) (xs : List A) (i : ℕ) (x : A) (old now new : List B) → now ≡ old ++ map f (take i xs) → i < length xs → x ≡ get_or xs i x → new ≡ now ++ f x ∷ [] → new ≡ old ++ map f (take (i + 1) xs)
one_mapped f xs i x old now new before within here added = rw (take_more xs i x within, ← here, map-append, ← append_assoc, ← before) added

pub all_mapped : {A B : Type 0} (f : A → B) (xs : List A) (i : ℕ) (old now : List B) → now ≡ old ++ map f (take i xs) → length xs ≤ i → now ≡ old ++ map f xs
all_mapped f xs i old now before end = rw (← take_all i xs end) before
