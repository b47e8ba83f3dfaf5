-- What was appended to the known bytes of a sink, whole or a beginning of it.
use Rattle.std.proofs.Common.{◌≡◌, ℕ, ◌+◌, Option, Some, None, List, [], ◌∷◌, ◌++◌, take, zero, zero-add, length, refl, sym, ◌∙◌, ap, subst, arith, append_assoc, suc}
use Rattle.std.specs.Io.KnownBytes.{Appends}
use Rattle.std.proofs.lemmas.List.{append-nil}
use Rattle.vs_vcd_writing.specs.Sinks.{AppendsPart}

pub append_none : (old : Option (List ℕ)) → Appends old old []
append_none None = tt
append_none (Some xs) = sym (append-nil xs)

pub append_more : (old mid new : Option (List ℕ)) (xs ys : List ℕ) → Appends old mid xs → Appends mid new ys → Appends old new (xs ++ ys)
append_more None mid new xs ys h k = tt
append_more (Some a) None new xs ys h k = absurd h
append_more (Some a) (Some b) None xs ys h k = absurd k
append_more (Some a) (Some b) (Some c) xs ys h k = k ∙ ap (λ (l : List ℕ). l ++ ys) h ∙ append_assoc a xs ys

take_whole : (xs ys : List ℕ) → take (length xs) (xs ++ ys) ≡ xs
take_whole [] ys = refl
take_whole (x ∷ xs) ys = ap (λ (l : List ℕ). x ∷ l) (take_whole xs ys)

take_front : (xs ys : List ℕ) (n : ℕ) → take (length (take n xs)) (xs ++ ys) ≡ take n xs
take_front [] ys zero = refl
take_front [] ys (suc n) = refl
take_front (x ∷ xs) ys zero = refl
take_front (x ∷ xs) ys (suc n) = ap (λ (l : List ℕ). x ∷ l) (take_front xs ys n)

take_past : (xs ys : List ℕ) (n : ℕ) → take (length xs + n) (xs ++ ys) ≡ xs ++ take n ys
take_past [] ys n = ap (λ (k : ℕ). take k ys) (zero-add n)
take_past (x ∷ xs) ys n =
    let e : suc (length xs) + n ≡ suc (length xs + n) = omega arith in
    ap (λ (k : ℕ). take k (x ∷ (xs ++ ys))) e ∙ ap (λ (l : List ℕ). x ∷ l) (take_past xs ys n)

-- a beginning of a text is one of a longer text
pub part_front : (old new : Option (List ℕ)) (xs ys : List ℕ) → AppendsPart old new xs → AppendsPart old new (xs ++ ys)
part_front old new xs ys h = (length (take h.0 xs), subst (Appends old new) (sym (take_front xs ys h.0)) h.1)

-- a text, and then a beginning of another one
pub part_more : (old mid new : Option (List ℕ)) (xs ys : List ℕ) → Appends old mid xs → AppendsPart mid new ys → AppendsPart old new (xs ++ ys)
part_more old mid new xs ys h k = (length xs + k.0, subst (Appends old new) (sym (take_past xs ys k.0)) (append_more old mid new xs (take k.0 ys) h k.1))

-- a text is a beginning of itself
pub part_all : (old new : Option (List ℕ)) (xs : List ℕ) → Appends old new xs → AppendsPart old new xs
part_all old new xs h = (length xs, subst (Appends old new) (sym (ap (take (length xs)) (sym (append-nil xs)) ∙ take_whole xs [])) h)
