-- The first place where two bytes stand side by side.
use Rattle.std.proofs.Common.{◌≡◌, ℕ, ◌+◌, ◌<◌, ◌&&◌, true, false, if◌then◌else◌, nat_eq, List, [], ◌∷◌, ◌++◌, length, get_or, take, Option, Some, None, refl, ap, ◌∙◌, append_assoc, arith, eq-eqb}
use Rattle.std.proofs.lemmas.List.{take_more}
use Rattle.std.proofs.lemmas.Bool.{false_from_ne_true, and_parts}
use borrow.Author.Tests.{eqb-true}
use Rattle.vs_lexer.specs.Pieces.{after_pair}

some_is_not_none : (xs : List ℕ) → Some xs ≡ None → ⊥
some_is_not_none xs e = cc

-- what goes on behind the pair stands behind it
pub after_pair-append : (c d : ℕ) (xs r zs : List ℕ) → after_pair c d xs ≡ Some r → after_pair c d (xs ++ zs) ≡ Some (r ++ zs)
after_pair-append c d [] r zs e = cc
after_pair-append c d (x ∷ []) r zs e = cc
after_pair-append c d (x ∷ y ∷ ys) r zs e =
    elim (nat_eq x c && nat_eq y d) as (λ v. (if v then Some ys else after_pair c d (y ∷ ys)) ≡ Some r → (if v then Some (ys ++ zs) else after_pair c d (y ∷ (ys ++ zs))) ≡ Some (r ++ zs)) [
      | true ↦ λ h. (let same : ys ≡ r = cc in ap (λ (u : List ℕ). Some (u ++ zs)) same)
      | false ↦ λ h. after_pair-append c d (y ∷ ys) r zs h
    ] e

-- one byte more: the pair is the last two, or isn't there yet
pub after_pair-push : (c d : ℕ) (xs : List ℕ) (x y : ℕ) → after_pair c d (xs ++ x ∷ []) ≡ None → after_pair c d (xs ++ x ∷ y ∷ []) ≡ (if nat_eq x c && nat_eq y d then Some [] else None)
after_pair-push c d [] x y e = refl
after_pair-push c d (z ∷ []) x y e =
    elim (nat_eq z c && nat_eq x d) as (λ v. (if◌then◌else◌ {A = Option (List ℕ)} v (Some []) None) ≡ None → (if v then Some (y ∷ []) else (if nat_eq x c && nat_eq y d then Some [] else None)) ≡ (if nat_eq x c && nat_eq y d then Some [] else None)) [
      | true ↦ λ h. absurd (some_is_not_none _ h)
      | false ↦ λ h. refl
    ] e
after_pair-push c d (z ∷ w ∷ ws) x y e =
    elim (nat_eq z c && nat_eq w d) as (λ v. (if v then Some (ws ++ x ∷ []) else after_pair c d (w ∷ (ws ++ x ∷ []))) ≡ None → (if v then Some (ws ++ x ∷ y ∷ []) else after_pair c d (w ∷ (ws ++ x ∷ y ∷ []))) ≡ (if nat_eq x c && nat_eq y d then Some [] else None)) [
      | true ↦ λ h. absurd (some_is_not_none _ h)
      | false ↦ λ h. after_pair-push c d (w ∷ ws) x y h
    ] e

-- the same along a list
pub after_pair-take : (c d : ℕ) (bytes : List ℕ) (i : ℕ) → i + 1 < length bytes → after_pair c d (take (i + 1) bytes) ≡ None → after_pair c d (take (i + 1 + 1) bytes) ≡ (if nat_eq (get_or bytes i 0) c && nat_eq (get_or bytes (i + 1) 0) d then Some [] else None)
after_pair-take c d bytes i h e =
    let here : i < length bytes = omega arith in
    let one : take (i + 1) bytes ≡ take i bytes ++ get_or bytes i 0 ∷ [] = take_more bytes i 0 here in
    let two : take (i + 1 + 1) bytes ≡ take (i + 1) bytes ++ get_or bytes (i + 1) 0 ∷ [] = take_more bytes (i + 1) 0 h in
    let both : take (i + 1 + 1) bytes ≡ take i bytes ++ get_or bytes i 0 ∷ get_or bytes (i + 1) 0 ∷ [] = two ∙ ap (λ (u : List ℕ). u ++ get_or bytes (i + 1) 0 ∷ []) one ∙ append_assoc (take i bytes) (get_or bytes i 0 ∷ []) (get_or bytes (i + 1) 0 ∷ []) in
    rw both (after_pair-push c d (take i bytes) (get_or bytes i 0) (get_or bytes (i + 1) 0) (rw one at e))

module _ (c d : ℕ) (bytes : List ℕ) (i : ℕ) (within : i + 1 < length bytes) (none : after_pair c d (take (i + 1) bytes) ≡ None) where
  pub pair_found : (n : ℕ) → n ≡ i + 2 → get_or bytes i 0 ≡ c → get_or bytes (i + 1) 0 ≡ d → after_pair c d (take n bytes) ≡ Some []
  pair_found n e p q =
      let step = after_pair-take c d bytes i within none in
      let at : n ≡ i + 1 + 1 = omega arith in
      rw at (step ∙ rw (eq-eqb _ _ p, eq-eqb _ _ q) refl)

  pub pair_missing : (get_or bytes i 0 ≡ c → get_or bytes (i + 1) 0 ≡ d → ⊥) → after_pair c d (take (i + 1 + 1) bytes) ≡ None
  pair_missing h =
      let test : (nat_eq (get_or bytes i 0) c && nat_eq (get_or bytes (i + 1) 0) d) ≡ false = false_from_ne_true _ (λ t. let parts = and_parts (nat_eq (get_or bytes i 0) c) (nat_eq (get_or bytes (i + 1) 0) d) t in h (eqb-true _ _ parts.0) (eqb-true _ _ parts.1)) in
      after_pair-take c d bytes i within none ∙ rw test refl
