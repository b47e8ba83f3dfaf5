-- Lists in step.
use Rattle.std.proofs.Common.{◌≡◌, suc, List, ◌∷◌, ◌++◌, length, map, refl, ap, ap₂}
use Rattle.std.specs.List.{flat_map}
use Rattle.vs_syntax.specs.Same.{Pairwise, no_pair, pair_more}

pub pair_append : {A : Type 0} (R : A → A → Type 0) (xs ys us vs : List A) → Pairwise R xs ys → Pairwise R us vs → Pairwise R (xs ++ us) (ys ++ vs)
pair_append R _ _ us vs no_pair k = k
pair_append R _ _ us vs (pair_more x x' xs xs' h r) k = pair_more x x' (xs ++ us) (xs' ++ vs) h (pair_append R xs xs' us vs r k)

pub pair_map : {A B : Type 0} (R : A → A → Type 0) (S : B → B → Type 0) (f f' : A → B) → ((x x' : A) → R x x' → S (f x) (f' x')) → (xs xs' : List A) → Pairwise R xs xs' → Pairwise S (map f xs) (map f' xs')
pair_map R S f f' step _ _ no_pair = no_pair
pair_map R S f f' step _ _ (pair_more x x' xs xs' h r) = pair_more (f x) (f' x') (map f xs) (map f' xs') (step x x' h) (pair_map R S f f' step xs xs' r)

pub pair_flat : {A B : Type 0} (R : A → A → Type 0) (S : B → B → Type 0) (f : A → List B) → ((x x' : A) → R x x' → Pairwise S (f x) (f x')) → (xs xs' : List A) → Pairwise R xs xs' → Pairwise S (flat_map f xs) (flat_map f xs')
pair_flat R S f step _ _ no_pair = no_pair
pair_flat R S f step _ _ (pair_more x x' xs xs' h r) = pair_append S (f x) (f x') (flat_map f xs) (flat_map f xs') (step x x' h) (pair_flat R S f step xs xs' r)

pub pair_length : {A : Type 0} (R : A → A → Type 0) (xs xs' : List A) → Pairwise R xs xs' → length xs ≡ length xs'
pair_length R _ _ no_pair = refl
pair_length R _ _ (pair_more x x' xs xs' h r) = ap suc (pair_length R xs xs' r)

-- what a function gives of both is one list
pub pair_same : {A B : Type 0} (R : A → A → Type 0) (f : A → B) → ((x x' : A) → R x x' → f x ≡ f x') → (xs xs' : List A) → Pairwise R xs xs' → map f xs ≡ map f xs'
pair_same R f step _ _ no_pair = refl
pair_same R f step _ _ (pair_more x x' xs xs' h r) = ap₂ (λ y ys. y ∷ ys) (step x x' h) (pair_same R f step xs xs' r)

pub flat_one : {A B : Type 0} (R : A → A → Type 0) (f : A → List B) → ((x x' : A) → R x x' → f x ≡ f x') → (xs xs' : List A) → Pairwise R xs xs' → flat_map f xs ≡ flat_map f xs'
flat_one R f step _ _ no_pair = refl
flat_one R f step _ _ (pair_more x x' xs xs' h r) = ap₂ (λ y ys. y ++ ys) (step x x' h) (flat_one R f step xs xs' r)
