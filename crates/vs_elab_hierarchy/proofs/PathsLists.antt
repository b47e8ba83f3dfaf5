-- Facts of each element of a list, and elements that differ, where lists are joined.
use Rattle.std.proofs.Common.{◌≡◌, Bool, false, List, [], ◌∷◌, ◌++◌}
use Rattle.std.specs.List.{IsDistinct, AllByRecursion}

module _ {A : Type 0} where
  pub each_more : (P Q : A → Type 0) → ((x : A) → P x → Q x) → (xs : List A) → AllByRecursion P xs → AllByRecursion Q xs
  each_more P Q f [] h = tt
  each_more P Q f (x ∷ xs) h = (f x h.0, each_more P Q f xs h.1)

  pub each_append : (P : A → Type 0) (xs ys : List A) → AllByRecursion P xs → AllByRecursion P ys → AllByRecursion P (xs ++ ys)
  each_append P [] ys h k = k
  each_append P (x ∷ xs) ys h k = (h.0, each_append P xs ys h.1 k)

  pub each_left : (P : A → Type 0) (xs ys : List A) → AllByRecursion P (xs ++ ys) → AllByRecursion P xs
  each_left P [] ys h = tt
  each_left P (x ∷ xs) ys h = (h.0, each_left P xs ys h.1)

  pub each_right : (P : A → Type 0) (xs ys : List A) → AllByRecursion P (xs ++ ys) → AllByRecursion P ys
  each_right P [] ys h = h
  each_right P (x ∷ xs) ys h = each_right P xs ys h.1

  module _ (e : A → A → Bool) where
    pub distinct_append : (P Q : A → Type 0) → ((x y : A) → P x → Q y → e x y ≡ false) → (xs ys : List A) → IsDistinct e xs → IsDistinct e ys → AllByRecursion P xs → AllByRecursion Q ys → IsDistinct e (xs ++ ys)
    unfolding IsDistinct
    distinct_append P Q apart [] ys d f h k = f
    distinct_append P Q apart (x ∷ xs) ys d f h k = (each_append (λ y. e x y ≡ false) xs ys d.0 (each_more Q (λ y. e x y ≡ false) (λ y q. apart x y h.0 q) ys k), distinct_append P Q apart xs ys d.1 f h.1 k)

    pub distinct_left : (xs ys : List A) → IsDistinct e (xs ++ ys) → IsDistinct e xs
    unfolding IsDistinct
    distinct_left [] ys d = tt
    distinct_left (x ∷ xs) ys d = (each_left (λ y. e x y ≡ false) xs ys d.0, distinct_left xs ys d.1)

    pub distinct_right : (xs ys : List A) → IsDistinct e (xs ++ ys) → IsDistinct e ys
    unfolding IsDistinct
    distinct_right [] ys d = d
    distinct_right (x ∷ xs) ys d = distinct_right xs ys d.1
