-- Names that are none of others.
use Rattle.std.proofs.Common.{◌≡◌, ℕ, ◌+◌, ◌<◌, Bool, true, false, ◌||◌, List, length, map, drop, get_or, ap, ◌∙◌}
use Rattle.std.specs.List.{list_any, flat_map}
use Rattle.std.proofs.lemmas.List.Folds.{list_any-append}
use Rattle.std.proofs.lemmas.Bool.{or_left as left_true}
use Rattle.vs_scopes.proofs.PassLemmas.{map_at}

module _ {A B : Type 0} (p : B → Bool) (f : A → B) (xs : List A) (i : ℕ) (x : A) (h : i < length xs) (k : x ≡ get_or xs i x) where
  -- a test that the next element passes
  pub any_here : p (f x) ≡ true → list_any p (map f (drop i xs)) ≡ true
  any_here e = ap (list_any p) (map_at f xs i x h k) ∙ left_true (p (f x)) (list_any p (map f (drop (i + 1) xs))) e

  -- one that it doesn't pass
  pub any_later : p (f x) ≡ false → list_any p (map f (drop i xs)) ≡ list_any p (map f (drop (i + 1) xs))
  any_later e = ap (list_any p) (map_at f xs i x h k) ∙ ap (λ z. z || list_any p (map f (drop (i + 1) xs))) e

module _ {A B C : Type 0} (p : C → Bool) (g : B → List C) (f : A → B) (xs : List A) (i : ℕ) (x : A) (h : i < length xs) (k : x ≡ get_or xs i x) where
  both : list_any p (flat_map g (map f (drop i xs))) ≡ (list_any p (g (f x)) || list_any p (flat_map g (map f (drop (i + 1) xs))))
  both = ap (λ z. list_any p (flat_map g z)) (map_at f xs i x h k) ∙ list_any-append p (g (f x)) (flat_map g (map f (drop (i + 1) xs)))

  -- a test that something of the next element passes
  pub any_in : list_any p (g (f x)) ≡ true → list_any p (flat_map g (map f (drop i xs))) ≡ true
  any_in e = both ∙ left_true (list_any p (g (f x))) (list_any p (flat_map g (map f (drop (i + 1) xs)))) e

  pub any_behind : list_any p (g (f x)) ≡ false → list_any p (flat_map g (map f (drop i xs))) ≡ list_any p (flat_map g (map f (drop (i + 1) xs)))
  any_behind e = both ∙ ap (λ z. z || list_any p (flat_map g (map f (drop (i + 1) xs)))) e
