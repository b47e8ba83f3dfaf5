-- Elements that watchers change, one after another: each changes once, so their order is free.
use Rattle.std.proofs.Common.{◌≡◌, ℕ, zero, suc, ◌+◌, ◌<◌, ◌==◌, ◌&&◌, ◌||◌, Bool, true, false, Some, List, [], ◌∷◌, map, drop, length, get_or, slice_get, if◌then◌else◌, refl, sym, ◌∙◌, ap, ap₂, arith}
use Rattle.std.proofs.lemmas.Bool.{and_right, eq-eqb, ne_eqb}
use Rattle.std.proofs.lemmas.List.{drop_more}
use Rattle.vs_design.specs.Stores.{changed_at}
use Rattle.vs_run_active.specs.declared.watchers.Watcher.{Watcher}
use Rattle.vs_run_active.specs.Walks.{is_hit, numbered, walked, woken_at, woken_where}

-- ---- elements with their numbers

numbered_alike : {A : Type 0} (f g : ℕ → A → A) → ((i : ℕ) (x : A) → f i x ≡ g i x) → (n : ℕ) (xs : List A) → numbered f n xs ≡ numbered g n xs
numbered_alike f g h n [] = refl
numbered_alike {A} f g h n (x ∷ xs) = ap₂ (λ (y : A) (l : List A). y ∷ l) (h n x) (numbered_alike f g h (suc n) xs)

numbered_twice : {A : Type 0} (f g : ℕ → A → A) (n : ℕ) (xs : List A) → numbered g n (numbered f n xs) ≡ numbered (λ i x. g i (f i x)) n xs
numbered_twice f g n [] = refl
numbered_twice {A} f g n (x ∷ xs) = ap (λ (l : List A). g n (f n x) ∷ l) (numbered_twice f g (suc n) xs)

numbered_none : {A : Type 0} (n : ℕ) (xs : List A) → xs ≡ numbered (λ i x. x) n xs
numbered_none n [] = refl
numbered_none {A} n (x ∷ xs) = ap (λ (l : List A). x ∷ l) (numbered_none (suc n) xs)

-- a map, where the function does the same to each element at its number
pub numbered_map : {A : Type 0} (f : ℕ → A → A) (g : A → A) (n : ℕ) (xs : List A) →
    ((i : ℕ) (x : A) → slice_get xs i ≡ Some x → (m : ℕ) → m ≡ i + n → f m x ≡ g x) → numbered f n xs ≡ map g xs
numbered_map f g n [] h = refl
numbered_map {A} f g n (x ∷ xs) h =
    let first : n ≡ 0 + n = omega arith in
    ap₂ (λ (y : A) (l : List A). y ∷ l) (h 0 x refl n first)
    (numbered_map f g (suc n) xs (λ i y here m at. let next : m ≡ suc i + n = omega (arith, at) in h (suc i) y here m next))

-- ---- one element is changed

-- what is done to the element of a number alone
abbrev at_number : {A : Type 0} → (A → A) → ℕ → ℕ → A → A
at_number f number i x = if number == i then f x else x

after_it : {A : Type 0} (f : A → A) (number n : ℕ) (xs : List A) → number < n → xs ≡ numbered (at_number f number) n xs
after_it f number n [] h = refl
after_it {A} f number n (x ∷ xs) h =
    ap₂ (λ (b : Bool) (l : List A). (if b then f x else x) ∷ l) (sym (ne_eqb number n (λ e. absurd (omega (arith, e))))) (after_it f number (suc n) xs (omega arith))

changed_is : {A : Type 0} (f : A → A) (number k n : ℕ) (xs : List A) → number ≡ k + n → changed_at f k xs ≡ numbered (at_number f number) n xs
changed_is f number k n [] h = refl
changed_is {A} f number zero n (x ∷ xs) h =
    let here : number ≡ n = omega (arith, h) in
    ap₂ (λ (b : Bool) (l : List A). (if b then f x else x) ∷ l) (sym (eq-eqb number n here)) (after_it f number (suc n) xs (omega (arith, h)))
changed_is {A} f number (suc k) n (x ∷ xs) h =
    ap₂ (λ (b : Bool) (l : List A). (if b then f x else x) ∷ l) (sym (ne_eqb number n (λ e. absurd (omega (arith, e, h)))))
    (changed_is f number k (suc n) xs (omega (arith, h)))

-- ---- elements that are woken, each of which waits for nothing then

module _ {A : Type 0} (waits : A → ℕ → Bool) (woken : A → A) (idle : (x : A) (control : ℕ) → waits (woken x) control ≡ false) where
  -- nothing is hit that is woken already
  none_hit : (test : Watcher → Bool) (ws : List Watcher) (i : ℕ) (x : A) → is_hit waits test ws i (woken x) ≡ false
  none_hit test [] i x = refl
  none_hit test (w ∷ ws) i x =
      ap₂ (λ (a b : Bool). a || b) (and_right (test w) _ (and_right (w.number == i) _ (idle x w.control))) (none_hit test ws i x)

  -- what one test wakes, and then another
  both : (a b : Bool) (x : A) (c : Bool) → (a ≡ true → c ≡ false) → (a ≡ false → c ≡ b) →
      (if c then woken (if a then woken x else x) else (if a then woken x else x)) ≡ (if a || b then woken x else x)
  both true b x c h k = ap (λ (d : Bool). if d then woken (woken x) else woken x) (h refl)
  both false b x c h k = ap (λ (d : Bool). if d then woken x else x) (k refl)

  twice : (f g : ℕ → A → Bool) → ((i : ℕ) (x : A) → g i (woken x) ≡ false) → (n : ℕ) (xs : List A) →
      numbered (woken_where woken g) n (numbered (woken_where woken f) n xs) ≡ numbered (woken_where woken (λ i x. f i x || g i x)) n xs
  twice f g off n xs =
      numbered_twice (woken_where woken f) (woken_where woken g) n xs
      ∙ numbered_alike (λ i x. woken_where woken g i (woken_where woken f i x)) (woken_where woken (λ i x. f i x || g i x))
      (λ i x. both (f i x) (g i x) x (g i (woken_where woken f i x))
      (λ t. ap (λ (b : Bool). g i (if b then woken x else x)) t ∙ off i x) (λ t. ap (λ (b : Bool). g i (if b then woken x else x)) t)) n xs

  -- one watcher
  one_walked : (b : Bool) (w : Watcher) (xs : List A) →
      (if b then changed_at (woken_at waits woken w.control) w.number xs else xs)
      ≡ numbered (woken_where woken (λ i x. b && ((w.number == i) && waits x w.control))) 0 xs
  one_walked false w xs = numbered_none 0 xs
  one_walked true w xs =
      let here : w.number ≡ w.number + 0 = omega arith in
      changed_is (woken_at waits woken w.control) w.number w.number 0 xs here
      ∙ numbered_alike (at_number (woken_at waits woken w.control) w.number) (woken_where woken (λ i x. (w.number == i) && waits x w.control))
      (λ i x. nested (w.number == i) (waits x w.control) x) 0 xs
    where
      nested : (a b : Bool) (x : A) → (if a then (if b then woken x else x) else x) ≡ (if a && b then woken x else x)
      nested true b x = refl
      nested false b x = refl

  -- the elements that a walk over watchers wakes are those that it hits
  pub walk_is : (test : Watcher → Bool) (ws : List Watcher) (xs : List A) →
      walked waits woken test ws xs ≡ numbered (woken_where woken (is_hit waits test ws)) 0 xs
  walk_is test [] xs = numbered_none 0 xs
  walk_is test (w ∷ ws) xs =
      walk_is test ws (if test w then changed_at (woken_at waits woken w.control) w.number xs else xs)
      ∙ ap (numbered (woken_where woken (is_hit waits test ws)) 0) (one_walked (test w) w xs)
      ∙ twice (λ i x. test w && ((w.number == i) && waits x w.control)) (is_hit waits test ws) (none_hit test ws) 0 xs

  -- three walks, one after another
  pub walks_are : (f g h : Watcher → Bool) (us vs ws : List Watcher) (xs : List A) →
      walked waits woken h ws (walked waits woken g vs (walked waits woken f us xs))
      ≡ numbered (woken_where woken (λ i x. (is_hit waits f us i x || is_hit waits g vs i x) || is_hit waits h ws i x)) 0 xs
  walks_are f g h us vs ws xs =
      let one = is_hit waits f us in
      let two = is_hit waits g vs in
      let three = is_hit waits h ws in
      walk_is h ws (walked waits woken g vs (walked waits woken f us xs))
      ∙ ap (numbered (woken_where woken three) 0)
      (walk_is g vs (walked waits woken f us xs) ∙ ap (numbered (woken_where woken two) 0) (walk_is f us xs) ∙ twice one two (none_hit g vs) 0 xs)
      ∙ twice (λ i x. one i x || two i x) three (none_hit h ws) 0 xs

  -- a walk by a test that no watcher passes wakes none
  pub walked_none : (test : Watcher → Bool) → ((w : Watcher) → test w ≡ false) → (ws : List Watcher) (xs : List A) → walked waits woken test ws xs ≡ xs
  walked_none test none [] xs = refl
  walked_none test none (w ∷ ws) xs =
      ap (λ (b : Bool). walked waits woken test ws (if b then changed_at (woken_at waits woken w.control) w.number xs else xs)) (none w)
      ∙ walked_none test none ws xs

-- one watcher more is looked at
pub watcher_more : {A : Type 0} (waits : A → ℕ → Bool) (woken : A → A) (test : Watcher → Bool) (ws : List Watcher) (i : ℕ) (d : Watcher) (xs ys all : List A) → i < length ws →
    ys ≡ (if test (get_or ws i d) then changed_at (woken_at waits woken (get_or ws i d).control) (get_or ws i d).number xs else xs) →
    walked waits woken test (drop i ws) xs ≡ all → walked waits woken test (drop (i + 1) ws) ys ≡ all
watcher_more {A} waits woken test ws i d xs ys all lt is so_far =
    ap (walked waits woken test (drop (i + 1) ws)) is ∙ sym (ap (λ (l : List Watcher). walked waits woken test l xs) (drop_more ws i d lt)) ∙ so_far
