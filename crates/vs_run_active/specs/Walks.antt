-- Elements that watchers change, one after another.
use Rattle.std.specs.Prelude.{ℕ, suc, ◌==◌, ◌&&◌, Bool, List, [], ◌∷◌, if◌then◌else◌}
use Rattle.std.specs.List.{list_any}
use Rattle.vs_design.specs.Stores.{changed_at}
use Rattle.vs_run_active.specs.declared.watchers.Watcher.{Watcher}

-- an element that is woken where it waits for an event control
abbrev pub woken_at : {A : Type 0} → (A → ℕ → Bool) → (A → A) → ℕ → A → A
woken_at waits woken control x = if waits x control then woken x else x

-- elements of which each is woken that one of the watchers that pass a test names, where it waits for that one's event control
abbrev pub walked : {A : Type 0} → (A → ℕ → Bool) → (A → A) → (Watcher → Bool) → List Watcher → List A → List A
walked waits woken test [] xs = xs
walked waits woken test (w ∷ ws) xs =
    walked waits woken test ws (if test w then changed_at (woken_at waits woken w.control) w.number xs else xs)

-- whether one of the watchers that pass a test names the element of a number, which waits for that one's event control
abbrev pub is_hit : {A : Type 0} → (A → ℕ → Bool) → (Watcher → Bool) → List Watcher → ℕ → A → Bool
is_hit waits test ws number x = list_any (λ (w : Watcher). test w && ((w.number == number) && waits x w.control)) ws

-- elements, numbered from one on, each changed by a function of its number
abbrev pub numbered : {A : Type 0} → (ℕ → A → A) → ℕ → List A → List A
numbered f n [] = []
numbered f n (x ∷ xs) = f n x ∷ numbered f (suc n) xs

-- an element that is woken where a test says so of its number and of it
abbrev pub woken_where : {A : Type 0} → (A → A) → (ℕ → A → Bool) → ℕ → A → A
woken_where woken hit number x = if hit number x then woken x else x
