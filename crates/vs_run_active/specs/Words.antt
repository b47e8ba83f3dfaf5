-- The watchers of each word of an array.
use Rattle.std.specs.Prelude.{ℕ, zero, suc, ◌≡◌, ◌<◌, ◌==◌, ◌||◌, Bool, Some, List, [], ◌∷◌, ◌++◌, get_or, length, slice_get, if◌then◌else◌}
use Rattle.std.specs.declared.vec.Vec.{Vec}
use Rattle.std.specs.declared.alloc.Global.{Global}
use Rattle.vs_design.specs.Tables as tables
use Rattle.vs_eval.specs.Masks.{every_word}
use Rattle.vs_run_active.specs.declared.rows.Row.{Row}
use Rattle.vs_run_active.specs.declared.watchers.Watcher.{Watcher}
use Rattle.vs_run_active.specs.Watchers.{between}

-- whether a watcher sees a word
abbrev pub sees_word : ℕ → Watcher → Bool
sees_word word w = (w.mask.word == every_word) || (w.mask.word == word)

-- those of some watchers that see a word, in their order
abbrev pub seeing : ℕ → List Watcher → List Watcher
seeing word [] = []
seeing word (w ∷ ws) = if sees_word word w then w ∷ seeing word ws else seeing word ws

-- each of some lists has those of the watchers that see the word of its number
abbrev pub AreSeeing : List Watcher → List (List Watcher) → Type 0
AreSeeing ws lists = (word : ℕ) → word < length lists → get_or lists word [] ≡ seeing word ws

-- lists by word of a signal have those of its readers' watchers; a signal without lists has nothing to say
abbrev pub AreByWord : List Row → List Watcher → List (Vec (Vec Watcher Global) Global) → Type 0
AreByWord rs watchers words =
    (signal : ℕ) (row : Row) (lists : Vec (Vec Watcher Global) Global) → slice_get rs signal ≡ Some row → slice_get words signal ≡ Some lists →
    AreSeeing (between row.readers row.any watchers) (tables.rows lists.items)

-- lists by word after a watcher has come into those of the words that it sees
pub record NotedIn (w : Watcher) (old new : List (List Watcher)) : Type 0 where
  pub size : length new ≡ length old
  pub each : (word : ℕ) → word < length old → get_or new word [] ≡ get_or old word [] ++ seeing word (w ∷ [])

-- a list of which the first so many elements are changed
abbrev pub changed_before : {A : Type 0} → (A → A) → ℕ → List A → List A
changed_before f zero xs = xs
changed_before f (suc n) [] = []
changed_before f (suc n) (x ∷ xs) = f x ∷ changed_before f n xs
