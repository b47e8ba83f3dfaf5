-- The words that a write changes.
use Rattle.std.specs.Prelude.{ℕ, Option, Some, None, List, [], ◌∷◌, ◌++◌, if◌then◌else◌}
use Rattle.vs_design.specs.vs_logic4.specs.declared.digit.Digit.{Digit}
use Rattle.vs_design.specs.vs_logic4.specs.Vectors.{same_digits}
use Rattle.vs_design.specs.declared.write.Part.{Part}
use Rattle.vs_design.specs.Stores.{Store, word_of, put}
use Rattle.vs_design.specs.Writes.{Write}
use Rattle.vs_process.specs.declared.changes.Change.{Change}

-- a word of a signal where there is one before and behind, and the two differ
abbrev pub changed_word : ℕ → ℕ → Option (List Digit) → Option (List Digit) → List Change
changed_word signal word (Some before) (Some behind) =
    if same_digits before behind then [] else record { signal = signal; word = word; before = before; behind = behind } ∷ []
changed_word signal word _ _ = []

-- the word that a part of a write names, where it differs between two stores
abbrev pub changed_part : Store → Store → Part → List Change
changed_part old new p = changed_word p.signal p.word (word_of old p.signal p.word) (word_of new p.signal p.word)

-- the words that the parts of a write name, one part after another, where they differ between two stores: those before and behind the whole write
abbrev pub changed_words : Store → Store → Write → List Change
changed_words old new [] = []
changed_words old new (p ∷ ps) = changed_part old new p ++ changed_words old new ps

-- a store behind a write, where there is one
abbrev pub store_after : Store → Option Write → Store
store_after store None = store
store_after store (Some w) = put store w

-- the words that a write changes, where there is one
abbrev pub changes_of : Store → Option Write → List Change
changes_of store None = []
changes_of store (Some w) = changed_words store (put store w) w
