-- What wakes an event control.
use Rattle.std.specs.Prelude.{ℕ, ◌≡◌, ◌==◌, Bool, false, ◌&&◌, Option, Some, None, List, [], ◌∷◌}
use Rattle.std.specs.List.{list_any}
use Rattle.vs_design.specs.vs_logic4.specs.declared.digit.Digit.{Digit}
use Rattle.vs_design.specs.vs_logic4.specs.declared.edge.Edge.{Edge}
use Rattle.vs_design.specs.vs_logic4.specs.declared.edge.Edge.TheVariants.{Any}
use Rattle.vs_design.specs.vs_logic4.specs.Edges.{is_edge}
use Rattle.vs_design.specs.declared.statement.EventTerm.{EventTerm}
use Rattle.vs_design.specs.declared.range.Bits.{Bits}
use Rattle.vs_design.specs.declared.range.BitRange.{BitRange}
use Rattle.vs_design.specs.declared.write.Part.{Part}
use Rattle.vs_design.specs.Stores.{Store, content, is_changed, word_of, chosen_bits, put}
use Rattle.vs_design.specs.Uses.{is_of}
use Rattle.vs_design.specs.Writes.{Write}
use Rattle.vs_eval.specs.Differences.{word_changes}

-- the lowest digit of the first of some words
abbrev pub lowest_digit : List (List Digit) → Option Digit
lowest_digit ((d ∷ ds) ∷ words) = Some d
lowest_digit _ = None

-- whether the change of a digit, where there is one, is an edge of this kind
abbrev pub is_edge_of : Edge → Option Digit → Option Digit → Bool
is_edge_of edge (Some before) (Some behind) = is_edge edge before behind
is_edge_of edge _ _ = false

-- whether a change between two stores wakes a term: any change of its bits, or an edge of their lowest one (clause 9.7.2)
abbrev pub wakes_by : Edge → Store → Store → EventTerm → Bool
wakes_by Any old new t = is_changed old new t.range
wakes_by edge old new t = is_edge_of edge (lowest_digit (content t.range old)) (lowest_digit (content t.range new))

-- whether a change between two stores wakes a term (clause 9.7.2)
abbrev pub wakes : Store → Store → EventTerm → Bool
wakes old new t = wakes_by t.edge old new t

-- whether it wakes one of these terms
abbrev pub wake_any : List EventTerm → Store → Store → Bool
wake_any terms old new = list_any (wakes old new) terms

-- ---- by words

abbrev pub first_digit : List Digit → Option Digit
first_digit [] = None
first_digit (d ∷ ds) = Some d

-- the lowest of those of a word's digits that a range has, where there is one
abbrev pub edge_digit : Option Bits → Option (List Digit) → Option Digit
edge_digit bits None = None
edge_digit bits (Some word) = first_digit (chosen_bits bits word)

-- the first of the words that a range has
abbrev pub edge_word : Option ℕ → ℕ
edge_word None = 0
edge_word (Some word) = word

-- whether the change of one word of a signal is an edge of the lowest bit of a range
abbrev pub edge_in : Edge → ℕ → ℕ → Option (List Digit) → Option (List Digit) → BitRange → Bool
edge_in edge signal word before behind r =
    is_of signal r && ((edge_word r.word == word) && is_edge_of edge (edge_digit r.bits before) (edge_digit r.bits behind))

-- whether the change of one word of a signal wakes a term of such a range
abbrev pub range_wakes : Edge → ℕ → ℕ → Option (List Digit) → Option (List Digit) → BitRange → Bool
range_wakes Any signal word before behind r = word_changes signal word before behind r
range_wakes edge signal word before behind r = edge_in edge signal word before behind r

-- whether the change of one word of a signal wakes a term (clause 9.7.2)
abbrev pub term_wakes : ℕ → ℕ → Option (List Digit) → Option (List Digit) → EventTerm → Bool
term_wakes signal word before behind t = range_wakes t.edge signal word before behind t.range

-- whether the change of one word of a signal, where there is one, wakes one of these terms
abbrev pub word_wakes : List EventTerm → ℕ → ℕ → Option (List Digit) → Option (List Digit) → Bool
word_wakes terms signal word before behind = list_any (term_wakes signal word before behind) terms

-- whether the change of the word of a part between two stores wakes one of these terms
abbrev pub part_wakes : List EventTerm → Store → Store → Part → Bool
part_wakes terms old new p = word_wakes terms p.signal p.word (word_of old p.signal p.word) (word_of new p.signal p.word)

-- a write wakes one of some terms where the word of one of its parts does, between the stores before and behind the whole write
abbrev pub WakingByWords : Type 0
WakingByWords =
    (terms : List EventTerm) (store : Store) (w : Write) → wake_any terms store (put store w) ≡ list_any (part_wakes terms store (put store w)) w
