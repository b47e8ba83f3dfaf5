-- The lines of an execution are those of its slots.
use Rattle.std.proofs.Common.{◌≡◌, ◌++◌, append_assoc, append-nil, List, [], ◌∷◌, refl, sym, ◌∙◌, ap, ap₂}
use Rattle.vs_design.specs.Parts.{Parts}
use Rattle.vs_design.specs.Traces.{Line, Slot}
use Rattle.vs_process.specs.declared.moves.Move.{Move}
use Rattle.vs_process.specs.declared.moves.Move.TheVariants.{Step, Evaluate, Propagate, Make, Rouse, Activate, EndSlot}
use Rattle.vs_process.specs.Executions.{after, lines_of, slots, strobe_lines}
use Rattle.vs_independence.specs.Displays.{DisplaySlot, LinesAreOfSlots, display_slots, displayed, lines_in, lines_so_far}

-- as many slots
abbrev SameCount : List DisplaySlot → List Slot → Type 0
SameCount [] [] = Unit {0}
SameCount (a ∷ shown) (s ∷ ss) = SameCount shown ss
SameCount _ _ = ⊥

count_more : (shown : List DisplaySlot) (ss : List Slot) (a : DisplaySlot) (s : Slot) → SameCount shown ss → SameCount (shown ++ a ∷ []) (ss ++ s ∷ [])
count_more [] [] a s h = tt
count_more (b ∷ shown) (t ∷ ss) a s h = count_more shown ss a s h
count_more [] (t ∷ ss) a s h = absurd h
count_more (b ∷ shown) [] a s h = absurd h

count_same : (shown : List DisplaySlot) (ss : List Slot) → SameCount shown ss → SameCount (shown ++ []) (ss ++ [])
count_same [] [] h = tt
count_same (b ∷ shown) (t ∷ ss) h = count_same shown ss h
count_same [] (t ∷ ss) h = absurd h
count_same (b ∷ shown) [] h = absurd h

-- one more slot
lines_more : (shown : List DisplaySlot) (ss : List Slot) (a : DisplaySlot) (s : Slot) → SameCount shown ss → lines_in (shown ++ a ∷ []) (ss ++ s ∷ []) ≡ (lines_in shown ss ++ a.lines) ++ s.lines
lines_more [] [] a s h = append-nil (a.lines ++ s.lines)
lines_more (b ∷ shown) (t ∷ ss) a s h =
    ap (λ l. (b.lines ++ t.lines) ++ l) (lines_more shown ss a s h)
    ∙ sym (append_assoc (b.lines ++ t.lines) (lines_in shown ss ++ a.lines) s.lines)
    ∙ ap (λ l. l ++ s.lines) (sym (append_assoc (b.lines ++ t.lines) (lines_in shown ss) a.lines))
lines_more [] (t ∷ ss) a s h = absurd h
lines_more (b ∷ shown) [] a s h = absurd h

counts : (d : Parts) (moves : List Move) → SameCount (display_slots d moves) (slots d moves)
counts d [] = tt
counts d (Step i ∷ moves) = count_same (display_slots d moves) (slots d moves) (counts d moves)
counts d (Evaluate j ∷ moves) = count_same (display_slots d moves) (slots d moves) (counts d moves)
counts d (Propagate j ∷ moves) = count_same (display_slots d moves) (slots d moves) (counts d moves)
counts d (Make i ∷ moves) = count_same (display_slots d moves) (slots d moves) (counts d moves)
counts d (Rouse ∷ moves) = count_same (display_slots d moves) (slots d moves) (counts d moves)
counts d (Activate ∷ moves) = count_same (display_slots d moves) (slots d moves) (counts d moves)
counts d (EndSlot ∷ moves) = count_more (display_slots d moves) (slots d moves) _ _ (counts d moves)

-- a move within a slot adds its line to those of the slot that goes on
inner : (shown : List DisplaySlot) (ss : List Slot) (all lines new : List Line) → all ≡ lines_in shown ss ++ lines → all ++ new ≡ lines_in (shown ++ []) (ss ++ []) ++ (lines ++ new)
inner shown ss all lines new below =
    ap (λ l. l ++ new) below ∙ append_assoc (lines_in shown ss) lines new
    ∙ ap₂ (λ (a : List DisplaySlot) (s : List Slot). lines_in a s ++ (lines ++ new)) (sym (append-nil shown)) (sym (append-nil ss))

pub lines_are_of_slots : LinesAreOfSlots
lines_are_of_slots d [] = refl
lines_are_of_slots d (Step i ∷ moves) = inner (display_slots d moves) (slots d moves) (lines_of d moves) (lines_so_far d moves) (displayed (Step i) (after d moves)) (lines_are_of_slots d moves)
lines_are_of_slots d (Evaluate j ∷ moves) = inner (display_slots d moves) (slots d moves) (lines_of d moves) (lines_so_far d moves) [] (lines_are_of_slots d moves)
lines_are_of_slots d (Propagate j ∷ moves) = inner (display_slots d moves) (slots d moves) (lines_of d moves) (lines_so_far d moves) [] (lines_are_of_slots d moves)
lines_are_of_slots d (Make i ∷ moves) = inner (display_slots d moves) (slots d moves) (lines_of d moves) (lines_so_far d moves) [] (lines_are_of_slots d moves)
lines_are_of_slots d (Rouse ∷ moves) = inner (display_slots d moves) (slots d moves) (lines_of d moves) (lines_so_far d moves) [] (lines_are_of_slots d moves)
lines_are_of_slots d (Activate ∷ moves) = inner (display_slots d moves) (slots d moves) (lines_of d moves) (lines_so_far d moves) [] (lines_are_of_slots d moves)
lines_are_of_slots d (EndSlot ∷ moves) =
    ap (λ l. l ++ strobe_lines (after d moves)) (lines_are_of_slots d moves)
    ∙ sym (append-nil _ ∙ lines_more (display_slots d moves) (slots d moves)
    (record { time = (after d moves).time; lines = lines_so_far d moves })
    (record { time = (after d moves).time; store = (after d moves).store; lines = strobe_lines (after d moves) })
    (counts d moves))
