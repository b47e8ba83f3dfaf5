-- Two processes that exchange two bits by `=` at one edge: two executions differ, so no certificate is one of their design.
use Rattle.std.proofs.Common.{◌≡◌, ◌&&◌, not, ℕ, true, false, Option, Some, None, List, [], ◌∷◌, ◌++◌, refl, sym, ◌∙◌, ap}
use Rattle.std.specs.Prelude.{filter}
use Rattle.std.proofs.lemmas.Bool.{and_from}
use Rattle.std.specs.declared.alloc.Global.{Global}
use Rattle.vs_design.specs.vs_logic4.specs.declared.digit.Digit.{Digit}
use Rattle.vs_design.specs.vs_logic4.specs.declared.digit.Digit.TheVariants.{Zero, One, X}
use Rattle.vs_design.specs.declared.statement.Statement.{Statement, out-Statement}
use Rattle.vs_design.specs.Parts.{Parts}
use Rattle.vs_design.specs.WellFormed.{WellFormed, is_sound_assignment}
use Rattle.vs_design.specs.Stores.{Store, word_of}
use Rattle.vs_design.specs.Traces.{Slot, SameSlots}
use Rattle.vs_design.proofs.FormLemmas.{numbers_Assign as numbers_assign, sound_Assign as sound_assign}
use Rattle.vs_independence.specs.vs_process.specs.declared.moves.Grain.{Grain}
use Rattle.vs_independence.specs.vs_process.specs.declared.moves.Grain.TheVariants as grain
use Rattle.vs_independence.specs.vs_process.specs.declared.moves.Move.{Move}
use Rattle.vs_independence.specs.vs_process.specs.declared.moves.Move.TheVariants.{Step, EndSlot}
use Rattle.vs_independence.specs.vs_process.specs.Executions.{after, allowed, apply, ended_slot, is_by, is_complete, is_enabled, is_kept_out, Legal, slots, trace}
use Rattle.vs_independence.specs.vs_process.specs.States.{State, start}
use Rattle.vs_process.specs.declared.gait.Gait.TheVariants.{Fresh, Inside, Woken}
use Rattle.vs_process.specs.Places.{perform, Place, Todo, ended, going, sleeping, waiting}
use Rattle.vs_independence.specs.Discipline.{Independent}
use Rattle.vs_rules.specs.vs_process.specs.Edges.{one_bit}
use Rattle.vs_laws.specs.Race.{operand, target}
use Rattle.vs_laws.specs.Rise.{rise}
use Rattle.vs_laws.proofs.Race.{reads_operand, size_operand, value_number}
use Rattle.vs_independence.proofs.Ruled.{rules_make_independent}
use Rattle.vs_laws.specs.Swap.{ARaceOfEdgesKeepsNoRules, clock, copies_now, each_rise, sets, swapping_now, turned}
use Rattle.vs_laws.proofs.Swap.{IsSoundBody, formed, signals_of}
use Rattle.vs_laws.proofs.Texts.{value_inverse, value_operand}

-- ---- executions, one move after another

-- an execution, the state that it leads to, and the slots that it ended
record Ran (grain : Grain) (d : Parts) (moves : List Move) (s : State) (done : List Slot) : Type 0 where
  legal : Legal grain d moves
  is : after d moves ≡ s
  done_is : slots d moves ≡ done

-- whether a move is permitted, at either grain
permitted : (grain : Grain) (d : Parts) (s : State) (m : Move) → (not s.over && is_enabled s m) ≡ true → is_kept_out d.processes s.places 0 m ≡ false → allowed grain d s m ≡ true
permitted grain.Statement d s m may free = and_from (not s.over && is_enabled s m) true may refl
permitted grain.Block d s m may free = and_from (not s.over && is_enabled s m) (not (is_kept_out d.processes s.places 0 m)) may (ap not free)

-- one move more
goes : (grain : Grain) (d : Parts) (moves : List Move) (s : State) (done : List Slot) (m : Move) (t : State) → Ran grain d moves s done →
    (not s.over && is_enabled s m) ≡ true → is_kept_out d.processes s.places 0 m ≡ false → apply m s ≡ t → Ran grain d (m ∷ moves) t (done ++ ended_slot m s)
goes grain d moves s done m t r may free e = record {
  legal = (r.legal, ap (λ s. allowed grain d s m) r.is ∙ permitted grain d s m may free);
  is = ap (apply m) r.is ∙ e;
  done_is = ap (λ l. l ++ ended_slot m (after d moves)) r.done_is ∙ ap (λ s. done ++ ended_slot m s) r.is;
}

-- ---- the first slot

-- what `c`, `a` and `b` hold
abbrev holds : Digit → Digit → Digit → Store
holds c a b = one_bit c ∷ one_bit a ∷ one_bit b ∷ []

abbrev at : Store → List Place → ℕ → State
at store places time = record { store = store; places = places; assigns = []; updates = []; calls = []; time = time; finishing = false; over = false }

-- the two assignments
abbrev first : Global → Statement
first g = copies_now g 1 2

abbrev second : Global → Statement
second g = copies_now g 2 1

-- what is to be done at the edge, and by the clock: from its start, and once its delay has ended
abbrev at_edge : Global → Statement → Todo
at_edge g body = perform body ∷ perform (each_rise g body) ∷ []

abbrev again : Global → Statement → Todo
again g body = perform (each_rise g body) ∷ []

abbrev waits : Global → Statement → Place
waits g body = waiting (rise ∷ []) (at_edge g body)

abbrev turns : Global → Todo
turns g = perform (turned g) ∷ perform (clock g) ∷ []

-- where the processes that go on for ever stand, the three others having ended
abbrev places_of : Place → Place → Place → List Place
places_of turner one other = ended ∷ ended ∷ ended ∷ turner ∷ one ∷ other ∷ []

fresh : Global → List Place
fresh g = going Fresh (perform (clock g) ∷ []) ∷ going Fresh (again g (first g)) ∷ going Fresh (again g (second g)) ∷ []

set_moves : List Move
set_moves = Step 2 ∷ Step 1 ∷ Step 0 ∷ []

-- the three initial assignments
set_run : (g : Global) (grain : Grain) → Ran grain (swapping_now g) set_moves (at (holds Zero Zero One) (ended ∷ ended ∷ ended ∷ fresh g) 0) []
unfolding out-Statement denote.Hole.Carrier.out set_moves fresh
set_run g grain = goes grain (swapping_now g) (Step 1 ∷ Step 0 ∷ []) (at (holds Zero Zero X) (ended ∷ ended ∷ going Fresh (perform (sets g 2 One) ∷ []) ∷ fresh g) 0) [] (Step 2)
    (at (holds Zero Zero One) (ended ∷ ended ∷ ended ∷ fresh g) 0) two refl refl (rw (value_number (One ∷ []) (holds Zero Zero X) 0) refl)
  where
    none : Ran grain (swapping_now g) [] (start (swapping_now g)) []
    none = record { legal = tt; is = refl; done_is = refl }

    one : Ran grain (swapping_now g) (Step 0 ∷ []) (at (holds Zero X X) (ended ∷ going Fresh (perform (sets g 1 Zero) ∷ []) ∷ going Fresh (perform (sets g 2 One) ∷ []) ∷ fresh g) 0) []
    one = goes grain (swapping_now g) [] (start (swapping_now g)) [] (Step 0) (at (holds Zero X X) (ended ∷ going Fresh (perform (sets g 1 Zero) ∷ []) ∷ going Fresh (perform (sets g 2 One) ∷ []) ∷ fresh g) 0)
        none refl refl (rw (value_number (Zero ∷ []) (holds X X X) 0) refl)

    two : Ran grain (swapping_now g) (Step 1 ∷ Step 0 ∷ []) (at (holds Zero Zero X) (ended ∷ ended ∷ going Fresh (perform (sets g 2 One) ∷ []) ∷ fresh g) 0) []
    two = goes grain (swapping_now g) (Step 0 ∷ []) (at (holds Zero X X) (ended ∷ going Fresh (perform (sets g 1 Zero) ∷ []) ∷ going Fresh (perform (sets g 2 One) ∷ []) ∷ fresh g) 0) [] (Step 1)
        (at (holds Zero Zero X) (ended ∷ ended ∷ going Fresh (perform (sets g 2 One) ∷ []) ∷ fresh g) 0) one refl refl (rw (value_number (Zero ∷ []) (holds Zero X X) 0) refl)

-- a move that writes nothing
still : (grain : Grain) (d : Parts) (moves : List Move) (s : State) (done : List Slot) (m : Move) → Ran grain d moves s done →
    (not s.over && is_enabled s m) ≡ true → is_kept_out d.processes s.places 0 m ≡ false → Ran grain d (m ∷ moves) (apply m s) (done ++ ended_slot m s)
still grain d moves s done m r may free = goes grain d moves s done m (apply m s) r may free refl

slot_0 : Slot
slot_0 = record { time = 0; store = holds Zero Zero One; lines = [] }

first_moves : List Move
first_moves = EndSlot ∷ Step 5 ∷ Step 5 ∷ Step 4 ∷ Step 4 ∷ Step 3 ∷ Step 3 ∷ set_moves

-- the others come to their controls
first_run : (g : Global) (grain : Grain) → Ran grain (swapping_now g) first_moves (at (holds Zero Zero One) (places_of (going Woken (turns g)) (waits g (first g)) (waits g (second g))) 5) (slot_0 ∷ [])
unfolding out-Statement denote.Hole.Carrier.out set_moves first_moves fresh slot_0
first_run g grain =
    still grain (swapping_now g) _ _ _ EndSlot
    (still grain (swapping_now g) _ _ _ (Step 5)
    (still grain (swapping_now g) _ _ _ (Step 5)
    (still grain (swapping_now g) _ _ _ (Step 4)
    (still grain (swapping_now g) _ _ _ (Step 4)
    (still grain (swapping_now g) _ _ _ (Step 3)
    (still grain (swapping_now g) set_moves (at (holds Zero Zero One) (ended ∷ ended ∷ ended ∷ fresh g) 0) [] (Step 3) (set_run g grain) refl refl) refl refl) refl refl) refl refl) refl refl) refl refl) refl refl

-- ---- the edge, in two orders

turn_moves : List Move
turn_moves = Step 3 ∷ Step 3 ∷ Step 3 ∷ first_moves

-- the clock turns, and both processes are woken
turned_run : (g : Global) (grain : Grain) → Ran grain (swapping_now g) turn_moves (at (holds One Zero One) (places_of (sleeping 10 (turns g)) (going Woken (at_edge g (first g))) (going Woken (at_edge g (second g)))) 5) (slot_0 ∷ [])
unfolding out-Statement denote.Hole.Carrier.out turn_moves
turned_run g grain =
    still grain (swapping_now g) _ _ _ (Step 3)
    (still grain (swapping_now g) _ _ _ (Step 3)
    (goes grain (swapping_now g) first_moves (at (holds Zero Zero One) (places_of (going Woken (turns g)) (waits g (first g)) (waits g (second g))) 5) (slot_0 ∷ []) (Step 3)
    (at (holds One Zero One) (places_of (going Inside (perform (clock g) ∷ [])) (going Woken (at_edge g (first g))) (going Woken (at_edge g (second g)))) 5)
    (first_run g grain) refl refl (rw (value_inverse g (holds Zero Zero One) 5, value_operand 0 (holds Zero Zero One) 5) refl)) refl refl) refl refl

-- an order of the two, what `a` and `b` hold when the slot ends, and the execution
record Ends (grain : Grain) (g : Global) (a b : Digit) : Type 0 where
  moves : List Move
  ran : Ran grain (swapping_now g) moves (at (holds One a b) (places_of (going Woken (turns g)) (waits g (first g)) (waits g (second g))) 10) (slot_0 ∷ record { time = 5; store = holds One a b; lines = [] } ∷ [])

first_then_second : (g : Global) (grain : Grain) → Ends grain g One One
unfolding out-Statement denote.Hole.Carrier.out
first_then_second g grain = record {
  moves = EndSlot ∷ Step 5 ∷ Step 5 ∷ Step 5 ∷ Step 4 ∷ Step 4 ∷ Step 4 ∷ turn_moves;
  ran =
      still grain (swapping_now g) _ _ _ EndSlot
      (still grain (swapping_now g) _ _ _ (Step 5)
      (still grain (swapping_now g) _ _ _ (Step 5)
      (goes grain (swapping_now g) (Step 4 ∷ Step 4 ∷ Step 4 ∷ turn_moves) (at (holds One One One) (places_of (sleeping 10 (turns g)) (waits g (first g)) (going Woken (at_edge g (second g)))) 5) (slot_0 ∷ []) (Step 5)
      (at (holds One One One) (places_of (sleeping 10 (turns g)) (waits g (first g)) (going Inside (again g (second g)))) 5)
      (still grain (swapping_now g) _ _ _ (Step 4)
      (still grain (swapping_now g) _ _ _ (Step 4)
      (goes grain (swapping_now g) turn_moves (at (holds One Zero One) (places_of (sleeping 10 (turns g)) (going Woken (at_edge g (first g))) (going Woken (at_edge g (second g)))) 5) (slot_0 ∷ []) (Step 4)
      (at (holds One One One) (places_of (sleeping 10 (turns g)) (going Inside (again g (first g))) (going Woken (at_edge g (second g)))) 5)
      (turned_run g grain) refl refl (rw (value_operand 2 (holds One Zero One) 5) refl)) refl refl) refl refl) refl refl (rw (value_operand 1 (holds One One One) 5) refl)) refl refl) refl refl) refl refl;
}

second_then_first : (g : Global) (grain : Grain) → Ends grain g Zero Zero
unfolding out-Statement denote.Hole.Carrier.out
second_then_first g grain = record {
  moves = EndSlot ∷ Step 4 ∷ Step 4 ∷ Step 4 ∷ Step 5 ∷ Step 5 ∷ Step 5 ∷ turn_moves;
  ran =
      still grain (swapping_now g) _ _ _ EndSlot
      (still grain (swapping_now g) _ _ _ (Step 4)
      (still grain (swapping_now g) _ _ _ (Step 4)
      (goes grain (swapping_now g) (Step 5 ∷ Step 5 ∷ Step 5 ∷ turn_moves) (at (holds One Zero Zero) (places_of (sleeping 10 (turns g)) (going Woken (at_edge g (first g))) (waits g (second g))) 5) (slot_0 ∷ []) (Step 4)
      (at (holds One Zero Zero) (places_of (sleeping 10 (turns g)) (going Inside (again g (first g))) (waits g (second g))) 5)
      (still grain (swapping_now g) _ _ _ (Step 5)
      (still grain (swapping_now g) _ _ _ (Step 5)
      (goes grain (swapping_now g) turn_moves (at (holds One Zero One) (places_of (sleeping 10 (turns g)) (going Woken (at_edge g (first g))) (going Woken (at_edge g (second g)))) 5) (slot_0 ∷ []) (Step 5)
      (at (holds One Zero Zero) (places_of (sleeping 10 (turns g)) (going Woken (at_edge g (first g))) (going Inside (again g (second g)))) 5)
      (turned_run g grain) refl refl (rw (value_operand 1 (holds One Zero One) 5) refl)) refl refl) refl refl) refl refl (rw (value_operand 2 (holds One Zero Zero) 5) refl)) refl refl) refl refl) refl refl;
}

-- ---- what is seen

-- what `a` holds at the end of the second slot
abbrev seen_in : List Slot → Option (List Digit)
seen_in (s ∷ t ∷ rest) = word_of t.store 1 0
seen_in _ = None

seen_same : (as' bs : List Slot) → SameSlots as' bs → seen_in as' ≡ seen_in bs
seen_same [] [] h = refl
seen_same [] (b ∷ bs) h = absurd h
seen_same (a ∷ as') [] h = absurd h
seen_same (a ∷ []) (b ∷ []) h = refl
seen_same (a ∷ []) (b ∷ z ∷ bs) h = absurd h.1
seen_same (a ∷ x ∷ as') (b ∷ []) h = absurd h.1
seen_same (a ∷ x ∷ as') (b ∷ z ∷ bs) h = ap (λ (s : Store). word_of s 1 0) h.1.0.store

seen : (g : Global) (grain : Grain) (a b : Digit) (x : Ends grain g a b) → seen_in (trace (swapping_now g) x.moves 5).slots ≡ Some (a ∷ [])
unfolding slot_0
seen g grain a b x = ap (λ ss. seen_in (filter (is_by 5) ss)) x.ran.done_is

complete : (g : Global) (grain : Grain) (a b : Digit) (x : Ends grain g a b) → is_complete 5 (after (swapping_now g) x.moves) ≡ true
complete g grain a b x = ap (is_complete 5) x.ran.is

differs : (g : Global) (grain : Grain) → Independent grain (swapping_now g) → ⊥
differs g grain free =
    let one = first_then_second g grain in
    let other = second_then_first g grain in
    let same = free 5 one.moves other.moves one.ran.legal other.ran.legal (complete g grain One One one) (complete g grain Zero Zero other) in
    let e : Some (One ∷ []) ≡ Some (Zero ∷ []) =
    sym (seen g grain One One one) ∙ seen_same (trace (swapping_now g) one.moves 5).slots (trace (swapping_now g) other.moves 5).slots same.slots ∙ seen g grain Zero Zero other in
    cc

-- ---- the law

sound_copy : (g : Global) (to from : ℕ) → is_sound_assignment (signals_of g) (target g to) (operand from) ≡ true → IsSoundBody g (copies_now g to from)
sound_copy g to from h = record { sound = sound_assign (signals_of g) 2 (target g to) (operand from) ∙ h; number = numbers_assign 2 (target g to) (operand from) }

formed_now : (g : Global) → WellFormed (swapping_now g)
formed_now g = formed g (first g) (second g) (sound_copy g 1 2 (rw (reads_operand 2, size_operand 2) refl)) (sound_copy g 2 1 (rw (reads_operand 1, size_operand 1) refl))

pub race_of_edges : ARaceOfEdgesKeepsNoRules
race_of_edges g =
    (formed_now g, λ grain. differs g grain, λ c kept. differs g c.grain (rules_make_independent (swapping_now g) c (formed_now g) kept))
