-- A process tests what another one writes at once: where the test comes later, a line of `$strobe` is made, or `$finish` is called.
use Rattle.std.proofs.Common.{◌≡◌, ℕ, true, Option, Some, None, List, [], ◌∷◌, refl, subst, arith}
use Rattle.std.specs.declared.alloc.Global.{Global}
use Rattle.vs_design.specs.declared.statement.Statement.{out-Statement}
use Rattle.vs_design.specs.declared.statement.Statement.TheVariants as y
use Rattle.vs_design.specs.Traces.{Line, Slot, SameSlots, times_in}
use Rattle.vs_process.specs.declared.moves.Grain.{Grain}
use Rattle.vs_process.specs.declared.moves.Grain.TheVariants as grain
use Rattle.vs_process.specs.declared.moves.Move.{Move}
use Rattle.vs_process.specs.declared.moves.Move.TheVariants.{Step, EndSlot}
use Rattle.vs_process.specs.Executions.{after, Legal, is_complete, trace}
use Rattle.vs_laws.specs.vs_independence.specs.Discipline.{Independent}
use Rattle.vs_laws.proofs.Race.{value_number}
use Rattle.vs_laws.specs.Alone.{stores, FinishAloneDiffers, StrobeLinesAloneDiffer, strobes_bit, testing}
use Rattle.vs_laws.proofs.Testing.{formed_finishing, formed_strobing}
use Rattle.vs_laws.proofs.Texts.{value_operand}

-- ---- the two executions, of which the newest move stands first: `a` is written before the test, or behind what follows it

abbrev set_first : List Move
set_first = EndSlot ∷ Step 1 ∷ Step 1 ∷ Step 0 ∷ []

abbrev test_first : List Move
test_first = EndSlot ∷ Step 0 ∷ Step 1 ∷ Step 1 ∷ []

-- ---- lines of `$strobe`

strobe_legal : (g : Global) (grain : Grain) → Legal grain (testing g (strobes_bit g)) set_first
unfolding out-Statement denote.Hole.Carrier.out
strobe_legal g grain.Statement = ((((tt, refl), refl), simp (value_number, value_operand)), simp (value_number, value_operand))
strobe_legal g grain.Block = ((((tt, refl), refl), simp (value_number, value_operand)), simp (value_number, value_operand))

no_strobe_legal : (g : Global) (grain : Grain) → Legal grain (testing g (strobes_bit g)) test_first
unfolding out-Statement denote.Hole.Carrier.out
no_strobe_legal g grain.Statement = ((((tt, refl), simp value_operand), simp value_operand), simp value_operand)
no_strobe_legal g grain.Block = ((((tt, refl), simp value_operand), simp value_operand), simp value_operand)

strobe_complete : (g : Global) → is_complete 0 (after (testing g (strobes_bit g)) set_first) ≡ true
unfolding out-Statement denote.Hole.Carrier.out
strobe_complete g = simp (value_number, value_operand)

no_strobe_complete : (g : Global) → is_complete 0 (after (testing g (strobes_bit g)) test_first) ≡ true
unfolding out-Statement denote.Hole.Carrier.out
no_strobe_complete g = simp value_operand

-- the lines of the first slot
abbrev first_lines : List Slot → List Line
first_lines [] = []
first_lines (s ∷ ss) = s.lines

as_often : (text : List ℕ) (as' bs : List Slot) → SameSlots as' bs → times_in text (first_lines as') ≡ times_in text (first_lines bs)
as_often text [] [] h = refl
as_often text [] (b ∷ bs) h = absurd h
as_often text (a ∷ as') [] h = absurd h
as_often text (a ∷ as') (b ∷ bs) h = h.0.lines text

-- `1`, and the end of its line
abbrev one_text : List ℕ
one_text = 49 ∷ 10 ∷ []

one_line : (g : Global) → times_in one_text (first_lines (trace (testing g (strobes_bit g)) set_first 0).slots) ≡ 1
unfolding out-Statement denote.Hole.Carrier.out
one_line g = simp (value_number, value_operand)

no_line : (g : Global) → times_in one_text (first_lines (trace (testing g (strobes_bit g)) test_first 0).slots) ≡ 0
unfolding out-Statement denote.Hole.Carrier.out
no_line g = simp value_operand

strobe_stores : (g : Global) →
    stores (trace (testing g (strobes_bit g)) set_first 0).slots ≡ stores (trace (testing g (strobes_bit g)) test_first 0).slots
unfolding out-Statement denote.Hole.Carrier.out
strobe_stores g = simp (value_number, value_operand)

strobe_finish : (g : Global) → (trace (testing g (strobes_bit g)) set_first 0).finish ≡ (trace (testing g (strobes_bit g)) test_first 0).finish
unfolding out-Statement denote.Hole.Carrier.out
strobe_finish g = simp (value_number, value_operand)

lines_are_other : (g : Global) → SameSlots (trace (testing g (strobes_bit g)) set_first 0).slots (trace (testing g (strobes_bit g)) test_first 0).slots → ⊥
lines_are_other g same =
    omega (arith, one_line g, no_line g, as_often one_text (trace (testing g (strobes_bit g)) set_first 0).slots (trace (testing g (strobes_bit g)) test_first 0).slots same)

lines_dependent : (g : Global) (grain : Grain) → Independent grain (testing g (strobes_bit g)) → ⊥
lines_dependent g grain free =
    lines_are_other g
    (free 0 set_first test_first (strobe_legal g grain) (no_strobe_legal g grain) (strobe_complete g) (no_strobe_complete g)).slots

pub lines_differ : StrobeLinesAloneDiffer
lines_differ g grain = (
  formed_strobing g,
  record {
    until = 0;
    one = set_first;
    other = test_first;
    one_legal = strobe_legal g grain;
    other_legal = no_strobe_legal g grain;
    one_complete = strobe_complete g;
    other_complete = no_strobe_complete g;
    differ = record { stores = strobe_stores g; finish = strobe_finish g; lines = lines_are_other g };
  },
  lines_dependent g grain,
)

-- ---- `$finish`

finish_legal : (g : Global) (grain : Grain) → Legal grain (testing g (y.Finish 1)) set_first
unfolding out-Statement denote.Hole.Carrier.out
finish_legal g grain.Statement = ((((tt, refl), refl), simp (value_number, value_operand)), simp (value_number, value_operand))
finish_legal g grain.Block = ((((tt, refl), refl), simp (value_number, value_operand)), simp (value_number, value_operand))

no_finish_legal : (g : Global) (grain : Grain) → Legal grain (testing g (y.Finish 1)) test_first
unfolding out-Statement denote.Hole.Carrier.out
no_finish_legal g grain.Statement = ((((tt, refl), simp value_operand), simp value_operand), simp value_operand)
no_finish_legal g grain.Block = ((((tt, refl), simp value_operand), simp value_operand), simp value_operand)

finish_complete : (g : Global) → is_complete 0 (after (testing g (y.Finish 1)) set_first) ≡ true
unfolding out-Statement denote.Hole.Carrier.out
finish_complete g = simp (value_number, value_operand)

no_finish_complete : (g : Global) → is_complete 0 (after (testing g (y.Finish 1)) test_first) ≡ true
unfolding out-Statement denote.Hole.Carrier.out
no_finish_complete g = simp value_operand

same_slots : (slots : List Slot) → SameSlots slots slots
same_slots [] = tt
same_slots (s ∷ ss) = (record { time = refl; store = refl; lines = λ text. refl }, same_slots ss)

slots_are_same : (g : Global) → (trace (testing g (y.Finish 1)) set_first 0).slots ≡ (trace (testing g (y.Finish 1)) test_first 0).slots
unfolding out-Statement denote.Hole.Carrier.out
slots_are_same g = simp (value_number, value_operand)

finish_slots : (g : Global) → SameSlots (trace (testing g (y.Finish 1)) set_first 0).slots (trace (testing g (y.Finish 1)) test_first 0).slots
finish_slots g =
    subst (λ (slots : List Slot). SameSlots (trace (testing g (y.Finish 1)) set_first 0).slots slots) (slots_are_same g)
    (same_slots (trace (testing g (y.Finish 1)) set_first 0).slots)

finishes : (g : Global) → (trace (testing g (y.Finish 1)) set_first 0).finish ≡ Some 0
unfolding out-Statement denote.Hole.Carrier.out
finishes g = simp (value_number, value_operand)

goes_on : (g : Global) → (trace (testing g (y.Finish 1)) test_first 0).finish ≡ None
unfolding out-Statement denote.Hole.Carrier.out
goes_on g = simp value_operand

differ_so : (one other : Option ℕ) → one ≡ Some 0 → other ≡ None → one ≡ other → ⊥
differ_so one other is none same = cc

finish_is_other : (g : Global) → (trace (testing g (y.Finish 1)) set_first 0).finish ≡ (trace (testing g (y.Finish 1)) test_first 0).finish → ⊥
finish_is_other g same = differ_so (trace (testing g (y.Finish 1)) set_first 0).finish (trace (testing g (y.Finish 1)) test_first 0).finish (finishes g) (goes_on g) same

finish_dependent : (g : Global) (grain : Grain) → Independent grain (testing g (y.Finish 1)) → ⊥
finish_dependent g grain free =
    finish_is_other g
    (free 0 set_first test_first (finish_legal g grain) (no_finish_legal g grain) (finish_complete g) (no_finish_complete g)).finish

pub finish_differs : FinishAloneDiffers
finish_differs g grain = (
  formed_finishing g,
  record {
    until = 0;
    one = set_first;
    other = test_first;
    one_legal = finish_legal g grain;
    other_legal = no_finish_legal g grain;
    one_complete = finish_complete g;
    other_complete = no_finish_complete g;
    differ = record { slots = finish_slots g; finish = finish_is_other g };
  },
  finish_dependent g grain,
)
