-- A process prints what another one writes at once: its lines are not alike. So `DisplaysAlike` says something.
use Rattle.std.proofs.Common.{◌≡◌, ℕ, true, List, [], ◌∷◌, refl, ◌∙◌, ap}
use Rattle.std.specs.declared.alloc.Global.{Global}
use Rattle.vs_design.specs.declared.statement.Statement.{out-Statement}
use Rattle.vs_design.specs.Traces.{Line}
use Rattle.vs_design.specs.WellFormed.{WellFormed}
use Rattle.vs_design.proofs.FormLemmas.{numbers_Call, sound_Call}
use Rattle.vs_design.specs.vs_logic4.specs.declared.digit.Digit.TheVariants.{Zero}
use Rattle.vs_independence.specs.vs_process.specs.declared.moves.Grain.{Grain}
use Rattle.vs_independence.specs.vs_process.specs.declared.moves.Grain.TheVariants as grain
use Rattle.vs_independence.specs.vs_process.specs.declared.moves.Move.{Move}
use Rattle.vs_independence.specs.vs_process.specs.declared.moves.Move.TheVariants.{Step, EndSlot}
use Rattle.vs_independence.specs.vs_process.specs.Executions.{after, Legal, is_complete}
use Rattle.vs_independence.specs.Displays.{DisplaySlot, DisplaysAlike, SameDisplays, displays, lines_of_process}
use Rattle.vs_laws.specs.Race.{initially, set_to}
use Rattle.vs_laws.specs.Lines.{printing, prints_bit}
use Rattle.vs_laws.proofs.Race.{SoundInitial, formed_initials, reads_operand, size_operand, sound_set, value_number}
use Rattle.vs_laws.proofs.Texts.{value_operand}

sound_prints : (g : Global) → SoundInitial g (initially g 49 (prints_bit g))
sound_prints g = simp (sound_Call, numbers_Call, reads_operand, size_operand)

pub formed : (g : Global) → WellFormed (printing g)
formed g = formed_initials g (set_to g 0 Zero) (prints_bit g) (sound_set g 48 Zero) (sound_prints g)

-- ---- its two executions

write_first : List Move
write_first = EndSlot ∷ Step 1 ∷ Step 0 ∷ []

print_first : List Move
print_first = EndSlot ∷ Step 0 ∷ Step 1 ∷ []

legal_write : (g : Global) (grain : Grain) → Legal grain (printing g) write_first
unfolding out-Statement denote.Hole.Carrier.out write_first
legal_write g grain.Statement = (((tt, refl), refl), refl)
legal_write g grain.Block = (((tt, refl), refl), refl)

legal_print : (g : Global) (grain : Grain) → Legal grain (printing g) print_first
unfolding out-Statement denote.Hole.Carrier.out print_first
legal_print g grain.Statement = (((tt, refl), refl), refl)
legal_print g grain.Block = (((tt, refl), refl), refl)

complete_write : (g : Global) → is_complete 0 (after (printing g) write_first) ≡ true
unfolding out-Statement denote.Hole.Carrier.out write_first
complete_write g = refl

complete_print : (g : Global) → is_complete 0 (after (printing g) print_first) ≡ true
unfolding out-Statement denote.Hole.Carrier.out print_first
complete_print g = refl

abbrev first_text : List Line → List ℕ
first_text [] = []
first_text (l ∷ ls) = l.text

-- the line that the second process printed in the first slot
abbrev printed_in : List DisplaySlot → List ℕ
printed_in [] = []
printed_in (s ∷ ss) = first_text (lines_of_process 1 s.lines)

printed_same : (as' bs : List DisplaySlot) → SameDisplays (λ i. true) as' bs → printed_in as' ≡ printed_in bs
printed_same [] [] h = refl
printed_same [] (b ∷ bs) h = absurd h
printed_same (a ∷ as') [] h = absurd h
printed_same (a ∷ as') (b ∷ bs) h = ap first_text (h.0.lines 1 refl)

prints_zero : (g : Global) → printed_in (displays (printing g) write_first 0) ≡ 48 ∷ 10 ∷ []
unfolding out-Statement denote.Hole.Carrier.out write_first
prints_zero g = simp (value_number, value_operand)

prints_unknown : (g : Global) → printed_in (displays (printing g) print_first 0) ≡ 120 ∷ 10 ∷ []
unfolding out-Statement denote.Hole.Carrier.out print_first
prints_unknown g = simp value_operand

differ : (text : List ℕ) → text ≡ 48 ∷ 10 ∷ [] → text ≡ 120 ∷ 10 ∷ [] → ⊥
differ text zero unknown = cc

pub seen : (g : Global) (grain : Grain) → DisplaysAlike grain (printing g) (λ i. true) → ⊥
seen g grain alike =
    let same = alike 0 write_first print_first (legal_write g grain) (legal_print g grain) (complete_write g) (complete_print g) in
    differ (printed_in (displays (printing g) write_first 0)) (prints_zero g)
    (printed_same (displays (printing g) write_first 0) (displays (printing g) print_first 0) same ∙ prints_unknown g)
