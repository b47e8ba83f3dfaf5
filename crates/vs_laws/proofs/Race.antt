-- Two processes that write one signal at once: their design is well formed and not independent. So `Independent` says something.
use Rattle.std.proofs.Common.{◌≡◌, ℕ, true, false, Option, Some, None, List, [], ◌∷◌, length, refl, sym, ◌∙◌, ap, lit<, lit≤, arith, nat_lt}
use Rattle.std.specs.declared.alloc.Global.{Global}
use Rattle.std.specs.List.{IsDistinct}
use Rattle.std.proofs.lemmas.List.Elements.{All-nil, All-cons}
use Rattle.vs_design.specs.vs_logic4.specs.declared.digit.Digit.{Digit}
use Rattle.vs_design.specs.vs_logic4.specs.declared.digit.Digit.TheVariants.{Zero, One}
use Rattle.vs_design.specs.declared.design.Process.{Process}
use Rattle.vs_design.specs.declared.range.BitRange.{BitRange}
use Rattle.vs_design.specs.declared.signal.Signal.{Signal}
use Rattle.vs_design.specs.declared.statement.Statement.{Statement, out-Statement}
use Rattle.vs_design.specs.declared.statement.Statement.TheVariants as y
use Rattle.vs_design.specs.declared.statement.Statement.TheOpen as f
use Rattle.vs_design.specs.declared.statement.Statement.TheFolds.{fold-roll-Statement}
use Rattle.vs_design.specs.declared.statement.Target.{Target}
use Rattle.vs_design.specs.declared.expression.Typed.{Typed, fold-roll-Typed}
use Rattle.vs_design.specs.declared.expression.Typed.TheVariants as e
use Rattle.vs_design.specs.declared.expression.Typed.TheOpen as t
use Rattle.vs_design.specs.declared.statement.EventTerm.{EventTerm}
use Rattle.vs_design.specs.Statements.{event_terms, event_terms_step}
use Rattle.vs_design.specs.Stores.{Store, word_of}
use Rattle.vs_design.specs.Traces.{Slot, SameSlots}
use Rattle.vs_design.specs.Uses.{reads, reads_step, whole}
use Rattle.vs_design.specs.WellFormed.{WellFormed, size_step, size_of, is_sound_process}
use Rattle.vs_design.proofs.FormLemmas.{numbers_Assign, sound_Assign}
use Rattle.vs_process.specs.vs_eval.specs.Values.{value_of, value_step}
use Rattle.vs_independence.specs.vs_process.specs.declared.moves.Grain.{Grain}
use Rattle.vs_independence.specs.vs_process.specs.declared.moves.Grain.TheVariants as grain
use Rattle.vs_independence.specs.vs_process.specs.declared.moves.Move.{Move}
use Rattle.vs_independence.specs.vs_process.specs.declared.moves.Move.TheVariants.{Step, EndSlot}
use Rattle.vs_independence.specs.vs_process.specs.Executions.{after, Legal, is_complete, trace}
use Rattle.vs_independence.specs.Discipline.{Independent}
use Rattle.vs_laws.specs.Race.{operand, initially, racing, set_to, two_initials}

-- ---- what folds give at a number and at an assignment

pub value_number : (ds : List Digit) (store : Store) (time : ℕ) → value_of (e.Number ds) store time ≡ ds
value_number ds store time = ap (λ x. value_of x store time) (sym (e.rolls-Number ds)) ∙ fold-roll-Typed (List Digit) (value_step store time) (t.Number ds)

pub size_number : (ds : List Digit) → size_of (e.Number ds) ≡ Some (length ds)
size_number ds = ap size_of (sym (e.rolls-Number ds)) ∙ fold-roll-Typed (Option ℕ) size_step (t.Number ds)

pub reads_number : (ds : List Digit) → reads (e.Number ds) ≡ []
reads_number ds = ap reads (sym (e.rolls-Number ds)) ∙ fold-roll-Typed (List BitRange) reads_step (t.Number ds)

pub reads_operand : (s : ℕ) → reads (operand s) ≡ whole s ∷ []
reads_operand s =
    ap reads (sym (e.rolls-Signal (record { signal = s; width = 1; signed = false; sized = (lit< tt, lit≤ tt) })))
    ∙ fold-roll-Typed (List BitRange) reads_step (t.Signal (record { signal = s; width = 1; signed = false; sized = (lit< tt, lit≤ tt) }))

pub size_operand : (s : ℕ) → size_of (operand s) ≡ Some 1
size_operand s =
    ap size_of (sym (e.rolls-Signal (record { signal = s; width = 1; signed = false; sized = (lit< tt, lit≤ tt) })))
    ∙ fold-roll-Typed (Option ℕ) size_step (t.Signal (record { signal = s; width = 1; signed = false; sized = (lit< tt, lit≤ tt) }))

pub terms_assign : (n : ℕ) (x : Target) (v : Typed) → event_terms (y.Assign n x v) ≡ []
terms_assign n x v = ap event_terms (sym (y.rolls-Assign n x v)) ∙ fold-roll-Statement (List EventTerm) event_terms_step (f.Assign n x v)

-- ---- designs of two processes, and the race, are well formed

abbrev pub SoundInitial : Global → Process → Type 0
SoundInitial g p = is_sound_process (racing g).signals p ≡ true

pub formed_initials : (g : Global) (first second : Statement) → SoundInitial g (initially g 48 first) → SoundInitial g (initially g 49 second) → WellFormed (two_initials g first second)
unfolding IsDistinct
formed_initials g first second sound_first sound_second = record {
  processes = All-cons (SoundInitial g) (initially g 48 first) (initially g 49 second ∷ []) sound_first (All-cons (SoundInitial g) (initially g 49 second) [] sound_second (All-nil (SoundInitial g)));
  assigns = All-nil _;
  drivers = tt;
  declared = All-cons (λ n. nat_lt n 1 ≡ true) 0 [] refl (All-nil (λ n. nat_lt n 1 ≡ true));
  declared_once = (tt, tt);
  all_declared = λ n lt. let z : n ≡ 0 = omega (arith, lt) in (0, lit< tt, sym z);
  paths = (tt, tt);
  names = ((refl, tt), (tt, tt));
  assign_names = tt;
}

pub sound_set : (g : Global) (d : ℕ) (digit : Digit) → SoundInitial g (initially g d (set_to g 0 digit))
sound_set g d digit =
    simp (sound_Assign, numbers_Assign, reads_number, size_number)

pub formed : (g : Global) → WellFormed (racing g)
formed g = formed_initials g (set_to g 0 Zero) (set_to g 0 One) (sound_set g 48 Zero) (sound_set g 49 One)

-- ---- its two executions

first_then_second : List Move
first_then_second = EndSlot ∷ Step 1 ∷ Step 0 ∷ []

second_then_first : List Move
second_then_first = EndSlot ∷ Step 0 ∷ Step 1 ∷ []

legal_one : (g : Global) (grain : Grain) → Legal grain (racing g) first_then_second
unfolding out-Statement denote.Hole.Carrier.out first_then_second
legal_one g grain.Statement = (((tt, refl), refl), refl)
legal_one g grain.Block = (((tt, refl), refl), refl)

legal_two : (g : Global) (grain : Grain) → Legal grain (racing g) second_then_first
unfolding out-Statement denote.Hole.Carrier.out second_then_first
legal_two g grain.Statement = (((tt, refl), refl), refl)
legal_two g grain.Block = (((tt, refl), refl), refl)

abbrev seen_in : List Slot → Option (List Digit)
seen_in [] = None
seen_in (s ∷ ss) = word_of s.store 0 0

seen_same : (as' bs : List Slot) → SameSlots as' bs → seen_in as' ≡ seen_in bs
seen_same [] [] h = refl
seen_same [] (b ∷ bs) h = absurd h
seen_same (a ∷ as') [] h = absurd h
seen_same (a ∷ as') (b ∷ bs) h = ap (λ (s : Store). word_of s 0 0) h.0.store

sees_one : (g : Global) → seen_in (trace (racing g) first_then_second 0).slots ≡ Some (One ∷ [])
unfolding out-Statement denote.Hole.Carrier.out first_then_second
sees_one g = simp value_number

sees_zero : (g : Global) → seen_in (trace (racing g) second_then_first 0).slots ≡ Some (Zero ∷ [])
unfolding out-Statement denote.Hole.Carrier.out second_then_first
sees_zero g = simp value_number

complete_one : (g : Global) → is_complete 0 (after (racing g) first_then_second) ≡ true
unfolding out-Statement denote.Hole.Carrier.out first_then_second
complete_one g = refl

complete_two : (g : Global) → is_complete 0 (after (racing g) second_then_first) ≡ true
unfolding out-Statement denote.Hole.Carrier.out second_then_first
complete_two g = refl

pub race : (g : Global) (grain : Grain) → Independent grain (racing g) → ⊥
race g grain free =
    let same = free 0 first_then_second second_then_first (legal_one g grain) (legal_two g grain) (complete_one g) (complete_two g) in
    let e : Some (One ∷ []) ≡ Some (Zero ∷ []) =
    sym (sees_one g) ∙ seen_same (trace (racing g) first_then_second 0).slots (trace (racing g) second_then_first 0).slots same.slots ∙ sees_zero g in
    cc
