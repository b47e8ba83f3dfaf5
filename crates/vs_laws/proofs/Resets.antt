-- A design with an inverted reset keeps the rules of a certificate of version 3, and where it is reset at the start it doesn't.
use Rattle.std.proofs.Common.{eqb-true, ◌≡◌, ◌==◌, ℕ, zero, suc, ◌+◌, ◌%◌, ◌<◌, ◌⊎◌, Bool, true, false, Some, List, [], ◌∷◌, ◌++◌, length, nat_lt, slice_get, refl, sym, ◌∙◌, ap, subst, inl, inr, lit<, lit≤, arith}
use Rattle.std.proofs.lemmas.Bool.{false≢true, true≢false}
use Rattle.std.proofs.lemmas.List.Elements.{All-nil, All-cons}
use Rattle.std.proofs.lemmas.Option.{none-some, same_Some}
use Rattle.std.specs.declared.alloc.Global.{Global}
use Rattle.std.specs.List.{Contains, IsDistinct}
use Rattle.vs_design.specs.vs_logic4.specs.declared.digit.Digit.{Digit}
use Rattle.vs_design.specs.vs_logic4.specs.declared.digit.Digit.TheVariants.{Zero, One, X}
use Rattle.vs_design.specs.vs_logic4.specs.declared.edge.Edge.{Edge}
use Rattle.vs_design.specs.vs_logic4.specs.declared.edge.Edge.TheVariants.{Posedge}
use Rattle.vs_design.specs.vs_logic4.specs.declared.operators.Unary.TheVariants as u
use Rattle.vs_design.specs.vs_logic4.specs.Edges.{is_edge}
use Rattle.vs_design.specs.vs_logic4.proofs.Basics.{one_in}
use Rattle.vs_design.specs.declared.design.Assign.{Assign}
use Rattle.vs_design.specs.declared.design.Process.{Process}
use Rattle.vs_design.specs.declared.range.BitRange.{BitRange}
use Rattle.vs_design.specs.declared.signal.Signal.{Signal}
use Rattle.vs_design.specs.declared.signal.SignalKind.TheVariants.{Reg, Wire}
use Rattle.vs_design.specs.declared.statement.EventTerm.{EventTerm}
use Rattle.vs_design.specs.declared.statement.Statement.{out-Statement}
use Rattle.vs_design.specs.declared.expression.Typed.TheVariants as e
use Rattle.vs_design.specs.Uses.{reads, slice_range, whole, writes}
use Rattle.vs_design.specs.WellFormed.{WellFormed, is_sound_assign, is_sound_process, is_sound_statement, numbers}
use Rattle.vs_design.proofs.FormLemmas.{numbers_Assign as numbers_assign, numbers_Later as numbers_later, numbers_Block as numbers_block, sound_Assign as sound_assign, sound_Later as sound_later}
use Rattle.vs_independence.specs.vs_process.specs.declared.moves.Grain.{Grain}
use Rattle.vs_process.specs.Landings.{todo_after}
use Rattle.vs_process.specs.Places.{Todo}
use Rattle.vs_process.specs.Steps.{Next, on, after, wait}
use Rattle.vs_rules.specs.vs_process.proofs.Bits.{meets_of}
use Rattle.vs_independence.specs.vs_process.proofs.Ranges.{covers_signal}
use Rattle.vs_rules.specs.Claims.{Name, edges, delays, mixed, blocking, nonblocking, net, all_names, claim_of, edge_names, edge_signals, process_names, second_in, signal_names, times_in, writer_in, IsProcessNamed, IsRootOf, IsSecond, IsWriter}
use Rattle.vs_rules.specs.Constants.{zero as known_zero}
use Rattle.vs_rules.specs.Controls.{controls_of}
use Rattle.vs_rules.specs.Copies.{CopiesRoot, SeenAs, itself}
use Rattle.vs_rules.specs.Drivers.{Driver, assign, block as block_driver, here, through, DriverReads, DriverWrites, InCone, IsDriver, IsSource, WritesBit}
use Rattle.vs_rules.specs.Paths.{Bit, Has, IsHeardAtStart, IsHot, IsLate, IsPoint, IsSlot0, PathBy, Writes, WritesAny, WritesLater, WritesNow, any_way, is_zero_time}
use Rattle.vs_rules.specs.Points.{Among, Goes, nexts_by}
use Rattle.vs_rules.proofs.Points.{by_path}
use Rattle.vs_rules.specs.Rules.{K1_Assign, K1_Name, K2, K3, K4, K6, K7, K8, K9, K10_Signal, K10_Process, AreApart, AreEdges, Arrives, BlockNeeds, FiresNone, IsAsModeSays, IsEdgeSignal, IsOnlyIn, IsOwnEdge, IsOwnRead, IsSoundRoot, Reads}
use Rattle.vs_rules.specs.Blocks.{K5}
use Rattle.vs_rules.specs.Slots.{DelayEnds, EdgeEnds, Ends, Fires, HasSlot, HasWriteSlot}
use Rattle.vs_rules.specs.Limits.{IsWideCertificate}
use Rattle.vs_rules.specs.Verdict.{Keeping, Keeps, Subject, k10, signal, subjects}
use Rattle.vs_laws.specs.Names.{assign_in_t, process_in_t, signal_in_t}
use Rattle.vs_laws.specs.Race.{bit, initially, operand, target, the_bit}
use Rattle.vs_laws.specs.Resets.{AResetKeepsTheRules, AnEarlyResetIsReported, begins, clock, fall, half, listens, negated, register, reset_claims, resetting, the_inverse, turned}
use Rattle.vs_laws.specs.Rise.{rise}
use Rattle.vs_laws.specs.Roots.{sets_late, two_of}
use Rattle.vs_laws.specs.Swap.{always, copies_later, five}
use Rattle.vs_laws.specs.Block.{no_ticks}
use Rattle.vs_laws.proofs.Certificates.{one_list_of, sound_lists_of}
use Rattle.vs_laws.proofs.Kept.{Before, before_kept, keeps_wide_rules, with_first_slot}
use Rattle.vs_laws.proofs.Race.{reads_number, reads_operand, size_number, size_operand}
use Rattle.vs_laws.proofs.Texts.{Each, differ, each_at, each_in, numbers_delay, numbers_event, numbers_forever, sound_block, sound_delay, sound_event, sound_forever}
use Rattle.vs_laws.proofs.ResetsPoints.{Act, Early, First, Late, Made, Row, Run, Spot, TermAt, Took, Wrote, again, awaiting, awaits_c, by_constant, by_turn, by_update, copies_q, copying, early_any, early_at, early_later, early_now, early_path, early_reads, facts, first_c, first_is, first_r, from_c, from_r, going, has_term, in_first, late_any, late_delays, late_gives, late_rests, late_facts, late_from, late_path, leaving, listening, listens_q, loops_c, made, of_c, of_d, pauses_c, pauses_r, ran_at, reads_inverted, reads_negated, rests, row_at, run_copies, run_delays, run_facts, run_again, run_gives, run_listens, run_pauses, size_inverted, size_negated, term_1, term_3, term_at, term_n, took, turns_c, gives_r, wrote}
use Rattle.vs_laws.proofs.ResetsTimes.{KindAt, ListsAt, NameAt, RootAt, SecondAt, Ticks, Timed, WriterAt, Written, controls, controls_are, copies_r, edge_is, ends_of, ends_so, fires_fall, fires_rise, first_of_c, first_of_d, first_of_r, gives_c, gives_digit, is_inverted, kind_0, kind_1, kind_2, kind_at, later_of_r, lists_0, lists_1, lists_2, lists_at, lists_c, name_at, name_c, name_d, name_n, name_q, name_r, never_ends, no_block, not_inverted, root_at, root_c, root_n, run_of, second_at, second_c, second_r, takes_q, timed, timed_c, timed_r, turns, writer_at, writer_c, writer_d, writer_r, writes_it, written}
use Rattle.vs_laws.proofs.Mixer.{declared_at}

-- ---- it is well formed

clock_numbers : (g : Global) → numbers (clock g) ≡ 0 ∷ 1 ∷ 2 ∷ []
clock_numbers g = numbers_forever g 0 (half g) ∙ ap (λ l. 0 ∷ l) (numbers_delay g 1 five (turned g) ∙ ap (λ l. 1 ∷ l) (numbers_assign 2 (target g 0) (negated g)))

register_numbers : (g : Global) → numbers (register g) ≡ 0 ∷ 1 ∷ 2 ∷ []
register_numbers g =
    numbers_forever g 0 (listens g)
    ∙ ap (λ l. 0 ∷ l) (numbers_event g 1 (two_of g rise fall) (copies_later g 3 2) ∙ ap (λ l. 1 ∷ l) (numbers_later 2 no_ticks (target g 3) (operand 2)))

abbrev signals_of : Global → List Signal
signals_of g = (resetting g Zero).signals

abbrev Sound : Global → Process → Type 0
Sound g p = is_sound_process (signals_of g) p ≡ true

clock_sound : (g : Global) → is_sound_statement (signals_of g) (clock g) ≡ true
clock_sound g =
    sound_forever (signals_of g) g 0 (half g) ∙ sound_delay (signals_of g) g 1 five (turned g) ∙ sound_assign (signals_of g) 2 (target g 0) (negated g)
    ∙ rw (reads_negated g, size_negated g) refl

first_sound : (g : Global) → Sound g (always g 48 (clock g))
unfolding out-Statement denote.Hole.Carrier.out
first_sound g = rw (clock_sound g, clock_numbers g) refl

second_sound : (g : Global) (digit : Digit) → Sound g (initially g 49 (begins g digit))
second_sound g digit =
    simp (sound_block, sound_event, sound_delay, sound_assign, numbers_block, numbers_event, numbers_delay, numbers_assign, reads_number, size_number)

third_sound : (g : Global) → Sound g (initially g 50 (sets_late g 1))
third_sound g = simp (sound_delay, numbers_delay, sound_assign, numbers_assign, reads_number, size_number)

register_sound : (g : Global) → is_sound_statement (signals_of g) (register g) ≡ true
register_sound g =
    sound_forever (signals_of g) g 0 (listens g) ∙ sound_event (signals_of g) g 1 (two_of g rise fall) (copies_later g 3 2) refl
    ∙ sound_later (signals_of g) 2 no_ticks (target g 3) (operand 2) ∙ rw (reads_operand 2, size_operand 2) refl

fourth_sound : (g : Global) → Sound g (always g 51 (register g))
unfolding out-Statement denote.Hole.Carrier.out
fourth_sound g = rw (register_sound g, register_numbers g) refl

abbrev SoundAssign : Global → Assign → Type 0
SoundAssign g a = is_sound_assign (signals_of g) a ≡ true

abbrev Below : ℕ → Type 0
Below n = nat_lt n 5 ≡ true

-- the last two processes
abbrev last_two : Global → List Process
last_two g = initially g 50 (sets_late g 1) ∷ always g 51 (register g) ∷ []

formed : (g : Global) (digit : Digit) → WellFormed (resetting g digit)
unfolding IsDistinct
formed g digit = record {
  processes =
      All-cons (Sound g) (always g 48 (clock g)) (initially g 49 (begins g digit) ∷ last_two g) (first_sound g)
      (All-cons (Sound g) (initially g 49 (begins g digit)) (last_two g) (second_sound g digit)
      (All-cons (Sound g) (initially g 50 (sets_late g 1)) (always g 51 (register g) ∷ []) (third_sound g)
      (All-cons (Sound g) (always g 51 (register g)) [] (fourth_sound g) (All-nil (Sound g)))));
  assigns = All-cons (SoundAssign g) (the_inverse g) [] (rw (reads_inverted g, size_inverted g) refl) (All-nil (SoundAssign g));
  drivers = (tt, tt);
  declared =
      All-cons Below 0 (1 ∷ 2 ∷ 3 ∷ 4 ∷ []) refl
      (All-cons Below 1 (2 ∷ 3 ∷ 4 ∷ []) refl (All-cons Below 2 (3 ∷ 4 ∷ []) refl (All-cons Below 3 (4 ∷ []) refl (All-cons Below 4 [] refl (All-nil Below)))));
  declared_once = ((refl, (refl, (refl, (refl, tt)))), ((refl, (refl, (refl, tt))), ((refl, (refl, tt)), ((refl, tt), (tt, tt)))));
  all_declared = declared_at;
  paths = ((refl, (refl, (refl, (refl, tt)))), ((refl, (refl, (refl, tt))), ((refl, (refl, tt)), ((refl, tt), (tt, tt)))));
  names = ((refl, (refl, (refl, tt))), ((refl, (refl, tt)), ((refl, tt), (tt, tt))));
  assign_names = (tt, tt);
}

-- ---- the rules

abbrev Listed : Grain → Name → Type 0
Listed grain name = IsOnlyIn name (signal_names (reset_claims grain)) (reset_claims grain).order (process_names (reset_claims grain))

signal_listed : (grain : Grain) (v : ℕ) (name : Name) → NameAt v name → Listed grain name
signal_listed grain _ _ name_c = record { once = refl; nowhere = refl; nowhere_else = refl }
signal_listed grain _ _ name_r = record { once = refl; nowhere = refl; nowhere_else = refl }
signal_listed grain _ _ name_d = record { once = refl; nowhere = refl; nowhere_else = refl }
signal_listed grain _ _ name_q = record { once = refl; nowhere = refl; nowhere_else = refl }
signal_listed grain _ _ name_n = record { once = refl; nowhere = refl; nowhere_else = refl }

names_assigns : (g : Global) (digit : Digit) (grain : Grain) (j : ℕ) → K1_Assign (resetting g digit) (reset_claims grain) j
names_assigns g digit grain zero = record {
  listed = λ name is.
      subst (λ n. IsOnlyIn n (reset_claims grain).order (signal_names (reset_claims grain)) (process_names (reset_claims grain))) (same_Some (assign_in_t 48) name is)
      (record { once = refl; nowhere = refl; nowhere_else = refl });
  no_edge = λ name is. subst (λ n. times_in n (edge_names (reset_claims grain)) ≡ 0) (same_Some (assign_in_t 48) name is) refl;
}
names_assigns g digit grain (suc j) = record { listed = λ name is. absurd (none-some name is); no_edge = λ name is. absurd (none-some name is) }

-- the name of a process stands once among those of processes, and nowhere else
record IsProcessName (grain : Grain) (name : Name) : Type 0 where
  listed : IsOnlyIn name (process_names (reset_claims grain)) (signal_names (reset_claims grain)) (edge_names (reset_claims grain))
  unordered : times_in name (reset_claims grain).order ≡ 0

process_listed : (g : Global) (digit : Digit) (grain : Grain) (i : ℕ) (name : Name) → IsProcessNamed (resetting g digit) i name → IsProcessName grain name
process_listed g digit grain zero name is =
    subst (IsProcessName grain) (same_Some (process_in_t 48) name is) (record { listed = record { once = refl; nowhere = refl; nowhere_else = refl }; unordered = refl })
process_listed g digit grain (suc zero) name is =
    subst (IsProcessName grain) (same_Some (process_in_t 49) name is) (record { listed = record { once = refl; nowhere = refl; nowhere_else = refl }; unordered = refl })
process_listed g digit grain (suc (suc zero)) name is =
    subst (IsProcessName grain) (same_Some (process_in_t 50) name is) (record { listed = record { once = refl; nowhere = refl; nowhere_else = refl }; unordered = refl })
process_listed g digit grain (suc (suc (suc zero))) name is =
    subst (IsProcessName grain) (same_Some (process_in_t 51) name is) (record { listed = record { once = refl; nowhere = refl; nowhere_else = refl }; unordered = refl })
process_listed g digit grain (suc (suc (suc (suc i)))) name is = absurd (none-some name is)

names_known : (g : Global) (digit : Digit) (grain : Grain) (n : ℕ) (name : Name) → slice_get (all_names (reset_claims grain)) n ≡ Some name →
    K1_Name (resetting g digit) (reset_claims grain) name
names_known g digit grain n name is =
    let signals : Each (K1_Name (resetting g digit) (reset_claims grain)) (signal_names (reset_claims grain)) =
    (inl (0, refl), (inl (1, refl), (inl (2, refl), (inl (3, refl), (inl (4, refl), tt))))) in
    let others : Each (K1_Name (resetting g digit) (reset_claims grain)) (process_names (reset_claims grain) ++ signal_names (reset_claims grain)) =
    (inr (inr (0, refl)), (inr (inr (1, refl)), (inr (inr (2, refl)), (inr (inr (3, refl)), signals)))) in
    each_at (K1_Name (resetting g digit) (reset_claims grain)) (all_names (reset_claims grain))
    (inl (0, refl), (inl (0, refl), (inl (1, refl), (inl (4, refl), (inr (inl (0, refl)), others))))) n name is

writers : (g : Global) (digit : Digit) (grain : Grain) (v : ℕ) → K2 (resetting g digit) (reset_claims grain) v
writers g digit grain v = record {
  named = λ i w. named_at i v (written g digit i v w);
  writer_writes = λ name is. writes_at v name is;
  second_writes = λ name is. sets_at v name is;
  no_block = λ i j is blk w. no_block g digit grain j blk;
  early = λ i k is point w late. never_late v i k (second_at g digit grain v i is) w late;
  first_alone = λ i j l is writer slot w. not_both v j l (writer_at g digit grain v j writer) (early_now g digit j v l (early_at g digit j l slot) w);
  first_alone_later = λ i j k l is point w writer slot more. early_later g digit j v l (early_at g digit j l slot) more;
}
  where
    named_at : (i v : ℕ) → Written i v → IsWriter (resetting g digit) (reset_claims grain) v i ⊎ IsSecond (resetting g digit) (reset_claims grain) v i
    named_at _ _ turns = inl refl
    named_at _ _ first_of_c = inr refl
    named_at _ _ first_of_r = inr refl
    named_at _ _ first_of_d = inl refl
    named_at _ _ later_of_r = inl refl
    named_at _ _ takes_q = inl refl

    writes_at : (n : ℕ) (name : Name) → writer_in (claim_of (resetting g digit) (reset_claims grain) n) ≡ Some name →
        (i : ℕ) × IsWriter (resetting g digit) (reset_claims grain) n i × Writes (resetting g digit) i n
    writes_at zero name is = (0, refl, writes_it g digit 0 0 (0, lit< tt, refl))
    writes_at (suc zero) name is = (2, refl, writes_it g digit 2 1 (0, lit< tt, refl))
    writes_at (suc (suc zero)) name is = (1, refl, writes_it g digit 1 2 (2, lit< tt, refl))
    writes_at (suc (suc (suc zero))) name is = (3, refl, writes_it g digit 3 3 (0, lit< tt, refl))
    writes_at (suc (suc (suc (suc zero)))) name is = absurd (none-some name is)
    writes_at (suc (suc (suc (suc (suc n))))) name is = absurd (none-some name is)

    sets_at : (n : ℕ) (name : Name) → second_in (claim_of (resetting g digit) (reset_claims grain) n) ≡ Some name →
        (i : ℕ) × IsSecond (resetting g digit) (reset_claims grain) n i × Writes (resetting g digit) i n
    sets_at zero name is = (1, refl, writes_it g digit 1 0 (0, lit< tt, refl))
    sets_at (suc zero) name is = (1, refl, writes_it g digit 1 1 (1, lit< tt, refl))
    sets_at (suc (suc zero)) name is = absurd (none-some name is)
    sets_at (suc (suc (suc zero))) name is = absurd (none-some name is)
    sets_at (suc (suc (suc (suc zero)))) name is = absurd (none-some name is)
    sets_at (suc (suc (suc (suc (suc n))))) name is = absurd (none-some name is)

    small : (v i : ℕ) → SecondAt v i → (i ≡ 1) × (v < 2)
    small _ _ second_c = (refl, lit< tt)
    small _ _ second_r = (refl, lit< tt)

    never_late : (v i : ℕ) (k : Todo) → SecondAt v i → WritesAny (resetting g digit) k v → IsLate (resetting g digit) i k → ⊥
    never_late v i k second w far =
        let at = going g digit i far.at far.next far.point far.goes in
        let there = late_path g any_way (todo_after far.next) k (late_from at.spot (small v i second).0 far.starts) far.path in
        let is = late_any g digit k v there w in
        let below = (small v i second).1 in
        omega (arith, is, below)

    not_both : (v j : ℕ) (l : Todo) → WriterAt v j → First g digit v j l → ⊥
    not_both _ _ _ w first_c = elim w [ ]
    not_both _ _ _ w first_r = elim w [ ]

-- t#p3 alone writes by `<=`, and it alone not by `=`
updates_who : {g : Global} {digit : Digit} {i v : ℕ} {k : Todo} {n : Next} {a : Act} {early : Bool} → Made a v → Spot g digit i k n a early → i ≡ 3
updates_who by_update copies_q = refl

updates : (g : Global) (digit : Digit) (i v : ℕ) (k : Todo) → IsPoint (resetting g digit) i k → WritesLater (resetting g digit) k v → i ≡ 3
updates g digit i v k point w =
    let r = row_at g digit i k point in
    updates_who (made (resetting g digit) v (facts r.spot) w) r.spot

never_later : (g : Global) (digit : Digit) (i v : ℕ) (k : Todo) → (i == 3) ≡ false → IsPoint (resetting g digit) i k → WritesLater (resetting g digit) k v → ⊥
never_later g digit i v k other point w = differ i 3 other (updates g digit i v k point w)

never_3 : {g : Global} {digit : Digit} {v : ℕ} {k : Todo} {n : Next} {a : Act} {early : Bool} → Wrote a v → Spot g digit 3 k n a early → ⊥
never_3 (by_constant _ _) s = elim s [ ]
never_3 by_turn s = elim s [ ]

never_now : (g : Global) (digit : Digit) (v : ℕ) (k : Todo) → IsPoint (resetting g digit) 3 k → WritesNow (resetting g digit) k v → ⊥
never_now g digit v k point w =
    let r = row_at g digit 3 k point in
    never_3 (wrote (resetting g digit) v (facts r.spot) w) r.spot

modes : (g : Global) (digit : Digit) (grain : Grain) (v : ℕ) → K3 (resetting g digit) (reset_claims grain) v
modes g digit grain zero mode is =
    subst (IsAsModeSays (resetting g digit) (reset_claims grain) 0) (same_Some blocking mode is)
    (0, refl, (inl ((0 ∷ 5 ∷ []) ∷ [], refl), λ k point w. never_later g digit 0 0 k refl point w))
modes g digit grain (suc zero) mode is =
    subst (IsAsModeSays (resetting g digit) (reset_claims grain) 1) (same_Some blocking mode is)
    (2, refl, (inl ((2 ∷ []) ∷ [], refl), λ k point w. never_later g digit 2 1 k refl point w))
modes g digit grain (suc (suc zero)) mode is =
    subst (IsAsModeSays (resetting g digit) (reset_claims grain) 2) (same_Some blocking mode is)
    (1, refl, (inr (inr ((6 ∷ []) ∷ [], refl)), λ k point w. never_later g digit 1 2 k refl point w))
modes g digit grain (suc (suc (suc zero))) mode is =
    subst (IsAsModeSays (resetting g digit) (reset_claims grain) 3) (same_Some nonblocking mode is) (3, refl, (inl refl, λ k point w. never_now g digit 3 k point w))
modes g digit grain (suc (suc (suc (suc zero)))) mode is =
    subst (IsAsModeSays (resetting g digit) (reset_claims grain) 4) (same_Some net mode is) (bit g 110 Wire, refl, refl)
modes g digit grain (suc (suc (suc (suc (suc v))))) mode is = absurd (none-some mode is)

source_r : (g : Global) (digit : Digit) (grain : Grain) → IsSource (resetting g digit) (reset_claims grain) 1
source_r g digit grain = record { variable = (bit g 114 Reg, refl, refl); undriven = λ i blk w. no_block g digit grain i blk }

-- the continuous assignment reads `r` and writes `n`
abbrev read_in : Assign → List BitRange
read_in a = reads a.source

abbrev written_by : Assign → List BitRange
written_by a = writes a.target

assign_reads : (g : Global) (digit : Digit) (r : BitRange) → DriverReads (resetting g digit) (assign 0) r → whole 1 ≡ r
assign_reads g digit r is =
    one_in (whole 1) r (subst (λ rs. Contains rs r) (reads_inverted g) (subst (λ (a : Assign). Contains (read_in a) r) (sym (same_Some (the_inverse g) is.0 is.1)) is.2.0))

assign_writes : (g : Global) (digit : Digit) (j : ℕ) (w : BitRange) → DriverWrites (resetting g digit) (assign j) w → 4 ≡ w.signal
assign_writes g digit zero w is =
    ap (λ (q : BitRange). q.signal) (one_in (slice_range (the_bit 4)) w (subst (λ (a : Assign). Contains (written_by a) w) (sym (same_Some (the_inverse g) is.0 is.1)) is.2.0))
assign_writes g digit (suc j) w is = absurd (none-some is.0 is.1)

of_range : (r : BitRange) (b : Bit) → Has r b → r.signal ≡ b.signal
of_range r b has = eqb-true r.signal b.signal (covers_signal b.signal b.word b.place r has)

none_writes : (g : Global) (digit : Digit) (grain : Grain) (y : Driver) (b : Bit) → IsDriver (resetting g digit) (reset_claims grain) y → WritesBit (resetting g digit) y b → 1 ≡ b.signal → ⊥
none_writes g digit grain (assign j) b is w at = differ 1 4 refl (at ∙ sym (assign_writes g digit j w.range w.writes ∙ of_range w.range b w.has))
none_writes g digit grain (block_driver k) b is w at = no_block g digit grain k is

order : (g : Global) (digit : Digit) (grain : Grain) (y : Driver) → K4 (resetting g digit) (reset_claims grain) y
order g digit grain (assign zero) = record {
  known = λ r is needs.
      inr (inl (subst (λ (q : BitRange). IsSource (resetting g digit) (reset_claims grain) q.signal) (assign_reads g digit r needs) (source_r g digit grain)));
  earlier = λ r b y is needs bit has other writes.
      absurd (none_writes g digit grain y b other writes (ap (λ (q : BitRange). q.signal) (assign_reads g digit r needs) ∙ of_range r b has));
}
order g digit grain (assign (suc j)) = record {
  known = λ r is needs. absurd (none-some needs.0 needs.1);
  earlier = λ r b y is needs bit has other writes. absurd (none-some needs.0 needs.1);
}
order g digit grain (block_driver i) = record {
  known = λ r is needs. absurd (no_block g digit grain i is);
  earlier = λ r b y is needs bit has other writes. absurd (no_block g digit grain i is);
}

blocks : (g : Global) (digit : Digit) (grain : Grain) (i : ℕ) → K5 (resetting g digit) (reset_claims grain) i
blocks g digit grain i = record {
  grain = λ blk. absurd (no_block g digit grain i blk);
  shape = λ p blk is. absurd (no_block g digit grain i blk);
  quiet = λ k blk point. absurd (no_block g digit grain i blk);
  covered = λ r b blk l s h. absurd (no_block g digit grain i blk);
  before_reads = λ b k r blk is w u n same. no_block g digit grain i blk;
  before_end = λ b k next blk is w u goes pauses. no_block g digit grain i blk;
}

-- ---- roots

data EdgeAt : ℕ → Type 0 where
  edge_c : EdgeAt 0
  edge_n : EdgeAt 4

term_signal : (i : ℕ) (t : EventTerm) → TermAt i t → EdgeAt t.range.signal
term_signal _ _ term_1 = edge_c
term_signal _ _ term_3 = edge_c
term_signal _ _ term_n = edge_n

edge_signal : (g : Global) (digit : Digit) (v : ℕ) → EdgeAt v → IsEdgeSignal (resetting g digit) v
edge_signal g digit _ edge_c = record { process = 3; term = rise; has = has_term g digit rise (0, lit< tt, refl); edge = refl; of = refl }
edge_signal g digit _ edge_n = record { process = 3; term = fall; has = has_term g digit fall (1, lit< tt, refl); edge = refl; of = refl }

-- a way from the turn of the clock, and from where `r` is set, leads to where no time has gone by, and there neither is written
hot_c : {g : Global} {digit : Digit} {k : Todo} {n : Next} {a : Act} {early : Bool} → Wrote a 0 → Spot g digit 0 k n a early → Early g digit 0 (todo_after n)
hot_c by_turn turns_c = in_first loops_c
hot_c (by_constant _ _) s = elim s [ ]

hot_r : {g : Global} {digit : Digit} {k : Todo} {n : Next} {a : Act} {early : Bool} → Wrote a 1 → Spot g digit 2 k n a early → Early g digit 2 (todo_after n)
hot_r (by_constant _ _) gives_r = in_first (rests 2)

never_hot_c : (g : Global) (digit : Digit) (i : ℕ) (k : Todo) → WriterAt 0 i → WritesAny (resetting g digit) k 0 → IsHot (resetting g digit) true i 0 k → ⊥
never_hot_c g digit _ k writer_c w hot = first_of 0 (early_any g digit 0 0 k (early_path g digit 0 (todo_after hot.next) k from hot.path) w)
  where
    from : Early g digit 0 (todo_after hot.next)
    from =
        let at = going g digit 0 hot.at hot.next hot.point hot.goes in
        hot_c (wrote (resetting g digit) 0 (facts at.spot) hot.starts) at.spot

    first_of : (n : ℕ) → First g digit 0 0 k → ⊥
    first_of n f = elim f [ ]

never_hot_r : (g : Global) (digit : Digit) (i : ℕ) (k : Todo) → WriterAt 1 i → WritesAny (resetting g digit) k 1 → IsHot (resetting g digit) true i 1 k → ⊥
never_hot_r g digit _ k writer_r w hot = first_of 0 (early_any g digit 2 1 k (early_path g digit 2 (todo_after hot.next) k from hot.path) w)
  where
    from : Early g digit 2 (todo_after hot.next)
    from =
        let at = going g digit 2 hot.at hot.next hot.point hot.goes in
        hot_r (wrote (resetting g digit) 1 (facts at.spot) hot.starts) at.spot

    first_of : (n : ℕ) → First g digit 1 2 k → ⊥
    first_of n f = elim f [ ]

copies_root : (g : Global) (digit : Digit) (root v : ℕ) → RootAt root v → CopiesRoot (resetting g digit) true root v
copies_root g digit _ _ root_c = itself (bit g 99 Reg, refl, refl, refl, refl)
copies_root g digit _ _ root_n = copies_r g digit

sound_root : (g : Global) (digit : Digit) (grain : Grain) (root v : ℕ) → RootAt root v → IsSoundRoot (resetting g digit) (reset_claims grain) root
sound_root g digit grain _ _ root_c = record {
  variable = (bit g 99 Reg, refl, refl);
  mode = refl;
  writer = (0, refl, ((0 ∷ 5 ∷ []) ∷ [], refl));
  once = λ i k writer point w hot. never_hot_c g digit i k (writer_at g digit grain 0 i writer) w hot;
}
sound_root g digit grain _ _ root_n = record {
  variable = (bit g 114 Reg, refl, refl);
  mode = refl;
  writer = (2, refl, ((2 ∷ []) ∷ [], refl));
  once = λ i k writer point w hot. never_hot_r g digit i k (writer_at g digit grain 1 i writer) w hot;
}

roots : (g : Global) (digit : Digit) (grain : Grain) (v : ℕ) → K6 (resetting g digit) (reset_claims grain) v
roots g digit grain v = record {
  one_entry = λ name is edge. entry_at v name (subst EdgeAt edge.of (term_signal edge.process edge.term (term_at g digit edge.process edge.term edge.has))) (name_at g digit v name is);
  no_entry = λ name is none. no_entry_at v name none (name_at g digit v name is);
  copies = λ root is. copies_root g digit root v (root_at g digit grain root v is);
  root = λ root is. sound_root g digit grain root v (root_at g digit grain root v is);
}
  where
    entry_at : (v : ℕ) (name : Name) → EdgeAt v → NameAt v name → times_in name (edge_signals (reset_claims grain)) ≡ 1
    entry_at _ _ edge_c name_c = refl
    entry_at _ _ edge_n name_n = refl

    no_entry_at : (v : ℕ) (name : Name) → (IsEdgeSignal (resetting g digit) v → ⊥) → NameAt v name → times_in name (edge_signals (reset_claims grain)) ≡ 0
    no_entry_at _ _ none name_c = absurd (none (edge_signal g digit 0 edge_c))
    no_entry_at _ _ none name_r = refl
    no_entry_at _ _ none name_d = refl
    no_entry_at _ _ none name_q = refl
    no_entry_at _ _ none name_n = absurd (none (edge_signal g digit 4 edge_n))

-- ---- edges

waits : (g : Global) (digit : Digit) (grain : Grain) (i : ℕ) → K7 (resetting g digit) (reset_claims grain) i
waits g digit grain i = record {
  events = λ k l number ts edge point goes.
      let at = going g digit i k (wait number ts l) point goes in
      are_edges at.spot;
  no_delay = λ k l number ticks edge point goes.
      let at = going g digit i k (after number ticks l) point goes in
      no_pause
      (subst (λ n. Spot g digit n k (after number ticks l) at.act at.early) (edge_is i (kind_at g digit grain i edges edge)) at.spot);
  one_signal = λ t u root edge has also is is_too.
      same_signal root t.range.signal u.range.signal (root_at g digit grain root t.range.signal is) (root_at g digit grain root u.range.signal is_too);
  apart = λ one other r edge fires also. same_root one other r (timed g digit grain i one r fires) (timed g digit grain i other r also);
  arrives = λ lists delay event r is comes ends fires. never_at_once i lists delay event r (kind_at g digit grain i (mixed lists) is) comes fires;
}
  where
    are_edges : {i : ℕ} {k l : Todo} {number : ℕ} {ts : List EventTerm} {a : Act} {early : Bool} → Spot g digit i k (wait number ts l) a early → AreEdges ts
    are_edges awaits_c = refl
    are_edges listens_q = refl

    no_pause : {k l : Todo} {number ticks : ℕ} {a : Act} {early : Bool} → Spot g digit 3 k (after number ticks l) a early → ⊥
    no_pause s = elim s [ ]

    same_signal : (root v u : ℕ) → RootAt root v → RootAt root u → v ≡ u
    same_signal _ _ _ root_c root_c = refl
    same_signal _ _ _ root_n root_n = refl

    same_root : (one other r : ℕ) → Timed one r → Timed other r → one ≡ other
    same_root _ _ _ timed_c timed_c = refl
    same_root _ _ _ timed_r timed_r = refl

    silent : {k : Todo} {n : Next} {a : Act} (r : ℕ) → Late g k n a → EdgeEnds (resetting g digit) (reset_claims grain) n r → ⊥
    silent r late_delays fires = fires
    silent r late_gives fires = fires
    silent r late_rests fires = fires

    never_at_once : (i : ℕ) (lists : List (List ℕ)) (delay event : Next) (r : ℕ) → KindAt i (mixed lists) → Arrives (resetting g digit) i delay event →
        EdgeEnds (resetting g digit) (reset_claims grain) event r → ⊥
    never_at_once _ _ delay event r kind_1 comes fires =
        let pause = after comes.number comes.ticks comes.behind in
        let at = going g digit 1 comes.from pause comes.point (subst (Goes comes.from) comes.delay_is comes.goes) in
        let there = late_path g is_zero_time comes.behind comes.to (late_from at.spot refl refl) (by_path true is_zero_time comes.behind comes.to comes.path) in
        silent r there.spot
        (subst (λ n. EdgeEnds (resetting g digit) (reset_claims grain) n r) (sym ((late_facts there.spot).ways event comes.waits)) fires)

-- ---- residues

tick_next : (r : ℕ) → Ticks r → Ticks ((r + 5) % 10)
tick_next r at = each_in (λ n. Ticks ((n + 5) % 10)) (0 ∷ 5 ∷ []) ((1, lit< tt, refl), ((0, lit< tt, refl), tt)) r at

residues : (g : Global) (digit : Digit) (grain : Grain) (i : ℕ) → K8 (resetting g digit) (reset_claims grain) i
residues g digit grain i = record {
  no_event = λ k l number ts delay point goes.
      let at = going g digit i k (wait number ts l) point goes in
      never_waits (kind_at g digit grain i (delays delay.0) delay.1) at.spot;
  one_each = λ lists is. each_listed i lists (lists_at g digit grain i lists is);
  from_start = λ lists k l number ticks is slot goes above.
      let r = early_at g digit i k slot in
      let same = (facts r.spot).ways (after number ticks l) goes in
      starts (lists_at g digit grain i lists is) (subst (λ n. Spot g digit i k n r.act true) same r.spot);
  from_residue = λ lists k l number ticks r is runs goes.
      let at = leaving g i runs.next k (after number ticks l) (run_of g digit i lists k r runs) goes in
      goes_on r (lists_at g digit grain i lists is) at.run runs.starts;
  from_edge = λ lists k l number ticks r is runs goes.
      let at = leaving g i runs.next k (after number ticks l) (ran_at g digit true i (EdgeEnds (resetting g digit) (reset_claims grain)) k r (λ l e. e) runs) goes in
      from_rise r (kind_at g digit grain i (mixed lists) is) at.run runs.starts;
}
  where
    never_waits : {i : ℕ} {k l : Todo} {number : ℕ} {ts : List EventTerm} {a : Act} {early : Bool} {lists : List (List ℕ)} → KindAt i (delays lists) →
        Spot g digit i k (wait number ts l) a early → ⊥
    never_waits kind_0 s = elim s [ ]
    never_waits kind_2 s = elim s [ ]

    each_listed : (i : ℕ) (lists : List (List ℕ)) → ListsAt i lists → length lists ≡ length (controls_of (resetting g digit) i)
    each_listed i lists at = one_list i lists at ∙ sym (ap length (controls g digit i lists at))
      where
        one_list : (i : ℕ) (lists : List (List ℕ)) → ListsAt i lists → length lists ≡ length (controls_are i)
        one_list _ _ lists_0 = refl
        one_list _ _ lists_1 = refl
        one_list _ _ lists_2 = refl

    starts : {i : ℕ} {k l : Todo} {number ticks : ℕ} {a : Act} {lists : List (List ℕ)} → ListsAt i lists → Spot g digit i k (after number ticks l) a true →
        DelayEnds (resetting g digit) i lists (after number ticks l) (ticks % 10)
    starts lists_0 pauses_c = ends_so g digit 0 lists_c 1 5 lists_0 (1, lit< tt, refl)
    starts lists_2 pauses_r = ends_so g digit 2 ((2 ∷ []) ∷ []) 0 2 lists_2 (0, lit< tt, refl)
    starts lists_1 s = elim s [ ]

    goes_on : {i : ℕ} {c : Next} {k l : Todo} {number ticks : ℕ} {a : Act} {lists : List (List ℕ)} (r : ℕ) → ListsAt i lists → Run g i c k (after number ticks l) a →
        DelayEnds (resetting g digit) i lists c r → DelayEnds (resetting g digit) i lists (after number ticks l) ((r + ticks) % 10)
    goes_on r lists_0 run_pauses ends =
        ends_so g digit 0 lists_c 1 ((r + 5) % 10) lists_0 (tick_next r (ends_of g digit 0 lists_c 1 r lists_0 ends))
    goes_on r lists_1 run_delays ends = absurd ends
    goes_on r lists_2 s ends = elim s [ ]

    from_rise : {i : ℕ} {c : Next} {k l : Todo} {number ticks : ℕ} {a : Act} {lists : List (List ℕ)} (r : ℕ) → KindAt i (mixed lists) → Run g i c k (after number ticks l) a →
        EdgeEnds (resetting g digit) (reset_claims grain) c r → DelayEnds (resetting g digit) i lists (after number ticks l) ((r + ticks) % 10)
    from_rise r kind_1 run_delays ends =
        let is = fires_rise g digit grain r (subst (λ t. Fires (resetting g digit) (reset_claims grain) t r) (sym (one_in rise ends.0 ends.1)) ends.2) in
        ends_so g digit 1 ((6 ∷ []) ∷ []) 3 ((r + 1) % 10) lists_1 (subst (λ n. Contains (6 ∷ []) ((n + 1) % 10)) is (0, lit< tt, refl))

-- ---- reads

-- no net is read by a process: a cone is a signal
cone_is : (g : Global) (digit : Digit) (grain : Grain) (u : ℕ) (r : BitRange) → (r.signal == 4) ≡ false → InCone (resetting g digit) (reset_claims grain) u r → r.signal ≡ u
cone_is g digit grain u _ other (here r source same touches) = same
cone_is g digit grain u _ other (through r w q (assign j) is writes meets needed cone) =
    absurd (differ r.signal 4 other (sym (assign_writes g digit j w writes ∙ eqb-true w.signal r.signal (meets_of (resetting g digit) w r meets))))
cone_is g digit grain u _ other (through r w q (block_driver i) is writes meets needed cone) = absurd (no_block g digit grain i is)

-- `d` is written at 6
written_at : {c : Next} {k : Todo} {n : Next} {a : Act} (g : Global) (digit : Digit) (grain : Grain) (r : ℕ) → Wrote a 2 → Run g 1 c k n a →
    DelayEnds (resetting g digit) 1 ((6 ∷ []) ∷ []) c r ⊎ EdgeEnds (resetting g digit) (reset_claims grain) c r → 6 ≡ r
written_at g digit grain r (by_constant _ _) run_gives (inl ends) = one_in 6 r (ends_of g digit 1 ((6 ∷ []) ∷ []) 3 r lists_1 ends)
written_at g digit grain r (by_constant _ _) run_gives (inr ends) = absurd ends

write_slot : (g : Global) (digit : Digit) (grain : Grain) (r : ℕ) → HasWriteSlot (resetting g digit) (reset_claims grain) 2 r → 6 ≡ r
write_slot g digit grain r h = by_writer h.writer h.at (writer_at g digit grain 2 h.writer h.is) h.writes h.slot
  where
    by_writer : (i : ℕ) (k : Todo) → WriterAt 2 i → WritesNow (resetting g digit) k 2 → HasSlot (resetting g digit) (reset_claims grain) i k r → 6 ≡ r
    by_writer _ k writer_d w slot =
        let at = ran_at g digit true 1 (Ends (resetting g digit) (reset_claims grain) 1 (Some (mixed ((6 ∷ []) ∷ [])))) k r (λ l e. never_ends (resetting g digit) (reset_claims grain) 1 (Some (mixed ((6 ∷ []) ∷ []))) l r e) slot in
        written_at g digit grain r (wrote (resetting g digit) 2 (run_facts at.run) w) at.run slot.starts

-- t#p3 runs at 5 and at 2
by_term : (g : Global) (digit : Digit) (grain : Grain) (r : ℕ) (t : EventTerm) → Contains (rise ∷ fall ∷ []) t → Fires (resetting g digit) (reset_claims grain) t r → (5 ≡ r) ⊎ (2 ≡ r)
by_term g digit grain r t is fires =
    each_in (λ q. Fires (resetting g digit) (reset_claims grain) q r → (5 ≡ r) ⊎ (2 ≡ r)) (rise ∷ fall ∷ [])
    ((λ f. inl (fires_rise g digit grain r f)), ((λ f. inr (fires_fall g digit grain r f)), tt)) t is fires

runs_at : {c : Next} {k : Todo} {n : Next} {a : Act} (g : Global) (digit : Digit) (grain : Grain) (r : ℕ) → Run g 3 c k n a → EdgeEnds (resetting g digit) (reset_claims grain) c r →
    (5 ≡ r) ⊎ (2 ≡ r)
runs_at g digit grain r run_copies ends = by_term g digit grain r ends.0 ends.1 ends.2
runs_at g digit grain r run_again ends = by_term g digit grain r ends.0 ends.1 ends.2
runs_at g digit grain r run_listens ends = by_term g digit grain r ends.0 ends.1 ends.2

apart : (g : Global) (digit : Digit) (grain : Grain) (k : Todo) → AreApart (resetting g digit) (reset_claims grain) 3 2 k
apart g digit grain k r writes slot =
    let at = ran_at g digit true 3 (EdgeEnds (resetting g digit) (reset_claims grain)) k r (λ l e. e) slot in
    never (write_slot g digit grain r writes) (runs_at g digit grain r at.run slot.starts)
  where
    never : 6 ≡ r → (5 ≡ r) ⊎ (2 ≡ r) → ⊥
    never is (inl rises) = differ 5 6 refl (rises ∙ sym is)
    never is (inr falls) = differ 2 6 refl (falls ∙ sym is)

readings : (g : Global) (digit : Digit) (grain : Grain) (i : ℕ) → K9 (resetting g digit) (reset_claims grain) i
readings g digit grain i = record { fixed = λ k r u seq point needs blocking cone. fixed i k r u (row_at g digit i k point) needs cone }
  where
    Fixed : ℕ → Todo → BitRange → ℕ → Type 0
    Fixed i k r u =
        IsOwnRead (resetting g digit) (reset_claims grain) i u r.signal k ⊎ (IsOwnEdge (resetting g digit) (reset_claims grain) i r.signal k ⊎ AreApart (resetting g digit) (reset_claims grain) i u k)

    own : (k : Todo) (u : ℕ) → 0 ≡ u → Fixed 0 k (whole 0) u
    own k u is = inl (subst (λ n. IsWriter (resetting g digit) (reset_claims grain) n 0) is refl, inl (sym is))

    elsewhere : (k : Todo) (u : ℕ) → 2 ≡ u → Fixed 3 k (whole 2) u
    elsewhere k u is = inr (inr (subst (λ n. AreApart (resetting g digit) (reset_claims grain) 3 n k) is (apart g digit grain k)))

    by_act : {i : ℕ} {n : Next} {a : Act} {early : Bool} {r : BitRange} (k : Todo) (u : ℕ) → Took a r → Spot g digit i k n a early → InCone (resetting g digit) (reset_claims grain) u r → Fixed i k r u
    by_act k u of_c turns_c cone = own k u (cone_is g digit grain u (whole 0) refl cone)
    by_act k u of_d copies_q cone = elsewhere k u (cone_is g digit grain u (whole 2) refl cone)

    fixed : (i : ℕ) (k : Todo) (r : BitRange) (u : ℕ) → Row g digit i k → Reads (resetting g digit) (reset_claims grain) k r → InCone (resetting g digit) (reset_claims grain) u r → Fixed i k r u
    fixed i k r u at (inl reads) cone = by_act k u (took (resetting g digit) r (facts at.spot) reads) at.spot cone
    fixed i k r u at (inr shows) cone = absurd (false≢true shows.0)

before : (g : Global) (digit : Digit) (grain : Grain) → Before (resetting g digit) (reset_claims grain)
before g digit grain = record {
  names_signals = λ v name is. signal_listed grain v name (name_at g digit v name is);
  names_assigns = λ j. names_assigns g digit grain j;
  names_processes = λ i. record {
    listed = λ name is. (process_listed g digit grain i name is).listed;
    block_ordered = λ name is blk. absurd (no_block g digit grain i blk);
    not_ordered = λ name is other. (process_listed g digit grain i name is).unordered;
  };
  names_known = λ n name is. names_known g digit grain n name is;
  writers = λ v. writers g digit grain v;
  modes = λ v. modes g digit grain v;
  order = λ y. order g digit grain y;
  blocks = λ i. blocks g digit grain i;
  roots = λ v. roots g digit grain v;
  edges = λ i. waits g digit grain i;
  residues = λ i. residues g digit grain i;
  readings = λ i. readings g digit grain i;
}

-- ---- the first slot

-- `c = 0` is no rising edge
fires_none_c : (g : Global) (digit : Digit) (grain : Grain) (i : ℕ) → FiresNone (resetting g digit) (reset_claims grain) 0 i (from_c g digit)
fires_none_c g digit grain i = record {
  digit = Zero;
  known = known_zero;
  gives = gives_c g (from_r g digit);
  silent = λ j t edge has first event is seen. no_edge j t edge (term_at g digit j t has) (root_at g digit grain 0 t.range.signal is) seen;
}
  where
    no_edge : (j : ℕ) (t : EventTerm) (edge : Edge) → TermAt j t → RootAt 0 t.range.signal → SeenAs (resetting g digit) true t edge → is_edge edge X Zero ≡ false
    no_edge _ _ edge term_1 root seen = ap (λ e. is_edge e X Zero) (seen.plain (not_inverted g digit))
    no_edge _ _ edge term_3 root seen = ap (λ e. is_edge e X Zero) (seen.plain (not_inverted g digit))
    no_edge _ _ edge term_n root seen = elim root [ ]

-- nor makes `r = 0` a falling one of `n`
fires_none_r : (g : Global) (grain : Grain) (i : ℕ) → FiresNone (resetting g Zero) (reset_claims grain) 1 i (from_r g Zero)
fires_none_r g grain i = record {
  digit = Zero;
  known = known_zero;
  gives = gives_digit g Zero (awaiting g);
  silent = λ j t edge has first event is seen. no_edge j t edge (term_at g Zero j t has) (root_at g Zero grain 1 t.range.signal is) seen;
}
  where
    no_edge : (j : ℕ) (t : EventTerm) (edge : Edge) → TermAt j t → RootAt 1 t.range.signal → SeenAs (resetting g Zero) true t edge → is_edge edge X Zero ≡ false
    no_edge _ _ edge term_1 root seen = elim root [ ]
    no_edge _ _ edge term_3 root seen = elim root [ ]
    no_edge _ _ edge term_n root seen = ap (λ e. is_edge e X Zero) (seen.inverse (is_inverted g Zero))

first_root : (g : Global) (digit : Digit) (grain : Grain) (v : ℕ) → ((i : ℕ) (k : Todo) → First g digit v i k → FiresNone (resetting g digit) (reset_claims grain) v i k) →
    K10_Signal (resetting g digit) (reset_claims grain) v
first_root g digit grain v none = record {
  once = λ i j k l root slot w late more. same v i j k l (early_any g digit i v k (early_at g digit i k slot) w) (early_any g digit j v l (early_at g digit j l late) more);
  now = λ i k root slot w. early_later g digit i v k (early_at g digit i k slot) w;
  constant = λ i k root slot w. none i k (early_now g digit i v k (early_at g digit i k slot) w);
}
  where
    same : (v i j : ℕ) (k l : Todo) → First g digit v i k → First g digit v j l → (i ≡ j) × (k ≡ l)
    same _ _ _ _ _ first_c first_c = (refl, refl)
    same _ _ _ _ _ first_r first_r = (refl, refl)

first_roots : (g : Global) (grain : Grain) (v : ℕ) → K10_Signal (resetting g Zero) (reset_claims grain) v
first_roots g grain v = first_root g Zero grain v (λ i k first. none v i k first)
  where
    none : (v i : ℕ) (k : Todo) → First g Zero v i k → FiresNone (resetting g Zero) (reset_claims grain) v i k
    none _ i _ first_c = fires_none_c g Zero grain i
    none _ i _ first_r = fires_none_r g grain i

first_clock : (g : Global) (digit : Digit) (grain : Grain) → K10_Signal (resetting g digit) (reset_claims grain) 0
first_clock g digit grain = first_root g digit grain 0 (λ i k first. none i k first)
  where
    none : (i : ℕ) (k : Todo) → First g digit 0 i k → FiresNone (resetting g digit) (reset_claims grain) 0 i k
    none i _ first_c = fires_none_c g digit grain i

first_slot : (g : Global) (digit : Digit) (grain : Grain) (i : ℕ) → K10_Process (resetting g digit) (reset_claims grain) i
first_slot g digit grain i = record {
  variable = λ k r seq slot needs. absurd (never k r slot needs);
  written = λ k r seq slot needs. absurd (never k r slot needs);
  alone = λ k r j seq slot needs w. absurd (never k r slot needs);
  first = λ k l r j wide seq slot needs there now. absurd (never k r slot needs);
  untouched = λ k u r prologue w needed cone. no_needs r needed;
}
  where
    never : (k : Todo) (r : BitRange) → IsSlot0 (resetting g digit) true i k → Reads (resetting g digit) (reset_claims grain) k r → ⊥
    never k r slot (inl reads) = early_reads g digit i k r (early_at g digit i k slot) reads
    never k r slot (inr shows) = false≢true shows.0

    no_needs : (r : BitRange) → BlockNeeds (resetting g digit) (reset_claims grain) r → ⊥
    no_needs r (BlockNeeds.needs i blk needed) = no_block g digit grain i blk
    no_needs r (BlockNeeds.shows i k blk displays point shown) = no_block g digit grain i blk

-- ---- its certificate is one

certificate : (grain : Grain) → IsWideCertificate (reset_claims grain)
certificate grain = record {
  version = inr refl;
  displays = λ one. refl;
  starts = λ p one has is. differ 3 1 refl one;
  narrow = inl refl;
  unmixed = inl refl;
  above = lit< tt;
  below = lit≤ tt;
  few_edges = lit≤ tt;
  few_ordered = lit≤ tt;
  few_processes = lit≤ tt;
  few_signals = lit≤ tt;
  lists = sound_lists_of 4096 10 (reset_claims grain).processes (
    one_list_of 4096 10 (0 ∷ 5 ∷ []) (record { few = lit≤ tt; rising = refl }),
    (
      one_list_of 4096 10 (6 ∷ []) (record { few = lit≤ tt; rising = refl }),
      (one_list_of 4096 10 (2 ∷ []) (record { few = lit≤ tt; rising = refl }), (tt, tt)),
    ),
  );
}

keeping : (g : Global) (grain : Grain) → Keeping (resetting g Zero) (reset_claims grain)
keeping g grain =
    with_first_slot (resetting g Zero) (reset_claims grain) (before g Zero grain) (λ v. first_roots g grain v) (λ i. first_slot g Zero grain i)
    (λ i start is. absurd (no_block g Zero grain i (start, is)))

pub reset_keeps_the_rules : AResetKeepsTheRules
reset_keeps_the_rules g grain = keeps_wide_rules (resetting g Zero) (reset_claims grain) (formed g Zero) (certificate grain) (keeping g grain)

-- ---- with `r = 1` at the start

slot_r : (g : Global) (digit : Digit) → IsSlot0 (resetting g digit) true 1 (from_r g digit)
unfolding out-Statement denote.Hole.Carrier.out
slot_r g digit =
    subst (λ k. PathBy (nexts_by true) is_zero_time k (from_r g digit)) (sym (first_is g digit))
    (PathBy.goes (from_c g digit) (from_r g digit) (on (from_r g digit)) PathBy.begins (Among.first []) refl refl)

writes_r : (g : Global) (digit : Digit) → WritesNow (resetting g digit) (from_r g digit) 1
unfolding out-Statement denote.Hole.Carrier.out
writes_r g digit = record { range = slice_range (the_bit 1); listed = ((0, lit< tt, refl), tt); of = refl }

heard_fall : (g : Global) (digit : Digit) → IsHeardAtStart (resetting g digit) 3 fall
unfolding out-Statement denote.Hole.Carrier.out
heard_fall g digit = record {
  control = listening g;
  number = 1;
  terms = rise ∷ fall ∷ [];
  behind = copying g;
  slot0 = PathBy.goes (again g) (listening g) (on (listening g)) PathBy.begins (Among.first []) refl refl;
  goes = Among.first [];
  is = (1, lit< tt, refl);
}

root_r : (g : Global) (digit : Digit) (grain : Grain) → IsRootOf (resetting g digit) (reset_claims grain) 1 4
root_r g digit grain = record { place = 1; entry = record { root = signal_in_t 114; signal = signal_in_t 110 }; is = refl; signal = refl; root_is = refl }

broken : (g : Global) (grain : Grain) → K10_Signal (resetting g One) (reset_claims grain) 1 → ⊥
broken g grain h =
    let none = h.constant 1 (from_r g One) (4, root_r g One grain) (slot_r g One) (writes_r g One) in
    let quiet = none.silent 3 fall Posedge (has_term g One fall (1, lit< tt, refl)) (λ wide. (heard_fall g One, λ own. other own.0)) refl (root_r g One grain)
    (record { plain = λ other. absurd (other (is_inverted g One)); inverse = λ is. refl }) in
    let digit = same_Some One none.digit (sym (gives_digit g One (awaiting g)) ∙ none.gives) in
    true≢false (ap (λ d. is_edge Posedge X d) digit ∙ quiet)
  where
    other : ◌≡◌ {A = ℕ} 3 1 → ⊥
    other e = false≢true (ap (λ (n : ℕ). n == 1) e)

pub early_reset_is_reported : AnEarlyResetIsReported
early_reset_is_reported g grain = record {
  below = λ j less. before_kept (resetting g One) (reset_claims grain) (before g One grain) j less;
  n = 1;
  subject = signal 1;
  is = refl;
  told = refl;
  first = λ m s less is. first_kept m s less is;
  broken = λ keeps. broken g grain keeps;
}
  where
    first_kept : (m : ℕ) (s : Subject) → m < 1 → slice_get (subjects (resetting g One) (reset_claims grain)) m ≡ Some s → Keeps (resetting g One) (reset_claims grain) k10 s
    first_kept zero s less is = subst (Keeps (resetting g One) (reset_claims grain) k10) (same_Some (signal 0) s is) (first_clock g One grain)
    first_kept (suc m) s less is = absurd (omega (arith, less))
