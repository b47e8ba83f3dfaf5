-- A clocked design keeps the rules: two processes that exchange two bits by `<=` at the rising edges of a clock.
use Rattle.std.proofs.Common.{◌≡◌, ℕ, zero, suc, ◌+◌, ◌%◌, ◌<◌, ◌⊎◌, true, false, Some, List, [], ◌∷◌, ◌++◌, length, slice_get, refl, sym, ◌∙◌, ap, subst, inl, inr, lit<, lit≤, arith}
use Rattle.std.proofs.lemmas.Bool.{false≢true}
use Rattle.std.proofs.lemmas.Option.{none-some, same_Some}
use Rattle.std.specs.declared.alloc.Global.{Global}
use Rattle.std.specs.List.{Contains}
use Rattle.vs_design.specs.vs_logic4.specs.declared.digit.Digit.{Digit}
use Rattle.vs_design.specs.vs_logic4.specs.declared.digit.Digit.TheVariants.{Zero, One, X}
use Rattle.vs_design.specs.vs_logic4.specs.Edges.{is_edge}
use Rattle.vs_design.specs.declared.range.BitRange.{BitRange}
use Rattle.vs_design.specs.declared.signal.SignalKind.TheVariants.{Reg}
use Rattle.vs_design.specs.declared.statement.EventTerm.{EventTerm}
use Rattle.vs_design.specs.declared.statement.Statement.{out-Statement}
use Rattle.vs_design.specs.declared.expression.Typed.TheVariants as e
use Rattle.vs_design.specs.WellFormed.{WellFormed, is_sound_assignment}
use Rattle.vs_design.proofs.FormLemmas.{numbers_Later as numbers_later, sound_Later as sound_later}
use Rattle.vs_independence.specs.vs_process.specs.declared.moves.Grain.{Grain}
use Rattle.vs_process.specs.Landings.{todo_after}
use Rattle.vs_process.specs.Places.{Todo}
use Rattle.vs_process.specs.Steps.{Next}
use Rattle.vs_laws.specs.Race.{bit, operand, target}
use Rattle.vs_laws.proofs.Race.{reads_number, reads_operand, size_operand, value_number}
use Rattle.vs_rules.specs.Claims.{Name, blocking, nonblocking, all_names, claim_of, edge_names, edge_signals, process_names, signal_names, second_in, times_in, writer_in, IsSignalNamed, IsProcessNamed, IsWriter, IsSecond, IsRootOf, IsRoot}
use Rattle.vs_rules.specs.Constants.{zero as known_zero}
use Rattle.vs_rules.specs.Controls.{controls_of, list_of}
use Rattle.vs_rules.specs.Drivers.{Driver, assign, block as block_driver, here, through, InCone}
use Rattle.vs_rules.specs.Paths.{IsHot, IsLate, IsSlot0, Writes, WritesAny, is_plain, is_zero_time}
use Rattle.vs_rules.specs.Rules.{K1_Signal, K1_Name, K2, K3, K4, K6, K7, K8, K9, K10_Signal, K10_Process, AreApart, AreEdges, BlockNeeds, FiresNone, IsAsModeSays, IsEdgeSignal, IsOnlyIn, IsOwnEdge, IsOwnRead, IsSoundRoot}
use Rattle.vs_rules.specs.Copies.{CopiesRoot, itself}
use Rattle.vs_rules.proofs.Copies.{seen_plain}
use Rattle.vs_rules.specs.Blocks.{K5}
use Rattle.vs_rules.specs.Slots.{DelayEnds}
use Rattle.vs_rules.specs.Limits.{IsCertificate}
use Rattle.vs_rules.specs.Verdict.{Keeping}
use Rattle.vs_laws.specs.Block.{no_ticks}
use Rattle.vs_laws.specs.Names.{signal_in_t, process_in_t}
use Rattle.vs_laws.specs.Swap.{AClockedDesignKeepsTheRules, copies_later, swap_claims, swapping_later}
use Rattle.vs_laws.proofs.Certificates.{lists_unmixed, no_lists, no_starters, none_mixed, one_list, sound_lists}
use Rattle.vs_laws.proofs.Kept.{keeps_rules}
use Rattle.vs_laws.proofs.Swap.{IsSoundBody, formed, signals_of}
use Rattle.vs_laws.proofs.Texts.{controls_assign}
use Rattle.vs_laws.proofs.SwapPoints.{IsInit, IsSide, setting, Way, way_at, spot_behind, early_spot, spot_at, spot_path, early_path, early_at, wrote, made, early_now, early_later, early_any, Read, needs, no_early_needs, event, pause, term_is, edge_signal, edge_signal_is, init_is, side_is, init_plain, read_is, IsFirst, IsLater, wrote_who, side_now, turned_early, made_who, writes_init, writes_clock, writes_side, signal_text, written, controls_3, writer_is, second_is, is_writer, is_second, lists_of, lists_are, edge_is, no_block, root_is}

-- ---- it is well formed

sound_copy : (g : Global) (to from : ℕ) → is_sound_assignment (signals_of g) (target g to) (operand from) ≡ true → IsSoundBody g (copies_later g to from)
sound_copy g to from h = record { sound = sound_later (signals_of g) 2 no_ticks (target g to) (operand from) ∙ h; number = numbers_later 2 no_ticks (target g to) (operand from) }

formed_later : (g : Global) → WellFormed (swapping_later g)
formed_later g =
    formed g (copies_later g 1 2) (copies_later g 2 1) (sound_copy g 1 2 (rw (reads_operand 2, size_operand 2) refl)) (sound_copy g 2 1 (rw (reads_operand 1, size_operand 1) refl))

-- ---- the rules

abbrev Listed : Grain → Name → Type 0
Listed grain name = IsOnlyIn name (signal_names (swap_claims grain)) [] (process_names (swap_claims grain))

names_signals : (g : Global) (grain : Grain) (v : ℕ) → K1_Signal (swapping_later g) (swap_claims grain) v
names_signals g grain zero name is = subst (Listed grain) (same_Some (signal_in_t 99) name is) (record { once = refl; nowhere = refl; nowhere_else = refl })
names_signals g grain (suc zero) name is = subst (Listed grain) (same_Some (signal_in_t 97) name is) (record { once = refl; nowhere = refl; nowhere_else = refl })
names_signals g grain (suc (suc zero)) name is = subst (Listed grain) (same_Some (signal_in_t 98) name is) (record { once = refl; nowhere = refl; nowhere_else = refl })
names_signals g grain (suc (suc (suc v))) name is = absurd (none-some name is)

abbrev ListedProcess : Grain → Name → Type 0
ListedProcess grain name = IsOnlyIn name (process_names (swap_claims grain)) (signal_names (swap_claims grain)) (edge_names (swap_claims grain))

process_listed : (g : Global) (grain : Grain) (i : ℕ) (name : Name) → IsProcessNamed (swapping_later g) i name → ListedProcess grain name
process_listed g grain zero name is = subst (ListedProcess grain) (same_Some (process_in_t 48) name is) (record { once = refl; nowhere = refl; nowhere_else = refl })
process_listed g grain (suc zero) name is = subst (ListedProcess grain) (same_Some (process_in_t 49) name is) (record { once = refl; nowhere = refl; nowhere_else = refl })
process_listed g grain (suc (suc zero)) name is = subst (ListedProcess grain) (same_Some (process_in_t 50) name is) (record { once = refl; nowhere = refl; nowhere_else = refl })
process_listed g grain (suc (suc (suc zero))) name is = subst (ListedProcess grain) (same_Some (process_in_t 51) name is) (record { once = refl; nowhere = refl; nowhere_else = refl })
process_listed g grain (suc (suc (suc (suc zero)))) name is = subst (ListedProcess grain) (same_Some (process_in_t 52) name is) (record { once = refl; nowhere = refl; nowhere_else = refl })
process_listed g grain (suc (suc (suc (suc (suc zero))))) name is = subst (ListedProcess grain) (same_Some (process_in_t 53) name is) (record { once = refl; nowhere = refl; nowhere_else = refl })
process_listed g grain (suc (suc (suc (suc (suc (suc i)))))) name is = absurd (none-some name is)

-- the names of the certificate are those of the design's signals and processes
signal_known : (g : Global) (grain : Grain) (n : ℕ) (name : Name) → slice_get (signal_names (swap_claims grain)) n ≡ Some name → K1_Name (swapping_later g) (swap_claims grain) name
signal_known g grain zero name is = subst (K1_Name (swapping_later g) (swap_claims grain)) (same_Some (signal_in_t 99) name is) (inl (0, refl))
signal_known g grain (suc zero) name is = subst (K1_Name (swapping_later g) (swap_claims grain)) (same_Some (signal_in_t 97) name is) (inl (1, refl))
signal_known g grain (suc (suc zero)) name is = subst (K1_Name (swapping_later g) (swap_claims grain)) (same_Some (signal_in_t 98) name is) (inl (2, refl))
signal_known g grain (suc (suc (suc n))) name is = absurd (none-some name is)

process_known : (g : Global) (grain : Grain) (n : ℕ) (name : Name) → slice_get (process_names (swap_claims grain) ++ signal_names (swap_claims grain)) n ≡ Some name →
    K1_Name (swapping_later g) (swap_claims grain) name
process_known g grain zero name is = inr (inr (0, is))
process_known g grain (suc zero) name is = inr (inr (1, is))
process_known g grain (suc (suc zero)) name is = inr (inr (2, is))
process_known g grain (suc (suc (suc zero))) name is = inr (inr (3, is))
process_known g grain (suc (suc (suc (suc zero)))) name is = inr (inr (4, is))
process_known g grain (suc (suc (suc (suc (suc zero))))) name is = inr (inr (5, is))
process_known g grain (suc (suc (suc (suc (suc (suc n)))))) name is = signal_known g grain n name is

names_known : (g : Global) (grain : Grain) (n : ℕ) (name : Name) → slice_get (all_names (swap_claims grain)) n ≡ Some name → K1_Name (swapping_later g) (swap_claims grain) name
names_known g grain zero name is = inl (0, is)
names_known g grain (suc zero) name is = inl (0, is)
names_known g grain (suc (suc n)) name is = process_known g grain n name is

writers : (g : Global) (grain : Grain) (v : ℕ) → K2 (swapping_later g) (swap_claims grain) v
writers g grain v = record {
  named = λ i w. named_at i (written g i v w);
  writer_writes = λ name is. writes_at v name is;
  second_writes = λ name is. first_at v name is;
  no_block = λ i j is blk w. no_block g grain j blk;
  early = λ i k is point w late. never_late i k (second_is g grain v i is) late;
  first_alone = λ i j l is writer slot w. not_first j l (writer_is g grain v j writer) (early_now g j v l (early_at g j l slot) w);
  first_alone_later = λ i j k l is point w writer slot more. early_later g j v l (early_at g j l slot) more;
}
  where
    named_at : (i : ℕ) → IsLater i v ⊎ IsFirst i v → IsWriter (swapping_later g) (swap_claims grain) v i ⊎ IsSecond (swapping_later g) (swap_claims grain) v i
    named_at i (inl later) = inl (is_writer g grain i v later)
    named_at i (inr first) = inr (is_second g grain i v first.0 first.1)

    writes_at : (n : ℕ) (name : Name) → writer_in (claim_of (swapping_later g) (swap_claims grain) n) ≡ Some name →
        (i : ℕ) × IsWriter (swapping_later g) (swap_claims grain) n i × Writes (swapping_later g) i n
    writes_at zero name is = (3, refl, signal_text g 3 0 (writes_clock g))
    writes_at (suc zero) name is = (4, refl, signal_text g 4 1 (writes_side g 4 1 2 IsSide.first_side))
    writes_at (suc (suc zero)) name is = (5, refl, signal_text g 5 2 (writes_side g 5 2 1 IsSide.second_side))
    writes_at (suc (suc (suc n))) name is = absurd (none-some name is)

    first_at : (n : ℕ) (name : Name) → second_in (claim_of (swapping_later g) (swap_claims grain) n) ≡ Some name →
        (i : ℕ) × IsSecond (swapping_later g) (swap_claims grain) n i × Writes (swapping_later g) i n
    first_at zero name is = (0, refl, signal_text g 0 0 (writes_init g 0 0 Zero IsInit.sets_c))
    first_at (suc zero) name is = (1, refl, signal_text g 1 1 (writes_init g 1 1 Zero IsInit.sets_a))
    first_at (suc (suc zero)) name is = (2, refl, signal_text g 2 2 (writes_init g 2 2 One IsInit.sets_b))
    first_at (suc (suc (suc n))) name is = absurd (none-some name is)

    never_late : (i : ℕ) (k : Todo) → i < 3 → IsLate (swapping_later g) i k → ⊥
    never_late i k small late =
        let way = way_at g i late.at late.next (spot_at g i late.at late.point) late.goes in
        false≢true (sym late.starts ∙ init_plain g i late.at late.next way small)

    not_first : (j : ℕ) (k : Todo) → j ≡ v + 3 → (digit : Digit) × IsInit j v digit × (k ≡ setting g v digit) → ⊥
    not_first j k far first = let same = (init_is j v first.0 first.1).0 in omega (arith, far, same)

modes : (g : Global) (grain : Grain) (v : ℕ) → K3 (swapping_later g) (swap_claims grain) v
modes g grain zero mode is =
    subst (IsAsModeSays (swapping_later g) (swap_claims grain) 0) (same_Some blocking mode is)
    (3, refl, (inl ((0 ∷ 5 ∷ []) ∷ [], refl), λ k point w. never k (made_who g 3 0 k (made g 3 0 k (spot_at g 3 k point) w))))
  where
    never : (k : Todo) → (3 ≡ 0 + 3) × (0 < 0) → ⊥
    never k w = let above = w.1 in omega (arith, above)
modes g grain (suc zero) mode is =
    subst (IsAsModeSays (swapping_later g) (swap_claims grain) 1) (same_Some nonblocking mode is) (4, refl, (inl refl, λ k point w. side_now g 4 1 k refl (lit< tt) (wrote_who g 4 1 k (wrote g 4 1 k (spot_at g 4 k point) w))))
modes g grain (suc (suc zero)) mode is =
    subst (IsAsModeSays (swapping_later g) (swap_claims grain) 2) (same_Some nonblocking mode is) (5, refl, (inl refl, λ k point w. side_now g 5 2 k refl (lit< tt) (wrote_who g 5 2 k (wrote g 5 2 k (spot_at g 5 k point) w))))
modes g grain (suc (suc (suc v))) mode is = absurd (none-some mode is)

order : (g : Global) (grain : Grain) (x : Driver) → K4 (swapping_later g) (swap_claims grain) x
order g grain (assign j) = record {
  known = λ r is reads. absurd (none-some reads.0 reads.1);
  earlier = λ r b y is reads bit has other writes. absurd (none-some reads.0 reads.1);
}
order g grain (block_driver i) = record {
  known = λ r is reads. absurd (no_block g grain i is);
  earlier = λ r b y is reads bit has other writes. absurd (no_block g grain i is);
}

blocks : (g : Global) (grain : Grain) (i : ℕ) → K5 (swapping_later g) (swap_claims grain) i
blocks g grain i = record {
  grain = λ blk. absurd (no_block g grain i blk);
  shape = λ p blk is. absurd (no_block g grain i blk);
  quiet = λ k blk point. absurd (no_block g grain i blk);
  covered = λ r b blk l s h. absurd (no_block g grain i blk);
  before_reads = λ b k r blk is w u n same. no_block g grain i blk;
  before_end = λ b k next blk is w u goes pauses. no_block g grain i blk;
}

copies_root : (g : Global) (grain : Grain) (root v : ℕ) → IsRootOf (swapping_later g) (swap_claims grain) root v → CopiesRoot (swapping_later g) false root v
copies_root g grain root v h =
    let at = root_is g grain root v h in
    subst (λ n. CopiesRoot (swapping_later g) false n v) (sym at.0) (subst (CopiesRoot (swapping_later g) false 0) (sym at.1) (itself (bit g 99 Reg, refl, refl, refl, refl)))

sound_root : (g : Global) (grain : Grain) → IsSoundRoot (swapping_later g) (swap_claims grain) 0
sound_root g grain = record {
  variable = (bit g 99 Reg, refl, refl);
  mode = refl;
  writer = (3, refl, ((0 ∷ 5 ∷ []) ∷ [], refl));
  once = λ i k writer point w hot. never_hot i k (writer_is g grain 0 i writer) w hot;
}
  where
    -- a way from the turn of the clock leads to where no time has gone by, and there it doesn't turn
    never_hot : (i : ℕ) (k : Todo) → i ≡ 3 → WritesAny (swapping_later g) k 0 → IsHot (swapping_later g) false i 0 k → ⊥
    never_hot i k at w hot =
        let early = turned_early g i 0 hot.at hot.next at (wrote_who g i 0 hot.at (wrote g i 0 hot.at (spot_at g i hot.at hot.point) hot.starts)) hot.goes in
        let first = early_any g i 0 k (early_path g i (todo_after hot.next) k is_zero_time (λ next may. may) early hot.path) w in
        let same = (init_is i 0 first.0 first.1).0 in
        omega (arith, at, same)

roots : (g : Global) (grain : Grain) (v : ℕ) → K6 (swapping_later g) (swap_claims grain) v
roots g grain v = record {
  one_entry = λ name is edge. entry_at v name is (edge_signal_is g v edge);
  no_entry = λ name is none. no_entry_at v name is none;
  copies = λ root is. copies_root g grain root v is;
  root = λ root is. subst (IsSoundRoot (swapping_later g) (swap_claims grain)) (sym (root_is g grain root v is).0) (sound_root g grain);
}
  where
    Once : Name → Type 0
    Once name = times_in name (edge_signals (swap_claims grain)) ≡ 1

    Never : Name → Type 0
    Never name = times_in name (edge_signals (swap_claims grain)) ≡ 0

    entry_at : (n : ℕ) (name : Name) → IsSignalNamed (swapping_later g) n name → 0 ≡ n → Once name
    entry_at zero name is at = subst Once (same_Some (signal_in_t 99) name is) refl
    entry_at (suc n) name is at = cc

    no_entry_at : (n : ℕ) (name : Name) → IsSignalNamed (swapping_later g) n name → (IsEdgeSignal (swapping_later g) n → ⊥) → Never name
    no_entry_at zero name is none = absurd (none (edge_signal g))
    no_entry_at (suc zero) name is none = subst Never (same_Some (signal_in_t 97) name is) refl
    no_entry_at (suc (suc zero)) name is none = subst Never (same_Some (signal_in_t 98) name is) refl
    no_entry_at (suc (suc (suc n))) name is none = absurd (none-some name is)

waits : (g : Global) (grain : Grain) (i : ℕ) → K7 (swapping_later g) (swap_claims grain) i
waits g grain i = record {
  events = λ k l number ts edge point goes. subst AreEdges (event g i k l number ts point goes).terms_are refl;
  no_delay = λ k l number ticks edge point goes.
      let at = (pause g i k l number ticks (spot_at g i k point) goes).process in
      let above = edge_is g grain i edge in
      omega (arith, at, above);
  one_signal = λ t u root edge has also is is_too. ap (λ (t : EventTerm). t.range.signal) (sym (term_is g i t has) ∙ term_is g i u also);
  apart = λ one other r edge fires fires_too.
      (root_is g grain one fires.term.range.signal fires.is_root).0 ∙ sym (root_is g grain other fires_too.term.range.signal fires_too.is_root).0;
  arrives = λ lists delay event r is a b e. none_mixed (swapping_later g) (swap_claims grain) i lists refl is;
}

-- ---- residues

-- of the clock's control those are 0 and 5
abbrev Ticks : ℕ → Type 0
Ticks r = Contains (0 ∷ 5 ∷ []) r

tick_next : (r : ℕ) → Ticks r → Ticks ((r + 5) % 10)
tick_next r (zero, within, is) = subst (λ n. Ticks ((n + 5) % 10)) is (1, lit< tt, refl)
tick_next r (suc zero, within, is) = subst (λ n. Ticks ((n + 5) % 10)) is (0, lit< tt, refl)
tick_next r (suc (suc n), within, is) = absurd (omega (arith, within))

-- a control of the design, of the clock, ends at these residues
ticks_end : (g : Global) (i number : ℕ) (lists : List (List ℕ)) → i ≡ 3 → lists_of i ≡ lists → 1 ≡ number → list_of (controls_of (swapping_later g) i) lists number ≡ 0 ∷ 5 ∷ []
ticks_end g i number lists at lists_is number_is =
    ap (λ ls. list_of (controls_of (swapping_later g) i) ls number) (sym lists_is) ∙ ap (λ n. list_of (controls_of (swapping_later g) n) (lists_of n) number) at
    ∙ ap (λ ns. list_of ns ((0 ∷ 5 ∷ []) ∷ []) number) (controls_3 g) ∙ ap (list_of (1 ∷ []) ((0 ∷ 5 ∷ []) ∷ [])) (sym number_is)

ends_ticks : (g : Global) (i : ℕ) (k : Todo) (next : Next) → Way g i k next → (lists : List (List ℕ)) (r : ℕ) → lists_of i ≡ lists → DelayEnds (swapping_later g) i lists next r → Ticks r
ends_ticks g _ _ _ (Way.inits i v digit s) lists r is ends = absurd ends
ends_ticks g _ _ _ Way.loops lists r is ends = absurd ends
ends_ticks g _ _ _ Way.pauses lists r is ends = subst (λ l. Contains l r) (ticks_end g 3 1 lists refl is refl) ends
ends_ticks g _ _ _ Way.turns lists r is ends = absurd ends
ends_ticks g _ _ _ (Way.begins i to from s) lists r is ends = absurd ends
ends_ticks g _ _ _ (Way.listens i to from s) lists r is ends = absurd ends
ends_ticks g _ _ _ (Way.copies i to from s) lists r is ends = absurd ends
ends_ticks g _ _ _ (Way.rests i) lists r is ends = absurd ends

each_listed : (g : Global) (i : ℕ) → i < 4 → length (lists_of i) ≡ length (controls_of (swapping_later g) i)
each_listed g zero h = sym (ap length (controls_assign 0 (target g 0) (e.Number (Zero ∷ []))))
each_listed g (suc zero) h = sym (ap length (controls_assign 0 (target g 1) (e.Number (Zero ∷ []))))
each_listed g (suc (suc zero)) h = sym (ap length (controls_assign 0 (target g 2) (e.Number (One ∷ []))))
each_listed g (suc (suc (suc zero))) h = sym (ap length (controls_3 g))
each_listed g (suc (suc (suc (suc i)))) h = absurd (omega (arith, h))

residues : (g : Global) (grain : Grain) (i : ℕ) → K8 (swapping_later g) (swap_claims grain) i
residues g grain i = record {
  no_event = λ k l number ts delay point goes.
      let there = event g i k l number ts point goes in
      let far = (side_is i there.to there.from there.side).0 in
      let above = (side_is i there.to there.from there.side).1 in
      let small = (lists_are g grain i delay.0 delay.1).0 in
      omega (arith, far, above, small);
  one_each = λ lists is. let there = lists_are g grain i lists (lists_unmixed (swapping_later g) (swap_claims grain) i lists refl is) in sym (ap length there.1) ∙ each_listed g i there.0;
  from_start = λ lists k l number ticks is slot goes above.
      let here = pause g i k l number ticks (early_spot g i k (early_at g i k slot)) goes in
      subst (λ l. Contains l (ticks % 10)) (sym (ticks_end g i number lists here.process (lists_are g grain i lists (lists_unmixed (swapping_later g) (swap_claims grain) i lists refl is)).1 here.number_is))
      (subst (λ n. Ticks (n % 10)) here.ticks_are (1, lit< tt, refl));
  from_residue = λ lists k l number ticks r is runs goes.
      let there = (lists_are g grain i lists (lists_unmixed (swapping_later g) (swap_claims grain) i lists refl is)).1 in
      let way = way_at g i runs.at runs.next (spot_at g i runs.at runs.point) runs.goes in
      let here = pause g i k l number ticks (spot_path g i is_plain (todo_after runs.next) k (spot_behind g i runs.at runs.next way) runs.path) goes in
      subst (λ l. Contains l ((r + ticks) % 10)) (sym (ticks_end g i number lists here.process there here.number_is))
      (subst (λ n. Ticks ((r + n) % 10)) here.ticks_are (tick_next r (ends_ticks g i runs.at runs.next way lists r there runs.starts)));
  from_edge = λ lists k l number ticks r is runs goes. absurd (none_mixed (swapping_later g) (swap_claims grain) i lists refl is);
}

-- ---- reads

-- nothing drives anything: a cone is a signal
cone_is : (g : Global) (grain : Grain) (u : ℕ) (r : BitRange) → InCone (swapping_later g) (swap_claims grain) u r → r.signal ≡ u
cone_is g grain u _ (here r source same touches) = same
cone_is g grain u _ (through r w q (assign j) is writes meets needed cone) = absurd (none-some writes.0 writes.1)
cone_is g grain u _ (through r w q (block_driver i) is writes meets needed cone) = absurd (no_block g grain i is)

-- what a side reads is written by `=` at the start alone
side_apart : (g : Global) (grain : Grain) (i to from : ℕ) (k : Todo) → IsSide i to from → AreApart (swapping_later g) (swap_claims grain) i from k
side_apart g grain i to from k side r slot runs =
    side_now g slot.writer from slot.at (writer_is g grain from slot.writer slot.is) (read_is i to from side).0
    (wrote_who g slot.writer from slot.at (wrote g slot.writer from slot.at (spot_at g slot.writer slot.at slot.point) slot.writes))

read_fixed : (g : Global) (grain : Grain) (i u : ℕ) (k : Todo) (r : BitRange) → Read i r → r.signal ≡ u →
    IsOwnRead (swapping_later g) (swap_claims grain) i u r.signal k ⊎ (IsOwnEdge (swapping_later g) (swap_claims grain) i r.signal k ⊎ AreApart (swapping_later g) (swap_claims grain) i u k)
read_fixed g grain _ u k _ Read.turns same = inl (subst (λ n. IsWriter (swapping_later g) (swap_claims grain) n 3) same refl, inl (sym same))
read_fixed g grain _ u k _ (Read.copies i to from s) same = inr (inr (subst (λ n. AreApart (swapping_later g) (swap_claims grain) i n k) same (side_apart g grain i to from k s)))

readings : (g : Global) (grain : Grain) (i : ℕ) → K9 (swapping_later g) (swap_claims grain) i
readings g grain i = record {
  fixed = λ k r u seq point reads source cone. read_fixed g grain i u k r (needs g grain i k r (spot_at g i k point) reads) (cone_is g grain u r cone);
}

-- ---- the first slot

-- `c = 0` is no rising edge
fires_none : (g : Global) (grain : Grain) (i : ℕ) → FiresNone (swapping_later g) (swap_claims grain) 0 i (setting g 0 Zero)
unfolding out-Statement denote.Hole.Carrier.out
fires_none g grain i = record {
  digit = Zero;
  known = known_zero;
  gives = rw (reads_number (Zero ∷ []), value_number (Zero ∷ []) [] 0) refl;
  silent = λ j t edge has first event is seen.
      ap (λ e. is_edge e X Zero) (seen_plain (swapping_later g) t edge seen) ∙ ap (λ (t : EventTerm). is_edge t.edge X Zero) (sym (term_is g j t has));
}

-- only t#p0 sets `c` there
first_set : (g : Global) (i : ℕ) (k : Todo) → (digit : Digit) × IsInit i 0 digit × (k ≡ setting g 0 digit) → (i ≡ 0) × (k ≡ setting g 0 Zero)
first_set g i k first = ((init_is i 0 first.0 first.1).0, first.2 ∙ ap (setting g 0) (zero_digit i first.0 first.1))
  where
    zero_digit : (i : ℕ) (digit : Digit) → IsInit i 0 digit → digit ≡ Zero
    zero_digit _ _ IsInit.sets_c = refl

first_roots : (g : Global) (grain : Grain) (v : ℕ) → K10_Signal (swapping_later g) (swap_claims grain) v
first_roots g grain v = record {
  once = λ i j k l root slot w late more.
      let one = set_at i k (root_0 root) slot w in
      let another = set_at j l (root_0 root) late more in
      (one.0 ∙ sym another.0, one.1 ∙ sym another.1);
  now = λ i k root slot w. early_later g i v k (early_at g i k slot) w;
  constant = λ i k root slot w.
      subst (FiresNone (swapping_later g) (swap_claims grain) v i) (sym (set_at i k (root_0 root) slot (inl w)).1)
      (subst (λ n. FiresNone (swapping_later g) (swap_claims grain) n i (setting g 0 Zero)) (sym (root_0 root)) (fires_none g grain i));
}
  where
    root_0 : IsRoot (swapping_later g) (swap_claims grain) v → v ≡ 0
    root_0 root = (root_is g grain v root.0 root.1).0

    set_at : (i : ℕ) (k : Todo) → v ≡ 0 → IsSlot0 (swapping_later g) false i k → WritesAny (swapping_later g) k v → (i ≡ 0) × (k ≡ setting g 0 Zero)
    set_at i k at slot w = first_set g i k (early_any g i 0 k (early_at g i k slot) (subst (WritesAny (swapping_later g) k) at w))

first_slot : (g : Global) (grain : Grain) (i : ℕ) → K10_Process (swapping_later g) (swap_claims grain) i
first_slot g grain i = record {
  variable = λ k r seq slot reads. absurd (no_early_needs g grain i k r (early_at g i k slot) reads);
  written = λ k r seq slot reads. absurd (no_early_needs g grain i k r (early_at g i k slot) reads);
  alone = λ k r j seq slot reads w. absurd (no_early_needs g grain i k r (early_at g i k slot) reads);
  first = λ k l r j wide seq slot reads there now. absurd (no_early_needs g grain i k r (early_at g i k slot) reads);
  untouched = λ k u r prologue w needed cone. no_needs r needed;
}
  where
    no_needs : (r : BitRange) → BlockNeeds (swapping_later g) (swap_claims grain) r → ⊥
    no_needs r (BlockNeeds.needs i blk needed) = no_block g grain i blk
    no_needs r (BlockNeeds.shows i k blk displays point shown) = no_block g grain i blk

keeping : (g : Global) (grain : Grain) → Keeping (swapping_later g) (swap_claims grain)
keeping g grain = record {
  names_signals = λ v. names_signals g grain v;
  names_assigns = λ j. record { listed = λ name is. absurd (none-some name is); no_edge = λ name is. absurd (none-some name is) };
  names_processes = λ i. record { listed = λ name is. process_listed g grain i name is; block_ordered = λ name is blk. absurd (no_block g grain i blk); not_ordered = λ name is other. refl };
  names_known = λ n name is. names_known g grain n name is;
  writers = λ v. writers g grain v;
  modes = λ v. modes g grain v;
  order = λ x. order g grain x;
  blocks = λ i. blocks g grain i;
  roots = λ v. roots g grain v;
  edges = λ i. waits g grain i;
  residues = λ i. residues g grain i;
  readings = λ i. readings g grain i;
  first_roots = λ v. first_roots g grain v;
  first_slot = λ i. first_slot g grain i;
  starts = λ i start is. absurd (no_block g grain i (start, is));
}

-- ---- its certificate is one

certificate : (grain : Grain) → IsCertificate (swap_claims grain)
certificate grain = record {
  version = inl refl;
  displays = λ one. refl;
  starts = λ p one has is. no_starters (swap_claims grain).processes (tt, (tt, (tt, (tt, (tt, (tt, tt)))))) p has is;
  narrow = inr refl;
  unmixed = inr refl;
  above = lit< tt;
  below = lit≤ tt;
  few_edges = lit≤ tt;
  few_ordered = lit≤ tt;
  few_processes = lit≤ tt;
  few_signals = lit≤ tt;
  lists = sound_lists (swap_claims grain).modulus (swap_claims grain).processes (no_lists 10, (no_lists 10, (no_lists 10, (one_list 10 (0 ∷ 5 ∷ []) (record { few = lit≤ tt; rising = refl }), (tt, (tt, tt))))));
}

pub clocked_design_keeps_the_rules : AClockedDesignKeepsTheRules
clocked_design_keeps_the_rules g grain = keeps_rules (swapping_later g) (swap_claims grain) (formed_later g) (certificate grain) (keeping g grain)
