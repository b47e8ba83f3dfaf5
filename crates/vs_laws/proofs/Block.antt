-- A design with a combinational block keeps the rules, whichever start is claimed of the block.
use Rattle.std.proofs.Common.{◌≡◌, ℕ, zero, suc, ◌≤◌, ◌⊎◌, Bool, true, false, Some, List, [], ◌∷◌, ◌++◌, length, slice_get, refl, sym, ◌∙◌, ap, subst, inl, inr, lit<, lit≤, nat_lt}
use Rattle.std.proofs.lemmas.Bool.{eqb-true, true≢false}
use Rattle.std.proofs.lemmas.List.Elements.{All-nil, All-cons}
use Rattle.std.proofs.lemmas.Option.{none-some, same_Some}
use Rattle.std.specs.declared.alloc.Global.{Global}
use Rattle.std.specs.List.{All, Contains, IsDistinct}
use Rattle.vs_design.specs.vs_logic4.specs.declared.digit.Digit.TheVariants.{One}
use Rattle.vs_design.specs.declared.design.Assign.{Assign}
use Rattle.vs_design.specs.declared.design.Process.{Process}
use Rattle.vs_design.specs.declared.range.BitRange.{BitRange}
use Rattle.vs_design.specs.declared.signal.Signal.{Signal}
use Rattle.vs_design.specs.declared.signal.SignalKind.TheVariants.{Reg, Wire}
use Rattle.vs_design.specs.declared.statement.Statement.{out-Statement}
use Rattle.vs_design.specs.declared.expression.Typed.TheViews.{out-Typed}
use Rattle.vs_design.specs.declared.expression.Typed.TheVariants as e
use Rattle.vs_design.specs.Stores.{Store, changes_nothing, put, start_store}
use Rattle.vs_design.specs.Uses.{slice_range, whole, writes}
use Rattle.vs_design.specs.WellFormed.{WellFormed, is_sound_assign, is_sound_process, is_sound_statement, numbers}
use Rattle.vs_independence.specs.vs_process.proofs.Ranges.{covers_signal}
use Rattle.vs_process.specs.Places.{Todo}
use Rattle.vs_process.specs.Steps.{after, assignment}
use Rattle.vs_design.specs.vs_logic4.proofs.Basics.{one_in, declared_3, declared_at}
use Rattle.vs_design.proofs.FormLemmas.{numbers_Assign as numbers_assign, numbers_Later as numbers_later, sound_Assign as sound_assign, sound_Later as sound_later}
use Rattle.vs_laws.specs.Race.{bit, initially, name, operand, target, the_bit}
use Rattle.vs_laws.specs.Mirror.{one_of}
use Rattle.vs_laws.proofs.Race.{reads_number, reads_operand, size_number, size_operand, value_number}
use Rattle.vs_rules.specs.Claims.{HasKind, has_both, Mode, Name, Start, cold, sources, starter, combinational, nonblocking, all_names, claim_of, edge_names, process_names, signal_names, times_in, writer_in, IsProcessNamed, IsWriter, IsBlock, IsSequential}
use Rattle.vs_rules.specs.Constants.{bit_of, one}
use Rattle.vs_rules.specs.Controls.{controls_of}
use Rattle.vs_rules.specs.Drivers.{Driver, assign, block as block_driver, DriverReads, IsDriver, IsSource, Precedes, WritesBit}
use Rattle.vs_rules.specs.Paths.{Bit, Has, HasTerm, IsPoint, IsSlot0, ReadsNow, Writes, WritesAny}
use Rattle.vs_rules.specs.Points.{Goes, Point}
use Rattle.vs_rules.specs.Rules.{K1_Signal, K1_Assign, K1_Process, K1_Name, K2, K3, K4, K6, K7, K8, K9, K10_Signal, K10_Process, IsAsModeSays, IsOnlyIn, IsCovered, IsSelf, Reads}
use Rattle.vs_rules.specs.Copies.{IsCopy}
use Rattle.vs_rules.specs.Blocks.{K5, K11, Begins, CopiesWhole, IsCold, IsStarted, Missing, StaysCold, Starts, copy, itself, run_alone}
use Rattle.vs_rules.specs.Limits.{IsCertificate}
use Rattle.vs_rules.specs.Verdict.{Keeping}
use Rattle.vs_laws.specs.Names.{assign_in_t, process_in_t, signal_in_t}
use Rattle.vs_laws.specs.Block.{ABlockKeepsTheRules, block_claims, ABlockAtANetKeepsTheRules, change_of, copied, follower, following, heard, no_ticks, order_of, the_net_assign, updated, watched, watching}
use Rattle.vs_laws.proofs.Certificates.{lists_unmixed, edge_unmixed, no_lists, none_mixed, sound_lists}
use Rattle.vs_laws.proofs.Kept.{keeps_rules}
use Rattle.vs_laws.proofs.Texts.{controls_later, differ, numbers_event, numbers_forever, sound_event, sound_forever, value_operand}
use Rattle.vs_laws.proofs.BlockPoints.{updating, copying, Spot, Early, way_at, spot_at, early_spot, early_at, prologue_at, early_now, Wrote, wrote, wrote_who, made, updated_where, read_at, needs, quiet, event, no_pause, ends_never, named_is, has_change, names_a, no_edge_signal, written_same, written, first_writes, second_writes, reads_are, no_writer, none_second, is_writer, no_second, start_is, block_is, no_edge, lists_are, no_sequential_read, no_root, source_a, shape_at, unwritten, copy_goes_on, heard_apart, block_writes}

-- ---- it is well formed

abbrev Sound : Global → Bool → Process → Type 0
Sound g net p = is_sound_process (following g net).signals p ≡ true

first_sound : (g : Global) (net : Bool) → Sound g net (initially g 48 (updated g))
first_sound g net = simp (sound_later, numbers_later, reads_number, size_number)

watching_sound : (g : Global) (net : Bool) → is_sound_statement (following g net).signals (watching g (heard net)) ≡ true
watching_sound g false =
    sound_forever (following g false).signals g 0 (watched g 0) ∙ sound_event (following g false).signals g 1 (one_of g (change_of 0)) (copied g 0) refl
    ∙ sound_assign (following g false).signals 2 (target g 1) (operand 0) ∙ rw (reads_operand 0, size_operand 0) refl
watching_sound g true =
    sound_forever (following g true).signals g 0 (watched g 2) ∙ sound_event (following g true).signals g 1 (one_of g (change_of 2)) (copied g 2) refl
    ∙ sound_assign (following g true).signals 2 (target g 1) (operand 2) ∙ rw (reads_operand 2, size_operand 2) refl

watching_numbers : (g : Global) (signal : ℕ) → numbers (watching g signal) ≡ 0 ∷ 1 ∷ 2 ∷ []
watching_numbers g signal =
    numbers_forever g 0 (watched g signal) ∙ ap (λ l. 0 ∷ l) (numbers_event g 1 (one_of g (change_of signal)) (copied g signal) ∙ ap (λ l. 1 ∷ l) (numbers_assign 2 (target g 1) (operand signal)))

second_sound : (g : Global) (net : Bool) → Sound g net (follower g (heard net))
unfolding out-Statement denote.Hole.Carrier.out
second_sound g net = rw (watching_sound g net, watching_numbers g (heard net)) refl

processes_sound : (g : Global) (net : Bool) → All (Sound g net) (following g net).processes
processes_sound g net =
    All-cons (Sound g net) (initially g 48 (updated g)) (follower g (heard net) ∷ []) (first_sound g net)
    (All-cons (Sound g net) (follower g (heard net)) [] (second_sound g net) (All-nil (Sound g net)))

abbrev SoundAssign : Global → Assign → Type 0
SoundAssign g a = is_sound_assign (following g true).signals a ≡ true

formed : (g : Global) (net : Bool) → WellFormed (following g net)
unfolding IsDistinct
formed g false = record {
  processes = processes_sound g false;
  assigns = All-nil _;
  drivers = tt;
  declared = All-cons (λ n. nat_lt n 2 ≡ true) 0 (1 ∷ []) refl (All-cons (λ n. nat_lt n 2 ≡ true) 1 [] refl (All-nil (λ n. nat_lt n 2 ≡ true)));
  declared_once = ((refl, tt), (tt, tt));
  all_declared = declared_at;
  paths = ((refl, tt), (tt, tt));
  names = ((refl, tt), (tt, tt));
  assign_names = tt;
}
formed g true = record {
  processes = processes_sound g true;
  assigns = All-cons (SoundAssign g) (the_net_assign g) [] (rw (reads_operand 0, size_operand 0) refl) (All-nil (SoundAssign g));
  drivers = (tt, tt);
  declared =
      All-cons (λ n. nat_lt n 3 ≡ true) 0 (1 ∷ 2 ∷ []) refl
      (All-cons (λ n. nat_lt n 3 ≡ true) 1 (2 ∷ []) refl (All-cons (λ n. nat_lt n 3 ≡ true) 2 [] refl (All-nil (λ n. nat_lt n 3 ≡ true))));
  declared_once = ((refl, (refl, tt)), ((refl, tt), (tt, tt)));
  all_declared = declared_3;
  paths = ((refl, (refl, tt)), ((refl, tt), (tt, tt)));
  names = ((refl, tt), (tt, tt));
  assign_names = (tt, tt);
}

-- ---- the rules

abbrev Listed : Bool → Start → Name → Type 0
Listed net start name = IsOnlyIn name (signal_names (block_claims net start)) (block_claims net start).order (process_names (block_claims net start))

names_signals : (g : Global) (net : Bool) (start : Start) (v : ℕ) → K1_Signal (following g net) (block_claims net start) v
names_signals g false start zero name is = subst (Listed false start) (same_Some (signal_in_t 97) name is) (record { once = refl; nowhere = refl; nowhere_else = refl })
names_signals g false start (suc zero) name is = subst (Listed false start) (same_Some (signal_in_t 121) name is) (record { once = refl; nowhere = refl; nowhere_else = refl })
names_signals g false start (suc (suc v)) name is = absurd (none-some name is)
names_signals g true start zero name is = subst (Listed true start) (same_Some (signal_in_t 97) name is) (record { once = refl; nowhere = refl; nowhere_else = refl })
names_signals g true start (suc zero) name is = subst (Listed true start) (same_Some (signal_in_t 121) name is) (record { once = refl; nowhere = refl; nowhere_else = refl })
names_signals g true start (suc (suc zero)) name is = subst (Listed true start) (same_Some (signal_in_t 119) name is) (record { once = refl; nowhere = refl; nowhere_else = refl })
names_signals g true start (suc (suc (suc v))) name is = absurd (none-some name is)

abbrev ListedAssign : Start → Name → Type 0
ListedAssign start name = IsOnlyIn name (block_claims true start).order (signal_names (block_claims true start)) (process_names (block_claims true start))

names_assigns : (g : Global) (net : Bool) (start : Start) (j : ℕ) → K1_Assign (following g net) (block_claims net start) j
names_assigns g false start j = record { listed = λ name is. absurd (none-some name is); no_edge = λ name is. refl }
names_assigns g true start zero = record {
  listed = λ name is. subst (ListedAssign start) (same_Some (assign_in_t 48) name is) (record { once = refl; nowhere = refl; nowhere_else = refl });
  no_edge = λ name is. refl;
}
names_assigns g true start (suc j) = record { listed = λ name is. absurd (none-some name is); no_edge = λ name is. refl }

abbrev ListedProcess : Bool → Start → Name → Type 0
ListedProcess net start name = IsOnlyIn name (process_names (block_claims net start)) (signal_names (block_claims net start)) (edge_names (block_claims net start))

process_listed : (g : Global) (net : Bool) (start : Start) (i : ℕ) (name : Name) → IsProcessNamed (following g net) i name → ListedProcess net start name
process_listed g false start zero name is = subst (ListedProcess false start) (same_Some (process_in_t 48) name is) (record { once = refl; nowhere = refl; nowhere_else = refl })
process_listed g false start (suc zero) name is = subst (ListedProcess false start) (same_Some (process_in_t 49) name is) (record { once = refl; nowhere = refl; nowhere_else = refl })
process_listed g true start zero name is = subst (ListedProcess true start) (same_Some (process_in_t 48) name is) (record { once = refl; nowhere = refl; nowhere_else = refl })
process_listed g true start (suc zero) name is = subst (ListedProcess true start) (same_Some (process_in_t 49) name is) (record { once = refl; nowhere = refl; nowhere_else = refl })
process_listed g net start (suc (suc n)) name is = absurd (none-some name is)

block_listed : (net : Bool) → times_in (process_in_t 49) (order_of net) ≡ 1
block_listed false = refl
block_listed true = refl

other_unlisted : (net : Bool) → times_in (process_in_t 48) (order_of net) ≡ 0
other_unlisted false = refl
other_unlisted true = refl

names_processes : (g : Global) (net : Bool) (start : Start) (i : ℕ) → K1_Process (following g net) (block_claims net start) i
names_processes g net start i = record {
  listed = λ name is. process_listed g net start i name is;
  block_ordered = λ name is blk. ordered_at i name (block_is g net start i blk) is;
  not_ordered = λ name is other. other_at i name is other;
}
  where
    ordered_at : (n : ℕ) (name : Name) → n ≡ 1 → IsProcessNamed (following g net) n name → times_in name (order_of net) ≡ 1
    ordered_at zero name e is = absurd (differ 0 1 refl e)
    ordered_at (suc zero) name e is = subst (λ m. times_in m (order_of net) ≡ 1) (same_Some (process_in_t 49) name is) (block_listed net)
    ordered_at (suc (suc n)) name e is = absurd (none-some name is)

    other_at : (n : ℕ) (name : Name) → IsProcessNamed (following g net) n name → (IsBlock (following g net) (block_claims net start) n → ⊥) → times_in name (order_of net) ≡ 0
    other_at zero name is other = subst (λ m. times_in m (order_of net) ≡ 0) (same_Some (process_in_t 48) name is) (other_unlisted net)
    other_at (suc zero) name is other = absurd (other (start, refl))
    other_at (suc (suc n)) name is other = absurd (none-some name is)

-- the names of the certificate are those of the design
signal_known : (g : Global) (net : Bool) (start : Start) (n : ℕ) (name : Name) → slice_get (signal_names (block_claims net start)) n ≡ Some name → K1_Name (following g net) (block_claims net start) name
signal_known g net start zero name is = inl (0, is)
signal_known g net start (suc zero) name is = inl (1, is)
signal_known g false start (suc (suc n)) name is = absurd (none-some name is)
signal_known g true start (suc (suc zero)) name is = inl (2, is)
signal_known g true start (suc (suc (suc n))) name is = absurd (none-some name is)

process_known : (g : Global) (net : Bool) (start : Start) (n : ℕ) (name : Name) → slice_get (process_names (block_claims net start) ++ signal_names (block_claims net start)) n ≡ Some name →
    K1_Name (following g net) (block_claims net start) name
process_known g net start zero name is = inr (inr (0, is))
process_known g net start (suc zero) name is = inr (inr (1, is))
process_known g net start (suc (suc n)) name is = signal_known g net start n name is

names_known : (g : Global) (net : Bool) (start : Start) (n : ℕ) (name : Name) → slice_get (all_names (block_claims net start)) n ≡ Some name → K1_Name (following g net) (block_claims net start) name
names_known g false start zero name is = inr (inr (1, is))
names_known g false start (suc n) name is = process_known g false start n name is
names_known g true start zero name is = inr (inl (0, is))
names_known g true start (suc zero) name is = inr (inr (1, is))
names_known g true start (suc (suc n)) name is = process_known g true start n name is

writers : (g : Global) (net : Bool) (start : Start) (v : ℕ) → K2 (following g net) (block_claims net start) v
writers g net start v = record {
  named = λ i w. inl (is_writer g net start v i (written g net i v w));
  writer_writes = λ name is. writes_at v name is;
  second_writes = λ name is. absurd (none-some name (sym (none_second g net start v) ∙ is));
  no_block = λ i j is blk w. no_second g net start v i is;
  early = λ i k is point w late. no_second g net start v i is;
  first_alone = λ i j l is writer slot w. no_second g net start v i is;
  first_alone_later = λ i j k l is point w writer slot more. no_second g net start v i is;
}
  where
    writes_at : (n : ℕ) (name : Name) → writer_in (claim_of (following g net) (block_claims net start) n) ≡ Some name → (i : ℕ) × IsWriter (following g net) (block_claims net start) n i × Writes (following g net) i n
    writes_at zero name is = (0, refl, first_writes g net)
    writes_at (suc zero) name is = (1, refl, second_writes g net)
    writes_at (suc (suc n)) name is = absurd (none-some name (sym (no_writer g net start n) ∙ is))

modes : (g : Global) (net : Bool) (start : Start) (v : ℕ) → K3 (following g net) (block_claims net start) v
modes g net start zero mode is =
    subst (IsAsModeSays (following g net) (block_claims net start) 0) (same_Some nonblocking mode is)
    (0, refl, (inr (inl ([], refl)), λ k point w. never_now k (wrote g net 0 0 k (spot_at g net 0 k point) w)))
  where
    never_now : (k : Todo) → Wrote g net 0 k 0 → ⊥
    never_now k w = absurd (differ 0 1 refl (wrote_who g net 0 0 k w))
modes g net start (suc zero) mode is = subst (IsAsModeSays (following g net) (block_claims net start) 1) (same_Some combinational mode is) (1, refl, (start, refl))
modes g false start (suc (suc v)) mode is = absurd (none-some mode is)
modes g true start (suc (suc zero)) mode is = subst (IsAsModeSays (following g true) (block_claims true start) 2) (same_Some Mode.net mode is) (bit g 119 Wire, refl, refl)
modes g true start (suc (suc (suc v))) mode is = absurd (none-some mode is)

-- what the continuous assignment reads and writes
assign_reads : (g : Global) (r : BitRange) → DriverReads (following g true) (assign 0) r → whole 0 ≡ r
assign_reads g r reads =
    one_in (whole 0) r (subst (λ rs. Contains rs r) (reads_operand 0) (subst (λ (a : Assign). Contains (reads_in a) r) (sym (same_Some (the_net_assign g) reads.0 reads.1)) reads.2.0))
  where
    reads_in : Assign → List BitRange
    reads_in a = Rattle.vs_design.specs.Uses.reads a.source

assign_bit : (g : Global) (j : ℕ) (b : Bit) → WritesBit (following g true) (assign j) b → (j ≡ 0) × (2 ≡ b.signal)
assign_bit g zero b w =
    let range = one_in (slice_range (the_bit 2)) w.range (subst (λ (a : Assign). Contains (writes a.target) w.range) (sym (same_Some (the_net_assign g) w.writes.0 w.writes.1)) w.writes.2.0) in
    (refl, ap (λ (q : BitRange). q.signal) range ∙ eqb-true w.range.signal b.signal (covers_signal b.signal b.word b.place w.range w.has))
assign_bit g (suc j) b w = absurd (none-some w.writes.0 w.writes.1)

block_bit : (g : Global) (net : Bool) (start : Start) (i : ℕ) (b : Bit) → IsBlock (following g net) (block_claims net start) i → WritesBit (following g net) (block_driver i) b → b.signal ≡ 1
block_bit g net start i b is w =
    let listed : Writes (following g net) i w.range.signal = record { range = w.range; listed = w.writes; of = refl } in
    sym (eqb-true w.range.signal b.signal (covers_signal b.signal b.word b.place w.range w.has)) ∙ block_writes g net start i w.range.signal is listed

read_bit : (signal : ℕ) (r : BitRange) (b : Bit) → whole signal ≡ r → Has r b → signal ≡ b.signal
read_bit signal r b same has = ap (λ (q : BitRange). q.signal) same ∙ eqb-true r.signal b.signal (covers_signal b.signal b.word b.place r has)

order : (g : Global) (net : Bool) (start : Start) (x : Driver) → K4 (following g net) (block_claims net start) x
order g false start (assign j) = record {
  known = λ r is reads. absurd (none-some reads.0 reads.1);
  earlier = λ r b y is reads bit has other writes. absurd (none-some reads.0 reads.1);
}
order g true start (assign zero) = record {
  known = λ r is reads. inr (inl (subst (λ (q : BitRange). IsSource (following g true) (block_claims true start) q.signal) (assign_reads g r reads) (source_a g true start)));
  earlier = λ r b y is reads bit has other writes. absurd (none_writes y b other writes (read_bit 0 r b (assign_reads g r reads) has));
}
  where
    none_writes : (y : Driver) (b : Bit) → IsDriver (following g true) (block_claims true start) y → WritesBit (following g true) y b → 0 ≡ b.signal → ⊥
    none_writes (assign j) b is w at = differ 0 2 refl (at ∙ sym (assign_bit g j b w).1)
    none_writes (block_driver k) b is w at = differ 0 1 refl (at ∙ block_bit g true start k b is w)
order g true start (assign (suc j)) = record {
  known = λ r is reads. absurd (none-some reads.0 reads.1);
  earlier = λ r b y is reads bit has other writes. absurd (none-some reads.0 reads.1);
}
order g net start (block_driver i) = record {
  known = λ r is reads. known_at net (reads_are g net i r reads);
  earlier = λ r b y is reads bit has other writes. earlier_at net y b is other writes;
}
  where
    known_at : (through : Bool) {r : BitRange} → whole (heard through) ≡ r → HasKind false (following g through) r.signal ⊎ (IsSource (following g through) (block_claims through start) r.signal ⊎ IsCovered (following g through) (block_claims through start) r)
    known_at false same = inr (inl (subst (λ (q : BitRange). IsSource (following g false) (block_claims false start) q.signal) same (source_a g false start)))
    known_at true same = inl (subst (λ (q : BitRange). HasKind false (following g true) q.signal) same (bit g 119 Wire, refl, refl))

    -- the other driver is the block itself, or the continuous assignment, which is earlier
    earlier_at : (through : Bool) (y : Driver) (b : Bit) → IsBlock (following g through) (block_claims through start) i → IsDriver (following g through) (block_claims through start) y → WritesBit (following g through) y b →
        IsSelf (block_driver i) y ⊎ Precedes (following g through) (block_claims through start) y (block_driver i)
    earlier_at through (block_driver k) b is other writes = inl (block_is g through start k other ∙ sym (block_is g through start i is))
    earlier_at false (assign j) b is other writes = absurd (none-some writes.writes.0 writes.writes.1)
    earlier_at true (assign j) b is other writes =
        inr (subst (λ n. Precedes (following g true) (block_claims true start) (assign n) (block_driver i)) (sym (assign_bit g j b writes).0)
        (subst (λ n. Precedes (following g true) (block_claims true start) (assign 0) (block_driver n)) (sym (block_is g true start i is))
        (record { one = assign_in_t 48; other = process_in_t 49; is = refl; other_is = refl; before = lit< tt })))

blocks : (g : Global) (net : Bool) (start : Start) (i : ℕ) → K5 (following g net) (block_claims net start) i
blocks g net start i = record {
  grain = λ blk. refl;
  shape = λ p blk is. shape_at g net i p (block_is g net start i blk) is;
  quiet = λ k blk point. quiet g net i k (spot_at g net i k point) (block_is g net start i blk);
  covered = λ r b blk listed seen has.
      inr (change_of (heard net), subst (λ n. HasTerm (following g net) n (change_of (heard net))) (sym (block_is g net start i blk)) (has_change g net), subst (λ q. Has q b) (sym (reads_are g net i r listed)) has);
  before_reads = λ b k r blk is w none reads same.
      let at : b.signal ≡ 1 = block_writes g net start i b.signal blk w in
      let read = read_at g net 1 (copying g net) r Spot.copies (subst (λ l. ReadsNow (following g net) l r) (unwritten g net i b k is at none) reads) in
      heard_apart net (ap (λ (q : BitRange). q.signal) read.range ∙ same ∙ at);
  before_end = λ b k next blk is w none goes pauses.
      let at : b.signal ≡ 1 = block_writes g net start i b.signal blk w in
      true≢false (sym (copy_goes_on g net next (subst (λ l. Goes l next) (unwritten g net i b k is at none) goes)) ∙ pauses);
}

roots : (g : Global) (net : Bool) (start : Start) (v : ℕ) → K6 (following g net) (block_claims net start) v
roots g net start v = record {
  one_entry = λ name is edge. absurd (no_edge_signal g net v edge);
  no_entry = λ name is none. refl;
  copies = λ root is. absurd (no_root g net start root v is);
  root = λ root is. absurd (no_root g net start root v is);
}

waits_for : (g : Global) (net : Bool) (start : Start) (i : ℕ) → K7 (following g net) (block_claims net start) i
waits_for g net start i = record {
  events = λ k l number ts edge point goes. absurd (no_edge g net start i (edge_unmixed (following g net) (block_claims net start) i refl edge));
  no_delay = λ k l number ticks edge point goes. no_edge g net start i edge;
  one_signal = λ t u root edge has also is is_too. absurd (no_edge g net start i (edge_unmixed (following g net) (block_claims net start) i refl edge));
  apart = λ one other r edge fires fires_too. absurd (no_edge g net start i (edge_unmixed (following g net) (block_claims net start) i refl edge));
  arrives = λ lists delay event r is a b e. none_mixed (following g net) (block_claims net start) i lists refl is;
}

residues : (g : Global) (net : Bool) (start : Start) (i : ℕ) → K8 (following g net) (block_claims net start) i
residues g net start i = record {
  no_event = λ k l number ts delay point goes.
      absurd (differ 0 1 refl (sym (lists_are g net start i delay.0 delay.1).0 ∙ (event g net i k l number ts point goes).process));
  one_each = λ lists is.
      let there = lists_are g net start i lists (lists_unmixed (following g net) (block_claims net start) i lists refl is) in
      sym (ap length there.1) ∙ sym (ap length (controls_at i there.0));
  from_start = λ lists k l number ticks is slot goes above. absurd (no_pause g net i k l number ticks (early_spot g net i k (early_at g net i k slot)) goes);
  from_residue = λ lists k l number ticks r is runs goes.
      absurd (ends_never g net i runs.at runs.next (way_at g net i runs.at runs.next (spot_at g net i runs.at runs.point) runs.goes) lists r runs.starts);
  from_edge = λ lists k l number ticks r is runs goes. absurd (none_mixed (following g net) (block_claims net start) i lists refl is);
}
  where
    controls_at : (n : ℕ) → n ≡ 0 → controls_of (following g net) n ≡ []
    controls_at n at = ap (controls_of (following g net)) at ∙ controls_later 0 no_ticks (target g 0) (e.Number (One ∷ []))

readings : (g : Global) (net : Bool) (start : Start) (i : ℕ) → K9 (following g net) (block_claims net start) i
readings g net start i = record {
  fixed = λ k r u seq point reads blocking cone. absurd (no_sequential_read g net start i k r seq (needs g net start i k r (spot_at g net i k point) reads));
}

first_roots : (g : Global) (net : Bool) (start : Start) (v : ℕ) → K10_Signal (following g net) (block_claims net start) v
first_roots g net start v = record {
  once = λ i j k l root slot w late also. absurd (no_root g net start v root.0 root.1);
  now = λ i k root slot w. no_root g net start v root.0 root.1;
  constant = λ i k root slot w. absurd (no_root g net start v root.0 root.1);
}

first_slot : (g : Global) (net : Bool) (start : Start) (i : ℕ) → K10_Process (following g net) (block_claims net start) i
first_slot g net start i = record {
  variable = λ k r seq slot reads. absurd (none k r seq slot reads);
  written = λ k r seq slot reads. absurd (none k r seq slot reads);
  alone = λ k r j seq slot reads w. absurd (none k r seq slot reads);
  first = λ k l r j wide seq slot reads there now. absurd (none k r seq slot reads);
  untouched = λ k u r prologue w needed cone. early_now g net i u k (prologue_at g net i k prologue) w;
}
  where
    none : (k : Todo) (r : BitRange) → IsSequential (following g net) (block_claims net start) i → IsSlot0 (following g net) false i k → Reads (following g net) (block_claims net start) k r → ⊥
    none k r seq slot reads = no_sequential_read g net start i k r seq (needs g net start i k r (early_spot g net i k (early_at g net i k slot)) reads)

-- ---- the starts

-- cold: a run on the initial state, which is settled, gives `y` what it has
abbrev cold_store : Global → Bool → Store
cold_store g net = put (start_store (following g net)) (assignment (target g 1) (operand (heard net)) (start_store (following g net)) 0)

comes_home : (g : Global) (net : Bool) → run_alone 10000 (copying g net) (start_store (following g net)) ≡ Some (cold_store g net)
unfolding out-Statement denote.Hole.Carrier.out
comes_home g net = refl

stays_same : (g : Global) (net : Bool) → slice_get (cold_store g net) 1 ≡ slice_get (start_store (following g net)) 1
stays_same g false = rw (value_operand 0 (start_store (following g false)) 0) refl
stays_same g true = rw (value_operand 2 (start_store (following g true)) 0) refl

settled_at : (g : Global) (net : Bool) (j : ℕ) (a : Assign) → slice_get (following g net).assigns j ≡ Some a → changes_nothing (start_store (following g net)) (assignment a.target a.source (start_store (following g net)) 0) ≡ true
settled_at g false j a is = absurd (none-some a is)
settled_at g true zero a is =
    subst (λ (x : Assign). changes_nothing (start_store (following g true)) (assignment x.target x.source (start_store (following g true)) 0) ≡ true) (same_Some (the_net_assign g) a is)
    (rw (value_operand 0 (start_store (following g true)) 0) refl)
settled_at g true (suc j) a is = absurd (none-some a is)

stays_cold : (g : Global) (net : Bool) → StaysCold (following g net) 1 (copying g net)
stays_cold g net = record {
  settled = start_store (following g net);
  is = record { sized = refl; undriven = λ v w n free. refl; settled = λ j a is. settled_at g net j a is };
  store = cold_store g net;
  arrives = comes_home g net;
  same = λ v w. subst (λ n. slice_get (cold_store g net) n ≡ slice_get (start_store (following g net)) n) (written_same 1 v (written g net 1 v w)) (stays_same g net);
}

starts_cold : (g : Global) (net : Bool) → IsCold (following g net) (block_claims net cold) 1
starts_cold g net = record {
  stays = λ k l number terms point goes. subst (StaysCold (following g net) 1) (sym (event g net 1 k l number terms point goes).behind) (stays_cold g net);
  no_starter = λ j r needed passes is. let no_way : cold ≡ starter = (start_is g net cold j starter is).1 in cc;
}

-- sources: it waits for `a` alone
starts_by_sources : (g : Global) (net : Bool) → net ≡ false → Starts (following g net) (block_claims net sources) 1 sources
starts_by_sources g net none r names =
    inl (subst (IsSource (following g net) (block_claims net sources)) (sym (ap heard none) ∙ ap (λ (q : BitRange). q.signal) (named_is g net 1 r names)) (source_a g net sources))

-- what it waits for is `a`, or copies it
net_copies : (g : Global) → IsCopy (following g true) 2 0
unfolding out-Typed denote.Hole.Carrier.out
net_copies g = record {
  is_net = (bit g 119 Wire, refl, refl);
  number = 0;
  assign = the_net_assign g;
  is = refl;
  whole = record {
    slice = the_bit 2;
    only = refl;
    whole = record { signal = bit g 119 Wire; is = refl; count = refl; no_array = refl; of = refl; word = refl; low = refl; width = refl };
  };
  copies = record { signal = bit g 97 Reg; is = refl; count = refl; no_array = refl; of = refl; width = refl };
  same = λ s t at_w at_a. ap (λ (x : Signal). x.width) (sym (same_Some (bit g 119 Wire) s at_w)) ∙ ap (λ (x : Signal). x.width) (same_Some (bit g 97 Reg) t at_a);
  alone = λ j a at listed. only_one j a at;
}
  where
    only_one : (j : ℕ) (a : Assign) → slice_get (following g true).assigns j ≡ Some a → j ≡ 0
    only_one zero a at = refl
    only_one (suc j) a at = absurd (none-some a at)

copies_a : (g : Global) (net : Bool) → CopiesWhole (following g net) 0 (heard net)
copies_a g false = itself
copies_a g true = copy 2 0 (net_copies g) itself

heard_bit : (net : Bool) → Has (whole (heard net)) (record { signal = heard net; word = 0; place = 0 })
heard_bit false = refl
heard_bit true = refl

-- starter: t#p0 changes `a`
begins_a : (g : Global) (net : Bool) → Begins (following g net) 1 0 (updating g)
unfolding out-Statement denote.Hole.Carrier.out
begins_a g net = record {
  target = target g 0;
  value = e.Number (One ∷ []);
  is = refl;
  bit = bit_of 0;
  named = record {
    range = whole (heard net);
    names = names_a g net;
    copies = copies_a g net;
    of = refl;
    is = record { signal = bit g 97 Reg; is = refl; word = lit< tt; place = lit< tt };
    has = heard_bit net;
  };
  digit = One;
  known = one;
  gives = rw (reads_number (One ∷ []), value_number (One ∷ []) [] 0) refl;
}

-- before that it has done nothing
missing : (g : Global) (net : Bool) (k : Todo) → Missing (following g net) 1 0 0 k → k ≡ updating g
unfolding out-Statement denote.Hole.Carrier.out
missing g net _ Missing.begins = refl
missing g net _ (Missing.goes_on k l before none goes) = absurd (none (subst (Begins (following g net) 1 0) (sym (missing g net k before)) (begins_a g net)))
missing g net _ (Missing.waits k l number before goes) = absurd (no_pause g net 0 (updating g) l number 0 Spot.updates (subst (λ j. Goes j (after number 0 l)) (missing g net k before) goes))

first_point : (g : Global) (net : Bool) → IsPoint (following g net) 0 (updating g)
unfolding out-Statement denote.Hole.Carrier.out
first_point g net = Point.begins

started : (g : Global) (net : Bool) → IsStarted (following g net) (block_claims net starter) 1 0 0
started g net = record {
  may = inl (refl, ([], refl));
  writer = refl;
  named = (whole (heard net), names_a g net, copies_a g net);
  only = λ k slot w. only_at k (early_at g net 0 k slot) w;
  before_end = λ none. let no_way : [] ≡ updating g = missing g net [] none in cc;
  before_delay = λ k l number ticks none goes.
      no_pause g net 0 (updating g) l number (suc ticks) Spot.updates (subst (λ j. Goes j (after number (suc ticks) l)) (missing g net k none) goes);
  before_wait = λ k l number terms none goes.
      let point : IsPoint (following g net) 0 k = subst (IsPoint (following g net) 0) (sym (missing g net k none)) (first_point g net) in
      absurd (differ 0 1 refl ((event g net 0 k l number terms point goes).process));
}
  where
    only_at : (k : Todo) → Early g net 0 k → WritesAny (following g net) k 0 → Begins (following g net) 1 0 k
    only_at k early (inl w) = absurd (early_now g net 0 0 k early w)
    only_at k early (inr w) = subst (Begins (following g net) 1 0) (updated_where g net 0 0 k (made g net 0 0 k (early_spot g net 0 k early) w)) (begins_a g net)

starts_as : (g : Global) (net : Bool) (start : Start) → (start ≡ sources → net ≡ false) → Starts (following g net) (block_claims net start) 1 start
starts_as g net cold may = starts_cold g net
starts_as g net sources may = starts_by_sources g net (may refl)
starts_as g net starter may = (0, 0, started g net)

starts : (g : Global) (net : Bool) (start : Start) → (start ≡ sources → net ≡ false) → (i : ℕ) → K11 (following g net) (block_claims net start) i
starts g net start may i other is =
    let there = start_is g net start i other is in
    subst (Starts (following g net) (block_claims net start) i) there.1 (subst (λ n. Starts (following g net) (block_claims net start) n start) (sym there.0) (starts_as g net start may))

keeping : (g : Global) (net : Bool) (start : Start) → (start ≡ sources → net ≡ false) → Keeping (following g net) (block_claims net start)
keeping g net start may = record {
  names_signals = λ v. names_signals g net start v;
  names_assigns = λ j. names_assigns g net start j;
  names_processes = λ i. names_processes g net start i;
  names_known = λ n name is. names_known g net start n name is;
  writers = λ v. writers g net start v;
  modes = λ v. modes g net start v;
  order = λ x. order g net start x;
  blocks = λ i. blocks g net start i;
  roots = λ v. roots g net start v;
  edges = λ i. waits_for g net start i;
  residues = λ i. residues g net start i;
  readings = λ i. readings g net start i;
  first_roots = λ v. first_roots g net start v;
  first_slot = λ i. first_slot g net start i;
  starts = λ i. starts g net start may i;
}

-- ---- its certificate is one

certificate : (net : Bool) (start : Start) → IsCertificate (block_claims net start)
certificate net start = record {
  version = inr refl;
  displays = λ one. absurd (differ 2 1 refl one);
  starts = λ p one has is. differ 2 1 refl one;
  narrow = inr (no_both net);
  unmixed = inr refl;
  above = lit< tt;
  below = lit≤ tt;
  few_edges = lit≤ tt;
  few_ordered = few_ordered net;
  few_processes = lit≤ tt;
  few_signals = few_signals net;
  lists = sound_lists (block_claims net start).modulus (block_claims net start).processes (no_lists 1, (tt, tt));
}
  where
    no_both : (through : Bool) → has_both (block_claims through start) ≡ false
    no_both false = refl
    no_both true = refl

    few_ordered : (through : Bool) → length (block_claims through start).order ≤ 65536
    few_ordered false = lit≤ tt
    few_ordered true = lit≤ tt

    few_signals : (through : Bool) → length (block_claims through start).signals ≤ 65536
    few_signals false = lit≤ tt
    few_signals true = lit≤ tt

pub block_keeps_the_rules : ABlockKeepsTheRules
block_keeps_the_rules g start =
    keeps_rules (following g false) (block_claims false start) (formed g false) (certificate false start) (keeping g false start (λ e. refl))

pub block_at_a_net_keeps_the_rules : ABlockAtANetKeepsTheRules
block_at_a_net_keeps_the_rules g start other =
    keeps_rules (following g true) (block_claims true start) (formed g true) (certificate true start) (keeping g true start (λ e. absurd (other e)))
