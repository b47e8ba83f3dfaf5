-- A design whose block has two results, one by way of the other, keeps the rules.
use Rattle.std.proofs.Common.{◌≡◌, ℕ, zero, suc, ◌<◌, ◌⊎◌, true, false, Some, [], ◌∷◌, length, slice_get, refl, sym, ◌∙◌, ap, subst, inl, inr, lit<, lit≤, nat_lt, arith}
use Rattle.std.proofs.lemmas.Bool.{eqb-true, true≢false}
use Rattle.std.proofs.lemmas.List.Elements.{All-nil, All-cons}
use Rattle.std.proofs.lemmas.Option.{none-some, same_Some}
use Rattle.std.specs.declared.alloc.Global.{Global}
use Rattle.std.specs.List.{Contains, IsDistinct}
use Rattle.vs_design.specs.vs_logic4.specs.declared.edge.Edge.TheVariants.{Any}
use Rattle.vs_design.specs.vs_logic4.specs.declared.operators.Binary.TheVariants.{And, Or}
use Rattle.vs_design.specs.declared.design.Process.{Process}
use Rattle.vs_design.specs.declared.design.ProcessKind.TheVariants.{Always, Initial}
use Rattle.vs_design.specs.declared.range.BitRange.{BitRange}
use Rattle.vs_design.specs.declared.statement.EventTerm.{EventTerm}
use Rattle.vs_design.specs.declared.statement.Statement.{out-Statement}
use Rattle.vs_design.specs.Stores.{Store, put, start_store}
use Rattle.vs_design.specs.Uses.{slice_range, whole}
use Rattle.vs_design.specs.WellFormed.{WellFormed, is_sound_process}
use Rattle.vs_design.proofs.FormLemmas.{numbers_Assign as numbers_assign, numbers_Later as numbers_later, numbers_Block as numbers_block, sound_Assign as sound_assign, sound_Later as sound_later}
use Rattle.vs_independence.specs.vs_process.specs.Examples.{mixer, target, term}
use Rattle.vs_process.specs.Places.{Todo}
use Rattle.vs_process.specs.Steps.{assignment, Next}
use Rattle.vs_laws.specs.Race.{the_bit}
use Rattle.vs_laws.proofs.Race.{reads_number, size_number}
use Rattle.vs_rules.specs.Claims.{HasKind, Kind, Mode, Name, Start, cold, sources, starter, combinational, nonblocking, all_names, claim_of, edge_names, process_names, signal_names, times_in, writer_in, IsProcessNamed, IsWriter, IsBlock, IsSequential}
use Rattle.vs_rules.specs.Controls.{controls_of}
use Rattle.vs_rules.specs.Drivers.{Driver, assign, block as block_driver, IsDriver, IsSource, WritesBit}
use Rattle.vs_rules.specs.Paths.{Bit, Has, HasTerm, IsBit, IsSlot0, Lists, ReadsNow, Writes, is_plain, reads_of}
use Rattle.vs_rules.specs.Points.{Goes}
use Rattle.vs_independence.specs.vs_process.proofs.Ranges.{covers_signal}
use Rattle.vs_rules.specs.Rules.{K1_Signal, K1_Assign, K1_Process, K1_Name, K2, K3, K4, K6, K7, K8, K9, K10_Signal, K10_Process, IsAsModeSays, IsCovered, IsOnlyIn, IsSelf, Reads}
use Rattle.vs_rules.specs.Blocks.{K5, K11, IsCold, StaysCold, Starts, Unwritten, run_alone}
use Rattle.vs_rules.specs.Limits.{IsCertificate}
use Rattle.vs_rules.specs.Verdict.{Keeping}
use Rattle.vs_laws.specs.Mixer.{AMixerKeepsTheRules, inputs_set, mixing, mixing_claims, process_in_m, process_of_m, signal_in_m}
use Rattle.vs_laws.proofs.Certificates.{HasNoStarter, lists_unmixed, edge_unmixed, no_lists, no_starters, none_mixed, sound_lists}
use Rattle.vs_laws.proofs.Kept.{keeps_rules}
use Rattle.vs_laws.proofs.Texts.{controls_block, controls_later, differ, each_in, numbers_event, numbers_forever, reads_between, size_between, sound_block, sound_event, sound_forever, value_between, value_operand}
use Rattle.vs_laws.proofs.MixerPoints.{Written, t_listed, block_is, block_writes, conjoining, conjoins_inputs, conjoins_plain, conjunction, disjoins_inputs, disjoins_plain, disjunction, early_at, early_now, early_spot, ends_never, event, has_term, is_writer, lists_are, named_in, no_edge, no_edge_signal, no_pause, no_root, no_second, no_sequential_read, none_second, now_who, prologue_at, quiet, reads_are, result_bit, shape_at, source_a, source_b, source_c, spot_at, start_is, the_terms, unwritten_t, unwritten_y, way_at, writes_it, written}

-- ---- it is well formed

abbrev Sound : Global → Process → Type 0
Sound g p = is_sound_process (mixing g).signals p ≡ true

first_sound : (g : Global) → Sound g (process_of_m g 48 Initial (inputs_set g))
first_sound g = simp (sound_block, sound_later, numbers_block, numbers_later, reads_number, size_number)

second_sound : (g : Global) → Sound g (process_of_m g 49 Always (mixer g).body)
unfolding out-Statement denote.Hole.Carrier.out
second_sound g = simp (sound_forever, sound_event, sound_block, sound_assign, numbers_forever, numbers_event, numbers_block, numbers_assign, reads_between, size_between)

pub declared_at : (n : ℕ) → n < 5 → Contains (0 ∷ 1 ∷ 2 ∷ 3 ∷ 4 ∷ []) n
declared_at zero h = (0, lit< tt, refl)
declared_at (suc zero) h = (1, lit< tt, refl)
declared_at (suc (suc zero)) h = (2, lit< tt, refl)
declared_at (suc (suc (suc zero))) h = (3, lit< tt, refl)
declared_at (suc (suc (suc (suc zero)))) h = (4, lit< tt, refl)
declared_at (suc (suc (suc (suc (suc n))))) h = absurd (omega (arith, h))

abbrev IsDeclared : ℕ → Type 0
IsDeclared n = nat_lt n 5 ≡ true

formed : (g : Global) → WellFormed (mixing g)
unfolding IsDistinct
formed g = record {
  processes =
      All-cons (Sound g) (process_of_m g 48 Initial (inputs_set g)) (process_of_m g 49 Always (mixer g).body ∷ []) (first_sound g)
      (All-cons (Sound g) (process_of_m g 49 Always (mixer g).body) [] (second_sound g) (All-nil (Sound g)));
  assigns = All-nil _;
  drivers = tt;
  declared =
      All-cons IsDeclared 0 (1 ∷ 2 ∷ 3 ∷ 4 ∷ []) refl
      (All-cons IsDeclared 1 (2 ∷ 3 ∷ 4 ∷ []) refl
      (All-cons IsDeclared 2 (3 ∷ 4 ∷ []) refl (All-cons IsDeclared 3 (4 ∷ []) refl (All-cons IsDeclared 4 [] refl (All-nil IsDeclared)))));
  declared_once = ((refl, (refl, (refl, (refl, tt)))), ((refl, (refl, (refl, tt))), ((refl, (refl, tt)), ((refl, tt), (tt, tt)))));
  all_declared = declared_at;
  paths = ((refl, (refl, (refl, (refl, tt)))), ((refl, (refl, (refl, tt))), ((refl, (refl, tt)), ((refl, tt), (tt, tt)))));
  names = ((refl, tt), (tt, tt));
  assign_names = tt;
}

-- ---- the rules

abbrev Listed : Start → Name → Type 0
Listed start name = IsOnlyIn name (signal_names (mixing_claims start)) (mixing_claims start).order (process_names (mixing_claims start))

names_signals : (g : Global) (start : Start) (v : ℕ) → K1_Signal (mixing g) (mixing_claims start) v
names_signals g start zero name is = subst (Listed start) (same_Some (signal_in_m 97) name is) (record { once = refl; nowhere = refl; nowhere_else = refl })
names_signals g start (suc zero) name is = subst (Listed start) (same_Some (signal_in_m 98) name is) (record { once = refl; nowhere = refl; nowhere_else = refl })
names_signals g start (suc (suc zero)) name is = subst (Listed start) (same_Some (signal_in_m 99) name is) (record { once = refl; nowhere = refl; nowhere_else = refl })
names_signals g start (suc (suc (suc zero))) name is = subst (Listed start) (same_Some (signal_in_m 116) name is) (record { once = refl; nowhere = refl; nowhere_else = refl })
names_signals g start (suc (suc (suc (suc zero)))) name is = subst (Listed start) (same_Some (signal_in_m 121) name is) (record { once = refl; nowhere = refl; nowhere_else = refl })
names_signals g start (suc (suc (suc (suc (suc v))))) name is = absurd (none-some name is)

names_assigns : (g : Global) (start : Start) (j : ℕ) → K1_Assign (mixing g) (mixing_claims start) j
names_assigns g start j = record { listed = λ name is. absurd (none-some name is); no_edge = λ name is. refl }

abbrev ListedProcess : Start → Name → Type 0
ListedProcess start name = IsOnlyIn name (process_names (mixing_claims start)) (signal_names (mixing_claims start)) (edge_names (mixing_claims start))

process_listed : (g : Global) (start : Start) (i : ℕ) (name : Name) → IsProcessNamed (mixing g) i name → ListedProcess start name
process_listed g start zero name is = subst (ListedProcess start) (same_Some (process_in_m 48) name is) (record { once = refl; nowhere = refl; nowhere_else = refl })
process_listed g start (suc zero) name is = subst (ListedProcess start) (same_Some (process_in_m 49) name is) (record { once = refl; nowhere = refl; nowhere_else = refl })
process_listed g start (suc (suc n)) name is = absurd (none-some name is)

names_processes : (g : Global) (start : Start) (i : ℕ) → K1_Process (mixing g) (mixing_claims start) i
names_processes g start i = record {
  listed = λ name is. process_listed g start i name is;
  block_ordered = λ name is blk. ordered_at i name (block_is g start i blk) is;
  not_ordered = λ name is other. other_at i name is other;
}
  where
    ordered_at : (n : ℕ) (name : Name) → n ≡ 1 → IsProcessNamed (mixing g) n name → times_in name (mixing_claims start).order ≡ 1
    ordered_at zero name e is = absurd (differ 0 1 refl e)
    ordered_at (suc zero) name e is = subst (λ m. times_in m (mixing_claims start).order ≡ 1) (same_Some (process_in_m 49) name is) refl
    ordered_at (suc (suc n)) name e is = absurd (none-some name is)

    other_at : (n : ℕ) (name : Name) → IsProcessNamed (mixing g) n name → (IsBlock (mixing g) (mixing_claims start) n → ⊥) → times_in name (mixing_claims start).order ≡ 0
    other_at zero name is other = subst (λ m. times_in m (mixing_claims start).order ≡ 0) (same_Some (process_in_m 48) name is) refl
    other_at (suc zero) name is other = absurd (other (start, refl))
    other_at (suc (suc n)) name is other = absurd (none-some name is)

-- the names of the certificate are those of the design
signal_known : (g : Global) (start : Start) (n : ℕ) (name : Name) → slice_get (signal_names (mixing_claims start)) n ≡ Some name → K1_Name (mixing g) (mixing_claims start) name
signal_known g start zero name is = inl (0, is)
signal_known g start (suc zero) name is = inl (1, is)
signal_known g start (suc (suc zero)) name is = inl (2, is)
signal_known g start (suc (suc (suc zero))) name is = inl (3, is)
signal_known g start (suc (suc (suc (suc zero)))) name is = inl (4, is)
signal_known g start (suc (suc (suc (suc (suc n))))) name is = absurd (none-some name is)

names_known : (g : Global) (start : Start) (n : ℕ) (name : Name) → slice_get (all_names (mixing_claims start)) n ≡ Some name → K1_Name (mixing g) (mixing_claims start) name
names_known g start zero name is = inr (inr (1, is))
names_known g start (suc zero) name is = inr (inr (0, is))
names_known g start (suc (suc zero)) name is = inr (inr (1, is))
names_known g start (suc (suc (suc n))) name is = signal_known g start n name is

abbrev HasSomeWriter : Global → Start → ℕ → Type 0
HasSomeWriter g start v = (i : ℕ) × IsWriter (mixing g) (mixing_claims start) v i × Writes (mixing g) i v

writers : (g : Global) (start : Start) (v : ℕ) → K2 (mixing g) (mixing_claims start) v
writers g start v = record {
  named = λ i w. inl (is_writer g start v i (written g i v w));
  writer_writes = λ name is. writes_at v name is;
  second_writes = λ name is. absurd (none-some name (sym (none_second g start v) ∙ is));
  no_block = λ i j is blk w. no_second g start v i is;
  early = λ i k is point w late. no_second g start v i is;
  first_alone = λ i j l is writer slot w. no_second g start v i is;
  first_alone_later = λ i j k l is point w writer slot more. no_second g start v i is;
}
  where
    writes_at : (n : ℕ) (name : Name) → writer_in (claim_of (mixing g) (mixing_claims start) n) ≡ Some name → HasSomeWriter g start n
    writes_at zero name is = (0, refl, writes_it g 0 0 Written.input_a)
    writes_at (suc zero) name is = (0, refl, writes_it g 0 1 Written.input_b)
    writes_at (suc (suc zero)) name is = (0, refl, writes_it g 0 2 Written.input_c)
    writes_at (suc (suc (suc zero))) name is = (1, refl, writes_it g 1 3 Written.result_t)
    writes_at (suc (suc (suc (suc zero)))) name is = (1, refl, writes_it g 1 4 Written.result_y)
    writes_at (suc (suc (suc (suc (suc n))))) name is = absurd (none-some name is)

modes : (g : Global) (start : Start) (v : ℕ) → K3 (mixing g) (mixing_claims start) v
modes g start = at
  where
    -- m#p0 has no delay control, and no `=` of the signal
    input : (v : ℕ) → IsWriter (mixing g) (mixing_claims start) v 0 → (mode : Mode) → Some nonblocking ≡ Some mode → IsAsModeSays (mixing g) (mixing_claims start) v mode
    input v writer mode is =
        subst (IsAsModeSays (mixing g) (mixing_claims start) v) (same_Some nonblocking mode is)
        (0, writer, (inr (inl ([], refl)), λ k point w. differ 0 1 refl (now_who g 0 v k (spot_at g 0 k point) w)))

    result : (v : ℕ) → IsWriter (mixing g) (mixing_claims start) v 1 → (mode : Mode) → Some combinational ≡ Some mode → IsAsModeSays (mixing g) (mixing_claims start) v mode
    result v writer mode is = subst (IsAsModeSays (mixing g) (mixing_claims start) v) (same_Some combinational mode is) (1, writer, (start, refl))

    at : (v : ℕ) → K3 (mixing g) (mixing_claims start) v
    at zero mode is = input 0 refl mode is
    at (suc zero) mode is = input 1 refl mode is
    at (suc (suc zero)) mode is = input 2 refl mode is
    at (suc (suc (suc zero))) mode is = result 3 refl mode is
    at (suc (suc (suc (suc zero)))) mode is = result 4 refl mode is
    at (suc (suc (suc (suc (suc v))))) mode is = absurd (none-some mode is)

-- what a driver reads is known: sources, and `t`, whose one bit the block writes
abbrev IsKnownRead : Global → Start → BitRange → Type 0
IsKnownRead g start r =
    HasKind false (mixing g) r.signal ⊎ (IsSource (mixing g) (mixing_claims start) r.signal ⊎ IsCovered (mixing g) (mixing_claims start) r)

bit_of_whole : (v : ℕ) (b : Bit) → Has (whole v) b → b.signal ≡ v
bit_of_whole v b has = sym (eqb-true v b.signal (covers_signal b.signal b.word b.place (whole v) has))

t_covered : (g : Global) (start : Start) → IsCovered (mixing g) (mixing_claims start) (whole 3)
t_covered g start b bit_is has = record {
  driver = block_driver 1;
  is = (start, refl);
  writes = record { range = slice_range (the_bit 3); writes = t_listed g; has = result_bit g 3 116 b refl bit_is (bit_of_whole 3 b has) };
}

-- of each range that the text of the block reads
each_read : (g : Global) (P : BitRange → Type 0) → P (whole 0) → P (whole 1) → P (whole 2) → P (whole 3) → (i : ℕ) (r : BitRange) → i ≡ 1 → Lists (mixing g) (reads_of (mixing g) i) r → P r
each_read g P zero_is one_is two_is three_is i r at listed =
    each_in P (whole 0 ∷ whole 1 ∷ whole 3 ∷ whole 2 ∷ []) (zero_is, (one_is, (three_is, (two_is, tt)))) r
    (reads_are g r (subst (λ n. Lists (mixing g) (reads_of (mixing g) n) r) at listed))

order : (g : Global) (start : Start) (x : Driver) → K4 (mixing g) (mixing_claims start) x
order g start (assign j) = record {
  known = λ r is reads. absurd (none-some reads.0 reads.1);
  earlier = λ r b y is reads bit has other writes. absurd (none-some reads.0 reads.1);
}
order g start (block_driver i) = record {
  known = λ r is reads.
      each_read g (IsKnownRead g start) (inr (inl (source_a g start))) (inr (inl (source_b g start))) (inr (inl (source_c g start))) (inr (inr (t_covered g start))) i r
      (block_is g start i is) reads;
  earlier = λ r b y is reads bit has other writes. inl (only_it y b is other writes);
}
  where
    only_it : (y : Driver) (b : Bit) → IsBlock (mixing g) (mixing_claims start) i → IsDriver (mixing g) (mixing_claims start) y → WritesBit (mixing g) y b → IsSelf (block_driver i) y
    only_it (assign j) b is other writes = absurd (none-some writes.writes.0 writes.writes.1)
    only_it (block_driver k) b is other writes = block_is g start k other ∙ sym (block_is g start i is)

-- a bit that the block reads is one of `t`, or its control names it
abbrev IsFollowed : Global → ℕ → Bit → BitRange → Type 0
IsFollowed g i b r = Has r b → Writes (mixing g) i b.signal ⊎ ((t : EventTerm) × HasTerm (mixing g) i t × Has t.range b)

blocks : (g : Global) (start : Start) (i : ℕ) → K5 (mixing g) (mixing_claims start) i
blocks g start i = record {
  grain = λ blk. refl;
  shape = λ p blk is. shape_at g i p (block_is g start i blk) is;
  quiet = λ k blk point. quiet g i k (spot_at g i k point) (block_is g start i blk);
  covered = λ r b blk listed seen has.
      each_read g (IsFollowed g i b) (heard 0 (0, lit< tt, refl) b blk) (heard 1 (1, lit< tt, refl) b blk) (heard 2 (3, lit< tt, refl) b blk) (made b blk) i r (block_is g start i blk) listed has;
  before_reads = λ b k r blk is w none reads same. reads_late b k r is none reads same (block_writes g start i b.signal blk w);
  before_end = λ b k next blk is w none goes pauses. ends_late b k next is none goes pauses (block_writes g start i b.signal blk w);
}
  where
    heard : (v : ℕ) → Contains the_terms (term Any v) → (b : Bit) → IsBlock (mixing g) (mixing_claims start) i → IsFollowed g i b (whole v)
    heard v has b blk covers = inr (term Any v, subst (λ n. HasTerm (mixing g) n (term Any v)) (sym (block_is g start i blk)) (has_term g (term Any v) has), covers)

    made : (b : Bit) → IsBlock (mixing g) (mixing_claims start) i → IsFollowed g i b (whole 3)
    made b blk has =
        inl (subst (λ n. Writes (mixing g) n b.signal) (sym (block_is g start i blk)) (subst (Writes (mixing g) 1) (sym (bit_of_whole 3 b has)) (writes_it g 1 3 Written.result_t)))

    reads_late : (b : Bit) (k : Todo) (r : BitRange) → IsBit (mixing g) b → Unwritten (mixing g) i b k → ReadsNow (mixing g) k r → r.signal ≡ b.signal → (b.signal ≡ 3) ⊎ (b.signal ≡ 4) → ⊥
    reads_late b k r is none reads same (inl three) =
        let low = conjoins_inputs g r (subst (λ l. ReadsNow (mixing g) l r) (unwritten_t g i b k is three none) reads) in omega (arith, low, same, three)
    reads_late b k r is none reads same (inr four) = elim (unwritten_y g i b k is four none) [
      | inl one ↦ let low = conjoins_inputs g r (subst (λ l. ReadsNow (mixing g) l r) one reads) in omega (arith, low, same, four)
      | inr other ↦ let low = disjoins_inputs g r (subst (λ l. ReadsNow (mixing g) l r) other reads) in omega (arith, low, same, four)
    ]

    ends_late : (b : Bit) (k : Todo) (next : Next) → IsBit (mixing g) b → Unwritten (mixing g) i b k → Goes k next → is_plain next ≡ false → (b.signal ≡ 3) ⊎ (b.signal ≡ 4) → ⊥
    ends_late b k next is none goes pauses (inl three) =
        true≢false (sym (conjoins_plain g next (subst (λ l. Goes l next) (unwritten_t g i b k is three none) goes)) ∙ pauses)
    ends_late b k next is none goes pauses (inr four) = elim (unwritten_y g i b k is four none) [
      | inl one ↦ true≢false (sym (conjoins_plain g next (subst (λ l. Goes l next) one goes)) ∙ pauses)
      | inr other ↦ true≢false (sym (disjoins_plain g next (subst (λ l. Goes l next) other goes)) ∙ pauses)
    ]

roots : (g : Global) (start : Start) (v : ℕ) → K6 (mixing g) (mixing_claims start) v
roots g start v = record {
  one_entry = λ name is edge. absurd (no_edge_signal g v edge);
  no_entry = λ name is none. refl;
  copies = λ root is. absurd (no_root g start root v is);
  root = λ root is. absurd (no_root g start root v is);
}

waits_for : (g : Global) (start : Start) (i : ℕ) → K7 (mixing g) (mixing_claims start) i
waits_for g start i = record {
  events = λ k l number ts edge point goes. absurd (no_edge g start i (edge_unmixed (mixing g) (mixing_claims start) i refl edge));
  no_delay = λ k l number ticks edge point goes. no_edge g start i edge;
  one_signal = λ t u root edge has also is is_too. absurd (no_edge g start i (edge_unmixed (mixing g) (mixing_claims start) i refl edge));
  apart = λ one other r edge fires fires_too. absurd (no_edge g start i (edge_unmixed (mixing g) (mixing_claims start) i refl edge));
  arrives = λ lists delay event r is a b e. none_mixed (mixing g) (mixing_claims start) i lists refl is;
}

residues : (g : Global) (start : Start) (i : ℕ) → K8 (mixing g) (mixing_claims start) i
residues g start i = record {
  no_event = λ k l number ts delay point goes.
      absurd (differ 0 1 refl (sym (lists_are g start i delay.0 delay.1).0 ∙ (event g i k l number ts point goes).process));
  one_each = λ lists is.
      let there = lists_are g start i lists (lists_unmixed (mixing g) (mixing_claims start) i lists refl is) in
      sym (ap length there.1) ∙ sym (ap length (controls_at i there.0));
  from_start = λ lists k l number ticks is slot goes above. absurd (no_pause g i k l number ticks (early_spot g i k (early_at g i k slot)) goes);
  from_residue = λ lists k l number ticks r is runs goes.
      absurd (ends_never g i runs.at runs.next (way_at g i runs.at runs.next (spot_at g i runs.at runs.point) runs.goes) lists r runs.starts);
  from_edge = λ lists k l number ticks r is runs goes. absurd (none_mixed (mixing g) (mixing_claims start) i lists refl is);
}
  where
    controls_at : (n : ℕ) → n ≡ 0 → controls_of (mixing g) n ≡ []
    controls_at n at = ap (controls_of (mixing g)) at ∙ simp (controls_block, controls_later)

readings : (g : Global) (start : Start) (i : ℕ) → K9 (mixing g) (mixing_claims start) i
readings g start i = record {
  fixed = λ k r u seq point reads blocking cone. absurd (no_sequential_read g start i k r seq (spot_at g i k point) reads);
}

first_roots : (g : Global) (start : Start) (v : ℕ) → K10_Signal (mixing g) (mixing_claims start) v
first_roots g start v = record {
  once = λ i j k l root slot w late also. absurd (no_root g start v root.0 root.1);
  now = λ i k root slot w. no_root g start v root.0 root.1;
  constant = λ i k root slot w. absurd (no_root g start v root.0 root.1);
}

first_slot : (g : Global) (start : Start) (i : ℕ) → K10_Process (mixing g) (mixing_claims start) i
first_slot g start i = record {
  variable = λ k r seq slot reads. absurd (none k r seq slot reads);
  written = λ k r seq slot reads. absurd (none k r seq slot reads);
  alone = λ k r j seq slot reads w. absurd (none k r seq slot reads);
  first = λ k l r j wide seq slot reads there now. absurd (none k r seq slot reads);
  untouched = λ k u r prologue w needed cone. early_now g i u k (prologue_at g i k prologue) w;
}
  where
    none : (k : Todo) (r : BitRange) → IsSequential (mixing g) (mixing_claims start) i → IsSlot0 (mixing g) false i k → Reads (mixing g) (mixing_claims start) k r → ⊥
    none k r seq slot reads = no_sequential_read g start i k r seq (early_spot g i k (early_at g i k slot)) reads

-- ---- the starts

-- cold: a run on the initial state gives `t` and `y` the x that they have
t_given : Global → Store → Store
t_given g store = put store (assignment (target g 3) (conjunction g) store 0)

y_given : Global → Store → Store
y_given g store = put store (assignment (target g 4) (disjunction g) store 0)

comes_home : (g : Global) → run_alone 10000 (conjoining g) (start_store (mixing g)) ≡ Some (y_given g (t_given g (start_store (mixing g))))
unfolding out-Statement denote.Hole.Carrier.out t_given y_given
comes_home g = refl

t_same : (g : Global) → t_given g (start_store (mixing g)) ≡ start_store (mixing g)
unfolding t_given
t_same g = rw (value_between g And 0 1 (start_store (mixing g)) 0, value_operand 0 (start_store (mixing g)) 0, value_operand 1 (start_store (mixing g)) 0) refl

y_same : (g : Global) → y_given g (start_store (mixing g)) ≡ start_store (mixing g)
unfolding y_given
y_same g = rw (value_between g Or 3 2 (start_store (mixing g)) 0, value_operand 3 (start_store (mixing g)) 0, value_operand 2 (start_store (mixing g)) 0) refl

stays_cold : (g : Global) → StaysCold (mixing g) 1 (conjoining g)
stays_cold g = record {
  settled = start_store (mixing g);
  is = record { sized = refl; undriven = λ v w n free. refl; settled = λ j a is. absurd (none-some a is) };
  store = y_given g (t_given g (start_store (mixing g)));
  arrives = comes_home g;
  same = λ v w. ap (λ (s : Store). slice_get s v) (ap (y_given g) (t_same g) ∙ y_same g);
}

starts_cold : (g : Global) → IsCold (mixing g) (mixing_claims cold) 1
starts_cold g = record {
  stays = λ k l number terms point goes. subst (StaysCold (mixing g) 1) (sym (event g 1 k l number terms point goes).landing) (stays_cold g);
  no_starter = λ j r needed passes is. let no_way : cold ≡ starter = (start_is g cold j starter is).1 in cc;
}

-- sources: it waits for `a`, `b`, `c` and its own `t`
starts_by_sources : (g : Global) → Starts (mixing g) (mixing_claims sources) 1 sources
starts_by_sources g r names =
    named_in g 1 r names (λ v. IsSource (mixing g) (mixing_claims sources) v ⊎ Writes (mixing g) 1 v) (inl (source_a g sources)) (inl (source_b g sources)) (inl (source_c g sources))
    (inr (writes_it g 1 3 Written.result_t))

starts_as : (g : Global) (start : Start) → (start ≡ starter → ⊥) → Starts (mixing g) (mixing_claims start) 1 start
starts_as g cold other = starts_cold g
starts_as g sources other = starts_by_sources g
starts_as g starter other = absurd (other refl)

starts : (g : Global) (start : Start) → (start ≡ starter → ⊥) → (i : ℕ) → K11 (mixing g) (mixing_claims start) i
starts g start other i claimed is =
    let there = start_is g start i claimed is in
    subst (Starts (mixing g) (mixing_claims start) i) there.1 (subst (λ n. Starts (mixing g) (mixing_claims start) n start) (sym there.0) (starts_as g start other))

keeping : (g : Global) (start : Start) → (start ≡ starter → ⊥) → Keeping (mixing g) (mixing_claims start)
keeping g start other = record {
  names_signals = λ v. names_signals g start v;
  names_assigns = λ j. names_assigns g start j;
  names_processes = λ i. names_processes g start i;
  names_known = λ n name is. names_known g start n name is;
  writers = λ v. writers g start v;
  modes = λ v. modes g start v;
  order = λ x. order g start x;
  blocks = λ i. blocks g start i;
  roots = λ v. roots g start v;
  edges = λ i. waits_for g start i;
  residues = λ i. residues g start i;
  readings = λ i. readings g start i;
  first_roots = λ v. first_roots g start v;
  first_slot = λ i. first_slot g start i;
  starts = λ i. starts g start other i;
}

-- ---- its certificates are some

certificate : (start : Start) → (start ≡ starter → ⊥) → IsCertificate (mixing_claims start)
certificate start other = record {
  version = inl refl;
  displays = λ one. refl;
  starts = λ p one has is. no_starters (mixing_claims start).processes (tt, (not_starter start other, tt)) p has is;
  narrow = inr refl;
  unmixed = inr refl;
  above = lit< tt;
  below = lit≤ tt;
  few_edges = lit≤ tt;
  few_ordered = lit≤ tt;
  few_processes = lit≤ tt;
  few_signals = lit≤ tt;
  lists = sound_lists (mixing_claims start).modulus (mixing_claims start).processes (no_lists 1, (tt, tt));
}
  where
    not_starter : (s : Start) → (s ≡ starter → ⊥) → HasNoStarter (Kind.block s)
    not_starter cold none = tt
    not_starter sources none = tt
    not_starter starter none = none refl

pub mixer_keeps_the_rules : AMixerKeepsTheRules
mixer_keeps_the_rules g start other = keeps_rules (mixing g) (mixing_claims start) (formed g) (certificate start other) (keeping g start other)
