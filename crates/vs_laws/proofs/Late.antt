-- A design that reads late keeps the rules.
use Rattle.std.proofs.Common.{◌≡◌, ℕ, zero, suc, ◌%◌, ◌⊎◌, true, false, Some, List, [], ◌∷◌, length, slice_get, nat_lt, refl, sym, ◌∙◌, ap, subst, inl, inr, lit<, lit≤}
use Rattle.std.proofs.lemmas.Bool.{false≢true}
use Rattle.std.proofs.lemmas.List.Elements.{All-nil, All-cons}
use Rattle.std.proofs.lemmas.Option.{none-some, same_Some}
use Rattle.std.specs.declared.alloc.Global.{Global}
use Rattle.std.specs.List.{Contains, IsDistinct}
use Rattle.vs_design.specs.vs_logic4.specs.declared.digit.Digit.TheVariants.{One}
use Rattle.vs_design.specs.declared.design.Process.{Process}
use Rattle.vs_design.specs.declared.range.BitRange.{BitRange}
use Rattle.vs_design.specs.declared.signal.SignalKind.TheVariants.{Reg}
use Rattle.vs_design.specs.declared.statement.EventTerm.{EventTerm}
use Rattle.vs_design.specs.Uses.{reads, whole, writes}
use Rattle.vs_design.specs.WellFormed.{WellFormed, is_sound_process, is_sound_statement, numbers}
use Rattle.vs_process.specs.Landings.{todo_after}
use Rattle.vs_process.specs.Places.{Todo}
use Rattle.vs_process.specs.Steps.{Next, on, after}
use Rattle.vs_design.specs.vs_logic4.proofs.Basics.{declared_3}
use Rattle.vs_design.proofs.FormLemmas.{numbers_Assign as numbers_assign, sound_Assign as sound_assign}
use Rattle.vs_laws.specs.vs_independence.specs.vs_process.specs.declared.moves.Grain.{Grain}
use Rattle.vs_laws.specs.Race.{bit, initially}
use Rattle.vs_laws.proofs.Race.{reads_number, reads_operand, size_number, size_operand}
use Rattle.vs_rules.specs.Claims.{Name, EdgeClaim, Kind, blocking, all_names, claim_of, edge_names, edge_signals, process_names, signal_names, second_in, times_in, writer_in, IsSignalNamed, IsProcessNamed, IsWriter, IsSecond, HasLists, IsBlock, IsEdge, IsRootOf, kind_of}
use Rattle.vs_rules.specs.Controls.{controls_of, list_of}
use Rattle.vs_rules.specs.Drivers.{Driver, assign, block as block_driver, InCone}
use Rattle.vs_rules.specs.Paths.{IsHot, Path, Writes, WritesAny, is_zero_time}
use Rattle.vs_rules.specs.Rules.{K1_Signal, K1_Assign, K1_Process, K1_Name, K2, K3, K4, K6, K7, K8, K9, K10_Signal, K10_Process, AreEdges, AreApart, IsAsModeSays, IsEdgeSignal, IsOnlyIn, IsSoundRoot, Reads}
use Rattle.vs_rules.specs.Copies.{CopiesRoot, itself}
use Rattle.vs_rules.specs.Blocks.{K5}
use Rattle.vs_rules.specs.Slots.{Ends, Fires}
use Rattle.vs_rules.specs.Limits.{IsCertificate}
use Rattle.vs_rules.specs.Verdict.{Keeping}
use Rattle.vs_laws.specs.Names.{process_in_t, signal_in_t}
use Rattle.vs_laws.proofs.Certificates.{lists_unmixed, none_mixed, one_list, sound_lists}
use Rattle.vs_laws.proofs.Kept.{keeps_rules}
use Rattle.vs_laws.proofs.Texts.{differ, ends_there, numbers_delay, numbers_event, other_name, sound_delay, sound_event}
use Rattle.vs_laws.specs.Mirror.{one_of}
use Rattle.vs_laws.specs.Roots.{rise_of, sets, sets_late}
use Rattle.vs_laws.specs.Late.{ALateReadKeepsTheRules, answers, copies_late, reading_late, reading_late_claims}
use Rattle.vs_laws.proofs.Roots.{ends_in, one_two, zero_one}
use Rattle.vs_laws.proofs.LatePoints.{Early, IsPause, Read, Spot, Way, Written, behind_plain, controls_a, controls_c, early_any, early_at, early_now, early_reads, early_spot, edge_signal, edge_signal_is, ends_at, event, first_writes, pause, prologue_at, read_at, runs_behind, second_writes, shows, spot_at, third_writes, updates, way_at, written, wrote, wrote_last}

-- ---- it is well formed

abbrev Sound : Global → Process → Type 0
Sound g p = is_sound_process (reading_late g).signals p ≡ true

first_sound : (g : Global) → Sound g (initially g 48 (sets_late g 0))
first_sound g = simp (sound_delay, numbers_delay, sound_assign, numbers_assign, reads_number, size_number)

answers_sound : (g : Global) → is_sound_statement (reading_late g).signals (answers g) ≡ true
answers_sound g =
    sound_event (reading_late g).signals g 0 (one_of g (rise_of 0)) (sets g 1) refl ∙ sound_assign (reading_late g).signals 1 _ _
    ∙ rw (reads_number (One ∷ []), size_number (One ∷ [])) refl

answers_numbers : (g : Global) → numbers (answers g) ≡ 0 ∷ 1 ∷ []
answers_numbers g = numbers_event g 0 (one_of g (rise_of 0)) (sets g 1) ∙ ap (λ ns. 0 ∷ ns) (numbers_assign 1 _ _)

second_sound : (g : Global) → Sound g (initially g 49 (answers g))
second_sound g = rw (answers_sound g, answers_numbers g) refl

third_sound : (g : Global) → Sound g (initially g 50 (copies_late g))
third_sound g = simp (sound_delay, numbers_delay, sound_assign, numbers_assign, reads_operand, size_operand)

formed : (g : Global) → WellFormed (reading_late g)
unfolding IsDistinct
formed g = record {
  processes =
      All-cons (Sound g) (initially g 48 (sets_late g 0)) (initially g 49 (answers g) ∷ initially g 50 (copies_late g) ∷ []) (first_sound g)
      (All-cons (Sound g) (initially g 49 (answers g)) (initially g 50 (copies_late g) ∷ []) (second_sound g)
      (All-cons (Sound g) (initially g 50 (copies_late g)) [] (third_sound g) (All-nil (Sound g))));
  assigns = All-nil _;
  drivers = tt;
  declared =
      All-cons (λ n. nat_lt n 3 ≡ true) 0 (1 ∷ 2 ∷ []) refl
      (All-cons (λ n. nat_lt n 3 ≡ true) 1 (2 ∷ []) refl (All-cons (λ n. nat_lt n 3 ≡ true) 2 [] refl (All-nil (λ n. nat_lt n 3 ≡ true))));
  declared_once = ((refl, (refl, tt)), ((refl, tt), (tt, tt)));
  all_declared = declared_3;
  paths = ((refl, (refl, tt)), ((refl, tt), (tt, tt)));
  names = ((refl, (refl, tt)), ((refl, tt), (tt, tt)));
  assign_names = tt;
}

-- ---- its certificate

writer_is : (g : Global) (grain : Grain) (v i : ℕ) → IsWriter (reading_late g) (reading_late_claims grain) v i → Written i v
writer_is g grain zero zero h = Written.first
writer_is g grain zero (suc zero) h = absurd (false≢true h)
writer_is g grain zero (suc (suc zero)) h = absurd (false≢true h)
writer_is g grain zero (suc (suc (suc i))) h = absurd (false≢true h)
writer_is g grain (suc zero) zero h = absurd (false≢true h)
writer_is g grain (suc zero) (suc zero) h = Written.second
writer_is g grain (suc zero) (suc (suc zero)) h = absurd (false≢true h)
writer_is g grain (suc zero) (suc (suc (suc i))) h = absurd (false≢true h)
writer_is g grain (suc (suc zero)) zero h = absurd (false≢true h)
writer_is g grain (suc (suc zero)) (suc zero) h = absurd (false≢true h)
writer_is g grain (suc (suc zero)) (suc (suc zero)) h = Written.third
writer_is g grain (suc (suc zero)) (suc (suc (suc i))) h = absurd (false≢true h)
writer_is g grain (suc (suc (suc v))) i h = absurd (false≢true h)

is_writer : (g : Global) (grain : Grain) (v i : ℕ) → Written i v → IsWriter (reading_late g) (reading_late_claims grain) v i
is_writer g grain _ _ Written.first = refl
is_writer g grain _ _ Written.second = refl
is_writer g grain _ _ Written.third = refl

-- the process of a number writes the signal of this number
same_number : (i v : ℕ) → Written i v → i ≡ v
same_number _ _ Written.first = refl
same_number _ _ Written.second = refl
same_number _ _ Written.third = refl

no_second : (g : Global) (grain : Grain) (v i : ℕ) → IsSecond (reading_late g) (reading_late_claims grain) v i → ⊥
no_second g grain zero i h = false≢true h
no_second g grain (suc zero) i h = false≢true h
no_second g grain (suc (suc zero)) i h = false≢true h
no_second g grain (suc (suc (suc v))) i h = false≢true h

no_block : (g : Global) (grain : Grain) (i : ℕ) → IsBlock (reading_late g) (reading_late_claims grain) i → ⊥
no_block g grain zero h = let e = h.1 in cc
no_block g grain (suc zero) h = let e = h.1 in cc
no_block g grain (suc (suc zero)) h = let e = h.1 in cc
no_block g grain (suc (suc (suc i))) h = none-some (Kind.block h.0) h.1

edge_is : (g : Global) (grain : Grain) (i : ℕ) → IsEdge (reading_late g) (reading_late_claims grain) i → i ≡ 1
edge_is g grain zero e = cc
edge_is g grain (suc zero) e = refl
edge_is g grain (suc (suc zero)) e = cc
edge_is g grain (suc (suc (suc i))) e = absurd (none-some Kind.edges e)

abbrev ListsOf : ℕ → List (List ℕ) → Type 0
ListsOf i lists = (i ≡ 0) × ((1 ∷ []) ∷ [] ≡ lists) ⊎ (i ≡ 2) × ((2 ∷ []) ∷ [] ≡ lists)

lists_are : (g : Global) (grain : Grain) (i : ℕ) (lists : List (List ℕ)) → HasLists (reading_late g) (reading_late_claims grain) i lists → ListsOf i lists
lists_are g grain zero lists e = inl (refl, cc)
lists_are g grain (suc zero) lists e = cc
lists_are g grain (suc (suc zero)) lists e = inr (refl, cc)
lists_are g grain (suc (suc (suc i))) lists e = absurd (none-some (Kind.delays lists) e)

a_is : (g : Global) (v : ℕ) → IsSignalNamed (reading_late g) v (signal_in_t 97) → v ≡ 0
a_is g zero is = refl
a_is g (suc zero) is = absurd (other_name (signal_in_t 97) (Some (signal_in_t 98)) refl refl is)
a_is g (suc (suc zero)) is = absurd (other_name (signal_in_t 97) (Some (signal_in_t 99)) refl refl is)
a_is g (suc (suc (suc v))) is = absurd (none-some (signal_in_t 97) is)

-- the one edge signal is its own root
abbrev Rooted : ℕ → ℕ → Type 0
Rooted root v = (root ≡ 0) × (v ≡ 0)

root_is : (g : Global) (grain : Grain) (root v : ℕ) → IsRootOf (reading_late g) (reading_late_claims grain) root v → Rooted root v
root_is g grain root v h = at_place h.place h.is
  where
    at_place : (n : ℕ) → slice_get (reading_late_claims grain).edges n ≡ Some h.entry → Rooted root v
    at_place zero is =
        let same : record { root = signal_in_t 97; signal = signal_in_t 97 } ≡ h.entry = same_Some _ h.entry is in (
          a_is g root (subst (λ (x : EdgeClaim). IsSignalNamed (reading_late g) root x.root) (sym same) h.root_is),
          a_is g v (subst (λ (x : EdgeClaim). IsSignalNamed (reading_late g) v x.signal) (sym same) h.signal),
        )
    at_place (suc n) is = absurd (none-some h.entry is)

-- ---- when its processes run

zero_two : (n : ℕ) → n ≡ 0 → n ≡ 2 → ⊥
zero_two n is other = differ 0 2 refl (sym is ∙ other)

-- edges come at the residue 1
fires_at : (g : Global) (grain : Grain) (t : EventTerm) (r : ℕ) → Fires (reading_late g) (reading_late_claims grain) t r → 1 ≡ r
fires_at g grain t r h =
    of_a (same_number h.writer h.root (writer_is g grain h.root h.writer h.is_writer) ∙ (root_is g grain h.root t.range.signal h.is_root).0)
    (lists_are g grain h.writer h.lists h.kind)
  where
    way : Way g h.writer h.runs.at h.runs.next
    way = way_at g h.writer h.runs.at h.runs.next (spot_at g h.writer h.runs.at h.runs.point) h.runs.goes

    of_a : h.writer ≡ 0 → ListsOf h.writer h.lists → 1 ≡ r
    of_a is (inl first) = ends_at g h.writer 1 h.runs.at h.runs.next way h.lists r first.1 h.runs.starts
    of_a is (inr third) = absurd (zero_two h.writer is third.0)

abbrev EndsAt : Global → Grain → ℕ → Next → ℕ → Type 0
EndsAt g grain i next r = Ends (reading_late g) (reading_late_claims grain) i (kind_of (reading_late g) (reading_late_claims grain) i) next r

-- so the second process runs at the residue 1
second_at : (g : Global) (grain : Grain) (i r : ℕ) (k : Todo) (next : Next) → i ≡ 1 → Way g i k next → EndsAt g grain i next r → 1 ≡ r
second_at g grain _ r _ _ is Way.delays_a ends = absurd (differ 0 1 refl is)
second_at g grain _ r _ _ is Way.sets_a ends = absurd (differ 0 1 refl is)
second_at g grain _ r _ _ is Way.listens_there ends = fires_at g grain ends.0 r ends.2
second_at g grain _ r _ _ is Way.sets_b ends = absurd ends
second_at g grain _ r _ _ is Way.delays_c ends = absurd (differ 2 1 refl is)
second_at g grain _ r _ _ is Way.copies_there ends = absurd (differ 2 1 refl is)
second_at g grain _ r _ _ is (Way.rests i) ends = absurd (subst (λ n. EndsAt g grain n (on []) r) is ends)

-- and the third one at the residue 2
third_at : (g : Global) (grain : Grain) (i r : ℕ) (k : Todo) (next : Next) → i ≡ 2 → Way g i k next → EndsAt g grain i next r → 2 ≡ r
third_at g grain _ r _ _ is Way.delays_a ends = absurd (differ 0 2 refl is)
third_at g grain _ r _ _ is Way.sets_a ends = absurd (differ 0 2 refl is)
third_at g grain _ r _ _ is Way.listens_there ends = absurd (differ 1 2 refl is)
third_at g grain _ r _ _ is Way.sets_b ends = absurd (differ 1 2 refl is)
third_at g grain _ r _ _ is Way.delays_c ends = ends_at g 2 2 _ _ Way.delays_c ((2 ∷ []) ∷ []) r refl ends
third_at g grain _ r _ _ is Way.copies_there ends = absurd ends
third_at g grain _ r _ _ is (Way.rests i) ends = absurd (subst (λ n. EndsAt g grain n (on []) r) is ends)

-- ---- the rules

abbrev Listed : Grain → Name → Type 0
Listed grain name = IsOnlyIn name (signal_names (reading_late_claims grain)) (reading_late_claims grain).order (process_names (reading_late_claims grain))

names_signals : (g : Global) (grain : Grain) (v : ℕ) → K1_Signal (reading_late g) (reading_late_claims grain) v
names_signals g grain zero name is = subst (Listed grain) (same_Some (signal_in_t 97) name is) (record { once = refl; nowhere = refl; nowhere_else = refl })
names_signals g grain (suc zero) name is = subst (Listed grain) (same_Some (signal_in_t 98) name is) (record { once = refl; nowhere = refl; nowhere_else = refl })
names_signals g grain (suc (suc zero)) name is = subst (Listed grain) (same_Some (signal_in_t 99) name is) (record { once = refl; nowhere = refl; nowhere_else = refl })
names_signals g grain (suc (suc (suc v))) name is = absurd (none-some name is)

names_assigns : (g : Global) (grain : Grain) (j : ℕ) → K1_Assign (reading_late g) (reading_late_claims grain) j
names_assigns g grain j = record { listed = λ name is. absurd (none-some name is); no_edge = λ name is. absurd (none-some name is) }

abbrev ListedProcess : Grain → Name → Type 0
ListedProcess grain name = IsOnlyIn name (process_names (reading_late_claims grain)) (signal_names (reading_late_claims grain)) (edge_names (reading_late_claims grain))

abbrev Unordered : Grain → Name → Type 0
Unordered grain name = times_in name (reading_late_claims grain).order ≡ 0

names_processes : (g : Global) (grain : Grain) (i : ℕ) → K1_Process (reading_late g) (reading_late_claims grain) i
names_processes g grain i = record {
  listed = λ name is. listed_at i name is;
  block_ordered = λ name is blk. absurd (no_block g grain i blk);
  not_ordered = λ name is other. unordered_at i name is;
}
  where
    listed_at : (n : ℕ) (name : Name) → IsProcessNamed (reading_late g) n name → ListedProcess grain name
    listed_at zero name is = subst (ListedProcess grain) (same_Some (process_in_t 48) name is) (record { once = refl; nowhere = refl; nowhere_else = refl })
    listed_at (suc zero) name is = subst (ListedProcess grain) (same_Some (process_in_t 49) name is) (record { once = refl; nowhere = refl; nowhere_else = refl })
    listed_at (suc (suc zero)) name is = subst (ListedProcess grain) (same_Some (process_in_t 50) name is) (record { once = refl; nowhere = refl; nowhere_else = refl })
    listed_at (suc (suc (suc n))) name is = absurd (none-some name is)

    unordered_at : (n : ℕ) (name : Name) → IsProcessNamed (reading_late g) n name → Unordered grain name
    unordered_at zero name is = subst (Unordered grain) (same_Some (process_in_t 48) name is) refl
    unordered_at (suc zero) name is = subst (Unordered grain) (same_Some (process_in_t 49) name is) refl
    unordered_at (suc (suc zero)) name is = subst (Unordered grain) (same_Some (process_in_t 50) name is) refl
    unordered_at (suc (suc (suc n))) name is = absurd (none-some name is)

names_known : (g : Global) (grain : Grain) (n : ℕ) (name : Name) → slice_get (all_names (reading_late_claims grain)) n ≡ Some name → K1_Name (reading_late g) (reading_late_claims grain) name
names_known g grain zero name is = subst (K1_Name (reading_late g) (reading_late_claims grain)) (same_Some (signal_in_t 97) name is) (inl (0, refl))
names_known g grain (suc zero) name is = subst (K1_Name (reading_late g) (reading_late_claims grain)) (same_Some (signal_in_t 97) name is) (inl (0, refl))
names_known g grain (suc (suc zero)) name is = subst (K1_Name (reading_late g) (reading_late_claims grain)) (same_Some (process_in_t 48) name is) (inr (inr (0, refl)))
names_known g grain (suc (suc (suc zero))) name is = subst (K1_Name (reading_late g) (reading_late_claims grain)) (same_Some (process_in_t 49) name is) (inr (inr (1, refl)))
names_known g grain (suc (suc (suc (suc zero)))) name is = subst (K1_Name (reading_late g) (reading_late_claims grain)) (same_Some (process_in_t 50) name is) (inr (inr (2, refl)))
names_known g grain (suc (suc (suc (suc (suc zero))))) name is = subst (K1_Name (reading_late g) (reading_late_claims grain)) (same_Some (signal_in_t 97) name is) (inl (0, refl))
names_known g grain (suc (suc (suc (suc (suc (suc zero)))))) name is = subst (K1_Name (reading_late g) (reading_late_claims grain)) (same_Some (signal_in_t 98) name is) (inl (1, refl))
names_known g grain (suc (suc (suc (suc (suc (suc (suc zero))))))) name is = subst (K1_Name (reading_late g) (reading_late_claims grain)) (same_Some (signal_in_t 99) name is) (inl (2, refl))
names_known g grain (suc (suc (suc (suc (suc (suc (suc (suc n)))))))) name is = absurd (none-some name is)

writers : (g : Global) (grain : Grain) (v : ℕ) → K2 (reading_late g) (reading_late_claims grain) v
writers g grain v = record {
  named = λ i w. inl (is_writer g grain v i (written g i v w));
  writer_writes = λ name is. writes_at v name is;
  second_writes = λ name is. absurd (none_named v name is);
  no_block = λ i j is blk w. no_second g grain v i is;
  early = λ i k is point w late. no_second g grain v i is;
  first_alone = λ i j l is writer slot w. no_second g grain v i is;
  first_alone_later = λ i j k l is point w writer slot more. no_second g grain v i is;
}
  where
    writes_at : (n : ℕ) (name : Name) → writer_in (claim_of (reading_late g) (reading_late_claims grain) n) ≡ Some name → (i : ℕ) × IsWriter (reading_late g) (reading_late_claims grain) n i × Writes (reading_late g) i n
    writes_at zero name is = (0, refl, first_writes g)
    writes_at (suc zero) name is = (1, refl, second_writes g)
    writes_at (suc (suc zero)) name is = (2, refl, third_writes g)
    writes_at (suc (suc (suc n))) name is = absurd (none-some name is)

    none_named : (n : ℕ) (name : Name) → second_in (claim_of (reading_late g) (reading_late_claims grain) n) ≡ Some name → ⊥
    none_named zero name is = none-some name is
    none_named (suc zero) name is = none-some name is
    none_named (suc (suc zero)) name is = none-some name is
    none_named (suc (suc (suc n))) name is = none-some name is

modes : (g : Global) (grain : Grain) (v : ℕ) → K3 (reading_late g) (reading_late_claims grain) v
modes g grain zero mode is =
    subst (IsAsModeSays (reading_late g) (reading_late_claims grain) 0) (same_Some blocking mode is)
    (0, refl, (inl ((1 ∷ []) ∷ [], refl), λ k point w. updates g 0 0 k (spot_at g 0 k point) w))
modes g grain (suc zero) mode is =
    subst (IsAsModeSays (reading_late g) (reading_late_claims grain) 1) (same_Some blocking mode is) (1, refl, (inr (inl (inl refl, refl)), λ k point w. updates g 1 1 k (spot_at g 1 k point) w))
modes g grain (suc (suc zero)) mode is =
    subst (IsAsModeSays (reading_late g) (reading_late_claims grain) 2) (same_Some blocking mode is)
    (2, refl, (inl ((2 ∷ []) ∷ [], refl), λ k point w. updates g 2 2 k (spot_at g 2 k point) w))
modes g grain (suc (suc (suc v))) mode is = absurd (none-some mode is)

order : (g : Global) (grain : Grain) (x : Driver) → K4 (reading_late g) (reading_late_claims grain) x
order g grain (assign j) = record {
  known = λ r is needs. absurd (none-some needs.0 needs.1);
  earlier = λ r b y is needs bit has other writes. absurd (none-some needs.0 needs.1);
}
order g grain (block_driver i) = record {
  known = λ r is needs. absurd (no_block g grain i is);
  earlier = λ r b y is needs bit has other writes. absurd (no_block g grain i is);
}

blocks : (g : Global) (grain : Grain) (i : ℕ) → K5 (reading_late g) (reading_late_claims grain) i
blocks g grain i = record {
  grain = λ blk. absurd (no_block g grain i blk);
  shape = λ p blk is. absurd (no_block g grain i blk);
  quiet = λ k blk point. absurd (no_block g grain i blk);
  covered = λ r b blk l s h. absurd (no_block g grain i blk);
  before_reads = λ b k r blk is w u n same. no_block g grain i blk;
  before_end = λ b k next blk is w u goes pauses. no_block g grain i blk;
}

copies_root : (g : Global) (grain : Grain) (root v : ℕ) → Rooted root v → CopiesRoot (reading_late g) false root v
copies_root g grain root v at =
    subst (λ n. CopiesRoot (reading_late g) false n v) (sym at.0) (subst (CopiesRoot (reading_late g) false 0) (sym at.1) (itself (bit g 97 Reg, refl, refl, refl, refl)))

-- a way from the write of a root leads to the end, where nothing is written
never_hot : (g : Global) (i root : ℕ) (k : Todo) → WritesAny (reading_late g) k root → IsHot (reading_late g) false i root k → ⊥
never_hot g i root k w hot =
    let last : todo_after hot.next ≡ [] = wrote_last g i root hot.at hot.next (wrote g i root hot.at (spot_at g i hot.at hot.point) hot.starts) hot.goes in
    let over : k ≡ [] = ends_there is_zero_time k (subst (λ l. Path is_zero_time l k) last hot.path) in
    early_any g i root [] (Early.rests i) (subst (λ l. WritesAny (reading_late g) l root) over w)

sound_root : (g : Global) (grain : Grain) → IsSoundRoot (reading_late g) (reading_late_claims grain) 0
sound_root g grain = record {
  variable = (bit g 97 Reg, refl, refl);
  mode = refl;
  writer = (0, refl, ((1 ∷ []) ∷ [], refl));
  once = λ i k writer point w hot. never_hot g i 0 k w hot;
}

roots : (g : Global) (grain : Grain) (v : ℕ) → K6 (reading_late g) (reading_late_claims grain) v
roots g grain v = record {
  one_entry = λ name is edge. entry_at v name is (edge_signal_is g v edge);
  no_entry = λ name is none. no_entry_at v name is none;
  copies = λ root is. copies_root g grain root v (root_is g grain root v is);
  root = λ root is. subst (IsSoundRoot (reading_late g) (reading_late_claims grain)) (sym (root_is g grain root v is).0) (sound_root g grain);
}
  where
    Once : Name → Type 0
    Once name = times_in name (edge_signals (reading_late_claims grain)) ≡ 1

    Never : Name → Type 0
    Never name = times_in name (edge_signals (reading_late_claims grain)) ≡ 0

    entry_at : (n : ℕ) (name : Name) → IsSignalNamed (reading_late g) n name → 0 ≡ n → Once name
    entry_at zero name is at = subst Once (same_Some (signal_in_t 97) name is) refl
    entry_at (suc n) name is at = cc

    no_entry_at : (n : ℕ) (name : Name) → IsSignalNamed (reading_late g) n name → (IsEdgeSignal (reading_late g) n → ⊥) → Never name
    no_entry_at zero name is none = absurd (none (edge_signal g))
    no_entry_at (suc zero) name is none = subst Never (same_Some (signal_in_t 98) name is) refl
    no_entry_at (suc (suc zero)) name is none = subst Never (same_Some (signal_in_t 99) name is) refl
    no_entry_at (suc (suc (suc n))) name is none = absurd (none-some name is)

waits : (g : Global) (grain : Grain) (i : ℕ) → K7 (reading_late g) (reading_late_claims grain) i
waits g grain i = record {
  events = λ k l number ts edge point goes. subst AreEdges (event g i k l number ts point goes).terms_are refl;
  no_delay = λ k l number ticks edge point goes. delays_not (edge_is g grain i edge) (pause g i k l number ticks (spot_at g i k point) goes).which;
  one_signal = λ t u root edge has also is is_too. (root_is g grain root t.range.signal is).1 ∙ sym (root_is g grain root u.range.signal is_too).1;
  apart = λ one other r edge fires also.
      (root_is g grain one fires.term.range.signal fires.is_root).0 ∙ sym (root_is g grain other also.term.range.signal also.is_root).0;
  arrives = λ lists delay event r is a b e. none_mixed (reading_late g) (reading_late_claims grain) i lists refl is;
}
  where
    delays_not : {ticks : ℕ} → i ≡ 1 → (i ≡ 0) × (1 ≡ ticks) ⊎ (i ≡ 2) × (2 ≡ ticks) → ⊥
    delays_not is (inl first) = zero_one i first.0 is
    delays_not is (inr third) = one_two i is third.0

-- ---- its delays end as its lists say

first_controls : (g : Global) (n : ℕ) → n ≡ 0 → controls_of (reading_late g) n ≡ 0 ∷ []
first_controls g n is = ap (controls_of (reading_late g)) is ∙ controls_a g

third_controls : (g : Global) (n : ℕ) → n ≡ 2 → controls_of (reading_late g) n ≡ 0 ∷ []
third_controls g n is = ap (controls_of (reading_late g)) is ∙ controls_c g

one_control : (g : Global) (i : ℕ) (lists : List (List ℕ)) → ListsOf i lists → length lists ≡ length (controls_of (reading_late g) i)
one_control g i lists (inl first) = sym (ap length first.1) ∙ sym (ap length (first_controls g i first.0))
one_control g i lists (inr third) = sym (ap length third.1) ∙ sym (ap length (third_controls g i third.0))

from_start : (g : Global) (i number ticks : ℕ) (lists : List (List ℕ)) → ListsOf i lists → IsPause i number ticks →
    Contains (list_of (controls_of (reading_late g) i) lists number) (ticks % 3)
from_start g i number ticks lists of here = ends of here.which
  where
    ends : ListsOf i lists → (i ≡ 0) × (1 ≡ ticks) ⊎ (i ≡ 2) × (2 ≡ ticks) → Contains (list_of (controls_of (reading_late g) i) lists number) (ticks % 3)
    ends (inl first) (inl one) = ends_in (controls_of (reading_late g) i) lists 1 number ticks (first_controls g i first.0) first.1 here.number_is (ap (λ n. n % 3) one.1)
    ends (inl first) (inr two) = absurd (zero_two i first.0 two.0)
    ends (inr third) (inl one) = absurd (zero_two i one.0 third.0)
    ends (inr third) (inr two) = ends_in (controls_of (reading_late g) i) lists 2 number ticks (third_controls g i third.0) third.1 here.number_is (ap (λ n. n % 3) two.1)

residues : (g : Global) (grain : Grain) (i : ℕ) → K8 (reading_late g) (reading_late_claims grain) i
residues g grain i = record {
  no_event = λ k l number ts delay point goes. never_waits (event g i k l number ts point goes).process (lists_are g grain i delay.0 delay.1);
  one_each = λ lists is. one_control g i lists (lists_are g grain i lists (lists_unmixed (reading_late g) (reading_late_claims grain) i lists refl is));
  from_start = λ lists k l number ticks is slot goes above.
      from_start g i number ticks lists (lists_are g grain i lists (lists_unmixed (reading_late g) (reading_late_claims grain) i lists refl is)) (pause g i k l number ticks (early_spot g i k (early_at g i k slot)) goes);
  from_residue = λ lists k l number ticks r is runs goes.
      let behind = runs_behind g i runs.at k runs.next (way_at g i runs.at runs.next (spot_at g i runs.at runs.point) runs.goes) lists r runs.starts runs.path in
      let no_way : on [] ≡ after number ticks l = behind_plain g k (after number ticks l) behind goes in
      cc;
  from_edge = λ lists k l number ticks r is runs goes. absurd (none_mixed (reading_late g) (reading_late_claims grain) i lists refl is);
}
  where
    never_waits : {lists : List (List ℕ)} → i ≡ 1 → ListsOf i lists → ⊥
    never_waits is (inl first) = zero_one i first.0 is
    never_waits is (inr third) = one_two i is third.0

-- ---- what the third process reads is written at another residue

-- of what it reads the one source is `b`
source_is : (g : Global) (grain : Grain) (u : ℕ) (r : BitRange) → InCone (reading_late g) (reading_late_claims grain) u r → r.signal ≡ u
source_is g grain u _ (InCone.here r source is touches) = is
source_is g grain u _ (InCone.through r w q (assign j) is writes meets needs cone) = absurd (none-some writes.0 writes.1)
source_is g grain u _ (InCone.through r w q (block_driver k) is writes meets needs cone) = absurd (no_block g grain k is)

apart : (g : Global) (grain : Grain) (u : ℕ) (k : Todo) → u ≡ 1 → AreApart (reading_late g) (reading_late_claims grain) 2 u k
apart g grain u k is r written runs =
    let writer : written.writer ≡ 1 = same_number written.writer u (writer_is g grain u written.writer written.is) ∙ is in
    let wrote_at : 1 ≡ r =
    second_at g grain written.writer r written.slot.at written.slot.next writer
    (way_at g written.writer written.slot.at written.slot.next (spot_at g written.writer written.slot.at written.slot.point) written.slot.goes)
    written.slot.starts in
    let runs_at : 2 ≡ r = third_at g grain 2 r runs.at runs.next refl (way_at g 2 runs.at runs.next (spot_at g 2 runs.at runs.point) runs.goes) runs.starts in
    one_two r (sym wrote_at) (sym runs_at)

readings : (g : Global) (grain : Grain) (i : ℕ) → K9 (reading_late g) (reading_late_claims grain) i
readings g grain i = record { fixed = λ k r u seq point needs blocking cone. inr (inr (at_read i k r u (read i k r (spot_at g i k point) needs) cone)) }
  where
    read : (i : ℕ) (k : Todo) (r : BitRange) → Spot g i k → Reads (reading_late g) (reading_late_claims grain) k r → Read g i k r
    read i k r s (inl reads) = read_at g i k r s reads
    read i k r s (inr shown) = absurd (shows g i k r s shown.1)

    at_read : (i : ℕ) (k : Todo) (r : BitRange) (u : ℕ) → Read g i k r → InCone (reading_late g) (reading_late_claims grain) u r → AreApart (reading_late g) (reading_late_claims grain) i u k
    at_read _ k _ u Read.copies_there cone = apart g grain u k (sym (source_is g grain u (whole 1) cone))

first_roots : (g : Global) (grain : Grain) (v : ℕ) → K10_Signal (reading_late g) (reading_late_claims grain) v
first_roots g grain v = record {
  once = λ i j k l root slot w late also. absurd (early_any g i v k (early_at g i k slot) w);
  now = λ i k root slot w. early_any g i v k (early_at g i k slot) (inr w);
  constant = λ i k root slot w. absurd (early_any g i v k (early_at g i k slot) (inl w));
}

no_early_needs : (g : Global) (grain : Grain) (i : ℕ) (k : Todo) (r : BitRange) → Early g i k → Reads (reading_late g) (reading_late_claims grain) k r → ⊥
no_early_needs g grain i k r s (inl reads) = early_reads g i k r s reads
no_early_needs g grain i k r s (inr shown) = shows g i k r (early_spot g i k s) shown.1

first_slot : (g : Global) (grain : Grain) (i : ℕ) → K10_Process (reading_late g) (reading_late_claims grain) i
first_slot g grain i = record {
  variable = λ k r seq slot needs. absurd (no_early_needs g grain i k r (early_at g i k slot) needs);
  written = λ k r seq slot needs. absurd (no_early_needs g grain i k r (early_at g i k slot) needs);
  alone = λ k r j seq slot needs w. absurd (no_early_needs g grain i k r (early_at g i k slot) needs);
  first = λ k l r j wide seq slot needs there now. absurd (no_early_needs g grain i k r (early_at g i k slot) needs);
  untouched = λ k u r prologue w needed cone. early_now g i u k (prologue_at g i k prologue) w;
}

keeping : (g : Global) (grain : Grain) → Keeping (reading_late g) (reading_late_claims grain)
keeping g grain = record {
  names_signals = λ v. names_signals g grain v;
  names_assigns = λ j. names_assigns g grain j;
  names_processes = λ i. names_processes g grain i;
  names_known = λ n name is. names_known g grain n name is;
  writers = λ v. writers g grain v;
  modes = λ v. modes g grain v;
  order = λ x. order g grain x;
  blocks = λ i. blocks g grain i;
  roots = λ v. roots g grain v;
  edges = λ i. waits g grain i;
  residues = λ i. residues g grain i;
  readings = λ i. readings g grain i;
  first_roots = λ v. first_roots g grain v;
  first_slot = λ i. first_slot g grain i;
  starts = λ i start is. absurd (no_block g grain i (start, is));
}

-- ---- its certificate is one

certificate : (grain : Grain) → IsCertificate (reading_late_claims grain)
certificate grain = record {
  version = inr refl;
  displays = λ one. absurd (differ 2 1 refl one);
  starts = λ p one has is. differ 2 1 refl one;
  narrow = inr refl;
  unmixed = inr refl;
  above = lit< tt;
  below = lit≤ tt;
  few_edges = lit≤ tt;
  few_ordered = lit≤ tt;
  few_processes = lit≤ tt;
  few_signals = lit≤ tt;
  lists = sound_lists (reading_late_claims grain).modulus (reading_late_claims grain).processes (
    one_list 3 (1 ∷ []) (record { few = lit≤ tt; rising = refl }),
    (tt, (one_list 3 (2 ∷ []) (record { few = lit≤ tt; rising = refl }), tt)),
  );
}

pub a_late_read_keeps_the_rules : ALateReadKeepsTheRules
a_late_read_keeps_the_rules g grain = keeps_rules (reading_late g) (reading_late_claims grain) (formed g) (certificate grain) (keeping g grain)
