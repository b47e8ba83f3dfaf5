-- A design with two roots keeps the rules.
use Rattle.std.proofs.Common.{eqb-true, ◌≡◌, ℕ, zero, suc, ◌%◌, ◌⊎◌, true, false, Some, List, [], ◌∷◌, length, slice_get, nat_lt, refl, sym, ◌∙◌, ap, subst, inl, inr, lit<, lit≤}
use Rattle.std.proofs.lemmas.Bool.{false≢true}
use Rattle.std.proofs.lemmas.List.Elements.{All-nil, All-cons}
use Rattle.std.proofs.lemmas.Option.{none-some, same_Some}
use Rattle.std.specs.declared.alloc.Global.{Global}
use Rattle.std.specs.List.{Contains, IsDistinct}
use Rattle.vs_design.specs.declared.design.Assign.{Assign}
use Rattle.vs_design.specs.declared.design.Process.{Process}
use Rattle.vs_design.specs.declared.expression.Typed.{out-Typed}
use Rattle.vs_design.specs.declared.range.BitRange.{BitRange}
use Rattle.vs_design.specs.declared.signal.Signal.{Signal}
use Rattle.vs_design.specs.declared.signal.SignalKind.TheVariants.{Reg, Wire}
use Rattle.vs_design.specs.declared.statement.EventTerm.{EventTerm}
use Rattle.vs_design.specs.declared.statement.Statement.TheVariants as y
use Rattle.vs_design.specs.Uses.{reads, slice_range, whole, writes}
use Rattle.vs_design.specs.WellFormed.{WellFormed, is_sound_assign, is_sound_process, is_sound_statement, numbers}
use Rattle.vs_process.specs.Landings.{todo_after}
use Rattle.vs_process.specs.Places.{Todo}
use Rattle.vs_process.specs.Steps.{Next, on, after}
use Rattle.vs_design.specs.vs_logic4.proofs.Basics.{one_in, declared_3}
use Rattle.vs_design.proofs.FormLemmas.{numbers_Assign as numbers_assign, numbers_Call, sound_Assign as sound_assign, sound_Call}
use Rattle.vs_laws.specs.vs_independence.specs.vs_process.specs.declared.moves.Grain.{Grain}
use Rattle.vs_laws.specs.vs_independence.specs.vs_process.proofs.Ranges.{covers_signal}
use Rattle.vs_laws.specs.vs_independence.proofs.RulesShown.{rules_make_displays_alike}
use Rattle.vs_laws.specs.Race.{bit, initially, the_bit}
use Rattle.vs_laws.proofs.Race.{reads_number, reads_operand, size_number, size_operand}
use Rattle.vs_rules.specs.Claims.{Mode, Name, EdgeClaim, Kind, blocking, all_names, claim_of, edge_names, edge_signals, process_names, signal_names, second_in, times_in, writer_in, IsSignalNamed, IsProcessNamed, IsWriter, IsSecond, HasLists, IsBlock, IsEdge, IsRootOf, kind_of}
use Rattle.vs_rules.specs.Controls.{controls_of, list_of}
use Rattle.vs_rules.specs.Drivers.{Driver, assign, block as block_driver, DriverReads, IsDriver, IsSource, WritesBit}
use Rattle.vs_rules.specs.Paths.{Bit, Has, IsHot, Path, Writes, WritesAny, is_zero_time}
use Rattle.vs_rules.specs.Rules.{K1_Signal, K1_Assign, K1_Process, K1_Name, K2, K3, K4, K6, K7, K8, K9, K10_Signal, K10_Process, AreEdges, IsAsModeSays, IsEdgeSignal, IsOnlyIn, IsOwnEdge, IsSoundRoot, Reads}
use Rattle.vs_rules.specs.Copies.{CopiesRoot, copy, itself, IsCopy}
use Rattle.vs_rules.specs.Blocks.{K5}
use Rattle.vs_rules.specs.Slots.{Ends, Fires, FiresOf, HasWriteSlot}
use Rattle.vs_rules.specs.Limits.{IsCertificate}
use Rattle.vs_rules.specs.Verdict.{Keeping}
use Rattle.vs_laws.specs.Block.{the_net_assign}
use Rattle.vs_laws.specs.Names.{assign_in_t, process_in_t, signal_in_t}
use Rattle.vs_laws.proofs.Certificates.{lists_unmixed, none_mixed, one_list, sound_lists}
use Rattle.vs_laws.proofs.Kept.{keeps_rules}
use Rattle.vs_laws.proofs.Texts.{differ, ends_there, numbers_delay, numbers_event, other_name, sound_delay, sound_event}
use Rattle.vs_laws.specs.Roots.{TwoRootsKeepTheRules, listens, prints, rise_of, sets_late, two_of, two_rises, two_rises_claims}
use Rattle.vs_laws.proofs.RootsPoints.{Early, IsPause, Shown, Spot, Way, Written, behind_plain, controls_a, controls_c, early_any, early_at, early_now, early_shows, early_spot, edge_signal_c, edge_signal_is, edge_signal_w, ends_at, event, first_writes, has_rise_c, pause, prologue_at, reads_none, runs_behind, second_writes, shown, spot_at, updates, way_at, written, wrote, wrote_last}

-- ---- it is well formed

abbrev Sound : Global → Process → Type 0
Sound g p = is_sound_process (two_rises g).signals p ≡ true

first_sound : (g : Global) → Sound g (initially g 48 (sets_late g 0))
first_sound g = simp (sound_delay, numbers_delay, sound_assign, numbers_assign, reads_number, size_number)

second_sound : (g : Global) → Sound g (initially g 49 (sets_late g 1))
second_sound g = simp (sound_delay, numbers_delay, sound_assign, numbers_assign, reads_number, size_number)

listens_sound : (g : Global) → is_sound_statement (two_rises g).signals (listens g) ≡ true
listens_sound g =
    sound_event (two_rises g).signals g 0 (two_of g (rise_of 2) (rise_of 1)) (prints g) refl ∙ sound_Call (two_rises g).signals 1 _
    ∙ rw (reads_operand 1, size_operand 1) refl

listens_numbers : (g : Global) → numbers (listens g) ≡ 0 ∷ 1 ∷ []
listens_numbers g = numbers_event g 0 (two_of g (rise_of 2) (rise_of 1)) (prints g) ∙ ap (λ ns. 0 ∷ ns) (numbers_Call 1 _)

third_sound : (g : Global) → Sound g (initially g 50 (listens g))
third_sound g = rw (listens_sound g, listens_numbers g) refl

abbrev SoundAssign : Global → Assign → Type 0
SoundAssign g a = is_sound_assign (two_rises g).signals a ≡ true

formed : (g : Global) → WellFormed (two_rises g)
unfolding IsDistinct
formed g = record {
  processes =
      All-cons (Sound g) (initially g 48 (sets_late g 0)) (initially g 49 (sets_late g 1) ∷ initially g 50 (listens g) ∷ []) (first_sound g)
      (All-cons (Sound g) (initially g 49 (sets_late g 1)) (initially g 50 (listens g) ∷ []) (second_sound g)
      (All-cons (Sound g) (initially g 50 (listens g)) [] (third_sound g) (All-nil (Sound g))));
  assigns = All-cons (SoundAssign g) (the_net_assign g) [] (rw (reads_operand 0, size_operand 0) refl) (All-nil (SoundAssign g));
  drivers = (tt, tt);
  declared =
      All-cons (λ n. nat_lt n 3 ≡ true) 0 (1 ∷ 2 ∷ []) refl
      (All-cons (λ n. nat_lt n 3 ≡ true) 1 (2 ∷ []) refl (All-cons (λ n. nat_lt n 3 ≡ true) 2 [] refl (All-nil (λ n. nat_lt n 3 ≡ true))));
  declared_once = ((refl, (refl, tt)), ((refl, tt), (tt, tt)));
  all_declared = declared_3;
  paths = ((refl, (refl, tt)), ((refl, tt), (tt, tt)));
  names = ((refl, (refl, tt)), ((refl, tt), (tt, tt)));
  assign_names = (tt, tt);
}

-- ---- its certificate

writer_is : (g : Global) (grain : Grain) (v i : ℕ) → IsWriter (two_rises g) (two_rises_claims grain) v i → Written i v
writer_is g grain zero zero h = Written.first
writer_is g grain zero (suc zero) h = absurd (false≢true h)
writer_is g grain zero (suc (suc zero)) h = absurd (false≢true h)
writer_is g grain zero (suc (suc (suc i))) h = absurd (false≢true h)
writer_is g grain (suc zero) zero h = absurd (false≢true h)
writer_is g grain (suc zero) (suc zero) h = Written.second
writer_is g grain (suc zero) (suc (suc zero)) h = absurd (false≢true h)
writer_is g grain (suc zero) (suc (suc (suc i))) h = absurd (false≢true h)
writer_is g grain (suc (suc zero)) i h = absurd (false≢true h)
writer_is g grain (suc (suc (suc v))) i h = absurd (false≢true h)

is_writer : (g : Global) (grain : Grain) (v i : ℕ) → Written i v → IsWriter (two_rises g) (two_rises_claims grain) v i
is_writer g grain _ _ Written.first = refl
is_writer g grain _ _ Written.second = refl

-- the process of a number writes the signal of this number
same_number : (i v : ℕ) → Written i v → i ≡ v
same_number _ _ Written.first = refl
same_number _ _ Written.second = refl

no_second : (g : Global) (grain : Grain) (v i : ℕ) → IsSecond (two_rises g) (two_rises_claims grain) v i → ⊥
no_second g grain zero i h = false≢true h
no_second g grain (suc zero) i h = false≢true h
no_second g grain (suc (suc zero)) i h = false≢true h
no_second g grain (suc (suc (suc v))) i h = false≢true h

no_block : (g : Global) (grain : Grain) (i : ℕ) → IsBlock (two_rises g) (two_rises_claims grain) i → ⊥
no_block g grain zero h = let e = h.1 in cc
no_block g grain (suc zero) h = let e = h.1 in cc
no_block g grain (suc (suc zero)) h = let e = h.1 in cc
no_block g grain (suc (suc (suc i))) h = none-some (Kind.block h.0) h.1

edge_is : (g : Global) (grain : Grain) (i : ℕ) → IsEdge (two_rises g) (two_rises_claims grain) i → i ≡ 2
edge_is g grain zero e = cc
edge_is g grain (suc zero) e = cc
edge_is g grain (suc (suc zero)) e = refl
edge_is g grain (suc (suc (suc i))) e = absurd (none-some Kind.edges e)

abbrev ListsOf : ℕ → List (List ℕ) → Type 0
ListsOf i lists = (i ≡ 0) × ((1 ∷ []) ∷ [] ≡ lists) ⊎ (i ≡ 1) × ((2 ∷ []) ∷ [] ≡ lists)

lists_are : (g : Global) (grain : Grain) (i : ℕ) (lists : List (List ℕ)) → HasLists (two_rises g) (two_rises_claims grain) i lists → ListsOf i lists
lists_are g grain zero lists e = inl (refl, cc)
lists_are g grain (suc zero) lists e = inr (refl, cc)
lists_are g grain (suc (suc zero)) lists e = cc
lists_are g grain (suc (suc (suc i))) lists e = absurd (none-some (Kind.delays lists) e)

a_is : (g : Global) (v : ℕ) → IsSignalNamed (two_rises g) v (signal_in_t 97) → v ≡ 0
a_is g zero is = refl
a_is g (suc zero) is = absurd (other_name (signal_in_t 97) (Some (signal_in_t 99)) refl refl is)
a_is g (suc (suc zero)) is = absurd (other_name (signal_in_t 97) (Some (signal_in_t 119)) refl refl is)
a_is g (suc (suc (suc v))) is = absurd (none-some (signal_in_t 97) is)

c_is : (g : Global) (v : ℕ) → IsSignalNamed (two_rises g) v (signal_in_t 99) → v ≡ 1
c_is g zero is = absurd (other_name (signal_in_t 99) (Some (signal_in_t 97)) refl refl is)
c_is g (suc zero) is = refl
c_is g (suc (suc zero)) is = absurd (other_name (signal_in_t 99) (Some (signal_in_t 119)) refl refl is)
c_is g (suc (suc (suc v))) is = absurd (none-some (signal_in_t 99) is)

w_is : (g : Global) (v : ℕ) → IsSignalNamed (two_rises g) v (signal_in_t 119) → v ≡ 2
w_is g zero is = absurd (other_name (signal_in_t 119) (Some (signal_in_t 97)) refl refl is)
w_is g (suc zero) is = absurd (other_name (signal_in_t 119) (Some (signal_in_t 99)) refl refl is)
w_is g (suc (suc zero)) is = refl
w_is g (suc (suc (suc v))) is = absurd (none-some (signal_in_t 119) is)

-- of `w` the root is `a`, and of `c` it is `c`
abbrev Rooted : ℕ → ℕ → Type 0
Rooted root v = (root ≡ 0) × (v ≡ 2) ⊎ (root ≡ 1) × (v ≡ 1)

root_is : (g : Global) (grain : Grain) (root v : ℕ) → IsRootOf (two_rises g) (two_rises_claims grain) root v → Rooted root v
root_is g grain root v h = at_place h.place h.is
  where
    at_place : (n : ℕ) → slice_get (two_rises_claims grain).edges n ≡ Some h.entry → Rooted root v
    at_place zero is =
        let same : record { root = signal_in_t 97; signal = signal_in_t 119 } ≡ h.entry = same_Some _ h.entry is in
        inl (
          a_is g root (subst (λ (x : EdgeClaim). IsSignalNamed (two_rises g) root x.root) (sym same) h.root_is),
          w_is g v (subst (λ (x : EdgeClaim). IsSignalNamed (two_rises g) v x.signal) (sym same) h.signal),
        )
    at_place (suc zero) is =
        let same : record { root = signal_in_t 99; signal = signal_in_t 99 } ≡ h.entry = same_Some _ h.entry is in
        inr (
          c_is g root (subst (λ (x : EdgeClaim). IsSignalNamed (two_rises g) root x.root) (sym same) h.root_is),
          c_is g v (subst (λ (x : EdgeClaim). IsSignalNamed (two_rises g) v x.signal) (sym same) h.signal),
        )
    at_place (suc (suc n)) is = absurd (none-some h.entry is)

-- ---- when its edges come

-- the edges of `w` come at the residue 1, and those of `c` at the residue 2
abbrev Timed : ℕ → ℕ → Type 0
Timed v r = (v ≡ 2) × (1 ≡ r) ⊎ (v ≡ 1) × (2 ≡ r)

pub zero_one : (n : ℕ) → n ≡ 0 → n ≡ 1 → ⊥
zero_one n is other = differ 0 1 refl (sym is ∙ other)

pub one_two : (n : ℕ) → n ≡ 1 → n ≡ 2 → ⊥
one_two n is other = differ 1 2 refl (sym is ∙ other)

at_one : (one two r : ℕ) → one ≡ 1 → two ≡ 2 → one ≡ r → two ≡ r → ⊥
at_one one two r is other same also = one_two r (sym same ∙ is) (sym also ∙ other)

fires_at : (g : Global) (grain : Grain) (t : EventTerm) (r : ℕ) → Fires (two_rises g) (two_rises_claims grain) t r → Timed t.range.signal r
fires_at g grain t r h = elim (root_is g grain h.root t.range.signal h.is_root) [
  | inl a ↦ inl (a.1, of_a (same_number h.writer h.root (writer_is g grain h.root h.writer h.is_writer) ∙ a.0) (lists_are g grain h.writer h.lists h.kind))
  | inr c ↦ inr (c.1, of_c (same_number h.writer h.root (writer_is g grain h.root h.writer h.is_writer) ∙ c.0) (lists_are g grain h.writer h.lists h.kind))
]
  where
    way : Way g h.writer h.runs.at h.runs.next
    way = way_at g h.writer h.runs.at h.runs.next (spot_at g h.writer h.runs.at h.runs.point) h.runs.goes

    of_a : h.writer ≡ 0 → ListsOf h.writer h.lists → 1 ≡ r
    of_a is (inl first) = ends_at g h.writer 1 h.runs.at h.runs.next way h.lists r first.1 h.runs.starts
    of_a is (inr second) = absurd (zero_one h.writer is second.0)

    of_c : h.writer ≡ 1 → ListsOf h.writer h.lists → 2 ≡ r
    of_c is (inl first) = absurd (zero_one h.writer first.0 is)
    of_c is (inr second) = ends_at g h.writer 2 h.runs.at h.runs.next way h.lists r second.1 h.runs.starts

-- the second process runs at the residue 2
second_at : (g : Global) (grain : Grain) (i r : ℕ) (k : Todo) (next : Next) → i ≡ 1 → Way g i k next → Ends (two_rises g) (two_rises_claims grain) i (kind_of (two_rises g) (two_rises_claims grain) i) next r → 2 ≡ r
second_at g grain _ r _ _ is Way.delays_a ends = absurd (differ 0 1 refl is)
second_at g grain _ r _ _ is Way.sets_a ends = absurd (differ 0 1 refl is)
second_at g grain _ r _ _ is Way.delays_c ends = ends_at g 1 2 _ _ Way.delays_c ((2 ∷ []) ∷ []) r refl ends
second_at g grain _ r _ _ is Way.sets_c ends = absurd ends
second_at g grain _ r _ _ is Way.listens_there ends = absurd (differ 2 1 refl is)
second_at g grain _ r _ _ is Way.prints_there ends = absurd (differ 2 1 refl is)
second_at g grain _ r _ _ is (Way.rests i) ends = absurd (subst (λ n. Ends (two_rises g) (two_rises_claims grain) n (kind_of (two_rises g) (two_rises_claims grain) n) (on []) r) is ends)

-- ---- the rules

abbrev Listed : Grain → Name → Type 0
Listed grain name = IsOnlyIn name (signal_names (two_rises_claims grain)) (two_rises_claims grain).order (process_names (two_rises_claims grain))

names_signals : (g : Global) (grain : Grain) (v : ℕ) → K1_Signal (two_rises g) (two_rises_claims grain) v
names_signals g grain zero name is = subst (Listed grain) (same_Some (signal_in_t 97) name is) (record { once = refl; nowhere = refl; nowhere_else = refl })
names_signals g grain (suc zero) name is = subst (Listed grain) (same_Some (signal_in_t 99) name is) (record { once = refl; nowhere = refl; nowhere_else = refl })
names_signals g grain (suc (suc zero)) name is = subst (Listed grain) (same_Some (signal_in_t 119) name is) (record { once = refl; nowhere = refl; nowhere_else = refl })
names_signals g grain (suc (suc (suc v))) name is = absurd (none-some name is)

abbrev ListedAssign : Grain → Name → Type 0
ListedAssign grain name = IsOnlyIn name (two_rises_claims grain).order (signal_names (two_rises_claims grain)) (process_names (two_rises_claims grain))

abbrev InNoEdge : Grain → Name → Type 0
InNoEdge grain name = times_in name (edge_names (two_rises_claims grain)) ≡ 0

names_assigns : (g : Global) (grain : Grain) (j : ℕ) → K1_Assign (two_rises g) (two_rises_claims grain) j
names_assigns g grain zero = record {
  listed = λ name is. subst (ListedAssign grain) (same_Some (assign_in_t 48) name is) (record { once = refl; nowhere = refl; nowhere_else = refl });
  no_edge = λ name is. subst (InNoEdge grain) (same_Some (assign_in_t 48) name is) refl;
}
names_assigns g grain (suc j) = record { listed = λ name is. absurd (none-some name is); no_edge = λ name is. absurd (none-some name is) }

abbrev ListedProcess : Grain → Name → Type 0
ListedProcess grain name = IsOnlyIn name (process_names (two_rises_claims grain)) (signal_names (two_rises_claims grain)) (edge_names (two_rises_claims grain))

abbrev Unordered : Grain → Name → Type 0
Unordered grain name = times_in name (two_rises_claims grain).order ≡ 0

names_processes : (g : Global) (grain : Grain) (i : ℕ) → K1_Process (two_rises g) (two_rises_claims grain) i
names_processes g grain i = record {
  listed = λ name is. listed_at i name is;
  block_ordered = λ name is blk. absurd (no_block g grain i blk);
  not_ordered = λ name is other. unordered_at i name is;
}
  where
    listed_at : (n : ℕ) (name : Name) → IsProcessNamed (two_rises g) n name → ListedProcess grain name
    listed_at zero name is = subst (ListedProcess grain) (same_Some (process_in_t 48) name is) (record { once = refl; nowhere = refl; nowhere_else = refl })
    listed_at (suc zero) name is = subst (ListedProcess grain) (same_Some (process_in_t 49) name is) (record { once = refl; nowhere = refl; nowhere_else = refl })
    listed_at (suc (suc zero)) name is = subst (ListedProcess grain) (same_Some (process_in_t 50) name is) (record { once = refl; nowhere = refl; nowhere_else = refl })
    listed_at (suc (suc (suc n))) name is = absurd (none-some name is)

    unordered_at : (n : ℕ) (name : Name) → IsProcessNamed (two_rises g) n name → Unordered grain name
    unordered_at zero name is = subst (Unordered grain) (same_Some (process_in_t 48) name is) refl
    unordered_at (suc zero) name is = subst (Unordered grain) (same_Some (process_in_t 49) name is) refl
    unordered_at (suc (suc zero)) name is = subst (Unordered grain) (same_Some (process_in_t 50) name is) refl
    unordered_at (suc (suc (suc n))) name is = absurd (none-some name is)

names_known : (g : Global) (grain : Grain) (n : ℕ) (name : Name) → slice_get (all_names (two_rises_claims grain)) n ≡ Some name → K1_Name (two_rises g) (two_rises_claims grain) name
names_known g grain zero name is = subst (K1_Name (two_rises g) (two_rises_claims grain)) (same_Some (signal_in_t 97) name is) (inl (0, refl))
names_known g grain (suc zero) name is = subst (K1_Name (two_rises g) (two_rises_claims grain)) (same_Some (signal_in_t 119) name is) (inl (2, refl))
names_known g grain (suc (suc zero)) name is = subst (K1_Name (two_rises g) (two_rises_claims grain)) (same_Some (signal_in_t 99) name is) (inl (1, refl))
names_known g grain (suc (suc (suc zero))) name is = subst (K1_Name (two_rises g) (two_rises_claims grain)) (same_Some (signal_in_t 99) name is) (inl (1, refl))
names_known g grain (suc (suc (suc (suc zero)))) name is = subst (K1_Name (two_rises g) (two_rises_claims grain)) (same_Some (assign_in_t 48) name is) (inr (inl (0, refl)))
names_known g grain (suc (suc (suc (suc (suc zero))))) name is = subst (K1_Name (two_rises g) (two_rises_claims grain)) (same_Some (process_in_t 48) name is) (inr (inr (0, refl)))
names_known g grain (suc (suc (suc (suc (suc (suc zero)))))) name is = subst (K1_Name (two_rises g) (two_rises_claims grain)) (same_Some (process_in_t 49) name is) (inr (inr (1, refl)))
names_known g grain (suc (suc (suc (suc (suc (suc (suc zero))))))) name is = subst (K1_Name (two_rises g) (two_rises_claims grain)) (same_Some (process_in_t 50) name is) (inr (inr (2, refl)))
names_known g grain (suc (suc (suc (suc (suc (suc (suc (suc zero)))))))) name is = subst (K1_Name (two_rises g) (two_rises_claims grain)) (same_Some (signal_in_t 97) name is) (inl (0, refl))
names_known g grain (suc (suc (suc (suc (suc (suc (suc (suc (suc zero))))))))) name is = subst (K1_Name (two_rises g) (two_rises_claims grain)) (same_Some (signal_in_t 99) name is) (inl (1, refl))
names_known g grain (suc (suc (suc (suc (suc (suc (suc (suc (suc (suc zero)))))))))) name is = subst (K1_Name (two_rises g) (two_rises_claims grain)) (same_Some (signal_in_t 119) name is) (inl (2, refl))
names_known g grain (suc (suc (suc (suc (suc (suc (suc (suc (suc (suc (suc n))))))))))) name is = absurd (none-some name is)

writers : (g : Global) (grain : Grain) (v : ℕ) → K2 (two_rises g) (two_rises_claims grain) v
writers g grain v = record {
  named = λ i w. inl (is_writer g grain v i (written g i v w));
  writer_writes = λ name is. writes_at v name is;
  second_writes = λ name is. absurd (none_named v name is);
  no_block = λ i j is blk w. no_second g grain v i is;
  early = λ i k is point w late. no_second g grain v i is;
  first_alone = λ i j l is writer slot w. no_second g grain v i is;
  first_alone_later = λ i j k l is point w writer slot more. no_second g grain v i is;
}
  where
    writes_at : (n : ℕ) (name : Name) → writer_in (claim_of (two_rises g) (two_rises_claims grain) n) ≡ Some name → (i : ℕ) × IsWriter (two_rises g) (two_rises_claims grain) n i × Writes (two_rises g) i n
    writes_at zero name is = (0, refl, first_writes g)
    writes_at (suc zero) name is = (1, refl, second_writes g)
    writes_at (suc (suc zero)) name is = absurd (none-some name is)
    writes_at (suc (suc (suc n))) name is = absurd (none-some name is)

    none_named : (n : ℕ) (name : Name) → second_in (claim_of (two_rises g) (two_rises_claims grain) n) ≡ Some name → ⊥
    none_named zero name is = none-some name is
    none_named (suc zero) name is = none-some name is
    none_named (suc (suc zero)) name is = none-some name is
    none_named (suc (suc (suc n))) name is = none-some name is

modes : (g : Global) (grain : Grain) (v : ℕ) → K3 (two_rises g) (two_rises_claims grain) v
modes g grain zero mode is =
    subst (IsAsModeSays (two_rises g) (two_rises_claims grain) 0) (same_Some blocking mode is)
    (0, refl, (inl ((1 ∷ []) ∷ [], refl), λ k point w. updates g 0 0 k (spot_at g 0 k point) w))
modes g grain (suc zero) mode is =
    subst (IsAsModeSays (two_rises g) (two_rises_claims grain) 1) (same_Some blocking mode is)
    (1, refl, (inl ((2 ∷ []) ∷ [], refl), λ k point w. updates g 1 1 k (spot_at g 1 k point) w))
modes g grain (suc (suc zero)) mode is = subst (IsAsModeSays (two_rises g) (two_rises_claims grain) 2) (same_Some Mode.net mode is) (bit g 119 Wire, refl, refl)
modes g grain (suc (suc (suc v))) mode is = absurd (none-some mode is)

source_a : (g : Global) (grain : Grain) → IsSource (two_rises g) (two_rises_claims grain) 0
source_a g grain = record { variable = (bit g 97 Reg, refl, refl); undriven = λ i blk w. no_block g grain i blk }

-- what the continuous assignment reads and writes
assign_reads : (g : Global) (r : BitRange) → DriverReads (two_rises g) (assign 0) r → whole 0 ≡ r
assign_reads g r is =
    one_in (whole 0) r (subst (λ rs. Contains rs r) (reads_operand 0) (subst (λ (a : Assign). Contains (reads_in a) r) (sym (same_Some (the_net_assign g) is.0 is.1)) is.2.0))
  where
    reads_in : Assign → List BitRange
    reads_in a = reads a.source

assign_bit : (g : Global) (j : ℕ) (b : Bit) → WritesBit (two_rises g) (assign j) b → 2 ≡ b.signal
assign_bit g zero b w =
    let range = one_in (slice_range (the_bit 2)) w.range (subst (λ (a : Assign). Contains (writes a.target) w.range) (sym (same_Some (the_net_assign g) w.writes.0 w.writes.1)) w.writes.2.0) in
    ap (λ (q : BitRange). q.signal) range ∙ eqb-true w.range.signal b.signal (covers_signal b.signal b.word b.place w.range w.has)
assign_bit g (suc j) b w = absurd (none-some w.writes.0 w.writes.1)

read_bit : (r : BitRange) (b : Bit) → whole 0 ≡ r → Has r b → 0 ≡ b.signal
read_bit r b same has = ap (λ (q : BitRange). q.signal) same ∙ eqb-true r.signal b.signal (covers_signal b.signal b.word b.place r has)

order : (g : Global) (grain : Grain) (x : Driver) → K4 (two_rises g) (two_rises_claims grain) x
order g grain (assign zero) = record {
  known = λ r is needs. inr (inl (subst (λ (q : BitRange). IsSource (two_rises g) (two_rises_claims grain) q.signal) (assign_reads g r needs) (source_a g grain)));
  earlier = λ r b y is needs bit has other writes. absurd (none_writes y b other writes (read_bit r b (assign_reads g r needs) has));
}
  where
    none_writes : (x : Driver) (b : Bit) → IsDriver (two_rises g) (two_rises_claims grain) x → WritesBit (two_rises g) x b → 0 ≡ b.signal → ⊥
    none_writes (assign j) b is w at = differ 0 2 refl (at ∙ sym (assign_bit g j b w))
    none_writes (block_driver k) b is w at = no_block g grain k is
order g grain (assign (suc j)) = record {
  known = λ r is needs. absurd (none-some needs.0 needs.1);
  earlier = λ r b y is needs bit has other writes. absurd (none-some needs.0 needs.1);
}
order g grain (block_driver i) = record {
  known = λ r is needs. absurd (no_block g grain i is);
  earlier = λ r b y is needs bit has other writes. absurd (no_block g grain i is);
}

blocks : (g : Global) (grain : Grain) (i : ℕ) → K5 (two_rises g) (two_rises_claims grain) i
blocks g grain i = record {
  grain = λ blk. absurd (no_block g grain i blk);
  shape = λ p blk is. absurd (no_block g grain i blk);
  quiet = λ k blk point. absurd (no_block g grain i blk);
  covered = λ r b blk l s h. absurd (no_block g grain i blk);
  before_reads = λ b k r blk is w u n same. no_block g grain i blk;
  before_end = λ b k next blk is w u goes pauses. no_block g grain i blk;
}

-- `w` copies `a`
net_copies : (g : Global) → IsCopy (two_rises g) 2 0
unfolding out-Typed denote.Hole.Carrier.out
net_copies g = record {
  is_net = (bit g 119 Wire, refl, refl);
  number = 0;
  assign = the_net_assign g;
  is = refl;
  whole = record {
    slice = the_bit 2;
    only = refl;
    whole = record { signal = bit g 119 Wire; is = refl; count = refl; no_array = refl; of = refl; word = refl; low = refl; width = refl };
  };
  copies = record { signal = bit g 97 Reg; is = refl; count = refl; no_array = refl; of = refl; width = refl };
  same = λ s t at_w at_a. ap (λ (x : Signal). x.width) (sym (same_Some (bit g 119 Wire) s at_w)) ∙ ap (λ (x : Signal). x.width) (same_Some (bit g 97 Reg) t at_a);
  alone = λ j a at listed. only_one j a at;
}
  where
    only_one : (j : ℕ) (a : Assign) → slice_get (two_rises g).assigns j ≡ Some a → j ≡ 0
    only_one zero a at = refl
    only_one (suc j) a at = absurd (none-some a at)

copies_root : (g : Global) (grain : Grain) (root v : ℕ) → Rooted root v → CopiesRoot (two_rises g) false root v
copies_root g grain root v (inl a) =
    subst (λ n. CopiesRoot (two_rises g) false n v) (sym a.0)
    (subst (CopiesRoot (two_rises g) false 0) (sym a.1) (copy 2 0 (bit g 119 Wire, refl, refl, refl, refl) (net_copies g) (itself (bit g 97 Reg, refl, refl, refl, refl))))
copies_root g grain root v (inr c) =
    subst (λ n. CopiesRoot (two_rises g) false n v) (sym c.0) (subst (CopiesRoot (two_rises g) false 1) (sym c.1) (itself (bit g 99 Reg, refl, refl, refl, refl)))

-- a way from the write of a root leads to the end, where nothing is written
never_hot : (g : Global) (i root : ℕ) (k : Todo) → WritesAny (two_rises g) k root → IsHot (two_rises g) false i root k → ⊥
never_hot g i root k w hot =
    let last : todo_after hot.next ≡ [] = wrote_last g i root hot.at hot.next (wrote g i root hot.at (spot_at g i hot.at hot.point) hot.starts) hot.goes in
    let over : k ≡ [] = ends_there is_zero_time k (subst (λ l. Path is_zero_time l k) last hot.path) in
    early_any g i root [] (Early.rests i) (subst (λ l. WritesAny (two_rises g) l root) over w)

sound_a : (g : Global) (grain : Grain) → IsSoundRoot (two_rises g) (two_rises_claims grain) 0
sound_a g grain = record {
  variable = (bit g 97 Reg, refl, refl);
  mode = refl;
  writer = (0, refl, ((1 ∷ []) ∷ [], refl));
  once = λ i k writer point w hot. never_hot g i 0 k w hot;
}

sound_c : (g : Global) (grain : Grain) → IsSoundRoot (two_rises g) (two_rises_claims grain) 1
sound_c g grain = record {
  variable = (bit g 99 Reg, refl, refl);
  mode = refl;
  writer = (1, refl, ((2 ∷ []) ∷ [], refl));
  once = λ i k writer point w hot. never_hot g i 1 k w hot;
}

sound_root : (g : Global) (grain : Grain) (root v : ℕ) → Rooted root v → IsSoundRoot (two_rises g) (two_rises_claims grain) root
sound_root g grain root v (inl a) = subst (IsSoundRoot (two_rises g) (two_rises_claims grain)) (sym a.0) (sound_a g grain)
sound_root g grain root v (inr c) = subst (IsSoundRoot (two_rises g) (two_rises_claims grain)) (sym c.0) (sound_c g grain)

roots : (g : Global) (grain : Grain) (v : ℕ) → K6 (two_rises g) (two_rises_claims grain) v
roots g grain v = record {
  one_entry = λ name is edge. entry_at v name is (edge_signal_is g v edge);
  no_entry = λ name is none. no_entry_at v name is none;
  copies = λ root is. copies_root g grain root v (root_is g grain root v is);
  root = λ root is. sound_root g grain root v (root_is g grain root v is);
}
  where
    Once : Name → Type 0
    Once name = times_in name (edge_signals (two_rises_claims grain)) ≡ 1

    Never : Name → Type 0
    Never name = times_in name (edge_signals (two_rises_claims grain)) ≡ 0

    neither : (n : ℕ) → (2 ≡ n → ⊥) → (1 ≡ n → ⊥) → (2 ≡ n) ⊎ (1 ≡ n) → ⊥
    neither n two one (inl is) = two is
    neither n two one (inr is) = one is

    entry_at : (n : ℕ) (name : Name) → IsSignalNamed (two_rises g) n name → (2 ≡ n) ⊎ (1 ≡ n) → Once name
    entry_at zero name is at = absurd (neither 0 (differ 2 0 refl) (differ 1 0 refl) at)
    entry_at (suc zero) name is at = subst Once (same_Some (signal_in_t 99) name is) refl
    entry_at (suc (suc zero)) name is at = subst Once (same_Some (signal_in_t 119) name is) refl
    entry_at (suc (suc (suc n))) name is at = absurd (none-some name is)

    no_entry_at : (n : ℕ) (name : Name) → IsSignalNamed (two_rises g) n name → (IsEdgeSignal (two_rises g) n → ⊥) → Never name
    no_entry_at zero name is none = subst Never (same_Some (signal_in_t 97) name is) refl
    no_entry_at (suc zero) name is none = absurd (none (edge_signal_c g))
    no_entry_at (suc (suc zero)) name is none = absurd (none (edge_signal_w g))
    no_entry_at (suc (suc (suc n))) name is none = absurd (none-some name is)

-- of one signal the root is one
same_root : (root other v : ℕ) → Rooted root v → Rooted other v → root ≡ other
same_root root other v (inl a) (inl also) = a.0 ∙ sym also.0
same_root root other v (inl a) (inr c) = absurd (one_two v c.1 a.1)
same_root root other v (inr c) (inl a) = absurd (one_two v c.1 a.1)
same_root root other v (inr c) (inr also) = c.0 ∙ sym also.0

-- and of one root the signal is one
same_signal : (root v u : ℕ) → Rooted root v → Rooted root u → v ≡ u
same_signal root v u (inl a) (inl also) = a.1 ∙ sym also.1
same_signal root v u (inl a) (inr c) = absurd (zero_one root a.0 c.0)
same_signal root v u (inr c) (inl a) = absurd (zero_one root a.0 c.0)
same_signal root v u (inr c) (inr also) = c.1 ∙ sym also.1

-- at one residue edges of one root alone come
apart : (one other v u r : ℕ) → Rooted one v → Rooted other u → Timed v r → Timed u r → one ≡ other
apart one other v u r at also (inl w) (inl more) = same_root one other 2 (subst (Rooted one) w.0 at) (subst (Rooted other) more.0 also)
apart one other v u r at also (inl w) (inr c) = absurd (one_two r (sym w.1) (sym c.1))
apart one other v u r at also (inr c) (inl w) = absurd (one_two r (sym w.1) (sym c.1))
apart one other v u r at also (inr c) (inr more) = same_root one other 1 (subst (Rooted one) c.0 at) (subst (Rooted other) more.0 also)

waits : (g : Global) (grain : Grain) (i : ℕ) → K7 (two_rises g) (two_rises_claims grain) i
waits g grain i = record {
  events = λ k l number ts edge point goes. subst AreEdges (event g i k l number ts point goes).terms_are refl;
  no_delay = λ k l number ticks edge point goes. delays_not (edge_is g grain i edge) (pause g i k l number ticks (spot_at g i k point) goes).which;
  one_signal = λ t u root edge has also is is_too. same_signal root t.range.signal u.range.signal (root_is g grain root t.range.signal is) (root_is g grain root u.range.signal is_too);
  apart = λ one other r edge fires also.
      apart one other fires.term.range.signal also.term.range.signal r (root_is g grain one fires.term.range.signal fires.is_root)
      (root_is g grain other also.term.range.signal also.is_root) (fires_at g grain fires.term r fires.fires) (fires_at g grain also.term r also.fires);
  arrives = λ lists delay event r is a b e. none_mixed (two_rises g) (two_rises_claims grain) i lists refl is;
}
  where
    delays_not : {ticks : ℕ} → i ≡ 2 → (i ≡ 0) × (1 ≡ ticks) ⊎ (i ≡ 1) × (2 ≡ ticks) → ⊥
    delays_not is (inl first) = differ 0 2 refl (sym first.0 ∙ is)
    delays_not is (inr second) = one_two i second.0 is

-- ---- its delays end as its lists say

pub ends_in : (ns : List ℕ) (lists : List (List ℕ)) (one number ticks : ℕ) → ns ≡ 0 ∷ [] → (one ∷ []) ∷ [] ≡ lists → 0 ≡ number → one ≡ ticks % 3 →
    Contains (list_of ns lists number) (ticks % 3)
ends_in ns lists one number ticks ns_are lists_are number_is at =
    subst (λ l. Contains (list_of l lists number) (ticks % 3)) (sym ns_are)
    (subst (λ l. Contains (list_of (0 ∷ []) l number) (ticks % 3)) lists_are
    (subst (λ n. Contains (list_of (0 ∷ []) ((one ∷ []) ∷ []) n) (ticks % 3)) number_is (subst (λ r. Contains (one ∷ []) r) at (0, lit< tt, refl))))

first_controls : (g : Global) (n : ℕ) → n ≡ 0 → controls_of (two_rises g) n ≡ 0 ∷ []
first_controls g n is = ap (controls_of (two_rises g)) is ∙ controls_a g

second_controls : (g : Global) (n : ℕ) → n ≡ 1 → controls_of (two_rises g) n ≡ 0 ∷ []
second_controls g n is = ap (controls_of (two_rises g)) is ∙ controls_c g

one_control : (g : Global) (i : ℕ) (lists : List (List ℕ)) → ListsOf i lists → length lists ≡ length (controls_of (two_rises g) i)
one_control g i lists (inl first) = sym (ap length first.1) ∙ sym (ap length (first_controls g i first.0))
one_control g i lists (inr second) = sym (ap length second.1) ∙ sym (ap length (second_controls g i second.0))

from_start : (g : Global) (i number ticks : ℕ) (lists : List (List ℕ)) → ListsOf i lists → IsPause i number ticks →
    Contains (list_of (controls_of (two_rises g) i) lists number) (ticks % 3)
from_start g i number ticks lists of here = ends of here.which
  where
    ends : ListsOf i lists → (i ≡ 0) × (1 ≡ ticks) ⊎ (i ≡ 1) × (2 ≡ ticks) → Contains (list_of (controls_of (two_rises g) i) lists number) (ticks % 3)
    ends (inl first) (inl one) = ends_in (controls_of (two_rises g) i) lists 1 number ticks (first_controls g i first.0) first.1 here.number_is (ap (λ n. n % 3) one.1)
    ends (inl first) (inr two) = absurd (zero_one i first.0 two.0)
    ends (inr second) (inl one) = absurd (zero_one i one.0 second.0)
    ends (inr second) (inr two) = ends_in (controls_of (two_rises g) i) lists 2 number ticks (second_controls g i second.0) second.1 here.number_is (ap (λ n. n % 3) two.1)

residues : (g : Global) (grain : Grain) (i : ℕ) → K8 (two_rises g) (two_rises_claims grain) i
residues g grain i = record {
  no_event = λ k l number ts delay point goes. never_waits (event g i k l number ts point goes).process (lists_are g grain i delay.0 delay.1);
  one_each = λ lists is. one_control g i lists (lists_are g grain i lists (lists_unmixed (two_rises g) (two_rises_claims grain) i lists refl is));
  from_start = λ lists k l number ticks is slot goes above.
      from_start g i number ticks lists (lists_are g grain i lists (lists_unmixed (two_rises g) (two_rises_claims grain) i lists refl is)) (pause g i k l number ticks (early_spot g i k (early_at g i k slot)) goes);
  from_residue = λ lists k l number ticks r is runs goes.
      let behind = runs_behind g i runs.at k runs.next (way_at g i runs.at runs.next (spot_at g i runs.at runs.point) runs.goes) lists r runs.starts runs.path in
      let no_way : on [] ≡ after number ticks l = behind_plain g k (after number ticks l) behind goes in
      cc;
  from_edge = λ lists k l number ticks r is runs goes. absurd (none_mixed (two_rises g) (two_rises_claims grain) i lists refl is);
}
  where
    never_waits : {lists : List (List ℕ)} → i ≡ 2 → ListsOf i lists → ⊥
    never_waits is (inl first) = differ 0 2 refl (sym first.0 ∙ is)
    never_waits is (inr second) = one_two i second.0 is

-- ---- what the third process shows is its own edge signal

own_edge : (g : Global) (grain : Grain) (k : Todo) → IsOwnEdge (two_rises g) (two_rises_claims grain) 2 1 k
own_edge g grain k = record {
  term = rise_of 1;
  has = has_rise_c g;
  edge = refl;
  of = refl;
  apart = λ root other r is slot fires. same root other r (root_is g grain root 1 is) slot fires;
  undelayed = λ lists root r is root_at slot runs. none_mixed (two_rises g) (two_rises_claims grain) 2 lists refl is;
}
  where
    same : (root other r : ℕ) → Rooted root 1 → HasWriteSlot (two_rises g) (two_rises_claims grain) root r → FiresOf (two_rises g) (two_rises_claims grain) 2 other r → other ≡ root
    same root other r (inl a) slot fires = absurd (one_two 1 refl a.1)
    same root other r (inr c) slot fires =
        let writer : slot.writer ≡ 1 = same_number slot.writer root (writer_is g grain root slot.writer slot.is) ∙ c.0 in
        let way = way_at g slot.writer slot.slot.at slot.slot.next (spot_at g slot.writer slot.slot.at slot.slot.point) slot.slot.goes in
        let at : 2 ≡ r = second_at g grain slot.writer r slot.slot.at slot.slot.next writer way slot.slot.starts in
        apart other root fires.term.range.signal 1 r (root_is g grain other fires.term.range.signal fires.is_root) (inr (c.0, refl))
        (fires_at g grain fires.term r fires.fires) (inr (refl, at))

readings : (g : Global) (grain : Grain) (i : ℕ) → K9 (two_rises g) (two_rises_claims grain) i
readings g grain i = record { fixed = λ k r u seq point needs blocking cone. inr (inl (own_at i k r (spot_at g i k point) needs)) }
  where
    own : (i : ℕ) (k : Todo) (r : BitRange) → Shown g i k r → IsOwnEdge (two_rises g) (two_rises_claims grain) i r.signal k
    own _ _ _ Shown.prints_there = own_edge g grain _

    own_at : (i : ℕ) (k : Todo) (r : BitRange) → Spot g i k → Reads (two_rises g) (two_rises_claims grain) k r → IsOwnEdge (two_rises g) (two_rises_claims grain) i r.signal k
    own_at i k r s (inl reads) = absurd (reads_none g i k r s reads)
    own_at i k r s (inr shows) = own i k r (shown g i k r s shows.1)

first_roots : (g : Global) (grain : Grain) (v : ℕ) → K10_Signal (two_rises g) (two_rises_claims grain) v
first_roots g grain v = record {
  once = λ i j k l root slot w late also. absurd (early_any g i v k (early_at g i k slot) w);
  now = λ i k root slot w. early_any g i v k (early_at g i k slot) (inr w);
  constant = λ i k root slot w. absurd (early_any g i v k (early_at g i k slot) (inl w));
}

no_early_needs : (g : Global) (grain : Grain) (i : ℕ) (k : Todo) (r : BitRange) → Early g i k → Reads (two_rises g) (two_rises_claims grain) k r → ⊥
no_early_needs g grain i k r s (inl reads) = reads_none g i k r (early_spot g i k s) reads
no_early_needs g grain i k r s (inr shows) = early_shows g i k r s shows.1

first_slot : (g : Global) (grain : Grain) (i : ℕ) → K10_Process (two_rises g) (two_rises_claims grain) i
first_slot g grain i = record {
  variable = λ k r seq slot needs. absurd (no_early_needs g grain i k r (early_at g i k slot) needs);
  written = λ k r seq slot needs. absurd (no_early_needs g grain i k r (early_at g i k slot) needs);
  alone = λ k r j seq slot needs w. absurd (no_early_needs g grain i k r (early_at g i k slot) needs);
  first = λ k l r j wide seq slot needs there now. absurd (no_early_needs g grain i k r (early_at g i k slot) needs);
  untouched = λ k u r prologue w needed cone. early_now g i u k (prologue_at g i k prologue) w;
}

keeping : (g : Global) (grain : Grain) → Keeping (two_rises g) (two_rises_claims grain)
keeping g grain = record {
  names_signals = λ v. names_signals g grain v;
  names_assigns = λ j. names_assigns g grain j;
  names_processes = λ i. names_processes g grain i;
  names_known = λ n name is. names_known g grain n name is;
  writers = λ v. writers g grain v;
  modes = λ v. modes g grain v;
  order = λ x. order g grain x;
  blocks = λ i. blocks g grain i;
  roots = λ v. roots g grain v;
  edges = λ i. waits g grain i;
  residues = λ i. residues g grain i;
  readings = λ i. readings g grain i;
  first_roots = λ v. first_roots g grain v;
  first_slot = λ i. first_slot g grain i;
  starts = λ i start is. absurd (no_block g grain i (start, is));
}

-- ---- its certificate is one

certificate : (grain : Grain) → IsCertificate (two_rises_claims grain)
certificate grain = record {
  version = inr refl;
  displays = λ one. absurd (differ 2 1 refl one);
  starts = λ p one has is. differ 2 1 refl one;
  narrow = inr refl;
  unmixed = inr refl;
  above = lit< tt;
  below = lit≤ tt;
  few_edges = lit≤ tt;
  few_ordered = lit≤ tt;
  few_processes = lit≤ tt;
  few_signals = lit≤ tt;
  lists = sound_lists (two_rises_claims grain).modulus (two_rises_claims grain).processes (
    one_list 3 (1 ∷ []) (record { few = lit≤ tt; rising = refl }),
    (one_list 3 (2 ∷ []) (record { few = lit≤ tt; rising = refl }), (tt, tt)),
  );
}

pub two_roots_keep_the_rules : TwoRootsKeepTheRules
two_roots_keep_the_rules g grain =
    let kept = keeps_rules (two_rises g) (two_rises_claims grain) (formed g) (certificate grain) (keeping g grain) in
    (kept, rules_make_displays_alike (two_rises g) (two_rises_claims grain) (formed g) kept.1.rules refl)
