-- What is written of slots is a dump, and says what they show.
use Rattle.std.proofs.Common.{◌≡◌, ℕ, ◌≤◌, ◌^◌, Some, IfSome, List, [], ◌∷◌, ◌++◌, map, refl, sym, ap, subst, append-nil, arith}
use Rattle.std.proofs.lemmas.List.Elements.{All-cons}
use Rattle.std.specs.Prelude.{slice_get}
use Rattle.std.specs.List.{flat_map, All}
use Rattle.vs_design.specs.Parts.{Parts}
use Rattle.vs_design.specs.Traces.{Slot, AreRisingAfter}
use Rattle.vs_design.specs.WellFormed.{width_at}
use Rattle.vs_vcd_writing.specs.Codes.{shown}
use Rattle.vs_vcd_writing.specs.Values.{shown_value}
use Rattle.vs_vcd_writing.specs.Text.{text_of, header_lines, slots_lines, end_lines, last_time, last_time_after, vcd_header, vcd_slots, vcd_end}
use Rattle.vs_vcd_writing.specs.Shown.{slot_at}
use Rattle.vs_vcd_reader.specs.declared.fault.VcdFault.{VcdFault}
use Rattle.vs_vcd_reader.specs.declared.fault.VcdFault.TheVariants as f
use Rattle.vs_vcd_reader.specs.Plain.{PlainDump, PlainMoment}
use Rattle.vs_vcd_reader.specs.Layout.{later_lines, moment_at, AreLater, AreMoments, IsLayout}
use Rattle.vs_vcd_reader.specs.Faults.{IsFault}
use Rattle.vs_vcd_reader.proofs.LawLemmas.{faults_of_none}
use Rattle.vs_vcd_reader.specs.Conditions.{AreWhole, IsEnd, IsOutlined}
use Rattle.vs_vcd_reader.specs.Said.{dump_begun, dump_with, end_moments, moments_after, moments_of, values_in}
use Rattle.vs_vcd_reader.specs.Values.{values_at}
use Rattle.vs_vcd_reader.proofs.ListLemmas.{all_head, all_tail}
use Rattle.vs_vcd_reader.proofs.DeclaredLemmas.{widths_are}
use Rattle.vs_vcd_reader.proofs.ChangeLemmas.{IsOfSize, all_values, values_are}
use Rattle.vs_vcd_reader.proofs.MomentLemmas.{AreEnds, no_ends, end_alone, later_moments}
use Rattle.vs_vcd_reader.proofs.TextLemmas.{end_lines_are, whole_text}
use Rattle.vs_vcd_reader.proofs.LawTimeLemmas.{AreQuiet, quiet_nothing, quiet_end, values_shown}

-- ---- the layout

-- the size of a signal
abbrev size_in : Parts → ℕ → ℕ
size_in d n = width_at (slice_get d.signals n)

moments_are : (d : Parts) (s : Slot) (ss : List Slot) (ends : ℕ → List PlainMoment) (end : ℕ) → s.time ≡ 0 → AreRisingAfter 0 ss
    → All (λ (x : Slot). All (IsOfSize (size_in d) x.store) (shown d)) (s ∷ ss) → All (λ (x : Slot). x.time ≤ end) (s ∷ ss)
    → AreEnds (map (size_in d) (shown d)) end ends
    → AreMoments (map (size_in d) (shown d)) (moments_of (shown d) (s ∷ ss) ++ ends (last_time_after (shown d) s.time s.store ss))
moments_are d s ss ends end zero rising sized by good =
    let size = size_in d in
    let signals = shown d in
    let widths = map size signals in
    let first = values_in s.store 0 signals in
    let later = moments_after signals s.store ss ++ ends (last_time_after signals s.time s.store ss) in
    let after = later_moments widths size signals ends end s.store s.time s.time ss refl good (omega arith) (all_head (λ (x : Slot). x.time ≤ end) s ss by)
    (subst (λ t. AreRisingAfter t ss) (sym zero) rising) (all_tail (λ (x : Slot). x.time ≤ end) s ss by)
    (all_tail (λ (x : Slot). All (IsOfSize size x.store) signals) s ss sized) in
    record {
      first = first;
      later = later;
      are = ap (λ t. moment_at t first ∷ later) zero;
      all = all_values widths size s.store 0 signals refl (omega arith) (all_head (λ (x : Slot). All (IsOfSize size x.store) signals) s ss sized);
      changes = subst (λ v. AreLater widths v 0 later) (sym (values_are s.store 0 signals))
          (subst (λ t. AreLater widths (map (shown_value s.store) signals) t later) zero after);
    }

layout_with : (d : Parts) (s : Slot) (ss : List Slot) (ends : ℕ → List PlainMoment) (end : ℕ) (last : List (List ℕ)) → IsOutlined d → s.time ≡ 0
    → AreRisingAfter 0 ss → All (λ (x : Slot). All (IsOfSize (size_in d) x.store) (shown d)) (s ∷ ss) → All (λ (x : Slot). x.time ≤ end) (s ∷ ss)
    → ((widths : List ℕ) → AreEnds widths end ends) → last ≡ flat_map later_lines (ends (last_time_after (shown d) s.time s.store ss))
    → IsLayout (text_of (header_lines d) ++ text_of (slots_lines (shown d) (s ∷ ss)) ++ text_of last)
    (dump_with d (s ∷ ss) (ends (last_time_after (shown d) s.time s.store ss)))
layout_with d s ss ends end last outlined zero rising sized by good is =
    let all_ends = ends (last_time_after (shown d) s.time s.store ss) in
    record {
      is = whole_text d s ss all_ends last outlined.in_order is;
      declared = outlined.declared;
      moments = subst (λ w. AreMoments w (moments_of (shown d) (s ∷ ss) ++ all_ends)) (sym (widths_are d outlined.in_order outlined.all))
          (moments_are d s ss ends end zero rising sized by (good (map (size_in d) (shown d))));
    }

-- the text to an end
pub layout_ended : (d : Parts) (slots : List Slot) (end : ℕ) → IsOutlined d → AreWhole d slots → IsEnd slots end
    → IsLayout (vcd_header d ++ vcd_slots d slots ++ vcd_end d slots end) (dump_with d slots (end_moments (last_time (shown d) slots) end))
layout_ended d slots end outlined whole ended =
    let s = whole.first in
    let ss = whole.later in
    let is = whole.are in
    let last = last_time_after (shown d) s.time s.store ss in
    subst (λ l. IsLayout (vcd_header d ++ vcd_slots d l ++ vcd_end d l end) (dump_with d l (end_moments (last_time (shown d) l) end))) (sym is)
    (layout_with d s ss (λ t. end_moments (Some t) end) end (end_lines (Some last) end) outlined whole.zero whole.rising
    (subst (All (λ (x : Slot). All (IsOfSize (size_in d) x.store) (shown d))) is whole.sized) (subst (All (λ (x : Slot). x.time ≤ end)) is ended.after)
    (λ widths. end_alone widths end ended.small) (end_lines_are last end))

by_limit : (now : ℕ) (ss : List Slot) → AreRisingAfter now ss → All (λ (x : Slot). x.time ≤ 2 ^ 64) ss
by_limit now [] rising = λ k x within. absurd (omega (arith, within))
by_limit now (s ∷ ss) rising = All-cons (λ (x : Slot). x.time ≤ 2 ^ 64) s ss (omega (arith, rising.1)) (by_limit s.time ss rising.2)

-- the text without an end
pub layout_begun : (d : Parts) (slots : List Slot) → IsOutlined d → AreWhole d slots → IsLayout (vcd_header d ++ vcd_slots d slots) (dump_begun d slots)
layout_begun d slots outlined whole =
    let s = whole.first in
    let ss = whole.later in
    let is = whole.are in
    subst (λ l. IsLayout (vcd_header d ++ vcd_slots d l) (dump_with d l [])) (sym is)
    (subst (λ t. IsLayout t (dump_with d (s ∷ ss) [])) (append-nil (vcd_header d ++ vcd_slots d (s ∷ ss)))
    (layout_with d s ss (λ t. []) (2 ^ 64) [] outlined whole.zero whole.rising (subst (All (λ (x : Slot). All (IsOfSize (size_in d) x.store) (shown d))) is whole.sized)
    (All-cons (λ (x : Slot). x.time ≤ 2 ^ 64) s ss (omega (arith, whole.zero)) (by_limit 0 ss whole.rising)) (λ widths. no_ends widths (2 ^ 64)) refl))

-- a dump has no fault
pub no_fault : (text : List ℕ) (fault : VcdFault) (x : PlainDump) → IsLayout text x → IsFault text fault → fault ≡ f.Memory
no_fault text f.Memory x h k = refl
no_fault text f.Header x h k = absurd (faults_of_none text f.Header k (λ e. cc) x h)
no_fault text f.Line x h k = absurd (faults_of_none text f.Line k (λ e. cc) x h)
no_fault text f.Code x h k = absurd (faults_of_none text f.Code k (λ e. cc) x h)
no_fault text f.Time x h k = absurd (faults_of_none text f.Time k (λ e. cc) x h)
no_fault text f.Cut x h k = absurd (faults_of_none text f.Cut k (λ e. cc) x h)

-- ---- values

values_with : (d : Parts) (slots : List Slot) (ends : List PlainMoment) (time : ℕ) → AreWhole d slots → AreQuiet time ends
    → IfSome (slot_at time slots) (λ (x : Slot). values_at time (moments_of (shown d) slots ++ ends) ≡ map (shown_value x.store) (shown d))
values_with d slots ends time whole quiet =
    let s = whole.first in
    let ss = whole.later in
    subst (λ l. IfSome (slot_at time l) (λ (x : Slot). values_at time (moments_of (shown d) l ++ ends) ≡ map (shown_value x.store) (shown d))) (sym whole.are)
    (values_shown time (shown d) s ss ends (subst (λ t. AreRisingAfter t ss) (sym whole.zero) whole.rising) quiet)

quiet_last : (d : Parts) (slots : List Slot) (time end : ℕ) → AreWhole d slots → AreQuiet time (end_moments (last_time (shown d) slots) end)
quiet_last d slots time end whole =
    subst (λ l. AreQuiet time (end_moments (last_time (shown d) l) end)) (sym whole.are)
    (quiet_end time (last_time_after (shown d) whole.first.time whole.first.store whole.later) end)

pub values_ended : (d : Parts) (slots : List Slot) (end time : ℕ) → AreWhole d slots
    → IfSome (slot_at time slots) (λ (x : Slot). values_at time (moments_of (shown d) slots ++ end_moments (last_time (shown d) slots) end) ≡ map (shown_value x.store) (shown d))
values_ended d slots end time whole = values_with d slots (end_moments (last_time (shown d) slots) end) time whole (quiet_last d slots time end whole)

pub values_begun : (d : Parts) (slots : List Slot) (time : ℕ) → AreWhole d slots
    → IfSome (slot_at time slots) (λ (x : Slot). values_at time (moments_of (shown d) slots ++ []) ≡ map (shown_value x.store) (shown d))
values_begun d slots time whole = values_with d slots [] time whole (quiet_nothing time)
