-- The times of slots are those of a dump.
use Rattle.std.proofs.Common.{◌≡◌, ℕ, ◌<◌, ◌≤◌, ◌^◌, Bool, true, false, Some, List, [], ◌∷◌, ◌++◌, map, refl, sym, ap, subst, ◌∙◌, append_assoc, arith, inl, inr}
use Rattle.std.proofs.lemmas.Bool.{cases_eq, cond_both}
use Rattle.std.specs.Prelude.{◌==◌, if◌then◌else◌}
use Rattle.std.specs.List.{All}
use Rattle.vs_design.specs.vs_logic4.specs.declared.digit.Digit.{Digit}
use Rattle.vs_design.specs.Stores.{Store}
use Rattle.vs_design.specs.Traces.{Slot, AreRisingAfter}
use Rattle.vs_vcd_writing.specs.Values.{shown_value}
use Rattle.vs_vcd_writing.specs.Text.{timed, is_written, last_time_after}
use Rattle.vs_vcd_reader.specs.vs_vcd_lines.proofs.CutLemmas.{eqb_is}
use Rattle.vs_vcd_reader.specs.vs_vcd_lines.specs.declared.dump.ValueChange.{ValueChange}
use Rattle.vs_vcd_reader.specs.vs_vcd_lines.specs.Lines.{change_line}
use Rattle.vs_vcd_reader.specs.Plain.{PlainMoment}
use Rattle.vs_vcd_reader.specs.Layout.{moment_at, written, AreChanges, AreLater}
use Rattle.vs_vcd_reader.specs.Layout.{AreLater as l}
use Rattle.vs_vcd_reader.specs.Said.{changes_in, timed_changes, moments_after, end_moments}
use Rattle.vs_vcd_reader.proofs.ListLemmas.{all_head, all_tail}
use Rattle.vs_vcd_reader.proofs.ChangeLemmas.{IsOfSize, written_are, changes_are}
use Rattle.vs_vcd_reader.proofs.TextLemmas.{change_lines_are}

-- times that may stand after a last one, up to an end
abbrev pub AreEnds : List ℕ → ℕ → (ℕ → List PlainMoment) → Type 0
AreEnds widths end ends = (values : List (List Digit)) (last : ℕ) → last ≤ end → AreLater widths values last (ends last)

pub no_ends : (widths : List ℕ) (end : ℕ) → AreEnds widths end (λ last. [])
no_ends widths end values last within = l.none values last

never_both : (b : Bool) → b ≡ true → b ≡ false → ⊥
never_both b p q = cc

pub end_alone : (widths : List ℕ) (end : ℕ) → end < 2 ^ 64 → AreEnds widths end (λ last. end_moments (Some last) end)
end_alone widths end small values last within =
    cond_both (last == end) [] (moment_at end [] ∷ []) (AreLater widths values last)
    (λ same. l.none values last)
    (λ other. l.end values last end (elim (cases_eq last end) [
      | inl same ↦ absurd (never_both (last == end) (eqb_is last end same) other)
      | inr differs ↦ omega (arith, within, differs)
    ]) small)

-- one slot more
slot_later : (widths : List ℕ) (values after : List (List Digit)) (last time : ℕ) (cs : List ValueChange) (rest : ℕ → List PlainMoment) → last < time → time < 2 ^ 64
    → AreChanges widths values 0 cs → written values cs ≡ after → AreLater widths after last (rest last) → AreLater widths after time (rest time)
    → AreLater widths values last (timed_changes time cs ++ rest (if is_written (timed time (map change_line cs)) then time else last))
slot_later widths values after last time [] rest less small changes e same next = subst (λ v. AreLater widths v last (rest last)) (sym e) same
slot_later widths values after last time (x ∷ cs) rest less small changes e same next =
    l.more values last time x cs (rest time) less small changes (subst (λ v. AreLater widths v time (rest time)) (sym e) next)

-- the slots after one
pub later_moments : (widths : List ℕ) (size : ℕ → ℕ) (signals : List ℕ) (ends : ℕ → List PlainMoment) (end : ℕ) (before : Store) (last now : ℕ) (ss : List Slot)
    → widths ≡ map size signals → AreEnds widths end ends → last ≤ now → last ≤ end → AreRisingAfter now ss → All (λ (s : Slot). s.time ≤ end) ss
    → All (λ (s : Slot). All (IsOfSize size s.store) signals) ss
    → AreLater widths (map (shown_value before) signals) last (moments_after signals before ss ++ ends (last_time_after signals last before ss))
later_moments widths size signals ends end before last now [] wide good passed within rising by sized = good (map (shown_value before) signals) last within
later_moments widths size signals ends end before last now (s ∷ ss) wide good passed within rising by sized =
    let values = map (shown_value before) signals in
    let cs = changes_in before s.store 0 signals in
    let more = moments_after signals s.store ss in
    let rest : ℕ → List PlainMoment = λ t. more ++ ends (last_time_after signals t s.store ss) in
    let next : (t : ℕ) → t ≤ s.time → t ≤ end → AreLater widths (map (shown_value s.store) signals) t (rest t) = λ t before_it within_it.
    later_moments widths size signals ends end s.store t s.time ss wide good before_it within_it rising.2
    (all_tail (λ (x : Slot). x.time ≤ end) s ss by) (all_tail (λ (x : Slot). All (IsOfSize size x.store) signals) s ss sized) in
    let mine = all_head (λ (x : Slot). All (IsOfSize size x.store) signals) s ss sized in
    let one = slot_later widths values (map (shown_value s.store) signals) last s.time cs rest (omega (arith, passed, rising.0)) rising.1
    (changes_are widths size before s.store 0 0 signals values (omega arith) wide refl mine)
    (written_are before s.store 0 signals values refl) (next last (omega (arith, passed, rising.0)) within)
    (next s.time (omega arith) (all_head (λ (x : Slot). x.time ≤ end) s ss by)) in
    subst (AreLater widths values last)
    (ap (λ ls. timed_changes s.time cs ++ rest (if is_written (timed s.time ls) then s.time else last)) (sym (change_lines_are before s.store 0 signals))
    ∙ sym (append_assoc (timed_changes s.time cs) more (ends (last_time_after signals last before (s ∷ ss))))) one
