-- The values that a dump gives at a time, change by change and moment by moment.
use Rattle.std.proofs.Common.{◌≡◌, ℕ, ◌+◌, ◌<◌, ◌≤◌, true, false, List, [], ◌∷◌, length, get_or, drop, map, sym, ◌∙◌, ap}
use Rattle.std.proofs.lemmas.Bool.{cond-true, cond-false, le-leb, lt-leb}
use Rattle.std.proofs.lemmas.List.{drop_more, drop_all}
use Rattle.std.specs.Prelude.{nat_le, if◌then◌else◌}
use Rattle.vs_design.specs.vs_logic4.specs.declared.digit.Digit.{Digit}
use Rattle.vs_vcd_reader.specs.Values.{values_after, values_at}
use Rattle.vs_vcd_reader.specs.declared.dump.Moment.{Moment}
use Rattle.vs_vcd_reader.specs.vs_vcd_lines.specs.declared.dump.ValueChange.{ValueChange}
use Rattle.vs_vcd_reader.specs.Layout.{values_of, with_change, written}
use Rattle.vs_vcd_reader.specs.Plain.{plain_moment}

-- ---- changes

pub change_more : (values : List (List Digit)) (cs : List ValueChange) (i : ℕ) (c : ValueChange) (all : List (List Digit)) → i < length cs →
    c ≡ get_or cs i c → written values (drop i cs) ≡ all → written (with_change values c) (drop (i + 1) cs) ≡ all
change_more values cs i c all lt is h =
    ap (λ (l : List ValueChange). written values l) (ap (λ (x : ValueChange). x ∷ drop (i + 1) cs) is ∙ sym (drop_more cs i c lt)) ∙ h

pub changes_done : (values : List (List Digit)) (cs : List ValueChange) (i : ℕ) (all : List (List Digit)) → length cs ≤ i →
    written values (drop i cs) ≡ all → values ≡ all
changes_done values cs i all past h = ap (λ (l : List ValueChange). written values l) (sym (drop_all i cs past)) ∙ h

-- ---- moments

at_next : (time : ℕ) (values : List (List Digit)) (ms : List Moment) (i : ℕ) (m : Moment) (all : List (List Digit)) → i < length ms → m ≡ get_or ms i m →
    values_after time values (map plain_moment (drop i ms)) ≡ all →
    (if nat_le m.time time then values_after time (written values m.changes.items) (map plain_moment (drop (i + 1) ms)) else values) ≡ all
at_next time values ms i m all lt is h =
    ap (λ (l : List Moment). values_after time values (map plain_moment l))
    (ap (λ (x : Moment). x ∷ drop (i + 1) ms) is ∙ sym (drop_more ms i m lt)) ∙ h

pub moment_more : (time : ℕ) (values : List (List Digit)) (ms : List Moment) (i : ℕ) (m : Moment) (all : List (List Digit)) → i < length ms →
    m ≡ get_or ms i m → m.time ≤ time → values_after time values (map plain_moment (drop i ms)) ≡ all →
    values_after time (written values m.changes.items) (map plain_moment (drop (i + 1) ms)) ≡ all
moment_more time values ms i m all lt is early h =
    sym (cond-true (nat_le m.time time) (values_after time (written values m.changes.items) (map plain_moment (drop (i + 1) ms))) values
    (le-leb m.time time early))
    ∙ at_next time values ms i m all lt is h

pub moment_late : (time : ℕ) (values : List (List Digit)) (ms : List Moment) (i : ℕ) (m : Moment) (all : List (List Digit)) → i < length ms →
    m ≡ get_or ms i m → time < m.time → values_after time values (map plain_moment (drop i ms)) ≡ all → values ≡ all
moment_late time values ms i m all lt is late h =
    sym (cond-false (nat_le m.time time) (values_after time (written values m.changes.items) (map plain_moment (drop (i + 1) ms))) values
    (lt-leb m.time time late))
    ∙ at_next time values ms i m all lt is h

pub moments_done : (time : ℕ) (values : List (List Digit)) (ms : List Moment) (i : ℕ) (all : List (List Digit)) → length ms ≤ i →
    values_after time values (map plain_moment (drop i ms)) ≡ all → values ≡ all
moments_done time values ms i all past h = ap (λ (l : List Moment). values_after time values (map plain_moment l)) (sym (drop_all i ms past)) ∙ h

-- ---- all moments

-- the values of the first one, and then those of the later ones
pub all_at : (time : ℕ) (ms : List Moment) (m : Moment) (later : List Moment) (values : List (List Digit)) → ms ≡ m ∷ later → m.time ≤ time →
    values ≡ values_after time (values_of m.changes.items) (map plain_moment later) → values ≡ values_at time (map plain_moment ms)
all_at time ms m later values is early h =
    h
    ∙ sym (cond-true (nat_le m.time time) (values_after time (values_of m.changes.items) (map plain_moment later)) [] (le-leb m.time time early))
    ∙ ap (λ (l : List Moment). values_at time (map plain_moment l)) (sym is)
