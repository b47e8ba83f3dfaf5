-- How far a value change dump is written after one more slot.
use Rattle.std.proofs.Common.{◌≡◌, ℕ, suc, ◌+◌, Bool, true, false, Option, Some, None, Result, List, [], ◌∷◌, ◌++◌, refl, sym, ap, subst, ◌∙◌, append_assoc, append-nil, arith, inl, inr}
use Rattle.std.proofs.lemmas.Bool.{cond-true}
use Rattle.std.proofs.lemmas.List.{map-append}
use Rattle.std.specs.Prelude.{Ok, Err, OnOk, codes, slice_get, is_none, if◌then◌else◌}
use Rattle.vs_design.specs.vs_logic4.specs.declared.digit.Digit.{Digit}
use Rattle.vs_design.specs.vs_logic4.specs.Vectors.{same_digits}
use Rattle.vs_design.specs.vs_logic4.specs.Sameness.{same_digits_self}
use Rattle.vs_design.specs.declared.signal.Signal.{Signal}
use Rattle.vs_design.specs.Parts.{Parts}
use Rattle.vs_design.specs.Stores.{Store}
use Rattle.vs_design.specs.Traces.{Slot}
use Rattle.vs_vcd_writing.specs.declared.fault.WriterFault.{WriterFault}
use Rattle.vs_vcd_writing.specs.declared.kept.Kept.{Kept}
use Rattle.vs_vcd_writing.specs.Codes.{is_array, shown, shown_from}
use Rattle.vs_vcd_writing.specs.CodeTables.{code_table}
use Rattle.vs_vcd_writing.specs.Values.{shown_value}
use Rattle.vs_vcd_writing.specs.Text.{text_of, time_line, is_written, value_line, change_line, changed_line, coded_lines, timed, first_lines, later_lines, lines_after, slots_lines, last_time_after, vcd_slots}
use Rattle.vs_vcd_writing.specs.declared.kept.DumpChange.{DumpChange}
use Rattle.vs_vcd_writing.specs.Kept.{codes_of, kept_changes, change_to, first_by, first_change, later_by, is_chosen, chosen_change, change_text, change_texts, next_kept, time_kept}
use Rattle.vs_vcd_writing.specs.Progress.{last_store_after, last_of, time_of, next_lines, time_after, vcd_slot, Progress, AreKept, AreLast, HasWritten, Covers, Follows, IsSlotAt, WritesPiece}
use Rattle.vs_vcd_writing.proofs.LineLemmas.{text_of-append}

lines_after-push : (signals : List ℕ) (before : Store) (xs : List Slot) (s : Slot)
    → lines_after signals before (xs ++ s ∷ []) ≡ lines_after signals before xs ++ later_lines signals (last_store_after before xs) s.time s.store
lines_after-push signals before [] s = append-nil (later_lines signals before s.time s.store)
lines_after-push signals before (x ∷ xs) s =
    ap (λ l. later_lines signals before x.time x.store ++ l) (lines_after-push signals x.store xs s)
    ∙ sym (append_assoc (later_lines signals before x.time x.store) (lines_after signals x.store xs) (later_lines signals (last_store_after x.store xs) s.time s.store))

slots_lines-push : (signals : List ℕ) (xs : List Slot) (s : Slot) → slots_lines signals (xs ++ s ∷ []) ≡ slots_lines signals xs ++ next_lines signals (last_of signals xs) s.time s.store
slots_lines-push signals [] s = append-nil (first_lines signals s.time s.store)
slots_lines-push signals (x ∷ xs) s =
    ap (λ l. first_lines signals x.time x.store ++ l) (lines_after-push signals x.store xs s)
    ∙ sym (append_assoc (first_lines signals x.time x.store) (lines_after signals x.store xs) (later_lines signals (last_store_after x.store xs) s.time s.store))

last_time_after-push : (signals : List ℕ) (time : ℕ) (before : Store) (xs : List Slot) (s : Slot)
    → last_time_after signals time before (xs ++ s ∷ []) ≡ time_after signals (Some (last_time_after signals time before xs, last_store_after before xs)) s.time s.store
last_time_after-push signals time before [] s = refl
last_time_after-push signals time before (x ∷ xs) s =
    last_time_after-push signals (if is_written (later_lines signals before x.time x.store) then x.time else time) x.store xs s

last_store_after-push : (before : Store) (xs : List Slot) (s : Slot) → last_store_after before (xs ++ s ∷ []) ≡ s.store
last_store_after-push before [] s = refl
last_store_after-push before (x ∷ xs) s = last_store_after-push x.store xs s

pub last_of-push : (signals : List ℕ) (xs : List Slot) (s : Slot) → last_of signals (xs ++ s ∷ []) ≡ Some (time_after signals (last_of signals xs) s.time s.store, s.store)
last_of-push signals [] s = refl
last_of-push signals (x ∷ xs) s = rw (last_time_after-push signals x.time x.store xs s, last_store_after-push x.store xs s) refl

-- the pieces of the slots make up the text of the slots
pub vcd_slots-push : (d : Parts) (xs : List Slot) (s : Slot) → vcd_slots d (xs ++ s ∷ []) ≡ vcd_slots d xs ++ vcd_slot d xs s
vcd_slots-push d xs s =
    let numbers = shown d in
    ap text_of (slots_lines-push numbers xs s) ∙ text_of-append (slots_lines numbers xs) (next_lines numbers (last_of numbers xs) s.time s.store)

-- ---- what is kept

-- each signal that has a code and isn't looked at has in a store the value kept
abbrev pub Unseen : Bool → List ℕ → List Kept → Store → Type 0
Unseen all marks kept store = (i n : ℕ) (k : Kept) → slice_get kept i ≡ Some k → k.code ≡ Some n → is_chosen all marks i ≡ false → k.value ≡ shown_value store i

-- where all are looked at, none isn't
pub all_seen : (marks : List ℕ) (kept : List Kept) (store : Store) → Unseen true marks kept store
all_seen marks kept store i n k get code not = cc

covered_by : (o : Option ℕ) (marks : List ℕ) (w : Progress) (store : Store) → w.last ≡ o → Covers marks w store → Unseen (is_none o) marks w.kept store
covered_by None marks w store is covers i n k get code not = cc
covered_by (Some t) marks w store is covers i n k get code not = covers t i n k is get code not

-- the first slot looks at all, and marks cover what changed since
pub marks_cover : (all : Bool) (marks : List ℕ) (w : Progress) (store : Store) → all ≡ is_none w.last → Covers marks w store → Unseen all marks w.kept store
marks_cover all marks w store first covers = subst (λ b. Unseen b marks w.kept store) (sym first) (covered_by w.last marks w store refl covers)

-- the lines by the number of a code; none where there is none
abbrev coded : (ℕ → List (List ℕ)) → Option ℕ → List (List ℕ)
coded lines None = []
coded lines (Some number) = lines number

texts_cond : (b : Bool) (c : DumpChange) → change_texts (if b then [] else c ∷ []) ≡ (if b then [] else change_text c ∷ [])
texts_cond true c = refl
texts_cond false c = refl

-- the lines of one signal, by what is kept
line_by : (before store : Store) (j : ℕ) (value : List Digit) (seen : Bool) (code : Option ℕ) → ((n : ℕ) → code ≡ Some n → value ≡ shown_value before j)
    → ((n : ℕ) → code ≡ Some n → seen ≡ false → value ≡ shown_value store j)
    → change_texts (if seen then later_by store j value code else []) ≡ coded (λ n. changed_line before store n j) code
line_by before store j value true None is unseen = refl
line_by before store j value false None is unseen = refl
line_by before store j value true (Some n) is unseen =
    texts_cond (same_digits value (shown_value store j)) (change_to store j n)
    ∙ ap (λ v. if same_digits v (shown_value store j) then [] else change_line store n j ∷ []) (is n refl)
line_by before store j value false (Some n) is unseen =
    sym (cond-true (same_digits (shown_value before j) (shown_value store j)) [] (change_line store n j ∷ [])
    (ap (λ v. same_digits v (shown_value store j)) (sym (is n refl) ∙ unseen n refl refl) ∙ same_digits_self (shown_value store j)))

first_line_by : (store : Store) (j : ℕ) (code : Option ℕ) → change_texts (first_by store j code) ≡ coded (λ n. value_line store n j) code
first_line_by store j None = refl
first_line_by store j (Some n) = refl

-- one signal, and the signals behind it
front : (lines : ℕ → ℕ → List (List ℕ)) (first k : ℕ) (array : Bool) (ss : List Signal) (code : Option ℕ) (codes : List (Option ℕ)) (here : List (List ℕ)) (behind : List (List ℕ))
    → code ∷ codes ≡ (if array then None ∷ code_table first ss else Some first ∷ code_table (suc first) ss) → here ≡ coded (λ n. lines n k) code
    → ((f : ℕ) → codes ≡ code_table f ss → behind ≡ coded_lines lines f (shown_from (suc k) ss))
    → here ++ behind ≡ coded_lines lines first (if array then shown_from (suc k) ss else k ∷ shown_from (suc k) ss)
front lines first k true ss code codes here behind table is rest =
    let none : code ≡ None = cc in
    let same : codes ≡ code_table first ss = cc in
    ap (λ l. l ++ behind) (is ∙ ap (coded (λ n. lines n k)) none) ∙ rest first same
front lines first k false ss code codes here behind table is rest =
    let some : code ≡ Some first = cc in
    let same : codes ≡ code_table (suc first) ss = cc in
    ap (λ l. l ++ behind) (is ∙ ap (coded (λ n. lines n k)) some) ∙ ap (λ l. lines first k ++ l) (rest (suc first) same)

not_empty : {A : Type 0} {B : Type 0} (array : Bool) (x y : A) (xs ys : List A) → [] ≡ (if array then x ∷ xs else y ∷ ys) → B
not_empty true x y xs ys h = cc
not_empty false x y xs ys h = cc

-- the lines by what is kept are those by the signals that are shown
shown_lines : (lines : ℕ → ℕ → List (List ℕ)) (by : ℕ → Kept → List DumpChange) (first k : ℕ) (ss : List Signal) (kept : List Kept) → codes_of kept ≡ code_table first ss
    → ((i j : ℕ) (e : Kept) → j ≡ k + i → slice_get kept i ≡ Some e → change_texts (by j e) ≡ coded (λ n. lines n j) e.code)
    → change_texts (kept_changes by k kept) ≡ coded_lines lines first (shown_from k ss)
shown_lines lines by first k [] [] table is = refl
shown_lines lines by first k [] (e ∷ es) table is = cc
shown_lines lines by first k (s ∷ ss) [] table is = not_empty (is_array s) None (Some first) (code_table first ss) (code_table (suc first) ss) table
shown_lines lines by first k (s ∷ ss) (e ∷ es) table is =
    map-append change_text (by k e) (kept_changes by (suc k) es)
    ∙ front lines first k (is_array s) ss e.code (codes_of es) (change_texts (by k e)) (change_texts (kept_changes by (suc k) es)) table (is 0 k e (omega arith) refl)
    (λ f same. shown_lines lines by f (suc k) ss es same (λ i j x at get. is (suc i) j x (omega (arith, at)) get))

later_is : (signals : List Signal) (kept : List Kept) (before : Store) (last : ℕ) (all : Bool) (marks : List ℕ) (t : ℕ) (store : Store) → codes_of kept ≡ code_table 0 signals → AreKept kept before
    → Unseen all marks kept store → next_kept kept (Some last) all marks t store ≡ later_lines (shown_from 0 signals) before t store
later_is signals kept before last all marks t store table values unseen =
    ap (timed t) (shown_lines (changed_line before store) (chosen_change all marks store) 0 0 signals kept table
    (λ i j e at get.
    let place : j ≡ i = omega (arith, at) in
    let here : slice_get kept j ≡ Some e = ap (slice_get kept) place ∙ get in
    line_by before store j e.value (is_chosen all marks j) e.code (λ n code. values j n e here code) (λ n code not. unseen j n e here code not)))

first_is : (signals : List Signal) (kept : List Kept) (all : Bool) (marks : List ℕ) (t : ℕ) (store : Store) → codes_of kept ≡ code_table 0 signals
    → next_kept kept None all marks t store ≡ first_lines (shown_from 0 signals) t store
first_is signals kept all marks t store table =
    ap (λ l. time_line t ∷ codes "$dumpvars" ∷ l ++ codes "$end" ∷ [])
    (shown_lines (value_line store) (first_change store) 0 0 signals kept table (λ i j e at get. first_line_by store j e.code))

lines_by : (signals : List Signal) (kept : List Kept) (o : Option (ℕ × Store)) (last : Option ℕ) (all : Bool) (marks : List ℕ) (t : ℕ) (store : Store) → codes_of kept ≡ code_table 0 signals
    → last ≡ time_of o → AreLast kept o → Unseen all marks kept store
    → (next_kept kept last all marks t store ≡ next_lines (shown_from 0 signals) o t store) × (time_kept kept last all marks t store ≡ time_after (shown_from 0 signals) o t store)
lines_by signals kept None last all marks t store table time values unseen =
    (ap (λ l. next_kept kept l all marks t store) time ∙ first_is signals kept all marks t store table, ap (λ l. time_kept kept l all marks t store) time)
lines_by signals kept (Some o) last all marks t store table time values unseen =
    let same = later_is signals kept o.1 o.0 all marks t store table values unseen in (
      ap (λ l. next_kept kept l all marks t store) time ∙ same,
      ap (λ l. time_kept kept l all marks t store) time ∙ ap (λ l. if is_written l then t else o.0) same,
    )

-- the text of one more slot
pub piece_is : (w : Progress) (all : Bool) (marks : List ℕ) (t : ℕ) (store : Store) (d : Parts) (slots : List Slot) (s : Slot) → HasWritten w d slots → IsSlotAt s t store
    → Unseen all marks w.kept store → text_of (next_kept w.kept w.last all marks t store) ≡ vcd_slot d slots s
piece_is w all marks t store d slots s h at unseen =
    ap text_of ((lines_by d.signals w.kept (last_of (shown d) slots) w.last all marks t store h.codes h.last h.values unseen).0
    ∙ ap (λ x. next_lines (shown d) (last_of (shown d) slots) x store) (sym at.time) ∙ ap (next_lines (shown d) (last_of (shown d) slots) s.time) (sym at.values))

-- a call that wrote the lines of what is kept wrote one more slot
pub piece_written : {A : Type 0} (result : Result A WriterFault) (old new : Option (List ℕ)) (w : Progress) (all : Bool) (marks : List ℕ) (t : ℕ) (store : Store) → Unseen all marks w.kept store
    → WritesPiece result old new (text_of (next_kept w.kept w.last all marks t store)) → (d : Parts) (slots : List Slot) (s : Slot) → HasWritten w d slots → IsSlotAt s t store
    → WritesPiece result old new (vcd_slot d slots s)
piece_written result old new w all marks t store unseen wrote d slots s h at = subst (WritesPiece result old new) (piece_is w all marks t store d slots s h at unseen) wrote

-- ---- one more slot is kept

-- behind a slot the values of its store are kept
all_kept : (old new : Progress) (all : Bool) (marks : List ℕ) (t : ℕ) (store : Store) → Unseen all marks old.kept store → Follows old new all marks t store → AreKept new.kept store
all_kept old new all marks t store unseen f i n k get code = elim (f.values i n k get code) [ inl is ↦ is | inr rest ↦ unseen i n k rest.1 code rest.0 ]

-- a writer after one more slot
written_more : (old new : Progress) (all : Bool) (marks : List ℕ) (t : ℕ) (store : Store) → Unseen all marks old.kept store → Follows old new all marks t store
    → (d : Parts) (slots : List Slot) (s : Slot) → HasWritten old d slots → IsSlotAt s t store → HasWritten new d (slots ++ s ∷ [])
written_more old new all marks t store unseen f d slots s h at =
    let o = last_of (shown d) slots in
    let push = last_of-push (shown d) slots s in
    let after : time_kept old.kept old.last all marks t store ≡ time_after (shown d) o s.time s.store =
    (lines_by d.signals old.kept o old.last all marks t store h.codes h.last h.values unseen).1
    ∙ ap (λ x. time_after (shown d) o x store) (sym at.time) ∙ ap (time_after (shown d) o s.time) (sym at.values) in
    record {
      codes = f.codes ∙ h.codes;
      last = f.last ∙ ap Some after ∙ ap time_of (sym push);
      values = subst (AreLast new.kept) (sym push) (subst (AreKept new.kept) (sym at.values) (all_kept old new all marks t store unseen f));
    }

pub slot_written : {A : Type 0} (result : Result A WriterFault) (old new : Progress) (all : Bool) (marks : List ℕ) (t : ℕ) (store : Store) → Unseen all marks old.kept store
    → OnOk result (Follows old new all marks t store)
    → OnOk result ((d : Parts) (slots : List Slot) (s : Slot) → HasWritten old d slots → IsSlotAt s t store → HasWritten new d (slots ++ s ∷ []))
slot_written (Ok x) old new all marks t store unseen f = written_more old new all marks t store unseen f
slot_written (Err x) old new all marks t store unseen f = f

-- behind a slot no signal need be marked
pub slot_covered : {A : Type 0} (result : Result A WriterFault) (old new : Progress) (all : Bool) (marks : List ℕ) (t : ℕ) (store : Store) → Unseen all marks old.kept store
    → OnOk result (Follows old new all marks t store) → OnOk result (Covers [] new store)
slot_covered (Ok x) old new all marks t store unseen f = λ u i n k last get code free. all_kept old new all marks t store unseen f i n k get code
slot_covered (Err x) old new all marks t store unseen f = f
