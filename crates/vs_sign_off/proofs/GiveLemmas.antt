-- The values that the dump of a run shows where it went to its end.
use Rattle.std.proofs.Common.{◌≡◌, ℕ, ◌<◌, ◌≤◌, ◌^◌, Bool, true, Option, Some, None, List, [], ◌∷◌, ◌++◌, length, map, refl, sym, ◌∙◌, ap, subst, arith}
use Rattle.std.proofs.lemmas.Bool.{cond-true, le-leb}
use Rattle.std.proofs.lemmas.List.Elements.{Contains-get_or}
use Rattle.std.proofs.lemmas.Option.{get_or_from_slice_get, same_Some, slice_get-map, slice_get_within}
use Rattle.std.specs.Prelude.{IfSome, nat_le, slice_get, if◌then◌else◌}
use Rattle.std.specs.Io.KnownBytes.{Appends}
use Rattle.std.specs.List.{Contains}
use Rattle.std.specs.Option.{option_map, option_or}
use Rattle.vs_design.specs.vs_logic4.specs.declared.digit.Digit.{Digit}
use Rattle.vs_design.specs.OneLine.{HasNamesOfOneLine}
use Rattle.vs_design.specs.Parts.{Parts}
use Rattle.vs_design.specs.Traces.{Slot}
use Rattle.vs_process.specs.declared.moves.Grain.TheVariants.{Statement}
use Rattle.vs_process.specs.declared.moves.Move.{Move}
use Rattle.vs_process.specs.Executions.{after, is_complete, slots, trace}
use Rattle.vs_kernel.specs.vs_vcd_writing.specs.Codes.{shown}
use Rattle.vs_kernel.specs.vs_vcd_writing.specs.Shown.{Shows, slot_at}
use Rattle.vs_kernel.specs.vs_vcd_writing.specs.Text.{vcd_header, vcd_slots, vcd_text}
use Rattle.vs_kernel.specs.vs_vcd_writing.specs.Values.{shown_value}
use Rattle.vs_vcd_reader.specs.declared.dump.Dump.{Dump}
use Rattle.vs_vcd_reader.specs.Layout.{IsDump}
use Rattle.vs_vcd_reader.specs.Plain.{PlainDump, plain_dump}
use Rattle.vs_vcd_reader.specs.Conditions.{IsOutlined}
use Rattle.vs_vcd_reader.specs.Values.{values_at}
use Rattle.vs_vcd_reader.specs.ReadBack.{CompleteRunsEndSlots, DumpsReadBack, ReadsBack, dump_so_far}
use Rattle.vs_vcd_reader.proofs.ClockLemmas.{BeginsAtZero, clocked}
use Rattle.vs_kernel.specs.Runs.{RanTo, text_so_far}
use Rattle.vs_kernel.specs.Shows.{DumpsShow}
use Rattle.vs_kernel.specs.declared.outcome.Outcome.{Outcome}
use Rattle.vs_vcd_reader.specs.BackReadBack.{is_whole}
use Rattle.vs_vcd_reader.proofs.BackEndLemmas.{whole_complete}
use Rattle.vs_sign_off.specs.passes.Unequal.{Give}
use Rattle.vs_sign_off.specs.Witnesses.{Gives}

-- ---- a slot has ended at or before each time

or_some : (o p : Option Slot) (s : Slot) → p ≡ Some s → (x : Slot) × (option_or o p ≡ Some x)
or_some None p s e = (s, e)
or_some (Some x) p s e = (x, refl)

slot_found : (time now : ℕ) (ss : List Slot) → (ss ≡ [] → ⊥) → BeginsAtZero now ss → (x : Slot) × (slot_at time ss ≡ Some x)
slot_found time now [] some begins = absurd (some refl)
slot_found time now (s ∷ ss) some begins =
    let early : s.time ≤ time = subst (λ (n : ℕ). n ≤ time) (sym begins) (omega arith) in
    or_some (slot_at time ss) (if nat_le s.time time then Some s else None) s (cond-true (nat_le s.time time) (Some s) None (le-leb s.time time early))

at_slot : (P : Slot → Type 0) (o : Option Slot) (s : Slot) → o ≡ Some s → IfSome o P → P s
at_slot P o s e h = subst (λ (x : Option Slot). IfSome x P) e h

-- ---- values by their places

named_value : (f : ℕ → List Digit) (numbers : List ℕ) (values : List (List Digit)) (place signal : ℕ) (value : List Digit) → values ≡ map f numbers →
    slice_get numbers place ≡ Some signal → slice_get values place ≡ Some value → f signal ≡ value
named_value f numbers values place signal value are named valued =
    same_Some (f signal) value
    (sym (slice_get-map f numbers place ∙ ap (λ (o : Option ℕ). option_map f o) named)
    ∙ sym (ap (λ (vs : List (List Digit)). slice_get vs place) are) ∙ valued)

named_there : (numbers : List ℕ) (place signal : ℕ) → slice_get numbers place ≡ Some signal → Contains numbers signal
named_there numbers place signal named =
    subst (λ (n : ℕ). Contains numbers n) (get_or_from_slice_get numbers place signal signal named)
    (Contains-get_or numbers place signal (slice_get_within numbers place signal named))

-- ---- a run that went to its end

whole_text : (d : Parts) (moves : List Move) (time : ℕ) → is_complete time (after d moves) ≡ true → text_so_far d moves time ≡ vcd_text d (trace d moves time) time
whole_text d moves time complete =
    ap (λ (b : Bool). if b then vcd_text d (trace d moves time) time else vcd_header d ++ vcd_slots d (slots d moves)) complete

-- the bytes that were appended to none
pub appended : (old new : Option (List ℕ)) (text all : List ℕ) → old ≡ Some [] → new ≡ Some text → Appends old new all → text ≡ all
appended old new text all from to h =
    let begun : Appends (Some []) new all = subst (λ (o : Option (List ℕ)). Appends o new all) from h in
    subst (λ (o : Option (List ℕ)). Appends (Some []) o all) to begun

pub gives : (d : Parts) (time steps : ℕ) (outcome : Outcome) (text : List ℕ) (dump : Dump) (values : List (List Digit))
    (old new lines_old lines_new : Option (List ℕ)) →
    DumpsReadBack → DumpsShow → CompleteRunsEndSlots → IsOutlined d → HasNamesOfOneLine d → time < 2 ^ 62 →
    RanTo d time steps outcome old new lines_old lines_new → old ≡ Some [] → new ≡ Some text → is_whole outcome ≡ true → IsDump text dump →
    values ≡ values_at time (plain_dump dump).moments → Give d time values
gives d time steps outcome text dump values old new lines_old lines_new reads shows ends outlined names bound ran from to whole is are =
    let moves : List Move = ran.moves in
    let complete : is_complete time (after d moves) ≡ true = whole_complete outcome time steps (length moves) (after d moves) ran.end whole in
    let some : slots d moves ≡ [] → ⊥ = ends Statement d moves time ran.statement complete in
    let back : ReadsBack d moves time = reads Statement d moves time outlined bound ran.statement ran.stops some in
    let text_is : text ≡ text_so_far d moves time = appended old new text (text_so_far d moves time) from to ran.text in
    let said : plain_dump dump ≡ dump_so_far d moves time = back.read dump (subst (λ (t : List ℕ). IsDump t dump) text_is is) in
    let slot : (x : Slot) × (slot_at time (slots d moves) ≡ Some x) =
    slot_found time (after d moves).time (slots d moves) some (clocked Statement d moves ran.statement).begins in
    let all : values ≡ map (shown_value slot.0.store) (shown d) =
    are ∙ ap (λ (x : PlainDump). values_at time x.moments) said
    ∙ at_slot (λ (s : Slot). values_at time (dump_so_far d moves time).moments ≡ map (shown_value s.store) (shown d)) (slot_at time (slots d moves)) slot.0 slot.1
    (back.values time)
    in
    record {
      moves = moves;
      statement = ran.statement;
      block = ran.block;
      complete = complete;
      shows = λ place signal value named valued.
          subst (λ (t : List ℕ). Shows t d time signal value) (whole_text d moves time complete)
          (subst (λ (v : List Digit). Shows (text_so_far d moves time) d time signal v)
          (named_value (shown_value slot.0.store) (shown d) values place signal value all named valued)
          (at_slot (λ (s : Slot). Shows (text_so_far d moves time) d time signal (shown_value s.store signal)) (slot_at time (slots d moves)) slot.0 slot.1
          (shows Statement d moves time names bound ran.statement ran.stops time signal (named_there (shown d) place signal named))));
    }

-- what it shows of one signal
pub of_signal : {d : Parts} {time : ℕ} {values : List (List Digit)} → Give d time values → (place signal : ℕ) (value : List Digit) →
    slice_get (shown d) place ≡ Some signal → slice_get values place ≡ Some value → Gives d time signal value
of_signal {d} {time} {values} h place signal value named valued = record {
  moves = h.moves;
  statement = h.statement;
  block = h.block;
  complete = h.complete;
  shows = h.shows place signal value named valued;
}
