-- The lines of a written dump are those of the dump that it is.
use Rattle.std.proofs.Common.{◌≡◌, ℕ, suc, Bool, true, false, Some, List, [], ◌∷◌, ◌++◌, codes, map, refl, sym, ap, ◌∙◌, append_assoc, append-nil}
use Rattle.std.proofs.lemmas.Grind.{flat_map-append}
use Rattle.std.specs.Prelude.{◌==◌, if◌then◌else◌}
use Rattle.std.specs.List.{flat_map}
use Rattle.vs_design.specs.Parts.{Parts}
use Rattle.vs_design.specs.Stores.{Store}
use Rattle.vs_design.specs.Traces.{Slot}
use Rattle.vs_design.specs.WellFormed.{counts_from, declared_in}
use Rattle.vs_vcd_writing.specs.Codes.{shown}
use Rattle.vs_vcd_writing.specs.Text.{text_of, time_line, coded_lines, value_line, is_same, changed_line, lines_after, slots_lines, end_lines, end_of_definitions}
use Rattle.vs_vcd_writing.specs.Text.{header_lines as written_header, first_lines as written_first, timed, change_line as written_change}
use Rattle.vs_vcd_writing.proofs.LineLemmas.{text_of-append}
use Rattle.vs_vcd_reader.specs.vs_vcd_lines.specs.declared.dump.ValueChange.{ValueChange}
use Rattle.vs_vcd_reader.specs.vs_vcd_lines.specs.Lines.{change_line, span_line}
use Rattle.vs_vcd_reader.specs.Plain.{PlainMoment}
use Rattle.vs_vcd_reader.specs.Layout.{moment_at, dump_lines, first_lines, header_lines, later_lines}
use Rattle.vs_vcd_reader.specs.Said.{value_in, values_in, changes_in, timed_changes, moments_after, end_moments, dump_with}
use Rattle.vs_vcd_reader.proofs.DeclaredLemmas.{outline_is}

-- ---- changes

value_lines_are : (store : Store) (n : ℕ) (ss : List ℕ) → coded_lines (value_line store) n ss ≡ map change_line (values_in store n ss)
value_lines_are store n [] = refl
value_lines_are store n (s ∷ ss) = ap (λ l. written_change store n s ∷ l) (value_lines_are store (suc n) ss)

changed_one : (b : Bool) (line : List ℕ) (c : ValueChange) (ls : List (List ℕ)) (cs : List ValueChange) → line ≡ change_line c → ls ≡ map change_line cs
    → (if b then [] else line ∷ []) ++ ls ≡ map change_line ((if b then [] else c ∷ []) ++ cs)
changed_one true line c ls cs is more = more
changed_one false line c ls cs is more = ap (λ l. l ∷ ls) is ∙ ap (λ l. change_line c ∷ l) more

pub change_lines_are : (before after : Store) (n : ℕ) (ss : List ℕ) → coded_lines (changed_line before after) n ss ≡ map change_line (changes_in before after n ss)
change_lines_are before after n [] = refl
change_lines_are before after n (s ∷ ss) =
    let more = change_lines_are before after (suc n) ss in
    changed_one (is_same before after s) (written_change after n s) (value_in after n s) (coded_lines (changed_line before after) (suc n) ss)
    (changes_in before after (suc n) ss) refl more

-- ---- slots

timed_lines_are : (time : ℕ) (cs : List ValueChange) → timed time (map change_line cs) ≡ flat_map later_lines (timed_changes time cs)
timed_lines_are time [] = refl
timed_lines_are time (c ∷ cs) = sym (append-nil (later_lines (moment_at time (c ∷ cs))))

lines_after_are : (signals : List ℕ) (before : Store) (ss : List Slot) → lines_after signals before ss ≡ flat_map later_lines (moments_after signals before ss)
lines_after_are signals before [] = refl
lines_after_are signals before (s ∷ ss) =
    let cs = changes_in before s.store 0 signals in
    let more = moments_after signals s.store ss in
    ap (λ ls. timed s.time ls ++ lines_after signals s.store ss) (change_lines_are before s.store 0 signals)
    ∙ ap (λ ls. ls ++ lines_after signals s.store ss) (timed_lines_are s.time cs)
    ∙ ap (λ ls. flat_map later_lines (timed_changes s.time cs) ++ ls) (lines_after_are signals s.store ss)
    ∙ sym (flat_map-append later_lines (timed_changes s.time cs) more)

first_lines_are : (signals : List ℕ) (time : ℕ) (store : Store) → written_first signals time store ≡ first_lines (moment_at time (values_in store 0 signals))
first_lines_are signals time store = ap (λ ls. time_line time ∷ codes "$dumpvars" ∷ ls ++ codes "$end" ∷ []) (value_lines_are store 0 signals)

end_line_is : (b : Bool) (time : ℕ) → (if b then [] else time_line time ∷ []) ≡ flat_map later_lines (if b then [] else moment_at time [] ∷ [])
end_line_is true time = refl
end_line_is false time = refl

pub end_lines_are : (last time : ℕ) → end_lines (Some last) time ≡ flat_map later_lines (end_moments (Some last) time)
end_lines_are last time = end_line_is (last == time) time

-- ---- the whole

-- the text of a header, of slots and of an end is that of the dump of all three
pub whole_text : (d : Parts) (s : Slot) (ss : List Slot) (ends : List PlainMoment) (last : List (List ℕ)) → counts_from 0 (declared_in d.outline) ≡ true
    → last ≡ flat_map later_lines ends
    → text_of (written_header d) ++ text_of (slots_lines (shown d) (s ∷ ss)) ++ text_of last ≡ text_of (dump_lines (dump_with d (s ∷ ss) ends))
whole_text d s ss ends last in_order is =
    let x = dump_with d (s ∷ ss) ends in
    let signals = shown d in
    let h = written_header d in
    let slots = slots_lines signals (s ∷ ss) in
    let first = written_first signals s.time s.store in
    let after = lines_after signals s.store ss in
    let moments = moments_after signals s.store ss in
    let joined : (text_of h ++ text_of slots) ++ text_of last ≡ text_of ((h ++ slots) ++ last) =
    ap (λ l. l ++ text_of last) (sym (text_of-append h slots)) ∙ sym (text_of-append (h ++ slots) last) in
    let header : h ≡ header_lines x = ap (λ ls. span_line d.timescale.precision ∷ ls ++ end_of_definitions ∷ []) (outline_is d in_order) in
    let later : after ++ last ≡ flat_map later_lines (moments ++ ends) =
    ap (λ ls. ls ++ last) (lines_after_are signals s.store ss) ∙ ap (λ ls. flat_map later_lines moments ++ ls) is ∙ sym (flat_map-append later_lines moments ends) in
    let body : slots ++ last ≡ first_lines (moment_at s.time (values_in s.store 0 signals)) ++ flat_map later_lines (moments ++ ends) =
    append_assoc first after last ∙ ap (λ ls. ls ++ (after ++ last)) (first_lines_are signals s.time s.store)
    ∙ ap (λ ls. first_lines (moment_at s.time (values_in s.store 0 signals)) ++ ls) later in
    joined ∙ ap text_of (append_assoc h slots last ∙ ap (λ ls. ls ++ (slots ++ last)) header ∙ ap (λ ls. header_lines x ++ ls) body)
