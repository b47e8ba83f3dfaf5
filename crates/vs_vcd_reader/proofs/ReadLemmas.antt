-- Whole dumps as they are read.
use Rattle.std.proofs.Common.{◌≡◌, ℕ, true, false, List, [], ◌∷◌, ◌++◌, length, map, refl, sym, ap, subst, ◌∙◌, append_assoc}
use Rattle.std.proofs.lemmas.List.{length-map}
use Rattle.vs_design.specs.vs_logic4.specs.declared.digit.Digit.{Digit}
use Rattle.vs_design.specs.declared.timescale.TimeSpan.{TimeSpan}
use Rattle.vs_vcd_lines.specs.declared.dump.ValueChange.{ValueChange}
use Rattle.vs_vcd_lines.specs.Lines.{are_sizes}
use Rattle.vs_vcd_reader.specs.declared.dump.Dump.{Dump}
use Rattle.vs_vcd_reader.specs.declared.dump.Moment.{Moment}
use Rattle.vs_vcd_reader.specs.declared.fault.VcdFault.{VcdFault}
use Rattle.vs_vcd_reader.specs.declared.header.Header.{Header}
use Rattle.vs_vcd_reader.specs.Plain.{plain_declaration, plain_dump, plain_moment}
use Rattle.vs_vcd_reader.specs.Layout.{values_of, IsDump}
use Rattle.vs_vcd_reader.specs.Faults.{IsFault}
use Rattle.vs_vcd_reader.specs.Bodies.{AreAllLater, IsFirst}
use Rattle.vs_vcd_reader.specs.Headers.{header_items, IsClosed}
use Rattle.vs_vcd_reader.specs.Steps.{Item, Place, Steps, body_items, change_items, declared_items, items_of, later_items, text_from}
use Rattle.vs_vcd_reader.specs.Steps.{Item as i, Place as p, Step as s, Steps as t}
use Rattle.vs_vcd_reader.specs.Stops.{IsReportedAt}
use Rattle.vs_vcd_reader.proofs.BeginLemmas.{steps_sizes}
use Rattle.vs_vcd_reader.proofs.DumpLemmas.{dump_made}
use Rattle.vs_vcd_reader.proofs.FaultLemmas.{fault_is, told_later}
use Rattle.vs_vcd_reader.proofs.FollowLemmas.{steps_append, text_from-append}

-- ---- parts put together

abbrev tick_items : TimeSpan → List Item
tick_items tick = i.Tick tick ∷ []

abbrev closed_items : Header → List Item
closed_items h = header_items h ++ i.Definitions ∷ []

abbrev first_items : List ValueChange → List Item
first_items cs = i.Time 0 ∷ i.Values ∷ (change_items cs ++ i.End ∷ [])

tick_steps : (tick : TimeSpan) → Steps p.Start (tick_items tick) p.Top
tick_steps tick = t.go p.Start (i.Tick tick) p.Top [] p.Top (s.tick tick) (t.stay p.Top)

parts_are : (tick : TimeSpan) (hs : List Item) (cs : List ValueChange) (later : List Item)
    → tick_items tick ++ ((hs ++ i.Definitions ∷ []) ++ (first_items cs ++ later))
    ≡ i.Tick tick ∷ (hs ++ (i.Definitions ∷ (i.Time 0 ∷ i.Values ∷ (change_items cs ++ (i.End ∷ later)))))
parts_are tick hs cs later =
    ap (λ l. i.Tick tick ∷ l)
    (append_assoc hs (i.Definitions ∷ []) (first_items cs ++ later)
    ∙ ap (λ l. hs ++ (i.Definitions ∷ (i.Time 0 ∷ i.Values ∷ l))) (append_assoc (change_items cs) (i.End ∷ []) later))

whole_items : (tick : TimeSpan) (h : Header) (cs : List ValueChange) (m : Moment) (later ms : List Moment) (x : Dump) → ms ≡ m ∷ later → m.time ≡ 0
    → m.changes.items ≡ cs → x.tick ≡ tick → x.declarations.items ≡ h.declarations.items → x.moments.items ≡ ms
    → items_of (plain_dump x)
    ≡ i.Tick tick ∷ (header_items h ++ (i.Definitions ∷ (i.Time 0 ∷ i.Values ∷ (change_items cs ++ (i.End ∷ later_items (map plain_moment later))))))
whole_items tick h cs m later ms x are at_zero changed ticks declared moments =
    ap (λ a. i.Tick a ∷ (declared_items 0 (map plain_declaration x.declarations.items) ++ (i.Definitions ∷ body_items (map plain_moment x.moments.items)))) ticks
    ∙ ap (λ l. i.Tick tick ∷ (declared_items 0 (map plain_declaration l) ++ (i.Definitions ∷ body_items (map plain_moment x.moments.items)))) declared
    ∙ ap (λ l. i.Tick tick ∷ (header_items h ++ (i.Definitions ∷ body_items (map plain_moment l)))) (moments ∙ are)
    ∙ ap
    (λ a. i.Tick tick ∷ (header_items h
    ++ (i.Definitions ∷ (i.Time a ∷ i.Values ∷ (change_items m.changes.items ++ (i.End ∷ later_items (map plain_moment later)))))))
    at_zero
    ∙ ap
    (λ l. i.Tick tick ∷ (header_items h ++ (i.Definitions ∷ (i.Time 0 ∷ i.Values ∷ (change_items l ++ (i.End ∷ later_items (map plain_moment later)))))))
    changed

-- ---- a dump

pub dump_read : (text a b c : List ℕ) (tick : TimeSpan) (h : Header) (xs ws : List ℕ) (cs ds : List ValueChange) (m : Moment) (values : List (List Digit))
    (firsts ms : List Moment) (x : Dump) → text ≡ text_from (tick_items tick) ++ a → IsClosed a h b → xs ≡ h.widths.items → IsFirst xs b cs c → values ≡ values_of ds
    → ds ≡ cs → ws ≡ h.widths.items → AreAllLater ws c values firsts ms → firsts ≡ m ∷ [] → m.time ≡ 0 → m.changes.items ≡ cs → x.tick ≡ tick
    → x.declarations.items ≡ h.declarations.items → x.moments.items ≡ ms → IsDump text x
dump_read text a b c tick h xs us cs ds m values firsts ms x is closed sized begin valued all_are same later_given begun_by at_zero changed ticks declared moments =
    let ws = h.widths.items in
    let first : IsFirst ws b cs c = subst (λ w. IsFirst w b cs c) sized begin in
    let later : AreAllLater ws c (values_of cs) (m ∷ []) ms =
    subst (λ w. AreAllLater w c (values_of cs) (m ∷ []) ms) same
    (subst (λ v. AreAllLater us c v (m ∷ []) ms) (valued ∙ ap values_of all_are) (subst (λ l. AreAllLater us c values l ms) begun_by later_given)) in
    let last = later_items (map plain_moment later.moments) in
    let begun : Place = p.Later ws (values_of cs) 0 (length ws) false in
    let body = first_items cs ++ last in
    let all = closed_items h ++ body in
    let are = parts_are tick (header_items h) cs last ∙ sym (whole_items tick h cs m later.moments ms x later.are at_zero changed ticks declared moments) in
    let steps = steps_append p.Start p.Top later.place (tick_items tick) all (tick_steps tick)
    (steps_append p.Top (p.Zero ws) later.place (closed_items h) body closed.steps
    (steps_append (p.Zero ws) begun later.place (first_items cs) last first.steps later.steps)) in
    let whole : text ≡ text_from (tick_items tick ++ all) =
    is
    ∙ ap (λ l. text_from (tick_items tick) ++ l)
    (closed.is
    ∙ ap (λ l. text_from (closed_items h) ++ l)
    (first.is ∙ ap (λ l. text_from (first_items cs) ++ l) later.is ∙ sym (text_from-append (first_items cs) last))
    ∙ sym (text_from-append (closed_items h) body))
    ∙ sym (text_from-append (tick_items tick) all) in
    dump_made text (plain_dump x) later.place (whole ∙ ap text_from are) (subst (λ l. Steps p.Start l later.place) are steps) later.last

-- the sizes that a header has
pub closed_sizes : (text rest : List ℕ) (h : Header) (ws : List ℕ) → IsClosed text h rest → ws ≡ h.widths.items → are_sizes ws ≡ true
closed_sizes text rest h ws closed same = ap are_sizes same ∙ steps_sizes p.Top (p.Zero h.widths.items) (closed_items h) closed.steps refl

pub values_sized : (text rest xs ws : List ℕ) (cs ds : List ValueChange) (values : List (List Digit)) → IsFirst xs text cs rest → values ≡ values_of ds → ds ≡ cs → ws ≡ xs
    → length values ≡ length ws
values_sized text rest xs ws cs ds values first valued all_are same =
    ap length (valued ∙ ap values_of all_are) ∙ length-map cs (λ (c : ValueChange). c.value) ∙ first.all ∙ ap length (sym same)

-- ---- why a text is none

pub after_tick : (text a : List ℕ) (tick : TimeSpan) (fault : VcdFault) → text ≡ text_from (tick_items tick) ++ a → IsReportedAt p.Top a fault → IsFault text fault
after_tick text a tick fault is told = fault_is text fault (told_later p.Start p.Top text a (tick_items tick) fault (tick_steps tick) is told)

pub after_header : (text rest : List ℕ) (h : Header) (ws : List ℕ) (fault : VcdFault) → IsClosed text h rest → ws ≡ h.widths.items → IsReportedAt (p.Zero ws) rest fault
    → IsReportedAt p.Top text fault
after_header text rest h ws fault closed same told =
    told_later p.Top (p.Zero h.widths.items) text rest (closed_items h) fault closed.steps closed.is (subst (λ w. IsReportedAt (p.Zero w) rest fault) same told)

pub after_end : (text rest xs ws : List ℕ) (cs ds : List ValueChange) (values : List (List Digit)) (fault : VcdFault) → IsFirst xs text cs rest → values ≡ values_of ds
    → ds ≡ cs → ws ≡ xs → IsReportedAt (p.Later ws values 0 (length ws) false) rest fault → IsReportedAt (p.Zero xs) text fault
after_end text rest xs ws cs ds values fault first valued all_are same told =
    told_later (p.Zero xs) (p.Later xs (values_of cs) 0 (length xs) false) text rest (first_items cs) fault first.steps first.is
    (subst (λ w. IsReportedAt (p.Later w (values_of cs) 0 (length w) false) rest fault) same
    (subst (λ v. IsReportedAt (p.Later ws v 0 (length ws) false) rest fault) (valued ∙ ap values_of all_are) told))
