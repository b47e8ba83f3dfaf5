use Rattle.std.proofs.Common.{◌≡◌, ℕ, length, rules, refl, sym, ◌∙◌, []}
use Rattle.std.proofs.lemmas.Bool.{eq-eqb, ne_eqb}
use Rattle.std.proofs.lemmas.Result.{on_ok_weaker}
use Rattle.vs_design.specs.vs_logic4.specs.Planes.{ArePlanes, digits_of_planes}
use Rattle.vs_design.specs.InOrder.{IsStoreOf, numbered_word}
use Rattle.vs_run_active.specs.vs_eval.specs.declared.masks.WordChange.{WordChange}
use Rattle.vs_process.specs.Spots.{IsSpotIn, spot_part, spot_write}
use Rattle.vs_run_active.proofs.ChangesLemmas.{marks_put, nothing_words}
use Rattle.vs_run_active.proofs.MarkingLemmas.{marked_word}
use Rattle.vs_run_steps.proofs.FastLemmas.{word_after, word_stays, word_stored, word_written}
use Rattle.vs_run_steps.proofs.WritesLemmas.{follows_none, follows_one, made_of, spot_signal, spot_word, words_of_part}
use Rattle.vs_run_steps.proofs.writes.Watched.write.Goals as goal

abbrev change_of : ℕ → ℕ → ℕ → ℕ → WordChange
change_of value unknown new_value new_unknown = record { value = value; unknown = unknown; new_value = new_value; new_unknown = new_unknown }

pub returns-then-differing-eq0-clause-store : goal.returns-then-differing-eq0-clause-store
returns-then-differing-eq0-clause-store g c =
    let spot : IsSpotIn g.signals c.args.spot.now = search rules in
    let is : IsStoreOf g.signals c.args.self.now.store = search rules in
    let given : ArePlanes c.args.spot.now.width c.args.value c.args.unknown = search rules in
    let change = change_of c.planes_of-old_value.result.0 c.planes_of-old_value.result.1 c.laid.result c.laid-2.result in
    let w =
    word_written g.signals c.args.self.now.store c.args.spot.now c.args.value c.args.unknown change c.differing.result spot is given c.planes_of-old_value.ensures.value
    c.planes_of-old_value.ensures.unknown c.laid.ensures c.laid-2.ensures c.differing.ensures
    in
    word_stays c.args.self.now.store c.args.spot.now (digits_of_planes c.args.spot.now.width c.args.value c.args.unknown) c.laid.result c.laid-2.result w.laid
    (w.same ∙ eq-eqb c.differing.result 0 c.if-differing-eq0.true)

pub returns-then-differing-eq0-clause-made : goal.returns-then-differing-eq0-clause-made
returns-then-differing-eq0-clause-made g c =
    let stays = returns-then-differing-eq0-clause-store g c in
    let digits = digits_of_planes c.args.spot.now.width c.args.value c.args.unknown in
    made_of c.args.self.now.tables (spot_write c.args.spot.now digits) c.args.self.now.store c.args.self.now.store [] c.args.self.now.events.assigns c.args.self.now.events.assigns
    c.args.self.now.events.processes c.args.self.now.events.processes stays (sym (nothing_words c.args.self.now.store (spot_part c.args.spot.now digits)))
    (follows_none c.args.self.now.tables [] c.args.self.now.events.assigns c.args.self.now.events.processes refl)

pub set_planes-requires : goal.set_planes-requires
set_planes-requires g c =
    let spot : IsSpotIn g.signals c.args.spot.now = search rules in
    let is : IsStoreOf g.signals c.args.self.now.store = search rules in
    let given : ArePlanes c.args.spot.now.width c.args.value c.args.unknown = search rules in
    let change = change_of c.planes_of-old_value.result.0 c.planes_of-old_value.result.1 c.laid.result c.laid-2.result in
    let w =
    word_written g.signals c.args.self.now.store c.args.spot.now c.args.value c.args.unknown change c.differing.result spot is given c.planes_of-old_value.ensures.value
    c.planes_of-old_value.ensures.unknown c.laid.ensures c.laid-2.ensures c.differing.ensures
    in
    w.laid.planes

pub wake-requires-clause-signal : goal.wake-requires-clause-signal
wake-requires-clause-signal g c =
    let spot : IsSpotIn g.signals c.args.spot.now = search rules in
    let rows : length g.signals ≡ length c.args.self.now.tables.rows.items = search rules in
    spot_signal g.signals c.args.spot.now (length c.args.self.now.tables.rows.items) spot rows

pub wake-requires-clause-word : goal.wake-requires-clause-word
wake-requires-clause-word g c =
    let spot : IsSpotIn g.signals c.args.spot.now = search rules in
    spot_word g.signals c.args.spot.now spot

pub returns-clause-store : goal.returns-clause-store
returns-clause-store g c =
    let spot : IsSpotIn g.signals c.args.spot.now = search rules in
    let is : IsStoreOf g.signals c.args.self.now.store = search rules in
    let given : ArePlanes c.args.spot.now.width c.args.value c.args.unknown = search rules in
    let change = change_of c.planes_of-old_value.result.0 c.planes_of-old_value.result.1 c.laid.result c.laid-2.result in
    let w =
    word_written g.signals c.args.self.now.store c.args.spot.now c.args.value c.args.unknown change c.differing.result spot is given c.planes_of-old_value.ensures.value
    c.planes_of-old_value.ensures.unknown c.laid.ensures c.laid-2.ensures c.differing.ensures
    in
    c.set_planes.ensures
    ∙ word_stored g.signals c.args.self.now.store c.args.spot.now (digits_of_planes c.args.spot.now.width c.args.value c.args.unknown) c.laid.result c.laid-2.result spot is w.laid

pub returns-clause-made : goal.returns-clause-made
returns-clause-made g c =
    let spot : IsSpotIn g.signals c.args.spot.now = search rules in
    let is : IsStoreOf g.signals c.args.self.now.store = search rules in
    let given : ArePlanes c.args.spot.now.width c.args.value c.args.unknown = search rules in
    let change = change_of c.planes_of-old_value.result.0 c.planes_of-old_value.result.1 c.laid.result c.laid-2.result in
    let w =
    word_written g.signals c.args.self.now.store c.args.spot.now c.args.value c.args.unknown change c.differing.result spot is given c.planes_of-old_value.ensures.value
    c.planes_of-old_value.ensures.unknown c.laid.ensures c.laid-2.ensures c.differing.ensures
    in
    let store = c.args.self.now.store in
    let digits = digits_of_planes c.args.spot.now.width c.args.value c.args.unknown in
    let before = numbered_word store c.args.spot.now.index in
    let after = digits_of_planes (length (numbered_word store c.args.spot.now.index)) c.laid.result c.laid-2.result in
    let wrote = returns-clause-store g c in
    let words =
    words_of_part store c.set_planes.new.self (spot_part c.args.spot.now digits) before after w.laid.word
    (word_after store c.set_planes.new.self c.args.spot.now digits c.laid.result c.laid-2.result w.laid wrote)
    in
    on_ok_weaker c.wake.result
    (λ h.
    made_of c.args.self.now.tables (spot_write c.args.spot.now digits) store c.set_planes.new.self _ c.args.self.now.events.assigns c.wake.new.self.assigns c.args.self.now.events.processes
    c.wake.new.self.processes wrote words
    (follows_one c.args.self.now.tables c.args.spot.now.signal c.args.spot.now.word change before after c.args.self.now.events.assigns c.wake.new.self.assigns c.args.self.now.events.processes
    c.wake.new.self.processes (w.same ∙ ne_eqb c.differing.result 0 c.if-differing-eq0.false) h w.changed))
    c.wake.ensures

pub returns-clause-marked : goal.returns-clause-marked
returns-clause-marked g c =
    let spot : IsSpotIn g.signals c.args.spot.now = search rules in
    let is : IsStoreOf g.signals c.args.self.now.store = search rules in
    let given : ArePlanes c.args.spot.now.width c.args.value c.args.unknown = search rules in
    let change = change_of c.planes_of-old_value.result.0 c.planes_of-old_value.result.1 c.laid.result c.laid-2.result in
    let w =
    word_written g.signals c.args.self.now.store c.args.spot.now c.args.value c.args.unknown change c.differing.result spot is given c.planes_of-old_value.ensures.value
    c.planes_of-old_value.ensures.unknown c.laid.ensures c.laid-2.ensures c.differing.ensures
    in
    let store = c.args.self.now.store in
    let digits = digits_of_planes c.args.spot.now.width c.args.value c.args.unknown in
    let before = numbered_word store c.args.spot.now.index in
    let after = digits_of_planes (length (numbered_word store c.args.spot.now.index)) c.laid.result c.laid-2.result in
    let wrote = returns-clause-store g c in
    let words =
    words_of_part store c.set_planes.new.self (spot_part c.args.spot.now digits) before after w.laid.word
    (word_after store c.set_planes.new.self c.args.spot.now digits c.laid.result c.laid-2.result w.laid wrote)
    in
    marks_put c.args.self.now.marks.items c.mark.new.marks.items (spot_write c.args.spot.now digits) store c.set_planes.new.self _
    (marked_word c.args.self.now.marks.items c.mark.new.marks.items c.args.spot.now.signal c.args.spot.now.word before after c.mark.ensures.len c.mark.ensures.set c.mark.ensures.others) words wrote
