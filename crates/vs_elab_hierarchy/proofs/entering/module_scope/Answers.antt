use Rattle.std.proofs.Common.{◌≡◌, ◌+◌, ◌<◌, ◌≤◌, ◌∷◌, suc, Some, None, length, map, slice_get, slice_index_or, refl, ap, subst, ◌∙◌, arith}
use Rattle.std.proofs.lemmas.Option.{slice_get-get_or}
use Rattle.vs_scopes.specs.Reads.{read_piece}
use Rattle.vs_scopes.specs.Pieces.{pieces_of}
use Rattle.vs_elab_constants.specs.Reads.{read_use}
use Rattle.vs_elab_signals.specs.vs_scopes.specs.Ports.{ports_of, ports_of_header}
use Rattle.vs_elab_signals.specs.vs_scopes.specs.Scopes.{instance_scope}
use Rattle.vs_elab_signals.specs.vs_scopes.specs.scopes_passes.Answers.{borrowed}
use Rattle.vs_elab_signals.specs.vs_scopes.specs.scopes_passes.Parts.{read_port}
use Rattle.vs_elab_signals.specs.signal_passes.Connecting.{ConnectsTo}
use Rattle.vs_elab_hierarchy.specs.passes.Entering.{before_next}
use Rattle.vs_elab_hierarchy.proofs.SeatLemmas.{opened_many}
use Rattle.vs_elab_hierarchy.proofs.EnterLemmas.{entered_instance, parameters_told, ports_told, home_modules}
use Rattle.vs_elab_hierarchy.proofs.EnteringLemmas.{home_below, entered_here}
use Rattle.vs_elab_hierarchy.proofs.entering.module_scope.Goals as goal

pub returns-in-Err : goal.returns-in-Err
returns-in-Err c = λ ss s a h.
    parameters_told s (read_use c.args.one.now) c.args.listed.«module».now c.in-Err.refusal c.parameter_refusal.result (c.in-Err.ensures.fault ss s a h) (c.parameter_refusal.ensures ss s a h)

pub returns-in_default : goal.returns-in_default
returns-in_default c = λ ss s a h.
    (let u = read_use c.args.one.now in
    let m = c.args.listed.«module».now in
    let pieces : map read_piece c.in_ok-pieces.pieces.items ≡ pieces_of m.items.items = c.in_ok-pieces.ensures ∙ ap pieces_of c.deref.ensures.value in
    let ports : map read_port c.in_ok-ports.ports.items ≡ ports_of m = c.in_ok-ports.ensures ∙ ap (λ z. ports_of_header (map read_piece z) m.ports) c.deref-2.ensures.value ∙ ap (λ z. ports_of_header z m.ports) pieces in
    let given : ConnectsTo u (map read_port c.deref-5.result.now) None = subst (ConnectsTo u (map read_port c.deref-5.result.now)) c.in_default.is c.in_ok-ends.ensures in
    ports_told s u m c.named_fault.result (subst (λ z. ConnectsTo u z None) (ap (map read_port) c.deref-5.ensures.value ∙ ports) given) (c.named_fault.ensures ss s a h))

pub offset_bounds-list-home : goal.offset_bounds-list-home
offset_bounds-list-home c =
    let list = c.args.list.now in
    let o = slice_index_or list c.args.place c.index-list-place.result in
    let k : o.home < length list = home_below list c.args.place o c.requires.place (slice_get-get_or list c.args.place c.index-list-place.result c.requires.place) c.requires.seated in
    omega (arith, k)

pub bounds-list-home : goal.bounds-list-home
bounds-list-home c =
    let list = c.args.list.now in
    let o = slice_index_or list c.args.place c.index-list-place.result in
    let k : o.home < length list = home_below list c.args.place o c.requires.place (slice_get-get_or list c.args.place c.index-list-place.result c.requires.place) c.requires.seated in
    omega (arith, k)

pub overflow_add-result : goal.overflow_add-result
overflow_add-result c =
    let list = c.args.list.now in
    let o = slice_index_or list c.args.place c.index-list-place-2.result in
    let k : o.depth ≤ 64 = c.requires.depth o (slice_get-get_or list c.args.place c.index-list-place-2.result c.requires.place) in
    omega (arith, k)

pub returns : goal.returns
returns c = λ ss s a h.
    (let list = c.args.list.now in
    let u = read_use c.args.one.now in
    let m = c.args.listed.«module».now in
    let base : c.len.result ≡ length c.args.plan.now.signals.items = omega (arith, c.len.ensures, c.args.plan.now.signals.ok.0) in
    let below : c.args.place < length list = c.requires.place in
    let many : length list ≡ length ss = opened_many list ss a in
    let inside : c.args.place < length ss = omega (arith, many, below) in
    let one = slice_index_or list c.args.place c.index-list-place.result in
    let two = slice_index_or list c.args.place c.index-list-place-2.result in
    let here : slice_get list c.args.place ≡ Some one = slice_get-get_or list c.args.place c.index-list-place.result below in
    let home_under : one.home < length list = home_below list c.args.place one below here c.requires.seated in
    let top = slice_index_or list one.home c.index-list-home.result in
    let there : slice_get list one.home ≡ Some top = slice_get-get_or list one.home c.index-list-home.result home_under in
    let deep : two.depth ≡ s.depth = (entered_here list c.args.place two below (slice_get-get_or list c.args.place c.index-list-place-2.result below) ss s a h).depth in
    let deeper : two.depth + 1 ≡ suc s.depth = omega (arith, deep) in
    let pieces : map read_piece c.in_ok-pieces.pieces.items ≡ pieces_of m.items.items = c.in_ok-pieces.ensures ∙ ap pieces_of c.deref.ensures.value in
    let ports : map read_port c.in_ok-ports.ports.items ≡ ports_of m = c.in_ok-ports.ensures ∙ ap (λ z. ports_of_header (map read_piece z) m.ports) c.deref-2.ensures.value ∙ ap (λ z. ports_of_header z m.ports) pieces in
    let given : ConnectsTo u (map read_port c.deref-5.result.now) (Some c.in-Some.ends) = subst (ConnectsTo u (map read_port c.deref-5.result.now)) c.in-Some.is c.in_ok-ends.ensures in
    let ends : ConnectsTo u (ports_of m) (Some c.in-Some.ends) = subst (λ z. ConnectsTo u z (Some c.in-Some.ends)) (ap (map read_port) c.deref-5.ensures.value ∙ ports) given in
    let within : borrowed c.in_ok-within.within.items ≡ m.name.items ∷ s.within =
    c.in_ok-within.ensures ∙ ap (λ z. z ∷ borrowed c.deref-8.result.now) c.deref-7.ensures.value ∙ ap (λ z. m.name.items ∷ borrowed z) c.deref-8.ensures.value ∙
    ap (λ z. m.name.items ∷ z) (home_modules list ss c.args.place s one top a h here there) in
    let nets = c.args.listed.nets in
    let inner = instance_scope nets s (before_next list c.args.plan.now) u m in
    let members = c.in_ok-members.ensures ss inner (record { opened = a; sight = record { outer_scope = s; stands = h; sight = refl }; kind = refl }) in
    entered_instance ss s c.args.place (before_next list c.args.plan.now) h many inside nets u m _ c.in-Ok.values c.in_ok-members.members
    c.plain_title.ensures.title refl refl base refl refl deeper refl ports refl refl refl members refl refl (c.in-Ok.ensures.ok ss s a h) within refl refl ends c.new-2.ensures)
