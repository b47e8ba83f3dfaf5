use Rattle.std.proofs.Common.{◌≡◌, ◌<◌, length, map, slice_index_or, refl, subst, arith}
use Rattle.std.proofs.lemmas.Option.{slice_get-get_or}
use Rattle.vs_widths.specs.Findings.{Lacks, Refuses}
use Rattle.vs_elab_constants.specs.vs_widths.specs.Names.{by_bytes, nested_names}
use Rattle.vs_scopes.specs.Reads.{read_piece}
use Rattle.vs_elab_signals.specs.vs_elab_constants.specs.passes.Values.{AreBlockValues, block_faults}
use Rattle.vs_elab_signals.specs.vs_scopes.specs.Scopes.{block_scope, block_text, sight_in}
use Rattle.vs_elab_signals.specs.nets_passes.Nets.{AreMembers}
use Rattle.vs_elab_signals.specs.vs_scopes.specs.scopes_passes.Names.{read_title}
use Rattle.vs_elab_hierarchy.proofs.SeatLemmas.{opened_many}
use Rattle.vs_elab_hierarchy.proofs.EnterLemmas.{entered_block, block_told}
use Rattle.vs_elab_hierarchy.proofs.EnteringLemmas.{entered_here}
use Rattle.vs_elab_hierarchy.specs.passes.Entering.{before_next}
use Rattle.vs_elab_hierarchy.proofs.entering.block_scope.Goals as goal

pub returns-in-Err : goal.returns-in-Err
returns-in-Err c = λ ss s a h.
    (let cs = by_bytes c.args.constants.now in
    let ps = map read_piece c.args.pieces.items in
    let bad = subst (λ z. Refuses (Lacks (block_faults (nested_names z) cs ps)) c.in-Err.fault) c.deref.ensures.value
    (subst (λ z. Refuses (Lacks (block_faults (nested_names c.deref.result.now) cs (map read_piece z))) c.in-Err.fault) c.deref-2.ensures.value c.in-Err.ensures.fault) in
    block_told s c.args.title cs ps (nested_names c.in_ok-outer.outer.items) c.in-Err.fault c.block_refusal.result (c.in_ok-outer.ensures ss s a h) bad (c.block_refusal.ensures ss s a h))

pub returns : goal.returns
returns c = λ ss s a h.
    (let list = c.args.list.now in
    let cs = by_bytes c.args.constants.now in
    let ps = map read_piece c.args.pieces.items in
    let base : c.len.result ≡ length c.args.plan.now.signals.items = omega (arith, c.len.ensures, c.args.plan.now.signals.ok.0) in
    let below : c.args.place < length list = c.requires.place in
    let first = slice_index_or list c.args.place c.index-list-place.result in
    let one = slice_index_or list c.args.place c.index-list-place-2.result in
    let two = slice_index_or list c.args.place c.index-list-place-3.result in
    let d = entered_here list c.args.place first below (slice_get-get_or list c.args.place c.index-list-place.result below) ss s a h in
    let e = entered_here list c.args.place one below (slice_get-get_or list c.args.place c.index-list-place-2.result below) ss s a h in
    let f = entered_here list c.args.place two below (slice_get-get_or list c.args.place c.index-list-place-3.result below) ss s a h in
    let many : length list ≡ length ss = opened_many list ss a in
    let inside : c.args.place < length ss = omega (arith, many, below) in
    let values = subst (λ z. AreBlockValues (nested_names z) cs ps c.in-Ok.values) c.deref.ensures.value
    (subst (λ z. AreBlockValues (nested_names c.deref.result.now) cs (map read_piece z) c.in-Ok.values) c.deref-2.ensures.value c.in-Ok.ensures.ok) in
    let inner = block_scope c.args.piece s (before_next list c.args.plan.now) (read_title c.args.title) cs ps in
    let members = subst (λ z. AreMembers z (block_text cs ps) (sight_in s c.args.piece) ps c.in_ok-members.members) d.nets
    (c.in_ok-members.ensures ss inner (record { opened = a; sight = record { outer_scope = s; stands = h; sight = refl }; kind = refl })) in
    entered_block ss s c.args.place (before_next list c.args.plan.now) h many inside c.args.piece c.args.title cs ps (nested_names c.in_ok-outer.outer.items) _ c.in-Ok.values c.in_ok-members.members (c.in_ok-outer.ensures ss s a h)
    refl refl refl base refl refl e.depth d.nets c.new.ensures.items refl refl refl members refl refl values f.home refl refl c.new-4.ensures.items c.new-5.ensures)
