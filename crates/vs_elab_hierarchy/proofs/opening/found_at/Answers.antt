use Rattle.std.proofs.Common.{◌≡◌, ◌++◌, Some, map, ap, ◌∙◌}
use Rattle.std.specs.List.{slice_get}
use Rattle.vs_elab_constants.specs.vs_widths.specs.Names.{meaning_of, nested_names}
use Rattle.vs_elab_signals.specs.vs_scopes.specs.Reads.{read_piece}
use Rattle.vs_elab_signals.specs.vs_elab_constants.specs.Reads.{read_inner}
use Rattle.vs_scopes.specs.Declarations.{Bindings}
use Rattle.vs_scopes.specs.Scopes.{environment, text_names}
use Rattle.vs_design.specs.vs_logic4.proofs.Basics.{got}
use Rattle.vs_elab_hierarchy.proofs.SeatLemmas.{opened_here}
use Rattle.vs_elab_hierarchy.proofs.InsideLemmas.{names_are, names_mean, inner_found, fault_found}
use Rattle.vs_elab_hierarchy.proofs.opening.found_at.Goals as goal

pub returns-in-Ok : goal.returns-in-Ok
returns-in-Ok c = λ ss s a e.
    (let o = c.index-list-place.result in
    let stands : slice_get c.args.list.now c.args.place ≡ Some o = got c.args.list.now c.args.place o c.requires.place c.index-list-place.is in
    let opened = opened_here c.args.list.now ss c.args.place o s a stands e in
    let outer = c.in_ok-outer.ensures ss s a opened.entered.around opened.entered.kind in
    let levels : c.new-levels.result ≡ o.names ++ nested_names c.in_ok-outer.outer.items = c.new-levels.ensures ∙ ap (λ z. o.names ++ nested_names z) c.deref.ensures.value in
    let env : meaning_of c.new-levels.result ≡ environment s = ap (λ (z : Bindings). meaning_of z) levels ∙ names_mean ss o s (nested_names c.in_ok-outer.outer.items) opened outer in
    let pieces : map read_piece c.deref-2.result.now ≡ s.pieces = ap (map read_piece) c.deref-2.ensures.value ∙ opened.entered.pieces in
    let k = c.in-Ok.ensures (text_names s) (names_are ss o s opened) in
    inner_found s (meaning_of c.new-levels.result) (map read_piece c.deref-2.result.now) env pieces (map read_inner c.in-Ok.inner.items) k.0 k.1)

pub returns : goal.returns
returns c = λ ss s a e.
    (let o = c.index-list-place.result in
    let stands : slice_get c.args.list.now c.args.place ≡ Some o = got c.args.list.now c.args.place o c.requires.place c.index-list-place.is in
    let opened = opened_here c.args.list.now ss c.args.place o s a stands e in
    let outer = c.in_ok-outer.ensures ss s a opened.entered.around opened.entered.kind in
    let levels : c.new-levels.result ≡ o.names ++ nested_names c.in_ok-outer.outer.items = c.new-levels.ensures ∙ ap (λ z. o.names ++ nested_names z) c.deref.ensures.value in
    let env : meaning_of c.new-levels.result ≡ environment s = ap (λ (z : Bindings). meaning_of z) levels ∙ names_mean ss o s (nested_names c.in_ok-outer.outer.items) opened outer in
    let pieces : map read_piece c.deref-2.result.now ≡ s.pieces = ap (map read_piece) c.deref-2.ensures.value ∙ opened.entered.pieces in
    fault_found s (meaning_of c.new-levels.result) (map read_piece c.deref-2.result.now) env pieces c.in-Err.fault c.construct_fault.result (c.in-Err.ensures (text_names s) (names_are ss o s opened)) (c.construct_fault.ensures ss s a e))
