use Rattle.std.proofs.Common.{◌≡◌, ◌<◌, Some, length, slice_get, slice_index_or, ap, sym, ◌∙◌}
use Rattle.std.specs.List.{list_any}
use Rattle.std.specs.Str.{bytes_eq}
use Rattle.std.proofs.lemmas.Option.{slice_get-get_or}
use Rattle.vs_elab_constants.specs.Reads.{read_use}
use Rattle.vs_elab_signals.specs.vs_scopes.specs.Nets.{permits_nets}
use Rattle.vs_elab_signals.specs.vs_scopes.specs.Scopes.{module_named, is_inside}
use Rattle.vs_elab_signals.specs.vs_scopes.specs.scopes_passes.Answers.{borrowed}
use Rattle.vs_elab_hierarchy.specs.passes.Entering.{before_next}
use Rattle.vs_elab_hierarchy.proofs.EnterLemmas.{home_modules, found_some, inside_by_flags}
use Rattle.vs_elab_hierarchy.proofs.EnteringLemmas.{home_below, instance_entered}
use Rattle.vs_elab_hierarchy.proofs.entering.enter_instance.Goals as goal

pub returns-then-is_among : goal.returns-then-is_among
returns-then-is_among c = λ ms ss s l a h.
    (let list = c.args.list.now in
    let u = read_use c.args.one.now in
    let m = c.in-Some.listed.«module».now in
    let below : c.args.place < length list = c.requires.place in
    let one = slice_index_or list c.args.place c.index-list-place.result in
    let here : slice_get list c.args.place ≡ Some one = slice_get-get_or list c.args.place c.index-list-place.result below in
    let home_under : one.home < length list = home_below list c.args.place one below here c.requires.seated in
    let top = slice_index_or list one.home c.index-list-home.result in
    let there : slice_get list one.home ≡ Some top = slice_get-get_or list one.home c.index-list-home.result home_under in
    let found : module_named ms u.of ≡ Some m = found_some ms u.of c.args.modules.now c.in-Some.listed l (sym c.in-Some.is ∙ c.find.ensures) in
    let same : c.is_among.result ≡ is_inside s m = c.is_among.ensures ∙ ap (λ z. list_any (bytes_eq z) (borrowed c.deref.result.now)) c.deref-2.ensures.value ∙ ap (λ z. list_any (bytes_eq m.name.items) (borrowed z)) c.deref.ensures.value ∙
    ap (list_any (bytes_eq m.name.items)) (home_modules list ss c.args.place s one top a h here there) in
    inside_by_flags ms s u m c.named_fault-then-is_among.result found (sym same ∙ c.if-is_among.true) (c.named_fault-then-is_among.ensures ss s a h))

pub returns : goal.returns
returns c = λ ms ss s l a h.
    (let list = c.args.list.now in
    let u = read_use c.args.one.now in
    let m = c.in-Some.listed.«module».now in
    let below : c.args.place < length list = c.requires.place in
    let one = slice_index_or list c.args.place c.index-list-place.result in
    let here : slice_get list c.args.place ≡ Some one = slice_get-get_or list c.args.place c.index-list-place.result below in
    let home_under : one.home < length list = home_below list c.args.place one below here c.requires.seated in
    let top = slice_index_or list one.home c.index-list-home.result in
    let there : slice_get list one.home ≡ Some top = slice_get-get_or list one.home c.index-list-home.result home_under in
    let found : module_named ms u.of ≡ Some m = found_some ms u.of c.args.modules.now c.in-Some.listed l (sym c.in-Some.is ∙ c.find.ensures) in
    let same : c.is_among.result ≡ is_inside s m = c.is_among.ensures ∙ ap (λ z. list_any (bytes_eq z) (borrowed c.deref.result.now)) c.deref-2.ensures.value ∙ ap (λ z. list_any (bytes_eq m.name.items) (borrowed z)) c.deref.ensures.value ∙
    ap (list_any (bytes_eq m.name.items)) (home_modules list ss c.args.place s one top a h here there) in
    let permits : c.in-Some.listed.nets ≡ permits_nets ms u.of = l.nets u.of c.in-Some.listed (sym (sym c.in-Some.is ∙ c.find.ensures)) in
    instance_entered ms ss s c.args.place (before_next list c.args.plan.now) c.in-Some.listed.nets u m c.module_scope.result found permits (sym same ∙ c.if-is_among.false) (c.module_scope.ensures ss s a h))
