use Rattle.std.proofs.Common.{◌≡◌, ℕ, List, get_or, sym, subst}
use Rattle.std.proofs.lemmas.Option.{slice_get-get_or}
use Rattle.vs_elab_statements.specs.vs_widths.specs.Names.{meaning_of, nested_names}
use Rattle.vs_elab_statements.proofs.BlockLemmas.{around_within}
use Rattle.vs_design.specs.vs_logic4.proofs.Basics.{zip_at}
use Rattle.vs_elab_statements.specs.vs_elab_signals.specs.Opened.{IsOpened}
use Rattle.vs_elaborate.proofs.FillingLemmas.{outer_names_are}
use Rattle.vs_elaborate.proofs.filling.fill_within.Goals as goal

pub names_outside-requires : goal.names_outside-requires
names_outside-requires c =
    let o = get_or c.args.list.now c.args.place c.index-list-place.result in
    let at = slice_get-get_or c.args.list.now c.args.place c.index-list-place.result c.requires.placed.within in
    record { place = λ k e. around_within c.args.list.now c.args.place o c.requires.placed at k e; seated = c.requires.placed.seated }

pub returns : goal.returns
returns c ss s h e =
    let list = c.args.list.now in
    let o = get_or list c.args.place c.index-list-place.result in
    let at = slice_get-get_or list c.args.place c.index-list-place.result c.requires.placed.within in
    let opened : IsOpened ss o s = zip_at (IsOpened ss) list ss c.args.place o s h.opened.each at e in
    c.fill_named.ensures ss s h e
    (outer_names_are _ _ _ s.outer c.new-outer.ensures c.requires.nothing (subst (λ z. (n : List ℕ) → meaning_of (nested_names z) n ≡ s.outer n) (sym c.deref.ensures.value) (c.in_ok-outside.ensures ss s h.opened opened.entered.around)))
