use Rattle.std.proofs.Common.{◌++◌, ◌∷◌, [], refl}
use Rattle.std.proofs.lemmas.Option.{slice_get_past, slice_get_read}
use Rattle.vs_design.proofs.Tables.{rows-changed, rows-past}
use Rattle.vs_run_active.proofs.lists.push_at.Goals as goal

pub returns-in_ok-push : goal.returns-in_ok-push
returns-in_ok-push g c =
    rows-changed (λ list. list ++ c.args.item ∷ []) c.args.place c.args.lists.now.items c.in-Some.list.now c.push.new.self
    (slice_get_read _ _ _ _ refl c.in-Some.ensures.item.3.0 c.in-Some.ensures.item.1) c.in_ok-push.ensures.items

pub returns-in_default : goal.returns-in_default
returns-in_default g c =
    rows-past (λ list. list ++ c.args.item ∷ []) c.args.place c.args.lists.now.items (slice_get_past _ _ c.in_default.ensures.item.3)
