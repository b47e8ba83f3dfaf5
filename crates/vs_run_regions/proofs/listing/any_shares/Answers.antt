use Rattle.std.proofs.Common.{◌∙◌, List, map, sym, ap}
use Rattle.std.specs.List.{list_any}
use Rattle.std.proofs.lemmas.List.{drop_all}
use Rattle.vs_design.specs.Writes.{shares}
use Rattle.vs_run_regions.specs.declared.update.Update.{Update}
use Rattle.vs_run_regions.specs.Updates.{is_shared, left_of, what_of}
use Rattle.vs_run_regions.proofs.UpdatesLemmas.{shares_more}
use Rattle.vs_run_regions.proofs.listing.any_shares.Goals as goal

pub loop-update-preserved : goal.loop-update-preserved
loop-update-preserved c =
    let w = what_of c.args.writes.now c.args.newer in
    sym (shares_more c.args.writes.now w c.args.older.now c.loop-update.update-index c.update-item.result _ c.loop-update-test.true (ap (λ (x : Update). shares (what_of c.args.writes.now x) w) (sym c.update-item.is) ∙ sym c.shares.ensures ∙ c.if-shares.false)) ∙ c.loop-update.invariant

pub returns-then-shares : goal.returns-then-shares
returns-then-shares c =
    let w = what_of c.args.writes.now c.args.newer in
    sym (shares_more c.args.writes.now w c.args.older.now c.loop-update.update-index c.update-item.result _ c.loop-update-test.true (ap (λ (x : Update). shares (what_of c.args.writes.now x) w) (sym c.update-item.is) ∙ sym c.shares.ensures ∙ c.if-shares.true)) ∙ c.loop-update.invariant

pub returns : goal.returns
returns c =
    let w = what_of c.args.writes.now c.args.newer in
    sym (ap (λ (l : List Update). list_any (is_shared w) (map (left_of c.args.writes.now) l)) (drop_all c.loop-update.update-index c.args.older.now c.loop-update-test.false))
    ∙ c.loop-update.invariant
