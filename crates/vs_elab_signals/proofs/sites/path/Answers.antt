use Rattle.std.proofs.Common.{List, ◌∙◌, ap, sym, subst, arith}
use Rattle.vs_scopes.specs.declared.printed.PathName.{PathName as FoundName}
use Rattle.vs_scopes.specs.scopes_passes.Names.{read_path}
use Rattle.vs_elab_signals.proofs.SiteLemmas.{Climbs, opened_at, seated_next, climbs_none, climbs_more, climbs_all, outermost_around}
use Rattle.vs_elab_signals.proofs.sites.path.Goals as goal

pub loop-step-init : goal.loop-step-init
loop-step-init c = record {
  before = omega arith;
  climbs = λ ss s a h. subst (λ (z : List FoundName). Climbs ss s c.args.place z) (sym c.new-titles.ensures.items) (climbs_none ss s c.args.place h);
}

pub loop-step-preserved : goal.loop-step-preserved
loop-step-preserved c =
    let list = c.args.list.now in
    let i = c.loop-step.at in
    let o = c.index-list-at.result in
    let next = seated_next list i c.in-Some.next o c.requires.seated (omega arith) c.index-list-at.is c.in-Some.is in
    record {
      before = omega (arith, next);
      climbs = λ ss s a h.
          let g = c.loop-step.invariant.climbs ss s a h in
          climbs_more ss s i o c.loop-step.titles.items c.push.new.self.items c.in_ok-push.ensures.items g (opened_at list ss a i o (omega arith) c.index-list-at.is g.scope g.stands) c.in-Some.next c.in-Some.is;
    }

pub returns-in-None-clause-path : goal.returns-in-None-clause-path
returns-in-None-clause-path c ss s a h =
    let list = c.args.list.now in
    let i = c.loop-step.at in
    let o = c.index-list-at.result in
    let g = c.loop-step.invariant.climbs ss s a h in
    let t = opened_at list ss a i o (omega arith) c.index-list-at.is g.scope g.stands in
    ap read_path c.reverse.ensures.items ∙ climbs_all ss s i o c.loop-step.titles.items c.push.new.self.items c.in_ok-push.ensures.items g t (outermost_around ss o.around g.scope c.in-None.is t.entered.around)

pub returns-clause-path : goal.returns-clause-path
returns-clause-path c ss s a h = absurd (omega (arith, c.loop-step.invariant.before, c.loop-step-test.false))

pub returns-clause-rooted : goal.returns-clause-rooted
returns-clause-rooted c = absurd (omega (arith, c.loop-step.invariant.before, c.loop-step-test.false))
