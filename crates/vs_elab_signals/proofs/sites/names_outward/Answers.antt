use Rattle.std.proofs.Common.{List, refl, sym, subst, ◌∙◌, arith}
use Rattle.std.specs.Borrow.{Bor}
use Rattle.vs_scopes.specs.Declarations.{Bindings}
use Rattle.vs_elab_signals.specs.vs_widths.specs.Names.{nested_names}
use Rattle.vs_elab_signals.proofs.SiteLemmas.{Gathers, opened_at, seated_next, place_outward, seen_nothing, gathers_none, gathers_more, gathers_all}
use Rattle.vs_elab_signals.proofs.sites.names_outward.Goals as goal

pub loop-step-init : goal.loop-step-init
loop-step-init c = record {
  before = omega arith;
  gathers = λ ss s a h. subst (λ (z : List (Bor Bindings)). Gathers ss s c.args.place (nested_names z)) (sym c.new-levels.ensures.items) (gathers_none ss s c.args.place h);
}

pub loop-step-preserved : goal.loop-step-preserved
loop-step-preserved c =
    let list = c.args.list.now in
    let i = c.loop-step.at in
    let o = c.index-list-at.result in
    let e = sym c.outward_place.ensures ∙ c.in-Some.is in
    let next = seated_next list i c.in-Some.next o c.requires.seated (omega arith) c.index-list-at.is (place_outward o.kind o.around c.in-Some.next e).1 in
    record {
      before = omega (arith, next);
      gathers = λ ss s a h.
          let g = c.loop-step.invariant.gathers ss s a h in
          gathers_more ss s i o c.loop-step.levels.items c.push.new.self.items _ c.in_ok-push.ensures.items refl g (opened_at list ss a i o (omega arith) c.index-list-at.is g.scope g.stands) c.in-Some.next e;
    }

pub returns-in-None : goal.returns-in-None
returns-in-None c ss s a h n =
    let list = c.args.list.now in
    let i = c.loop-step.at in
    let o = c.index-list-at.result in
    let g = c.loop-step.invariant.gathers ss s a h in
    let t = opened_at list ss a i o (omega arith) c.index-list-at.is g.scope g.stands in
    gathers_all ss s i o c.loop-step.levels.items c.push.new.self.items _ c.in_ok-push.ensures.items refl g t (seen_nothing ss g.scope o.kind o.around (sym c.outward_place.ensures ∙ c.in-None.is) t.entered.kind t.entered.around) n

pub returns : goal.returns
returns c ss s a h n = absurd (omega (arith, c.loop-step.invariant.before, c.loop-step-test.false))
