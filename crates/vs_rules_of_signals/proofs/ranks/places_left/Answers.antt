use Rattle.std.proofs.Common.{◌≡◌, ◌+◌, false, [], ◌∷◌, length, ap, ◌∙◌, arith, length-append}
use Rattle.vs_claims.specs.vs_maps.specs.declared.along.Along.TheVariants.{ZeroTime}
use Rattle.vs_claims.specs.vs_maps.specs.Reaches.{stops_along}
use Rattle.vs_rules_of_signals.proofs.RankLemmas.{entered_less}
use Rattle.vs_rules_of_signals.proofs.ranks.places_left.Goals as goal

pub loop-visit-smaller-in-Continue-branch-5 : goal.loop-visit-smaller-in-Continue-branch-5
loop-visit-smaller-in-Continue-branch-5 c =
    let nexts = stops_along (ZeroTime false) c.args.tables.now.stops in
    let m = c.if-mark.ensures.fresh in
    let rest = c.pop.new.self.items in
    let a : length c.loop-visit.todo.items ≡ length rest + 1 = ap length c.in-Some.ensures.items ∙ length-append rest (c.in-Some.visit ∷ []) in
    let b : length c.push-then-mark.new.self.items ≡ length rest + 1 = ap length c.in_ok-push-in-Enter.ensures.items ∙ length-append rest (_ ∷ []) in
    let n : length c.nexts.result.now ≡ length (nexts c.in-Enter.place) = ap length c.nexts.ensures in
    entered_less nexts c.loop-visit.entered.items c.mark.new.marks.items c.in-Enter.place (length c.loop-visit.todo.items) (length rest) (length c.put_visits.new.todo.items) m.0 m.1 m.2
    a (omega (arith, b, n, c.in_ok-put_visits-in-Enter.ensures))
