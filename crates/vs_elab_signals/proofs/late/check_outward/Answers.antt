use Rattle.vs_elab_signals.proofs.LateLemmas.{not_unseen, not_seen, coming_of, coming_told}
use Rattle.vs_elab_signals.proofs.late.check_outward.Goals as goal

pub returns-in-Unseen : goal.returns-in-Unseen
returns-in-Unseen c ss s a = not_unseen ss c.args.name.now (s.sight c.args.name.now) (rw c.in-Unseen.is at (c.sight_around-sight.ensures.sight ss s a.opened a.sight a.kind))

pub returns-in-Seen : goal.returns-in-Seen
returns-in-Seen c ss s a = not_seen ss c.args.name.now (s.sight c.args.name.now) (rw c.in-Seen.is at (c.sight_around-sight.ensures.sight ss s a.opened a.sight a.kind))

pub named_fault-requires-clause-place : goal.named_fault-requires-clause-place
named_fault-requires-clause-place c = rw c.in-Coming.is at c.sight_around-sight.ensures.within

pub returns-in-Coming : goal.returns-in-Coming
returns-in-Coming c ss s a =
    let n = c.args.name.now in
    let t = coming_of ss n (s.sight n) c.in-Coming.place (rw c.in-Coming.is at (c.sight_around-sight.ensures.sight ss s a.opened a.sight a.kind)) in
    coming_told ss n (s.sight n) t.0 c.named_fault.result t.2 (c.named_fault.ensures ss t.0 a.opened t.1)
