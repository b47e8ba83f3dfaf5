use Rattle.std.proofs.Common.{arith, ◌≤◌, ◌<◌, length, ap, sym, ◌∙◌, ◌≡◌, true, subst}
use Rattle.std.specs.Prelude.{Vec, ℕ, List}
use Rattle.std.specs.Global.{Global}
use Rattle.std.proofs.lemmas.Bool.{false≢true}
use Rattle.vs_cert_check.proofs.BrokenLemmas.{found_next, kept_next, enough_found}
use Rattle.vs_cert_check.proofs.listing.breakers.Goals as goal
use Rattle.vs_cert_check.proofs.listing.breakers.Goals.{then-not-branch+in_ok-push, else-not-branch}

pub loop-i-preserved : goal.loop-i-preserved
loop-i-preserved g c =
    let room : length c.loop-i.found.items < c.args.most = grind (arith, c.if-len-most.false, c.len.ensures) in
    elim c.if-not-branch.branch [
      | then-not-branch+in_ok-push w ↦
          found_next (g.R.Rule.keeps c.args.rule.now) c.args.most c.loop-i.i c.args.n c.loop-i.found.items c.if-not-branch.found.items c.loop-i.invariant room
          c.loop-i-test.true (λ kept. false≢true (sym w.if-not-branch.true ∙ c.in_ok-test.ensures.1 kept)) (ap (λ (v : Vec ℕ Global). v.items) w.found-is ∙ w.in_ok-push.ensures.items)
      | else-not-branch w ↦
          kept_next (g.R.Rule.keeps c.args.rule.now) c.args.most c.loop-i.i c.args.n c.loop-i.found.items c.if-not-branch.found.items c.loop-i.invariant
          (c.in_ok-test.ensures.0 w.if-not-branch.false) (ap (λ (v : Vec ℕ Global). v.items) w.found-is)
    ]

pub returns-then-len-most-clause-first : goal.returns-then-len-most-clause-first
returns-then-len-most-clause-first g c =
    let full : c.args.most ≤ length c.loop-i.found.items = grind (arith, c.if-len-most.true, c.len.ensures) in
    enough_found (g.R.Rule.keeps c.args.rule.now) c.args.most c.loop-i.i c.args.n c.loop-i.found.items c.loop-i.invariant full c.loop-i.auto.i-end
