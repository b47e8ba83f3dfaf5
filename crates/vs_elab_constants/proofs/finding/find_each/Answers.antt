use Rattle.vs_elab_constants.proofs.finding.find_each.Goals as goal
use Rattle.vs_elab_constants.proofs.finding.find_each.Goals.{then-number-list+in_ok-find_value, else-number-list}

pub loop-number-preserved : goal.loop-number-preserved
loop-number-preserved c =
    elim c.if-number-list.branch [
      | then-number-list+in_ok-find_value w ↦
          rw (w.values-is, w.known-is) (record {
            all = w.in_ok-find_value.ensures.all;
            found = λ env h. w.in_ok-find_value.ensures.found env (c.loop-number.invariant.found env h);
          })
      | else-number-list w ↦ rw (w.values-is, w.known-is) (record { all = c.loop-number.invariant.all; found = c.loop-number.invariant.found })
    ]

pub returns-clause-found : goal.returns-clause-found
returns-clause-found c = c.loop-number.invariant.found
