use Rattle.vs_sign_off.proofs.judging.judge_by.Goals as goal

pub returns-clause-judged : goal.returns-clause-judged
returns-clause-judged c = record {
  design = c.in_ok-design.design;
  defined = c.in_ok-design.ensures;
  claimed = c.in_ok-claimed.claimed;
  passes = c.in_ok-claimed.ensures.ok;
  exact = c.in_ok-verdict.ensures.exact;
  numbered = c.in_ok-verdict.ensures.numbered;
  meaning = c.in_ok-verdict.ensures.meaning;
}
