use Rattle.vs_sign_off.proofs.dumps.write_dumps.Goals as goal

pub returns-clause-dumps : goal.returns-clause-dumps
returns-clause-dumps g c = record {
  design = c.in_ok-design.design;
  defined = c.in_ok-design.ensures;
  first = record { outcome = _; lines_old = _; lines_new = _; ran = c.in_ok-run_to.ensures.ran };
  other = record { outcome = _; lines_old = _; lines_new = _; ran = c.in_ok-run_to-2.ensures.ran };
}
