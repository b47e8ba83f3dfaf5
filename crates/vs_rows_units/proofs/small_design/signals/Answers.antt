use Rattle.vs_rows_units.proofs.small_design.signals.Goals as goal

pub returns : goal.returns
returns c = record {
  m = c.in_ok-m.m;
  a = c.in_ok-a.a;
  b = c.in_ok-b.b;
  all = c.in_ok-vec.ensures.items;
  path_m = c.in_ok-m.ensures;
  path_a = c.in_ok-a.ensures;
  path_b = c.in_ok-b.ensures;
}
