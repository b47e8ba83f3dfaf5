use Rattle.std.proofs.Common.{◌≡◌, ◌<◌}
use Rattle.vs_kernel.specs.Snapshot.{IsSnapshot, point_of}
use Rattle.vs_run_steps.specs.Turns.{Turning}
use Rattle.vs_kernel.proofs.run.Run.take_moves.Given as goal

abbrev pub invariant-loop-event : goal.invariant-loop-event
invariant-loop-event g l = record {
  turning : Turning l.fn.self.blocks l.steps l.left (point_of l.fn.self l.fn.self.inside (g.V.Sink.bytes l.fn.vcd) (g.L.Sink.bytes l.fn.lines))
      (point_of l.self l.self.inside (g.V.Sink.bytes l.vcd) (g.L.Sink.bytes l.lines));
  some : 0 < l.left;
  run : IsSnapshot l.self;
  same : l.self ≡ record l.fn.self { running = l.self.running; inside = l.self.inside; writer = l.self.writer };
  failures : g.V.Sink.failed l.vcd ≡ g.V.Sink.failed l.fn.vcd;
  line_failures : g.L.Sink.failed l.lines ≡ g.L.Sink.failed l.fn.lines;
}

abbrev pub decreases-loop-event : goal.decreases-loop-event
decreases-loop-event g l = l.left
