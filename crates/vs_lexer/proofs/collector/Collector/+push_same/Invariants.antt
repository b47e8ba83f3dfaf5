use Rattle.vs_lexer.proofs.collector.Collector.+push_same.Given as goal

abbrev pub decreases-push_same : goal.decreases-push_same
decreases-push_same l = l.times
