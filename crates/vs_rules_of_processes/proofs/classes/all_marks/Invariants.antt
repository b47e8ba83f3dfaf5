use Rattle.std.proofs.Common.{◌≡◌, length}
use Rattle.vs_rules_of_processes.specs.Classes.{AreClasses}
use Rattle.vs_rules_of_processes.proofs.classes.all_marks.Given as goal

abbrev pub invariant-loop-class : goal.invariant-loop-class
invariant-loop-class l = (length l.table.items ≡ l.class) × AreClasses l.slots.design l.slots.claims l.table.items
