use Rattle.vs_time_wheel.proofs.Wound.{bag_empty}
use Rattle.vs_time_wheel.proofs.calendar.Calendar.new.Goals as goal

pub returns-clause-empty : goal.returns-clause-empty
returns-clause-empty g c = bag_empty c.in_ok-rotation.rotation c.new-2.result c.in_ok-rotation.ensures c.new-2.ensures.empty
