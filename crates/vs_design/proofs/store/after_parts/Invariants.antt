use Rattle.std.proofs.Common.{◌≡◌, drop}
use Rattle.vs_design.specs.WordWrites.{after_parts}
use Rattle.vs_design.proofs.store.after_parts.Given as goal

abbrev pub invariant-loop-part : goal.invariant-loop-part
invariant-loop-part l = after_parts (drop l.part-index l.parts) l.signal l.word l.all ≡ after_parts l.parts l.signal l.word l.fn.before
