use Rattle.std.proofs.Common.{◌≡◌, ◌-◌}
use Rattle.vs_widths.specs.Names.{meaning_of, nested_names}
use Rattle.vs_scopes.specs.Generate.{turns_from}
use Rattle.vs_elab_constants.specs.generate_passes.Turns.{with_turns}
use Rattle.vs_elab_constants.proofs.loops.turns_within.Given as goal

-- the turns so far, and those from this value on, are all
abbrev pub invariant-loop-count : goal.invariant-loop-count
invariant-loop-count l =
    with_turns l.done.items (turns_from (l.limit - l._count) (meaning_of (nested_names l.around)) l.header l.value)
    ≡ turns_from l.limit (meaning_of (nested_names l.around)) l.header l.fn.first
