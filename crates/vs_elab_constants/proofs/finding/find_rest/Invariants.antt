use Rattle.std.proofs.Common.{◌≡◌, ◌-◌, length, map}
use Rattle.vs_scopes.specs.vs_widths.specs.Environment.{Environment}
use Rattle.vs_widths.specs.Names.{meaning_of, nested_names}
use Rattle.vs_scopes.specs.scopes_passes.Parts.{read_given}
use Rattle.vs_elab_constants.specs.passes.Finding.{AreFound, count_found}
use Rattle.vs_elab_constants.proofs.finding.find_rest.Given as goal

abbrev pub decreases-loop-reason : goal.decreases-loop-reason
decreases-loop-reason l = length l.values.items - count_found l.values.items

abbrev pub invariant-loop-reason : goal.invariant-loop-reason
invariant-loop-reason l = record {
  all : length l.values.items ≡ length l.list;
  found : (env : Environment) → AreFound (meaning_of l.around) env (nested_names l.outer) (map read_given l.list) l.fn.values.items l.fn.known → AreFound (meaning_of l.around) env (nested_names l.outer) (map read_given l.list) l.values.items l.known;
}
