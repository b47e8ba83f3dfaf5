use Rattle.std.proofs.Common.{◌≡◌, List, Bool, map, sym, ◌∙◌, ap, subst}
use Rattle.vs_claims.specs.declared.subjects.Subject.{Subject}
use Rattle.vs_claims.specs.Subjects.{subject_view}
use Rattle.vs_rules_of_signals.specs.vs_claims.specs.Facts.{Case}
use Rattle.vs_rules_of_starts.specs.vs_rules.specs.Claims.{is_wide}
use Rattle.vs_rules_of_processes.specs.vs_drivers.specs.Wires.{IsWiringOf}
use Rattle.vs_rules_of_processes.specs.vs_drivers.specs.vs_slots_constants.specs.Inverted.{AreInverted}
use Rattle.vs_cert_check.proofs.judging.by_entries.Goals as goal

pub of-requires : goal.of-requires
of-requires c = subst (λ (k : Case). IsWiringOf k.design k.claims c.args.cones.now) (sym c.in_ok-slots.ensures) c.requires.cones

pub new-requires-2 : goal.new-requires-2
new-requires-2 c = record { wiring = c.requires.cones }

pub invariant_of-sheet : goal.invariant_of-sheet
invariant_of-sheet c = record {
  cones_are = c.requires.cones;
  copies_are = c.requires.copies;
  entries_are = c.requires.entries;
  first_writes_are = c.of-first_writes.ensures ∙ c.requires.entries;
  slots_are = c.in_ok-slots.ensures;
  classes_are = c.in_ok-classes.ensures;
  first_slot_is = c.in_ok-first_slot.ensures;
  subjects_are = ap (λ (all : List Subject). map subject_view all) c.deref.ensures.value ∙ c.in_ok-subjects.ensures;
}
