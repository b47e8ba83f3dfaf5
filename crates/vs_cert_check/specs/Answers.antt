-- Verdicts as they are told.
use Rattle.std.specs.Prelude.{◌-◌, ◌<◌, ◌≤◌, length}
use Rattle.vs_design.specs.Parts.{Parts}
use Rattle.vs_rules_of_starts.specs.vs_rules.specs.Claims.{Claims}
use Rattle.vs_rules_of_starts.specs.vs_rules.specs.Verdict.{Subject, signal, assign, process, listed, Verdict, yes_verdict, no_verdict, IsVerdict}
use Rattle.vs_cert_check.specs.declared.verdict.Verdict as v
use Rattle.vs_cert_check.specs.declared.verdict.Verdict.TheVariants as answers
use Rattle.vs_cert_check.specs.Verdicts.{rule_of}

-- a verdict as it is told: rules have numbers from 1 on
abbrev pub verdict_view : v.Verdict → Verdict
verdict_view answers.Yes = yes_verdict
verdict_view (answers.No number place) = no_verdict (rule_of (number - 1)) place.items

-- a rule that it names has a number from 1 to 11
abbrev pub HasNumber : v.Verdict → Type 0
HasNumber answers.Yes = Unit {0}
HasNumber (answers.No number place) = (1 ≤ number) × (number ≤ 11)

-- it is the verdict on a design and a certificate
pub record IsVerdictOn (d : Parts) (c : Claims) (told : v.Verdict) : Type 0 where
  pub exact : IsVerdict d c (verdict_view told)
  pub numbered : HasNumber told

-- a subject is one of the design: where it goes by a number, the design has one of that number
abbrev pub IsOfDesign : Parts → Subject → Type 0
IsOfDesign d (signal v) = v < length d.signals
IsOfDesign d (assign j) = j < length d.assigns
IsOfDesign d (process i) = i < length d.processes
IsOfDesign d (listed name) = Unit {0}
