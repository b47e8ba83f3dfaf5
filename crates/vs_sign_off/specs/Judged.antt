-- What a verdict is, from the bytes of a source and those of a certificate.
use Rattle.std.specs.Prelude.{ℕ, ◌-◌, ◌≤◌, List}
use Rattle.vs_certificate.specs.declared.fault.CertFault.{CertFault}
use Rattle.vs_certificate.specs.declared.members.Certificate.{Certificate}
use Rattle.vs_certificate.specs.declared.members.Rules.{Rules}
use Rattle.vs_certificate.specs.declared.members.Rules.TheVariants.{Narrow}
use Rattle.vs_certificate.specs.JsonValue.{value_of}
use Rattle.vs_certificate.specs.Reading.{IsFaultBy, PassesBy, other_by}
use Rattle.vs_design.specs.Parts.{Parts}
use Rattle.vs_cert_check.specs.vs_rules.specs.Certificates.{claims_of}
use Rattle.vs_cert_check.specs.vs_rules.specs.Verdict.{IsVerdict, no_verdict}
use Rattle.vs_cert_check.specs.Answers.{verdict_view, HasNumber}
use Rattle.vs_cert_check.specs.Means.{Means}
use Rattle.vs_cert_check.specs.Verdicts.{rule_of}
use Rattle.vs_cert_check.specs.declared.verdict.Verdict.{Verdict}
use Rattle.vs_simulate.specs.Honesty.{Defines, DefinesNone}
use Rattle.vs_simulate.specs.declared.fault.SimFault.TheVariants.{Memory}
use Rattle.vs_sign_off.specs.declared.fault.CertifiedFault as f
use Rattle.vs_sign_off.specs.declared.fault.CertifiedFault.TheVariants.{Simulation, Rejected}
use Rattle.vs_sign_off.specs.declared.fault.CertifiedFault.TheVariants as faults

-- a verdict of the design that the source and the top define, on the certificate whose text was given, of a version that is read by these rules: it
-- is right, a rule that it names has a number from 1 to 11, and a yes means that the traces of the design do not depend on the order of steps
pub record IsJudgedBy (rules : Rules) (source top certificate : List ℕ) (v : Verdict) : Type 0 where
  pub design : Parts
  pub defined : Defines source top design
  pub claimed : Certificate
  pub passes : PassesBy (other_by rules) certificate (value_of claimed)
  pub exact : IsVerdict design (claims_of claimed) (verdict_view v)
  pub numbered : HasNumber v
  pub meaning : Means design (claims_of claimed) v

-- the same on one of version 1 or 2
abbrev pub IsJudged : List ℕ → List ℕ → List ℕ → Verdict → Type 0
IsJudged source top certificate v = IsJudgedBy Narrow source top certificate v

-- the source and the top define a design, and the fault is that of the first test that fails, by these rules, of the text of the certificate
pub record IsRefusedBy (rules : Rules) (source top certificate : List ℕ) (fault : CertFault) : Type 0 where
  pub design : Parts
  pub defined : Defines source top design
  pub refused : IsFaultBy (other_by rules) certificate fault

-- the same where versions 1 and 2 are read
abbrev pub IsRefused : List ℕ → List ℕ → List ℕ → CertFault → Type 0
IsRefused source top certificate fault = IsRefusedBy Narrow source top certificate fault

-- the verdict of the design that the source and the top define, on the certificate whose text was given, of a version that is read by these rules, is
-- no: the rule of this number, from 1 to 11, is the least that is broken, and this is the name of the first subject that breaks it
pub record IsRejectedBy (rules : Rules) (source top certificate : List ℕ) (number : ℕ) (place : List ℕ) : Type 0 where
  pub design : Parts
  pub defined : Defines source top design
  pub claimed : Certificate
  pub passes : PassesBy (other_by rules) certificate (value_of claimed)
  pub numbered : (1 ≤ number) × (number ≤ 11)
  pub broken : IsVerdict design (claims_of claimed) (no_verdict (rule_of (number - 1)) place)

-- the same on one of version 1 or 2
abbrev pub IsRejected : List ℕ → List ℕ → List ℕ → ℕ → List ℕ → Type 0
IsRejected source top certificate number place = IsRejectedBy Narrow source top certificate number place

-- what a fault says where a verdict was asked for by these rules: the source defines no design, or the certificate is refused; a growth of memory may
-- be refused
abbrev pub JudgingFailsBy : Rules → List ℕ → List ℕ → List ℕ → f.CertifiedFault → Type 0
JudgingFailsBy rules source top certificate (Simulation Memory) = Unit {0}
JudgingFailsBy rules source top certificate (Simulation fault) = DefinesNone source top fault
JudgingFailsBy rules source top certificate (faults.Certificate fault) = IsRefusedBy rules source top certificate fault
JudgingFailsBy rules source top certificate (Rejected number place) = ⊥

-- the same where versions 1 and 2 are read
abbrev pub JudgingFails : List ℕ → List ℕ → List ℕ → f.CertifiedFault → Type 0
JudgingFails source top certificate fault = JudgingFailsBy Narrow source top certificate fault
