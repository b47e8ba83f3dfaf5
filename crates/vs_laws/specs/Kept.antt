-- What is shown of a design that keeps the rules of a certificate.
use Rattle.vs_design.specs.Parts.{Parts}
use Rattle.vs_design.specs.WellFormed.{WellFormed}
use Rattle.vs_independence.specs.Discipline.{Independent}
use Rattle.vs_rules.specs.Claims.{Claims}
use Rattle.vs_rules.specs.Limits.{IsWideCertificate}
use Rattle.vs_rules.specs.Verdict.{Disciplined, IsAccepted}

-- it is well formed, no reader refuses the certificate, it keeps the rules, and so its traces do not depend on the order of its steps
abbrev pub KeepsRules : Parts → Claims → Type 0
KeepsRules d c = WellFormed d × IsAccepted d c × Independent c.grain d

-- alike where the certificate may be one of version 3
abbrev pub KeepsWideRules : Parts → Claims → Type 0
KeepsWideRules d c = WellFormed d × IsWideCertificate c × Disciplined d c × Independent c.grain d
