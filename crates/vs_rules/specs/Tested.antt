-- What the readers of certificates test is what is asked of their claims before any rule.
use Rattle.std.specs.Prelude.{◌↔◌}
use Rattle.vs_certificate.specs.declared.members.Certificate.{Certificate}
use Rattle.vs_certificate.specs.JsonValue.{value_of}
use Rattle.vs_certificate.specs.Reading.{IsSound, IsSoundWide}
use Rattle.vs_rules.specs.Certificates.{claims_of}
use Rattle.vs_rules.specs.Limits.{IsCertificate, IsWideCertificate}

-- no test of a certificate's form and limits fails exactly where its claims have that form and keep those limits
abbrev pub TestedAreCertificates : Type 0
TestedAreCertificates = (c : Certificate) → IsSound (value_of c) ↔ IsCertificate (claims_of c)

-- so it is of the reader of version 3 too
abbrev pub TestedAreWideCertificates : Type 0
TestedAreWideCertificates = (c : Certificate) → IsSoundWide (value_of c) ↔ IsWideCertificate (claims_of c)
