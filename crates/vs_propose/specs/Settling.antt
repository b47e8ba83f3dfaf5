-- Designs without processes whose continuous assignments settle in an order.
use Rattle.std.specs.Prelude.{ℕ, ◌≡◌, []}
use Rattle.vs_certificate.specs.declared.members.Certificate.{Certificate}
use Rattle.vs_certificate.specs.JsonValue.{value_of}
use Rattle.vs_certificate.specs.Reading.{IsSound}
use Rattle.vs_design.specs.Parts.{Parts}
use Rattle.vs_drivers.specs.vs_rules.specs.Certificates.{claims_of}
use Rattle.vs_drivers.specs.vs_rules.specs.Claims.{Claims}
use Rattle.vs_drivers.specs.vs_rules.specs.Drivers.{assign}
use Rattle.vs_drivers.specs.vs_rules.specs.Rules.{K1_Signal, K1_Assign, K4}

-- each signal and each continuous assignment is listed as K1 asks, and each continuous assignment keeps K4, by the order that is claimed
pub record Settles (d : Parts) (c : Claims) : Type 0 where
  pub signals : (v : ℕ) → K1_Signal d c v
  pub assigns : (j : ℕ) → K1_Assign d c j
  pub order : (j : ℕ) → K4 d c (assign j)

-- a design without processes that does so under some certificate, of which no test of its form and limits fails
pub record CanSettle (d : Parts) : Type 0 where
  pub still : d.processes ≡ []
  pub certificate : Certificate
  pub sound : IsSound (value_of certificate)
  pub settles : Settles d (claims_of certificate)
