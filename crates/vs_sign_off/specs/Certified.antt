-- What a certified run is, from the bytes of a source and those of a certificate to those of the value change dump and of the lines.
use Rattle.std.specs.Prelude.{◌≡◌, ◌++◌, ℕ, not, Bool, true, false, IfSome, Option, Result, Ok, Err, List, [], ◌∷◌}
use Rattle.std.specs.Io.KnownBytes.{Appends}
use Rattle.std.specs.List.{Contains}
use Rattle.vs_certificate.specs.declared.members.Certificate.{Certificate}
use Rattle.vs_certificate.specs.declared.members.Rules.{Rules}
use Rattle.vs_certificate.specs.declared.members.Rules.TheVariants.{Narrow}
use Rattle.vs_certificate.specs.JsonValue.{value_of}
use Rattle.vs_certificate.specs.Reading.{PassesBy, other_by}
use Rattle.vs_design.specs.Parts.{Parts}
use Rattle.vs_design.specs.Traces.{Line, SameTrace, Slot, Trace, times_in}
use Rattle.vs_independence.specs.vs_process.specs.declared.moves.Move.{Move}
use Rattle.vs_independence.specs.vs_process.specs.Executions.{after, Legal, is_complete, trace}
use Rattle.vs_simulate.specs.vs_kernel.specs.vs_vcd_writing.specs.Codes.{shown}
use Rattle.vs_simulate.specs.vs_kernel.specs.vs_vcd_writing.specs.Shown.{Shows, slot_at}
use Rattle.vs_simulate.specs.vs_kernel.specs.vs_vcd_writing.specs.Text.{vcd_text}
use Rattle.vs_simulate.specs.vs_kernel.specs.vs_vcd_writing.specs.Values.{shown_value}
use Rattle.vs_independence.specs.Displays.{DisplaySlot, SameDisplays, displays}
use Rattle.vs_cert_check.specs.vs_rules.specs.Certificates.{claims_of}
use Rattle.vs_cert_check.specs.vs_rules.specs.Claims.{Claims, blocks_of}
use Rattle.vs_cert_check.specs.vs_rules.specs.Verdict.{Disciplined}
use Rattle.vs_simulate.specs.vs_kernel.specs.vs_run_steps.specs.Prints.{lines_text}
use Rattle.vs_simulate.specs.vs_kernel.specs.Runs.{HasBegun, RanTo}
use Rattle.vs_simulate.specs.vs_kernel.specs.Shows.{ShowsSlotEnds}
use Rattle.vs_simulate.specs.vs_kernel.specs.declared.outcome.Outcome.{Outcome}
use Rattle.vs_simulate.specs.vs_kernel.specs.declared.outcome.Outcome.TheVariants.{StepLimit}
use Rattle.vs_simulate.specs.vs_kernel.specs.declared.outcome.RunFault.TheVariants as run
use Rattle.vs_cert_check.specs.Means.{IsIndependent}
use Rattle.vs_simulate.specs.Honesty.{Defines, SimulationFails, is_refusal}
use Rattle.vs_simulate.specs.declared.fault.SimFault.TheVariants.{Run}
use Rattle.vs_sign_off.specs.Judged.{IsRefusedBy, IsRejectedBy}
use Rattle.vs_sign_off.specs.declared.fault.CertifiedFault as f
use Rattle.vs_sign_off.specs.declared.fault.CertifiedFault.TheVariants.{Simulation, Rejected}
use Rattle.vs_sign_off.specs.declared.fault.CertifiedFault.TheVariants as faults

-- whether an outcome says that the run's execution is complete to the moment that was asked for
abbrev pub is_whole : Outcome → Bool
is_whole (StepLimit time) = false
is_whole _ = true

-- two lists have each line as often
abbrev pub AreAsOften : List Line → List Line → Type 0
AreAsOften some others = (text : List ℕ) → times_in text some ≡ times_in text others

-- lines, slot by slot: in each the lines of `$display` that one list has of it, and then the lines of `$strobe` that another list has of it, each as
-- often, in some order (clauses 17.1.1 and 17.1.2)
abbrev pub AreLinesOf : List DisplaySlot → List Slot → List Line → Type 0
AreLinesOf [] [] lines = lines ≡ []
AreLinesOf (shown ∷ more) (slot ∷ slots) lines =
    (strobed rest : List Line) × (lines ≡ shown.lines ++ strobed ++ rest) × AreAsOften strobed slot.lines × AreLinesOf more slots rest
AreLinesOf _ _ lines = ⊥

-- the value change dump of a trace shows, of each signal that is no array, at each time, the value at the end of the last slot at or before that time
-- (clause 18.2)
abbrev pub ShowsTrace : Parts → Trace → ℕ → Type 0
ShowsTrace d trace until = (time signal : ℕ) → Contains (shown d) signal →
    IfSome (slot_at time trace.slots) (λ s. Shows (vcd_text d trace until) d time signal (shown_value s.store signal))

-- what was written of a run whose moves are `moves` stands for another execution, whose moves are `xs`
pub record RepresentsRun (d : Parts) (c : Claims) (until : ℕ) (moves : List Move) (old new lines_old lines_new : Option (List ℕ))
    (xs : List Move) : Type 0 where
  -- the two have the same slots, with the same store at the end of each and each line of `$strobe` as often, and finish alike
  pub same : SameTrace (trace d xs until) (trace d moves until)
  -- the bytes appended to the dump's sink are the value change dump of the other one's trace
  pub dump : Appends old new (vcd_text d (trace d xs until) until)
  -- which shows the other one's values at the ends of its slots, and no others
  pub shows : ShowsTrace d (trace d xs until) until
  -- the bytes appended to the lines' sink are, slot by slot, the run's own lines of `$display` and then the other one's of `$strobe`
  pub lines : List Line
  pub written : Appends lines_old lines_new (lines_text lines)
  pub by_slots : AreLinesOf (displays d moves until) (trace d xs until).slots lines
  -- where the certificate says `displays`, each process that is no block makes the same lines of `$display` in each slot in both, in their order
  pub displayed : c.displays ≡ true → SameDisplays (λ i. not (blocks_of d c i)) (displays d xs until) (displays d moves until)

-- a certified run that answered an outcome: the design that the source and the top define keeps all rules of the certificate whose text was given, of
-- a version that is read by these rules, so that its traces do not depend on the order of steps; it ran to the moment in at most so many steps, and
-- the value change dump of this run was appended to the known bytes of a sink, and its lines to those of another one. Unless the step limit ended it,
-- what was written stands for each execution that is permitted at the certificate's grain and complete to the moment
pub record IsCertifiedRunBy (rules : Rules) (source top certificate : List ℕ) (until steps : ℕ) (outcome : Outcome)
    (old new lines_old lines_new : Option (List ℕ)) : Type 0 where
  pub design : Parts
  pub defined : Defines source top design
  pub claimed : Certificate
  pub passes : PassesBy (other_by rules) certificate (value_of claimed)
  pub disciplined : Disciplined design (claims_of claimed)
  pub independent : IsIndependent design (claims_of claimed)
  pub ran : RanTo design until steps outcome old new lines_old lines_new
  pub shows : ShowsSlotEnds design ran.moves until
  pub every : is_whole outcome ≡ true → (xs : List Move) → Legal (claims_of claimed).grain design xs →
      is_complete until (after design xs) ≡ true → RepresentsRun design (claims_of claimed) until ran.moves old new lines_old lines_new xs

-- the same by a certificate of version 1 or 2
abbrev pub IsCertifiedRun : List ℕ → List ℕ → List ℕ → ℕ → ℕ → Outcome →
    Option (List ℕ) → Option (List ℕ) → Option (List ℕ) → Option (List ℕ) → Type 0
IsCertifiedRun source top certificate until steps outcome old new lines_old lines_new =
    IsCertifiedRunBy Narrow source top certificate until steps outcome old new lines_old lines_new

-- what a certified run leaves that failed: the design keeps all rules of the certificate, of a version that is read by these rules, and a beginning
-- of the value change dump of one of its executions was appended to the known bytes of a sink, and a beginning of its lines to those of another one
pub record HasBegunCertifiedRunBy (rules : Rules) (source top certificate : List ℕ) (until steps : ℕ)
    (old new lines_old lines_new : Option (List ℕ)) : Type 0 where
  pub design : Parts
  pub defined : Defines source top design
  pub claimed : Certificate
  pub passes : PassesBy (other_by rules) certificate (value_of claimed)
  pub disciplined : Disciplined design (claims_of claimed)
  pub begun : HasBegun design until steps old new lines_old lines_new

-- the same by a certificate of version 1 or 2
abbrev pub HasBegunCertifiedRun : List ℕ → List ℕ → List ℕ → ℕ → ℕ →
    Option (List ℕ) → Option (List ℕ) → Option (List ℕ) → Option (List ℕ) → Type 0
HasBegunCertifiedRun source top certificate until steps old new lines_old lines_new =
    HasBegunCertifiedRunBy Narrow source top certificate until steps old new lines_old lines_new

-- what a fault says where a certified run was asked for by these rules: the source is refused, or then the certificate, or then the design breaks a
-- rule; and a run fails for memory or a write alone
abbrev pub CertifyingFailsBy : Rules → List ℕ → List ℕ → List ℕ → f.CertifiedFault → Type 0
CertifyingFailsBy rules source top certificate (Simulation fault) = SimulationFails source top fault
CertifyingFailsBy rules source top certificate (faults.Certificate fault) = IsRefusedBy rules source top certificate fault
CertifyingFailsBy rules source top certificate (Rejected number place) = IsRejectedBy rules source top certificate number place.items

-- the same where versions 1 and 2 are read
abbrev pub CertifyingFails : List ℕ → List ℕ → List ℕ → f.CertifiedFault → Type 0
CertifyingFails source top certificate fault = CertifyingFailsBy Narrow source top certificate fault

-- whether a fault is told before anything is run
abbrev pub is_before_run : f.CertifiedFault → Bool
is_before_run (Simulation fault) = is_refusal fault
is_before_run (faults.Certificate fault) = true
is_before_run (Rejected number place) = true

-- whether a certified run failed because a sink did
abbrev pub is_write : {A : Type 0} → Result A f.CertifiedFault → Bool
is_write (Ok x) = false
is_write (Err (Simulation (Run run.Write))) = true
is_write (Err _) = false
