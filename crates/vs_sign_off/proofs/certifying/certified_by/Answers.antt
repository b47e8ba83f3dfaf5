use Rattle.std.proofs.Common.{◌≡◌, false, IfErr, subst}
use Rattle.std.specs.Prelude.{Result, Ok, Err}
use Rattle.vs_independence.specs.vs_process.specs.declared.moves.Grain.TheVariants.{Statement}
use Rattle.vs_cert_check.specs.vs_rules.specs.Certificates.{claims_of}
use Rattle.vs_cert_check.specs.vs_rules.specs.Verdict.{IsVerdict}
use Rattle.vs_cert_check.specs.Answers.{verdict_view, HasNumber}
use Rattle.vs_cert_check.specs.Means.{Means}
use Rattle.vs_sign_off.specs.Certified.{is_before_run}
use Rattle.vs_sign_off.proofs.CertifiedLemmas.{stands_for}
use Rattle.vs_sign_off.proofs.certifying.certified_by.Goals as goal

if_err : {A B : Type 0} (C : B → Type 0) {P : Type 0} (r : Result A B) → P → IfErr r (λ fault. C fault → P)
if_err C (Ok x) p = tt
if_err C (Err fault) p = λ _. p

pub returns-in_err-outcome-in-Yes-clause-begun : goal.returns-in_err-outcome-in-Yes-clause-begun
returns-in_err-outcome-in-Yes-clause-begun g c =
    let n = claims_of c.in_ok-claimed.claimed in
    if_err (λ fault. is_before_run fault ≡ false) _ (record {
      design = c.in_ok-design.design;
      defined = c.in_ok-design.ensures;
      claimed = c.in_ok-claimed.claimed;
      passes = c.in_ok-claimed.ensures.ok;
      disciplined = subst (λ v. IsVerdict c.in_ok-design.design n (verdict_view v)) c.in-Yes.is c.in_ok-verdict.ensures.exact;
      begun = c.in_err-outcome-in-Yes.ensures.begun;
    })

pub returns-in-Yes-clause-honest : goal.returns-in-Yes-clause-honest
returns-in-Yes-clause-honest g c =
    let d = c.in_ok-design.design in
    let n = claims_of c.in_ok-claimed.claimed in
    let ran = c.in_ok-outcome-in-Yes.ensures.ran in
    let independent = subst (Means d n) c.in-Yes.is c.in_ok-verdict.ensures.meaning in
    let names = c.names_of_one_line.ensures c.args.source.now c.args.top.now d c.in_ok-design.ensures in
    let shows = c.dumps_show_slot_ends.ensures Statement d ran.moves c.args.until names c.requires.until ran.statement ran.stops in
    record {
      design = d;
      defined = c.in_ok-design.ensures;
      claimed = c.in_ok-claimed.claimed;
      passes = c.in_ok-claimed.ensures.ok;
      disciplined = subst (λ v. IsVerdict d n (verdict_view v)) c.in-Yes.is c.in_ok-verdict.ensures.exact;
      independent = independent;
      ran = ran;
      shows = shows;
      every = stands_for c.lines_are_of_slots.ensures independent ran shows;
    }

pub returns-clause-fault : goal.returns-clause-fault
returns-clause-fault g c =
    let n = claims_of c.in_ok-claimed.claimed in
    record {
      design = c.in_ok-design.design;
      defined = c.in_ok-design.ensures;
      claimed = c.in_ok-claimed.claimed;
      passes = c.in_ok-claimed.ensures.ok;
      numbered = subst HasNumber c.in-No.is c.in_ok-verdict.ensures.numbered;
      broken = subst (λ v. IsVerdict c.in_ok-design.design n (verdict_view v)) c.in-No.is c.in_ok-verdict.ensures.exact;
    }
