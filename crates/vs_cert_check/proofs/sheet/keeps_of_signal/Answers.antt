use Rattle.std.proofs.Common.{◌<◌, length, sym, ◌∙◌, ap, subst}
use Rattle.vs_rules_of_signals.specs.vs_claims.specs.Facts.{Case}
use Rattle.vs_rules_of_starts.specs.vs_rules.specs.Verdict as verdict
use Rattle.vs_cert_check.proofs.Asked.{asked, told}
use Rattle.vs_cert_check.proofs.sheet.keeps_of_signal.Goals as goal

pub keeps_writers-requires : goal.keeps_writers-requires
keeps_writers-requires c = record { within = subst (λ (k : Case). c.args.v < length k.design.signals) (sym c.sheet.view_is) c.requires.within }

pub keeps_mode-requires : goal.keeps_mode-requires
keeps_mode-requires c = record { within = subst (λ (k : Case). c.args.v < length k.design.signals) (sym c.sheet.view_is) c.requires.within }

pub keeps_root-requires : goal.keeps_root-requires
keeps_root-requires c = c.sheet.invariant.copies_are ∙ sym (ap (λ (k : Case). k.design) c.sheet.invariant.entries_are)

pub returns-in-0 : goal.returns-in-0
returns-in-0 c = told 0 (verdict.signal c.args.v) c.keeps_signal_name.result c.sheet.view_is c.in-0.is c.keeps_signal_name.ensures

pub returns-in-1 : goal.returns-in-1
returns-in-1 c = told 1 (verdict.signal c.args.v) c.keeps_writers.result c.sheet.view_is c.in-1.is c.keeps_writers.ensures

pub returns-in-2 : goal.returns-in-2
returns-in-2 c = told 2 (verdict.signal c.args.v) c.keeps_mode.result c.sheet.view_is c.in-2.is c.keeps_mode.ensures

pub returns-in-5 : goal.returns-in-5
returns-in-5 c =
    asked 5 (verdict.signal c.args.v) c.keeps_root.result (c.sheet.invariant.entries_are ∙ c.sheet.view_is) c.in-5.is c.keeps_root.ensures

pub returns-in-9 : goal.returns-in-9
returns-in-9 c =
    asked 9 (verdict.signal c.args.v) c.keeps_first_root.result (c.sheet.invariant.first_writes_are ∙ c.sheet.view_is) c.in-9.is c.keeps_first_root.ensures
