use Rattle.std.proofs.Common.{◌++◌, List, map, sym, ap, ◌∙◌, append-nil}
use Rattle.std.proofs.lemmas.List.{drop_all}
use Rattle.vs_design.specs.Uses.{joined}
use Rattle.vs_process.specs.Texts.{Control, Text}
use Rattle.std.specs.Prelude.{Option}
use Rattle.vs_run_active.specs.declared.watchers.ProcessTerm.{ProcessTerm}
use Rattle.vs_run_active.specs.Terms.{control_terms, terms_from, text_terms}
use Rattle.vs_run_active.proofs.TermsLemmas.{text_next}
use Rattle.vs_run_active.proofs.terms.terms_of.Goals as goal

pub loop-process-init : goal.loop-process-init
loop-process-init c = ap (λ (l : List ProcessTerm). l ++ terms_from 0 c.args.scripts.now) c.new-terms.ensures.items

pub loop-process-preserved : goal.loop-process-preserved
loop-process-preserved c =
    text_next c.args.scripts.now c.loop-process.process c.index-scripts-process.result c.loop-process.terms.items c.add_controls.new.all.items _ c.loop-process-test.true c.loop-process.invariant
    (c.in_ok-add_controls.ensures
    ∙ ap (λ (ks : List (Option Control)). c.loop-process.terms.items ++ joined (map (control_terms c.loop-process.process) ks)) c.instructions-instructions.ensures.controls
    ∙ ap (λ (x : Text). c.loop-process.terms.items ++ text_terms c.loop-process.process x) c.index-scripts-process.is)

pub returns : goal.returns
returns c =
    sym (ap (λ (l : List Text). c.loop-process.terms.items ++ terms_from c.loop-process.process l) (drop_all c.loop-process.process c.args.scripts.now c.loop-process-test.false)
    ∙ append-nil c.loop-process.terms.items)
    ∙ c.loop-process.invariant
