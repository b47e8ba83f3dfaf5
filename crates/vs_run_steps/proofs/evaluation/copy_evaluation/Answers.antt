use Rattle.std.proofs.Common.{◌≡◌, ℕ, Some, length, slice_get, subst}
use Rattle.vs_design.specs.declared.design.Assign.{Assign}
use Rattle.vs_design.specs.InOrder.{numbered_word}
use Rattle.vs_run_steps.specs.Forms.{IsCopy, IsForm}
use Rattle.vs_run_steps.proofs.FormsLemmas.{copy_evaluated, copy_value}
use Rattle.vs_run_steps.proofs.evaluation.copy_evaluation.Goals as goal
use Rattle.vs_run_steps.proofs.RunsLemmas.{planes_fit as planes_of_word}

pub change_of_copy-change-requires-clause-sized : goal.change_of_copy-change-requires-clause-sized
change_of_copy-change-requires-clause-sized g c =
    let a : Assign = c.requires.there.0 in
    copy_value c.args.forms.now.signals a c.in-Copy.spot c.in-Copy.from c.args.run.now.watched.store c.args.run.now.regions.time
    (subst (IsForm c.args.forms.now.signals a) c.in-Copy.is (c.in_ok-form.ensures a c.requires.there.1)) c.requires.store

pub returns-in-Copy : goal.returns-in-Copy
returns-in-Copy g c =
    let store = c.args.run.now.watched.store in
    let time : ℕ = c.args.run.now.regions.time in
    let spot = c.in-Copy.spot in
    let form : (a : Assign) → slice_get c.args.forms.now.assigns c.args.assign ≡ Some a → IsCopy c.args.forms.now.signals a spot c.in-Copy.from =
    λ a at. subst (IsForm c.args.forms.now.signals a) c.in-Copy.is (c.in_ok-form.ensures a at)
    in
    let long : length (numbered_word store c.in-Copy.from) ≡ spot.width =
    copy_value c.args.forms.now.signals c.requires.there.0 spot c.in-Copy.from store time (form c.requires.there.0 c.requires.there.1) c.requires.store
    in
    let change = c.change_of_copy-change.result in
    record {
      planes =
          planes_of_word spot.width change.new_value change.new_unknown (numbered_word store c.in-Copy.from) spot.sized.0 spot.sized.1 long c.change_of_copy-change.ensures.new_value
          c.change_of_copy-change.ensures.new_unknown;
      evaluation = copy_evaluated c.args.forms.now c.args.assign store time spot c.in-Copy.from change form c.requires.store long c.change_of_copy-change.ensures;
      place = λ a at. (form a at).place;
    }
