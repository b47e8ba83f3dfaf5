use Rattle.std.proofs.Common.{◌≡◌, ◌+◌, List, ◌∷◌, drop, length, refl, sym, ap, ◌∙◌, arith}
use Rattle.std.proofs.lemmas.List.{drop_all}
use Rattle.vs_process.specs.declared.changes.Change.{Change}
use Rattle.vs_run_active.proofs.ChangesLemmas.{next_change, is_among}
use Rattle.vs_run_active.proofs.MarkingLemmas.{marked_more}
use Rattle.vs_run_steps.proofs.marks.mark_signals.Goals as goal

pub loop-change-preserved : goal.loop-change-preserved
loop-change-preserved c =
    let change : Change = c.change-item.result in
    let changes : List Change = c.args.changes.now.items in
    let rest : List Change = drop (c.loop-change.change-index + 1) changes in
    let next : drop c.loop-change.change-index changes ≡ change ∷ drop (c.loop-change.change-index + 1) changes =
    next_change changes c.deref-change-items.result.now c.loop-change.change-index change c.deref-change-items.ensures.value c.loop-change-test.true c.change-item.is
    in
    record {
      len = omega (arith, c.mark.ensures.len, c.loop-change.invariant.len);
      marked =
          marked_more c.args.marks.now.items c.loop-change.marks.items c.mark.new.marks.items change (drop c.loop-change.change-index changes) rest changes next c.loop-change.invariant.len
          c.loop-change.invariant.marked c.mark.ensures.set c.mark.ensures.others;
    }

pub loop-change-init : goal.loop-change-init
loop-change-init c = record { len = refl; marked = λ v off. (off, λ within. refl) }

pub returns : goal.returns
returns c =
    let changes = c.args.changes.now.items in
    let none = drop_all c.loop-change.change-index changes (omega (arith, c.loop-change-test.false, ap length c.deref-change-items.ensures.value)) in record {
      marked = record {
        len = c.loop-change.invariant.len;
        marked = λ v off.
            let m = c.loop-change.invariant.marked v off in
            (m.0, λ within. sym (m.1 within) ∙ ap (λ (l : List Change). is_among l v) none);
      };
    }
