use Rattle.std.proofs.Common.{rules, ◌≡◌, ◌≤◌, ◌+◌, ◌++◌, ◌∷◌, ◌∙◌, ap, sym, length, drop, pos, to_z, w64, subst, List}
use Rattle.std.proofs.lemmas.List.{drop_more}
use Rattle.vs_design.specs.vs_logic4.specs.declared.digit.Digit.{Digit}
use Rattle.vs_design.specs.vs_logic4.specs.Parts.{selected}
use Rattle.vs_design.specs.declared.statement.Aim.{Aim}
use Rattle.vs_eval.specs.Targets.{parts_from, part_at}
use Rattle.vs_eval.proofs.Places.{parts_pushed, after_most}
use Rattle.vs_eval.proofs.targets.write_of.Goals as goal

pub loop-aim-preserved : goal.loop-aim-preserved
loop-aim-preserved c =
    let aims = c.deref-aim-items.result.now in
    let i = c.loop-aim.aim-index in
    let a = c.aim-item.result in
    let p = c.loop-aim.place in
    let w = c.aim_width-width.result in
    let ds = c.args.digits in
    let store = c.args.store.now in
    let short : length ds ≤ 64 = search rules in
    let place_is : to_z w64 p ≡ pos p = search rules in
    let part : c.part_at.result ≡ part_at a (selected (pos p) w ds) store c.args.time =
    c.part_at.ensures ∙ ap (λ (part : List Digit). part_at a part store c.args.time) (c.select.ensures ∙ ap (λ z. selected z w ds) place_is) in
    let here : drop i aims ≡ a ∷ drop (i + 1) aims = drop_more aims i a c.loop-aim-test.true ∙ ap (λ (x : Aim). x ∷ drop (i + 1) aims) (sym c.aim-item.is) in
    record {
      within = subst (λ n. n ≤ 64) (sym c.after-place.ensures) (after_most p w);
      parts =
          parts_pushed c.loop-aim.write c.push.new.self c.part_at.result p c.after-place.result w a (drop (i + 1) aims) ds store c.args.time
          c.in_ok-push.ensures c.aim_width-width.ensures.is part c.after-place.ensures short
          ∙ ap (λ rest. c.loop-aim.write ++ parts_from p rest ds store c.args.time) (sym here)
          ∙ c.loop-aim.invariant.parts;
    }
