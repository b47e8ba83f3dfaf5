use Rattle.std.proofs.Common.{◌≡◌, ℕ, ◌+◌, Bool, Some, List, [], ◌∷◌, ◌++◌, length, slice_get, sym, ◌∙◌, ap, subst}
use Rattle.std.specs.declared.vec.Vec.{Vec}
use Rattle.std.specs.declared.alloc.Global.{Global}
use Rattle.std.proofs.lemmas.List.{length-append}
use Rattle.vs_design.specs.vs_logic4.proofs.Basics.{each_more}
use Rattle.vs_rules_of_processes.specs.Classes.{AreReachedFrom}
use Rattle.vs_rules_of_processes.proofs.classes.all_marks.Goals as goal

pub loop-class-preserved : goal.loop-class-preserved
loop-class-preserved c =
    let f = c.args.slots.now in
    let old = c.loop-class.table.items in
    let one = c.in_ok-marks.marks in
    let e : c.push.new.self.items ≡ old ++ one ∷ [] = c.in_ok-push.ensures.items in
    let here : AreReachedFrom f.design f.claims (length old) one.items =
    subst (λ (n : ℕ). AreReachedFrom f.design f.claims n one.items) (sym c.loop-class.invariant.0) c.in_ok-marks.ensures in (
      ap length e ∙ length-append old (one ∷ []) ∙ ap (λ (n : ℕ). n + 1) c.loop-class.invariant.0,
      λ k marks is. each_more (λ n (z : Vec Bool Global). AreReachedFrom f.design f.claims n z.items) old one c.loop-class.invariant.1 here k marks
          (subst (λ (l : List (Vec Bool Global)). slice_get l k ≡ Some marks) e is),
    )
