use Rattle.std.proofs.Common.{◌≡◌, ◌≤◌, ◌+◌, ◌∷◌, Bool, List, None, drop, length, if◌then◌else◌, pos, sym, ap, ◌∙◌, subst, rules, ℕ}
use Rattle.vs_design.specs.vs_logic4.specs.Parts.{selected}
use Rattle.vs_design.specs.vs_logic4.proofs.Basics.{front_of}
use Rattle.vs_design.specs.declared.statement.Aim.{Aim}
use Rattle.vs_design.specs.WellFormed.{aim_width}
use Rattle.vs_eval.proofs.Places.{after_most}
use Rattle.vs_rules.specs.Constants.{any_aims, place_gives, places_give}
use Rattle.vs_slots_constants.specs.Givings.{bit_view}
use Rattle.vs_slots_constants.proofs.ConstantLemmas.{give_after}
use Rattle.vs_slots_constants.proofs.constants.places_give.Goals as goal

pub loop-i-preserved : goal.loop-i-preserved
loop-i-preserved c =
    let aims = c.args.aims.now in
    let i = c.loop-i.i in
    let a = c.index-aims-i.result in
    let p = c.loop-i.from in
    let w = c.width_of-width.result in
    let ds = c.args.digits in
    let b = bit_view c.args.bit in
    let rest = drop (i + 1) aims in
    let short : length ds ≤ 64 = search rules in
    let here = front_of aims i a c.loop-i-test.true c.index-aims-i.is in
    let other : places_give p (a ∷ rest) ds b ≡ places_give (p + aim_width a) rest ds b =
    ap (λ (t : Bool). if t then (if any_aims b.signal rest then None else place_gives a (selected (pos p) (aim_width a) ds) b) else places_give (p + aim_width a) rest ds b) (sym c.if-names.ensures) in
    record {
      within = subst (λ n. n ≤ 64) (sym c.after-from.ensures) (after_most p w);
      same =
          ap (λ (n : ℕ). places_give n rest ds b) c.after-from.ensures
          ∙ sym (give_after p w rest ds b short)
          ∙ ap (λ (n : ℕ). places_give (p + n) rest ds b) c.width_of-width.ensures.is
          ∙ sym other
          ∙ ap (λ (l : List Aim). places_give p l ds b) (sym here)
          ∙ c.loop-i.invariant.same;
    }
