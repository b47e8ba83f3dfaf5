use Rattle.std.proofs.Common.{◌≡◌, [], ◌∷◌, ◌++◌, subst}
use Rattle.std.specs.Prelude.{MatchResult}
use Rattle.vs_scopes.specs.declared.faults.Reason.TheVariants.{DeclaredTwice}
use Rattle.vs_scopes.specs.Printed.{plainly}
use Rattle.vs_scopes.specs.scopes_passes.Answers.{IsReported, IsFaultAt}
use Rattle.vs_elab_signals.specs.nets_passes.Nets.{IsLate}
use Rattle.vs_elab_signals.proofs.LateLemmas.{told_is, here_timely, late_told, outward_same}
use Rattle.vs_elab_signals.proofs.late.check_name.Goals as goal

pub returns-in-Here : goal.returns-in-Here
returns-in-Here c ss s a t q =
    let n = c.args.name.now in
    let is = told_is s c.args.text.now c.args.told.now c.args.place n c.own_sight.result t c.own_sight.ensures in
    here_timely s c.args.place n c.own_sight.result is c.in-Here.is

pub returns-in-Late : goal.returns-in-Late
returns-in-Late c ss s a t q =
    let n = c.args.name.now in
    let is = told_is s c.args.text.now c.args.told.now c.args.place n c.own_sight.result t c.own_sight.ensures in
    late_told s c.args.place n c.own_sight.result is c.member_fault.result c.in-Late.is (subst (λ z. IsFaultAt DeclaredTwice (z ++ plainly n ∷ []) c.member_fault.result) q c.member_fault.ensures)

pub returns-in-Outward : goal.returns-in-Outward
returns-in-Outward c ss s a t q =
    let n = c.args.name.now in
    let is = told_is s c.args.text.now c.args.told.now c.args.place n c.own_sight.result t c.own_sight.ensures in
    subst (λ z. MatchResult c.check_outward.result (λ u. z ≡ []) (IsReported (IsLate z))) (outward_same s c.args.place n c.own_sight.result is c.in-Outward.is) (c.check_outward.ensures ss s a)
