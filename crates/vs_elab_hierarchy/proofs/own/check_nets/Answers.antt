use Rattle.std.proofs.Common.{[], Result, Ok, Err, map, ap, ◌∙◌, ◌≡◌}
use Rattle.std.specs.Prelude.{MatchResult}
use Rattle.vs_elab_signals.specs.vs_scopes.specs.Reads.{read_piece}
use Rattle.vs_scopes.specs.declared.faults.ElabFault.{ElabFault}
use Rattle.vs_scopes.specs.Scopes.{Scope, late_nets}
use Rattle.vs_scopes.specs.scopes_passes.Answers.{IsReported}
use Rattle.vs_elab_hierarchy.specs.vs_elab_signals.specs.nets_passes.Nets.{IsLate}
use Rattle.vs_elab_hierarchy.specs.scope_passes.Own.{HoldsOwn, HasTimelyNets}
use Rattle.vs_elab_hierarchy.proofs.SeatLemmas.{sight_front}
use Rattle.vs_elab_hierarchy.proofs.OwnLemmas.{nets_told}
use Rattle.vs_elab_hierarchy.proofs.own.check_nets.Goals as goal

timely : (s : Scope) (r : Result (Unit {0}) ElabFault) → MatchResult r (λ u. late_nets s ≡ []) (IsReported (IsLate (late_nets s))) → MatchResult r (λ u. HasTimelyNets s) (IsReported (HoldsOwn s))
timely s (Ok u) h = h
timely s (Err e) h = nets_told s e h

pub returns : goal.returns
returns c ss s a e q =
    let o = c.args.scope.now in
    let sight = sight_front ss s o.around o.piece e.number e.entered.around e.entered.sight in
    let pieces : map read_piece c.deref.result.now ≡ s.pieces = ap (map read_piece) c.deref.ensures.value ∙ e.entered.pieces in
    timely s c.check_late.result (c.check_late.ensures ss s (record { opened = a; sight = sight; kind = e.entered.kind }) (record { names = e.entered.text; places = e.entered.told }) q pieces)
