use Rattle.std.proofs.Common.{[], ◌∷◌, ◌++◌, refl, ap, subst, ◌∙◌, arith}
use Rattle.vs_scopes.specs.declared.faults.Reason.TheVariants.{DeclaredTwice, Limit}
use Rattle.vs_scopes.specs.Printed.{plainly}
use Rattle.vs_scopes.specs.Declarations.{DeclaredName, selectable}
use Rattle.vs_scopes.specs.scopes_passes.Answers.{IsFaultAt}
use Rattle.vs_scopes.proofs.SizeLemmas.{meaning_is}
use Rattle.vs_elab_signals.proofs.DeclareLemmas.{declared_twice, declared_over, keeps_push}
use Rattle.vs_elab_signals.proofs.declarations.add_signal.Goals as goal

pub returns-then-not-branch : goal.returns-then-not-branch
returns-then-not-branch c s z w p m q start done h =
    let d : DeclaredName = record { kind = c.args.kind; size = z; words = w; name = c.args.name.now } in
    let e = c.member_fault.result in
    declared_twice s c.args.names.now c.args.plan.now start done d e (subst (λ y. IsFaultAt DeclaredTwice (y ++ plainly c.args.name.now ∷ []) e) p c.member_fault.ensures) (rw c.if-not-branch.true at c.in_ok-declare_once.ensures) h

pub returns-then-number-ge-SIGNAL_LIMIT : goal.returns-then-number-ge-SIGNAL_LIMIT
returns-then-number-ge-SIGNAL_LIMIT c s z w p m q start done h =
    let d : DeclaredName = record { kind = c.args.kind; size = z; words = w; name = c.args.name.now } in
    let e = c.fault_at.result in
    declared_over s c.args.names.now c.args.plan.now start done d e (omega (arith, c.len-number.ensures, c.args.plan.now.signals.ok.0, c.if-number-ge-SIGNAL_LIMIT.true)) (subst (λ y. IsFaultAt Limit y e) p c.fault_at.ensures) h

pub returns : goal.returns
returns c s z w p m q start done h =
    let d : DeclaredName = record { kind = c.args.kind; size = z; words = w; name = c.args.name.now } in
    let bits = c.selectable_range.ensures ∙ ap (selectable c.args.kind) m.bounds in
    keeps_push s c.args.names.now _ c.args.plan.now _ start done d _ _ c.in_ok-signal.signal (rw c.if-not-branch.false at c.in_ok-declare_once.ensures) (meaning_is c.args.kind _ _ _ _ _ _ _ _ _ _ m.shape bits q.bounds q.count)
    (omega (arith, c.len-number.ensures, c.args.plan.now.signals.ok.0)) (omega (arith, c.len-number.ensures, c.args.plan.now.signals.ok.0, c.if-number-ge-SIGNAL_LIMIT.false)) c.in_ok-push.ensures.items (c.in_ok-signal.ensures s z w p m q) c.in_ok-push-2.ensures.items (record { instances = refl; turns = refl }) h
