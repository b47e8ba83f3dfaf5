use Rattle.std.proofs.Common.{◌≡◌, ◌∙◌, ℕ, List, refl, ap, ap₂}
use Rattle.std.specs.Prelude.{Vec}
use Rattle.std.specs.declared.alloc.Global.{Global}
use Rattle.vs_design.specs.declared.expression.Typed.{Typed}
use Rattle.vs_design.specs.declared.statement.Statement.{Statement}
use Rattle.vs_design.specs.declared.statement.Statement.TheOpen.{Statement-F}
use Rattle.vs_design.specs.declared.statement.Statement.TheVariants as d
use Rattle.vs_strobe.specs.vs_eval.specs.Values.{value_of}
use Rattle.vs_process.specs.declared.halt.Halt.TheVariants as h
use Rattle.vs_process.specs.Extras.{starts_in}
use Rattle.vs_process.specs.Landings.{landing, start_taken, turned}
use Rattle.vs_process.proofs.Drafts.{none_ok, on_err}
use Rattle.vs_process.proofs.Follows.{IsPerformed, performed}
use Rattle.vs_process.proofs.cursor.perform.Goals as goal

pub returns-in-Null : goal.returns-in-Null
returns-in-Null c =
    let is : IsPerformed c.args.op.now c.args.s.now c.args.counters.now.items c.args.counters.now.items c.args.store.now c.args.store.now c.args.time h.Nothing c.args.op.now.behind =
    performed _ _ _ (Statement-F.Null c.in-Null.field-0) _ _ _ _ _ _ _ c.in-Null.is (d.rolls-Null _) refl (λ rest. (refl, refl))
    in
    record { lands = is.lands; ends = is.ends; counters_kept = tt; store_kept = tt }

pub returns-in_ok-assign-in-Assign : goal.returns-in_ok-assign-in-Assign
returns-in_ok-assign-in-Assign c =
    let is : IsPerformed c.args.op.now c.args.s.now c.args.counters.now.items c.args.counters.now.items c.args.store.now c.assign.new.store c.args.time h.Nothing c.args.op.now.behind =
    performed _ _ _ (Statement-F.Assign c.in-Assign.field-0 c.in-Assign.target c.in-Assign.e) _ _ _ _ _ _ _ c.in-Assign.is (d.rolls-Assign _ _ _) refl (λ rest. (refl, c.in_ok-assign-in-Assign.ensures.store))
    in
    record { lands = is.lands; ends = is.ends; counters_kept = tt; store_kept = tt }

pub returns-in-Later : goal.returns-in-Later
returns-in-Later c =
    let is : IsPerformed c.args.op.now c.args.s.now c.args.counters.now.items c.args.counters.now.items c.args.store.now c.args.store.now c.args.time h.Nothing c.args.op.now.behind =
    performed _ _ _ (Statement-F.Later c.in-Later.field-0 c.in-Later.field-1 c.in-Later.field-2 c.in-Later.field-3) _ _ _ _ _ _ _ c.in-Later.is (d.rolls-Later _ _ _ _) refl (λ rest. (refl, refl))
    in
    record { lands = is.lands; ends = is.ends; counters_kept = tt; store_kept = tt }

pub returns-in-Call : goal.returns-in-Call
returns-in-Call c =
    let is : IsPerformed c.args.op.now c.args.s.now c.args.counters.now.items c.args.counters.now.items c.args.store.now c.args.store.now c.args.time h.Nothing c.args.op.now.behind =
    performed _ _ _ (Statement-F.Call c.in-Call.field-0 c.in-Call.field-1) _ _ _ _ _ _ _ c.in-Call.is (d.rolls-Call _ _) refl (λ rest. (refl, refl))
    in
    record { lands = is.lands; ends = is.ends; counters_kept = tt; store_kept = tt }

pub returns-in-Finish : goal.returns-in-Finish
returns-in-Finish c =
    let is : IsPerformed c.args.op.now c.args.s.now c.args.counters.now.items c.args.counters.now.items c.args.store.now c.args.store.now c.args.time h.Nothing c.args.op.now.behind =
    performed _ _ _ (Statement-F.Finish c.in-Finish.field-0) _ _ _ _ _ _ _ c.in-Finish.is (d.rolls-Finish _) refl (λ rest. (refl, refl))
    in
    record { lands = is.lands; ends = is.ends; counters_kept = tt; store_kept = tt }

pub returns-in-Block : goal.returns-in-Block
returns-in-Block c =
    let is : IsPerformed c.args.op.now c.args.s.now c.args.counters.now.items c.args.counters.now.items c.args.store.now c.args.store.now c.args.time h.Nothing c.args.op.now.first =
    performed _ _ _ (Statement-F.Block c.in-Block.field-0) _ _ _ _ _ _ _ c.in-Block.is (d.rolls-Block _) refl (λ rest. (refl, refl))
    in
    record { lands = is.lands; ends = is.ends; counters_kept = tt; store_kept = tt }

pub returns-in-If : goal.returns-in-If
returns-in-If c =
    let is : IsPerformed c.args.op.now c.args.s.now c.args.counters.now.items c.args.counters.now.items c.args.store.now c.args.store.now c.args.time h.Nothing c.branch-place.result =
    performed _ _ _ (Statement-F.If c.in-If.field-0 c.in-If.e c.in-If.field-2 c.in-If.field-3) _ _ _ _ _ _ _ c.in-If.is (d.rolls-If _ _ _ _) (ap (λ (p : ℕ). landing p c.args.counters.now.items) c.branch-place.ensures) (λ rest. (refl, refl))
    in
    record { lands = is.lands; ends = is.ends; counters_kept = tt; store_kept = tt }

pub returns-in-Case : goal.returns-in-Case
returns-in-Case c =
    let lands : landing c.start_taken-place.result c.args.counters.now.items ≡ landing (start_taken c.in-Case.kind (value_of c.in-Case.e c.args.store.now c.args.time) c.args.store.now c.args.time c.in-Case.items.items (starts_in c.args.op.now) c.args.op.now.behind) c.args.counters.now.items =
    ap (λ (p : ℕ). landing p c.args.counters.now.items) (c.start_taken-place.ensures
    ∙ ap₂ (λ (items : List (Vec Typed Global × Statement)) (starts : List ℕ). start_taken c.in-Case.kind (value_of c.in-Case.e c.args.store.now c.args.time) c.args.store.now c.args.time items starts c.args.op.now.behind)
    c.deref-in-Case.ensures.value c.starts_of-starts.ensures)
    in
    let is : IsPerformed c.args.op.now c.args.s.now c.args.counters.now.items c.args.counters.now.items c.args.store.now c.args.store.now c.args.time h.Nothing c.start_taken-place.result =
    performed _ _ _ (Statement-F.Case c.in-Case.field-0 c.in-Case.kind c.in-Case.e c.in-Case.items) _ _ _ _ _ _ _ c.in-Case.is (d.rolls-Case _ _ _ _) (lands) (λ rest. (refl, refl))
    in
    record { lands = is.lands; ends = is.ends; counters_kept = tt; store_kept = tt }

pub returns-in-While : goal.returns-in-While
returns-in-While c =
    let is : IsPerformed c.args.op.now c.args.s.now c.args.counters.now.items c.args.counters.now.items c.args.store.now c.args.store.now c.args.time h.Nothing c.branch-place-in-While.result =
    performed _ _ _ (Statement-F.While c.in-While.field-0 c.in-While.e c.in-While.field-2) _ _ _ _ _ _ _ c.in-While.is (d.rolls-While _ _ _) (ap (λ (p : ℕ). landing p c.args.counters.now.items) c.branch-place-in-While.ensures) (λ rest. (refl, refl))
    in
    record { lands = is.lands; ends = is.ends; counters_kept = tt; store_kept = tt }

pub returns-in-Repeat : goal.returns-in-Repeat
returns-in-Repeat c =
    let is : IsPerformed c.args.op.now c.args.s.now c.args.counters.now.items c.turn-place.new.counters.items c.args.store.now c.args.store.now c.args.time h.Nothing c.turn-place.result =
    performed _ _ _ (Statement-F.Repeat c.in-Repeat.field-0 c.in-Repeat.signed c.in-Repeat.e c.in-Repeat.field-3) _ _ _ _ _ _ _ c.in-Repeat.is (d.rolls-Repeat _ _ _ _) (c.turn-place.ensures ∙ ap (λ (n : ℕ). turned n c.args.op.now c.args.counters.now.items) c.turns_for-left.ensures) (λ rest. (refl, refl))
    in
    record { lands = is.lands; ends = is.ends; counters_kept = tt; store_kept = tt }

pub returns-in-Forever : goal.returns-in-Forever
returns-in-Forever c =
    let is : IsPerformed c.args.op.now c.args.s.now c.args.counters.now.items c.args.counters.now.items c.args.store.now c.args.store.now c.args.time h.Nothing c.args.op.now.first =
    performed _ _ _ (Statement-F.Forever c.in-Forever.field-0 c.in-Forever.field-1) _ _ _ _ _ _ _ c.in-Forever.is (d.rolls-Forever _ _) refl (λ rest. (refl, refl))
    in
    record { lands = is.lands; ends = is.ends; counters_kept = tt; store_kept = tt }

pub returns-in_err-assign-in-Assign : goal.returns-in_err-assign-in-Assign
returns-in_err-assign-in-Assign c = record {
  lands = none_ok _ _ c.from_residual.result c.from_residual.ensures.1;
  ends = none_ok _ _ c.from_residual.result c.from_residual.ensures.1;
  counters_kept = on_err _ c.from_residual.result refl;
  store_kept = on_err _ c.from_residual.result c.in_err-assign-in-Assign.ensures.store_kept;
}
