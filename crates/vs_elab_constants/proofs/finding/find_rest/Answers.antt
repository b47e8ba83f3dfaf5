use Rattle.std.proofs.Common.{◌++◌, ◌∙◌, Some, length, map, ap, subst, arith}
use Rattle.std.proofs.lemmas.List.{length-map, length-set}
use Rattle.std.proofs.lemmas.Result.{err_from_is_err_and}
use Rattle.vs_widths.specs.Names.{meaning_of, nested_names}
use Rattle.vs_scopes.specs.scopes_passes.Parts.{read_given}
use Rattle.vs_elab_constants.specs.passes.Finding.{IsRoundOutcome, IsNext}
use Rattle.vs_elab_constants.proofs.FindingLemmas.{count_less, found_then}
use Rattle.vs_elab_constants.proofs.FoundLemmas.{stuck_refused}
use Rattle.vs_elab_constants.proofs.SearchLemmas.{refused_outside}
use Rattle.vs_elab_constants.proofs.finding.find_rest.Goals as goal

pub loop-reason-init : goal.loop-reason-init
loop-reason-init c = record { all = c.requires.all; found = λ env h. h }

pub returns-in_err-next_value-clause-fault : goal.returns-in_err-next_value-clause-fault
returns-in_err-next_value-clause-fault c =
    let p = err_from_is_err_and c.from_residual.result c.from_residual.ensures.1 in
    rw (p.1, p.2) (λ env h. refused_outside _ _ c.in_err-next_value.field-0.0 c.in_err-next_value.ensures.fault)

pub returns-in-Nothing-clause-all : goal.returns-in-Nothing-clause-all
returns-in-Nothing-clause-all c =
    let around = meaning_of c.args.around.now in
    let env = meaning_of (c.loop-reason.known ++ nested_names c.args.outer.now) in
    (c.loop-reason.invariant.all, subst (IsRoundOutcome around env (map read_given c.args.list.now) c.loop-reason.values.items) c.in-Nothing.is (rw c.deref.ensures.value at c.in_ok-next_value.ensures.ok))

pub returns-in-Nothing-clause-found : goal.returns-in-Nothing-clause-found
returns-in-Nothing-clause-found c = c.loop-reason.invariant.found

pub keep-requires : goal.keep-requires
keep-requires c =
    let around = meaning_of c.args.around.now in
    let env = meaning_of (c.loop-reason.known ++ nested_names c.args.outer.now) in
    let gs = map read_given c.args.list.now in
    let vs = c.loop-reason.values.items in
    let next : IsNext around env gs vs c.in-Value.number c.in-Value.constant = subst (IsRoundOutcome around env gs vs) c.in-Value.is (rw c.deref.ensures.value at c.in_ok-next_value.ensures.ok) in
    record { within = omega (arith, next.within, length-map c.args.list.now read_given); all = c.loop-reason.invariant.all; numbers = c.requires.numbers }

pub returns-in-Stuck-clause-fault : goal.returns-in-Stuck-clause-fault
returns-in-Stuck-clause-fault c env h =
    let around = meaning_of c.args.around.now in
    let outward = nested_names c.args.outer.now in
    let gs = map read_given c.args.list.now in
    let vs = c.loop-reason.values.items in
    let known = c.loop-reason.known in
    stuck_refused around env outward gs vs known (omega (arith, c.loop-reason.invariant.all, length-map c.args.list.now read_given)) (c.loop-reason.invariant.found env h) c.in-Stuck.reason
    (subst (IsRoundOutcome around (meaning_of (known ++ outward)) gs vs) c.in-Stuck.is (rw c.deref.ensures.value at c.in_ok-next_value.ensures.ok))

pub loop-reason-smaller : goal.loop-reason-smaller
loop-reason-smaller c =
    let around = meaning_of c.args.around.now in
    let env = meaning_of (c.loop-reason.known ++ nested_names c.args.outer.now) in
    let gs = map read_given c.args.list.now in
    let vs = c.loop-reason.values.items in
    let next : IsNext around env gs vs c.in-Value.number c.in-Value.constant = subst (IsRoundOutcome around env gs vs) c.in-Value.is (rw c.deref.ensures.value at c.in_ok-next_value.ensures.ok) in
    count_less vs c.keep.new.values.items c.in-Value.number c.in-Value.constant next.new c.in_ok-keep-in-Value.ensures.values

pub loop-reason-preserved : goal.loop-reason-preserved
loop-reason-preserved c =
    let around = meaning_of c.args.around.now in
    let outward = nested_names c.args.outer.now in
    let here = meaning_of (c.loop-reason.known ++ outward) in
    let gs = map read_given c.args.list.now in
    let vs = c.loop-reason.values.items in
    let ws = c.keep.new.values.items in
    let next : IsNext around here gs vs c.in-Value.number c.in-Value.constant = subst (IsRoundOutcome around here gs vs) c.in-Value.is (rw c.deref.ensures.value at c.in_ok-next_value.ensures.ok) in
    let made = c.in_ok-keep-in-Value.ensures in
    record {
      all = ap length made.values ∙ length-set vs c.in-Value.number (Some c.in-Value.constant) ∙ c.loop-reason.invariant.all;
      found = λ env h.
          let before = c.loop-reason.invariant.found env h in
          found_then around env outward gs vs ws c.loop-reason.known c.keep.new.known c.in-Value.number c.in-Value.constant next made.values (made.named outward env before.named) before;
    }
