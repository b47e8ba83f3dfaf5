use Rattle.std.proofs.Common.{is_some, vec_len, refl, ap, arith}
use Rattle.std.proofs.lemmas.Option.{slice_get_read}
use Rattle.vs_run_active.specs.Touches.{is_left}
use Rattle.vs_run_active.specs.Left.{valued}
use Rattle.vs_run_active.proofs.ChangedLemmas.{changed_missing, changed_read}
use Rattle.vs_run_active.proofs.ListCountLemmas.{counted, fits, recounted}
use Rattle.vs_run_active.proofs.assigns.Assigns.leave.Goals as goal

pub returns-in_default : goal.returns-in_default
returns-in_default c = changed_missing (valued c.args.value) c.self.inside.items.items _ (vec_len c.self.inside.items) c.args.assign _ c.self.view_is c.self.inside.items.ok.0 c.get_mut.ensures.variant.1 (ap is_some c.in_default.is)

pub recount-self-inside-requires-clause-some : goal.recount-self-inside-requires-clause-some
recount-self-inside-requires-clause-some c =
    counted is_left c.self.inside.items.items c.self.inside.left c.self.invariant c.args.assign c.in-Some.x.now c.is_left-was.result
    (slice_get_read c.self.inside.items.items (vec_len c.self.inside.items) c.args.assign c.in-Some.x.now c.self.inside.items.ok.0 (c.in-Some.ensures.variant.0 refl) c.in-Some.ensures.value) c.is_left-was.ensures

pub recount-self-inside-requires-clause-room : goal.recount-self-inside-requires-clause-room
recount-self-inside-requires-clause-room c = fits is_left c.self.inside.items.items c.self.inside.left c.self.invariant (omega (arith, c.self.inside.items.ok))

pub invariant_of-self-2 : goal.invariant_of-self-2
invariant_of-self-2 c =
    recounted is_left c.self.inside.items.items c.self.inside.left c.self.invariant c.recount-self-inside.result c.args.assign c.in-Some.x.now c.leave.new.self c.is_left-was.result c.is_left.result
    (slice_get_read c.self.inside.items.items (vec_len c.self.inside.items) c.args.assign c.in-Some.x.now c.self.inside.items.ok.0 (c.in-Some.ensures.variant.0 refl) c.in-Some.ensures.value) c.is_left-was.ensures c.is_left.ensures c.recount-self-inside.ensures

pub returns : goal.returns
returns c = changed_read (valued c.args.value) c.self.inside.items.items _ (vec_len c.self.inside.items) c.args.assign c.in-Some.x.now c.leave.new.self c.self.view_is c.self.inside.items.ok.0 (c.in-Some.ensures.variant.0 refl) c.in-Some.ensures.value c.leave.ensures
