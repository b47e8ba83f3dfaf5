use Rattle.std.proofs.Common.{List, is_some, slice_set, vec_len, refl, sym, ◌∙◌, ap, ap₂, arith}
use Rattle.std.proofs.lemmas.Option.{slice_get_read}
use Rattle.vs_run_active.proofs.ListCountLemmas.{counted, fits, recounted}
use Rattle.vs_run_active.specs.declared.process.Process.{Process}
use Rattle.vs_run_active.specs.ProcessPlaces.{is_active}
use Rattle.vs_run_active.proofs.LeftLemmas.{put_missing}
use Rattle.vs_run_active.proofs.processes.Processes.put.Goals as goal

pub returns-in_default : goal.returns-in_default
returns-in_default c =
    put_missing c.self.inside.items.items _ (vec_len c.self.inside.items) c.args.number c.args.process _ c.self.view_is c.self.inside.items.ok.0 c.get_mut.ensures.variant.1 (ap is_some c.in_default.is)

pub recount-self-inside-requires-clause-some : goal.recount-self-inside-requires-clause-some
recount-self-inside-requires-clause-some c =
    counted is_active c.self.inside.items.items c.self.inside.going c.self.invariant c.args.number c.in-Some.x.now c.is_active-was.result
    (slice_get_read c.self.inside.items.items (vec_len c.self.inside.items) c.args.number c.in-Some.x.now c.self.inside.items.ok.0 (c.in-Some.ensures.variant.0 refl) c.in-Some.ensures.value) (c.is_active-was.ensures ∙ ap is_active c.process.ensures)

pub recount-self-inside-requires-clause-room : goal.recount-self-inside-requires-clause-room
recount-self-inside-requires-clause-room c = fits is_active c.self.inside.items.items c.self.inside.going c.self.invariant (omega (arith, c.self.inside.items.ok))

pub invariant_of-self-2 : goal.invariant_of-self-2
invariant_of-self-2 c =
    recounted is_active c.self.inside.items.items c.self.inside.going c.self.invariant c.recount-self-inside.result c.args.number c.in-Some.x.now c.set.new.self c.is_active-was.result c.is_active-active.result
    (slice_get_read c.self.inside.items.items (vec_len c.self.inside.items) c.args.number c.in-Some.x.now c.self.inside.items.ok.0 (c.in-Some.ensures.variant.0 refl) c.in-Some.ensures.value) (c.is_active-was.ensures ∙ ap is_active c.process.ensures) (c.is_active-active.ensures ∙ ap is_active (sym c.set.ensures)) c.recount-self-inside.ensures

pub returns : goal.returns
returns c = ap₂ (λ (xs : List Process) (y : Process). slice_set xs c.args.number y) c.self.view_is c.set.ensures
