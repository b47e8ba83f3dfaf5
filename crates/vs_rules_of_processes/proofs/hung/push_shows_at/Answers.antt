use Rattle.std.proofs.Common.{refl, ◌∙◌, arith}
use Rattle.std.proofs.lemmas.Bool.{false≢true}
use Rattle.vs_drivers.specs.vs_maps.specs.Ranges.{shows_at}
use Rattle.vs_drivers.specs.vs_maps.specs.Reaches.{IsPlace}
use Rattle.vs_drivers.specs.vs_maps.proofs.MarkLemmas.{put_more}
use Rattle.vs_rules_of_processes.proofs.HungLemmas.{put_no_shown}
use Rattle.vs_rules_of_processes.proofs.hung.push_shows_at.Goals as goal

pub returns-then-place-places : goal.returns-then-place-places
returns-then-place-places c =
    put_no_shown c.args.tables.now c.args.place c.args.out.now.items
    (λ is. let below = c.leads_in.ensures.points c.args.place is in omega (arith, below, c.if-place-places.true, c.places.ensures))

pub returns-then-not-is_point : goal.returns-then-not-is_point
returns-then-not-is_point c = put_no_shown c.args.tables.now c.args.place c.args.out.now.items (λ is. false≢true (c.if-not-is_point.ensures.1 is))

pub returns : goal.returns
returns c =
    put_more (IsPlace c.args.tables.now c.args.place) c.args.out.now.items c.deref.result.now c.extend_from_slice.new.self.items (shows_at c.args.tables.now c.args.place)
    (c.if-not-is_point.ensures.0 refl) c.in_ok-extend_from_slice.ensures.items (c.deref.ensures.value ∙ c.in_ok-ranges.ensures)
