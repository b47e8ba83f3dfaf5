use Rattle.std.proofs.Common.{ℕ, List, refl, sym, ◌∙◌, ap, subst}
use Rattle.std.specs.List.{Contains}
use Rattle.vs_claims.specs.vs_maps.specs.Reaches.{pause_view}
use Rattle.vs_cert_blocks.proofs.Gathered.{put_wakes}
use Rattle.vs_cert_blocks.proofs.walks.WakesFamily.put.Goals as goal

pub returns-in_ok-extend_from_slice-in-Event : goal.returns-in_ok-extend_from_slice-in-Event
returns-in_ok-extend_from_slice-in-Event c r =
    put_wakes c.args.self.now.tables.now c.args.i r c.args.out.now.items c.extend_from_slice.new.self.items c.tos.result.now
    c.in_ok-extend_from_slice-in-Event.ensures.items (
      λ h. record {
        number = _;
        terms = _;
        is_place = c.if-not-is_point.ensures.0 refl;
        pauses = sym c.pause.ensures ∙ ap pause_view c.in-Event.is;
        leads = subst (λ (l : List ℕ). Contains l r) c.tos.ensures.are h;
      },
      λ w. subst (λ (l : List ℕ). Contains l r) (sym c.tos.ensures.are) w.leads,
    )
