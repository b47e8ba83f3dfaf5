-- The tables of a process are exact.
use Rattle.std.proofs.Common.{◌≡◌, ℕ, ◌↔◌, false, Some, List, [], ◌∷◌, slice_get, sym, subst}
use Rattle.std.specs.List.{Contains}
use Rattle.vs_design.specs.declared.design.Process.{Process}
use Rattle.vs_design.specs.Parts.{Parts}
use Rattle.vs_process.specs.Places.{Todo, flat}
use Rattle.vs_process.specs.Steps.{Next}
use Rattle.vs_process.specs.Numbers.{number_next}
use Rattle.vs_process.specs.Ways.{Pause, next_by}
use Rattle.vs_process.specs.Maps.{IsMap}
use Rattle.vs_process.specs.Stops.{Stop, stops_tos, stops_next, IsText}
use Rattle.vs_rules.specs.Points.{first_todo}
use Rattle.vs_graph.specs.Reached.{Reached}
use Rattle.vs_rules.specs.Claims.{is_wide, kind_of}
use Rattle.vs_rules.specs.Paths.{WritesNow, is_plain}
use Rattle.vs_rules.specs.Slots.{Ends}
use Rattle.vs_maps.specs.declared.along.Along.{Along}
use Rattle.vs_maps.specs.declared.along.Along.TheVariants.{Any, Plain, ZeroTime}
use Rattle.vs_maps.specs.Laws.{IsBegun}
use Rattle.vs_maps.specs.Reaches.{IsPlace, is_turned, passes, stops_along}
use Rattle.vs_maps.specs.Exact.{AreBegun, TextsAreExact}
use Rattle.vs_maps.proofs.Join.{same_place, path_from_exact, tos_along}
use Rattle.vs_rules.proofs.Texts.{begins_with}
use Rattle.vs_maps.proofs.Texts.{PathAlong, reached_same, pause_here, along_is, alike, ok_of, place_of, place_back, from_on, from_back}
use Rattle.vs_maps.proofs.EachWalk.{PathFromAlong}

-- once a way of some sort has been gone
from_sort : (d : Parts) (i : ℕ) (q : Process) (stops : List Stop) (start : ℕ) (is : slice_get d.processes i ≡ Some q) (t : IsText q.body stops start) (along : Along)
    (sort : Todo → Next → Type 0) (seeds : List ℕ) → AreBegun (record { stops = stops; start = start }) t.at sort seeds → (p n : ℕ) →
    number_next (t.at p) ≡ Some n → (Reached (stops_along along stops) seeds p ↔ PathFromAlong along d i sort (t.at p))
from_sort d i q stops start is t along sort seeds all p n numbered = (there, back) where
  begun : (s : ℕ) → (Contains seeds s ↔ IsBegun t.at start (stops_next stops) (stops_tos stops) sort s)
  begun s = (
    λ h. let b = (all s).0 h in record {
      point = b.point;
      reached = b.is_place;
      leads = b.leads;
      starts = subst (λ (x : Pause). sort (t.at b.point) (next_by x (t.at s))) (sym (pause_here q.body stops start t b.point)) b.starts;
    },
    λ b. (all s).1 (record {
      point = b.point;
      is_place = b.reached;
      leads = b.leads;
      starts = subst (λ (x : Pause). sort (t.at b.point) (next_by x (t.at s))) (pause_here q.body stops start t b.point) b.starts;
    }),
  )

  map_is : IsMap (first_todo d i) t.at start (stops_next stops) (stops_tos stops)
  map_is = subst (λ (f : Todo). IsMap f t.at start (stops_next stops) (stops_tos stops)) (sym (begins_with d i q is)) t.is_map

  both : Reached (tos_along (is_turned along) (passes along) t.at (stops_tos stops)) seeds p ↔ PathFromAlong along d i sort (t.at p)
  both = path_from_exact d i t.at start (stops_next stops) (stops_tos stops) (is_turned along) (ok_of along) (passes along) sort seeds map_is (alike along) begun p n numbered

  there : Reached (stops_along along stops) seeds p → PathFromAlong along d i sort (t.at p)
  there h = both.0 (reached_same (stops_along along stops) (tos_along (is_turned along) (passes along) t.at (stops_tos stops)) seeds (along_is q.body stops start t along) p h)

  back : PathFromAlong along d i sort (t.at p) → Reached (stops_along along stops) seeds p
  back h = reached_same (tos_along (is_turned along) (passes along) t.at (stops_tos stops)) (stops_along along stops) seeds (λ a. sym (along_is q.body stops start t along a)) p (both.1 h)

-- from the start
from_is : (d : Parts) (i : ℕ) (q : Process) (stops : List Stop) (start : ℕ) (is : slice_get d.processes i ≡ Some q) (t : IsText q.body stops start) (along : Along) (p n : ℕ) →
    number_next (t.at p) ≡ Some n → (Reached (stops_along along stops) (start ∷ []) p ↔ PathAlong along (first_todo d i) (t.at p))
from_is d i q stops start is t along p n numbered = (
  from_back d i q stops start t is along p,
  λ h. same_place (flat q.body) t.at start (stops_next stops) (stops_tos stops) t.is_map (Reached (stops_along along stops) (start ∷ [])) p n numbered (from_on d i q stops start t is along (t.at p) h),
)

pub texts_are_exact : TextsAreExact
texts_are_exact d i q stops start is t = record {
  point = λ p n numbered. (
    place_back d i q stops start t is p,
    λ h. same_place (flat q.body) t.at start (stops_next stops) (stops_tos stops) t.is_map (IsPlace (record { stops = stops; start = start })) p n numbered (place_of d i q stops start t is (t.at p) h),
  );
  slot0 = λ wide. from_is d i q stops start is t (ZeroTime wide);
  prologue = λ wide. from_is d i q stops start is t (Plain wide);
  late = from_sort d i q stops start is t Any (λ k next. is_plain next ≡ false);
  hot = λ wide v. from_sort d i q stops start is t (ZeroTime wide) (λ k next. WritesNow d k v);
  slots = λ c r. from_sort d i q stops start is t (Plain (is_wide c)) (λ k next. Ends d c i (kind_of d c i) next r);
}
