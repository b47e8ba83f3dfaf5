-- Processes past the end have nothing to do.
use Rattle.std.proofs.Common.{◌≡◌, ℕ, ◌≤◌, Bool, [], ◌∷◌, length, map, refl, sym, ◌∙◌, ap, subst, arith}
use Rattle.std.proofs.lemmas.List.{get_or_past, length-map}
use Rattle.vs_design.specs.declared.design.Process.{Process}
use Rattle.vs_design.specs.Parts.{Parts}
use Rattle.vs_process.specs.Landings.{todo_after}
use Rattle.vs_process.specs.Places.{Todo, ended, start_place, todo_of}
use Rattle.vs_process.specs.Steps.{Next, on, after, wait}
use Rattle.vs_rules.specs.Points.{Among, Goes, Point, first_todo, nexts_by}
use Rattle.vs_rules.specs.Points as r
use Rattle.vs_rules.specs.Paths.{Path, PathBy, IsPoint}
use Rattle.vs_rules.proofs.Points.{by_path}
use Rattle.vs_rules.specs.Paths as x

first_past : (d : Parts) (i : ℕ) → length d.processes ≤ i → first_todo d i ≡ []
first_past d i past =
    ap todo_of (get_or_past (map (λ (p : Process). start_place p.body) d.processes) i ended (omega (arith, past, length-map d.processes (λ (p : Process). start_place p.body))))

one_next : (next other : Next) → Among next (other ∷ []) → next ≡ other
one_next _ other (Among.first _) = refl
one_next next other (Among.further _ _ h) = elim h [ ]

-- from the end it goes no further
pub end_next : (k : Todo) (next : Next) → k ≡ [] → Goes k next → next ≡ on []
end_next k next e h = one_next next (on []) (subst (λ (l : Todo). Goes l next) e h)

end_points : (first : Todo) → first ≡ [] → (k : Todo) → Point first k → k ≡ []
end_points first e _ r.begins = e
end_points first e _ (r.goes_on k l before goes) = let s = end_next k (on l) (end_points first e k before) goes in cc
end_points first e _ (r.waits k l number ticks before goes) = let s = end_next k (after number ticks l) (end_points first e k before) goes in absurd (cc)
end_points first e _ (r.listens k l number terms before goes) = let s = end_next k (wait number terms l) (end_points first e k before) goes in absurd (cc)
end_points first e _ (r.skips i rest before) = let s = end_points first e (i ∷ rest) before in absurd (cc)

end_paths : (ok : Next → Bool) (first : Todo) → first ≡ [] → (k : Todo) → Path ok first k → k ≡ []
end_paths ok first e _ x.begins = e
end_paths ok first e _ (x.goes k l next before goes passes is) =
    sym is ∙ ap todo_after (end_next k next (end_paths ok first e k before) goes)

-- a point of a process past the end is the end
pub past_points : (d : Parts) (i : ℕ) (k : Todo) → length d.processes ≤ i → IsPoint d i k → k ≡ []
past_points d i k past h = end_points (first_todo d i) (first_past d i past) k h

pub past_paths : (wide : Bool) (ok : Next → Bool) (d : Parts) (i : ℕ) (k : Todo) → length d.processes ≤ i → PathBy (nexts_by wide) ok (first_todo d i) k → k ≡ []
past_paths wide ok d i k past h = end_paths ok (first_todo d i) (first_past d i past) k (by_path wide ok (first_todo d i) k h)
