use Rattle.std.proofs.Common.{ℕ, ◌≡◌, ◌<◌, ◌↔◌, ◌∙◌, IsTrue, Bool, false, List, [], ◌∷◌, length, vec_len, rules, slice_index_or, subst, sym}
use Rattle.std.proofs.lemmas.Result.{IfOk-weaker}
use Rattle.vs_graph.specs.Reached.{AreReached}
use Rattle.vs_drivers.specs.vs_maps.specs.Reaches.{places}
use Rattle.vs_drivers.specs.vs_maps.specs.Walks.{AreMarked}
use Rattle.vs_rules_of_starts.specs.Missing.{IsSure, stops_here, unmarked}
use Rattle.vs_rules_of_starts.proofs.MissingLemmas.{sure_is}
use Rattle.vs_rules_of_starts.proofs.missing.is_sure.Goals as goal

pub returns : goal.returns
returns g c =
    let t = c.args.tables.now in
    let keeps = g.R.Rule.keeps c.args.sort.now in
    let count : vec_len c.in_ok-reached.reached ≡ length c.in_ok-reached.reached.items = search rules in
    IfOk-weaker c.all_keep.result
    (λ b. (IsTrue b ↔ ((p : ℕ) → p < c.len.result → IsTrue (slice_index_or c.deref-2.result.now p false) → stops_here t p ≡ false)))
    (λ b. (IsTrue b ↔ IsSure t keeps))
    (sure_is t keeps c.deref.result.now c.deref-2.result.now c.leads_in.ensures.start c.leads_in.ensures.ways
    (subst (λ (n : ℕ). AreMarked keeps n c.deref.result.now) c.places.ensures
    (subst (λ (l : List Bool). AreMarked keeps c.places.result l) (sym c.deref.ensures.value) c.in_ok-done.ensures.exact))
    c.len.result (c.len.ensures ∙ count ∙ c.in_ok-reached.ensures.len)
    (subst (λ (s : ℕ). AreReached (unmarked c.deref.result.now t.stops) (s ∷ []) (places t) c.deref-2.result.now) c.start.ensures
    (subst (λ (l : List Bool). AreReached (unmarked c.deref.result.now t.stops) (c.start.result ∷ []) (places t) l) (sym c.deref-2.ensures.value) c.in_ok-reached.ensures.exact)))
    c.all_keep.ensures
