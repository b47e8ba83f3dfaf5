use Rattle.std.proofs.Common.{◌<◌, ◌≤◌, ◌↔◌, ℕ, Bool, true, false, List, IsTrue, Option, length, ◌∷◌, [], refl, sym, ap, ◌∙◌, subst, arith}
use Rattle.std.specs.List.{Contains}
use Rattle.std.proofs.lemmas.Result.{IfOk-weaker}
use Rattle.vs_design.specs.declared.signal.Signal.{Signal}
use Rattle.vs_design.specs.Parts.{Parts}
use Rattle.vs_maps.specs.vs_graph.specs.Reached.{Reached}
use Rattle.vs_drivers.specs.Copies.{AreSources, Leads, here, counted, links_of}
use Rattle.vs_drivers.proofs.CopyLemmas.{chain_is, chain_within, past_itself}
use Rattle.vs_drivers.proofs.copies.Copies.leads.Goals as goal

pub returns-then-g-v : goal.returns-then-g-v
returns-then-g-v c = (λ t. subst (λ (n : ℕ). Leads c.args.self.now c.args.wide c.args.g n) c.if-g-v.true here, λ h. refl)

pub returns-then-v-count : goal.returns-then-v-count
returns-then-v-count c =
    let long : length c.args.self.now.signals ≤ c.args.v =
    subst (λ (ss : List Signal). length ss ≤ c.args.v) (c.signals-count.ensures ∙ ap (λ (d : Parts). d.signals) c.self.view_is) (omega arith) in
    (λ t. cc, λ h. absurd (c.if-g-v.false (past_itself c.args.self.now c.args.wide c.args.v c.args.g long h)))

pub leads_to-requires-clause-within : goal.leads_to-requires-clause-within
leads_to-requires-clause-within c a b h =
    let d = c.self.inside.design.now in
    let S = c.self.inside.sources.items in
    let I = c.self.inside.inverses.items in
    let these = subst (λ (l : List (Option ℕ)). Contains (links_of l c.counted-inverses.result.now a) b) c.deref-2.ensures.value h in
    let those = subst (λ (l : List (Option ℕ)). Contains (links_of S l a) b) (c.counted-inverses.ensures ∙ ap (counted c.args.wide) c.deref.ensures.value) these in
    subst (λ (ss : List Signal). b < length ss) (sym c.signals-count.ensures) (chain_within d c.args.wide S I c.self.invariant.0 c.self.invariant.1 a b those)

pub returns : goal.returns
returns c =
    let d = c.args.self.now in
    let S = c.self.inside.sources.items in
    let I = c.self.inside.inverses.items in
    let are : AreSources d false S = subst (λ (e : Parts). AreSources e false S) c.self.view_is c.self.invariant.0 in
    let turned : AreSources d true I = subst (λ (e : Parts). AreSources e true I) c.self.view_is c.self.invariant.1 in
    let D = c.deref-2.result.now in
    let N = c.counted-inverses.result.now in
    let l : (Reached (links_of D N) (c.args.v ∷ []) c.args.g ↔ Leads d c.args.wide c.args.g c.args.v) =
    subst (λ (n : List (Option ℕ)). (Reached (links_of D n) (c.args.v ∷ []) c.args.g ↔ Leads d c.args.wide c.args.g c.args.v))
    (sym (c.counted-inverses.ensures ∙ ap (counted c.args.wide) c.deref.ensures.value))
    (chain_is d c.args.wide D I (subst (AreSources d false) (sym c.deref-2.ensures.value) are) turned c.args.v c.args.g) in
    IfOk-weaker _ (λ (b : Bool). (IsTrue b ↔ Reached (links_of D N) (c.args.v ∷ []) c.args.g)) _
    (λ b e. (λ t. l.0 (e.0 t), λ h. e.1 (l.1 h)))
    c.leads_to.ensures
