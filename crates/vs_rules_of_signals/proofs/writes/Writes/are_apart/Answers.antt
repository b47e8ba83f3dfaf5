use Rattle.std.proofs.Common.{◌≡◌, ◌<◌, ℕ, Some, List, length, slice_get, sym, ◌∙◌, ap, subst, arith}
use Rattle.std.specs.List.{Contains}
use Rattle.std.proofs.lemmas.Option.{slice_get-get_or}
use Rattle.vs_claims.specs.Facts.{Case}
use Rattle.vs_rules_of_signals.specs.Ranks.{KeepsWrites}
use Rattle.vs_rules_of_signals.proofs.RankLemmas.{apart_never_hot}
use Rattle.vs_rules_of_signals.proofs.writes.Writes.are_apart.Goals as goal

pub returns : goal.returns
returns c told wide =
    let K = c.args.self.now in
    let W = c.self.inside.places in
    let R = c.self.inside.ranks.items in
    let t = c.args.tables.now in
    let x = c.index-ranks.result.now in
    let inv : KeepsWrites K W R = subst (λ (k : Case). KeepsWrites k W R) c.self.view_is c.self.invariant in
    let i_in : c.args.i < length R = omega (arith, c.len.ensures, c.self.inside.ranks.ok.0, c.if-i-len.false) in
    let v_in : c.args.v < length W = omega (arith, c.len-2.ensures.is, c.if-v-len.false) in
    let at : slice_get R c.args.i ≡ Some x = slice_get-get_or R c.args.i x i_in ∙ ap Some (sym c.index-ranks.ensures) in
    apart_never_hot wide t x c.args.v c.row.result.now c.leads_in.ensures.ways (inv.ranked c.args.i x at t c.requires.text)
    (λ p place writes. subst (λ (l : List ℕ). Contains l p) (sym c.row.ensures) (inv.own c.args.v v_in c.args.i t c.requires.text c.requires.writer p place writes))
    (c.are_apart.ensures.0 told)
