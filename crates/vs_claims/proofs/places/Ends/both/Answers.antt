use Rattle.std.proofs.Common.{ℕ, Option, Some, None, List, slice_index_or, sym, ◌∙◌, ap}
use Rattle.vs_claims.specs.facts_passes.Kept.{pair_of}
use Rattle.vs_claims.proofs.places.Ends.both.Goals as goal

pub returns-in_default : goal.returns-in_default
returns-in_default c =
    let v = slice_index_or c.args.self.now.signals.items c.args.place None in
    ap (λ (o : Option ℕ). pair_of o v)
    (sym c.in_default.is ∙ c.place_at.ensures ∙ ap (λ (ps : List (Option ℕ)). slice_index_or ps c.args.place None) c.deref.ensures.value)

pub returns-in_default-signal : goal.returns-in_default-signal
returns-in_default-signal c =
    ap (pair_of (Some c.in-Some.root)) (sym c.in_default-signal.is ∙ c.signal.ensures)
    ∙ ap (λ (o : Option ℕ). pair_of o (slice_index_or c.args.self.now.signals.items c.args.place None))
    (sym c.in-Some.is ∙ c.place_at.ensures ∙ ap (λ (ps : List (Option ℕ)). slice_index_or ps c.args.place None) c.deref.ensures.value)

pub returns : goal.returns
returns c =
    ap (pair_of (Some c.in-Some.root)) (sym c.in-Some-signal.is ∙ c.signal.ensures)
    ∙ ap (λ (o : Option ℕ). pair_of o (slice_index_or c.args.self.now.signals.items c.args.place None))
    (sym c.in-Some.is ∙ c.place_at.ensures ∙ ap (λ (ps : List (Option ℕ)). slice_index_or ps c.args.place None) c.deref.ensures.value)
