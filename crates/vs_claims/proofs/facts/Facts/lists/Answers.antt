use Rattle.std.proofs.Common.{ℕ, Option, None, Some, Bor, List, Vec, Global, subst}
use Rattle.vs_design.specs.Parts.{Parts}
use Rattle.vs_claims.specs.vs_rules.specs.Claims.{Claims, Kind, kind_of}
use Rattle.vs_claims.specs.Facts.{AreListsOf}
use Rattle.vs_claims.specs.facts_passes.Kept.{AreKindLists}
use Rattle.vs_claims.proofs.facts.Facts.lists.Goals as goal

told : (d : Parts) (c : Claims) (i : ℕ) (lists : Option (Bor (List (Vec ℕ Global)))) → AreKindLists (kind_of d c i) lists → AreListsOf d c i lists
told d c i None h = h
told d c i (Some lists) h = h

pub returns : goal.returns
returns c =
    let x = c.args.self.now in
    told x.design x.claims c.args.i c.lists_in.result (subst (λ (k : Option Kind). AreKindLists k c.lists_in.result) c.kind.ensures c.lists_in.ensures)
