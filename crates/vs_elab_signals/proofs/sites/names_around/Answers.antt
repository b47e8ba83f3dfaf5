use Rattle.std.proofs.Common.{◌≡◌, ℕ, List, sym, subst, ◌∙◌}
use Rattle.std.specs.Borrow.{Bor}
use Rattle.std.specs.declared.vec.Vec.{Vec}
use Rattle.std.specs.declared.alloc.Global.{Global}
use Rattle.std.proofs.lemmas.Result.{IfOk-weaker}
use Rattle.vs_elab_signals.specs.vs_widths.specs.Names.{meaning_of, nested_names}
use Rattle.vs_scopes.specs.Declarations.{Bindings}
use Rattle.vs_scopes.specs.Scopes.{seen_from, environment}
use Rattle.vs_elab_signals.specs.Opened.{HasParentScope}
use Rattle.vs_elab_signals.proofs.SiteLemmas.{place_outward, seen_within}
use Rattle.vs_elab_signals.proofs.sites.names_around.Goals as goal

pub returns-in-Some : goal.returns-in-Some
returns-in-Some c ss s a w k =
    let p = place_outward c.args.kind c.args.around c.in-Some.place (sym c.outward_place.ensures ∙ c.in-Some.is) in
    let seen = seen_within ss s c.in-Some.place (subst (λ z. HasParentScope ss z s) p.1 w) (sym k ∙ p.0) in
    IfOk-weaker c.names_outward.result (λ (v : Vec (Bor Bindings) Global). (n : List ℕ) → meaning_of (nested_names v.items) n ≡ environment seen.0 n)
    (λ (v : Vec (Bor Bindings) Global). (n : List ℕ) → meaning_of (nested_names v.items) n ≡ seen_from s.kind s.outer n) (λ v h n. h n ∙ sym (seen.2 n)) (c.names_outward.ensures ss seen.0 a seen.1)
