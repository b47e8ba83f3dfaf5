use Rattle.std.proofs.Common.{◌≡◌, ◌<◌, ◌↔◌, ℕ, length, sym, subst}
use Rattle.std.specs.List.{Contains}
use Rattle.std.proofs.lemmas.Option.{none-some, same_Some}
use Rattle.std.proofs.lemmas.Result.{IfOk-weaker}
use Rattle.std.specs.declared.vec.Vec.{Vec}
use Rattle.std.specs.declared.alloc.Global.{Global}
use Rattle.vs_maps.specs.Sites.{IsSite, IsWrite}
use Rattle.vs_maps.specs.Texts.{Texts}
use Rattle.vs_maps.specs.declared.sites.Site.{Site}
use Rattle.vs_rules_of_signals.specs.Ranks.{ArePlacesOf}
use Rattle.vs_rules_of_signals.proofs.WriteLemmas.{none_placed, writer_placed}
use Rattle.vs_rules_of_signals.proofs.writes.places_of.Goals as goal

pub returns-in-None : goal.returns-in-None
returns-in-None c = none_placed c.args.facts.now c.args.v c.new.result.items (λ i w. none-some i ((c.in-None.ensures i).0 w))

pub of_signal-requires : goal.of_signal-requires
of_signal-requires c = subst (λ (x : Texts). c.args.v < length x.design.signals) (sym c.sites.ensures) c.requires

pub returns-in-Some : goal.returns-in-Some
returns-in-Some c =
    let K = c.args.facts.now in
    let v = c.args.v in
    let rows = c.of_signal.result.now in
    let are = subst (λ (x : Texts). (s : Site) → (Contains rows s ↔ (IsSite x.charts s × (s.range.signal ≡ v)))) c.sites.ensures c.of_signal.ensures in
    IfOk-weaker _ (λ (all : Vec ℕ Global). (p : ℕ) → (Contains all.items p ↔ ((s : Site) × Contains rows s × (s.process ≡ c.in-Some.i) × (s.place ≡ p) × IsWrite s.usage))) (λ (all : Vec ℕ Global). ArePlacesOf K v all.items)
    (λ all h. writer_placed K v c.in-Some.i rows all.items (λ j w. sym (same_Some c.in-Some.i j ((c.in-Some.ensures j).0 w))) (λ s is of. (are s).1 (is, of))
    (λ p s has by at writes. (h p).1 (s, has, by, at, writes))) c.places_written.ensures
