use Rattle.std.proofs.Common.{◌∷◌, [], ◌++◌, map, refl, sym, append_assoc}
use Rattle.vs_design.specs.declared.statement.EventTerm.{EventTerm}
use Rattle.vs_design.proofs.LoopLemmas.{images_pushed, went_on}
use Rattle.vs_maps.specs.Sites.{waiting_of}
use Rattle.vs_maps.proofs.sites.push_terms.Goals as goal

pub loop-term-preserved : goal.loop-term-preserved
loop-term-preserved c =
    let f = waiting_of c.args.process c.args.place in
    went_on (λ ys out. out ++ map f ys) (λ (x : EventTerm) out. out ++ f x ∷ []) (λ x ys out. sym (append_assoc out (f x ∷ []) (map f ys)))
    c.args.terms.now c.loop-term.term-index _ _ c.loop-term.sites.items c.push.new.self.items _ c.loop-term-test.true refl c.in_ok-push.ensures.items c.loop-term.invariant

pub returns : goal.returns
returns c = images_pushed (waiting_of c.args.process c.args.place) c.args.terms.now c.loop-term.term-index c.loop-term.sites.items _ c.loop-term-test.false c.loop-term.invariant
