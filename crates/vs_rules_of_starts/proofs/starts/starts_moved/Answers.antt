use Rattle.std.proofs.Common.{ℕ, ◌↔◌, IsTrue, List, sym, subst}
use Rattle.std.proofs.lemmas.Result.{IfOk-weaker}
use Rattle.vs_design.specs.declared.statement.EventTerm.{EventTerm}
use Rattle.vs_rules.specs.Blocks.{HasStarter}
use Rattle.vs_rules_of_starts.specs.Started.{AreTerms}
use Rattle.vs_rules_of_starts.proofs.starts.starts_moved.Goals as goal

pub returns : goal.returns
returns c =
    IfOk-weaker c.has_starter.result
    (λ b. (i : ℕ) → AreTerms c.args.facts.now.design i c.deref.result.now → (IsTrue b ↔ HasStarter c.args.facts.now.design c.args.facts.now.claims i))
    (λ b. (IsTrue b ↔ HasStarter c.args.facts.now.design c.args.facts.now.claims c.args.i))
    (λ b h. h c.args.i (subst (λ (l : List EventTerm). AreTerms c.args.facts.now.design c.args.i l) (sym c.deref.ensures.value) c.in_ok-terms.ensures))
    c.has_starter.ensures
