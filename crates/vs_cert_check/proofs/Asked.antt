-- Rules that are asked of the tables of a sheet.
use Rattle.std.proofs.Common.{◌≡◌, ℕ, ◌↔◌, Bool, IfOk, IsTrue, sym, subst}
use Rattle.std.specs.declared.result.Result.{Result}
use Rattle.vs_rules_of_signals.specs.vs_claims.specs.Facts.{Case}
use Rattle.vs_rules_of_starts.specs.vs_rules.specs.Verdict.{Keeps, Subject}
use Rattle.vs_cert_check.specs.Verdicts.{rule_of}

-- a subject keeps the rule of a number by tables of a case, so by the case
pub told : {x k : Case} {rule : ℕ} (n : ℕ) (s : Subject) (b : Bool) → x ≡ k → rule ≡ n →
    (IsTrue b ↔ Keeps x.design x.claims (rule_of n) s) → (IsTrue b ↔ Keeps k.design k.claims (rule_of rule) s)
told {x} {k} {rule} n s b e is h =
    subst (λ (m : ℕ). IsTrue b ↔ Keeps k.design k.claims (rule_of m) s) (sym is)
    (subst (λ (y : Case). IsTrue b ↔ Keeps y.design y.claims (rule_of n) s) e h)

-- the same of a test that may have no memory
pub asked : {E : Type 0} {x k : Case} {rule : ℕ} (n : ℕ) (s : Subject) (r : Result Bool E) → x ≡ k → rule ≡ n →
    IfOk r (λ b. (IsTrue b ↔ Keeps x.design x.claims (rule_of n) s)) → IfOk r (λ b. (IsTrue b ↔ Keeps k.design k.claims (rule_of rule) s))
asked {E} {x} {k} {rule} n s r e is h =
    subst (λ (m : ℕ). IfOk r (λ b. (IsTrue b ↔ Keeps k.design k.claims (rule_of m) s))) (sym is)
    (subst (λ (y : Case). IfOk r (λ b. (IsTrue b ↔ Keeps y.design y.claims (rule_of n) s))) e h)
