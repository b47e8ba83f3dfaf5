-- The rules by numbers.
use Rattle.std.specs.Prelude.{ℕ, zero, suc, ◌≡◌, ◌<◌, Some, None, length, slice_get}
use Rattle.vs_design.specs.Parts.{Parts}
use Rattle.vs_rules_of_starts.specs.vs_rules.specs.Claims.{Name}
use Rattle.vs_rules_of_starts.specs.vs_rules.specs.Claims.{Claims}
use Rattle.vs_rules_of_starts.specs.vs_rules.specs.Verdict.{Rule, k1, k2, k3, k4, k5, k6, k7, k8, k9, k10, k11, Subject, subjects, Keeps, place_of}
use Rattle.vs_rules_of_starts.specs.vs_rules.specs.Verdict.{Disciplined, Breaks}
use Rattle.vs_rules_of_signals.specs.vs_graph.specs.Verdicts.{IsLeast}

-- the rule of a number, from 0 on
abbrev pub rule_of : ℕ → Rule
rule_of zero = k1
rule_of (suc zero) = k2
rule_of (suc (suc zero)) = k3
rule_of (suc (suc (suc zero))) = k4
rule_of (suc (suc (suc (suc zero)))) = k5
rule_of (suc (suc (suc (suc (suc zero))))) = k6
rule_of (suc (suc (suc (suc (suc (suc zero)))))) = k7
rule_of (suc (suc (suc (suc (suc (suc (suc zero))))))) = k8
rule_of (suc (suc (suc (suc (suc (suc (suc (suc zero)))))))) = k9
rule_of (suc (suc (suc (suc (suc (suc (suc (suc (suc zero))))))))) = k10
rule_of (suc (suc (suc (suc (suc (suc (suc (suc (suc (suc more)))))))))) = k11

-- the subject of a number keeps the rule of a number
abbrev pub KeepsAt : Parts → Claims → ℕ → ℕ → Type 0
KeepsAt d c k i = (s : Subject) → slice_get (subjects d c) i ≡ Some s → Keeps d c (rule_of k) s

pub record LeastIsVerdict : Type 0 where
  pub yes : (d : Parts) (c : Claims) → IsLeast (KeepsAt d c) 11 (length (subjects d c)) None → Disciplined d c
  pub no : (d : Parts) (c : Claims) (k i : ℕ) (s : Subject) (place : Name) →
      IsLeast (KeepsAt d c) 11 (length (subjects d c)) (Some (k, i)) → slice_get (subjects d c) i ≡ Some s → place_of d s ≡ Some place →
      Breaks d c (rule_of k) place

-- all subjects keep the rules below a number
abbrev pub AllKeptBelow : Parts → Claims → ℕ → Type 0
AllKeptBelow d c n = (k : ℕ) → k < n → (i : ℕ) → i < length (subjects d c) → KeepsAt d c k i
