-- The least rule that is broken, by its number.
use Rattle.std.proofs.Common.{◌≡◌, ℕ, zero, suc, ◌<◌, ◌+◌, length, refl, sym, ◌∙◌, subst, arith}
use Rattle.std.proofs.lemmas.Option.{same_Some, slice_get_within}
use Rattle.vs_design.specs.Parts.{Parts}
use Rattle.vs_rules_of_starts.specs.vs_rules.specs.Claims.{Claims}
use Rattle.vs_rules_of_starts.specs.vs_rules.specs.Verdict.{Rule, k1, k2, k3, k4, k5, k6, k7, k8, k9, k10, k11, number, subjects, Keeps, KeepsAll}
use Rattle.vs_cert_check.specs.Verdicts.{rule_of, KeepsAt, LeastIsVerdict}

-- the number of a rule from 0 on
index : Rule → ℕ
index k1 = 0
index k2 = 1
index k3 = 2
index k4 = 3
index k5 = 4
index k6 = 5
index k7 = 6
index k8 = 7
index k9 = 8
index k10 = 9
index k11 = 10

record IsIndex (k : Rule) : Type 0 where
  is : rule_of (index k) ≡ k
  below : index k < 11
  next : number k ≡ index k + 1

indexed : (k : Rule) → IsIndex k
unfolding index
indexed k1 = record { is = refl; below = omega arith; next = refl }
indexed k2 = record { is = refl; below = omega arith; next = refl }
indexed k3 = record { is = refl; below = omega arith; next = refl }
indexed k4 = record { is = refl; below = omega arith; next = refl }
indexed k5 = record { is = refl; below = omega arith; next = refl }
indexed k6 = record { is = refl; below = omega arith; next = refl }
indexed k7 = record { is = refl; below = omega arith; next = refl }
indexed k8 = record { is = refl; below = omega arith; next = refl }
indexed k9 = record { is = refl; below = omega arith; next = refl }
indexed k10 = record { is = refl; below = omega arith; next = refl }
indexed k11 = record { is = refl; below = omega arith; next = refl }

-- a number below 11 is that of its rule
back : (k : ℕ) → k < 11 → number (rule_of k) ≡ k + 1
back zero h = refl
back (suc zero) h = refl
back (suc (suc zero)) h = refl
back (suc (suc (suc zero))) h = refl
back (suc (suc (suc (suc zero)))) h = refl
back (suc (suc (suc (suc (suc zero))))) h = refl
back (suc (suc (suc (suc (suc (suc zero)))))) h = refl
back (suc (suc (suc (suc (suc (suc (suc zero))))))) h = refl
back (suc (suc (suc (suc (suc (suc (suc (suc zero)))))))) h = refl
back (suc (suc (suc (suc (suc (suc (suc (suc (suc zero))))))))) h = refl
back (suc (suc (suc (suc (suc (suc (suc (suc (suc (suc more)))))))))) h = omega (arith, h)

pub all_keep : (d : Parts) (c : Claims) (k : ℕ) → ((i : ℕ) → i < length (subjects d c) → KeepsAt d c k i) → KeepsAll d c (rule_of k)
all_keep d c k h n s is = h n (slice_get_within (subjects d c) n s is) s is

pub least_is_verdict : LeastIsVerdict
least_is_verdict = record {
  yes = λ d c h k. subst (KeepsAll d c) (indexed k).is (all_keep d c (index k) (h (index k) (indexed k).below));
  no = λ d c k i s place h is told. record {
    below = λ j less. let x = indexed j in
        subst (KeepsAll d c) x.is (all_keep d c (index j) (h.1 (index j) (omega (arith, less, x.next, back k h.0))));
    n = i;
    subject = s;
    is = is;
    told = told;
    first = λ m q less at. h.2.2 m less q at;
    broken = λ keeps. h.2.1 (λ q at. subst (Keeps d c (rule_of k)) (same_Some s q (sym is ∙ at)) keeps);
  };
}
