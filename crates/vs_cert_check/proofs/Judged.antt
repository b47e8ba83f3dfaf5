-- The least broken rule, by the rules before the last and by the last.
use Rattle.std.proofs.Common.{◌≡◌, ℕ, suc, ◌+◌, ◌<◌, ◌↔◌, Bool, true, IsTrue, Option, Some, None, List, length, map, get_or, slice_get, inl, inr, refl, subst, sym, ap, ◌∙◌, arith}
use Rattle.std.specs.Prelude.{option_map}
use Rattle.std.proofs.lemmas.Option.{none-some, same_Some, slice_get-map, slice_get-get_or}
use Rattle.std.proofs.Math.Nat.{le-suc_iff}
use Rattle.std.proofs.lemmas.List.{length-map}
use Rattle.vs_design.specs.Parts.{Parts}
use Rattle.vs_rules_of_signals.specs.vs_graph.specs.Verdicts.{IsFirst, IsLeast}
use Rattle.vs_rules_of_signals.specs.vs_claims.specs.Facts.{Case}
use Rattle.vs_rules_of_starts.specs.vs_rules.specs.Claims.{Claims, Name}
use Rattle.vs_rules_of_starts.specs.vs_rules.specs.Verdict.{Keeps, KeepsAll, subjects}
use Rattle.vs_rules_of_starts.specs.vs_rules.specs.Verdict as verdict
use Rattle.vs_claims.specs.declared.subjects.Subject.{Subject}
use Rattle.vs_claims.specs.Subjects.{subject_view}
use Rattle.vs_cert_check.specs.declared.verdict.Broken.{Broken}
use Rattle.vs_cert_check.specs.Broken.{broken_view, name_of, violation_at}
use Rattle.vs_cert_check.specs.Verdicts.{rule_of, KeepsAt, AllKeptBelow}
use Rattle.vs_cert_check.proofs.Verdicts.{all_keep}

-- how many subjects there are, as they are kept
pub as_many : (x k : Case) (all : List Subject) → map subject_view all ≡ subjects x.design x.claims → x ≡ k → length all ≡ length (subjects k.design k.claims)
as_many x k all are e = sym (length-map all subject_view) ∙ ap length are ∙ ap (λ (y : Case). length (subjects y.design y.claims)) e

-- rules below the last that are kept, and the last rule
pub broken_before : (keeps : ℕ → ℕ → Type 0) (n : ℕ) (x : ℕ × ℕ) → IsLeast keeps 10 n (Some x) → IsLeast keeps 11 n (Some x)
broken_before keeps n x h = (omega (arith, h.0), h.1, h.2)

pub broken_last : (keeps : ℕ → ℕ → Type 0) (n i : ℕ) → IsLeast keeps 10 n None → IsFirst (keeps 10) n (Some i) → IsLeast keeps 11 n (Some (10, i))
broken_last keeps n i h first = (omega arith, h, first)

pub none_broken : (keeps : ℕ → ℕ → Type 0) (n : ℕ) → IsLeast keeps 10 n None → IsFirst (keeps 10) n None → IsLeast keeps 11 n None
none_broken keeps n h first k below i within =
    elim ((le-suc_iff {m = k} {n = 9}).0 (omega (arith, below))) [
      | inl less ↦ h k (omega (arith, less)) i within
      | inr same ↦ subst (λ (m : ℕ). keeps m i) (sym same) (first i within)
    ]

-- all subjects keep a rule below a number
pub kept_all : (d : Parts) (c : Claims) (n k : ℕ) → AllKeptBelow d c n → k < n → KeepsAll d c (rule_of k)
kept_all d c n k h below = all_keep d c k (h k below)

-- ---- a subject at its place

pub subject_at : (x k : Case) (all : List Subject) (i : ℕ) → map subject_view all ≡ subjects x.design x.claims → x ≡ k →
    option_map subject_view (slice_get all i) ≡ slice_get (subjects k.design k.claims) i
subject_at x k all i are e =
    sym (slice_get-map subject_view all i) ∙ ap (λ (ss : List verdict.Subject). slice_get ss i) are
    ∙ ap (λ (y : Case). slice_get (subjects y.design y.claims) i) e

pub subject_here : (x k : Case) (all : List Subject) (i : ℕ) (d : Subject) → map subject_view all ≡ subjects x.design x.claims → x ≡ k →
    i < length (subjects k.design k.claims) → Some (subject_view (get_or all i d)) ≡ slice_get (subjects k.design k.claims) i
subject_here x k all i d are e within =
    let h : i < length all = subst (λ (n : ℕ). i < n) (sym (as_many x k all are e)) within in
    ap (option_map subject_view) (sym (slice_get-get_or all i d h)) ∙ subject_at x k all i are e

-- it keeps a rule exactly where the subject of this place does
pub kept_at : (d : Parts) (c : Claims) (k i : ℕ) (s : verdict.Subject) (b : Bool) → Some s ≡ slice_get (subjects d c) i →
    (IsTrue b ↔ Keeps d c (rule_of k) s) → (IsTrue b ↔ KeepsAt d c k i)
kept_at d c k i s b at told =
    (λ yes t is. subst (Keeps d c (rule_of k)) (same_Some s t (at ∙ is)) (told.0 yes), λ kept. told.1 (kept s (sym at)))

-- where there is none, it is kept
pub none_at : (d : Parts) (c : Claims) (k i : ℕ) → None ≡ slice_get (subjects d c) i → (IsTrue true ↔ KeepsAt d c k i)
none_at d c k i at = (λ yes t is. absurd (none-some t (at ∙ is)), λ kept. refl)

-- the subject of a name
pub named : (d : Parts) (o : Option verdict.Subject) (name : Name) → Some name ≡ name_of d o →
    (s : verdict.Subject) × (o ≡ Some s) × (verdict.place_of d s ≡ Some name)
named d None name is = absurd (none-some name (sym is))
named d (Some s) name is = (s, refl, sym is)

-- a subject that a rule is found broken at, as it is told
pub told_here : (d : Parts) (c : Claims) (rule i : ℕ) (b : Broken) → b.number ≡ rule + 1 → Some b.place.items ≡ name_of d (slice_get (subjects d c) i) →
    broken_view b ≡ violation_at d c (rule, i)
told_here d c rule i b number told =
    let more : rule + 1 ≡ suc rule = omega arith in
    ap (λ (k : ℕ). (k, Some b.place.items)) (number ∙ more) ∙ ap (λ (o : Option Name). (suc rule, o)) told
