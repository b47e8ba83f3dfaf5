-- The subjects of the rules are those of the design.
use Rattle.std.proofs.Common.{◌≡◌, ℕ, zero, suc, ◌+◌, ◌<◌, ◌≤◌, Option, Some, None, List, [], ◌∷◌, length, map, slice_get, refl, arith}
use Rattle.std.specs.List.{All}
use Rattle.std.proofs.lemmas.List.Elements.{All-nil, All-cons, All-append}
use Rattle.vs_design.specs.declared.design.Assign.{Assign}
use Rattle.vs_design.specs.declared.design.Process.{Process}
use Rattle.vs_design.specs.declared.signal.Signal.{Signal}
use Rattle.vs_design.specs.Parts.{Parts}
use Rattle.vs_independence.specs.vs_process.proofs.ProcessLists.{all_slice}
use Rattle.vs_rules_of_starts.specs.vs_rules.specs.Claims.{Claims, Name, all_names, signal_name, assign_name, process_name}
use Rattle.vs_rules_of_starts.specs.vs_rules.specs.Verdict.{Subject, signal, assign, process, listed, numbers, subjects, place_of}
use Rattle.vs_design.specs.vs_logic4.proofs.Basics.{inside}
use Rattle.vs_cert_check.specs.Answers.{IsOfDesign}

of_numbers : (d : Parts) (f : ℕ → Subject) (bound : ℕ) → ((v : ℕ) → v < bound → IsOfDesign d (f v)) → (first n : ℕ) → first + n ≤ bound →
    All (IsOfDesign d) (map f (numbers first n))
of_numbers d f bound h first zero e = All-nil (IsOfDesign d)
of_numbers d f bound h first (suc n) e =
    All-cons (IsOfDesign d) (f first) (map f (numbers (suc first) n)) (h first (omega (arith, e))) (of_numbers d f bound h (suc first) n (omega (arith, e)))

of_names : (d : Parts) (names : List Name) → All (IsOfDesign d) (map listed names)
of_names d [] = All-nil (IsOfDesign d)
of_names d (n ∷ ns) = All-cons (IsOfDesign d) (listed n) (map listed ns) tt (of_names d ns)

of_subjects : (d : Parts) (c : Claims) → All (IsOfDesign d) (subjects d c)
of_subjects d c =
    All-append (IsOfDesign d) _ (map listed (all_names c))
    (All-append (IsOfDesign d) _ (map process (numbers 0 (length d.processes)))
    (All-append (IsOfDesign d) (map signal (numbers 0 (length d.signals))) (map assign (numbers 0 (length d.assigns)))
    (of_numbers d signal (length d.signals) (λ v h. h) 0 (length d.signals) (omega arith))
    (of_numbers d assign (length d.assigns) (λ v h. h) 0 (length d.assigns) (omega arith)))
    (of_numbers d process (length d.processes) (λ v h. h) 0 (length d.processes) (omega arith)))
    (of_names d (all_names c))

-- each subject is one of the design
pub subject_of : (d : Parts) (c : Claims) (n : ℕ) (s : Subject) → slice_get (subjects d c) n ≡ Some s → IsOfDesign d s
subject_of d c n s is = all_slice (IsOfDesign d) (subjects d c) n s is (of_subjects d c)

some_none : {A : Type 0} (x : A) → Some x ≡ None → ⊥
some_none x e = cc

no_signal : (s : Option Signal) → signal_name s ≡ None → s ≡ None
no_signal None none = refl
no_signal (Some s) none = absurd (some_none s.path.items none)

no_assign : (a : Option Assign) → assign_name a ≡ None → a ≡ None
no_assign None none = refl
no_assign (Some a) none = absurd (some_none a.name.items none)

no_process : (p : Option Process) → process_name p ≡ None → p ≡ None
no_process None none = refl
no_process (Some p) none = absurd (some_none p.name.items none)

-- and has a name
pub subject_named : (d : Parts) (s : Subject) → IsOfDesign d s → place_of d s ≡ None → ⊥
subject_named d (signal v) h none = inside d.signals v h (no_signal (slice_get d.signals v) none)
subject_named d (assign j) h none = inside d.assigns j h (no_assign (slice_get d.assigns j) none)
subject_named d (process i) h none = inside d.processes i h (no_process (slice_get d.processes i) none)
subject_named d (listed name) h none = some_none name none
