-- Designs that say the same have the same verdict.
use Rattle.std.proofs.Common.{◌≡◌, ℕ, zero, suc, true, Some, List, [], ◌∷◌, ◌++◌, length, map, slice_get, refl, ap, sym, subst, ◌∙◌}
use Rattle.std.proofs.lemmas.Option.{none-some, same_Some}
use Rattle.std.specs.List.{flat_map, AllZip}
use Rattle.vs_syntax.specs.declared.tree.Source.{Source}
use Rattle.vs_design.specs.declared.design.Process.{Process}
use Rattle.vs_design.specs.Parts.{Parts}
use Rattle.vs_design.specs.WellFormed.{counts_from}
use Rattle.vs_design.specs.WellFormed as w
use Rattle.vs_elab_statements.specs.Members.{Behavior}
use Rattle.vs_elab_statements.specs.Surroundings.{Surroundings, surroundings_at}
use Rattle.vs_elaborate.specs.vs_scopes.specs.Printed.{Path}
use Rattle.vs_elaborate.specs.vs_scopes.specs.Scopes.{scopes_of}
use Rattle.vs_elaborate.specs.DesignOf.{PartOf, processes_of, IsProcess, DesignOf}
use Rattle.vs_elaborate.specs.Timescales.{timescale_of, ratio_of}
use Rattle.vs_elaborate.specs.Same.{SameDesign}
use Rattle.vs_rules.specs.Claims.{Name, Claims, all_names}
use Rattle.vs_rules.specs.Drivers.{Driver}
use Rattle.vs_rules.specs.Drivers as x
use Rattle.vs_rules.specs.Rules.{K2, K3, K4, K6, K7, K8, K9}
use Rattle.vs_rules.specs.Blocks.{K5, K11}
use Rattle.vs_rules.specs.Verdict.{Rule, k1, k2, k3, k4, k5, k6, k7, k8, k9, k10, k11, Subject, signal, assign, process, listed, OfSignal, OfProcess, OfDriver, OfAll, OfFirstSlot, Keeps, numbers, subjects, KeepsAll, place_of, Breaks, Verdict, yes_verdict, no_verdict, IsVerdict}
use Rattle.vs_laws.specs.Decided.{SourceDecides}
use Rattle.vs_laws.proofs.Designs.{AreNumbered, Twins, back, twins, as_many_signals, as_many_assigns, as_many_processes}
use Rattle.vs_laws.proofs.SourceKept.{k1_signal_as, k1_assign_as, k1_process_as, k1_name_as, k2_as, k3_as, k4_as, k6_as, k7_as, k8_as, k9_as, k10_signal_as, k10_process_as}
use Rattle.vs_laws.proofs.KeptBlocks.{k5_as, k11_as}
use Rattle.vs_laws.proofs.Named.{signal_names_same, process_names_same, assign_names_same}

of_signal_as : (P P' : ℕ → Type 0) → ((v : ℕ) → P v → P' v) → (s : Subject) → OfSignal P s → OfSignal P' s
of_signal_as P P' f (signal v) h = f v h
of_signal_as P P' f (assign j) h = tt
of_signal_as P P' f (process i) h = tt
of_signal_as P P' f (listed name) h = tt

of_process_as : (P P' : ℕ → Type 0) → ((i : ℕ) → P i → P' i) → (s : Subject) → OfProcess P s → OfProcess P' s
of_process_as P P' f (signal v) h = tt
of_process_as P P' f (assign j) h = tt
of_process_as P P' f (process i) h = f i h
of_process_as P P' f (listed name) h = tt

of_driver_as : (P P' : Driver → Type 0) → ((y : Driver) → P y → P' y) → (s : Subject) → OfDriver P s → OfDriver P' s
of_driver_as P P' f (signal v) h = tt
of_driver_as P P' f (assign j) h = f (x.assign j) h
of_driver_as P P' f (process i) h = f (x.block i) h
of_driver_as P P' f (listed name) h = tt

all_as : {d d' : Parts} → Twins d d' → (c : Claims) (s : Subject) → OfAll d c s → OfAll d' c s
all_as t c (signal v) h = k1_signal_as t c v h
all_as t c (assign j) h = k1_assign_as t c j h
all_as t c (process i) h = k1_process_as t c i h
all_as t c (listed name) h = k1_name_as t c name h

first_slot_as : {d d' : Parts} → Twins d d' → (c : Claims) (s : Subject) → OfFirstSlot d c s → OfFirstSlot d' c s
first_slot_as t c (signal v) h = k10_signal_as t c v h
first_slot_as t c (assign j) h = tt
first_slot_as t c (process i) h = k10_process_as t c i h
first_slot_as t c (listed name) h = tt

keeps_as : {d d' : Parts} → Twins d d' → (c : Claims) (k : Rule) (s : Subject) → Keeps d c k s → Keeps d' c k s
keeps_as t c k1 s h = all_as t c s h
keeps_as {d} {d'} t c k2 s h = of_signal_as (K2 d c) (K2 d' c) (k2_as t c) s h
keeps_as {d} {d'} t c k3 s h = of_signal_as (K3 d c) (K3 d' c) (k3_as t c) s h
keeps_as {d} {d'} t c k4 s h = of_driver_as (K4 d c) (K4 d' c) (k4_as t c) s h
keeps_as {d} {d'} t c k5 s h = of_process_as (K5 d c) (K5 d' c) (k5_as t c) s h
keeps_as {d} {d'} t c k6 s h = of_signal_as (K6 d c) (K6 d' c) (k6_as t c) s h
keeps_as {d} {d'} t c k7 s h = of_process_as (K7 d c) (K7 d' c) (k7_as t c) s h
keeps_as {d} {d'} t c k8 s h = of_process_as (K8 d c) (K8 d' c) (k8_as t c) s h
keeps_as {d} {d'} t c k9 s h = of_process_as (K9 d c) (K9 d' c) (k9_as t c) s h
keeps_as t c k10 s h = first_slot_as t c s h
keeps_as {d} {d'} t c k11 s h = of_process_as (K11 d c) (K11 d' c) (k11_as t c) s h

-- ---- subjects

-- so many signals, continuous assignments and processes, and these names
abbrev so_many : List Name → ℕ → ℕ → ℕ → List Subject
so_many names n m k = map signal (numbers 0 n) ++ map assign (numbers 0 m) ++ map process (numbers 0 k) ++ map listed names

subjects_same : {d d' : Parts} → Twins d d' → (c : Claims) → subjects d c ≡ subjects d' c
subjects_same {d} {d'} t c =
    ap (λ (n : ℕ). so_many (all_names c) n (length d.assigns) (length d.processes)) (as_many_signals t)
    ∙ ap (λ (m : ℕ). so_many (all_names c) (length d'.signals) m (length d.processes)) (as_many_assigns t)
    ∙ ap (λ (k : ℕ). so_many (all_names c) (length d'.signals) (length d'.assigns) k) (as_many_processes t)

subject_at : {d d' : Parts} → Twins d d' → (c : Claims) (n : ℕ) (s : Subject) → slice_get (subjects d' c) n ≡ Some s → slice_get (subjects d c) n ≡ Some s
subject_at t c n s e = ap (λ (xs : List Subject). slice_get xs n) (subjects_same t c) ∙ e

told_same : {d d' : Parts} → Twins d d' → (s : Subject) → place_of d s ≡ place_of d' s
told_same t (signal v) = signal_names_same t v
told_same t (assign j) = assign_names_same t j
told_same t (process i) = process_names_same t i
told_same t (listed name) = refl

-- ---- verdicts

keeps_all_as : {d d' : Parts} → Twins d d' → (c : Claims) (k : Rule) → KeepsAll d c k → KeepsAll d' c k
keeps_all_as t c k h = λ n s e. keeps_as t c k s (h n s (subject_at t c n s e))

breaks_as : {d d' : Parts} → Twins d d' → (c : Claims) (k : Rule) (place : Name) → Breaks d c k place → Breaks d' c k place
breaks_as t c k place h =
    let u = back t in
    record {
      below = λ j less. keeps_all_as t c j (h.below j less);
      n = h.n;
      subject = h.subject;
      is = subject_at u c h.n h.subject h.is;
      told = sym (told_same t h.subject) ∙ h.told;
      first = λ m s less e. keeps_as t c k s (h.first m s less (subject_at t c m s e));
      broken = λ kept. h.broken (keeps_as u c k h.subject kept);
    }

pub verdict_as : {d d' : Parts} → Twins d d' → (c : Claims) (v : Verdict) → IsVerdict d c v → IsVerdict d' c v
verdict_as t c yes_verdict h = λ k. keeps_all_as t c k (h k)
verdict_as t c (no_verdict k place) h = breaks_as t c k place h

-- ---- the designs of a source

numbered_by : (envs : Path → Surroundings) (ps : List Process) (qs : List (PartOf Behavior)) → AllZip (IsProcess envs) ps qs → (i : ℕ) (p : Process) → slice_get ps i ≡ Some p → counts_from 0 (w.numbers p.body) ≡ true
numbered_by envs [] qs h i p e = absurd (none-some p e)
numbered_by envs (q ∷ ps) [] h i p e = absurd h
numbered_by envs (q ∷ ps) (r ∷ qs) h zero p e = subst (λ (z : Process). counts_from 0 (w.numbers z.body) ≡ true) (same_Some q p e) h.0.numbered
numbered_by envs (q ∷ ps) (r ∷ qs) h (suc i) p e = numbered_by envs ps qs h.1 i p e

counted_up : (s : Source) (top : List ℕ) (d : Parts) → DesignOf s top d → AreNumbered d
counted_up s top d h =
    let ss = scopes_of s.modules.items top in
    numbered_by (surroundings_at (ratio_of (timescale_of s)) ss) d.processes (flat_map processes_of ss) h.found.processes

-- where a source and a top define one design, they decide verdicts
pub source_decides : ((s : Source) (top : List ℕ) (d d' : Parts) → DesignOf s top d → DesignOf s top d' → SameDesign d d') → SourceDecides
source_decides one s top c d d' v h k = verdict_as (twins d d' (one s top d d' h k) (counted_up s top d h) (counted_up s top d' k)) c v
