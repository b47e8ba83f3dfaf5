-- Within the limits no number is negative.
use Rattle.std.proofs.Common.{◌≡◌, inl, inr, List, ℕ, ◌+◌, Bool, true, false, ◌&&◌, ◌||◌, nat_le, nat_lt, Option, Some, None, codes, is_some, option_and_then, true≢false, refl, ap, sym, ◌∙◌}
use Rattle.std.proofs.lemmas.Bool.{and_parts, or_cases, false_from_ne_true, or_right}
use Rattle.std.specs.Option.{option_map_or}
use Rattle.serde_json.specs.Data.{Data, null, boolean, number, string, array, object, Items, no_items, item}
use Rattle.serde_json.specs.Find.{get}
use Rattle.vs_certificate.specs.Shape.{natural, is_whole, is_natural, all_items, is_list, passes_at, is_combinational, is_edge_process, is_timed_process, is_times_process, is_process_entry, is_certificate}
use Rattle.vs_certificate.specs.Limits.{items_in, rise, is_within, are_residues, are_slots, are_processes, most_residues_in, is_modulus, holds_by, is_within_limits}
use Rattle.vs_certificate.proofs.Found.{certificate_parts}
use Rattle.std.proofs.lemmas.Bool.{and_from as both}

-- what passes two tests passes a third
abbrev Implied : (p q r : Data → Bool) → Type 0
Implied p q r = (d : Data) → p d ≡ true → q d ≡ true → r d ≡ true

or_next : (b x y : Bool) → (b || x) ≡ true → (x ≡ true → y ≡ true) → (b || y) ≡ true
or_next true x y h f = refl
or_next false x y h f = f h

items_imply : (p q r : Data → Bool) → Implied p q r → (ds : Items) → all_items p ds ≡ true → all_items q ds ≡ true → all_items r ds ≡ true
items_imply p q r f no_items h k = refl
items_imply p q r f (item d ds) h k =
    let a = and_parts (p d) (all_items p ds) h in
    let b = and_parts (q d) (all_items q ds) k in
    both (r d) (all_items r ds) (f d a.0 b.0) (items_imply p q r f ds a.1 b.1)

list_implies : (p q r : Data → Bool) → Implied p q r → (d : Data) → is_list p d ≡ true → all_items q (items_in d) ≡ true → is_list r d ≡ true
list_implies p q r f null h k = absurd (true≢false (sym h))
list_implies p q r f (boolean b) h k = absurd (true≢false (sym h))
list_implies p q r f (number n) h k = absurd (true≢false (sym h))
list_implies p q r f (string s) h k = absurd (true≢false (sym h))
list_implies p q r f (array ds) h k = items_imply p q r f ds h k
list_implies p q r f (object ms) h k = absurd (true≢false (sym h))

found_implies : (p q r : Data → Bool) → Implied p q r → (o : Option Data) → option_map_or p o false ≡ true → option_map_or q o false ≡ true → option_map_or r o false ≡ true
found_implies p q r f None h k = h
found_implies p q r f (Some d) h k = f d h k

-- ---- residues

number_rises : (low modulus : ℕ) (o : Option ℕ) (ds : Items) → option_map_or (λ n. nat_le low n && nat_lt n modulus && rise (n + 1) modulus ds) o false ≡ true
    → (n : ℕ) × (o ≡ Some n) × (nat_lt n modulus ≡ true) × (rise (n + 1) modulus ds ≡ true)
number_rises low modulus None ds h = absurd (true≢false (sym h))
number_rises low modulus (Some n) ds h =
    let a = and_parts (nat_le low n && nat_lt n modulus) (rise (n + 1) modulus ds) h in
    (n, refl, (and_parts (nat_le low n) (nat_lt n modulus) a.0).1, a.1)

rising_naturals : (low modulus : ℕ) (ds : Items) → rise low modulus ds ≡ true → all_items is_natural ds ≡ true
rising_naturals low modulus no_items h = refl
rising_naturals low modulus (item d ds) h =
    let n = number_rises low modulus (natural d) ds h in
    both (is_natural d) (all_items is_natural ds) (ap is_some n.1) (rising_naturals (n.0 + 1) modulus ds n.3)

residues_natural : (most modulus : ℕ) → Implied (is_list is_whole) (are_residues most modulus) (is_list is_natural)
residues_natural most modulus d h k =
    let rising = (and_parts (is_within most d) (rise 0 modulus (items_in d)) k).1 in
    list_implies is_whole is_natural is_natural (λ e w n. n) d h (rising_naturals 0 modulus (items_in d) rising)

slots_natural : (most modulus : ℕ) → Implied (is_list (is_list is_whole)) (are_slots most modulus) (is_list (is_list is_natural))
slots_natural most modulus d h k =
    let all = (and_parts (is_within 65536 d) (all_items (are_residues most modulus) (items_in d)) k).1 in
    list_implies (is_list is_whole) (are_residues most modulus) (is_list is_natural) (residues_natural most modulus) d h all

-- ---- processes

timed_natural : (word : List ℕ) (most modulus : ℕ) → Implied (is_timed_process word is_whole) (passes_at (are_slots most modulus) (codes "slots")) (is_timed_process word is_natural)
timed_natural word most modulus d h k =
    let a = and_parts _ _ h in
    let b = and_parts _ _ a.0 in
    both _ _ (both _ _ b.0 (found_implies (is_list (is_list is_whole)) (are_slots most modulus) (is_list (is_list is_natural)) (slots_natural most modulus) (get (codes "slots") d) b.1 k)) a.1

times_natural : (most modulus : ℕ) → Implied (is_times_process is_whole) (passes_at (are_slots most modulus) (codes "slots")) (is_times_process is_natural)
times_natural most modulus d h k = elim (or_cases (is_timed_process (codes "delay") is_whole d) (is_timed_process (codes "mixed") is_whole d) h) [
  | inl delay ↦ rw (timed_natural (codes "delay") most modulus d delay k) refl
  | inr mixed ↦ or_right (is_timed_process (codes "delay") is_natural d) (is_timed_process (codes "mixed") is_natural d) (timed_natural (codes "mixed") most modulus d mixed k)
]

process_natural : (most modulus : ℕ) → Implied (is_process_entry is_whole) (passes_at (are_slots most modulus) (codes "slots")) (is_process_entry is_natural)
process_natural most modulus d h k =
    let a = and_parts _ _ h in
    both _ _ a.0 (or_next (is_combinational d || is_edge_process d) (is_times_process is_whole d) (is_times_process is_natural d) a.1 (λ times. times_natural most modulus d times k))

processes_natural : (most modulus : ℕ) → Implied (is_list (is_process_entry is_whole)) (are_processes most modulus) (is_list (is_process_entry is_natural))
processes_natural most modulus d h k =
    let all = (and_parts (is_within 65536 d) (all_items (passes_at (are_slots most modulus) (codes "slots")) (items_in d)) k).1 in
    list_implies (is_process_entry is_whole) (passes_at (are_slots most modulus) (codes "slots")) (is_process_entry is_natural) (process_natural most modulus) d h all

-- ---- the whole

-- the parts of the limits by a modulus
pub record LimitParts (d : Data) (modulus : ℕ) : Type 0 where
  pub fits : is_modulus modulus ≡ true
  pub edges : passes_at (is_within 65536) (codes "edges") d ≡ true
  pub order : passes_at (is_within 65536) (codes "order") d ≡ true
  pub processes : passes_at (are_processes (most_residues_in d) modulus) (codes "processes") d ≡ true
  pub signals : passes_at (is_within 65536) (codes "signals") d ≡ true

pub limit_parts : (d : Data) (modulus : ℕ) → holds_by d modulus ≡ true → LimitParts d modulus
limit_parts d modulus h =
    let signals = and_parts _ _ h in
    let processes = and_parts _ _ signals.0 in
    let order = and_parts _ _ processes.0 in
    let edges = and_parts _ _ order.0 in
    record { fits = edges.0; edges = edges.1; order = order.1; processes = processes.1; signals = signals.1 }

modulus_found : (d : Data) (o : Option ℕ) → option_map_or (holds_by d) o false ≡ true → (modulus : ℕ) × (o ≡ Some modulus) × LimitParts d modulus
modulus_found d None h = absurd (true≢false (sym h))
modulus_found d (Some modulus) h = (modulus, refl, limit_parts d modulus h)

modulus_natural : (o : Option Data) (modulus : ℕ) → option_and_then natural o ≡ Some modulus → option_map_or is_natural o false ≡ true
modulus_natural None modulus e = absurd cc
modulus_natural (Some d) modulus e = ap is_some e

-- a certificate within its limits has no negative number
pub is_certificate-natural : (d : Data) → is_certificate is_whole d ≡ true → is_within_limits d ≡ true → is_certificate is_natural d ≡ true
is_certificate-natural d h k =
    let p = certificate_parts is_whole d h in
    let q = modulus_found d (option_and_then natural (get (codes "modulus") d)) k in
    let modulus = modulus_natural (get (codes "modulus") d) q.0 q.1 in
    let most = most_residues_in d in
    let processes = found_implies (is_list (is_process_entry is_whole)) (are_processes most q.0) (is_list (is_process_entry is_natural)) (processes_natural most q.0) (get (codes "processes") d) p.processes q.2.processes in
    both _ _ (both _ _ (both _ _ (both _ _ (both _ _ (both _ _ p.edges p.grain) modulus) p.order) processes) p.signals) p.version

-- a negative number is over a limit
pub is_within_limits-negative : (d : Data) → is_certificate is_whole d ≡ true → is_certificate is_natural d ≡ false → is_within_limits d ≡ false
is_within_limits-negative d h k = false_from_ne_true (is_within_limits d) (λ within. true≢false (sym (is_certificate-natural d h within) ∙ k))
