-- What is found under a name, where it passes a test.
use Rattle.std.proofs.Common.{◌≡◌, inl, inr, ℕ, Bool, true, false, ◌||◌, List, ◌∷◌, Option, Some, None, codes, true≢false, refl, ap, sym, ◌∙◌}
use Rattle.std.proofs.lemmas.Bool.{and_parts, eqb-true, or_cases}
use Rattle.std.proofs.lemmas.Slice.Eq.{bytes_eq-Decides}
use Rattle.std.specs.Option.{option_map_or}
use Rattle.serde_json.specs.Data.{Data, unsigned, negative, float, null, boolean, number, string, array, object, no_items, item}
use Rattle.serde_json.specs.Find.{get}
use Rattle.vs_certificate.specs.Shape.{is_word, is_empty_list, is_list, is_text, is_number, is_flag, is_grain, is_start, passes_at, has_names, names_of_one, is_edge_signal, is_signal_entry, is_process_entry, is_combinational, is_edge_process, is_timed_process, is_times_process, is_version_one, is_of_later, is_version_two, is_version_three, is_certificate}

word_found : (o : Option Data) (word : List ℕ) → option_map_or (is_word word) o false ≡ true → o ≡ Some (string word)
word_found None word h = absurd (true≢false (sym h))
word_found (Some null) word h = absurd (true≢false (sym h))
word_found (Some (boolean b)) word h = absurd (true≢false (sym h))
word_found (Some (number n)) word h = absurd (true≢false (sym h))
word_found (Some (string s)) word h = ap (λ t. Some (string t)) ((bytes_eq-Decides s word).0 h)
word_found (Some (array ds)) word h = absurd (true≢false (sym h))
word_found (Some (object ms)) word h = absurd (true≢false (sym h))

pub get-is_word : (name word : List ℕ) (d : Data) → passes_at (is_word word) name d ≡ true → get name d ≡ Some (string word)
get-is_word name word d h = word_found (get name d) word h

empty_found : (o : Option Data) → option_map_or is_empty_list o false ≡ true → o ≡ Some (array no_items)
empty_found None h = absurd (true≢false (sym h))
empty_found (Some null) h = absurd (true≢false (sym h))
empty_found (Some (boolean b)) h = absurd (true≢false (sym h))
empty_found (Some (number n)) h = absurd (true≢false (sym h))
empty_found (Some (string s)) h = absurd (true≢false (sym h))
empty_found (Some (array no_items)) h = refl
empty_found (Some (array (item d ds))) h = absurd (true≢false (sym h))
empty_found (Some (object ms)) h = absurd (true≢false (sym h))

pub get-is_empty_list : (name : List ℕ) (d : Data) → passes_at is_empty_list name d ≡ true → get name d ≡ Some (array no_items)
get-is_empty_list name d h = empty_found (get name d) h

number_found : (o : Option Data) (n : ℕ) → option_map_or (is_number n) o false ≡ true → o ≡ Some (number (unsigned n))
number_found None n h = absurd (true≢false (sym h))
number_found (Some null) n h = absurd (true≢false (sym h))
number_found (Some (boolean b)) n h = absurd (true≢false (sym h))
number_found (Some (number (unsigned m))) n h = ap (λ k. Some (number (unsigned k))) (eqb-true m n h)
number_found (Some (number (negative z))) n h = absurd (true≢false (sym h))
number_found (Some (number (float x))) n h = absurd (true≢false (sym h))
number_found (Some (string s)) n h = absurd (true≢false (sym h))
number_found (Some (array ds)) n h = absurd (true≢false (sym h))
number_found (Some (object ms)) n h = absurd (true≢false (sym h))

pub get-is_number : (name : List ℕ) (n : ℕ) (d : Data) → passes_at (is_number n) name d ≡ true → get name d ≡ Some (number (unsigned n))
get-is_number name n d h = number_found (get name d) n h

-- the second of two, where not the first
pub second : (a b : Bool) → (a || b) ≡ true → a ≡ false → b ≡ true
second true b h p = absurd (true≢false p)
second false b h p = h

-- the last of three, where neither of the others
pub third : (a b c : Bool) → (a || b || c) ≡ true → a ≡ false → b ≡ false → c ≡ true
third true b c h p q = absurd (true≢false p)
third false true c h p q = absurd (true≢false q)
third false false c h p q = h

-- one of the last two of three, where not the first
pub later : (a b c : Bool) → (a || b || c) ≡ true → a ≡ false → (b || c) ≡ true
later true b c h p = absurd (true≢false p)
later false b c h p = h

-- ---- the parts of a form

pub record CombinationalParts (d : Data) : Type 0 where
  pub kind : get (codes "kind") d ≡ Some (string (codes "comb"))
  pub slots : get (codes "slots") d ≡ Some (array no_items)
  pub start : passes_at is_start (codes "start") d ≡ true

pub combinational_parts : (d : Data) → is_combinational d ≡ true → CombinationalParts d
combinational_parts d h =
    let a = and_parts _ _ h in
    let b = and_parts _ _ a.0 in
    record { kind = get-is_word (codes "kind") (codes "comb") d b.0; slots = get-is_empty_list (codes "slots") d b.1; start = a.1 }

pub record EdgeParts (d : Data) : Type 0 where
  pub kind : get (codes "kind") d ≡ Some (string (codes "edge"))
  pub slots : get (codes "slots") d ≡ Some (array no_items)
  pub start : get (codes "start") d ≡ Some (string (codes "none"))

pub edge_parts : (d : Data) → is_edge_process d ≡ true → EdgeParts d
edge_parts d h =
    let a = and_parts _ _ h in
    let b = and_parts _ _ a.0 in
    record { kind = get-is_word (codes "kind") (codes "edge") d b.0; slots = get-is_empty_list (codes "slots") d b.1; start = get-is_word (codes "start") (codes "none") d a.1 }

pub record TimedParts (numeric : Data → Bool) (d : Data) : Type 0 where
  pub slots : passes_at (is_list (is_list numeric)) (codes "slots") d ≡ true
  pub start : get (codes "start") d ≡ Some (string (codes "none"))

timed_parts : (word : List ℕ) (numeric : Data → Bool) (d : Data) → is_timed_process word numeric d ≡ true → TimedParts numeric d
timed_parts word numeric d h =
    let a = and_parts _ _ h in
    let b = and_parts _ _ a.0 in
    record { slots = b.1; start = get-is_word (codes "start") (codes "none") d a.1 }

pub times_parts : (numeric : Data → Bool) (d : Data) → is_times_process numeric d ≡ true → TimedParts numeric d
times_parts numeric d h = elim (or_cases (is_timed_process (codes "delay") numeric d) (is_timed_process (codes "mixed") numeric d) h) [
  | inl delay ↦ timed_parts (codes "delay") numeric d delay
  | inr mixed ↦ timed_parts (codes "mixed") numeric d mixed
]

-- what waits for times and isn't of kind delay is mixed
pub mixed_word : (numeric : Data → Bool) (d : Data) → is_times_process numeric d ≡ true → passes_at (is_word (codes "delay")) (codes "kind") d ≡ false
    → get (codes "kind") d ≡ Some (string (codes "mixed"))
mixed_word numeric d h other = elim (or_cases (is_timed_process (codes "delay") numeric d) (is_timed_process (codes "mixed") numeric d) h) [
  | inl delay ↦ absurd (true≢false (sym (and_parts _ _ (and_parts _ _ delay).0).0 ∙ other))
  | inr mixed ↦ get-is_word (codes "kind") (codes "mixed") d (and_parts _ _ (and_parts _ _ mixed).0).0
]

pub record VersionOneParts (d : Data) : Type 0 where
  pub names : has_names names_of_one d ≡ true
  pub version : get (codes "version") d ≡ Some (number (unsigned 1))

pub version_one_parts : (d : Data) → is_version_one d ≡ true → VersionOneParts d
version_one_parts d h =
    let a = and_parts _ _ (and_parts _ _ (and_parts _ _ h).0).0 in
    record { names = a.0; version = get-is_number (codes "version") 1 d a.1 }

pub record LaterParts (version : ℕ) (d : Data) : Type 0 where
  pub names : has_names (codes "displays" ∷ names_of_one) d ≡ true
  pub version_is : get (codes "version") d ≡ Some (number (unsigned version))
  pub displays : passes_at is_flag (codes "displays") d ≡ true

pub later_parts : (version : ℕ) (d : Data) → is_of_later version d ≡ true → LaterParts version d
later_parts version d h =
    let a = and_parts _ _ h in
    let b = and_parts _ _ a.0 in
    record { names = b.0; version_is = get-is_number (codes "version") version d b.1; displays = a.1 }

pub version_two_parts : (d : Data) → is_version_two d ≡ true → LaterParts 2 d
version_two_parts d h = later_parts 2 d (and_parts _ _ h).0

pub version_three_parts : (d : Data) → is_version_three d ≡ true → LaterParts 3 d
version_three_parts d h = later_parts 3 d h

-- one of version 2 or 3 has `displays`
pub either_displays : (d : Data) → (is_version_two d || is_version_three d) ≡ true → passes_at is_flag (codes "displays") d ≡ true
either_displays d h = elim (or_cases (is_version_two d) (is_version_three d) h) [
  | inl two ↦ (version_two_parts d two).displays
  | inr three ↦ (version_three_parts d three).displays
]

pub record CertificateParts (numeric : Data → Bool) (d : Data) : Type 0 where
  pub edges : passes_at (is_list is_edge_signal) (codes "edges") d ≡ true
  pub grain : passes_at is_grain (codes "grain") d ≡ true
  pub modulus : passes_at numeric (codes "modulus") d ≡ true
  pub order : passes_at (is_list is_text) (codes "order") d ≡ true
  pub processes : passes_at (is_list (is_process_entry numeric)) (codes "processes") d ≡ true
  pub signals : passes_at (is_list is_signal_entry) (codes "signals") d ≡ true
  pub version : (is_version_one d || is_version_two d || is_version_three d) ≡ true

pub certificate_parts : (numeric : Data → Bool) (d : Data) → is_certificate numeric d ≡ true → CertificateParts numeric d
certificate_parts numeric d h =
    let version = and_parts _ _ h in
    let signals = and_parts _ _ version.0 in
    let processes = and_parts _ _ signals.0 in
    let order = and_parts _ _ processes.0 in
    let modulus = and_parts _ _ order.0 in
    let grain = and_parts _ _ modulus.0 in
    record { edges = grain.0; grain = grain.1; modulus = modulus.1; order = order.1; processes = processes.1; signals = signals.1; version = version.1 }
