-- The value of a certificate within its limits is plain, and has the form of a certificate.
use Rattle.std.proofs.Common.{◌≡◌, ℕ, ℤ, ◌+◌, ◌^◌, ◌<◌, ◌≤◌, Bool, true, false, not, ◌&&◌, ◌||◌, nat_le, nat_lt, Option, None, Some, option_and_then, List, [], ◌∷◌, map, String, Vec, Global, codes, true≢false, refl, sym, ap, ap₂, ◌∙◌, arith, ltb-true}
use Rattle.std.specs.Option.{option_map_or}
use Rattle.serde_json.specs.Find.{get, as_number, as_integer}
use Rattle.std.proofs.lemmas.Bool.{and_parts, leb-true, and_from}
use Rattle.std.proofs.lemmas.Str.{IsUtf8-string_bytes}
use Rattle.std.specs.List.{list_all}
use Rattle.json.specs.Tree.{depth}
use Rattle.json.proofs.Printed.Utf8.{IsUtf8-are_ascii}
use Rattle.serde_json.specs.Data.{Data, string}
use Rattle.serde_json.specs.Read.{max_depth}
use Rattle.serde_json.specs.View.{items_of}
use Rattle.serde_json.specs.Written.{outline}
use Rattle.vs_certificate.specs.declared.members.Certificate.{Certificate}
use Rattle.vs_certificate.specs.declared.members.EdgeSignal.{EdgeSignal}
use Rattle.vs_certificate.specs.declared.members.ClaimedGrain.{ClaimedGrain}
use Rattle.vs_certificate.specs.declared.members.ClaimedGrain.TheVariants as grains
use Rattle.vs_certificate.specs.declared.members.ProcessEntry.{ProcessEntry}
use Rattle.vs_certificate.specs.declared.members.ClaimedKind.{ClaimedKind}
use Rattle.vs_certificate.specs.declared.members.ClaimedKind.TheVariants as kinds
use Rattle.vs_certificate.specs.declared.members.SignalEntry.{SignalEntry}
use Rattle.vs_certificate.specs.declared.members.SignalMode.{SignalMode}
use Rattle.vs_certificate.specs.declared.members.SignalMode.TheVariants as modes
use Rattle.vs_certificate.specs.declared.members.Start.TheVariants as starts
use Rattle.vs_certificate.specs.declared.members.Rules.{Rules}
use Rattle.vs_certificate.specs.declared.members.Rules.TheVariants.{Narrow, Wide}
use Rattle.vs_certificate.specs.declared.members.Version.{Version}
use Rattle.vs_certificate.specs.declared.members.Version.TheVariants as versions
use Rattle.vs_certificate.specs.JsonValue.{kind_word, grain_value, mode_value, text_value, list_value, whole_value, residues_value, slots_value, start_value, edge_value, process_value, signal_value, flag_value, object_with, shared_members, members_by, value_of}
use Rattle.vs_certificate.specs.Shape.{is_whole, is_word, all_items, is_list, passes_at, is_text, is_grain, is_mode, is_edge_signal, is_signal_entry, is_process_entry, lacks, has_shared, is_certificate}
use Rattle.vs_certificate.specs.Limits.{rise, is_within, are_residues, are_slots, are_processes, is_modulus, is_within_limits}
use Rattle.vs_certificate.specs.Reading.{is_version, is_wide_version, is_other_version, is_unknown_version, is_other_for, ReadsBack, NarrowIsWide, IsSound, IsSoundWide, IsSoundBy, other_by}
use Rattle.vs_certificate.specs.Versions.{has_kind, has_mode, has_own_words, is_narrow}
use Rattle.vs_certificate.proofs.Plain.{IsPlain, ArePlainItems, of_json-outline, IsUtf8-compact_text, read-compact_text}
use Rattle.vs_certificate.proofs.Natural.{limit_parts}

-- ---- lists

plain_list : {A : Type 0} (value : A → Data) → ((x : A) → IsPlain (value x)) → (xs : List A) → IsPlain (list_value value xs)
plain_list value each [] = tt
plain_list value each (x ∷ xs) = (each x, plain_list value each xs)

formed_list : {A : Type 0} (value : A → Data) (test : Data → Bool) → ((x : A) → test (value x) ≡ true) → (xs : List A) → is_list test (list_value value xs) ≡ true
formed_list value test each [] = refl
formed_list value test each (x ∷ xs) = rw (each x) (formed_list value test each xs)

shallow_list : {A : Type 0} (value : A → Data) (deep : ℕ) → ((x : A) → depth (outline (value x)) ≤ deep) → (xs : List A) → depth (outline (list_value value xs)) ≤ deep + 1
shallow_list value deep each [] = omega arith
shallow_list value deep each (x ∷ xs) = let rest = shallow_list value deep each xs in omega (arith, each x)

-- ---- residues

plain_rising : (low modulus : ℕ) (rs : List ℕ) → modulus ≤ 2 ^ 32 → rise low modulus (items_of (map whole_value rs)) ≡ true → ArePlainItems (items_of (map whole_value rs))
plain_rising low modulus [] small h = tt
plain_rising low modulus (r ∷ rs) small h =
    let a = and_parts (nat_le low r && nat_lt r modulus) (rise (r + 1) modulus (items_of (map whole_value rs))) h in
    let below : r < modulus = ltb-true r modulus (and_parts (nat_le low r) (nat_lt r modulus) a.0).1 in
    (omega arith, plain_rising (r + 1) modulus rs small a.1)

plain_residues : (most modulus : ℕ) → modulus ≤ 2 ^ 32 → (residues : Vec ℕ Global) → are_residues most modulus (residues_value residues) ≡ true → IsPlain (residues_value residues)
plain_residues most modulus small residues h = plain_rising 0 modulus residues.items small (and_parts (is_within most (residues_value residues)) (rise 0 modulus (items_of (map whole_value residues.items))) h).1

plain_slots_items : (most modulus : ℕ) → modulus ≤ 2 ^ 32 → (slots : List (Vec ℕ Global)) → all_items (are_residues most modulus) (items_of (map residues_value slots)) ≡ true → ArePlainItems (items_of (map residues_value slots))
plain_slots_items most modulus small [] h = tt
plain_slots_items most modulus small (r ∷ rs) h =
    let a = and_parts (are_residues most modulus (residues_value r)) (all_items (are_residues most modulus) (items_of (map residues_value rs))) h in
    (plain_residues most modulus small r a.0, plain_slots_items most modulus small rs a.1)

plain_slots : (most modulus : ℕ) → modulus ≤ 2 ^ 32 → (kind : ClaimedKind) → are_slots most modulus (slots_value kind) ≡ true → IsPlain (slots_value kind)
plain_slots most modulus small (kinds.Combinational start) h = tt
plain_slots most modulus small kinds.Edge h = tt
plain_slots most modulus small (kinds.Delay slots) h =
    plain_slots_items most modulus small slots.items (and_parts (is_within 65536 (slots_value (kinds.Delay slots))) (all_items (are_residues most modulus) (items_of (map residues_value slots.items))) h).1
plain_slots most modulus small (kinds.Mixed slots) h =
    plain_slots_items most modulus small slots.items (and_parts (is_within 65536 (slots_value (kinds.Mixed slots))) (all_items (are_residues most modulus) (items_of (map residues_value slots.items))) h).1

-- ---- words

plain_grain : (g : ClaimedGrain) → IsPlain (grain_value g)
plain_grain grains.Block = IsUtf8-are_ascii _ refl
plain_grain grains.Statement = IsUtf8-are_ascii _ refl

formed_grain : (g : ClaimedGrain) → is_grain (grain_value g) ≡ true
formed_grain grains.Block = refl
formed_grain grains.Statement = refl

plain_mode : (m : SignalMode) → IsPlain (mode_value m)
plain_mode modes.Net = IsUtf8-are_ascii _ refl
plain_mode modes.Unwritten = IsUtf8-are_ascii _ refl
plain_mode modes.Combinational = IsUtf8-are_ascii _ refl
plain_mode modes.Nonblocking = IsUtf8-are_ascii _ refl
plain_mode modes.Blocking = IsUtf8-are_ascii _ refl
plain_mode modes.Private = IsUtf8-are_ascii _ refl
plain_mode modes.Both = IsUtf8-are_ascii _ refl

formed_mode : (m : SignalMode) → is_mode (mode_value m) ≡ true
formed_mode modes.Net = refl
formed_mode modes.Unwritten = refl
formed_mode modes.Combinational = refl
formed_mode modes.Nonblocking = refl
formed_mode modes.Blocking = refl
formed_mode modes.Private = refl
formed_mode modes.Both = refl

plain_kind_word : (kind : ClaimedKind) → IsPlain (string (kind_word kind))
plain_kind_word (kinds.Combinational start) = IsUtf8-are_ascii _ refl
plain_kind_word kinds.Edge = IsUtf8-are_ascii _ refl
plain_kind_word (kinds.Delay slots) = IsUtf8-are_ascii _ refl
plain_kind_word (kinds.Mixed slots) = IsUtf8-are_ascii _ refl

plain_start : (kind : ClaimedKind) → IsPlain (start_value kind)
plain_start (kinds.Combinational starts.Cold) = IsUtf8-are_ascii _ refl
plain_start (kinds.Combinational starts.Sources) = IsUtf8-are_ascii _ refl
plain_start (kinds.Combinational starts.Starter) = IsUtf8-are_ascii _ refl
plain_start kinds.Edge = IsUtf8-are_ascii _ refl
plain_start (kinds.Delay slots) = IsUtf8-are_ascii _ refl
plain_start (kinds.Mixed slots) = IsUtf8-are_ascii _ refl

-- ---- entries

plain_text : (s : String Global) → IsPlain (text_value s)
plain_text s = IsUtf8-string_bytes s

plain_edge : (e : EdgeSignal) → IsPlain (edge_value e)
plain_edge e = ((refl, plain_text e.root, (refl, plain_text e.signal, tt)), refl)

plain_signal : (s : SignalEntry) → IsPlain (signal_value s)
plain_signal s = ((refl, plain_mode s.mode, (refl, plain_text s.name, (refl, plain_text s.second, (refl, plain_text s.writer, tt)))), refl)

formed_signal : (s : SignalEntry) → is_signal_entry (signal_value s) ≡ true
formed_signal s = rw (formed_mode s.mode) refl

plain_process : (most modulus : ℕ) → modulus ≤ 2 ^ 32 → (p : ProcessEntry) → are_slots most modulus (slots_value p.kind) ≡ true → IsPlain (process_value p)
plain_process most modulus small p h =
    let slots = plain_slots most modulus small p.kind h in
    let start = plain_start p.kind in
    ((refl, plain_kind_word p.kind, (refl, plain_text p.name, (refl, slots, (refl, start, tt)))), rw (of_json-outline (slots_value p.kind) slots, of_json-outline (start_value p.kind) start) refl)

plain_process_items : (most modulus : ℕ) → modulus ≤ 2 ^ 32 → (ps : List ProcessEntry) → all_items (passes_at (are_slots most modulus) (codes "slots")) (items_of (map process_value ps)) ≡ true →
    ArePlainItems (items_of (map process_value ps))
plain_process_items most modulus small [] h = tt
plain_process_items most modulus small (p ∷ ps) h =
    let a = and_parts (are_slots most modulus (slots_value p.kind)) (all_items (passes_at (are_slots most modulus) (codes "slots")) (items_of (map process_value ps))) h in
    (plain_process most modulus small p a.0, plain_process_items most modulus small ps a.1)

plain_processes : (most modulus : ℕ) → modulus ≤ 2 ^ 32 → (ps : List ProcessEntry) → are_processes most modulus (list_value process_value ps) ≡ true → IsPlain (list_value process_value ps)
plain_processes most modulus small ps h =
    plain_process_items most modulus small ps (and_parts (is_within 65536 (list_value process_value ps)) (all_items (passes_at (are_slots most modulus) (codes "slots")) (items_of (map process_value ps))) h).1

formed_residues : (residues : Vec ℕ Global) → is_list is_whole (residues_value residues) ≡ true
formed_residues residues = formed_list whole_value is_whole (λ n. refl) residues.items

formed_kind : (name : String Global) (kind : ClaimedKind) → is_process_entry is_whole (process_value (record { kind = kind; name = name })) ≡ true
formed_kind name (kinds.Combinational starts.Cold) = refl
formed_kind name (kinds.Combinational starts.Sources) = refl
formed_kind name (kinds.Combinational starts.Starter) = refl
formed_kind name kinds.Edge = refl
formed_kind name (kinds.Delay slots) = rw (formed_list residues_value (is_list is_whole) formed_residues slots.items) refl
formed_kind name (kinds.Mixed slots) = rw (formed_list residues_value (is_list is_whole) formed_residues slots.items) refl

formed_process : (p : ProcessEntry) → is_process_entry is_whole (process_value p) ≡ true
formed_process p = formed_kind p.name p.kind

shallow_slots : (kind : ClaimedKind) → depth (outline (slots_value kind)) ≤ 2
shallow_slots (kinds.Combinational start) = omega arith
shallow_slots kinds.Edge = omega arith
shallow_slots (kinds.Delay slots) = shallow_list residues_value 1 (λ r. shallow_list whole_value 0 (λ n. omega arith) r.items) slots.items
shallow_slots (kinds.Mixed slots) = shallow_list residues_value 1 (λ r. shallow_list whole_value 0 (λ n. omega arith) r.items) slots.items

shallow_start : (kind : ClaimedKind) → depth (outline (start_value kind)) ≤ 0
shallow_start (kinds.Combinational start) = omega arith
shallow_start kinds.Edge = omega arith
shallow_start (kinds.Delay slots) = omega arith
shallow_start (kinds.Mixed slots) = omega arith

shallow_process : (p : ProcessEntry) → depth (outline (process_value p)) ≤ 3
shallow_process p = omega (arith, shallow_slots p.kind, shallow_start p.kind)

-- ---- the words of a version

abbrev have_kinds : Version → List ProcessEntry → Bool
have_kinds version ps = list_all (λ (p : ProcessEntry). has_kind version p.kind) ps

abbrev have_modes : Version → List SignalEntry → Bool
have_modes version ss = list_all (λ (s : SignalEntry). has_mode version s.mode) ss

-- no start `starter`, no kind `mixed`, no mode `both`
abbrev starter_free : List ProcessEntry → Bool
starter_free ps = all_items (lacks (codes "start") (codes "starter")) (items_of (map process_value ps))

abbrev mixed_free : List ProcessEntry → Bool
mixed_free ps = all_items (lacks (codes "kind") (codes "mixed")) (items_of (map process_value ps))

abbrev both_free : List SignalEntry → Bool
both_free ss = all_items (lacks (codes "mode") (codes "both")) (items_of (map signal_value ss))

kind_one : (k : ClaimedKind) → (not (is_word (codes "starter") (start_value k)) && not (is_word (codes "mixed") (string (kind_word k)))) ≡ has_kind versions.One k
kind_one (kinds.Combinational starts.Cold) = refl
kind_one (kinds.Combinational starts.Sources) = refl
kind_one (kinds.Combinational starts.Starter) = refl
kind_one kinds.Edge = refl
kind_one (kinds.Delay slots) = refl
kind_one (kinds.Mixed slots) = refl

kind_two : (displays : Bool) (k : ClaimedKind) → not (is_word (codes "mixed") (string (kind_word k))) ≡ has_kind (versions.Two displays) k
kind_two displays (kinds.Combinational start) = refl
kind_two displays kinds.Edge = refl
kind_two displays (kinds.Delay slots) = refl
kind_two displays (kinds.Mixed slots) = refl

mode_one : (m : SignalMode) → not (is_word (codes "both") (mode_value m)) ≡ has_mode versions.One m
mode_one modes.Net = refl
mode_one modes.Unwritten = refl
mode_one modes.Combinational = refl
mode_one modes.Nonblocking = refl
mode_one modes.Blocking = refl
mode_one modes.Private = refl
mode_one modes.Both = refl

mode_two : (displays : Bool) (m : SignalMode) → not (is_word (codes "both") (mode_value m)) ≡ has_mode (versions.Two displays) m
mode_two displays modes.Net = refl
mode_two displays modes.Unwritten = refl
mode_two displays modes.Combinational = refl
mode_two displays modes.Nonblocking = refl
mode_two displays modes.Blocking = refl
mode_two displays modes.Private = refl
mode_two displays modes.Both = refl

-- of two lists of tests the first two tests, and the others
crossed : (a b x y : Bool) → ((a && x) && (b && y)) ≡ ((a && b) && (x && y))
crossed true true x y = refl
crossed true false true y = refl
crossed true false false y = refl
crossed false b x y = refl

kinds_one : (ps : List ProcessEntry) → (starter_free ps && mixed_free ps) ≡ have_kinds versions.One ps
kinds_one [] = refl
kinds_one (p ∷ ps) =
    let starter = not (is_word (codes "starter") (start_value p.kind)) in
    let mixed = not (is_word (codes "mixed") (string (kind_word p.kind))) in
    crossed starter mixed (starter_free ps) (mixed_free ps) ∙ ap₂ (λ a b. a && b) (kind_one p.kind) (kinds_one ps)

modes_one : (ss : List SignalEntry) → both_free ss ≡ have_modes versions.One ss
modes_one [] = refl
modes_one (s ∷ ss) = ap₂ (λ a b. a && b) (mode_one s.mode) (modes_one ss)

modes_two : (displays : Bool) (ss : List SignalEntry) → both_free ss ≡ have_modes (versions.Two displays) ss
modes_two displays [] = refl
modes_two displays (s ∷ ss) = ap₂ (λ a b. a && b) (mode_two displays s.mode) (modes_two displays ss)

kinds_two : (displays : Bool) (ps : List ProcessEntry) → mixed_free ps ≡ have_kinds (versions.Two displays) ps
kinds_two displays [] = refl
kinds_two displays (p ∷ ps) = ap₂ (λ a b. a && b) (kind_two displays p.kind) (kinds_two displays ps)

kinds_three : (displays : Bool) (ps : List ProcessEntry) → have_kinds (versions.Three displays) ps ≡ true
kinds_three displays [] = refl
kinds_three displays (p ∷ ps) = kinds_three displays ps

modes_three : (displays : Bool) (ss : List SignalEntry) → have_modes (versions.Three displays) ss ≡ true
modes_three displays [] = refl
modes_three displays (s ∷ ss) = modes_three displays ss

abbrev have_words : Version → Certificate → Bool
have_words version c = have_kinds version c.processes.items && have_modes version c.signals.items

-- ---- the whole

-- the value of a certificate as one of this version
abbrev value_by : Version → Certificate → Data
value_by version c = object_with (members_by version c)

record ArePlain (c : Certificate) : Type 0 where
  pub edges : IsPlain (list_value edge_value c.edges.items)
  pub modulus : IsPlain (whole_value c.modulus)
  pub order : IsPlain (list_value text_value c.order.items)
  pub processes : IsPlain (list_value process_value c.processes.items)
  pub signals : IsPlain (list_value signal_value c.signals.items)

plain_members : (most : ℕ) (c : Certificate) → is_modulus c.modulus ≡ true → are_processes most c.modulus (list_value process_value c.processes.items) ≡ true → ArePlain c
plain_members most c fits processes =
    let small : c.modulus ≤ 2 ^ 32 = leb-true c.modulus (2 ^ 32) (and_parts (nat_le 1 c.modulus) (nat_le c.modulus (2 ^ 32)) fits).1 in
    record {
      edges = plain_list edge_value plain_edge c.edges.items;
      modulus = omega arith;
      order = plain_list text_value plain_text c.order.items;
      processes = plain_processes most c.modulus small c.processes.items processes;
      signals = plain_list signal_value plain_signal c.signals.items;
    }

-- of a version that has `displays`
abbrev later_value : ℕ → Bool → Certificate → Data
later_value number displays c = object_with ((codes "displays", flag_value displays) ∷ shared_members number c)

plain_later : (number : ℕ) (displays : Bool) (c : Certificate) → IsPlain (whole_value number) → ArePlain c → IsPlain (later_value number displays c)
plain_later number displays c is p = (
  (refl, tt, (refl, p.edges, (refl, plain_grain c.grain, (refl, p.modulus, (refl, p.order, (refl, p.processes, (refl, p.signals, (refl, is, tt)))))))),
  rw (
    of_json-outline (list_value edge_value c.edges.items) p.edges,
    of_json-outline (whole_value c.modulus) p.modulus,
    of_json-outline (list_value text_value c.order.items) p.order,
    of_json-outline (list_value process_value c.processes.items) p.processes,
    of_json-outline (list_value signal_value c.signals.items) p.signals,
    of_json-outline (whole_value number) is,
  ) refl,
)

plain_by : (version : Version) (c : Certificate) → is_within_limits (value_by version c) ≡ true → IsPlain (value_by version c)
plain_by versions.One c h =
    let limits = limit_parts (value_by versions.One c) c.modulus h in
    let p = plain_members 64 c limits.fits limits.processes in
    let one : IsPlain (whole_value 1) = omega arith in (
      (refl, p.edges, (refl, plain_grain c.grain, (refl, p.modulus, (refl, p.order, (refl, p.processes, (refl, p.signals, (refl, one, tt))))))),
      rw (
        of_json-outline (list_value edge_value c.edges.items) p.edges,
        of_json-outline (whole_value c.modulus) p.modulus,
        of_json-outline (list_value text_value c.order.items) p.order,
        of_json-outline (list_value process_value c.processes.items) p.processes,
        of_json-outline (list_value signal_value c.signals.items) p.signals,
        of_json-outline (whole_value 1) one,
      ) refl,
    )
plain_by (versions.Two displays) c h =
    let limits = limit_parts (value_by (versions.Two displays) c) c.modulus h in
    plain_later 2 displays c (omega arith) (plain_members 64 c limits.fits limits.processes)
plain_by (versions.Three displays) c h =
    let limits = limit_parts (value_by (versions.Three displays) c) c.modulus h in
    plain_later 3 displays c (omega arith) (plain_members 4096 c limits.fits limits.processes)

shared_later : (number : ℕ) (displays : Bool) (c : Certificate) → has_shared is_whole (later_value number displays c) ≡ true
shared_later number displays c =
    rw (
      formed_list edge_value is_edge_signal (λ e. refl) c.edges.items,
      formed_grain c.grain,
      formed_list text_value is_text (λ s. refl) c.order.items,
      formed_list process_value (is_process_entry is_whole) formed_process c.processes.items,
      formed_list signal_value is_signal_entry formed_signal c.signals.items,
    ) refl

shared_by : (version : Version) (c : Certificate) → has_shared is_whole (value_by version c) ≡ true
shared_by versions.One c =
    rw (
      formed_list edge_value is_edge_signal (λ e. refl) c.edges.items,
      formed_grain c.grain,
      formed_list text_value is_text (λ s. refl) c.order.items,
      formed_list process_value (is_process_entry is_whole) formed_process c.processes.items,
      formed_list signal_value is_signal_entry formed_signal c.signals.items,
    ) refl
shared_by (versions.Two displays) c = shared_later 2 displays c
shared_by (versions.Three displays) c = shared_later 3 displays c

formed_by : (version : Version) (c : Certificate) → have_words version c ≡ true → is_certificate is_whole (value_by version c) ≡ true
formed_by versions.One c own =
    let parts = and_parts (have_kinds versions.One c.processes.items) (have_modes versions.One c.signals.items) own in
    let kinds = and_parts (starter_free c.processes.items) (mixed_free c.processes.items) (kinds_one c.processes.items ∙ parts.0) in
    let modes : both_free c.signals.items ≡ true = modes_one c.signals.items ∙ parts.1 in
    rw (shared_by versions.One c, kinds.0, kinds.1, modes) refl
formed_by (versions.Two displays) c own =
    let parts = and_parts (have_kinds (versions.Two displays) c.processes.items) (have_modes (versions.Two displays) c.signals.items) own in
    let kinds : mixed_free c.processes.items ≡ true = kinds_two displays c.processes.items ∙ parts.0 in
    let modes : both_free c.signals.items ≡ true = modes_two displays c.signals.items ∙ parts.1 in
    rw (shared_by (versions.Two displays) c, kinds, modes) refl
formed_by (versions.Three displays) c own = rw (shared_by (versions.Three displays) c) refl

-- of three tests, the last two of which fail, the first holds; of three whose first and last fail, the second
only_first : (b : Bool) → (b || false || false) ≡ true → b ≡ true
only_first true h = refl
only_first false h = h

only_second : (b : Bool) → (false || b || false) ≡ true → b ≡ true
only_second true h = refl
only_second false h = h

-- what has the form of a certificate has the words of its version
words_by : (version : Version) (c : Certificate) → is_certificate is_whole (value_by version c) ≡ true → have_words version c ≡ true
words_by versions.One c h =
    let own : (starter_free c.processes.items && (both_free c.signals.items && mixed_free c.processes.items)) ≡ true =
    only_first _ (and_parts (has_shared is_whole (value_by versions.One c)) _ h).1 in
    let parts = and_parts (starter_free c.processes.items) (both_free c.signals.items && mixed_free c.processes.items) own in
    let narrow = and_parts (both_free c.signals.items) (mixed_free c.processes.items) parts.1 in
    and_from _ _ (sym (kinds_one c.processes.items) ∙ and_from _ _ parts.0 narrow.1) (sym (modes_one c.signals.items) ∙ narrow.0)
words_by (versions.Two displays) c h =
    let own : (both_free c.signals.items && mixed_free c.processes.items) ≡ true =
    only_second _ (and_parts (has_shared is_whole (value_by (versions.Two displays) c)) _ h).1 in
    let narrow = and_parts (both_free c.signals.items) (mixed_free c.processes.items) own in
    and_from _ _ (sym (kinds_two displays c.processes.items) ∙ narrow.1) (sym (modes_two displays c.signals.items) ∙ narrow.0)
words_by (versions.Three displays) c h = and_from _ _ (kinds_three displays c.processes.items) (modes_three displays c.signals.items)

shallow_later : (number : ℕ) (displays : Bool) (c : Certificate) → depth (outline (later_value number displays c)) ≤ max_depth
shallow_later number displays c =
    omega (
      arith,
      shallow_list edge_value 1 (λ e. omega arith) c.edges.items,
      shallow_list text_value 0 (λ s. omega arith) c.order.items,
      shallow_list process_value 3 shallow_process c.processes.items,
      shallow_list signal_value 1 (λ s. omega arith) c.signals.items,
    )

shallow_by : (version : Version) (c : Certificate) → depth (outline (value_by version c)) ≤ max_depth
shallow_by versions.One c =
    omega (
      arith,
      shallow_list edge_value 1 (λ e. omega arith) c.edges.items,
      shallow_list text_value 0 (λ s. omega arith) c.order.items,
      shallow_list process_value 3 shallow_process c.processes.items,
      shallow_list signal_value 1 (λ s. omega arith) c.signals.items,
    )
shallow_by (versions.Two displays) c = shallow_later 2 displays c
shallow_by (versions.Three displays) c = shallow_later 3 displays c

-- ---- C3

known_by : (version : Version) (c : Certificate) → is_other_for version (value_by version c) ≡ false
known_by versions.One c = refl
known_by (versions.Two displays) c = refl
known_by (versions.Three displays) c = refl

known_wide : (version : Version) (c : Certificate) → is_unknown_version (value_by version c) ≡ false
known_wide versions.One c = refl
known_wide (versions.Two displays) c = refl
known_wide (versions.Three displays) c = refl

known_narrow : (version : Version) (c : Certificate) → is_other_version (value_by version c) ≡ not (is_narrow version)
known_narrow versions.One c = refl
known_narrow (versions.Two displays) c = refl
known_narrow (versions.Three displays) c = refl

-- within its limits, and with the words of its version, no test fails of the value
sound_by : (is_other : Data → Bool) (c : Certificate) → is_other (value_of c) ≡ false → has_own_words c ≡ true → is_within_limits (value_of c) ≡ true → IsSoundBy is_other (value_of c)
sound_by is_other c known own within = record { version = known; shape = formed_by c.version c own; limits = within }

pub sound_wide : (c : Certificate) → has_own_words c ≡ true → is_within_limits (value_of c) ≡ true → IsSoundWide (value_of c)
sound_wide c own within = sound_by is_unknown_version c (known_wide c.version c) own within

pub sound_value : (c : Certificate) → is_narrow c.version ≡ true → has_own_words c ≡ true → is_within_limits (value_of c) ≡ true → IsSound (value_of c)
sound_value c narrow own within = sound_by is_other_version c (known_narrow c.version c ∙ ap not narrow) own within

pub own_words : (is_other : Data → Bool) (c : Certificate) → IsSoundBy is_other (value_of c) → has_own_words c ≡ true
own_words is_other c sound = words_by c.version c sound.shape

-- a certificate of which no test of versions 1 and 2 fails is of one of them
pub sound_narrow : (c : Certificate) → IsSound (value_of c) → is_narrow c.version ≡ true
sound_narrow c sound = turn (is_narrow c.version) (sym (known_narrow c.version c) ∙ sound.version)
  where
    turn : (b : Bool) → not b ≡ false → b ≡ true
    turn true h = refl
    turn false h = absurd (true≢false h)

-- of one of versions 1 and 2, the tests of version 3 are theirs
pub narrow_sound : (c : Certificate) → is_narrow c.version ≡ true → IsSoundWide (value_of c) → IsSound (value_of c)
narrow_sound c narrow sound = sound_value c narrow (own_words is_unknown_version c sound) sound.limits

pub reads_back : (c : Certificate) → ReadsBack c
reads_back c own within short =
    let plain = plain_by c.version c within in
    record {
      json = record { short = short; reads = (IsUtf8-compact_text (value_of c) plain, read-compact_text (value_of c) plain (shallow_by c.version c)) };
      sound = sound_by (is_other_for c.version) c (known_by c.version c) own within;
    }

-- ---- the tests of version 3 are weaker

weaker_number : (z : ℤ) → not (is_version z) ≡ false → not (is_wide_version z) ≡ false
weaker_number z h = rw (turned (is_version z) h) refl
  where
    turned : (b : Bool) → not b ≡ false → b ≡ true
    turned true h = refl
    turned false h = absurd (true≢false h)

weaker_found : (o : Option ℤ) → option_map_or (λ z. not (is_version z)) o false ≡ false → option_map_or (λ z. not (is_wide_version z)) o false ≡ false
weaker_found None h = refl
weaker_found (Some z) h = weaker_number z h

pub sound_weaker : (d : Data) → IsSound d → IsSoundWide d
sound_weaker d s = record {
  version = weaker_found (option_and_then as_integer (option_and_then as_number (get (codes "version") d))) s.version;
  shape = s.shape;
  limits = s.limits;
}

pub sound_for : (r : Rules) (d : Data) → IsSoundBy (other_by r) d → IsSoundWide d
sound_for Narrow d s = sound_weaker d s
sound_for Wide d s = s

pub narrow_is_wide : NarrowIsWide
narrow_is_wide bytes d p = record { json = p.json; sound = sound_weaker d p.sound }
