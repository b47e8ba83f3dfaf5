-- What the readers of certificates test of a JSON value, and what is asked of claims.
use Rattle.std.proofs.Common.{◌≡◌, ◌⊎◌, ℕ, suc, ◌+◌, ◌^◌, ◌≤◌, Bool, true, false, ◌&&◌, ◌||◌, nat_le, nat_lt, le-leb, List, [], ◌∷◌, length, map, All, Vec, Global, codes, true≢false, refl, ap, sym, subst, ◌∙◌, arith, inl, inr}
use Rattle.std.specs.List.{Contains, list_all, list_any}
use Rattle.std.proofs.lemmas.Bool.{and_parts, leb-true, and_from, or_from}
use Rattle.std.proofs.lemmas.List.{length-map}
use Rattle.std.proofs.lemmas.List.Elements.{All-nil, All-cons, All-head, All-tail, All-contains, All-contains_itself, All-weaker}
use Rattle.serde_json.specs.Data.{Data}
use Rattle.serde_json.specs.View.{items_of}
use Rattle.vs_certificate.specs.declared.members.Certificate.{Certificate}
use Rattle.vs_certificate.specs.declared.members.ProcessEntry.{ProcessEntry}
use Rattle.vs_certificate.specs.declared.members.ClaimedKind.{ClaimedKind}
use Rattle.vs_certificate.specs.declared.members.ClaimedKind.TheVariants as kinds
use Rattle.vs_certificate.specs.declared.members.SignalEntry.{SignalEntry}
use Rattle.vs_certificate.specs.declared.members.SignalMode.{SignalMode}
use Rattle.vs_certificate.specs.declared.members.SignalMode.TheVariants as modes
use Rattle.vs_certificate.specs.declared.members.Start.TheVariants as starts
use Rattle.vs_certificate.specs.declared.members.Version.{Version}
use Rattle.vs_certificate.specs.declared.members.Version.TheVariants as versions
use Rattle.vs_certificate.specs.JsonValue.{text_value, list_value, whole_value, residues_value, slots_value, edge_value, process_value, signal_value, version_number, object_with, members_by, value_of}
use Rattle.vs_certificate.specs.Shape.{all_items, passes_at}
use Rattle.vs_certificate.specs.Limits.{is_within, are_residues, are_slots, are_processes, is_modulus, is_within_limits}
use Rattle.vs_certificate.specs.Limits as read
use Rattle.vs_certificate.specs.Reading.{IsSound, IsSoundWide, is_other_version, is_unknown_version}
use Rattle.vs_certificate.specs.Versions.{has_kind, has_mode, has_own_words, is_narrow, most_residues}
use Rattle.vs_certificate.proofs.Images.{is_within-images}
use Rattle.vs_certificate.proofs.Law.{sound_value, sound_wide, sound_narrow, own_words}
use Rattle.vs_certificate.proofs.Natural.{limit_parts}
use Rattle.vs_rules.specs.Claims.{Kind, ProcessClaim, SignalClaim, block, delays, mixed, starter, is_both, is_mixed}
use Rattle.vs_rules.specs.Certificates.{residues_from, kind_from, mode_from, process_claim, signal_claim, edge_claim, name_from, displays_from, claims_of}
use Rattle.vs_rules.specs.Limits.{AreResidues, AreLists, IsCertificate, IsWideCertificate, IsCertificateOf, IsNarrow}
use Rattle.vs_rules.specs.Limits as asked
use Rattle.vs_rules.specs.Tested.{TestedAreCertificates, TestedAreWideCertificates}

-- ---- lists

few : {A B : Type 0} (value : A → Data) (f : A → B) (most : ℕ) (xs : List A) → is_within most (list_value value xs) ≡ true → length (map f xs) ≤ most
few value f most xs h = rw (length-map xs f) (leb-true (length xs) most (sym (is_within-images value xs most) ∙ h))

within : {A B : Type 0} (value : A → Data) (f : A → B) (most : ℕ) (xs : List A) → length (map f xs) ≤ most → is_within most (list_value value xs) ≡ true
within value f most xs h = let short : length xs ≤ most = rw (length-map xs f) at h in is_within-images value xs most ∙ le-leb (length xs) most short

-- ---- residues

rising : (first bound : ℕ) (rs : List ℕ) → read.rise first bound (items_of (map whole_value rs)) ≡ asked.rise first bound rs
rising first bound [] = refl
rising first bound (r ∷ rs) =
    let next : r + 1 ≡ suc r = omega arith in
    ap (λ (b : Bool). nat_le first r && nat_lt r bound && b) (ap (λ (k : ℕ). read.rise k bound (items_of (map whole_value rs))) next ∙ rising (suc r) bound rs)

map_itself : (rs : List ℕ) → map (λ (r : ℕ). r) rs ≡ rs
map_itself [] = refl
map_itself (r ∷ rs) = ap (λ (all : List ℕ). r ∷ all) (map_itself rs)

residues_asked : (most m : ℕ) (residues : Vec ℕ Global) → are_residues most m (residues_value residues) ≡ true → AreResidues most m (residues_from residues)
residues_asked most m residues h =
    let a = and_parts (is_within most (residues_value residues)) (read.rise 0 m (items_of (map whole_value residues.items))) h in
    let short : length residues.items ≤ most = rw (map_itself residues.items) at (few whole_value (λ (r : ℕ). r) most residues.items a.0) in
    record { few = short; rising = sym (rising 0 m residues.items) ∙ a.1 }

residues_read : (most m : ℕ) (residues : Vec ℕ Global) → AreResidues most m (residues_from residues) → are_residues most m (residues_value residues) ≡ true
residues_read most m residues h =
    and_from _ _ (is_within-images whole_value residues.items most ∙ le-leb (length residues.items) most h.few) (rising 0 m residues.items ∙ h.rising)

slots_asked : (most m : ℕ) (slots : List (Vec ℕ Global)) → all_items (are_residues most m) (items_of (map residues_value slots)) ≡ true → All (AreResidues most m) (map residues_from slots)
slots_asked most m [] h = All-nil (AreResidues most m)
slots_asked most m (s ∷ slots) h =
    let a = and_parts (are_residues most m (residues_value s)) (all_items (are_residues most m) (items_of (map residues_value slots))) h in
    All-cons (AreResidues most m) (residues_from s) (map residues_from slots) (residues_asked most m s a.0) (slots_asked most m slots a.1)

slots_read : (most m : ℕ) (slots : List (Vec ℕ Global)) → All (AreResidues most m) (map residues_from slots) → all_items (are_residues most m) (items_of (map residues_value slots)) ≡ true
slots_read most m [] h = refl
slots_read most m (s ∷ slots) h =
    let rest = map residues_from slots in
    and_from _ _ (residues_read most m s (All-head (AreResidues most m) (residues_from s) rest h)) (slots_read most m slots (All-tail (AreResidues most m) (residues_from s) rest h))

lists_asked : (most m : ℕ) (slots : List (Vec ℕ Global)) → are_slots most m (list_value residues_value slots) ≡ true → AreLists most m (map residues_from slots)
lists_asked most m slots h =
    let a = and_parts (is_within 65536 (list_value residues_value slots)) (all_items (are_residues most m) (items_of (map residues_value slots))) h in
    record {
      few = few residues_value residues_from 65536 slots a.0;
      each = λ r c. All-contains (AreResidues most m) (map residues_from slots) r (slots_asked most m slots a.1) c;
    }

lists_read : (most m : ℕ) (slots : List (Vec ℕ Global)) → AreLists most m (map residues_from slots) → are_slots most m (list_value residues_value slots) ≡ true
lists_read most m slots l =
    let lists = map residues_from slots in
    and_from _ _ (within residues_value residues_from 65536 slots l.few) (slots_read most m slots (All-weaker (Contains lists) (AreResidues most m) l.each lists (All-contains_itself lists)))

-- ---- processes

-- a kind has these lists
abbrev HasListsOf : Kind → List (List ℕ) → Type 0
HasListsOf kind lists = (kind ≡ delays lists) ⊎ (kind ≡ mixed lists)

kind_asked : (most m : ℕ) (kind : ClaimedKind) (lists : List (List ℕ)) → are_slots most m (slots_value kind) ≡ true → HasListsOf (kind_from kind) lists → AreLists most m lists
kind_asked most m (kinds.Combinational start) lists h (inl e) = absurd cc
kind_asked most m (kinds.Combinational start) lists h (inr e) = absurd cc
kind_asked most m kinds.Edge lists h (inl e) = absurd cc
kind_asked most m kinds.Edge lists h (inr e) = absurd cc
kind_asked most m (kinds.Delay slots) lists h (inl e) = let same : map residues_from slots.items ≡ lists = cc in subst (AreLists most m) same (lists_asked most m slots.items h)
kind_asked most m (kinds.Delay slots) lists h (inr e) = absurd cc
kind_asked most m (kinds.Mixed slots) lists h (inl e) = absurd cc
kind_asked most m (kinds.Mixed slots) lists h (inr e) = let same : map residues_from slots.items ≡ lists = cc in subst (AreLists most m) same (lists_asked most m slots.items h)

abbrev KeepsLists : ℕ → ℕ → ProcessClaim → Type 0
KeepsLists most m p = (lists : List (List ℕ)) → HasListsOf p.kind lists → AreLists most m lists

kind_read : (most m : ℕ) (kind : ClaimedKind) → ((lists : List (List ℕ)) → HasListsOf (kind_from kind) lists → AreLists most m lists) → are_slots most m (slots_value kind) ≡ true
kind_read most m (kinds.Combinational start) h = refl
kind_read most m kinds.Edge h = refl
kind_read most m (kinds.Delay slots) h = lists_read most m slots.items (h (map residues_from slots.items) (inl refl))
kind_read most m (kinds.Mixed slots) h = lists_read most m slots.items (h (map residues_from slots.items) (inr refl))

abbrev test : ℕ → ℕ → Data → Bool
test most m = passes_at (are_slots most m) (codes "slots")

processes_asked : (most m : ℕ) (ps : List ProcessEntry) → all_items (test most m) (items_of (map process_value ps)) ≡ true → All (KeepsLists most m) (map process_claim ps)
processes_asked most m [] h = All-nil (KeepsLists most m)
processes_asked most m (p ∷ ps) h =
    let a = and_parts (are_slots most m (slots_value p.kind)) (all_items (test most m) (items_of (map process_value ps))) h in
    All-cons (KeepsLists most m) (process_claim p) (map process_claim ps) (λ lists e. kind_asked most m p.kind lists a.0 e) (processes_asked most m ps a.1)

processes_read : (most m : ℕ) (ps : List ProcessEntry) → All (KeepsLists most m) (map process_claim ps) → all_items (test most m) (items_of (map process_value ps)) ≡ true
processes_read most m [] h = refl
processes_read most m (p ∷ ps) h =
    let rest = map process_claim ps in
    and_from _ _ (kind_read most m p.kind (All-head (KeepsLists most m) (process_claim p) rest h)) (processes_read most m ps (All-tail (KeepsLists most m) (process_claim p) rest h))

-- ---- words of the versions

abbrev IsNoStarter : ProcessClaim → Type 0
IsNoStarter p = p.kind ≡ block starter → ⊥

abbrev have_kinds : Version → List ProcessEntry → Bool
have_kinds version ps = list_all (λ (p : ProcessEntry). has_kind version p.kind) ps

abbrev have_modes : Version → List SignalEntry → Bool
have_modes version ss = list_all (λ (s : SignalEntry). has_mode version s.mode) ss

abbrev any_both : List SignalClaim → Bool
any_both ss = list_any (λ (s : SignalClaim). is_both s.mode) ss

abbrev any_mixed : List ProcessClaim → Bool
any_mixed ps = list_any (λ (p : ProcessClaim). is_mixed p.kind) ps

start_asked : (kind : ClaimedKind) → has_kind versions.One kind ≡ true → kind_from kind ≡ block starter → ⊥
start_asked (kinds.Combinational starts.Cold) h e = absurd cc
start_asked (kinds.Combinational starts.Sources) h e = absurd cc
start_asked (kinds.Combinational starts.Starter) h e = true≢false (sym h)
start_asked kinds.Edge h e = absurd cc
start_asked (kinds.Delay slots) h e = absurd cc
start_asked (kinds.Mixed slots) h e = absurd cc

starts_asked : (ps : List ProcessEntry) → have_kinds versions.One ps ≡ true → All IsNoStarter (map process_claim ps)
starts_asked [] h = All-nil IsNoStarter
starts_asked (p ∷ ps) h = let a = and_parts (has_kind versions.One p.kind) (have_kinds versions.One ps) h in All-cons IsNoStarter (process_claim p) (map process_claim ps) (start_asked p.kind a.0) (starts_asked ps a.1)

neither_parts : (a b : Bool) → (a || b) ≡ false → (a ≡ false) × (b ≡ false)
neither_parts true b h = absurd (true≢false h)
neither_parts false b h = (refl, h)

mode_narrow : (v : Version) (mode : SignalMode) → is_narrow v ≡ true → has_mode v mode ≡ true → is_both (mode_from mode) ≡ false
mode_narrow v modes.Net n h = refl
mode_narrow v modes.Unwritten n h = refl
mode_narrow v modes.Combinational n h = refl
mode_narrow v modes.Nonblocking n h = refl
mode_narrow v modes.Blocking n h = refl
mode_narrow v modes.Private n h = refl
mode_narrow versions.One modes.Both n h = absurd (true≢false (sym h))
mode_narrow (versions.Two displays) modes.Both n h = absurd (true≢false (sym h))
mode_narrow (versions.Three displays) modes.Both n h = absurd (true≢false (sym n))

modes_narrow : (v : Version) (ss : List SignalEntry) → is_narrow v ≡ true → have_modes v ss ≡ true → any_both (map signal_claim ss) ≡ false
modes_narrow v [] n h = refl
modes_narrow v (s ∷ ss) n h = let a = and_parts (has_mode v s.mode) (have_modes v ss) h in or_from (is_both (mode_from s.mode)) (any_both (map signal_claim ss)) (mode_narrow v s.mode n a.0) (modes_narrow v ss n a.1)

kind_narrow : (v : Version) (kind : ClaimedKind) → is_narrow v ≡ true → has_kind v kind ≡ true → is_mixed (kind_from kind) ≡ false
kind_narrow v (kinds.Combinational start) n h = refl
kind_narrow v kinds.Edge n h = refl
kind_narrow v (kinds.Delay slots) n h = refl
kind_narrow versions.One (kinds.Mixed slots) n h = absurd (true≢false (sym h))
kind_narrow (versions.Two displays) (kinds.Mixed slots) n h = absurd (true≢false (sym h))
kind_narrow (versions.Three displays) (kinds.Mixed slots) n h = absurd (true≢false (sym n))

kinds_narrow : (v : Version) (ps : List ProcessEntry) → is_narrow v ≡ true → have_kinds v ps ≡ true → any_mixed (map process_claim ps) ≡ false
kinds_narrow v [] n h = refl
kinds_narrow v (p ∷ ps) n h =
    let a = and_parts (has_kind v p.kind) (have_kinds v ps) h in
    or_from (is_mixed (kind_from p.kind)) (any_mixed (map process_claim ps)) (kind_narrow v p.kind n a.0) (kinds_narrow v ps n a.1)

-- and the other way round
kind_of_one : (kind : ClaimedKind) → (kind_from kind ≡ block starter → ⊥) → is_mixed (kind_from kind) ≡ false → has_kind versions.One kind ≡ true
kind_of_one (kinds.Combinational starts.Cold) h n = refl
kind_of_one (kinds.Combinational starts.Sources) h n = refl
kind_of_one (kinds.Combinational starts.Starter) h n = absurd (h refl)
kind_of_one kinds.Edge h n = refl
kind_of_one (kinds.Delay slots) h n = refl
kind_of_one (kinds.Mixed slots) h n = absurd (true≢false n)

kinds_of_one : (ps : List ProcessEntry) → All IsNoStarter (map process_claim ps) → any_mixed (map process_claim ps) ≡ false → have_kinds versions.One ps ≡ true
kinds_of_one [] h n = refl
kinds_of_one (p ∷ ps) h n =
    let rest = map process_claim ps in
    let a = neither_parts (is_mixed (kind_from p.kind)) (any_mixed rest) n in
    and_from _ _ (kind_of_one p.kind (All-head IsNoStarter (process_claim p) rest h) a.0) (kinds_of_one ps (All-tail IsNoStarter (process_claim p) rest h) a.1)

kind_of_two : (displays : Bool) (kind : ClaimedKind) → is_mixed (kind_from kind) ≡ false → has_kind (versions.Two displays) kind ≡ true
kind_of_two displays (kinds.Combinational start) n = refl
kind_of_two displays kinds.Edge n = refl
kind_of_two displays (kinds.Delay slots) n = refl
kind_of_two displays (kinds.Mixed slots) n = absurd (true≢false n)

kinds_of_two : (displays : Bool) (ps : List ProcessEntry) → any_mixed (map process_claim ps) ≡ false → have_kinds (versions.Two displays) ps ≡ true
kinds_of_two displays [] n = refl
kinds_of_two displays (p ∷ ps) n =
    let a = neither_parts (is_mixed (kind_from p.kind)) (any_mixed (map process_claim ps)) n in
    and_from _ _ (kind_of_two displays p.kind a.0) (kinds_of_two displays ps a.1)

kinds_of_three : (displays : Bool) (ps : List ProcessEntry) → have_kinds (versions.Three displays) ps ≡ true
kinds_of_three displays [] = refl
kinds_of_three displays (p ∷ ps) = kinds_of_three displays ps

mode_of : (v : Version) (mode : SignalMode) → is_both (mode_from mode) ≡ false → has_mode v mode ≡ true
mode_of versions.One modes.Net n = refl
mode_of versions.One modes.Unwritten n = refl
mode_of versions.One modes.Combinational n = refl
mode_of versions.One modes.Nonblocking n = refl
mode_of versions.One modes.Blocking n = refl
mode_of versions.One modes.Private n = refl
mode_of versions.One modes.Both n = absurd (true≢false n)
mode_of (versions.Two displays) modes.Net n = refl
mode_of (versions.Two displays) modes.Unwritten n = refl
mode_of (versions.Two displays) modes.Combinational n = refl
mode_of (versions.Two displays) modes.Nonblocking n = refl
mode_of (versions.Two displays) modes.Blocking n = refl
mode_of (versions.Two displays) modes.Private n = refl
mode_of (versions.Two displays) modes.Both n = absurd (true≢false n)
mode_of (versions.Three displays) mode n = refl

modes_of : (v : Version) (ss : List SignalEntry) → any_both (map signal_claim ss) ≡ false → have_modes v ss ≡ true
modes_of v [] n = refl
modes_of v (s ∷ ss) n =
    let a = neither_parts (is_both (mode_from s.mode)) (any_both (map signal_claim ss)) n in
    and_from _ _ (mode_of v s.mode a.0) (modes_of v ss a.1)

modes_of_three : (displays : Bool) (ss : List SignalEntry) → have_modes (versions.Three displays) ss ≡ true
modes_of_three displays [] = refl
modes_of_three displays (s ∷ ss) = modes_of_three displays ss

known : (v : Version) → is_narrow v ≡ true → IsNarrow (version_number v)
known versions.One n = inl refl
known (versions.Two displays) n = inr refl
known (versions.Three displays) n = absurd (true≢false (sym n))

known_wide : (v : Version) → IsNarrow (version_number v) ⊎ (version_number v ≡ 3)
known_wide versions.One = inl (inl refl)
known_wide (versions.Two displays) = inl (inr refl)
known_wide (versions.Three displays) = inr refl

narrow_number : (v : Version) → IsNarrow (version_number v) → is_narrow v ≡ true
narrow_number versions.One n = refl
narrow_number (versions.Two displays) n = refl
narrow_number (versions.Three displays) (inl n) = absurd (omega (arith, n))
narrow_number (versions.Three displays) (inr n) = absurd (omega (arith, n))

none_shown : (v : Version) → version_number v ≡ 1 → displays_from v ≡ false
none_shown versions.One e = refl
none_shown (versions.Two displays) e = absurd (omega arith)
none_shown (versions.Three displays) e = absurd (omega arith)

own_asked : (v : Version) (ps : List ProcessEntry) → have_kinds v ps ≡ true → version_number v ≡ 1 → (p : ProcessClaim) → Contains (map process_claim ps) p → p.kind ≡ block starter → ⊥
own_asked versions.One ps h e p c is = All-contains IsNoStarter (map process_claim ps) p (starts_asked ps h) c is
own_asked (versions.Two displays) ps h e p c is = absurd (omega arith)
own_asked (versions.Three displays) ps h e p c is = absurd (omega arith)

words_asked : (v : Version) (ss : List SignalEntry) → have_modes v ss ≡ true → (version_number v ≡ 3) ⊎ (any_both (map signal_claim ss) ≡ false)
words_asked versions.One ss m = inr (modes_narrow versions.One ss refl m)
words_asked (versions.Two displays) ss m = inr (modes_narrow (versions.Two displays) ss refl m)
words_asked (versions.Three displays) ss m = inl refl

kinds_asked : (v : Version) (ps : List ProcessEntry) → have_kinds v ps ≡ true → (version_number v ≡ 3) ⊎ (any_mixed (map process_claim ps) ≡ false)
kinds_asked versions.One ps m = inr (kinds_narrow versions.One ps refl m)
kinds_asked (versions.Two displays) ps m = inr (kinds_narrow (versions.Two displays) ps refl m)
kinds_asked (versions.Three displays) ps m = inl refl

-- by what is asked, a version has its words
words_read : (v : Version) (ps : List ProcessEntry) (ss : List SignalEntry) → ((p : ProcessClaim) → version_number v ≡ 1 → Contains (map process_claim ps) p → p.kind ≡ block starter → ⊥) →
    (version_number v ≡ 3) ⊎ (any_both (map signal_claim ss) ≡ false) → (version_number v ≡ 3) ⊎ (any_mixed (map process_claim ps) ≡ false) → (have_kinds v ps && have_modes v ss) ≡ true
words_read versions.One ps ss h (inl three) unmixed = absurd (omega (arith, three))
words_read versions.One ps ss h (inr none) (inl three) = absurd (omega (arith, three))
words_read versions.One ps ss h (inr none) (inr unmixed) =
    let all = map process_claim ps in
    and_from _ _ (kinds_of_one ps (All-weaker (Contains all) IsNoStarter (λ p c. h p refl c) all (All-contains_itself all)) unmixed) (modes_of versions.One ss none)
words_read (versions.Two displays) ps ss h (inl three) unmixed = absurd (omega (arith, three))
words_read (versions.Two displays) ps ss h (inr none) (inl three) = absurd (omega (arith, three))
words_read (versions.Two displays) ps ss h (inr none) (inr unmixed) = and_from _ _ (kinds_of_two displays ps unmixed) (modes_of (versions.Two displays) ss none)
words_read (versions.Three displays) ps ss h any unmixed = and_from _ _ (kinds_of_three displays ps) (modes_of_three displays ss)

-- ---- limits

record AreWithin (most : ℕ) (c : Certificate) : Type 0 where
  pub modulus : is_modulus c.modulus ≡ true
  pub edges : is_within 65536 (list_value edge_value c.edges.items) ≡ true
  pub order : is_within 65536 (list_value text_value c.order.items) ≡ true
  pub processes : are_processes most c.modulus (list_value process_value c.processes.items) ≡ true
  pub signals : is_within 65536 (list_value signal_value c.signals.items) ≡ true

abbrev value_by : Version → Certificate → Data
value_by v c = object_with (members_by v c)

most_same : (v : Version) → asked.most_residues (version_number v) ≡ most_residues v
most_same versions.One = refl
most_same (versions.Two displays) = refl
most_same (versions.Three displays) = refl

within_by : (v : Version) (c : Certificate) → is_within_limits (value_by v c) ≡ true → AreWithin (most_residues v) c
within_by versions.One c h =
    let l = limit_parts (value_by versions.One c) c.modulus h in
    record { modulus = l.fits; edges = l.edges; order = l.order; processes = l.processes; signals = l.signals }
within_by (versions.Two displays) c h =
    let l = limit_parts (value_by (versions.Two displays) c) c.modulus h in
    record { modulus = l.fits; edges = l.edges; order = l.order; processes = l.processes; signals = l.signals }
within_by (versions.Three displays) c h =
    let l = limit_parts (value_by (versions.Three displays) c) c.modulus h in
    record { modulus = l.fits; edges = l.edges; order = l.order; processes = l.processes; signals = l.signals }

limits_by : (v : Version) (c : Certificate) → AreWithin (most_residues v) c → is_within_limits (value_by v c) ≡ true
limits_by versions.One c w = and_from _ _ (and_from _ _ (and_from _ _ (and_from _ _ w.modulus w.edges) w.order) w.processes) w.signals
limits_by (versions.Two displays) c w = and_from _ _ (and_from _ _ (and_from _ _ (and_from _ _ w.modulus w.edges) w.order) w.processes) w.signals
limits_by (versions.Three displays) c w = and_from _ _ (and_from _ _ (and_from _ _ (and_from _ _ w.modulus w.edges) w.order) w.processes) w.signals

-- ---- the whole

asked_from_read : (IsKnown : ℕ → Type 0) (c : Certificate) → IsKnown (version_number c.version) → has_own_words c ≡ true → is_within_limits (value_of c) ≡ true → IsCertificateOf IsKnown (claims_of c)
asked_from_read IsKnown c version own limits =
    let most = asked.most_residues (version_number c.version) in
    let w = subst (λ (n : ℕ). AreWithin n c) (sym (most_same c.version)) (within_by c.version c limits) in
    let words = and_parts (have_kinds c.version c.processes.items) (have_modes c.version c.signals.items) own in
    let fits = and_parts (nat_le 1 c.modulus) (nat_le c.modulus (2 ^ 32)) w.modulus in
    let processes = and_parts (is_within 65536 (list_value process_value c.processes.items)) (all_items (test most c.modulus) (items_of (map process_value c.processes.items))) w.processes in
    let all = processes_asked most c.modulus c.processes.items processes.1 in
    let above : 1 ≤ c.modulus = leb-true 1 c.modulus fits.0 in
    record {
      version = version;
      displays = none_shown c.version;
      starts = λ p e. own_asked c.version c.processes.items words.0 e p;
      narrow = words_asked c.version c.signals.items words.1;
      unmixed = kinds_asked c.version c.processes.items words.0;
      above = omega (arith, above);
      below = leb-true c.modulus (2 ^ 32) fits.1;
      few_edges = few edge_value edge_claim 65536 c.edges.items w.edges;
      few_ordered = few text_value name_from 65536 c.order.items w.order;
      few_processes = few process_value process_claim 65536 c.processes.items processes.0;
      few_signals = few signal_value signal_claim 65536 c.signals.items w.signals;
      lists = λ p lists among is. All-contains (KeepsLists most c.modulus) (map process_claim c.processes.items) p all among lists is;
    }

-- its words, and its limits
read_from_asked : (IsKnown : ℕ → Type 0) (c : Certificate) → IsCertificateOf IsKnown (claims_of c) → (has_own_words c ≡ true) × (is_within_limits (value_of c) ≡ true)
read_from_asked IsKnown c is =
    let most = asked.most_residues (version_number c.version) in
    let above : 1 ≤ c.modulus = omega (arith, is.above) in
    let all = map process_claim c.processes.items in
    let lists = All-weaker (Contains all) (KeepsLists most c.modulus) (λ p among lists e. is.lists p lists among e) all (All-contains_itself all) in
    let w : AreWithin most c = record {
      modulus = and_from _ _ (le-leb 1 c.modulus above) (le-leb c.modulus (2 ^ 32) is.below);
      edges = within edge_value edge_claim 65536 c.edges.items is.few_edges;
      order = within text_value name_from 65536 c.order.items is.few_ordered;
      processes = and_from _ _ (within process_value process_claim 65536 c.processes.items is.few_processes) (processes_read most c.modulus c.processes.items lists);
      signals = within signal_value signal_claim 65536 c.signals.items is.few_signals;
    } in
    (words_read c.version c.processes.items c.signals.items is.starts is.narrow is.unmixed, limits_by c.version c (subst (λ (n : ℕ). AreWithin n c) (most_same c.version) w))

pub tested_are_certificates : TestedAreCertificates
tested_are_certificates c = (
  λ sound. asked_from_read IsNarrow c (known c.version (sound_narrow c sound)) (own_words is_other_version c sound) sound.limits,
  λ is. let r = read_from_asked IsNarrow c is in sound_value c (narrow_number c.version is.version) r.0 r.1,
)

pub tested_are_wide_certificates : TestedAreWideCertificates
tested_are_wide_certificates c = (
  λ sound. asked_from_read (λ version. IsNarrow version ⊎ (version ≡ 3)) c (known_wide c.version) (own_words is_unknown_version c sound) sound.limits,
  λ is. let r = read_from_asked (λ version. IsNarrow version ⊎ (version ≡ 3)) c is in sound_wide c r.0 r.1,
)
