-- The ranges that a design drives are those that its source's continuous assignments drive.
use Rattle.std.proofs.Common.{◌≡◌, ℕ, suc, ◌<◌, Bool, true, false, ◌==◌, not, List, [], ◌∷◌, ◌++◌, Some, length, map, slice_get, All, refl, ap, ap₂, sym, subst, ◌∙◌, arith, true≢false}
use Rattle.std.specs.List.{flat_map, AllZip, IsDistinct}
use Rattle.std.proofs.lemmas.Bool.{and_parts}
use Rattle.std.proofs.lemmas.Option.{same_Some, slice_get_within, get_or_from_slice_get}
use Rattle.std.proofs.lemmas.List.{length-map}
use Rattle.std.proofs.lemmas.List.Concat.{flat_map-append}
use Rattle.std.proofs.lemmas.Map.Keys.{apart_from_distinct}
use Rattle.vs_design.specs.Kinds.{is_variable}
use Rattle.vs_design.specs.Uses.{writes}
use Rattle.vs_design.specs.WellFormed.{width_at, is_of_net, share_a_bit, driven}
use Rattle.vs_design.specs.declared.range.BitRange.{BitRange}
use Rattle.vs_design.specs.declared.signal.Signal.{Signal}
use Rattle.vs_design.specs.declared.design.Assign.{Assign}
use Rattle.vs_elab_statements.specs.vs_scopes.specs.vs_widths.specs.Findings.{Has}
use Rattle.vs_elab_statements.specs.vs_scopes.specs.vs_widths.specs.Selects.{named_range}
use Rattle.vs_elab_statements.specs.vs_widths.specs.Lefts.{Aimed}
use Rattle.vs_elab_statements.specs.vs_scopes.specs.Printed.{Path, printed}
use Rattle.vs_elab_statements.specs.vs_scopes.specs.Declarations.{DeclaredName}
use Rattle.vs_elab_statements.specs.vs_scopes.specs.Scopes.{Scope, declarations_of, environment, signal_count, signal_paths, named}
use Rattle.vs_elab_statements.specs.vs_elab_signals.specs.Outlines.{Declared, declared, signal_of, signals_of}
use Rattle.vs_elab_statements.specs.Members.{PortDriver, Driver, of_port, of_text, drivers_of, port_drivers_of}
use Rattle.vs_elaborate.specs.Drivers.{IsDriver}
use Rattle.vs_elaborate.specs.Faults.{aimed_at, ranges_found, ranges_aimed, ranges_driven, share_bits, DrivesTwice}
use Rattle.vs_elaborate.specs.DesignOf.{PartOf, parts_from, port_part, assigns_of, IsAssign}
use Rattle.vs_elaborate.specs.passes.Filling.{IsDrivenTwice}
use Rattle.vs_elaborate.proofs.SignalLemmas.{located, signal_at}
use Rattle.vs_elab_hierarchy.proofs.AddLemmas.{signals_shown as signals_counted}
use Rattle.vs_elaborate.proofs.WellFormedLemmas.{OfNet}

-- the ranges that a continuous assignment of a source drives
abbrev part_ranges : PartOf Driver → List BitRange
part_ranges q = ranges_aimed (aimed_at q.scope q.part)

-- a target without a fault drives the ranges of its places
sound_ranges : (a : Aimed) (width : ℕ) (signed : Bool) → a.finding ≡ Has width signed → map named_range a.places ≡ ranges_aimed a
sound_ranges a width signed h = ap (λ z. ranges_found z a.places) (sym h)

side_ranges : (s : Scope) (d : Driver) (a : Assign) → IsDriver (environment s) s.outer d a.target a.source → writes a.target ≡ ranges_aimed (aimed_at s d)
side_ranges s (of_port d) a h = h.target.ranges ∙ sound_ranges (aimed_at s (of_port d)) _ _ h.target.found
side_ranges s (of_text x) a h = h.target.ranges ∙ sound_ranges (aimed_at s (of_text x)) _ _ h.target.found

parts_driven : (ps : List Assign) (qs : List (PartOf Driver)) → AllZip IsAssign ps qs → driven ps ≡ flat_map part_ranges qs
parts_driven [] [] h = refl
parts_driven [] (q ∷ qs) h = absurd h
parts_driven (p ∷ ps) [] h = absurd h
parts_driven (p ∷ ps) (q ∷ qs) h = ap₂ (λ a b. a ++ b) (side_ranges q.scope q.part p h.0.sides) (parts_driven ps qs h.1)

-- what a driver of a scope drives
abbrev driver_ranges : Scope → Driver → List BitRange
driver_ranges s d = ranges_aimed (aimed_at s d)

ports_driven : (s : Scope) (ds : List PortDriver) → flat_map part_ranges (map (port_part s) ds) ≡ flat_map (driver_ranges s) (map of_port ds)
ports_driven s [] = refl
ports_driven s (d ∷ ds) = ap (λ z. driver_ranges s (of_port d) ++ z) (ports_driven s ds)

texts_driven : (s : Scope) (k : ℕ) (ds : List Driver) → flat_map part_ranges (parts_from 97 s k ds) ≡ flat_map (driver_ranges s) ds
texts_driven s k [] = refl
texts_driven s k (d ∷ ds) = ap (λ z. driver_ranges s d ++ z) (texts_driven s (suc k) ds)

scope_driven : (s : Scope) → flat_map part_ranges (assigns_of s) ≡ ranges_driven s
scope_driven s =
    let texts = map of_text (drivers_of s) in
    flat_map-append part_ranges (map (port_part s) (port_drivers_of s)) (parts_from 97 s 0 texts)
    ∙ ap₂ (λ x y. x ++ y) (ports_driven s (port_drivers_of s)) (texts_driven s 0 texts)
    ∙ sym (flat_map-append (driver_ranges s) (map of_port (port_drivers_of s)) texts)

scopes_driven : (ss : List Scope) → flat_map part_ranges (flat_map assigns_of ss) ≡ flat_map ranges_driven ss
scopes_driven [] = refl
scopes_driven (s ∷ ss) = flat_map-append part_ranges (assigns_of s) (flat_map assigns_of ss) ∙ ap₂ (λ x y. x ++ y) (scope_driven s) (scopes_driven ss)

pub driven_is : (ss : List Scope) (ps : List Assign) → AllZip IsAssign ps (flat_map assigns_of ss) → driven ps ≡ flat_map ranges_driven ss
driven_is ss ps h = parts_driven ps (flat_map assigns_of ss) h ∙ scopes_driven ss

-- ---- nets that are driven twice

-- the size of a signal is that of its declaration
size_is : (ss : List Scope) (now : List Signal) → map declared now ≡ flat_map signals_of ss → (k : ℕ) (d : DeclaredName) → slice_get (flat_map declarations_of ss) k ≡ Some d → width_at (slice_get now k) ≡ d.size.shape.width
size_is ss now shown k d h =
    let l = located ss k (slice_get_within (flat_map declarations_of ss) k d h) in
    let same : l.name ≡ d = same_Some l.name d (sym l.declares ∙ h) in
    let found = signal_at now (flat_map signals_of ss) k (signal_of l.scope l.name) shown l.signal in
    ap width_at found.1 ∙ ap (λ (z : Declared). z.width) found.2 ∙ ap (λ (z : DeclaredName). z.size.shape.width) same

share_is : (ss : List Signal) (size : ℕ) (r q : BitRange) → width_at (slice_get ss r.signal) ≡ size → share_a_bit ss r q ≡ share_bits size r q
share_is ss size r q h = ap (λ n. share_bits n r q) h

-- where no two ranges share a bit, no net is driven twice
pub driven_once : (ss : List Scope) (now : List Signal) (ps : List Assign) → map declared now ≡ flat_map signals_of ss → AllZip IsAssign ps (flat_map assigns_of ss) → IsDistinct (share_a_bit now) (driven ps) → (q : Path) → DrivesTwice ss q → ⊥
driven_once ss now ps shown h u q r =
    let all = flat_map ranges_driven ss in
    let distinct : IsDistinct (share_a_bit now) all = subst (IsDistinct (share_a_bit now)) (driven_is ss ps h) u in
    let apart = apart_from_distinct (share_a_bit now) all r.first r.second r.one distinct r.before (slice_get_within all r.second r.other r.other_stands) in
    let one = get_or_from_slice_get all r.first r.one r.one r.one_stands in
    let other = get_or_from_slice_get all r.second r.other r.one r.other_stands in
    true≢false (sym (share_is now r.net.size.shape.width r.one r.other (size_is ss now shown r.one.signal r.net r.declared) ∙ r.shared) ∙ sym (ap₂ (share_a_bit now) one other) ∙ apart)

-- a signal that is driven twice is a net that is
pub driven_twice : (ss : List Scope) (now : List Signal) (xs : List Assign) (bytes : List ℕ) → map declared now ≡ flat_map signals_of ss → AllZip IsAssign xs (flat_map assigns_of ss) → All (OfNet now) (driven xs) → IsDrivenTwice now xs bytes → (q : Path) × (bytes ≡ printed q) × DrivesTwice ss q
driven_twice ss now xs bytes shown assigns nets t =
    let h = t.shares in
    let all = driven xs in
    let within : t.number < length now = slice_get_within now t.number t.signal t.stands in
    let long : length now ≡ signal_count ss = sym (length-map now declared) ∙ ap length shown ∙ signals_counted ss in
    let l = located ss t.number (omega (arith, within, long)) in
    let found = signal_at now (flat_map signals_of ss) t.number (signal_of l.scope l.name) shown l.signal in
    let signal : found.0 ≡ t.signal = same_Some _ _ (sym found.1 ∙ t.stands) in
    let declares : slice_get (flat_map declarations_of ss) h.one.signal ≡ Some l.name = ap (slice_get (flat_map declarations_of ss)) h.signal ∙ l.declares in
    let one = get_or_from_slice_get all h.first h.one h.one h.one_stands in
    let net : is_of_net (slice_get now t.number) ≡ true =
    ap (λ i. is_of_net (slice_get now i)) (sym (ap (λ (z : BitRange). z.signal) one ∙ h.signal)) ∙ nets h.first h.one (slice_get_within all h.first h.one h.one_stands) in
    let net' = and_parts (not (is_variable found.0.kind)) (found.0.count == 1) (ap is_of_net (sym found.1) ∙ net) in
    let ranges = driven_is ss xs assigns in (
      named l.scope l.name.name,
      t.path ∙ ap (λ (z : Signal). z.path.items) (sym signal) ∙ ap (λ (z : Declared). z.path) found.2,
      record {
        first = h.first;
        second = h.second;
        before = h.before;
        one = h.one;
        other = h.other;
        one_stands = ap (λ z. slice_get z h.first) (sym ranges) ∙ h.one_stands;
        other_stands = ap (λ z. slice_get z h.second) (sym ranges) ∙ h.other_stands;
        net = l.name;
        declared = declares;
        is_net = ap is_variable (sym (ap (λ (z : Declared). z.kind) found.2)) ∙ not_true (is_variable found.0.kind) net'.0;
        shared = sym (share_is now l.name.size.shape.width h.one h.other (size_is ss now shown h.one.signal l.name declares)) ∙ h.shared;
        path = ap (slice_get (signal_paths ss)) h.signal ∙ l.path;
      },
    )
  where
    not_true : (b : Bool) → not b ≡ true → b ≡ false
    not_true true k = absurd (true≢false (sym k))
    not_true false k = refl
