-- The roots of edge signals.
use Rattle.std.proofs.Common.{◌≡◌, ℕ, zero, suc, ◌==◌, ◌++◌, true, Some, List, [], ◌∷◌, map, slice_get, if◌then◌else◌, refl, sym, ◌∙◌, ap, subst, inl, inr}
use Rattle.std.specs.List.{flat_map, list_any}
use Rattle.std.specs.Str.{bytes_eq}
use Rattle.std.proofs.lemmas.Bool.{cases_Bool, eqb-false, true≢false}
use Rattle.std.proofs.lemmas.Option.{none-some, same_Some}
use Rattle.std.proofs.lemmas.Slice.Eq.{bytes_eq-Decides}
use Rattle.vs_design.specs.declared.design.Assign.{Assign}
use Rattle.vs_design.specs.declared.expression.Slice.{Slice}
use Rattle.vs_design.specs.declared.expression.Typed.{Typed, Typed-F}
use Rattle.vs_design.specs.declared.expression.Typed.TheOpen as t
use Rattle.vs_design.specs.declared.expression.Typed.TheViews.{out-Typed}
use Rattle.vs_design.specs.declared.expression.Typed.TheFolds.{fold_out-Typed, map-Typed}
use Rattle.vs_design.specs.declared.range.BitRange.{BitRange}
use Rattle.vs_design.specs.declared.signal.Signal.{Signal}
use Rattle.vs_design.specs.declared.statement.Target.{Target}
use Rattle.vs_design.specs.Kinds.{is_variable}
use Rattle.vs_design.specs.Parts.{Parts}
use Rattle.vs_design.specs.Stores.{Store, start_words, word_of}
use Rattle.vs_design.specs.Uses.{aim_range, reads, reads_step, is_of, whole, slice_range, writes_signal}
use Rattle.vs_design.specs.WellFormed.{WellFormed}
use Rattle.vs_independence.specs.vs_process.specs.vs_eval.specs.Values.{bits_value, value_of, value_step}
use Rattle.vs_design.specs.vs_logic4.specs.declared.digit.Digit.{Digit}
use Rattle.vs_design.specs.vs_logic4.specs.declared.operators.Unary.TheVariants as op
use Rattle.vs_independence.specs.vs_process.proofs.WellFormed.{net_of}
use Rattle.vs_rules.specs.Claims.{Name, times_in}
use Rattle.vs_rules.specs.Claims.{Claims, EdgeClaim, IsSignalNamed, edge_names, names_of_edge, signal_names, process_names, HasKind, IsRootOf}
use Rattle.vs_rules.specs.Constants.{IsWhole, IsWholeLayer, IsWholeSelect, IsWholeSlice, IsWholeTarget, IsNegationLayer, Inverts, InvertsLayer}
use Rattle.vs_rules.specs.Rules.{K1_Name, IsEdgeSignal}
use Rattle.vs_rules.specs.vs_process.specs.Edges.{IsBit, Copies}
use Rattle.vs_rules.specs.vs_process.specs.Edges as a
use Rattle.vs_rules.specs.Verdict.{Keeping}

-- ---- names in lists

same_bytes : (a b : Name) → bytes_eq a b ≡ true → a ≡ b
same_bytes a b h = (bytes_eq-Decides a b).0 h

bytes_same : (a b : Name) → a ≡ b → bytes_eq a b ≡ true
bytes_same a b e = (bytes_eq-Decides a b).1 e

times_found : {A : Type 0} (f : A → Name) (xs : List A) (name : Name) → times_in name (map f xs) ≡ 1 → (n : ℕ) × (x : A) × (slice_get xs n ≡ Some x) × (f x ≡ name)
times_found f [] name h = absurd (cc h)
times_found f (x ∷ xs) name h =
    elim (cases_Bool (bytes_eq (f x) name)) [
      | inl hit ↦ (0, x, refl, same_bytes (f x) name hit)
      | inr miss ↦
          let rest : times_in name (map f xs) ≡ 1 = subst (λ b. (if b then suc (times_in name (map f xs)) else times_in name (map f xs)) ≡ 1) miss h in
          let found = times_found f xs name rest in
          (suc found.0, found.1, found.2, found.3)
    ]

named_times : (ns : List Name) (n : ℕ) (name : Name) → slice_get ns n ≡ Some name → times_in name ns ≡ 0 → ⊥
named_times [] n name is h = none-some name is
named_times (x ∷ ns) zero name is h =
    let hit : bytes_eq x name ≡ true = bytes_same x name (same_Some x name is) in
    let one : suc (times_in name ns) ≡ 0 = subst (λ b. (if b then suc (times_in name ns) else times_in name ns) ≡ 0) hit h in
    cc one
named_times (x ∷ ns) (suc n) name is h =
    elim (cases_Bool (bytes_eq x name)) [
      | inl hit ↦ let one : suc (times_in name ns) ≡ 0 = subst (λ b. (if b then suc (times_in name ns) else times_in name ns) ≡ 0) hit h in cc one
      | inr miss ↦ named_times ns n name is (subst (λ b. (if b then suc (times_in name ns) else times_in name ns) ≡ 0) miss h)
    ]

root_named : (es : List EdgeClaim) (n : ℕ) (e : EdgeClaim) → slice_get es n ≡ Some e → (m : ℕ) × (slice_get (flat_map names_of_edge es) m ≡ Some e.root)
root_named [] n e is = absurd (none-some e is)
root_named (x ∷ es) zero e is = (0, ap (λ (y : EdgeClaim). Some y.root) (same_Some x e is))
root_named (x ∷ es) (suc n) e is = let found = root_named es n e is in (suc (suc found.0), found.1)

get_left : (xs ys : List Name) (n : ℕ) (x : Name) → slice_get xs n ≡ Some x → slice_get (xs ++ ys) n ≡ Some x
get_left [] ys n x is = absurd (none-some x is)
get_left (y ∷ xs) ys zero x is = is
get_left (y ∷ xs) ys (suc n) x is = get_left xs ys n x is

-- the entry of an edge signal names a root
pub entry_root : (d : Parts) (c : Claims) → Keeping d c → (v : ℕ) (name : Name) → IsSignalNamed d v name → IsEdgeSignal d v → (root : ℕ) × IsRootOf d c root v
entry_root d c r v name named edge = by_name (r.names_known at.0 e.root (get_left (edge_names c ++ c.order ++ process_names c) (signal_names c) at.0 e.root (get_left (edge_names c ++ c.order) (process_names c) at.0 e.root (get_left (edge_names c) c.order at.0 e.root at.1))))
  where
    found : (n : ℕ) × (x : EdgeClaim) × (slice_get c.edges n ≡ Some x) × (x.signal ≡ name)
    found = times_found (λ (x : EdgeClaim). x.signal) c.edges name ((r.roots v).one_entry name named edge)

    e : EdgeClaim
    e = found.1

    at : (m : ℕ) × (slice_get (edge_names c) m ≡ Some e.root)
    at = root_named c.edges found.0 e found.2

    of_v : IsSignalNamed d v e.signal
    of_v = named ∙ ap (λ n. Some n) (sym found.3)

    by_name : K1_Name d c e.root → (root : ℕ) × IsRootOf d c root v
    by_name (inl s) = (s.0, record { place = found.0; entry = e; is = found.2; signal = of_v; root_is = s.1 })
    by_name (inr (inl j)) = absurd (named_times (edge_names c) at.0 e.root at.1 ((r.names_assigns j.0).no_edge e.root j.1))
    by_name (inr (inr i)) = absurd (named_times (edge_names c) at.0 e.root at.1 ((r.names_processes i.0).listed e.root i.1).nowhere_else)

-- ---- what the start store has, the design has

pub start_signal : (assigns : List Assign) (first : ℕ) (ss : List Signal) (v : ℕ) (words : _) → slice_get (start_words assigns first ss) v ≡ Some words → (s : Signal) × (slice_get ss v ≡ Some s)
start_signal assigns first [] v words is = absurd (none-some words is)
start_signal assigns first (s ∷ ss) zero words is = (s, refl)
start_signal assigns first (s ∷ ss) (suc v) words is = start_signal assigns (suc first) ss v words is

pub bit_signal : (d : Parts) (v : ℕ) → IsBit d v → (s : Signal) × (slice_get d.signals v ≡ Some s)
bit_signal d v is = start_signal d.assigns 0 d.signals v _ is

pub copies_signal : (d : Parts) (root v : ℕ) → Copies d root v → (s : Signal) × (slice_get d.signals v ≡ Some s)
copies_signal d root _ (a.itself bit undriven) = bit_signal d root bit
copies_signal d root v (a.through m n copies link bit) = bit_signal d v bit

-- ---- copies

-- a target that is a whole signal writes it
pub whole_writes : (d : Parts) (v : ℕ) (target : Target) → IsWholeTarget d v target → writes_signal target v ≡ true
whole_writes d v target h = subst (λ parts. list_any (is_of v) (map aim_range parts) ≡ true) (sym h.only) (self_of h.whole.of)
  where
    self_of : h.slice.signal ≡ v → list_any (is_of v) (slice_range h.slice ∷ []) ≡ true
    self_of e = elim (cases_Bool (h.slice.signal == v)) [
      | inl hit ↦ rw hit refl
      | inr miss ↦ absurd (eqb-false h.slice.signal v miss e)
    ]

-- a select of all bits of a signal: the bits, what it reads and its value
pub record SelectsWhole (d : Parts) (v width : ℕ) (e : Typed) : Type 0 where
  pub slice : Slice
  pub whole : IsWholeSlice d v slice
  pub size : slice.width ≡ width
  pub reads_it : reads e ≡ slice_range slice ∷ []
  pub value : (store : Store) (time : ℕ) → value_of e store time ≡ bits_value slice.low slice.width (word_of store slice.signal slice.word)

pub selects_whole : (d : Parts) (v width : ℕ) (e : Typed) → IsWholeSelect d v width (out-Typed e) → SelectsWhole d v width e
selects_whole d v width e h = by_layer (out-Typed e) h (fold_out-Typed (List BitRange) reads_step e) (λ store time. fold_out-Typed (List Digit) (value_step store time) e)
  where
    by_layer : (x : Typed-F Typed) → IsWholeSelect d v width x → reads e ≡ reads_step (map-Typed Typed (List BitRange) reads x) →
        ((store : Store) (time : ℕ) → value_of e store time ≡ value_step store time (map-Typed Typed (List Digit) (λ y. value_of y store time) x)) → SelectsWhole d v width e
    by_layer (t.Slice s) w reads_is value_is = record { slice = s; whole = w.0; size = w.1; reads_it = reads_is; value = value_is }
    by_layer _ w reads_is value_is = absurd w

-- a whole signal is what it reads
pub whole_reads : (d : Parts) (u : ℕ) (e : Typed) → IsWhole d u e → (range : BitRange) × (reads e ≡ range ∷ []) × (range.signal ≡ u)
whole_reads d u e h = by_layer (out-Typed e) h (fold_out-Typed (List BitRange) reads_step e)
  where
    by_layer : (x : Typed-F Typed) → IsWholeLayer d u x → reads e ≡ reads_step (map-Typed Typed (List BitRange) reads x) → (range : BitRange) × (reads e ≡ range ∷ []) × (range.signal ≡ u)
    by_layer (t.Signal o) w is = (whole o.signal, is, w.of)
    by_layer (t.Slice s) w is = (slice_range s, is, w.of)
    by_layer (t.Resized size x) w is = let s = selects_whole d u size.width x.value w in (slice_range s.slice, is ∙ s.reads_it, s.whole.of)
    by_layer _ w is = absurd w

-- so is the one that an inverse of it reads
negation_reads : (d : Parts) (u : ℕ) (e : Typed) → IsNegationLayer d u (out-Typed e) → (range : BitRange) × (reads e ≡ range ∷ []) × (range.signal ≡ u)
negation_reads d u e h = by_layer (out-Typed e) h (fold_out-Typed (List BitRange) reads_step e)
  where
    by_layer : (x : Typed-F Typed) → IsNegationLayer d u x → reads e ≡ reads_step (map-Typed Typed (List BitRange) reads x) →
        (range : BitRange) × (reads e ≡ range ∷ []) × (range.signal ≡ u)
    by_layer (t.Unary op.LogicalNot x) w is = let r = whole_reads d u x.value w in (r.0, is ∙ r.1, r.2)
    by_layer _ w is = absurd w

pub inverse_reads : (d : Parts) (u : ℕ) (e : Typed) → Inverts d u e → (range : BitRange) × (reads e ≡ range ∷ []) × (range.signal ≡ u)
inverse_reads d u e h = by_layer (out-Typed e) h (fold_out-Typed (List BitRange) reads_step e)
  where
    by_layer : (x : Typed-F Typed) → InvertsLayer d u x → reads e ≡ reads_step (map-Typed Typed (List BitRange) reads x) →
        (range : BitRange) × (reads e ≡ range ∷ []) × (range.signal ≡ u)
    by_layer (t.Unary op.Not x) w is = let r = whole_reads d u x.value w in (r.0, is ∙ r.1, r.2)
    by_layer (t.Resized size x) w is = let r = negation_reads d u x.value w.1 in (r.0, is ∙ r.1, r.2)
    by_layer _ w is = absurd w

-- a variable is written by no continuous assignment
pub variable_alone : (d : Parts) → WellFormed d → (j : ℕ) (x : Assign) (v : ℕ) → slice_get d.assigns j ≡ Some x → writes_signal x.target v ≡ true → HasKind true d v → ⊥
variable_alone d formed j x v is h kind =
    let net = net_of d formed j x v is h in
    let same : net.0 ≡ kind.0 = same_Some net.0 kind.0 (sym net.1 ∙ kind.1) in
    true≢false (sym kind.2 ∙ ap (λ (s : Signal). is_variable s.kind) (sym same) ∙ net.2)
