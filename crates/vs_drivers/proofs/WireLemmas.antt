-- What the driver of a number writes and needs.
use Rattle.std.proofs.Common.{◌≡◌, ℕ, ◌-◌, ◌<◌, ◌≤◌, ◌⊎◌, ◌↔◌, inl, inr, Option, Some, List, [], length, slice_get, sym, ◌∙◌, ap, subst, arith}
use Rattle.std.specs.List.{Contains}
use Rattle.std.proofs.lemmas.Option.{slice_get_within, same_Some}
use Rattle.vs_design.specs.declared.design.Assign.{Assign}
use Rattle.vs_design.specs.declared.design.Process.{Process}
use Rattle.vs_design.specs.declared.range.BitRange.{BitRange}
use Rattle.vs_design.specs.Parts.{Parts}
use Rattle.vs_design.specs.Uses.{reads, writes}
use Rattle.vs_process.specs.Stops.{IsText}
use Rattle.vs_rules.specs.vs_process.specs.BlockDrivers.{outputs_for}
use Rattle.vs_process.specs.Writes.{statement_writes}
use Rattle.vs_rules.specs.Drivers.{Driver, assign, block, DriverWrites, DriverNeeds}
use Rattle.vs_rules.specs.Paths.{reads_for, text_reads}
use Rattle.vs_maps.specs.Reaches.{Chart}
use Rattle.vs_design.specs.vs_logic4.proofs.Basics.{none_in}
use Rattle.vs_drivers.specs.Names.{NamesIn}
use Rattle.vs_drivers.specs.Wires.{Wiring, driver_at, IsMarked, Drives, WritesAt, NeedsAt}
use Rattle.vs_drivers.proofs.NameLemmas.{names_are}
use Rattle.vs_drivers.proofs.Numbers.{driver_cases, assign_at, block_within}

assign_is : (x : Wiring) (n : ℕ) (a : Assign) → slice_get x.design.assigns n ≡ Some a → driver_at x.design n ≡ assign n
assign_is x n a is = assign_at x.design n (slice_get_within x.design.assigns n a is)

block_is : (x : Wiring) (n i : ℕ) → length x.design.assigns ≤ n → i ≡ n - length x.design.assigns → driver_at x.design n ≡ block i
block_is x n i le is = elim (driver_cases x.design n) [ inl y ↦ absurd (omega (arith, le, y.0)) | inr y ↦ y.1 ∙ ap block (sym is) ]

pub assign_writes : (x : Wiring) (n : ℕ) (a : Assign) (rs : List BitRange) → slice_get x.design.assigns n ≡ Some a → rs ≡ writes a.target → (r : BitRange) →
    (Contains rs r ↔ WritesAt x n r)
assign_writes x n a rs is all r = (
  λ h. record {
    drives = subst (Drives x) (sym (assign_is x n a is)) tt;
    writes = subst (λ (k : Driver). DriverWrites x.design k r) (sym (assign_is x n a is)) (a, is, (subst (λ (l : List BitRange). Contains l r) all h, tt));
  },
  λ w. let y = subst (λ (k : Driver). DriverWrites x.design k r) (assign_is x n a is) w.writes in
      subst (λ (l : List BitRange). Contains l r) (ap (λ (b : Assign). writes b.target) (same_Some y.0 a (sym y.1 ∙ is)) ∙ sym all) y.2.0,
)

pub block_writes : (x : Wiring) (n i : ℕ) (q : Process) (rs : List BitRange) → length x.design.assigns ≤ n → i ≡ n - length x.design.assigns →
    slice_get x.design.processes i ≡ Some q → IsMarked x i → rs ≡ statement_writes q.body → (r : BitRange) → (Contains rs r ↔ WritesAt x n r)
block_writes x n i q rs le i_is is marked all r = (
  λ h. record {
    drives = subst (Drives x) (sym (block_is x n i le i_is)) marked;
    writes = subst (λ (k : Driver). DriverWrites x.design k r) (sym (block_is x n i le i_is))
        (subst (λ (o : Option Process). Contains (outputs_for o) r) (sym is) (subst (λ (l : List BitRange). Contains l r) all h), tt);
  },
  λ w. let y = subst (λ (k : Driver). DriverWrites x.design k r) (block_is x n i le i_is) w.writes in
      subst (λ (l : List BitRange). Contains l r) (ap outputs_for is ∙ sym all) y.0,
)

-- the number of a process that isn't marked, or of none
pub none_writes : (x : Wiring) (n i : ℕ) (rs : List BitRange) → length x.design.assigns ≤ n → i ≡ n - length x.design.assigns →
    (IsMarked x i → i < length x.design.processes → ⊥) → rs ≡ [] → (r : BitRange) → (Contains rs r ↔ WritesAt x n r)
none_writes x n i rs le i_is not all r = (
  λ h. absurd (none_in r (subst (λ (l : List BitRange). Contains l r) all h)),
  λ w. absurd (not (subst (Drives x) (block_is x n i le i_is) w.drives)
      (block_within x.design i r (subst (λ (k : Driver). DriverWrites x.design k r) (block_is x n i le i_is) w.writes))),
)

pub assign_needs : (x : Wiring) (n : ℕ) (a : Assign) (rs : List BitRange) → slice_get x.design.assigns n ≡ Some a → rs ≡ reads a.source → (r : BitRange) →
    (Contains rs r ↔ NeedsAt x n r)
assign_needs x n a rs is all r = (
  λ h. record {
    drives = subst (Drives x) (sym (assign_is x n a is)) tt;
    needs = subst (λ (k : Driver). DriverNeeds x.design k r) (sym (assign_is x n a is)) (a, is, (subst (λ (l : List BitRange). Contains l r) all h, tt));
  },
  λ w. let y = subst (λ (k : Driver). DriverNeeds x.design k r) (assign_is x n a is) w.needs in
      subst (λ (l : List BitRange). Contains l r) (ap (λ (b : Assign). reads b.source) (same_Some y.0 a (sym y.1 ∙ is)) ∙ sym all) y.2.0,
)

pub block_needs_at : (x : Wiring) (n i : ℕ) (rs : List BitRange) → length x.design.assigns ≤ n → i ≡ n - length x.design.assigns → IsMarked x i →
    ((r : BitRange) → (Contains rs r ↔ DriverNeeds x.design (block i) r)) → (r : BitRange) → (Contains rs r ↔ NeedsAt x n r)
block_needs_at x n i rs le i_is marked all r = (
  λ h. record {
    drives = subst (Drives x) (sym (block_is x n i le i_is)) marked;
    needs = subst (λ (k : Driver). DriverNeeds x.design k r) (sym (block_is x n i le i_is)) ((all r).0 h);
  },
  λ w. (all r).1 (subst (λ (k : Driver). DriverNeeds x.design k r) (block_is x n i le i_is) w.needs),
)

pub none_needs : (x : Wiring) (n i : ℕ) (rs : List BitRange) → length x.design.assigns ≤ n → i ≡ n - length x.design.assigns →
    (IsMarked x i → ⊥) → rs ≡ [] → (r : BitRange) → (Contains rs r ↔ NeedsAt x n r)
none_needs x n i rs le i_is not all r = (
  λ h. absurd (none_in r (subst (λ (l : List BitRange). Contains l r) all h)),
  λ w. absurd (not (subst (Drives x) (block_is x n i le i_is) w.drives)),
)

-- what a process of kind comb needs: what its text reads, and what its controls name
pub needs_are : (d : Parts) (i : ℕ) (q : Process) (t : Chart) (first all : List BitRange) → slice_get d.processes i ≡ Some q → IsText q.body t.stops t.start →
    first ≡ text_reads q.body → ((r : BitRange) → (Contains all r ↔ (Contains first r ⊎ NamesIn t r))) → (r : BitRange) → (Contains all r ↔ DriverNeeds d (block i) r)
needs_are d i q t first all is text reads both r = (
  λ h. elim ((both r).0 h) [
    | inl l ↦ inl (subst (λ (rs : List BitRange). Contains rs r) (reads ∙ sym (ap reads_for is)) l, tt)
    | inr n ↦ inr ((names_are d i q t r is text).0 n)
  ],
  λ h. (both r).1 (elim h [
    | inl l ↦ inl (subst (λ (rs : List BitRange). Contains rs r) (ap reads_for is ∙ sym reads) l.0)
    | inr n ↦ inr ((names_are d i q t r is text).1 n)
  ]),
)
