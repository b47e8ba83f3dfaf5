-- Two stores in which all drivers have settled: what they agree on, by the order of the drivers.
use Rattle.std.proofs.Common.{◌≡◌, ℕ, zero, suc, ◌<◌, ◌⊎◌, true, false, Some, slice_get, sym, ◌∙◌, ap, subst, inl, inr, arith}
use Rattle.vs_design.specs.Parts.{Parts}
use Rattle.vs_design.specs.Stores.{Store, put, is_changed, is_driven, start_store}
use Rattle.vs_design.specs.Uses.{covers, reads, writes}
use Rattle.vs_design.specs.declared.range.BitRange.{BitRange}
use Rattle.vs_process.specs.Bits.{HasBit}
use Rattle.vs_process.specs.BlockDrivers.{AgreeOn, IsSource, Roles, SameOutputs, outputs, puts_into, puts_out}
use Rattle.vs_design.specs.declared.design.Assign.{Assign}
use Rattle.vs_independence.proofs.BlocksAt.{Blocked}
use Rattle.std.specs.List.{Contains, list_any}
use Rattle.vs_process.proofs.ThreadAssigns.{DrivesWell}
use Rattle.vs_process.proofs.Bits.{by_bit}
use Rattle.vs_process.proofs.Held.{HasBlock, held, puts_covered}
use Rattle.vs_independence.specs.Discipline.{IsOrdered}
use Rattle.vs_process.proofs.ProcessLists.{none_from}
use Rattle.vs_design.specs.vs_logic4.proofs.Basics.{element_of as any_at}
use Rattle.std.proofs.lemmas.Bool.{cases_Bool, cases_eq, false_from_ne_true, true≢false}
use Rattle.vs_process.proofs.ThreadLists.{contains_at}
use Rattle.vs_process.proofs.Ranges.{covered_fixes, fixed_write, same_content}
use Rattle.vs_process.proofs.Fares.{covered_puts}
use Rattle.vs_process.specs.vs_eval.specs.Laws.{digit_of}
use Rattle.vs_process.proofs.Feeds.{into_covered}
use Rattle.vs_process.proofs.ThreadsNamed.{named}
use Rattle.vs_process.proofs.Settle.{same_fixed}
use Rattle.vs_process.proofs.Values.{same_unchanged, target_value_unchanged}
use Rattle.vs_process.specs.vs_eval.specs.Values.{target_value}
use Rattle.vs_process.specs.Feeds.{writes_into}
use Rattle.vs_process.proofs.Assigns.{drives}
use Rattle.vs_process.proofs.Stores.{shape}

-- a block that puts out the same where it follows the same, and each bit that it follows is looked at
pub record Hangs (d : Parts) (roles : Roles) (a c : Store) (Up : BitRange → Type 0) (k : ℕ) : Type 0 where
  pub same : AgreeOn d k (roles.inputs k) a c → SameOutputs d k a c
  pub up : (r : BitRange) (w n : ℕ) → HasBit d r.signal w n → Contains (roles.inputs k) r → puts_out d k r.signal ≡ false → covers r.signal w n r ≡ true → (q : BitRange) × Up q × (covers r.signal w n q ≡ true)

-- two settled stores that agree on the bits, of the ranges that are looked at, that no driver covers; with a range the ranges are looked at which its drivers follow
pub record Comparing (d : Parts) (roles : Roles) (a c : Store) (Up : BitRange → Type 0) : Type 0 where
  pub well : DrivesWell d
  pub z : Blocked d roles
  pub order : IsOrdered d roles
  pub started : shape a ≡ shape (start_store d)
  pub shaped : shape a ≡ shape c
  pub left_one : (j : ℕ) (e : Assign) → slice_get d.assigns j ≡ Some e → put a (fixed_write e.target (target_value e.target e.source a 0)) ≡ a
  pub left_other : (j : ℕ) (e : Assign) → slice_get d.assigns j ≡ Some e → put c (fixed_write e.target (target_value e.target e.source c 0)) ≡ c
  pub plain : (v w n : ℕ) (r : BitRange) → Up r → covers v w n r ≡ true → drives d.assigns v w n ≡ false → ((k : ℕ) → roles.blocks k ≡ true → list_any (covers v w n) (outputs d k) ≡ false) →
      digit_of a v w n ≡ digit_of c v w n
  pub up : (r q : BitRange) (j : ℕ) (e : Assign) → Up r → slice_get d.assigns j ≡ Some e → writes_into d e.target r ≡ true → Contains (reads e.source) q → Up q
  pub block : (r : BitRange) (k : ℕ) → Up r → roles.blocks k ≡ true → puts_into d k r ≡ true → SameOutputs d k a c ⊎ Hangs d roles a c Up k

-- a bit by its driver
by_driver : (d : Parts) (roles : Roles) (a c : Store) (Up : BitRange → Type 0) → Comparing d roles a c Up → (v w n : ℕ) (r : BitRange) → Up r → covers v w n r ≡ true →
    ((j : ℕ) (e : Assign) → slice_get d.assigns j ≡ Some e → list_any (covers v w n) (writes e.target) ≡ true → digit_of a v w n ≡ digit_of c v w n) →
    ((k : ℕ) → roles.blocks k ≡ true → list_any (covers v w n) (outputs d k) ≡ true → digit_of a v w n ≡ digit_of c v w n) → digit_of a v w n ≡ digit_of c v w n
by_driver d roles a c Up x v w n r up at_r of_assign of_block =
    elim (cases_Bool (drives d.assigns v w n)) [
      | inl driven ↦ let by = any_at (λ (e : Assign). list_any (covers v w n) (writes e.target)) d.assigns driven in of_assign by.0 by.1 by.2 by.3
      | inr none ↦ by_holder none (held d roles.blocks v)
    ]
  where
    uncovered : (k : ℕ) → (puts_out d k v ≡ true → ⊥) → list_any (covers v w n) (outputs d k) ≡ false
    uncovered k out = false_from_ne_true (list_any (covers v w n) (outputs d k)) (λ h. out (covered_puts d k v w n h))

    by_block : drives d.assigns v w n ≡ false → (k : ℕ) → roles.blocks k ≡ true → puts_out d k v ≡ true → ((list_any (covers v w n) (outputs d k) ≡ true) ⊎ (list_any (covers v w n) (outputs d k) ≡ false)) → digit_of a v w n ≡ digit_of c v w n
    by_block none k is hit (inl covered) = of_block k is covered
    by_block none k is hit (inr miss) = x.plain v w n r up at_r none (λ l at_l.
        elim (cases_eq l k) [
          | inl e ↦ subst (λ m. list_any (covers v w n) (outputs d m) ≡ false) (sym e) miss
          | inr ne ↦ uncovered l (λ other. ne (x.z.exclusive l k v at_l is other hit))
        ])

    by_holder : drives d.assigns v w n ≡ false → (IsSource d roles.blocks v ⊎ ((is_driven d.assigns v ≡ true) ⊎ HasBlock d roles.blocks v)) → digit_of a v w n ≡ digit_of c v w n
    by_holder none (inl source) = x.plain v w n r up at_r none (λ k is. uncovered k (λ hit. true≢false (sym hit ∙ source.unwritten k is)))
    by_holder none (inr (inl driven)) = x.plain v w n r up at_r none (λ k is. uncovered k (λ hit. true≢false (sym driven ∙ x.z.own k v is hit)))
    by_holder none (inr (inr (k, is, hit))) = by_block none k is hit (cases_Bool (list_any (covers v w n) (outputs d k)))

-- what drivers of a rank below a number make is the same
record Below (d : Parts) (roles : Roles) (a c : Store) (Up : BitRange → Type 0) (x : Comparing d roles a c Up) (n : ℕ) : Type 0 where
  assigns : (j : ℕ) (e : Assign) → slice_get d.assigns j ≡ Some e → x.order.rank j < n → (v w k : ℕ) (r : BitRange) → Up r → covers v w k r ≡ true → list_any (covers v w k) (writes e.target) ≡ true →
      digit_of a v w k ≡ digit_of c v w k
  blocks : (k : ℕ) → roles.blocks k ≡ true → x.order.block_rank k < n → (r : BitRange) → Up r → puts_into d k r ≡ true → SameOutputs d k a c

below : (d : Parts) (roles : Roles) (a c : Store) (Up : BitRange → Type 0) (x : Comparing d roles a c Up) (n : ℕ) → Below d roles a c Up x n
below d roles a c Up x zero = record { assigns = λ j e is lt. absurd (omega (arith, lt)); blocks = λ k is lt. absurd (omega (arith, lt)) }
below d roles a c Up x (suc n) = step_up (below d roles a c Up x n)
  where
    read_same : Below d roles a c Up x n → (j : ℕ) (e : Assign) → slice_get d.assigns j ≡ Some e → x.order.rank j < suc n → (m : ℕ) (q : BitRange) → slice_get (reads e.source) m ≡ Some q → Up q →
        (w k : ℕ) → covers q.signal w k q ≡ true → digit_of a q.signal w k ≡ digit_of c q.signal w k
    read_same b j e is lt m q at_m up w k at_q = by_bit d a c x.started x.shaped q.signal w k (λ bit.
        by_driver d roles a c Up x q.signal w k q up at_q
        (λ i f at_i covered.
        let less = x.order.falls i j f e q at_i is (contains_at (reads e.source) m q at_m) (record { word = w; place = k; bit = bit; listed = covered; has = at_q }) in
        b.assigns i f at_i (omega (arith, less, lt)) q.signal w k q up at_q covered)
        (λ l at_l covered.
        let less = x.order.falls_from_block l j e q at_l is (contains_at (reads e.source) m q at_m) (record { word = w; place = k; bit = bit; listed = covered; has = at_q }) in
        b.blocks l at_l (omega (arith, less, lt)) q up (puts_covered d l q q.signal w k bit covered at_q) q.signal w k covered))

    at_assign : Below d roles a c Up x n → (j : ℕ) (e : Assign) → slice_get d.assigns j ≡ Some e → x.order.rank j < suc n → (v w k : ℕ) (r : BitRange) → Up r → covers v w k r ≡ true → list_any (covers v w k) (writes e.target) ≡ true →
        digit_of a v w k ≡ digit_of c v w k
    at_assign b j e is lt v w k r up at_r hit = by_bit d a c x.started x.shaped v w k (λ bit.
        let into = into_covered d e.target r v w k bit hit at_r in
        let same : target_value e.target e.source a 0 ≡ target_value e.target e.source c 0 =
        target_value_unchanged a c 0 0 e.target e.source (none_from (is_changed a c) (reads e.source) (λ m q at_m.
        same_unchanged a c q (same_content a c q x.shaped (read_same b j e is lt m q at_m (x.up r q j e up is into (contains_at (reads e.source) m q at_m)))))) in
        same_fixed a c (fixed_write e.target (target_value e.target e.source a 0)) v w k x.shaped
        (covered_fixes e.target (target_value e.target e.source a 0) v w k (x.well.places.fixed j e is) hit)
        (x.left_one j e is)
        (ap (λ ds. put c (fixed_write e.target ds)) same ∙ x.left_other j e is))

    input_same : Below d roles a c Up x n → (k : ℕ) → roles.blocks k ≡ true → x.order.block_rank k < suc n → Hangs d roles a c Up k → AgreeOn d k (roles.inputs k) a c
    input_same b k is lt hangs r named other =
        same_unchanged a c r (same_content a c r x.shaped (λ w m at_r. by_bit d a c x.started x.shaped r.signal w m (λ bit.
        let q = hangs.up r w m bit named other at_r in
        by_driver d roles a c Up x r.signal w m q.0 q.1 q.2
        (λ i f at_i covered.
        let less = x.order.falls_to_block i k f r at_i is named other (record { word = w; place = m; bit = bit; listed = covered; has = at_r }) in
        b.assigns i f at_i (omega (arith, less, lt)) r.signal w m q.0 q.1 q.2 covered)
        (λ l at_l covered.
        let less = x.order.falls_between l k r at_l is named other (record { word = w; place = m; bit = bit; listed = covered; has = at_r }) in
        b.blocks l at_l (omega (arith, less, lt)) q.0 q.1 (puts_covered d l q.0 r.signal w m bit covered q.2) r.signal w m covered))))

    at_block : Below d roles a c Up x n → (k : ℕ) → roles.blocks k ≡ true → x.order.block_rank k < suc n → (SameOutputs d k a c ⊎ Hangs d roles a c Up k) → SameOutputs d k a c
    at_block b k is lt (inl same) = same
    at_block b k is lt (inr hangs) = hangs.same (input_same b k is lt hangs)

    step_up : Below d roles a c Up x n → Below d roles a c Up x (suc n)
    step_up b = record { assigns = at_assign b; blocks = λ k is lt r up into. at_block b k is lt (x.block r k up is into) }

-- they agree on every bit of what is looked at
pub compared : (d : Parts) (roles : Roles) (a c : Store) (Up : BitRange → Type 0) → Comparing d roles a c Up → (v w n : ℕ) (r : BitRange) → Up r → covers v w n r ≡ true → digit_of a v w n ≡ digit_of c v w n
compared d roles a c Up x v w n r up at_r =
    by_driver d roles a c Up x v w n r up at_r
    (λ j e is hit. let lt : x.order.rank j < suc (x.order.rank j) = omega arith in (below d roles a c Up x (suc (x.order.rank j))).assigns j e is lt v w n r up at_r hit)
    (λ k is hit. by_bit d a c x.started x.shaped v w n (λ bit.
    let lt : x.order.block_rank k < suc (x.order.block_rank k) = omega arith in
    (below d roles a c Up x (suc (x.order.block_rank k))).blocks k is lt r up (puts_covered d k r v w n bit hit at_r) v w n hit))

-- a block whose inputs are looked at puts out the same
pub compared_inputs : (d : Parts) (roles : Roles) (a c : Store) (Up : BitRange → Type 0) → Comparing d roles a c Up → (k : ℕ) →
    ((r : BitRange) (w n : ℕ) → HasBit d r.signal w n → Contains (roles.inputs k) r → puts_out d k r.signal ≡ false → covers r.signal w n r ≡ true → (q : BitRange) × Up q × (covers r.signal w n q ≡ true)) →
    AgreeOn d k (roles.inputs k) a c
compared_inputs d roles a c Up x k up r named other =
    same_unchanged a c r (same_content a c r x.shaped (λ w n at_r. by_bit d a c x.started x.shaped r.signal w n (λ bit.
    let q = up r w n bit named other at_r in
    compared d roles a c Up x r.signal w n q.0 q.1 q.2)))
