-- Lines of the body that are read as something else than is wanted.
use Rattle.std.proofs.Common.{◌≡◌, ℕ, ◌<◌, ◌≤◌, ◌^◌, Bool, false, Some, List, decimal, length, slice_get, sym, ap, subst, ◌∙◌, arith}
use Rattle.std.proofs.lemmas.Fmt.{decimal_injective}
use Rattle.vs_design.specs.vs_logic4.specs.declared.digit.Digit.{Digit}
use Rattle.vs_vcd_lines.specs.vs_vcd_writing.specs.Text.{time_line}
use Rattle.vs_vcd_lines.specs.declared.dump.ValueChange.{ValueChange}
use Rattle.vs_vcd_lines.specs.Lines.{change_line, IsSized}
use Rattle.vs_vcd_reader.specs.declared.fault.VcdFault.{VcdFault}
use Rattle.vs_vcd_reader.specs.Bodies.{IsNoChange, IsNoValue}
use Rattle.vs_vcd_reader.specs.Stops.{IsBodyKind}
use Rattle.vs_vcd_reader.proofs.OnceLemmas.{change_once}

-- ---- counts of variables

pub kind_at : (line : List ℕ) (fault : VcdFault) (m n : ℕ) → m ≡ n → IsBodyKind m line fault → IsBodyKind n line fault
kind_at line fault m n same h = subst (λ k. IsBodyKind k line fault) same h

pub value_at : (ws line : List ℕ) (fault : VcdFault) (m n : ℕ) → m ≡ n → IsNoValue ws m line fault → IsNoValue ws n line fault
value_at ws line fault m n same h = subst (λ k. IsNoValue ws k line fault) same h

-- ---- values

-- a line that is no change at all
pub no_value : (ws line : List ℕ) (number count : ℕ) (fault : VcdFault) → ((c : ValueChange) → IsSized ws c → line ≡ change_line c → ⊥) → count ≡ length ws
    → IsBodyKind count line fault → IsNoValue ws number line fault
no_value ws line number count fault none same kind =
    record { none = λ c numbered sized is. none c sized is; kind = kind_at line fault count (length ws) same kind }

-- one of another variable
pub other_value : (ws line : List ℕ) (number count : ℕ) (fault : VcdFault) (c : ValueChange) → IsSized ws c × (line ≡ change_line c) → (c.number ≡ number → ⊥)
    → count ≡ length ws → IsBodyKind count line fault → IsNoValue ws number line fault
other_value ws line number count fault c h other same kind = record {
  none = λ x numbered sized is. other (ap (λ (y : ValueChange). y.number) (change_once ws c x h.0 sized (sym h.1 ∙ is)) ∙ numbered);
  kind = kind_at line fault count (length ws) same kind;
}

-- ---- changes

pub no_change : (ws line : List ℕ) (values : List (List Digit)) (from count : ℕ) (fault : VcdFault) → ((c : ValueChange) → IsSized ws c → line ≡ change_line c → ⊥)
    → count ≡ length ws → IsBodyKind count line fault → IsNoChange ws values from line fault
no_change ws line values from count fault none same kind =
    record { none = λ c least change is. none c change.sized is; kind = kind_at line fault count (length ws) same kind }

-- one of a variable before
pub early_change : (ws line : List ℕ) (values : List (List Digit)) (from count : ℕ) (fault : VcdFault) (c : ValueChange) → IsSized ws c × (line ≡ change_line c)
    → c.number < from → count ≡ length ws → IsBodyKind count line fault → IsNoChange ws values from line fault
early_change ws line values from count fault c h below same kind = record {
  none = λ x least change is.
      let one = ap (λ (y : ValueChange). y.number) (change_once ws c x h.0 change.sized (sym h.1 ∙ is)) in omega (arith, one, below, least);
  kind = kind_at line fault count (length ws) same kind;
}

-- one to the value written last
pub same_change : (ws line : List ℕ) (values : List (List Digit)) (from count : ℕ) (fault : VcdFault) (c : ValueChange) (old : List Digit)
    → IsSized ws c × (line ≡ change_line c) → slice_get values c.number ≡ Some old → c.value ≡ old → count ≡ length ws → IsBodyKind count line fault
    → IsNoChange ws values from line fault
same_change ws line values from count fault c old h before same_value same kind = record {
  none = λ x least change is.
      let one : c ≡ x = change_once ws c x h.0 change.sized (sym h.1 ∙ is) in
      let last : Some old ≡ Some change.old = sym before ∙ ap (λ (y : ValueChange). slice_get values y.number) one ∙ change.before in
      let olds : old ≡ change.old = cc in
      change.differs (ap (λ (y : ValueChange). y.value) (sym one) ∙ same_value ∙ olds);
  kind = kind_at line fault count (length ws) same kind;
}

-- ---- times

pub early_time : (line : List ℕ) (last time : ℕ) (bare : Bool) → (time < 2 ^ 64) × (line ≡ time_line time) → time ≤ last
    → (t : ℕ) → bare ≡ false → last < t → t < 2 ^ 64 → line ≡ time_line t → ⊥
early_time line last time bare h most t some after small is =
    let lines : time_line time ≡ time_line t = sym h.1 ∙ is in
    let texts : decimal time ≡ decimal t = cc in
    let one = decimal_injective time t h.0 small texts in
    omega (arith, one, most, after)
