-- Lemmas on an input that is read byte by byte.
use Rattle.std.proofs.Common.{append_assoc, append-nil, ◌≡◌, ◌∙◌, ap, ne_eqb, refl, sym, ℕ, true, false, List, [], ◌∷◌, ◌++◌, take, ◌==◌}
use Rattle.std.specs.Prelude.{Option, Some, None, OnOk, Result, Ok, Err}
use Rattle.std.specs.Io.KnownBytes.{Consumes, IsAtEnd}
use Rattle.vs_program.specs.Inputs.{AreKept, after_line, first_line}
use Rattle.vs_program.specs.passes.Reading.{HasKept, HasRead}
use Rattle.vs_program.specs.declared.input.Kept as input
use Rattle.vs_program.proofs.Inputs.{fed_after, fed_end, fed_first}

-- one byte more was read
pub read_more : (whole left rest : Option (List ℕ)) (b : ℕ) (old new : input.Kept) → HasRead whole left old → Consumes left rest (b ∷ [])
    → ((seen : List ℕ) → HasKept seen old → HasKept (seen ++ b ∷ []) new) → HasRead whole rest new
read_more None left rest b old new h one then = record { seen = h.seen ++ b ∷ []; kept = then h.seen h.kept; consumed = tt }
read_more (Some xs) None rest b old new h one then = absurd h.consumed
read_more (Some xs) (Some ys) None b old new h one then = absurd one
read_more (Some xs) (Some ys) (Some zs) b old new h one then = record {
  seen = h.seen ++ b ∷ [];
  kept = then h.seen h.kept;
  consumed = h.consumed ∙ ap (λ (l : List ℕ). h.seen ++ l) one ∙ sym (append_assoc h.seen (b ∷ []) zs);
}

-- all was read
pub all_read : (whole left : Option (List ℕ)) (k : input.Kept) → HasRead whole left k → IsAtEnd left → AreKept whole k.certificate.items k.source.items
all_read None left k h end = tt
all_read (Some xs) None k h end = absurd h.consumed
all_read (Some xs) (Some ys) k h end =
    let same : xs ≡ h.seen = h.consumed ∙ ap (λ (l : List ℕ). h.seen ++ l) end ∙ append-nil h.seen in
    (h.kept.certificate ∙ ap (λ (l : List ℕ). take 16777217 (first_line l)) (sym same), h.kept.source ∙ ap (λ (l : List ℕ). take 8388609 (after_line l)) (sym same))

-- ---- a byte more is kept

pub on_ok : {T E P Q : Type 0} (r : Result T E) → (P → Q) → OnOk r P → OnOk r Q
on_ok (Ok x) f h = f h
on_ok (Err e) f h = tt

-- of the source, of the line of the certificate, or of neither, where it is the line feed that ends that
pub more_source : (seen : List ℕ) (b : ℕ) (old new : input.Kept) → HasKept seen old → old.line_ended ≡ true → new.certificate ≡ old.certificate → new.line_ended ≡ old.line_ended
    → new.source.items ≡ take 8388609 (after_line seen ++ b ∷ []) → HasKept (seen ++ b ∷ []) new
more_source seen b old new h ended same still more =
    let fed = fed_after seen b (sym h.ended ∙ ended) in
    record {
      certificate = ap (λ v. v.items) same ∙ h.certificate ∙ ap (take 16777217) (sym fed.0);
      source = more ∙ ap (take 8388609) (sym fed.1);
      ended = still ∙ ended ∙ sym fed.2;
    }

pub more_certificate : (seen : List ℕ) (b : ℕ) (old new : input.Kept) → HasKept seen old → old.line_ended ≡ false → (b ≡ 10 → ⊥) → new.source ≡ old.source
    → new.line_ended ≡ old.line_ended → new.certificate.items ≡ take 16777217 (first_line seen ++ b ∷ []) → HasKept (seen ++ b ∷ []) new
more_certificate seen b old new h goes other same still more =
    let fed = fed_first seen b (sym h.ended ∙ goes) (ne_eqb b 10 other) in
    record {
      certificate = more ∙ ap (take 16777217) (sym fed.0);
      source = ap (λ v. v.items) same ∙ h.source ∙ ap (take 8388609) (sym fed.1);
      ended = still ∙ goes ∙ sym fed.2;
    }

pub line_ends : (seen : List ℕ) (b : ℕ) (old new : input.Kept) → HasKept seen old → old.line_ended ≡ false → b ≡ 10 → new.certificate ≡ old.certificate → new.source ≡ old.source
    → new.line_ended ≡ true → HasKept (seen ++ b ∷ []) new
line_ends seen b old new h goes is certificate source ended =
    let feed : (b == 10) ≡ true = rw is refl in
    let fed = fed_end seen b (sym h.ended ∙ goes) feed in
    record {
      certificate = ap (λ v. v.items) certificate ∙ h.certificate ∙ ap (take 16777217) (sym fed.0);
      source = ap (λ v. v.items) source ∙ h.source ∙ ap (take 8388609) (sym fed.1);
      ended = ended ∙ sym fed.2;
    }
