-- A sink that takes bytes piece by piece.
use Rattle.std.proofs.Common.{◌≡◌, ℕ, zero, suc, ◌+◌, ◌-◌, ◌<◌, arith, Option, Some, None, List, [], ◌++◌, length, take, drop, refl, sym, ap, ◌∙◌, subst, append-nil}
use Rattle.std.proofs.lemmas.List.{drop-drop, take-append-drop, take_rest}
use Rattle.std.proofs.Math.Seq.{take-add}
use Rattle.std.proofs.Math.Dec.{eqb-suc-zero}
use Rattle.std.proofs.KnownBytes.{Appends-nil, Appends-trans}
use Rattle.std.specs.Io.KnownBytes.{Appends, Keeps}
use Rattle.std.specs.Prelude.{◌==◌, ◌&&◌, not}
use Rattle.vs_vcd_writing.specs.Sinks.{AppendsPart, failed_after}

-- the front of these bytes was taken, and `rest` is left
pub record HasTaken (old new : Option (List ℕ)) (bytes rest : List ℕ) : Type 0 where
  pub count : ℕ
  pub left : rest ≡ drop count bytes
  pub took : Appends old new (take count bytes)

pub taken_none : (a : Option (List ℕ)) (bytes : List ℕ) → HasTaken a a bytes bytes
taken_none a bytes = record { count = 0; left = refl; took = Appends-nil a }

pub taken_more : (a b c : Option (List ℕ)) (bytes rest : List ℕ) (n : ℕ) → HasTaken a b bytes rest → Appends b c (take n rest) → HasTaken a c bytes (drop n rest)
taken_more a b c bytes rest n h more = record {
  count = h.count + n;
  left = ap (drop n) h.left ∙ drop-drop n h.count bytes;
  took = subst (Appends a c) (sym (take-add h.count n bytes))
      (Appends-trans a b c (take h.count bytes) (take n (drop h.count bytes)) h.took (subst (λ l. Appends b c (take n l)) h.left more));
}

-- the same, with what is left as code cuts it
pub taken_cut : (a b c : Option (List ℕ)) (bytes rest : List ℕ) (n : ℕ) → HasTaken a b bytes rest → Appends b c (take n rest) → HasTaken a c bytes (take (length rest - n) (drop n rest))
taken_cut a b c bytes rest n h more = subst (HasTaken a c bytes) (sym (take_rest rest n)) (taken_more a b c bytes rest n h more)

pub taken_all : (a b : Option (List ℕ)) (bytes rest : List ℕ) → HasTaken a b bytes rest → rest ≡ [] → Appends a b bytes
taken_all a b bytes rest h none =
    let whole : take h.count bytes ≡ bytes =
    sym (append-nil (take h.count bytes)) ∙ ap (λ l. take h.count bytes ++ l) (sym (sym h.left ∙ none)) ∙ take-append-drop h.count bytes in
    subst (Appends a b) whole h.took

pub Appends-kept_part : (a b : Option (List ℕ)) → Keeps a b → Appends a b []
Appends-kept_part None b h = tt
Appends-kept_part (Some x) None h = h
Appends-kept_part (Some x) (Some y) h = h ∙ sym (append-nil x)

pub taken_part : (a b c : Option (List ℕ)) (bytes rest : List ℕ) → HasTaken a b bytes rest → Keeps b c → AppendsPart a c bytes
taken_part a b c bytes rest h kept =
    (h.count, subst (Appends a c) (append-nil (take h.count bytes)) (Appends-trans a b c (take h.count bytes) [] h.took (Appends-kept_part b c kept)))

-- a write that took a byte is no failure
pub unfailed : (n count new : ℕ) (piece : List ℕ) → 0 < n → new ≡ failed_after (n == 0 && not (length piece == 0)) count → new ≡ count
unfailed zero count new piece h e = absurd (omega arith)
unfailed (suc n) count new piece h e = e ∙ ap (λ b. failed_after (b && not (length piece == 0)) count) (eqb-suc-zero n)
