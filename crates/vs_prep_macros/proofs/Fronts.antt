-- Bytes without the last ones.
use Rattle.std.proofs.Common.{ℕ, ◌≡◌, ◌+◌, Bool, true, List, [], ◌∷◌, ◌++◌, append_assoc, length, reverse, take, drop, refl, ap, sym, ◌∙◌}
use Rattle.std.proofs.lemmas.List.{length_push, reverse-append, take-append-drop}
use Rattle.std.proofs.Math.Seq.{take-append_seam}
use Rattle.vs_lexer.specs.Bytes.{after_run}

-- there is one byte less before the last one
pub length_before : (rest before : List ℕ) (last : ℕ) → rest ≡ before ++ last ∷ [] → length rest ≡ length before + 1
length_before rest before last e = ap length e ∙ length_push before last

-- a last byte that passes is one of those at the end
pub run_before : (test : ℕ → Bool) (rest before : List ℕ) (last : ℕ) → rest ≡ before ++ last ∷ [] → test last ≡ true → after_run test (reverse before) ≡ after_run test (reverse rest)
run_before test rest before last e t =
    let turned : reverse rest ≡ last ∷ reverse before = ap reverse e ∙ reverse-append before (last ∷ []) in
    let same : after_run test (last ∷ reverse before) ≡ after_run test (reverse before) = rw t refl in
    sym same ∙ ap (after_run test) (sym turned)

-- what stands before the last byte of a front is one too
pub front_before : (bytes rest before : List ℕ) (last : ℕ) → rest ≡ before ++ last ∷ [] → rest ≡ take (length rest) bytes → before ≡ take (length before) bytes
front_before bytes rest before last e h =
    let more = drop (length rest) bytes in
    let whole : bytes ≡ before ++ last ∷ more = sym (take-append-drop (length rest) bytes) ∙ ap (λ (l : List ℕ). l ++ more) (sym h ∙ e) ∙ append_assoc before (last ∷ []) more in
    sym (take-append_seam before (last ∷ more)) ∙ ap (take (length before)) (sym whole)
