-- The bytes say one value at most, so what is answered is that value.
use Rattle.std.proofs.Common.{◌≡◌, ℕ, ◌≤◌, Bool, true, false, List, length, Some, Result, Ok, Err, IfOk, IfErr, MatchResult, true≢false, refl, sym, ap, subst, ◌∙◌, inl, inr, arith}
use Rattle.serde_json.specs.Data.{Data}
use Rattle.vs_certificate.specs.declared.members.Certificate.{Certificate}
use Rattle.vs_certificate.specs.declared.fault.CertFault.{CertFault}
use Rattle.vs_certificate.specs.declared.fault.CertFault.TheVariants as faults
use Rattle.vs_certificate.specs.JsonValue.{value_of}
use Rattle.vs_certificate.specs.Shape.{is_whole, is_certificate}
use Rattle.vs_certificate.specs.Limits.{is_within_limits}
use Rattle.vs_certificate.specs.Reading.{IsJson, IsSoundBy, FailsForm, PassesBy, IsFaultBy}

-- the bytes say one value at most
one_value : (bytes : List ℕ) (d e : Data) → IsJson bytes d → IsJson bytes e → d ≡ e
one_value bytes d e p q = let same : Some d ≡ Some e = sym p.reads.1 ∙ q.reads.1 in cc

not_both : (b : Bool) → b ≡ true → b ≡ false → ⊥
not_both b p q = true≢false (sym p ∙ q)

module _ (is_other : Data → Bool) (bytes : List ℕ) where
  not_fault : (d : Data) → PassesBy is_other bytes d → (e : CertFault) → IsFaultBy is_other bytes e → e ≡ faults.Memory
  not_fault d p faults.NotJson (inl long) = let short : length bytes ≤ 16777216 = p.json.short in absurd (omega arith)
  not_fault d p faults.NotJson (inr none) = absurd (none d p.json.reads)
  not_fault d p faults.Version h = let same = one_value bytes h.0 d h.1 p.json in absurd (not_both _ (sym (ap is_other same) ∙ h.2) p.sound.version)
  not_fault d p faults.Shape h = let same = one_value bytes h.0 d h.1 p.json in absurd (not_both _ p.sound.shape (sym (ap (is_certificate is_whole) same) ∙ h.2.1))
  not_fault d p faults.Limit h = let same = one_value bytes h.0 d h.1 p.json in absurd (not_both _ p.sound.limits (sym (ap is_within_limits same) ∙ h.2.2))
  not_fault d p faults.Memory h = refl

  pub only_value : (r : Result Certificate CertFault) → IfOk r (λ c. PassesBy is_other bytes (value_of c)) → IfErr r (IsFaultBy is_other bytes) → (d : Data) → PassesBy is_other bytes d
      → MatchResult r (λ c. value_of c ≡ d) (λ e. e ≡ faults.Memory)
  only_value (Ok c) ok fault d p = one_value bytes (value_of c) d ok.json p.json
  only_value (Err e) ok fault d p = not_fault d p e fault

  -- what is answered of the value that the bytes say
  pub passes_from : (d : Data) → IsJson bytes d → is_other d ≡ false → (r : Result Certificate CertFault) → IfOk r (λ c. value_of c ≡ d) → IfOk r (λ _. is_certificate is_whole d ≡ true) → IfOk r (λ _. is_within_limits d ≡ true) →
      IfOk r (λ c. PassesBy is_other bytes (value_of c))
  passes_from d json known (Ok c) value shape limits =
      record { json = subst (IsJson bytes) (sym value) json; sound = subst (IsSoundBy is_other) (sym value) (record { version = known; shape = shape; limits = limits }) }
  passes_from d json known (Err e) value shape limits = tt

  fault_of : (d : Data) → IsJson bytes d → is_other d ≡ false → (e : CertFault) → FailsForm d e → IsFaultBy is_other bytes e
  fault_of d json known faults.NotJson h = absurd h
  fault_of d json known faults.Version h = absurd h
  fault_of d json known faults.Shape h = (d, json, (known, h))
  fault_of d json known faults.Limit h = (d, json, (known, h.0, h.1))
  fault_of d json known faults.Memory h = tt

  pub fault_from : (d : Data) → IsJson bytes d → is_other d ≡ false → (r : Result Certificate CertFault) → IfErr r (FailsForm d) → IfErr r (IsFaultBy is_other bytes)
  fault_from d json known (Ok c) h = tt
  fault_from d json known (Err e) h = fault_of d json known e h
