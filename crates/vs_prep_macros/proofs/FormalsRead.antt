-- Reading formals one by one.
use Rattle.std.proofs.Common.{ℕ, ◌≡◌, ◌+◌, Bool, true, false, cond, List, [], ◌∷◌, ◌++◌, length, Option, Some, None, is_some, Result, Ok, Err, refl, ap, sym, subst, ◌∙◌}
use Rattle.std.specs.BTreeMap.{insert_entry}
use Rattle.std.specs.Borrow.{Bor}
use Rattle.std.specs.Cmp.Lexicographic.{slice_cmp}
use Rattle.std.specs.Map.{lookup}
use Rattle.std.specs.Ordering.{is_eq, nat_cmp}
use Rattle.std.specs.Str.{bytes_eq}
use Rattle.std.proofs.lemmas.List.{length_push}
use Rattle.vs_prep_macros.specs.declared.fault.Fault.TheVariants as d
use Rattle.vs_prep_macros.specs.declared.fault.Halt.{Halt}
use Rattle.vs_prep_macros.specs.declared.fault.Halt.TheVariants as h
use Rattle.vs_prep_macros.specs.Answers.{Stops}
use Rattle.vs_prep_macros.specs.Definitions.{AreFormalsIfAny}
use Rattle.vs_prep_macros.specs.Formals.{FoundFormals, Marks, MarkSo, Numbers, Reads, ReadsFormal, AreFormals, marked, next_formal, number_of}
use Rattle.vs_prep_macros.specs.Folds.{Turn, Ends, Through, ends, goes}
use Rattle.vs_prep_macros.specs.Names.{name_at}
use Rattle.vs_prep_macros.specs.Spaces.{skip_joined}
use Rattle.vs_prep_macros.proofs.NameMaps.{at_name_inserted, number_of_pushed}

-- what is found from here on is found from the first formal on; or all have been found
abbrev pub Further : List ℕ → Bool → List (List ℕ) → List ℕ → Type 0
Further bytes true names rest = (found : FoundFormals) → Through ReadsFormal names rest found → AreFormals bytes found
Further bytes false names rest = AreFormals bytes (Ok (names, rest))

pub record SoFar (bytes : List ℕ) (more : Bool) (names : List (List ℕ)) (rest : List ℕ) : Type 0 where
  pub further : Further bytes more names rest

pub formals_none : (bytes : List ℕ) → SoFar bytes true [] bytes
formals_none bytes = record { further = λ found t. t }

-- a formal more
pub formal_read : (bytes : List ℕ) (more : Bool) (old names : List (List ℕ)) (rest after : List ℕ) → SoFar bytes true old rest → MarkSo (next_formal old rest) names more after
    → SoFar bytes more names after
formal_read bytes true old names rest after so e = record { further = λ found t. so.further found (goes e t) }
formal_read bytes false old names rest after so e = record { further = so.further (Ok (names, after)) (ends e) }

pub formals_all : (bytes : List ℕ) (names : List (List ℕ)) (rest : List ℕ) → SoFar bytes false names rest → AreFormals bytes (Ok (names, rest))
formals_all bytes names rest so = so.further

pub still_more : (bytes : List ℕ) (more : Bool) (names : List (List ℕ)) (rest : List ℕ) → more ≡ true → SoFar bytes more names rest → SoFar bytes true names rest
still_more bytes more names rest e so = subst (λ (b : Bool). SoFar bytes b names rest) e so

pub formals_stop : (bytes : List ℕ) (names : List (List ℕ)) (rest : List ℕ) (e : Halt) → SoFar bytes true names rest → Stops (λ r. next_formal names rest ≡ Ends r) e → Stops (AreFormals bytes) e
formals_stop bytes names rest h.Memory so s = tt
formals_stop bytes names rest (h.Here fault) so s = so.further (Err (h.Here fault)) (ends s)
formals_stop bytes names rest (h.At fault left) so s = so.further (Err (h.At fault left)) (ends s)

-- the same, where a parenthesis opens them
pub formals_opened : (bytes inside rest : List ℕ) (names : List (List ℕ)) → bytes ≡ 40 ∷ inside → AreFormals inside (Ok (names, rest)) → AreFormalsIfAny bytes (Ok (Some names, rest))
formals_opened bytes inside rest names e all = subst (λ (b : List ℕ). AreFormalsIfAny b (Ok (Some names, rest))) (sym e) (Ok (names, rest), all, refl)

-- ---- a formal, by the name that stands at these bytes

pub formal_none : (names : List (List ℕ)) (bytes at : List ℕ) → at ≡ skip_joined bytes → name_at at ≡ None → next_formal names bytes ≡ Ends (Err (h.Here d.Formals))
unfolding next_formal
formal_none names bytes at b e = rw (← b, e) refl

pub formal_known : {K : Type 0} (entries : List (K × ℕ)) (items : K → List ℕ) (names : List (List ℕ)) (bytes at name after : List ℕ) → Numbers entries items names
    → at ≡ skip_joined bytes → name_at at ≡ Some (name, after) → true ≡ is_some (lookup (λ k. is_eq (slice_cmp nat_cmp name (items k))) entries)
    → next_formal names bytes ≡ Ends (Err (h.At d.SameFormals (length at)))
unfolding next_formal
formal_known entries items names bytes at name after n b e t =
    let known : is_some (number_of names name) ≡ true = ap is_some (sym (n.at name)) ∙ sym t in
    rw (← b, e, known) refl

pub formal_fresh : {K : Type 0} (entries : List (K × ℕ)) (items : K → List ℕ) (names : List (List ℕ)) (bytes at name after : List ℕ) → Numbers entries items names
    → at ≡ skip_joined bytes → name_at at ≡ Some (name, after) → false ≡ is_some (lookup (λ k. is_eq (slice_cmp nat_cmp name (items k))) entries)
    → next_formal names bytes ≡ marked (names ++ name ∷ []) (skip_joined after)
unfolding next_formal
formal_fresh entries items names bytes at name after n b e t =
    let fresh : is_some (number_of names name) ≡ false = ap is_some (sym (n.at name)) ∙ sym t in
    rw (← b, e, fresh) refl

-- no name is numbered in an empty map
pub numbers_none : {K : Type 0} (entries : List (K × ℕ)) (items : K → List ℕ) → entries ≡ [] → Numbers entries items []
numbers_none entries items e = record { at = λ name. ap (lookup (λ k. is_eq (slice_cmp nat_cmp name (items k)))) e; count = ap length e }

-- a fresh name gets the next number
pub numbers_pushed : {K : Type 0} (entries new : List (K × ℕ)) (items : K → List ℕ) (names : List (List ℕ)) (name : List ℕ) (k : K) (v : ℕ) (old : Option ℕ) → Numbers entries items names
    → false ≡ is_some (lookup (λ q. is_eq (slice_cmp nat_cmp name (items q))) entries) → items k ≡ name → v ≡ length entries
    → new ≡ insert_entry (λ x y. slice_cmp nat_cmp (items x) (items y)) entries k v → old ≡ lookup (λ q. is_eq (slice_cmp nat_cmp (items k) (items q))) entries
    → length new ≡ length entries + cond (is_some old) 0 1 → Numbers new items (names ++ name ∷ [])
numbers_pushed entries new items names name k v old n t is next e was more =
    let fresh : is_some (number_of names name) ≡ false = ap is_some (sym (n.at name)) ∙ sym t in
    let none : is_some old ≡ false = ap is_some was ∙ ap (λ (m : List ℕ). is_some (lookup (λ q. is_eq (slice_cmp nat_cmp m (items q))) entries)) is ∙ sym t in
    let counted : length new ≡ length entries + 1 = more ∙ ap (λ (b : Bool). length entries + cond b 0 1) none in
    let number : v ≡ length names = next ∙ n.count in
    record {
      at = λ m.
          ap (lookup (λ q. is_eq (slice_cmp nat_cmp m (items q)))) e ∙ at_name_inserted items m entries k v
          ∙ ap (λ (x : List ℕ). cond (bytes_eq m x) (Some v) (lookup (λ q. is_eq (slice_cmp nat_cmp m (items q))) entries)) is
          ∙ ap (λ (x : ℕ). cond (bytes_eq m name) (Some x) (lookup (λ q. is_eq (slice_cmp nat_cmp m (items q))) entries)) number
          ∙ ap (λ (o : Option ℕ). cond (bytes_eq m name) (Some (length names)) o) (n.at m)
          ∙ sym (number_of_pushed names name m fresh);
      count = counted ∙ (let one : length entries + 1 ≡ length names + 1 = ap (λ (x : ℕ). x + 1) n.count in one) ∙ sym (length_push names name);
    }

-- what is answered behind a formal is what is answered of the formal
pub reads_marks : {K : Type 0} (entries : List (K × ℕ)) (items : K → List ℕ) (names : List (List ℕ)) (turn other : Turn (List (List ℕ) × List ℕ) FoundFormals) (result : Result (Bool × Bor (List ℕ)) Halt)
    → Numbers entries items names → turn ≡ other → Marks other names result → Reads entries items turn result
reads_marks entries items names turn other (Ok x) n e m = (names, n, subst (λ (t : Turn (List (List ℕ) × List ℕ) FoundFormals). MarkSo t names x.0 x.1.now) (sym e) m)
reads_marks entries items names turn other (Err h.Memory) n e m = tt
reads_marks entries items names turn other (Err (h.Here fault)) n e m = e ∙ m
reads_marks entries items names turn other (Err (h.At fault left)) n e m = e ∙ m
