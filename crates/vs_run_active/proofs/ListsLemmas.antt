-- Terms by the signals that they name.
use Rattle.std.proofs.Common.{◌≡◌, ◌≢◌, ℕ, zero, suc, ◌<◌, Bool, if◌then◌else◌, List, [], ◌∷◌, ◌++◌, length, get_or, inl, inr, refl, sym, ◌∙◌, ap, append_assoc, arith}
use Rattle.std.proofs.lemmas.Bool.{cases_Bool, eqb-true, eq-eqb, false≢true}
use Rattle.std.proofs.lemmas.List.{append-nil}
use Rattle.vs_design.specs.Stores.{changed_at}
use Rattle.vs_design.specs.Tables.{empty_rows}
use Rattle.vs_design.proofs.Stores.{length-changed_at}
use Rattle.vs_design.proofs.Tables.{at_other, at_changed, none_at}
use Rattle.vs_run_active.specs.declared.watchers.ProcessTerm.{ProcessTerm}
use Rattle.vs_run_active.specs.Lists.{AreBySignal, all_noted, named, noted}
use Rattle.vs_run_active.specs.Watchers.{names}

-- ---- what each list has

-- after one term
noted_at : (t : ProcessTerm) (ts : List ProcessTerm) (lists : List (List ProcessTerm)) (signal : ℕ) → signal < length lists →
    get_or (noted t lists) signal [] ++ named signal ts ≡ get_or lists signal [] ++ named signal (t ∷ ts)
noted_at t ts lists signal h = elim (cases_Bool (names signal t)) [
  | inl here ↦
      let at : t.term.range.signal ≡ signal = eqb-true t.term.range.signal signal here in
      let got : get_or (noted t lists) signal [] ≡ get_or lists signal [] ++ t ∷ [] =
      ap (λ (i : ℕ). get_or (changed_at (λ list. list ++ t ∷ []) i lists) signal []) at ∙ at_changed (λ list. list ++ t ∷ []) signal lists h
      in
      ap (λ l. l ++ named signal ts) got ∙ append_assoc (get_or lists signal []) (t ∷ []) (named signal ts)
      ∙ sym (ap (λ (b : Bool). get_or lists signal [] ++ (if b then t ∷ named signal ts else named signal ts)) here)
  | inr other ↦
      let apart : t.term.range.signal ≢ signal = λ e. false≢true (sym other ∙ eq-eqb t.term.range.signal signal e) in
      ap (λ l. l ++ named signal ts) (at_other (λ list. list ++ t ∷ []) t.term.range.signal signal lists apart)
      ∙ sym (ap (λ (b : Bool). get_or lists signal [] ++ (if b then t ∷ named signal ts else named signal ts)) other)
]

-- after all of them
all_noted_at : (ts : List ProcessTerm) (lists : List (List ProcessTerm)) (signal : ℕ) → signal < length lists →
    get_or (all_noted ts lists) signal [] ≡ get_or lists signal [] ++ named signal ts
all_noted_at [] lists signal h = sym (append-nil (get_or lists signal []))
all_noted_at (t ∷ ts) lists signal h =
    let long : length (noted t lists) ≡ length lists = length-changed_at (λ list. list ++ t ∷ []) t.term.range.signal lists in
    all_noted_at ts (noted t lists) signal (omega (arith, long)) ∙ noted_at t ts lists signal h

length_noted : (ts : List ProcessTerm) (lists : List (List ProcessTerm)) → length (all_noted ts lists) ≡ length lists
length_noted [] lists = refl
length_noted (t ∷ ts) lists = length_noted ts (noted t lists) ∙ length-changed_at (λ list. list ++ t ∷ []) t.term.range.signal lists

length_empty : (n : ℕ) → length (empty_rows {A = ProcessTerm} n) ≡ n
length_empty zero = refl
length_empty (suc n) = ap suc (length_empty n)

pub by_signals : (terms : List ProcessTerm) (signals : ℕ) (empty lists : List (List ProcessTerm)) → empty ≡ empty_rows signals → lists ≡ all_noted terms empty →
    AreBySignal terms signals lists
by_signals terms signals empty lists e h =
    let made : lists ≡ all_noted terms (empty_rows signals) = h ∙ ap (all_noted terms) e in
    record {
      all = ap (λ (l : List (List ProcessTerm)). length l) made ∙ length_noted terms (empty_rows signals) ∙ length_empty signals;
      each = λ signal below.
          ap (λ (l : List (List ProcessTerm)). get_or l signal []) made ∙ all_noted_at terms (empty_rows signals) signal (omega (arith, length_empty signals))
          ∙ ap (λ (l : List ProcessTerm). l ++ named signal terms) (none_at signals signal);
    }
