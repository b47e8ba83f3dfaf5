-- The terms of the event controls of a run's processes, by the numbers of these.
use Rattle.std.proofs.Common.{◌≡◌, ℕ, zero, suc, ◌+◌, ◌<◌, ◌==◌, ◌&&◌, Bool, true, false, if◌then◌else◌, Option, Some, None, List, [], ◌∷◌, ◌++◌, map, length, drop, get_or, slice_get, refl, sym, ◌∙◌, ap, ap₂, append-nil, arith}
use Rattle.std.proofs.lemmas.Bool.{and_left, and_right, eq-eqb, ne_eqb}
use Rattle.std.proofs.lemmas.List.{append_assoc, drop_more}
use Rattle.std.proofs.lemmas.Option.{none-some, same_Some}
use Rattle.vs_design.specs.declared.statement.EventTerm.{EventTerm}
use Rattle.vs_design.specs.Uses.{joined}
use Rattle.vs_process.specs.declared.script.Instruction.{Instruction}
use Rattle.vs_process.specs.Scripts.{instruction_control}
use Rattle.vs_process.specs.Texts.{AreApart, Control, HasControl, Text, controls_of}
use Rattle.vs_process.proofs.ControlLemmas.{controls_at_one}
use Rattle.vs_run_active.specs.declared.watchers.ProcessTerm.{ProcessTerm}
use Rattle.vs_run_active.specs.Terms.{control_terms, process_term, terms_from, text_terms}
use Rattle.vs_run_active.specs.Waking.{is_term_of, terms_at}

added : (b : Bool) (t : EventTerm) (xs ys : List EventTerm) → (if b then t ∷ (xs ++ ys) else xs ++ ys) ≡ (if b then t ∷ xs else xs) ++ ys
added true t xs ys = refl
added false t xs ys = refl

terms_at-append : (i n : ℕ) (xs ys : List ProcessTerm) → terms_at i n (xs ++ ys) ≡ terms_at i n xs ++ terms_at i n ys
terms_at-append i n [] ys = refl
terms_at-append i n (x ∷ xs) ys =
    ap (λ (l : List EventTerm). if is_term_of i n x then x.term ∷ l else l) (terms_at-append i n xs ys)
    ∙ added (is_term_of i n x) x.term (terms_at i n xs) (terms_at i n ys)

-- ---- one event control

same_control : (i n : ℕ) (ts : List EventTerm) → terms_at i n (map (process_term i n) ts) ≡ ts
same_control i n [] = refl
same_control i n (t ∷ ts) =
    ap₂ (λ (a b : Bool). if a && b then t ∷ terms_at i n (map (process_term i n) ts) else terms_at i n (map (process_term i n) ts)) (eq-eqb i i refl) (eq-eqb n n refl)
    ∙ ap (λ (l : List EventTerm). t ∷ l) (same_control i n ts)

other_control : (i n m : ℕ) (ts : List EventTerm) → (m == n) ≡ false → terms_at i n (map (process_term i m) ts) ≡ []
other_control i n m [] h = refl
other_control i n m (t ∷ ts) h =
    ap (λ (b : Bool). if b then t ∷ terms_at i n (map (process_term i m) ts) else terms_at i n (map (process_term i m) ts)) (and_right (i == i) (m == n) h)
    ∙ other_control i n m ts h

-- ---- those of a text

-- none of some controls has a number
none_of : (i n : ℕ) (ks : List (Option Control)) → ((j : ℕ) (ts : List EventTerm) → slice_get ks j ≡ Some (Some (n, ts)) → ⊥) →
    terms_at i n (joined (map (control_terms i) ks)) ≡ []
none_of i n [] none = refl
none_of i n (None ∷ ks) none = none_of i n ks (λ j ts at. none (suc j) ts at)
none_of i n (Some k ∷ ks) none =
    let apart : (k.0 == n) ≡ false = ne_eqb k.0 n (λ e. none zero k.1 (ap (λ (m : ℕ). Some (Some (m, k.1))) e)) in
    terms_at-append i n (map (process_term i k.0) k.1) (joined (map (control_terms i) ks))
    ∙ ap₂ (λ (a b : List EventTerm). a ++ b) (other_control i n k.0 k.1 apart) (none_of i n ks (λ j ts at. none (suc j) ts at))

one_of : (i n : ℕ) (ks : List (Option Control)) (j : ℕ) (ts : List EventTerm) → slice_get ks j ≡ Some (Some (n, ts)) →
    ((l : ℕ) (us : List EventTerm) → slice_get ks l ≡ Some (Some (n, us)) → l ≡ j) → terms_at i n (joined (map (control_terms i) ks)) ≡ ts
one_of i n [] j ts at only = absurd (none-some (Some (n, ts)) at)
one_of i n (x ∷ ks) zero ts at only =
    ap (λ (y : Option Control). terms_at i n (control_terms i y ++ joined (map (control_terms i) ks))) (same_Some x (Some (n, ts)) at)
    ∙ terms_at-append i n (map (process_term i n) ts) (joined (map (control_terms i) ks))
    ∙ ap₂ (λ (a b : List EventTerm). a ++ b) (same_control i n ts) (none_of i n ks (λ l us there. let e : suc l ≡ zero = only (suc l) us there in absurd (omega (arith, e))))
    ∙ append-nil ts
one_of i n (None ∷ ks) (suc j) ts at only =
    one_of i n ks j ts at (λ l us there. let e : suc l ≡ suc j = only (suc l) us there in omega (arith, e))
one_of i n (Some k ∷ ks) (suc j) ts at only =
    let apart : (k.0 == n) ≡ false =
    ne_eqb k.0 n (λ e. let f : zero ≡ suc j = only zero k.1 (ap (λ (m : ℕ). Some (Some (m, k.1))) e) in absurd (omega (arith, f)))
    in
    terms_at-append i n (map (process_term i k.0) k.1) (joined (map (control_terms i) ks))
    ∙ ap₂ (λ (a b : List EventTerm). a ++ b) (other_control i n k.0 k.1 apart)
    (one_of i n ks j ts at (λ l us there. let e : suc l ≡ suc j = only (suc l) us there in omega (arith, e)))

in_text : (i n : ℕ) (c : Text) (ts : List EventTerm) → AreApart c.links → HasControl c n ts → terms_at i n (text_terms i c) ≡ ts
in_text i n c ts apart h = one_of i n (controls_of c) h.index ts h.at (λ l us at. controls_at_one c n us ts apart (record { index = l; at = at }) h)

-- ---- those of other texts

other_terms : (i j n m : ℕ) (ts : List EventTerm) → (j == i) ≡ false → terms_at i n (map (process_term j m) ts) ≡ []
other_terms i j n m [] h = refl
other_terms i j n m (t ∷ ts) h =
    ap (λ (b : Bool). if b then t ∷ terms_at i n (map (process_term j m) ts) else terms_at i n (map (process_term j m) ts)) (and_left (j == i) (m == n) h)
    ∙ other_terms i j n m ts h

other_controls : (i j n : ℕ) (ks : List (Option Control)) → (j == i) ≡ false → terms_at i n (joined (map (control_terms j) ks)) ≡ []
other_controls i j n [] h = refl
other_controls i j n (None ∷ ks) h = other_controls i j n ks h
other_controls i j n (Some k ∷ ks) h =
    terms_at-append i n (map (process_term j k.0) k.1) (joined (map (control_terms j) ks))
    ∙ ap₂ (λ (a b : List EventTerm). a ++ b) (other_terms i j n k.0 k.1 h) (other_controls i j n ks h)

later_texts : (i n first : ℕ) (texts : List Text) → i < first → terms_at i n (terms_from first texts) ≡ []
later_texts i n first [] h = refl
later_texts i n first (c ∷ cs) h =
    terms_at-append i n (text_terms first c) (terms_from (suc first) cs)
    ∙ ap₂ (λ (a b : List EventTerm). a ++ b) (other_controls i first n (controls_of c) (ne_eqb first i (λ e. absurd (omega (arith, e, h)))))
    (later_texts i n (suc first) cs (omega (arith, h)))

in_texts : (texts : List Text) (first i k n : ℕ) (c : Text) (ts : List EventTerm) → k ≡ i + first → slice_get texts i ≡ Some c → AreApart c.links → HasControl c n ts →
    terms_at k n (terms_from first texts) ≡ ts
in_texts [] first i k n c ts is at apart h = absurd (none-some c at)
in_texts (x ∷ texts) first zero k n c ts is at apart h =
    let same : k ≡ first = omega (arith, is) in
    terms_at-append k n (text_terms first x) (terms_from (suc first) texts)
    ∙ ap₂ (λ (a b : List EventTerm). a ++ b)
    (ap₂ (λ (m : ℕ) (y : Text). terms_at k n (text_terms m y)) (sym same) (same_Some x c at) ∙ in_text k n c ts apart h)
    (later_texts k n (suc first) texts (omega (arith, same)))
    ∙ append-nil ts
in_texts (x ∷ texts) first (suc i) k n c ts is at apart h =
    terms_at-append k n (text_terms first x) (terms_from (suc first) texts)
    ∙ ap₂ (λ (a b : List EventTerm). a ++ b) (other_controls k first n (controls_of x) (ne_eqb first k (λ e. absurd (omega (arith, e, is)))))
    (in_texts texts (suc first) i k n c ts (omega (arith, is)) at apart h)

pub terms_are_found : (texts : List Text) (i n : ℕ) (c : Text) (ts : List EventTerm) → slice_get texts i ≡ Some c → AreApart c.links → HasControl c n ts →
    ts ≡ terms_at i n (terms_from 0 texts)
terms_are_found texts i n c ts at apart h = sym (in_texts texts 0 i i n c ts (omega arith) at apart h)

-- ---- one more is added

pub text_next : (texts : List Text) (i : ℕ) (d : Text) (all more whole : List ProcessTerm) → i < length texts → all ++ terms_from i (drop i texts) ≡ whole →
    more ≡ all ++ text_terms i (get_or texts i d) → more ++ terms_from (i + 1) (drop (i + 1) texts) ≡ whole
text_next texts i d all more whole lt so_far is =
    let next : i + 1 ≡ suc i = omega arith in
    ap₂ (λ (l : List ProcessTerm) (n : ℕ). l ++ terms_from n (drop (i + 1) texts)) is next
    ∙ append_assoc all (text_terms i (get_or texts i d)) (terms_from (suc i) (drop (i + 1) texts))
    ∙ sym (ap (λ (l : List Text). all ++ terms_from i l) (drop_more texts i d lt))
    ∙ so_far

pub control_next : (process : ℕ) (xs : List Instruction) (i : ℕ) (d : Instruction) (all more whole : List ProcessTerm) → i < length xs →
    all ++ joined (map (control_terms process) (map instruction_control (drop i xs))) ≡ whole → more ≡ all ++ control_terms process (instruction_control (get_or xs i d)) →
    more ++ joined (map (control_terms process) (map instruction_control (drop (i + 1) xs))) ≡ whole
control_next process xs i d all more whole lt so_far is =
    ap (λ (l : List ProcessTerm). l ++ joined (map (control_terms process) (map instruction_control (drop (i + 1) xs)))) is
    ∙ append_assoc all (control_terms process (instruction_control (get_or xs i d))) (joined (map (control_terms process) (map instruction_control (drop (i + 1) xs))))
    ∙ sym (ap (λ (l : List Instruction). all ++ joined (map (control_terms process) (map instruction_control l))) (drop_more xs i d lt))
    ∙ so_far
