-- Which signals are shown, and the table of their codes.
use Rattle.std.proofs.Common.{◌≡◌, ℕ, zero, suc, ◌+◌, ◌<◌, ◌≤◌, Bool, true, false, Option, Some, None, List, [], ◌∷◌, ◌++◌, length, get_or, drop, append_assoc, refl, sym, ap, ◌∙◌, arith, inl, inr}
use Rattle.std.proofs.lemmas.Bool.{cases_eq, cond-true, cond-false, cond_both, eq-eqb, ne_eqb}
use Rattle.std.proofs.Math.Numerals.{add-one}
use Rattle.std.proofs.lemmas.List.{append-nil, drop_more, drop_all}
use Rattle.std.proofs.lemmas.Option.{slice_get-get_or}
use Rattle.std.specs.Prelude.{◌==◌, slice_get, if◌then◌else◌}
use Rattle.std.specs.List.{Contains}
use Rattle.std.specs.Option.{option_flatten}
use Rattle.vs_design.specs.declared.signal.Signal.{Signal}
use Rattle.vs_design.specs.declared.design.Entry.{Entry}
use Rattle.vs_design.specs.declared.design.Entry.TheVariants.{Declare}
use Rattle.vs_design.specs.Parts.{Parts}
use Rattle.vs_vcd_writing.specs.Codes.{is_array, shown_from, place_from, place_of}
use Rattle.vs_vcd_writing.specs.CodeTables.{code_table}
use Rattle.vs_vcd_writing.specs.Text.{declaration, declared, entry_lines}

-- what holds of both ends holds of a choice between them
both : {A B : Type 0} (x : Bool) (P : A → B → Type 0) (a b : A) (c d : B) → P a c → P b d → P (if x then a else b) (if x then c else d)
both true P a b c d p q = p
both false P a b c d p q = q

-- ---- the loop that makes the table

-- a signal that has no code
pub array_next : (out more : List (Option ℕ)) (ss : List Signal) (n i : ℕ) (d : Signal) (all : List (Option ℕ)) → i < length ss → true ≡ is_array (get_or ss i d) →
    more ≡ out ++ None ∷ [] → out ++ code_table n (drop i ss) ≡ all → more ++ code_table n (drop (i + 1) ss) ≡ all
array_next out more ss n i d all lt is made so_far =
    let rest = drop (i + 1) ss in
    ap (λ t. t ++ code_table n rest) made ∙ append_assoc out (None ∷ []) (code_table n rest)
    ∙ ap (λ t. out ++ t) (sym (cond-true (is_array (get_or ss i d)) (None ∷ code_table n rest) (Some n ∷ code_table (suc n) rest) (sym is)))
    ∙ ap (λ ys. out ++ code_table n ys) (sym (drop_more ss i d lt)) ∙ so_far

-- a signal that has the next one
pub coded_next : (out more : List (Option ℕ)) (ss : List Signal) (n i : ℕ) (d : Signal) (all : List (Option ℕ)) → i < length ss → false ≡ is_array (get_or ss i d) →
    more ≡ out ++ Some n ∷ [] → out ++ code_table n (drop i ss) ≡ all → more ++ code_table (n + 1) (drop (i + 1) ss) ≡ all
coded_next out more ss n i d all lt is made so_far =
    let rest = drop (i + 1) ss in
    ap (λ t. t ++ code_table (n + 1) rest) made ∙ ap (λ k. (out ++ Some n ∷ []) ++ code_table k rest) (add-one n) ∙ append_assoc out (Some n ∷ []) (code_table (suc n) rest)
    ∙ ap (λ t. out ++ t) (sym (cond-false (is_array (get_or ss i d)) (None ∷ code_table n rest) (Some n ∷ code_table (suc n) rest) (sym is)))
    ∙ ap (λ ys. out ++ code_table n ys) (sym (drop_more ss i d lt)) ∙ so_far

-- no signal left
pub table_done : (out : List (Option ℕ)) (ss : List Signal) (n i : ℕ) (all : List (Option ℕ)) → length ss ≤ i → out ++ code_table n (drop i ss) ≡ all → out ≡ all
table_done out ss n i all past so_far = sym (append-nil out) ∙ ap (λ ys. out ++ code_table n ys) (sym (drop_all i ss past)) ∙ so_far

-- ---- the declaration of a signal by the table

pub declared_at : (ss : List Signal) (table : List (Option ℕ)) (n : ℕ) (s : Signal) (number : ℕ) → n < length ss → n < length table → s ≡ get_or ss n s → get_or table n None ≡ Some number →
    declaration s number ∷ [] ≡ declared (slice_get ss n) (option_flatten (slice_get table n))
declared_at ss table n s number within known item is =
    sym (ap (λ o. declared o (option_flatten (slice_get table n))) (slice_get-get_or ss n s within ∙ ap Some (sym item))
    ∙ ap (λ o. declared (Some s) (option_flatten o)) (slice_get-get_or table n None known) ∙ ap (λ o. declared (Some s) o) is)

no_number : (o : Option Signal) → declared o None ≡ []
no_number None = refl
no_number (Some s) = refl

pub none_declared : (o : Option Signal) (table : List (Option ℕ)) (n : ℕ) → n < length table → get_or table n None ≡ None → declared o (option_flatten (slice_get table n)) ≡ []
none_declared o table n known is = ap (λ t. declared o (option_flatten t)) (slice_get-get_or table n None known) ∙ ap (declared o) is ∙ no_number o

-- ---- the table tells the place among the shown signals

pub place_below : (f p n : ℕ) (ss : List Signal) → n < f → place_from p (shown_from f ss) n ≡ None
place_below f p n [] h = refl
place_below f p n (s ∷ ss) h =
    cond_both (is_array s) (shown_from (suc f) ss) (f ∷ shown_from (suc f) ss) (λ l. place_from p l n ≡ None)
    (λ e. place_below (suc f) p n ss (omega (arith, h)))
    (λ e. cond-false (f == n) (Some p) (place_from (suc p) (shown_from (suc f) ss) n) (ne_eqb f n (λ q. omega (arith, q, h)))
    ∙ place_below (suc f) (suc p) n ss (omega (arith, h)))

pub table_tells : (f p n i : ℕ) (ss : List Signal) → n ≡ f + i → option_flatten (slice_get (code_table p ss) i) ≡ place_from p (shown_from f ss) n
table_tells f p n i [] e = refl
table_tells f p n zero (s ∷ ss) e =
    both (is_array s) (λ t l. option_flatten (slice_get t zero) ≡ place_from p l n)
    (None ∷ code_table p ss) (Some p ∷ code_table (suc p) ss) (shown_from (suc f) ss) (f ∷ shown_from (suc f) ss)
    (sym (place_below (suc f) p n ss (omega (arith, e))))
    (sym (cond-true (f == n) (Some p) (place_from (suc p) (shown_from (suc f) ss) n) (eq-eqb f n (omega (arith, e)))))
table_tells f p n (suc i) (s ∷ ss) e =
    both (is_array s) (λ t l. option_flatten (slice_get t (suc i)) ≡ place_from p l n)
    (None ∷ code_table p ss) (Some p ∷ code_table (suc p) ss) (shown_from (suc f) ss) (f ∷ shown_from (suc f) ss)
    (table_tells (suc f) p n i ss (omega (arith, e)))
    (table_tells (suc f) (suc p) n i ss (omega (arith, e))
    ∙ sym (cond-false (f == n) (Some p) (place_from (suc p) (shown_from (suc f) ss) n) (ne_eqb f n (λ q. omega (arith, e, q)))))

-- the entry that declares a signal, by the table
pub entry_declared : (d : Parts) (signals : List Signal) (table : List (Option ℕ)) (n : ℕ) (e : Entry) → signals ≡ d.signals → table ≡ code_table 0 d.signals → e ≡ Declare n
    → declared (slice_get signals n) (option_flatten (slice_get table n)) ≡ entry_lines d e
entry_declared d signals table n e s t is =
    ap (λ l. declared (slice_get l n) (option_flatten (slice_get table n))) s
    ∙ ap (λ l. declared (slice_get d.signals n) (option_flatten (slice_get l n))) t
    ∙ ap (declared (slice_get d.signals n)) (table_tells 0 0 n n d.signals (omega arith)) ∙ ap (entry_lines d) (sym is)

-- ---- a number has its place

place_at : (p n k : ℕ) (xs : List ℕ) → slice_get xs k ≡ Some n → (i : ℕ) × (place_from p xs n ≡ Some (p + i)) × (slice_get xs i ≡ Some n)
place_at p n k [] h = cc
place_at p n zero (x ∷ xs) h =
    let same : x ≡ n = cc in
    (0, cond-true (x == n) (Some p) (place_from (suc p) xs n) (eq-eqb x n same) ∙ ap Some (omega arith), h)
place_at p n (suc k) (x ∷ xs) h =
    let rest = place_at (suc p) n k xs h in
    elim (cases_eq x n) [
      | inl same ↦ (0, cond-true (x == n) (Some p) (place_from (suc p) xs n) (eq-eqb x n same) ∙ ap Some (omega arith), ap Some same)
      | inr other ↦
          (suc rest.0, cond-false (x == n) (Some p) (place_from (suc p) xs n) (ne_eqb x n other) ∙ rest.1 ∙ ap Some (omega arith), rest.2)
    ]

-- a number of a list has a place, and stands there
pub place_found : (xs : List ℕ) (n : ℕ) → Contains xs n → (i : ℕ) × (place_of xs n ≡ Some i) × (slice_get xs i ≡ Some n)
place_found xs n h =
    let there = place_at 0 n h.0 xs (slice_get-get_or xs h.0 n h.1 ∙ ap Some h.2) in
    (there.0, there.1 ∙ ap Some (omega arith), there.2)
