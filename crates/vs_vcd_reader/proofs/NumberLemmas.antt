-- Outlines declare signals in design order.
use Rattle.std.proofs.Common.{◌≡◌, ℕ, zero, suc, ◌+◌, Bool, true, Option, Some, None, List, [], ◌∷◌, ◌++◌, length, refl, sym, ap, ◌∙◌, append-nil, arith}
use Rattle.std.proofs.lemmas.Bool.{and_from}
use Rattle.std.proofs.lemmas.Grind.{flat_map-append}
use Rattle.std.proofs.lemmas.List.{length-append}
use Rattle.std.specs.Prelude.{◌==◌}
use Rattle.std.specs.List.{flat_map}
use Rattle.vs_syntax.specs.declared.tree.Module.{Module}
use Rattle.vs_design.specs.WellFormed.{counts_from}
use Rattle.vs_elaborate.specs.vs_scopes.specs.Nets.{permits_nets}
use Rattle.vs_elaborate.specs.vs_scopes.specs.Generate.{Inner}
use Rattle.vs_elaborate.specs.vs_scopes.specs.Scopes.{Scope, Before, before_following, below, declarations_of, deepest, inner_of, of_opened, module_named, opened, opened_top, scopes_of, scopes_within, signal_count, within_first}
use Rattle.vs_elab_signals.specs.Outlines.{Line, declare, enter, leave, declare_from, outline_around, outline_below, outline_of, outline_within}
use Rattle.vs_elaborate.specs.vs_elab_hierarchy.proofs.PathsOpened.{what_is_opened, what_is_opened_top}
use Rattle.vs_elaborate.specs.vs_elab_hierarchy.proofs.AddLemmas.{signals_append}
use Rattle.vs_vcd_lines.proofs.CutLemmas.{eqb_is}

-- the signal that a line declares
abbrev pub number_of : Line → List ℕ
number_of (enter k n) = []
number_of (declare i) = i ∷ []
number_of leave = []

abbrev pub numbers_of : List Line → List ℕ
numbers_of ls = flat_map number_of ls

-- so many numbers from one on
abbrev pub count_up : ℕ → ℕ → List ℕ
count_up from zero = []
count_up from (suc n) = from ∷ count_up (suc from) n

count_append : (a m n k b : ℕ) → k ≡ m + n → b ≡ a + m → count_up a k ≡ count_up a m ++ count_up b n
count_append a zero n k b e f =
    let size : k ≡ n = omega (arith, e) in
    let start : a ≡ b = omega (arith, f) in
    ap (count_up a) size ∙ ap (λ x. count_up x n) start
count_append a (suc m) n zero b e f = absurd (omega (arith, e))
count_append a (suc m) n (suc k) b e f = ap (λ l. a ∷ l) (count_append (suc a) m n k b (omega (arith, e)) (omega (arith, f)))

pub counts_up : (a k : ℕ) → counts_from a (count_up a k) ≡ true
counts_up a zero = refl
counts_up a (suc k) = and_from (a == a) (counts_from (suc a) (count_up (suc a) k)) (eqb_is a a refl) (counts_up (suc a) k)

pub length-count_up : (a k : ℕ) → length (count_up a k) ≡ k
length-count_up a zero = refl
length-count_up a (suc k) = ap suc (length-count_up (suc a) k)

-- ---- one scope

declare_counts : {A : Type 0} (base : ℕ) (xs : List A) → numbers_of (declare_from base xs) ≡ count_up base (length xs)
declare_counts base [] = refl
declare_counts base (x ∷ xs) = ap (λ l. base ∷ l) (declare_counts (suc base) xs)

around_counts : (s : Scope) (ls : List Line) → numbers_of (outline_around s ls) ≡ count_up s.base (length (declarations_of s)) ++ numbers_of ls
around_counts s ls =
    let own = declare_from s.base (declarations_of s) in
    flat_map-append number_of (own ++ ls) (leave ∷ []) ∙ append-nil (numbers_of (own ++ ls)) ∙ flat_map-append number_of own ls
    ∙ ap (λ l. l ++ numbers_of ls) (declare_counts s.base (declarations_of s))

-- a scope and those inside it
around_whole : (s : Scope) (ls : List Line) (ss : List Scope) (b : ℕ) → b ≡ s.base + length (declarations_of s) → numbers_of ls ≡ count_up b (signal_count ss)
    → numbers_of (outline_around s ls) ≡ count_up s.base (signal_count (s ∷ ss))
around_whole s ls ss b start inside =
    around_counts s ls ∙ ap (λ l. count_up s.base (length (declarations_of s)) ++ l) inside
    ∙ sym (count_append s.base (length (declarations_of s)) (signal_count ss) (signal_count (s ∷ ss)) b
    (length-append (declarations_of s) (flat_map declarations_of ss)) start)

-- ---- the scopes that instances and blocks open

module _ (ms : List Module) (f : Scope → List Scope) (g : Scope → List Line) (inside : (t : Scope) → numbers_of (g t) ≡ count_up t.base (signal_count (f t))) (s : Scope) where
  opened_counts : (at : Before) (x : Inner) (o : Option Scope) → opened ms s at x ≡ o → numbers_of (of_opened g o) ≡ count_up at.signals (signal_count (of_opened f o))
  opened_counts at x None e = refl
  opened_counts at x (Some t) e =
      inside t ∙ ap (λ b. count_up b (signal_count (f t))) (ap (λ (b : Before). b.signals) (what_is_opened ms s at x t e).before)

  below_counts : (at : Before) (xs : List Inner) → numbers_of (outline_below ms f g s at xs) ≡ count_up at.signals (signal_count (below ms f s at xs))
  below_counts at [] = refl
  below_counts at (x ∷ xs) =
      let o = opened ms s at x in
      let inner = of_opened f o in
      let rest = below ms f s (before_following at inner) xs in
      let lines = outline_below ms f g s (before_following at inner) xs in
      flat_map-append number_of (of_opened g o) lines ∙ ap (λ l. l ++ numbers_of lines) (opened_counts at x o refl)
      ∙ ap (λ l. count_up at.signals (signal_count inner) ++ l) (below_counts (before_following at inner) xs)
      ∙ sym (count_append at.signals (signal_count inner) (signal_count rest) (signal_count (inner ++ rest)) (before_following at inner).signals (signals_append inner rest) refl)

first_start : (s : Scope) → (within_first s).signals ≡ s.base + length (declarations_of s)
first_start s = ap (λ l. s.base + length l) (append-nil (declarations_of s))

pub within_counts : (n : ℕ) (ms : List Module) (s : Scope) → numbers_of (outline_within n ms s) ≡ count_up s.base (signal_count (scopes_within n ms s))
unfolding scopes_within
within_counts zero ms s = around_whole s [] [] (s.base + length (declarations_of s)) refl refl
within_counts (suc n) ms s =
    around_whole s (outline_below ms (scopes_within n ms) (outline_within n ms) s (within_first s) (inner_of s))
    (below ms (scopes_within n ms) s (within_first s) (inner_of s)) (within_first s).signals (first_start s)
    (below_counts ms (scopes_within n ms) (outline_within n ms) (within_counts n ms) s (within_first s) (inner_of s))

top_counts : (n : ℕ) (ms : List Module) (nets : Bool) (o : Option Module) (t : Option Scope) → opened_top nets o ≡ t
    → numbers_of (of_opened (outline_within n ms) t) ≡ count_up 0 (signal_count (of_opened (scopes_within n ms) t))
top_counts n ms nets o None e = refl
top_counts n ms nets o (Some s) e =
    within_counts n ms s ∙ ap (λ b. count_up b (signal_count (scopes_within n ms s))) (ap (λ (b : Before). b.signals) (what_is_opened_top nets o s e).1.before)

-- an outline declares as many signals as the scopes have, from 0 on
pub outline_counts : (ms : List Module) (top : List ℕ) → numbers_of (outline_of ms top) ≡ count_up 0 (signal_count (scopes_of ms top))
outline_counts ms top =
    top_counts deepest ms (permits_nets ms top) (module_named ms top) (opened_top (permits_nets ms top) (module_named ms top)) refl
