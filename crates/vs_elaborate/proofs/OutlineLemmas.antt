-- An outline declares the signals of its scopes in their order.
use Rattle.std.proofs.Common.{◌≡◌, ℕ, zero, suc, ◌+◌, ◌<◌, ◌≤◌, Bool, List, [], ◌∷◌, ◌++◌, Option, Some, None, length, get_or, All, refl, ap, ap₂, sym, subst, ◌∙◌, add-zero, zero-add, arith}
use Rattle.std.specs.Prelude.{nat_lt, nat_eq, true}
use Rattle.std.specs.List.{flat_map, AllZip, IsDistinct, Contains}
use Rattle.std.proofs.lemmas.Bool.{lt-ltb, ne_eqb}
use Rattle.std.proofs.lemmas.List.{append-nil, length-append}
use Rattle.std.proofs.lemmas.List.Concat.{flat_map-append}
use Rattle.std.proofs.lemmas.List.Elements.{All-nil, All-cons, Contains-get_or}
use Rattle.std.proofs.lemmas.Map.Keys.{IsDistinct-from_apart}
use Rattle.vs_syntax.specs.declared.tree.Module.{Module}
use Rattle.vs_design.specs.declared.design.Entry.{Entry}
use Rattle.vs_design.specs.declared.design.Entry.TheVariants.{Enter, Declare, Leave}
use Rattle.vs_design.specs.WellFormed.{declared_in as declared_by_outline}
use Rattle.vs_elab_statements.specs.vs_scopes.specs.Generate.{Inner}
use Rattle.vs_elab_statements.specs.vs_scopes.specs.Nets.{permits_nets}
use Rattle.vs_elab_statements.specs.vs_scopes.specs.Scopes.{Scope, Before, before_following, within_first, inner_of, module_named, declarations_of, opened, opened_top, of_opened, below, scopes_within, scopes_of, signal_count, deepest}
use Rattle.vs_elab_hierarchy.proofs.PathsOpened.{what_is_opened, what_is_opened_top}
use Rattle.vs_elab_hierarchy.proofs.AddLemmas.{signals_append}
use Rattle.vs_elab_statements.specs.vs_elab_signals.specs.Outlines.{Line, enter, declare, leave, declare_from, outline_around, outline_below, outline_within, outline_of, IsEntry}
use Rattle.vs_elab_statements.specs.passes.Bodies.{counting}

-- ---- counting

length-counting : (a n : ℕ) → length (counting a n) ≡ n
length-counting a zero = refl
length-counting a (suc n) = ap suc (length-counting (suc a) n)

get_or-counting : (a n j e : ℕ) → j < n → get_or (counting a n) j e ≡ a + j
get_or-counting a zero j e h = absurd (omega arith)
get_or-counting a (suc n) zero e h = sym (add-zero a)
get_or-counting a (suc n) (suc j) e h = get_or-counting (suc a) n j e (omega arith) ∙ (let q : suc a + j ≡ a + suc j = omega arith in q)

pub counting_below : (a n m : ℕ) → a + n ≤ m → All (λ k. nat_lt k m ≡ true) (counting a n)
counting_below a zero m h = All-nil (λ k. nat_lt k m ≡ true)
counting_below a (suc n) m h = All-cons (λ k. nat_lt k m ≡ true) a (counting (suc a) n) (lt-ltb a m (omega arith)) (counting_below (suc a) n m (omega arith))

pub counting_distinct : (a n : ℕ) → IsDistinct nat_eq (counting a n)
counting_distinct a n = IsDistinct-from_apart nat_eq (counting a n) (λ i j e h l.
    (let long = length-counting a n in
    let below : j < n = omega (arith, l, long) in
    let one = get_or-counting a n i e (omega arith) in
    let other = get_or-counting a n j e below in
    ne_eqb _ _ (λ q. (let same : a + i ≡ a + j = sym one ∙ q ∙ other in omega (arith, same, h)))))

pub counting_contains : (n k : ℕ) → k < n → Contains (counting 0 n) k
counting_contains n k h =
    let long = length-counting 0 n in
    let at : get_or (counting 0 n) k 0 ≡ k = get_or-counting 0 n k 0 h ∙ zero-add k in
    subst (Contains (counting 0 n)) at (Contains-get_or (counting 0 n) k 0 (omega (arith, long, h)))

counting_append : (a m n : ℕ) → counting a (m + n) ≡ counting a m ++ counting (a + m) n
counting_append a zero n = ap (counting a) (zero-add n) ∙ ap (λ z. counting z n) (sym (add-zero a))
counting_append a (suc m) n =
    let long : suc m + n ≡ suc (m + n) = omega arith in
    let first : suc a + m ≡ a + suc m = omega arith in
    ap (counting a) long ∙ ap (λ z. a ∷ z) (counting_append (suc a) m n ∙ ap (λ z. counting (suc a) m ++ counting z n) first)

-- ---- lines

-- the signal that a line declares
abbrev line_numbers : Line → List ℕ
line_numbers (enter k n) = []
line_numbers (declare j) = j ∷ []
line_numbers leave = []

-- the signals that lines declare
abbrev pub numbers_in : List Line → List ℕ
numbers_in ls = flat_map line_numbers ls

entries_declare : (es : List Entry) (ls : List Line) → AllZip IsEntry es ls → declared_by_outline es ≡ numbers_in ls
entries_declare [] [] h = refl
entries_declare [] (l ∷ ls) h = absurd h
entries_declare (e ∷ es) [] h = absurd h
entries_declare (Enter kind name ∷ es) (enter k n ∷ ls) h = entries_declare es ls h.1
entries_declare (Enter kind name ∷ es) (declare j ∷ ls) h = absurd h.0
entries_declare (Enter kind name ∷ es) (leave ∷ ls) h = absurd h.0
entries_declare (Declare i ∷ es) (enter k n ∷ ls) h = absurd h.0
entries_declare (Declare i ∷ es) (declare j ∷ ls) h = ap₂ (λ x xs. x ∷ xs) h.0 (entries_declare es ls h.1)
entries_declare (Declare i ∷ es) (leave ∷ ls) h = absurd h.0
entries_declare (Leave ∷ es) (enter k n ∷ ls) h = absurd h.0
entries_declare (Leave ∷ es) (declare j ∷ ls) h = absurd h.0
entries_declare (Leave ∷ es) (leave ∷ ls) h = entries_declare es ls h.1

declares_count : {A : Type 0} (base : ℕ) (xs : List A) → numbers_in (declare_from base xs) ≡ counting base (length xs)
declares_count base [] = refl
declares_count base (x ∷ xs) = ap (λ z. base ∷ z) (declares_count (suc base) xs)

-- the outline of a scope, with lines for the scopes inside it
around_numbers : (s : Scope) (ls : List Line) → numbers_in (outline_around s ls) ≡ counting s.base (length (declarations_of s)) ++ numbers_in ls
around_numbers s ls =
    let own = declare_from s.base (declarations_of s) in
    flat_map-append line_numbers (own ++ ls) (leave ∷ []) ∙ append-nil (numbers_in (own ++ ls)) ∙ flat_map-append line_numbers own ls
    ∙ ap (λ z. z ++ numbers_in ls) (declares_count s.base (declarations_of s))

-- ---- scopes

module _ (ms : List Module) (f : Scope → List Scope) (g : Scope → List Line) (inside : (t : Scope) → numbers_in (g t) ≡ counting t.base (signal_count (f t))) (s : Scope) where
  opened_numbers : (at : Before) (x : Inner) (o : Option Scope) → opened ms s at x ≡ o → numbers_in (of_opened g o) ≡ counting at.signals (signal_count (of_opened f o))
  opened_numbers at x None e = refl
  opened_numbers at x (Some t) e = inside t ∙ ap (λ (z : Before). counting z.signals (signal_count (f t))) (what_is_opened ms s at x t e).before

  below_numbers : (at : Before) (xs : List Inner) → numbers_in (outline_below ms f g s at xs) ≡ counting at.signals (signal_count (below ms f s at xs))
  below_numbers at [] = refl
  below_numbers at (x ∷ xs) =
      let o = opened ms s at x in
      let inner = of_opened f o in
      let others = below ms f s (before_following at inner) xs in
      flat_map-append line_numbers (of_opened g o) (outline_below ms f g s (before_following at inner) xs)
      ∙ ap₂ (λ x y. x ++ y) (opened_numbers at x o refl) (below_numbers (before_following at inner) xs)
      ∙ sym (counting_append at.signals (signal_count inner) (signal_count others)) ∙ ap (counting at.signals) (sym (signals_append inner others))

within_numbers : (n : ℕ) (ms : List Module) (s : Scope) → numbers_in (outline_within n ms s) ≡ counting s.base (signal_count (scopes_within n ms s))
unfolding scopes_within
within_numbers zero ms s = around_numbers s [] ∙ append-nil (counting s.base (length (declarations_of s))) ∙ ap (λ z. counting s.base (length z)) (sym (append-nil (declarations_of s)))
within_numbers (suc n) ms s =
    let own = declarations_of s in
    let inner = below ms (scopes_within n ms) s (within_first s) (inner_of s) in
    around_numbers s (outline_below ms (scopes_within n ms) (outline_within n ms) s (within_first s) (inner_of s))
    ∙ ap (λ z. counting s.base (length own) ++ z) (below_numbers ms (scopes_within n ms) (outline_within n ms) (within_numbers n ms) s (within_first s) (inner_of s))
    ∙ ap (λ z. counting s.base (length own) ++ counting (s.base + length z) (signal_count inner)) (append-nil own)
    ∙ sym (counting_append s.base (length own) (signal_count inner))
    ∙ ap (counting s.base) (sym (length-append own (flat_map declarations_of inner)))

top_numbers : (n : ℕ) (ms : List Module) (nets : Bool) (o : Option Module) (t : Option Scope) → opened_top nets o ≡ t → numbers_in (of_opened (outline_within n ms) t) ≡ counting 0 (signal_count (of_opened (scopes_within n ms) t))
top_numbers n ms nets o None e = refl
top_numbers n ms nets o (Some s) e = within_numbers n ms s ∙ ap (λ (z : Before). counting z.signals (signal_count (scopes_within n ms s))) (what_is_opened_top nets o s e).1.before

-- a design's outline declares the signals from 0 on
pub outline_declares : (ms : List Module) (top : List ℕ) (es : List Entry) → AllZip IsEntry es (outline_of ms top) → declared_by_outline es ≡ counting 0 (signal_count (scopes_of ms top))
outline_declares ms top es h = entries_declare es (outline_of ms top) h ∙ top_numbers deepest ms (permits_nets ms top) (module_named ms top) (opened_top (permits_nets ms top) (module_named ms top)) refl
