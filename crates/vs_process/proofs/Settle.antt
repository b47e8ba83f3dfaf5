-- Where every continuous assignment is idle, the undriven signals fix the store.
use Rattle.std.proofs.Common.{◌≡◌, ℕ, zero, suc, Bool, Option, Some, None, List, [], ◌∷◌, option_map, length, slice_get, refl, sym, ◌∙◌, ap, ap₂, subst, arith}
use Rattle.std.specs.Prelude.{is_some}
use Rattle.std.proofs.lemmas.Option.{same_Some}
use Rattle.vs_design.specs.vs_logic4.specs.declared.digit.Digit.{Digit}
use Rattle.vs_design.specs.declared.design.Assign.{Assign}
use Rattle.vs_design.specs.declared.expression.Typed.{Typed}
use Rattle.vs_design.specs.declared.statement.Target.{Target}
use Rattle.vs_design.specs.Parts.{Parts}
use Rattle.vs_design.specs.Stores.{Store, put, word_of}
use Rattle.vs_design.specs.Writes.{Write}
use Rattle.vs_process.specs.vs_eval.specs.Laws.{digit_in, digit_of}
use Rattle.vs_process.specs.vs_eval.specs.Values.{target_value}
use Rattle.vs_process.specs.States.{AssignState}
use Rattle.vs_process.specs.Idle.{IsIdle}
use Rattle.vs_process.proofs.Digits.{Fixes, digit-put, laid, length_in, lengths}
use Rattle.vs_process.proofs.Ranges.{fixed_write}
use Rattle.vs_process.proofs.Stores.{shape}
use Rattle.vs_process.proofs.Assigns.{link_at, links, AssignsSound, assign_of, idle_leaves}
use Rattle.vs_process.proofs.ThreadAssigns.{DrivesWell}

-- no assignment has to be evaluated or waits to be written
abbrev pub AllIdle : List AssignState → Type 0
AllIdle xs = (j : ℕ) (x : AssignState) → slice_get xs j ≡ Some x → IsIdle x

-- whether there is a digit depends on the length of the word
there_by_length : (x y : List Digit) (k : ℕ) → length x ≡ length y → is_some (slice_get x k) ≡ is_some (slice_get y k)
there_by_length [] [] k h = refl
there_by_length [] (e ∷ y) k h = absurd (omega (arith, h))
there_by_length (d ∷ x) [] k h = absurd (omega (arith, h))
there_by_length (d ∷ x) (e ∷ y) zero h = refl
there_by_length (d ∷ x) (e ∷ y) (suc k) h = there_by_length x y k (omega (arith, h))

there_in : (a b : Option (List Digit)) (k : ℕ) → option_map length a ≡ option_map length b → is_some (digit_in a k) ≡ is_some (digit_in b k)
there_in None None k h = refl
there_in None (Some y) k h = cc
there_in (Some x) None k h = cc
there_in (Some x) (Some y) k h = there_by_length x y k (same_Some (length x) (length y) h)

-- stores of one shape have digits at the same places
same_there : (a b : Store) (v w k : ℕ) → shape a ≡ shape b → is_some (digit_of a v w k) ≡ is_some (digit_of b v w k)
same_there a b v w k h = there_in (word_of a v w) (word_of b v w) k (lengths a v w ∙ ap (λ l. length_in (slice_get l v) w) h ∙ sym (lengths b v w))

fixed_options : (f : Digit → Digit) (o p : Option Digit) → is_some o ≡ is_some p → ((d e : Digit) → f d ≡ f e) → option_map f o ≡ o → option_map f p ≡ p → o ≡ p
fixed_options f None None there fixed at_o at_p = refl
fixed_options f None (Some y) there fixed at_o at_p = cc
fixed_options f (Some x) None there fixed at_o at_p = cc
fixed_options f (Some x) (Some y) there fixed at_o at_p = sym at_o ∙ ap (λ d. Some d) (fixed x y) ∙ at_p

-- a digit that a write fixes is one in two stores that it leaves
pub same_fixed : (a b : Store) (ps : Write) (v w k : ℕ) → shape a ≡ shape b → Fixes ps v w k → put a ps ≡ a → put b ps ≡ b → digit_of a v w k ≡ digit_of b v w k
same_fixed a b ps v w k shaped fixed left_a left_b =
    fixed_options (laid ps v w k) (digit_of a v w k) (digit_of b v w k) (same_there a b v w k shaped) fixed
    (sym (digit-put a ps v w k) ∙ ap (λ s. digit_of s v w k) left_a) (sym (digit-put b ps v w k) ∙ ap (λ s. digit_of s v w k) left_b)

-- an assignment of the design leaves a settled store
pub assign_leaves : (d : Parts) → DrivesWell d → (store : Store) (assigns : List AssignState) → AssignsSound d store assigns → AllIdle assigns → (j : ℕ) (c : Assign) → slice_get d.assigns j ≡ Some c →
    put store (fixed_write c.target (target_value c.target c.source store 0)) ≡ store
assign_leaves d well store assigns sound idle j c is =
    let x = assign_of d.assigns assigns j c sound.linked is in
    subst (λ e. put store (fixed_write c.target (target_value c.target e store 0)) ≡ store) x.3
    (subst (λ t. put store (fixed_write t (target_value t x.0.source store 0)) ≡ store) x.2 (idle_leaves store x.0 (idle j x.0 x.1) (sound.consistent j x.0 x.1)))

abbrev made_of : Target × Typed → Bool → Option (List Digit) → AssignState
made_of p n w = record { target = p.0; source = p.1; needs = n; pending = w }

same_assign : (x y : AssignState) → link_at x ≡ link_at y → x.needs ≡ y.needs → x.pending ≡ y.pending → x ≡ y
same_assign x y p n w = ap (λ q. made_of q x.needs x.pending) p ∙ ap (λ m. made_of (link_at y) m x.pending) n ∙ ap (λ v. made_of (link_at y) y.needs v) w

-- idle assignments of the same links are equal
pub idle_unique : (xs ys : List AssignState) → links xs ≡ links ys → AllIdle xs → AllIdle ys → xs ≡ ys
idle_unique [] [] h ix iy = refl
idle_unique [] (y ∷ ys) h ix iy = cc
idle_unique (x ∷ xs) [] h ix iy = cc
idle_unique (x ∷ xs) (y ∷ ys) h ix iy =
    let first : link_at x ≡ link_at y = head_is x y xs ys h in
    let rest : links xs ≡ links ys = tail_is x y xs ys h in
    let needs : x.needs ≡ y.needs = (ix 0 x refl).0 ∙ sym (iy 0 y refl).0 in
    let pending : x.pending ≡ y.pending = (ix 0 x refl).1 ∙ sym (iy 0 y refl).1 in
    ap₂ (λ z zs. z ∷ zs) (same_assign x y first needs pending) (idle_unique xs ys rest (λ j. ix (suc j)) (λ j. iy (suc j)))
  where
    head_is : (x y : AssignState) (xs ys : List AssignState) → links (x ∷ xs) ≡ links (y ∷ ys) → link_at x ≡ link_at y
    head_is x y xs ys h = cc

    tail_is : (x y : AssignState) (xs ys : List AssignState) → links (x ∷ xs) ≡ links (y ∷ ys) → links xs ≡ links ys
    tail_is x y xs ys h = cc
