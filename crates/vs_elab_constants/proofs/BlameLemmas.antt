-- Which parameters have faults of their own.
use Rattle.std.proofs.Common.{◌≡◌, ℕ, zero, suc, ◌-◌, ◌≤◌, ◌⊎◌, Bool, true, false, true≢false, ◌||◌, cond, List, [], ◌∷◌, Some, length, slice_get, refl, ap, ap₂, sym, ◌∙◌, ⊎_elim, arith}
use Rattle.std.specs.List.{list_any}
use Rattle.std.specs.Str.{bytes_eq}
use Rattle.std.proofs.Math.Path.{fun_ext}
use Rattle.std.proofs.lemmas.Bool.{or_from}
use Rattle.vs_scopes.specs.vs_widths.specs.declared.bindings.Binding.{Binding}
use Rattle.vs_scopes.specs.vs_widths.specs.declared.bindings.Binding.TheVariants.{Constant, Pending, Other}
use Rattle.vs_scopes.specs.vs_widths.specs.declared.constants.Const.{Const}
use Rattle.vs_scopes.specs.vs_widths.specs.declared.faults.WidthReason.{WidthReason}
use Rattle.vs_scopes.specs.vs_widths.specs.declared.faults.WidthReason.TheVariants.{TooWide, Unknown, NotConstant, WrongKind}
use Rattle.vs_scopes.specs.vs_widths.specs.Environment.{Environment}
use Rattle.vs_scopes.specs.Parameters.{Given, constant_given, own_fault, own_faults, outer_fault, any_fault, with_given, bound_given, known_after, known_in_module, blamed_given, blamed_after, blamed_in_module}
use Rattle.vs_elab_constants.specs.passes.Finding.{Below}
use Rattle.vs_elab_constants.proofs.FindingLemmas.{fault_same, none_any, rounds_below}

-- a parameter without faults
pub record IsSound (around env : Environment) (g : Given) : Type 0 where
  pub own : (w : WidthReason) → own_fault w env g ≡ false
  pub outer : (w : WidthReason) → outer_fault w around g ≡ false

with_same : (f h : Given → Binding) (gs : List Given) (env : Environment) → ((k : ℕ) (g : Given) → slice_get gs k ≡ Some g → f g ≡ h g) → (n : List ℕ) → with_given f gs env n ≡ with_given h gs env n
with_same f h [] env each n = refl
with_same f h (g ∷ gs) env each n = ap₂ (λ x y. cond (bytes_eq n g.0.name) (Some x) y) (each zero g refl) (with_same f h gs env (λ k x i. each (suc k) x i) n)

-- a fault of one reason is one of any
third : (a b c d : Bool) → c ≡ true → (((a || b) || c) || d) ≡ true
third true b c d h = refl
third false true c d h = refl
third false false c d h = rw h refl

left : (a b : Bool) → a ≡ true → (a || b) ≡ true
left a b h = rw h refl

never : (x y : Bool) → x ≡ true → y ≡ x → y ≡ false → ⊥
never x y h e k = true≢false (sym h ∙ sym e ∙ k)

-- what the name of a parameter is bound to in both ways, by whether it is a constant and whether it has a fault
blamed_by : (waits any : Bool) (c : Const) → (waits ≡ true → any ≡ true) → (waits ≡ false → any ≡ false) → cond waits Pending (cond any Other (Constant c)) ≡ cond any Pending (Constant c)
blamed_by true any c h k = sym (ap (λ t. cond t Pending (Constant c)) (h refl))
blamed_by false any c h k = ap (λ t. cond t Other (Constant c)) (k refl) ∙ sym (ap (λ t. cond t Pending (Constant c)) (k refl))

module _ (around a last : Environment) (below : Below a last) (g : Given) (known : (own_fault NotConstant last g ≡ true) ⊎ IsSound around last g) where
  abbrev faults : WidthReason → Bool
  faults w = own_fault w a g || outer_fault w around g

  still_sound : own_fault NotConstant a g ≡ false → IsSound around last g
  still_sound h = ⊎_elim (λ waits. absurd (never (own_fault NotConstant last g) (own_fault NotConstant a g) waits (fault_same a last below g h NotConstant) h)) (λ s. s) known

  no_fault : own_fault NotConstant a g ≡ false → (w : WidthReason) → (own_fault w a g || outer_fault w around g) ≡ false
  no_fault h w = or_from (own_fault w a g) (outer_fault w around g) (fault_same a last below g h w ∙ (still_sound h).own w) ((still_sound h).outer w)

  -- a parameter's name is bound alike in both ways
  bound_alike : blamed_given around a g ≡ bound_given around a g
  bound_alike =
      blamed_by (own_fault NotConstant a g) (any_fault (λ w. own_fault w a g || outer_fault w around g)) (constant_given around a g)
      (λ h. third (faults TooWide) (faults Unknown) (faults NotConstant) (faults WrongKind) (left (own_fault NotConstant a g) (outer_fault NotConstant around g) h))
      (λ h. none_any (λ w. own_fault w a g || outer_fault w around g) (no_fault h))

module _ (around env : Environment) (gs : List Given)
    (each : (k : ℕ) (g : Given) → slice_get gs k ≡ Some g → (own_fault NotConstant (known_in_module around env gs) g ≡ true) ⊎ IsSound around (known_in_module around env gs) g) where
  blamed_round : (k : ℕ) → k ≤ length gs → blamed_after k around env gs ≡ known_after k around env gs
  blamed_round zero h = refl
  blamed_round (suc k) h =
      let here : Environment = known_after k around env gs in
      let below = rounds_below around env gs k (length gs - k) (length gs) (omega (arith, h)) in
      ap (λ z. with_given (blamed_given around z) gs env) (blamed_round k (omega (arith, h)))
      ∙ fun_ext (with_same (blamed_given around here) (bound_given around here) gs env (λ j g at. bound_alike around here (known_in_module around env gs) below g (each j g at)))

  -- where no parameter has a fault but that it is no constant, faults are looked for as values are
  pub blamed_same : blamed_in_module around env gs ≡ known_in_module around env gs
  blamed_same = blamed_round (length gs) (omega arith)

  pub faults_known : (w : WidthReason) → own_faults w around env gs ≡ list_any (own_fault w (known_in_module around env gs)) gs
  faults_known TooWide = refl
  faults_known Unknown = refl
  faults_known NotConstant = ap (λ z. list_any (own_fault NotConstant z) gs) blamed_same
  faults_known WrongKind = refl
