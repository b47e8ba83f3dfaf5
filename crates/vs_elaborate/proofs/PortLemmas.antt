-- What ports are connected to, a place at a time, and the path around a scope.
use Rattle.std.proofs.Common.{◌≡◌, ℕ, zero, suc, ◌+◌, ◌-◌, ◌<◌, ◌≤◌, min, false, List, [], ◌∷◌, ◌++◌, Option, None, Some, length, map, take, drop, get_or, refl, ap, sym, subst, ◌∙◌, append_assoc, arith}
use Rattle.std.proofs.lemmas.Bool.{or_parts}
use Rattle.std.proofs.lemmas.Option.{slice_get-get_or, get_or_from_slice_get}
use Rattle.std.proofs.lemmas.List.{append-nil, at_drop_more, length-append, length-map}
use Rattle.vs_syntax.specs.declared.tree.Expr.{Expr}
use Rattle.vs_elab_statements.specs.vs_scopes.specs.declared.faults.Reason.{Reason}
use Rattle.vs_elab_statements.specs.vs_scopes.specs.declared.faults.ElabFault.{ElabFault}
use Rattle.vs_elab_statements.specs.vs_scopes.specs.Printed.{Path}
use Rattle.vs_elab_statements.specs.vs_scopes.specs.Ports.{ModulePort}
use Rattle.vs_elab_statements.specs.vs_scopes.specs.Scopes.{Scope, is_wrong_end, has_wrong_end}
use Rattle.vs_elab_statements.specs.vs_scopes.specs.scopes_passes.Answers.{IsReported}
use Rattle.vs_elab_statements.specs.vs_scopes.proofs.AnswerLemmas.{Kept, Grown, told_by}
use Rattle.vs_elab_statements.specs.Members.{PortDriver, port_driver, port_drivers}
use Rattle.vs_elab_statements.specs.vs_scopes.specs.scopes_passes.Names.{read_title, read_path}
use Rattle.vs_elab_statements.specs.vs_scopes.specs.declared.printed.PathName.{PathName as FoundName}
use Rattle.vs_elab_statements.specs.vs_elab_signals.specs.Opened.{HasParentScope}
use Rattle.vs_design.specs.vs_logic4.proofs.Basics.{get_or_same as again}

-- ---- ports and what they are connected to, a place at a time

module _ {A B : Type 0} (f : A → ModulePort) (g : B → Option Expr) where
  no_end : (ps : List ModulePort) → has_wrong_end ps [] ≡ false
  no_end [] = refl
  no_end (p ∷ ps) = refl

  -- behind the last place
  pub wrong_none : (ps : List A) (es : List B) (k : ℕ) → min (length ps) (length es) ≤ k → has_wrong_end (map f (drop k ps)) (map g (drop k es)) ≡ false
  wrong_none [] es zero h = refl
  wrong_none [] es (suc k) h = refl
  wrong_none (p ∷ ps) [] zero h = refl
  wrong_none (p ∷ ps) [] (suc k) h = no_end (map f (drop k ps))
  wrong_none (p ∷ ps) (e ∷ es) zero h = absurd (omega (arith, h))
  wrong_none (p ∷ ps) (e ∷ es) (suc k) h = wrong_none ps es k (omega (arith, h))

  no_drivers : (ps : List ModulePort) → port_drivers ps [] ≡ []
  no_drivers [] = refl
  no_drivers (p ∷ ps) = refl

  drivers_none : (ps : List A) (es : List B) (k : ℕ) → min (length ps) (length es) ≤ k → port_drivers (map f (drop k ps)) (map g (drop k es)) ≡ []
  drivers_none [] es zero h = refl
  drivers_none [] es (suc k) h = refl
  drivers_none (p ∷ ps) [] zero h = refl
  drivers_none (p ∷ ps) [] (suc k) h = no_drivers (map f (drop k ps))
  drivers_none (p ∷ ps) (e ∷ es) zero h = absurd (omega (arith, h))
  drivers_none (p ∷ ps) (e ∷ es) (suc k) h = drivers_none ps es k (omega (arith, h))

  -- one place
  pub left_at : (ps : List A) (es : List B) (k : ℕ) (p : A) (e : B) → k < length ps → k < length es → p ≡ get_or ps k p → e ≡ get_or es k e → has_wrong_end (map f ps) (map g es) ≡ false → is_wrong_end (f p) (g e) ≡ false
  left_at [] es k p e h l u v w = absurd (omega (arith, h))
  left_at (x ∷ ps) [] k p e h l u v w = absurd (omega (arith, l))
  left_at (x ∷ ps) (y ∷ es) zero p e h l u v w = ap (λ z. is_wrong_end (f z) (g e)) u ∙ ap (λ z. is_wrong_end (f x) (g z)) v ∙ (or_parts _ _ w).0
  left_at (x ∷ ps) (y ∷ es) (suc k) p e h l u v w = left_at ps es k p e (omega (arith, h)) (omega (arith, l)) u v (or_parts (is_wrong_end (f x) (g y)) _ w).1

  drivers_step : (ps : List A) (es : List B) (k : ℕ) (p : A) (e : B) → k < length ps → k < length es → p ≡ get_or ps k p → e ≡ get_or es k e →
      port_drivers (map f (drop k ps)) (map g (drop k es)) ≡ port_driver (f p) (g e) ++ port_drivers (map f (drop (k + 1) ps)) (map g (drop (k + 1) es))
  drivers_step ps es k p e h l u v =
      let rest = port_drivers (map f (drop (k + 1) ps)) (map g (drop (k + 1) es)) in
      at_drop_more (λ z. port_drivers (map f z) (map g (drop k es))) ps k p h ∙
      at_drop_more (λ z. port_drivers (map f (get_or ps k p ∷ drop (k + 1) ps)) (map g z)) es k e l ∙
      ap (λ z. port_driver (f z) (g (get_or es k e)) ++ rest) (sym u) ∙ ap (λ z. port_driver (f p) (g z) ++ rest) (sym v)

  -- what stands at a place
  place_of : (ps : List A) (k : ℕ) → k < length ps → (p : A) × (p ≡ get_or ps k p)
  place_of [] k h = absurd (omega (arith, h))
  place_of (x ∷ ps) zero h = (x, refl)
  place_of (x ∷ ps) (suc k) h = place_of ps k (omega (arith, h))

  -- the continuous assignments of ports up to a place, those behind it, and what is kept of the first
  abbrev pub KeptTo : {C : Type 0} → List PortDriver → List A → List B → (C → List PortDriver → Type 0) → (C → List PortDriver → Type 0) → ℕ → Type 0
  KeptTo all ps es Old New k = (done : List PortDriver) × (all ≡ done ++ port_drivers (map f (drop k ps)) (map g (drop k es))) × Kept Old New done

  module _ {C : Type 0} (all : List PortDriver) (ps : List A) (es : List B) where
    -- one more
    pub kept_to_more : (Old Mid New : C → List PortDriver → Type 0) (k : ℕ) (p : A) (e : B) (one : List PortDriver) → k < length ps → k < length es → p ≡ get_or ps k p → e ≡ get_or es k e → port_driver (f p) (g e) ≡ one →
        KeptTo all ps es Old Mid k → Kept Mid New one → KeptTo all ps es Old New (k + 1)
    kept_to_more Old Mid New k p e one h l u v w r m =
        let rest = port_drivers (map f (drop (k + 1) ps)) (map g (drop (k + 1) es)) in (
          r.0 ++ one,
          r.1 ∙ ap (λ z. r.0 ++ z) (drivers_step ps es k p e h l u v ∙ ap (λ z. z ++ rest) w) ∙ sym (append_assoc r.0 one rest),
          λ start done o. subst (New start) (append_assoc done r.0 one) (m start (done ++ r.0) (r.2 start done o)),
        )

    -- one more, of a port that is not connected
    pub kept_to_skip : (Old Mid : C → List PortDriver → Type 0) (k : ℕ) (e : B) → k < length ps → k < length es → e ≡ get_or es k e → ((p : A) → port_driver (f p) (g e) ≡ []) → KeptTo all ps es Old Mid k → KeptTo all ps es Old Mid (k + 1)
    kept_to_skip Old Mid k e h l v w r =
        let P : A → Type 0 = λ p. p ≡ get_or ps k p in
        let p : (x : A) × P x = place_of ps k h in
        let rest = port_drivers (map f (drop (k + 1) ps)) (map g (drop (k + 1) es)) in
        (r.0, r.1 ∙ ap (λ z. r.0 ++ z) (drivers_step ps es k p.0 e h l p.1 v ∙ ap (λ z. z ++ rest) (w p.0)), r.2)

    -- all
    pub kept_to_end : (Old New : C → List PortDriver → Type 0) (k : ℕ) → min (length ps) (length es) ≤ k → KeptTo all ps es Old New k → Kept Old New all
    kept_to_end Old New k h r =
        let e : all ≡ r.0 = r.1 ∙ ap (λ z. r.0 ++ z) (drivers_none ps es k h) ∙ append-nil r.0 in
        subst (Kept Old New) (sym e) r.2

    -- a fault of one is one of all
    pub kept_to_fault : (Old Mid : C → List PortDriver → Type 0) (Stands : C → List PortDriver → Reason → Path → Type 0) (k : ℕ) (p : A) (e : B) (one : List PortDriver) (bad : ElabFault) → k < length ps → k < length es → p ≡ get_or ps k p → e ≡ get_or es k e → port_driver (f p) (g e) ≡ one →
        Grown Stands → KeptTo all ps es Old Mid k → ((start : C) (done : List PortDriver) → Mid start done → IsReported (Stands start (done ++ one)) bad) →
        (start : C) (done : List PortDriver) → Old start done → IsReported (Stands start (done ++ all)) bad
    kept_to_fault Old Mid Stands k p e one bad h l u v w more r m start done o =
        let rest = port_drivers (map f (drop (k + 1) ps)) (map g (drop (k + 1) es)) in
        let whole : ((done ++ r.0) ++ one) ++ rest ≡ done ++ all = append_assoc (done ++ r.0) one rest ∙ append_assoc done r.0 (one ++ rest) ∙ ap (λ z. done ++ z) (sym (r.1 ∙ ap (λ z. r.0 ++ z) (drivers_step ps es k p e h l u v ∙ ap (λ z. z ++ rest) w))) in
        let told = told_by _ (Stands start (((done ++ r.0) ++ one) ++ rest)) bad (λ b q s. more start ((done ++ r.0) ++ one) rest b q s) (m start (done ++ r.0) (r.2 start done o)) in
        subst (λ z. IsReported (Stands start z) bad) whole told

-- ---- the path around a scope

take_before : {A : Type 0} (xs : List A) (x : A) (k : ℕ) → k ≡ length xs → take k (xs ++ x ∷ []) ≡ xs
take_before [] x zero h = refl
take_before [] x (suc k) h = absurd (omega (arith, h))
take_before (y ∷ xs) x zero h = absurd (omega (arith, h))
take_before (y ∷ xs) x (suc k) h = ap (λ z. y ∷ z) (take_before xs x k (omega (arith, h)))

take_last : {A : Type 0} (xs : List A) (x : A) → take (length (xs ++ x ∷ []) - 1) (xs ++ x ∷ []) ≡ xs
take_last xs x = take_before xs x (length (xs ++ x ∷ []) - 1) (omega (arith, length-append xs (x ∷ [])))

pub path_around : (ss : List Scope) (around : Option ℕ) (s : Scope) → HasParentScope ss around s → take (length s.path - 1) s.path ≡ s.around
path_around ss None s h = ap (λ z. take (length z - 1) z) h.path ∙ take_last [] s.title ∙ sym h.around
path_around ss (Some place) s h = ap (λ z. take (length z - 1) z) h.path ∙ take_last h.outer_scope.path s.title ∙ sym h.around

pub outer_is : (names : List FoundName) (s : Scope) → read_path names ≡ s.path → take (length s.path - 1) s.path ≡ s.around → take (length names - 1) (read_path names) ≡ s.around
outer_is names s h e =
    let long : length names ≡ length s.path = sym (length-map names read_title) ∙ ap length h in
    ap (λ n. take (n - 1) (read_path names)) long ∙ ap (take (length s.path - 1)) h ∙ e
