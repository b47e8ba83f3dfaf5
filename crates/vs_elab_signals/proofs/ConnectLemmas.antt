-- Connections of ports, and names among others, a place at a time.
use Rattle.std.proofs.Common.{◌≡◌, ℕ, zero, suc, ◌+◌, ◌<◌, ◌≤◌, min, Bool, true, false, List, [], ◌∷◌, Option, None, Some, length, map, take, drop, get_or, refl, ap, sym, subst, ◌∙◌, arith}
use Rattle.std.specs.List.{list_any}
use Rattle.std.specs.Str.{bytes_eq}
use Rattle.std.specs.Borrow.{Bor}
use Rattle.std.proofs.lemmas.List.{take_more, map-append}
use Rattle.std.specs.declared.vec.Vec.{Vec}
use Rattle.std.specs.declared.alloc.Global.{Global}
use Rattle.vs_syntax.specs.declared.tree.Expr.{Expr}
use Rattle.vs_scopes.specs.Connections.{ends_of, is_mismatch}
use Rattle.vs_scopes.specs.Ports.{ModulePort, port_names}
use Rattle.vs_scopes.specs.Declarations.{Use}
use Rattle.vs_scopes.specs.Scopes.{has_wrong_end}
use Rattle.vs_scopes.specs.scopes_passes.Answers.{borrowed}
use Rattle.vs_scopes.specs.scopes_passes.Parts.{read_ends, AreEnds}
use Rattle.vs_scopes.proofs.Folds.{any_push}
use Rattle.std.proofs.lemmas.Bool.{or_from as both_false, or_left as left_true, or_right as right_true}
use Rattle.vs_elab_signals.specs.signal_passes.Connecting.{ConnectsTo}

-- ---- ports and what they are connected to, a place at a time

module _ {A B : Type 0} (f : A → ModulePort) (g : B → Option Expr) where
  no_end : (ps : List ModulePort) → has_wrong_end ps [] ≡ false
  no_end [] = refl
  no_end (p ∷ ps) = refl

  -- behind the last place
  pub wrong_none : (ps : List A) (es : List B) (k : ℕ) → min (length ps) (length es) ≤ k → has_wrong_end (map f (drop k ps)) (map g (drop k es)) ≡ false
  wrong_none [] es zero h = refl
  wrong_none [] es (suc k) h = refl
  wrong_none (p ∷ ps) [] zero h = refl
  wrong_none (p ∷ ps) [] (suc k) h = no_end (map f (drop k ps))
  wrong_none (p ∷ ps) (e ∷ es) zero h = absurd (omega (arith, h))
  wrong_none (p ∷ ps) (e ∷ es) (suc k) h = wrong_none ps es k (omega (arith, h))

module _ (u : Use) (ps : List ModulePort) (ns : List (List ℕ)) (e : ns ≡ port_names ps) where
  module _ (v : Vec (Option (Bor Expr)) Global) (h : AreEnds u.ports ns (Some v)) where
    ends_are : read_ends v.items ≡ ends_of u.ports (port_names ps)
    ends_are = h.1 ∙ ap (ends_of u.ports) e

    -- an output that is connected to what it can't drive
    pub connects_wrong : has_wrong_end ps (read_ends v.items) ≡ true → ConnectsTo u ps None
    connects_wrong k = right_true (is_mismatch u.ports (port_names ps)) _ (subst (λ z. has_wrong_end ps z ≡ true) ends_are k)

    pub connects_right : has_wrong_end ps (read_ends v.items) ≡ false → ConnectsTo u ps (Some v)
    connects_right k = (both_false (is_mismatch u.ports (port_names ps)) _ (subst (λ z. is_mismatch u.ports z ≡ false) e h.0) (subst (λ z. has_wrong_end ps z ≡ false) ends_are k), ends_are)

-- ---- names among others

-- none of the first ones
pub none_named : (n : List ℕ) (names : List (Bor (List ℕ))) (i : ℕ) (d : Bor (List ℕ)) (b : Bool) → i < length names → b ≡ bytes_eq n (get_or names i d).now → b ≡ false → list_any (bytes_eq n) (borrowed (take i names)) ≡ false → list_any (bytes_eq n) (borrowed (take (i + 1) names)) ≡ false
none_named n names i d b h e k before =
    ap (λ z. list_any (bytes_eq n) (borrowed z)) (take_more names i d h) ∙ ap (list_any (bytes_eq n)) (map-append (λ (z : Bor (List ℕ)). z.now) (take i names) (get_or names i d ∷ [])) ∙
    any_push (bytes_eq n) (borrowed (take i names)) (get_or names i d).now before (sym e ∙ k)

-- one of them
pub one_named : (n : List ℕ) (names : List (Bor (List ℕ))) (i : ℕ) (d : Bor (List ℕ)) (b : Bool) → i < length names → b ≡ bytes_eq n (get_or names i d).now → b ≡ true → list_any (bytes_eq n) (borrowed names) ≡ true
one_named n [] i d b h e k = absurd (omega (arith, h))
one_named n (x ∷ xs) zero d b h e k = left_true (bytes_eq n x.now) _ (sym e ∙ k)
one_named n (x ∷ xs) (suc i) d b h e k = right_true (bytes_eq n x.now) _ (one_named n xs i d b (omega (arith, h)) e k)
