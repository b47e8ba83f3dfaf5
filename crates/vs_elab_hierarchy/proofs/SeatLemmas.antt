-- Scopes of a list, and where they stand.
use Rattle.std.proofs.Common.{◌≡◌, ℕ, ◌<◌, ◌≤◌, ⊎_elim, List, [], ◌∷◌, ◌++◌, Option, Some, None, length, ap, sym, subst, ◌∙◌, arith}
use Rattle.std.specs.List.{slice_get}
use Rattle.std.proofs.lemmas.Option.{none-some, slice_get_within, same_Some}
use Rattle.vs_elab_signals.specs.vs_scopes.specs.Scopes.{Scope}
use Rattle.vs_elab_signals.specs.declared.opened.ElabScope.{ElabScope as FoundScope}
use Rattle.vs_elab_signals.specs.Opened.{IsWithin, HasParentScope, HasSight, IsScopeOf, IsOpened, AreOpened, AreSeated}
use Rattle.vs_elab_signals.proofs.SiteLemmas.{opened_more}
use Rattle.vs_elab_hierarchy.proofs.ListLemmas.{slice_push, same_at, zip_length, zip_right, zip_left, zip_map}
use Rattle.vs_design.specs.vs_logic4.proofs.Basics.{zip_append}

-- ---- a list that stands for scopes

pub opened_many : (list : List FoundScope) (ss : List Scope) → AreOpened list ss → length list ≡ length ss
opened_many list ss h = zip_length (IsOpened ss) list ss h.each

-- what stands for the scope at a place
pub opened_at : (list : List FoundScope) (ss : List Scope) (k : ℕ) (s : Scope) → AreOpened list ss → slice_get ss k ≡ Some s → (o : FoundScope) × (slice_get list k ≡ Some o) × IsOpened ss o s
opened_at list ss k s h e = zip_right (IsOpened ss) list ss k s h.each e

-- the scope that one at a place stands for
pub scope_at : (list : List FoundScope) (ss : List Scope) (k : ℕ) (o : FoundScope) → AreOpened list ss → slice_get list k ≡ Some o → (s : Scope) × (slice_get ss k ≡ Some s) × IsOpened ss o s
scope_at list ss k o h e = zip_left (IsOpened ss) list ss k o h.each e

-- the same, of one that is known to stand there
pub opened_here : (list : List FoundScope) (ss : List Scope) (k : ℕ) (o : FoundScope) (s : Scope) → AreOpened list ss → slice_get list k ≡ Some o → slice_get ss k ≡ Some s → IsOpened ss o s
opened_here list ss k o s h e f =
    let x = opened_at list ss k s h f in
    subst (λ z. IsOpened ss z s) (same_at list k x.0 o x.1 e) x.2

pub opened_place : (list : List FoundScope) (ss : List Scope) (k : ℕ) (s : Scope) → AreOpened list ss → slice_get ss k ≡ Some s → k < length list
opened_place list ss k s h e = omega (arith, opened_many list ss h, slice_get_within ss k s e)

-- one more
pub opened_push : (list : List FoundScope) (ss : List Scope) (o : FoundScope) (s : Scope) → AreOpened list ss → IsOpened (ss ++ s ∷ []) o s → s.number ≡ length ss → AreOpened (list ++ o ∷ []) (ss ++ s ∷ [])
opened_push list ss o s h k n = record {
  each = zip_append (IsOpened (ss ++ s ∷ [])) list ss (o ∷ []) (s ∷ [])
      (zip_map (IsOpened ss) (IsOpened (ss ++ s ∷ [])) list ss (λ x y z. opened_more ss (s ∷ []) x y z) h.each) (k, tt);
  places = λ place t e. ⊎_elim (λ p. h.places place t p.1) (λ p. ap (λ (z : Scope). z.number) (sym p.1) ∙ n ∙ sym p.0) (slice_push ss s t place e);
}

-- ---- seats

pub seated_none : AreSeated []
seated_none = record { around = λ place k o h e. absurd (none-some o h); home = λ place o h. absurd (none-some o h) }

pub seated_push : (list : List FoundScope) (o : FoundScope) → AreSeated list → ((k : ℕ) → o.around ≡ Some k → k < length list) → o.home ≤ length list → AreSeated (list ++ o ∷ [])
seated_push list o h a e = record {
  around = λ place k x g f. ⊎_elim (λ p. h.around place k x p.1 f)
      (λ p. (let l : k < length list = a k (ap (λ (z : FoundScope). z.around) p.1 ∙ f) in omega (arith, l, p.0))) (slice_push list o x place g);
  home = λ place x g. ⊎_elim (λ p. h.home place x p.1)
      (λ p. (let same : o.home ≡ x.home = ap (λ (z : FoundScope). z.home) p.1 in omega (arith, same, e, p.0))) (slice_push list o x place g);
}

-- the scope around the one that is to follow others is one of these
pub within_front : (ss : List Scope) (s : Scope) (k : ℕ) → s.number ≡ length ss → IsWithin (ss ++ s ∷ []) k s → IsWithin ss k s
within_front ss s k n h = record {
  outer_scope = h.outer_scope;
  stands = ⊎_elim (λ p. p.1) (λ p. absurd (omega (arith, p.0, h.before, n))) (slice_push ss s h.outer_scope k h.stands);
  before = h.before;
  path = h.path;
  around = h.around;
  outer = h.outer;
}

pub around_front : (ss : List Scope) (s : Scope) (o : Option ℕ) → s.number ≡ length ss → HasParentScope (ss ++ s ∷ []) o s → HasParentScope ss o s
around_front ss s None n h = h
around_front ss s (Some k) n h = within_front ss s k n h

pub sight_front : (ss : List Scope) (s : Scope) (o : Option ℕ) (piece : ℕ) → s.number ≡ length ss → HasParentScope (ss ++ s ∷ []) o s → HasSight (ss ++ s ∷ []) o piece s → HasSight ss o piece s
sight_front ss s None piece n h k = k
sight_front ss s (Some p) piece n h k = record {
  outer_scope = k.outer_scope;
  stands = ⊎_elim (λ q. q.1) (λ q. absurd (omega (arith, q.0, h.before, n))) (slice_push ss s k.outer_scope p k.stands);
  sight = k.sight;
}

around_below : (ss : List Scope) (s : Scope) (o : Option ℕ) (k : ℕ) → HasParentScope ss o s → o ≡ Some k → k < s.number
around_below ss s None k h e = absurd (none-some k e)
around_below ss s (Some j) k h e = let same : j ≡ k = same_Some j k e in omega (arith, same, h.before)

-- the scope around a scope stands before it
pub entered_around : (ss : List Scope) (o : FoundScope) (s : Scope) (k : ℕ) → IsScopeOf ss o s → o.around ≡ Some k → k < s.number
entered_around ss o s k h e = around_below ss s o.around k h.around e

-- the instance that a scope stands in is one of those before it, or itself
pub entered_home : (ss : List Scope) (o : FoundScope) (s : Scope) → IsScopeOf (ss ++ s ∷ []) o s → o.home ≤ length ss
entered_home ss o s h = ⊎_elim (λ p. (let l = p.0 in omega (arith, l))) (λ p. (let l = p.0 in omega (arith, l))) (slice_push ss s h.home.home_scope o.home h.home.stands)
