-- How names stand at places of the text.
use Rattle.std.proofs.Common.{◌≡◌, ℕ, suc, ◌+◌, ◌<◌, Bool, true, false, ◌&&◌, cond, is_some, List, [], ◌∷◌, ◌++◌, Option, None, Some, length, map, take, get_or, slice_get, refl, ap, sym, subst, ◌∙◌, append_assoc, arith}
use Rattle.std.proofs.lemmas.List.{append-nil, map-append, length-map, length-take}
use Rattle.std.proofs.lemmas.Option.{none-some}
use Rattle.vs_design.specs.declared.design.ScopeKind.{ScopeKind}
use Rattle.vs_design.specs.declared.design.ScopeKind.TheVariants as opened_by
use Rattle.vs_scopes.specs.vs_widths.specs.declared.bindings.Binding.{Binding}
use Rattle.vs_elab_signals.specs.vs_widths.specs.Names.{meaning_of}
use Rattle.vs_elab_signals.specs.vs_scopes.specs.Pieces.{Piece}
use Rattle.vs_elab_signals.specs.vs_scopes.specs.Reads.{read_piece}
use Rattle.vs_elab_signals.specs.vs_scopes.specs.declared.scope.ScopePiece.{ScopePiece as FoundPiece}
use Rattle.vs_scopes.specs.Nets.{seen, coming, nothing_seen, nets_in, nets_from, first_net, is_before, is_net}
use Rattle.vs_scopes.specs.Scopes.{Scope, named, sight_by, sight_in}
use Rattle.vs_scopes.specs.scopes_passes.Declared.{AddsNames}
use Rattle.vs_scopes.proofs.DeclaredLemmas.{adds_then}
use Rattle.vs_design.specs.vs_logic4.proofs.Basics.{take_push}
use Rattle.vs_elab_signals.specs.declared.opened.ElabScope.{ElabScope as FoundScope}
use Rattle.vs_elab_signals.specs.declared.sights.Level.{Level}
use Rattle.vs_elab_signals.specs.declared.sights.Level.TheVariants.{Here, Late, Outward}
use Rattle.vs_elab_signals.specs.declared.sights.Sight.{Sight as FoundSight}
use Rattle.vs_elab_signals.specs.declared.sights.Sight.TheVariants as f
use Rattle.vs_elab_signals.specs.Opened.{HasParentScope, HasSight, sight_from, IsScopeOf, AreOpened}
use Rattle.vs_elab_signals.specs.signal_passes.Sites.{outward_place}
use Rattle.vs_elab_signals.specs.signal_passes.Sights.{placed, level_by, level_of, sight_of_level, IsSight, IsHere}
use Rattle.vs_elab_signals.proofs.SiteLemmas.{opened_at, place_outward}

-- ---- ports and nets by their places

told_push : (k : ℕ) (ps : List Piece) (p : Piece) → nets_from k (ps ++ p ∷ []) ≡ nets_from k ps ++ placed (k + length ps) (nets_in p)
told_push k [] p =
    let e : k ≡ k + 0 = omega arith in
    append-nil (placed k (nets_in p)) ∙ ap (λ (z : ℕ). placed z (nets_in p)) e
told_push k (q ∷ ps) p =
    let e : suc k + length ps ≡ k + suc (length ps) = omega arith in
    ap (λ z. placed k (nets_in q) ++ z) (told_push (suc k) ps p ∙ ap (λ (z : ℕ). nets_from (suc k) ps ++ placed z (nets_in p)) e)
    ∙ sym (append_assoc (placed k (nets_in q)) (nets_from (suc k) ps) (placed (k + suc (length ps)) (nets_in p)))

-- those of one piece more
pub told_step : (xs : List FoundPiece) (i : ℕ) (x : FoundPiece) (a b c : List (List ℕ × ℕ)) → i < length xs → x ≡ get_or xs i x → AddsNames a b (nets_from 0 (map read_piece (take i xs))) → AddsNames b c (placed i (nets_in (read_piece x))) →
    AddsNames a c (nets_from 0 (map read_piece (take (i + 1) xs)))
told_step xs i x a b c h k p q =
    let ps = map read_piece (take i xs) in
    let many : length ps ≡ i = omega (arith, length-map (take i xs) read_piece, length-take i xs) in
    let all : map read_piece (take (i + 1) xs) ≡ ps ++ read_piece x ∷ [] = ap (map read_piece) (take_push xs i x h k) ∙ map-append read_piece (take i xs) (x ∷ []) in
    let P : ℕ → List (List ℕ × ℕ) = λ z. nets_from 0 ps ++ placed z (nets_in (read_piece x)) in
    let e : 0 + length ps ≡ i = omega arith in
    subst (AddsNames a c) (sym (ap (nets_from 0) all ∙ told_push 0 ps (read_piece x) ∙ ap P e)) (adds_then a b c (nets_from 0 ps) (placed i (nets_in (read_piece x))) p q)

-- ---- one scope

-- how a name stands in a scope, by how it does there alone
pub level_sight : (s : Scope) (place : ℕ) (n : List ℕ) → sight_in s place n ≡ sight_of_level s n (level_of (first_net s.pieces n) place (meaning_of s.text n))
level_sight s place n = by (is_before (first_net s.pieces n) place) (is_some (first_net s.pieces n)) (meaning_of s.text n)
  where
    net : (t : Bool) → cond t (coming (named s n)) seen ≡ sight_of_level s n (cond t Late Here)
    net true = refl
    net false = refl

    by : (b t : Bool) (m : Option Binding) → cond b seen (sight_by s n t m) ≡ sight_of_level s n (cond b Here (level_by t m))
    by true t m = refl
    by false t None = refl
    by false t (Some x) = net (t && is_net x)

pub here_is : (ss : List Scope) (o : FoundScope) (s : Scope) (piece : ℕ) (n : List ℕ) (level : Level) → IsScopeOf ss o s → level ≡ level_of (meaning_of o.told n) piece (meaning_of o.text n) → sight_in s piece n ≡ sight_of_level s n level
here_is ss o s piece n level e h =
    level_sight s piece n ∙ ap (λ z. sight_of_level s n (level_of z piece (meaning_of s.text n))) (sym (e.told n))
    ∙ ap (λ z. sight_of_level s n (level_of (meaning_of o.told n) piece z)) (sym (e.text n)) ∙ ap (sight_of_level s n) (sym h)

module _ (ss : List Scope) (s : Scope) (place piece : ℕ) (n : List ℕ) (level : Level) (is : sight_in s piece n ≡ sight_of_level s n level) where
  pub seen_here : level ≡ Here → IsHere ss s place piece n (Some f.Seen)
  seen_here e = subst (λ z. IsSight ss n z f.Seen) (sym (is ∙ ap (sight_of_level s n) e)) tt

  pub late_here : slice_get ss place ≡ Some s → level ≡ Late → IsHere ss s place piece n (Some (f.Coming place))
  late_here h e = subst (λ z. IsSight ss n z (f.Coming place)) (sym (is ∙ ap (sight_of_level s n) e)) (record { scope = s; stands = h; path = refl })

  pub outward_here : level ≡ Outward → IsHere ss s place piece n None
  outward_here e = is ∙ ap (sight_of_level s n) e

-- ---- outward

-- a name stands in a scope as it does in the one at a place
pub record Sees (ss : List Scope) (s : Scope) (piece : ℕ) (n : List ℕ) (at from : ℕ) : Type 0 where
  pub scope : Scope
  pub stands : slice_get ss at ≡ Some scope
  pub same : sight_in s piece n ≡ sight_in scope from n

pub sees_itself : (ss : List Scope) (s : Scope) (piece : ℕ) (n : List ℕ) (at : ℕ) → slice_get ss at ≡ Some s → Sees ss s piece n at piece
sees_itself ss s piece n at h = record { scope = s; stands = h; same = refl }

-- how names stand around a scope, where they are seen there
pub seen_around : (ss : List Scope) (t : Scope) (kind : ScopeKind) (around : Option ℕ) (piece next : ℕ) → outward_place kind around ≡ Some next → kind ≡ t.kind → HasSight ss around piece t →
    (u : Scope) × (slice_get ss next ≡ Some u) × (t.sight ≡ sight_in u piece)
seen_around ss t kind around piece next e k h =
    let p = place_outward kind around next e in
    let w = subst (λ z. HasSight ss z piece t) p.1 h in
    (w.outer_scope, w.stands, w.sight ∙ ap (λ z. sight_from z w.outer_scope piece) (sym k ∙ p.0))

-- and where they aren't
pub nothing_around : (ss : List Scope) (t : Scope) (kind : ScopeKind) (around : Option ℕ) (piece : ℕ) → outward_place kind around ≡ None → kind ≡ t.kind → HasSight ss around piece t → t.sight ≡ nothing_seen
nothing_around ss t kind None piece e k h = h
nothing_around ss t opened_by.Module (Some p) piece e k h = h.sight ∙ ap (λ z. sight_from z h.outer_scope piece) (sym k)
nothing_around ss t opened_by.Begin (Some p) piece e k h = absurd (none-some p (sym e))

-- the first scope stands in none
nothing_first : (ss : List Scope) (t : Scope) (around : Option ℕ) (piece : ℕ) → t.number ≡ 0 → HasParentScope ss around t → HasSight ss around piece t → t.sight ≡ nothing_seen
nothing_first ss t None piece z k h = h
nothing_first ss t (Some p) piece z k h = absurd (omega (arith, k.before, z))

pub first_sees : (list : List FoundScope) (ss : List Scope) (t : Scope) (at : ℕ) → AreOpened list ss → at ≡ 0 → 0 < length list → slice_get ss at ≡ Some t → t.sight ≡ nothing_seen
first_sees [] ss t at a z h k = absurd (omega (arith, h))
first_sees (o ∷ os) ss t at a z h k =
    let first = subst (λ (i : ℕ). slice_get ss i ≡ Some t) z k in
    let e = (opened_at (o ∷ os) ss a 0 o h refl t first).entered in
    nothing_first ss t o.around o.piece (a.places 0 t first) e.around e.sight

module _ (ss : List Scope) (s : Scope) (piece : ℕ) (n : List ℕ) (at from : ℕ) (g : Sees ss s piece n at from) where
  -- it is decided there
  pub sees_there : (x : FoundSight) → IsHere ss g.scope at from n (Some x) → IsSight ss n (sight_in s piece n) x
  sees_there x h = subst (λ z. IsSight ss n z x) (sym g.same) h

  -- it is decided outward
  pub sees_next : (o : FoundScope) (next : ℕ) → outward_place o.kind o.around ≡ Some next → IsScopeOf ss o g.scope → IsHere ss g.scope at from n None → Sees ss s piece n next o.piece
  sees_next o next e h k =
      let w = seen_around ss g.scope o.kind o.around o.piece next e h.kind h.sight in
      record { scope = w.0; stands = w.1; same = g.same ∙ k ∙ ap (λ f. f n) w.2 }

  -- it isn't declared
  pub sees_nothing : g.scope.sight ≡ nothing_seen → IsHere ss g.scope at from n None → IsSight ss n (sight_in s piece n) f.Unseen
  sees_nothing e k = subst (λ z. IsSight ss n z f.Unseen) (sym (g.same ∙ k ∙ ap (λ f. f n) e)) tt
