-- What is asked of writers and seconds, by tests of points.
use Rattle.std.proofs.Common.{◌≡◌, ℕ, ◌<◌, ◌⊎◌, ◌↔◌, inl, inr, Bool, true, false, IsTrue, Option, Some, None, List, slice_get, slice_index_or, refl, sym, ◌∙◌, subst}
use Rattle.std.proofs.lemmas.Bool.{false≢true}
use Rattle.std.proofs.lemmas.Option.{none-some, same_Some}
use Rattle.vs_design.specs.Parts.{Parts}
use Rattle.vs_maps.specs.vs_rules.specs.Claims.{Name, Claims, names_process, IsWriter, IsSecond, is_wide}
use Rattle.vs_maps.specs.vs_rules.specs.Paths.{IsPoint, IsSlot0, IsLate, WritesNow, WritesLater}
use Rattle.vs_maps.specs.vs_rules.specs.Rules.{NeverNow, NeverLater}
use Rattle.vs_claims.specs.vs_maps.specs.Ranges.{HasSignal, now_at, later_at}
use Rattle.vs_claims.specs.vs_maps.specs.Reaches.{Chart, IsPlace, InSlot0, places}
use Rattle.vs_claims.specs.vs_maps.specs.Walks.{AreMarked, InLate}
use Rattle.vs_claims.specs.Facts.{AreCharts}
use Rattle.vs_maps.specs.Texts.{Texts, texts_of, AllNow, AllLater}
use Rattle.vs_rules_of_signals.specs.Writers.{IsEarly, FirstAlone, FirstAloneLater}
use Rattle.vs_rules_of_signals.proofs.Here.{Here, named_here, of_one, now_here, later_here, never, never_late, never_marked, never_slot0}

-- ---- answers

-- nothing is asked
pub granted : (K : Type 0) → K → (IsTrue true ↔ K)
granted K k = (λ h. k, λ h. refl)

-- what holds of the one that is there
pub one_is : (S P : ℕ → Type 0) (one : Option ℕ) (i : ℕ) → one ≡ Some i → ((j : ℕ) → (S j ↔ one ≡ Some j)) → (b : Bool) → (IsTrue b ↔ P i) → (IsTrue b ↔ ((j : ℕ) × S j × P j))
one_is S P one i is those b f = (
  λ h. (i, (those i).1 is, f.0 h),
  λ y. f.1 (subst P (same_Some y.0 i (sym ((those y.0).0 y.1) ∙ is)) y.2),
)

pub none_is : (S P : ℕ → Type 0) (one : Option ℕ) → one ≡ None → ((j : ℕ) → (S j ↔ one ≡ Some j)) → (IsTrue false ↔ ((j : ℕ) × S j × P j))
none_is S P one is those = (λ h. absurd (false≢true h), λ y. absurd (none-some y.0 (sym is ∙ (those y.0).0 y.1)))

pub nobody : (S : ℕ → Type 0) (one : Option ℕ) → one ≡ None → ((j : ℕ) → (S j ↔ one ≡ Some j)) → (j : ℕ) → S j → ⊥
nobody S one is those j s = none-some j (sym is ∙ (those j).0 s)

pub same_one : (S : ℕ → Type 0) (one : Option ℕ) (i : ℕ) → one ≡ Some i → ((j : ℕ) → (S j ↔ one ≡ Some j)) → (j : ℕ) → S j → j ≡ i
same_one S one i is those j s = same_Some j i (sym ((those j).0 s) ∙ is)

-- a map that is there
pub has_map : (d : Parts) (charts : List Chart) → AreCharts d charts → (name : Option Name) (i : ℕ) → names_process name (slice_get d.processes i) ≡ true → slice_get charts i ≡ None → ⊥
has_map d charts maps name i h none = let x = named_here d charts maps name i h in none-some x.chart (sym none ∙ x.at)

-- with the map that is told
abbrev pub at_map : (d : Parts) (charts : List Chart) → AreCharts d charts → (name : Option Name) (i : ℕ) → names_process name (slice_get d.processes i) ≡ true → (t : Chart) → slice_get charts i ≡ Some t →
    Here d charts i
at_map d charts maps name i h t at =
    let x = named_here d charts maps name i h in record { process = x.process; is = x.is; chart = t; at = at; text = maps.each i x.process t x.is at }

-- ---- modes

pub never_now : (d : Parts) (charts : List Chart) (i v : ℕ) (x : Texts) → x ≡ texts_of d charts → Here d charts i → (AllNow x v (λ j p. j ≡ i → ⊥) ↔ NeverNow d v i)
never_now d charts i v x e h = subst (λ (x : Texts). (AllNow x v (λ j p. j ≡ i → ⊥) ↔ NeverNow d v i)) (sym e)
    (let a = of_one d charts i h (λ t p. HasSignal (now_at t p) v) (λ p. ⊥) in
    let b = never d charts i h (λ t p. HasSignal (now_at t p) v) (λ k. WritesNow d k v) (now_here d charts i h v) in
    (λ all. b.0 (a.0 all), λ n. a.1 (b.1 n)))

pub never_later : (d : Parts) (charts : List Chart) (i v : ℕ) (x : Texts) → x ≡ texts_of d charts → Here d charts i → (AllLater x v (λ j p. j ≡ i → ⊥) ↔ NeverLater d v i)
never_later d charts i v x e h = subst (λ (x : Texts). (AllLater x v (λ j p. j ≡ i → ⊥) ↔ NeverLater d v i)) (sym e)
    (let a = of_one d charts i h (λ t p. HasSignal (later_at t p) v) (λ p. ⊥) in
    let b = never d charts i h (λ t p. HasSignal (later_at t p) v) (λ k. WritesLater d k v) (later_here d charts i h v) in
    (λ all. b.0 (a.0 all), λ n. a.1 (b.1 n)))

-- ---- seconds

-- no write of the second is late
pub early_parts : (d : Parts) (c : Claims) (charts : List Chart) (i v : ℕ) (x : Texts) → x ≡ texts_of d charts → (h : Here d charts i) → IsSecond d c v i → ((j : ℕ) → IsSecond d c v j → j ≡ i) →
    (marks : List Bool) → AreMarked (InLate h.chart) (places h.chart) marks →
    (IsEarly d c v ↔ (AllNow x v (λ j p. j ≡ i → IsTrue (slice_index_or marks p false) → ⊥) × AllLater x v (λ j p. j ≡ i → IsTrue (slice_index_or marks p false) → ⊥)))
early_parts d c charts i v x e h second one marks marked =
    subst (λ (x : Texts). (IsEarly d c v ↔ (AllNow x v (λ j p. j ≡ i → IsTrue (slice_index_or marks p false) → ⊥) × AllLater x v (λ j p. j ≡ i → IsTrue (slice_index_or marks p false) → ⊥))))
    (sym e) (there, back) where
      now_one : (((j p : ℕ) (t : Chart) → slice_get charts j ≡ Some t → IsPlace t p → HasSignal (now_at t p) v → j ≡ i → IsTrue (slice_index_or marks p false) → ⊥) ↔
          ((p : ℕ) → IsPlace h.chart p → HasSignal (now_at h.chart p) v → IsTrue (slice_index_or marks p false) → ⊥))
      now_one = of_one d charts i h (λ t p. HasSignal (now_at t p) v) (λ p. IsTrue (slice_index_or marks p false) → ⊥)

      later_one : (((j p : ℕ) (t : Chart) → slice_get charts j ≡ Some t → IsPlace t p → HasSignal (later_at t p) v → j ≡ i → IsTrue (slice_index_or marks p false) → ⊥) ↔
          ((p : ℕ) → IsPlace h.chart p → HasSignal (later_at h.chart p) v → IsTrue (slice_index_or marks p false) → ⊥))
      later_one = of_one d charts i h (λ t p. HasSignal (later_at t p) v) (λ p. IsTrue (slice_index_or marks p false) → ⊥)

      there : IsEarly d c v → AllNow (texts_of d charts) v (λ j p. j ≡ i → IsTrue (slice_index_or marks p false) → ⊥) × AllLater (texts_of d charts) v (λ j p. j ≡ i → IsTrue (slice_index_or marks p false) → ⊥)
      there early = (
        now_one.1 ((never_marked d charts i h (λ t p. HasSignal (now_at t p) v) (InLate h.chart) marks marked).1
            ((never_late d charts i h (λ t p. HasSignal (now_at t p) v) (λ k. WritesNow d k v) (now_here d charts i h v)).1 (λ k point w late. early i k second point (inl w) late))),
        later_one.1 ((never_marked d charts i h (λ t p. HasSignal (later_at t p) v) (InLate h.chart) marks marked).1
            ((never_late d charts i h (λ t p. HasSignal (later_at t p) v) (λ k. WritesLater d k v) (later_here d charts i h v)).1 (λ k point w late. early i k second point (inr w) late))),
      )

      back : AllNow (texts_of d charts) v (λ j p. j ≡ i → IsTrue (slice_index_or marks p false) → ⊥) × AllLater (texts_of d charts) v (λ j p. j ≡ i → IsTrue (slice_index_or marks p false) → ⊥) → IsEarly d c v
      back y j k s = subst (λ (n : ℕ). IsPoint d n k → WritesNow d k v ⊎ WritesLater d k v → IsLate d n k → ⊥) (sym (one j s))
          (λ point w late. elim w [
            | inl a ↦ (never_late d charts i h (λ t p. HasSignal (now_at t p) v) (λ k. WritesNow d k v) (now_here d charts i h v)).0
                ((never_marked d charts i h (λ t p. HasSignal (now_at t p) v) (InLate h.chart) marks marked).0 (now_one.0 y.0)) k point a late
            | inr b ↦ (never_late d charts i h (λ t p. HasSignal (later_at t p) v) (λ k. WritesLater d k v) (later_here d charts i h v)).0
                ((never_marked d charts i h (λ t p. HasSignal (later_at t p) v) (InLate h.chart) marks marked).0 (later_one.0 y.1)) k point b late
          ])

-- the writer has no `=` in the first slot
pub first_part : (d : Parts) (c : Claims) (charts : List Chart) (s j v : ℕ) (x : Texts) → x ≡ texts_of d charts → (h : Here d charts j) → IsSecond d c v s → IsWriter d c v j →
    ((k : ℕ) → IsWriter d c v k → k ≡ j) → (FirstAlone d c v ↔ AllNow x v (λ k p. k ≡ j → p < places h.chart → InSlot0 (is_wide c) h.chart p → ⊥))
first_part d c charts s j v x e h second writer one =
    subst (λ (x : Texts). (FirstAlone d c v ↔ AllNow x v (λ k p. k ≡ j → p < places h.chart → InSlot0 (is_wide c) h.chart p → ⊥))) (sym e)
    (let a = of_one d charts j h (λ t p. HasSignal (now_at t p) v) (λ p. p < places h.chart → InSlot0 (is_wide c) h.chart p → ⊥) in
    let b = never_slot0 d charts (is_wide c) j h (λ t p. HasSignal (now_at t p) v) (λ k. WritesNow d k v) (now_here d charts j h v) in (
      λ alone. a.1 (b.1 (λ l slot w. alone s j l second writer slot w)),
      λ all i k l sec wr slot w. b.0 (a.0 all) l (subst (λ (n : ℕ). IsSlot0 d (is_wide c) n l) (one k wr) slot) w,
    ))

-- no `<=` either
pub later_part : (d : Parts) (c : Claims) (charts : List Chart) (j v : ℕ) (x : Texts) → x ≡ texts_of d charts → (h : Here d charts j) →
    ((k : ℕ) → IsWriter d c v k → k ≡ j) → AllLater x v (λ k p. k ≡ j → p < places h.chart → InSlot0 (is_wide c) h.chart p → ⊥) → FirstAloneLater d c v
later_part d c charts j v x e h one all i k _ l sec point w wr slot u =
    let a = of_one d charts j h (λ t p. HasSignal (later_at t p) v) (λ p. p < places h.chart → InSlot0 (is_wide c) h.chart p → ⊥) in
    let b = never_slot0 d charts (is_wide c) j h (λ t p. HasSignal (later_at t p) v) (λ k. WritesLater d k v) (later_here d charts j h v) in
    b.0 (a.0 (subst (λ (x : Texts). AllLater x v (λ k p. k ≡ j → p < places h.chart → InSlot0 (is_wide c) h.chart p → ⊥)) e all)) l
    (subst (λ (n : ℕ). IsSlot0 d (is_wide c) n l) (one k wr) slot) u

-- where the second has none
pub no_later : (d : Parts) (c : Claims) (charts : List Chart) (s v : ℕ) (x : Texts) → x ≡ texts_of d charts → Here d charts s → ((k : ℕ) → IsSecond d c v k → k ≡ s) →
    AllLater x v (λ k p. k ≡ s → ⊥) → FirstAloneLater d c v
no_later d c charts s v x e h one all i j k l sec point w wr slot u =
    (never_later d charts s v x e h).0 all k (subst (λ (n : ℕ). IsPoint d n k) (one i sec) point) w

-- where it has one
pub some_later : (d : Parts) (c : Claims) (charts : List Chart) (s j v : ℕ) (x : Texts) → x ≡ texts_of d charts → (g : Here d charts s) (h : Here d charts j) → IsSecond d c v s → IsWriter d c v j →
    (AllLater x v (λ k p. k ≡ s → ⊥) → ⊥) → FirstAloneLater d c v → AllLater x v (λ k p. k ≡ j → p < places h.chart → InSlot0 (is_wide c) h.chart p → ⊥)
some_later d c charts s j v x e g h second writer not alone =
    let a = of_one d charts j h (λ t p. HasSignal (later_at t p) v) (λ p. p < places h.chart → InSlot0 (is_wide c) h.chart p → ⊥) in
    let b = never_slot0 d charts (is_wide c) j h (λ t p. HasSignal (later_at t p) v) (λ k. WritesLater d k v) (later_here d charts j h v) in
    subst (λ (x : Texts). AllLater x v (λ k p. k ≡ j → p < places h.chart → InSlot0 (is_wide c) h.chart p → ⊥)) (sym e)
    (a.1 (b.1 (λ l slot u. not ((never_later d charts s v x e g).1 (λ k point w. alone s j k l second point w writer slot u)))))

-- ---- rows

pub with_part : (A B X : Type 0) → A → (b : Bool) → (IsTrue b ↔ X) → (X ↔ B) → (IsTrue b ↔ (A × B))
with_part A B X a b f g = (λ h. (a, g.0 (f.0 h)), λ y. f.1 (g.1 y.1))

-- who writes is named
pub named_as : (S A B : ℕ → Type 0) (writer second : Option ℕ) → ((i : ℕ) → (A i ↔ writer ≡ Some i)) → ((i : ℕ) → (B i ↔ second ≡ Some i)) → (b : Bool) →
    (IsTrue b ↔ ((i : ℕ) → S i → (writer ≡ Some i) ⊎ (second ≡ Some i))) → (IsTrue b ↔ ((i : ℕ) → S i → A i ⊎ B i))
named_as S A B writer second is_writer is_second b f = (
  λ h i s. elim (f.0 h i s) [ inl x ↦ inl ((is_writer i).1 x) | inr y ↦ inr ((is_second i).1 y) ],
  λ all. f.1 (λ i s. elim (all i s) [ inl x ↦ inl ((is_writer i).0 x) | inr y ↦ inr ((is_second i).0 y) ]),
)

-- who writes is no block
pub blocks_as : (S B C : ℕ → Type 0) (second : ℕ) → C second → (b : Bool) → (IsTrue b ↔ ((j : ℕ) → S j → B j → ⊥)) → (IsTrue b ↔ ((i j : ℕ) → C i → B j → S j → ⊥))
blocks_as S B C second is b f = (λ h i j second block s. f.0 h j s block, λ all. f.1 (λ j s block. all second j is block s))
