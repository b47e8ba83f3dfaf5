-- Stores behind updates.
pub use Rattle.vs_process.specs.BlockDrivers.{put_active}
use Rattle.std.proofs.Common.{not, Bool, ◌≡◌, ℕ, true, false, List, [], ◌∷◌, map, filter, cond, slice_get, refl, sym, ◌∙◌, ap, inl, inr}
use Rattle.std.proofs.lemmas.Bool.{cases_Bool}
use Rattle.vs_design.specs.Stores.{Store, put}
use Rattle.vs_design.specs.Writes.{Write, names}
use Rattle.vs_process.specs.States.{Update, activated}
use Rattle.vs_process.proofs.Stores.{put_other, put_local}

-- two writes of which one names a signal at most leave it the same in either order
pub put_swap : (store : Store) (w u : Write) (v : ℕ) → ((names w v ≡ true) → names u v ≡ false) → slice_get (put (put store w) u) v ≡ slice_get (put (put store u) w) v
put_swap store w u v h =
    elim (cases_Bool (names w v)) [
      | inl hit ↦ put_other (put store w) u v (h hit) ∙ put_local store (put store u) w v (sym (put_other store u v (h hit)))
      | inr miss ↦ put_local (put store w) store u v (put_other store w v miss) ∙ sym (put_other (put store u) w v miss)
    ]

-- a write that names a signal at all
abbrev pub names_some : Write → Bool
names_some [] = false
names_some (p ∷ ps) = true

pub put_active_local : (a b : Store) (us : List Update) (v : ℕ) → slice_get a v ≡ slice_get b v → slice_get (put_active a us) v ≡ slice_get (put_active b us) v
put_active_local a b [] v h = h
put_active_local a b (u ∷ us) v h = put_active_local (cond u.active (put a u.what) a) (cond u.active (put b u.what) b) us v (at_head u.active)
  where
    at_head : (t : Bool) → slice_get (cond t (put a u.what) a) v ≡ slice_get (cond t (put b u.what) b) v
    at_head true = put_local a b u.what v h
    at_head false = h

-- the updates that name a signal
abbrev pub by : ℕ → List Update → List Update
by v us = filter (λ (u : Update). names u.what v) us

-- a signal behind updates depends on those that name it
pub put_active_by : (store : Store) (us : List Update) (v : ℕ) → slice_get (put_active store us) v ≡ slice_get (put_active store (by v us)) v
put_active_by store [] v = refl
put_active_by store (u ∷ us) v =
    elim (cases_Bool (names u.what v)) [
      | inl hit ↦ put_active_by (cond u.active (put store u.what) store) us v ∙ ap (λ b. slice_get (put_active store (cond b (u ∷ by v us) (by v us))) v) (sym hit)
      | inr miss ↦ put_active_by (cond u.active (put store u.what) store) us v ∙ put_active_local (cond u.active (put store u.what) store) store (by v us) v (unnamed miss u.active)
          ∙ ap (λ b. slice_get (put_active store (cond b (u ∷ by v us) (by v us))) v) (sym miss)
    ]
  where
    unnamed : names u.what v ≡ false → (t : Bool) → slice_get (cond t (put store u.what) store) v ≡ slice_get store v
    unnamed miss true = put_other store u.what v miss
    unnamed miss false = refl

-- those that are not activated
abbrev pub left : List Update → List Update
left us = filter (λ (u : Update). not u.active) us

pub filter_hit : {A : Type 0} (p : A → Bool) (x : A) (xs : List A) → p x ≡ true → filter p (x ∷ xs) ≡ x ∷ filter p xs
filter_hit p x xs h = ap (λ b. cond b (x ∷ filter p xs) (filter p xs)) h

pub filter_miss : {A : Type 0} (p : A → Bool) (x : A) (xs : List A) → p x ≡ false → filter p (x ∷ xs) ≡ filter p xs
filter_miss p x xs h = ap (λ b. cond b (x ∷ filter p xs) (filter p xs)) h

filter_comm : {A : Type 0} (p q : A → Bool) (xs : List A) → filter p (filter q xs) ≡ filter q (filter p xs)
filter_comm p q [] = refl
filter_comm p q (x ∷ xs) =
    elim (cases_Bool (p x)) [
      | inl hp ↦ elim (cases_Bool (q x)) [
        | inl hq ↦ ap (filter p) (filter_hit q x xs hq) ∙ filter_hit p x (filter q xs) hp ∙ ap (λ l. x ∷ l) (filter_comm p q xs) ∙ sym (filter_hit q x (filter p xs) hq) ∙ sym (ap (filter q) (filter_hit p x xs hp))
        | inr mq ↦ ap (filter p) (filter_miss q x xs mq) ∙ filter_comm p q xs ∙ sym (filter_miss q x (filter p xs) mq) ∙ sym (ap (filter q) (filter_hit p x xs hp))
      ]
      | inr mp ↦ elim (cases_Bool (q x)) [
        | inl hq ↦ ap (filter p) (filter_hit q x xs hq) ∙ filter_miss p x (filter q xs) mp ∙ filter_comm p q xs ∙ sym (ap (filter q) (filter_miss p x xs mp))
        | inr mq ↦ ap (filter p) (filter_miss q x xs mq) ∙ filter_comm p q xs ∙ sym (ap (filter q) (filter_miss p x xs mp))
      ]
    ]

pub by-left : (us : List Update) (v : ℕ) → by v (left us) ≡ left (by v us)
by-left us v = filter_comm (λ (u : Update). names u.what v) (λ (u : Update). not u.active) us

pub by-activated : (time : ℕ) (us : List Update) (v : ℕ) → by v (map (activated time) us) ≡ map (activated time) (by v us)
by-activated time [] v = refl
by-activated time (u ∷ us) v =
    elim (cases_Bool (names u.what v)) [
      | inl hit ↦ ap (λ b. cond b (activated time u ∷ by v (map (activated time) us)) (by v (map (activated time) us))) hit ∙ ap (λ l. activated time u ∷ l) (by-activated time us v)
          ∙ ap (λ b. map (activated time) (cond b (u ∷ by v us) (by v us))) (sym hit)
      | inr miss ↦ ap (λ b. cond b (activated time u ∷ by v (map (activated time) us)) (by v (map (activated time) us))) miss ∙ by-activated time us v
          ∙ ap (λ b. map (activated time) (cond b (u ∷ by v us) (by v us))) (sym miss)
    ]
