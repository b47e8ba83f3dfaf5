-- What stays linked where a node comes or goes.
use mathlib.Core.Path.{◌≡◌, refl}
use mathlib.Core.Logic.{∥∥₁_elim}
use mathlib.Core.List.{List, [], ◌∷◌, ◌++◌}
use base.Stored.{Coded-set}
use denote.RawPtr.{Ptr, coded_ptr}
use Rattle.vs_time_wheel.specs.Links.{Link, LeadsOn, IsChained}

LeadsOn-prop : (l : Link) (t : Ptr) (ls : List Link) → IsProp (LeadsOn l t ls)
LeadsOn-prop l t [] = Coded-set coded_ptr t l.0
LeadsOn-prop l t (m ∷ ls) = λ p q i. (Coded-set coded_ptr l.1 m.0 p.0 q.0 i, LeadsOn-prop m t ls p.1 q.1 i)

IsChained-prop : (h t : Ptr) (ls : List Link) → IsProp (IsChained h t ls)
IsChained-prop h t [] = λ p q. refl
IsChained-prop h t (l ∷ ls) = λ p q i. (Coded-set coded_ptr h l.0 p.0 q.0 i, LeadsOn-prop l t ls p.1 q.1 i)

pub IsChained-had : (h t : Ptr) (ls : List Link) → ∥ IsChained h t ls ∥₁ → IsChained h t ls
IsChained-had h t ls c = ∥∥₁_elim c (IsChained-prop h t ls) (λ p. p)

-- ---- at the front
pub IsChained-tail : (h t : Ptr) (l : Link) (ls : List Link) → IsChained h t (l ∷ ls) → IsChained l.1 t ls
IsChained-tail h t l [] c = tt
IsChained-tail h t l (m ∷ ls) c = c.1

-- ---- at the back
LeadsOn-init : (k : Link) (t : Ptr) (ls : List Link) (l : Link) → LeadsOn k t (ls ++ l ∷ []) → t ≡ l.0
LeadsOn-init k t [] l c = c.1
LeadsOn-init k t (m ∷ ls) l c = LeadsOn-init m t ls l c.1

pub IsChained-init : (h t : Ptr) (ls : List Link) (l : Link) → IsChained h t (ls ++ l ∷ []) → t ≡ l.0
IsChained-init h t [] l c = c.1
IsChained-init h t (m ∷ ls) l c = LeadsOn-init m t ls l c.1

-- a node at p comes behind the last
LeadsOn-join : (k : Link) (t p n : Ptr) (ls : List Link) (l : Link) → LeadsOn k t (ls ++ l ∷ []) → LeadsOn k p ((ls ++ (l.0, p) ∷ []) ++ (p, n) ∷ [])
LeadsOn-join k t p n [] l c = (c.0, (refl, refl))
LeadsOn-join k t p n (m ∷ ls) l c = (c.0, LeadsOn-join m t p n ls l c.1)

pub IsChained-join : (h t p n : Ptr) (ls : List Link) (l : Link) → IsChained h t (ls ++ l ∷ []) → IsChained h p ((ls ++ (l.0, p) ∷ []) ++ (p, n) ∷ [])
IsChained-join h t p n [] l c = (c.0, (refl, refl))
IsChained-join h t p n (m ∷ ls) l c = (c.0, LeadsOn-join m t p n ls l c.1)
