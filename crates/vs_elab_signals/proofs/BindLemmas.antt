-- Names of a scope, each bound once.
use Rattle.std.proofs.Common.{◌≡◌, ℕ, zero, suc, ◌+◌, ◌<◌, ◌||◌, Bool, true, false, cond, List, [], ◌∷◌, ◌++◌, Some, None, IsSome, is_some, length, map, get_or, slice_get, refl, ap, sym, subst, ◌∙◌, append_assoc, arith, true≢false}
use Rattle.std.specs.List.{list_any, IsDistinct}
use Rattle.std.specs.Str.{bytes_eq}
use Rattle.std.specs.Cmp.{IsEquivalence}
use Rattle.std.proofs.lemmas.List.{map-append}
use Rattle.std.proofs.lemmas.Option.{none-some}
use Rattle.std.proofs.lemmas.Slice.Eq.{bytes_eq-Decides}
use Rattle.std.proofs.lemmas.Map.Keys.{IsDistinct-push}
use Rattle.vs_scopes.specs.vs_widths.specs.declared.bindings.Binding.{Binding}
use Rattle.vs_scopes.specs.vs_widths.specs.declared.bindings.Binding.TheVariants as b
use Rattle.vs_elab_signals.specs.vs_widths.specs.Names.{meaning_of, by_bytes, Declares as NamesDeclare}
use Rattle.vs_scopes.specs.declared.faults.Reason.{Reason}
use Rattle.vs_scopes.specs.declared.faults.Reason.TheVariants.{NoModule, Inside, PortMismatch, ParameterMismatch, DeclaredTwice, DrivenTwice, Limit, Width, Endless, Unnamed, Timescales, Format}
use Rattle.vs_scopes.specs.declared.faults.ElabFault.{ElabFault}
use Rattle.vs_scopes.specs.Printed.{plainly, Path}
use Rattle.vs_scopes.specs.Declarations.{Bindings, DeclaredName, names_in, meaning_as, bound_to}
use Rattle.vs_scopes.specs.Scopes.{keys, constant_names, numbered_names}
use Rattle.vs_scopes.specs.scopes_passes.Answers.{IsReported, IsFaultAt}
use Rattle.vs_elab_signals.specs.ScopeFaults.{Repeated}
use Rattle.vs_scopes.specs.vs_widths.specs.declared.constants.Const.{Const}
use Rattle.std.specs.Borrow.{Bor}
use Rattle.vs_elab_signals.specs.signal_passes.Naming.{Bound, BoundAfter, BoundNot}
use Rattle.vs_scopes.specs.scopes_passes.Answers.{borrowed}
use Rattle.vs_scopes.proofs.AnswerLemmas.{told_at}
use Rattle.vs_design.specs.vs_logic4.proofs.Basics.{at_end, at_front, get_or_same, left_false, right_false}

pub bytes_eq_equiv : IsEquivalence bytes_eq
bytes_eq_equiv = record {
  refl = λ x. (bytes_eq-Decides x x).1 refl;
  symm = λ x y. symm x y (bytes_eq x y) (bytes_eq y x) refl refl;
  congr = λ x y z h. ap (λ w. bytes_eq w z) ((bytes_eq-Decides x y).0 h);
}
  where
    symm : (x y : List ℕ) (a b : Bool) → bytes_eq x y ≡ a → bytes_eq y x ≡ b → bytes_eq x y ≡ bytes_eq y x
    symm x y true b h k = h ∙ sym ((bytes_eq-Decides y x).1 (sym ((bytes_eq-Decides x y).0 h)))
    symm x y false true h k = absurd (true≢false (sym ((bytes_eq-Decides x y).1 (sym ((bytes_eq-Decides y x).0 k))) ∙ h))
    symm x y false false h k = h ∙ sym k

pub place_of_any : (ns : List (List ℕ)) (n : List ℕ) → list_any (bytes_eq n) ns ≡ true → (k : ℕ) × (slice_get ns k ≡ Some n)
place_of_any [] n h = absurd (true≢false (sym h))
place_of_any (m ∷ ms) n h = by (bytes_eq n m) refl (place_of_any ms n) h
  where
    by : (b : Bool) → bytes_eq n m ≡ b → (list_any (bytes_eq n) ms ≡ true → (k : ℕ) × (slice_get ms k ≡ Some n)) → (b || list_any (bytes_eq n) ms) ≡ true → (k : ℕ) × (slice_get (m ∷ ms) k ≡ Some n)
    by true e rest h = (0, ap Some (sym ((bytes_eq-Decides n m).0 e)))
    by false e rest h = let p = rest h in (suc p.0, p.1)

pub repeated_more : (xs ys : List (List ℕ)) (n : List ℕ) → Repeated xs n → Repeated (xs ++ ys) n
repeated_more xs ys n h = record { first = h.first; second = h.second; before = h.before; one = (at_front xs ys h.first n h.one).1; other = (at_front xs ys h.second n h.other).1 }

-- a name is among those that are bound where it means something
pub is_key : (bs : Bindings) (n : List ℕ) → is_some (meaning_of bs n) ≡ list_any (bytes_eq n) (keys bs)
is_key [] n = refl
is_key (x ∷ bs) n = by (bytes_eq n x.0) (is_key bs n)
  where
    by : (t : Bool) → is_some (meaning_of bs n) ≡ list_any (bytes_eq n) (keys bs) → is_some (cond t (Some x.1) (meaning_of bs n)) ≡ (t || list_any (bytes_eq n) (keys bs))
    by true rest = refl
    by false rest = rest

bound_key : (names bs : Bindings) (n : List ℕ) → Bound names bs → is_some (meaning_of names n) ≡ list_any (bytes_eq n) (keys bs)
bound_key names bs n h = ap is_some (h.means n) ∙ is_key bs n

pub keys_push : (bs : Bindings) (n : List ℕ) (v : Binding) → keys (bs ++ (n, v) ∷ []) ≡ keys bs ++ n ∷ []
keys_push bs n v = map-append (λ (x : List ℕ × Binding). x.0) bs ((n, v) ∷ [])

lookup_push : (bs : Bindings) (m : List ℕ) (v : Binding) (n : List ℕ) → list_any (bytes_eq m) (keys bs) ≡ false → meaning_of (bs ++ (m, v) ∷ []) n ≡ cond (bytes_eq m n) (Some v) (meaning_of bs n)
lookup_push [] m v n h = ap (λ t. cond t (Some v) None) (bytes_eq_equiv.symm n m)
lookup_push (x ∷ bs) m v n h =
    ap (cond (bytes_eq n x.0) (Some x.1)) (lookup_push bs m v n (right_false (bytes_eq m x.0) _ h)) ∙ swap (bytes_eq n x.0) (bytes_eq m n) refl refl
  where
    swap : (p q : Bool) → bytes_eq n x.0 ≡ p → bytes_eq m n ≡ q → cond p (Some x.1) (cond q (Some v) (meaning_of bs n)) ≡ cond q (Some v) (cond p (Some x.1) (meaning_of bs n))
    swap true true e f =
        let same : m ≡ x.0 = (bytes_eq-Decides m n).0 f ∙ (bytes_eq-Decides n x.0).0 e in
        absurd (true≢false (sym ((bytes_eq-Decides m x.0).1 same) ∙ left_false (bytes_eq m x.0) _ h))
    swap true false e f = refl
    swap false true e f = refl
    swap false false e f = refl

pub bound_none : (names : Bindings) → names ≡ [] → Bound names []
unfolding IsDistinct
bound_none names h = record { means = λ n. ap (λ (z : Bindings). meaning_of z n) h; distinct = tt }

pub bound_push : (names new bs : Bindings) (n : List ℕ) (v : Binding) → NamesDeclare true names new n v → Bound names bs → Bound new (bs ++ (n, v) ∷ [])
bound_push names new bs n v d h =
    let apart : list_any (bytes_eq n) (keys bs) ≡ false = sym (bound_key names bs n h) ∙ ap is_some d.0 in
    record {
      means = λ k. d.1 k ∙ ap (cond (bytes_eq n k) (Some v)) (h.means k) ∙ sym (lookup_push bs n v k apart);
      distinct = subst (IsDistinct bytes_eq) (sym (keys_push bs n v)) (IsDistinct-push bytes_eq_equiv (keys bs) n h.distinct apart);
    }

pub bound_twice : (names bs : Bindings) (n : List ℕ) → Bound names bs → IsSome (meaning_of names n) → Repeated (keys bs ++ n ∷ []) n
bound_twice names bs n h k =
    let first = place_of_any (keys bs) n (sym (bound_key names bs n h) ∙ k) in
    let front = at_front (keys bs) (n ∷ []) first.0 n first.1 in
    record { first = first.0; second = length (keys bs); before = front.0; one = front.1; other = at_end (keys bs) n }

-- ---- a pass over names

pub binds_push : (names new start done : Bindings) (n : List ℕ) (v : Binding) → NamesDeclare true names new n v → BoundAfter names start done → BoundAfter new start (done ++ (n, v) ∷ [])
binds_push names new start done n v d h = subst (Bound new) (append_assoc start done ((n, v) ∷ [])) (bound_push names new (start ++ done) n v d h)

pub binds_twice : (at : Path) (names start done : Bindings) (n : List ℕ) (v : Binding) (e : ElabFault) → IsFaultAt DeclaredTwice (at ++ plainly n ∷ []) e → IsSome (meaning_of names n) → BoundAfter names start done → IsReported (BoundNot at start (done ++ (n, v) ∷ [])) e
binds_twice at names start done n v e f k h =
    let twice = bound_twice names (start ++ done) n h k in
    let all : keys (start ++ done) ++ n ∷ [] ≡ keys (start ++ (done ++ (n, v) ∷ [])) = sym (keys_push (start ++ done) n v) ∙ ap keys (append_assoc start done ((n, v) ∷ [])) in
    told_at (BoundNot at start (done ++ (n, v) ∷ [])) DeclaredTwice (at ++ plainly n ∷ []) e (n, refl, subst (λ z. Repeated z n) all twice) f

pub bound_not_more : (at : Path) (start xs ys : Bindings) (r : Reason) (p : Path) → BoundNot at start xs r p → BoundNot at start (xs ++ ys) r p
bound_not_more at start xs ys DeclaredTwice p h =
    let all : keys (start ++ xs) ++ keys ys ≡ keys (start ++ (xs ++ ys)) = sym (map-append (λ (x : List ℕ × Binding). x.0) (start ++ xs) ys) ∙ ap keys (append_assoc start xs ys) in
    (h.0, h.1, subst (λ z. Repeated z h.0) all (repeated_more (keys (start ++ xs)) (keys ys) h.0 h.2))
bound_not_more at start xs ys NoModule p h = h
bound_not_more at start xs ys Inside p h = h
bound_not_more at start xs ys PortMismatch p h = h
bound_not_more at start xs ys ParameterMismatch p h = h
bound_not_more at start xs ys DrivenTwice p h = h
bound_not_more at start xs ys Limit p h = h
bound_not_more at start xs ys (Width w) p h = h
bound_not_more at start xs ys Endless p h = h
bound_not_more at start xs ys Unnamed p h = h
bound_not_more at start xs ys Timescales p h = h
bound_not_more at start xs ys (Format wrong) p h = h

-- ---- signals with their numbers

pub numbered_keys : (base : ℕ) (ds : List DeclaredName) → keys (numbered_names base ds) ≡ names_in ds
numbered_keys base [] = refl
numbered_keys base (d ∷ ds) = ap (λ z. d.name ∷ z) (numbered_keys (suc base) ds)

pub numbered_push : (base : ℕ) (ds : List DeclaredName) (d : DeclaredName) → numbered_names base (ds ++ d ∷ []) ≡ numbered_names base ds ++ (d.name, b.Signal (meaning_as d) (base + length ds)) ∷ []
numbered_push base [] d =
    let P : ℕ → Bindings = λ k. (d.name, b.Signal (meaning_as d) k) ∷ [] in
    let e : base ≡ base + 0 = omega arith in ap P e
numbered_push base (c ∷ ds) d =
    let Q : Bindings → Bindings = λ z. (c.name, b.Signal (meaning_as c) base) ∷ z in
    let P : ℕ → Bindings = λ k. Q (numbered_names (suc base) ds ++ (d.name, b.Signal (meaning_as d) k) ∷ []) in
    let e : suc base + length ds ≡ base + suc (length ds) = omega arith in
    ap Q (numbered_push (suc base) ds d) ∙ ap P e

-- ---- what borrowed names are bound to

abbrev pub alike_bind : Binding → Bor (List ℕ) → List ℕ × Binding
alike_bind v n = (n.now, v)

pub alikes_bind : (v : Binding) (ns : List (Bor (List ℕ))) → bound_to v (borrowed ns) ≡ map (alike_bind v) ns
alikes_bind v [] = refl
alikes_bind v (n ∷ ns) = ap (λ z. (n.now, v) ∷ z) (alikes_bind v ns)

abbrev pub constant_bind : Bor (List ℕ) × Const → List ℕ × Binding
constant_bind c = (c.0.now, b.Constant c.1)

pub constants_bind : (cs : List (Bor (List ℕ) × Const)) → constant_names (by_bytes cs) ≡ map constant_bind cs
constants_bind [] = refl
constants_bind (c ∷ cs) = ap (λ z. (c.0.now, b.Constant c.1) ∷ z) (constants_bind cs)
