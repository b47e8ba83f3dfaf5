-- Activated updates by their number, and activation.
use Rattle.std.proofs.Common.{◌≡◌, ◌≢◌, ℕ, zero, suc, ◌+◌, ◌<◌, ◌≤◌, ◌&&◌, ◌||◌, not, Bool, true, false, cond, Option, Some, None, List, [], ◌∷◌, ◌++◌, map, length, get_or, take, drop, filter, slice_get, refl, sym, ◌∙◌, ap, inl, inr, arith}
use Rattle.std.specs.Prelude.{nat_eq, option_map, IfSome}
use Rattle.std.specs.List.{list_any, remove}
use Rattle.std.proofs.lemmas.List.{append-nil, drop_all, get_or-take, length-take, take_all}
use Rattle.std.proofs.lemmas.List.Folds.{list_any_at, list_any_more}
use Rattle.std.proofs.lemmas.Bool.{ne_eqb, eqb-true, cases_eq, false≢true}
use Rattle.std.proofs.lemmas.Option.{slice_get_read}
use Rattle.vs_design.specs.declared.write.Part.{Part}
use Rattle.vs_design.specs.Writes.{shares}
use Rattle.vs_process.specs.Executions.{if_some, is_first}
use Rattle.vs_process.specs.States.{Update, without, is_due, activated}
use Rattle.vs_run_regions.specs.Active.{is_active, place_of_active}
use Rattle.vs_design.specs.vs_logic4.proofs.Basics.{filter_some as any_none}
use Rattle.std.proofs.lemmas.Bool.{and_right as away}
use Rattle.vs_design.specs.vs_logic4.proofs.Basics.{and_right, left_false as left_any, or_false as kept_flag, past_end as past, right_false as right_any}

-- ---- the update at the place
get_here : (c : Bool) (u : Update) (us fs : List Update) (n : ℕ) → slice_get us n ≡ slice_get fs 0 → slice_get (u ∷ us) (cond c 0 (suc n)) ≡ slice_get (cond c (u ∷ fs) fs) 0
get_here true u us fs n h = refl
get_here false u us fs n h = h

get_later : (c : Bool) (u : Update) (us fs : List Update) (k m n : ℕ) → slice_get us m ≡ slice_get fs k → slice_get us n ≡ slice_get fs (suc k) → slice_get us (cond c m n) ≡ slice_get (cond c (u ∷ fs) fs) (suc k)
get_later true u us fs k m n g h = g
get_later false u us fs k m n g h = h

pub place-get : (k : ℕ) (us : List Update) → slice_get us (place_of_active k us) ≡ slice_get (filter is_active us) k
place-get zero [] = refl
place-get (suc k) [] = refl
place-get zero (u ∷ us) = get_here u.active u us (filter is_active us) (place_of_active zero us) (place-get zero us)
place-get (suc k) (u ∷ us) = get_later u.active u us (filter is_active us) k (place_of_active k us) (place_of_active (suc k) us) (place-get k us) (place-get (suc k) us)

-- ---- those before it
-- whether an update is activated and hides a newer one
abbrev pub hides : Update → Update → Bool
hides newer older = older.active && shares older.what newer.what

none_here : (a s : Bool) (x y : Bool) → a ≡ false → x ≡ y → ((a && s) || x) ≡ y
none_here true s x y a h = cc
none_here false s x y a h = h

before_here : (c : Bool) (v u : Update) (us fs : List Update) (n : ℕ) → u.active ≡ c → list_any (hides v) (take n us) ≡ false → list_any (hides v) (take (cond c 0 (suc n)) (u ∷ us)) ≡ false
before_here true v u us fs n e h = refl
before_here false v u us fs n e h = none_here u.active (shares u.what v.what) (list_any (hides v) (take n us)) false e h

before_later : (c : Bool) (v u : Update) (us fs : List Update) (k m n : ℕ) → u.active ≡ c → list_any (hides v) (take m us) ≡ list_any (hides v) (take k fs) → list_any (hides v) (take n us) ≡ list_any (hides v) (take (suc k) fs) →
    list_any (hides v) (take (suc (cond c m n)) (u ∷ us)) ≡ list_any (hides v) (take (suc k) (cond c (u ∷ fs) fs))
before_later true v u us fs k m n e g h = ap (λ b. hides v u || b) g
before_later false v u us fs k m n e g h = none_here u.active (shares u.what v.what) (list_any (hides v) (take n us)) (list_any (hides v) (take (suc k) fs)) e h

pub place-before : (v : Update) (k : ℕ) (us : List Update) → list_any (hides v) (take (place_of_active k us) us) ≡ list_any (hides v) (take k (filter is_active us))
place-before v zero [] = refl
place-before v (suc k) [] = refl
place-before v zero (u ∷ us) = before_here u.active v u us (filter is_active us) (place_of_active zero us) refl (place-before v zero us)
place-before v (suc k) (u ∷ us) = before_later u.active v u us (filter is_active us) k (place_of_active k us) (place_of_active (suc k) us) refl (place-before v k us) (place-before v (suc k) us)

first_by : (us fs : List Update) (n k : ℕ) (o : Option Update) → ((v : Update) → list_any (hides v) (take n us) ≡ list_any (hides v) (take k fs)) → if_some (is_first us n) o ≡ if_some (is_first fs k) o
first_by us fs n k None h = refl
first_by us fs n k (Some v) h = ap (λ b. v.active && not b) (h v)

-- the update of a number is the first of its signals among all where it is so among the activated ones
pub place-first : (k : ℕ) (us : List Update) → if_some (is_first us (place_of_active k us)) (slice_get us (place_of_active k us)) ≡ if_some (is_first (filter is_active us) k) (slice_get (filter is_active us) k)
place-first k us =
    ap (if_some (is_first us (place_of_active k us))) (place-get k us)
    ∙ first_by us (filter is_active us) (place_of_active k us) k (slice_get (filter is_active us) k) (λ v. place-before v k us)

oldest_by : (c : Bool) (u : Update) (us : List Update) → u.active ≡ c → (filter is_active us ≢ [] → if_some (is_first (filter is_active us) 0) (slice_get (filter is_active us) 0) ≡ true) →
    cond c (u ∷ filter is_active us) (filter is_active us) ≢ [] → if_some (is_first (cond c (u ∷ filter is_active us) (filter is_active us)) 0) (slice_get (cond c (u ∷ filter is_active us) (filter is_active us)) 0) ≡ true
oldest_by true u us e h some = ap (λ b. b && true) e
oldest_by false u us e h some = h some

-- the oldest activated one is
pub oldest-first : (us : List Update) → filter is_active us ≢ [] → if_some (is_first (filter is_active us) 0) (slice_get (filter is_active us) 0) ≡ true
oldest-first [] some = absurd (some refl)
oldest-first (u ∷ us) some = oldest_by u.active u us refl (oldest-first us) some

-- ---- a look at the older ones
at_update : (us : List Update) (i : ℕ) (u : Update) → slice_get us i ≡ Some u → if_some (is_first us i) (slice_get us i) ≡ is_first us i u
at_update us i u here = ap (if_some (is_first us i)) here

first_from : (a h : Bool) → a ≡ true → h ≡ false → (a && not h) ≡ true
first_from true false p q = refl
first_from _ _ p q = cc

later_from : (a h : Bool) → h ≡ true → (a && not h) ≡ false
later_from true true q = refl
later_from false true q = refl
later_from _ _ q = cc

-- an update that no older one hides is the first of its signals
pub shown_is_first : (us : List Update) (i k : ℕ) (u : Update) → slice_get us i ≡ Some u → u.active ≡ true → k ≡ i → list_any (hides u) (take k us) ≡ false →
    true ≡ if_some (is_first us i) (slice_get us i)
shown_is_first us i k u here active e none =
    sym (at_update us i u here ∙ first_from u.active (list_any (hides u) (take i us)) active (ap (λ n. list_any (hides u) (take n us)) (sym e) ∙ none))

-- an update that an older one hides isn't
pub hidden_is_later : (us : List Update) (i k : ℕ) (u o : Update) → slice_get us i ≡ Some u → k < i → k < length us → o ≡ get_or us k o → hides u o ≡ true →
    false ≡ if_some (is_first us i) (slice_get us i)
hidden_is_later us i k u o here below within is h =
    let inside : k < length (take i us) = omega (arith, length-take i us) in
    let found : hides u (get_or (take i us) k o) ≡ true = ap (hides u) (get_or-take i us k o below ∙ sym is) ∙ h in
    sym (at_update us i u here ∙ later_from u.active (list_any (hides u) (take i us)) (list_any_at (hides u) (take i us) k o inside found))

-- what the update at a number writes, where that is one part
pub part_there : (us : List Update) (i : ℕ) (u : Update) (r : Option Part) → slice_get us i ≡ Some u → IfSome r (λ p. u.what ≡ p ∷ []) →
    IfSome r (λ p. option_map (λ (v : Update). v.what) (slice_get us i) ≡ Some (p ∷ []))
part_there us i u None here is = tt
part_there us i u (Some p) here is = ap (option_map (λ (v : Update). v.what)) here ∙ ap Some is

-- an update that isn't activated isn't either
pub still_is_none : (us : List Update) (i : ℕ) (u : Update) → slice_get us i ≡ Some u → u.active ≡ false → false ≡ if_some (is_first us i) (slice_get us i)
still_is_none us i u here still = sym (at_update us i u here ∙ ap (λ b. b && not (list_any (hides u) (take i us))) still)

-- one older one more that doesn't hide it
pub shown_more : (us : List Update) (k : ℕ) (u o : Update) → k < length us → o ≡ get_or us k o → list_any (hides u) (take k us) ≡ false → hides u o ≡ false →
    list_any (hides u) (take (k + 1) us) ≡ false
shown_more us k u o within is none shown =
    list_any_more (hides u) us k o within ∙ ap (λ b. b || hides u (get_or us k o)) none ∙ ap (hides u) (sym is) ∙ shown

-- ---- the list without it
pub without-remove : {A : Type 0} (xs : List A) (i : ℕ) → without i xs ≡ remove xs i
without-remove [] zero = refl
without-remove [] (suc i) = refl
without-remove (x ∷ xs) zero = refl
without-remove (x ∷ xs) (suc i) = ap (λ rest. x ∷ rest) (without-remove xs i)

left_here : (c : Bool) (u : Update) (us fs : List Update) (n : ℕ) → u.active ≡ c → filter is_active us ≡ fs → filter is_active (without n us) ≡ without 0 fs → filter is_active (without (cond c 0 (suc n)) (u ∷ us)) ≡ without 0 (cond c (u ∷ fs) fs)
left_here true u us fs n e f h = f
left_here false u us fs n e f h = ap (λ b. cond b (u ∷ filter is_active (without n us)) (filter is_active (without n us))) e ∙ h

left_later : (c : Bool) (u : Update) (us fs : List Update) (k m n : ℕ) → u.active ≡ c → filter is_active (without m us) ≡ without k fs → filter is_active (without n us) ≡ without (suc k) fs →
    filter is_active (without (suc (cond c m n)) (u ∷ us)) ≡ without (suc k) (cond c (u ∷ fs) fs)
left_later true u us fs k m n e g h = ap (λ b. cond b (u ∷ filter is_active (without m us)) (filter is_active (without m us))) e ∙ ap (λ l. u ∷ l) g
left_later false u us fs k m n e g h = ap (λ b. cond b (u ∷ filter is_active (without n us)) (filter is_active (without n us))) e ∙ h

pub place-left : (k : ℕ) (us : List Update) → filter is_active (without (place_of_active k us) us) ≡ without k (filter is_active us)
place-left zero [] = refl
place-left (suc k) [] = refl
place-left zero (u ∷ us) = left_here u.active u us (filter is_active us) (place_of_active zero us) refl refl (place-left zero us)
place-left (suc k) (u ∷ us) = left_later u.active u us (filter is_active us) k (place_of_active k us) (place_of_active (suc k) us) refl (place-left k us) (place-left (suc k) us)

gone_by : (p : Update → Bool) (c : Bool) (u : Update) (us : List Update) (n : ℕ) → (c ≡ true → p u ≡ false) → filter p (without n us) ≡ filter p us → filter p (without (cond c 0 (suc n)) (u ∷ us)) ≡ cond (p u) (u ∷ filter p us) (filter p us)
gone_by p true u us n f h = sym (ap (λ b. cond b (u ∷ filter p us) (filter p us)) (f refl))
gone_by p false u us n f h = ap (λ l. cond (p u) (u ∷ l) l) h

gone_later : (p : Update → Bool) (c : Bool) (us : List Update) (m n : ℕ) → filter p (without m us) ≡ filter p us → filter p (without n us) ≡ filter p us → filter p (without (cond c m n) us) ≡ filter p us
gone_later p true us m n g h = g
gone_later p false us m n g h = h

-- the others are as before
pub place-others : (p : Update → Bool) → ((u : Update) → u.active ≡ true → p u ≡ false) → (k : ℕ) (us : List Update) → filter p (without (place_of_active k us) us) ≡ filter p us
place-others p f zero [] = refl
place-others p f (suc k) [] = refl
place-others p f zero (u ∷ us) = gone_by p u.active u us (place_of_active zero us) (f u) (place-others p f zero us)
place-others p f (suc k) (u ∷ us) =
    ap (λ l. cond (p u) (u ∷ l) l) (gone_later p u.active us (place_of_active k us) (place_of_active (suc k) us) (place-others p f k us) (place-others p f (suc k) us))

pub active_not_due : (t : ℕ) (u : Update) → u.active ≡ true → is_due t u ≡ false
active_not_due t u e = ap (λ b. not b && nat_eq u.due t) e

pub none_without : {A : Type 0} (xs : List A) (i : ℕ) → slice_get xs i ≡ None → without i xs ≡ xs
none_without [] i h = refl
none_without (x ∷ xs) zero h = cc
none_without (x ∷ xs) (suc i) h = ap (λ rest. x ∷ rest) (none_without xs i h)

-- ---- activation
is_now : (time : ℕ) (u : Update) → u.active ≡ false → is_active (activated time u) ≡ is_due time u
is_now time u e = ap (λ b. b || nat_eq u.due time) e ∙ sym (ap (λ b. not b && nat_eq u.due time) e)

now_by : (time : ℕ) (u : Update) (c d : Bool) (ls bs : List Update) → c ≡ d → ls ≡ map (activated time) bs → cond c (activated time u ∷ ls) ls ≡ map (activated time) (cond d (u ∷ bs) bs)
now_by time u true true ls bs e h = ap (λ l. activated time u ∷ l) h
now_by time u false false ls bs e h = h
now_by time u true false ls bs e h = cc
now_by time u false true ls bs e h = cc

pub activated_ones : (time : ℕ) (us : List Update) → list_any is_active us ≡ false → filter is_active (map (activated time) us) ≡ map (activated time) (filter (is_due time) us)
activated_ones time [] none = refl
activated_ones time (u ∷ us) none =
    now_by time u (is_active (activated time u)) (is_due time u) (filter is_active (map (activated time) us)) (filter (is_due time) us)
    (is_now time u (left_any u.active (list_any is_active us) none)) (activated_ones time us (right_any u.active (list_any is_active us) none))

not_now : (a c : Bool) → (not (a || c) && c) ≡ false
not_now true c = refl
not_now false true = refl
not_now false false = refl

pub activated_due : (time : ℕ) (us : List Update) → filter (is_due time) (map (activated time) us) ≡ []
activated_due time [] = refl
activated_due time (u ∷ us) =
    ap (λ b. cond b (activated time u ∷ filter (is_due time) (map (activated time) us)) (filter (is_due time) (map (activated time) us))) (not_now u.active (nat_eq u.due time)) ∙ activated_due time us

same_by : (p : Update → Bool) (u v : Update) (ls bs : List Update) → p v ≡ p u → (p u ≡ true → v ≡ u) → ls ≡ bs → cond (p v) (v ∷ ls) ls ≡ cond (p u) (u ∷ bs) bs
same_by p u v ls bs e f h = ap (λ b. cond b (v ∷ ls) ls) e ∙ by_test (p u) f
  where
    by_test : (c : Bool) → (c ≡ true → v ≡ u) → cond c (v ∷ ls) ls ≡ cond c (u ∷ bs) bs
    by_test true f = ap (λ w. w ∷ ls) (f refl) ∙ ap (λ l. u ∷ l) h
    by_test false f = h

later_same : (time t : ℕ) (u : Update) → time ≢ t → is_due t u ≡ true → activated time u ≡ u
later_same time t u apart h =
    let due : u.due ≡ t = eqb-true u.due t (and_right (not u.active) (nat_eq u.due t) h) in
    ap (λ (b : Bool). record u { active = b }) (kept_flag u.active (nat_eq u.due time) (ne_eqb u.due time (λ e. apart (sym e ∙ due))))

later_test : (time t : ℕ) (u : Update) → time ≢ t → is_due t (activated time u) ≡ is_due t u
later_test time t u apart = elim (cases_eq u.due time) [
  | inl here ↦
      let off : nat_eq u.due t ≡ false = ne_eqb u.due t (λ e. apart (sym here ∙ e)) in
      away (not (u.active || nat_eq u.due time)) (nat_eq u.due t) off ∙ sym (away (not u.active) (nat_eq u.due t) off)
  | inr other ↦ ap (λ b. not b && nat_eq u.due t) (kept_flag u.active (nat_eq u.due time) (ne_eqb u.due time other))
]

pub activated_later : (time t : ℕ) (us : List Update) → time ≢ t → filter (is_due t) (map (activated time) us) ≡ filter (is_due t) us
activated_later time t [] apart = refl
activated_later time t (u ∷ us) apart =
    same_by (is_due t) u (activated time u) (filter (is_due t) (map (activated time) us)) (filter (is_due t) us) (later_test time t u apart) (later_same time t u apart) (activated_later time t us apart)

-- all updates, where so many are all
pub activated_all : (time n : ℕ) (us vs : List Update) → length us ≤ n → vs ≡ map (activated time) (take n us) ++ drop n us → vs ≡ map (activated time) us
activated_all time n us vs all is =
    is ∙ ap (λ l. map (activated time) l ++ drop n us) (take_all n us all) ∙ ap (λ l. map (activated time) us ++ l) (drop_all n us all) ∙ append-nil (map (activated time) us)

-- ---- the first
pub first_there : (us : List Update) → list_any is_active us ≡ true → if_some (is_first us (place_of_active 0 us)) (slice_get us (place_of_active 0 us)) ≡ true
first_there us some = place-first 0 us ∙ oldest-first us (λ none. let no : list_any is_active us ≡ false = any_none is_active us none in false≢true (sym no ∙ some))

pub first_among : (us xs : List Update) (k : ℕ) → filter is_active us ≡ xs → if_some (is_first xs k) (slice_get xs k) ≡ if_some (is_first us (place_of_active k us)) (slice_get us (place_of_active k us))
first_among us xs k e = sym (place-first k us ∙ ap (λ l. if_some (is_first l k) (slice_get l k)) e)

-- ---- taken out by number

-- past the end there is none that is the first of its signals
pub past_is_none : (us : List Update) (i : ℕ) → (i < length us → false ≡ true) → false ≡ if_some (is_first us i) (slice_get us i)
past_is_none us i within = sym (ap (if_some (is_first us i)) (past us i (λ below. false≢true (within below))))

pub none_at : (us xs : List Update) (k : ℕ) → filter is_active us ≡ xs → (k < length xs → ⊥) → slice_get us (place_of_active k us) ≡ None
none_at us xs k e h = place-get k us ∙ ap (λ l. slice_get l k) e ∙ past xs k h

pub some_at : (us xs : List Update) (k : ℕ) (u : Update) → filter is_active us ≡ xs → k < length xs → u ≡ get_or xs k u → Some u ≡ slice_get us (place_of_active k us)
some_at us xs k u e within is = sym (place-get k us ∙ ap (λ l. slice_get l k) e ∙ slice_get_read xs (length xs) k u refl within is)
