-- Blocks that an update of the first slot wakes: what they are shown stays until the updates are activated.
use Rattle.vs_process.proofs.Fares.{fresh, unfed, fed, woken, inside, Fares, is_awake}
use Rattle.vs_process.specs.Places.{Todo, going, waiting, is_going, is_inactive, Place}
use Rattle.vs_process.specs.declared.gait.Gait.{Gait}
use Rattle.std.proofs.Common.{◌≡◌, ℕ, ◌||◌, ◌⊎◌, Bool, true, false, Option, Some, None, List, map, slice_get, slice_set, refl, sym, ◌∙◌, ap, subst, inl, inr, if◌then◌else◌}
use Rattle.vs_design.specs.Parts.{Parts}
use Rattle.vs_design.specs.Stores.{Store, put, start_store, is_changed, is_driven, changes_nothing, word_in}
use Rattle.vs_process.specs.BlockDrivers.{starter, Roles, IsCopy, Shows, itself, copied, StartsMoved, IsSource, outputs, puts_out, sizes, control, SameShown}
use Rattle.vs_design.specs.declared.design.Assign.{Assign}
use Rattle.vs_process.specs.States.{AssignState, evaluated, start_assign, touched, wakened, settled, start}
use Rattle.vs_process.proofs.Assigns.{driven, left_unchanged, AssignsSound, assign_driven, link_of}
use Rattle.vs_design.specs.declared.range.BitRange.{BitRange}
use Rattle.vs_design.specs.vs_logic4.specs.declared.digit.Digit.{Digit}
use Rattle.vs_process.specs.ThreadLaws.{LiesIn}
use Rattle.vs_independence.proofs.Moves.{OutputsUndriven}
use Rattle.vs_design.specs.declared.statement.Target.{Target}
use Rattle.vs_process.proofs.Texts.{Text}
use Rattle.vs_design.specs.Writes.{Write, names}
use Rattle.vs_process.proofs.ProcessLists.{map_cases, none_at, set_cases}
use Rattle.vs_design.specs.vs_logic4.proofs.Basics.{element_of as any_at, same_lists as same_gets}
use Rattle.vs_process.specs.vs_eval.specs.Targets.{assigned}
use Rattle.vs_process.proofs.Ranges.{assigned_names}
use Rattle.vs_process.specs.Steps.{assignment}
use Rattle.vs_process.proofs.ThreadAssigns.{assigns_after_write}
use Rattle.std.proofs.lemmas.Bool.{cases_Bool, false_from_ne_true, true≢false}
use Rattle.vs_independence.proofs.Awake.{changed_awake}
use Rattle.vs_process.proofs.ThreadLists.{contains_at}
use Rattle.vs_design.specs.Uses.{covers, writes_signal}
use Rattle.vs_process.specs.vs_eval.specs.Laws.{digit_in}
use Rattle.std.specs.List.{list_any}
use Rattle.vs_process.proofs.Stores.{put_other}
use Rattle.std.proofs.lemmas.Option.{same_Some}
use Rattle.vs_process.specs.Threads.{Thread, IsThread, store_after}
use Rattle.vs_process.specs.vs_eval.specs.Values.{target_value}
use Rattle.vs_process.proofs.Contents.{unchanged_covered}
use Rattle.vs_independence.proofs.BlocksAt.{place_after}

-- a process comes to a stop in the first slot
pub record Stops (d : Parts) (blocks : ℕ → Bool) (i : ℕ) : Type 0 where
  pub last : Thread
  pub is : IsThread d blocks (start d) i last
  pub going : is_going last.place ≡ false
  pub resting : is_inactive last.place ≡ false

-- a signal that shows what wakes such a block, where the process that updates it comes to a stop
pub record Shown (d : Parts) (roles : Roles) (n : ℕ) : Type 0 where
  pub block : ℕ
  pub is : roles.blocks block ≡ true
  pub start_is : roles.start block ≡ starter
  pub moved : StartsMoved d roles.blocks block
  pub shows : Shows d moved.root n
  pub stops : Stops d roles.blocks moved.writer

shown_copy : (d : Parts) (roles : Roles) (m n j : ℕ) (a : Assign) → Shown d roles m → IsCopy d m n j a → Shown d roles n
shown_copy d roles m n j a s copy = record { block = s.block; is = s.is; start_is = s.start_is; moved = s.moved; shows = copied m n j a s.shows copy; stops = s.stops }

pub record Level (d : Parts) (roles : Roles) (store : Store) (assigns : List AssignState) : Type 0 where
  pub same : (n : ℕ) → Shown d roles n → slice_get store n ≡ slice_get (start_store d) n
  pub quiet : (m n j : ℕ) (a : Assign) → Shown d roles m → IsCopy d m n j a → (x : AssignState) → slice_get assigns j ≡ Some x → x.pending ≡ None

pub level_start : (d : Parts) (roles : Roles) → Level d roles (start_store d) (map start_assign d.assigns)
level_start d roles = record {
  same = λ n s. refl;
  quiet = λ m n j a s copy x is. let c = map_cases start_assign d.assigns j x is in ap (λ (y : AssignState). y.pending) (sym c.2);
}

pub level_written : (d : Parts) (roles : Roles) (store : Store) (assigns : List AssignState) (w : Write) → ((n : ℕ) → Shown d roles n → names w n ≡ false) → Level d roles store assigns →
    Level d roles (put store w) (map (touched store (put store w)) assigns)
level_written d roles store assigns w free l = record {
  same = λ n s. put_other store w n (free n s) ∙ l.same n s;
  quiet = λ m n j a s copy x is. let c = map_cases (touched store (put store w)) assigns j x is in ap (λ (y : AssignState). y.pending) (sym c.2) ∙ l.quiet m n j a s copy c.0 c.1;
}

pub level_behind : (d : Parts) (roles : Roles) (store : Store) (assigns : List AssignState) (o : Option Write) → ((w : Write) → o ≡ Some w → (n : ℕ) → Shown d roles n → names w n ≡ false) → Level d roles store assigns →
    Level d roles (store_after store o) (assigns_after_write store o assigns)
level_behind d roles store assigns None free l = l
level_behind d roles store assigns (Some w) free l = level_written d roles store assigns w (free w refl) l

pub level_evaluated : (d : Parts) (roles : Roles) (store : Store) (time : ℕ) (assigns : List AssignState) → AssignsSound d store assigns → (j : ℕ) (x : AssignState) → slice_get assigns j ≡ Some x → Level d roles store assigns →
    Level d roles store (slice_set assigns j (evaluated store time x))
level_evaluated d roles store time assigns sound j x is l = record {
  same = l.same;
  quiet = λ m n k a s copy y at_k. elim (set_cases assigns j k x (evaluated store time x) y is at_k) [
    | inl own ↦ ap (λ (z : AssignState). z.pending) own.1 ∙ none_pending m n k a s copy own.0
    | inr other ↦ l.quiet m n k a s copy y other.1
  ];
}
  where
    none_pending : (m n k : ℕ) (a : Assign) → Shown d roles m → IsCopy d m n k a → k ≡ j → (evaluated store time x).pending ≡ None
    none_pending m n k a s copy e = ap (λ b. if b then None else Some (target_value x.target x.source store time)) nothing
      where
        c : (c : Assign) × (slice_get d.assigns j ≡ Some c) × (c.target ≡ x.target) × (c.source ≡ x.source)
        c = link_of d.assigns assigns j x sound.linked is

        same_assign : c.0 ≡ a
        same_assign = same_Some c.0 a (sym c.1 ∙ ap (slice_get d.assigns) (sym e) ∙ copy.is)

        w : Write
        w = assignment x.target x.source store time

        w_is : w ≡ assignment a.target a.source store time
        w_is = ap (λ t. assignment t x.source store time) (sym c.2) ∙ ap (λ q. assignment c.0.target q store time) (sym c.3) ∙ ap (λ (q : Assign). assignment q.target q.source store time) same_assign

        left : (v : ℕ) → slice_get (put store w) v ≡ slice_get store v
        left v =
            elim (cases_Bool (names w v)) [
              | inl hit ↦
                  let at_n : v ≡ n = copy.only v (sym (assigned_names a.target (target_value a.target a.source store time) store time v) ∙ ap (λ u. names u v) (sym w_is) ∙ hit) in
                  subst (λ u. slice_get (put store w) u ≡ slice_get store u) (sym at_n)
                  (ap (λ u. slice_get (put store u) n) w_is ∙ copy.copies store time sound.shaped ∙ l.same m s ∙ copy.alike ∙ sym (l.same n (shown_copy d roles m n k a s copy)))
              | inr miss ↦ put_other store w v miss
            ]

        nothing : changes_nothing store w ≡ true
        nothing = left_unchanged store w (same_gets (put store w) store left)

-- the update of an assignment names nothing of these
pub propagated_shown : (d : Parts) (roles : Roles) (store : Store) (time : ℕ) (assigns : List AssignState) → AssignsSound d store assigns → (j : ℕ) (x : AssignState) (digits : List Digit) → slice_get assigns j ≡ Some x → x.pending ≡ Some digits →
    Level d roles store assigns → (n : ℕ) → Shown d roles n → names (assigned x.target digits store time) n ≡ false
propagated_shown d roles store time assigns sound j x digits is waits l n s =
    assigned_names x.target digits store time n ∙ false_from_ne_true (writes_signal x.target n) (λ hit. by_shows s.shows hit)
  where
    by_shows : Shows d s.moved.root n → writes_signal x.target n ≡ true → ⊥
    by_shows (itself v e) hit = true≢false (sym (assign_driven d store assigns sound j x v is hit) ∙ ap (is_driven d.assigns) e ∙ s.moved.source.undriven)
    by_shows (copied m v k a shows copy) hit =
        let c = link_of d.assigns assigns j x sound.linked is in
        let same : j ≡ k = copy.alone j c.0 c.1 (ap (λ (t : Target). writes_signal t v) c.2 ∙ hit) in
        let none = l.quiet m v k a (record { block = s.block; is = s.is; start_is = s.start_is; moved = s.moved; shows = shows; stops = s.stops }) copy x (ap (slice_get assigns) (sym same) ∙ is) in
        let e : None ≡ Some digits = sym none ∙ waits in
        cc

pub level_settled : (d : Parts) (roles : Roles) (store : Store) (assigns : List AssignState) (j : ℕ) (x : AssignState) → slice_get assigns j ≡ Some x → Level d roles store assigns → Level d roles store (slice_set assigns j (settled x))
level_settled d roles store assigns j x is l = record {
  same = l.same;
  quiet = λ m n k a s copy y at_k. elim (set_cases assigns j k x (settled x) y is at_k) [
    | inl own ↦ ap (λ (z : AssignState). z.pending) own.1
    | inr other ↦ l.quiet m n k a s copy y other.1
  ];
}

-- a write of a process that is no block
pub source_shown : (d : Parts) (roles : Roles) (w : Write) → ((v : ℕ) → names w v ≡ true → IsSource d roles.blocks v) → ((n : ℕ) (s : Shown d roles n) → names w s.moved.root ≡ false) → (n : ℕ) → Shown d roles n → names w n ≡ false
source_shown d roles w sources roots n s = false_from_ne_true (names w n) (λ hit. by_shows s.shows hit)
  where
    by_shows : Shows d s.moved.root n → names w n ≡ true → ⊥
    by_shows (itself v e) hit = true≢false (sym hit ∙ ap (names w) e ∙ roots n s)
    by_shows (copied m v k a shows copy) hit = true≢false (sym (driven d.assigns k a v copy.is copy.into) ∙ (sources v hit).undriven)

-- a write of a block
pub block_shown : (d : Parts) (roles : Roles) → OutputsUndriven d roles.blocks → (k : ℕ) → roles.blocks k ≡ true → (w : Write) → LiesIn (outputs d k) w → (n : ℕ) → Shown d roles n → names w n ≡ false
block_shown d roles own k is w lies n s = lies.signals n (false_from_ne_true (puts_out d k n) (λ hit. by_shows s.shows hit))
  where
    by_shows : Shows d s.moved.root n → puts_out d k n ≡ true → ⊥
    by_shows (itself v e) hit = true≢false (sym hit ∙ ap (puts_out d k) e ∙ s.moved.source.unwritten k is)
    by_shows (copied m v j a shows copy) hit = true≢false (sym (driven d.assigns j a v copy.is copy.into) ∙ own k v is hit)

-- ---- once the updates are activated

abbrev pub SameBit : (d : Parts) (blocks : ℕ → Bool) (k : ℕ) → StartsMoved d blocks k → Store → Type 0
SameBit d blocks k m store = SameShown d k m.root store

pub bit_written : (d : Parts) (blocks : ℕ → Bool) (inputs : List BitRange) (k : ℕ) (t : Text d k) (m : StartsMoved d blocks k) (ran : Bool) (time : ℕ) (store : Store) (place : Place) (w : Write) → Fares d inputs k t true ran time store place →
    SameBit d blocks k m store → ((ran || is_awake (wakened store (put store w) place)) ≡ true) ⊎ SameBit d blocks k m (put store w)
bit_written d blocks inputs k t m ran time store place w f same =
    elim (cases_Bool (list_any (is_changed store (put store w)) (control d k))) [
      | inl hit ↦ let found = any_at (is_changed store (put store w)) (control d k) hit in
          inl (changed_awake d inputs k t true ran time store place w found.1 (contains_at (control d k) found.0 found.1 found.2) found.3 (λ e. true≢false e) f)
      | inr none ↦ inr (λ n v p shows named.
          let found = any_at (covers n v p) (control d k) named in
          sym (unchanged_covered store (put store w) found.1 n v p (none_at (is_changed store (put store w)) (control d k) found.0 found.1 found.2 none) found.3) ∙ same n v p shows named)
    ]

pub shifted_bit : (d : Parts) (blocks : ℕ → Bool) (inputs : List BitRange) (k : ℕ) (t : Text d k) (m : StartsMoved d blocks k) (ran : Bool) (time : ℕ) (store : Store) (place : Place) (o : Option Write) → Fares d inputs k t true ran time store place →
    SameBit d blocks k m store → ((ran || is_awake (place_after store o place)) ≡ true) ⊎ SameBit d blocks k m (store_after store o)
shifted_bit d blocks inputs k t m ran time store place None f same = inr same
shifted_bit d blocks inputs k t m ran time store place (Some w) f same = bit_written d blocks inputs k t m ran time store place w f same

-- a block that goes has been woken, behind the first quiet moment
pub goes_ran : (d : Parts) (inputs : List BitRange) (k : ℕ) (t : Text d k) (ran : Bool) (time : ℕ) (store : Store) (place : Place) (gait : Gait) (todo : Todo) → place ≡ going gait todo → Fares d inputs k t true ran time store place → ran ≡ true
goes_ran d inputs k t ran time store place gait todo at (fresh other is way same none first) = absurd (true≢false first)
goes_ran d inputs k t ran time store place gait todo at (unfed is same none) = let e : going gait todo ≡ waiting t.terms _ = sym at ∙ is ∙ t.home_is in cc
goes_ran d inputs k t ran time store place gait todo at (fed is follows some) = some
goes_ran d inputs k t ran time store place gait todo at (woken is some) = some
goes_ran d inputs k t ran time store place gait todo at (inside other from th is run sized th_at same some) = some

-- the same from what it is shown
pub level_bit : (d : Parts) (roles : Roles) (store : Store) (assigns : List AssignState) (k : ℕ) → roles.blocks k ≡ true → roles.start k ≡ starter → (m : StartsMoved d roles.blocks k) → Stops d roles.blocks m.writer → Level d roles store assigns → SameBit d roles.blocks k m store
level_bit d roles store assigns k is s_k m stops l = λ n w p shows named.
    ap (λ o. digit_in (word_in o w) p) (l.same n (record { block = k; is = is; start_is = s_k; moved = m; shows = shows; stops = stops }))

-- ---- at the end of the slot

pub shows_same : (d : Parts) (store : Store) (root n : ℕ) → sizes store ≡ sizes (start_store d) → ((j : ℕ) (a : Assign) → slice_get d.assigns j ≡ Some a → put store (assignment a.target a.source store 0) ≡ store) → Shows d root n → slice_get store n ≡ slice_get store root
shows_same d store root _ sized left (itself n e) = ap (slice_get store) e
shows_same d store root _ sized left (copied m n j a shows copy) =
    ap (λ (s : Store). slice_get s n) (sym (left j a copy.is)) ∙ copy.copies store 0 sized ∙ shows_same d store root m sized left shows
