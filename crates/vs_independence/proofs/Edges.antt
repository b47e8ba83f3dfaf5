-- The chains of nets that copy a root keep what is said of them: each changes once in a slot, to what it shows of the root then.
use Rattle.std.proofs.Common.{◌≡◌, ℕ, zero, ◌⊎◌, Bool, true, false, Some, None, List, map, slice_get, slice_set, refl, sym, ◌∙◌, ap, subst, inl, inr, if◌then◌else◌}
use Rattle.std.specs.List.{list_any}
use Rattle.std.proofs.lemmas.Bool.{cases_Bool, or_from, false_from_ne_true, true≢false}
use Rattle.vs_design.specs.vs_logic4.specs.declared.digit.Digit.{Digit}
use Rattle.vs_design.specs.Parts.{Parts}
use Rattle.vs_design.specs.Stores.{Store, put, is_changed, start_store}
use Rattle.vs_design.specs.Uses.{reads, writes_signal}
use Rattle.vs_design.specs.Writes.{Write, names}
use Rattle.vs_process.specs.vs_eval.specs.Targets.{assigned}
use Rattle.vs_process.specs.vs_eval.specs.Values.{target_value}
use Rattle.vs_process.specs.States.{State, AssignState, touched, evaluated, settled}
use Rattle.vs_process.proofs.ProcessLists.{map_cases, set_cases}
use Rattle.vs_process.proofs.Stores.{put_other, shape, shape-put}
use Rattle.vs_process.proofs.Assigns.{AssignsSound, assign_driven, assigned_other}
use Rattle.vs_process.specs.Edges.{shown, one_more, IsLink, Copies, itself, through, inverses, IsRoot}
use Rattle.vs_process.specs.Threads.{Thread, IsThread, writes}
use Rattle.vs_process.specs.BlockDrivers.{IsSource}
use Rattle.vs_process.proofs.ThreadAssigns.{DrivesWell}
use Rattle.vs_process.proofs.Threads.{timed_of}
use Rattle.vs_process.proofs.ThreadLinks.{shown_more, shown_none, one_root, copies_bit, root_undriven, link_driven, link_state, link_alone, link_unread, link_unchanged, link_pending, Chain}
use Rattle.vs_independence.proofs.Running.{Apart, AllThreads, Sources, Written, Edges}
use Rattle.vs_independence.proofs.Fire.{Advances, Change}

-- ---- a change of the store

-- what a write of a process, or the update of an assignment, does to chains: a root that has been written stays; one that hasn't changes by the write
-- of a thread alone; a net changes where its signal shows the root, and to what it shows of it
pub record Advancing (d : Parts) (blocks : ℕ → Bool) (b : State) (old new : Store) (th more : ℕ → Thread) : Type 0 where
  pub apart : Apart d blocks b
  pub shaped : shape new ≡ shape (start_store d)
  pub threads : AllThreads d blocks b more
  pub before : Sources d blocks b old th
  pub behind : Sources d blocks b new more
  pub grows : (root : ℕ) → Written th root → Written more root
  pub kept : (root : ℕ) → IsRoot d blocks root → Written th root → slice_get new root ≡ slice_get old root
  pub root : (root : ℕ) → IsRoot d blocks root → (slice_get new root ≡ slice_get old root) ⊎ Written more root
  pub net : (root m n : ℕ) (c : Chain d blocks root m n) → (slice_get new n ≡ slice_get old n) ⊎ (Written th root
      × (slice_get new n ≡ shown (one_more c.link.inverts (inverses c.before)) (slice_get new root)) × (slice_get old m ≡ shown (inverses c.before) (slice_get old root)))

-- a root is a source
pub root_source : (d : Parts) (blocks : ℕ → Bool) (b : State) → Apart d blocks b → (root : ℕ) → IsRoot d blocks root → IsSource d blocks root
root_source d blocks b apart root r =
    let found = apart.edges r.signal r.heard in
    subst (IsSource d blocks) (one_root d found.0 root r.signal found.1 r.copies) found.2

-- a signal with a root is as the slot found it, or it shows its root, which has been written
past : (d : Parts) (blocks : ℕ → Bool) (b : State) → Apart d blocks b → (store : Store) (assigns : List AssignState) (th : ℕ → Thread) → Sources d blocks b store th → Edges d blocks b store assigns th → (root v : ℕ) → IsRoot d blocks root → (c : Copies d root v) →
    (slice_get store v ≡ slice_get b.store v) ⊎ (Written th root × (slice_get store v ≡ shown (inverses c) (slice_get store root)))
past d blocks b apart store assigns th so e root v is (itself bit undriven) = elim (so.fresh root (root_source d blocks b apart root is)) [
  | inl same ↦ inl same
  | inr wrote ↦ inr (wrote, sym (shown_none (slice_get store root)))
]
past d blocks b apart store assigns th so e root v is (through m n before link bit) = elim (e.net root m n (record { is_root = is; before = before; link = link; bit = bit })) [
  | inl same ↦ inl same
  | inr moved ↦ inr (moved.0, moved.1)
]

changed : (d : Parts) (blocks : ℕ → Bool) (b : State) (old new : Store) (th more : ℕ → Thread) → Advancing d blocks b old new th more → (root v : ℕ) → IsRoot d blocks root → (c : Copies d root v) →
    (slice_get new v ≡ slice_get old v) ⊎ (Written more root × (slice_get new v ≡ shown (inverses c) (slice_get new root)))
changed d blocks b old new th more h root v is (itself bit undriven) = elim (h.root root is) [
  | inl same ↦ inl same
  | inr wrote ↦ inr (wrote, sym (shown_none (slice_get new root)))
]
changed d blocks b old new th more h root v is (through m n before link bit) = elim (h.net root m n (record { is_root = is; before = before; link = link; bit = bit })) [
  | inl same ↦ inl same
  | inr moved ↦ inr (h.grows root moved.0, moved.1)
]

-- what shows its root stays so
moved_stays : (d : Parts) (blocks : ℕ → Bool) (b : State) (old new : Store) (th more : ℕ → Thread) → Advancing d blocks b old new th more → (root v : ℕ) → IsRoot d blocks root → (c : Copies d root v) → Written th root → slice_get old v ≡ shown (inverses c) (slice_get old root) →
    slice_get new v ≡ shown (inverses c) (slice_get new root)
moved_stays d blocks b old new th more h root v is c wrote same = elim (changed d blocks b old new th more h root v is c) [
  | inl stays ↦ stays ∙ same ∙ ap (shown (inverses c)) (sym (h.kept root is wrote))
  | inr moved ↦ moved.1
]

-- and doesn't change
moved_kept : (d : Parts) (blocks : ℕ → Bool) (b : State) (old new : Store) (th more : ℕ → Thread) → Advancing d blocks b old new th more → (root v : ℕ) → IsRoot d blocks root → (c : Copies d root v) → Written th root → slice_get old v ≡ shown (inverses c) (slice_get old root) →
    slice_get new v ≡ slice_get old v
moved_kept d blocks b old new th more h root v is c wrote same = moved_stays d blocks b old new th more h root v is c wrote same ∙ ap (shown (inverses c)) (h.kept root is wrote) ∙ sym same

pub advances : (d : Parts) (blocks : ℕ → Bool) (b : State) (old new : Store) (assigns : List AssignState) (th more : ℕ → Thread) → Advancing d blocks b old new th more → Edges d blocks b old assigns th → Advances d blocks b old new
advances d blocks b old new assigns th more h e root v is c = elim (past d blocks b h.apart old assigns th h.before e root v is c) [
  | inr moved ↦ inl (moved_kept d blocks b old new th more h root v is c moved.0 moved.1)
  | inl found ↦ elim (changed d blocks b old new th more h root v is c) [
    | inl same ↦ inl same
    | inr moved ↦
        let w = moved.0 in
        inr (
          found,
          record {
            writer = w.0;
            by = more w.0;
            timed = timed_of d blocks b w.0 (more w.0) (h.threads w.0) (h.apart.keeps.root_timed w.0 root (more w.0) is (h.threads w.0) w.1);
            wrote = w.1;
            is = moved.1 ∙ ap (shown (inverses c)) (h.behind.own w.0 root w.1);
          },
        )
  ]
]

pub change_of : (d : Parts) (blocks : ℕ → Bool) (b : State) (old new : Store) (assigns : List AssignState) (th more : ℕ → Thread) → Advancing d blocks b old new th more → Edges d blocks b old assigns th → Change d blocks b old new
change_of d blocks b old new assigns th more h e = record { apart = h.apart; shaped = h.shaped; advances = advances d blocks b old new assigns th more h e }

-- chains behind it
pub edges_touched : (d : Parts) (blocks : ℕ → Bool) (b : State) (old new : Store) (assigns : List AssignState) (th more : ℕ → Thread) → Advancing d blocks b old new th more →
    ((m n : ℕ) (l : IsLink d m n) (x : AssignState) → slice_get assigns l.number ≡ Some x → l.assign.source ≡ x.source) → Edges d blocks b old assigns th → Edges d blocks b new (map (touched old new) assigns) more
edges_touched d blocks b old new assigns th more h sources e = record {
  net = λ root m n c. elim (e.net root m n c) [
    | inr moved ↦ inr (
      h.grows root moved.0,
      moved_stays d blocks b old new th more h root n c.is_root (through m n c.before c.link c.bit) moved.0 moved.1,
      moved_stays d blocks b old new th more h root m c.is_root c.before moved.0 moved.2,
    )
    | inl found ↦ elim (h.net root m n c) [
      | inl same ↦ inl (same ∙ found)
      | inr moved ↦ inr (h.grows root moved.0, moved.1, moved_stays d blocks b old new th more h root m c.is_root c.before moved.0 moved.2)
    ]
  ];
  link = λ root m n c y is. at_link root m n c y (map_cases (touched old new) assigns c.link.number y is);
}
  where
    at_link : (root m n : ℕ) (c : Chain d blocks root m n) (y : AssignState) → ((x : AssignState) × (slice_get assigns c.link.number ≡ Some x) × (touched old new x ≡ y)) →
        (y.pending ≡ None) ⊎ ((y.needs ≡ false) × Written more root × (slice_get new m ≡ shown (inverses c.before) (slice_get new root)))
    at_link root m n c y (x, is, same) = subst (λ (z : AssignState). (z.pending ≡ None) ⊎ ((z.needs ≡ false) × Written more root × (slice_get new m ≡ shown (inverses c.before) (slice_get new root)))) same
        (elim (e.link root m n c x is) [
          | inl none ↦ inl none
          | inr moved ↦ inr (
            or_from x.needs (list_any (is_changed old new) (reads x.source)) moved.0
                (link_unread d m n c.link x.source (sources m n c.link x is) old new (moved_kept d blocks b old new th more h root m c.is_root c.before moved.1 moved.2)),
            h.grows root moved.1,
            moved_stays d blocks b old new th more h root m c.is_root c.before moved.1 moved.2,
          )
        ])

-- where threads have written more, and the store is the same
pub edges_grow : (d : Parts) (blocks : ℕ → Bool) (b : State) (store : Store) (assigns : List AssignState) (th more : ℕ → Thread) → ((root : ℕ) → Written th root → Written more root) → Edges d blocks b store assigns th → Edges d blocks b store assigns more
edges_grow d blocks b store assigns th more grows e = record {
  net = λ root m n c. elim (e.net root m n c) [
    | inl found ↦ inl found
    | inr moved ↦ inr (grows root moved.0, moved.1, moved.2)
  ];
  link = λ root m n c x is. elim (e.link root m n c x is) [
    | inl none ↦ inl none
    | inr moved ↦ inr (moved.0, grows root moved.1, moved.2)
  ];
}

-- ---- the write of a process

-- process i, whose thread behind its step is `tn`, writes
pub record Writing (d : Parts) (blocks : ℕ → Bool) (b : State) (store : Store) (th more : ℕ → Thread) (i : ℕ) (w : Write) (tn : Thread) : Type 0 where
  pub apart : Apart d blocks b
  pub shaped : shape store ≡ shape (start_store d)
  pub threads : AllThreads d blocks b th
  pub after : AllThreads d blocks b more
  pub before : Sources d blocks b store th
  pub behind : Sources d blocks b (put store w) more
  pub is : IsThread d blocks b i tn
  pub own : more i ≡ tn
  pub wrote : (v : ℕ) → names w v ≡ true → writes tn v ≡ true
  pub grows : (root : ℕ) → Written th root → Written more root

pub write_advances : (d : Parts) (blocks : ℕ → Bool) (b : State) (store : Store) (th more : ℕ → Thread) (i : ℕ) (w : Write) (tn : Thread) → Writing d blocks b store th more i w tn → Advancing d blocks b store (put store w) th more
write_advances d blocks b store th more i w tn h = record {
  apart = h.apart;
  shaped = shape-put store w ∙ h.shaped;
  threads = h.after;
  before = h.before;
  behind = h.behind;
  grows = h.grows;
  kept = λ root is written. elim (cases_Bool (names w root)) [
    | inr miss ↦ put_other store w root miss
    | inl hit ↦ again root is hit written
  ];
  root = λ root is. elim (cases_Bool (names w root)) [
    | inr miss ↦ inl (put_other store w root miss)
    | inl hit ↦ inr (i, ap (λ (t : Thread). writes t root) h.own ∙ h.wrote root hit)
  ];
  net = λ root m n c. inl (put_other store w n (false_from_ne_true (names w n) (λ named.
      true≢false (sym (link_driven d m n c.link) ∙ (h.apart.variables i n tn h.is (h.wrote n named)).undriven))));
}
  where
    again : (root : ℕ) → IsRoot d blocks root → names w root ≡ true → Written th root → slice_get (put store w) root ≡ slice_get store root
    again root is hit (k, wrote) =
        let new : writes tn root ≡ true = h.wrote root hit in
        let mine : k ≡ i = h.apart.keeps.only i k root tn (th k) h.is (h.threads k) new wrote in
        let old : writes (th i) root ≡ true = subst (λ k. writes (th k) root ≡ true) mine wrote in
        let timed_old = timed_of d blocks b i (th i) (h.threads i) (h.apart.keeps.root_timed i root (th i) is (h.threads i) old) in
        let timed_new = timed_of d blocks b i tn h.is (h.apart.keeps.root_timed i root tn is h.is new) in
        h.behind.own i root (ap (λ (t : Thread). writes t root) h.own ∙ new)
        ∙ ap (λ (t : Thread). slice_get t.view root) h.own
        ∙ sym (h.apart.keeps.root_once i root (th i) tn is timed_old timed_new old new)
        ∙ sym (h.before.own i root old)

-- ---- the update of an assignment

-- what the update of an assignment leaves
pub propagate_advances : (d : Parts) (blocks : ℕ → Bool) → DrivesWell d → (b : State) (store : Store) (time : ℕ) (assigns : List AssignState) (th : ℕ → Thread) → Apart d blocks b → AllThreads d blocks b th → AssignsSound d store assigns → (j : ℕ) (x : AssignState) (digits : List Digit) →
    slice_get assigns j ≡ Some x → x.pending ≡ Some digits → Sources d blocks b store th → Sources d blocks b (put store (assigned x.target digits store time)) th → Edges d blocks b store assigns th →
    Advancing d blocks b store (put store (assigned x.target digits store time)) th th
propagate_advances d blocks well b store time assigns th apart all sound j x digits is waits before behind e = record {
  apart = apart;
  shaped = shape-put store (assigned x.target digits store time) ∙ sound.shaped;
  threads = all;
  before = before;
  behind = behind;
  grows = λ root h. h;
  kept = λ root r written. stays root r;
  root = λ root r. inl (stays root r);
  net = λ root m n c. elim (cases_Bool (writes_signal x.target n)) [
    | inr miss ↦ inl (assigned_other store x.target digits store time n miss)
    | inl hit ↦ own root m n c (link_alone d store assigns sound m n c.link j x is hit)
  ];
}
  where
    new : Store
    new = put store (assigned x.target digits store time)

    stays : (root : ℕ) → IsRoot d blocks root → slice_get new root ≡ slice_get store root
    stays root r = assigned_other store x.target digits store time root (false_from_ne_true (writes_signal x.target root) (λ named.
        true≢false (sym (assign_driven d store assigns sound j x root is named) ∙ root_undriven d root r.signal r.copies)))

    own : (root m n : ℕ) (c : Chain d blocks root m n) → j ≡ c.link.number → (slice_get new n ≡ slice_get store n) ⊎ (Written th root
        × (slice_get new n ≡ shown (one_more c.link.inverts (inverses c.before)) (slice_get new root)) × (slice_get store m ≡ shown (inverses c.before) (slice_get store root)))
    own root m n c number =
        let here : slice_get assigns c.link.number ≡ Some x = ap (slice_get assigns) (sym number) ∙ is in
        elim (e.link root m n c x here) [
          | inl none ↦ absurd (let no_way : None ≡ Some digits = sym none ∙ waits in cc)
          | inr moved ↦ inr (
            moved.1,
            link_pending d well store assigns sound m n c.link (copies_bit d root m c.before) c.bit x here moved.0 digits waits time
                ∙ ap (shown (one_more c.link.inverts zero)) moved.2 ∙ shown_more c.link.inverts (inverses c.before) (slice_get store root)
                ∙ ap (shown (one_more c.link.inverts (inverses c.before))) (sym (stays root c.is_root)),
            moved.2,
          )
        ]

-- the assignment itself, of which nothing waits any more
pub edges_settled : (d : Parts) (blocks : ℕ → Bool) (b : State) (store : Store) (assigns : List AssignState) (th : ℕ → Thread) (j : ℕ) (x : AssignState) → slice_get assigns j ≡ Some x → Edges d blocks b store assigns th → Edges d blocks b store (slice_set assigns j (settled x)) th
edges_settled d blocks b store assigns th j x is e = record {
  net = e.net;
  link = λ root m n c y at_y. elim (set_cases assigns j c.link.number x (settled x) y is at_y) [
    | inl own ↦ inl (ap (λ (z : AssignState). z.pending) own.1)
    | inr other ↦ e.link root m n c y other.1
  ];
}

-- ---- an evaluation

pub edges_evaluated : (d : Parts) (blocks : ℕ → Bool) (b : State) (store : Store) (time : ℕ) (assigns : List AssignState) (th : ℕ → Thread) → Apart d blocks b → AssignsSound d store assigns → Sources d blocks b store th → (j : ℕ) (x : AssignState) → slice_get assigns j ≡ Some x →
    Edges d blocks b store assigns th → Edges d blocks b store (slice_set assigns j (evaluated store time x)) th
edges_evaluated d blocks b store time assigns th apart sound so j x is e = record {
  net = e.net;
  link = λ root m n c y at_y. elim (set_cases assigns j c.link.number x (evaluated store time x) y is at_y) [
    | inl own ↦ subst (λ (z : AssignState). (z.pending ≡ None) ⊎ ((z.needs ≡ false) × Written th root × (slice_get store m ≡ shown (inverses c.before) (slice_get store root)))) (sym own.1)
        (own_link root m n c (ap (slice_get assigns) own.0 ∙ is))
    | inr other ↦ e.link root m n c y other.1
  ];
}
  where
    -- its net is what it makes of its signal: the evaluation finds nothing to change
    nothing : (root m n : ℕ) (c : Chain d blocks root m n) → slice_get assigns c.link.number ≡ Some x → slice_get store n ≡ shown (one_more c.link.inverts zero) (slice_get store m) → (evaluated store time x).pending ≡ None
    nothing root m n c here same =
        let l = link_state d store assigns sound m n c.link x here in
        ap (λ t. if t then None else Some (target_value x.target x.source store time))
        (link_unchanged d store time sound.shaped m n c.link (copies_bit d root m c.before) c.bit x.target x.source l.0 l.1 same)

    own_link : (root m n : ℕ) (c : Chain d blocks root m n) → slice_get assigns c.link.number ≡ Some x →
        ((evaluated store time x).pending ≡ None) ⊎ ((false ≡ false) × Written th root × (slice_get store m ≡ shown (inverses c.before) (slice_get store root)))
    own_link root m n c here = elim (past d blocks b apart store assigns th so e root m c.is_root c.before) [
      | inr moved ↦ inr (refl, moved.0, moved.1)
      | inl found ↦ elim (e.net root m n c) [
        | inr moved ↦ inr (refl, moved.0, moved.2)
        | inl same ↦ inl (nothing root m n c here
            (same ∙ apart.level root n (through m n c.before c.link c.bit) ∙ sym (shown_more c.link.inverts (inverses c.before) (slice_get b.store root))
            ∙ ap (shown (one_more c.link.inverts zero)) (sym (apart.level root m c.before) ∙ sym found)))
      ]
    ]
