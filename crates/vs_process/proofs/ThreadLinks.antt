-- What is copied from a root to a net: the chain of one-bit continuous assignments between them.
use Rattle.std.proofs.Common.{◌≡◌, ◌<◌, ◌+◌, ℕ, zero, suc, Bool, true, false, Option, Some, None, option_map, List, [], ◌∷◌, length, map, replicate, slice_get, refl, sym, ◌∙◌, ap, subst, inl, inr, arith}
use Rattle.std.specs.List.{list_any}
use Rattle.std.proofs.lemmas.Bool.{cases_Bool, true≢false}
use Rattle.std.proofs.lemmas.List.{get_or-replicate, length-replicate}
use Rattle.std.proofs.lemmas.Option.{slice_get-get_or, same_Some}
use Rattle.vs_design.specs.vs_logic4.specs.declared.digit.Digit.{Digit}
use Rattle.vs_design.specs.vs_logic4.specs.declared.digit.Digit.TheVariants.{Zero, X}
use Rattle.vs_design.specs.vs_logic4.specs.Tables.{not_digit}
use Rattle.vs_design.specs.declared.design.Assign.{Assign}
use Rattle.vs_design.specs.declared.expression.Typed.{Typed}
use Rattle.vs_design.specs.declared.range.BitRange.{BitRange}
use Rattle.vs_design.specs.declared.statement.Target.{Target}
use Rattle.vs_design.specs.Parts.{Parts}
use Rattle.vs_design.specs.Stores.{Store, put, is_changed, is_driven, changes_nothing, start_store}
use Rattle.vs_design.specs.Uses.{reads, writes_signal}
use Rattle.vs_process.specs.vs_eval.specs.Targets.{assigned}
use Rattle.vs_process.specs.vs_eval.specs.Values.{target_value}
use Rattle.vs_process.specs.Steps.{assignment}
use Rattle.vs_process.specs.States.{AssignState}
use Rattle.vs_design.specs.vs_logic4.proofs.Basics.{same_lists as same_gets}
use Rattle.vs_process.proofs.Ranges.{assigned_fixed, assigned_names, same_sizes}
use Rattle.vs_process.proofs.Stores.{put_other, shape}
use Rattle.vs_process.proofs.Values.{not_changed}
use Rattle.vs_process.proofs.Assigns.{AssignsSound, Consistent, wanted, link_of, assign_of, assign_fixed, driven, idle_value, left_unchanged, nothing_changed}
use Rattle.vs_process.specs.Edges.{one_bit, IsBit, inverted, shown, one_more, IsLink, Copies, itself, through, inverses, IsRoot}
use Rattle.vs_process.proofs.ThreadAssigns.{DrivesWell}
use Rattle.vs_process.proofs.Settle.{AllIdle}
use Rattle.vs_design.specs.vs_logic4.proofs.Basics.{same_first}

-- ---- inverters

twice_word : (f g h : Digit → Digit) → ((z : Digit) → f (g z) ≡ h z) → (word : List Digit) → map f (map g word) ≡ map h word
twice_word f g h same [] = refl
twice_word f g h same (z ∷ word) = ap (λ y. y ∷ map f (map g word)) (same z) ∙ ap (λ ys. h z ∷ ys) (twice_word f g h same word)

twice_words : (f g h : Digit → Digit) → ((z : Digit) → f (g z) ≡ h z) → (words : List (List Digit)) → map (map f) (map (map g) words) ≡ map (map h) words
twice_words f g h same [] = refl
twice_words f g h same (word ∷ words) =
    ap (λ w. w ∷ map (map f) (map (map g) words)) (twice_word f g h same word) ∙ ap (λ ws. map h word ∷ ws) (twice_words f g h same words)

one_after : (inverts : Bool) (count : ℕ) (z : Digit) → inverted (one_more inverts zero) (inverted count z) ≡ inverted (one_more inverts count) z
one_after true count z = refl
one_after false count z = refl

-- behind a link there are the inverters before it, and its own
pub shown_more : (inverts : Bool) (count : ℕ) (o : Option (List (List Digit))) → shown (one_more inverts zero) (shown count o) ≡ shown (one_more inverts count) o
shown_more inverts count None = refl
shown_more inverts count (Some words) =
    ap (λ ws. Some ws) (twice_words (inverted (one_more inverts zero)) (inverted count) (inverted (one_more inverts count)) (one_after inverts count) words)

same_word : (word : List Digit) → map (inverted zero) word ≡ word
same_word [] = refl
same_word (z ∷ word) = ap (λ ys. z ∷ ys) (same_word word)

same_words : (words : List (List Digit)) → map (map (inverted zero)) words ≡ words
same_words [] = refl
same_words (word ∷ words) = ap (λ w. w ∷ map (map (inverted zero)) words) (same_word word) ∙ ap (λ ws. word ∷ ws) (same_words words)

-- behind none nothing changes
pub shown_none : (o : Option (List (List Digit))) → shown zero o ≡ o
shown_none None = refl
shown_none (Some words) = ap (λ ws. Some ws) (same_words words)

-- a signal of one bit
pub shown_bit : (count : ℕ) (z : Digit) → shown count (Some (one_bit z)) ≡ Some (one_bit (inverted count z))
shown_bit count z = refl

-- x stays x
pub inverted_x : (count : ℕ) → inverted count X ≡ X
inverted_x zero = refl
inverted_x (suc count) = ap not_digit (inverted_x count)

-- ---- chains

pub copies_bit : (d : Parts) (root v : ℕ) → Copies d root v → IsBit d v
copies_bit d root v (itself bit undriven) = bit
copies_bit d root v (through m n before link bit) = bit

pub root_undriven : (d : Parts) (root v : ℕ) → Copies d root v → is_driven d.assigns root ≡ false
root_undriven d root v (itself bit undriven) = undriven
root_undriven d root v (through m n before link bit) = root_undriven d root m before

pub root_bit : (d : Parts) (root v : ℕ) → Copies d root v → IsBit d root
root_bit d root v (itself bit undriven) = bit
root_bit d root v (through m n before link bit) = root_bit d root m before

pub root_itself : (d : Parts) (root v : ℕ) → Copies d root v → Copies d root root
root_itself d root v c = itself (root_bit d root v c) (root_undriven d root v c)

pub link_driven : (d : Parts) (m n : ℕ) → IsLink d m n → is_driven d.assigns n ≡ true
link_driven d m n l = driven d.assigns l.number l.assign n l.is l.writes

-- a variable with a root is its root
pub undriven_root : (d : Parts) (root v : ℕ) → Copies d root v → is_driven d.assigns v ≡ false → root ≡ v
undriven_root d root v (itself bit undriven) free = refl
undriven_root d root v (through m n before link bit) free = absurd (true≢false (sym (link_driven d m n link) ∙ free))

-- two links to one net are one assignment
one_assign : (d : Parts) (m k n p : ℕ) (l : IsLink d m n) (q : IsLink d k p) → n ≡ p → q.assign ≡ l.assign
one_assign d m k n p l q same =
    let number : q.number ≡ l.number = l.alone q.number q.assign q.is (ap (writes_signal q.assign.target) same ∙ q.writes) in
    same_Some q.assign l.assign (sym q.is ∙ ap (slice_get d.assigns) number ∙ l.is)

-- they come from one signal
one_source : (d : Parts) (m k n p : ℕ) → IsLink d m n → IsLink d k p → n ≡ p → m ≡ k
one_source d m k n p l q same =
    let range : l.range ≡ q.range = same_first l.range q.range [] [] (sym l.reads ∙ ap (λ (a : Assign). reads a.source) (sym (one_assign d m k n p l q same)) ∙ q.reads) in
    sym l.of_source ∙ ap (λ (r : BitRange). r.signal) range ∙ q.of_source

-- a store in which so many signals are 0
abbrev zeros : ℕ → Store
zeros count = replicate count (one_bit Zero)

zero_in : (v count : ℕ) → v < count → slice_get (zeros count) v ≡ Some (one_bit Zero)
zero_in v count below =
    let size : length (zeros count) ≡ count = length-replicate count (one_bit Zero) in
    slice_get-get_or (zeros count) v (one_bit Zero) (omega (arith, size)) ∙ ap (λ w. Some w) (get_or-replicate count v (one_bit Zero) (one_bit Zero) below)

-- and one inverts if the other one does: both make the same of the net where all is 0
one_inverse : (d : Parts) (m k n p : ℕ) (l : IsLink d m n) (q : IsLink d k p) → n ≡ p → l.inverts ≡ q.inverts
one_inverse d m k n p l q same =
    by_bits l.inverts q.inverts (sym (l.copies s 0 Zero Zero (zero_in m c (omega arith)) (zero_in n c (omega arith)))
    ∙ ap (λ v. slice_get (put s (assignment l.assign.target l.assign.source s 0)) v) same
    ∙ ap (λ (a : Assign). slice_get (put s (assignment a.target a.source s 0)) p) (sym (one_assign d m k n p l q same))
    ∙ q.copies s 0 Zero Zero (zero_in k c (omega arith)) (zero_in p c (omega arith)))
  where
    c : ℕ
    c = suc (m + n + k + p)

    s : Store
    s = zeros c

    by_bits : (a b : Bool) → Some (one_bit (inverted (one_more a zero) Zero)) ≡ Some (one_bit (inverted (one_more b zero) Zero)) → a ≡ b
    by_bits true true h = refl
    by_bits true false h = cc
    by_bits false true h = cc
    by_bits false false h = refl

-- a signal has one root
pub one_root : (d : Parts) (root other v : ℕ) → Copies d root v → Copies d other v → root ≡ other
one_root d root other v c e = by_chains c e refl
  where
    by_chains : {v w : ℕ} → Copies d root v → Copies d other w → v ≡ w → root ≡ other
    by_chains (itself bit undriven) (itself other_bit other_undriven) same = same
    by_chains (itself bit undriven) (through k w before link other_bit) same = absurd (true≢false (sym (link_driven d k w link) ∙ ap (is_driven d.assigns) (sym same) ∙ undriven))
    by_chains (through m v before link bit) (itself other_bit other_undriven) same = absurd (true≢false (sym (link_driven d m v link) ∙ ap (is_driven d.assigns) same ∙ other_undriven))
    by_chains (through m v before link bit) (through k w other_before other_link other_bit) same =
        by_chains before other_before (one_source d m k v w link other_link same)

-- and one number of inverters before it
pub one_count : (d : Parts) (root v : ℕ) (c e : Copies d root v) → inverses c ≡ inverses e
one_count d root v c e = by_chains c e refl
  where
    by_chains : {v w : ℕ} (c : Copies d root v) (e : Copies d root w) → v ≡ w → inverses c ≡ inverses e
    by_chains (itself bit undriven) (itself other_bit other_undriven) same = refl
    by_chains (itself bit undriven) (through k w before link other_bit) same = absurd (true≢false (sym (link_driven d k w link) ∙ ap (is_driven d.assigns) (sym same) ∙ undriven))
    by_chains (through m v before link bit) (itself other_bit other_undriven) same = absurd (true≢false (sym (link_driven d m v link) ∙ ap (is_driven d.assigns) same ∙ other_undriven))
    by_chains (through m v before link bit) (through k w other_before other_link other_bit) same =
        ap (λ b. one_more b (inverses before)) (one_inverse d m k v w link other_link same)
        ∙ ap (one_more other_link.inverts) (by_chains before other_before (one_source d m k v w link other_link same))

-- ---- one bit

bit_of_sizes : (o : Option (List (List Digit))) → option_map (λ words. map length words) o ≡ Some (1 ∷ []) → (z : Digit) × (o ≡ Some (one_bit z))
bit_of_sizes None h = cc
bit_of_sizes (Some []) h = cc
bit_of_sizes (Some ([] ∷ words)) h = cc
bit_of_sizes (Some ((z ∷ []) ∷ [])) h = (z, refl)
bit_of_sizes (Some ((z ∷ []) ∷ w ∷ words)) h = cc
bit_of_sizes (Some ((z ∷ y ∷ word) ∷ words)) h = cc

-- what such a signal holds in a store
pub bit_in : (d : Parts) (store : Store) (v : ℕ) → shape store ≡ shape (start_store d) → IsBit d v → (z : Digit) × (slice_get store v ≡ Some (one_bit z))
bit_in d store v shaped bit = bit_of_sizes (slice_get store v) (same_sizes store (start_store d) v shaped ∙ ap (option_map (λ words. map length words)) bit)

-- ---- links

-- what a link makes of its net
pub link_writes : (d : Parts) (store : Store) (time : ℕ) → shape store ≡ shape (start_store d) → (m n : ℕ) (l : IsLink d m n) → IsBit d m → IsBit d n → (t : Target) (e : Typed) → l.assign.target ≡ t → l.assign.source ≡ e →
    slice_get (put store (assignment t e store time)) n ≡ shown (one_more l.inverts zero) (slice_get store m)
link_writes d store time shaped m n l source net t e same_t same_e =
    let z = bit_in d store m shaped source in
    let y = bit_in d store n shaped net in
    ap (λ t. slice_get (put store (assignment t e store time)) n) (sym same_t)
    ∙ ap (λ e. slice_get (put store (assignment l.assign.target e store time)) n) (sym same_e)
    ∙ l.copies store time y.0 z.0 z.1 y.1 ∙ ap (shown (one_more l.inverts zero)) (sym z.1)

-- so where the net is that, its evaluation finds nothing to change
pub link_unchanged : (d : Parts) (store : Store) (time : ℕ) → shape store ≡ shape (start_store d) → (m n : ℕ) (l : IsLink d m n) → IsBit d m → IsBit d n → (t : Target) (e : Typed) → l.assign.target ≡ t → l.assign.source ≡ e →
    slice_get store n ≡ shown (one_more l.inverts zero) (slice_get store m) → changes_nothing store (assignment t e store time) ≡ true
link_unchanged d store time shaped m n l source net t e same_t same_e same =
    left_unchanged store (assignment t e store time) (same_gets (put store (assignment t e store time)) store (λ v.
    elim (cases_Bool (writes_signal t v)) [
      | inl hit ↦
          let at_n : v ≡ n = l.only v (ap (λ t. writes_signal t v) same_t ∙ hit) in
          subst (λ k. slice_get (put store (assignment t e store time)) k ≡ slice_get store k) (sym at_n)
          (link_writes d store time shaped m n l source net t e same_t same_e ∙ sym same)
      | inr miss ↦ put_other store (assignment t e store time) v (assigned_names t (target_value t e store time) store time v ∙ miss)
    ]))

-- a link in a state
pub link_state : (d : Parts) (store : Store) (assigns : List AssignState) → AssignsSound d store assigns → (m n : ℕ) (l : IsLink d m n) → (x : AssignState) → slice_get assigns l.number ≡ Some x →
    (l.assign.target ≡ x.target) × (l.assign.source ≡ x.source)
link_state d store assigns sound m n l x is =
    let a = link_of d.assigns assigns l.number x sound.linked is in
    let same : l.assign ≡ a.0 = same_Some l.assign a.0 (sym l.is ∙ a.1) in
    (ap (λ (a : Assign). a.target) same ∙ a.2, ap (λ (a : Assign). a.source) same ∙ a.3)

-- what else an assignment of a state writes: no net of a link that it isn't
pub link_alone : (d : Parts) (store : Store) (assigns : List AssignState) → AssignsSound d store assigns → (m n : ℕ) (l : IsLink d m n) → (j : ℕ) (x : AssignState) → slice_get assigns j ≡ Some x → writes_signal x.target n ≡ true → j ≡ l.number
link_alone d store assigns sound m n l j x is h =
    let a = link_of d.assigns assigns j x sound.linked is in
    l.alone j a.0 a.1 (ap (λ (t : Target). writes_signal t n) a.2 ∙ h)

-- it reads its signal alone
pub link_unread : (d : Parts) (m n : ℕ) (l : IsLink d m n) → (e : Typed) → l.assign.source ≡ e → (old new : Store) → slice_get new m ≡ slice_get old m → list_any (is_changed old new) (reads e) ≡ false
link_unread d m n l e same_e old new same =
    ap (λ e. list_any (is_changed old new) (reads e)) (sym same_e) ∙ ap (list_any (is_changed old new)) l.reads
    ∙ ap (λ b. list_any_one b) (not_changed old new l.range (ap (slice_get new) l.of_source ∙ same ∙ ap (slice_get old) (sym l.of_source)))
  where
    list_any_one : Bool → Bool
    list_any_one b = list_any (λ (c : Bool). c) (b ∷ [])

-- where all is idle each net is what its link makes of it
pub link_settled : (d : Parts) → DrivesWell d → (store : Store) (assigns : List AssignState) → AssignsSound d store assigns → AllIdle assigns → (m n : ℕ) (l : IsLink d m n) → IsBit d m → IsBit d n →
    slice_get store n ≡ shown (one_more l.inverts zero) (slice_get store m)
link_settled d well store assigns sound idle m n l source net =
    let x = assign_of d.assigns assigns l.number l.assign sound.linked l.is in
    let left : put store (assignment x.0.target x.0.source store 0) ≡ store =
    nothing_changed store (assignment x.0.target x.0.source store 0) (idle_value store 0 x.0 (assign_fixed d well.places store assigns sound l.number x.0 x.1) (idle l.number x.0 x.1) (sound.consistent l.number x.0 x.1)) in
    ap (λ (s : Store). slice_get s n) (sym left) ∙ link_writes d store 0 sound.shaped m n l source net x.0.target x.0.source (sym x.2) (sym x.3)

-- and shows its root
pub copies_settled : (d : Parts) → DrivesWell d → (store : Store) (assigns : List AssignState) → AssignsSound d store assigns → AllIdle assigns → (root v : ℕ) (c : Copies d root v) →
    slice_get store v ≡ shown (inverses c) (slice_get store root)
copies_settled d well store assigns sound idle root v (itself bit undriven) = sym (shown_none (slice_get store root))
copies_settled d well store assigns sound idle root v (through m n before link bit) =
    link_settled d well store assigns sound idle m n link (copies_bit d root m before) bit
    ∙ ap (shown (one_more link.inverts zero)) (copies_settled d well store assigns sound idle root m before)
    ∙ shown_more link.inverts (inverses before) (slice_get store root)

-- so it does at the start of all, where all are x
pub copies_start : (d : Parts) (root v : ℕ) (c : Copies d root v) → slice_get (start_store d) v ≡ shown (inverses c) (slice_get (start_store d) root)
copies_start d root v c = copies_bit d root v c ∙ ap (λ z. Some (one_bit z)) (sym (inverted_x (inverses c))) ∙ ap (shown (inverses c)) (sym (root_bit d root v c))

-- ---- links in a chain

-- a link of a chain from a root
pub record Chain (d : Parts) (blocks : ℕ → Bool) (root m n : ℕ) : Type 0 where
  pub is_root : IsRoot d blocks root
  pub before : Copies d root m
  pub link : IsLink d m n
  pub bit : IsBit d n

-- what waits to be written to the net of a link that needs no evaluation is what the link makes of it
pub link_pending : (d : Parts) → DrivesWell d → (store : Store) (assigns : List AssignState) → AssignsSound d store assigns → (m n : ℕ) (l : IsLink d m n) → IsBit d m → IsBit d n → (x : AssignState) → slice_get assigns l.number ≡ Some x →
    x.needs ≡ false → (digits : List Digit) → x.pending ≡ Some digits → (time : ℕ) → slice_get (put store (assigned x.target digits store time)) n ≡ shown (one_more l.inverts zero) (slice_get store m)
link_pending d well store assigns sound m n l source net x is still digits waits time =
    by_consistent (sound.consistent l.number x is)
  where
    fed : x.pending ≡ Some (wanted store x) → slice_get (put store (assigned x.target digits store time)) n ≡ shown (one_more l.inverts zero) (slice_get store m)
    fed value =
        let same = link_state d store assigns sound m n l x is in
        let fixed = assign_fixed d well.places store assigns sound l.number x is in
        let e : digits ≡ wanted store x = same_Some digits (wanted store x) (sym waits ∙ value) in
        ap (λ ds. slice_get (put store (assigned x.target ds store time)) n) e
        ∙ ap (λ w. slice_get (put store w) n) (assigned_fixed x.target (wanted store x) store time fixed ∙ sym (assigned_fixed x.target (wanted store x) store 0 fixed))
        ∙ link_writes d store 0 sound.shaped m n l source net x.target x.source same.0 same.1

    by_consistent : Consistent store x → slice_get (put store (assigned x.target digits store time)) n ≡ shown (one_more l.inverts zero) (slice_get store m)
    by_consistent (inl needs) = absurd (true≢false (sym needs ∙ still))
    by_consistent (inr (inl idle)) = absurd (let e : None ≡ Some digits = sym idle.0 ∙ waits in cc)
    by_consistent (inr (inr value)) = fed value
