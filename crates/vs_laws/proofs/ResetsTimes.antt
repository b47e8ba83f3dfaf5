-- What a certificate of version 3 says of a design with an inverted reset, and when its edges come.
use Rattle.std.proofs.Common.{◌≡◌, ℕ, zero, suc, ◌+◌, ◌%◌, ◌<◌, ◌⊎◌, Bool, true, false, Option, Some, None, List, [], ◌∷◌, slice_get, refl, sym, ◌∙◌, ap, subst, inl, inr, lit<, lit≤, arith}
use Rattle.std.proofs.lemmas.Bool.{false≢true, true≢false}
use Rattle.std.proofs.lemmas.Option.{none-some, same_Some}
use Rattle.std.proofs.lemmas.Slice.Eq.{bytes_eq-Decides}
use Rattle.std.specs.declared.alloc.Global.{Global}
use Rattle.std.specs.List.{Contains}
use Rattle.vs_design.specs.vs_logic4.specs.declared.digit.Digit.{Digit}
use Rattle.vs_design.specs.vs_logic4.specs.declared.digit.Digit.TheVariants.{Zero, One}
use Rattle.vs_design.specs.vs_logic4.specs.declared.edge.Edge.{Edge}
use Rattle.vs_design.specs.vs_logic4.specs.declared.edge.Edge.TheVariants.{Posedge}
use Rattle.vs_design.specs.declared.design.Assign.{Assign}
use Rattle.vs_design.specs.declared.design.ProcessKind.TheVariants.{Always}
use Rattle.vs_design.specs.declared.expression.Typed.{out-Typed}
use Rattle.vs_design.specs.declared.range.BitRange.{BitRange}
use Rattle.vs_design.specs.declared.signal.Signal.{Signal}
use Rattle.vs_design.specs.declared.signal.SignalKind.{SignalKind}
use Rattle.vs_design.specs.declared.signal.SignalKind.TheVariants.{Reg, Wire}
use Rattle.vs_design.specs.declared.statement.EventTerm.{EventTerm}
use Rattle.vs_design.specs.declared.statement.Statement.{out-Statement}
use Rattle.vs_design.specs.declared.expression.Typed.TheVariants as e
use Rattle.vs_design.specs.Kinds.{is_variable}
use Rattle.vs_design.specs.Uses.{slice_range}
use Rattle.vs_independence.specs.vs_process.specs.declared.moves.Grain.{Grain}
use Rattle.vs_process.specs.Places.{perform, Todo}
use Rattle.vs_process.specs.Steps.{Next, on}
use Rattle.vs_rules.specs.vs_process.specs.BlockDrivers.{outputs}
use Rattle.vs_rules.specs.Claims.{Name, EdgeClaim, Kind, Start, block, edges, delays, mixed, kind_of, names_process, HasLists, IsBlock, IsRootOf, IsSecond, IsSignalNamed, IsWriter, WaitsForTimes}
use Rattle.vs_rules.specs.Constants.{Gives, IsClock, IsWholeName, IsWholeTarget, SetsAlike, TurnsForever, bit_of, itself as bare, two, zero as known_zero}
use Rattle.vs_rules.specs.Controls.{controls_of, list_of}
use Rattle.vs_rules.specs.Copies.{CopiesRoot, IsInverseCopy, IsInverted, IsOneBit, copy, inverse, is_odd, itself}
use Rattle.vs_rules.specs.Paths.{Writes, WritesNow}
use Rattle.vs_rules.specs.Points.{Point}
use Rattle.vs_rules.specs.Slots.{DelayEnds, Ends, Fires, FiresOf, InPhase, RunsByDelays}
use Rattle.vs_design.specs.vs_logic4.proofs.Basics.{one_in}
use Rattle.vs_laws.specs.Names.{process_in_t, signal_in_t}
use Rattle.vs_laws.specs.Race.{bit, boxed, operand, target, the_bit}
use Rattle.vs_laws.specs.Resets.{clock, fall, gives, half, listens, negated, reset_claims, resetting, the_inverse, turned}
use Rattle.vs_laws.specs.Rise.{rise}
use Rattle.vs_laws.specs.Roots.{sets, ticks_before, two_of}
use Rattle.vs_laws.specs.Swap.{always, copies_later, five}
use Rattle.vs_laws.specs.Block.{no_ticks}
use Rattle.vs_laws.proofs.Race.{reads_number, value_number}
use Rattle.vs_laws.proofs.Texts.{Each, controls_assign, controls_block, controls_delay, controls_event, controls_forever, differ, each_in, writes_assign, writes_block, writes_delay, writes_event, writes_forever, writes_later}
use Rattle.vs_laws.proofs.ResetsPoints.{Act, Made, Ran, Run, Spot, TermAt, Wrote, by_constant, by_turn, facts, first_is, from_c, from_r, made, ran_at, row_at, run_loops, run_pauses, run_set, run_sets, run_turns, starts_c, term_1, term_3, term_at, term_n, wrote}

-- ---- its certificate: kinds, names, writers, roots

pub data KindAt : ℕ → Kind → Type 0 where
  kind_0 : KindAt 0 (delays ((0 ∷ 5 ∷ []) ∷ []))
  kind_1 : KindAt 1 (mixed ((6 ∷ []) ∷ []))
  kind_2 : KindAt 2 (delays ((2 ∷ []) ∷ []))
  kind_3 : KindAt 3 edges

pub kind_at : (g : Global) (digit : Digit) (grain : Grain) (i : ℕ) (kind : Kind) → kind_of (resetting g digit) (reset_claims grain) i ≡ Some kind → KindAt i kind
kind_at g digit grain zero kind is = subst (KindAt 0) (same_Some (delays ((0 ∷ 5 ∷ []) ∷ [])) kind is) kind_0
kind_at g digit grain (suc zero) kind is = subst (KindAt 1) (same_Some (mixed ((6 ∷ []) ∷ [])) kind is) kind_1
kind_at g digit grain (suc (suc zero)) kind is = subst (KindAt 2) (same_Some (delays ((2 ∷ []) ∷ [])) kind is) kind_2
kind_at g digit grain (suc (suc (suc zero))) kind is = subst (KindAt 3) (same_Some edges kind is) kind_3
kind_at g digit grain (suc (suc (suc (suc i)))) kind is = absurd (none-some kind is)

pub no_block : (g : Global) (digit : Digit) (grain : Grain) (i : ℕ) → IsBlock (resetting g digit) (reset_claims grain) i → ⊥
no_block g digit grain i h = never i h.0 (kind_at g digit grain i (block h.0) h.1)
  where
    never : (i : ℕ) (start : Start) → KindAt i (block start) → ⊥
    never i start k = elim k [ ]

pub edge_is : (i : ℕ) → KindAt i edges → i ≡ 3
edge_is _ kind_3 = refl

-- the lists of a process
pub data ListsAt : ℕ → List (List ℕ) → Type 0 where
  lists_0 : ListsAt 0 ((0 ∷ 5 ∷ []) ∷ [])
  lists_1 : ListsAt 1 ((6 ∷ []) ∷ [])
  lists_2 : ListsAt 2 ((2 ∷ []) ∷ [])

delays_at : (i : ℕ) (lists : List (List ℕ)) → KindAt i (delays lists) → ListsAt i lists
delays_at _ _ kind_0 = lists_0
delays_at _ _ kind_2 = lists_2

mixed_at : (i : ℕ) (lists : List (List ℕ)) → KindAt i (mixed lists) → ListsAt i lists
mixed_at _ _ kind_1 = lists_1

pub lists_at : (g : Global) (digit : Digit) (grain : Grain) (i : ℕ) (lists : List (List ℕ)) → WaitsForTimes (resetting g digit) (reset_claims grain) i lists → ListsAt i lists
lists_at g digit grain i lists (inl is) = delays_at i lists (kind_at g digit grain i (delays lists) is)
lists_at g digit grain i lists (inr is) = mixed_at i lists (kind_at g digit grain i (mixed lists) is)

pub data NameAt : ℕ → Name → Type 0 where
  name_c : NameAt 0 (signal_in_t 99)
  name_r : NameAt 1 (signal_in_t 114)
  name_d : NameAt 2 (signal_in_t 100)
  name_q : NameAt 3 (signal_in_t 113)
  name_n : NameAt 4 (signal_in_t 110)

pub name_at : (g : Global) (digit : Digit) (v : ℕ) (name : Name) → IsSignalNamed (resetting g digit) v name → NameAt v name
name_at g digit zero name is = subst (NameAt 0) (same_Some (signal_in_t 99) name is) name_c
name_at g digit (suc zero) name is = subst (NameAt 1) (same_Some (signal_in_t 114) name is) name_r
name_at g digit (suc (suc zero)) name is = subst (NameAt 2) (same_Some (signal_in_t 100) name is) name_d
name_at g digit (suc (suc (suc zero))) name is = subst (NameAt 3) (same_Some (signal_in_t 113) name is) name_q
name_at g digit (suc (suc (suc (suc zero)))) name is = subst (NameAt 4) (same_Some (signal_in_t 110) name is) name_n
name_at g digit (suc (suc (suc (suc (suc v))))) name is = absurd (none-some name is)

same_digit : (x z : ℕ) → process_in_t x ≡ process_in_t z → x ≡ z
same_digit x z e = cc

-- a process by the last character of its name
who : (g : Global) (digit : Digit) (a i : ℕ) → names_process (Some (process_in_t a)) (slice_get (resetting g digit).processes i) ≡ true → a ≡ i + 48
who g digit a zero h = same_digit a 48 ((bytes_eq-Decides (process_in_t a) (process_in_t 48)).0 h)
who g digit a (suc zero) h = same_digit a 49 ((bytes_eq-Decides (process_in_t a) (process_in_t 49)).0 h)
who g digit a (suc (suc zero)) h = same_digit a 50 ((bytes_eq-Decides (process_in_t a) (process_in_t 50)).0 h)
who g digit a (suc (suc (suc zero))) h = same_digit a 51 ((bytes_eq-Decides (process_in_t a) (process_in_t 51)).0 h)
who g digit a (suc (suc (suc (suc i)))) h = absurd (false≢true h)

pub data WriterAt : ℕ → ℕ → Type 0 where
  writer_c : WriterAt 0 0
  writer_r : WriterAt 1 2
  writer_d : WriterAt 2 1
  writer_q : WriterAt 3 3

pub writer_at : (g : Global) (digit : Digit) (grain : Grain) (v i : ℕ) → IsWriter (resetting g digit) (reset_claims grain) v i → WriterAt v i
writer_at g digit grain zero i h = let at = who g digit 48 i h in let is : 0 ≡ i = omega (arith, at) in subst (WriterAt 0) is writer_c
writer_at g digit grain (suc zero) i h = let at = who g digit 50 i h in let is : 2 ≡ i = omega (arith, at) in subst (WriterAt 1) is writer_r
writer_at g digit grain (suc (suc zero)) i h = let at = who g digit 49 i h in let is : 1 ≡ i = omega (arith, at) in subst (WriterAt 2) is writer_d
writer_at g digit grain (suc (suc (suc zero))) i h = let at = who g digit 51 i h in let is : 3 ≡ i = omega (arith, at) in subst (WriterAt 3) is writer_q
writer_at g digit grain (suc (suc (suc (suc zero)))) i h = absurd (false≢true h)
writer_at g digit grain (suc (suc (suc (suc (suc v))))) i h = absurd (false≢true h)

pub data SecondAt : ℕ → ℕ → Type 0 where
  second_c : SecondAt 0 1
  second_r : SecondAt 1 1

pub second_at : (g : Global) (digit : Digit) (grain : Grain) (v i : ℕ) → IsSecond (resetting g digit) (reset_claims grain) v i → SecondAt v i
second_at g digit grain zero i h = let at = who g digit 49 i h in let is : 1 ≡ i = omega (arith, at) in subst (SecondAt 0) is second_c
second_at g digit grain (suc zero) i h = let at = who g digit 49 i h in let is : 1 ≡ i = omega (arith, at) in subst (SecondAt 1) is second_r
second_at g digit grain (suc (suc zero)) i h = absurd (false≢true h)
second_at g digit grain (suc (suc (suc zero))) i h = absurd (false≢true h)
second_at g digit grain (suc (suc (suc (suc zero)))) i h = absurd (false≢true h)
second_at g digit grain (suc (suc (suc (suc (suc v))))) i h = absurd (false≢true h)

-- of `t.c` the root is itself, of `t.n` it is `t.r`
pub data RootAt : ℕ → ℕ → Type 0 where
  root_c : RootAt 0 0
  root_n : RootAt 1 4

root_of_c : (root v : ℕ) → NameAt root (signal_in_t 99) → NameAt v (signal_in_t 99) → RootAt root v
root_of_c _ _ name_c name_c = root_c

root_of_n : (root v : ℕ) → NameAt root (signal_in_t 114) → NameAt v (signal_in_t 110) → RootAt root v
root_of_n _ _ name_r name_n = root_n

pub root_at : (g : Global) (digit : Digit) (grain : Grain) (root v : ℕ) → IsRootOf (resetting g digit) (reset_claims grain) root v → RootAt root v
root_at g digit grain root v h = at_place h.place h.entry h.is (name_at g digit root h.entry.root h.root_is) (name_at g digit v h.entry.signal h.signal)
  where
    at_place : (n : ℕ) (entry : EdgeClaim) → slice_get (reset_claims grain).edges n ≡ Some entry → NameAt root entry.root → NameAt v entry.signal → RootAt root v
    at_place zero entry is one other =
        let same : record { root = signal_in_t 99; signal = signal_in_t 99 } ≡ entry = same_Some _ entry is in
        root_of_c root v (subst (λ (x : EdgeClaim). NameAt root x.root) (sym same) one) (subst (λ (x : EdgeClaim). NameAt v x.signal) (sym same) other)
    at_place (suc zero) entry is one other =
        let same : record { root = signal_in_t 114; signal = signal_in_t 110 } ≡ entry = same_Some _ entry is in
        root_of_n root v (subst (λ (x : EdgeClaim). NameAt root x.root) (sym same) one) (subst (λ (x : EdgeClaim). NameAt v x.signal) (sym same) other)
    at_place (suc (suc n)) entry is one other = absurd (none-some entry is)

-- ---- its texts

pub data Written : ℕ → ℕ → Type 0 where
  turns : Written 0 0
  first_of_c : Written 1 0
  first_of_r : Written 1 1
  first_of_d : Written 1 2
  later_of_r : Written 2 1
  takes_q : Written 3 3

abbrev ranges_of : ℕ → List BitRange
ranges_of zero = slice_range (the_bit 0) ∷ []
ranges_of (suc zero) = slice_range (the_bit 0) ∷ slice_range (the_bit 1) ∷ slice_range (the_bit 2) ∷ []
ranges_of (suc (suc zero)) = slice_range (the_bit 1) ∷ []
ranges_of (suc (suc (suc zero))) = slice_range (the_bit 3) ∷ []
ranges_of (suc (suc (suc (suc i)))) = []

texts : (g : Global) (digit : Digit) (i : ℕ) → outputs (resetting g digit) i ≡ ranges_of i
texts g digit zero = writes_forever g 0 (half g) ∙ writes_delay g 1 five (turned g) ∙ writes_assign 2 (target g 0) (negated g)
texts g digit (suc zero) = simp (writes_block, writes_event, writes_delay, writes_assign)
texts g digit (suc (suc zero)) = writes_delay g 0 (ticks_before 1) (sets g 1) ∙ writes_assign 1 (target g 1) (e.Number (One ∷ []))
texts g digit (suc (suc (suc zero))) =
    writes_forever g 0 (listens g) ∙ writes_event g 1 (two_of g rise fall) (copies_later g 3 2) ∙ writes_later 2 no_ticks (target g 3) (operand 2)
texts g digit (suc (suc (suc (suc i)))) = refl

abbrev WrittenIn : ℕ → BitRange → Type 0
WrittenIn i r = Written i r.signal

written_in : (i : ℕ) → Each (WrittenIn i) (ranges_of i)
written_in zero = (turns, tt)
written_in (suc zero) = (first_of_c, (first_of_r, (first_of_d, tt)))
written_in (suc (suc zero)) = (later_of_r, tt)
written_in (suc (suc (suc zero))) = (takes_q, tt)
written_in (suc (suc (suc (suc i)))) = tt

pub written : (g : Global) (digit : Digit) (i v : ℕ) → Writes (resetting g digit) i v → Written i v
written g digit i v w =
    subst (Written i) w.of (each_in (WrittenIn i) (ranges_of i) (written_in i) w.range (subst (λ rs. Contains rs w.range) (texts g digit i) w.listed.0))

pub writes_it : (g : Global) (digit : Digit) (i v : ℕ) → Contains (ranges_of i) (slice_range (the_bit v)) → Writes (resetting g digit) i v
writes_it g digit i v has = record { range = slice_range (the_bit v); listed = (subst (λ rs. Contains rs (slice_range (the_bit v))) (sym (texts g digit i)) has, tt); of = refl }

abbrev pub controls_are : ℕ → List ℕ
controls_are zero = 1 ∷ []
controls_are (suc zero) = 3 ∷ []
controls_are (suc (suc zero)) = 0 ∷ []
controls_are (suc (suc (suc i))) = []

pub controls : (g : Global) (digit : Digit) (i : ℕ) (lists : List (List ℕ)) → ListsAt i lists → controls_of (resetting g digit) i ≡ controls_are i
controls g digit _ _ lists_0 = controls_forever g 0 (half g) ∙ controls_delay g 1 five (turned g) ∙ ap (λ ns. 1 ∷ ns) (controls_assign 2 (target g 0) (negated g))
controls g digit _ _ lists_1 = simp (controls_block, controls_event, controls_delay, controls_assign)
controls g digit _ _ lists_2 = controls_delay g 0 (ticks_before 1) (sets g 1) ∙ ap (λ ns. 0 ∷ ns) (controls_assign 1 (target g 1) (e.Number (One ∷ [])))

-- a control ends at these residues, by the numbers of the controls
abbrev EndsBy : List (List ℕ) → ℕ → ℕ → List ℕ → Type 0
EndsBy lists number r ns = Contains (list_of ns lists number) r

pub ends_of : (g : Global) (digit : Digit) (i : ℕ) (lists : List (List ℕ)) (number r : ℕ) → ListsAt i lists → EndsBy lists number r (controls_of (resetting g digit) i) →
    EndsBy lists number r (controls_are i)
ends_of g digit i lists number r at h = subst (EndsBy lists number r) (controls g digit i lists at) h

pub ends_so : (g : Global) (digit : Digit) (i : ℕ) (lists : List (List ℕ)) (number r : ℕ) → ListsAt i lists → EndsBy lists number r (controls_are i) →
    EndsBy lists number r (controls_of (resetting g digit) i)
ends_so g digit i lists number r at h = subst (EndsBy lists number r) (sym (controls g digit i lists at)) h

-- ---- the clock, and the copy

one_bit : (g : Global) (digit : Digit) (v : ℕ) (s : Signal) → slice_get (resetting g digit).signals v ≡ Some s → s.width ≡ 1 → s.count ≡ 1 → s.words ≡ None → IsOneBit (resetting g digit) v
one_bit g digit v s is width count words = (s, is, width, count, words)

whole_name : (g : Global) (digit : Digit) (v a : ℕ) → slice_get (resetting g digit).signals v ≡ Some (bit g a Reg) →
    IsWholeName (resetting g digit) v (record { signal = v; width = 1; signed = false; sized = (lit< tt, lit≤ tt) })
whole_name g digit v a is = record { signal = bit g a Reg; is = is; no_array = refl; count = refl; of = refl; width = refl }

whole_target : (g : Global) (digit : Digit) (v a : ℕ) (kind : SignalKind) → slice_get (resetting g digit).signals v ≡ Some (bit g a kind) → IsWholeTarget (resetting g digit) v (target g v)
whole_target g digit v a kind is = record {
  slice = the_bit v;
  only = refl;
  whole = record { signal = bit g a kind; is = is; no_array = refl; count = refl; of = refl; word = refl; low = refl; width = refl };
}

turns_forever : (g : Global) (digit : Digit) → TurnsForever (resetting g digit) true 0 5 (clock g)
unfolding out-Statement out-Typed denote.Hole.Carrier.out
turns_forever g digit = record {
  number = 0;
  inner = boxed g (half g);
  is = bare (clock g) _ refl;
  turns = record {
    number = 1;
    ticks = five;
    inner = boxed g (turned g);
    is = bare (half g) _ refl;
    half_is = refl;
    above = lit< tt;
    assigns = 2;
    target = target g 0;
    value = negated g;
    body = bare (turned g) _ refl;
    whole = whole_target g digit 0 99 Reg refl;
    inverse = (refl, whole_name g digit 0 99 refl);
  };
}

-- what the constants give
pub gives_c : (g : Global) (rest : Todo) → Gives (perform (gives g 0 0 Zero) ∷ rest) (bit_of 0) Zero
unfolding out-Statement denote.Hole.Carrier.out
gives_c g rest = rw (reads_number (Zero ∷ []), value_number (Zero ∷ []) [] 0) refl

pub gives_digit : (g : Global) (digit : Digit) (rest : Todo) → Gives (perform (gives g 1 1 digit) ∷ rest) (bit_of 1) digit
unfolding out-Statement denote.Hole.Carrier.out
gives_digit g digit rest = rw (reads_number (digit ∷ []), value_number (digit ∷ []) [] 0) refl

writes_first : (g : Global) (digit : Digit) → WritesNow (resetting g digit) (from_c g digit) 0
unfolding out-Statement denote.Hole.Carrier.out
writes_first g digit = record { range = slice_range (the_bit 0); listed = ((0, lit< tt, refl), tt); of = refl }

-- t#p1 writes `c` by `c = 0` alone, and nothing by `<=`
sets_alike : (g : Global) (digit : Digit) → SetsAlike (resetting g digit) 0 Zero 1
sets_alike g digit = record {
  known = known_zero;
  at = from_c g digit;
  point = subst (λ k. Point k (from_c g digit)) (sym (first_is g digit)) Point.begins;
  writes = writes_first g digit;
  now = λ k point w. let r = row_at g digit 1 k point in never (made (resetting g digit) 0 (facts r.spot) w);
  gives = λ k point w. let r = row_at g digit 1 k point in alike (wrote (resetting g digit) 0 (facts r.spot) w) r.spot;
}
  where
    never : {a : Act} → Made a 0 → ⊥
    never m = elim m [ ]

    alike : {k : Todo} {n : Next} {a : Act} {early : Bool} → Wrote a 0 → Spot g digit 1 k n a early → Gives k (bit_of 0) Zero
    alike (by_constant _ _) starts_c = gives_c g (from_r g digit)
    alike by_turn s = elim s [ ]

is_clock : (g : Global) (digit : Digit) (grain : Grain) → IsClock (resetting g digit) (reset_claims grain) 0 Zero 0 5
is_clock g digit grain =
    two 0 1 Always refl (inl refl) (record { process = always g 48 (clock g); is = refl; kind_is = refl; body = turns_forever g digit }) (sets_alike g digit) refl
    (λ i w. by_text i (written g digit i 0 w))
  where
    by_text : (i : ℕ) → Written i 0 → (i ≡ 0) ⊎ (i ≡ 1)
    by_text _ turns = inl refl
    by_text _ first_of_c = inr refl

-- a variable shows nothing inverted
never_odd : (g : Global) (digit : Digit) (root : ℕ) (c : CopiesRoot (resetting g digit) true root 0) → is_odd c ≡ true → ⊥
never_odd g digit _ (itself one) odd = false≢true odd
never_odd g digit root (copy _ u one link rest) odd =
    true≢false (ap (λ (s : Signal). is_variable s.kind) (same_Some (bit g 99 Reg) link.is_net.0 link.is_net.1) ∙ link.is_net.2)
never_odd g digit root (inverse _ u wide one link rest) odd =
    true≢false (ap (λ (s : Signal). is_variable s.kind) (same_Some (bit g 99 Reg) link.is_net.0 link.is_net.1) ∙ link.is_net.2)

pub not_inverted : (g : Global) (digit : Digit) → IsInverted (resetting g digit) true 0 → ⊥
not_inverted g digit h = never_odd g digit h.root h.copies h.odd

net_inverts : (g : Global) (digit : Digit) → IsInverseCopy (resetting g digit) 4 1
unfolding out-Typed denote.Hole.Carrier.out
net_inverts g digit = record {
  is_net = (bit g 110 Wire, refl, refl);
  number = 0;
  assign = the_inverse g;
  is = refl;
  whole = whole_target g digit 4 110 Wire refl;
  copies = whole_name g digit 1 114 refl;
  same = λ s t at_n at_r. ap (λ (x : Signal). x.width) (sym (same_Some (bit g 110 Wire) s at_n)) ∙ ap (λ (x : Signal). x.width) (same_Some (bit g 114 Reg) t at_r);
  alone = λ j a at listed. only_one j a at;
}
  where
    only_one : (j : ℕ) (a : Assign) → slice_get (resetting g digit).assigns j ≡ Some a → j ≡ 0
    only_one zero a at = refl
    only_one (suc j) a at = absurd (none-some a at)

pub copies_r : (g : Global) (digit : Digit) → CopiesRoot (resetting g digit) true 1 4
copies_r g digit = inverse 4 1 refl (one_bit g digit 4 (bit g 110 Wire) refl refl refl refl) (net_inverts g digit) (itself (one_bit g digit 1 (bit g 114 Reg) refl refl refl refl))

pub is_inverted : (g : Global) (digit : Digit) → IsInverted (resetting g digit) true 4
unfolding copies_r
is_inverted g digit = record { root = 1; variable = (bit g 114 Reg, refl, refl); copies = copies_r g digit; odd = refl }

-- ---- when its edges come

pub never_ends : (d : _) (c : _) (i : ℕ) (kind : Option Kind) (l : Todo) (r : ℕ) → Ends d c i kind (on l) r → ⊥
never_ends d c i None l r h = h
never_ends d c i (Some (block start)) l r h = h
never_ends d c i (Some edges) l r h = h
never_ends d c i (Some (delays lists)) l r h = h
never_ends d c i (Some (mixed lists)) l r (inl h) = h
never_ends d c i (Some (mixed lists)) l r (inr h) = h

-- the clock turns at 0 and at 5
abbrev pub Ticks : ℕ → Type 0
Ticks r = Contains (0 ∷ 5 ∷ []) r

abbrev pub lists_c : List (List ℕ)
lists_c = (0 ∷ 5 ∷ []) ∷ []

ticks_c : {c : Next} {k : Todo} {n : Next} {a : Act} (g : Global) (digit : Digit) (r : ℕ) → Run g 0 c k n a → DelayEnds (resetting g digit) 0 lists_c c r → Ticks r
ticks_c g digit r run_turns ends = ends_of g digit 0 lists_c 1 r lists_0 ends
ticks_c g digit r run_loops ends = ends_of g digit 0 lists_c 1 r lists_0 ends
ticks_c g digit r run_pauses ends = ends_of g digit 0 lists_c 1 r lists_0 ends

-- `r` is set at 2
abbrev lists_r : List (List ℕ)
lists_r = (2 ∷ []) ∷ []

ticks_r : {c : Next} {k : Todo} {n : Next} {a : Act} (g : Global) (digit : Digit) (r : ℕ) → Run g 2 c k n a → DelayEnds (resetting g digit) 2 lists_r c r → 2 ≡ r
ticks_r g digit r run_sets ends = one_in 2 r (ends_of g digit 2 lists_r 0 r lists_2 ends)
ticks_r g digit r run_set ends = one_in 2 r (ends_of g digit 2 lists_r 0 r lists_2 ends)

-- where a writer of kind delay runs
pub run_of : (g : Global) (digit : Digit) (i : ℕ) (lists : List (List ℕ)) (k : Todo) (r : ℕ) (h : RunsByDelays (resetting g digit) true i lists k r) → Ran g i h.next k
run_of g digit i lists k r h = ran_at g digit true i (DelayEnds (resetting g digit) i lists) k r (λ l e. e) h

-- the rising edge of the clock comes at 5: it is in phase
in_phase : (r : ℕ) → Ticks r → r % 10 ≡ 5 → 5 ≡ r
in_phase r at is = each_in (λ n. n % 10 ≡ 5 → 5 ≡ n) (0 ∷ 5 ∷ []) ((λ e. absurd (differ 0 5 refl e)), ((λ e. refl), tt)) r at is

rise_by : (g : Global) (digit : Digit) (grain : Grain) (root w : ℕ) (lists : List (List ℕ)) (k : Todo) (r : ℕ) → RootAt root 0 → IsWriter (resetting g digit) (reset_claims grain) root w →
    HasLists (resetting g digit) (reset_claims grain) w lists → RunsByDelays (resetting g digit) true w lists k r → InPhase (resetting g digit) (reset_claims grain) root Posedge r → 5 ≡ r
rise_by g digit grain _ w lists k r root_c writer kind run phase =
    by_writer w lists (writer_at g digit grain 0 w writer) (kind_at g digit grain w (delays lists) kind) run
  where
    by_writer : (w : ℕ) (lists : List (List ℕ)) → WriterAt 0 w → KindAt w (delays lists) → RunsByDelays (resetting g digit) true w lists k r → 5 ≡ r
    by_writer _ _ writer_c kind_0 run =
        let at = run_of g digit 0 lists_c k r run in
        in_phase r (ticks_c g digit r at.run run.starts) (phase Zero 0 5 (is_clock g digit grain) refl)

pub fires_rise : (g : Global) (digit : Digit) (grain : Grain) (r : ℕ) → Fires (resetting g digit) (reset_claims grain) rise r → 5 ≡ r
fires_rise g digit grain r h =
    rise_by g digit grain h.root h.writer h.lists h.at r (root_at g digit grain h.root 0 h.is_root) h.is_writer h.kind h.runs
    (subst (λ (e : Edge). InPhase (resetting g digit) (reset_claims grain) h.root e r) (h.seen.plain (not_inverted g digit)) h.in_phase)

-- the falling edge of `n` comes at 2
fall_by : (g : Global) (digit : Digit) (grain : Grain) (root w : ℕ) (lists : List (List ℕ)) (k : Todo) (r : ℕ) → RootAt root 4 → IsWriter (resetting g digit) (reset_claims grain) root w →
    HasLists (resetting g digit) (reset_claims grain) w lists → RunsByDelays (resetting g digit) true w lists k r → 2 ≡ r
fall_by g digit grain _ w lists k r root_n writer kind run =
    by_writer w lists (writer_at g digit grain 1 w writer) (kind_at g digit grain w (delays lists) kind) run
  where
    by_writer : (w : ℕ) (lists : List (List ℕ)) → WriterAt 1 w → KindAt w (delays lists) → RunsByDelays (resetting g digit) true w lists k r → 2 ≡ r
    by_writer _ _ writer_r kind_2 run =
        let at = run_of g digit 2 lists_r k r run in
        ticks_r g digit r at.run run.starts

pub fires_fall : (g : Global) (digit : Digit) (grain : Grain) (r : ℕ) → Fires (resetting g digit) (reset_claims grain) fall r → 2 ≡ r
fires_fall g digit grain r h =
    fall_by g digit grain h.root h.writer h.lists h.at r (root_at g digit grain h.root 4 h.is_root) h.is_writer h.kind h.runs

-- a term of this root comes at this residue
pub data Timed : ℕ → ℕ → Type 0 where
  timed_c : Timed 0 5
  timed_r : Timed 1 2

rise_timed : (root r : ℕ) → RootAt root 0 → 5 ≡ r → Timed root r
rise_timed _ r root_c is = subst (Timed 0) is timed_c

fall_timed : (root r : ℕ) → RootAt root 4 → 2 ≡ r → Timed root r
fall_timed _ r root_n is = subst (Timed 1) is timed_r

timed_by : (g : Global) (digit : Digit) (grain : Grain) (i root r : ℕ) (t : EventTerm) → TermAt i t → IsRootOf (resetting g digit) (reset_claims grain) root t.range.signal →
    Fires (resetting g digit) (reset_claims grain) t r → Timed root r
timed_by g digit grain _ root r _ term_1 is fires = rise_timed root r (root_at g digit grain root 0 is) (fires_rise g digit grain r fires)
timed_by g digit grain _ root r _ term_3 is fires = rise_timed root r (root_at g digit grain root 0 is) (fires_rise g digit grain r fires)
timed_by g digit grain _ root r _ term_n is fires = fall_timed root r (root_at g digit grain root 4 is) (fires_fall g digit grain r fires)

pub timed : (g : Global) (digit : Digit) (grain : Grain) (i root r : ℕ) → FiresOf (resetting g digit) (reset_claims grain) i root r → Timed root r
timed g digit grain i root r h = timed_by g digit grain i root r h.term (term_at g digit i h.term h.has) h.is_root h.fires
