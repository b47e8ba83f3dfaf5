-- When edges come in designs in which the order of steps tells.
use Rattle.std.proofs.Common.{◌≡◌, ℕ, zero, suc, ◌*◌, ◌%◌, ◌<◌, true, false, Some, List, [], ◌∷◌, slice_get, refl, sym, ◌∙◌, ap, subst, inl, lit<, arith}
use Rattle.std.proofs.Math.Nat.{mod-eq_of_lt}
use Rattle.std.proofs.lemmas.Bool.{false≢true, true≢false}
use Rattle.std.proofs.lemmas.Option.{none-some, same_Some}
use Rattle.std.specs.declared.alloc.Global.{Global}
use Rattle.std.specs.List.{Contains}
use Rattle.vs_design.specs.vs_logic4.specs.declared.digit.Digit.{Digit}
use Rattle.vs_design.specs.vs_logic4.specs.declared.digit.Digit.TheVariants.{Zero, One}
use Rattle.vs_design.specs.vs_logic4.specs.declared.edge.Edge.{Edge}
use Rattle.vs_design.specs.vs_logic4.specs.declared.edge.Edge.TheVariants.{Posedge}
use Rattle.vs_design.specs.declared.design.Assign.{Assign}
use Rattle.vs_design.specs.declared.expression.Typed.{out-Typed}
use Rattle.vs_design.specs.declared.signal.Signal.{Signal}
use Rattle.vs_design.specs.declared.signal.SignalKind.TheVariants.{Reg, Wire}
use Rattle.vs_design.specs.declared.statement.EventTerm.{EventTerm}
use Rattle.vs_design.specs.declared.statement.Statement.{Statement, out-Statement}
use Rattle.vs_design.specs.Kinds.{is_variable}
use Rattle.vs_design.specs.Parts.{Parts}
use Rattle.vs_design.specs.Uses.{slice_range}
use Rattle.vs_independence.specs.vs_process.specs.declared.moves.Grain.{Grain}
use Rattle.vs_process.specs.declared.gait.Gait.TheVariants.{Fresh}
use Rattle.vs_process.specs.Places.{active_at, perform, todo_of, Todo}
use Rattle.vs_process.specs.Steps.{after}
use Rattle.vs_process.proofs.Shapes.{flat-Block}
use Rattle.vs_rules.specs.Claims.{Claims, EdgeClaim, Kind, mixed, HasKind, IsRootOf}
use Rattle.vs_rules.specs.Constants.{Gives, IsClock, alone, bit_of, two}
use Rattle.vs_rules.specs.Controls.{controls_of, list_of}
use Rattle.vs_rules.specs.Copies.{CopiesRoot, IsInverseCopy, IsInverted, SeenAs, copy, inverse, is_odd, itself}
use Rattle.vs_rules.specs.Paths.{IsPoint, PathBy, WritesNow}
use Rattle.vs_rules.specs.Points.{Among, Point, first_todo}
use Rattle.vs_rules.specs.Slots.{Fires, InPhase, RunsByDelays, counts}
use Rattle.vs_laws.specs.Counterexamples.{claims, fall_of_n, inverts, one_later, own_edge, pulse, pulsed, pulsed_claims, rises, waiting}
use Rattle.vs_laws.specs.Race.{bit, the_bit}
use Rattle.vs_laws.specs.Resets.{gives}
use Rattle.vs_laws.specs.Rise.{rise}
use Rattle.vs_laws.specs.Roots.{rise_of, two_of}
use Rattle.vs_laws.proofs.Race.{reads_number, value_number}
use Rattle.vs_laws.proofs.Texts.{controls_assign, controls_block, controls_delay, differ}

-- ---- where the modulus is 1, no clock tells a phase

above : (d : Parts) (c : Claims) (v : ℕ) (digit : Digit) (offset half : ℕ) → IsClock d c v digit offset half → 0 < half
above d c v digit offset half (alone i writer body) = body.body.turns.turns.above
above d c v digit offset half (two i j kind writer may body sets none others) = body.body.turns.above

no_phase : (d : Parts) (c : Claims) (root : ℕ) (edge : Edge) (r : ℕ) → c.modulus ≡ 1 → InPhase d c root edge r
no_phase d c root edge r one = λ digit offset half clock divides.
    let one_is : 1 % (2 * half) ≡ 0 = subst (λ m. m % (2 * half) ≡ 0) one divides in
    let more = above d c root digit offset half clock in
    let small : 1 < 2 * half = omega (arith, more) in
    absurd (differ 1 0 refl (sym (mod-eq_of_lt small) ∙ one_is))

-- ---- what n and the variables show

one_kind : (d : Parts) (v : ℕ) → HasKind true d v → HasKind false d v → ⊥
one_kind d v (s, is, variable) (t, also, net) =
    true≢false (sym variable ∙ ap (λ (x : Signal). is_variable x.kind) (same_Some s t (sym is ∙ also)) ∙ net)

never_odd : (d : Parts) (root v : ℕ) → HasKind true d v → (c : CopiesRoot d true root v) → is_odd c ≡ true → ⊥
never_odd d root _ variable (itself one) odd = false≢true odd
never_odd d root _ variable (copy v u one link rest) odd = one_kind d v variable link.is_net
never_odd d root _ variable (inverse v u wide one link rest) odd = one_kind d v variable link.is_net

-- a rise of a variable is one of itself
pub seen_plain : (d : Parts) (v : ℕ) → HasKind true d v → SeenAs d true (rise_of v) Posedge
seen_plain d v variable = record {
  plain = λ other. refl;
  inverse = λ is. absurd (never_odd d is.root v variable is.copies is.odd);
}

n_inverts : (g : Global) (setter waiter : Statement) → IsInverseCopy (waiting g setter waiter) 3 0
unfolding out-Typed denote.Hole.Carrier.out
n_inverts g setter waiter = record {
  is_net = (bit g 110 Wire, refl, refl);
  number = 0;
  assign = inverts g;
  is = refl;
  whole = record {
    slice = the_bit 3;
    only = refl;
    whole = record { signal = bit g 110 Wire; is = refl; no_array = refl; count = refl; of = refl; word = refl; low = refl; width = refl };
  };
  copies = record { signal = bit g 97 Reg; is = refl; no_array = refl; count = refl; of = refl; width = refl };
  same = λ s t at_n at_a.
      ap (λ (x : Signal). x.width) (sym (same_Some (bit g 110 Wire) s at_n))
      ∙ ap (λ (x : Signal). x.width) (same_Some (bit g 97 Reg) t at_a);
  alone = λ j a at listed. only_one j a at;
}
  where
    only_one : (j : ℕ) (a : Assign) → slice_get (waiting g setter waiter).assigns j ≡ Some a → j ≡ 0
    only_one zero a at = refl
    only_one (suc j) a at = absurd (none-some a at)

n_copies : (g : Global) (setter waiter : Statement) → CopiesRoot (waiting g setter waiter) true 0 3
n_copies g setter waiter =
    inverse 3 0 refl (bit g 110 Wire, refl, refl, refl, refl) (n_inverts g setter waiter) (itself (bit g 97 Reg, refl, refl, refl, refl))

-- a fall of n is a rise of `a`
pub seen_inverse : (g : Global) (setter waiter : Statement) → SeenAs (waiting g setter waiter) true fall_of_n Posedge
unfolding n_copies
seen_inverse g setter waiter = record { plain = λ other. absurd (other is); inverse = λ inverted. refl }
  where
    is : IsInverted (waiting g setter waiter) true 3
    is = record { root = 0; variable = (bit g 97 Reg, refl, refl); copies = n_copies g setter waiter; odd = refl }

-- ---- the writes of `a` and `c`

pub gives_a : (g : Global) (number : ℕ) (rest : Todo) → Gives (perform (gives g number 0 One) ∷ rest) (bit_of 0) One
unfolding out-Statement denote.Hole.Carrier.out
gives_a g number rest = rw (reads_number (One ∷ []), value_number (One ∷ []) [] 0) refl

gives_c : (g : Global) (number : ℕ) (rest : Todo) → Gives (perform (gives g number 2 One) ∷ rest) (bit_of 2) One
unfolding out-Statement denote.Hole.Carrier.out
gives_c g number rest = rw (reads_number (One ∷ []), value_number (One ∷ []) [] 0) refl

pub writes_it : (d : Parts) (g : Global) (number v : ℕ) (rest : Todo) → WritesNow d (perform (gives g number v One) ∷ rest) v
unfolding out-Statement denote.Hole.Carrier.out
writes_it d g number v rest = record { range = slice_range (the_bit v); listed = ((0, lit< tt, refl), tt); of = refl }

-- it counts for a rise
counted : (k : Todo) (v : ℕ) (digit : Digit) → Gives k (bit_of v) One → Gives k (bit_of v) digit → counts Posedge digit ≡ true
counted k v digit one is = subst (λ d. counts Posedge d ≡ true) (same_Some One digit (sym one ∙ is)) refl

-- from `#1 a = 1` on, from `a = 1` on, from `c = 1` on
abbrev pulsing : Global → Todo
pulsing g = perform (one_later g 0 (gives g 1 0 One)) ∷ perform (one_later g 2 (gives g 3 0 Zero)) ∷ []

abbrev pub rising_a : Global → Todo
rising_a g = perform (gives g 1 0 One) ∷ perform (one_later g 2 (gives g 3 0 Zero)) ∷ []

abbrev rising_c : Global → Todo
rising_c g = perform (gives g 1 2 One) ∷ []

-- the block is opened
starts_a : (g : Global) (waiter : Statement) → IsPoint (pulsed g waiter) 0 (pulsing g)
unfolding out-Statement denote.Hole.Carrier.out
starts_a g waiter =
    let opened : first_todo (pulsed g waiter) 0 ≡ pulsing g =
    ap (λ k. todo_of (active_at Fresh k)) (flat-Block (two_of g (one_later g 0 (gives g 1 0 One)) (one_later g 2 (gives g 3 0 Zero)))) in
    subst (λ k. Point k (pulsing g)) (sym opened) Point.begins

abbrev pub lists_a : List (List ℕ)
lists_a = (0 ∷ []) ∷ (0 ∷ []) ∷ []

controls_a : (g : Global) (waiter : Statement) → controls_of (pulsed g waiter) 0 ≡ 0 ∷ 2 ∷ []
controls_a g waiter = simp (controls_block, controls_delay, controls_assign)

controls_c : (g : Global) (waiter : Statement) → controls_of (pulsed g waiter) 1 ≡ 0 ∷ []
controls_c g waiter = simp (controls_delay, controls_assign)

pub runs_a : (g : Global) (waiter : Statement) → RunsByDelays (pulsed g waiter) true 0 lists_a (rising_a g) 0
unfolding out-Statement denote.Hole.Carrier.out
runs_a g waiter = record {
  at = pulsing g;
  next = after 0 1 (rising_a g);
  point = starts_a g waiter;
  goes = Among.first [];
  starts = subst (λ ns. Contains (list_of ns lists_a 0) 0) (sym (controls_a g waiter)) (0, lit< tt, refl);
  path = PathBy.begins;
}

runs_c : (g : Global) (waiter : Statement) → RunsByDelays (pulsed g waiter) true 1 ((0 ∷ []) ∷ []) (rising_c g) 0
unfolding out-Statement denote.Hole.Carrier.out
runs_c g waiter = record {
  at = perform (rises g) ∷ [];
  next = after 0 1 (rising_c g);
  point = Point.begins;
  goes = Among.first [];
  starts = subst (λ ns. Contains (list_of ns ((0 ∷ []) ∷ []) 0) 0) (sym (controls_c g waiter)) (0, lit< tt, refl);
  path = PathBy.begins;
}

pub point_a : (g : Global) (waiter : Statement) → IsPoint (pulsed g waiter) 0 (rising_a g)
unfolding out-Statement denote.Hole.Carrier.out
point_a g waiter = Point.waits (pulsing g) (rising_a g) 0 1 (starts_a g waiter) (Among.first [])

point_c : (g : Global) (waiter : Statement) → IsPoint (pulsed g waiter) 1 (rising_c g)
unfolding out-Statement denote.Hole.Carrier.out
point_c g waiter = Point.waits (perform (rises g) ∷ []) (rising_c g) 0 1 Point.begins (Among.first [])

-- a term that is a rise of `a`, or of `c`, comes at 0
pub fires_a : (g : Global) (waiter : Statement) (grain : Grain) (heard : List EdgeClaim) (list : List ℕ) (t : EventTerm) →
    IsRootOf (pulsed g waiter) (pulsed_claims grain heard list) 0 t.range.signal → SeenAs (pulsed g waiter) true t Posedge →
    Fires (pulsed g waiter) (pulsed_claims grain heard list) t 0
fires_a g waiter grain heard list t is seen = record {
  root = 0;
  writer = 0;
  lists = lists_a;
  at = rising_a g;
  is_root = is;
  is_writer = refl;
  kind = refl;
  point = point_a g waiter;
  writes = inl (writes_it (pulsed g waiter) g 1 0 (perform (one_later g 2 (gives g 3 0 Zero)) ∷ []));
  runs = runs_a g waiter;
  edge = Posedge;
  seen = seen;
  counted = λ digit is_given. counted (rising_a g) 0 digit (gives_a g 1 (perform (one_later g 2 (gives g 3 0 Zero)) ∷ [])) is_given;
  in_phase = no_phase (pulsed g waiter) (pulsed_claims grain heard list) 0 Posedge 0 refl;
}

pub fires_c : (g : Global) (waiter : Statement) (grain : Grain) (heard : List EdgeClaim) (list : List ℕ) (t : EventTerm) →
    IsRootOf (pulsed g waiter) (pulsed_claims grain heard list) 2 t.range.signal → SeenAs (pulsed g waiter) true t Posedge →
    Fires (pulsed g waiter) (pulsed_claims grain heard list) t 0
fires_c g waiter grain heard list t is seen = record {
  root = 2;
  writer = 1;
  lists = (0 ∷ []) ∷ [];
  at = rising_c g;
  is_root = is;
  is_writer = refl;
  kind = refl;
  point = point_c g waiter;
  writes = inl (writes_it (pulsed g waiter) g 1 2 []);
  runs = runs_c g waiter;
  edge = Posedge;
  seen = seen;
  counted = λ digit is_given. counted (rising_c g) 2 digit (gives_c g 1 []) is_given;
  in_phase = no_phase (pulsed g waiter) (pulsed_claims grain heard list) 2 Posedge 0 refl;
}

-- `@(posedge a)` of t#p2 comes at 0, where its signal is the first that is named
pub root_a : (g : Global) (setter waiter : Statement) (grain : Grain) (more : List EdgeClaim) (lists : List (List ℕ)) (kind : Kind) →
    IsRootOf (waiting g setter waiter) (claims grain (own_edge 97 ∷ more) lists kind) 0 0
root_a g setter waiter grain more lists kind = record { place = 0; entry = own_edge 97; is = refl; signal = refl; root_is = refl }

pub fires_rise : (g : Global) (waiter : Statement) (grain : Grain) (list : List ℕ) →
    Fires (pulsed g waiter) (pulsed_claims grain (own_edge 97 ∷ []) list) rise 0
fires_rise g waiter grain list =
    fires_a g waiter grain (own_edge 97 ∷ []) list rise (root_a g (pulse g) waiter grain [] lists_a (mixed (list ∷ [])))
    (seen_plain (pulsed g waiter) 0 (bit g 97 Reg, refl, refl))
