-- The rules of certificates but for those of combinational blocks alone, each for one subject: a name, a signal, a driver or a process. Signals,
-- continuous assignments and processes go by their numbers in design order; nothing is asked of a number past the end.
use Rattle.std.specs.Prelude.{ℕ, ◌+◌, ◌%◌, ◌≡◌, ◌<◌, ◌⊎◌, true, false, Some, List, length, slice_get}
use Rattle.std.specs.List.{list_any}
use Rattle.vs_design.specs.vs_logic4.specs.declared.digit.Digit.{Digit}
use Rattle.vs_design.specs.vs_logic4.specs.declared.digit.Digit.TheVariants.{X}
use Rattle.vs_design.specs.vs_logic4.specs.Edges.{is_edge}
use Rattle.vs_design.specs.vs_logic4.specs.declared.edge.Edge.{Edge}
use Rattle.vs_design.specs.declared.design.Assign.{Assign}
use Rattle.vs_design.specs.declared.range.BitRange.{BitRange}
use Rattle.vs_design.specs.declared.statement.EventTerm.{EventTerm}
use Rattle.vs_design.specs.Parts.{Parts}
use Rattle.vs_design.specs.Uses.{reads, writes}
use Rattle.vs_process.specs.Executions.{is_level}
use Rattle.vs_process.specs.Places.{Todo}
use Rattle.vs_process.specs.Steps.{Next, after, wait}
use Rattle.vs_rules.specs.Claims.{Name, Mode, net, unwritten, combinational, nonblocking, blocking, private, both, writer_in, second_in, times_in}
use Rattle.vs_rules.specs.Controls.{controls_of}
use Rattle.vs_rules.specs.Points.{Goes, nexts_by}
use Rattle.vs_rules.specs.Claims.{Claims, IsSignalNamed, IsProcessNamed, IsAssignNamed, claim_of, IsWriter, IsSecond, HasMode, HasKind, IsBlock, IsEdge, HasLists, IsDelay, HasMixedLists, IsMixed, WaitsForEdges, WaitsForTimes, IsSequential, IsLater, IsWide, is_wide}
use Rattle.vs_rules.specs.Claims.{signal_names, process_names, edge_names, edge_signals, IsRootOf, IsRoot}
use Rattle.vs_rules.specs.Paths.{Bit, IsBit, Has, ListsSignal, WritesNow, WritesLater, WritesAny, ReadsNow, ShowsNow, IsPoint, IsSlot0, IsPrologue, IsLate, IsHot, PathBy, is_zero_time, Writes, reads_of, HasTerm, IsHeardAtStart}
use Rattle.vs_rules.specs.Drivers.{Driver, block, IsDriver, DriverReads, DriverNeeds, Precedes, WritesBit, IsSource, IsBlocking, InCone}
use Rattle.vs_rules.specs.Constants.{bit_of, Gives, IsKnown}
use Rattle.vs_rules.specs.Copies.{CopiesRoot, SeenAs}
use Rattle.vs_rules.specs.Slots.{DelayEnds, EdgeEnds, RunsByDelays, RunsByEdges, HasSlot, HasWriteSlot, FiresOf}

-- ---- K1: each list names what it is a list of, each once, and nothing else

-- a name stands once in one list, and in neither of two others
pub record IsOnlyIn (name : Name) (own one other : List Name) : Type 0 where
  pub once : times_in name own ≡ 1
  pub nowhere : times_in name one ≡ 0
  pub nowhere_else : times_in name other ≡ 0

-- of a signal
abbrev pub K1_Signal : Parts → Claims → ℕ → Type 0
K1_Signal d c v = (name : Name) → IsSignalNamed d v name → IsOnlyIn name (signal_names c) c.order (process_names c)

-- of a continuous assignment
pub record K1_Assign (d : Parts) (c : Claims) (j : ℕ) : Type 0 where
  pub listed : (name : Name) → IsAssignNamed d j name → IsOnlyIn name c.order (signal_names c) (process_names c)
  pub no_edge : (name : Name) → IsAssignNamed d j name → times_in name (edge_names c) ≡ 0

-- of a process: one of kind comb stands once in the order too
pub record K1_Process (d : Parts) (c : Claims) (i : ℕ) : Type 0 where
  pub listed : (name : Name) → IsProcessNamed d i name → IsOnlyIn name (process_names c) (signal_names c) (edge_names c)
  pub block_ordered : (name : Name) → IsProcessNamed d i name → IsBlock d c i → times_in name c.order ≡ 1
  pub not_ordered : (name : Name) → IsProcessNamed d i name → (IsBlock d c i → ⊥) → times_in name c.order ≡ 0

-- of a name that stands in one of the lists: the design has it
abbrev pub K1_Name : Parts → Claims → Name → Type 0
K1_Name d c name = ((v : ℕ) × IsSignalNamed d v name) ⊎ (((j : ℕ) × IsAssignNamed d j name) ⊎ ((i : ℕ) × IsProcessNamed d i name))

-- ---- K2: writer and second are the processes that write a signal; the second writes it at the start alone

pub record K2 (d : Parts) (c : Claims) (v : ℕ) : Type 0 where
  -- who writes it is named
  pub named : (i : ℕ) → Writes d i v → IsWriter d c v i ⊎ IsSecond d c v i
  -- who is named writes it
  pub writer_writes : (name : Name) → writer_in (claim_of d c v) ≡ Some name → (i : ℕ) × IsWriter d c v i × Writes d i v
  pub second_writes : (name : Name) → second_in (claim_of d c v) ≡ Some name → (i : ℕ) × IsSecond d c v i × Writes d i v
  -- an output of a process of kind comb has no second
  pub no_block : (i j : ℕ) → IsSecond d c v i → IsBlock d c j → Writes d j v → ⊥
  -- no path leads through a control to a write of the second
  pub early : (i : ℕ) (k : Todo) → IsSecond d c v i → IsPoint d i k → WritesAny d k v → IsLate d i k → ⊥
  -- where there is a second, the writer has no `=` of it at slot-0 points
  pub first_alone : (i j : ℕ) (l : Todo) → IsSecond d c v i → IsWriter d c v j → IsSlot0 d (is_wide c) j l → WritesNow d l v → ⊥
  -- and where the second writes it by `<=`, no `<=` of it either
  pub first_alone_later : (i j : ℕ) (k l : Todo) → IsSecond d c v i → IsPoint d i k → WritesLater d k v →
      IsWriter d c v j → IsSlot0 d (is_wide c) j l → WritesLater d l v → ⊥

-- ---- K3: a signal is written as its mode says

-- it has a writer that passes
abbrev pub HasWriter : Parts → Claims → ℕ → (ℕ → Type 0) → Type 0
HasWriter d c v passes = (i : ℕ) × IsWriter d c v i × passes i

-- a process has no `=` of the signal, or no `<=` of it
abbrev pub NeverNow : Parts → ℕ → ℕ → Type 0
NeverNow d v i = (k : Todo) → IsPoint d i k → WritesNow d k v → ⊥

abbrev pub NeverLater : Parts → ℕ → ℕ → Type 0
NeverLater d v i = (k : Todo) → IsPoint d i k → WritesLater d k v → ⊥

-- of kind delay, or in versions 2 and 3 of kind edge, or in version 3 mixed
abbrev pub MayBlock : Parts → Claims → ℕ → Type 0
MayBlock d c i = IsDelay d c i ⊎ ((IsLater c × IsEdge d c i) ⊎ IsMixed d c i)

-- no other process, no continuous assignment and no event term reads the signal; what `$display` shows is no read
pub record IsPrivate (d : Parts) (v i : ℕ) : Type 0 where
  pub processes : (j : ℕ) → ListsSignal d (reads_of d j) v → j ≡ i
  pub assigns : (j : ℕ) (a : Assign) → slice_get d.assigns j ≡ Some a → ListsSignal d (reads a.source) v → ⊥
  pub terms : (j : ℕ) (t : EventTerm) → HasTerm d j t → t.range.signal ≡ v → ⊥

abbrev pub IsAsModeSays : Parts → Claims → ℕ → Mode → Type 0
IsAsModeSays d c v net = HasKind false d v
IsAsModeSays d c v unwritten = (i : ℕ) → Writes d i v → ⊥
IsAsModeSays d c v combinational = HasWriter d c v (IsBlock d c)
IsAsModeSays d c v nonblocking = HasWriter d c v (λ i. IsSequential d c i × NeverNow d v i)
IsAsModeSays d c v blocking = HasWriter d c v (λ i. MayBlock d c i × NeverLater d v i)
IsAsModeSays d c v private = HasWriter d c v (λ i. IsSequential d c i × IsPrivate d v i)
IsAsModeSays d c v both = IsWide c × HasWriter d c v (IsSequential d c)

abbrev pub K3 : Parts → Claims → ℕ → Type 0
K3 d c v = (mode : Mode) → HasMode d c v mode → IsAsModeSays d c v mode

-- ---- K4: each bit that a driver reads is one of a source, an undriven one, its own where it is a block, or one of drivers earlier in the order

-- a driver writes the bit
pub record IsDriven (d : Parts) (c : Claims) (b : Bit) : Type 0 where
  pub driver : Driver
  pub is : IsDriver d c driver
  pub writes : WritesBit d driver b

-- two drivers are one block
abbrev pub IsSelf : Driver → Driver → Type 0
IsSelf (block i) (block k) = k ≡ i
IsSelf _ _ = ⊥

-- drivers write each bit of the range that the design has
abbrev pub IsCovered : Parts → Claims → BitRange → Type 0
IsCovered d c r = (b : Bit) → IsBit d b → Has r b → IsDriven d c b

pub record K4 (d : Parts) (c : Claims) (x : Driver) : Type 0 where
  -- what it reads is of a net, whose bits are driven or undriven, or of a source, or drivers write each bit of it
  pub known : (r : BitRange) → IsDriver d c x → DriverReads d x r → HasKind false d r.signal ⊎ (IsSource d c r.signal ⊎ IsCovered d c r)
  -- of each bit of the design that is driven the driver is earlier, where it isn't the block itself
  pub earlier : (r : BitRange) (b : Bit) (y : Driver) → IsDriver d c x → DriverReads d x r → IsBit d b → Has r b →
      IsDriver d c y → WritesBit d y b → IsSelf x y ⊎ Precedes d c y x

-- ---- K6: the signals of edge terms, each of one bit, copy a root, which changes at most once in a slot

-- the signal is named by an edge term of some process
pub record IsEdgeSignal (d : Parts) (v : ℕ) : Type 0 where
  pub process : ℕ
  pub term : EventTerm
  pub has : HasTerm d process term
  pub edge : is_level term ≡ false
  pub of : term.range.signal ≡ v

-- a variable of mode blocking, with a writer of kind delay, and not hot where that writes it
pub record IsSoundRoot (d : Parts) (c : Claims) (root : ℕ) : Type 0 where
  pub variable : HasKind true d root
  pub mode : HasMode d c root blocking
  pub writer : HasWriter d c root (IsDelay d c)
  -- its writer has no write of it at which it is hot
  pub once : (i : ℕ) (k : Todo) → IsWriter d c root i → IsPoint d i k → WritesAny d k root → IsHot d (is_wide c) i root k → ⊥

pub record K6 (d : Parts) (c : Claims) (v : ℕ) : Type 0 where
  -- it has one entry where an edge term names it, else none
  pub one_entry : (name : Name) → IsSignalNamed d v name → IsEdgeSignal d v → times_in name (edge_signals c) ≡ 1
  pub no_entry : (name : Name) → IsSignalNamed d v name → (IsEdgeSignal d v → ⊥) → times_in name (edge_signals c) ≡ 0
  -- it copies the root of its entry, in version 3 its inverse too
  pub copies : (root : ℕ) → IsRootOf d c root v → CopiesRoot d (is_wide c) root v
  pub root : (root : ℕ) → IsRootOf d c root v → IsSoundRoot d c root

-- ---- K7: a process of kind edge waits for edges alone; it and a mixed one in a slot for those of one root alone

-- all terms are edge terms; an `@*` before what reads nothing has no term, and so none of another sort
abbrev pub AreEdges : List EventTerm → Type 0
AreEdges terms = list_any is_level terms ≡ false

-- a zero-time path, as version 3 has them, leads from behind a delay control of a process, with more than zero ticks, to an event control
pub record Arrives (d : Parts) (i : ℕ) (delay event : Next) : Type 0 where
  pub from : Todo
  pub number : ℕ
  pub ticks : ℕ
  pub behind : Todo
  pub delay_is : delay ≡ after number ticks behind
  pub point : IsPoint d i from
  pub goes : Goes from delay
  pub above : 0 < ticks
  pub to : Todo
  pub path : PathBy (nexts_by true) is_zero_time behind to
  pub waits : Goes to event

pub record K7 (d : Parts) (c : Claims) (i : ℕ) : Type 0 where
  -- its event controls are of edge terms
  pub events : (k l : Todo) (number : ℕ) (terms : List EventTerm) → WaitsForEdges d c i → IsPoint d i k → Goes k (wait number terms l) →
      AreEdges terms
  -- one of kind edge has no delay control, of zero ticks neither
  pub no_delay : (k l : Todo) (number ticks : ℕ) → IsEdge d c i → IsPoint d i k → Goes k (after number ticks l) → ⊥
  -- its terms of one root name one signal
  pub one_signal : (t u : EventTerm) (root : ℕ) → WaitsForEdges d c i → HasTerm d i t → HasTerm d i u →
      IsRootOf d c root t.range.signal → IsRootOf d c root u.range.signal → t.range.signal ≡ u.range.signal
  -- the firing slots of its different roots are disjoint
  pub apart : (one other r : ℕ) → WaitsForEdges d c i → FiresOf d c i one r → FiresOf d c i other r → one ≡ other
  -- a mixed one that comes from a delay to an event control comes there at no residue at which that can end: whether the edge is before it or behind
  -- it in the slot is a choice
  pub arrives : (lists : List (List ℕ)) (delay event : Next) (r : ℕ) → HasMixedLists d c i lists → Arrives d i delay event →
      DelayEnds d i lists delay r → EdgeEnds d c event r → ⊥

-- ---- K8: a process of kind delay has delay controls alone; it and a mixed one have a list of residues for each, and the lists are closed

pub record K8 (d : Parts) (c : Claims) (i : ℕ) : Type 0 where
  -- one of kind delay has no event control, without terms neither
  pub no_event : (k l : Todo) (number : ℕ) (terms : List EventTerm) → IsDelay d c i → IsPoint d i k → Goes k (wait number terms l) → ⊥
  -- there is one list for each of its delay controls
  pub one_each : (lists : List (List ℕ)) → WaitsForTimes d c i lists → length lists ≡ length (controls_of d i)
  -- from the start, or from a `#0` in the first slot, a next control of d ticks, above 0, can end at d modulo the modulus
  pub from_start : (lists : List (List ℕ)) (k l : Todo) (number ticks : ℕ) → WaitsForTimes d c i lists → IsSlot0 d (is_wide c) i k →
      Goes k (after number ticks l) → 0 < ticks → DelayEnds d i lists (after number ticks l) (ticks % c.modulus)
  -- from a residue r of a control it can end at r + d modulo the modulus
  pub from_residue : (lists : List (List ℕ)) (k l : Todo) (number ticks r : ℕ) → WaitsForTimes d c i lists → RunsByDelays d (is_wide c) i lists k r →
      Goes k (after number ticks l) → DelayEnds d i lists (after number ticks l) ((r + ticks) % c.modulus)
  -- and in a mixed one from a residue r at which an event control can end
  pub from_edge : (lists : List (List ℕ)) (k l : Todo) (number ticks r : ℕ) → HasMixedLists d c i lists → RunsByEdges d c i k r →
      Goes k (after number ticks l) → DelayEnds d i lists (after number ticks l) ((r + ticks) % c.modulus)

-- ---- K9: what a process reads at a point with run slots is its own, is its edge signal, or is written at other residues

-- what counts as a read in this rule and the next: where the certificate says so, arguments of `$display` too
abbrev pub Reads : Parts → Claims → Todo → BitRange → Type 0
Reads d c k r = ReadsNow d k r ⊎ ((c.displays ≡ true) × ShowsNow d k r)

-- it is the writer, and either reads that very signal, or the signal isn't hot where it reads
abbrev pub IsOwnRead : Parts → Claims → ℕ → ℕ → ℕ → Todo → Type 0
IsOwnRead d c i u v k = IsWriter d c u i × ((u ≡ v) ⊎ (IsHot d (is_wide c) i u k → ⊥))

-- the process has an edge term of the signal, whose root is written at no residue at which a term of another root can fire, and in a mixed process
-- at none at which a delay control ends from which a path without further control leads to the point
pub record IsOwnEdge (d : Parts) (c : Claims) (i v : ℕ) (k : Todo) : Type 0 where
  pub term : EventTerm
  pub has : HasTerm d i term
  pub edge : is_level term ≡ false
  pub of : term.range.signal ≡ v
  pub apart : (root other r : ℕ) → IsRootOf d c root v → HasWriteSlot d c root r → FiresOf d c i other r → other ≡ root
  pub undelayed : (lists : List (List ℕ)) (root r : ℕ) → HasMixedLists d c i lists → IsRootOf d c root v → HasWriteSlot d c root r →
      RunsByDelays d (is_wide c) i lists k r → ⊥

-- the write slots of a variable and the run slots of a point have nothing in common
abbrev pub AreApart : Parts → Claims → ℕ → ℕ → Todo → Type 0
AreApart d c i u k = (r : ℕ) → HasWriteSlot d c u r → HasSlot d c i k r → ⊥

pub record K9 (d : Parts) (c : Claims) (i : ℕ) : Type 0 where
  pub fixed : (k : Todo) (r : BitRange) (u : ℕ) → IsSequential d c i → IsPoint d i k → Reads d c k r → IsBlocking d c u → InCone d c u r →
      IsOwnRead d c i u r.signal k ⊎ (IsOwnEdge d c i r.signal k ⊎ AreApart d c i u k)

-- ---- K10: the first slot

-- of a signal: a root is written at slot-0 points at most once in all, by `=`, by a constant 0 or 1 that fires no edge term of it
pub record FiresNone (d : Parts) (c : Claims) (root i : ℕ) (k : Todo) : Type 0 where
  pub digit : Digit
  pub known : IsKnown digit
  pub gives : Gives k (bit_of root) digit
  -- in version 3 terms of other event controls than those at slot-0 points don't count: nothing waits there yet; nor do terms of the root itself by
  -- which the process waits that writes it: it waits behind the write
  pub silent : (j : ℕ) (t : EventTerm) (edge : Edge) → HasTerm d j t →
      (IsWide c → IsHeardAtStart d j t × ((j ≡ i) × (t.range.signal ≡ root) → ⊥)) → is_level t ≡ false →
      IsRootOf d c root t.range.signal → SeenAs d (is_wide c) t edge → is_edge edge X digit ≡ false

pub record K10_Signal (d : Parts) (c : Claims) (v : ℕ) : Type 0 where
  -- one statement at most, of all processes, writes it at slot-0 points
  pub once : (i j : ℕ) (k l : Todo) → IsRoot d c v → IsSlot0 d (is_wide c) i k → WritesAny d k v → IsSlot0 d (is_wide c) j l → WritesAny d l v → (i ≡ j) × (k ≡ l)
  -- by `=`
  pub now : (i : ℕ) (k : Todo) → IsRoot d c v → IsSlot0 d (is_wide c) i k → WritesLater d k v → ⊥
  -- a constant 0 or 1, which from x fires no edge term of it
  pub constant : (i : ℕ) (k : Todo) → IsRoot d c v → IsSlot0 d (is_wide c) i k → WritesNow d k v → FiresNone d c v i k

-- what a process of kind comb reads or waits for, and where the certificate says so what it shows
pub data BlockNeeds (d : Parts) (c : Claims) (r : BitRange) : Type 0 where
  needs : (i : ℕ) → IsBlock d c i → DriverNeeds d (block i) r → BlockNeeds d c r
  shows : (i : ℕ) (k : Todo) → IsBlock d c i → c.displays ≡ true → IsPoint d i k → ShowsNow d k r → BlockNeeds d c r

-- of a process: at slot-0 points one of kind edge or delay, or mixed, reads variables that it alone writes, in version 3 also ones that no other process
-- writes there by `=`; at prologue points none writes by `=` what a block hangs on
pub record K10_Process (d : Parts) (c : Claims) (i : ℕ) : Type 0 where
  -- what one of kind edge or delay, or mixed, reads at a slot-0 point is a variable
  pub variable : (k : Todo) (r : BitRange) → IsSequential d c i → IsSlot0 d (is_wide c) i k → Reads d c k r → HasKind true d r.signal
  -- that it writes, but for version 3
  pub written : (k : Todo) (r : BitRange) → IsSequential d c i → IsSlot0 d (is_wide c) i k → Reads d c k r → (IsWide c → ⊥) → Writes d i r.signal
  -- and no other process, in version 3 none of kind comb
  pub alone : (k : Todo) (r : BitRange) (j : ℕ) → IsSequential d c i → IsSlot0 d (is_wide c) i k → Reads d c k r → Writes d j r.signal →
      (j ≡ i) ⊎ (IsWide c × (IsBlock d c j → ⊥))
  -- and there none by `=` at slot-0 points: so it reads what the variable began with
  pub first : (k l : Todo) (r : BitRange) (j : ℕ) → IsWide c → IsSequential d c i → IsSlot0 d (is_wide c) i k → Reads d c k r →
      IsSlot0 d (is_wide c) j l → WritesNow d l r.signal → j ≡ i
  -- no `=` at a prologue point writes what is in the cone of what a block needs
  pub untouched : (k : Todo) (u : ℕ) (r : BitRange) → IsPrologue d (is_wide c) i k → WritesNow d k u → BlockNeeds d c r → InCone d c u r → ⊥
