-- What a root is given in the first slot, by the places of maps.
use Rattle.std.specs.Prelude.{ℕ, ◌≡◌, ◌==◌, ◌↔◌, Bool, true, false, Option, Some, None, List, get_or, slice_get, if◌then◌else◌}
use Rattle.vs_design.specs.vs_logic4.specs.declared.digit.Digit.{Digit}
use Rattle.vs_design.specs.vs_logic4.specs.declared.digit.Digit.TheVariants.{X}
use Rattle.vs_design.specs.vs_logic4.specs.declared.edge.Edge.{Edge}
use Rattle.vs_design.specs.vs_logic4.specs.Edges.{is_edge}
use Rattle.vs_design.specs.vs_logic4.specs.Tables.{not_digit}
use Rattle.vs_design.specs.declared.statement.EventTerm.{EventTerm}
use Rattle.vs_design.specs.Parts.{Parts}
use Rattle.vs_process.specs.Executions.{is_level}
use Rattle.vs_rules.specs.Claims.{Claims, IsRoot, IsRootOf, IsWide, is_wide}
use Rattle.vs_rules.specs.Constants.{bit_of, IsKnown}
use Rattle.vs_rules.specs.Copies.{SeenAs}
use Rattle.vs_rules.specs.Paths.{HasTerm, IsHeardAtStart}
use Rattle.vs_rules.specs.Rules.{K10_Signal}
use Rattle.vs_drivers.specs.vs_slots_constants.specs.Givings.{given_here}
use Rattle.vs_drivers.specs.vs_slots_constants.specs.Inverted.{AreInverted}
use Rattle.vs_drivers.specs.Copies.{IsOnly}
use Rattle.vs_drivers.specs.vs_maps.specs.Ranges.{HasSignal, later_at, statement_at}
use Rattle.vs_drivers.specs.vs_maps.specs.Reaches.{Chart, InSlot0}
use Rattle.vs_rules_of_signals.specs.vs_claims.specs.Facts.{Case, AreCharts, IsRootAt}
use Rattle.vs_rules_of_signals.specs.Places.{WritesAt}
use Rattle.vs_drivers.specs.vs_maps.specs.Sites.{waits_by}
use Rattle.vs_cert_roots.specs.Entries.{is_from_x}
use Rattle.vs_drivers.specs.vs_maps.specs.Sites.{IsWrite}
use Rattle.vs_drivers.specs.vs_maps.specs.declared.sites.Site.{Site}

-- a place is done in the first slot, by wide rules past a turn that is sure by it alone, and writes the signal
abbrev pub SiteAt : Bool → Chart → ℕ → ℕ → Type 0
SiteAt wide t v p = InSlot0 wide t p × WritesAt t p v

-- the map of a process has such a place
abbrev pub HasSite : Bool → List Chart → ℕ → ℕ → Type 0
HasSite wide charts i v = (t : Chart) × (slice_get charts i ≡ Some t) × ((p : ℕ) × SiteAt wide t v p)

-- no edge term of a root is woken by a change of the root from x to the digit that a process makes; in version 3 none of an event control of the first
-- slot, but for terms of that process that name the root itself
abbrev pub IsSilent : Parts → Claims → ℕ → ℕ → Digit → Type 0
IsSilent d c writer root digit =
    (j : ℕ) (t : EventTerm) (edge : Edge) → HasTerm d j t →
    (IsWide c → IsHeardAtStart d j t × ((j ≡ writer) × (t.range.signal ≡ root) → ⊥)) → is_level t ≡ false →
    IsRootOf d c root t.range.signal → SeenAs d (is_wide c) t edge → is_edge edge X digit ≡ false

-- a place of a process doesn't write a root by `<=`, and gives it a constant 0 or 1 that wakes no edge term of it
abbrev pub StartsSilently : Parts → Claims → ℕ → Chart → ℕ → ℕ → Type 0
StartsSilently d c writer t v p =
    (HasSignal (later_at t p) v → ⊥)
    × ((digit : Digit) × IsKnown digit × (given_here (statement_at t p) (bit_of v) ≡ Some digit) × IsSilent d c writer v digit)

-- one place alone of the map of a process writes a root in the first slot, and does so
abbrev pub StartsWellIn : Parts → Claims → ℕ → Chart → ℕ → Type 0
StartsWellIn d c writer t v = (p : ℕ) × IsOnly (SiteAt (is_wide c) t v) p × StartsSilently d c writer t v p

abbrev pub StartsWell : Parts → Claims → List Chart → ℕ → ℕ → Type 0
StartsWell d c charts j v = (t : Chart) × (slice_get charts j ≡ Some t) × StartsWellIn d c j t v

-- a site is at a place that is done in the first slot
abbrev pub IsAtStart : Bool → List Chart → Site → Type 0
IsAtStart wide charts s = (t : Chart) × (slice_get charts s.process ≡ Some t) × InSlot0 wide t s.place

-- such a site is a write
abbrev pub IsFirst : Bool → List Chart → Site → Type 0
IsFirst wide charts s = IsWrite s.usage × IsAtStart wide charts s

-- a site waits for an edge that a change from x to the digit is, in version 3 in the first slot, and in no process that is left out
abbrev pub WakesSite : Case → Digit → Option ℕ → Site → Type 0
WakesSite k digit except s =
    (waits_by (is_from_x digit) s.usage ≡ true) × (IsWide k.claims → IsAtStart true k.charts s × (except ≡ Some s.process → ⊥))

-- of the root itself the process that writes it is left out
abbrev pub left_out : ℕ → ℕ → ℕ → Option ℕ
left_out writer root v = if v == root then Some writer else None

-- what is kept
pub record KeepsFirst (k : Case) (inverted : List Bool) : Type 0 where
  pub maps : AreCharts k.design k.charts
  pub inverted_are : AreInverted k.design (is_wide k.claims) inverted

-- the digit that a signal shows where its root has one, by which signals show a variable inverted
abbrev pub shown_by : List Bool → ℕ → Digit → Digit
shown_by inverted v digit = if get_or inverted v false then not_digit digit else digit

-- a signal has an edge term that is so woken; in version 3 one of an event control of the first slot, and of no process that is left out
pub record HasWoken (d : Parts) (c : Claims) (except : Option ℕ) (v : ℕ) (is_woken : EventTerm → Type 0) : Type 0 where
  pub process : ℕ
  pub term : EventTerm
  pub has : HasTerm d process term
  pub heard : IsWide c → IsHeardAtStart d process term × (except ≡ Some process → ⊥)
  pub edge : is_level term ≡ false
  pub of : term.range.signal ≡ v
  pub wakes : is_woken term

-- one that a change of the signal from x to the digit wakes
abbrev pub WakesSignal : Parts → Claims → Option ℕ → ℕ → Digit → Type 0
WakesSignal d c except v digit = HasWoken d c except v (λ t. is_edge t.edge X digit ≡ true)

-- one that a change of the signal's root from x to the digit wakes
abbrev pub WakesFromX : Parts → Claims → Option ℕ → ℕ → Digit → Type 0
WakesFromX d c except v digit = HasWoken d c except v (λ t. (edge : Edge) × SeenAs d (is_wide c) t edge × (is_edge edge X digit ≡ true))

-- the entry of a place has the root, and an edge term of its signal is woken by a change of the root from x to the digit
abbrev pub WakesEntry : Parts → Claims → ℕ → ℕ → ℕ → Digit → Type 0
WakesEntry d c writer place root digit = (v : ℕ) × IsRootAt d c.edges place root v × WakesFromX d c (left_out writer root v) v digit

-- the rule on what a root is given in the first slot is one of the places of maps
pub record FirstByPlaces : Type 0 where
  -- what no process writes then keeps it
  pub none : (d : Parts) (c : Claims) (charts : List Chart) → AreCharts d charts → (v : ℕ) → ((i : ℕ) → HasSite (is_wide c) charts i v → ⊥) →
      K10_Signal d c v
  -- what one process writes then keeps it where that does well
  pub one : (d : Parts) (c : Claims) (charts : List Chart) → AreCharts d charts → (v j : ℕ) → IsOnly (λ i. HasSite (is_wide c) charts i v) j → IsRoot d c v →
      (StartsWell d c charts j v ↔ K10_Signal d c v)
  -- what several write then breaks it
  pub several : (d : Parts) (c : Claims) (charts : List Chart) → AreCharts d charts → (v j : ℕ) → IsRoot d c v → HasSite (is_wide c) charts j v →
      K10_Signal d c v → IsOnly (λ i. HasSite (is_wide c) charts i v) j
