-- The text of a process as its script stands for it.
use Rattle.std.specs.Prelude.{ℕ, ◌≡◌, Option, Some, None, List, map, slice_get}
use Rattle.vs_design.specs.declared.signal.Signal.{Signal}
use Rattle.vs_design.specs.declared.statement.EventTerm.{EventTerm}
use Rattle.vs_design.specs.declared.statement.Statement.{Statement}
use Rattle.vs_design.specs.declared.statement.Statement.TheOpen.{Statement-F}
use Rattle.vs_design.specs.declared.statement.Statement.TheViews.{out-Statement}
use Rattle.vs_process.specs.Links.{Job, performs, tests, Link}
use Rattle.vs_process.specs.Numbers.{number_at}

-- the signals of a design, the places of the code of one of its processes, how many counters the code has, and the index where it starts
pub record Text : Type 0 where
  pub signals : List Signal
  pub links : List Link
  pub counters : ℕ
  pub start : ℕ

-- an event control: its number in the process's text, and its terms (clause 9.7.2)
abbrev pub Control : Type 0
Control = ℕ × List EventTerm

-- the event control of a statement, where it is one, by its outermost layer
abbrev pub layer_control : Statement-F Statement → Option Control
layer_control (Statement-F.Event n terms body) = Some (n, terms.items)
layer_control _ = None

-- the event control at a place, where there is one
abbrev pub job_control : Job → Option Control
job_control (performs s) = layer_control (out-Statement s)
job_control (tests k s) = None

abbrev pub link_control : Link → Option Control
link_control l = job_control l.job

-- the event controls of a text, by its places
abbrev pub controls_of : Text → List (Option Control)
controls_of c = map link_control c.links

-- an event control of this number and with these terms is in a text
pub record HasControl (c : Text) (n : ℕ) (terms : List EventTerm) : Type 0 where
  pub index : ℕ
  pub at : slice_get (controls_of c) index ≡ Some (Some (n, terms))

-- a statement's number stands at one place alone
abbrev pub AreApart : List Link → Type 0
AreApart links = (i j n : ℕ) (k l : Link) → slice_get links i ≡ Some k → slice_get links j ≡ Some l →
    number_at k.job ≡ Some n → number_at l.job ≡ Some n → i ≡ j

-- the event controls of a text are told apart by their numbers
abbrev pub ControlsAreApart : Type 0
ControlsAreApart = (c : Text) (n : ℕ) (terms others : List EventTerm) → AreApart c.links → HasControl c n terms → HasControl c n others → terms ≡ others
