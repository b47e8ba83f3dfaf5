-- The scripts of a design's processes.
use Rattle.std.specs.Prelude.{ℕ, ◌≡◌, Some, List, length, slice_get}
use Rattle.vs_design.specs.declared.design.Process.{Process}
use Rattle.vs_design.specs.Parts.{Parts}
use Rattle.vs_process.specs.Scripts.{StartsWith}
use Rattle.vs_process.specs.Texts.{AreApart, Text}

-- a script of a process of a design: it is over the design's signals, starts where the whole body is to be done, and has each statement's number at
-- one place alone
pub record IsScriptFor (d : Parts) (p : Process) (c : Text) : Type 0 where
  pub signals : c.signals ≡ d.signals
  pub starts : StartsWith c p.body
  pub apart : AreApart c.links

-- the scripts of a design's processes, one each in order
pub record AreScripts (d : Parts) (scripts : List Text) : Type 0 where
  pub count : length scripts ≡ length d.processes
  pub each : (i : ℕ) (c : Text) (p : Process) → slice_get scripts i ≡ Some c → slice_get d.processes i ≡ Some p → IsScriptFor d p c
