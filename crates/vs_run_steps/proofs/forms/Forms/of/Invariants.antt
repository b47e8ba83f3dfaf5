use Rattle.std.proofs.Common.{◌≡◌, ℕ, Some, length, slice_get}
use Rattle.vs_design.specs.declared.design.Assign.{Assign}
use Rattle.vs_run_steps.specs.declared.forms.Form.{Form}
use Rattle.vs_run_steps.specs.Forms.{IsForm}
use Rattle.vs_run_steps.proofs.forms.Forms.of.Given as goal

abbrev pub invariant-loop-assign : goal.invariant-loop-assign
invariant-loop-assign l =
    record {
      long : length l.items.items ≡ l.assign-index;
      each : (j : ℕ) (b : Assign) (f : Form) → slice_get l.items.items j ≡ Some f → slice_get l.design.assigns j ≡ Some b → IsForm l.design.signals b f;
    }
