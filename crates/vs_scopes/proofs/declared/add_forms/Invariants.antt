use Rattle.std.proofs.Common.{◌≡◌, ℕ, List, take}
use Rattle.vs_scopes.specs.vs_widths.specs.Names.{meaning_of}
use Rattle.vs_scopes.specs.scopes_passes.Parts.{read_end}
use Rattle.vs_scopes.specs.scopes_passes.Declared.{first_of, said_by}
use Rattle.vs_scopes.proofs.declared.add_forms.Given as goal

abbrev pub invariant-loop-name : goal.invariant-loop-name
invariant-loop-name l = (n : List ℕ) → read_end (meaning_of l.forms n) ≡ first_of (read_end (meaning_of l.fn.forms n)) (said_by l.form (take l.name-index l.list) n)
