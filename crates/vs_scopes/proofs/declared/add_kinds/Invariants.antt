use Rattle.std.proofs.Common.{◌≡◌, ℕ, List, take}
use Rattle.vs_scopes.specs.vs_widths.specs.Names.{meaning_of}
use Rattle.vs_scopes.specs.Ports.{kind_among}
use Rattle.vs_scopes.specs.scopes_passes.Parts.{read_end}
use Rattle.vs_scopes.specs.scopes_passes.Declared.{first_of, form_of, read_said}
use Rattle.vs_scopes.proofs.declared.add_kinds.Given as goal

abbrev pub invariant-loop-declarator : goal.invariant-loop-declarator
invariant-loop-declarator l = (n : List ℕ) → read_said (meaning_of l.kinds n) ≡ first_of (read_said (meaning_of l.fn.kinds n)) (kind_among l.kind (form_of l.signed (read_end l.range)) (take l.declarator-index l.declarators) n)
