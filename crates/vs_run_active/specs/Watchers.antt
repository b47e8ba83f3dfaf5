-- Who is woken by which bits of a signal.
use Rattle.std.specs.Prelude.{ℕ, ◌-◌, ◌==◌, Bool, true, false, List, [], ◌∷◌, map, take, drop, if◌then◌else◌}
use Rattle.vs_design.specs.vs_logic4.specs.declared.edge.Edge.{Edge}
use Rattle.vs_design.specs.vs_logic4.specs.declared.edge.Edge.TheVariants.{Any, Posedge, Negedge}
use Rattle.vs_design.specs.declared.readers.Reader.{Reader}
use Rattle.vs_design.specs.Uses.{joined}
use Rattle.vs_eval.specs.Masks.{range_mask, term_mask}
use Rattle.vs_run_active.specs.declared.watchers.Watcher.{Watcher}
use Rattle.vs_run_active.specs.declared.watchers.ProcessTerm.{ProcessTerm}

-- the watcher of a continuous assignment that reads a range
abbrev pub reader_watcher : Reader → Watcher
reader_watcher r = record { mask = range_mask r.range; number = r.assign; control = 0 }

-- the watcher of a term
abbrev pub term_watcher : ProcessTerm → Watcher
term_watcher t = record { mask = term_mask t.term; number = t.process; control = t.control }

-- two edges are one
abbrev pub same_edge : Edge → Edge → Bool
same_edge Any Any = true
same_edge Posedge Posedge = true
same_edge Negedge Negedge = true
same_edge _ _ = false

-- whether a term waits for such an edge
abbrev pub is_kind : Edge → ProcessTerm → Bool
is_kind edge t = same_edge edge t.term.edge

-- the watcher of a term that waits for such an edge
abbrev pub kind_watcher : Edge → ProcessTerm → List Watcher
kind_watcher edge t = if is_kind edge t then term_watcher t ∷ [] else []

-- those of the terms that wait for such an edge, in their order
abbrev pub kind_watchers : Edge → List ProcessTerm → List Watcher
kind_watchers edge ts = joined (map (kind_watcher edge) ts)

-- whether a term names a signal
abbrev pub names : ℕ → ProcessTerm → Bool
names signal t = t.term.range.signal == signal

-- the elements of a list from a place on and before another
abbrev pub between : {A : Type 0} → ℕ → ℕ → List A → List A
between from to xs = take (to - from) (drop from xs)
