-- Which event controls the change of a word of a signal wakes, by their terms and by watchers.
use Rattle.std.specs.Prelude.{ℕ, ◌==◌, ◌&&◌, ◌||◌, Bool, Some, List, [], ◌∷◌, if◌then◌else◌}
use Rattle.std.specs.List.{list_any}
use Rattle.vs_design.specs.vs_logic4.specs.declared.digit.Digit.{Digit}
use Rattle.vs_design.specs.vs_logic4.specs.declared.edge.Edge.TheVariants.{Any, Posedge, Negedge}
use Rattle.vs_design.specs.declared.statement.EventTerm.{EventTerm}
use Rattle.vs_eval.specs.Masks.{has_bits}
use Rattle.vs_eval.specs.Waking.{term_wakes}
use Rattle.vs_run_active.specs.declared.watchers.ProcessTerm.{ProcessTerm}
use Rattle.vs_run_active.specs.declared.watchers.Watcher.{Watcher}
use Rattle.vs_run_active.specs.Watchers.{kind_watchers}

-- whether a term is one of an event control of a process
abbrev pub is_term_of : ℕ → ℕ → ProcessTerm → Bool
is_term_of process control t = (t.process == process) && (t.control == control)

-- the terms of an event control of a process, in their order
abbrev pub terms_at : ℕ → ℕ → List ProcessTerm → List EventTerm
terms_at process control [] = []
terms_at process control (t ∷ ts) =
    if is_term_of process control t then t.term ∷ terms_at process control ts else terms_at process control ts

-- whether the change of a word of a signal wakes an event control of a process
abbrev pub control_wakes : ℕ → ℕ → ℕ → ℕ → List Digit → List Digit → List ProcessTerm → Bool
control_wakes process control signal word before after ts =
    list_any (λ (t : ProcessTerm). is_term_of process control t && term_wakes signal word (Some before) (Some after) t.term) ts

-- whether a watcher is one of an event control of a process
abbrev pub is_watching : ℕ → ℕ → Watcher → Bool
is_watching process control w = (w.number == process) && (w.control == control)

-- whether one of some watchers sees one of these bits of a word, and is one of an event control of a process
abbrev pub watched : ℕ → ℕ → ℕ → ℕ → List Watcher → Bool
watched process control word number ws =
    list_any (λ (w : Watcher). has_bits w.mask word number && is_watching process control w) ws

-- whether one of the watchers of terms does: of a term that waits for any change it is one of the bits that differ, else one that rises or falls
abbrev pub kinds_watched : ℕ → ℕ → ℕ → ℕ → ℕ → ℕ → List ProcessTerm → Bool
kinds_watched process control word differing rising falling ts =
    (watched process control word differing (kind_watchers Any ts) || watched process control word rising (kind_watchers Posedge ts))
    || watched process control word falling (kind_watchers Negedge ts)
