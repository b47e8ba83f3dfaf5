-- The terms of the event controls of a run's processes.
use Rattle.std.specs.Prelude.{ℕ, suc, ◌≡◌, Option, Some, None, List, [], ◌∷◌, ◌++◌, map, slice_get}
use Rattle.vs_design.specs.declared.statement.EventTerm.{EventTerm}
use Rattle.vs_design.specs.Uses.{joined}
use Rattle.vs_process.specs.Texts.{AreApart, Control, HasControl, Text, controls_of}
use Rattle.vs_run_active.specs.declared.watchers.ProcessTerm.{ProcessTerm}
use Rattle.vs_run_active.specs.Waking.{terms_at}

-- a term of an event control of a process
abbrev pub process_term : ℕ → ℕ → EventTerm → ProcessTerm
process_term process control term = record { process = process; control = control; term = term }

-- those of an event control of a process, where there is one
abbrev pub control_terms : ℕ → Option Control → List ProcessTerm
control_terms process None = []
control_terms process (Some k) = map (process_term process k.0) k.1

-- those of all event controls of a text
abbrev pub text_terms : ℕ → Text → List ProcessTerm
text_terms process c = joined (map (control_terms process) (controls_of c))

-- those of all texts, which are numbered from one on
abbrev pub terms_from : ℕ → List Text → List ProcessTerm
terms_from n [] = []
terms_from n (c ∷ cs) = text_terms n c ++ terms_from (suc n) cs

-- for each event control of a text, whose numbers differ, its terms are listed under its number
abbrev pub TermsAreFound : Type 0
TermsAreFound = (texts : List Text) (i n : ℕ) (c : Text) (ts : List EventTerm) → slice_get texts i ≡ Some c → AreApart c.links → HasControl c n ts →
    ts ≡ terms_at i n (terms_from 0 texts)
