-- The scripts of a design's processes.
use Rattle.std.proofs.Common.{◌≡◌, ℕ, zero, suc, ◌&&◌, true, Some, List, [], ◌∷◌, ◌++◌, length, map, slice_get, refl, ap, subst}
use Rattle.std.proofs.lemmas.Bool.{and_parts}
use Rattle.std.proofs.lemmas.Option.{none-some, same_Some}
use Rattle.vs_design.specs.declared.design.Process.{Process}
use Rattle.vs_design.specs.declared.signal.Signal.{Signal}
use Rattle.vs_design.specs.declared.statement.Statement.{Statement}
use Rattle.vs_design.specs.Parts.{Parts}
use Rattle.vs_design.specs.WellFormed.{WellFormed, counts_from, is_body_of, is_sound_process, is_sound_statement, numbers}
use Rattle.vs_process.specs.Scripts.{StartsWith}
use Rattle.vs_process.specs.Texts.{AreApart, Text}
use Rattle.vs_run_active.specs.vs_process.proofs.ProcessLists.{all_slice, map_cases}
use Rattle.vs_kernel.specs.Scripts.{AreScripts, IsScriptFor}

-- the statements of a process's body are numbered
pub counted : (d : Parts) → WellFormed d → (i : ℕ) (body : Statement) → slice_get (map (λ (p : Process). p.body) d.processes) i ≡ Some body → counts_from 0 (numbers body) ≡ true
counted d formed i body is =
    let x = map_cases (λ (p : Process). p.body) d.processes i body is in
    let sound : is_sound_process d.signals x.0 ≡ true = all_slice (λ (p : Process). is_sound_process d.signals p ≡ true) d.processes i x.0 x.1 formed.processes in
    let parts = and_parts (is_sound_statement d.signals x.0.body && counts_from 0 (numbers x.0.body)) (is_body_of x.0.kind x.0.body) sound in
    subst (λ (s : Statement). counts_from 0 (numbers s) ≡ true) x.2 (and_parts (is_sound_statement d.signals x.0.body) (counts_from 0 (numbers x.0.body)) parts.0).1

-- scripts over these signals that start with these bodies, one each in order, and have each statement's number at one place alone
abbrev pub AreOf : List Signal → List Statement → List Text → Type 0
AreOf signals [] [] = Unit {0}
AreOf signals (b ∷ bs) (c ∷ cs) = (c.signals ≡ signals) × StartsWith c b × AreApart c.links × AreOf signals bs cs
AreOf signals _ _ = ⊥

-- so are they with one more
pub of_more : (signals : List Signal) (bs : List Statement) (cs : List Text) (b : Statement) (c : Text) → AreOf signals bs cs → c.signals ≡ signals → StartsWith c b → AreApart c.links →
    AreOf signals (bs ++ b ∷ []) (cs ++ c ∷ [])
of_more signals [] [] b c h is starts apart = (is, starts, apart, tt)
of_more signals [] (y ∷ ys) b c h is starts apart = absurd h
of_more signals (x ∷ xs) [] b c h is starts apart = absurd h
of_more signals (x ∷ xs) (y ∷ ys) b c h is starts apart = (h.0, h.1, h.2, of_more signals xs ys b c h.3 is starts apart)

of_count : (signals : List Signal) (ps : List Process) (cs : List Text) → AreOf signals (map (λ (p : Process). p.body) ps) cs → length cs ≡ length ps
of_count signals [] [] h = refl
of_count signals [] (c ∷ cs) h = absurd h
of_count signals (p ∷ ps) [] h = absurd h
of_count signals (p ∷ ps) (c ∷ cs) h = ap suc (of_count signals ps cs h.3)

of_each : (d : Parts) (ps : List Process) (cs : List Text) → AreOf d.signals (map (λ (p : Process). p.body) ps) cs →
    (i : ℕ) (c : Text) (p : Process) → slice_get cs i ≡ Some c → slice_get ps i ≡ Some p → IsScriptFor d p c
of_each d [] cs h i c p at is = absurd (none-some p is)
of_each d (q ∷ ps) [] h i c p at is = absurd h
of_each d (q ∷ ps) (x ∷ cs) h zero c p at is =
    let here : x ≡ c = same_Some x c at in
    let its : q ≡ p = same_Some q p is in
    record {
      signals = subst (λ (t : Text). t.signals ≡ d.signals) here h.0;
      starts = subst (λ (t : Text). StartsWith t p.body) here (subst (λ (r : Process). StartsWith x r.body) its h.1);
      apart = subst (λ (t : Text). AreApart t.links) here h.2;
    }
of_each d (q ∷ ps) (x ∷ cs) h (suc i) c p at is = of_each d ps cs h.3 i c p at is

-- those that start with the bodies of a design's processes are theirs
pub are_scripts : (d : Parts) (scripts : List Text) → AreOf d.signals (map (λ (p : Process). p.body) d.processes) scripts → AreScripts d scripts
are_scripts d scripts h = record { count = of_count d.signals d.processes scripts h; each = of_each d d.processes scripts h }
