-- The statements of a process are numbered.
use Rattle.std.proofs.Common.{◌≡◌, ℕ, ◌<◌, ◌&&◌, true, Some, List, length, get_or, slice_get, sym, ◌∙◌, ap, subst}
use Rattle.std.proofs.lemmas.Bool.{and_parts}
use Rattle.std.proofs.lemmas.Option.{slice_get-get_or}
use Rattle.vs_design.specs.declared.design.Process.{Process}
use Rattle.vs_design.specs.declared.statement.Statement.{Statement}
use Rattle.vs_design.specs.Parts.{Parts}
use Rattle.vs_design.specs.WellFormed.{WellFormed, counts_from, is_body_of, is_sound_process, is_sound_statement, numbers}
use Rattle.vs_process.proofs.ProcessLists.{all_slice}

process_at : (xs ys : List Process) (i : ℕ) (q : Process) → ys ≡ xs → i < length xs → q ≡ get_or ys i q → slice_get xs i ≡ Some q
process_at xs ys i q same lt is = slice_get-get_or xs i q lt ∙ ap (λ x. Some x) (sym (is ∙ ap (λ l. get_or l i q) same))

counted : (d : Parts) → WellFormed d → (w : ℕ) (q : Process) → slice_get d.processes w ≡ Some q → counts_from 0 (numbers q.body) ≡ true
counted d formed w q is =
    (and_parts (is_sound_statement d.signals q.body) (counts_from 0 (numbers q.body))
    (and_parts (is_sound_statement d.signals q.body && counts_from 0 (numbers q.body)) (is_body_of q.kind q.body) (all_slice (λ (p : Process). is_sound_process d.signals p ≡ true) d.processes w q is formed.processes)).0).1

-- those of a text that is the body of one
pub counted_in : (d : Parts) → WellFormed d → (ys : List Process) → ys ≡ d.processes → (w : ℕ) → w < length d.processes → (q : Process) → q ≡ get_or ys w q →
    (body : Statement) → body ≡ q.body → counts_from 0 (numbers body) ≡ true
counted_in d formed ys same w within q is body body_is =
    subst (λ (s : Statement). counts_from 0 (numbers s) ≡ true) (sym body_is) (counted d formed w q (process_at d.processes ys w q same within is))
