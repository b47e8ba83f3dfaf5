-- What `$strobe` prints of a run that went to its end.
use Rattle.std.proofs.Common.{◌≡◌, ℕ, Option, Some, true, false, List, [], ◌∷◌, ◌++◌, length, refl, sym, ◌∙◌, ap}
use Rattle.vs_design.specs.Parts.{Parts}
use Rattle.vs_design.specs.Traces.{Line, Slot}
use Rattle.vs_process.specs.declared.moves.Move.{Move}
use Rattle.vs_process.specs.Executions.{after, lines_of}
use Rattle.vs_kernel.specs.Prints.{lines_text}
use Rattle.vs_kernel.specs.Runs.{RanTo}
use Rattle.vs_kernel.specs.declared.outcome.Outcome.{Outcome}
use Rattle.vs_kernel.proofs.RunsLemmas.{all_kept}
use Rattle.vs_vcd_reader.specs.BackReadBack.{is_whole}
use Rattle.vs_vcd_reader.proofs.BackEndLemmas.{whole_complete}
use Rattle.vs_sign_off.specs.Displays.{prints_at_once}
use Rattle.vs_sign_off.specs.Rows.{rows, times}
use Rattle.vs_sign_off.specs.Strobes.{AllLinesAreStrobed, bytes_of, strobed}
use Rattle.vs_sign_off.specs.passes.Printed.{Print}
use Rattle.vs_sign_off.specs.Witnesses.{Prints}
use Rattle.vs_sign_off.proofs.GiveLemmas.{appended}

text_bytes : (ls : List Line) → lines_text ls ≡ bytes_of ls
text_bytes [] = refl
text_bytes (l ∷ ls) = ap (λ (t : List ℕ). l.text ++ t) (text_bytes ls)

pub prints : (d : Parts) (time steps : ℕ) (outcome : Outcome) (text : List ℕ) (old new lines_old lines_new : Option (List ℕ)) →
    AllLinesAreStrobed → prints_at_once d ≡ false → RanTo d time steps outcome old new lines_old lines_new → lines_old ≡ Some [] → lines_new ≡ Some text →
    is_whole outcome ≡ true → Print d time text
prints d time steps outcome text old new lines_old lines_new law silent ran from to whole =
    let moves : List Move = ran.moves in
    record {
      moves = moves;
      statement = ran.statement;
      block = ran.block;
      complete = whole_complete outcome time steps (length moves) (after d moves) ran.end whole;
      printed =
          appended lines_old lines_new text (lines_text (lines_of d moves)) from to ran.lines
          ∙ text_bytes (lines_of d moves) ∙ ap (λ (ls : List Line). bytes_of ls) (law d moves silent)
          ∙ ap (λ (ss : List Slot). bytes_of (strobed ss)) (sym (all_kept time d moves ran.stops));
    }

-- how often one row of it stands there
pub of_row : {d : Parts} {time : ℕ} {text : List ℕ} → Print d time text → (row : List ℕ) (count : ℕ) → times row (rows text) ≡ count →
    Prints d time row count
of_row {d} {time} {text} h row count is = record {
  moves = h.moves;
  statement = h.statement;
  block = h.block;
  complete = h.complete;
  prints = ap (λ (t : List ℕ). times row (rows t)) (sym h.printed) ∙ is;
}
