-- The names of a design hold no line feed where those of its modules don't.
use Rattle.std.proofs.Common.{◌≡◌, true, List, [], ◌∷◌, refl, ap, ◌∙◌}
use Rattle.std.specs.List.{list_all, AllByRecursion}
use Rattle.std.proofs.lemmas.Bool.{and_from}
use Rattle.std.proofs.lemmas.List.Elements.{recursion_from_All}
use Rattle.vs_syntax.specs.vs_lexer.specs.NameLines.{is_one_line}
use Rattle.vs_design.specs.declared.design.Entry.{Entry}
use Rattle.vs_design.specs.declared.design.Entry.TheVariants.{Enter, Declare, Leave}
use Rattle.vs_design.specs.declared.signal.Signal.{Signal}
use Rattle.vs_design.specs.OneLine.{is_one_line_entry, HasNamesOfOneLine}
use Rattle.vs_design.specs.Parts.{Parts}
use Rattle.vs_elaborate.specs.Named.{HasName, HasNames, IsNamedEntry}
use Rattle.vs_elaborate.proofs.OneLineTextLemmas.{printed_one_line, part_one_line}

signals_one_line : (xs : List Signal) → AllByRecursion (λ (s : Signal). HasName is_one_line s.name.items) xs →
    list_all (λ (s : Signal). is_one_line s.name.items) xs ≡ true
signals_one_line [] h = refl
signals_one_line (x ∷ xs) h =
    and_from (is_one_line x.name.items) (list_all (λ (s : Signal). is_one_line s.name.items) xs)
    (ap is_one_line h.0.printed ∙ printed_one_line h.0.name h.0.passes) (signals_one_line xs h.1)

entries_one_line : (es : List Entry) → AllByRecursion (IsNamedEntry is_one_line) es → list_all is_one_line_entry es ≡ true
entries_one_line [] h = refl
entries_one_line (Enter kind name ∷ es) h =
    and_from (is_one_line name.items) (list_all is_one_line_entry es)
    (ap is_one_line h.0.printed ∙ part_one_line h.0.part h.0.passes) (entries_one_line es h.1)
entries_one_line (Declare j ∷ es) h = entries_one_line es h.1
entries_one_line (Leave ∷ es) h = entries_one_line es h.1

pub named_one_line : (d : Parts) → HasNames is_one_line d → HasNamesOfOneLine d
named_one_line d h = record {
  signals = signals_one_line d.signals (recursion_from_All (λ (s : Signal). HasName is_one_line s.name.items) d.signals h.signals);
  scopes = entries_one_line d.outline (recursion_from_All (IsNamedEntry is_one_line) d.outline h.scopes);
}
