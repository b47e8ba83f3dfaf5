-- The outline of a design is that of its source.
use Rattle.std.proofs.Common.{◌≡◌, ℕ, None, List, [], ◌∷◌, ◌++◌, length, refl, sym, ap, subst, ◌∙◌}
use Rattle.std.proofs.lemmas.List.{length-map}
use Rattle.std.proofs.lemmas.List.Elements.{All-head, All-tail}
use Rattle.std.proofs.lemmas.Option.{get_or_from_slice_get, slice_get_within}
use Rattle.std.specs.List.{flat_map, All, AllZip}
use Rattle.vs_syntax.specs.declared.tree.Module.{Module}
use Rattle.vs_design.specs.declared.design.Entry.{Entry}
use Rattle.vs_design.specs.declared.design.Entry.TheVariants.{Enter, Declare, Leave}
use Rattle.vs_design.specs.declared.timescale.Timescale.{Timescale}
use Rattle.vs_design.specs.Parts.{Parts}
use Rattle.vs_design.specs.WellFormed.{counts_from, declared_in}
use Rattle.vs_elaborate.specs.vs_scopes.specs.Nets.{permits_nets}
use Rattle.vs_elaborate.specs.vs_scopes.specs.Scopes.{deepest, module_named, opened_top, scopes_of, signal_count}
use Rattle.vs_elab_signals.specs.Outlines.{Line, declare, declared, enter, leave, outline_of, IsEntry}
use Rattle.vs_elaborate.specs.DesignOf.{Represents}
use Rattle.vs_elaborate.specs.vs_elab_hierarchy.proofs.AddLemmas.{signals_shown as signals_counted}
use Rattle.vs_vcd_reader.specs.Conditions.{IsOutlined}
use Rattle.vs_vcd_reader.specs.Said.{said_by}
use Rattle.vs_vcd_lines.specs.Names.{IsScopeName}
use Rattle.vs_vcd_reader.specs.Layout.{AreDeclared}
use Rattle.vs_vcd_reader.specs.Plain.{PlainDeclaration as q}
use Rattle.vs_vcd_reader.specs.Outlined.{HasPrintedNames, IsPrintedEntry, IsPrintedSignal, OutlinesAreInOrder}
use Rattle.vs_vcd_reader.proofs.NumberLemmas.{count_up, counts_up, length-count_up, numbers_of, outline_counts}
use Rattle.vs_vcd_reader.proofs.NestLemmas.{AreGood, AreNamed, said, top_declared}
use Rattle.vs_vcd_reader.proofs.TopLemmas.{top_opened}

entries_declare : (es : List Entry) (ls : List Line) → AllZip IsEntry es ls → declared_in es ≡ numbers_of ls
entries_declare [] [] h = refl
entries_declare [] (l ∷ ls) h = absurd h
entries_declare (e ∷ es) [] h = absurd h
entries_declare (Enter kind name ∷ es) (enter t n ∷ ls) h = entries_declare es ls h.1
entries_declare (Enter kind name ∷ es) (declare p ∷ ls) h = absurd h.0
entries_declare (Enter kind name ∷ es) (leave ∷ ls) h = absurd h.0
entries_declare (Declare j ∷ es) (enter t n ∷ ls) h = absurd h.0
entries_declare (Declare j ∷ es) (declare p ∷ ls) h = ap (λ x. x ∷ declared_in es) h.0 ∙ ap (λ l. p ∷ l) (entries_declare es ls h.1)
entries_declare (Declare j ∷ es) (leave ∷ ls) h = absurd h.0
entries_declare (Leave ∷ es) (enter t n ∷ ls) h = absurd h.0
entries_declare (Leave ∷ es) (declare p ∷ ls) h = absurd h.0
entries_declare (Leave ∷ es) (leave ∷ ls) h = entries_declare es ls h.1

entries_said : (d : Parts) (es : List Entry) (ls : List Line) → AllZip IsEntry es ls → flat_map (said_by d) es ≡ said d ls
entries_said d [] [] h = refl
entries_said d [] (l ∷ ls) h = absurd h
entries_said d (e ∷ es) [] h = absurd h
entries_said d (Enter kind name ∷ es) (enter t n ∷ ls) h =
    ap (λ x. q.Scope x name.items ∷ flat_map (said_by d) es) h.0.0 ∙ ap (λ x. q.Scope t x ∷ flat_map (said_by d) es) h.0.1
    ∙ ap (λ l. q.Scope t n ∷ l) (entries_said d es ls h.1)
entries_said d (Enter kind name ∷ es) (declare p ∷ ls) h = absurd h.0
entries_said d (Enter kind name ∷ es) (leave ∷ ls) h = absurd h.0
entries_said d (Declare j ∷ es) (enter t n ∷ ls) h = absurd h.0
entries_said d (Declare j ∷ es) (declare p ∷ ls) h =
    ap (λ x. said_by d (Declare x) ++ flat_map (said_by d) es) h.0 ∙ ap (λ l. said_by d (Declare p) ++ l) (entries_said d es ls h.1)
entries_said d (Declare j ∷ es) (leave ∷ ls) h = absurd h.0
entries_said d (Leave ∷ es) (enter t n ∷ ls) h = absurd h.0
entries_said d (Leave ∷ es) (declare p ∷ ls) h = absurd h.0
entries_said d (Leave ∷ es) (leave ∷ ls) h = ap (λ l. q.Upscope ∷ l) (entries_said d es ls h.1)

entries_named : (es : List Entry) (ls : List Line) → AllZip IsEntry es ls → All IsPrintedEntry es → AreNamed ls
entries_named [] [] h k = tt
entries_named [] (l ∷ ls) h k = absurd h
entries_named (e ∷ es) [] h k = absurd h
entries_named (Enter kind name ∷ es) (enter t n ∷ ls) h k =
    let first = All-head IsPrintedEntry (Enter kind name) es k in
    (subst (IsScopeName t) h.0.1 (subst (λ x. IsScopeName x name.items) h.0.0 first), entries_named es ls h.1 (All-tail IsPrintedEntry (Enter kind name) es k))
entries_named (Enter kind name ∷ es) (declare p ∷ ls) h k = absurd h.0
entries_named (Enter kind name ∷ es) (leave ∷ ls) h k = absurd h.0
entries_named (Declare j ∷ es) (enter t n ∷ ls) h k = absurd h.0
entries_named (Declare j ∷ es) (declare p ∷ ls) h k = (tt, entries_named es ls h.1 (All-tail IsPrintedEntry (Declare j) es k))
entries_named (Declare j ∷ es) (leave ∷ ls) h k = absurd h.0
entries_named (Leave ∷ es) (enter t n ∷ ls) h k = absurd h.0
entries_named (Leave ∷ es) (declare p ∷ ls) h k = absurd h.0
entries_named (Leave ∷ es) (leave ∷ ls) h k = (tt, entries_named es ls h.1 (All-tail IsPrintedEntry Leave es k))

all_good : (d : Parts) → HasPrintedNames d → AreGood d
all_good d h i s e =
    let there = slice_get_within d.signals i s e in
    let is : IsPrintedSignal s = subst IsPrintedSignal (get_or_from_slice_get d.signals i s s e) (h.signals i s there) in
    record { named = is.named; some = s.sized.0; most = s.sized.1; ranged = is.ranged }

-- the numbers that a design's outline declares
numbers_are : (d : Parts) (ms : List Module) (top : List ℕ) (scale : Timescale) → Represents d scale (scopes_of ms top) (outline_of ms top)
    → declared_in d.outline ≡ count_up 0 (length d.signals)
numbers_are d ms top scale r =
    let size : signal_count (scopes_of ms top) ≡ length d.signals =
    sym (signals_counted (scopes_of ms top)) ∙ ap length (sym r.signals) ∙ length-map d.signals declared in
    entries_declare d.outline (outline_of ms top) r.outline ∙ outline_counts ms top ∙ ap (count_up 0) size

pub design_outlined : (d : Parts) (ms : List Module) (top : List ℕ) (scale : Timescale) → Represents d scale (scopes_of ms top) (outline_of ms top)
    → HasPrintedNames d → (opened_top (permits_nets ms top) (module_named ms top) ≡ None → ⊥) → IsOutlined d
design_outlined d ms top scale r h opens =
    let numbers = numbers_are d ms top scale r in
    let lines = outline_of ms top in
    record {
      in_order = ap (counts_from 0) numbers ∙ counts_up 0 (length d.signals);
      all = ap length numbers ∙ length-count_up 0 (length d.signals);
      declared = subst AreDeclared (sym (entries_said d d.outline lines r.outline))
          (top_declared d deepest ms (permits_nets ms top) (module_named ms top) (opened_top (permits_nets ms top) (module_named ms top)) refl (all_good d h)
          (entries_named d.outline lines r.outline h.scopes) opens);
    }

pub outlines : OutlinesAreInOrder
outlines source top d is h = design_outlined d source.modules.items top _ is.found h (top_opened source top d is)
