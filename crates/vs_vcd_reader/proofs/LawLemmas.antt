-- A text is one dump, or has faults.
use Rattle.std.proofs.Common.{ℕ, List, refl, sym, subst, ◌∙◌}
use Rattle.vs_vcd_reader.specs.declared.fault.VcdFault.TheVariants as f
use Rattle.vs_vcd_reader.specs.Layout.{IsLayout}
use Rattle.vs_vcd_reader.specs.Faults.{IsBadLine, IsNoDump}
use Rattle.vs_vcd_reader.specs.Laws.{DumpsAreOne, FaultsAreOfNone}
use Rattle.vs_vcd_reader.specs.Steps.{items_of}
use Rattle.vs_vcd_reader.specs.Steps.{Place as p}
use Rattle.vs_vcd_reader.proofs.DumpLemmas.{dump_text_is, items_once}
use Rattle.vs_vcd_reader.proofs.FollowLemmas.{same_items}
use Rattle.vs_vcd_reader.proofs.WayLemmas.{dump_end}

pub dumps_once : DumpsAreOne
dumps_once text x y h k =
    let first = dump_end text x h in
    let second = dump_end text y k in
    items_once x y
    (same_items p.Start first.last second.last (items_of x) (items_of y) first.steps second.steps (sym (dump_text_is x) ∙ sym h.is ∙ k.is ∙ dump_text_is y))

bad_is_none : (text : List ℕ) (before : List (List ℕ)) (line : List ℕ) → IsBadLine text before line → IsNoDump text
bad_is_none text before line h = λ x k. h.bad (record { rest = h.rest; dump = x; is = subst (λ l. IsLayout l x) h.is k })

pub faults_of_none : FaultsAreOfNone
faults_of_none text f.Memory h other = absurd (other refl)
faults_of_none text f.Header h other = bad_is_none text h.before h.line h.bad
faults_of_none text f.Time h other = bad_is_none text h.before h.line h.bad
faults_of_none text f.Code h other = bad_is_none text h.before h.line h.bad
faults_of_none text f.Line h other = bad_is_none text h.before h.line h.bad
faults_of_none text f.Cut h other = h.none
