use Rattle.std.proofs.Common.{◌≡◌, true, false, List, ◌++◌, map, sym, subst}
use Rattle.std.specs.Prelude.{IfSome, filter, unwrap_or, if◌then◌else◌}
use Rattle.vs_design.specs.Traces.{Slot, AreRising}
use Rattle.vs_process.specs.Executions.{after, finish_time, slots, trace, is_by, is_complete}
use Rattle.vs_kernel.specs.vs_vcd_writing.specs.Codes.{shown}
use Rattle.vs_kernel.specs.vs_vcd_writing.specs.Shown.{slot_at}
use Rattle.vs_kernel.specs.vs_vcd_writing.specs.Text.{vcd_header, vcd_slots, vcd_text}
use Rattle.vs_kernel.specs.vs_vcd_writing.specs.Values.{shown_value}
use Rattle.vs_vcd_reader.specs.Layout.{IsLayout}
use Rattle.vs_vcd_reader.specs.Plain.{plain_dump}
use Rattle.vs_kernel.specs.Runs.{text_so_far}
use Rattle.vs_vcd_reader.specs.ReadBack.{dump_so_far}
use Rattle.vs_vcd_reader.specs.Conditions.{AreWhole, IsEnd}
use Rattle.vs_vcd_reader.specs.Said.{dump_begun, dump_of}
use Rattle.vs_vcd_reader.specs.Values.{values_at}
use Rattle.vs_kernel.proofs.RunsLemmas.{all_kept}
use Rattle.vs_vcd_reader.proofs.WholeLemmas.{whole, ended}
use Rattle.vs_vcd_reader.proofs.run_laws.run_dumps_are_read.Goals as goal

pub returns : goal.returns
returns c =
    λ grain d moves until outlined bound legal stops some.
    let kept : filter (is_by until) (slots d moves) ≡ slots d moves = all_kept until d moves stops in
    let rises : AreRising (filter (is_by until) (slots d moves)) = c.times_rise.ensures grain d moves until legal bound in
    let all : AreWhole d (slots d moves) = whole grain d moves legal some (subst AreRising kept rises) (c.stores_are_sized.ensures.slots d moves) in
    let traced : AreWhole d (filter (is_by until) (slots d moves)) = subst (AreWhole d) (sym kept) all in
    let end = unwrap_or (finish_time until (after d moves)) until in
    let last : IsEnd (filter (is_by until) (slots d moves)) end = subst (λ l. IsEnd l end) (sym kept) (ended grain d moves until legal bound stops) in
    let layout : IsLayout (text_so_far d moves until) (dump_so_far d moves until) =
    elim (is_complete until (after d moves))
    as (λ b. IsLayout (if b then vcd_text d (trace d moves until) until else vcd_header d ++ vcd_slots d (slots d moves)) (if b then dump_of d (trace d moves until) until else dump_begun d (slots d moves))) [
      | true ↦ c.written_dumps_are_read.ensures.whole d (trace d moves until) until outlined traced last
      | false ↦ c.written_dumps_are_read.ensures.begun d (slots d moves) outlined all
    ] in
    record {
      layout = layout;
      values = λ time.
          elim (is_complete until (after d moves))
          as (λ b. IfSome (slot_at time (slots d moves)) (λ (s : Slot). values_at time (if b then dump_of d (trace d moves until) until else dump_begun d (slots d moves)).moments ≡ map (shown_value s.store) (shown d))) [
            | true ↦
                subst (λ (l : List Slot). IfSome (slot_at time l) (λ (s : Slot). values_at time (dump_of d (trace d moves until) until).moments ≡ map (shown_value s.store) (shown d))) kept
                (c.dumps_give_values.ensures.whole d (trace d moves until) until time traced)
            | false ↦ c.dumps_give_values.ensures.begun d (slots d moves) time all
          ];
      read = λ x is. c.dumps_are_one.ensures (text_so_far d moves until) (plain_dump x) (dump_so_far d moves until) is layout;
      whole = λ fault other is. c.faults_are_of_none.ensures (text_so_far d moves until) fault is other (dump_so_far d moves until) layout;
    }
