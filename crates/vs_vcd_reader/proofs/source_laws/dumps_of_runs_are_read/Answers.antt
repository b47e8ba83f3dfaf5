use Rattle.std.proofs.Common.{◌≡◌, [], subst, sym}
use Rattle.vs_vcd_reader.specs.Conditions.{IsOutlined}
use Rattle.vs_run_regions.specs.vs_process.specs.declared.moves.Grain.TheVariants.{Statement}
use Rattle.vs_run_regions.specs.vs_process.specs.Executions.{after, slots}
use Rattle.vs_vcd_reader.specs.ReadBack.{ReadsBack}
use Rattle.vs_simulate.specs.Honesty.{Defines}
use Rattle.vs_vcd_reader.proofs.BackEndLemmas.{whole_complete}
use Rattle.vs_vcd_reader.proofs.source_laws.dumps_of_runs_are_read.Goals as goal

pub returns : goal.returns
returns c = λ bytes top until steps outcome old new lines_old lines_new below h same.
    (let d = h.design in
    let ran = h.ran in
    let outlined : IsOutlined d = subst IsOutlined (sym same) (c.outline_is_in_order.ensures bytes top (subst (Defines bytes top) same h.defined)) in
    let begun : (slots d ran.moves ≡ [] → ⊥) → ReadsBack d ran.moves until =
    λ some. c.run_dumps_are_read.ensures Statement d ran.moves until outlined below ran.statement ran.stops some in
    record {
      run = h;
      whole = λ whole.
          (let complete = whole_complete _ until steps _ (after d ran.moves) ran.end whole in
          begun (c.complete_runs_end_slots.ensures Statement d ran.moves until ran.statement complete));
      begun = begun;
    })
