-- Runs that stand at a point, and turns behind it.
use Rattle.std.proofs.Common.{◌≡◌, ℕ, zero, suc, ◌+◌, ◌≤◌, Bool, false, Option, List, map, sym, subst, arith}
use Rattle.vs_design.specs.Parts.{Parts}
use Rattle.vs_run_regions.specs.vs_process.specs.Executions.{is_combinational}
use Rattle.vs_run_regions.specs.vs_process.specs.Blocks.{BlocksExclude, InsideFollows, inside_block}
use Rattle.vs_kernel.specs.vs_run_steps.specs.Points.{Point}
use Rattle.vs_kernel.specs.Runs.{HasBegun}
use Rattle.vs_kernel.specs.vs_run_steps.specs.Turns.{AllTurned, AllTurnedPart, Turned}
use Rattle.vs_kernel.proofs.RunsLemmas.{HasRun, goes_on, incomplete, inside_next, move_failed, permitted, permitted_block}

-- a run that stands at a point
pub record IsAtPoint (d : Parts) (until steps taken : ℕ) (p : Point) (old lold : Option (List ℕ)) : Type 0 where
  pub run : HasRun d until steps taken p.state p.writer old p.vcd lold p.lines
  pub inside : p.inside ≡ inside_block d.processes p.state.places

-- behind a turn
one_on : {d : Parts} {until steps taken : ℕ} {p : Point} {old lold : Option (List ℕ)} → IsAtPoint d until steps taken p old lold → (blocks : List Bool) (q : Point) → BlocksExclude → InsideFollows →
    blocks ≡ map is_combinational d.processes → p.state.over ≡ false → p.state.time ≤ until → (taken ≡ steps → ⊥) → Turned blocks p q → IsAtPoint d until steps (taken + 1) q old lold
one_on {d} {until} {steps} {taken} {p} {old} {lold} r blocks q exclude follows told going early more t =
    let block = permitted_block r.run exclude p.inside t.choice r.inside going t.enabled t.free in
    record {
      run =
          goes_on r.run t.choice (permitted d p.state t.choice going t.enabled) block (incomplete until p.state going early) more t.made (t.written d) (t.text d) t.lines;
      inside = inside_next d p.state q.state t.choice blocks q.inside follows told block t.made t.told;
    }

-- behind turns, one after another
pub all_on : {d : Parts} {until steps taken : ℕ} {p : Point} {old lold : Option (List ℕ)} → IsAtPoint d until steps taken p old lold → (n : ℕ) (blocks : List Bool) (q : Point) → BlocksExclude → InsideFollows →
    blocks ≡ map is_combinational d.processes → p.state.time ≤ until → taken + n ≤ steps → AllTurned n blocks p q → IsAtPoint d until steps (taken + n) q old lold
all_on {d} {until} {steps} {taken} {p} {old} {lold} r zero blocks q exclude follows told early within t =
    let none : taken ≡ taken + 0 = omega arith in
    subst (λ (k : ℕ). IsAtPoint d until steps k q old lold) none (subst (λ (x : Point). IsAtPoint d until steps taken x old lold) (sym t) r)
all_on {d} {until} {steps} {taken} {p} {old} {lold} r (suc n) blocks q exclude follows told early within t =
    let before : IsAtPoint d until steps (taken + n) t.0 old lold = all_on r n blocks t.0 exclude follows told early (omega (arith, within)) t.1 in
    let by : t.0.state.time ≤ until = omega (arith, t.3, early) in
    let more : (taken + n) + 1 ≡ taken + suc n = omega arith in
    subst (λ (k : ℕ). IsAtPoint d until steps k q old lold) more (one_on before blocks q exclude follows told t.2 by (omega (arith, within)) t.4)

-- turns of which the last one failed
pub all_failed : {d : Parts} {until steps taken budget : ℕ} {p : Point} {old lold vcd lines : Option (List ℕ)} → IsAtPoint d until steps taken p old lold → (blocks : List Bool) → BlocksExclude → InsideFollows →
    blocks ≡ map is_combinational d.processes → p.state.time ≤ until → taken + budget ≤ steps → AllTurnedPart budget blocks p vcd lines → HasBegun d until steps old vcd lold lines
all_failed {d} {until} {steps} {taken} {budget} {p} {old} {lold} {vcd} {lines} r blocks exclude follows told early within t =
    let q = t.last in
    let f = t.failed in
    let here : IsAtPoint d until steps (taken + t.taken) q old lold = all_on r t.taken blocks q exclude follows told early (omega (arith, within, t.within)) t.turned in
    let by : q.state.time ≤ until = omega (arith, t.time, early) in
    move_failed here.run f.choice (permitted d q.state f.choice t.going f.enabled) (permitted_block here.run exclude q.inside f.choice here.inside t.going f.enabled f.free)
    (incomplete until q.state t.going by) (omega (arith, within, t.within)) (f.text d) f.lines
