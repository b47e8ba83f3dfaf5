use Rattle.std.proofs.Common.{List, true, refl, sym, subst}
use Rattle.vs_design.specs.declared.signal.Signal.{Signal}
use Rattle.vs_run_regions.specs.vs_process.specs.Spots.{IsSpotIn}
use Rattle.vs_run_steps.specs.Runs.{state_of}
use Rattle.vs_run_regions.specs.declared.update.Update.{Update}
use Rattle.vs_run_regions.specs.Updates.{IsIn}
use Rattle.vs_kernel.specs.Making.{WritesUpdate}
use Rattle.vs_kernel.proofs.moves.make.Goals as goal

pub returns-in_ok-write_planes-in-Bits-clause-written : goal.returns-in_ok-write_planes-in-Bits-clause-written
returns-in_ok-write_planes-in-Bits-clause-written g c =
    subst (λ (x : Update). WritesUpdate x c.args.run.now.regions.listed.writes (state_of c.args.run.now) (state_of c.write_planes.new.self) true) (sym c.in-Bits.is)
    (refl, c.in_ok-write_planes-in-Bits.ensures.state)

pub returns-in_ok-write_activated-in-Any-clause-written : goal.returns-in_ok-write_activated-in-Any-clause-written
returns-in_ok-write_activated-in-Any-clause-written g c =
    subst (λ (x : Update). WritesUpdate x c.args.run.now.regions.listed.writes (state_of c.args.run.now) (state_of c.write_activated.new.self) true) (sym c.in-Any.is)
    (refl, c.in_ok-write_activated-in-Any.ensures.state)

pub write_planes-requires : goal.write_planes-requires
write_planes-requires g c κs within = (
  within,
  (
    c.requires.agrees,
    (
      subst (λ (l : List Signal). IsSpotIn l c.in-Bits.bits.spot.now) c.requires.agrees.signals (subst (IsIn c.args.run.now.regions.listed.signals c.args.run.now.regions.listed.writes) c.in-Bits.is c.requires.known),
      c.in-Bits.bits.fit,
    ),
  ),
)

pub write_activated-requires : goal.write_activated-requires
write_activated-requires g c κs within = (within, (c.requires.agrees, subst (IsIn c.args.run.now.regions.listed.signals c.args.run.now.regions.listed.writes) c.in-Any.is c.requires.known))
