use Rattle.std.proofs.Common.{◌+◌, ◌∙◌, ap, map, drop, arith}
use Rattle.vs_scopes.specs.Overrides.{first_end, given_from}
use Rattle.vs_scopes.specs.passes.Ends.{read_ends, read_parameter, read_given}
use Rattle.vs_scopes.proofs.PassLemmas.{moved, given_at}
use Rattle.vs_syntax.specs.vs_logic4.proofs.Basics.{front_of as drop_at}
use Rattle.vs_scopes.proofs.parameters.given_parameters.Goals as goal

pub loop-parameter-preserved : goal.loop-parameter-preserved
loop-parameter-preserved c =
    let ps = c.args.parameters.now in
    let es = read_ends c.args.ends.now in
    let i = c.loop-parameter.parameter-index in
    let k = c.loop-parameter.place in
    let p = c.parameter-item.result in
    record {
      made = moved read_given c.loop-parameter.list.items c.push-in-loop-parameter.new.self.items (record { parameter = p; over = c.end_at.result }) (read_parameter p, first_end (drop k es)) _ _ _ c.in_ok-push-2.ensures.items
          (ap (λ z. (read_parameter p, z)) c.end_at.ensures)
          (ap (λ z. given_from (map read_parameter z) (drop k es)) (drop_at ps i p (omega arith) c.parameter-item.is) ∙ given_at (read_parameter p) (map read_parameter (drop (i + 1) ps)) es k c.if-parameter.false)
          c.loop-parameter.invariant.made;
      below = omega (arith, c.loop-parameter.invariant.below);
    }
