use Rattle.std.proofs.Common.{◌≡◌, ◌+◌, ◌∷◌, ◌++◌, [], ◌∙◌, Some, None, slice_get, map, drop, get_or, ap, sym, arith}
use Rattle.std.proofs.lemmas.List.{drop_all}
use Rattle.std.proofs.lemmas.Option.{slice_get-get_or}
use Rattle.vs_widths.specs.Names.{by_bytes}
use Rattle.vs_scopes.specs.scopes_passes.Parts.{read_given}
use Rattle.vs_scopes.proofs.PassLemmas.{moved_by, ended}
use Rattle.vs_elab_constants.specs.passes.Finding.{found_constants}
use Rattle.vs_elab_constants.proofs.SearchLemmas.{found_next, found_skipped}
use Rattle.vs_elab_constants.proofs.finding.push_found.Goals as goal
use Rattle.vs_elab_constants.proofs.finding.push_found.Goals.{in-Some+in_ok-push_constant, in_default}

pub loop-number-preserved : goal.loop-number-preserved
loop-number-preserved c =
    let xs = c.args.list.now in
    let vs = c.args.values.now in
    let i = c.loop-number.number in
    elim c.match-values-number.branch [
      | in-Some+in_ok-push_constant w ↦
          let x = get_or xs i w.index-list-number.result in
          let v = w.in-Some.constant in
          let at : slice_get vs i ≡ Some (Some v) = slice_get-get_or vs i _ (omega (arith, c.requires.all, c.loop-number-test.true)) ∙ ap Some w.in-Some.is in
          moved_by (by_bytes c.loop-number.constants.items) (by_bytes c.match-values-number.constants.items) ((x.parameter.name.now, v) ∷ []) (found_constants (map read_given (drop i xs)) (drop i vs))
          (found_constants (map read_given (drop (i + 1) xs)) (drop (i + 1) vs)) _
          (ap (λ z. by_bytes z.items) w.constants-is ∙ w.in_ok-push_constant.ensures) (found_next xs vs i x v c.loop-number-test.true c.requires.all (ap (get_or xs i) w.index-list-number.is) at) c.loop-number.invariant
      | in_default w ↦
          let at : slice_get vs i ≡ Some None = slice_get-get_or vs i _ (omega (arith, c.requires.all, c.loop-number-test.true)) ∙ ap Some w.in_default.is in
          ap (λ z. by_bytes z.items ++ found_constants (map read_given (drop (i + 1) xs)) (drop (i + 1) vs)) w.constants-is
          ∙ ap (λ z. by_bytes c.loop-number.constants.items ++ z) (sym (found_skipped xs vs i c.loop-number-test.true c.requires.all at)) ∙ c.loop-number.invariant
    ]

pub returns : goal.returns
returns c =
    ended _ _ _ (ap (λ z. found_constants (map read_given z) (drop c.loop-number.number c.args.values.now)) (drop_all c.loop-number.number c.args.list.now (omega (arith, c.loop-number-test.false)))) c.loop-number.invariant
