use Rattle.std.proofs.Common.{◌≡◌, [], ◌∷◌, ◌++◌, Some, None, map, ap, subst, ◌∙◌}
use Rattle.vs_scopes.specs.vs_widths.specs.Environment.{Environment}
use Rattle.vs_widths.specs.Names.{meaning_of, nested_names}
use Rattle.vs_elab_signals.specs.vs_scopes.specs.Reads.{read_piece}
use Rattle.vs_scopes.specs.Declarations.{Bindings}
use Rattle.vs_scopes.specs.Generate.{turns_among}
use Rattle.vs_scopes.specs.Scopes.{Scope, environment, seen_from}
use Rattle.vs_scopes.specs.Parameters.{said}
use Rattle.vs_scopes.specs.declared.faults.Reason.TheVariants.{Limit}
use Rattle.vs_scopes.specs.scopes_passes.Answers.{IsFaultAt}
use Rattle.vs_elab_signals.specs.vs_elab_constants.specs.generate_passes.Turns.{CountsTurns}
use Rattle.vs_elab_hierarchy.proofs.SeatLemmas.{around_front}
use Rattle.vs_elab_hierarchy.proofs.EnterLemmas.{known_levels}
use Rattle.vs_elab_hierarchy.proofs.OwnLemmas.{turns_counted, turns_told}
use Rattle.vs_elab_hierarchy.proofs.own.count_turns.Goals as goal

pub returns-in-Some : goal.returns-in-Some
returns-in-Some c = λ ss s a e q b m.
    (let o = c.args.scope.now in
    let outer = c.in_ok-outer.ensures ss s a (around_front ss s o.around e.number e.entered.around) e.entered.kind in
    let same : c.new-levels.result ≡ c.args.names.now ++ nested_names c.in_ok-outer.outer.items = c.new-levels.ensures ∙ ap (λ z. c.args.names.now ++ nested_names z) c.deref.ensures.value in
    let env : meaning_of c.new-levels.result ≡ environment s =
    ap (λ (z : Bindings). meaning_of z) same
    ∙ known_levels c.args.names.now (nested_names c.in_ok-outer.outer.items) (seen_from s.kind s.outer) (environment s) outer (λ n. ap (said (seen_from s.kind s.outer n)) (m n)) in
    let ps : map read_piece c.deref-2.result.now ≡ s.pieces = ap (map read_piece) c.deref-2.ensures.value ∙ e.entered.pieces in
    turns_counted s (meaning_of c.new-levels.result) (map read_piece c.deref-2.result.now) c.args.before c.in-Some.turns env ps b
    (subst (CountsTurns c.args.before (turns_among (meaning_of c.new-levels.result) (map read_piece c.deref-2.result.now))) c.in-Some.is c.in_ok-turns.ensures))

pub returns : goal.returns
returns c = λ ss s a e q b m.
    (let o = c.args.scope.now in
    let outer = c.in_ok-outer.ensures ss s a (around_front ss s o.around e.number e.entered.around) e.entered.kind in
    let same : c.new-levels.result ≡ c.args.names.now ++ nested_names c.in_ok-outer.outer.items = c.new-levels.ensures ∙ ap (λ z. c.args.names.now ++ nested_names z) c.deref.ensures.value in
    let env : meaning_of c.new-levels.result ≡ environment s =
    ap (λ (z : Bindings). meaning_of z) same
    ∙ known_levels c.args.names.now (nested_names c.in_ok-outer.outer.items) (seen_from s.kind s.outer) (environment s) outer (λ n. ap (said (seen_from s.kind s.outer n)) (m n)) in
    let ps : map read_piece c.deref-2.result.now ≡ s.pieces = ap (map read_piece) c.deref-2.ensures.value ∙ e.entered.pieces in
    turns_told s (meaning_of c.new-levels.result) (map read_piece c.deref-2.result.now) c.args.before c.fault_at.result env ps b
    (subst (CountsTurns c.args.before (turns_among (meaning_of c.new-levels.result) (map read_piece c.deref-2.result.now))) c.in-None.is c.in_ok-turns.ensures)
    (subst (λ z. IsFaultAt Limit z c.fault_at.result) q c.fault_at.ensures))
