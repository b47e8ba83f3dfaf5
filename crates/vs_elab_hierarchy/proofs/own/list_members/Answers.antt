use Rattle.std.proofs.Common.{◌≡◌, [], ◌∷◌, ◌++◌, Result, Ok, Err, ap, ◌∙◌}
use Rattle.std.specs.Prelude.{MatchResult}
use Rattle.vs_widths.specs.Names.{meaning_of, nested_names}
use Rattle.vs_scopes.specs.Declarations.{Bindings}
use Rattle.vs_scopes.specs.Scopes.{seen_from}
use Rattle.vs_scopes.specs.scopes_passes.Answers.{IsReported}
use Rattle.vs_scopes.specs.scopes_passes.Names.{read_path}
use Rattle.vs_elab_signals.specs.signal_passes.Sites.{IsSite}
use Rattle.vs_elab_hierarchy.specs.scope_passes.Own.{HoldsOwn, OpensNames, OpensOwn}
use Rattle.vs_elab_hierarchy.proofs.SeatLemmas.{around_front}
use Rattle.vs_elab_hierarchy.proofs.EnterLemmas.{known_levels}
use Rattle.vs_elab_hierarchy.proofs.OwnLemmas.{opens_names}
use Rattle.vs_elab_hierarchy.proofs.own.list_members.Goals as goal

mapped : {A E : Type 0} (P Q : A → Type 0) (R : E → Type 0) (r : Result A E) → ((x : A) → P x → Q x) → MatchResult r P R → MatchResult r Q R
mapped P Q R (Ok x) f h = f x h
mapped P Q R (Err e) f h = h

pub returns : goal.returns
returns c = λ ss s a e q base.
    (let o = c.args.scope.now in
    let whole = ss ++ s ∷ [] in
    let fits = c.in_ok-check_scope.ensures ss s a e q in
    let pieces = c.in_ok-check_pieces.ensures ss s a e q in
    let nets = c.in_ok-check_nets.ensures ss s a e q in
    let outer = c.in_ok-outer.ensures ss s a (around_front ss s o.around e.number e.entered.around) e.entered.kind in
    let known : c.new-known.result ≡ o.known ++ nested_names c.in_ok-outer.outer.items = c.new-known.ensures ∙ ap (λ z. o.known ++ nested_names z) c.deref.ensures.value in
    let site : IsSite s (read_path c.args.path.now) (meaning_of c.new-known.result) = record {
      path_is = q;
      known_is = ap (λ (z : Bindings). meaning_of z) known ∙ known_levels o.known (nested_names c.in_ok-outer.outer.items) (seen_from s.kind s.outer) s.known outer e.entered.known;
    } in
    mapped (λ names. OpensNames s names c.args.plan.now c.open_names.new.plan) (λ names. OpensOwn s names c.args.plan.now c.open_names.new.plan) (IsReported (HoldsOwn s)) c.open_names.result
    (λ names h. opens_names s names c.args.plan.now c.open_names.new.plan base fits pieces nets h) (c.open_names.ensures whole s e.entered site pieces base))
