use Rattle.std.proofs.Common.{[], ◌∷◌, refl}
use Rattle.std.proofs.lemmas.Result.{err_from_is_err_and, MatchResult-weaker}
use Rattle.vs_scopes.specs.Scopes.{top_scope}
use Rattle.vs_elab_hierarchy.proofs.SourceLemmas.{nothing_told, top_told, top_next}
use Rattle.vs_elab_hierarchy.proofs.TopLemmas.{module_permits, top_own, ready_with, made_with, opening_with}
use Rattle.vs_elab_hierarchy.proofs.EnterLemmas.{found_none as nothing_found, found_some as module_found}
use Rattle.vs_elab_hierarchy.proofs.source.open_top.Goals as goal

pub returns-in_default : goal.returns-in_default
returns-in_default c =
    nothing_told c.args.modules.now c.args.top.now c.module_fault.result (nothing_found c.args.modules.now c.args.top.now c.in_ok-names.names c.in_ok-names.ensures c.in_default.ensures) c.module_fault.ensures

pub returns-in_err-scope : goal.returns-in_err-scope
returns-in_err-scope c =
    let p = err_from_is_err_and c.from_residual-in_err-scope.result c.from_residual-in_err-scope.ensures.1 in
    let found = module_found c.args.modules.now c.args.top.now c.in_ok-names.names c.in-Some.listed c.in_ok-names.ensures c.in-Some.ensures in
    rw (p.1, p.2) (top_told c.args.modules.now c.args.top.now c.in-Some.listed.«module».now c.in_err-scope.field-0.0 found c.in_err-scope.ensures)

pub returns-in_err-list_scope : goal.returns-in_err-list_scope
returns-in_err-list_scope c =
    let p = err_from_is_err_and c.from_residual-in_err-list_scope.result c.from_residual-in_err-list_scope.ensures.1 in
    let m = c.in-Some.listed.«module».now in
    let found = module_found c.args.modules.now c.args.top.now c.in_ok-names.names c.in-Some.listed c.in_ok-names.ensures c.in-Some.ensures in
    let nets = c.in-Some.listed.nets in
    let permits = module_permits c.args.modules.now c.args.top.now c.in_ok-names.names c.in-Some.listed c.in_ok-names.ensures c.in-Some.ensures in
    let next = top_next nets m c.args.list.now.items c.args.plan.now c.in_ok-scope.scope c.requires.empty c.requires.planned c.in_ok-scope.ensures in
    rw (p.1, p.2) (top_own c.args.modules.now c.args.top.now m found nets permits c.in_ok-scope.ensures.parameters c.in_err-list_scope.field-0.0 (c.in_err-list_scope.ensures [] (top_scope nets m) c.requires.planned next))

pub open_inside-requires-clause-ready : goal.open_inside-requires-clause-ready
open_inside-requires-clause-ready c =
    let m = c.in-Some.listed.«module».now in
    let found = module_found c.args.modules.now c.args.top.now c.in_ok-names.names c.in-Some.listed c.in_ok-names.ensures c.in-Some.ensures in
    let nets = c.in-Some.listed.nets in
    let permits = module_permits c.args.modules.now c.args.top.now c.in_ok-names.names c.in-Some.listed c.in_ok-names.ensures c.in-Some.ensures in
    let next = top_next nets m c.args.list.now.items c.args.plan.now c.in_ok-scope.scope c.requires.empty c.requires.planned c.in_ok-scope.ensures in
    let added = c.in_ok-list_scope.ensures [] (top_scope nets m) c.requires.planned next in
    (c.args.modules.now, top_scope nets m ∷ [], top_scope nets m, ready_with c.args.modules.now c.args.top.now m found nets permits c.in_ok-scope.ensures.parameters _ c.in_ok-names.names c.args.list.now.items c.list_scope.new.list.items c.args.plan.now c.list_scope.new.plan c.in_ok-scope.scope refl c.in_ok-names.ensures added)

pub returns : goal.returns
returns c =
    let ms = c.args.modules.now in
    let top = c.args.top.now in
    let m = c.in-Some.listed.«module».now in
    let found = module_found ms top c.in_ok-names.names c.in-Some.listed c.in_ok-names.ensures c.in-Some.ensures in
    let nets = c.in-Some.listed.nets in
    let permits = module_permits ms top c.in_ok-names.names c.in-Some.listed c.in_ok-names.ensures c.in-Some.ensures in
    let fine = c.in_ok-scope.ensures.parameters in
    let next = top_next nets m c.args.list.now.items c.args.plan.now c.in_ok-scope.scope c.requires.empty c.requires.planned c.in_ok-scope.ensures in
    let added = c.in_ok-list_scope.ensures [] (top_scope nets m) c.requires.planned next in
    let ready = ready_with ms top m found nets permits fine 16448 c.in_ok-names.names c.args.list.now.items c.list_scope.new.list.items c.args.plan.now c.list_scope.new.plan c.in_ok-scope.scope refl c.in_ok-names.ensures added in
    MatchResult-weaker c.open_inside.result (c.open_inside.ensures ms (top_scope nets m ∷ []) (top_scope nets m) ready)
    (λ x h. made_with ms top m found nets permits fine 16448 c.in_ok-names.names c.args.list.now.items c.list_scope.new.list.items c.open_inside.new.list.items c.args.plan.now c.list_scope.new.plan c.open_inside.new.plan c.in_ok-scope.scope refl c.in_ok-names.ensures c.requires.outline added h)
    (λ e h. opening_with ms top m found nets permits fine 16448 e refl h)
