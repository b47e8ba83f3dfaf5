use Rattle.std.proofs.Common.{arith}
use Rattle.std.proofs.lemmas.Result.{err_from_is_err_and}
use Rattle.vs_syntax.specs.declared.tree.Local.{Local}
use Rattle.vs_scopes.specs.Declarations.{DeclaredName, declared_local}
use Rattle.vs_scopes.proofs.AnswerLemmas.{kept_none, one_more, one_all, one_fault}
use Rattle.vs_elab_signals.specs.signal_passes.Declaring.{Declares, DeclaresNot}
use Rattle.vs_elab_signals.proofs.DeclareLemmas.{declares_not_more, words_at}
use Rattle.vs_elab_signals.proofs.declarations.declare_locals.Goals as goal

pub loop-one-init : goal.loop-one-init
loop-one-init c s z i h = kept_none (Declares s c.args.to.now c.args.plan.now)

pub returns-in_err-declare_name : goal.returns-in_err-declare_name
returns-in_err-declare_name c s z i h =
    let p = err_from_is_err_and c.from_residual.result c.from_residual.ensures.1 in
    let f : Local → DeclaredName = declared_local s.known c.args.kind z in
    rw (p.1, p.2) (one_fault f (Declares s c.args.to.now c.args.plan.now) (Declares s c.loop-one.to c.loop-one.plan) (DeclaresNot s) c.args.locals.now c.loop-one.one-index c.one-item.result c.in_err-declare_name.field-0.0 (omega arith) c.one-item.is (declares_not_more s) (c.loop-one.invariant s z i h) ((rw c.deref.ensures.value at c.in_err-declare_name.ensures) s z c.one-item.result.words i h (words_at s.known c.args.kind c.one-item.result.words _ _ i.known_is c.declared_words-words.ensures)))

pub loop-one-preserved : goal.loop-one-preserved
loop-one-preserved c s z i h =
    let f : Local → DeclaredName = declared_local s.known c.args.kind z in
    one_more f (Declares s c.args.to.now c.args.plan.now) (Declares s c.loop-one.to c.loop-one.plan) (Declares s c.declare_name.new.to c.declare_name.new.plan) c.args.locals.now c.loop-one.one-index c.one-item.result (omega arith) c.one-item.is (c.loop-one.invariant s z i h) ((rw c.deref.ensures.value at c.in_ok-declare_name.ensures) s z c.one-item.result.words i h (words_at s.known c.args.kind c.one-item.result.words _ _ i.known_is c.declared_words-words.ensures))

pub returns : goal.returns
returns c s z i h =
    let f : Local → DeclaredName = declared_local s.known c.args.kind z in
    one_all f (Declares s c.args.to.now c.args.plan.now) (Declares s c.loop-one.to c.loop-one.plan) c.args.locals.now c.loop-one.one-index (omega arith) (c.loop-one.invariant s z i h)
