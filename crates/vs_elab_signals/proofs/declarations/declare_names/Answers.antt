use Rattle.std.proofs.Common.{arith}
use Rattle.std.proofs.lemmas.Result.{err_from_is_err_and}
use Rattle.vs_syntax.specs.declared.tree.Declarator.{Declarator}
use Rattle.vs_scopes.specs.Declarations.{DeclaredName, declared_by}
use Rattle.vs_scopes.proofs.AnswerLemmas.{kept_none, one_more, one_all, one_fault}
use Rattle.vs_elab_signals.specs.signal_passes.Declaring.{Declares, DeclaresNot}
use Rattle.vs_elab_signals.proofs.DeclareLemmas.{declares_not_more, words_at}
use Rattle.vs_elab_signals.proofs.declarations.declare_names.Goals as goal

pub loop-declarator-init : goal.loop-declarator-init
loop-declarator-init c s z i h = kept_none (Declares s c.args.to.now c.args.plan.now)

pub returns-in_err-declare_name : goal.returns-in_err-declare_name
returns-in_err-declare_name c s z i h =
    let p = err_from_is_err_and c.from_residual.result c.from_residual.ensures.1 in
    let f : Declarator → DeclaredName = declared_by s.known c.args.kind z in
    rw (p.1, p.2) (one_fault f (Declares s c.args.to.now c.args.plan.now) (Declares s c.loop-declarator.to c.loop-declarator.plan) (DeclaresNot s) c.args.declarators.now c.loop-declarator.declarator-index c.declarator-item.result c.in_err-declare_name.field-0.0 (omega arith) c.declarator-item.is (declares_not_more s) (c.loop-declarator.invariant s z i h) ((rw c.deref.ensures.value at c.in_err-declare_name.ensures) s z c.declarator-item.result.words i h (words_at s.known c.args.kind c.declarator-item.result.words _ _ i.known_is c.declared_words-words.ensures)))

pub loop-declarator-preserved : goal.loop-declarator-preserved
loop-declarator-preserved c s z i h =
    let f : Declarator → DeclaredName = declared_by s.known c.args.kind z in
    one_more f (Declares s c.args.to.now c.args.plan.now) (Declares s c.loop-declarator.to c.loop-declarator.plan) (Declares s c.declare_name.new.to c.declare_name.new.plan) c.args.declarators.now c.loop-declarator.declarator-index c.declarator-item.result (omega arith) c.declarator-item.is (c.loop-declarator.invariant s z i h) ((rw c.deref.ensures.value at c.in_ok-declare_name.ensures) s z c.declarator-item.result.words i h (words_at s.known c.args.kind c.declarator-item.result.words _ _ i.known_is c.declared_words-words.ensures))

pub returns : goal.returns
returns c s z i h =
    let f : Declarator → DeclaredName = declared_by s.known c.args.kind z in
    one_all f (Declares s c.args.to.now c.args.plan.now) (Declares s c.loop-declarator.to c.loop-declarator.plan) c.args.declarators.now c.loop-declarator.declarator-index (omega arith) (c.loop-declarator.invariant s z i h)
