use Rattle.std.proofs.Common.{refl, subst}
use Rattle.vs_scopes.specs.scopes_passes.Answers.{IsRefusal}
use Rattle.vs_elab_signals.specs.signal_passes.Declaring.{declared_so, joined_names, still_joined}
use Rattle.vs_elab_signals.proofs.DeclareLemmas.{size_wrong, words_wrong, declared_right, declares_wrong, declares_taken, declares_pushed}
use Rattle.vs_elab_signals.proofs.declarations.declare_name.Goals as goal

pub returns-in-Err : goal.returns-in-Err
returns-in-Err c s z range i e k start done h =
    let d = declared_so s.known c.args.kind z range c.args.name.now in
    let f = c.in-Err.fault in
    declares_wrong s start done d f c.part_fault.result (size_wrong s.known c.args.kind z range c.args.name.now f (rw c.in-Err.is at e)) (subst (λ y. IsRefusal y f c.part_fault.result) i.path_is c.part_fault.ensures)

pub returns-in-Err-words : goal.returns-in-Err-words
returns-in-Err-words c s z range i e k start done h =
    let d = declared_so s.known c.args.kind z range c.args.name.now in
    let f = c.in-Err-words.fault in
    declares_wrong s start done d f c.part_fault-in-Err-words.result (words_wrong s.known c.args.kind z range c.args.name.now f (rw c.in-Err-words.is at k)) (subst (λ y. IsRefusal y f c.part_fault-in-Err-words.result) i.path_is c.part_fault-in-Err-words.ensures)

pub returns-then-branch : goal.returns-then-branch
returns-then-branch c s z range i e k start done h =
    let d = declared_so s.known c.args.kind z range c.args.name.now in
    let m = rw c.in-Ok.is at e in
    let w = rw c.in-Ok-words.is at k in
    declares_taken s c.args.to.now _ c.args.plan.now start done d refl (rw c.if-branch.true at (c.in_ok-take_one.ensures (still_joined (joined_names s) done) h.counts)) (declared_right s.known c.args.kind z range c.args.name.now m.0 w.0) h

pub returns : goal.returns
returns c s z range i e k start done h =
    let d = declared_so s.known c.args.kind z range c.args.name.now in
    let m = rw c.in-Ok.is at e in
    let w = rw c.in-Ok-words.is at k in
    declares_pushed s c.args.to.now _ c.args.plan.now _ start done d _ (rw c.if-branch.false at (c.in_ok-take_one.ensures (still_joined (joined_names s) done) h.counts)) (declared_right s.known c.args.kind z range c.args.name.now m.0 w.0)
    (c.add_signal.ensures s z d.words i.path_is m.1 w.1) h
