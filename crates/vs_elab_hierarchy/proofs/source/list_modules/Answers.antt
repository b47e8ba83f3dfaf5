use Rattle.std.proofs.Common.{◌≡◌, true, take, refl, ap, ◌∙◌, arith}
use Rattle.vs_scopes.specs.Nets.{permits_after}
use Rattle.vs_elab_hierarchy.proofs.SourceLemmas.{permits_all, permits_more, lists_none, lists_more, listed_twice}
use Rattle.vs_elab_hierarchy.proofs.source.list_modules.Goals as goal

pub loop-module-init : goal.loop-module-init
loop-module-init c = record { lists = lists_none c.new-names.result c.new-names.ensures; nets = refl }

pub returns-then-not-branch : goal.returns-then-not-branch
returns-then-not-branch c =
    listed_twice c.args.modules.now c.loop-module.module-index c.module-item.result c.deref-in-loop-module.result.now c.loop-module.names c.module_fault.result (omega arith) c.module-item.is c.deref-in-loop-module.ensures.value c.loop-module.invariant.lists (rw c.if-not-branch.true at c.in_ok-declare.ensures) (rw c.deref-then-not-branch.ensures.value at c.module_fault.ensures)

pub loop-module-preserved : goal.loop-module-preserved
loop-module-preserved c =
    let ms = c.args.modules.now in
    let l = c.loop-module in
    let m = c.module-item.result in
    let behind : c.permits_after-nets.result ≡ permits_after (permits_all true (take l.module-index ms)) m.directives.items =
    c.permits_after-nets.ensures ∙ ap (permits_after l.nets) c.deref.ensures.value ∙ ap (λ z. permits_after z m.directives.items) l.invariant.nets in
    let nets = permits_more ms l.module-index m c.permits_after-nets.result (omega arith) c.module-item.is behind in
    record {
      lists = lists_more ms l.module-index m _ _ l.names _ (omega arith) c.module-item.is c.deref-in-loop-module.ensures.value refl nets l.invariant.lists (rw c.if-not-branch.false at c.in_ok-declare.ensures);
      nets = nets;
    }
