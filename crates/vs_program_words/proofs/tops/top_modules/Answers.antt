use Rattle.std.proofs.Common.{◌≡◌, ◌∙◌, List, ap, subst}
use Rattle.std.specs.Prelude.{IfOk}
use Rattle.vs_syntax.specs.declared.tree.Module.{Module}
use Rattle.vs_scopes.specs.Reads.{read_names}
use Rattle.vs_program_words.specs.Tops.{tops_among, used_by}
use Rattle.vs_program_words.proofs.tops.top_modules.Goals as goal

pub returns : goal.returns
returns c =
    let used = used_by c.args.source.now.modules.items in
    let same : read_names c.deref-2.result.now ≡ used = ap read_names c.deref-2.ensures.value ∙ c.in_ok-names.ensures ∙ ap used_by c.deref.ensures.value in
    subst (λ (ms : List Module). IfOk c.others_than.result (λ tops. read_names tops.items ≡ tops_among used ms)) c.deref-3.ensures.value
    (c.others_than.ensures used (rw same at c.in-Ok.ensures))
