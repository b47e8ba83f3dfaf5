use Rattle.std.proofs.Common.{ℕ, Option, None, List, option_map, slice_index_or, refl, sym, ◌∙◌, ap, arith}
use Rattle.std.proofs.lemmas.Option.{slice_get_read}
use Rattle.vs_claims.proofs.FactLemmas.{kind_told, kind_within, kinds_are, read_by}
use Rattle.vs_claims.proofs.facts.Facts.kind.Goals as goal

pub index-requires : goal.index-requires
index-requires c =
    let at = sym (c.in-Some.ensures ∙ ap (λ (ps : List (Option ℕ)). slice_index_or ps c.args.i None) c.deref.ensures.value) in
    let within = kind_within c.self.invariant c.args.i c.in-Some.k at in
    omega (arith, c.self.inside.certificate.now.processes.ok.0)

pub returns-in-None : goal.returns-in-None
returns-in-None c =
    let at = sym (c.in-None.ensures ∙ ap (λ (ps : List (Option ℕ)). slice_index_or ps c.args.i None) c.deref.ensures.value) in
    sym (kinds_are c.self.invariant c.args.self.now c.self.view_is c.args.i ∙ ap (read_by kind_told c.self.inside.certificate.now.processes.items) at)

pub returns-in-Some : goal.returns-in-Some
returns-in-Some c =
    let entries = c.self.inside.certificate.now.processes.items in
    let at = sym (c.in-Some.ensures ∙ ap (λ (ps : List (Option ℕ)). slice_index_or ps c.args.i None) c.deref.ensures.value) in
    let found = slice_get_read entries _ c.in-Some.k c.index.result.now refl (kind_within c.self.invariant c.args.i c.in-Some.k at) c.index.ensures in
    sym (kinds_are c.self.invariant c.args.self.now c.self.view_is c.args.i ∙ ap (read_by kind_told entries) at ∙ ap (option_map kind_told) found)
