use Rattle.std.proofs.Common.{◌≡◌, [], map, ap, sym, ◌∙◌}
use Rattle.vs_elab_constants.specs.vs_widths.specs.Names.{meaning_of, by_bytes}
use Rattle.vs_elab_signals.specs.vs_scopes.specs.Reads.{read_piece}
use Rattle.vs_scopes.specs.Parameters.{parameters_among}
use Rattle.vs_scopes.specs.Declarations.{unsized_of, early_names}
use Rattle.vs_scopes.specs.Scopes.{constant_names}
use Rattle.vs_scopes.specs.scopes_passes.Declared.{first_of}
use Rattle.vs_scopes.specs.scopes_passes.Parts.{read_parameter}
use Rattle.vs_scopes.proofs.DeclaredLemmas.{meaning_of-append}
use Rattle.vs_elab_signals.proofs.texts.block_text.Goals as goal

pub returns : goal.returns
returns c = λ n.
    (let ps = map read_piece c.args.pieces.now in
    let early = early_names unsized_of (parameters_among ps) [] ps in
    let cs = constant_names (by_bytes c.args.constants.now) in
    let parameters : map read_parameter c.deref.result.now ≡ parameters_among ps = ap (map read_parameter) c.deref.ensures.value ∙ c.in_ok-parameters.ensures in
    let start : meaning_of c.in_ok-names.names n ≡ meaning_of early n = (rw parameters at c.in_ok-names.ensures) n in
    c.in_ok-add_constants.ensures n ∙ ap (λ o. first_of o (meaning_of cs n)) start ∙ sym (meaning_of-append early cs n))
