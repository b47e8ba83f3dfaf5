use Rattle.std.proofs.Common.{◌≡◌, [], map, ap, subst, ◌∙◌}
use Rattle.std.proofs.lemmas.Result.{err_from_is_err_and}
use Rattle.vs_widths.specs.Names.{by_bytes}
use Rattle.vs_elab_signals.specs.vs_scopes.specs.Reads.{read_piece}
use Rattle.vs_scopes.specs.Declarations.{declared_by_port, declared_among}
use Rattle.vs_scopes.specs.Scopes.{constant_names}
use Rattle.vs_scopes.specs.scopes_passes.Answers.{borrowed, IsReported}
use Rattle.vs_scopes.specs.scopes_passes.Names.{read_path}
use Rattle.vs_scopes.specs.scopes_passes.Parts.{read_port}
use Rattle.vs_scopes.specs.Ports.{names_where, is_joined}
use Rattle.vs_elab_signals.specs.passes.Counting.{Counts}
use Rattle.vs_elab_signals.specs.signal_passes.Naming.{Bound}
use Rattle.vs_elab_signals.specs.signal_passes.Declaring.{DeclaresPorts, DeclaresPortsNot, Declares, DeclaresNot, joined_names}
use Rattle.vs_elab_signals.proofs.BindLemmas.{bound_none}
use Rattle.vs_elab_hierarchy.proofs.OwnLemmas.{declares_ports_none, declares_none, declares_all, constants_told, ports_told, pieces_told}
use Rattle.vs_elab_hierarchy.proofs.own.declare.Goals as goal

pub returns-in_err-bind_constants : goal.returns-in_err-bind_constants
returns-in_err-bind_constants c = λ ss s e at.
    (let p = err_from_is_err_and c.from_residual.result c.from_residual.ensures.1 in
    let q : constant_names (by_bytes c.deref.result.now) ≡ constant_names s.constants = ap (λ z. constant_names (by_bytes z)) c.deref.ensures.value ∙ ap constant_names e.constants in
    rw (p.1, p.2) (constants_told s c.args.plan.now c.in_err-bind_constants.field-0.0 (read_path c.args.site.path.now) (constant_names (by_bytes c.deref.result.now)) at.path_is q
    (c.in_err-bind_constants.ensures [] [] (bound_none c.new-names.result c.new-names.ensures))))

pub returns-in_err-declare_ports : goal.returns-in_err-declare_ports
returns-in_err-declare_ports c = λ ss s e at.
    (let p = err_from_is_err_and c.from_residual-in_err-declare_ports.result c.from_residual-in_err-declare_ports.ensures.1 in
    let q : constant_names (by_bytes c.deref.result.now) ≡ constant_names s.constants = ap (λ z. constant_names (by_bytes z)) c.deref.ensures.value ∙ ap constant_names e.constants in
    let ports : map read_port c.deref-2.result.now ≡ s.ports = ap (map read_port) c.deref-2.ensures.value ∙ e.ports in
    let first : Bound c.bind_constants.new.names (constant_names s.constants) = subst (Bound c.bind_constants.new.names) q (c.in_ok-bind_constants.ensures [] [] (bound_none c.new-names.result c.new-names.ensures)) in
    let told : IsReported (DeclaresPortsNot s c.args.plan.now (map (declared_by_port s.known) (map read_port c.deref-2.result.now))) c.in_err-declare_ports.field-0.0 =
    c.in_err-declare_ports.ensures s at c.args.plan.now [] (declares_ports_none s c.bind_constants.new.names c.args.plan.now first c.requires.room) in
    rw (p.1, p.2) (ports_told s c.args.plan.now c.in_err-declare_ports.field-0.0 (subst (λ z. IsReported (DeclaresPortsNot s c.args.plan.now (map (declared_by_port s.known) z)) c.in_err-declare_ports.field-0.0) ports told)))

pub returns-in_err-declare_pieces : goal.returns-in_err-declare_pieces
returns-in_err-declare_pieces c = λ ss s e at.
    (let p = err_from_is_err_and c.from_residual-in_err-declare_pieces.result c.from_residual-in_err-declare_pieces.ensures.1 in
    let q : constant_names (by_bytes c.deref.result.now) ≡ constant_names s.constants = ap (λ z. constant_names (by_bytes z)) c.deref.ensures.value ∙ ap constant_names e.constants in
    let ports : map read_port c.deref-2.result.now ≡ s.ports = ap (map read_port) c.deref-2.ensures.value ∙ e.ports in
    let first : Bound c.bind_constants.new.names (constant_names s.constants) = subst (Bound c.bind_constants.new.names) q (c.in_ok-bind_constants.ensures [] [] (bound_none c.new-names.result c.new-names.ensures)) in
    let second : DeclaresPorts s c.declare_ports.new.names c.declare_ports.new.plan c.args.plan.now (map (declared_by_port s.known) s.ports) =
    subst (λ z. DeclaresPorts s c.declare_ports.new.names c.declare_ports.new.plan c.args.plan.now (map (declared_by_port s.known) z)) ports
    (c.in_ok-declare_ports.ensures s at c.args.plan.now [] (declares_ports_none s c.bind_constants.new.names c.args.plan.now first c.requires.room)) in
    let twice : borrowed c.deref-4.result.now ≡ joined_names s = ap borrowed c.deref-4.ensures.value ∙ c.in_ok-twice.ensures ∙ ap (λ z. names_where is_joined (map read_port z)) c.deref-3.ensures.value ∙ ap (names_where is_joined) e.ports in
    let counts : Counts (joined_names s) c.in_ok-joined.joined = subst (λ z. Counts z c.in_ok-joined.joined) twice c.in_ok-joined.ensures in
    let pieces : map read_piece c.deref-5.result.now ≡ s.pieces = ap (map read_piece) c.deref-5.ensures.value ∙ e.pieces in
    let told : IsReported (DeclaresNot s c.args.plan.now (declared_among s.known (map read_piece c.deref-5.result.now))) c.in_err-declare_pieces.field-0.0 =
    c.in_err-declare_pieces.ensures s at c.args.plan.now [] (declares_none s (record { names = c.declare_ports.new.names; joined = c.in_ok-joined.joined }) c.declare_ports.new.plan c.args.plan.now second counts) in
    rw (p.1, p.2) (pieces_told s c.args.plan.now c.in_err-declare_pieces.field-0.0 (subst (λ z. IsReported (DeclaresNot s c.args.plan.now (declared_among s.known z)) c.in_err-declare_pieces.field-0.0) pieces told)))

pub returns : goal.returns
returns c = λ ss s e at.
    (let q : constant_names (by_bytes c.deref.result.now) ≡ constant_names s.constants = ap (λ z. constant_names (by_bytes z)) c.deref.ensures.value ∙ ap constant_names e.constants in
    let ports : map read_port c.deref-2.result.now ≡ s.ports = ap (map read_port) c.deref-2.ensures.value ∙ e.ports in
    let first : Bound c.bind_constants.new.names (constant_names s.constants) = subst (Bound c.bind_constants.new.names) q (c.in_ok-bind_constants.ensures [] [] (bound_none c.new-names.result c.new-names.ensures)) in
    let second : DeclaresPorts s c.declare_ports.new.names c.declare_ports.new.plan c.args.plan.now (map (declared_by_port s.known) s.ports) =
    subst (λ z. DeclaresPorts s c.declare_ports.new.names c.declare_ports.new.plan c.args.plan.now (map (declared_by_port s.known) z)) ports
    (c.in_ok-declare_ports.ensures s at c.args.plan.now [] (declares_ports_none s c.bind_constants.new.names c.args.plan.now first c.requires.room)) in
    let twice : borrowed c.deref-4.result.now ≡ joined_names s = ap borrowed c.deref-4.ensures.value ∙ c.in_ok-twice.ensures ∙ ap (λ z. names_where is_joined (map read_port z)) c.deref-3.ensures.value ∙ ap (names_where is_joined) e.ports in
    let counts : Counts (joined_names s) c.in_ok-joined.joined = subst (λ z. Counts z c.in_ok-joined.joined) twice c.in_ok-joined.ensures in
    let pieces : map read_piece c.deref-5.result.now ≡ s.pieces = ap (map read_piece) c.deref-5.ensures.value ∙ e.pieces in
    let third : Declares s c.declare_pieces.new.to c.declare_pieces.new.plan c.args.plan.now (declared_among s.known s.pieces) =
    subst (λ z. Declares s c.declare_pieces.new.to c.declare_pieces.new.plan c.args.plan.now (declared_among s.known z)) pieces
    (c.in_ok-declare_pieces.ensures s at c.args.plan.now [] (declares_none s (record { names = c.declare_ports.new.names; joined = c.in_ok-joined.joined }) c.declare_ports.new.plan c.args.plan.now second counts)) in
    declares_all s c.declare_pieces.new.to c.declare_ports.new.names c.declare_ports.new.plan c.declare_pieces.new.plan c.args.plan.now second third)
