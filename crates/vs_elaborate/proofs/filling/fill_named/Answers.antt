use Rattle.std.proofs.Common.{◌≡◌, ℕ, List, sym, subst, refl}
use Rattle.vs_elab_statements.specs.vs_widths.specs.Names.{meaning_of, nested_names}
use Rattle.vs_elab_statements.specs.vs_scopes.specs.Scopes.{seen_from}
use Rattle.vs_elab_statements.specs.Surroundings.{surroundings_at}
use Rattle.vs_elab_statements.specs.passes.Views.{IsSite}
use Rattle.vs_elab_statements.proofs.BlockLemmas.{outward_within, site_names}
use Rattle.vs_design.specs.vs_logic4.proofs.Basics.{zip_at, got}
use Rattle.vs_elab_statements.specs.vs_elab_signals.specs.Opened.{IsOpened}
use Rattle.vs_elaborate.proofs.PortLemmas.{path_around}
use Rattle.vs_elaborate.proofs.filling.fill_named.Goals as goal

pub names_around-requires : goal.names_around-requires
names_around-requires c =
    let at = got c.args.list.now c.args.place c.index-list-place.result c.requires.placed.within c.index-list-place.is in
    record { place = λ k e. outward_within c.args.list.now c.args.place c.index-list-place.result c.requires.placed at k e; seated = c.requires.placed.seated }

pub fill_frame-requires-clause-lefts : goal.fill_frame-requires-clause-lefts
fill_frame-requires-clause-lefts c = c.requires.lefts c.index-list-place.result (got c.args.list.now c.args.place c.index-list-place.result c.requires.placed.within c.index-list-place.is)

pub returns : goal.returns
returns c ss s h e outer =
    let list = c.args.list.now in
    let o = c.index-list-place.result in
    let at = got list c.args.place o c.requires.placed.within c.index-list-place.is in
    let opened : IsOpened ss o s = zip_at (IsOpened ss) list ss c.args.place o s h.opened.each at e in
    let envs = surroundings_at c.args.ratio.ticks ss in
    let site : IsSite list envs c.args.place s.path = record { scopes = ss; sites = h; scope = s; stands = e; path = refl } in
    let seen = c.in_ok-around.ensures ss s h.opened opened.entered.around opened.entered.kind in
    let around = subst (λ z. (n : List ℕ) → meaning_of (nested_names z) n ≡ seen_from s.kind s.outer n) (sym c.deref.ensures.value) seen in
    c.fill_frame.ensures envs s
    (record {
      path = c.in_ok-path.ensures.path ss s h.opened e;
      view = record { site = site; names = site_names list envs c.args.place s.path o _ _ site at c.new-names.ensures around; ratio = refl };
      names = h.names c.args.place s e;
      around = path_around ss o.around s opened.entered.around;
    })
    (record { ports = opened.entered.ports; ends = opened.entered.ends; pieces = opened.entered.pieces })
    outer

pub fill_frame-requires-clause-blocks : goal.fill_frame-requires-clause-blocks
fill_frame-requires-clause-blocks c = c.requires.blocks c.index-list-place.result (got c.args.list.now c.args.place c.index-list-place.result c.requires.placed.within c.index-list-place.is)
