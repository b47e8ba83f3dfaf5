-- What enters a scope, from the place where it stands.
use Rattle.std.proofs.Common.{◌≡◌, ℕ, suc, ◌<◌, false, List, [], ◌++◌, Bool, Option, Some, Result, Ok, Err, MatchResult, length, refl, ap, subst, ◌∙◌, arith}
use Rattle.std.specs.List.{slice_get}
use Rattle.std.specs.Borrow.{Bor}
use Rattle.vs_syntax.specs.declared.tree.Module.{Module}
use Rattle.vs_syntax.specs.declared.tree.ModuleItem.{ModuleItem}
use Rattle.vs_widths.specs.declared.constants.Const.{Const}
use Rattle.vs_elab_constants.specs.vs_widths.specs.Names.{meaning_of}
use Rattle.vs_scopes.specs.Pieces.{NamedBlock, Piece, pieces_of, block_pieces}
use Rattle.vs_elab_constants.specs.Reads.{read_constant}
use Rattle.vs_elab_signals.specs.vs_scopes.specs.declared.faults.ElabFault.{ElabFault}
use Rattle.vs_elab_signals.specs.vs_scopes.specs.declared.printed.PathName.{PathName as FoundName}
use Rattle.vs_elab_signals.specs.vs_scopes.specs.Printed.{PathName, plainly}
use Rattle.vs_elab_signals.specs.vs_scopes.specs.Declarations.{Use, Bindings}
use Rattle.vs_elab_signals.specs.vs_scopes.specs.Nets.{permits_nets}
use Rattle.vs_elab_signals.specs.vs_scopes.specs.Generate.{instance, generated}
use Rattle.vs_elab_signals.specs.vs_scopes.specs.Generate as g
use Rattle.vs_elab_signals.specs.vs_scopes.specs.Scopes.{Scope, Before, seen_from, module_named, is_inside, block_scope}
use Rattle.vs_elab_signals.specs.vs_scopes.specs.scopes_passes.Answers.{IsReported}
use Rattle.vs_elab_signals.specs.vs_scopes.specs.scopes_passes.Names.{read_title}
use Rattle.vs_elab_signals.specs.declared.opened.ElabScope.{ElabScope as FoundScope}
use Rattle.vs_elab_signals.specs.Opened.{HasParentScope, IsScopeOf, AreOpened, AreSeated}
use Rattle.vs_elab_hierarchy.specs.passes.Blocks.{text_name}
use Rattle.vs_elab_hierarchy.specs.passes.Entering.{EntersInstance, EntersInstanceNot, EntersBlock, EntersBlockNot, Enters, EntersNot}
use Rattle.vs_elab_hierarchy.proofs.SeatLemmas.{opened_here}
use Rattle.vs_elab_hierarchy.proofs.EnterLemmas.{enters_instance, enters_generated, enters_named, use_told, generated_told, named_told}

-- ---- places

module _ (list : List FoundScope) (place : ℕ) (o : FoundScope) (below : place < length list) (here : slice_get list place ≡ Some o) where
  pub home_below : AreSeated list → o.home < length list
  home_below seated = let h = seated.home place o here in omega (arith, h, below)

  module _ (ss : List Scope) (s : Scope) (a : AreOpened list ss) (stands : slice_get ss place ≡ Some s) where
    pub entered_here : IsScopeOf ss o s
    entered_here = (opened_here list ss place o s a here stands).entered

-- ---- a scope inside

-- there is one of any name
abbrev pub inside : Scope → ℕ → PathName → Scope
inside s place n = block_scope 0 s (record { scopes = suc place; signals = 0; instances = 0; turns = 0 }) n [] []

pub stands_inside : (ss : List Scope) (s : Scope) (place : ℕ) (n : PathName) → slice_get ss place ≡ Some s → HasParentScope ss (Some place) (inside s place n)
stands_inside ss s place n h = record { outer_scope = s; stands = h; before = omega arith; path = refl; around = refl; outer = refl }

-- ---- what was entered, or why not

module _ (ms : List Module) (ss : List Scope) (s : Scope) (place : ℕ) (at : Before) where
  pub instance_entered : (nets : Bool) (u : Use) (m : Module) (r : Result FoundScope ElabFault) → module_named ms u.of ≡ Some m → nets ≡ permits_nets ms u.of → is_inside s m ≡ false →
      MatchResult r (EntersInstance nets ss s place at u m) (IsReported (EntersInstanceNot s u m)) → MatchResult r (Enters ms ss s place at (instance u)) (IsReported (EntersNot ms s (instance u)))
  instance_entered nets u m (Ok o) found permits outside h = enters_instance ms ss s place at nets u m o found permits outside h
  instance_entered nets u m (Err e) found permits outside h = use_told ms s u m e found h

  pub generated_entered : (i : ℕ) (t : Option (Bor (List ℕ) × Const)) (xs : List ModuleItem) (n : FoundName) (cs : List (List ℕ × Const)) (ps : List Piece) (r : Result FoundScope ElabFault) → cs ≡ read_constant t → ps ≡ pieces_of xs →
      MatchResult r (EntersBlock i ss s place at n cs ps) (IsReported (EntersBlockNot s (read_title n) cs ps)) →
      MatchResult r (Enters ms ss s place at (generated i (read_title n) (read_constant t) xs)) (IsReported (EntersNot ms s (generated i (read_title n) (read_constant t) xs)))
  generated_entered i t xs n cs ps (Ok o) e q h = enters_generated ms ss s place at i n (read_constant t) xs ps o q (subst (λ z. EntersBlock i ss s place at n z ps o) e h)
  generated_entered i t xs n cs ps (Err f) e q h = generated_told ms s i n (read_constant t) xs ps f q (subst (λ z. IsReported (EntersBlockNot s (read_title n) z ps) f) e h)

  pub named_entered : (x : NamedBlock) (n : FoundName) (ps : List Piece) (r : Result FoundScope ElabFault) → ps ≡ block_pieces x → read_title n ≡ plainly x.name → text_name n ≡ Some x.name →
      MatchResult r (EntersBlock 0 ss s place at n [] ps) (IsReported (EntersBlockNot s (read_title n) [] ps)) → MatchResult r (Enters ms ss s place at (g.named x)) (IsReported (EntersNot ms s (g.named x)))
  named_entered x n ps (Ok o) e t w h = enters_named ms ss s place at n x ps o e t w h
  named_entered x n ps (Err f) e t w h = named_told ms s (read_title n) x ps f e h
