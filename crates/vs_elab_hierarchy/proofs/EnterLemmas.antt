-- The scopes that instances and blocks open.
use Rattle.std.proofs.Common.{◌≡◌, ℕ, suc, ◌<◌, Bool, true, false, ◌||◌, cond, List, [], ◌∷◌, ◌++◌, Option, Some, None, inl, inr, length, map, option_map, refl, ap, sym, subst, ◌∙◌, arith}
use Rattle.std.proofs.Math.Path.{fun_ext}
use Rattle.std.specs.List.{slice_get}
use Rattle.std.specs.Str.{bytes_eq}
use Rattle.std.specs.Borrow.{Bor}
use Rattle.std.specs.declared.vec.Vec.{Vec}
use Rattle.std.specs.declared.alloc.Global.{Global}
use Rattle.std.proofs.lemmas.Bool.{or_parts}
use Rattle.vs_syntax.specs.declared.tree.LocalDeclaration.{LocalDeclaration}
use Rattle.vs_syntax.specs.declared.tree.Module.{Module}
use Rattle.vs_syntax.specs.declared.tree.ModuleItem.{ModuleItem}
use Rattle.vs_design.specs.declared.design.ScopeKind.{ScopeKind}
use Rattle.vs_design.specs.declared.design.ScopeKind.TheVariants as opened_by
use Rattle.vs_widths.specs.declared.constants.Const.{Const}
use Rattle.vs_widths.specs.declared.faults.WidthReason.{WidthReason}
use Rattle.vs_widths.specs.declared.faults.WidthReason.TheVariants.{TooWide, Unknown, NotConstant, WrongKind}
use Rattle.vs_widths.specs.declared.faults.WidthFault.{WidthFault}
use Rattle.vs_widths.specs.declared.faults.WidthFault.TheVariants as width
use Rattle.vs_widths.specs.Environment.{Environment}
use Rattle.vs_widths.specs.Findings.{Lacks, Refuses}
use Rattle.vs_elab_constants.specs.vs_widths.specs.Names.{meaning_of, by_bytes}
use Rattle.vs_scopes.specs.Pieces.{NamedBlock, Piece, local, inside, pieces_of, block_pieces, blocks_among}
use Rattle.vs_scopes.specs.Reads.{read_piece}
use Rattle.vs_scopes.specs.declared.scope.ScopePiece.{ScopePiece as FoundPiece}
use Rattle.vs_elab_signals.specs.vs_scopes.specs.declared.faults.Reason.{Reason}
use Rattle.vs_elab_signals.specs.vs_scopes.specs.declared.faults.Reason.TheVariants.{NoModule, Inside, PortMismatch, ParameterMismatch, DeclaredTwice, DrivenTwice, Limit, Width, Endless, Unnamed, Timescales, Format}
use Rattle.vs_elab_signals.specs.vs_scopes.specs.declared.faults.ElabFault.{ElabFault}
use Rattle.vs_elab_signals.specs.vs_scopes.specs.declared.faults.ParameterRefusal.{ParameterRefusal}
use Rattle.vs_elab_signals.specs.vs_scopes.specs.declared.faults.ParameterRefusal.TheVariants as refusal
use Rattle.vs_elab_signals.specs.vs_scopes.specs.declared.printed.PathName.{PathName as FoundName}
use Rattle.vs_elab_signals.specs.vs_scopes.specs.Printed.{PathName, plainly, Path}
use Rattle.vs_elab_signals.specs.vs_scopes.specs.Parameters.{said, given_from, parameters_among, is_override_mismatch, any_fault, own_faults, known_in_module, constants_of}
use Rattle.vs_elab_signals.specs.vs_scopes.specs.Ports.{ports_of}
use Rattle.vs_elab_signals.specs.vs_scopes.specs.Declarations.{Use, Bindings, valueless_of, early_names}
use Rattle.vs_elab_signals.specs.vs_scopes.specs.Nets.{nothing_seen, permits_nets}
use Rattle.vs_elab_signals.specs.vs_scopes.specs.Generate.{instance, generated}
use Rattle.vs_elab_signals.specs.vs_scopes.specs.Generate as g
use Rattle.vs_elab_signals.specs.vs_scopes.specs.Scopes.{Scope, Before, nowhere, outward, environment, named, named_at, module_named, instance_scope, block_scope, early_block, text_of, block_text, sight_in, block_given, with_constants, has_no_values, is_inside, is_port_mismatch, block_fault, opened_instance, opened_block}
use Rattle.vs_elab_signals.specs.vs_scopes.specs.scopes_passes.Answers.{borrowed, IsReported, IsFaultAt}
use Rattle.vs_elab_signals.specs.vs_scopes.specs.scopes_passes.Names.{read_title}
use Rattle.vs_elab_signals.specs.vs_scopes.specs.scopes_passes.Parts.{read_port, read_ends}
use Rattle.std.proofs.lemmas.Bool.{or_from as both_false}
use Rattle.vs_elab_signals.specs.vs_scopes.proofs.AnswerLemmas.{told_at, told_by}
use Rattle.vs_elab_signals.specs.vs_elab_constants.specs.declared.evaluating.ParameterValues.{ParameterValues}
use Rattle.vs_elab_signals.specs.vs_elab_constants.specs.passes.Values.{AreValues, AreNoValues, AreBlockValues, early_inside, block_faults}
use Rattle.vs_elab_signals.specs.declared.opened.ElabScope.{ElabScope as FoundScope}
use Rattle.vs_elab_signals.specs.declared.members.Members.{Members}
use Rattle.vs_elab_signals.specs.nets_passes.Nets.{AreMembers}
use Rattle.vs_elab_signals.specs.Opened.{IsWithin, HasParentScope, IsSeenFrom, HasSight, sight_from, IsHome, SaysModules, IsScopeOf, AreOpened}
use Rattle.vs_elab_signals.specs.ScopeFaults.{of_module, parameter_fault, override_fault}
use Rattle.vs_elab_signals.specs.signal_passes.Connecting.{ConnectsTo}
use Rattle.vs_elab_hierarchy.specs.passes.Blocks.{text_name}
use Rattle.vs_elab_hierarchy.specs.declared.entering.NamedModule.{NamedModule}
use Rattle.vs_elab_hierarchy.specs.passes.Entering.{Lists, IsParameterFault, EntersInstance, EntersInstanceNot, IsBlockRefusal, EntersBlock, EntersBlockNot, Enters, EntersNot}
use Rattle.vs_design.specs.vs_logic4.proofs.Basics.{slice_front, at_end as slice_end}
use Rattle.vs_elab_signals.proofs.SiteLemmas.{home_more}
use Rattle.vs_elab_hierarchy.proofs.SeatLemmas.{opened_here}
use Rattle.vs_elab_signals.proofs.SiteLemmas.{meaning_behind}

-- ---- names outward

pub said_none : {A : Type 0} (x : Option A) → said None x ≡ x
said_none None = refl
said_none (Some v) = refl

-- what is bound in a scope and outward of it, where its own names are the first
pub known_levels : (own outer : Bindings) (seen : Environment) (env : Environment) → ((n : List ℕ) → meaning_of outer n ≡ seen n) → ((n : List ℕ) → outward own seen n ≡ env n) → meaning_of (own ++ outer) ≡ env
known_levels own outer seen env h k = fun_ext (λ n. meaning_behind own outer n ∙ ap (λ z. said z (meaning_of own n)) (h n) ∙ k n)

-- ---- the modules that a scope stands in

modules_of_instance : (kind : ScopeKind) (ns : List (List ℕ)) (s : Scope) → kind ≡ opened_by.Module → SaysModules kind ns s → ns ≡ s.within
modules_of_instance opened_by.Module ns s e h = h
modules_of_instance opened_by.Begin ns s e h = absurd (wrong e)
  where
    wrong : opened_by.Begin ≡ opened_by.Module → ⊥
    wrong q = cc

pub home_modules : (list : List FoundScope) (ss : List Scope) (place : ℕ) (s : Scope) (o h : FoundScope) → AreOpened list ss → slice_get ss place ≡ Some s → slice_get list place ≡ Some o → slice_get list o.home ≡ Some h → borrowed h.within.items ≡ s.within
home_modules list ss place s o h a e f k =
    let home = (opened_here list ss place o s a f e).entered.home in
    let there = opened_here list ss o.home h home.home_scope a k home.stands in
    modules_of_instance home.home_scope.kind (borrowed h.within.items) home.home_scope home.kind there.entered.within ∙ sym home.within

-- ---- instances

pub has_values : (s : Scope) (u : Use) (m : Module) → is_override_mismatch u.overrides m ≡ false → ((w : WidthReason) → parameter_fault w s u m ≡ false) → ((w : WidthReason) → override_fault w s u m ≡ false) → has_no_values (environment s) u.overrides m ≡ false
has_values s u m fits own outer =
    let each : (w : WidthReason) → (parameter_fault w s u m || override_fault w s u m) ≡ false = λ w. both_false _ _ (own w) (outer w) in
    both_false _ _ fits (both_false _ _ (both_false _ _ (both_false _ _ (each TooWide) (each Unknown)) (each NotConstant)) (each WrongKind))

module _ (ss : List Scope) (s : Scope) (place : ℕ) (at : Before) (stands : slice_get ss place ≡ Some s) (many : at.scopes ≡ length ss) (below : place < length ss) where
  around_here : (inner : Scope) (o : Option ℕ) → inner.number ≡ at.scopes → inner.path ≡ named_at s inner.title → inner.around ≡ s.path → inner.outer ≡ environment s → o ≡ Some place → HasParentScope (ss ++ inner ∷ []) o inner
  around_here inner o n p a e w = subst (λ z. HasParentScope (ss ++ inner ∷ []) z inner) (sym w) within
    where
      within : IsWithin (ss ++ inner ∷ []) place inner
      within = record { outer_scope = s; stands = slice_front ss (inner ∷ []) place s stands; before = omega (arith, n, many, below); path = p; around = a; outer = e }

  sight_here : (inner : Scope) (o : Option ℕ) (piece : ℕ) → inner.sight ≡ sight_from inner.kind s piece → o ≡ Some place → HasSight (ss ++ inner ∷ []) o piece inner
  sight_here inner o piece e w = subst (λ z. HasSight (ss ++ inner ∷ []) z piece inner) (sym w) seen
    where
      seen : IsSeenFrom (ss ++ inner ∷ []) place piece inner
      seen = record { outer_scope = s; stands = slice_front ss (inner ∷ []) place s stands; sight = e }

  home_here : (inner : Scope) (k : ℕ) → inner.kind ≡ opened_by.Module → inner.home ≡ inner.path → k ≡ at.scopes → IsHome (ss ++ inner ∷ []) k inner
  home_here inner k kind h e = record {
    home_scope = inner;
    stands = ap (slice_get (ss ++ inner ∷ [])) (e ∙ many) ∙ slice_end ss inner;
    kind = kind;
    path = h;
    within = refl;
  }

  module _ (nets : Bool) (u : Use) (m : Module) (o : FoundScope) (v : ParameterValues) (x : Members) where
    pub entered_instance : read_title o.title ≡ plainly u.name → o.kind ≡ opened_by.Module → o.number ≡ at.scopes → o.base ≡ at.signals → o.instances ≡ at.instances → o.turns ≡ at.turns → o.depth ≡ suc s.depth → o.nets ≡ nets →
        map read_port o.ports.items ≡ ports_of m → o.text ≡ x.text → o.pieces ≡ x.pieces → o.told ≡ x.told → AreMembers nets (text_of m) nothing_seen (pieces_of m.items.items) x → o.constants ≡ v.constants → o.known ≡ v.known → AreValues (environment s) u.overrides m v →
        borrowed o.within.items ≡ m.name.items ∷ s.within → o.home ≡ at.scopes → o.around ≡ Some place → ConnectsTo u (ports_of m) (Some o.ends) → o.blocks ≡ [] → EntersInstance nets ss s place at u m o
    entered_instance title kind number base instances turns depth net ports text pieces told members constants known values within home around ends blocks =
        let inner = instance_scope nets s at u m in
        record {
          entered = record {
            title = title;
            kind = kind;
            number = number;
            base = base;
            instances = instances;
            turns = turns;
            depth = depth;
            nets = net;
            text = λ n. ap (λ (z : Bindings). meaning_of z n) text ∙ members.text n;
            told = λ n. ap (λ (z : List (List ℕ × ℕ)). meaning_of z n) told ∙ members.told n;
            ports = ports;
            pieces = ap (λ (z : Vec FoundPiece Global). map read_piece z.items) pieces ∙ members.pieces;
            constants = ap (λ (z : Vec (Bor (List ℕ) × Const) Global). by_bytes z.items) constants ∙ values.constants;
            known = λ n. said_none (meaning_of o.known n) ∙ ap (λ (z : Bindings). meaning_of z n) known ∙ values.known n;
            within = within;
            home = home_here inner o.home refl refl home;
            around = around_here inner o.around refl refl refl refl around;
            sight = sight_here inner o.around o.piece refl around;
            ends = ends.1;
            lefts = (or_parts _ _ ends.0).1;
          };
          around = around;
          blocks = blocks;
          fits = values.fits;
          parameters = values.own;
          overrides = values.outer;
          ports = ends.0;
        }

  module _ (piece : ℕ) (n : FoundName) (cs : List (List ℕ × Const)) (ps : List Piece) (outer : Bindings) (o : FoundScope) (v : ParameterValues) (x : Members) (env : (k : List ℕ) → meaning_of outer k ≡ environment s k) where
    same_early : early_inside outer cs ps ≡ early_block s cs ps
    same_early = ap (λ (z : Environment). with_constants (outward (early_names valueless_of (parameters_among ps) [] ps) z) cs) (fun_ext env)

    pub entered_block : o.title ≡ n → o.kind ≡ opened_by.Begin → o.number ≡ at.scopes → o.base ≡ at.signals → o.instances ≡ at.instances → o.turns ≡ at.turns → o.depth ≡ s.depth → o.nets ≡ s.nets →
        o.ports.items ≡ [] → o.text ≡ x.text → o.pieces ≡ x.pieces → o.told ≡ x.told → AreMembers s.nets (block_text cs ps) (sight_in s piece) ps x → o.constants ≡ v.constants → o.known ≡ v.known → AreBlockValues outer cs ps v →
        IsHome ss o.home s → o.around ≡ Some place → o.piece ≡ piece → o.ends.items ≡ [] → o.blocks ≡ [] → EntersBlock piece ss s place at n cs ps o
    entered_block title kind number base instances turns depth net ports text pieces told members constants known values home around opener ends blocks =
        let inner = block_scope piece s at (read_title n) cs ps in
        let one = home_more ss (inner ∷ []) o.home s home in
        record {
          entered = record {
            title = ap read_title title;
            kind = kind;
            number = number;
            base = base;
            instances = instances;
            turns = turns;
            depth = depth;
            nets = net;
            text = λ k. ap (λ (z : Bindings). meaning_of z k) text ∙ members.text k;
            told = λ k. ap (λ (z : List (List ℕ × ℕ)). meaning_of z k) told ∙ members.told k;
            ports = ap (map read_port) ports;
            pieces = ap (λ (z : Vec FoundPiece Global). map read_piece z.items) pieces ∙ members.pieces;
            constants = ap (λ (z : Vec (Bor (List ℕ) × Const) Global). by_bytes z.items) constants ∙ values.constants ∙ ap (λ (z : Environment). cs ++ constants_of nowhere z (block_given ps)) same_early;
            known = λ k. ap (λ z. said z (meaning_of o.known k)) (sym (env k)) ∙ sym (meaning_behind o.known outer k) ∙ ap (λ (z : Bindings). meaning_of (z ++ outer) k) known ∙ values.known k ∙ ap (λ (z : Environment). known_in_module nowhere z (block_given ps) k) same_early;
            within = tt;
            home = record { home_scope = one.home_scope; stands = one.stands; kind = one.kind; path = one.path; within = one.within };
            around = around_here inner o.around refl refl refl refl around;
            sight = sight_here inner o.around o.piece (ap (sight_in s) (sym opener)) around;
            ends = ap read_ends ends;
            lefts = refl;
          };
          around = around;
          title = title;
          blocks = blocks;
          parameters = λ w. ap (λ (z : Environment). own_faults w nowhere z (block_given ps)) (sym same_early) ∙ values.own w;
        }

-- why it isn't
pub block_told : (s : Scope) (n : FoundName) (cs : List (List ℕ × Const)) (ps : List Piece) (outer : Bindings) (f : WidthFault) (e : ElabFault) → ((k : List ℕ) → meaning_of outer k ≡ environment s k) → Refuses (Lacks (block_faults outer cs ps)) f → IsBlockRefusal s (read_title n) f e →
    IsReported (EntersBlockNot s (read_title n) cs ps) e
block_told s n cs ps outer width.Memory e env h k = subst (IsReported (EntersBlockNot s (read_title n) cs ps)) (sym k) tt
block_told s n cs ps outer (width.Refused w) e env h k =
    let same : early_inside outer cs ps ≡ early_block s cs ps = ap (λ (z : Environment). with_constants (outward (early_names valueless_of (parameters_among ps) [] ps) z) cs) (fun_ext env) in
    told_at (EntersBlockNot s (read_title n) cs ps) (Width w) (named_at s (read_title n)) e (ap (λ (z : Environment). own_faults w nowhere z (block_given ps)) (sym same) ∙ h, refl) k

pub parameters_told : (s : Scope) (u : Use) (m : Module) (r : ParameterRefusal) (e : ElabFault) → AreNoValues (environment s) u.overrides m r → IsParameterFault s u.name r e → IsReported (EntersInstanceNot s u m) e
parameters_told s u m refusal.Memory e h k = subst (IsReported (EntersInstanceNot s u m)) (sym k) tt
parameters_told s u m refusal.Mismatch e h k = told_at (EntersInstanceNot s u m) ParameterMismatch (named s u.name) e (h, refl) k
parameters_told s u m (refusal.Outer w) e h k = told_at (EntersInstanceNot s u m) (Width w) s.path e (inr (h, refl)) k
parameters_told s u m (refusal.Own w) e h k = told_at (EntersInstanceNot s u m) (Width w) (named s u.name) e (inl (h, refl)) k

pub ports_told : (s : Scope) (u : Use) (m : Module) (e : ElabFault) → ConnectsTo u (ports_of m) None → IsFaultAt PortMismatch (named s u.name) e → IsReported (EntersInstanceNot s u m) e
ports_told s u m e h k = told_at (EntersInstanceNot s u m) PortMismatch (named s u.name) e (h, refl) k

-- ---- what opens scopes

module _ (ms : List Module) (ss : List Scope) (s : Scope) (place : ℕ) (at : Before) where
  pub enters_instance : (nets : Bool) (u : Use) (m : Module) (o : FoundScope) → module_named ms u.of ≡ Some m → nets ≡ permits_nets ms u.of → is_inside s m ≡ false → EntersInstance nets ss s place at u m o → Enters ms ss s place at (instance u) o
  enters_instance nets u m o found permits outside h = record {
    sound = record { body = m; found = found; outside = outside; fits = h.fits; parameters = h.parameters; overrides = h.overrides; ports = h.ports };
    inner = instance_scope nets s at u m;
    opens = ap (λ z. opened_instance z s at u (module_named ms u.of)) (sym permits) ∙ ap (opened_instance nets s at u) found ∙ ap (λ (z : Bool). cond z None (Some (instance_scope nets s at u m))) (both_false _ _ outside (has_values s u m h.fits h.parameters h.overrides));
    entered = h.entered;
    around = h.around;
    title = tt;
    blocks = h.blocks;
  }

  no_fault : (f : WidthReason → Bool) → ((w : WidthReason) → f w ≡ false) → any_fault f ≡ false
  no_fault f h = both_false _ _ (both_false _ _ (both_false _ _ (h TooWide) (h Unknown)) (h NotConstant)) (h WrongKind)

  opens_block : (i : ℕ) (n : PathName) (cs : List (List ℕ × Const)) (ps : List Piece) → ((w : WidthReason) → block_fault s cs ps w ≡ false) → opened_block i s at n cs ps ≡ Some (block_scope i s at n cs ps)
  opens_block i n cs ps h = ap (λ (z : Bool). cond z None (Some (block_scope i s at n cs ps))) (no_fault (block_fault s cs ps) h)

  pub enters_generated : (i : ℕ) (n : FoundName) (cs : List (List ℕ × Const)) (xs : List ModuleItem) (ps : List Piece) (o : FoundScope) → ps ≡ pieces_of xs → EntersBlock i ss s place at n cs ps o → Enters ms ss s place at (generated i (read_title n) cs xs) o
  enters_generated i n cs xs ps o e h =
      let k : EntersBlock i ss s place at n cs (pieces_of xs) o = subst (λ z. EntersBlock i ss s place at n cs z o) e h in
      record {
        sound = k.parameters;
        inner = block_scope i s at (read_title n) cs (pieces_of xs);
        opens = opens_block i (read_title n) cs (pieces_of xs) k.parameters;
        entered = k.entered;
        around = k.around;
        title = tt;
        blocks = k.blocks;
      }

  pub enters_named : (n : FoundName) (x : NamedBlock) (ps : List Piece) (o : FoundScope) → ps ≡ block_pieces x → read_title n ≡ plainly x.name → text_name n ≡ Some x.name → EntersBlock 0 ss s place at n [] ps o → Enters ms ss s place at (g.named x) o
  enters_named n x ps o e t w h =
      let k : EntersBlock 0 ss s place at n [] (block_pieces x) o = subst (λ z. EntersBlock 0 ss s place at n [] z o) e h in
      let P : PathName → Type 0 = λ z. IsScopeOf (ss ++ block_scope 0 s at z [] (block_pieces x) ∷ []) o (block_scope 0 s at z [] (block_pieces x)) in
      record {
        sound = k.parameters;
        inner = block_scope 0 s at (plainly x.name) [] (block_pieces x);
        opens = opens_block 0 (plainly x.name) [] (block_pieces x) k.parameters;
        entered = subst P t k.entered;
        around = k.around;
        title = ap text_name k.title ∙ w;
        blocks = k.blocks;
      }

-- ---- faults of what opens scopes

-- an instance of this module
pub use_told : (ms : List Module) (s : Scope) (u : Use) (m : Module) (e : ElabFault) → module_named ms u.of ≡ Some m → IsReported (EntersInstanceNot s u m) e → IsReported (EntersNot ms s (instance u)) e
use_told ms s u m e found h = told_by (EntersInstanceNot s u m) (EntersNot ms s (instance u)) e by h
  where
    by : (r : Reason) (p : Path) → EntersInstanceNot s u m r p → EntersNot ms s (instance u) r p
    by PortMismatch p k = (ap (of_module (is_port_mismatch u)) found ∙ k.0, k.1)
    by ParameterMismatch p k = (ap (of_module (is_override_mismatch u.overrides)) found ∙ k.0, k.1)
    by (Width w) p (inl k) = inl (ap (of_module (parameter_fault w s u)) found ∙ k.0, k.1)
    by (Width w) p (inr k) = inr (ap (of_module (override_fault w s u)) found ∙ k.0, k.1)
    by NoModule p k = absurd k
    by Inside p k = absurd k
    by DeclaredTwice p k = absurd k
    by DrivenTwice p k = absurd k
    by Limit p k = absurd k
    by Endless p k = absurd k
    by Unnamed p k = absurd k
    by Timescales p k = absurd k
    by (Format wrong) p k = absurd k

pub found_some : (ms : List Module) (n : List ℕ) (names : List (List ℕ × NamedModule)) (m : NamedModule) → Lists ms names → Some m ≡ meaning_of names n → module_named ms n ≡ Some m.«module».now
found_some ms n names m l h = sym (l.found n) ∙ ap (option_map (λ (z : NamedModule). z.«module».now)) (sym h)

pub found_none : (ms : List Module) (n : List ℕ) (names : List (List ℕ × NamedModule)) → Lists ms names → None ≡ meaning_of names n → module_named ms n ≡ None
found_none ms n names l h = sym (l.found n) ∙ ap (option_map (λ (z : NamedModule). z.«module».now)) (sym h)

pub none_told : (ms : List Module) (s : Scope) (u : Use) (e : ElabFault) → module_named ms u.of ≡ None → IsFaultAt NoModule (named s u.name) e → IsReported (EntersNot ms s (instance u)) e
none_told ms s u e h f = told_at (EntersNot ms s (instance u)) NoModule (named s u.name) e (h, refl) f

pub inside_by_flags : (ms : List Module) (s : Scope) (u : Use) (m : Module) (e : ElabFault) → module_named ms u.of ≡ Some m → is_inside s m ≡ true → IsFaultAt Inside (named s u.name) e → IsReported (EntersNot ms s (instance u)) e
inside_by_flags ms s u m e found h f = told_at (EntersNot ms s (instance u)) Inside (named s u.name) e (ap (of_module (is_inside s)) found ∙ h, refl) f

-- a named block has no parameters
no_parameters : (ls : List LocalDeclaration) (bs : List NamedBlock) → parameters_among (map local ls ++ map inside bs) ≡ []
no_parameters [] [] = refl
no_parameters [] (b ∷ bs) = no_parameters [] bs
no_parameters (l ∷ ls) bs = no_parameters ls bs

named_sound : (s : Scope) (x : NamedBlock) (w : WidthReason) → block_fault s [] (block_pieces x) w ≡ false
named_sound s x w = ap (λ z. own_faults w nowhere (early_block s [] (block_pieces x)) (given_from z [])) (no_parameters x.locals (blocks_among x.statements))

pub generated_told : (ms : List Module) (s : Scope) (i : ℕ) (n : FoundName) (cs : List (List ℕ × Const)) (xs : List ModuleItem) (ps : List Piece) (e : ElabFault) → ps ≡ pieces_of xs → IsReported (EntersBlockNot s (read_title n) cs ps) e → IsReported (EntersNot ms s (generated i (read_title n) cs xs)) e
generated_told ms s i n cs xs ps e q h = subst (λ z. IsReported (EntersBlockNot s (read_title n) cs z) e) q h

pub named_told : (ms : List Module) (s : Scope) (n : PathName) (x : NamedBlock) (ps : List Piece) (e : ElabFault) → ps ≡ block_pieces x → IsReported (EntersBlockNot s n [] ps) e → IsReported (EntersNot ms s (g.named x)) e
named_told ms s n x ps e q h = told_by (EntersBlockNot s n [] ps) (EntersNot ms s (g.named x)) e by h
  where
    by : (r : Reason) (p : Path) → EntersBlockNot s n [] ps r p → ⊥
    by (Width w) p k = wrong (sym k.0 ∙ ap (λ z. block_fault s [] z w) q ∙ named_sound s x w)
      where
        wrong : true ≡ false → ⊥
        wrong z = cc
    by NoModule p k = k
    by Inside p k = k
    by PortMismatch p k = k
    by ParameterMismatch p k = k
    by DeclaredTwice p k = k
    by DrivenTwice p k = k
    by Limit p k = k
    by Endless p k = k
    by Unnamed p k = k
    by Timescales p k = k
    by (Format wrong) p k = k
