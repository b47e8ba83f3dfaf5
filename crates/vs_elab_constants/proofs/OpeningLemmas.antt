-- What generate constructs open, from what is found of them.
use Rattle.std.proofs.Common.{◌≡◌, ℕ, suc, ◌+◌, ◌<◌, Bool, true, false, true≢false, ◌||◌, is_none, List, [], ◌∷◌, ◌++◌, Option, Some, None, length, map, drop, get_or, cond, Bor, refl, ap, ap₂, sym, ◌∙◌, arith}
use Rattle.std.proofs.lemmas.List.{append-nil}
use Rattle.vs_syntax.specs.declared.tree.ModuleItem.{ModuleItem}
use Rattle.vs_scopes.specs.vs_widths.specs.declared.constants.Const.{Const}
use Rattle.vs_scopes.specs.vs_widths.specs.Environment.{Environment}
use Rattle.vs_scopes.specs.Pieces.{Content, nothing, block, Piece}
use Rattle.vs_scopes.specs.Reads.{read_content, read_piece}
use Rattle.vs_scopes.specs.declared.contents.Content.{Content as FoundContent}
use Rattle.vs_scopes.specs.declared.contents.Content.TheVariants as f
use Rattle.vs_scopes.specs.declared.scope.ScopePiece.{ScopePiece as FoundPiece}
use Rattle.vs_scopes.specs.declared.faults.BodyFault.{BodyFault}
use Rattle.vs_scopes.specs.declared.faults.Reason.{Reason}
use Rattle.vs_scopes.specs.declared.faults.Reason.TheVariants.{Width, Endless, Unnamed}
use Rattle.vs_scopes.specs.Generate.{Inner, Taken, takes, refused, taken_fault, choice_inner, generates, genvar_number, name_of_block, turns_inner, loop_inner, is_nameless, Turns, turns, faulty, endless, turns_fault, construct_fault, constructs_fault, inner_in, inner_from, after_piece}
use Rattle.vs_scopes.specs.scopes_passes.Answers.{Refuses}
use Rattle.vs_scopes.proofs.AnswerLemmas.{refused_by}
use Rattle.vs_scopes.proofs.PassLemmas.{map_at, moved_by}
use Rattle.std.proofs.lemmas.Bool.{or_left as left_true}
use Rattle.vs_elab_constants.specs.generate_passes.Opening.{nameless_fault, turn_block, turn_blocks}
use Rattle.vs_elab_constants.specs.generate_passes.Branches.{choice_fault}
use Rattle.vs_elab_constants.specs.generate_passes.Turns.{turn_fault}

-- ---- names

-- whether a block has no name
nameless_is : (names : List (List ℕ)) (k : ℕ) (o : Option (List ℕ)) (xs : List ModuleItem) → is_nameless names k (block o xs) ≡ is_none (name_of_block names k o)
nameless_is names k None xs = refl
nameless_is names k (Some n) xs = refl

named_block : (names : List (List ℕ)) (k : ℕ) (o : Option (List ℕ)) (xs : List ModuleItem) (n : List ℕ) → name_of_block names k o ≡ Some n → is_nameless names k (block o xs) ≡ false
named_block names k o xs n h = nameless_is names k o xs ∙ ap is_none h

-- what generates no block generates nothing
pub content_nothing : (x : FoundContent) → ((n : Option (Bor (List ℕ))) (xs : Bor (List ModuleItem)) → x ≡ f.Block n xs → ⊥) → read_content x ≡ nothing
content_nothing f.Nothing h = refl
content_nothing (f.Block n xs) h = absurd (h n xs refl)

-- ---- loops

-- the blocks of turns, which have a name
turns_opened : (p : ℕ) (names : List (List ℕ)) (k : ℕ) (g : List ℕ) (o : Option (List ℕ)) (xs : List ModuleItem) (n : List ℕ) (cs : List Const) → name_of_block names k o ≡ Some n → turns_inner p names k g (block o xs) cs ≡ turn_blocks p n g xs cs
turns_opened p names k g o xs n [] h = refl
turns_opened p names k g o xs n (c ∷ cs) h =
    ap (λ z. generates p z (genvar_number c) ((g, c) ∷ []) xs ++ turns_inner p names k g (block o xs) cs) h
    ∙ ap (λ l. turn_block p n g xs c ∷ l) (turns_opened p names k g o xs n cs h)

-- turns that generate nothing
turns_nothing : (p : ℕ) (names : List (List ℕ)) (k : ℕ) (g : List ℕ) (cs : List Const) → turns_inner p names k g nothing cs ≡ []
turns_nothing p names k g [] = refl
turns_nothing p names k g (c ∷ cs) = turns_nothing p names k g cs

-- turns without a fault, where no block without a name is generated
turns_fine : (names : List (List ℕ)) (k : ℕ) (x : Content) (cs : List Const) → is_nameless names k x ≡ false → (r : Reason) → turns_fault r names k x (turns cs) ≡ false
turns_fine names k x [] h (Width w) = refl
turns_fine names k x [] h _ = refl
turns_fine names k x (c ∷ cs) h (Width w) = refl
turns_fine names k x (c ∷ cs) h Unnamed = h
turns_fine names k x (c ∷ cs) h _ = refl

turns_stand : (names : List (List ℕ)) (k : ℕ) (x : Content) (t : Turns) (r : Reason) → turn_fault t r ≡ true → turns_fault r names k x t ≡ true
turns_stand names k x (turns cs) r h = absurd (true≢false (sym h))
turns_stand names k x (faulty faults) (Width w) h = h
turns_stand names k x (faulty faults) _ h = absurd (true≢false (sym h))
turns_stand names k x endless Endless h = refl
turns_stand names k x endless _ h = absurd (true≢false (sym h))

turns_nameless : (names : List (List ℕ)) (k : ℕ) (o : Option (List ℕ)) (xs : List ModuleItem) (cs : List Const) (r : Reason) → 0 < length cs → nameless_fault names k o r ≡ true → turns_fault r names k (block o xs) (turns cs) ≡ true
turns_nameless names k o xs [] r some h = absurd (omega arith)
turns_nameless names k o xs (c ∷ cs) Unnamed some h = nameless_is names k o xs ∙ h
turns_nameless names k o xs (c ∷ cs) _ some h = absurd (true≢false (sym h))

module _ (p : ℕ) (names : List (List ℕ)) (k : ℕ) (g : List ℕ) (t : Turns) (x : Content) where
  -- what a loop opens, behind what was opened before it
  abbrev pub Opens : List Inner → List Inner → Type 0
  Opens old new = ((r : Reason) → turns_fault r names k x t ≡ false) × (new ≡ old ++ loop_inner p names k g x t)

  -- a fault of its turns
  pub loop_refused : (e : BodyFault) → Refuses (turn_fault t) e → Refuses (λ r. turns_fault r names k x t) e
  loop_refused e h = refused_by (turn_fault t) (λ r. turns_fault r names k x t) e (turns_stand names k x t) h

  -- a loop of nothing
  pub loop_nothing : (cs : List Const) (old : List Inner) → t ≡ turns cs → x ≡ nothing → Opens old old
  loop_nothing cs old h e = (
    λ r. ap (λ z. turns_fault r names k z t) e ∙ ap (turns_fault r names k nothing) h ∙ turns_fine names k nothing cs refl r,
    sym (append-nil old) ∙ ap (λ z. old ++ z) (sym (ap (λ z. loop_inner p names k g z t) e ∙ ap (loop_inner p names k g nothing) h ∙ turns_nothing p names k g cs)),
  )

  -- a block without a name
  pub loop_nameless : (cs : List Const) (o : Option (List ℕ)) (xs : List ModuleItem) (e : BodyFault) → t ≡ turns cs → 0 < length cs → x ≡ block o xs → Refuses (nameless_fault names k o) e → Refuses (λ r. turns_fault r names k x t) e
  loop_nameless cs o xs e h some is q =
      refused_by (nameless_fault names k o) (λ r. turns_fault r names k x t) e
      (λ r s. ap (λ z. turns_fault r names k z t) is ∙ ap (turns_fault r names k (block o xs)) h ∙ turns_nameless names k o xs cs r some s) q

  -- the blocks of its turns
  pub loop_opened : (cs : List Const) (o : Option (List ℕ)) (xs : List ModuleItem) (n : List ℕ) (old new : List Inner) → t ≡ turns cs → x ≡ block o xs → name_of_block names k o ≡ Some n → new ≡ old ++ turn_blocks p n g xs cs → Opens old new
  loop_opened cs o xs n old new h is named e = (
    λ r. ap (λ z. turns_fault r names k z t) is ∙ ap (turns_fault r names k (block o xs)) h ∙ turns_fine names k (block o xs) cs (named_block names k o xs n named) r,
    e ∙ ap (λ z. old ++ z) (sym (ap (λ z. loop_inner p names k g z t) is ∙ ap (loop_inner p names k g (block o xs)) h ∙ turns_opened p names k g o xs n cs named)),
  )

-- ---- choices

module _ (p : ℕ) (names : List (List ℕ)) (k : ℕ) (t : Taken) where
  -- what a choice opens, behind what was opened before it
  abbrev pub Takes : List Inner → List Inner → Type 0
  Takes old new = ((r : Reason) → taken_fault r names k t ≡ false) × (new ≡ old ++ choice_inner p names k t)

  taken_fine : (x : Content) → t ≡ takes x → is_nameless names k x ≡ false → (r : Reason) → taken_fault r names k t ≡ false
  taken_fine x is h r = ap (taken_fault r names k) is ∙ by r
    where
      by : (r : Reason) → taken_fault r names k (takes x) ≡ false
      by Unnamed = h
      by _ = refl

  -- a fault of a condition
  pub choice_refused : (e : BodyFault) → Refuses (choice_fault t) e → Refuses (λ r. taken_fault r names k t) e
  choice_refused e h = refused_by (choice_fault t) (λ r. taken_fault r names k t) e (by t) h
    where
      by : (u : Taken) (r : Reason) → choice_fault u r ≡ true → taken_fault r names k u ≡ true
      by (takes x) r h = absurd (true≢false (sym h))
      by (refused faults) (Width w) h = h
      by (refused faults) _ h = absurd (true≢false (sym h))

  -- a branch of nothing
  pub choice_nothing : (x : Content) (old : List Inner) → t ≡ takes x → x ≡ nothing → Takes old old
  choice_nothing x old is e = (
    taken_fine x is (ap (is_nameless names k) e),
    sym (append-nil old) ∙ ap (λ z. old ++ z) (sym (ap (choice_inner p names k) is ∙ ap (λ z. choice_inner p names k (takes z)) e)),
  )

  -- a block without a name
  pub choice_nameless : (o : Option (List ℕ)) (xs : List ModuleItem) (e : BodyFault) → t ≡ takes (block o xs) → Refuses (nameless_fault names k o) e → Refuses (λ r. taken_fault r names k t) e
  choice_nameless o xs e is q = refused_by (nameless_fault names k o) (λ r. taken_fault r names k t) e (λ r s. ap (taken_fault r names k) is ∙ by r s) q
    where
      by : (r : Reason) → nameless_fault names k o r ≡ true → taken_fault r names k (takes (block o xs)) ≡ true
      by Unnamed h = nameless_is names k o xs ∙ h
      by _ h = absurd (true≢false (sym h))

  -- a block
  pub choice_opened : (o : Option (List ℕ)) (xs : List ModuleItem) (n : List ℕ) (old new : List Inner) → t ≡ takes (block o xs) → name_of_block names k o ≡ Some n → new ≡ old ++ generates p (Some n) None [] xs → Takes old new
  choice_opened o xs n old new is named e = (
    taken_fine (block o xs) is (named_block names k o xs n named),
    e ∙ ap (λ z. old ++ z) (sym (ap (choice_inner p names k) is ∙ ap (λ z. generates p z None [] xs) named)),
  )

-- ---- pieces

-- the number behind a construct, and behind another piece
pub construct_next : (k next : ℕ) (t : Bool) (p : Piece) → ((n : ℕ) → after_piece n p ≡ cond t (suc n) n) → next ≡ k + 1 → t ≡ true → next ≡ after_piece k p
construct_next k next t p h e is =
    let more : k + 1 ≡ suc k = omega arith in
    e ∙ more ∙ sym (h k ∙ ap (λ z. cond z (suc k) k) is)

pub plain_next : (k next : ℕ) (t : Bool) (p : Piece) → ((n : ℕ) → after_piece n p ≡ cond t (suc n) n) → next ≡ k → t ≡ false → next ≡ after_piece k p
plain_next k next t p h e is = e ∙ sym (h k ∙ ap (λ z. cond z (suc k) k) is)

module _ (env : Environment) (names : List (List ℕ)) (k next : ℕ) (xs : List FoundPiece) (i : ℕ) (x : FoundPiece) (below : i < length xs) (is : x ≡ get_or xs i x) where
  at : map read_piece (drop i xs) ≡ read_piece x ∷ map read_piece (drop (i + 1) xs)
  at = map_at read_piece xs i x below is

  -- one piece more, which has no fault
  pub fault_on : (r : Reason) (whole : Bool) → next ≡ after_piece k (read_piece x) → construct_fault r env names k (read_piece x) ≡ false → constructs_fault r env names k (map read_piece (drop i xs)) ≡ whole →
      constructs_fault r env names next (map read_piece (drop (i + 1) xs)) ≡ whole
  fault_on r whole n h e =
      ap (λ z. constructs_fault r env names z (map read_piece (drop (i + 1) xs))) n
      ∙ ap (λ t. t || constructs_fault r env names (after_piece k (read_piece x)) (map read_piece (drop (i + 1) xs))) (sym h)
      ∙ sym (ap (constructs_fault r env names k) at) ∙ e

  -- what it opens
  pub inner_on : (old new whole : List Inner) → next ≡ after_piece k (read_piece x) → new ≡ old ++ inner_in i env names k (read_piece x) → old ++ inner_from i env names k (map read_piece (drop i xs)) ≡ whole →
      new ++ inner_from (i + 1) env names next (map read_piece (drop (i + 1) xs)) ≡ whole
  inner_on old new whole n h e =
      let more : i + 1 ≡ suc i = omega arith in
      ap₂ (λ (z j : ℕ). new ++ inner_from j env names z (map read_piece (drop (i + 1) xs))) n more
      ∙ moved_by old new (inner_in i env names k (read_piece x)) (inner_from i env names k (map read_piece (drop i xs))) (inner_from (suc i) env names (after_piece k (read_piece x)) (map read_piece (drop (i + 1) xs))) whole h (ap (inner_from i env names k) at) e

  -- a fault of a piece is one of all
  pub fault_at : (whole : Reason → Bool) (e : BodyFault) → ((r : Reason) → constructs_fault r env names k (map read_piece (drop i xs)) ≡ whole r) → Refuses (λ r. construct_fault r env names k (read_piece x)) e → Refuses whole e
  fault_at whole e h q =
      refused_by (λ r. construct_fault r env names k (read_piece x)) whole e (λ r s. sym (h r) ∙ ap (constructs_fault r env names k) at ∙ left_true _ _ s) q
