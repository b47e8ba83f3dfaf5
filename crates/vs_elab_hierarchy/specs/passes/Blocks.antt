-- Scopes inside a scope, by their names.
use Rattle.std.specs.Prelude.{◌≡◌, ℕ, suc, ℤ, ◌+◌, ◌<◌, Option, Some, None, List, [], ◌++◌, length, slice_get}
use Rattle.vs_elab_constants.specs.vs_widths.specs.Names.{meaning_of}
use Rattle.vs_scopes.specs.Pieces.{NamedBlock}
use Rattle.vs_elab_signals.specs.vs_scopes.specs.Generate.{Inner, instance, generated}
use Rattle.vs_elab_signals.specs.vs_scopes.specs.Generate as g
use Rattle.vs_elab_signals.specs.vs_scopes.specs.Scopes.{Scope, inner_of}
use Rattle.vs_elab_signals.specs.vs_scopes.specs.declared.printed.PartName.{PartName as FoundPart}
use Rattle.vs_elab_signals.specs.vs_scopes.specs.declared.printed.PartName.TheVariants as p
use Rattle.vs_elab_signals.specs.vs_scopes.specs.declared.printed.PathName.{PathName as FoundName}
use Rattle.vs_elab_signals.specs.declared.opened.ElabScope.{ElabScope as FoundScope}

-- a name of the text
abbrev pub text_of : FoundPart → Option (List ℕ)
text_of (p.Text n) = Some n.now
text_of (p.Unnamed padding number) = None

-- the name of the text that a scope has in the one around it, where it is no turn of a loop
abbrev pub named_text : Option ℤ → FoundPart → Option (List ℕ)
named_text None x = text_of x
named_text (Some v) x = None

abbrev pub text_name : FoundName → Option (List ℕ)
text_name x = named_text x.turn x.name

-- the scope that a named block opens has the block's name
abbrev pub IsTitled : Inner → FoundName → Type 0
IsTitled (instance u) n = Unit {0}
IsTitled (generated i t cs xs) n = Unit {0}
IsTitled (g.named x) n = text_name n ≡ Some x.name

-- a scope in the one at a place, with this name of the text, which is no turn of a loop
pub record HasInside (list : List FoundScope) (place : ℕ) (n : List ℕ) : Type 0 where
  pub number : ℕ
  pub o : FoundScope
  pub stands : slice_get list number ≡ Some o
  pub around : o.around ≡ Some place
  pub title : text_name o.title ≡ Some n

-- each of the named blocks among these has its scope in the one at a place
abbrev pub HasEachNamed : List FoundScope → ℕ → List Inner → Type 0
HasEachNamed list place xs = (k : ℕ) (x : NamedBlock) → slice_get xs k ≡ Some (g.named x) → HasInside list place x.name

-- each named block of these scopes, which stand from a place on, has its scope
abbrev pub AreNamed : List FoundScope → ℕ → List Scope → Type 0
AreNamed list place ss = (k : ℕ) (s : Scope) → slice_get ss k ≡ Some s → HasEachNamed list (place + k) (inner_of s)

-- scopes with others behind them
pub record Extends (start list : List FoundScope) : Type 0 where
  pub more : List FoundScope
  pub grown : list ≡ start ++ more

-- the scope around the one at a place is in the list, where there is one
abbrev pub HasIndex : List FoundScope → ℕ → Type 0
HasIndex list place = (place < length list) × ((o : FoundScope) (k : ℕ) → slice_get list place ≡ Some o → o.around ≡ Some k → k < length list)

-- a scope that was told of none in it
abbrev pub HasNoBlocks : FoundScope → Type 0
HasNoBlocks o = o.blocks ≡ []

-- a scope with other blocks
abbrev pub with_blocks : FoundScope → List (List ℕ × ℕ) → FoundScope
with_blocks o bs = record o { blocks = bs }

-- a scope that differs in its blocks alone
pub record IsSameBut (o new : FoundScope) : Type 0 where
  pub blocks : List (List ℕ × ℕ)
  pub same : new ≡ with_blocks o blocks

-- what a scope's blocks are behind the first scopes of a list: each name has the place of the last of them that stands in the scope under it
pub record IsIndexed (list : List FoundScope) (count place : ℕ) (new : FoundScope) : Type 0 where
  pub o : FoundScope
  pub stands : slice_get list place ≡ Some o
  pub same : IsSameBut o new
  pub found : (n : List ℕ) (k : ℕ) → meaning_of new.blocks n ≡ Some k →
      (inner : FoundScope) × (k < count) × (slice_get list k ≡ Some inner) × (inner.around ≡ Some place) × (text_name inner.title ≡ Some n)
  pub all : (n : List ℕ) (k : ℕ) (inner : FoundScope) → k < count → slice_get list k ≡ Some inner → inner.around ≡ Some place →
      text_name inner.title ≡ Some n → (j : ℕ) × (meaning_of new.blocks n ≡ Some j)

-- the first scopes of a list were told to those around them
pub record AreIndexedUpTo (list : List FoundScope) (count : ℕ) (new : List FoundScope) : Type 0 where
  pub many : length new ≡ length list
  pub each : (place : ℕ) (o : FoundScope) → slice_get new place ≡ Some o → IsIndexed list count place o

-- the scope at a place was told to the one around it
abbrev pub AddsBlock : ℕ → List FoundScope → List FoundScope → Type 0
AddsBlock place old new = (start : List FoundScope) → AreIndexedUpTo start place old → AreIndexedUpTo start (suc place) new

-- all were
abbrev pub AreIndexed : List FoundScope → List FoundScope → Type 0
AreIndexed list new = AreIndexedUpTo list (length list) new
