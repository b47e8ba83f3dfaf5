-- A `Vacant` by value is [the room; the token; the handle]. Assumes `Logic`.
use mathlib.Core.Path.{◌≡◌, refl, subst}
use Prim.Native.Nat.{ℕ}
use mathlib.Core.List.{List, [], ◌∷◌, ◌++◌}
use seplogic.Ra.Ura.{Ura}
use lib.Dec.{T}
use mir.Syntax.{Ty, ty_ptr, ty_struct, tcons, tnil}
use mir.Val.{Val, vptr, vstruct, vcons, vnil, of_list, has_ty, WT}
use mir.Raw.{raw as bare}
use base.Logic.{fst∗, never}
use base.Fml.{froom}
use types.Logic.{Logic, sem}
use types.Kit.{Item, Goal, Seq, Step, step, ‵, ◌$◌, move, drop, fsplit, fjoin, fpick, fpack, feq_l, feq_i}
use denote.RattleType.{RattleType, Valss}
use denote.Memory.{lone}
use denote.Param.{param}
use denote.RawPtr.{Ptr, RawPtr, block_ptr, null_ptr, ptr_val, in_a_block}
use denote.Steps.{nothing}
use denote.Struct.Struct.{within}
use denote.Struct.Owning.{Owning, shape}
use Rattle.std.proofs.alloc.Calls.{Al, α, token, Fits, handle_tells}
use Rattle.std.specs.Vacant.{vacant}
use Rattle.vs_time_wheel.specs.contracts.blocks.Vacant as V
use Rattle.std.proofs.ResultValues.{and_tt}

abbrev pub vacant_val : Val → ℕ → ℕ → Val
vacant_val hv b o = vstruct (vcons (vptr b o) (vcons hv vnil))

-- Y is the row for which there is room
module _ (Z : Al) (Y : RattleType) where
  abbrev pub owning : Owning
  owning = V.the_type Y (param 1 Z.row) Z.g

  abbrev pub Vacant : RattleType
  Vacant = V.the_row Y (param 1 Z.row) Z.g

  abbrev pub vacant_ty : Ty
  vacant_ty = ty_struct owning.name (tcons ty_ptr (tcons (α Z) tnil))

  abbrev pub room_ty : Ty
  room_ty = bare (lone Y.mir)

  pub vacant_typed : (hv : Val) (b o : ℕ) → Fits Z hv → T (has_ty vacant_ty (vacant_val hv b o)) × WT (vacant_val hv b o)
  vacant_typed hv b o fa = (and_tt (has_ty (α Z) hv) fa.0, (tt, (fa.1, tt)))

  module _ {M : Type 1} {𝓤 : Ura M} {𝓛 : Logic 𝓤} {K : Type 0} {Γ : List (Item 𝓤)} {G : Goal 𝓤 𝓛.H} where
    pub Vacant-had : K → (d : Vacant.Denot) (vs : List Val)
        → ((b o : ℕ) (hv : Val) → d.ptr ≡ block_ptr b o → vs ≡ vacant_val hv b o ∷ [] → Fits Z hv
        → Seq K 𝓛 (‵ (froom room_ty b o) ∷ ‵ (token Z d.alloc room_ty (block_ptr b o)) ∷ ‵ (Z.row.own_val d.alloc (hv ∷ [])) ∷ Γ) G)
        → Seq K 𝓛 (‵ (Vacant.own_val d vs) ∷ Γ) G
    Vacant-had t d vs k =
        fsplit t $ fpick t (λ vss. fsplit t $ feq_l t (λ ev. fsplit t $ feq_l t (λ ep. fsplit t $ handle_tells Z t d.alloc vss.1.0 (λ hv ea fa. move t (1 ∷ []) $ drop t $ move t (1 ∷ []) $
        in_a_block t d.ptr (vacant (token Z d.alloc) Y) (fst∗ 𝓤 (never 𝓤) (sem 𝓛 (token Z d.alloc room_ty null_ptr))) (λ b o e. fsplit t $ k b o hv e
        (subst (λ (p : Ptr). vs ≡ vstruct (of_list (ptr_val p ∷ hv ∷ [])) ∷ []) e
        (subst (λ (ws : List Val). vs ≡ vstruct (of_list (ptr_val d.ptr ∷ (ws ++ []))) ∷ []) ea (subst (λ (ps : List Val). vs ≡ vstruct (of_list (ps ++ (vss.1.0 ++ []))) ∷ []) ep ev))) fa)))))

    pub Vacant-made : K → {hv : Val} (a : Z.row.Denot) (b o : ℕ)
        → Step K 𝓛 (‵ (Vacant.own_val (record { ptr = block_ptr b o; alloc = a }) (vacant_val hv b o ∷ [])) ∷ Γ) G (‵ (froom room_ty b o) ∷ ‵ (token Z a room_ty (block_ptr b o)) ∷ ‵ (Z.row.own_val a (hv ∷ [])) ∷ Γ) G
    Vacant-made t {hv} a b o = step (λ s.
        fjoin t $ nothing t $ move t (2 ∷ 0 ∷ []) $ fjoin t $ feq_i t (List Val) (vptr b o ∷ []) (vptr b o ∷ []) refl $ fjoin t $
        feq_i t (List Val) (vacant_val hv b o ∷ []) (vacant_val hv b o ∷ []) refl $ fjoin t $
        fpack t (Valss (RawPtr ∷ param 1 Z.row ∷ [])) (within (shape owning) (block_ptr b o, (a, tt)) (vacant_val hv b o ∷ [])) (vptr b o ∷ [], (hv ∷ [], tt)) $ fjoin t $ s)
