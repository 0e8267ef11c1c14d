-- What a deed owns, and the answer of whoever takes a block. Assumes `Logic`.
use Rattle.std.proofs.Common.{◌≡◌, ℕ, List, [], ◌∷◌, ◌++◌, refl, ◌∙◌}
use seplogic.Ra.Ura.{Ura}
use mir.Val.{Val, vstruct, vcons, vnil, of_list}
use base.Logic.{emp, ent}
use types.Logic.{Logic, sem}
use base.Fml.{Fml}
use types.Kit.{Goal, Step, step, Seq, Item, ‵, ◌$◌, ◌∵◌, !, qed, move, drop, fsplit, fjoin, fpick, fpack, feq_l, feq_i, done}
use types.Match.{live}
use denote.RattleType.{RattleType, Valss, owns}
use denote.RawPtr.{block_ptr}
use denote.Shadow.{pure_i}
use denote.Laws.{Is}
use denote.Steps.{nothing, owned}
use denote.Struct.Struct.{Struct, Struct-Makes}
use denote.Struct.Owning.{shape}
use denote.Struct.Declared as Declared
use denote.Enum.Row.{tagged_with}
use denote.Enum.Enum.{form_of, in_a_row}
use denote.Enum.Declared as Variants
use Rattle.core.specs.declared.result.Result.TheVariants.{Ok, Err}
use Rattle.core.specs.contracts.result.Result as RS
use Rattle.core.specs.contracts.alloc.AllocError as AE
use Rattle.core.proofs.mem.Param.{El, R}
use Rattle.core.proofs.alloc.Calls.{Al, token}
use Rattle.core.proofs.slots.Leases.{P, block_ty}
use Rattle.request_arena.specs.contracts.deed.Deed as D

abbrev pub deed_val : Val
deed_val = vstruct (vcons (vstruct vnil) (vcons (vstruct vnil) vnil))

module _ (E : El) (Z : Al) where
  abbrev pub Dr : RattleType
  Dr = D.the_row (R E) (P E Z) Z.g

  abbrev pub deed_of : Z.row.Denot → ℕ → ℕ → ℕ → Dr.Denot
  deed_of a b o n = record { of = record {}; by = record {}; start = block_ptr b o; places = n; alloc = a }

module _ (E : El) (Z : Al) {M : Type 1} {𝓤 : Ura M} {𝓛 : Logic 𝓤} {K : Type 0} {Γ : List (Item 𝓤)} {G : Goal 𝓤 𝓛.H} where
  -- the right to give the block back goes into a deed
  pub deed_made : K → (a : Z.row.Denot) (b o n : ℕ)
      → Step K 𝓛 (‵ ((Dr E Z).own_val (deed_of E Z a b o n) (deed_val ∷ [])) ∷ Γ) G (‵ (token Z a (block_ty E n) (block_ptr b o)) ∷ Γ) G
  deed_made t a b o n = step (λ s.
      pure_i t ((Struct (shape (D.the_type (R E) (P E Z) Z.g))).own_val (tt, (tt, tt)) (deed_val ∷ [])) (λ vss. (tt, ((λ uss. (tt, tt)), ((λ uss. (tt, tt)), tt))))
      ((vstruct vnil ∷ [], (vstruct vnil ∷ [], tt)), (refl, ((tt, (refl, tt)), ((tt, (refl, tt)), tt)))) $ fjoin t $ s)

  -- and comes out of it
  pub deed_had : K → (d : (Dr E Z).Denot) (vs : List Val)
      → (vs ≡ deed_val ∷ [] → Seq K 𝓛 (‵ (token Z d.alloc (block_ty E d.places) d.start) ∷ Γ) G) → Seq K 𝓛 (‵ ((Dr E Z).own_val d vs) ∷ Γ) G
  deed_had t d vs k =
      fsplit t $ fpick t (λ vss. fsplit t $ feq_l t (λ whole. fsplit t $ fpick t (λ us. fsplit t $ feq_l t (λ e₀. drop t $ fsplit t $ fpick t (λ ws. fsplit t $ feq_l t (λ e₁. drop t $ drop t $
      k (whole ∙ (λ i. vstruct (of_list (e₀ i ++ (e₁ i ++ []))) ∷ []))))))))

abbrev pub Answer : RattleType → RattleType
Answer X = RS.the_row X AE.the_row

abbrev pub ok_val : Val → Val
ok_val v = live 0 (of_list (v ∷ []))

abbrev pub refused_val : Val
refused_val = live 1 (of_list (vstruct vnil ∷ []))

module _ {M : Type 1} {𝓤 : Ura M} (𝓛 : Logic 𝓤) (X : RattleType) where
  -- how a value is tagged
  abbrev tagged : (Answer X).Denot → Val → List Val → Fml
  tagged r v = tagged_with (form_of (Variants.shape (RS.the_type X AE.the_row))) (form_of (Variants.shape (RS.the_type X AE.the_row))).payload ((RS.the_type X AE.the_row).to r) (v ∷ [])

  pub ok_made : (x : X.Denot) (v : Val) → ent 𝓤 (sem 𝓛 (X.own_val x (v ∷ []))) (sem 𝓛 ((Answer X).own_val (Ok x) (ok_val v ∷ [])))
  ok_made x v =
      qed 𝓛 (‵ (X.own_val x (v ∷ [])) ∷ []) ∵ nothing ! $ move ! (1 ∷ []) $ fjoin ! $ feq_i ! (List Val) (v ∷ []) (v ∷ []) refl $ fjoin ! $
      fpack ! (Valss (X ∷ [])) (in_a_row (X ∷ []) (owns (X ∷ []) (x, tt)) (v ∷ [])) (v ∷ [], tt) $
      feq_i ! (List Val) (ok_val v ∷ []) (ok_val v ∷ []) refl $ fjoin ! $ fpack ! (List Val) (tagged (Ok x) (ok_val v)) (v ∷ []) $ done !

  pub refused_made : ent 𝓤 (emp 𝓤) (sem 𝓛 ((Answer X).own_val (Err (record {})) (refused_val ∷ [])))
  refused_made =
      let v : Val = vstruct vnil in
      qed 𝓛 [] ∵ nothing ! $ owned ! (Struct (Declared.shape AE.the_type)) (Is (Struct (Declared.shape AE.the_type))) (Struct-Makes 𝓛 (Declared.shape AE.the_type) tt) tt (v ∷ []) (tt, (refl, tt)) $ fjoin ! $
      feq_i ! (List Val) (v ∷ []) (v ∷ []) refl $ fjoin ! $ fpack ! (Valss (AE.the_row ∷ [])) (in_a_row (AE.the_row ∷ []) (owns (AE.the_row ∷ []) (record {}, tt)) (v ∷ [])) (v ∷ [], tt) $
      feq_i ! (List Val) (refused_val ∷ []) (refused_val ∷ []) refl $ fjoin ! $ fpack ! (List Val) (tagged (Err (record {})) refused_val) (v ∷ []) $ done !
