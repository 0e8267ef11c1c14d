-- `opened` lends what lies at the pointer, and the handle follows it.
use Rattle.std.proofs.Common.{◌≡◌, ℕ, List, [], ◌∷◌, ◌++◌, refl, sym, ap, ◌∙◌}
use base.Fraction.{full_share}
use seplogic.Ra.Ura.{Ura}
use mir.Raw.{raw as bare}
use mir.Syntax.{named}
use mir.Val.{Val, vptr, vstruct, vcons, vnil, of_list}
use base.Logic.{ent, sep, fst∗, never, id⊢}
use base.Fml.{GName, Fml, ftrue, flft, fsep}
use types.Logic.{Logic, sem}
use types.Kit.{‵, raw, ◌⊛◌, some, later, at_ret, ◌$◌, ◌∵◌, !, qed, move, keep, drop, use1, split, join, pick, fsplit, fsplit3, fjoin, fpick, fpack, feq_i, feq_l, suffices, frame, done, await, group, rewrite}
use types.Part.{whole, sub, look_in}
use types.Run.{stop, fld, load, of_opd, first, blocks, exec, returns, enter, addr}
use types.ByLocal.{alloc_all, pass_all, free_all, look_at, get, through, sets, env, sets_last}
use contract.Running.{tables}
use denote.Exit.{no}
use denote.RattleType.{RattleType, Valss}
use denote.Memory.{lone, part_at, mem, cell_at, part_of}
use denote.RawPtr.{Ptr, RawPtr, block_ptr, null_ptr, ptr_val, in_a_block}
use denote.Ref.{MutRef, mut_vals, mut_Tells}
use denote.Signature.{plain, mut_ref_to}
use denote.Steps.{nothing, opens}
use denote.Struct.Struct.{within}
use denote.Struct.Owning.{shape}
use denote.Follow.{follows, Part, lends_Part}
use denote.Triple.Walked.{says, Stays, stay_dropped, walk_of, ends_at, Goes-spent_ref}
use Rattle.core.proofs.alloc.Shapes.{after}
use Rattle.std.proofs.raw_atomic.Walks.{proved}
use Rattle.std_alloc.specs.Box.Ownership.{box_owns}
use Rattle.std_heap.specs.declared.Global.{Global}
use Rattle.std_heap.specs.contracts.GlobalAllocator.TheImpl.{ghosts}
use Rattle.calvin_c.specs.contracts.opened.Opened as opened
use Rattle.calvin_c.specs.contracts.handle.Handle as handle
use Rattle.calvin_c.specs.Sessions.{with_opened}
use Rattle.calvin_c.specs.contracts.handle.Handle.opened as f
use Rattle.calvin_c.proofs.handle.Handle.opened.Statement.{statement}
use Rattle.calvin_c.proofs.handle.Handle.opened.Code as code

abbrev H : RattleType
H = handle.the_row

abbrev R : RattleType
R = opened.the_row

abbrev word : ℕ → ℕ → Val
word b o = vstruct (vcons (vptr b o) vnil)

abbrev stayed : Stays f.ended.signature.params f.ended.kept
stayed = (stay_dropped (mut_ref_to (0 ∷ []) tt (plain (λ _. H))) no, tt)

module _ {M : Type 1} {𝓤 : Ura M} (𝓛 : Logic 𝓤) (rb ro : ℕ) (h : H.Denot) (given : Global) (b o : ℕ) where
  -- all of the handle but what lies there
  abbrev Rest : Fml
  Rest = fsep (ghosts.dealloc_token given (bare (lone R.mir)) (block_ptr b o)) (cell_at full_share H.mir (word b o ∷ []) rb ro)

  back : h.at ≡ block_ptr b o → (w : R.Denot) → ent 𝓤 (sep 𝓤 (sem 𝓛 ((mem R).own_at w b o)) (sem 𝓛 Rest)) (sem 𝓛 ((mem H).own_at (with_opened h w) rb ro))
  unfolding part_of
  back e w =
      qed 𝓛 (‵ (part_at R full_share w b o) ∷ ‵ Rest ∷ []) ∵ move ! (1 ∷ []) $ fsplit ! $ move ! (2 ∷ 0 ∷ []) $ fjoin ! $
      rewrite ! 0 (λ (p : Ptr). ‵ (box_owns (ghosts.dealloc_token given) R p w)) (sym e) refl $
      fpack ! Global (λ (a : Global). box_owns (ghosts.dealloc_token a) R h.at w) given $
      nothing ! $ feq_i ! (List Val) (vptr b o ∷ []) (ptr_val h.at ∷ []) (ap (λ (p : Ptr). ptr_val p ∷ []) (sym e)) $ fjoin ! $
      feq_i ! (List Val) (word b o ∷ []) (word b o ∷ []) refl $ fjoin ! $
      fpack ! (Valss (RawPtr ∷ [])) (within (shape handle.the_type) (h.at, tt) (word b o ∷ [])) (vptr b o ∷ [], tt) $ fjoin ! $
      move ! (1 ∷ 0 ∷ []) $ fjoin ! $
      fpack ! (List Val) (λ us. fsep (cell_at full_share H.mir us rb ro) (H.own_val (with_opened h w) us)) (word b o ∷ []) $ done !

pub opened_spec : {M : Type 1} → statement M
opened_spec 𝓤 𝓛 𝓜 𝓡 wired =
    let c = f.clauses 𝓛 𝓜.mem 𝓡.returns in let W = walk_of 𝓛 f.ended stayed c in let 𝓣 = tables 𝓤 𝓛.H 𝓜 𝓡 𝓡.env in
    proved 𝓛 f.ended stayed c 𝓜 𝓡 (Goes-spent_ref 𝓛 1 (0 ∷ []) tt (plain (λ _. H)), tt)
    f.Key.name code.function (code.unfolded 𝓤 𝓛.H 𝓜 𝓡 wired)
    (λ κs. (mut_vals, tt)) (λ κs. (mut_Tells (named 0) κs.0 H, tt)) (λ κs qs bounds a _ are.
    let κ = κs.0 in let q = qs.0 in let r = a.0 in let rb = r.ref_ptr.0 in let ro = r.ref_ptr.1 in let h = r.now in let γ = r.ghost_name in
    let y : W.Ghost = ((κs, qs, bounds, a, (mut_vals r, tt)), tt) in
    let En = env code.Mir.locals in
    qed 𝓛 (((‵ (flft κ q) ⊛ ‵ ftrue) ⊛ ‵ ((MutRef (named 0) κ H).own_val r (mut_vals r)) ⊛ ‵ ftrue) ∷ ‵ ftrue ∷ []) ∵
    split ! $ split ! $ move ! (2 ∷ []) $ split ! $ keep ! (0 ∷ 2 ∷ []) $
    -- [the reference; the token]
    enter ! _ _ _ _ _ $ alloc_all ! (λ l. pass_all ! refl ((tt, tt), tt) $
    fsplit3 ! $ drop ! $ opens ! tt H rb ro (λ us.
    -- [the cell; what the handle owns; the open borrow, in three entries]
    move ! (1 ∷ []) $ fsplit ! $ fpick ! (λ vss. fsplit ! $ feq_l ! (λ ev. fsplit ! $ feq_l ! (λ ep. drop ! $ fpick ! (λ given.
    in_a_block ! h.at (λ p. box_owns (ghosts.dealloc_token given) R p h.opened) (fst∗ 𝓤 (never 𝓤) (sem 𝓛 (ghosts.dealloc_token given (bare (lone R.mir)) null_ptr))) (λ b o e. fsplit ! $
    let ws : us ≡ word b o ∷ [] = ev ∙ (λ j. vstruct (of_list ((ep ∙ ap (λ (p : Ptr). ptr_val p ∷ []) e) j ++ [])) ∷ []) in
    rewrite ! 2 (λ (vs : List Val). ‵ (cell_at full_share H.mir vs rb ro)) ws refl $
    first ! $ blocks ! $
    sets ! (of_opd ! (load ! (through ! refl (fld ! refl (stop !))) (look_in ! 2 (sub ! 0 refl (whole !))))) refl (tt, tt) $
    sets ! (of_opd ! (get ! refl)) refl (tt, tt) $
    sets_last ! (addr ! (through ! refl (stop !))) refl (tt, tt) $
    exec ! 𝓣.C 𝓣.Λ (En l) (after 1 (code.function).body) (at_ret (En l) (W.post y)) $
    sets ! (of_opd ! (get ! refl)) refl (tt, tt) $
    move ! (1 ∷ 2 ∷ []) $ fjoin ! $ move ! (2 ∷ 3 ∷ 4 ∷ 1 ∷ 0 ∷ []) $ group ! 5 $
    use1 𝓛 (later (some (λ (γ' : GName). raw (Part 𝓛 H R (with_opened h) (named 0) κ q rb ro b o γ (sem 𝓛 (Rest 𝓛 rb ro h given b o)) (back 𝓛 rb ro h given b o e) h.opened γ'))))
    (lends_Part 𝓛 H R (with_opened h) (named 0) κ q rb ro b o γ (sem 𝓛 (Rest 𝓛 rb ro h given b o)) (back 𝓛 rb ro h given b o e) (H.coded.code h) (H.coded.code h) h.opened) $ await ! tt $ pick ! (λ γ'.
    returns ! (look_at ! 0 refl) $ free_all ! refl $ keep ! (0 ∷ []) $
    use1 𝓛 (‵ ((MutRef (named 0) κ R).own_val (record { ref_ptr = (b, o); ghost_name = γ'; now = h.opened }) (vptr b o ∷ [])) ⊛ ‵ (flft κ q) ⊛ ‵ (follows H R γ γ' (with_opened h))) (id⊢ 𝓤 _) $
    split ! $ move ! (1 ∷ []) $ split ! $ move ! (2 ∷ []) $
    -- [what is lent; the token; that the handle follows it]
    suffices ! _ (ends_at 𝓛 f.ended stayed c y (vptr b o) (record { ref_ptr = (b, o); ghost_name = γ'; now = h.opened }) (tt, tt) (tt, tt)) $
    nothing ! $ nothing ! $ fjoin ! $ join ! $ nothing ! $ move ! (2 ∷ 0 ∷ []) $ join ! $ join ! $ frame ! $ says ! refl $ done !)))))))))
