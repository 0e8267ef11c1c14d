-- `give_back` makes room for an array of a row of places, and gives it to the allocator. Assumes `Logic`.
use Rattle.std.proofs.Common.{◌≡◌, ℕ, ◌*◌, ◌<◌, ◌^◌, List, [], ◌∷◌, ◌++◌, length, refl, sym, subst, ap, ◌∙◌, w64, arith}
use mir.Syntax.{Fn, ty_array}
use mir.Val.{Val, vunit, vint, vptr, WT}
use mir.MapTy.{inst_fn}
use base.Logic.{SProp}
use base.Fml.{ftrue, froom, flft, Incl-trans}
use prog.Memory.{align, capped}
use prog.Capped.{capped_fits}
use prog.Wp.{Env, WpFn}
use contract.BorrowLft.{◌⊑◌}
use contract.Monad.{fact}
use contract.Running.{tables}
use types.Kit.{‵, raw, ◌⊛◌, given, later, prop, ◌$◌, ◌∵◌, !, qed, move, keep, use1, use2, use3, split, split3, join, learn, rewrite, regoal, fsplit, fjoin, feq_i, group, suffices, await, done}
use types.Part.{whole, sub}
use types.Run.{stop, fld, size_word, align_word, unit_lit, no_more, and_then, of_opd, bin, returns, enter}
use types.ByLocal.{alloc_all, pass_all, free_all, look_at, get, get_in, is, sets, lands_as, env}
use denote.Exit.{yes, no}
use denote.Builtin.{RefOf}
use denote.RattleType.{owns}
use denote.RawPtr.{Ptr, block_ptr}
use denote.Signature.{plain, types_at}
use denote.Steps.{heard, nothing}
use denote.Triple.Call.{calls_at}
use denote.Triple.Walked.{Stays, stay_dropped, walk_of, ends_at, Goes-dropped}
use Rattle.core.proofs.mem.Param.{El, elτ}
use Rattle.core.proofs.alloc.Calls.{Al, token, Gives, at_gives, Gives-goes, Gives-Gives}
use Rattle.core.proofs.atomic.Steps.{fm}
use Rattle.core.proofs.slots.Places.{sz, to_room}
use Rattle.core.proofs.slots.Opens.{Sr, row_val, row_had, row_made}
use Rattle.core.proofs.slots.Leases.{uncapped, block_ty, block_size, block_align, args, P}
use Rattle.core.proofs.slots.Slots.into_raw_parts.Met as parts_of
use Rattle.std.proofs.raw_atomic.Walks.{proved_at}
use Rattle.std_alloc.proofs.VecSteps.El as Vecs
use Rattle.std_alloc.proofs.vec.Blocks.{all}
use Rattle.std_alloc.proofs.vec.Spares.{Into, at_into, Into-goes, Into-gives}
use Rattle.request_arena.specs.Memory.{IsDeedOf}
use Rattle.request_arena.proofs.Deeds.{Dr, deed_val, deed_had}
use Rattle.request_arena.specs.contracts.memory.give_back.{ended, clauses}
use Rattle.request_arena.specs.contracts.memory.give_back.Key.{name as #self}
use Rattle.request_arena.proofs.memory.give_back.Statement.{statement}
use Rattle.request_arena.proofs.memory.give_back.Code as code

pub give_back_spec : {M : Type 1} → statement M
give_back_spec 𝓤 𝓛 𝓜 𝓡 wired T A LT LA g d dd met md =
    let H = 𝓛.H in
    let E : El = record { row = T; laws = LT } in let Z : Al = record { row = A; laws = LA; g = g; d = d; drops = dd } in
    let V : Vecs.El = record { row = T; laws = LT; al = Z } in
    let En₀ = ended T A g d dd in
    let c = clauses T A g d dd 𝓛 𝓜.mem 𝓡.returns in
    let fn : Fn = inst_fn (args E Z) code.function in
    let s₀ = RefOf (0 ∷ []) tt (plain (λ _. P E Z)) (λ _. tt) in let s₁ = plain (λ _. Sr E) in let s₂ = plain (λ _. Dr E Z) in
    let stays : Stays En₀.signature.params En₀.kept = (stay_dropped s₀ yes, (stay_dropped s₁ no, (stay_dropped s₂ no, tt))) in
    let 𝓣 = tables 𝓤 H 𝓜 𝓡 𝓡.env in
    proved_at 𝓛 En₀ stays c 𝓜 𝓡 (Goes-dropped 𝓛 3 s₀ yes (λ κs x f. refl), (Goes-dropped 𝓛 3 s₁ no (λ κs x f. refl), (Goes-dropped 𝓛 3 s₂ no (λ κs x f. refl), tt)))
    (#self (args E Z)) fn (code.unfolded 𝓤 H 𝓜 𝓡 wired (T, (A, tt)) d dd) (λ z are.
    let κ = z.0.0.0 in let κ₁ = z.0.0.1.0 in let κ₂ = z.0.0.1.1.0 in
    let q = z.0.1.0 in let q₁ = z.0.1.1.0 in let q₂ = z.0.1.1.1.0 in
    let hp : ℕ × ℕ = z.0.3.0.ref_ptr in let a : A.Denot = z.0.3.0.now in let r = z.0.3.1.0 in let k : (Dr E Z).Denot = z.0.3.1.1.0 in let vss = z.0.4 in
    let Post : Val → SProp 𝓤 = (walk_of 𝓛 En₀ stays c).post z in
    let n : ℕ = r.len in let s : ℕ = sz E in let al : ℕ = capped (align (elτ E)) in
    let Alive = ‵ (flft κ q) ⊛ ‵ (flft κ₁ q₁) ⊛ ‵ (flft κ₂ q₂) ⊛ ‵ ftrue in
    qed 𝓛 ((Alive ⊛ ‵ (owns (types_at En₀.signature.params z.0.0) z.0.3 vss))
    ∷ (raw (fact 𝓤 (κ₁ ⊑ T.lives)) ⊛ raw (fact 𝓤 (κ₂ ⊑ A.lives)) ⊛ raw (fact 𝓤 (IsDeedOf k r a))) ∷ []) ∵
    move ! (1 ∷ []) $ split3 ! $ heard ! (κ₁ ⊑ T.lives) (λ inT. heard ! (κ₂ ⊑ A.lives) (λ inA. heard ! (IsDeedOf k r a) (λ its.
    split ! $ move ! (1 ∷ []) $ fsplit ! $ fsplit ! $ keep ! (2 ∷ 1 ∷ 3 ∷ []) $ fsplit ! $ row_had E ! r vss.1.0 (λ b o at e₁ fits small. row_made E ! r b o at fits small $
    move ! (1 ∷ []) $ fsplit ! $ deed_had E Z ! k vss.1.1.0 (λ e₂.
    rewrite ! 0 (λ (p : Ptr). ‵ (token Z k.alloc (block_ty E k.places) p)) (its.start ∙ at) refl $
    rewrite ! 0 (λ (m : ℕ). ‵ (token Z k.alloc (block_ty E m) (block_ptr b o))) its.places refl $
    rewrite ! 0 (λ (x : A.Denot). ‵ (token Z x (block_ty E n) (block_ptr b o))) its.by refl $ keep ! (2 ∷ 4 ∷ 0 ∷ 3 ∷ []) $
    -- [the places; the tokens; the right; the handle]
    regoal ! (λ (us : List Val). prop (WpFn 𝓤 H 𝓣.C 𝓣.Λ fn us Post)) (λ i. are.0.0 i ++ (e₁ i ++ (e₂ i ++ []))) refl $
    let words : WT (row_val b o n) = (tt, (record { fits = fits }, tt)) in
    enter ! 𝓣.C 𝓣.Λ fn (vptr hp.0 hp.1 ∷ row_val b o n ∷ deed_val ∷ []) Post $ alloc_all ! (λ l. pass_all ! refl ((tt, tt), ((tt, words), ((tt, (tt, (tt, tt))), tt))) $
    let En : Env 𝓤 H = env fn.locals l in
    let fm' : n * s < 2 ^ 64 = omega (arith, small) in
    let y : (Into V 𝓛 𝓜.mem 𝓡.returns).Ghost = at_into V 𝓛 𝓜.mem 𝓡.returns κ₁ q₁ r b o in
    let y' : (Gives Z 𝓛 𝓜.mem 𝓡.returns).Ghost = at_gives Z 𝓛 𝓜.mem 𝓡.returns κ q hp a b o (n * s) al (block_ty E n) in
    sets ! (of_opd ! (get ! refl)) refl (tt, words) $
    move ! (1 ∷ []) $ split ! $ move ! (1 ∷ []) $ split ! $ move ! (3 ∷ 0 ∷ []) $
    -- [the places; the token of T's lifetime; that after it; the one in front of it; the right; the handle]
    use2 𝓛 (raw ((Into V 𝓛 𝓜.mem 𝓡.returns).pre y)) (Into-goes V 𝓛 𝓜.mem 𝓡.returns κ₁ q₁ r b o inT) $
    calls_at ! (fm 𝓛 𝓜 𝓡) (Into V 𝓛 𝓜.mem 𝓡.returns) (parts_of.met 𝓤 𝓛 𝓜 𝓡 (code.calls-core::slots::Slots::into_raw_parts 𝓡.env wired) T LT) y (and_then ! (get ! refl) (no_more !)) (λ v.
    use1 𝓛 (later (given (v ≡ row_val b o n) (‵ (all V b o r.items r.filled) ⊛ ‵ (flft κ₁ q₁)))) (Into-gives V 𝓛 𝓜.mem 𝓡.returns κ₁ q₁ r b o v at) $ await ! tt $ learn ! (λ e. split ! $
    lands_as ! e refl (tt, words) $
    sets ! (of_opd ! (get_in ! (fld ! refl (stop !)) (sub ! 0 refl (whole !)))) refl (tt, tt) $
    sets ! (of_opd ! (get_in ! (fld ! refl (stop !)) (sub ! 1 refl (whole !)))) refl (tt, record { fits = fits }) $ sets ! (of_opd ! (get ! refl)) refl (tt, tt) $
    sets ! (is ! (bin ! (get ! refl) (size_word !) (record { fits = subst (λ (j : ℕ). j < 2 ^ 64) (sym (uncapped n s fm')) fm' })) (ap (vint w64) (uncapped n s fm'))) refl (tt, record { fits = fm' }) $
    use1 𝓛 (‵ (froom (ty_array (elτ E) (length r.items)) b o)) (to_room E 𝓛 b r.items r.filled o (sym r.ok.1 ∙ r.ok.0)) $
    rewrite ! 0 (λ (j : ℕ). ‵ (froom (ty_array (elτ E) j) b o)) (sym r.ok.0) refl $ use1 𝓛 (‵ (froom (block_ty E n) b o)) (𝓛.laws.room-raw (ty_array (elτ E) n) b o) $
    move ! (1 ∷ 2 ∷ []) $ join ! $ move ! (4 ∷ 2 ∷ []) $ join ! $ move ! (2 ∷ 3 ∷ 0 ∷ []) $
    -- [the room; the right; the handle with its token; the other tokens]
    use3 𝓛 (raw ((Gives Z 𝓛 𝓜.mem 𝓡.returns).pre y'))
    (Gives-goes Z 𝓛 𝓜.mem 𝓡.returns κ q hp a (Incl-trans z.0.2.0 inA) b o (n * s) al (block_ty E n) (block_size E n fm') (block_align E n) fm' (capped_fits (align (elτ E)))) $
    calls_at ! (fm 𝓛 𝓜 𝓡) (Gives Z 𝓛 𝓜.mem 𝓡.returns) (met.deallocate dd) y' (and_then ! (get ! refl) (and_then ! (get ! refl) (and_then ! (get ! refl) (and_then ! (align_word !) (no_more !))))) (λ w.
    use1 𝓛 (later (given (w ≡ vunit) (‵ (flft κ q)))) (Gives-Gives Z 𝓛 𝓜.mem 𝓡.returns κ q hp a b o (n * s) al (block_ty E n) w) $ await ! tt $ learn ! (λ e₄.
    lands_as ! e₄ refl (tt, tt) $ sets ! (of_opd ! (unit_lit !)) refl (tt, tt) $ returns ! (look_at ! 0 refl) $ free_all ! refl $
    suffices ! _ (ends_at 𝓛 En₀ stays c z vunit tt (tt, (tt, (tt, tt))) (tt, (tt, (tt, tt)))) $ join ! $
    feq_i ! (List Val) (vunit ∷ []) (vunit ∷ []) refl $ nothing ! $ nothing ! $ fjoin ! $ nothing ! $ fjoin ! $ nothing ! $ fjoin ! $ move ! (2 ∷ 0 ∷ 1 ∷ []) $ group ! 3 $
    nothing ! $ move ! (1 ∷ 0 ∷ []) $ done !)))))))))))
