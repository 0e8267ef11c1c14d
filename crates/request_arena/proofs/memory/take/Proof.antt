-- `take` asks the allocator for room for an array, and makes a row of empty places of it. Assumes `Logic`.
use Rattle.std.proofs.Common.{◌≡◌, ℕ, ◌*◌, ◌<◌, ◌^◌, true, false, Bool, List, [], ◌∷◌, ◌++◌, replicate, length, refl, sym, subst, ap, w64, lit<, arith}
use lib.ListN.{length-replicate}
use mir.Syntax.{Fn, Body, ty_array}
use mir.Val.{Val, vint, vptr, WT}
use mir.MapTy.{inst_fn}
use base.Logic.{SProp, ent, sep}
use base.Fml.{ftrue, froom, flft, Incl-trans}
use prog.Memory.{align, capped}
use prog.Capped.{capped_fits}
use prog.Wp.{Wp, after_seq, at_return, Env, WpFn}
use contract.BorrowLft.{◌⊑◌}
use contract.Monad.{fact}
use contract.Running.{tables}
use types.Logic.{sem}
use types.Kit.{Post as After, any_q, ‵, raw, ◌⊛◌, some, given, later, prop, at_ret, ◌$◌, ◌∵◌, !, qed, by, move, keep, use0, use1, use2, split, split3, join, pick, learn, regoal, fsplit, fjoin, suffices, await, done}
use types.Part.{whole, agg}
use types.Match.{vrt, in_variant}
use types.Run.{stop, fld, lit, size_word, align_word, no_more, and_then, of_opd, bin, first, switches_on, exec, returns, enter}
use types.ByLocal.{alloc_all, pass_all, free_all, look_at, get, get_in, get_tag, is, sets, sets_last, lands_as, env}
use denote.Exit.{yes}
use denote.Builtin.{RefOf, usize}
use denote.RattleType.{RattleType, owns}
use denote.Signature.{plain, types_at}
use denote.Steps.{heard, nothing}
use denote.Struct.Tuple.{Tuple}
use denote.Triple.Call.{calls_at}
use denote.Triple.Entry.{alive}
use denote.Triple.Walked.{says, Stays, stay_dropped, walk_of, ends_at, Goes-dropped}
use Rattle.core.specs.Result.{IfOk}
use Rattle.core.specs.declared.result.Result.TheVariants.{Ok, Err}
use Rattle.core.proofs.mem.Param.{El, R, elτ}
use Rattle.core.proofs.alloc.Calls.{Al, Takes, at_takes, Answered, Answer-typed, Takes-goes, Takes-gives, answers}
use Rattle.core.proofs.atomic.Steps.{fm}
use Rattle.core.proofs.slots.Bodies.{after, head, arm_body}
use Rattle.core.proofs.slots.Places.{sz}
use Rattle.core.proofs.slots.Runs.{of_space}
use Rattle.core.proofs.slots.Opens.{row_val}
use Rattle.core.proofs.slots.Leases.{uncapped, block_ty, block_size, block_align, args, P}
use Rattle.core.proofs.slots.Slots.from_raw_parts.Met as made_of
use Rattle.std.proofs.raw_atomic.Walks.{proved_at}
use Rattle.std_alloc.proofs.Pairs.{pair_of, pair_val}
use Rattle.std_alloc.proofs.VecSteps.El as Vecs
use Rattle.std_alloc.proofs.vec.Blocks.{all}
use Rattle.std_alloc.proofs.vec.Spares.{Row, From, at_from, Made, from_goes, from_gives}
use Rattle.core.specs.Mem.Slots.{slots_len}
use Rattle.request_arena.specs.Memory.{IsDeedOf}
use Rattle.request_arena.proofs.Deeds.{Dr, deed_of, deed_val, deed_made, Answer, ok_val, ok_made, refused_val, refused_made}
use Rattle.request_arena.specs.contracts.memory.take.{ended, clauses}
use Rattle.request_arena.specs.contracts.memory.take.Key.{name as #self}
use Rattle.request_arena.proofs.memory.take.Statement.{statement}
use Rattle.request_arena.proofs.memory.take.Code as code

pub take_spec : {M : Type 1} → statement M
take_spec 𝓤 𝓛 𝓜 𝓡 wired T A LT LA g d dd met md =
    let H = 𝓛.H in
    let E : El = record { row = T; laws = LT } in let Z : Al = record { row = A; laws = LA; g = g; d = d; drops = dd } in
    let V : Vecs.El = record { row = T; laws = LT; al = Z } in
    let En₀ = ended T A g d dd in
    let c = clauses T A g d dd 𝓛 𝓜.mem 𝓡.returns in
    let fn : Fn = inst_fn (args E Z) code.function in
    let s₀ = RefOf (0 ∷ []) tt (plain (λ _. P E Z)) (λ _. tt) in let s₁ = plain (λ _. usize) in let s₂ = RefOf (1 ∷ []) tt (plain (λ _. R E)) (λ _. tt) in
    let stays : Stays En₀.signature.params En₀.kept = (stay_dropped s₀ yes, (stay_dropped s₁ yes, (stay_dropped s₂ yes, tt))) in
    let 𝓣 = tables 𝓤 H 𝓜 𝓡 𝓡.env in
    proved_at 𝓛 En₀ stays c 𝓜 𝓡 (Goes-dropped 𝓛 4 s₀ yes (λ κs x f. refl), (Goes-dropped 𝓛 4 s₁ yes (λ κs x f. refl), (Goes-dropped 𝓛 4 s₂ yes (λ κs x f. refl), tt)))
    (#self (args E Z)) fn (code.unfolded 𝓤 H 𝓜 𝓡 wired (T, (A, tt)) d dd) (λ z are.
    let κ = z.0.0.0 in let κ₁ = z.0.0.1.0 in let κ₂ = z.0.0.1.1.0 in let κ₃ = z.0.0.1.1.1.0 in
    let q = z.0.1.0 in let q₁ = z.0.1.1.0 in let q₂ = z.0.1.1.1.0 in let q₃ = z.0.1.1.1.1.0 in
    let hp : ℕ × ℕ = z.0.3.0.ref_ptr in let a : A.Denot = z.0.3.0.now in let n : ℕ = z.0.3.1.0 in let like = z.0.3.1.1.0 in let vss = z.0.4 in
    let Post : Val → SProp 𝓤 = (walk_of 𝓛 En₀ stays c).post z in
    let s : ℕ = sz E in let al : ℕ = capped (align (elτ E)) in
    let fits = are.1.0.1 in
    let Small : Type 0 = n * s < 2 ^ 63 in
    let Alive = ‵ (flft κ q) ⊛ ‵ (flft κ₁ q₁) ⊛ ‵ (flft κ₂ q₂) ⊛ ‵ (flft κ₃ q₃) ⊛ ‵ ftrue in
    let Two : RattleType = Tuple (Row V ∷ Dr E Z ∷ []) in
    let exits : (r : (Answer Two).Denot) (u : Val) → IfOk r (λ taken. (slots_len taken.0 ≡ n) × IsDeedOf taken.1 taken.0 a)
    → ent 𝓤 (sep 𝓤 (sem 𝓛 ((Answer Two).own_val r (u ∷ []))) (alive 𝓛 En₀.signature z.0.0 z.0.1)) (Post u) = λ r u said.
    qed 𝓛 (‵ ((Answer Two).own_val r (u ∷ [])) ∷ raw (alive 𝓛 En₀.signature z.0.0 z.0.1) ∷ []) ∵
    suffices ! _ (ends_at 𝓛 En₀ stays c z u r (tt, (tt, (tt, tt))) (tt, (tt, (tt, tt)))) $ says ! said $
    nothing ! $ nothing ! $ fjoin ! $ nothing ! $ fjoin ! $ nothing ! $ fjoin ! $ move ! (2 ∷ 0 ∷ 1 ∷ []) $ done ! in
    qed 𝓛 ((Alive ⊛ ‵ (owns (types_at En₀.signature.params z.0.0) z.0.3 vss))
    ∷ (raw (fact 𝓤 (κ₂ ⊑ T.lives)) ⊛ raw (fact 𝓤 (κ₃ ⊑ A.lives)) ⊛ raw (fact 𝓤 Small)) ∷ []) ∵
    move ! (1 ∷ []) $ split3 ! $ heard ! (κ₂ ⊑ T.lives) (λ inT. heard ! (κ₃ ⊑ A.lives) (λ inA. heard ! Small (λ small.
    split ! $ move ! (1 ∷ []) $ fsplit ! $ fsplit ! $ keep ! (1 ∷ 3 ∷ []) $
    regoal ! (λ (us : List Val). prop (WpFn 𝓤 H 𝓣.C 𝓣.Λ fn us Post)) (λ i. are.0.0 i ++ (are.1.0.0 i ++ (are.1.1.0.0 i ++ []))) refl $
    enter ! 𝓣.C 𝓣.Λ fn (vptr hp.0 hp.1 ∷ vint w64 n ∷ vptr like.ref_ptr.0 like.ref_ptr.1 ∷ []) Post $ alloc_all ! (λ l. pass_all ! refl ((tt, tt), ((tt, record { fits = fits }), ((tt, tt), tt))) $
    let En : Env 𝓤 H = env fn.locals l in
    let both : Body = head (after 2 fn.body) in
    let Then : After 𝓤 H = any_q (after_seq 𝓤 H (Wp 𝓤 H 𝓣.C 𝓣.Λ En (after 3 fn.body) (at_return 𝓤 H En Post)) (at_return 𝓤 H En Post)) in
    let fm' : n * s < 2 ^ 64 = omega (arith, small) in
    let y : (Takes Z 𝓛 𝓜.mem 𝓡.returns).Ghost = at_takes Z 𝓛 𝓜.mem 𝓡.returns κ q hp a (n * s) al (block_ty E n) in
    -- [the handle; the tokens]
    sets ! (is ! (bin ! (get ! refl) (size_word !) (record { fits = subst (λ (k : ℕ). k < 2 ^ 64) (sym (uncapped n s fm')) fm' })) (ap (vint w64) (uncapped n s fm'))) refl (tt, record { fits = fm' }) $
    move ! (1 ∷ []) $ split ! $ move ! (2 ∷ 0 ∷ []) $
    use2 𝓛 (raw ((Takes Z 𝓛 𝓜.mem 𝓡.returns).pre y))
    (Takes-goes Z 𝓛 𝓜.mem 𝓡.returns κ q hp a (Incl-trans z.0.2.0 inA) (n * s) al (block_ty E n) (block_size E n fm') (block_align E n) fm' (capped_fits (align (elτ E)))) $
    calls_at ! (fm 𝓛 𝓜 𝓡) (Takes Z 𝓛 𝓜.mem 𝓡.returns) (met.allocate dd) y (and_then ! (get ! refl) (and_then ! (get ! refl) (and_then ! (align_word !) (no_more !)))) (λ v.
    use1 𝓛 (later (raw (Answered Z 𝓛 𝓜.mem 𝓡.returns a (block_ty E n) v) ⊛ ‵ (flft κ q))) (Takes-gives Z 𝓛 𝓜.mem 𝓡.returns κ q hp a (n * s) al (block_ty E n) v) $ await ! tt $ split ! $
    move ! (1 ∷ 2 ∷ []) $ join ! $ move ! (1 ∷ []) $ answers Z ! 𝓜.mem 𝓡.returns a (block_ty E n) v
    (λ b o e.
    -- [the room; the right to give it back; the tokens]
    let xs : List T.Denot = replicate n like.now in let fs : List Bool = replicate n false in
    let long : length xs ≡ n = length-replicate n like.now in
    let words : WT (row_val b o n) = (tt, (record { fits = fits }, tt)) in let pair : Val = pair_val (row_val b o n) deed_val in
    let pair_words : WT pair = (words, (((tt, (tt, tt)), tt))) in
    lands_as ! e refl (Answer-typed true b o) $ first ! $ switches_on ! (get_tag ! (vrt ! refl (fld ! refl (stop !))) (whole !)) $ exec ! 𝓣.C 𝓣.Λ En (arm_body 0 both) Then $
    sets ! (of_opd ! (get_in ! (vrt ! refl (fld ! refl (stop !))) (in_variant ! 0 0 refl refl (whole !)))) refl (tt, tt) $ sets ! (of_opd ! (get ! refl)) refl (tt, tt) $
    use1 𝓛 (‵ (froom (ty_array (elτ E) n) b o)) (𝓛.laws.raw-room (ty_array (elτ E) n) b o) $ use1 𝓛 (‵ (all V b o xs fs)) (of_space E 𝓛 b o n xs long) $
    move ! (2 ∷ []) $ split ! $ move ! (1 ∷ []) $ split ! $ move ! (1 ∷ []) $ split ! $ move ! (4 ∷ 0 ∷ []) $
    -- [the places; the token of T's lifetime; those after it; the two in front of it; the right]
    use2 𝓛 (raw ((From V 𝓛 𝓜.mem 𝓡.returns).pre (at_from V 𝓛 𝓜.mem 𝓡.returns κ₂ q₂ b o n xs fs))) (from_goes V 𝓛 𝓜.mem 𝓡.returns κ₂ q₂ b o n xs fs inT (sym long) (sym (length-replicate n false)) fits small) $
    calls_at ! (fm 𝓛 𝓜 𝓡) (From V 𝓛 𝓜.mem 𝓡.returns) (made_of.met 𝓤 𝓛 𝓜 𝓡 (code.calls-core::slots::Slots::from_raw_parts 𝓡.env wired) T LT) (at_from V 𝓛 𝓜.mem 𝓡.returns κ₂ q₂ b o n xs fs)
    (and_then ! (get ! refl) (and_then ! (get ! refl) (no_more !))) (λ w.
    use1 𝓛 (later (some (λ (r : (Row V).Denot). given ((w ≡ row_val b o n) × Made V 𝓛 𝓜.mem 𝓡.returns κ₂ q₂ b o n xs fs r) (‵ ((Row V).own_val r (row_val b o n ∷ [])) ⊛ ‵ (flft κ₂ q₂)))))
    (from_gives V 𝓛 𝓜.mem 𝓡.returns κ₂ q₂ b o n xs fs w) $ await ! tt $ pick ! (λ r. learn ! (λ made. split ! $
    let k : (Dr E Z).Denot = deed_of E Z a b o n in
    let whole : WT (ok_val pair) = (record { fits = lit< tt }, (pair_words, tt)) in
    lands_as ! made.0 refl (tt, words) $ sets ! (agg ! (no_more !)) refl (tt, tt) $ sets ! (agg ! (no_more !)) refl (tt, tt) $ sets ! (of_opd ! (get ! refl)) refl (tt, words) $
    sets ! (agg ! (and_then ! (get ! refl) (and_then ! (get ! refl) (no_more !)))) refl (tt, (tt, (tt, tt))) $
    sets ! (agg ! (and_then ! (get ! refl) (and_then ! (get ! refl) (no_more !)))) refl (tt, pair_words) $
    sets_last ! (agg ! (and_then ! (lit ! tt) (and_then ! (get ! refl) (no_more !)))) refl (tt, whole) $
    exec ! 𝓣.C 𝓣.Λ En (after 3 fn.body) (at_ret En Post) $ sets ! (of_opd ! (get ! refl)) refl (tt, whole) $ returns ! (look_at ! 0 refl) $ free_all ! refl $
    move ! (1 ∷ 2 ∷ []) $ join ! $ move ! (2 ∷ 0 ∷ []) $ join ! $ move ! (2 ∷ 0 ∷ []) $ join ! $ move ! (2 ∷ []) $ deed_made E Z ! a b o n $
    -- [the deed; the tokens; the places]
    move ! (2 ∷ 0 ∷ []) $ use2 𝓛 (‵ ((Two.own_val (r, k) (pair ∷ [])))) (pair_of 𝓛 (Row V) (Dr E Z) r k (row_val b o n) deed_val) $
    use1 𝓛 (‵ ((Answer Two).own_val (Ok (r, k)) (ok_val pair ∷ []))) (ok_made 𝓛 Two (r, k) pair) $
    by ! (exits (Ok (r, k)) (ok_val pair) (made.1.1, record { start = sym made.1.0; places = sym made.1.1; by = refl }))))))
    (λ e.
    let none : WT refused_val = (record { fits = lit< tt }, (tt, tt)) in
    lands_as ! e refl (Answer-typed false 0 0) $ first ! $ switches_on ! (get_tag ! (vrt ! refl (fld ! refl (stop !))) (whole !)) $ exec ! 𝓣.C 𝓣.Λ En (arm_body 1 both) Then $
    sets ! (of_opd ! (get_in ! (vrt ! refl (fld ! refl (stop !))) (in_variant ! 1 0 refl refl (whole !)))) refl (tt, tt) $
    sets_last ! (agg ! (and_then ! (lit ! tt) (and_then ! (get ! refl) (no_more !)))) refl (tt, none) $
    exec ! 𝓣.C 𝓣.Λ En (after 3 fn.body) (at_ret En Post) $ sets ! (of_opd ! (get ! refl)) refl (tt, none) $ returns ! (look_at ! 0 refl) $ free_all ! refl $
    use0 𝓛 (‵ ((Answer Two).own_val (Err (record {})) (refused_val ∷ []))) (refused_made 𝓛 Two) $ by ! (exits (Err (record {})) refused_val tt))))))))
