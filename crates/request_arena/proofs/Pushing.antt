-- What a push does to chains, whether or not there is a tail, and that a removal keeps them chains.
use Rattle.std.proofs.Common.{◌≡◌, ◌≢◌, ℕ, inl, inr, true, List, [], ◌∷◌, replicate, IfSome, Option, Some, None, slice_get, slice_set, ◌∙◌, ap, ◌⊎◌}
use Rattle.std.proofs.lemmas.Option.{slice_get_within}
use Rattle.request_arena.specs.declared.node.Held.{Held}
use Rattle.request_arena.specs.declared.node.Request.{Request}
use Rattle.request_arena.specs.Chains.{linked, held_at, holds, successor_of, chain}
use Rattle.request_arena.specs.Linked.{AreChains}
use Rattle.request_arena.specs.Pushes.{appended}
use Rattle.request_arena.proofs.Walks.{same_or_not}
use Rattle.request_arena.proofs.Changed.{get_other}
use Rattle.request_arena.proofs.Chains.{chained_removed, ps, off, grown, there, at_t, elsewhere, same_live, chained_pushed, chain_longer, chain_alone, fs, fs_long, fs_there, fs_off, chained_fresh, chain_kept, chained_blank}
use Rattle.request_arena.proofs.Apart.{Begins, apart_blank, successor_blank, apart_pushed, successor_pushed, firsts_pushed, first_pushed, apart_removed, successor_removed}

pub record PushedChains (hs : List (Option Held)) (tail : Option ℕ) (v : ℕ) (now : List (Option Held)) : Type 0 where
  pub are : AreChains now
  pub chains : (a : ℕ) → held_at hs a ≡ true → chain now a ≡ appended tail v (chain hs a)
  pub alone : chain now v ≡ v ∷ []
  pub first : tail ≡ None → Begins now v
  pub firsts : (a : ℕ) → held_at hs a ≡ true → Begins hs a → Begins now a

some_none : (t : ℕ) → Some t ≡ None → ⊥
some_none t e = cc

pub chains_pushed : (hs : List (Option Held)) → AreChains hs → (tail : Option ℕ) (v : ℕ) (r : Request) → slice_get hs v ≡ Some None
    → IfSome tail (λ t. (o : Request) × (slice_get hs t ≡ Some (Some (record { request = o; successor = None }))))
    → PushedChains hs tail v (slice_set (linked tail v hs) v (Some (record { request = r; successor = None })))
chains_pushed hs was None v r free ends =
    let room = slice_get_within hs v None free in
    let now : List (Option Held) = fs hs was.end v free room r in
    let out = fs_off hs was.end v free room r in let far = fs_long hs was.end v free room r in let here = fs_there hs was.end v free room r in
    let other : (a : ℕ) → a ≢ v → slice_get now a ≡ slice_get hs a = λ a z. get_other hs v a _ z in
    let kept : (a : ℕ) → a ≢ v → held_at now a ≡ held_at hs a = λ a z. ap holds (other a z) in
    record {
      are = record {
        end = chained_fresh hs was.end v free room r;
        apart = apart_pushed hs now was.successor v 0 out room far (ap successor_of here) (ap holds here) kept (λ a z. inl (other a z)) was.apart;
        successor = successor_pushed hs now was.successor v 0 out room far (ap successor_of here) (ap holds here) kept (λ a z. inl (other a z));
      };
      chains = chain_kept hs was.end v free room r;
      alone = chain_alone hs now was.end v r far here;
      first = λ e. first_pushed hs now was.successor v 0 out room far (ap successor_of here) (ap holds here) kept (λ a z. inl (other a z)) other;
      firsts = firsts_pushed hs now was.successor v 0 out room far (ap successor_of here) (ap holds here) kept (λ a z. inl (other a z));
    }
chains_pushed hs was (Some t) v r free ends =
    let room = slice_get_within hs v None free in
    let now : List (Option Held) = ps hs was.end v free room r t ends.0 ends.1 in
    let out = off hs was.end v free room r t ends.0 ends.1 in let far = grown hs was.end v free room r t ends.0 ends.1 in
    let here = there hs was.end v free room r t ends.0 ends.1 in let successor = at_t hs was.end v free room r t ends.0 ends.1 in
    let kept = same_live hs was.end v free room r t ends.0 ends.1 in
    let each : (a : ℕ) → a ≢ v → (slice_get now a ≡ slice_get hs a) ⊎ ((a ≡ t) × (successor_of (slice_get now a) ≡ Some v)) = λ a z. elim (same_or_not a t) [
      | inl y ↦ inr (y, ap (λ n. successor_of (slice_get now n)) y ∙ ap successor_of successor)
      | inr y ↦ inl (elsewhere hs was.end v free room r t ends.0 ends.1 a z y)
    ] in
    record {
      are = record {
        end = chained_pushed hs was.end v free room r t ends.0 ends.1;
        apart = apart_pushed hs now was.successor v t out room far (ap successor_of here) (ap holds here) kept each was.apart;
        successor = successor_pushed hs now was.successor v t out room far (ap successor_of here) (ap holds here) kept each;
      };
      chains = chain_longer hs was.end v free room r t ends.0 ends.1;
      alone = chain_alone hs now was.end v r far here;
      first = λ e. absurd (some_none t e);
      firsts = firsts_pushed hs now was.successor v t out room far (ap successor_of here) (ap holds here) kept each;
    }

pub chains_removed : (hs : List (Option Held)) → AreChains hs → (x : ℕ) → held_at hs x ≡ true → Begins hs x → AreChains (slice_set hs x None)
chains_removed hs was x on first = record {
  end = chained_removed hs was.end x on first;
  apart = apart_removed hs x on was.apart;
  successor = successor_removed hs x on first was.successor;
}

pub chains_blank : (n : ℕ) → AreChains (replicate n None)
chains_blank n = record {
  end = chained_blank n;
  apart = apart_blank n;
  successor = successor_blank n;
}
