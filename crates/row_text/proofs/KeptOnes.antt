-- Digests that are kept.
use Rattle.std.proofs.Common.{◌≡◌, ◌&&◌, ◌==◌, ℕ, zero, suc, Bool, true, false, cond, if◌then◌else◌, List, Option, Some, None, option_and_then, option_map, refl, sym, ap, ◌∙◌, [], ◌∷◌, slice_get, slice_set, arith}
use Rattle.std.proofs.lemmas.Bool.Decides.{nat_tests}
use Rattle.std.specs.BTreeMap.{BTreeMap, get, is_at}
use Rattle.std.specs.Ordering.{is_eq, nat_cmp}
use Rattle.hex.specs.Hex.{encode_lower}
use Rattle.catalogue.specs.Shapes.{TableShape}
use Rattle.values.specs.Database.{Database}
use Rattle.row_text.specs.declared.kept.KeptDigests.{KeptDigests}
use Rattle.row_text.specs.Kept.{kept_at, AreKept}

text_over : (b : Bool) (w o : Option (List ℕ)) → option_map encode_lower (cond b w o) ≡ (if b then option_map encode_lower w else option_map encode_lower o)
text_over true w o = refl
text_over false w o = refl

same_number : (a b : ℕ) → is_eq (nat_cmp a b) ≡ (a == b)
same_number a b = grind (arith, nat_tests)

first_of_others : (n : ℕ) → (0 == suc n) ≡ false
first_of_others n = grind (arith, nat_tests)

other_of_first : (n : ℕ) → (suc n == 0) ≡ false
other_of_first n = grind (arith, nat_tests)

both_later : (m n : ℕ) → (suc m == suc n) ≡ (m == n)
both_later m n = grind (arith, nat_tests)

-- a table's map with another value for one partition
one_put : (before after : BTreeMap ℕ (List ℕ)) (part : ℕ) (w : Option (List ℕ))
    → ((q : ℕ) → get nat_cmp after q ≡ cond (is_at (nat_cmp part) q) w (get nat_cmp before q)) → (p : ℕ)
    → option_map encode_lower (get nat_cmp after p) ≡ (if part == p then option_map encode_lower w else option_map encode_lower (get nat_cmp before p))
one_put before after part w put p =
    ap (option_map encode_lower) (put p) ∙ text_over (is_at (nat_cmp part) p) w (get nat_cmp before p)
    ∙ ap (λ b. if b then option_map encode_lower w else option_map encode_lower (get nat_cmp before p)) (same_number part p)

-- the maps of tables with another value for one partition
pub kept_put : (tables : List (BTreeMap ℕ (List ℕ))) (table part : ℕ) (before after : BTreeMap ℕ (List ℕ)) (w : Option (List ℕ))
    → slice_get tables table ≡ Some before
    → ((q : ℕ) → get nat_cmp after q ≡ cond (is_at (nat_cmp part) q) w (get nat_cmp before q)) → (t p : ℕ)
    → option_map encode_lower (option_and_then (λ digests. get nat_cmp digests p) (slice_get (slice_set tables table after) t))
    ≡ (if (table == t) && (part == p) then option_map encode_lower w else option_map encode_lower (option_and_then (λ digests. get nat_cmp digests p) (slice_get tables t)))
kept_put [] table part before after w there put t p = absurd (cc)
kept_put (m ∷ ms) zero part before after w there put zero p =
    one_put before after part w put p ∙ ap (λ (o : Option (BTreeMap ℕ (List ℕ))). if part == p then option_map encode_lower w else option_map encode_lower (option_and_then (λ digests. get nat_cmp digests p) o)) (sym there)
kept_put (m ∷ ms) zero part before after w there put (suc t) p = rw (first_of_others t) refl
kept_put (m ∷ ms) (suc k) part before after w there put zero p = rw (other_of_first k) refl
kept_put (m ∷ ms) (suc k) part before after w there put (suc t) p = rw (both_later k t) (kept_put ms k part before after w there put t p)

-- where nothing is kept
pub none_kept : (tables : List TableShape) (db : Database) (kept : KeptDigests) → ((table part : ℕ) → kept_at kept table part ≡ None) → AreKept tables db kept
none_kept tables db kept none = record {
  within = λ t p d h. let clash : None ≡ Some d = sym (none t p) ∙ h in absurd (cc);
  digests = λ t p d h. let clash : None ≡ Some d = sym (none t p) ∙ h in absurd (cc);
}
