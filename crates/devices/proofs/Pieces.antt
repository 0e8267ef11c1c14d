-- Pieces of lines, of the bytes that came.
use Rattle.std.proofs.Common.{◌≡◌, ℕ, ◌+◌, ◌-◌, suc, ◌<◌, ◌≤◌, List, [], ◌∷◌, ◌++◌, append_assoc, append-nil, length, get_or, take, drop, slice_range, Option, None, Some, Bool, true, false, refl, sym, ◌∙◌, ap, subst, arith, length-append, drop-cons, add-one, inl, inr}
use Rattle.std.specs.Io.KnownBytes.{Consumes, Keeps, prepend_known}
use Rattle.std.proofs.KnownBytes.{Consumes-kept, Consumes-trans}
use Rattle.std.proofs.lemmas.Bool.{both_ways, cases_lt}
use Rattle.std.proofs.lemmas.List.{drop-drop, drop-take, get_or-drop, get_or-take, length-drop, length-take, take-append-drop, take-take}
use Rattle.devices.specs.Lines.{has_newline, newline}
use Rattle.devices.specs.Pieces.{LosesPiece, piece_end, TakesPiece}
use Rattle.devices.proofs.Lines.{has_newline-append}

-- ---- parts of a range

front_range : (items : List ℕ) (s e k : ℕ) → s + k ≤ e → take k (slice_range items s e) ≡ slice_range items s (s + k)
front_range items s e k h =
    let d : (s + k) - s ≡ k = omega arith in
    let l : k ≤ e - s = omega arith in
    take-take k (e - s) (drop s items) l ∙ ap (λ n. take n (drop s items)) (sym d)

back_range : (items : List ℕ) (s e k : ℕ) → s + k ≤ e → drop k (slice_range items s e) ≡ slice_range items (s + k) e
back_range items s e k h =
    let d : e - s ≡ k + (e - (s + k)) = omega arith in
    ap (λ n. drop k (take n (drop s items))) d ∙ drop-take k (e - (s + k)) (drop s items) ∙ ap (take (e - (s + k))) (drop-drop k s items)

range_parts : (items : List ℕ) (s e k : ℕ) → s + k ≤ e → slice_range items s e ≡ slice_range items s (s + k) ++ slice_range items (s + k) e
range_parts items s e k h =
    sym (take-append-drop k (slice_range items s e))
    ∙ ap (λ l. l ++ drop k (slice_range items s e)) (front_range items s e k h)
    ∙ ap (λ l. slice_range items s (s + k) ++ l) (back_range items s e k h)

range_first : (items : List ℕ) (s e : ℕ) → s < e → e ≤ length items →
    slice_range items s e ≡ get_or items s 0 ∷ slice_range items (s + 1) e
range_first items s e h k =
    let lt : s < length items = omega arith in
    let d : e - s ≡ suc (e - suc s) = omega arith in
    rw (add-one, d, drop-cons items s 0) refl

length-range : (items : List ℕ) (s e : ℕ) → s ≤ e → e ≤ length items → length (slice_range items s e) ≡ e - s
length-range items s e h k = omega (arith, length-take (e - s) (drop s items), length-drop s items)

at_range : (items : List ℕ) (s e k : ℕ) → s + k < e → get_or (slice_range items s e) k 0 ≡ get_or items (s + k) 0
at_range items s e k h =
    let l : k < e - s = omega arith in
    get_or-take (e - s) (drop s items) k 0 l ∙ get_or-drop s items k 0

-- bytes that came have a newline only where some came
pub came_some : (items : List ℕ) (s e : ℕ) → has_newline (slice_range items s e) ≡ true → s < e
came_some items s e has =
    elim (cases_lt s e) [
      | inl h ↦ h
      | inr h ↦
          let none : e - s ≡ 0 = omega arith in
          let empty : has_newline (slice_range items s e) ≡ false = ap (λ n. has_newline (take n (drop s items))) none in
          absurd (both_ways (has_newline (slice_range items s e)) empty has)
    ]

whole_front : (items : List ℕ) (s e k : ℕ) → s + k ≤ e → has_newline (take k (slice_range items s e)) ≡ false → has_newline (slice_range items s (s + k)) ≡ false
whole_front items s e k h w = ap has_newline (sym (front_range items s e k h)) ∙ w

-- ---- what is taken of a range

pub ended_piece : (items : List ℕ) (s e k : ℕ) (line grown : List ℕ) → s + k < e → e ≤ length items → has_newline (take k (slice_range items s e)) ≡ false →
    (k < length (slice_range items s e) → get_or (slice_range items s e) k 0 ≡ newline) → grown ≡ line ++ slice_range items s (s + k) →
    TakesPiece true (slice_range items s e) (slice_range items (s + k + 1) e) line grown
ended_piece items s e k line grown h in_bounds whole here grown_is =
    let le : s + k ≤ e = omega arith in
    let lt : k < length (slice_range items s e) = omega (arith, length-range items s e (omega arith) in_bounds) in
    let byte : get_or items (s + k) 0 ≡ newline = sym (at_range items s e k h) ∙ here lt in
    record {
      piece = slice_range items s (s + k);
      whole = whole_front items s e k le whole;
      taken = range_parts items s e k le
          ∙ ap (λ l. slice_range items s (s + k) ++ l) (range_first items (s + k) e h in_bounds ∙ ap (λ b. b ∷ slice_range items (s + k + 1) e) byte)
          ∙ sym (append_assoc (slice_range items s (s + k)) (newline ∷ []) (slice_range items (s + k + 1) e));
      after = grown_is;
      all = λ no. cc;
    }

pub open_piece : (items : List ℕ) (s e k : ℕ) (line grown : List ℕ) → s < e → s + k ≡ e → e ≤ length items → has_newline (take k (slice_range items s e)) ≡ false →
    grown ≡ line ++ slice_range items s (s + k) → TakesPiece false (slice_range items s e) (slice_range items (s + k) e) line grown
open_piece items s e k line grown h end in_bounds whole grown_is =
    let le : s + k ≤ e = omega arith in
    let front = whole_front items s e k le whole in
    let same : slice_range items s (s + k) ≡ slice_range items s e = ap (λ n. slice_range items s n) end in
    record {
      piece = slice_range items s (s + k);
      whole = front;
      taken = range_parts items s e k le ∙ ap (λ l. l ++ slice_range items (s + k) e) (sym (append-nil (slice_range items s (s + k))));
      after = grown_is;
      all = λ _. (ap has_newline (sym same) ∙ front, omega (arith, length-range items s (s + k) (omega arith) (omega arith)));
    }

pub lost_piece : (items : List ℕ) (s e k : ℕ) → s + k ≤ e → has_newline (take k (slice_range items s e)) ≡ false → 0 < length (slice_range items s (s + k)) →
    LosesPiece (slice_range items s e) (slice_range items (s + k) e)
lost_piece items s e k h whole some = record {
  piece = slice_range items s (s + k);
  whole = whole_front items s e k h whole;
  taken = range_parts items s e k h;
  some = some;
}

-- ---- pieces after one another

-- what the answer says of the end
pub piece_as : (ends now : Bool) (old new line grown : List ℕ) → ends ≡ now → TakesPiece ends old new line grown → TakesPiece now old new line grown
piece_as ends now old new line grown e t =
    let P : Bool → Type 0 = λ b. TakesPiece b old new line grown in
    subst P e t

came_taken : (left : Option (List ℕ)) (old new taken : List ℕ) → old ≡ taken ++ new → Consumes (prepend_known old left) (prepend_known new left) taken
came_taken None old new taken e = tt
came_taken (Some rest) old new taken e = ap (λ l. l ++ rest) e ∙ append_assoc taken new rest

-- what was taken before, and what is taken of the bytes that came
pub more_taken : (a m left now : Option (List ℕ)) (old new line taken : List ℕ) → Consumes a m line → Keeps m (prepend_known old left) → now ≡ left → old ≡ taken ++ new →
    Consumes a (prepend_known new now) (line ++ taken)
more_taken a m left now old new line taken first kept same e =
    let P : Option (List ℕ) → Type 0 = λ rest. Consumes a (prepend_known new rest) (line ++ taken) in
    subst P (sym same) (Consumes-trans a (prepend_known old left) (prepend_known new left) line taken
    (Consumes-kept a m (prepend_known old left) line first kept) (came_taken left old new taken e))

pub grown_taken : (ends : Bool) (a m left now : Option (List ℕ)) (old new line grown : List ℕ) → Consumes a m line → Keeps m (prepend_known old left) → now ≡ left →
    TakesPiece ends old new line grown → Consumes a (prepend_known new now) (grown ++ piece_end ends)
grown_taken ends a m left now old new line grown first kept same t =
    let P : List ℕ → Type 0 = λ l. Consumes a (prepend_known new now) l in
    let e : line ++ (t.piece ++ piece_end ends) ≡ grown ++ piece_end ends = sym (append_assoc line t.piece (piece_end ends)) ∙ ap (λ l. l ++ piece_end ends) (sym t.after) in
    subst P e (more_taken a m left now old new line (t.piece ++ piece_end ends) first kept same t.taken)

pub grown_whole : (ends : Bool) (old new line grown : List ℕ) → has_newline line ≡ false → TakesPiece ends old new line grown → has_newline grown ≡ false
grown_whole ends old new line grown h t = ap has_newline t.after ∙ has_newline-append line t.piece h t.whole

pub grown_longer : (old new line grown : List ℕ) → TakesPiece false old new line grown → length line < length grown
grown_longer old new line grown t = omega (arith, (t.all refl).1, length-append line t.piece, ap length t.after)
