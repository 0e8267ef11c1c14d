-- The serial run over all transactions at once.
use Rattle.std.proofs.Common.{◌≡◌, ℕ, suc, ◌+◌, List, [], ◌∷◌, ◌++◌, length, refl, sym, ap, ◌∙◌, append_assoc, append-nil, arith}
use Rattle.std.proofs.lemmas.List.{length-append, length-map, map-append}
use Rattle.values.specs.Database.{Database}
use Rattle.requests.specs.Requests.{Call}
use Rattle.meaning.specs.Entries.{EntryShape, Reply, meaning}
use Rattle.meaning.specs.Serial.{serial_end, serial_replies}
use Rattle.report_text.specs.Report.{Transaction, entries_in, reply_lines, all_transactions}
use Rattle.report_text.specs.Texts.{reply_line}
use Rattle.retries.specs.Standings.{Standing, start_of, attempts_at, transaction_of, transactions_at, transactions_in, replies_at, after_batch, after_batches, in_turn}
use Rattle.retries.proofs.Followed.{in_turn-append}

-- ---- entries one after another

serial_end-append : (xs ys : List EntryShape) (db : Database) → serial_end (xs ++ ys) db ≡ serial_end ys (serial_end xs db)
serial_end-append [] ys db = refl
serial_end-append (x ∷ xs) ys db = serial_end-append xs ys (meaning x db).1

serial_replies-append : (xs ys : List EntryShape) (db : Database) → serial_replies (xs ++ ys) db ≡ serial_replies xs db ++ serial_replies ys (serial_end xs db)
serial_replies-append [] ys db = refl
serial_replies-append (x ∷ xs) ys db = ap (λ rest. (meaning x db).0 ∷ rest) (serial_replies-append xs ys (meaning x db).1)

length-serial_replies : (xs : List EntryShape) (db : Database) → length (serial_replies xs db) ≡ length xs
length-serial_replies [] db = refl
length-serial_replies (x ∷ xs) db = ap suc (length-serial_replies xs (meaning x db).1)

entries_in-append : (ts us : List Transaction) → entries_in (ts ++ us) ≡ entries_in ts ++ entries_in us
entries_in-append ts us = map-append (λ (t : Transaction). t.entry) ts us

-- as many replies as transactions
replied : (ts : List Transaction) (db : Database) → length (serial_replies (entries_in ts) db) ≡ length ts
replied ts db = length-serial_replies (entries_in ts) db ∙ length-map ts (λ (t : Transaction). t.entry)

-- ---- reply lines one after another

reply_lines-append : (n : ℕ) (ts us : List Transaction) (rs qs : List Reply) → length rs ≡ length ts → reply_lines n (ts ++ us) (rs ++ qs) ≡ reply_lines n ts rs ++ reply_lines (n + length ts) us qs
reply_lines-append n [] us [] qs h = ap (λ k. reply_lines k us qs) (none_more n)
  where
    none_more : (k : ℕ) → k ≡ k + 0
    none_more k = omega arith
reply_lines-append n [] us (r ∷ rs) qs h = absurd cc
reply_lines-append n (t ∷ ts) us [] qs h = absurd cc
reply_lines-append n (t ∷ ts) us (r ∷ rs) qs h =
    let rest : reply_lines (n + 1) (ts ++ us) (rs ++ qs) ≡ reply_lines (n + 1) ts rs ++ reply_lines (n + 1 + length ts) us qs = reply_lines-append (n + 1) ts us rs qs (omega (arith, h)) in
    let further : n + 1 + length ts ≡ n + suc (length ts) = omega arith in
    ap (λ more. reply_line n t.of r ++ more) (rest ∙ ap (λ k. reply_lines (n + 1) ts rs ++ reply_lines k us qs) further)
    ∙ sym (append_assoc (reply_line n t.of r) (reply_lines (n + 1) ts rs) (reply_lines (n + suc (length ts)) us qs))

-- ---- batches one after another

all_transactions-append : (xs ys : List (List Transaction)) → all_transactions (xs ++ ys) ≡ all_transactions xs ++ all_transactions ys
all_transactions-append [] ys = refl
all_transactions-append (x ∷ xs) ys = ap (λ rest. x ++ rest) (all_transactions-append xs ys) ∙ sym (append_assoc x (all_transactions xs) (all_transactions ys))

rows_from : (retries : ℕ) (s : Standing) (batches : List (List Call)) → (after_batches retries s batches).rows ≡ serial_end (entries_in (all_transactions (in_turn retries s batches))) s.rows
rows_from retries s [] = refl
rows_from retries s (calls ∷ batches) =
    let ts = transactions_at s calls in
    let us = all_transactions (in_turn retries (after_batch retries s calls) batches) in
    rows_from retries (after_batch retries s calls) batches
    ∙ sym (serial_end-append (entries_in ts) (entries_in us) s.rows)
    ∙ ap (λ (es : List EntryShape). serial_end es s.rows) (sym (entries_in-append ts us))

next_from : (retries : ℕ) (s : Standing) (batches : List (List Call)) → (after_batches retries s batches).next ≡ s.next + length (all_transactions (in_turn retries s batches))
next_from retries s [] = omega arith
next_from retries s (calls ∷ batches) =
    let ts = transactions_at s calls in
    let us = all_transactions (in_turn retries (after_batch retries s calls) batches) in
    let mine : length ts ≡ length (attempts_at s calls) = length-map (attempts_at s calls) (transaction_of s.rows) in
    let long : length (ts ++ us) ≡ length ts + length us = length-append ts us in
    counted _ _ _ _ _ _ (next_from retries (after_batch retries s calls) batches) mine long
  where
    counted : (m n a t u all : ℕ) → m ≡ (n + a) + u → t ≡ a → all ≡ t + u → m ≡ n + all
    counted m n a t u all e f g = omega arith

module _ (retries : ℕ) (db : Database) (batches : List (List Call)) where
  abbrev s : Standing
  s = after_batches retries (start_of db) batches

  abbrev before : List Transaction
  before = transactions_in retries db batches

  pub rows_are : s.rows ≡ serial_end (entries_in before) db
  rows_are = rows_from retries (start_of db) batches

  pub next_is : s.next ≡ length before
  next_is = let e = next_from retries (start_of db) batches in none_before _ _ e
    where
      none_before : (m n : ℕ) → m ≡ 0 + n → m ≡ n
      none_before m n e = omega arith

  module _ (calls : List Call) where
    abbrev after : List Transaction
    after = transactions_in retries db (batches ++ calls ∷ [])

    pub transactions_grown : after ≡ before ++ transactions_at s calls
    transactions_grown =
        ap all_transactions (in_turn-append retries (start_of db) batches (calls ∷ []))
        ∙ all_transactions-append (in_turn retries (start_of db) batches) (transactions_at s calls ∷ [])
        ∙ ap (λ ts. before ++ ts) (append-nil (transactions_at s calls))

    pub replies_grown : serial_replies (entries_in after) db ≡ serial_replies (entries_in before) db ++ replies_at s calls
    replies_grown =
        ap (λ (ts : List Transaction). serial_replies (entries_in ts) db) transactions_grown
        ∙ ap (λ (es : List EntryShape). serial_replies es db) (entries_in-append before (transactions_at s calls))
        ∙ serial_replies-append (entries_in before) (entries_in (transactions_at s calls)) db
        ∙ ap (λ (rows : Database). serial_replies (entries_in before) db ++ serial_replies (entries_in (transactions_at s calls)) rows) (sym rows_are)

    pub lines_grown : reply_lines 0 after (serial_replies (entries_in after) db)
        ≡ reply_lines 0 before (serial_replies (entries_in before) db) ++ reply_lines s.next (transactions_at s calls) (replies_at s calls)
    lines_grown =
        ap (λ (ts : List Transaction). reply_lines 0 ts (serial_replies (entries_in after) db)) transactions_grown
        ∙ ap (λ (rs : List Reply). reply_lines 0 (before ++ transactions_at s calls) rs) replies_grown
        ∙ reply_lines-append 0 before (transactions_at s calls) (serial_replies (entries_in before) db) (replies_at s calls) (replied before db)
        ∙ ap (λ n. reply_lines 0 before (serial_replies (entries_in before) db) ++ reply_lines n (transactions_at s calls) (replies_at s calls)) (numbered (length before) s.next next_is)
      where
        numbered : (m n : ℕ) → n ≡ m → 0 + m ≡ n
        numbered m n e = omega arith
