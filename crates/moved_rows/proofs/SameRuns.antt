-- Runs of batches whose calls differ as values of the code, and have the same entries.
use Rattle.std.proofs.Common.{◌≡◌, ℕ, zero, suc, ◌+◌, Bool, true, false, List, [], ◌∷◌, map, filter, zip, Option, Some, option_map, refl, sym, ap, ap₂, ◌∙◌, subst}
use Rattle.values.specs.declared.value.Value.{Value}
use Rattle.values.specs.Database.{Database}
use Rattle.catalogue.specs.Shapes.{TableShape}
use Rattle.footprint.specs.Declaration.{declared_footprint}
use Rattle.proclang_types.specs.Procedures.{proc_syntax}
use Rattle.proclang_types.specs.Syntax.{FootprintSyntax, ProcSyntax, StmtSyntax, declared_by, found_by_recon}
use Rattle.requests.specs.Requests.{Call}
use Rattle.meaning.specs.Entries.{EntryShape, Footing, Reply, finds}
use Rattle.meaning.specs.Reconnaissance.{found_footprint}
use Rattle.meaning.specs.Serial.{serial_end, serial_replies}
use Rattle.report_text.specs.Report.{Transaction, entries_in}
use Rattle.sequencer.specs.declared.attempts.Carried.{Carried}
use Rattle.sequencer.specs.Attempts.{Attempt, Earlier, Numbered, again, carried_on, first_of, goes_on, is_left, left_of, numbered_from, own, tries_of}
use Rattle.sequencer.specs.Batches.{items_from}
use Rattle.sequencer.specs.Entries.{footing_of, footing_on, prepared}
use Rattle.retries.specs.Standings.{Standing, after_batch, after_batches, attempts_at, closed, closing_within, in_turn, replies_at, transaction_of, transactions_at, while_carried}
use Rattle.moved_rows.specs.GoingOn.{outcomes_from}
use Rattle.moved_rows.proofs.Pairs.{Pairs, map_equal, pairs_append, pairs_filter, pairs_length, pairs_map, pairs_zip}
use Rattle.moved_rows.proofs.SameCalls.{AreSameCall}

-- ---- entries

-- what a call may touch, by its tables, its procedure's body and its values
abbrev footing_by : Database → List TableShape → List StmtSyntax → List Value → FootprintSyntax → Footing
footing_by db tables body args (declared_by entries) = footing_of (declared_footprint tables args entries)
footing_by db tables body args found_by_recon = finds (found_footprint tables body args db)

-- the entry of a call, by its tables, its procedure's syntax and its values
abbrev entry_by : Database → List TableShape → ProcSyntax → List Value → EntryShape
entry_by db tables p args = record { tables = tables; body = p.body; arguments = args; footing = footing_by db tables p.body args p.footprint }

footing_is : (db : Database) (call : Call) (f : FootprintSyntax) → footing_on db call f ≡ footing_by db call.proc.tables (proc_syntax call.proc).body call.args f
footing_is db call (declared_by entries) = refl
footing_is db call found_by_recon = refl

entry_is : (db : Database) (call : Call) → prepared db call ≡ entry_by db call.proc.tables (proc_syntax call.proc) call.args
entry_is db call = λ i. record { tables = call.proc.tables; body = (proc_syntax call.proc).body; arguments = call.args; footing = footing_is db call (proc_syntax call.proc).footprint i }

entry_same : (db : Database) (c d : Call) → AreSameCall c d → prepared db c ≡ prepared db d
entry_same db c d h =
    let same : entry_by db c.proc.tables (proc_syntax c.proc) c.args ≡ entry_by db d.proc.tables (proc_syntax d.proc) d.args =
    λ i. entry_by db (h.proc.tables i) (h.proc.syntax i) (h.args i) in
    entry_is db c ∙ same ∙ sym (entry_is db d)

-- ---- attempts

pub record AreSameCarried (c d : Carried) : Type 0 where
  pub client : c.client ≡ d.client
  pub number : c.number ≡ d.number
  pub request : AreSameCall c.request d.request
  pub first : c.first ≡ d.first
  pub tries : c.tries ≡ d.tries

record AreSameAttempt (a b : Attempt) : Type 0 where
  pub client : a.client ≡ b.client
  pub number : a.number ≡ b.number
  pub request : AreSameCall a.request b.request
  pub before : a.before ≡ b.before

again_same : (c d : Carried) → AreSameCarried c d → AreSameAttempt (again c) (again d)
again_same c d h = record { client = h.client; number = h.number; request = h.request; before = λ i. Some (record { first = h.first i; tries = h.tries i }) }

own_same : (number : ℕ) (xs ys : List Call) → Pairs AreSameCall xs ys → Pairs AreSameAttempt (map own (items_from number xs)) (map own (items_from number ys))
own_same number [] [] h = tt
own_same number [] (y ∷ ys) h = absurd h
own_same number (x ∷ xs) [] h = absurd h
own_same number (x ∷ xs) (y ∷ ys) h = (record { client = refl; number = refl; request = h.0; before = refl }, own_same (number + 1) xs ys h.1)

transaction_same : (db : Database) (a b : Attempt) → AreSameAttempt a b → transaction_of db a ≡ transaction_of db b
transaction_same db a b h = λ i. record { entry = entry_same db a.request b.request h.request i; of = option_map (λ (earlier : Earlier). earlier.first) (h.before i) }

abbrev AreSameNumbered : Numbered → Numbered → Type 0
AreSameNumbered a b = (a.no ≡ b.no) × AreSameAttempt a.attempt b.attempt

numbered_same : (first : ℕ) (xs ys : List Attempt) → Pairs AreSameAttempt xs ys → Pairs AreSameNumbered (numbered_from first xs) (numbered_from first ys)
numbered_same first [] [] h = tt
numbered_same first [] (y ∷ ys) h = absurd h
numbered_same first (x ∷ xs) [] h = absurd h
numbered_same first (x ∷ xs) (y ∷ ys) h = ((refl, h.0), numbered_same (first + 1) xs ys h.1)

abbrev AreSameEnded : Numbered × Reply → Numbered × Reply → Type 0
AreSameEnded a b = AreSameNumbered a.0 b.0 × (a.1 ≡ b.1)

carried_same : (a b : Numbered × Reply) → AreSameEnded a b → AreSameCarried (carried_on a.0) (carried_on b.0)
carried_same a b h = record {
  client = h.0.1.client;
  number = h.0.1.number;
  request = h.0.1.request;
  first = ap₂ first_of h.0.0 h.0.1.before;
  tries = ap (λ (before : Option Earlier). tries_of before + 1) h.0.1.before;
}

left_same : (retries first : ℕ) (xs ys : List Attempt) (replies : List Reply) → Pairs AreSameAttempt xs ys → Pairs AreSameCarried (left_of retries first xs replies) (left_of retries first ys replies)
left_same retries first xs ys replies h =
    let ended = pairs_zip AreSameNumbered (numbered_from first xs) (numbered_from first ys) replies (numbered_same first xs ys h) in
    let left = pairs_filter AreSameEnded (is_left retries) (is_left retries) (λ a b k. ap₂ (goes_on retries) (ap tries_of k.0.1.before) k.1)
    (zip (numbered_from first xs) replies) (zip (numbered_from first ys) replies) ended in
    pairs_map AreSameEnded AreSameCarried (λ e. carried_on e.0) (λ e. carried_on e.0) carried_same
    (filter (is_left retries) (zip (numbered_from first xs) replies)) (filter (is_left retries) (zip (numbered_from first ys) replies)) left

-- ---- batches

abbrev Batches : Type 0
Batches = List (List Call)

abbrev AreSameBatches : Batches → Batches → Type 0
AreSameBatches bs cs = Pairs (Pairs AreSameCall) bs cs

pub record AreSameStanding (s t : Standing) : Type 0 where
  pub next : s.next ≡ t.next
  pub rows : s.rows ≡ t.rows
  pub carried : Pairs AreSameCarried s.carried t.carried

attempts_same : (s t : Standing) (xs ys : List Call) → AreSameStanding s t → Pairs AreSameCall xs ys → Pairs AreSameAttempt (attempts_at s xs) (attempts_at t ys)
attempts_same s t xs ys h k =
    pairs_append AreSameAttempt (map again s.carried) (map own (items_from 0 xs)) (map again t.carried) (map own (items_from 0 ys))
    (pairs_map AreSameCarried AreSameAttempt again again again_same s.carried t.carried h.carried) (own_same 0 xs ys k)

transactions_same : (s t : Standing) (xs ys : List Call) → AreSameStanding s t → Pairs AreSameCall xs ys → transactions_at s xs ≡ transactions_at t ys
transactions_same s t xs ys h k =
    map_equal AreSameAttempt (transaction_of s.rows) (transaction_of s.rows) (transaction_same s.rows) (attempts_at s xs) (attempts_at t ys) (attempts_same s t xs ys h k)
    ∙ ap (λ (db : Database). map (transaction_of db) (attempts_at t ys)) h.rows

replies_same : (s t : Standing) (xs ys : List Call) → AreSameStanding s t → Pairs AreSameCall xs ys → replies_at s xs ≡ replies_at t ys
replies_same s t xs ys h k = ap₂ (λ (ts : List Transaction) (db : Database). serial_replies (entries_in ts) db) (transactions_same s t xs ys h k) h.rows

batch_same : (retries : ℕ) (s t : Standing) (xs ys : List Call) → AreSameStanding s t → Pairs AreSameCall xs ys → AreSameStanding (after_batch retries s xs) (after_batch retries t ys)
batch_same retries s t xs ys h k =
    let attempts = attempts_same s t xs ys h k in
    let left = left_of retries s.next (attempts_at s xs) (replies_at s xs) in
    record {
      next = ap₂ (λ (m n : ℕ). m + n) h.next (pairs_length AreSameAttempt (attempts_at s xs) (attempts_at t ys) attempts);
      rows = ap₂ (λ (ts : List Transaction) (db : Database). serial_end (entries_in ts) db) (transactions_same s t xs ys h k) h.rows;
      carried =
          subst (λ (n : ℕ). Pairs AreSameCarried left (left_of retries n (attempts_at t ys) (replies_at t ys))) h.next
          (subst (λ (rs : List Reply). Pairs AreSameCarried left (left_of retries s.next (attempts_at t ys) rs)) (replies_same s t xs ys h k)
          (left_same retries s.next (attempts_at s xs) (attempts_at t ys) (replies_at s xs) attempts));
    }

pub after_same : (retries : ℕ) (s t : Standing) (bs cs : Batches) → AreSameStanding s t → AreSameBatches bs cs → AreSameStanding (after_batches retries s bs) (after_batches retries t cs)
after_same retries s t [] [] h k = h
after_same retries s t [] (c ∷ cs) h k = absurd k
after_same retries s t (b ∷ bs) [] h k = absurd k
after_same retries s t (b ∷ bs) (c ∷ cs) h k = after_same retries (after_batch retries s b) (after_batch retries t c) bs cs (batch_same retries s t b c h k.0) k.1

pub turns_same : (retries : ℕ) (s t : Standing) (bs cs : Batches) → AreSameStanding s t → AreSameBatches bs cs → in_turn retries s bs ≡ in_turn retries t cs
turns_same retries s t [] [] h k = refl
turns_same retries s t [] (c ∷ cs) h k = absurd k
turns_same retries s t (b ∷ bs) [] h k = absurd k
turns_same retries s t (b ∷ bs) (c ∷ cs) h k =
    ap₂ (λ (ts : List Transaction) (rest : List (List Transaction)). ts ∷ rest) (transactions_same s t b c h k.0)
    (turns_same retries (after_batch retries s b) (after_batch retries t c) bs cs (batch_same retries s t b c h k.0) k.1)

pub outcomes_same : (retries : ℕ) (s t : Standing) (bs cs : Batches) → AreSameStanding s t → AreSameBatches bs cs → outcomes_from retries s bs ≡ outcomes_from retries t cs
outcomes_same retries s t [] [] h k = refl
outcomes_same retries s t [] (c ∷ cs) h k = absurd k
outcomes_same retries s t (b ∷ bs) [] h k = absurd k
outcomes_same retries s t (b ∷ bs) (c ∷ cs) h k =
    let after = batch_same retries s t b c h k.0 in
    let one : ◌≡◌ {A = List Reply × Database} (replies_at s b, (after_batch retries s b).rows) (replies_at t c, (after_batch retries t c).rows) =
    ap₂ (λ (rs : List Reply) (db : Database). (rs, db)) (replies_same s t b c h k.0) after.rows in
    ap₂ (λ (x : List Reply × Database) (rest : List (List Reply × Database)). x ∷ rest) one (outcomes_same retries (after_batch retries s b) (after_batch retries t c) bs cs after k.1)

-- ---- the batches that close a log

while_same : (xs ys : List Carried) (bs cs : Batches) → Pairs AreSameCarried xs ys → AreSameBatches bs cs → AreSameBatches (while_carried xs bs) (while_carried ys cs)
while_same [] [] bs cs h k = tt
while_same [] (y ∷ ys) bs cs h k = absurd h
while_same (x ∷ xs) [] bs cs h k = absurd h
while_same (x ∷ xs) (y ∷ ys) bs cs h k = (tt, k)

closing_same : (retries most : ℕ) (s t : Standing) → AreSameStanding s t → AreSameBatches (closing_within retries most s) (closing_within retries most t)
closing_same retries zero s t h = tt
closing_same retries (suc most) s t h =
    while_same s.carried t.carried (closing_within retries most (after_batch retries s [])) (closing_within retries most (after_batch retries t [])) h.carried
    (closing_same retries most (after_batch retries s []) (after_batch retries t []) (batch_same retries s t [] [] h tt))

pub closed_same : (retries : ℕ) (faulty : Bool) (s t : Standing) (bs cs : Batches) → AreSameStanding s t → AreSameBatches bs cs → AreSameBatches (closed retries faulty s bs) (closed retries faulty t cs)
closed_same retries true s t [] [] h k = tt
closed_same retries false s t [] [] h k = closing_same retries retries s t h
closed_same retries faulty s t [] (c ∷ cs) h k = absurd k
closed_same retries faulty s t (b ∷ bs) [] h k = absurd k
closed_same retries faulty s t (b ∷ bs) (c ∷ cs) h k = (k.0, closed_same retries faulty (after_batch retries s b) (after_batch retries t c) bs cs (batch_same retries s t b c h k.0) k.1)
