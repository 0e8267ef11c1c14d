-- Clients that have submitted their logs.
use Rattle.std.proofs.Common.{◌≡◌, ℕ, zero, suc, ◌+◌, ◌<◌, ◌≤◌, Bool, true, false, cond, eqb, List, [], ◌∷◌, ◌++◌, length, drop, slice_index_or, refl, sym, ap, ◌∙◌, subst, inl, inr, ⊎_elim, append_assoc, ◌≢◌, arith}
use Rattle.std.proofs.lemmas.Bool.{cases_lt, eq-eqb, ne_eqb}
use Rattle.std.proofs.lemmas.Bool.Decides.{eqb_tells}
use Rattle.std.proofs.lemmas.List.{append-nil}
use Rattle.std.proofs.lemmas.List.Elements.{filter-append}
use Rattle.std.specs.List.{AllByRecursion}
use Rattle.std.specs.Vec.Iter.{into_iter_items}
use Rattle.intake.specs.declared.intake.Intake.{Intake}
use Rattle.intake.specs.declared.passes.ClientPass.{ClientPass}
use Rattle.intake.specs.declared.view.History.{History}
use Rattle.intake.specs.Histories.{HasAll, from_client, history, no_history, numbered, spare_for}
use Rattle.intake.specs.Rule.{HasNoStranger}
use Rattle.intake.specs.Passes.{IsNewClient, AreNewClients, own_history, histories_of, client_of, sent_by}
use Rattle.example_serving.specs.declared.call.ClientCall.{ClientCall}
use Rattle.example_serving.specs.declared.client.Client.{Client}
use Rattle.example_serving.specs.Calls.{CallItem}
use Rattle.example_serving.specs.Logs.{ClientLog, histories_from}
use Rattle.example_serving.specs.Clients.{IsAtItsLog, AreAtTheirLogs, HasSubmitted, HaveSubmitted}
use Rattle.example_serving.specs.Steps.{histories_at}

at_drop : {X : Type 0} (xs : List X) (k : ℕ) (x : X) (rest : List X) → drop k xs ≡ x ∷ rest → (k < length xs) × (slice_index_or xs k x ≡ x) × (drop (suc k) xs ≡ rest)
at_drop [] zero x rest e = absurd (cc)
at_drop [] (suc k) x rest e = absurd (cc)
at_drop (y ∷ ys) zero x rest e = (omega arith, cc, cc)
at_drop (y ∷ ys) (suc k) x rest e = let t = at_drop ys k x rest e in (omega (arith, t.0), t.1, t.2)

-- the next of a new intake's passes
pub next_client : (intake : Intake ClientCall) (clients done : ℕ) (ps rest : List (ClientPass ClientCall)) (p : ClientPass ClientCall) → AreNewClients intake clients ps → drop done ps ≡ p ∷ rest
    → IsNewClient intake clients (done + 1) p × (drop (suc done) ps ≡ rest)
next_client intake clients done ps rest p new e = let t = at_drop ps done p rest e in (subst (IsNewClient intake clients (done + 1)) t.1 (new done p t.0), t.2)

pub snoc_length : {X : Type 0} (xs : List X) (x : X) → length (xs ++ x ∷ []) ≡ suc (length xs)
snoc_length [] x = refl
snoc_length (y ∷ ys) x = ap suc (snoc_length ys x)

-- one client more
pub at_more : (intake : Intake ClientCall) (clients n : ℕ) (cs : List Client) (logs : List ClientLog) (c : Client) (log : ClientLog) → AreAtTheirLogs intake clients n cs logs → IsAtItsLog intake clients (n + length cs) c log
    → AreAtTheirLogs intake clients n (cs ++ c ∷ []) (logs ++ log ∷ [])
at_more intake clients n [] [] c log h at = (subst (λ (k : ℕ). IsAtItsLog intake clients k c log) (omega arith) at, tt)
at_more intake clients n [] (l ∷ ls) c log h at = absurd h
at_more intake clients n (x ∷ cs) [] c log h at = absurd h
at_more intake clients n (x ∷ cs) (l ∷ ls) c log h at = (h.0, at_more intake clients (n + 1) cs ls c log h.1 (subst (λ (k : ℕ). IsAtItsLog intake clients k c log) (omega arith) at))

-- each client at its place has submitted
pub have_submitted : (olds news : List Client) → length olds ≡ length news → ((i : ℕ) (d : Client) → i < length olds → HasSubmitted (slice_index_or olds i d) (slice_index_or news i d)) → HaveSubmitted olds news
have_submitted [] [] same each = tt
have_submitted [] (new ∷ news) same each = absurd (omega (arith, same))
have_submitted (old ∷ olds) [] same each = absurd (omega (arith, same))
have_submitted (old ∷ olds) (new ∷ news) same each = (each zero old (omega arith), have_submitted olds news (omega (arith, same)) (λ i d less. each (suc i) d (omega (arith, less))))

-- clients that have submitted are of the same intake
pub of_intake : (intake : Intake ClientCall) (clients n : ℕ) (olds news : List Client) (logs : List ClientLog) → AreAtTheirLogs intake clients n olds logs → HaveSubmitted olds news
    → AllByRecursion (λ (c : Client). c.intake.now ≡ intake) news
of_intake intake clients n [] [] logs at h = tt
of_intake intake clients n [] (new ∷ news) logs at h = absurd h
of_intake intake clients n (old ∷ olds) [] logs at h = absurd h
of_intake intake clients n (old ∷ olds) (new ∷ news) [] at h = absurd at
of_intake intake clients n (old ∷ olds) (new ∷ news) (l ∷ ls) at h = (ap (λ i. i.now) h.0.intake ∙ at.0.intake_is, of_intake intake clients (n + 1) olds news ls at.1 h.1)

pub has_both : (items : List CallItem) (hs ks : List (History ClientCall)) → HasAll items hs → HasAll items ks → HasAll items (hs ++ ks)
has_both items [] ks h k = k
has_both items (x ∷ hs) ks h k = (h.0, has_both items hs ks h.1 k)

pub has_each : (items : List CallItem) (hs ks : List (History ClientCall)) → HasAll items (hs ++ ks) → HasAll items hs × HasAll items ks
has_each items [] ks h = (tt, h)
has_each items (x ∷ hs) ks h = let r = has_each items hs ks h.1 in ((h.0, r.0), r.1)

-- all that the clients' passes know is that they have submitted their logs
pub of_logs : (items : List CallItem) (intake : Intake ClientCall) (clients n : ℕ) (olds news : List Client) (logs : List ClientLog) → AreAtTheirLogs intake clients n olds logs → HaveSubmitted olds news
    → HasAll items (histories_at news) → HasAll items (histories_from n logs)
of_logs items intake clients n [] [] [] at h all = tt
of_logs items intake clients n [] [] (l ∷ ls) at h all = absurd at
of_logs items intake clients n [] (new ∷ news) logs at h all = absurd h
of_logs items intake clients n (old ∷ olds) [] logs at h all = absurd h
of_logs items intake clients n (old ∷ olds) (new ∷ news) [] at h all = absurd at
of_logs items intake clients n (old ∷ olds) (new ∷ news) (l ∷ ls) at h all =
    let parts = has_each items (histories_of new.pass) (histories_at news) all in
    let client : client_of new.pass ≡ n = h.0.client ∙ at.0.client_is in
    let sent : sent_by new.pass ≡ l.items = h.0.sent ∙ ap (λ s. s ++ into_iter_items old.log) at.0.sent ∙ at.0.log_is in
    let own : own_history new.pass ≡ history n l.items = λ i. history (client i) (sent i) in
    (subst (λ (x : History ClientCall). from_client x.client items ≡ numbered x.client 0 x.sent) own parts.0.0, of_logs items intake clients (n + 1) olds news ls at.1 h.1 parts.1)

-- the last of them knows of the clients that there are not
pub of_spare : (items : List CallItem) (intake : Intake ClientCall) (clients n : ℕ) (olds news : List Client) (logs : List ClientLog) → AreAtTheirLogs intake clients n olds logs → HaveSubmitted olds news
    → 0 < length logs → n + length logs ≡ clients + 1 → HasAll items (histories_at news) → HasAll items (spare_for clients clients)
of_spare items intake clients n [] news [] at h some last all = absurd (omega (arith, some))
of_spare items intake clients n [] news (l ∷ ls) at h some last all = absurd at
of_spare items intake clients n (old ∷ olds) [] logs at h some last all = absurd h
of_spare items intake clients n (old ∷ olds) (new ∷ news) [] at h some last all = absurd at
of_spare items intake clients n (old ∷ olds) (new ∷ news) (l ∷ []) at h some last all =
    let parts = has_each items (histories_of new.pass) (histories_at news) all in
    let is : n ≡ clients = omega (arith, last) in
    subst (HasAll items) (h.0.spare ∙ at.0.spare ∙ ap (λ k. spare_for clients k) is) parts.0.1
of_spare items intake clients n (old ∷ olds) (new ∷ news) (l ∷ k ∷ ls) at h some last all =
    let parts = has_each items (histories_of new.pass) (histories_at news) all in
    of_spare items intake clients (n + 1) olds news (k ∷ ls) at.1 h.1 (omega arith) (omega (arith, last)) parts.1

-- the histories that a last client has beside its own are those of the numbers after its own, up to 4
none_after : (items : List CallItem) (n c : ℕ) → n < c → c ≤ 4 → HasAll items (drop n no_history) → from_client c items ≡ []
none_after items zero zero less few h = absurd (omega (arith, less))
none_after items zero (suc zero) less few h = h.0
none_after items zero (suc (suc zero)) less few h = h.1.0
none_after items zero (suc (suc (suc zero))) less few h = h.1.1.0
none_after items zero (suc (suc (suc (suc zero)))) less few h = h.1.1.1.0
none_after items zero (suc (suc (suc (suc (suc c))))) less few h = absurd (omega (arith, few))
none_after items (suc zero) zero less few h = absurd (omega (arith, less))
none_after items (suc zero) (suc zero) less few h = absurd (omega (arith, less))
none_after items (suc zero) (suc (suc zero)) less few h = h.0
none_after items (suc zero) (suc (suc (suc zero))) less few h = h.1.0
none_after items (suc zero) (suc (suc (suc (suc zero)))) less few h = h.1.1.0
none_after items (suc zero) (suc (suc (suc (suc (suc c))))) less few h = absurd (omega (arith, few))
none_after items (suc (suc zero)) zero less few h = absurd (omega (arith, less))
none_after items (suc (suc zero)) (suc zero) less few h = absurd (omega (arith, less))
none_after items (suc (suc zero)) (suc (suc zero)) less few h = absurd (omega (arith, less))
none_after items (suc (suc zero)) (suc (suc (suc zero))) less few h = h.0
none_after items (suc (suc zero)) (suc (suc (suc (suc zero)))) less few h = h.1.0
none_after items (suc (suc zero)) (suc (suc (suc (suc (suc c))))) less few h = absurd (omega (arith, few))
none_after items (suc (suc (suc zero))) zero less few h = absurd (omega (arith, less))
none_after items (suc (suc (suc zero))) (suc zero) less few h = absurd (omega (arith, less))
none_after items (suc (suc (suc zero))) (suc (suc zero)) less few h = absurd (omega (arith, less))
none_after items (suc (suc (suc zero))) (suc (suc (suc zero))) less few h = absurd (omega (arith, less))
none_after items (suc (suc (suc zero))) (suc (suc (suc (suc zero)))) less few h = h.0
none_after items (suc (suc (suc zero))) (suc (suc (suc (suc (suc c))))) less few h = absurd (omega (arith, few))
none_after items (suc (suc (suc (suc n)))) c less few h = absurd (omega (arith, less, few))

-- no one else has submitted anything
none_else : (items : List CallItem) (n c : ℕ) → HasNoStranger items → HasAll items (spare_for n n) → n < c → from_client c items ≡ []
none_else items n c strangers spare after =
    let left : HasAll items (drop n no_history) = subst (λ (b : Bool). HasAll items (cond b (drop n no_history) [])) (eq-eqb n n refl) spare in
    ⊎_elim (λ (far : 4 < c). strangers c (inr far)) (λ (near : c ≤ 4). none_after items n c after near left) (cases_lt 4 c)

first_of_own : (x : CallItem) (xs : List CallItem) → from_client x.client (x ∷ xs) ≡ [] → ⊥
first_of_own x xs none = let e : x ∷ from_client x.client xs ≡ [] = sym (rw (eq-eqb x.client x.client refl)) ∙ none in cc

rest_of_none : (c : ℕ) (x : CallItem) (xs : List CallItem) → from_client c (x ∷ xs) ≡ [] → from_client c xs ≡ []
rest_of_none c x xs none = elim (eqb x.client c) as (λ (b : Bool). cond b (x ∷ from_client c xs) (from_client c xs) ≡ [] → from_client c xs ≡ []) [
  | true ↦ λ e. let f : x ∷ from_client c xs ≡ [] = e in cc
  | false ↦ λ e. e
] none

-- so each item is of a client that has a log
pub each_owned : (n : ℕ) (all items : List CallItem) → HasNoStranger all → HasAll all (spare_for n n) → ((c : ℕ) → from_client c all ≡ [] → from_client c items ≡ [])
    → AllByRecursion (λ (x : CallItem). (0 < x.client) × (x.client ≤ n)) items
each_owned n all [] strangers spare within = tt
each_owned n all (x ∷ xs) strangers spare within =
    let low : 0 < x.client = ⊎_elim (λ (t : 0 < x.client). t) (λ (t : x.client ≤ 0). absurd (first_of_own x xs (within x.client (strangers x.client (inl (omega (arith, t))))))) (cases_lt 0 x.client) in
    let high : x.client ≤ n = ⊎_elim (λ (t : n < x.client). absurd (first_of_own x xs (within x.client (none_else all n x.client strangers spare t)))) (λ (t : x.client ≤ n). t) (cases_lt n x.client) in
    ((low, high), each_owned n all xs strangers spare (λ c none. rest_of_none c x xs (within c none)))

-- ---- all calls of the logs, one client after another

abbrev item_of : ℕ → ℕ → ClientCall → CallItem
item_of client number call = record { client = client; number = number; request = call }

abbrev pub all_calls : ℕ → List ClientLog → List CallItem
all_calls n [] = []
all_calls n (l ∷ ls) = numbered n 0 l.items ++ all_calls (n + 1) ls

both_parts : (k : ℕ) (xs ys : List CallItem) → from_client k (xs ++ ys) ≡ from_client k xs ++ from_client k ys
both_parts k xs ys = filter-append (λ (x : CallItem). eqb x.client k) xs ys

own_part : (k m : ℕ) (xs : List ClientCall) → from_client k (numbered k m xs) ≡ numbered k m xs
own_part k m [] = refl
own_part k m (x ∷ xs) =
    let kept : from_client k (numbered k m (x ∷ xs)) ≡ item_of k m x ∷ from_client k (numbered k (m + 1) xs) = rw (eq-eqb k k refl) in
    kept ∙ ap (λ l. item_of k m x ∷ l) (own_part k (m + 1) xs)

other_part : (k j m : ℕ) (xs : List ClientCall) → (j ≡ k → ⊥) → from_client k (numbered j m xs) ≡ []
other_part k j m [] apart = refl
other_part k j m (x ∷ xs) apart =
    let gone : from_client k (numbered j m (x ∷ xs)) ≡ from_client k (numbered j (m + 1) xs) = rw (ne_eqb j k apart) in
    gone ∙ other_part k j (m + 1) xs apart

none_before : (k n : ℕ) (ls : List ClientLog) → k < n → from_client k (all_calls n ls) ≡ []
none_before k n [] less = refl
none_before k n (l ∷ ls) less =
    both_parts k (numbered n 0 l.items) (all_calls (n + 1) ls)
    ∙ ap (λ xs. xs ++ from_client k (all_calls (n + 1) ls)) (other_part k n 0 l.items (λ e. absurd (omega (arith, e, less))))
    ∙ none_before k (n + 1) ls (omega (arith, less))

-- each client's are its log, also after calls of the clients before
all_after : (n : ℕ) (front : List CallItem) (ls : List ClientLog) → ((k : ℕ) → n ≤ k → from_client k front ≡ []) → HasAll (front ++ all_calls n ls) (histories_from n ls)
all_after n front [] none = tt
all_after n front (l ∷ ls) none =
    let here : from_client n (numbered n 0 l.items ++ all_calls (n + 1) ls) ≡ numbered n 0 l.items =
    both_parts n (numbered n 0 l.items) (all_calls (n + 1) ls) ∙ ap (λ xs. xs ++ from_client n (all_calls (n + 1) ls)) (own_part n 0 l.items)
    ∙ ap (λ xs. numbered n 0 l.items ++ xs) (none_before n (n + 1) ls (omega arith)) ∙ append-nil (numbered n 0 l.items) in
    let first : from_client n (front ++ all_calls n (l ∷ ls)) ≡ numbered n 0 l.items =
    both_parts n front (all_calls n (l ∷ ls)) ∙ ap (λ xs. xs ++ from_client n (all_calls n (l ∷ ls))) (none n (omega arith)) ∙ here in
    let more : (k : ℕ) → n + 1 ≤ k → from_client k (front ++ numbered n 0 l.items) ≡ [] =
    λ k most. both_parts k front (numbered n 0 l.items) ∙ ap (λ xs. xs ++ from_client k (numbered n 0 l.items)) (none k (omega (arith, most))) ∙ other_part k n 0 l.items (λ e. absurd (omega (arith, e, most))) in
    (first, subst (λ (xs : List CallItem). HasAll xs (histories_from (n + 1) ls)) (append_assoc front (numbered n 0 l.items) (all_calls (n + 1) ls)) (all_after (n + 1) (front ++ numbered n 0 l.items) ls more))

pub all_of_logs : (ls : List ClientLog) → HasAll (all_calls 1 ls) (histories_from 1 ls)
all_of_logs ls = all_after 1 [] ls (λ k most. refl)

pub each_numbered : (n : ℕ) (ls : List ClientLog) (client : ℕ) → (sent : List ClientCall) × (from_client client (all_calls n ls) ≡ numbered client 0 sent)
each_numbered n [] client = ([], refl)
each_numbered n (l ∷ ls) client =
    ⊎_elim
    (λ (t : (eqb n client ≡ true) × (n ≡ client)).
    let P : ℕ → Type 0 = λ k. (sent : List ClientCall) × (from_client k (all_calls n (l ∷ ls)) ≡ numbered k 0 sent) in
    let here : P n = (
      l.items,
      both_parts n (numbered n 0 l.items) (all_calls (n + 1) ls) ∙ ap (λ xs. xs ++ from_client n (all_calls (n + 1) ls)) (own_part n 0 l.items)
          ∙ ap (λ xs. numbered n 0 l.items ++ xs) (none_before n (n + 1) ls (omega arith)) ∙ append-nil (numbered n 0 l.items),
    ) in
    subst P t.1 here)
    (λ (t : (eqb n client ≡ false) × (n ≢ client)).
    let rest = each_numbered (n + 1) ls client in
    (rest.0, both_parts client (numbered n 0 l.items) (all_calls (n + 1) ls) ∙ ap (λ xs. xs ++ from_client client (all_calls (n + 1) ls)) (other_part client n 0 l.items t.1) ∙ rest.1))
    (eqb_tells n client)

-- each is of a client that has a log
abbrev pub AreOwned : ℕ → List CallItem → Type 0
AreOwned most items = AllByRecursion (λ (x : CallItem). (0 < x.client) × (x.client ≤ most)) items

owned_numbered : (most k m : ℕ) (xs : List ClientCall) (rest : List CallItem) → 0 < k → k ≤ most → AreOwned most rest → AreOwned most (numbered k m xs ++ rest)
owned_numbered most k m [] rest low high h = h
owned_numbered most k m (x ∷ xs) rest low high h = ((low, high), owned_numbered most k (m + 1) xs rest low high h)

pub all_owned : (most n : ℕ) (ls : List ClientLog) → 0 < n → n + length ls ≤ most + 1 → AreOwned most (all_calls n ls)
all_owned most n [] low high = tt
all_owned most n (l ∷ ls) low high = owned_numbered most n 0 l.items (all_calls (n + 1) ls) low (omega (arith, high)) (all_owned most (n + 1) ls (omega arith) (omega (arith, high)))
