-- Replies to requests that were carried.
use Rattle.std.proofs.Common.{◌≡◌, ℕ, suc, ◌+◌, ◌<◌, ◌≤◌, List, [], ◌∷◌, ◌++◌, length, drop, get_or, map, take, Some, Ok, refl, sym, ap, ◌∙◌, append_assoc, arith}
use Rattle.std.proofs.lemmas.List.{drop_more, take_more, map-append, length-map, length-append}
use Rattle.sequencer.specs.Attempts.{Attempt, again, own, attempts_of}
use Rattle.sequencer.specs.Batches.{RequestItem}
use Rattle.sequencer.specs.declared.attempts.Carried.{Carried}
use Rattle.engine.specs.declared.replies.Reply.{Reply}
use Rattle.engine.specs.Replies.{Sent, reply_of, sent_of, sent_from}
use Rattle.example_serving.specs.Serving.{Said, said_again}
use Rattle.example_serving.specs.Steps.{said_by}

-- what is carried comes first, and the rest comes after it
place_is : (k : ℕ) (replies : List Reply) (reply : Reply) (rest : List Reply) → k < length replies → reply ∷ rest ≡ drop k replies → get_or replies k reply ≡ reply
place_is k replies reply rest within is =
    let there : reply ∷ rest ≡ get_or replies k reply ∷ drop (k + 1) replies = is ∙ drop_more replies k reply within in
    cc

pub dropped_more : (k : ℕ) (replies : List Reply) (reply : Reply) (rest : List Reply) → k < length replies → reply ∷ rest ≡ drop k replies → rest ≡ drop (k + 1) replies
dropped_more k replies reply rest within is =
    let there : reply ∷ rest ≡ get_or replies k reply ∷ drop (k + 1) replies = is ∙ drop_more replies k reply within in
    cc

-- one more was said
pub said_more : (k : ℕ) (replies : List Reply) (reply : Reply) (rest : List Reply) (before told : List Said) → k < length replies → reply ∷ rest ≡ drop k replies → told ≡ before ++ map said_by (take k replies)
    → told ++ said_by reply ∷ [] ≡ before ++ map said_by (take (k + 1) replies)
said_more k replies reply rest before told within is so_far =
    let taken : take (k + 1) replies ≡ take k replies ++ reply ∷ [] = take_more replies k reply within ∙ ap (λ r. take k replies ++ r ∷ []) (place_is k replies reply rest within is) in
    ap (λ l. l ++ said_by reply ∷ []) so_far ∙ append_assoc before (map said_by (take k replies)) (said_by reply ∷ [])
    ∙ ap (λ l. before ++ l) (sym (ap (map said_by) taken ∙ map-append said_by (take k replies) (reply ∷ [])))

-- the first replies are for those whose requests were carried
pub again_said : (carried : List Carried) (own_ones : List Attempt) (number : ℕ) (replies : List Reply) → map sent_of replies ≡ sent_from number (map again carried ++ own_ones)
    → map said_by (take (length carried) replies) ≡ said_again carried (map reply_of replies)
again_said [] own_ones number replies same = refl
again_said (one ∷ others) own_ones number [] same = absurd (cc)
again_said (one ∷ others) own_ones number (reply ∷ replies) same =
    let first : Sent = record { transaction = number; client = one.client; number = one.number; of = Some one.first } in
    let cut : sent_of reply ∷ map sent_of replies ≡ first ∷ sent_from (number + 1) (map again others ++ own_ones) = same in
    let here : sent_of reply ≡ first = cc in
    let rest : map sent_of replies ≡ sent_from (number + 1) (map again others ++ own_ones) = cc in
    λ i. record { client = (here i).client; number = (here i).number; answer = Ok (reply_of reply) } ∷ again_said others own_ones (number + 1) replies rest i

sent_count : (number : ℕ) (attempts : List Attempt) → length (sent_from number attempts) ≡ length attempts
sent_count number [] = refl
sent_count number (attempt ∷ attempts) = ap suc (sent_count (number + 1) attempts)

-- there are as many replies as attempts
reply_count : (attempts : List Attempt) (number : ℕ) (replies : List Reply) → map sent_of replies ≡ sent_from number attempts → length replies ≡ length attempts
reply_count attempts number replies same = sym (length-map replies sent_of) ∙ ap length same ∙ sent_count number attempts

-- ... and so no fewer than are carried
pub enough_said : (count : ℕ) (carried : List Carried) (items : List RequestItem) (number : ℕ) (replies : List Reply) → count ≡ length carried
    → map sent_of replies ≡ sent_from number (attempts_of carried items) → count ≤ length replies
enough_said count carried items number replies is same =
    let all : length replies ≡ length (map again carried ++ map own items) = reply_count (attempts_of carried items) number replies same in
    let parts : length (map again carried ++ map own items) ≡ length (map again carried) + length (map own items) = length-append (map again carried) (map own items) in
    let first : length (map again carried) ≡ length carried = length-map carried again in
    omega (arith, is, all, parts, first)
