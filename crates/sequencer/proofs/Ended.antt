-- Attempts that end one after another.
use Rattle.std.proofs.Common.{◌≡◌, ℕ, ◌++◌, List, [], sym, ap, ◌∙◌}
use Rattle.std.proofs.lemmas.List.{append-nil}
use Rattle.meaning.specs.Entries.{Reply}
use Rattle.sequencer.specs.Attempts.{Attempt, left_of}
use Rattle.sequencer.specs.declared.attempts.Carried.{Carried}
use Rattle.sequencer.proofs.Carryings.{none_left}

-- nothing is left yet, and all attempts wait
pub none_ended : (retries n m : ℕ) (attempts waiting : List Attempt) (outcomes : List Reply) (left : List Carried) → left ≡ [] → m ≡ n → waiting ≡ attempts
    → left ++ left_of retries m waiting outcomes ≡ left_of retries n attempts outcomes
none_ended retries n m attempts waiting outcomes left none same all =
    ap (λ xs. xs ++ left_of retries m waiting outcomes) none ∙ ap (λ k. left_of retries k waiting outcomes) same ∙ ap (λ ws. left_of retries n ws outcomes) all

-- no outcome is to come
pub all_ended : (retries n : ℕ) (waiting : List Attempt) (outcomes : List Reply) (left all : List Carried) → outcomes ≡ [] → left ++ left_of retries n waiting outcomes ≡ all → left ≡ all
all_ended retries n waiting outcomes left all none before =
    sym (append-nil left) ∙ ap (λ xs. left ++ xs) (sym (none_left retries n waiting)) ∙ ap (λ os. left ++ left_of retries n waiting os) (sym none) ∙ before
