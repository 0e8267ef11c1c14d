-- Claimed: what contracts promise to a reader rests on these words.
-- Tallies, and lists of them in the order in which they were published.
use Rattle.std.specs.Prelude.{◌≡◌, ℕ, ◌+◌, ◌≤◌, List, [], ◌∷◌, ◌++◌}
use Rattle.progress.specs.declared.tally.Tally.{Tally}

-- the words of a tally, in the order of its parts
abbrev pub words_of : Tally → List ℕ
words_of t = t.settled ∷ t.committed ∷ t.aborted ∷ t.stale ∷ []

-- the first tally of every published list
abbrev pub zero_tally : Tally
zero_tally = record { settled = 0; committed = 0; aborted = 0; stale = 0 }

-- each transaction that is settled has committed, has aborted or is stale
abbrev pub AddsUp : Tally → Type 0
AddsUp t = t.settled ≡ t.committed + t.aborted + t.stale

-- the second tally is at no place below the first
abbrev pub NoneBelow : Tally → Tally → Type 0
NoneBelow s t = (s.settled ≤ t.settled) × (s.committed ≤ t.committed) × (s.aborted ≤ t.aborted) × (s.stale ≤ t.stale)

-- the last tally of a list
abbrev pub latest : List Tally → Tally
latest [] = zero_tally
latest (t ∷ []) = t
latest (t ∷ u ∷ ts) = latest (u ∷ ts)

-- a list begins with another
abbrev pub StartsWith : List Tally → List Tally → Type 0
StartsWith list first = (rest : List Tally) × (list ≡ first ++ rest)
