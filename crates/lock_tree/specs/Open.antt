-- Of the code: invariants and steps; no promise rests on these words.
-- Transactions that are ready and not marked, and the place of a number among others.
use Rattle.std.specs.Prelude.{◌<◌, ⊤, ℕ, ◌+◌, Bool, ◌&&◌, not, nat_lt, ◌==◌, if◌then◌else◌, List, [], ◌∷◌}
use Rattle.lock_tree.specs.Entered.{Enqueued}

abbrev pub is_open : Enqueued → Bool
is_open e = not e.marked && e.ready

-- the numbers of those that are ready and not marked
abbrev pub open_of : List Enqueued → List ℕ
open_of [] = []
open_of (e ∷ es) = if is_open e then e.no ∷ open_of es else open_of es

-- how many numbers are less, where numbers rise
abbrev pub places_before : ℕ → List ℕ → ℕ
places_before number [] = 0
places_before number (x ∷ xs) = if nat_lt x number then places_before number xs + 1 else 0

abbrev pub front_with : ℕ → Bool → ℕ → List ℕ → List ℕ
front_with number there x xs =
    if x == number then (if there then x ∷ xs else xs) else (if there then number ∷ x ∷ xs else x ∷ xs)

-- rising numbers with one more, or without it
abbrev pub placed : ℕ → Bool → List ℕ → List ℕ
placed number there [] = if there then number ∷ [] else []
placed number there (x ∷ xs) = if nat_lt x number then x ∷ placed number there xs else front_with number there x xs

-- each number is greater
abbrev pub AllOver : ℕ → List ℕ → Type 0
AllOver number [] = ⊤
AllOver number (x ∷ xs) = (number < x) × AllOver number xs

abbrev pub AreRising : List ℕ → Type 0
AreRising [] = ⊤
AreRising (x ∷ xs) = AllOver x xs × AreRising xs
