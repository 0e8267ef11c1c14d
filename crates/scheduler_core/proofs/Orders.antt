-- Transactions of any kind that settle in another order than that of their log. Each covers names and writes some of them, and
-- changes no other name; two of which one writes what the other covers are in conflict.
use Rattle.std.proofs.Common.{◌≡◌, ◌≢◌, ℕ, zero, suc, ◌+◌, ◌-◌, ◌<◌, ◌≤◌, inl, inr, Bool, true, false, refl, sym, ◌∙◌, ap, subst, arith, add-zero, add-suc}
use Rattle.scheduler_core.proofs.Lists.{cases, split, true_false}

module _ {Db Name Cell : Type 0} (look : Db → Name → Cell) (covers writes : ℕ → Name → Bool) (InConflict : ℕ → ℕ → Type 0) (state : ℕ → Db) where
  -- what is known of a log, whose serial run has these states
  pub record IsLog : Type 0 where
    pub covered : (k : ℕ) (x : Name) → writes k x ≡ true → covers k x ≡ true
    pub others : (k : ℕ) (x : Name) → writes k x ≡ false → look (state (suc k)) x ≡ look (state k) x
    pub first_writes : (i k : ℕ) (x : Name) → writes i x ≡ true → covers k x ≡ true → InConflict i k
    pub second_writes : (i k : ℕ) (x : Name) → covers i x ≡ true → writes k x ≡ true → InConflict i k

  abbrev pub Closed : (ℕ → Bool) → Type 0
  Closed settled = (i j : ℕ) → i < j → settled j ≡ true → InConflict i j → settled i ≡ true

  abbrev pub Free : (ℕ → Bool) → ℕ → Type 0
  Free settled k = (i : ℕ) → i < k → InConflict i k → settled i ≡ true

  abbrev pub Current : (ℕ → Bool) → Db → Type 0
  Current settled cur =
      (x : Name) (k : ℕ) → ((i : ℕ) → i < k → writes i x ≡ true → settled i ≡ true) → ((i : ℕ) → k ≤ i → writes i x ≡ true → settled i ≡ false)
      → look cur x ≡ look (state k) x

  module _ (l : IsLog) where
    -- without a writer of x from k on for d places, x stays
    still : (x : Name) (k d : ℕ) → ((i : ℕ) → k ≤ i → i < k + d → writes i x ≡ false) → look (state (k + d)) x ≡ look (state k) x
    still x k zero none = rw add-zero refl
    still x k (suc d) none = rw add-suc (l.others (k + d) x (none (k + d) (omega arith) (omega arith)) ∙ still x k d (λ i low high. none i low (omega arith)))

    pub still_to : (x : Name) (k n : ℕ) → k ≤ n → ((i : ℕ) → k ≤ i → i < n → writes i x ≡ false) → look (state n) x ≡ look (state k) x
    still_to x k n le none =
        let e : k + (n - k) ≡ n = omega arith in
        subst (λ (w : ℕ). look (state w) x ≡ look (state k) x) e (still x k (n - k) (λ i low high. none i low (omega arith)))

    -- what was not settled when all before it in conflict with it had settled, finds the rows of the serial run
    pub finds : (settled : ℕ → Bool) (cur : Db) → Closed settled → Current settled cur → (k : ℕ) → settled k ≡ false → Free settled k
        → (x : Name) → covers k x ≡ true → look cur x ≡ look (state k) x
    finds settled cur closed current k unsettled free x covered =
        current x k
        (λ i below writes. free i below (l.first_writes i k x writes covered))
        (λ i above writes. elim (cases (settled i)) [
          | inr not ↦ not
          | inl has ↦ elim (split k i) [
            | inl less ↦ absurd (true_false (settled k) (closed k i less has (l.second_writes k i x covered writes)) unsettled)
            | inr rest ↦ elim rest [
              | inl same ↦ absurd (true_false (settled i) has (sym (ap settled same) ∙ unsettled))
              | inr more ↦ absurd (omega arith)
            ]
          ]
        ])

    -- a writer between k and n, if those before n have settled, would be in conflict with k and settled before it
    none_between : (settled : ℕ → Bool) (k n : ℕ) (x : Name) → Closed settled → settled k ≡ false → writes k x ≡ true
        → ((i : ℕ) → i < n → writes i x ≡ true → i ≢ k → settled i ≡ true) → (i : ℕ) → suc k ≤ i → i < n → writes i x ≡ false
    none_between settled k n x closed unsettled writes_k below i more less = elim (cases (writes i x)) [
      | inr not ↦ not
      | inl also ↦ absurd (true_false (settled k) (closed k i (omega arith) (below i less also (λ e. omega arith)) (l.first_writes k i x writes_k (l.covered i x also))) unsettled)
    ]

    -- one more is settled
    pub current_more : (settled later : ℕ → Bool) (cur new : Db) (k : ℕ) → Closed settled → Current settled cur → settled k ≡ false
        → ((x : Name) → writes k x ≡ true → look new x ≡ look (state (suc k)) x)
        → ((x : Name) → writes k x ≡ false → look new x ≡ look cur x)
        → later k ≡ true → ((i : ℕ) → i ≢ k → later i ≡ settled i) → Current later new
    current_more settled later cur new k closed current unsettled written kept now others x n below above = elim (cases (writes k x)) [
      | inr unwritten ↦
          let apart : (i : ℕ) → writes i x ≡ true → later i ≡ settled i = λ i writes_i. others i (λ e. true_false (writes i x) writes_i (ap (λ (w : ℕ). writes w x) e ∙ unwritten)) in
          kept x unwritten ∙ current x n (λ i less writes_i. sym (apart i writes_i) ∙ below i less writes_i) (λ i more writes_i. sym (apart i writes_i) ∙ above i more writes_i)
      | inl writes_k ↦
          let past : k < n = elim (split k n) [
            | inl less ↦ less
            | inr rest ↦ absurd (true_false (later k) now (above k (elim rest [ inl e ↦ omega arith | inr more ↦ omega arith ]) writes_k))
          ] in
          let none = none_between settled k n x closed unsettled writes_k (λ i less writes_i apart. sym (others i apart) ∙ below i less writes_i) in
          written x writes_k ∙ sym (still_to x (suc k) n (omega arith) none)
    ]

    -- at the start none is settled, and at the end all are
    pub current_first : (settled : ℕ → Bool) → ((i : ℕ) → settled i ≡ false) → Current settled (state 0)
    current_first settled none x k below above = sym (still_to x 0 k (omega arith) (λ i low less. elim (cases (writes i x)) [
      | inr not ↦ not
      | inl writes_i ↦ absurd (true_false (settled i) (below i less writes_i) (none i))
    ]))

    pub current_last : (settled : ℕ → Bool) (cur : Db) (n : ℕ) → Current settled cur → ((i : ℕ) → i < n → settled i ≡ true)
        → ((i : ℕ) (x : Name) → n ≤ i → writes i x ≡ false) → (x : Name) → look cur x ≡ look (state n) x
    current_last settled cur n current all none x = current x n (λ i less _. all i less) (λ i more writes_i. absurd (true_false (writes i x) writes_i (none i x more)))
