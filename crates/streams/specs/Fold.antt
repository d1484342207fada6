-- A ledger folded over the messages that ended.
use Rattle.std.specs.Prelude.{ℕ, ◌≡◌, List, [], ◌∷◌, ◌++◌, true, false}
use Rattle.streams.specs.Model.{quiet, answered, Receiver, Ended, ended_by}

module _ {A L : Type 0} (post : L → Ended A → L) where
  -- P holds of each message, with the ledger before it and after it
  unfoldable pub AllAlong : (L → L → Ended A → Type 0) → L → List (Ended A) → Type 0
  AllAlong P l [] = Unit {0}
  AllAlong P l (e ∷ es) = P l (post l e) e × AllAlong P (post l e) es

  -- I relates the model's state, the bytes since the last answer and the ledger. Every step on an open session keeps it,
  -- and an answer gives P besides
  pub record Folds {S E : Type 0} (R : Receiver S A E) (Good : S → Type 0) (P : L → L → Ended A → Type 0) (I : S → List ℕ → L → Type 0) : Type 0 where
    pub at-quiet : (s t : S) (u : List ℕ) (l : L) (b : ℕ) → Good s → R.closed s ≡ false → R.is_byte b ≡ true → R.feed s b ≡ quiet t
        → I s u l → I t (u ++ (b ∷ [])) l
    pub at-answer : (s t : S) (u : List ℕ) (l : L) (b : ℕ) (a : A) (r : List ℕ) → Good s → R.closed s ≡ false → R.is_byte b ≡ true
        → R.feed s b ≡ answered a r t → I s u l → P l (post l (ended_by u b a r)) (ended_by u b a r) × I t [] (post l (ended_by u b a r))
    pub at-event : (s : S) (u : List ℕ) (l : L) (e : E) → Good s → R.closed s ≡ false → I s u l → I (R.act e s) u l
