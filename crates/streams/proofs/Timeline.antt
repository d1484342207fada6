-- The byte model over parts of a timeline, and a ledger along it.
use mathlib.Core.Path.{◌≡◌, refl, sym, ap, ◌∙◌}
use Prim.Native.Nat.{ℕ}
use native.Mathlib.Omega.{arith}
use mathlib.Core.List.{List, [], ◌∷◌, ◌++◌, map, flatten, append_assoc, append-nil}
use mathlib.Core.Bool.{true}
use lib.ListN.{length, take, length-append}
use lib.Dec.{ltb}
use borrow.Author.Tests.{lt-ltb}
use Rattle.lists.specs.Lists.{every}
use Rattle.streams.specs.Model.{quiet, answered, Receiver, Item, byte, event, bytes, bytes_in, Ended, ended_by, feed_all, unfinished}
use Rattle.streams.specs.Calls.{Step, reading, happening, read_call, taken_of, of_bytes}
use Rattle.streams.specs.Claim.{Lawful}
use Rattle.streams.specs.Fold.{AllAlong, Folds}
use Rattle.lists.proofs.Cases.{by-test}
use Rattle.lists.proofs.Every.{every-nil}
use Rattle.streams.proofs.Basics.{by-fed, every-cons, every-both, every_append, every_take, fed-none, fed-quiet, fed-answered, fed-event}

pub bytes_in-bytes : {E : Type 0} (xs : List ℕ) (rest : List (Item E)) → bytes_in (bytes xs ++ rest) ≡ xs ++ bytes_in rest
unfolding bytes_in
bytes_in-bytes [] rest = refl
bytes_in-bytes (x ∷ xs) rest = ap (x ∷◌) (bytes_in-bytes xs rest)

pub only-bytes : (E : Type 0) (xs : List ℕ) → bytes_in (bytes {E = E} xs) ≡ xs
unfolding bytes_in
only-bytes E [] = refl
only-bytes E (x ∷ xs) = ap (x ∷◌) (only-bytes E xs)

module _ {S A E : Type 0} (R : Receiver S A E) where
  left-quiet : (s t : S) (u : List ℕ) (b : ℕ) (rest : List (Item E)) → R.feed s b ≡ quiet t
      → unfinished R s u (byte b ∷ rest) ≡ unfinished R t (u ++ (b ∷ [])) rest
  unfolding unfinished
  left-quiet s t u b rest h = rw (h, unfinished)

  left-answered : (s t : S) (u : List ℕ) (b : ℕ) (rest : List (Item E)) (a : A) (r : List ℕ) → R.feed s b ≡ answered a r t
      → unfinished R s u (byte b ∷ rest) ≡ unfinished R t [] rest
  unfolding unfinished
  left-answered s t u b rest a r h = rw (h, unfinished)

  -- One part of a timeline after another
  pub feed_all-append : (s : S) (u : List ℕ) (xs ys : List (Item E))
      → feed_all R s u (xs ++ ys) ≡ (let r = feed_all R s u xs in
      let q = feed_all R r.state (unfinished R s u xs) ys in
      record { ended = r.ended ++ q.ended; state = q.state })
  unfolding feed_all unfinished
  feed_all-append s u [] ys = refl
  feed_all-append s u (byte b ∷ xs) ys =
      by-fed (R.feed s b)
      (λ t h.
      rw (fed-quiet R s t u b (xs ++ ys) h, fed-quiet R s t u b xs h, left-quiet s t u b xs h) (feed_all-append t (u ++ (b ∷ [])) xs ys))
      (λ a r t h.
      rw (fed-answered R s t u b (xs ++ ys) a r h, fed-answered R s t u b xs a r h, left-answered s t u b xs a r h, feed_all-append t [] xs ys))
  feed_all-append s u (event e ∷ xs) ys = feed_all-append (R.act e s) u xs ys

  -- The messages that ended and the bytes after them are the bytes unfinished at the start and those fed
  pub messages-joined : (s : S) (u : List ℕ) (items : List (Item E))
      → flatten (map (λ (e : Ended A). e.message) (feed_all R s u items).ended) ++ unfinished R s u items ≡ u ++ bytes_in items
  unfolding feed_all unfinished bytes_in flatten
  messages-joined s u [] = sym (append-nil u)
  messages-joined s u (byte b ∷ rest) =
      by-fed (R.feed s b)
      (λ t h.
      rw (fed-quiet R s t u b rest h, left-quiet s t u b rest h)
      (messages-joined t (u ++ (b ∷ [])) rest ∙ append_assoc u (b ∷ []) (bytes_in rest)))
      (λ a r t h.
      rw (fed-answered R s t u b rest a r h, left-answered s t u b rest a r h, append_assoc (u ++ (b ∷ [])), messages-joined t [] rest)
      (append_assoc u (b ∷ []) (bytes_in rest)))
  messages-joined s u (event e ∷ rest) = messages-joined (R.act e s) u rest

  pub messages-nonempty : (s : S) (u : List ℕ) (items : List (Item E))
      → every (λ (e : Ended A). ltb 0 (length e.message)) (feed_all R s u items).ended ≡ true
  messages-nonempty s u [] = rw (fed-none R s u) (every-nil (λ (e : Ended A). ltb 0 (length e.message)))
  messages-nonempty s u (byte b ∷ rest) =
      by-fed (R.feed s b)
      (λ t h. rw (fed-quiet R s t u b rest h) (messages-nonempty t (u ++ (b ∷ [])) rest))
      (λ a r t h.
      rw (fed-answered R s t u b rest a r h)
      (every-both (λ (e : Ended A). ltb 0 (length e.message)) (ended_by u b a r) (feed_all R t [] rest).ended
      (lt-ltb 0 (length (u ++ (b ∷ []))) (omega (arith, length-append u (b ∷ [])))) (messages-nonempty t [] rest)))
  messages-nonempty s u (event e ∷ rest) = rw (fed-event R s u e rest) (messages-nonempty (R.act e s) u rest)

  module _ {Good : S → Type 0} (law : Lawful R Good) where
    -- A closed session answers no more
    pub closed-no-answer : (s : S) (u : List ℕ) (items : List (Item E)) → R.closed s ≡ true → (feed_all R s u items).ended ≡ []
    closed-no-answer s u [] h = rw (fed-none R s u)
    closed-no-answer s u (byte b ∷ rest) h = rw (fed-quiet R s s u b rest (law.closed-ignores s b h)) (closed-no-answer s (u ++ (b ∷ [])) rest h)
    closed-no-answer s u (event e ∷ rest) h = rw (fed-event R s u e rest) (closed-no-answer (R.act e s) u rest (law.act-closed e s ∙ h))

    -- The bytes taken are bytes
    pub taken-bytes : (s : S) (steps : List (Step E)) → every (of_bytes R) steps ≡ true → every R.is_byte (bytes_in (taken_of R s steps)) ≡ true
    unfolding taken_of bytes_in
    taken-bytes s [] q = every-nil R.is_byte
    taken-bytes s (reading p room ∷ steps) q =
        let d = every-cons (of_bytes R) (reading p room) steps q in
        let c = read_call R s p room in
        rw (bytes_in-bytes (take c.taken p) (taken_of R c.state steps))
        (every_append R.is_byte (take c.taken p) (bytes_in (taken_of R c.state steps)) (every_take R.is_byte c.taken p d.0)
        (taken-bytes c.state steps d.1))
    taken-bytes s (happening e ∷ steps) q = taken-bytes (R.act e s) steps (every-cons (of_bytes R) (happening e) steps q).1

    module _ {L : Type 0} (post : L → Ended A → L) {P : L → L → Ended A → Type 0} {I : S → List ℕ → L → Type 0} (fold : Folds post R Good P I) where
      pub folded : (s : S) (u : List ℕ) (l : L) (items : List (Item E)) → Good s → every R.is_byte (bytes_in items) ≡ true → I s u l
          → AllAlong post P l (feed_all R s u items).ended
      unfolding AllAlong bytes_in
      folded s u l [] g q i = rw (fed-none R s u) tt
      folded s u l (byte b ∷ rest) g q i =
          let d = every-cons R.is_byte b (bytes_in rest) q in
          by-test (R.closed s)
          (λ c. rw (closed-no-answer s u (byte b ∷ rest) c) tt)
          (λ c.
          let n = law.good-feed s b g d.0 in
          by-fed (R.feed s b)
          (λ t h. rw (fed-quiet R s t u b rest h) (folded t (u ++ (b ∷ [])) l rest (rw h at n) d.1 (fold.at-quiet s t u l b g c d.0 h i)))
          (λ a r t h.
          let w = fold.at-answer s t u l b a r g c d.0 h i in
          rw (fed-answered R s t u b rest a r h)
          (w.0, folded t [] (post l (ended_by u b a r)) rest (rw h at n) d.1 w.1)))
      folded s u l (event e ∷ rest) g q i =
          rw (fed-event R s u e rest)
          (by-test (R.closed s)
          (λ c. rw (closed-no-answer (R.act e s) u rest (law.act-closed e s ∙ c)) tt)
          (λ c. folded (R.act e s) u l rest (law.good-act e s g) q (fold.at-event s u l e g c i)))
