-- The code of opening: one law for each way to a result.
use Rattle.std.specs.Prelude.{None, Option, Some, unwrap_or}
use Prim.Native.Nat.{ℕ, ◌^◌, ◌≤◌, ◌<◌}
use native.Mathlib.Omega.{arith}
use mathlib.Core.Path.{◌≡◌, sym, ap, ◌∙◌}
use mathlib.Core.Logic.{⊎_elim}
use mathlib.Core.Bool.{true, ◌&&◌}
use mathlib.Core.List.{List, [], ◌++◌}
use lib.ListN.{length, drop}
use lib.Dec.{ltb, leb}
use borrow.Author.Rules.{rules}
use borrow.Author.Tests.{lt-ltb, le-ltb, le-leb, leb-true}
use Rattle.lists.specs.Lists.{front}
use Rattle.lists.proofs.Cases.{by-test, lt-or-le, and_first, and_second, cond-true, cond-false}
use Rattle.handshake.specs.Bytes.{room_with, written_to}
use Rattle.handshake.specs.Handshake.{name_ok, hello_bytes}
use Rattle.handshake.proofs.writing.Putting.{hello-most}
use Rattle.session.specs.declared.Session.{Session}
use Rattle.session.specs.declared.Answer.TheVariants as answer
use Rattle.session.specs.Session.{holding, nothing_sent}
use Rattle.opening.specs.declared.Opened.{Opened}
use Rattle.opening.specs.Opening.{Role, answerer, caller, opening_reply, new_connection, opened, opening_refusal, refuse_opening, Opening, «open», open_room, opened_of}

abbrev more_with : Session → ℕ → Opened
more_with s k = record { session = s; outcome = record { taken = 0; reply_len = k; answer = answer.More } }

-- ---- opening, by its tests

module _ (role : Role) (local remote room : List ℕ) where
  refused_as : (n : ℕ) → «open» role local remote (length room) ≡ refuse_opening n → open_room role local remote room ≡ room
  unfolding open_room front
  refused_as n e = ap (λ (o : Opening). o.reply ++ drop (length o.reply) room) e

  refused_by : (n : ℕ) → opening_refusal local remote (length room) ≡ Some n → «open» role local remote (length room) ≡ refuse_opening n
  unfolding opening_refusal «open»
  refused_by n e =
      let small = ltb (length room) 101 in
      let named = name_ok local && name_ok remote in
      by-test small
      (λ t.
      let f : Some 1 ≡ Some n = sym (cond-true small _ _ t) ∙ e in
      let k : 1 ≡ n = cc in
      cond-true small _ _ t ∙ ap refuse_opening k)
      (λ t.
      by-test named
      (λ u.
      let f : None ≡ Some n = sym (cond-false small _ _ t ∙ cond-true named _ _ u) ∙ e in
      let z : ◌≡◌ {A = ℕ} 0 1 = cc in
      absurd (omega arith))
      (λ u.
      let f : Some 3 ≡ Some n = sym (cond-false small _ _ t ∙ cond-false named _ _ u) ∙ e in
      let k : 3 ≡ n = cc in
      cond-false small _ _ t ∙ cond-false named _ _ u ∙ ap refuse_opening k))

  pub refused_result : (w : Option ℕ) (n : ℕ) (r : Opened) → w ≡ opening_refusal local remote (length room) → w ≡ Some n
      → r ≡ opened_of (refuse_opening n)
      → r ≡ opened_of («open» role local remote (length room))
  refused_result w n r e f g = g ∙ ap opened_of (sym (refused_by n (sym e ∙ f)))

  pub refused_room : (w : Option ℕ) (n : ℕ) → w ≡ opening_refusal local remote (length room) → w ≡ Some n → room ≡ open_room role local remote room
  refused_room w n e f = sym (refused_as n (refused_by n (sym e ∙ f)))

  module _ (w : Option ℕ) (e : w ≡ opening_refusal local remote (length room)) (g : w ≡ None) where
    long : 101 ≤ length room
    unfolding opening_refusal
    long =
        ⊎_elim
        (λ l.
        let f : Some 1 ≡ None = sym (cond-true (ltb (length room) 101) _ _ (lt-ltb (length room) 101 l)) ∙ sym e ∙ g in
        let z : ◌≡◌ {A = ℕ} 0 1 = cc in
        absurd (omega arith))
        (λ l. l)
        (lt-or-le (length room) 101)

    named : (name_ok local && name_ok remote) ≡ true
    unfolding opening_refusal
    named =
        by-test (name_ok local && name_ok remote)
        (λ t. t)
        (λ t.
        let f : Some 3 ≡ None = sym (cond-false (ltb (length room) 101) _ _ (le-ltb (length room) 101 long) ∙ cond-false (name_ok local && name_ok remote) _ _ t) ∙ sym e ∙ g in
        let z : ◌≡◌ {A = ℕ} 0 1 = cc in
        absurd (omega arith))

    accepted : «open» role local remote (length room)
        ≡ record { session = opened role local remote; answer = answer.More; reply = opening_reply role local remote }
    unfolding «open»
    accepted = cond-false (ltb (length room) 101) _ _ (le-ltb (length room) 101 long) ∙ cond-true (name_ok local && name_ok remote) _ _ named

    opened-as : opened_of («open» role local remote (length room))
        ≡ record {
          session = opened role local remote;
          outcome = record { taken = 0; reply_len = length (opening_reply role local remote); answer = answer.More };
        }
    unfolding opened_of
    opened-as = ap opened_of accepted

    room_as : open_room role local remote room ≡ front (opening_reply role local remote) room
    unfolding open_room
    room_as = ap (λ (o : Opening). front o.reply room) accepted

-- ---- the answerer

module _ (local remote room : List ℕ) (w : Option ℕ) (e : w ≡ opening_refusal local remote (length room)) (g : w ≡ None) where
  pub answerer_result : (s : Session) (r : Opened) → s ≡ holding nothing_sent (new_connection 0 0 0 local remote) []
      → r ≡ more_with s 0
      → r ≡ opened_of («open» answerer local remote (length room))
  unfolding opened
  answerer_result s r i f = f ∙ ap (λ (t : Session). more_with t 0) i ∙ sym (opened-as answerer local remote room w e g)

  pub answerer_room : room ≡ open_room answerer local remote room
  unfolding front
  answerer_room = sym (room_as answerer local remote room w e g)

-- ---- the caller

pub name-most : (name : List ℕ) → name_ok name ≡ true → length name ≤ 32
unfolding name_ok
name-most name h = leb-true (length name) 32 (and_first (leb (length name) 32) _ (and_second (leb 1 (length name)) _ h))

module _ (local remote room : List ℕ) (process relative : ℕ) (p : process < 2 ^ 32) (q : relative < 2 ^ 32) (w : Option ℕ)
    (e : w ≡ opening_refusal local remote (length room)) (g : w ≡ None) where
  abbrev hello : List ℕ
  hello = hello_bytes remote local process relative

  hello-within : length hello ≤ length room
  hello-within =
      let n = named answerer local remote room w e g in
      let a = name-most local (and_first (name_ok local) (name_ok remote) n) in
      let b = name-most remote (and_second (name_ok local) (name_ok remote) n) in
      omega (arith, long answerer local remote room w e g, hello-most remote local process relative b a p q)

  hello-written : written_to hello room ≡ Some (length hello)
  unfolding written_to
  hello-written = cond-true (leb (length hello) (length room)) _ _ (le-leb (length hello) (length room) hello-within)

  hello-room : room_with hello room ≡ front hello room
  unfolding room_with front
  hello-room = cond-true (leb (length hello) (length room)) _ _ (le-leb (length hello) (length room) hello-within)

  pub caller_result : (v : Option ℕ) (k : ℕ) (s : Session) (r : Opened) → v ≡ written_to hello room → k ≡ unwrap_or v 0
      → s ≡ holding nothing_sent (new_connection 1 0 0 local remote) [] → r ≡ more_with s k
      → r ≡ opened_of («open» (caller process relative) local remote (length room))
  unfolding opened
  caller_result v k s r i f j h =
      h
      ∙ ap (λ (m : ℕ). more_with s m) (f ∙ ap (λ (o : Option ℕ). unwrap_or o 0) (i ∙ hello-written))
      ∙ ap (λ (t : Session). more_with t (length hello)) j
      ∙ sym (opened-as (caller process relative) local remote room w e g)

  pub caller_room : (now : List ℕ) → now ≡ room_with hello room → now ≡ open_room (caller process relative) local remote room
  caller_room now i = i ∙ hello-room ∙ sym (room_as (caller process relative) local remote room w e g)

pub ruleset opening = (rules, refused_result, refused_room, answerer_result, answerer_room, caller_result, caller_room)
