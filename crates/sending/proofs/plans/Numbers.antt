-- The refusals: what is returned by the number, and what it means that there is none.
use Rattle.std.proofs.Common.{◌≡◌, ℕ, ◌≤◌, Bool, true, false, cond, eqb, ltb, refl, sym, ap, arith, ltb-false, eqb-true, Result, Ok, Err}
use Rattle.session.specs.declared.Session.{Session}
use Rattle.session.specs.Session.{is_closed, established}
use Rattle.lists.proofs.Cases.{by-test, never}
use Rattle.sending.specs.Sending.{send_room, send_number, refused_as}

-- ---- what is returned, by the number

is_error : Result Unit ℕ → Bool
is_error (Ok u) = false
is_error (Err n) = true

error_of : Result Unit ℕ → ℕ
error_of (Ok u) = 0
error_of (Err n) = n

pub none-refused : (u : Unit) (number : ℕ) → Ok u ≡ refused_as number → number ≡ 0
unfolding refused_as is_error
none-refused u number e =
    by-test (eqb number 0) (eqb-true number 0) (λ y. never refl (sym (ap is_error (rw y at e))))

pub record Refuses (n number : ℕ) : Type 0 where
  pub some : eqb number 0 ≡ false
  pub same : n ≡ number

pub is_refusal : (n number : ℕ) → Err n ≡ refused_as number → Refuses n number
unfolding refused_as is_error error_of
is_refusal n number e =
    by-test (eqb number 0)
    (λ y. never refl (ap is_error (rw y at e)))
    (λ y. record { some = y; same = ap error_of (rw y at e) })

-- ---- a message is sent

-- what number 0 means
pub record Sends (sound : Bool) (s : Session) (room : ℕ) (there : Bool) : Type 0 where
  pub is-sound : sound ≡ true
  pub is_open : is_closed s.connection ≡ false
  pub wide : send_room ≤ room
  pub done : s.connection.phase ≡ established
  pub can-send : there ≡ true

pub sends : (sound : Bool) (s : Session) (room : ℕ) (there : Bool) → send_number sound s room there ≡ 0 → Sends sound s room there
unfolding send_number
sends sound s room there e = go sound (is_closed s.connection) (ltb room send_room) (eqb s.connection.phase established) there refl refl refl refl refl e
  where
    go : (a c l p h : Bool) → sound ≡ a → is_closed s.connection ≡ c → ltb room send_room ≡ l → eqb s.connection.phase established ≡ p → there ≡ h
        → ◌≡◌ {A = ℕ} (cond a (cond c 2 (cond l 31 (cond p (cond h 0 32) 34))) 4) 0 → Sends sound s room there
    go true false false true true ea ec el ep eh z =
        record { is-sound = ea; is_open = ec; wide = ltb-false room send_room el; done = eqb-true s.connection.phase established ep; can-send = eh }
    go true false false true false ea ec el ep eh z = absurd (omega arith)
    go true false false false h ea ec el ep eh z = absurd (omega arith)
    go true false true p h ea ec el ep eh z = absurd (omega arith)
    go true true l p h ea ec el ep eh z = absurd (omega arith)
    go false c l p h ea ec el ep eh z = absurd (omega arith)
