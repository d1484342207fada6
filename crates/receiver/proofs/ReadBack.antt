-- An acknowledgement, read as a message, says its ID and its update ID.
use Rattle.std.specs.Prelude.{Ok, Some}
use Prim.Native.Nat.{ℕ, ◌+◌, ◌-◌, ◌<◌, ◌^◌}
use native.Mathlib.Omega.{arith}
use mathlib.Core.Path.{◌≡◌, refl, sym, ap, ◌∙◌}
use mathlib.Core.Bool.{true}
use mathlib.Core.List.{List, [], ◌∷◌, ◌++◌, append-nil}
use lib.ListN.{length, take, drop, length-append}
use lib.Seq.{take_all}
use borrow.Author.Tests.{lt-ltb, le-ltb}
use Rattle.wire.specs.Integer.{read_int, encode_int}
use Rattle.wire.specs.Number.{read_number, encode_number}
use Rattle.wire.proofs.Write.{int_alone}
use Rattle.wire.proofs.Sizes.{int-length}
use Rattle.wire.proofs.RoundTrip.{round_trip}
use Rattle.wire.proofs.Numbers.{number-length, number-trip}
use Rattle.frame.specs.declared.Frame.TheVariants as frame
use Rattle.frame.specs.Frame.{judge_frame, with_header, with_length, header_of}
use Rattle.body.specs.Fields.{got, tested, integer, integer_of, number_read, number4}
use Rattle.body.specs.Bodies.{acknowledgement_fields}
use Rattle.message.specs.Effects.{acknowledge}
use Rattle.receiver.specs.Ledger.{is_acknowledgement}
use Rattle.receiver.specs.Corollaries.{AcknowledgementReadBack, ReadBack}

module _ (id update : ℕ) (l : id < 2 ^ 32) (m : update < 2 ^ 32) where
  abbrev body : List ℕ
  body = encode_int id ++ encode_number update

  body-length : length body ≡ length (encode_int id) + 4
  body-length = length-append (encode_int id) (encode_number update) ∙ ap (λ (n : ℕ). length (encode_int id) + n) (number-length update)

  body-small : length body < 240
  body-small = omega (arith, body-length, int-length id)

  written : acknowledge id update ≡ 0x0A ∷ 0x84 ∷ length body ∷ body
  unfolding acknowledge
  written = rw (int_alone (length body) body-small)

  length-read : read_int (0x0A ∷ 0x84 ∷ length body ∷ body) 2 ≡ Ok ((length body), 3)
  length-read =
      let e : 2 + 1 ≡ 3 = refl in
      let r = round_trip (0x0A ∷ 0x84 ∷ []) body (length body) (omega (arith, body-small)) in
      let k = int_alone (length body) body-small in
      sym (ap (λ (x : List ℕ). read_int (0x0A ∷ 0x84 ∷ (x ++ body)) 2) k) ∙ (r ∙ ap (λ (x : List ℕ). Ok ((length body), (2 + length x))) k)

  framed : judge_frame (0x0A ∷ 0x84 ∷ length body ∷ body) ≡ frame.Body 132 3 (3 + length body)
  unfolding judge_frame with_header with_length header_of
  framed =
      let h : length (0x0A ∷ 0x84 ∷ length body ∷ body) ≡ 3 + length body = omega arith in
      rw
      (length-read, le-ltb 1024 (length body) (omega (arith, body-small)), h, le-ltb (3 + length body) 2 (omega arith), le-ltb (3 + length body) (3 + length body) (omega arith))

  id-read : read_int body 0 ≡ Ok (id, (length (encode_int id)))
  id-read = let e : 0 + length (encode_int id) ≡ length (encode_int id) = omega arith in round_trip [] (encode_number update) id (omega (arith, l)) ∙ ap (λ (n : ℕ). Ok (id, n)) e

  update-read : read_number body (length (encode_int id)) ≡ Some (update, (length (encode_int id) + 4))
  update-read =
      sym (ap (λ (x : List ℕ). read_number (encode_int id ++ x) (length (encode_int id))) (append-nil (encode_number update))) ∙ number-trip (encode_int id) [] update m

  fields : acknowledgement_fields body ≡ got (record { id = id; update = update }) (length body)
  unfolding acknowledgement_fields integer_of integer tested number4 number_read
  fields = rw (id-read, lt-ltb id (2 ^ 32) l, update-read, body-length)

  told : is_acknowledgement (acknowledge id update) ≡ true
  unfolding is_acknowledgement
  told = rw written refl

  back : ReadBack id update
  back =
      let e : 3 + length body - 3 ≡ length body = omega arith in
      record {
        told = told;
        end = 3 + length body;
        whole = sym (ap length written ∙ (let w : length (0x0A ∷ 0x84 ∷ length body ∷ body) ≡ 3 + length body = omega arith in w));
        framed = ap judge_frame written ∙ framed;
        fields =
            ap (λ (x : List ℕ). acknowledgement_fields (take (3 + length body - 3) (drop 3 x))) written
            ∙ (ap (λ (n : ℕ). acknowledgement_fields (take n body)) e
            ∙ (ap acknowledgement_fields (take_all (length body) body (omega arith)) ∙ (fields ∙ ap (got (record { id = id; update = update })) (sym e))));
      }

pub acknowledgement-read-back : AcknowledgementReadBack
acknowledgement-read-back = back
