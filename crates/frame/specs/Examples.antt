-- The frame at its limits. The cases of document 01's table P are in `worked_cases`.
use Rattle.std.specs.Prelude.{◌≡◌, refl, [], ◌∷◌, replicate}
use Rattle.wire.specs.Integer.{read_int, read_first, with_later, later_bytes, before, weighted, fitting}
use Rattle.frame.specs.declared.Frame.TheVariants as frame
use Rattle.frame.specs.Frame.{header_of, with_header, with_length, judge_frame}

-- one byte decides nothing
one_byte : judge_frame (0x07 ∷ []) ≡ frame.Waiting
unfolding judge_frame
one_byte = refl

-- where the longest body lies
longest : judge_frame (0x0A ∷ 0x80 ∷ 0xF0 ∷ 0x31 ∷ replicate 1024 7) ≡ frame.Body 0x80 4 1028
unfolding judge_frame with_header header_of with_length read_int read_first with_later later_bytes before weighted fitting
longest = refl

-- a body of no bytes is whole at the length's last byte
empty-body : judge_frame (0x0A ∷ 0x80 ∷ 0x00 ∷ []) ≡ frame.Body 0x80 3 3
unfolding judge_frame with_header header_of with_length read_int read_first with_later later_bytes before weighted fitting
empty-body = refl

-- type 127 of class 10
low-type : judge_frame (0x0A ∷ 0x7F ∷ []) ≡ frame.Refused 20
unfolding judge_frame with_header header_of
low-type = refl
