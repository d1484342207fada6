-- How a reading call takes its piece: the bytes join the unfinished ones until these end a message or show a refusal. The byte model says the
-- same byte by byte; that the two agree is a law of the crate `receiver`.
use Rattle.std.specs.Prelude.{ℕ, suc, List, [], ◌∷◌, ◌++◌, true, false, cond}
use Rattle.session.specs.declared.Connection.{Connection}
use Rattle.session_soundness.specs.Sound.{waits}
use Rattle.reassembly.specs.declared.Part.{Part as PartStruct}

-- the bytes that stand unfinished, how many of the piece were taken, and whether they end a message or show a refusal
abbrev pub Part : Type 0
Part = PartStruct

abbrev pub one_more : Part → Part
one_more a = record { bytes = a.bytes; taken = suc a.taken; ended = a.ended }

unfoldable pub take_piece : Connection → List ℕ → List ℕ → Part
take_piece c u [] = record { bytes = u; taken = 0; ended = false }
take_piece c u (b ∷ bs) =
    let v = u ++ (b ∷ []) in
    cond (waits c v) (one_more (take_piece c v bs)) (record { bytes = v; taken = 1; ended = true })
