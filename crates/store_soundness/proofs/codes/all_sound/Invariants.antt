use Rattle.std.proofs.Common.{◌≡◌, take}
use Rattle.lists.specs.Lists.{every}
use Rattle.store_soundness.specs.Codes.{sound_code}
use Rattle.store_soundness.proofs.codes.all_sound.Given as goal

abbrev pub invariant-loop-code : goal.invariant-loop-code
invariant-loop-code l = l.sound ≡ every sound_code (take l.code-index l.code-items)
