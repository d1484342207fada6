-- Which header and wrapper the archive goes with. `include/peers.h` has the same two numbers.
use Rattle.std.specs.Prelude.{ℕ, ◌+◌, ◌*◌}

-- of the calls: their names, parameters, numbers and meaning
unfoldable pub version : ℕ
version = 7

-- of the structs: their fields, order and sizes
unfoldable pub layout : ℕ
layout = 5

-- one number for both
unfoldable pub archive_version : ℕ
archive_version = version * 65536 + layout
