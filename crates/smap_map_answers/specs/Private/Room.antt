-- Room that is made before anything is read.
use Rattle.std.specs.Prelude.{◌≡◌, ◌≤◌, [], String, string_bytes, string_capacity, string_len}
use Rattle.std.specs.declared.alloc.Global.{Global}

-- nothing stands in it yet, and the line fits that refuses positions
abbrev pub IsRoom : String Global → Type 0
IsRoom room = (string_bytes room ≡ []) × (string_len room ≡ 0) × (80 ≤ string_capacity room)
