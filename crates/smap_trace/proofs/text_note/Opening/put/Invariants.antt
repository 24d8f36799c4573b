use Rattle.std.proofs.Common.{◌≡◌, take}
use Rattle.smap_trace.specs.TextNote.{opening_seen, opening_with}
use Rattle.smap_trace.proofs.text_note.Opening.put.Given as goal

-- the bytes so far stand behind it
abbrev pub invariant-loop-byte : goal.invariant-loop-byte
invariant-loop-byte l = opening_seen l.self ≡ opening_with (opening_seen l.initial.self) (take l.byte-index l.more)
