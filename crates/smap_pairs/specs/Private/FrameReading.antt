-- Of private contracts only: a text as its bytes stand there, or as what counts of it.
use Rattle.std.specs.Prelude.{ℕ, Bool, List, if◌then◌else◌}
use Rattle.smap_pairs.specs.Signs.{signs, text_of}
use Rattle.smap_pairs.specs.declared.seen.SeenByte.{SeenByte}

abbrev pub seen_as : (stands : Bool) → List SeenByte → List ℕ
seen_as stands text = if stands then text_of text else signs text
