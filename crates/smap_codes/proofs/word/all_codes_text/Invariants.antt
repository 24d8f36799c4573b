-- the lines of the codes so far
use Rattle.std.proofs.Common.{◌≡◌, flat_map, string_bytes, take}
use Rattle.smap_codes.specs.Texts.{title_line}
use Rattle.smap_codes.proofs.word.all_codes_text.Given as goal

abbrev pub invariant-loop-code : goal.invariant-loop-code
invariant-loop-code l = string_bytes l.text ≡ flat_map title_line (take l.code-index l.codes)
