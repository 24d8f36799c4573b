-- what is told of the codes so far that the word calls
use Rattle.std.proofs.Common.{◌≡◌, List, flat_map, map, string_bytes, take}
use Rattle.std.specs.List.{filter}
use Rattle.smap_codes.specs.Texts.{code_text}
use Rattle.smap_codes.specs.Words.{is_called}
use Rattle.smap_codes.specs.declared.row.Row.{Row}
use Rattle.smap_codes.proofs.ToldLaws.{has_rows}
use Rattle.smap_codes.proofs.word.told.Given as goal

abbrev pub invariant-loop-code : goal.invariant-loop-code
invariant-loop-code l = record {
  rows : List Row;
  codes : map (λ row. row.code) rows ≡ filter (is_called l.exactly l.word) (take l.code-index l.codes);
  told : string_bytes l.text ≡ flat_map code_text rows;
  known : l.is_known ≡ has_rows rows;
}
