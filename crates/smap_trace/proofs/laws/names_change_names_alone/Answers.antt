use Rattle.std.proofs.Common.{refl}
use Rattle.smap_trace.proofs.NameLaws.{counted_alike, cut_joined, line_renamed, place_same, written_is}
use Rattle.smap_trace.proofs.laws.names_change_names_alone.Goals as goal

pub returns : goal.returns
returns c = record {
  lines = λ names parts line hide original. line_renamed names parts line hide original;
  heads = cut_joined;
  written = written_is;
  places = place_same;
  counted = λ names parts hide original. counted_alike names parts hide original;
  none = λ parts. refl;
}
