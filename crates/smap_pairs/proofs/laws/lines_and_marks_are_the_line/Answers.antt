use Rattle.smap_pairs.proofs.VirtualLineLaws.{strings_among}
use Rattle.smap_pairs.proofs.CoverLaws.{marks_in_line, strings_cover, virtual_lines_cover}
use Rattle.smap_pairs.proofs.laws.lines_and_marks_are_the_line.Goals as goal

pub returns : goal.returns
returns c = record {
  apart = marks_in_line;
  virtual_lines = virtual_lines_cover;
  lines_of_strings = strings_cover;
  among = strings_among 0;
}
