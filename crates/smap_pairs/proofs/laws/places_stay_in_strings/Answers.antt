use Rattle.smap_pairs.proofs.StringPlaceLaws.{all_between, all_in_frames, all_without}
use Rattle.smap_pairs.proofs.laws.places_stay_in_strings.Goals as goal

pub returns : goal.returns
returns c = record {
  between = λ known strings state line begins. all_between known strings line state begins;
  frames = λ known strings state line. all_in_frames known strings line state;
  quotation_marks = λ known strings line. all_without known strings line;
}
