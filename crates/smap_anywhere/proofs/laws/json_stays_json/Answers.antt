use Rattle.std.proofs.Common.{refl}
use Rattle.smap_anywhere.proofs.KnownStrings.{known_for_strings}
use Rattle.smap_anywhere.proofs.NamedStates.{named_inside}
use Rattle.smap_anywhere.proofs.StaysLaws.{inside_stays, strings_stay}
use Rattle.smap_anywhere.proofs.laws.json_stays_json.Goals as goal

pub returns : goal.returns
returns c = record {
  strings = λ known strings maps before inside behind is first second. strings_stay known strings maps before inside behind is first second;
  parts = λ known strings text became before inside behind joined is may. inside_stays known strings text became before inside behind joined is may;
  names = λ known strings frames text became before inside behind joined is may.
      named_inside known strings frames text became before inside behind joined is may;
  known = λ maps. (known_for_strings maps, λ line. refl);
}
