use Rattle.std.proofs.Common.{refl}
use Rattle.smap_anywhere.specs.MapUrls.{urls_known}
use Rattle.smap_anywhere.proofs.NamedFrameLaws.{named_alike}
use Rattle.smap_anywhere.proofs.NamedLaws.{named_apart, named_whole}
use Rattle.smap_anywhere.proofs.NamedTextLaws.{text_renamed, text_unnamed}
use Rattle.smap_anywhere.proofs.laws.names_change_names_alone.Goals as goal

pub returns : goal.returns
returns c = record {
  renamed = λ known within maps names are text. text_renamed maps names known within are text;
  none = λ known within maps text. text_unnamed maps known within text;
  frames = λ maps found names line parts is has quotable.
      named_alike (urls_known maps) (λ line. refl) found names line parts is has quotable;
  text = λ known within text. named_whole known within text;
  apart = named_apart;
}
