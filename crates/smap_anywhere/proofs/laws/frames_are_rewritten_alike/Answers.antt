use Rattle.std.proofs.Common.{refl}
use Rattle.smap_anywhere.specs.MapUrls.{urls_known}
use Rattle.smap_anywhere.proofs.FrameFileLaws.{left_to_patterns}
use Rattle.smap_anywhere.proofs.FrameTextLaws.{alike}
use Rattle.smap_anywhere.proofs.laws.frames_are_rewritten_alike.Goals as goal

pub returns-clause-alike : goal.returns-clause-alike
returns-clause-alike c = λ maps found line parts is has quotable. alike (urls_known maps) (λ line. refl) found line parts is has quotable

pub returns-clause-others : goal.returns-clause-others
returns-clause-others c = λ maps line parts none. left_to_patterns maps line parts none
