-- What a rewriting comes to at first, and once all is done.
use Rattle.std.proofs.Common.{◌≡◌, ◌∙◌, ℕ, Bool, true, false, List, [], ap, refl}
use Rattle.smap_pairs.specs.Known.{UrlsKnown}
use Rattle.smap_trace.specs.Hiding.{HidingSeen}
use Rattle.smap_trace.specs.MapsOf.{NamedByUrl}
use Rattle.smap_piecewise.specs.Frames.{frames_start, of_text, outcome_of as frames_outcome}
use Rattle.smap_piecewise.specs.Known.{NamedKnown}
use Rattle.smap_piecewise.specs.Places.{nothing_given, of_places, places_outcome}
use Rattle.smap_piecewise.specs.Rewriting.{HasStopped, RewritingNow, begun_with, outcome_of, stripping_at_first, text_read}
use Rattle.smap_piecewise.specs.Stripping.{text_behind}
use Rattle.smap_piecewise.specs.Work.{OfFrames, OfPlaces, WorkNow, WorkStopsAt, is_over, work_done, work_outcome}
use Rattle.smap_piecewise.specs.declared.rewriting.TextOptions.{TextOptions}
use Rattle.smap_piecewise.specs.declared.stop.Stop.TheVariants.{Done}
use Rattle.smap_piecewise.proofs.FramesLaws.{all_written, begins_whole}
use Rattle.smap_piecewise.proofs.PlacesLaws.{all_places_written, begins_anywhere}
use Rattle.smap_piecewise.proofs.WorkLaws.{none_behind}

read_at_first : (is_stripped : Bool) (text : List ℕ) → text_behind (stripping_at_first is_stripped) text ≡ text_read is_stripped text
read_at_first true text = refl
read_at_first false text = refl

pub begins_frames : (urls : UrlsKnown) (maps : NamedByUrl) (hide : HidingSeen) (options : TextOptions) (text : List ℕ)
    → outcome_of urls maps (begun_with (OfFrames (frames_start hide)) options) text ≡ of_text maps hide (text_read options.strip text)
begins_frames urls maps hide options text =
    ap (frames_outcome maps (frames_start hide)) (read_at_first options.strip text) ∙ begins_whole maps hide (text_read options.strip text)

pub begins_places : (urls : UrlsKnown) (maps : NamedByUrl) (options : TextOptions) (text : List ℕ)
    → outcome_of urls maps (begun_with (OfPlaces nothing_given) options) text ≡ of_places urls maps (text_read options.strip text)
begins_places urls maps options text =
    ap (places_outcome urls maps nothing_given) (read_at_first options.strip text) ∙ begins_anywhere urls maps (text_read options.strip text)

work_written : (urls : UrlsKnown) (maps : NamedByUrl) (limit : ℕ) (known : NamedKnown) (work : WorkNow) → WorkStopsAt limit known work Done → is_over work ≡ true
    → work_outcome urls maps work [] ≡ work_done work
work_written urls maps limit known (OfFrames now) done over = all_written maps now done over
work_written urls maps limit known (OfPlaces now) done over = all_places_written urls maps now done over

pub all_done : (urls : UrlsKnown) (maps : NamedByUrl) (known : NamedKnown) (now : RewritingNow) → HasStopped known now Done → now.is_ended ≡ true
    → outcome_of urls maps now [] ≡ work_done now.work
all_done urls maps known now stopped ended =
    let over = stopped.over ended in
    ap (work_outcome urls maps now.work) (none_behind now.stripping [] over.1 refl) ∙ work_written urls maps now.limit known now.work stopped.work over.0
