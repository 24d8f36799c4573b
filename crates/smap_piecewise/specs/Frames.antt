-- A text whose frames are rewritten while it comes (this project's own): what it comes to, over maps and names of
-- functions of which not all are known.
use Rattle.std.specs.Prelude.{◌≡◌, ◌<◌, ◌≤◌, ℕ, ◌-◌, cond, ◌||◌, Bool, true, false, List, [], ◌++◌, Option, Some, None, length, option_map}
use Rattle.smap_lines.specs.Limits.{most_line_bytes}
use Rattle.smap_lines.specs.Lines.{has_line_end}
use Rattle.smap_trace.specs.FrameOf.{frame_of}
use Rattle.smap_trace.specs.Hiding.{HidingSeen}
use Rattle.smap_trace.specs.MapsOf.{NamedByUrl, counts_named, rewritten_named}
use Rattle.smap_trace.specs.Rewritten.{Counts}
use Rattle.smap_piecewise.specs.FirstLine.{behind_line, line_at, through_line}
use Rattle.smap_piecewise.specs.Outcome.{Outcome, both, text_alone}
use Rattle.smap_piecewise.specs.Known.{AgreesNamed, NamedKnown}
use Rattle.smap_piecewise.specs.declared.stop.Stop.{Stop}
use Rattle.smap_piecewise.specs.declared.stop.Stop.TheVariants.{Done, Full, Wanted}

-- ---- how far a rewriting is

-- which frames are left out; the bytes that were given and are not done, whether they begin in a line that is too long and was
-- counted, and whether the text ends with them; what was written; and what was counted
pub record FramesNow : Type 0 where
  pub hide : HidingSeen
  pub left : List ℕ
  pub is_passing : Bool
  pub is_ended : Bool
  pub output : List ℕ
  pub counts : Counts

-- nothing is done, and nothing was given
abbrev pub frames_start : HidingSeen → FramesNow
frames_start hide = record {
  hide = hide;
  left = [];
  is_passing = false;
  is_ended = false;
  output = [];
  counts = record { lines = 0; frames = 0; mapped = 0; hidden = 0 };
}

-- ---- what it comes to

-- what becomes of a text, and what is counted of it
abbrev pub of_text : NamedByUrl → (hide : HidingSeen) → (text : List ℕ) → Outcome
of_text maps hide text = record {
  text = rewritten_named maps hide text;
  lines = (counts_named maps hide text).lines;
  frames = (counts_named maps hide text).frames;
  mapped = (counts_named maps hide text).mapped;
  hidden = (counts_named maps hide text).hidden;
}

-- the same where it begins in a line that is too long and was counted
abbrev pub rest_of : NamedByUrl → (hide : HidingSeen) → (is_passing : Bool) → (text : List ℕ) → Outcome
rest_of maps hide false text = of_text maps hide text
rest_of maps hide true text = both (text_alone (through_line text)) (of_text maps hide (behind_line text))

-- what was written and counted
abbrev pub done_of : FramesNow → Outcome
done_of now = record {
  text = now.output;
  lines = now.counts.lines;
  frames = now.counts.frames;
  mapped = now.counts.mapped;
  hidden = now.counts.hidden;
}

-- what it comes to over these maps, if these bytes come behind those that were given
abbrev pub outcome_of : NamedByUrl → FramesNow → (later : List ℕ) → Outcome
outcome_of maps now later = both (done_of now) (rest_of maps now.hide now.is_passing (now.left ++ later))

-- ---- what going on does

-- over all maps that agree with what is known, and whatever bytes come, it comes to what it did; some of the bytes are done, and
-- the output is longer
pub record GoesOn (known : NamedKnown) (old new : FramesNow) : Type 0 where
  pub same : (maps : NamedByUrl) (later : List ℕ) → AgreesNamed known maps → (old.is_ended ≡ true → later ≡ []) → outcome_of maps new later ≡ outcome_of maps old later
  pub hide : new.hide ≡ old.hide
  pub is_ended : new.is_ended ≡ old.is_ended
  pub done : List ℕ
  pub bytes : old.left ≡ done ++ new.left
  pub more : List ℕ
  pub written : new.output ≡ old.output ++ more

-- the URL of the frame that the first line of a text is
abbrev pub next_url : (text : List ℕ) → Option (List ℕ)
next_url text = option_map (λ parts. parts.url) (frame_of (line_at text))

-- nothing more can be decided: there is nothing more, or there is the beginning of a line that is not too long, and whose end may
-- still come
pub record IsAllDone (now : FramesNow) : Type 0 where
  pub no_end : has_line_end now.left ≡ false
  pub short : length now.left ≤ most_line_bytes
  pub none_passing : now.is_passing ≡ true → now.left ≡ []
  pub none_ended : now.is_ended ≡ true → now.left ≡ []

-- the next line is decided and a frame, and of its URL it is not known what map it has
pub record IsBeforeUnknown (known : NamedKnown) (now : FramesNow) : Type 0 where
  pub url : List ℕ
  pub next : next_url now.left ≡ Some url
  pub unknown : known.maps url ≡ None
  pub anew : now.is_passing ≡ false
  pub decided : (has_line_end now.left || now.is_ended) ≡ true

-- over all maps that agree with what is known, and whatever bytes come, it comes to more bytes than may be written
abbrev pub IsTooLong : (limit : ℕ) → NamedKnown → FramesNow → Type 0
IsTooLong limit known now = (maps : NamedByUrl) (later : List ℕ) → AgreesNamed known maps → (now.is_ended ≡ true → later ≡ [])
    → limit < length (outcome_of maps now later).text

abbrev pub StopsAt : (limit : ℕ) → NamedKnown → FramesNow → Stop → Type 0
StopsAt limit known now Done = IsAllDone now
StopsAt limit known now Wanted = IsBeforeUnknown known now
StopsAt limit known now Full = IsTooLong limit known now

-- how many whole lines were written: those that were counted, but for what is hidden, and for one of which more is to come
abbrev pub whole_lines_of : FramesNow → ℕ
whole_lines_of now = (now.counts.lines - now.counts.hidden) - cond now.is_passing 1 0
