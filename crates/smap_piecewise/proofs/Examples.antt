-- Worked examples of the definitions: each holds by computing both sides.
use Rattle.std.proofs.Common.{◌≡◌, ℕ, true, false, List, [], ◌∷◌, Some, None, refl, codes, arith}
use Rattle.smap_anywhere.specs.Replaced.{replacement}
use Rattle.smap_lines.specs.Edited.{edited}
use Rattle.smap_pairs.specs.Chunks.{cuts_from}
use Rattle.smap_pairs.specs.Known.{UrlsKnown}
use Rattle.smap_trace.specs.FrameOf.{frame_of}
use Rattle.smap_trace.specs.Hiding.{HidingSeen}
use Rattle.smap_trace.specs.MapsOf.{MapsByUrl, NamedByUrl, counts_named}
use Rattle.smap_declarations.specs.Frames.{function_name}
use Rattle.smap_trace.specs.FunctionNames.{head_cut}
use Rattle.smap_piecewise.specs.Known.{NamedKnown}
use Rattle.smap_piecewise.specs.FirstLine.{behind_line, line_at, through_line}
use Rattle.smap_piecewise.specs.Frames.{FramesNow, IsAllDone, IsBeforeUnknown, next_url, outcome_of, rest_of}
use Rattle.smap_piecewise.specs.Places.{AnywhereNow, ArePlacesDone, IsBeforePlace, lines_left, nothing_given, places_outcome}

abbrev no_maps : MapsByUrl
no_maps url = None

abbrev no_names : NamedByUrl
no_names = record { maps = no_maps; names = λ url. None }

abbrev nothing_known : NamedKnown
nothing_known = record { maps = λ url. None; declared = λ url. None }

abbrev hide_none : HidingSeen
hide_none = record { ignored = false; texts = [] }

first_line : line_at (codes "a\nb") ≡ codes "a"
first_line = refl

through : through_line (codes "a\nb\nc") ≡ codes "a\n"
through = refl

behind : behind_line (codes "a\nb\nc") ≡ codes "b\nc"
behind = refl

the_next : next_url (codes "at f (/a.js:1:6)\nat /b.js:1:6") ≡ Some (codes "/a.js")
unfolding frame_of
the_next = refl

none_next : next_url (codes "Error\nat /b.js:1:6") ≡ None
unfolding frame_of
none_next = refl

-- a line is written, and a frame comes next
abbrev midway : (left : List ℕ) → FramesNow
midway left = record {
  hide = hide_none;
  left = left;
  is_passing = false;
  is_ended = false;
  output = codes "Error\n";
  counts = record { lines = 1; frames = 0; mapped = 0; hidden = 0 };
}

-- what map its URL has is wanted, since nothing is known
is_wanted : IsBeforeUnknown nothing_known (midway (codes "at /b.js:1:6\nat"))
unfolding frame_of
is_wanted = record { url = codes "/b.js"; next = refl; unknown = refl; anew = refl; decided = refl }

-- it is not yet where the line may go on, as to `at /b.js:1:62`
is_open : IsAllDone (midway (codes "at /b.js:1:6"))
is_open = record { no_end = refl; short = omega arith; none_passing = λ e. absurd (cc); none_ended = λ e. absurd (cc) }

-- what it comes to over no maps, if a line comes
comes_to : outcome_of no_names (midway (codes "at /b.js:1:6")) (codes "\nx")
    ≡ record { text = codes "Error\nat /b.js:1:6\nx"; lines = 3; frames = 1; mapped = 0; hidden = 0 }
unfolding frame_of edited counts_named
comes_to = refl

-- the end of a line that is too long, and the lines behind it
passing : rest_of no_names hide_none true (codes "end\nat /b.js:1:6")
    ≡ record { text = codes "end\nat /b.js:1:6"; lines = 1; frames = 1; mapped = 0; hidden = 0 }
unfolding frame_of edited counts_named
passing = refl

-- ---- places

-- what stands before a place is written, whose chunk is begun
abbrev before_place : AnywhereNow
before_place = record {
  left = codes "at /u:1:2 x";
  chunk = 11;
  from = 3;
  waiting = record { frame_start = 3; start = 3; url_end = 5; end = 9; line = 1; column = 2; is_halved = false } ∷ [];
  wanted = Some (codes "/u");
  is_broken = false;
  is_open = false;
  is_ended = true;
  output = codes "at ";
  counts = record { lines = 0; frames = 0; mapped = 0; hidden = 0 };
}

-- what map its URL has is wanted in the middle of the line, since nothing is known
place_is_wanted : IsBeforePlace nothing_known before_place
unfolding head_cut
place_is_wanted = record { url = codes "/u"; next = refl; wanted = refl; unknown = refl; here = refl }

-- what it comes to over no maps, whichever URLs are known later
place_comes_to : (urls : UrlsKnown) → places_outcome urls no_names before_place []
    ≡ record { text = codes "at /u:1:2 x"; lines = 1; frames = 1; mapped = 0; hidden = 0 }
unfolding cuts_from replacement head_cut
place_comes_to urls = refl

-- the place of a frame waits with its function, of which it is not known how it was written
abbrev before_function : AnywhereNow
before_function = record before_place {
  left = codes "at f (/u:1:2)";
  chunk = 13;
  waiting = record { frame_start = 0; start = 6; url_end = 8; end = 12; line = 1; column = 2; is_halved = false } ∷ [];
}

function_waits : IsBeforePlace nothing_known before_function
unfolding head_cut function_name
function_waits = record { url = codes "/u"; next = refl; wanted = refl; unknown = refl; here = refl }

-- the rest of a line that was counted, and the lines behind it
lines_behind : lines_left true (codes "end\nb\nc") ≡ 2
lines_behind = refl

-- a line is not yet a chunk where it may go on, as to `/u:1:62`
abbrev in_open_line : AnywhereNow
in_open_line = record nothing_given { left = codes "/u:1:6" }

places_are_done : ArePlacesDone in_open_line
places_are_done = record {
  none_begun = refl;
  none_waits = refl;
  none_wanted = refl;
  no_end = refl;
  short = omega arith;
  none_stays = λ e. absurd (cc);
  none_ended = λ e. absurd (cc);
}
