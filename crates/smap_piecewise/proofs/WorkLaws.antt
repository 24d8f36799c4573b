-- The frames or the places of a text, to which bytes are handed on.
use Rattle.std.proofs.Common.{◌≡◌, ◌<◌, ◌≤◌, ◌-◌, ◌∙◌, ℕ, Bool, true, List, [], ◌++◌, Option, Some, None, length, sym, ap, refl, arith, length-append}
use Rattle.std.proofs.Common.{drop, length-drop, length-take-le}
use Rattle.std.specs.List.{slice_range}
use Rattle.smap_pairs.specs.Known.{UrlsKnown}
use Rattle.smap_io.specs.Sequences.{kept}
use Rattle.smap_trace.specs.MapsOf.{NamedByUrl}
use Rattle.smap_piecewise.specs.Frames.{FramesNow, GoesOn, IsTooLong, outcome_of as frames_outcome, rest_of}
use Rattle.smap_piecewise.specs.Known.{AgreesNamed, NamedKnown}
use Rattle.smap_piecewise.specs.Outcome.{Outcome}
use Rattle.smap_piecewise.specs.Places.{AnywhereNow, ArePlacesTooLong, PlacesGoOn, lines_left, of_parts, parts_left, places_outcome}
use Rattle.smap_piecewise.specs.Stripping.{held_of, text_behind}
use Rattle.smap_piecewise.specs.Work.{OfFrames, OfPlaces, WorkGoesOn, WorkNow, is_over, with_end, with_left, work_outcome}
use Rattle.smap_piecewise.specs.Private.Stripping.{PassesOn}
use Rattle.smap_piecewise.specs.declared.stripping.Stripping.{Stripping}
use Rattle.smap_piecewise.proofs.FramesLaws.{given_more}
use Rattle.smap_piecewise.proofs.PlacesLaws.{places_given}

-- ---- more bytes than may be written

pub too_long : (known : NamedKnown) (old new : FramesNow) (limit : ℕ) → GoesOn known old new → limit < length new.output → IsTooLong limit known old
too_long known old new limit goes long = λ maps later agrees ends.
    let rest : List ℕ = (rest_of maps new.hide new.is_passing (new.left ++ later)).text in
    let same : length (new.output ++ rest) ≡ length (frames_outcome maps old later).text =
    ap (λ (outcome : Outcome). length outcome.text) (goes.same maps later agrees ends) in
    omega (arith, long, same, length-append new.output rest)

pub places_too_long : (known : NamedKnown) (old new : AnywhereNow) (limit : ℕ) → ((urls : UrlsKnown) → PlacesGoOn urls known old new) → limit < length new.output
    → ArePlacesTooLong limit known old
places_too_long known old new limit goes long = λ urls maps later agrees ends.
    let rest : List ℕ = (of_parts maps (lines_left new.is_open (new.left ++ later)) (parts_left urls new later)).text in
    let same : length (new.output ++ rest) ≡ length (places_outcome urls maps old later).text =
    ap (λ (outcome : Outcome). length outcome.text) ((goes urls).same maps later agrees ends) in
    omega (arith, long, same, length-append new.output rest)

pub range_size : (text : List ℕ) (from end : ℕ) → end ≤ length text → length (slice_range text from end) ≡ end - from
range_size text from end within = length-take-le (end - from) (drop from text) (omega (arith, within, length-drop from text))

-- ---- bytes more

-- the chunk that is begun is among them
abbrev pub HasChunk : WorkNow → Type 0
HasChunk (OfFrames now) = Unit {0}
HasChunk (OfPlaces now) = now.chunk ≤ length now.left

pub work_given : (urls : UrlsKnown) (maps : NamedByUrl) (work : WorkNow) (bytes later : List ℕ) → HasChunk work
    → work_outcome urls maps (with_left bytes work) later ≡ work_outcome urls maps work (bytes ++ later)
work_given urls maps (OfFrames now) bytes later has = given_more maps now bytes later
work_given urls maps (OfPlaces now) bytes later has = places_given urls maps now bytes later has

-- those that are handed on
pub passed_on : (urls : UrlsKnown) (maps : NamedByUrl) (work : WorkNow) (is_ended : Bool) (old new : Stripping) (left given : List ℕ) (later : List ℕ) → HasChunk work
    → (is_ended ≡ true → later ≡ []) → (passes : PassesOn is_ended old new left given)
    → work_outcome urls maps (with_left passes.more work) (text_behind (Some new) later) ≡ work_outcome urls maps work (text_behind (Some old) later)
passed_on urls maps work is_ended old new left given later has ends passes =
    work_given urls maps work passes.more (kept (new.held ++ later) 0 new.most) has
    ∙ ap (work_outcome urls maps work) (sym (passes.same later ends))

-- its end changes nothing of what it comes to
pub work_ended : (urls : UrlsKnown) (maps : NamedByUrl) (work : WorkNow) (is_ended : Bool) (later : List ℕ)
    → work_outcome urls maps (with_end is_ended work) later ≡ work_outcome urls maps work later
work_ended urls maps (OfFrames now) is_ended later = refl
work_ended urls maps (OfPlaces now) is_ended later = refl

-- ---- it goes on

pub work_same : (urls : UrlsKnown) (known : NamedKnown) (maps : NamedByUrl) (old new : WorkNow) (later : List ℕ) → WorkGoesOn urls known old new → AgreesNamed known maps
    → (is_over old ≡ true → later ≡ []) → work_outcome urls maps new later ≡ work_outcome urls maps old later
work_same urls known maps (OfFrames old) (OfFrames new) later goes agrees ends = goes.same maps later agrees ends
work_same urls known maps (OfPlaces old) (OfPlaces new) later goes agrees ends = goes.same maps later agrees ends
work_same urls known maps (OfFrames old) (OfPlaces new) later goes agrees ends = absurd goes
work_same urls known maps (OfPlaces old) (OfFrames new) later goes agrees ends = absurd goes

-- nothing comes behind what is over
pub none_behind : (stripping : Option Stripping) (later : List ℕ) → held_of stripping ≡ [] → later ≡ [] → text_behind stripping later ≡ []
unfolding kept
none_behind None later none is = is
none_behind (Some now) later none is =
    ap (λ held. kept (held ++ later) 0 now.most) none ∙ ap (λ l. kept l 0 now.most) is
