-- Of private contracts only: the frames or the places of a text, and a step of what is done with them.
use Rattle.std.specs.Prelude.{◌≡◌, ◌≤◌, ℕ, ◌+◌, Bool, true, List, [], ◌++◌, length}
use Rattle.smap_pairs.specs.Known.{UrlsKnown}
use Rattle.smap_io.specs.Sequences.{kept}
use Rattle.smap_piecewise.specs.Known.{NamedKnown}
use Rattle.smap_piecewise.specs.Private.Frames.{IsWithin, Steps, frames_seen}
use Rattle.smap_piecewise.specs.Private.Places.{ArePlacesWithin, IsSound, PlaceSteps, places_seen}
use Rattle.smap_piecewise.specs.Work.{OfFrames, OfPlaces, WorkNow, with_left}
use Rattle.smap_piecewise.specs.declared.stripping.Stripping.{Stripping}
use Rattle.smap_piecewise.specs.declared.work.Work.{Work}
use Rattle.smap_piecewise.specs.declared.work.Work.TheVariants.{Frames, Places}

abbrev pub work_seen : Work → WorkNow
work_seen (Frames frames) = OfFrames (frames_seen frames)
work_seen (Places places) = OfPlaces (places_seen places)

abbrev pub IsWorkSound : Work → Type 0
IsWorkSound (Frames frames) = Unit {0}
IsWorkSound (Places places) = IsSound places

-- each count, and how many bytes are not done, are together no more than so many
abbrev pub IsWorkWithin : (size : ℕ) → WorkNow → Type 0
IsWorkWithin size (OfFrames now) = IsWithin size now
IsWorkWithin size (OfPlaces now) = ArePlacesWithin size now

abbrev pub WorkSteps : UrlsKnown → NamedKnown → (old new : Work) → Type 0
WorkSteps urls known (Frames old) (Frames new) = Steps known old new
WorkSteps urls known (Places old) (Places new) = PlaceSteps urls known old new
WorkSteps urls known (Frames old) (Places new) = ⊥
WorkSteps urls known (Places old) (Frames new) = ⊥

-- it took some bytes, as PassesOn has it
pub record TakesFrom (is_ended : Bool) (old new : Stripping) (work_old work_new : WorkNow) : Type 0 where
  pub more : List ℕ
  pub work : work_new ≡ with_left more work_old
  pub few : length more + length new.held ≤ length old.held
  pub same : (later : List ℕ) → (is_ended ≡ true → later ≡ []) → kept (old.held ++ later) 0 old.most ≡ more ++ kept (new.held ++ later) 0 new.most
