-- The editor that answers places.
use Rattle.std.specs.Prelude.{◌≡◌, ℕ, ◌^◌, List}
use Rattle.smap_lines.specs.Lines.{Line}
use Rattle.smap_text_answers.specs.Locating.{BecomesAnswer, LocateStep}
use Rattle.smap_text_answers.specs.declared.locator.Locator.{Locator}
use Rattle.smap_store.specs.Stored.{FindsIn, GivesIn, LoadsMay, LoadsStep}
use Rattle.smap_store.specs.StoredMaps.{IsSameStore, stored_seen}
use Rattle.smap_trace.specs.Rewriting.{Looked}

module _ {L : Type 0} where
  -- what a line may become
  abbrev pub LocatorBecomes : LoadsMay L → Locator L → Line → (text : List ℕ) → Type 0
  LocatorBecomes MayLoad locator = BecomesAnswer (GivesIn MayLoad (stored_seen locator.maps)) locator.options

  -- what it became, and the editor after it
  pub record LocatorSteps (Loads : LoadsStep L) (old : Locator L) (line : Line) (text : List ℕ) (new : Locator L) : Type 0 where
    pub step : LocateStep (FindsIn Loads) old.options (stored_seen old.maps) line text (stored_seen new.maps)
    pub options : new.options ≡ old.options
    pub same : IsSameStore old.maps new.maps

  -- how it may stand later
  abbrev pub LocatorReaches : LoadsStep L → Locator L → (later : Locator L) → Type 0
  LocatorReaches Loads old later = Looked (FindsIn Loads) (stored_seen old.maps) (stored_seen later.maps) × IsSameStore old.maps later.maps

  -- it counts no lines, so it takes more than any text has
  abbrev pub no_limit : Locator L → ℕ
  no_limit locator = 2 ^ 64
