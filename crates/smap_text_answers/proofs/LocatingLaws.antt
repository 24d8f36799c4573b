-- What answering lines over stored maps comes to.
use Rattle.std.specs.Prelude.{◌≡◌, ℕ, List, Result, Ok, Err}
use Rattle.std.proofs.Common.{subst, ◌∙◌}
use Rattle.smap_io.specs.Device.{SinkSeen}
use Rattle.smap_io.specs.declared.device.DeviceFault.{DeviceFault}
use Rattle.smap_lines.specs.Editing.{DevicesSeen, EditsInto}
use Rattle.smap_lines.specs.Laws.Step.{edits_seen}
use Rattle.smap_lines.specs.LineOutput.{IsOnePut, IsPut}
use Rattle.smap_lines.specs.Lines.{Line}
use Rattle.smap_lines.specs.declared.counts.LineCounts.{LineCounts}
use Rattle.smap_lines.specs.declared.line_output.LineOutput.{LineOutput}
use Rattle.smap_text_answers.specs.Locating.{LocateStep}
use Rattle.smap_text_answers.specs.Private.Locator.{LocatorSteps}
use Rattle.smap_text_answers.specs.declared.locator.Locator.{Locator}
use Rattle.smap_store.specs.Stored.{FindsIn, LoadsStep}
use Rattle.smap_store.specs.StoredMaps.{IsSameStore, same_store_on, stored_seen}

-- ---- the editor

-- a step of the editor is one over its store
module _ {L : Type 0} (Loads : LoadsStep L) (first : Locator L) where
  abbrev IsLike : Locator L → Type 0
  IsLike locator = (locator.options ≡ first.options) × IsSameStore first.maps locator.maps

  step_seen : (old : Locator L) (line : Line) (text : List ℕ) (new : Locator L) → IsLike old → LocatorSteps Loads old line text new
      → LocateStep (FindsIn Loads) first.options (stored_seen old.maps) line text (stored_seen new.maps) × IsLike new
  step_seen old line text new is steps = (
    subst (λ o. LocateStep (FindsIn Loads) o (stored_seen old.maps) line text (stored_seen new.maps)) is.0 steps.step,
    (steps.options ∙ is.0, same_store_on first.maps old.maps new.maps is.1 steps.same),
  )

  pub locates_seen : (most : ℕ) (before after : DevicesSeen) (new : Locator L) (counts : LineCounts) → IsLike first
      → EditsInto (LocatorSteps Loads) most before after first new counts
      → EditsInto (LocateStep (FindsIn Loads) first.options) most before after (stored_seen first.maps) (stored_seen new.maps) counts
  locates_seen most before after new counts is edits =
      (edits_seen (LocatorSteps Loads) (LocateStep (FindsIn Loads) first.options) (λ locator. stored_seen locator.maps) IsLike step_seen most before after
      first new counts is edits).0

-- a text that is put, where it is allowed and is what it should be
pub put_one : {W : Type 0} (seen : W → SinkSeen) (old new : LineOutput W) (text : List ℕ) (result : Result Unit DeviceFault) (Allowed IsDone : List ℕ → Type 0)
    → IsPut seen old new text result → Allowed text → IsDone text → IsOnePut seen old new Allowed IsDone result
put_one seen old new text (Ok done) Allowed IsDone put allowed is = (text, is, put)
put_one seen old new text (Err fault) Allowed IsDone put allowed is = (text, allowed, put)
