-- What rewriting the places of a text comes to, over maps with names of functions, or without (this project's own).
use Rattle.std.specs.Prelude.{◌≡◌, ℕ, List}
use Rattle.smap_anywhere.specs.Anywhere.{PlacesAsked, RewritesAnywhereOver}
use Rattle.smap_anywhere.specs.Replaced.{Replacing}
use Rattle.smap_lines.specs.Editing.{DevicesSeen}
use Rattle.smap_trace.specs.UrlNotes.{NotesSeen}
use Rattle.smap_trace.specs.declared.outcome.RewriteCounts.{RewriteCounts}

-- its places are rewritten, in lines of which none is too long, and none is passed; and these are the notes of what they name, and
-- beside them those of the URLs that look like one and have no map, where that is asked
pub record RewritesPlacesOver {M F : Type 0} (by : Replacing F) (Finds : M → (url : List ℕ) → M → Type 0) (under : M → (url : List ℕ) → F) (asked : PlacesAsked)
    (before after : DevicesSeen) (old new : M) (counts : RewriteCounts) (notes others : NotesSeen) : Type 0 where
  pub over : RewritesAnywhereOver by Finds under asked before after old new counts.summary notes others
  pub long : counts.long ≡ 0
  pub passed : counts.passed ≡ 0
