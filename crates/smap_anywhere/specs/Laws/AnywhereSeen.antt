-- Laws of rewriting places over maps of which only some is seen: what is seen goes the same way, if looking for a map is seen so.
use Rattle.std.specs.Prelude.{◌≡◌, ◌+◌, ◌++◌, ℕ, Bool, true, false, List, [], ◌∷◌, Option, is_some, if◌then◌else◌, unwrap_or}
use Rattle.std.specs.List.{FoldsTo}
use Rattle.std.proofs.Common.{ap, arith, refl, subst, sym, ◌∙◌}
use Rattle.smap_lines.specs.Editing.{DevicesSeen}
use Rattle.smap_lines.specs.Laws.Put.{takes_none}
use Rattle.smap_lines.specs.Laws.RunEnds.{gives_none}
use Rattle.smap_lines.specs.declared.fault.LineFault.{LineFault}
use Rattle.smap_lines.specs.declared.fault.LineFault.TheVariants.{Memory}
use Rattle.smap_record.specs.Record.{MapRecord}
use Rattle.smap_trace.specs.UrlNotes.{NotesSeen}
use Rattle.smap_trace.specs.declared.outcome.Summary.{Summary}
use Rattle.smap_anywhere.specs.Parts.{Part, PlaceUrl, found, other}
use Rattle.smap_anywhere.specs.PartSteps.{MayBeBy, MayBecomeBy, PartStep, PlaceStep, PlacesNow, naming_of, places_start}
use Rattle.smap_anywhere.specs.Replaced.{Replacing, by_maps}
use Rattle.smap_pairs.specs.Known.{UrlsKnown}
use Rattle.smap_pairs.specs.Chunks.{cuts_from}
use Rattle.smap_anywhere.specs.ChunkParts.{parts_in}
use Rattle.smap_anywhere.specs.Anywhere.{PlacesAsked, RewritesAnywhere, RewritesAnywhereFront, RewritesAnywhereFrontOver, RewritesAnywhereOver}
use Rattle.smap_anywhere.specs.NamedParts.{named_parts_in, parts_by}

module _ {M N F : Type 0} (by : Replacing F) (Finds : M → (url : List ℕ) → M → Type 0) (under : M → (url : List ℕ) → F)
    (Seen : N → (url : List ℕ) → N → Type 0) (under_seen : N → (url : List ℕ) → F) (see : M → N) (Is : M → Type 0)
    (finds : (old new : M) (url : List ℕ) → Is old → Finds old url new → Seen (see old) url (see new) × Is new)
    (same : (maps : M) (url : List ℕ) → Is maps → under maps url ≡ under_seen (see maps) url) where
  abbrev see_places : PlacesNow M → PlacesNow N
  see_places now = record { maps = see now.maps; text = now.text; places = now.places; mapped = now.mapped; namings = now.namings }

  place_goes : (old new : PlacesNow M) (place : PlaceUrl) (bytes : List ℕ) → Is old.maps → PlaceStep by Finds under old place bytes new
      → PlaceStep by Seen under_seen (see_places old) place bytes (see_places new) × Is new.maps
  place_goes old new place bytes is step =
      let one = finds old.maps new.maps place.url is step.finds in
      let found_so = same new.maps place.url one.1 in (
        record {
          finds = one.0;
          text_is = step.text_is ∙ ap (λ f. old.text ++ unwrap_or (by.text f place) bytes) found_so;
          places = step.places;
          mapped = step.mapped ∙ ap (λ f. old.mapped + (if is_some (by.text f place) then 1 else 0)) found_so;
          named = step.named ∙ ap (λ f. old.namings ++ naming_of by place f ∷ []) found_so;
        },
        one.1,
      )

  part_goes : (old new : PlacesNow M) (part : Part) → Is old.maps → PartStep by Finds under old part new
      → PartStep by Seen under_seen (see_places old) part (see_places new) × Is new.maps
  part_goes old new (other byte) is step = (ap see_places step, subst (λ (now : PlacesNow M). Is now.maps) (sym step) is)
  part_goes old new (found place bytes) is step = place_goes old new place bytes is step

  parts_go : (parts : List Part) (old new : PlacesNow M) → Is old.maps → FoldsTo (PartStep by Finds under) old parts new
      → FoldsTo (PartStep by Seen under_seen) (see_places old) parts (see_places new) × Is new.maps
  parts_go [] old new is folds = (ap see_places folds, subst (λ (now : PlacesNow M). Is now.maps) folds is)
  parts_go (part ∷ parts) old new is folds =
      let one = part_goes old folds.0 part is folds.1 in
      let more = parts_go parts folds.0 new one.1 folds.2 in
      ((see_places folds.0, one.0, more.0), more.1)

  pub anywhere_over_seen : (asked : PlacesAsked) (before after : DevicesSeen) (old new : M) (summary : Summary) (named others : NotesSeen) → Is old
      → RewritesAnywhereOver by Finds under asked before after old new summary named others
      → RewritesAnywhereOver by Seen under_seen asked before after (see old) (see new) summary named others
  anywhere_over_seen asked before after old new summary named others is_old is = record {
    bytes = is.bytes;
    last = see_places is.last;
    read = is.read;
    ended = is.ended;
    fits = is.fits;
    steps = (parts_go (asked.parts is.bytes) (places_start old) is.last is_old is.steps).0;
    maps = ap see is.maps;
    written = is.written;
    counted = is.counted;
    noted = is.noted;
    noted_others = is.noted_others;
  }

-- what may be found may be found by more
module _ {F : Type 0} (by : Replacing F) (Gives More : (url : List ℕ) → F → Type 0) (gives : (url : List ℕ) (found : F) → Gives url found → More url found) where
  part_more : (part : Part) (text : List ℕ) → MayBeBy by Gives part text → MayBeBy by More part text
  part_more (other byte) text may = may
  part_more (found place bytes) text may = (may.0, gives place.url may.0 may.1, may.2)

  parts_more : (parts : List Part) (text : List ℕ) → MayBecomeBy by Gives parts text → MayBecomeBy by More parts text
  parts_more [] text may = may
  parts_more (part ∷ parts) text may = (may.0, may.1, part_more part may.0 may.2, parts_more parts may.1 may.3, may.4)

  pub anywhere_front_over_seen : (asked : PlacesAsked) (before after : DevicesSeen) (fault : LineFault)
      → RewritesAnywhereFrontOver by Gives asked before after fault → RewritesAnywhereFrontOver by More asked before after fault
  anywhere_front_over_seen asked before after fault is = record {
    bytes = is.bytes;
    written = is.written;
    later = is.later;
    read = is.read;
    taken = is.taken;
    front = parts_more (asked.parts is.bytes) (is.written ++ is.later) is.front;
    many = is.many;
    whole = λ read first rest cut lines.
        let so = is.whole read first rest cut lines in
        (so.0, so.1, parts_more (asked.parts first) so.0 so.2, so.3);
  }

-- the same where functions keep their names
module _ {M N : Type 0} (Finds : M → (url : List ℕ) → M → Type 0) (under : M → (url : List ℕ) → Option MapRecord)
    (Seen : N → (url : List ℕ) → N → Type 0) (under_seen : N → (url : List ℕ) → Option MapRecord) (see : M → N) (Is : M → Type 0)
    (finds : (old new : M) (url : List ℕ) → Is old → Finds old url new → Seen (see old) url (see new) × Is new)
    (same : (maps : M) (url : List ℕ) → Is maps → under maps url ≡ under_seen (see maps) url) where
  pub anywhere_seen : (asked : PlacesAsked) (before after : DevicesSeen) (old new : M) (summary : Summary) (named others : NotesSeen) → Is old
      → RewritesAnywhere Finds under asked before after old new summary named others
      → RewritesAnywhere Seen under_seen asked before after (see old) (see new) summary named others
  anywhere_seen = anywhere_over_seen by_maps Finds under Seen under_seen see Is finds same

module _ (Gives More : (url : List ℕ) → Option MapRecord → Type 0)
    (gives : (url : List ℕ) (found : Option MapRecord) → Gives url found → More url found) where
  pub anywhere_front_seen : (asked : PlacesAsked) (before after : DevicesSeen) (fault : LineFault) → RewritesAnywhereFront Gives asked before after fault
      → RewritesAnywhereFront More asked before after fault
  anywhere_front_seen = anywhere_front_over_seen by_maps Gives More gives

-- where nothing was read, and a text without bytes has no parts
pub anywhere_over_none : {F : Type 0} (by : Replacing F) (Allows : (url : List ℕ) → F → Type 0) (asked : PlacesAsked) (now : DevicesSeen) → asked.parts [] ≡ []
    → RewritesAnywhereFrontOver by Allows asked now now Memory
anywhere_over_none by Allows asked now none = record {
  bytes = [];
  written = [];
  later = [];
  read = gives_none now.input.left;
  taken = takes_none now.output.taken;
  front = rw none refl;
  many = (λ e. absurd (cc), λ less. absurd (omega (arith, less)));
  whole = λ e. absurd (cc);
}

pub anywhere_front_of_none : (Allows : (url : List ℕ) → Option MapRecord → Type 0) (asked : PlacesAsked) (now : DevicesSeen) → asked.parts [] ≡ []
    → RewritesAnywhereFront Allows asked now now Memory
anywhere_front_of_none = anywhere_over_none by_maps

-- a text without bytes has none
pub parts_of_none : (known : UrlsKnown) → parts_in known [] ≡ []
unfolding parts_in cuts_from
parts_of_none known = refl

named_of_none : (known : UrlsKnown) → named_parts_in known [] ≡ []
unfolding named_parts_in cuts_from
named_of_none known = refl

pub parts_by_none : (is_named : Bool) (known : UrlsKnown) → parts_by is_named known [] ≡ []
parts_by_none false = parts_of_none
parts_by_none true = named_of_none
