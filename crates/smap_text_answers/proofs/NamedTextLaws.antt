-- Laws of rewriting texts over maps, with names or without, of which only some is seen: what is seen goes the same way.
use Rattle.std.specs.Prelude.{◌≡◌, ℕ, Bool, true, List, Option}
use Rattle.smap_anywhere.specs.Anywhere.{PlacesAsked}
use Rattle.smap_anywhere.specs.Laws.AnywhereSeen.{anywhere_front_over_seen, anywhere_over_seen}
use Rattle.smap_anywhere.specs.NamedParts.{by_names, found_by, gives_by}
use Rattle.smap_anywhere.specs.Replaced.{Replacing}
use Rattle.smap_lines.specs.Editing.{DevicesSeen}
use Rattle.smap_lines.specs.declared.fault.LineFault.{LineFault}
use Rattle.smap_record.specs.Record.{MapRecord}
use Rattle.smap_store.specs.Named.{NamedSeen, names_in}
use Rattle.smap_text_answers.specs.Naming.{RewritesNamedText, RewritesNamedTextFront, found_beside}
use Rattle.smap_text_answers.specs.Places.{RewritesPlacesOver}
use Rattle.smap_text_answers.proofs.BesideLaws.{when_both}
use Rattle.smap_text_answers.proofs.NamedLaws.{names_front_so, names_seen_so}
use Rattle.smap_trace.specs.FunctionNames.{FunctionNames}
use Rattle.smap_trace.specs.Rewriting.{RewriteAsked}
use Rattle.smap_trace.specs.UrlNotes.{NotesSeen}
use Rattle.smap_trace.specs.declared.outcome.RewriteCounts.{RewriteCounts}

-- ---- places

module _ {M N F : Type 0} (by : Replacing F) (Finds : M → (url : List ℕ) → M → Type 0) (under : M → (url : List ℕ) → F)
    (Seen : N → (url : List ℕ) → N → Type 0) (under_seen : N → (url : List ℕ) → F) (see : M → N) (Is : M → Type 0)
    (finds : (old new : M) (url : List ℕ) → Is old → Finds old url new → Seen (see old) url (see new) × Is new)
    (same : (maps : M) (url : List ℕ) → Is maps → under maps url ≡ under_seen (see maps) url) where
  pub places_seen_so : (asked : PlacesAsked) (before after : DevicesSeen) (old new : M) (counts : RewriteCounts) (notes others : NotesSeen) → Is old
      → RewritesPlacesOver by Finds under asked before after old new counts notes others
      → RewritesPlacesOver by Seen under_seen asked before after (see old) (see new) counts notes others
  places_seen_so asked before after old new counts notes others is_old is = record {
    over = anywhere_over_seen by Finds under Seen under_seen see Is finds same asked before after old new counts.summary notes others is_old is.over;
    long = is.long;
    passed = is.passed;
  }

-- ---- a text over a store with names

module _ {L N M P : Type 0} (Finds : NamedSeen L N → (url : List ℕ) → NamedSeen L N → Type 0)
    (Seen : NamedSeen M P → (url : List ℕ) → NamedSeen M P → Type 0) (see : NamedSeen L N → NamedSeen M P) (Is : NamedSeen L N → Type 0)
    (finds : (old new : NamedSeen L N) (url : List ℕ) → Is old → Finds old url new → Seen (see old) url (see new) × Is new)
    (same : (maps : NamedSeen L N) (url : List ℕ) → found_beside maps url ≡ found_beside (see maps) url)
    (same_names : (maps : NamedSeen L N) (url : List ℕ) → names_in maps url ≡ names_in (see maps) url) where
  both_same : (maps : NamedSeen L N) (url : List ℕ) → Is maps
      → found_by true found_beside names_in maps url ≡ found_by true found_beside names_in (see maps) url
  both_same maps url is = λ i. (same maps url i, same_names maps url i)

  pub named_text_so : (anywhere : Bool) (places : PlacesAsked) (frames : RewriteAsked) (before after : DevicesSeen) (old new : NamedSeen L N)
      (counts : RewriteCounts) (notes others : NotesSeen) → Is old → RewritesNamedText anywhere places frames Finds before after old new counts notes others
      → RewritesNamedText anywhere places frames Seen before after (see old) (see new) counts notes others
  named_text_so anywhere places frames before after old new counts notes others is_old =
      when_both anywhere _ _ _ _
      (places_seen_so by_names Finds (found_by true found_beside names_in) Seen (found_by true found_beside names_in) see Is finds both_same places before after
      old new counts notes others is_old)
      (λ is. (
        names_seen_so Finds found_beside names_in Seen found_beside names_in see Is finds same same_names frames before after old new counts notes is_old is.0,
        is.1,
      ))

-- or up to a fault
module _ (Gives Given : (url : List ℕ) → Option MapRecord → Type 0) (May More : (url : List ℕ) → Option MapRecord → Option FunctionNames → Type 0)
    (more : (url : List ℕ) (found : Option MapRecord) (names : Option FunctionNames) → May url found names → More url found names) where
  pub named_front_so : (anywhere : Bool) (places : PlacesAsked) (frames : RewriteAsked) (before after : DevicesSeen) (fault : LineFault)
      → RewritesNamedTextFront anywhere places frames Gives May before after fault → RewritesNamedTextFront anywhere places frames Given More before after fault
  named_front_so anywhere places frames before after fault =
      when_both anywhere _ _ _ _
      (anywhere_front_over_seen by_names (gives_by true Gives May) (gives_by true Given More) (λ url found may. more url found.0 found.1 may) places before after fault)
      (names_front_so Gives Given May More more frames.hide frames.most before after fault)
