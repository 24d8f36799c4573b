-- Rewriting over the maps of a table, for devices in memory.
use Rattle.std.proofs.Common.{◌≡◌, ◌∙◌, ◌++◌, ◌∷◌, ◌<◌, ◌≤◌, ℕ, [], List, Bool, Option, Some, None, true, false, ap, append-nil, arith, length, length-append, refl, subst, sym}
use Rattle.std.specs.Io.KnownBytes.{IsAtEnd}
use Rattle.std.specs.Option.{IfSome}
use Rattle.std.specs.Prelude.{⊤, Err, Ok, Result, unwrap_or}
use Rattle.std.specs.Result.{IfErr, IfOk}
use Rattle.std.proofs.lemmas.Bool.{cond-false, cond-true}
use Rattle.smap_io.specs.Device.{Gives, Takes}
use Rattle.smap_lines.specs.Editing.{DevicesSeen}
use Rattle.smap_lines.specs.Limits.{most_text_bytes}
use Rattle.smap_lines.specs.declared.fault.LineFault.{LineFault}
use Rattle.smap_lines.specs.declared.fault.LineFault.TheVariants.{Memory, TooMuch}
use Rattle.smap_record.specs.Record.{MapRecord}
use Rattle.smap_anywhere.specs.Anywhere.{RewritesAnywhereFrontOver, RewritesAnywhereOver}
use Rattle.smap_anywhere.specs.AnywhereBy.{RewritesAnywhereUnder}
use Rattle.smap_anywhere.specs.Laws.AnywhereBy.{anywhere_under}
use Rattle.smap_anywhere.specs.NamedParts.{by_names, found_by, gives_by, named_parts_in}
use Rattle.smap_anywhere.specs.PartSteps.{MayBeBy, MayBecomeBy}
use Rattle.smap_anywhere.specs.Replaced.{Replacing, part_text_by, parts_text_by}
use Rattle.smap_anywhere.specs.Parts.{Part, found, other}
use Rattle.smap_store.specs.UrlTable.{UrlTableSeen, map_under, named_by_url, names_under}
use Rattle.smap_store.specs.declared.url_maps.UrlMaps.{UrlMaps}
use Rattle.smap_trace.specs.Hiding.{only_ignored}
use Rattle.smap_trace.specs.FunctionNames.{FunctionNames}
use Rattle.smap_trace.specs.Laws.MapsOf.{front_named_by, rewrites_named_by}
use Rattle.smap_trace.specs.MapsOf.{RewritesNamedBy, counts_named, rewritten_named}
use Rattle.smap_trace.specs.Rewriting.{RewritesNamed, RewritesNamedFront, frames_alone}
use Rattle.smap_trace.specs.UrlNotes.{NotesSeen}
use Rattle.smap_trace.specs.declared.outcome.RewriteCounts.{RewriteCounts}
use Rattle.smap_trace.specs.declared.outcome.Summary.{Summary}
use Rattle.smap_c.specs.Private.Rewriting.{EndsRewriting, HasFront, IsRewritten, IsTooMuch}
use Rattle.smap_c.specs.Trace.{found_in, place_counts_by, placed_by, places_asked, text_of, urls_of}
use Rattle.smap_c.specs.declared.trace.RewriteOptions.{RewriteOptions}

module _ (table : UrlTableSeen) (cut : Bool) where
  abbrev UrlFinds : UrlMaps → (url : List ℕ) → UrlMaps → Type 0
  UrlFinds maps url after = after ≡ maps

  abbrev url_found : UrlMaps → (url : List ℕ) → Option MapRecord
  url_found maps url = map_under maps.cut maps.table.now url

  abbrev url_names : UrlMaps → (url : List ℕ) → Option FunctionNames
  url_names maps url = names_under maps.cut maps.table.now url

  -- those stay
  abbrev IsOver : UrlMaps → Type 0
  IsOver maps = (maps.table.now ≡ table) × (maps.cut ≡ cut)

  over_found : (maps : UrlMaps) (url : List ℕ) → IsOver maps → url_found maps url ≡ map_under cut table url
  over_found maps url is = λ i. map_under (is.1 i) (is.0 i) url

  over_names : (maps : UrlMaps) (url : List ℕ) → IsOver maps → url_names maps url ≡ names_under cut table url
  over_names maps url is = λ i. names_under (is.1 i) (is.0 i) url

  over_next : (old new : UrlMaps) → new ≡ old → IsOver old → IsOver new
  over_next old new same is = (ap (λ m. m.table.now) same ∙ is.0, ap (λ m. m.cut) same ∙ is.1)

  -- so a trace becomes what those make of it
  pub rewrites_table : (hide : Bool) (before after : DevicesSeen) (old new : UrlMaps) (counts : RewriteCounts) (notes : NotesSeen) → IsOver old
      → RewritesNamed UrlFinds url_found url_names (frames_alone (only_ignored hide) most_text_bytes) before after old new counts notes
      → RewritesNamedBy (named_by_url cut table) (only_ignored hide) most_text_bytes before after counts
  rewrites_table hide before after old new counts notes is all =
      rewrites_named_by UrlFinds url_found url_names (named_by_url cut table) (λ maps. ⊤) IsOver (λ old new url finds good. tt)
      (λ old new url finds good is. let stays = over_next old new finds is in (over_found new url stays, over_names new url stays, stays))
      (frames_alone (only_ignored hide) most_text_bytes) before after old new counts notes all tt is

-- ---- places

module _ (table : UrlTableSeen) where
  -- a text becomes by its places what those make of it
  pub places_table : (before after : DevicesSeen) (old new : UrlMaps) (summary : Summary) (named others : NotesSeen) → IsOver table true old
      → RewritesAnywhereOver by_names (UrlFinds table true) (found_by true (url_found table true) (url_names table true)) (places_asked table)
      before after old new summary named others
      → RewritesAnywhereUnder by_names (found_in table) (named_parts_in (urls_of table)) most_text_bytes before after summary
  places_table before after old new summary named others is all =
      anywhere_under by_names (UrlFinds table true) (found_by true (url_found table true) (url_names table true)) (found_in table) (λ maps. ⊤)
      (IsOver table true) (λ old new url finds good. tt)
      (λ old new url finds good is. let stays = over_next table true old new finds is in
      ((λ i. (over_found table true new url stays i, over_names table true new url stays i)), stays))
      (places_asked table) before after old new summary named others all tt is

-- ---- a front of a text

module _ {F : Type 0} (by : Replacing F) (given : List ℕ → F) (Allows : (url : List ℕ) → F → Type 0)
    (allowed : (url : List ℕ) (one : F) → Allows url one → one ≡ given url) where
  part_under : (part : Part) (text : List ℕ) → MayBeBy by Allows part text → text ≡ part_text_by by given part
  part_under (other byte) text is = is
  part_under (found place bytes) text is = is.2 ∙ ap (λ f. unwrap_or (by.text f place) bytes) (allowed place.url is.0 is.1)

  -- and so are parts
  parts_under : (parts : List Part) (text : List ℕ) → MayBecomeBy by Allows parts text → text ≡ parts_text_by by given parts
  parts_under [] text is = is
  parts_under (part ∷ parts) text is = is.4 ∙ (λ i. part_under part is.0 is.2 i ++ parts_under parts is.1 is.3 i)

-- ---- devices in memory

-- what holds of the bytes that an input shows
pub if_read : (left : Option (List ℕ)) (P : List ℕ → Type 0) → ((read : List ℕ) → left ≡ Some read → P read) → IfSome left P
if_read None P each = tt
if_read (Some read) P each = each read refl

-- all that was there was read
all_given : (text bytes : List ℕ) (left : Option (List ℕ)) → Gives (Some text) left bytes → IsAtEnd left → bytes ≡ text
all_given text bytes None gives ended = cc
all_given text bytes (Some left) gives ended =
    let none : left ≡ [] = ended in
    let whole : text ≡ bytes ++ left = cc in
    sym (append-nil bytes) ∙ ap (λ l. bytes ++ l) (sym none) ∙ sym whole

-- what was read is no longer
given_within : (most : ℕ) (text bytes : List ℕ) (left : Option (List ℕ)) → Gives (Some text) left bytes → most < length bytes → most < length text
given_within most text bytes None gives less = cc
given_within most text bytes (Some left) gives less =
    let whole : text ≡ bytes ++ left = cc in
    omega (arith, ap length whole, length-append bytes left, less)

-- where it is too much, all that was there is
pub too_much : (read : List ℕ) (left after : Option (List ℕ)) → left ≡ Some read → (bytes : List ℕ) → Gives left after bytes
    → (fault : LineFault) → (fault ≡ TooMuch → most_text_bytes < length bytes) → IsTooMuch read fault
too_much read left after is bytes gives fault many too =
    given_within most_text_bytes read bytes after (subst (λ o. Gives o after bytes) is gives) (many too)

-- and it is a front
given_front : (text bytes : List ℕ) (left : Option (List ℕ)) → Gives (Some text) left bytes → (rest : List ℕ) × (text ≡ bytes ++ rest)
given_front text bytes None gives = absurd (cc)
given_front text bytes (Some left) gives = (left, cc)

-- where memory ran out before anything was written
pub memory_ends : (options : RewriteOptions) (table : UrlTableSeen) (left : Option (List ℕ)) (written : List ℕ) → written ≡ []
    → IfSome left (λ read. EndsRewriting options table read written (Err Memory))
memory_ends options table left written none =
    if_read left (λ read. EndsRewriting options table read written (Err Memory)) (λ read is. (
      λ too. absurd (cc),
      record {
        front = [];
        rest = read;
        later = text_of options table [];
        is_front = refl;
        made = ap (λ w. w ++ text_of options table []) (sym none);
      },
    ))

-- and what was made of it was written
all_taken : (written made : List ℕ) → Takes (Some []) (Some written) made → written ≡ made
all_taken written made takes = cc

module _ (options : RewriteOptions) (table : UrlTableSeen) (read written : List ℕ) (before after : DevicesSeen)
    (at_first : before.input.left ≡ Some read) (empty : before.output.taken ≡ Some []) (full : after.output.taken ≡ Some written) where
  all_read : (bytes : List ℕ) → Gives before.input.left after.input.left bytes → IsAtEnd after.input.left → bytes ≡ read
  all_read bytes gives ended = all_given read bytes after.input.left (subst (λ o. Gives o after.input.left bytes) at_first gives) ended

  all_written : (made : List ℕ) → Takes before.output.taken after.output.taken made → written ≡ made
  all_written made takes =
      all_taken written made (subst (λ o. Takes o (Some written) made) empty (subst (λ o. Takes before.output.taken o made) full takes))

  pub frames_are : (counts : RewriteCounts) → options.anywhere ≡ false
      → RewritesNamedBy (named_by_url options.cut table) (only_ignored options.hide_ignored) most_text_bytes before after counts
      → IsRewritten options table read written counts.summary
  frames_are counts by_frames is =
      let maps = named_by_url options.cut table in
      let hide = only_ignored options.hide_ignored in
      let all : is.bytes ≡ read = all_read is.bytes is.edits.read is.edits.ended in
      record {
        text_is = all_written (rewritten_named maps hide is.bytes) is.edits.written ∙ ap (rewritten_named maps hide) all
            ∙ sym (cond-false options.anywhere (placed_by table read) (rewritten_named maps hide read) by_frames);
        counted = is.counted ∙ ap (counts_named maps hide) all
            ∙ sym (cond-false options.anywhere (place_counts_by table read) (counts_named maps hide read) by_frames);
        fits = subst (λ l. length l ≤ most_text_bytes) all is.edits.fits;
      }

  places_are : (summary : Summary) → options.anywhere ≡ true
      → RewritesAnywhereUnder by_names (found_in table) (named_parts_in (urls_of table)) most_text_bytes before after summary
      → IsRewritten options table read written summary
  unfolding placed_by place_counts_by
  places_are summary anywhere is =
      let hide = only_ignored options.hide_ignored in
      let all : is.bytes ≡ read = all_read is.bytes is.read is.ended in
      record {
        text_is = all_written (placed_by table is.bytes) is.written ∙ ap (placed_by table) all
            ∙ sym (cond-true options.anywhere (placed_by table read) (rewritten_named (named_by_url options.cut table) hide read) anywhere);
        counted = is.counted ∙ ap (place_counts_by table) all
            ∙ sym (cond-true options.anywhere (place_counts_by table read) (counts_named (named_by_url options.cut table) hide read) anywhere);
        fits = subst (λ l. length l ≤ most_text_bytes) all is.fits;
      }

  front_read : (bytes : List ℕ) → Gives before.input.left after.input.left bytes → (rest : List ℕ) × (read ≡ bytes ++ rest)
  front_read bytes gives = given_front read bytes after.input.left (subst (λ o. Gives o after.input.left bytes) at_first gives)

  pub frames_front : (fault : LineFault) → options.anywhere ≡ false
      → RewritesNamedFront (λ url stated. stated ≡ map_under options.cut table url)
      (λ url stated written. (stated ≡ map_under options.cut table url) × (written ≡ names_under options.cut table url))
      true (only_ignored options.hide_ignored) most_text_bytes before after fault
      → IsTooMuch read fault × HasFront options table read written
  frames_front fault by_frames is =
      let maps = named_by_url options.cut table in
      let hide = only_ignored options.hide_ignored in
      let front = front_read is.bytes is.read in (
        too_much read before.input.left after.input.left at_first is.bytes is.read fault is.many.0,
        record {
          front = is.bytes;
          rest = front.0;
          later = is.later;
          is_front = front.1;
          made = cond-false options.anywhere (placed_by table is.bytes) (rewritten_named maps hide is.bytes) by_frames
              ∙ sym (front_named_by (λ url stated. stated ≡ map_under options.cut table url)
              (λ url stated written. (stated ≡ map_under options.cut table url) × (written ≡ names_under options.cut table url))
              maps hide (λ url stated written is. is) is.bytes (is.written ++ is.later) is.front)
              ∙ ap (λ w. w ++ is.later) (sym (all_written is.written is.taken));
        },
      )

  -- what may be found under a URL
  abbrev TableGives : (url : List ℕ) → Option MapRecord × Option FunctionNames → Type 0
  TableGives = gives_by true (λ url stated. stated ≡ map_under true table url)
      (λ url stated written. (stated ≡ map_under true table url) × (written ≡ names_under true table url))

  places_front : (fault : LineFault) → options.anywhere ≡ true
      → RewritesAnywhereFrontOver by_names TableGives (places_asked table) before after fault
      → IsTooMuch read fault × HasFront options table read written
  unfolding placed_by
  places_front fault anywhere is =
      let hide = only_ignored options.hide_ignored in
      let front = front_read is.bytes is.read in (
        too_much read before.input.left after.input.left at_first is.bytes is.read fault is.many.0,
        record {
          front = is.bytes;
          rest = front.0;
          later = is.later;
          is_front = front.1;
          made = cond-true options.anywhere (placed_by table is.bytes) (rewritten_named (named_by_url options.cut table) hide is.bytes) anywhere
              ∙ sym (parts_under by_names (found_in table) TableGives (λ url one is. λ i. (is.0 i, is.1 i))
              (named_parts_in (urls_of table) is.bytes) (is.written ++ is.later) is.front)
              ∙ ap (λ w. w ++ is.later) (sym (all_written is.written is.taken));
        },
      )

  -- so it ends
  pub places_end : (result : Result Summary LineFault) → options.anywhere ≡ true
      → IfOk result (RewritesAnywhereUnder by_names (found_in table) (named_parts_in (urls_of table)) most_text_bytes before after)
      → IfErr result (RewritesAnywhereFrontOver by_names TableGives (places_asked table) before after)
      → EndsRewriting options table read written result
  places_end (Ok summary) anywhere whole front = places_are summary anywhere whole
  places_end (Err fault) anywhere whole front = places_front fault anywhere front
