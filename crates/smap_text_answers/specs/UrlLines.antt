-- What is said at the end of the URLs that a text named: a line for each of the first 100, with what decided, and the file that its map came from, or
-- why it had none (this project's own).
use Rattle.std.specs.Prelude.{◌≡◌, ◌⊎◌, ℕ, ◌==◌, ◌&&◌, ◌-◌, Bool, false, not, List, [], ◌∷◌, ◌++◌, Option, Some, None, Ok, Err, MatchBool, MatchOption, codes, if◌then◌else◌}
use Rattle.std.specs.Prelude.{length, option_map, take, unwrap_or}
use Rattle.std.specs.Fmt.{decimal}
use Rattle.std.specs.List.{concat, find}
use Rattle.std.specs.Str.{bytes_eq}
use Rattle.url.specs.Parts.{Parts}
use Rattle.smap_io.specs.Device.{SinkSeen}
use Rattle.smap_io.specs.declared.transfer.ReadFailure.TheVariants.{Device}
use Rattle.smap_locations.specs.Deciding.{decided_by}
use Rattle.smap_locations.specs.ListLine.{is_rule}
use Rattle.smap_locations.specs.Locations.{LocationsSeen, or_else, path_for}
use Rattle.smap_record.specs.Record.{MapRecord}
use Rattle.smap_record.specs.declared.refusal.MapRefusal.{MapRefusal}
use Rattle.smap_replies.specs.Files.{MayRead}
use Rattle.smap_replies.specs.Lines.{memory_line}
use Rattle.smap_replies.specs.Map.{refusal_result}
use Rattle.smap_replies.specs.Streams.{IsReportedTo}
use Rattle.smap_replies.specs.declared.files.UnreadCause.{UnreadCause}
use Rattle.smap_replies.specs.declared.files.UnreadCause.TheVariants as causes
use Rattle.smap_text.specs.Shown.{shown}
use Rattle.smap_replies.specs.Standing.{IsRefusedFor}
use Rattle.smap_trace.specs.declared.maps.NoMap.TheVariants.{Unnamed}
use Rattle.smap_text_answers.specs.Fitting.{misfit_report}
use Rattle.smap_text_answers.specs.Loader.{FailsBy, IsUsable}
use Rattle.smap_text_answers.specs.Told.{Said}
use Rattle.smap_text_answers.specs.Standing.{record_loaded}
use Rattle.smap_store.specs.Fileless.{asks_no_file}
use Rattle.smap_text_answers.specs.NearestUrl.{nearest_of}
use Rattle.smap_trace.specs.UrlNotes.{NotesSeen, UrlNoteSeen}

-- how many frames name the URL, or places anywhere, and how many of them were replaced
abbrev pub frames_text : (count : ℕ) → List ℕ
frames_text count = if count == 1 then codes " frame, " else codes " frames, "

abbrev pub places_text : (count : ℕ) → List ℕ
places_text count = if count == 1 then codes " place, " else codes " places, "

abbrev pub counts_text : (anywhere : Bool) → (count mapped : ℕ) → List ℕ
counts_text anywhere count mapped = concat (
    codes ": " ∷ decimal count
    ∷ (if anywhere then places_text count else frames_text count)
    ∷ decimal mapped ∷ codes " mapped, "
    ∷ [])

-- ---- a map was found

-- the file that an argument names for a URL
abbrev pub word_file : (url : List ℕ) → List (List ℕ × List ℕ) → Option (List ℕ)
word_file url arguments = option_map (λ a. a.1) (find (λ a. not (is_rule a.0 a.1) && bytes_eq url a.0) arguments)

-- the file of a URL, where it has one
abbrev pub url_file : (url : List ℕ) → List (List ℕ × List ℕ) → LocationsSeen → List ℕ
url_file url arguments locations = unwrap_or (or_else (word_file url arguments) (path_for locations url)) []

-- what decides which file a URL has: an argument that names one, or what decides of the others and of the list; as it was named
abbrev pub word_name : (url : List ℕ) → (word : Option (List ℕ)) → Option (List ℕ)
word_name url None = None
word_name url (Some file) = Some url

abbrev pub deciding_name : (url : List ℕ) → List (List ℕ × List ℕ) → LocationsSeen → List ℕ
deciding_name url arguments locations = unwrap_or (or_else (word_name url (word_file url arguments)) (decided_by locations url)) []

-- the first place for which the map has no original, or none whose source can be printed
abbrev pub unmapped_text : ℕ × ℕ → List ℕ
unmapped_text (line, column) = concat (codes ", no original to print for " ∷ decimal line ∷ codes ":" ∷ decimal column ∷ codes ": see smap lookup" ∷ [])

-- or, where there is none, how many frames were left out
abbrev pub hidden_text : (count : ℕ) → List ℕ
hidden_text count = if count == 0 then [] else concat (codes ", " ∷ decimal count ∷ codes " hidden" ∷ [])

abbrev pub rest_text : (unmapped : Option (ℕ × ℕ)) → (left : ℕ) → List ℕ
rest_text None left = hidden_text left
rest_text (Some place) left = unmapped_text place

abbrev pub found_text : (name file : List ℕ) → UrlNoteSeen → List ℕ
found_text name file note = concat (
    codes "by " ∷ shown (take 1024 name)
    ∷ codes " from " ∷ shown file
    ∷ rest_text note.unmapped (note.frames - note.mapped)
    ∷ [])

-- ---- no file is asked for it

abbrev pub no_file_asked_text : List ℕ
no_file_asked_text = codes "no file is asked for such a URL"

-- ---- no argument has the URL

abbrev pub nearest_text : (url : List ℕ) → Option (List ℕ) → List ℕ
nearest_text url None = []
nearest_text url (Some nearest) =
    if bytes_eq nearest url then codes ", but for a folder: URL=FILE gives its map" else codes ", the nearest is " ++ shown nearest

abbrev pub unknown_text : (url : List ℕ) → Option (List ℕ) → List ℕ
unknown_text url nearest = codes "no argument and no list has this URL" ++ nearest_text url nearest

-- ---- its file gives no map

abbrev pub cause_text : UnreadCause → List ℕ
cause_text causes.Missing = codes "no such file"
cause_text causes.Folder = codes "it is a folder"
cause_text causes.NoPermission = codes "no permission"
cause_text causes.Other = codes "another cause"

abbrev pub unread_text : (path : List ℕ) → UnreadCause → List ℕ
unread_text path cause = concat (codes "cannot read " ∷ shown path ∷ codes ": " ∷ cause_text cause ∷ [])

-- a line without its LF
abbrev pub body_of : (line : List ℕ) → List ℕ
body_of line = take (length line - 1) line

-- its map is refused, or does not fit its generated file, and what says more
abbrev pub refused_text : (path : List ℕ) → MapRefusal → List ℕ
refused_text path refusal = body_of (refusal_result path refusal).text ++ codes ": see smap check --explain"

abbrev pub misfit_text : (path : List ℕ) → List ℕ
misfit_text path = body_of (misfit_report path).text ++ codes ": see smap fit --explain"

-- no map came from it, and now one comes
abbrev pub late_text : (path : List ℕ) → List ℕ
late_text path = codes "no map came from " ++ shown path

module _ (Reads : MayRead) (paths : Bool) (base : Option Parts) (k number : ℕ) (fit : Option ℕ) where
  -- the file can't be read, and of that this is a cause
  abbrev pub IsUnreadFor : (path text : List ℕ) → Type 0
  IsUnreadFor path text = Reads number path (Err Device) × ((cause : UnreadCause) × (text ≡ unread_text path cause))

  -- it is read, and its map is refused, and this is how
  abbrev pub IsRefusedBy : (url path text : List ℕ) → Type 0
  IsRefusedBy url path text = (bytes : List ℕ) × (refusal : MapRefusal) × Reads number path (Ok bytes)
      × IsRefusedFor (record_loaded paths base k url bytes) refusal × (text ≡ refused_text path refusal)

  -- or it does not fit its generated file
  abbrev pub IsMisfitBy : (url path text : List ℕ) → Type 0
  IsMisfitBy url path text = FailsBy Reads paths base k number fit Unnamed url path × (text ≡ misfit_text path)

  -- or it gives a map now
  abbrev pub IsLate : (url path text : List ℕ) → Type 0
  IsLate url path text =
      ((stated : MapRecord) × (file_bytes : ℕ) × (said : Said) × IsUsable Reads paths base k number fit url path stated file_bytes said)
      × (text ≡ late_text path)

  -- what reading it again comes to
  unfoldable pub IsCause : (url path text : List ℕ) → Type 0
  IsCause url path text = IsUnreadFor path text ⊎ IsRefusedBy url path text ⊎ IsMisfitBy url path text ⊎ IsLate url path text

  -- ---- a line for each

  module _ (arguments : List (List ℕ × List ℕ)) (locations : LocationsSeen) where
    -- why a URL has no map
    abbrev pub IsWhy : (url text : List ℕ) → Type 0
    IsWhy url text = MatchBool (asks_no_file locations url) (text ≡ no_file_asked_text)
        (MatchOption (path_for locations url) (text ≡ unknown_text url (nearest_of url arguments)) (λ path. IsCause url path text))

    abbrev pub IsEnd : UrlNoteSeen → (text : List ℕ) → Type 0
    IsEnd note text = MatchBool note.found (text ≡ found_text (deciding_name note.url arguments locations) (url_file note.url arguments locations) note) (IsWhy note.url text)

    -- of frames, or of places anywhere
    module _ (anywhere : Bool) where
      -- of a longer URL the first 1,024 bytes are printed
      abbrev pub IsUrlLine : UrlNoteSeen → (line : List ℕ) → Type 0
      IsUrlLine note line =
          (end : List ℕ) × IsEnd note end × (line ≡ shown (take 1024 note.url) ++ counts_text anywhere note.frames note.mapped ++ end ++ codes "\n")

      abbrev pub AreUrlLines : List UrlNoteSeen → (text : List ℕ) → Type 0
      AreUrlLines [] text = text ≡ []
      AreUrlLines (note ∷ notes) text = (line : List ℕ) × (rest : List ℕ) × IsUrlLine note line × AreUrlLines notes rest × (text ≡ line ++ rest)

      -- where no URL was named, this is said
      abbrev pub AreAllLines : (nothing : List ℕ) → List UrlNoteSeen → (text : List ℕ) → Type 0
      AreAllLines nothing [] text = text ≡ nothing
      AreAllLines nothing (note ∷ notes) text = AreUrlLines (note ∷ notes) text

      -- these lines are reported, of the URLs that were named, and behind them of those that look like one and are not known; or that
      -- memory ran out
      abbrev pub TellsUrls : (nothing : List ℕ) → (notes others : NotesSeen) → (status : ℕ) → (before after : SinkSeen) → Type 0
      TellsUrls nothing notes others status before after =
          ((text : List ℕ) × (status ≡ 0) × (notes.is_short ≡ false) × (others.is_short ≡ false) × AreAllLines nothing (notes.notes ++ others.notes) text
          × IsReportedTo before after text) ⊎ ((status ≡ 3) × IsReportedTo before after memory_line)
