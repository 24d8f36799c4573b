-- How places are answered over maps that are read when a line names their URLs (this project's own): the map of each URL is looked
-- for, and what is found then answers.
use Rattle.std.specs.Prelude.{◌≡◌, ℕ, List, Option, Some, None}
use Rattle.std.specs.Result.{result_ok}
use Rattle.smap_lines.specs.Lines.{Line}
use Rattle.smap_text_answers.specs.UrlPlace.{UrlPlace, place_of}
use Rattle.smap_printing.specs.Places.{bad_place_line, place_line}
use Rattle.smap_command.specs.declared.options.AnswerOptions.{AnswerOptions}
use Rattle.smap_record.specs.Record.{MapRecord}
use Rattle.smap_store.specs.Loaded.{Outcome}
use Rattle.smap_store.specs.Stored.{StoredSeen, outcome_at}

-- the line for a place, where this is found under its URL
abbrev pub located_line : AnswerOptions → UrlPlace → Outcome → List ℕ
located_line options place outcome = place_line options None place.url place.position outcome

-- ---- a line

-- what becomes of a line that asks for this place, or none, and how the maps stand then
abbrev pub Locates : {L : Type 0} → (Finds : StoredSeen L → (url : List ℕ) → StoredSeen L → Type 0) → AnswerOptions → (old : StoredSeen L) → Option UrlPlace → (text : List ℕ)
    → (new : StoredSeen L) → Type 0
Locates Finds options old None text new = (text ≡ bad_place_line options.form) × (new ≡ old)
Locates Finds options old (Some place) text new = Finds old place.url new × (text ≡ located_line options place (outcome_at new place.url))

abbrev pub LocateStep : {L : Type 0} → (Finds : StoredSeen L → (url : List ℕ) → StoredSeen L → Type 0) → AnswerOptions → (old : StoredSeen L) → Line → (text : List ℕ)
    → (new : StoredSeen L) → Type 0
LocateStep Finds options old line text new = Locates Finds options old (place_of line.bytes) text new

-- what it may become, where each URL may have these maps
abbrev pub MayLocate : (Gives : (url : List ℕ) → Option MapRecord → Type 0) → AnswerOptions → Option UrlPlace → (text : List ℕ) → Type 0
MayLocate Gives options None text = text ≡ bad_place_line options.form
MayLocate Gives options (Some place) text =
    (outcome : Outcome) × Gives place.url (result_ok outcome) × (text ≡ located_line options place outcome)

abbrev pub BecomesAnswer : (Gives : (url : List ℕ) → Option MapRecord → Type 0) → AnswerOptions → Line → (text : List ℕ) → Type 0
BecomesAnswer Gives options line text = MayLocate Gives options (place_of line.bytes) text
