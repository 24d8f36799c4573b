-- What places are answered where each path gives the same whenever it is read: what the map of each URL answers that has a file with
-- one, and else why there is none.
use Rattle.std.specs.Prelude.{◌≡◌, ◌⊎◌, ℕ, Bool, List, Option, Some, None, Result, Ok, Err}
use Rattle.url.specs.Parts.{Parts}
use Rattle.smap_io.specs.Device.{Gives, Takes}
use Rattle.smap_lines.specs.Edited.{IsEdited}
use Rattle.smap_lines.specs.Editing.{DevicesSeen}
use Rattle.smap_lines.specs.Lines.{Line}
use Rattle.smap_text_answers.specs.Locating.{located_line}
use Rattle.smap_text_answers.specs.UrlPlace.{UrlPlace, place_of}
use Rattle.smap_locations.specs.Locations.{LocationsSeen, key_for, path_for}
use Rattle.smap_printing.specs.Places.{bad_place_line}
use Rattle.smap_command.specs.declared.options.AnswerOptions.{AnswerOptions}
use Rattle.smap_record.specs.Record.{MapRecord}
use Rattle.smap_record.specs.declared.refusal.MapRefusal.{MapRefusal}
use Rattle.smap_record.specs.declared.refusal.MapRefusal.TheVariants.{Url}
use Rattle.smap_store.specs.Fileless.{known_of}
use Rattle.smap_store.specs.Loaded.{Outcome}
use Rattle.smap_trace.specs.declared.maps.NoMap.TheVariants.{Unnamed, Unread, Refused, Memory}
use Rattle.smap_text_answers.specs.SameBytes.{BytesByPath}
use Rattle.smap_text_answers.specs.Standing.{record_loaded}

-- what the bytes of a file are found to be, by what they state; resolving a source may give a URL that is too long
abbrev pub IsFoundIn : Result MapRecord MapRefusal → Outcome → Type 0
IsFoundIn (Ok stated) outcome = (outcome ≡ Ok stated) ⊎ (outcome ≡ Err (Refused Url))
IsFoundIn (Err refused) outcome = outcome ≡ Err (Refused refused)

module _ (paths : Bool) (base : Option Parts) (k : ℕ) where
  -- the same of a file that has bytes, or can't be read
  abbrev pub IsFoundOf : (url : List ℕ) (bytes : Option (List ℕ)) → Outcome → Type 0
  IsFoundOf url None outcome = outcome ≡ Err Unread
  IsFoundOf url (Some bytes) outcome = IsFoundIn (record_loaded paths base k url bytes) outcome

  module _ (bytes_at : BytesByPath) where
    -- the same of the file that a URL has, where it has one
    abbrev pub IsFoundFor : (url : List ℕ) (path : Option (List ℕ)) → Outcome → Type 0
    IsFoundFor url None outcome = outcome ≡ Err Unnamed
    IsFoundFor url (Some path) outcome = IsFoundOf url (bytes_at path) outcome

    module _ (exact : List (List ℕ × MapRecord)) (locations : LocationsSeen) where
      -- what is found for a URL: its map, where it is known to have one or none, and else what its file gives
      abbrev pub IsKnown : (known : Option (Option MapRecord)) (url : List ℕ) → Outcome → Type 0
      IsKnown (Some (Some stated)) url outcome = outcome ≡ Ok stated
      IsKnown (Some None) url outcome = outcome ≡ Err Unnamed
      IsKnown None url outcome = IsFoundFor (key_for locations url) (path_for locations url) outcome

      abbrev pub IsDefined : (url : List ℕ) → Outcome → Type 0
      IsDefined url outcome = IsKnown (known_of exact locations url) url outcome

      -- what a line that asks for this place, or none, is answered: by that or, where memory ran out, by that
      abbrev pub AnswersPlace : AnswerOptions → Option UrlPlace → (text : List ℕ) → Type 0
      AnswersPlace options None text = text ≡ bad_place_line options.form
      AnswersPlace options (Some place) text =
          (outcome : Outcome) × ((outcome ≡ Err Memory) ⊎ IsDefined place.url outcome) × (text ≡ located_line options place outcome)

      abbrev pub AnswersLine : AnswerOptions → Line → (text : List ℕ) → Type 0
      AnswersLine options line text = AnswersPlace options (place_of line.bytes) text

-- all of these bytes were read, and the answers of their lines were written
pub record AnswersAll (Answers : Line → (text : List ℕ) → Type 0) (before after : DevicesSeen) : Type 0 where
  pub bytes : List ℕ
  pub written : List ℕ
  pub read : Gives before.input.left after.input.left bytes
  pub taken : Takes before.output.taken after.output.taken written
  pub answers : IsEdited Answers bytes written
