-- The place that a line asks for, and the function beside it (this project's own grammar): behind the last TAB that does not stand
-- before the URL is a function, up to the end of the line or a CR there.
use Rattle.std.specs.Prelude.{ℕ, ◌-◌, List, Option, Some, None, codes, if◌then◌else◌, length, nat_eq, option_map, take}
use Rattle.std.specs.List.{ends_with}
use Rattle.std.specs.Str.{is_utf8}
use Rattle.smap_printing.specs.PositionOf.{after_blanks}
use Rattle.smap_text_answers.specs.PlaceSeen.{place_seen}
use Rattle.smap_text_answers.specs.UrlPlace.{UrlPlace, place_of}
use Rattle.smap_text_answers.specs.declared.named_place.NamedPlace as declared
use Rattle.smap_trace.specs.Cuts.{cut_at_last_byte}

-- a place, and the function beside it, where there is one
pub record NamedPlace : Type 0 where
  pub place : UrlPlace
  pub function : Option (List ℕ)

abbrev pub named_place_seen : declared.NamedPlace → NamedPlace
named_place_seen named = record { place = place_seen named.place; function = option_map (λ text. text.now) named.function }

-- without the CR that may end it
abbrev pub without_end : List ℕ → List ℕ
without_end text = if ends_with nat_eq text (codes "\r") then take (length text - 1) text else text

abbrev pub alone : UrlPlace → NamedPlace
alone place = record { place = place; function = None }

-- a place with a function, if that is UTF-8
abbrev pub with_function : Option UrlPlace → (function : List ℕ) → Option NamedPlace
with_function None function = None
with_function (Some place) function = if is_utf8 function then Some (record { place = place; function = Some function }) else None

abbrev pub named_place_cut : (text : List ℕ) → Option (List ℕ × List ℕ) → Option NamedPlace
named_place_cut text None = option_map alone (place_of text)
named_place_cut text (Some (front, function)) = with_function (place_of front) (without_end function)

-- the place that a line, without its LF, asks for; 9 is a TAB
unfoldable pub named_place_of : List ℕ → Option NamedPlace
named_place_of line = named_place_cut (after_blanks line) (cut_at_last_byte 9 (after_blanks line))
