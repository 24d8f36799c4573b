-- What is said of a pattern that is not what it looks like (this project's own): `*.js` has no file that is called `app.js`, since a
-- pattern begins where a name does; and of `**/app.js` only the first `*` stands for other text.
use Rattle.std.specs.Prelude.{◌≡◌, ℕ, ◌==◌, ◌&&◌, Bool, List, MatchBool, codes, drop, not}
use Rattle.std.specs.Bool.{nat_eq}
use Rattle.std.specs.List.{list_any, starts_with}
use Rattle.smap_io.specs.Device.{SinkSeen}
use Rattle.smap_locations.specs.Patterns.{is_separator}
use Rattle.smap_replies.specs.Streams.{IsReportedTo, Streams}

-- a pattern of one piece, and so one of a file, that begins with `.`
abbrev pub is_dotted : (url : List ℕ) → Bool
is_dotted url = starts_with nat_eq url (codes "*.") && not (list_any is_separator url)

abbrev pub dotted_line : List ℕ
dotted_line = codes "a pattern such as *.js has only files that are called .js: *app.js has app.js, and * alone has each URL\n"

-- a URL or a pattern has a `*` behind its first byte
abbrev pub is_starred : (url : List ℕ) → Bool
is_starred url = list_any (λ byte. byte == 42) (drop 1 url)

abbrev pub starred_line : List ℕ
starred_line = codes "a * stands for other text only as the first character: not **/app.js, but *app.js has each app.js\n"

-- the first of these that one of the arguments wants is said once
abbrev pub TellsPatterns : List (List ℕ × List ℕ) → (before after : SinkSeen) → Type 0
TellsPatterns arguments before after = MatchBool (list_any (λ a. is_dotted a.0) arguments) (IsReportedTo before after dotted_line)
    (MatchBool (list_any (λ a. is_starred a.0) arguments) (IsReportedTo before after starred_line) (after ≡ before))

-- the streams where standard error shows this
abbrev pub with_errors : SinkSeen → Streams → Streams
with_errors errors streams = record streams { sinks = record streams.sinks { errors = errors } }
