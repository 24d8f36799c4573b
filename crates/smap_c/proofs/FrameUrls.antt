-- The URL of a frame, where it stands in its trace.
use Rattle.std.proofs.Common.{◌≡◌, ◌∙◌, ◌+◌, ◌-◌, ◌++◌, ℕ, List, [], Some, Option, ap, append_assoc, arith, codes, drop, length, sym, take}
use Rattle.std.proofs.Math.Seq.{drop-append_seam, take-append_seam}
use Rattle.std.proofs.lemmas.List.{append-nil, drop-drop, take-append-drop}
use Rattle.std.specs.Fmt.{decimal}
use Rattle.std.specs.List.{slice_range}
use Rattle.smap_lines.specs.Lines.{Line, line_text, lines_with_ends}
use Rattle.smap_trace.specs.Frame.{FrameParts, IsFrame}
use Rattle.smap_trace.specs.FrameOf.{frame_of}
use Rattle.smap_c.specs.Frames.{NamedUrl, first_url, named_url, next_frame_url, url_or}
use Rattle.smap_c.specs.Private.FirstLine.{IsFirstLine}

-- the text begins with this
abbrev Begins : (front text : List ℕ) → Type 0
Begins front text = (rest : List ℕ) × (text ≡ front ++ rest)

begins : (front : List ℕ) → Begins front front
begins front = ([], sym (append-nil front))

begins_more : (front text more : List ℕ) → Begins front text → Begins front (text ++ more)
begins_more front text more begun = (begun.0 ++ more, ap (λ l. l ++ more) begun.1 ∙ append_assoc front begun.0 more)

-- a frame begins with what stands before its URL, and that
frame_begins : (line : List ℕ) (parts : FrameParts) → IsFrame line parts → Begins (parts.head ++ parts.url) line
frame_begins line parts is =
    let front = parts.head ++ parts.url in
    let one = begins_more front front (codes ":") (begins front) in
    let two = begins_more front _ (decimal parts.line) one in
    let three = begins_more front _ (codes ":") two in
    let four = begins_more front _ (decimal parts.column) three in
    let five = begins_more front _ parts.tail four in
    (five.0, is.joined ∙ five.1)

-- so the URL stands behind that in the trace
url_stands : (trace line : List ℕ) (at : ℕ) (parts : FrameParts) → take (length line) (drop at trace) ≡ line → IsFrame line parts
    → slice_range trace (at + length parts.head) (at + length parts.head + length parts.url) ≡ parts.url
url_stands trace line at parts stands is =
    let front = parts.head ++ parts.url in
    let begun = begins_more front line (drop (length line) (drop at trace)) (frame_begins line parts is) in
    let whole : drop at trace ≡ parts.head ++ (parts.url ++ begun.0) =
    sym (take-append-drop (length line) (drop at trace)) ∙ ap (λ l. l ++ drop (length line) (drop at trace)) stands
    ∙ begun.1 ∙ append_assoc parts.head parts.url begun.0 in
    let behind : drop (at + length parts.head) trace ≡ parts.url ++ begun.0 =
    sym (drop-drop (length parts.head) at trace) ∙ ap (drop (length parts.head)) whole ∙ drop-append_seam parts.head (parts.url ++ begun.0) in
    let long : at + length parts.head + length parts.url - (at + length parts.head) ≡ length parts.url = omega arith in
    ap (λ n. take n (drop (at + length parts.head) trace)) long ∙ ap (take (length parts.url)) behind ∙ take-append_seam parts.url begun.0

-- the first line from a byte on is a frame
pub found_url : (trace line : List ℕ) (at bytes : ℕ) (parts : FrameParts) → IsFirstLine (drop at trace) line bytes → Some parts ≡ frame_of line
    → IsFrame line parts
    → Some (named_url trace (record { start = at + length parts.head; length = length parts.url; next = at + bytes })) ≡ next_frame_url trace at
found_url trace line at bytes parts first is frame =
    let here : Line = record { bytes = line; is_ended = first.is_ended } in
    let later : Option NamedUrl = first_url (at + length (line_text here)) (lines_with_ends (drop bytes (drop at trace))) in
    let url : slice_range trace (at + length parts.head) (at + length parts.head + length parts.url) ≡ parts.url =
    url_stands trace line at parts first.stands frame in
    ap (λ u. Some (record { url = u; start = at + length parts.head; next = at + bytes })) url
    ∙ ap (λ n. Some (record { url = parts.url; start = at + length parts.head; next = at + n })) (sym first.counted)
    ∙ ap (λ o. url_or o at here later) is
    ∙ sym (ap (first_url at) first.lines)
