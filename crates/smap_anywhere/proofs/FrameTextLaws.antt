-- A frame becomes the same text, where places are sought anywhere.
use Rattle.std.proofs.Common.{◌≡◌, ◌≤◌, ◌<◌, ◌+◌, ◌-◌, ◌==◌, ◌||◌, ℕ, suc, Bool, true, false, List, [], ◌∷◌, ◌++◌, Option, Some, None, codes, cond}
use Rattle.std.proofs.Common.{ap, append_assoc, append-nil, arith, drop, length, length-append, map, min, refl, sym, take, ◌∙◌}
use Rattle.std.specs.Prelude.{nat_le, not, unwrap_or}
use Rattle.std.specs.Fmt.{decimal}
use Rattle.std.specs.List.{flat_map, list_any, slice_range}
use Rattle.std.proofs.Math.Nat.{min-eq_right}
use Rattle.std.proofs.lemmas.Bool.{and_parts, leb-true, not-true}
use Rattle.std.proofs.lemmas.Grind.{flat_map-append}
use Rattle.std.proofs.lemmas.List.{drop_all, drop_at, take_all, take_at}
use Rattle.smap_lines.specs.Limits.{most_line_bytes}
use Rattle.smap_lines.specs.Lines.{Line, end_in, has_line_end, line_text}
use Rattle.smap_pairs.specs.Chunks.{cuts_from, cuts_of, line_bytes}
use Rattle.smap_pairs.specs.Chunks.Cut.{chunk}
use Rattle.smap_pairs.specs.Known.{UrlsKnown}
use Rattle.smap_pairs.specs.Laws.Chunks.{cuts_next, first_line}
use Rattle.smap_pairs.specs.LinePlaces.{places_in}
use Rattle.smap_pairs.specs.Seen.{seen_of}
use Rattle.smap_pairs.specs.declared.chunk.Chunk.{Chunk}
use Rattle.smap_pairs.specs.declared.line_places.Span.{Span}
use Rattle.smap_record.specs.Record.{MapRecord}
use Rattle.smap_trace.proofs.FrameLaws.{parts_are_frame}
use Rattle.smap_trace.specs.Frame.{FrameParts, IsFrame, has_cr_within}
use Rattle.smap_trace.specs.FrameOf.{frame_of}
use Rattle.smap_trace.specs.Hiding.{only_ignored}
use Rattle.smap_trace.specs.MapsOf.{MapsByUrl, fate_by, line_by}
use Rattle.smap_trace.specs.Rewritten.{SourceLocation, fate_at, line_after, location_text, named_fate, original_in}
use Rattle.smap_anywhere.specs.ChunkParts.{chunk_parts, cut_parts, line_of, parts_by_spans, parts_in, place_of_span}
use Rattle.smap_anywhere.specs.FramePlaces.{has_file, is_from_quotable, is_quotable}
use Rattle.smap_anywhere.specs.FrameUrl.{frame_url}
use Rattle.smap_anywhere.specs.Parts.{Part, other}
use Rattle.smap_anywhere.specs.Parts.{found as found_part}
use Rattle.smap_anywhere.specs.Replaced.{is_quoting, part_text, parts_text, quotable, replacement, text_in, text_named, text_of_original}
use Rattle.smap_anywhere.proofs.FramePlacesLaws.{only_place, place}

-- ---- a line is one chunk

line_size : (line : List ℕ) (is_ended : Bool) → has_line_end line ≡ false → line_bytes (line ++ end_in is_ended) ≡ length line
line_size [] true none = refl
line_size [] false none = refl
line_size (byte ∷ line) is_ended none = go (byte == 10) none (line_size line is_ended)
  where
    go : (is_end : Bool) → (is_end || has_line_end line) ≡ false → (has_line_end line ≡ false → line_bytes (line ++ end_in is_ended) ≡ length line)
        → cond (not is_end) (1 + line_bytes (line ++ end_in is_ended)) 0 ≡ suc (length line)
    go true none rest = cc
    go false none rest = omega (arith, rest none)

few_ends : (is_ended : Bool) → length (end_in is_ended) ≤ 1
few_ends true = omega arith
few_ends false = omega arith

one_chunk : (text : List ℕ) → 0 < length text → length text ≤ suc (line_bytes text) → line_bytes text ≤ most_line_bytes
    → cuts_of text ≡ chunk text ∷ []
unfolding cuts_from
one_chunk text some one few =
    let all : min (suc (line_bytes text)) (length text) ≡ length text = min-eq_right one in
    cuts_next false text some refl
    ∙ ap (λ (first : Chunk). chunk (take first.bytes text) ∷ cuts_from 0 first.is_broken (drop first.bytes text)) (first_line text few)
    ∙ ap (λ n. chunk (take n text) ∷ cuts_from 0 false (drop n text)) all
    ∙ (λ i. chunk (take_all (length text) text (omega arith) i) ∷ cuts_from 0 false (drop_all (length text) text (omega arith) i))

-- ---- what stands between places stays

pub others_stay : (maps : MapsByUrl) (text : List ℕ) → parts_text maps (map other text) ≡ text
others_stay maps [] = refl
others_stay maps (byte ∷ text) = ap (λ l. byte ∷ l) (others_stay maps text)

-- ---- parts of a text

pub slice_at : (front own rest : List ℕ) (from to : ℕ) → from ≡ length front → to ≡ length front + length own → slice_range (front ++ (own ++ rest)) from to ≡ own
slice_at front own rest from to begin end =
    let size : to - from ≡ length own = omega (arith, begin, end) in
    ap (λ n. take n (drop from (front ++ (own ++ rest)))) size
    ∙ ap (take (length own)) (drop_at front (own ++ rest) from (sym begin))
    ∙ take_at own rest (length own) refl

-- ---- what stands in a place's stead

pub same_original : (parts : FrameParts) (stated : Option MapRecord) → text_in stated parts.line parts.column ≡ text_of_original (original_in parts stated)
same_original parts None = refl
same_original parts (Some stated) = refl

module _ (parts : FrameParts) (line : Line) (own : List ℕ)
    (text : line_text line ≡ parts.head ++ (own ++ (parts.tail ++ end_in line.is_ended))) where
  fate_named : (original : SourceLocation) (name : Option (List ℕ)) → is_quotable name ≡ true
      → parts.head ++ (unwrap_or (text_named original (quotable name)) own ++ (parts.tail ++ end_in line.is_ended))
      ≡ line_after line (named_fate parts original name)
  fate_named original None is = sym text
  fate_named original (Some name) is =
      ap (λ b. parts.head ++ (unwrap_or (text_named original (cond b None (Some name))) own ++ (parts.tail ++ end_in line.is_ended)))
      (not-true (list_any is_quoting name) is)
      ∙ regroup (location_text name original.line original.column)
    where
      regroup : (new : List ℕ) → parts.head ++ (new ++ (parts.tail ++ end_in line.is_ended)) ≡ parts.head ++ new ++ parts.tail ++ end_in line.is_ended
      regroup new = simp append_assoc

  same_fate : (original : Option SourceLocation) → is_from_quotable original ≡ true
      → parts.head ++ (unwrap_or (text_of_original original) own ++ (parts.tail ++ end_in line.is_ended))
      ≡ line_after line (fate_at (only_ignored false) parts original)
  same_fate None is = sym text
  same_fate (Some original) is = fate_named original original.name is

-- ---- a frame

module _ (known : UrlsKnown) (frames : (line : List ℕ) → known.frame_url line ≡ frame_url line) (maps : MapsByUrl) (line : Line) (parts : FrameParts)
    (is : frame_of line.bytes ≡ Some parts) where
  frame : IsFrame line.bytes parts
  frame = parts_are_frame line.bytes parts is

  abbrev text : List ℕ
  text = line_text line

  abbrev own : List ℕ
  own = location_text parts.url parts.line parts.column

  -- what stands before the place, in it and behind it
  pub joined : text ≡ parts.head ++ (own ++ (parts.tail ++ end_in line.is_ended))
  joined = ap (λ l. l ++ end_in line.is_ended) frame.joined ∙ simp append_assoc

  bounds : (nat_le (length line.bytes) most_line_bytes ≡ true) × (has_line_end line.bytes ≡ false)
  bounds =
      let one = and_parts _ (not (has_cr_within line.bytes)) frame.bounded in
      let two = and_parts (nat_le (length line.bytes) most_line_bytes) (not (has_line_end line.bytes)) one.0 in
      (two.0, not-true (has_line_end line.bytes) two.1)

  bytes : line_bytes text ≡ length line.bytes
  bytes = line_size line.bytes line.is_ended bounds.1

  some : 0 < length line.bytes
  some = go parts.url frame.located (omega (arith, simp length-append at (ap length frame.joined)))
    where
      go : (url : List ℕ) → (url ≡ [] → ⊥) → length url ≤ length line.bytes → 0 < length line.bytes
      go [] none few = absurd (none refl)
      go (byte ∷ url) none few = omega (arith, few)

  pub is_chunk : cuts_of text ≡ chunk text ∷ []
  is_chunk =
      let size = length-append line.bytes (end_in line.is_ended) in
      one_chunk text (omega (arith, some, size)) (omega (arith, size, few_ends line.is_ended, bytes))
      (omega (arith, bytes, leb-true (length line.bytes) most_line_bytes bounds.0))

  pub is_line : line_of text ≡ line.bytes
  is_line = ap (λ n. take n text) bytes ∙ take_at line.bytes (end_in line.is_ended) (length line.bytes) refl

  -- from which byte on it stands, and to which
  abbrev start : ℕ
  start = length parts.head

  abbrev stop : ℕ
  stop = length parts.head + length parts.url + (length (decimal parts.line) + length (decimal parts.column) + 2)

  pub own_size : length own ≡ length parts.url + (length (decimal parts.line) + length (decimal parts.column) + 2)
  own_size = simp length-append (omega arith)

  pub before_is : slice_range text 0 start ≡ parts.head
  before_is =
      ap (λ l. slice_range l 0 start) joined ∙ slice_at [] parts.head (own ++ (parts.tail ++ end_in line.is_ended)) 0 start refl (omega arith)

  pub url_is : slice_range text start (length parts.head + length parts.url) ≡ parts.url
  url_is =
      let rest = codes ":" ++ decimal parts.line ++ codes ":" ++ decimal parts.column ++ parts.tail ++ end_in line.is_ended in
      let parted : text ≡ parts.head ++ (parts.url ++ (codes ":" ++ decimal parts.line ++ codes ":" ++ decimal parts.column ++ parts.tail ++ end_in line.is_ended))
      = joined ∙ simp append_assoc in
      ap (λ l. slice_range l start (length parts.head + length parts.url)) parted
      ∙ slice_at parts.head parts.url rest start (length parts.head + length parts.url) refl refl

  own_is : slice_range text start stop ≡ own
  own_is =
      ap (λ l. slice_range l start stop) joined
      ∙ slice_at parts.head own (parts.tail ++ end_in line.is_ended) start stop refl (omega (arith, own_size))

  pub behind_is : drop stop text ≡ parts.tail ++ end_in line.is_ended
  behind_is =
      let rest = parts.tail ++ end_in line.is_ended in
      ap (drop stop) (joined ∙ sym (append_assoc parts.head own rest))
      ∙ drop_at (parts.head ++ own) rest stop (length-append parts.head own ∙ omega (arith, own_size))

  pub alike : has_file known line.bytes parts ≡ true → is_from_quotable (original_in parts (maps parts.url)) ≡ true
      → parts_text maps (parts_in known text) ≡ line_by maps (only_ignored false) line
  unfolding parts_in chunk_parts replacement
  alike found quotable =
      let span = place known frames line.bytes parts is in
      let before = others_stay maps (slice_range text 0 start) ∙ before_is in
      let behind = others_stay maps (drop stop text) ∙ behind_is in
      ap (λ cuts. parts_text maps (flat_map (cut_parts known) cuts)) is_chunk
      ∙ ap (parts_text maps) (append-nil (chunk_parts known text))
      ∙ ap (λ l. parts_text maps (parts_by_spans text 0 (places_in known l (seen_of l)))) is_line
      ∙ ap (λ spans. parts_text maps (parts_by_spans text 0 spans)) (only_place known frames line.bytes parts is found)
      ∙ flat_map-append (part_text maps) (map other (slice_range text 0 start)) (parts_behind span)
      ∙ (λ i. before i ++ (unwrap_or (text_in (maps (url_is i)) parts.line parts.column) (own_is i) ++ behind i))
      ∙ ap (λ new. parts.head ++ (unwrap_or new own ++ (parts.tail ++ end_in line.is_ended))) (same_original parts (maps parts.url))
      ∙ same_fate parts line own joined (original_in parts (maps parts.url)) quotable
      ∙ ap (λ o. line_after line (fate_by maps (only_ignored false) o)) (sym is)
    where
      parts_behind : Span → List Part
      parts_behind span = found_part (place_of_span text span) (slice_range text span.start span.end) ∷ map other (drop span.end text)
