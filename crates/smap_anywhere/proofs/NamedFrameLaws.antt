-- A frame becomes the same text with the written name of its function, where places are sought anywhere.
use Rattle.std.proofs.Common.{◌≡◌, ◌≤◌, ◌+◌, ◌-◌, ℕ, Bool, true, false, List, [], ◌∷◌, ◌++◌, Option, Some, None, cond}
use Rattle.std.proofs.Common.{ap, append_assoc, append-nil, arith, drop, length, length-append, map, option_map, refl, sym, ◌∙◌}
use Rattle.std.specs.Prelude.{nat_le, unwrap_or}
use Rattle.std.specs.Fmt.{decimal}
use Rattle.std.specs.List.{flat_map, list_any, slice_range}
use Rattle.std.proofs.lemmas.Bool.{le-leb, not-true}
use Rattle.std.proofs.lemmas.Grind.{flat_map-append}
use Rattle.smap_lines.specs.Lines.{Line, end_in, line_text}
use Rattle.smap_pairs.specs.Known.{UrlsKnown}
use Rattle.smap_pairs.specs.LinePlaces.{places_in}
use Rattle.smap_pairs.specs.Seen.{seen_of}
use Rattle.smap_pairs.specs.declared.line_places.Span.{Span}
use Rattle.smap_trace.proofs.NameLaws.{IsCut, cut_is, cut_joined, head_is, uncut_is}
use Rattle.smap_trace.specs.Frame.{FrameParts}
use Rattle.smap_trace.specs.FrameOf.{frame_of}
use Rattle.smap_trace.specs.FunctionNames.{FunctionNames, HeadCut, head_cut, head_given, named, with_head, written_name}
use Rattle.smap_trace.specs.Hiding.{only_ignored}
use Rattle.smap_trace.specs.MapsOf.{MapsByUrl}
use Rattle.smap_trace.specs.Rewritten.{SourceLocation, fate_at, line_after, location_text, named_fate, original_in}
use Rattle.smap_anywhere.specs.ChunkParts.{place_of_span, spans_of}
use Rattle.smap_anywhere.specs.FramePlaces.{has_file, is_from_quotable, is_quotable}
use Rattle.smap_anywhere.specs.FrameUrl.{frame_url}
use Rattle.smap_anywhere.specs.NamedParts.{function_before, function_bytes, function_named, function_text, function_within, named_by_spans, named_cut_parts}
use Rattle.smap_anywhere.specs.NamedParts.{named_part_text, named_parts_in, named_parts_text}
use Rattle.smap_anywhere.specs.Parts.{FrameFunction, Part, other}
use Rattle.smap_anywhere.specs.Parts.{found as found_part}
use Rattle.smap_anywhere.specs.Replaced.{is_quoting, quotable, replacement, text_in, text_named, text_of_original}
use Rattle.smap_anywhere.proofs.FramePlacesLaws.{only_place, place}
use Rattle.smap_anywhere.proofs.FrameTextLaws.{before_is, behind_is, is_chunk, is_line, joined, own_size, same_original, slice_at, url_is}

-- ---- with the written name of its function

others_named : (maps : MapsByUrl) (names : List ℕ → Option FunctionNames) (text : List ℕ) → named_parts_text maps names (map other text) ≡ text
others_named maps names [] = refl
others_named maps names (byte ∷ text) = ap (λ l. byte ∷ l) (others_named maps names text)

module _ (parts : FrameParts) (line : Line) (head : List ℕ) where
  -- what stands in the stead of the whole line
  abbrev line_with : Option (List ℕ) → List ℕ
  line_with None = line_text line
  line_with (Some text) = head ++ (text ++ (parts.tail ++ end_in line.is_ended))

  named_line : (original : SourceLocation) (name : Option (List ℕ)) → is_quotable name ≡ true
      → line_with (text_named original (quotable name)) ≡ line_after line (named_fate (with_head head parts) original name)
  named_line original None is = refl
  named_line original (Some name) is =
      ap (λ b. line_with (text_named original (cond b None (Some name)))) (not-true (list_any is_quoting name) is)
      ∙ regroup (location_text name original.line original.column)
    where
      regroup : (new : List ℕ) → head ++ (new ++ (parts.tail ++ end_in line.is_ended)) ≡ head ++ new ++ parts.tail ++ end_in line.is_ended
      regroup new = simp append_assoc

  original_line : (original : Option SourceLocation) → is_from_quotable original ≡ true
      → line_with (text_of_original original) ≡ line_after line (fate_at (only_ignored false) (with_head head parts) original)
  original_line None is = refl
  original_line (Some original) is = named_line original original.name is

module _ (known : UrlsKnown) (frames : (line : List ℕ) → known.frame_url line ≡ frame_url line) (maps : MapsByUrl) (names : List ℕ → Option FunctionNames)
    (line : Line) (parts : FrameParts) (is : frame_of line.bytes ≡ Some parts) where
  abbrev of_line : Span
  of_line = place known frames line.bytes parts is

  abbrev whole : List ℕ
  whole = line_text line

  abbrev here : List ℕ
  here = location_text parts.url parts.line parts.column

  abbrev from : ℕ
  from = length parts.head

  abbrev to : ℕ
  to = length parts.head + length parts.url + (length (decimal parts.line) + length (decimal parts.column) + 2)

  abbrev rest : List ℕ
  rest = parts.tail ++ end_in line.is_ended

  abbrev head_put : List ℕ
  head_put = (named (names parts.url) parts).head

  -- the parts where this function stands before the place
  abbrev parts_with : Option FrameFunction → List Part
  parts_with function =
      map other (slice_range whole 0 (from - function_bytes function))
      ++ found_part (record (place_of_span whole of_line) { function = function }) (slice_range whole (from - function_bytes function) to)
      ∷ map other (drop to whole)

  the_parts : has_file known line.bytes parts ≡ true
      → named_parts_text maps names (named_parts_in known whole) ≡ named_parts_text maps names (parts_with (function_before whole 0 of_line))
  unfolding named_parts_in
  the_parts found =
      ap (λ cuts. named_parts_text maps names (flat_map (named_cut_parts known) cuts)) (is_chunk known frames maps line parts is)
      ∙ ap (named_parts_text maps names) (append-nil (named_by_spans whole 0 (spans_of known whole)))
      ∙ ap (λ l. named_parts_text maps names (named_by_spans whole 0 (places_in known l (seen_of l)))) (is_line known frames maps line parts is)
      ∙ ap (λ spans. named_parts_text maps names (named_by_spans whole 0 spans)) (only_place known frames line.bytes parts is found)

  -- what they become, where these bytes stand before the part
  module _ (function : Option FrameFunction) (before lead : List ℕ) (head_is : parts.head ≡ before ++ lead)
      (bytes : function_bytes function ≡ length lead)
      (put : before ++ function_text (names parts.url) (record (place_of_span whole of_line) { function = function }) function ≡ head_put) where
    begin : from - function_bytes function ≡ length before
    begin = omega (arith, bytes, ap length head_is, length-append before lead)

    joined_so : whole ≡ before ++ ((lead ++ here) ++ rest)
    joined_so =
        joined known frames maps line parts is ∙ ap (λ l. l ++ (here ++ rest)) head_is ∙ append_assoc before lead (here ++ rest)
        ∙ ap (λ l. before ++ l) (sym (append_assoc lead here rest))

    first : slice_range whole 0 (from - function_bytes function) ≡ before
    first =
        ap (slice_range whole 0) begin ∙ ap (λ l. slice_range l 0 (length before)) joined_so
        ∙ slice_at [] before ((lead ++ here) ++ rest) 0 (length before) refl (omega arith)

    second : slice_range whole (from - function_bytes function) to ≡ lead ++ here
    second =
        ap (λ l. slice_range l (from - function_bytes function) to) joined_so
        ∙ slice_at before (lead ++ here) rest (from - function_bytes function) to begin
        (omega (arith, own_size known frames maps line parts is, ap length head_is, length-append before lead, length-append lead here))

    abbrev function_put : List ℕ
    function_put = function_text (names parts.url) (record (place_of_span whole of_line) { function = function }) function

    becomes_so : (new : Option (List ℕ))
        → before ++ (unwrap_or (option_map (λ t. function_put ++ t) new) (lead ++ here) ++ rest) ≡ line_with parts line head_put new
    becomes_so None = sym joined_so
    becomes_so (Some text) =
        ap (λ l. before ++ l) (append_assoc function_put text rest) ∙ sym (append_assoc before function_put (text ++ rest)) ∙ ap (λ l. l ++ (text ++ rest)) put

    text_is : named_parts_text maps names (parts_with function) ≡ line_with parts line head_put (text_in (maps parts.url) parts.line parts.column)
    unfolding replacement
    text_is =
        flat_map-append (named_part_text maps names) (map other (slice_range whole 0 (from - function_bytes function))) _
        ∙ (λ i. (others_named maps names (slice_range whole 0 (from - function_bytes function)) ∙ first) i
        ++ (unwrap_or (option_map (λ t. function_text (names (url_is known frames maps line parts is i))
        (record (place_of_span whole of_line) { function = function }) function ++ t)
        (text_in (maps (url_is known frames maps line parts is i)) parts.line parts.column)) (second i)
        ++ (others_named maps names (drop to whole) ∙ behind_is known frames maps line parts is) i))
        ∙ becomes_so (text_in (maps parts.url) parts.line parts.column)

  by_cut : (cut : Option HeadCut) → head_cut parts.head ≡ cut
      → named_parts_text maps names (parts_with (function_within (from - 0) cut)) ≡ line_with parts line head_put (text_in (maps parts.url) parts.line parts.column)
  by_cut None none =
      text_is None parts.head [] (sym (append-nil parts.head)) refl (append-nil parts.head ∙ sym (uncut_is (names parts.url) parts none))
  by_cut (Some cut) some = go (nat_le (length cut.name + length cut.behind) (from - 0)) refl
    where
      all : IsCut parts.head cut
      all = cut_joined parts.head cut some

      split : parts.head ≡ cut.before ++ (cut.name ++ cut.behind)
      split = all.0 ∙ append_assoc cut.before cut.name cut.behind

      size : length cut.name + length cut.behind ≤ from - 0
      size = omega (arith, ap length split, length-append cut.before (cut.name ++ cut.behind), length-append cut.name cut.behind)

      function : FrameFunction
      function = record { name = cut.name; behind = cut.behind }

      put : (written : Option (List ℕ)) → cut.before ++ function_named function written ≡ head_given parts.head cut written
      put None = sym split
      put (Some written) = sym (append_assoc cut.before written cut.behind)

      go : (few : Bool) → nat_le (length cut.name + length cut.behind) (from - 0) ≡ few
          → named_parts_text maps names (parts_with (cond few (Some function) None))
          ≡ line_with parts line head_put (text_in (maps parts.url) parts.line parts.column)
      go false many = absurd (cc (le-leb (length cut.name + length cut.behind) (from - 0) size))
      go true few =
          text_is (Some function) cut.before (cut.name ++ cut.behind) split (sym (length-append cut.name cut.behind))
          (put (written_name (names parts.url) cut.name parts.line parts.column) ∙ sym (cut_is (names parts.url) parts cut some))

  pub named_alike : has_file known line.bytes parts ≡ true → is_from_quotable (original_in parts (maps parts.url)) ≡ true
      → named_parts_text maps names (named_parts_in known whole)
      ≡ line_after line (fate_at (only_ignored false) (named (names parts.url) parts) (original_in parts (maps parts.url)))
  named_alike found quotable =
      the_parts found
      ∙ ap (λ head. named_parts_text maps names (parts_with (function_within (from - 0) (head_cut head)))) (before_is known frames maps line parts is)
      ∙ by_cut (head_cut parts.head) refl
      ∙ ap (line_with parts line head_put) (same_original parts (maps parts.url))
      ∙ original_line parts line head_put (original_in parts (maps parts.url)) quotable
      ∙ ap (λ p. line_after line (fate_at (only_ignored false) p (original_in parts (maps parts.url)))) (head_is (names parts.url) parts head_put refl)
