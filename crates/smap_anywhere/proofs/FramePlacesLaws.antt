-- The place of a frame, where places are sought anywhere: it is the only one of its line.
use Rattle.std.proofs.Common.{◌≡◌, ◌≤◌, ◌+◌, ◌-◌, ◌==◌, ◌&&◌, ◌||◌, ℕ, Bool, true, false, List, [], ◌∷◌, ◌++◌, Some, None, codes, cond}
use Rattle.std.proofs.Common.{ap, append_assoc, arith, drop, length, length-append, option_map, refl, subst, sym, take, ◌∙◌, ⊎_elim}
use Rattle.std.specs.Prelude.{nat_le}
use Rattle.std.specs.Fmt.{decimal}
use Rattle.std.specs.List.{cons_option, filter_map, find, list_all, list_any, slice_range}
use Rattle.std.proofs.lemmas.Bool.{and_parts, eq-eqb, le-leb, leb-true, ne_eqb}
use Rattle.std.proofs.lemmas.List.{drop_at, take_all, take_at}
use Rattle.smap_lines.specs.Bytes.{IsLineEnd}
use Rattle.smap_pairs.specs.FrameUrl.{is_no_sentence, is_one_url}
use Rattle.smap_pairs.specs.Known.{UrlsKnown}
use Rattle.smap_pairs.specs.Laws.LastPair.{IsLastPair, goes_further, last_printed}
use Rattle.smap_pairs.specs.Laws.Pairs.{are_in_order}
use Rattle.smap_pairs.specs.LinePlaces.{frame_at, frame_in, frame_with, has_frame_url, line_with, of_pair, or_else, pair_place, places_in, start_of, whole_line}
use Rattle.smap_pairs.specs.Numbers.{has_digit}
use Rattle.smap_pairs.specs.Pairs.{AreInOrder, pairs_of}
use Rattle.smap_pairs.specs.Printed.{IsNumbers}
use Rattle.smap_pairs.specs.Seen.{seen_of}
use Rattle.smap_pairs.specs.VirtualLines.{lines_of_strings, virtual_lines}
use Rattle.smap_pairs.specs.declared.line_places.Span.{Span}
use Rattle.smap_pairs.specs.declared.pairs.Pair.{Pair}
use Rattle.smap_pairs.specs.declared.virtual_lines.VirtualLine.{VirtualLine}
use Rattle.smap_trace.proofs.FrameLaws.{parts_are_frame}
use Rattle.smap_trace.specs.Frame.{FrameParts, IsCallFrame, IsForm, IsFrame, IsPlainFrame, IsSignFrame}
use Rattle.smap_trace.specs.FrameOf.{frame_of}
use Rattle.smap_anywhere.specs.FramePlaces.{has_file, is_outside}
use Rattle.smap_anywhere.specs.FrameUrl.{frame_url, or_before_tail, url_in}

-- ---- behind the numbers of a frame

-- they do not go on, and neither does a pair or an address
abbrev IsQuiet : (tail : List ℕ) → Type 0
IsQuiet tail = (has_digit tail ≡ false) × (list_any goes_further tail ≡ false)

quiet_end : (end : List ℕ) → IsLineEnd end → IsQuiet end
quiet_end end is = ⊎_elim
    (λ (none : end ≡ []). subst IsQuiet (sym none) (refl, refl))
    (λ (cr : end ≡ codes "\r"). subst IsQuiet (sym cr) (refl, refl))
    is

quiet_call : (end : List ℕ) → IsLineEnd end → IsQuiet (codes ")" ++ end)
quiet_call end is = ⊎_elim
    (λ (none : end ≡ []). subst (λ e. IsQuiet (codes ")" ++ e)) (sym none) (refl, refl))
    (λ (cr : end ≡ codes "\r"). subst (λ e. IsQuiet (codes ")" ++ e)) (sym cr) (refl, refl))
    is

quiet_tail : (parts : FrameParts) → IsForm parts → IsQuiet parts.tail
quiet_tail parts form = ⊎_elim
    (λ (call : IsCallFrame parts). subst IsQuiet (sym call.tail_is) (quiet_call call.end call.ends))
    (⊎_elim (λ (plain : IsPlainFrame parts). quiet_end parts.tail plain.tail_is) (λ (sign : IsSignFrame parts). quiet_end parts.tail sign.tail_is))
    form

-- ---- the last of several pairs

reach : (piece bytes : ℕ) (before : List Pair) (pair : Pair) → AreInOrder piece bytes (before ++ pair ∷ []) → piece ≤ pair.start
reach piece bytes [] pair order = order.1
reach piece bytes (one ∷ before) pair order = omega (arith, order.1, order.2, reach one.end bytes before pair order.4)

-- each pair before it begins elsewhere
first_differs : (piece bytes : ℕ) (one : Pair) (before : List Pair) (pair : Pair) → AreInOrder piece bytes (one ∷ (before ++ pair ∷ []))
    → (one.start == pair.start) ≡ false
first_differs piece bytes one before pair order =
    let later = reach one.end bytes before pair order.4 in
    ne_eqb one.start pair.start (λ e. omega (arith, e, later, order.2))

last_found : (piece bytes : ℕ) (before : List Pair) (pair : Pair) → AreInOrder piece bytes (before ++ pair ∷ [])
    → find (λ one. one.start == pair.start) (before ++ pair ∷ []) ≡ Some pair
last_found piece bytes [] pair order = ap (λ b. cond b (Some pair) None) (eq-eqb pair.start pair.start refl)
last_found piece bytes (one ∷ before) pair order =
    ap (λ b. cond b (Some one) (find (λ one. one.start == pair.start) (before ++ pair ∷ []))) (first_differs piece bytes one before pair order)
    ∙ last_found one.end bytes before pair order.4

-- it alone has the place of its frame
last_has : (piece bytes : ℕ) (before : List Pair) (pair : Pair) (span : Span) → span.url_end ≡ pair.start → AreInOrder piece bytes (before ++ pair ∷ [])
    → filter_map (of_pair span) (before ++ pair ∷ []) ≡ span ∷ []
last_has piece bytes [] pair span same order = ap (λ b. cons_option (cond b (Some span) None) []) (eq-eqb span.url_end pair.start same)
last_has piece bytes (one ∷ before) pair span same order =
    let later = reach one.end bytes before pair order.4 in
    ap (λ b. cons_option (cond b (Some span) None) (filter_map (of_pair span) (before ++ pair ∷ [])))
    (ne_eqb span.url_end one.start (λ e. omega (arith, e, same, later, order.2)))
    ∙ last_has one.end bytes before pair span same order.4

-- its piece begins before the URL behind which it stands, where the others do not stand in that
piece_before : (piece bytes start : ℕ) (before : List Pair) (pair : Pair) → AreInOrder piece bytes (before ++ pair ∷ [])
    → list_all (is_outside start pair.start) (before ++ pair ∷ []) ≡ true → piece ≤ start → pair.piece ≤ start
piece_before piece bytes start [] pair order outside low = omega (arith, order.0, low)
piece_before piece bytes start (one ∷ before) pair order outside low =
    let parted = and_parts _ _ outside in
    piece_before one.end bytes start before pair order.4 parted.1
    (go (nat_le one.end start) refl (ap (λ b. nat_le one.end start || b) (sym (first_differs piece bytes one before pair order)) ∙ parted.0))
  where
    go : (low : Bool) → nat_le one.end start ≡ low → (nat_le one.end start || false) ≡ true → one.end ≤ start
    go true is or = leb-true one.end start is
    go false is or = absurd (cc (is, or))

-- ---- a URL

-- where the one is so if the other is
through : (own name all low whole one has : Bool) → (all ≡ true → low ≡ true)
    → ((own && (name || (all && whole))) || ((all && one) && has)) ≡ true → ((own && (name || (low && whole))) || ((low && one) && has)) ≡ true
through own name true low whole one has so is = ap (λ b. (own && (name || (b && whole))) || ((b && one) && has)) (so refl) ∙ is
through true true false low whole one has so is = refl
through true false false low whole one has so is = absurd (cc)
through false name false low whole one has so is = absurd (cc)

-- ---- a line

module _ (known : UrlsKnown) (frames : (line : List ℕ) → known.frame_url line ≡ frame_url line) (line : List ℕ) (parts : FrameParts)
    (is : frame_of line ≡ Some parts) where
  -- where the URL begins and ends, and how many bytes the numbers are
  abbrev start : ℕ
  start = length parts.head

  abbrev end : ℕ
  end = length parts.head + length parts.url

  abbrev size : ℕ
  size = length (decimal parts.line) + length (decimal parts.column) + 2

  abbrev numbers : List ℕ
  numbers = codes ":" ++ decimal parts.line ++ codes ":" ++ decimal parts.column ++ parts.tail

  frame : IsFrame line parts
  frame = parts_are_frame line parts is

  -- the line, cut before its URL and behind it
  joined : line ≡ (parts.head ++ parts.url) ++ numbers
  joined = frame.joined ∙ simp append_assoc

  are_numbers : IsNumbers numbers parts.line parts.column size
  are_numbers = record {
    after = parts.tail;
    joined = refl;
    size_is = refl;
    line_printed = frame.line_printed;
    column_printed = frame.column_printed;
    ended = (quiet_tail parts frame.form).0;
  }

  last : IsLastPair line end parts.line parts.column size
  unfolding are_numbers
  last =
      subst (λ l. IsLastPair l end parts.line parts.column size) (sym joined)
      (subst (λ n. IsLastPair ((parts.head ++ parts.url) ++ numbers) n parts.line parts.column size) (length-append parts.head parts.url)
      (last_printed (parts.head ++ parts.url) numbers parts.line parts.column size are_numbers (quiet_tail parts frame.form).1))

  abbrev pair : Pair
  pair = record { start = end; end = end + size; piece = last.piece; line = parts.line; column = parts.column }

  pairs_are : pairs_of line ≡ last.before ++ pair ∷ []
  pairs_are = last.joined

  order : AreInOrder 0 (length line) (last.before ++ pair ∷ [])
  order = subst (AreInOrder 0 (length line)) pairs_are (are_in_order line)

  -- the place of the frame
  abbrev pub place : Span
  place = record { frame_start = 0; start = start; url_end = end; end = end + size; line = parts.line; column = parts.column; is_halved = false }

  url_is : slice_range line start end ≡ parts.url
  url_is =
      let less : end - start ≡ length parts.url = omega arith in
      ap (λ l. slice_range l start end) (joined ∙ append_assoc parts.head parts.url numbers)
      ∙ ap (λ n. take n (drop start (parts.head ++ (parts.url ++ numbers)))) less
      ∙ ap (take (length parts.url)) (drop_at parts.head (parts.url ++ numbers) start refl)
      ∙ take_at parts.url numbers (length parts.url) refl

  -- ---- the frame of the whole line

  abbrev whole : VirtualLine
  whole = whole_line (length line)

  has : has_file known line parts ≡ true → has_frame_url known line (seen_of line) whole pair start (slice_range line start end) ≡ true
  has found =
      ap (λ url. has_frame_url known line (seen_of line) whole pair start url) url_is
      ∙ through (known.has_own parts.url) (known.is_name parts.url) (list_all (is_outside start end) (pairs_of line)) (nat_le pair.piece start)
      (is_no_sentence (slice_range (seen_of line) start end))
      (is_one_url (slice_range (seen_of line) 0 start) (slice_range (seen_of line) start end)) (known.has_pattern parts.url)
      (λ outside. le-leb pair.piece start (piece_before 0 (length line) start last.before pair order
      (ap (list_all (is_outside start end)) (sym pairs_are) ∙ outside) (omega arith)))
      found

  is_frame : has_file known line parts ≡ true → frame_in known line (seen_of line) (pairs_of line) (Some whole) ≡ Some place
  is_frame found =
      let at = frame_at known line (seen_of line) (pairs_of line) whole in
      let none : length line - 0 ≡ length line = omega arith in
      let first : 0 + start ≡ start = omega arith in
      let second : 0 + end ≡ end = omega arith in
      ap (λ l. at (known.frame_url l)) (ap (λ n. take n line) none ∙ take_all (length line) line (omega arith))
      ∙ ap at (frames line ∙ ap (λ parts. or_before_tail line (option_map url_in parts)) is)
      ∙ (λ i. frame_with known line (seen_of line) whole (first i) (find (λ one. one.start == second i) (pairs_of line)))
      ∙ ap (λ pairs. frame_with known line (seen_of line) whole start (find (λ one. one.start == end) pairs)) pairs_are
      ∙ ap (frame_with known line (seen_of line) whole start) (last_found 0 (length line) last.before pair order)
      ∙ ap (λ b. cond b (Some place) None) (has found)

  -- it is the only place
  pub only_place : has_file known line parts ≡ true → places_in known line (seen_of line) ≡ place ∷ []
  unfolding places_in
  only_place found =
      let seen = seen_of line in
      let pairs = pairs_of line in
      ap (λ own. filter_map (λ one. or_else own one
      (or_else (frame_in known line seen pairs (line_with (lines_of_strings seen) one.start)) one
      (or_else (frame_in known line seen pairs (line_with (virtual_lines seen) one.start)) one
      (pair_place known line seen (start_of (line_with (virtual_lines seen) one.start)) one)))) pairs) (is_frame found)
      ∙ ap (filter_map (of_pair place)) pairs_are
      ∙ last_has 0 (length line) last.before pair place refl order
