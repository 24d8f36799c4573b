-- The place of a frame: where it begins, and which of two pairs has it.
use Rattle.std.proofs.Common.{◌≡◌, ◌==◌, ◌+◌, ◌<◌, ◌≤◌, ℕ, Bool, true, false, cond, List, [], ◌∷◌, Option, Some, None, IfSome}
use Rattle.std.proofs.Common.{ap, arith, length, refl, sym, ◌∙◌}
use Rattle.std.specs.List.{slice_range}
use Rattle.std.proofs.lemmas.Bool.{eqb-true}
use Rattle.std.proofs.lemmas.Option.{IfSome_then}
use Rattle.smap_pairs.specs.Known.{IsFrameUrlWithin, UrlsKnown}
use Rattle.smap_pairs.specs.LinePlaces.{frame_at, frame_in, frame_with, in_frame, of_pair, or_else, span_of}
use Rattle.smap_pairs.specs.declared.line_places.Span.{Span}
use Rattle.smap_pairs.specs.declared.pairs.Pair.{Pair}
use Rattle.smap_pairs.specs.declared.seen.SeenByte.{SeenByte}
use Rattle.smap_pairs.specs.declared.virtual_lines.VirtualLine.{VirtualLine}
use Rattle.smap_pairs.proofs.PairAtLaws.{at}
use Rattle.smap_pairs.proofs.PairPlaceLaws.{IsPlaceOf}
use Rattle.smap_pairs.proofs.PartedLaws.{IsFrom}

-- ---- a frame

-- a place that begins at a byte or behind it, and has the numbers of the pair behind its URL
pub record IsFrameFrom (pairs : List Pair) (from : ℕ) (span : Span) : Type 0 where
  pub start : from ≤ span.start
  pub url : span.start ≤ span.url_end
  pub pair : Pair
  pub found : at span.url_end pairs ≡ Some pair
  pub end : span.end ≡ pair.end

pub found_at : (start : ℕ) (pairs : List Pair) (pair : Pair) → at start pairs ≡ Some pair → pair.start ≡ start
found_at start [] pair found = absurd (cc)
found_at start (one ∷ pairs) pair found = go (one.start == start) refl found (found_at start pairs pair)
  where
    go : (same : Bool) → (one.start == start) ≡ same → cond same (Some one) (at start pairs) ≡ Some pair → (at start pairs ≡ Some pair → pair.start ≡ start)
        → pair.start ≡ start
    go true is here later = (let equal : one ≡ pair = cc in ap (λ (p : Pair). p.start) (sym equal) ∙ eqb-true one.start start is)
    go false is here later = later here

pub some_of_two : {X : Type 0} (P : X → Type 0) (one other : Bool) (x y : X) → P x → P y → IfSome (cond one (Some x) (cond other (Some y) None)) P
some_of_two P true other x y first second = first
some_of_two P false true x y first second = second
some_of_two P false false x y first second = tt

module _ (known : UrlsKnown) (text : List ℕ) (seen : List SeenByte) (pairs : List Pair) (urls : (line : List ℕ) → IsFrameUrlWithin known line) where
  frame_from : (virtual : VirtualLine) → IfSome (frame_in known text seen pairs (Some virtual)) (IsFrameFrom pairs virtual.start)
  frame_from virtual = go (known.frame_url (slice_range text virtual.start virtual.end)) (urls (slice_range text virtual.start virtual.end))
    where
      with_pair : (start end : ℕ) → start ≤ end → (found : Option Pair) → at (virtual.start + end) pairs ≡ found
          → IfSome (frame_with known text seen virtual (virtual.start + start) found) (IsFrameFrom pairs virtual.start)
      with_pair start end order None is = tt
      with_pair start end order (Some pair) is =
          let same : pair.start ≡ virtual.start + end = found_at (virtual.start + end) pairs pair is in
          let here : at pair.start pairs ≡ Some pair = ap (λ n. at n pairs) same ∙ is in
          some_of_two (IsFrameFrom pairs virtual.start) _ _ (in_frame virtual.start (span_of pair (virtual.start + start) pair.start true))
          (in_frame virtual.start (span_of pair (virtual.start + start) pair.start false))
          (record { start = omega arith; url = omega (arith, same, order); pair = pair; found = here; end = refl })
          (record { start = omega arith; url = omega (arith, same, order); pair = pair; found = here; end = refl })

      go : (url : Option (ℕ × ℕ)) → IfSome url (λ url. (url.0 ≤ url.1) × (url.1 ≤ length (slice_range text virtual.start virtual.end)))
          → IfSome (frame_at known text seen pairs virtual url) (IsFrameFrom pairs virtual.start)
      go None within = tt
      go (Some (start, end)) within = with_pair start end within.0 (at (virtual.start + end) pairs) refl

  pub frame_behind : (from : ℕ) (line : Option VirtualLine) → IfSome line (IsFrom from) → IfSome (frame_in known text seen pairs line) (IsFrameFrom pairs from)
  frame_behind from None is = tt
  frame_behind from (Some virtual) is =
      IfSome_then (frame_in known text seen pairs (Some virtual)) (frame_from virtual) (λ span frame. record {
        start = omega (arith, is, frame.start);
        url = frame.url;
        pair = frame.pair;
        found = frame.found;
        end = frame.end;
      })

  pub a_frame : (line : Option VirtualLine) → IfSome (frame_in known text seen pairs line) (IsFrameFrom pairs 0)
  a_frame line = frame_behind 0 line (from_0 line)
    where
      from_0 : (line : Option VirtualLine) → IfSome line (IsFrom 0)
      from_0 None = tt
      from_0 (Some virtual) = omega arith

-- ---- the place of a pair

pub placed_or : (pairs : List Pair) (pair : Pair) (frame other : Option Span) → at pair.start pairs ≡ Some pair
    → IfSome frame (IsFrameFrom pairs 0) → IfSome other (IsPlaceOf pair) → IfSome (or_else frame pair other) (IsPlaceOf pair)
placed_or pairs pair None other here is rest = rest
placed_or pairs pair (Some span) other here is rest = go (span.url_end == pair.start) refl
  where
    go : (own : Bool) → (span.url_end == pair.start) ≡ own → IfSome (cond own (Some span) None) (IsPlaceOf pair)
    go false none = tt
    go true own =
        let same : span.url_end ≡ pair.start = eqb-true span.url_end pair.start own in
        let found : at pair.start pairs ≡ Some is.pair = ap (λ n. at n pairs) (sym same) ∙ is.found in
        let one : is.pair ≡ pair = cc in
        record { url = is.url; within = omega (arith, same); end = is.end ∙ ap (λ (p : Pair). p.end) one }

-- ---- the places of two pairs

-- where both have one, the second begins behind the numbers of the first pair
abbrev pub IsBehind : (first second : Option Span) → (end : ℕ) → Type 0
IsBehind first second end = IfSome first (λ _. IfSome second (λ span. end ≤ span.start))

pub behind_any : (first second : Option Span) (end : ℕ) → IfSome second (λ span. end ≤ span.start) → IsBehind first second end
behind_any None second end is = tt
behind_any (Some span) second end is = is

module _ (one two : Pair) where
  -- a frame that both may have is that of one of them
  pub behind_shared : (frame first second : Option Span) → one.start < two.start → IsBehind first second one.end
      → IsBehind (or_else frame one first) (or_else frame two second) one.end
  behind_shared None first second order rest = rest
  behind_shared (Some span) first second order rest = go (span.url_end == one.start) (span.url_end == two.start) refl refl
    where
      go : (of_one of_two : Bool) → (span.url_end == one.start) ≡ of_one → (span.url_end == two.start) ≡ of_two
          → IsBehind (cond of_one (Some span) None) (cond of_two (Some span) None) one.end
      go false of_two none is = tt
      go true false is none = tt
      go true true is also = absurd (omega (arith, order, eqb-true span.url_end one.start is, eqb-true span.url_end two.start also))

  -- a frame that begins behind the first pair
  pub behind_frame : (pairs : List Pair) (frame first second : Option Span) → IfSome frame (IsFrameFrom pairs one.end) → IsBehind first second one.end
      → IsBehind first (or_else frame two second) one.end
  behind_frame pairs None first second is rest = rest
  behind_frame pairs (Some span) first second is rest = behind_any first (of_pair span two) one.end (go (span.url_end == two.start))
    where
      go : (own : Bool) → IfSome (cond own (Some span) None) (λ span. one.end ≤ span.start)
      go true = is.start
      go false = tt
