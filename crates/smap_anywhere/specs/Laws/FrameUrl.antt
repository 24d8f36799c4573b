-- Laws of frames: the URL of one stands within its line.
use Rattle.std.proofs.Common.{◌≡◌, ◌≤◌, ◌+◌, ◌-◌, ◌&&◌, ℕ, Bool, true, false, cond, List, Option, Some, None, IfSome, ap, arith, length, length-append, nat_lt, option_map, refl}
use Rattle.std.specs.List.{slice_range}
use Rattle.std.proofs.lemmas.List.{length-take}
use Rattle.std.proofs.lemmas.Option.{IfSome_then}
use Rattle.smap_pairs.specs.Json.{has_quotation_mark}
use Rattle.smap_anywhere.specs.FrameUrl.{begins_with_blank, frame_url, or_before_tail, tail_bytes, unless_quoted, url_before_tail, url_in, whole_frame_url, without_tail}
use Rattle.smap_trace.proofs.FrameLaws.{parts_are_frame}
use Rattle.smap_trace.specs.Frame.{FrameParts, IsFrame}
use Rattle.smap_trace.specs.FrameOf.{frame_of}

pub url_within : (line : List ℕ) (parts : FrameParts) → IsFrame line parts → length parts.head + length parts.url ≤ length line
url_within line parts frame = omega (arith, simp length-append at (ap length frame.joined))

pub whole_url_within : (line : List ℕ) → IfSome (whole_frame_url line) (λ url. (url.0 ≤ url.1) × (url.1 ≤ length line))
whole_url_within line = go (frame_of line) refl
  where
    go : (parts : Option FrameParts) → frame_of line ≡ parts
        → IfSome (option_map url_in parts) (λ url. (url.0 ≤ url.1) × (url.1 ≤ length line))
    go None is = tt
    go (Some parts) is = (omega arith, url_within line parts (parts_are_frame line parts is))

-- ---- the whole line, and the line without what node prints behind a frame

module _ (P : (ℕ × ℕ) → Type 0) (line : List ℕ) where
  of_quoted : (url : Option (ℕ × ℕ)) → IfSome url P → IfSome (unless_quoted line url) P
  of_quoted None is = tt
  of_quoted (Some (start, end)) is = go (has_quotation_mark (slice_range line start end))
    where
      go : (has : Bool) → IfSome (cond has None (Some (start, end))) P
      go true = tt
      go false = is

  of_tail : IfSome (whole_frame_url (without_tail line)) P → IfSome (url_before_tail line) P
  of_tail is = go (nat_lt 0 (tail_bytes line) && begins_with_blank line)
    where
      go : (has : Bool) → IfSome (cond has (unless_quoted line (whole_frame_url (without_tail line))) None) P
      go true = of_quoted (whole_frame_url (without_tail line)) is
      go false = tt

  -- what holds of the URL in both
  pub of_both : IfSome (whole_frame_url line) P → IfSome (whole_frame_url (without_tail line)) P → IfSome (frame_url line) P
  of_both whole before = go (whole_frame_url line) whole
    where
      go : (url : Option (ℕ × ℕ)) → IfSome url P → IfSome (or_before_tail line url) P
      go None is = of_tail before
      go (Some url) is = is

pub frame_url_within : (line : List ℕ) → IfSome (frame_url line) (λ url. (url.0 ≤ url.1) × (url.1 ≤ length line))
frame_url_within line =
    of_both (λ url. (url.0 ≤ url.1) × (url.1 ≤ length line)) line (whole_url_within line)
    (IfSome_then (whole_frame_url (without_tail line)) (whole_url_within (without_tail line))
    (λ url is. (is.0, omega (arith, is.1, length-take (length line - tail_bytes line) line))))
