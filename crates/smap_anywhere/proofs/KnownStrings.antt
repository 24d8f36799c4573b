-- Of the URLs of maps none with a quotation mark is named, and that of a frame stands behind a sign: so JSON stays JSON.
use Rattle.std.proofs.Common.{◌≡◌, ◌&&◌, ◌<◌, ◌+◌, ◌-◌, ◌++◌, inl, inr, ℕ, Bool, true, false, List, [], ◌∷◌, Option, Some, None, IfSome, ap, append_assoc, arith, codes, get_or, length, length-append, min, option_map, refl, sym, take, ◌∙◌}
use Rattle.std.specs.Prelude.{not}
use Rattle.std.specs.Fmt.{decimal}
use Rattle.std.proofs.lemmas.Bool.{and_parts}
use Rattle.std.proofs.lemmas.List.{get_or-take, get_or_append_left, get_or_at, length-take}
use Rattle.std.proofs.lemmas.Option.{IfSome_then}
use Rattle.smap_pairs.specs.Json.{has_quotation_mark}
use Rattle.smap_pairs.specs.StringPlaces.{AreForStrings, IsBehindSign, begins_frame_url}
use Rattle.smap_trace.proofs.FrameLaws.{parts_are_frame}
use Rattle.smap_trace.specs.Frame.{FrameParts, IsForm, IsFrame}
use Rattle.smap_trace.specs.FrameOf.{frame_of}
use Rattle.smap_anywhere.specs.FrameUrl.{frame_url, tail_bytes, url_in, whole_frame_url, without_tail}
use Rattle.smap_anywhere.specs.Laws.FrameUrl.{of_both, url_within}
use Rattle.smap_anywhere.specs.MapUrls.{has_folder, is_name_by, is_without_query, urls_known}
use Rattle.smap_anywhere.specs.MapsSeen.{MapsSeen}

-- a text has a byte at a place
abbrev HasAt : (text : List ℕ) → (at byte : ℕ) → Type 0
HasAt text at byte = (at < length text) × (get_or text at 0 ≡ byte)

has_more : (text more : List ℕ) (at byte : ℕ) → HasAt text at byte → HasAt (text ++ more) at byte
has_more text more at byte has = (omega (arith, has.0, length-append text more), get_or_append_left text more 0 at has.0 ∙ has.1)

-- the byte before the URL of a frame
record EndsInSign (head : List ℕ) : Type 0 where
  front : List ℕ
  byte : ℕ
  joined : head ≡ front ++ byte ∷ []
  sign : begins_frame_url byte ≡ true

form_ends : (parts : FrameParts) → IsForm parts → EndsInSign parts.head
form_ends parts (inl call) = record {
  front = call.blanks ++ codes "at " ++ call.function ++ 32 ∷ [];
  byte = 40;
  joined = call.head_is ∙ sym (append_assoc (call.blanks ++ codes "at " ++ call.function) (32 ∷ []) (40 ∷ []));
  sign = refl;
}
form_ends parts (inr (inl plain)) = elim plain.head_is [
  | inl is ↦ record {
    front = plain.blanks ++ 97 ∷ 116 ∷ [];
    byte = 32;
    joined = is ∙ sym (append_assoc plain.blanks (97 ∷ 116 ∷ []) (32 ∷ []));
    sign = refl;
  }
  | inr is ↦ record {
    front = plain.blanks ++ codes "at async";
    byte = 32;
    joined = is ∙ sym (append_assoc plain.blanks (codes "at async") (32 ∷ []));
    sign = refl;
  }
]
form_ends parts (inr (inr sign)) = record { front = sign.function; byte = 64; joined = sign.head_is; sign = refl }

sign_there : (line : List ℕ) (parts : FrameParts) → IsFrame line parts
    → (0 < length parts.head) × (begins_frame_url (get_or line (length parts.head - 1) 0) ≡ true)
sign_there line parts frame =
    let ends = form_ends parts frame.form in
    let size : length parts.head ≡ length ends.front + 1 = ap length ends.joined ∙ length-append ends.front (ends.byte ∷ []) in
    let last : length ends.front ≡ length parts.head - 1 = omega (arith, size) in
    let here : HasAt parts.head (length ends.front) ends.byte =
    (omega (arith, size), ap (λ l. get_or l (length ends.front) 0) ends.joined ∙ get_or_at ends.front ends.byte [] 0 (length ends.front) refl) in
    let one = has_more parts.head parts.url _ _ here in
    let two = has_more _ (codes ":") _ _ one in
    let three = has_more _ (decimal parts.line) _ _ two in
    let four = has_more _ (codes ":") _ _ three in
    let five = has_more _ (decimal parts.column) _ _ four in
    let six = has_more _ parts.tail _ _ five in (
      omega (arith, size),
      ap (λ k. begins_frame_url (get_or line k 0)) (sym last) ∙ ap (λ l. begins_frame_url (get_or l (length ends.front) 0)) frame.joined
          ∙ ap begins_frame_url six.1 ∙ ends.sign,
    )

whole_behind : (line : List ℕ) → IfSome (whole_frame_url line) (IsBehindSign line)
whole_behind line = go (frame_of line) refl
  where
    go : (parts : Option FrameParts) → frame_of line ≡ parts → IfSome (option_map url_in parts) (IsBehindSign line)
    go None is = tt
    go (Some parts) is =
        let frame = parts_are_frame line parts is in
        let sign = sign_there line parts frame in (omega arith, url_within line parts frame, sign.0, sign.1)

-- what stands in the front of a line stands in the line
of_front : (bytes : ℕ) (line : List ℕ) (url : ℕ × ℕ) → IsBehindSign (take bytes line) url → IsBehindSign line url
of_front bytes line url is =
    let size : length (take bytes line) ≡ min bytes (length line) = length-take bytes line in
    let within : url.0 - 1 < bytes = omega (arith, is.0, is.1, is.2, size) in (
      is.0,
      omega (arith, is.1, size),
      is.2,
      ap begins_frame_url (sym (get_or-take bytes line (url.0 - 1) 0 within)) ∙ is.3,
    )

frames_behind : (line : List ℕ) → IfSome (frame_url line) (IsBehindSign line)
frames_behind line =
    of_both (IsBehindSign line) line (whole_behind line)
    (IfSome_then (whole_frame_url (without_tail line)) (whole_behind (without_tail line))
    (λ url is. of_front (length line - tail_bytes line) line url is))

not_is : (b : Bool) → not b ≡ true → b ≡ false
not_is true is = cc
not_is false is = refl

pub known_for_strings : (maps : MapsSeen) → AreForStrings (urls_known maps)
known_for_strings maps = record {
  frames = frames_behind;
  names = λ by url is. not_is (has_quotation_mark url) (and_parts (is_name_by maps by url) (not (has_quotation_mark url)) is).1;
  prefixes = λ text is.
      not_is (has_quotation_mark text) (and_parts (has_folder maps text && is_without_query text) (not (has_quotation_mark text)) is).1;
}
