-- The JSON text of a file is what stands at its end, and the ends of its lines.
use Rattle.std.proofs.Common.{◌≡◌, ℕ, ◌+◌, ◌-◌, ◌≤◌, ◌<◌, List, length, min, drop, Bool, true, false, cond, Option, Some, None, refl, sym, ap, subst, ◌∙◌, arith}
use Rattle.std.specs.Prelude.{◌==◌, nat_eq, option_map, slice_get, slice_range}
use Rattle.std.specs.List.{All, starts_with, position_or_len}
use Rattle.std.specs.Option.{option_map_or}
use Rattle.std.specs.Str.Lossy.{utf8_lossy}
use Rattle.std.proofs.lemmas.List.{length-drop, drop-drop, drop_min}
use Rattle.std.proofs.lemmas.List.Elements.{All-get_or}
use Rattle.std.proofs.lemmas.Option.{get_or_from_slice_get, slice_get_within}
use Rattle.memchr.specs.Find.{Passes, is_byte, places}
use Rattle.memchr.proofs.lemmas.CallerLemmas.{All-places}
use Rattle.smap_record.specs.FileText.{byte_order_mark, guard, json_text, without_mark}
use Rattle.smap_explain.specs.Private.Stop.{after_line_end}

chosen : (b : Bool) (n : ℕ) (bytes : List ℕ) → (k : ℕ) × (cond b (drop n bytes) bytes ≡ drop k bytes)
chosen true n bytes = (n, refl)
chosen false n bytes = (0, refl)

-- some bytes are dropped
dropped : (bytes : List ℕ) → (k : ℕ) × (json_text bytes ≡ drop k bytes)
dropped bytes =
    let mark : (k : ℕ) × (without_mark bytes ≡ drop k bytes) = chosen (starts_with nat_eq bytes byte_order_mark) (length byte_order_mark) bytes in
    let line : (k : ℕ) × (json_text bytes ≡ drop k (without_mark bytes)) =
    chosen (starts_with nat_eq (without_mark bytes) guard) (position_or_len (λ byte. byte == 10) (without_mark bytes) + 1) (without_mark bytes) in
    (mark.0 + line.0, line.1 ∙ ap (drop line.0) mark.1 ∙ drop-drop line.0 mark.0 bytes)

from_end : (bytes text : List ℕ) (k at : ℕ) → text ≡ drop k bytes → at ≤ length text
    → drop (length bytes - (length text - at)) bytes ≡ drop at text
from_end bytes text k at is within =
    let long : length text ≡ length bytes - k = ap length is ∙ length-drop k bytes in
    let place : length bytes - (length text - at) ≡ min k (length bytes) + at = omega arith in
    ap (λ n. drop n bytes) place ∙ sym (drop-drop at (min k (length bytes)) bytes) ∙ ap (drop at) (drop_min k bytes ∙ sym is)

-- what follows a byte of the text is what follows this byte of the file
pub follows_in_file : (bytes text : List ℕ) (at place byte : ℕ) → text ≡ json_text bytes → at ≡ place → at ≤ length text
    → byte ≡ length bytes - (length text - at) → drop byte bytes ≡ drop place (json_text bytes)
follows_in_file bytes text at place byte text_is at_is within byte_is =
    let last = dropped bytes in
    ap (λ n. drop n bytes) byte_is ∙ from_end bytes text last.0 at (text_is ∙ last.1) within ∙ ap (drop at) text_is
    ∙ ap (λ n. drop n (json_text bytes)) at_is

pub within_text : (bytes text : List ℕ) (at place : ℕ) → text ≡ json_text bytes → at ≡ place → at ≤ length text → place ≤ length (json_text bytes)
within_text bytes text at place text_is at_is within =
    subst (λ n. n ≤ length (json_text bytes)) at_is (subst (λ (t : List ℕ). at ≤ length t) text_is within)

-- the bytes between the same places of the same text
pub same_part : (text text' : List ℕ) (i i' j j' : ℕ) → text ≡ text' → i ≡ i' → j ≡ j'
    → utf8_lossy (slice_range text i j) ≡ utf8_lossy (slice_range text' i' j')
same_part text text' i i' j j' text_is i_is j_is = rw (text_is, i_is, j_is) refl

-- ---- the ends of lines

pub same_found : (found : Option ℕ) → option_map (λ at. at) found ≡ found
same_found None = refl
same_found (Some at) = refl

pub end_within : (text : List ℕ) (number at : ℕ) → slice_get (places (is_byte 10) text) number ≡ Some at → at < length text
end_within text number at is =
    let P : ℕ → Type 0 = λ k. (k < length text) × Passes (is_byte 10) text k in
    let here = All-get_or P (places (is_byte 10) text) number at (slice_get_within (places (is_byte 10) text) number at is) (All-places (is_byte 10) text) in
    omega (arith, here.0, get_or_from_slice_get (places (is_byte 10) text) number at at is)

pub after_end : (text : List ℕ) (number at : ℕ) → slice_get (places (is_byte 10) text) number ≡ Some at → at + 1 ≡ after_line_end text number
after_end text number at is = sym (ap (λ found. option_map_or (λ at. at + 1) found (length text)) is)

pub after_last : (text : List ℕ) (number : ℕ) → slice_get (places (is_byte 10) text) number ≡ None → length text ≡ after_line_end text number
after_last text number is = sym (ap (λ found. option_map_or (λ at. at + 1) found (length text)) is)
