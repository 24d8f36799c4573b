-- The first line of a text, by its characters and by its bytes.
use Rattle.std.proofs.Common.{◌≡◌, ◌+◌, ◌-◌, ◌<◌, ℕ, Bool, true, false, eqb, List, [], ◌∷◌, ◌++◌, length, get_or, take, drop, Some}
use Rattle.std.proofs.Common.{slice_get, refl, sym, ap, subst, ◌∙◌, arith, ⊎_elim}
use Rattle.std.specs.Str.{IsUtf8, IsCharBoundary, chars}
use Rattle.std.proofs.lemmas.Bool.{cond-false, eqb-true, eqb-false, ne_eqb, and_left, and_parts, and_from, cases_Bool}
use Rattle.std.proofs.lemmas.List.{append_assoc, length-append, take_at, drop_at, take_all, drop_all}
use Rattle.std.proofs.lemmas.Str.{char_from_byte, length-encode, len_utf8_bounds, chars-encodes, encodes-append, IsCharBoundary-at_seam, IsCharBoundary-end}
use lib.Utf8.{encode, encodes, scalar, scalars}
use Rattle.smap_text.specs.Private.Ends.{end_bytes, line_bytes}
use Rattle.smap_text.specs.Begins.{BeginsAt}
use Rattle.smap_text.specs.Lines.{is_line_end, lines_from, lines_of, with_front}
use Rattle.smap_text.proofs.EndLaws.{byte_ends, cr_ends, character_passes, ends_are, others_are, read_from}

-- ---- by characters

-- a text is its only line; or its first line, an end and the rest
pub data FirstLine : List ℕ → Type 0 where
  last : {cs : List ℕ} → lines_of cs ≡ cs ∷ [] → line_bytes (encodes cs) ≡ length (encodes cs) → FirstLine cs
  ended : {cs : List ℕ} (first ending rest : List ℕ) → cs ≡ first ++ (ending ++ rest) → lines_of cs ≡ first ∷ lines_of rest
      → line_bytes (encodes cs) ≡ length (encodes first) → end_bytes (encodes (ending ++ rest)) ≡ length (encodes ending)
      → 0 < length (encodes ending) → lines_of (first ++ ending) ≡ first ∷ [] ∷ [] → FirstLine cs

lines_go_on : (c : ℕ) (cs : List ℕ) → is_line_end c ≡ false → lines_of (c ∷ cs) ≡ with_front c (lines_of cs)
unfolding lines_of
lines_go_on c cs no_end = cond-false _ _ _ (and_left _ _ (ne_eqb c 0x0D (others_are c no_end).1)) ∙ cond-false _ _ _ no_end

goes_on : (c : ℕ) (cs : List ℕ) → scalar c ≡ true → is_line_end c ≡ false → FirstLine cs → FirstLine (c ∷ cs)
goes_on c cs is no_end (last lines bytes) =
    let more : line_bytes (encode c ++ encodes cs) ≡ length (encode c) + line_bytes (encodes cs) = character_passes c is no_end (encodes cs) in
    last (lines_go_on c cs no_end ∙ ap (with_front c) lines) (omega (arith, length-append (encode c) (encodes cs)))
goes_on c cs is no_end (ended first ending rest whole lines bytes end some one) =
    let more : line_bytes (encode c ++ encodes cs) ≡ length (encode c) + line_bytes (encodes cs) = character_passes c is no_end (encodes cs) in
    ended (c ∷ first) ending rest (ap (λ l. c ∷ l) whole) (lines_go_on c cs no_end ∙ ap (with_front c) lines)
    (omega (arith, length-append (encode c) (encodes first))) end some (lines_go_on c (first ++ ending) no_end ∙ ap (with_front c) one)

ends_in_lf : (cs : List ℕ) → FirstLine (0x0A ∷ cs)
unfolding lines_of encode line_bytes
ends_in_lf cs = ended [] (0x0A ∷ []) cs refl refl refl refl (omega arith) refl

ends_in_line_separator : (cs : List ℕ) → FirstLine (0x2028 ∷ cs)
unfolding lines_of encode line_bytes
ends_in_line_separator cs = ended [] (0x2028 ∷ []) cs refl refl refl refl (omega arith) refl

ends_in_paragraph_separator : (cs : List ℕ) → FirstLine (0x2029 ∷ cs)
unfolding lines_of encode line_bytes
ends_in_paragraph_separator cs = ended [] (0x2029 ∷ []) cs refl refl refl refl (omega arith) refl

ends_in_cr_lf : (cs : List ℕ) → FirstLine (0x0D ∷ 0x0A ∷ cs)
unfolding lines_of encode line_bytes
ends_in_cr_lf cs = ended [] (0x0D ∷ 0x0A ∷ []) cs refl refl refl refl (omega arith) refl

ends_in_last_cr : FirstLine (0x0D ∷ [])
unfolding lines_of encode line_bytes
ends_in_last_cr = ended [] (0x0D ∷ []) [] refl refl refl refl (omega arith) refl

-- the byte after a CR is an LF only where the character is
no_line_feed : (d : ℕ) (ds : List ℕ) → eqb d 0x0A ≡ false → eqb (get_or (encode d ++ encodes ds) 0 0) 0x0A ≡ false
no_line_feed d ds other = ne_eqb (get_or (encode d ++ encodes ds) 0 0) 0x0A (λ e.
    let some : 0 < length (encode d ++ encodes ds) = omega (arith, length-append (encode d) (encodes ds), length-encode d, (len_utf8_bounds d).0) in
    eqb-false d 0x0A other (char_from_byte (encode d ++ encodes ds) (encodes ds) d refl (omega arith) some ∙ e))

lines_after_cr : (b : Bool) (lines : List (List ℕ)) → b ≡ false → lines_from 0x0D b lines ≡ [] ∷ lines
lines_after_cr true lines never = cc
lines_after_cr false lines _ = refl

ends_in_cr : (d : ℕ) (ds : List ℕ) → eqb d 0x0A ≡ false → FirstLine (0x0D ∷ d ∷ ds)
unfolding lines_of encode
ends_in_cr d ds other =
    let end : end_bytes (0x0D ∷ (encode d ++ encodes ds)) ≡ 1 = cr_ends (encode d ++ encodes ds) (no_line_feed d ds other) in
    ended [] (0x0D ∷ []) (d ∷ ds) refl (lines_after_cr (eqb d 0x0A) (lines_of (d ∷ ds)) other)
    (byte_ends 0x0D (encode d ++ encodes ds) (omega arith)) end (omega arith) refl

ends_in_any_cr : (cs : List ℕ) → FirstLine (0x0D ∷ cs)
ends_in_any_cr [] = ends_in_last_cr
ends_in_any_cr (d ∷ ds) = ⊎_elim
    (λ is. subst (λ x. FirstLine (0x0D ∷ x ∷ ds)) (sym (eqb-true d 0x0A is)) (ends_in_cr_lf ds))
    (λ other. ends_in_cr d ds other)
    (cases_Bool (eqb d 0x0A))

ends : (c : ℕ) (cs : List ℕ) → is_line_end c ≡ true → FirstLine (c ∷ cs)
ends c cs is = ⊎_elim
    (λ h. ⊎_elim
    (λ e. subst (λ x. FirstLine (x ∷ cs)) (sym e) (ends_in_lf cs))
    (λ e. subst (λ x. FirstLine (x ∷ cs)) (sym e) (ends_in_any_cr cs)) h)
    (λ h. ⊎_elim
    (λ e. subst (λ x. FirstLine (x ∷ cs)) (sym e) (ends_in_line_separator cs))
    (λ e. subst (λ x. FirstLine (x ∷ cs)) (sym e) (ends_in_paragraph_separator cs)) h)
    (ends_are c is)

first_line_of : (cs : List ℕ) → scalars cs ≡ true → FirstLine cs
unfolding lines_of line_bytes
first_line_of [] is = last refl refl
first_line_of (c ∷ cs) is =
    let parts = and_parts (scalar c) (scalars cs) is in
    ⊎_elim (λ end. ends c cs end) (λ no_end. goes_on c cs parts.0 no_end (first_line_of cs parts.1)) (cases_Bool (is_line_end c))

-- ---- by bytes

scalars_parts : (xs ys : List ℕ) → scalars (xs ++ ys) ≡ true → (scalars xs ≡ true) × (scalars ys ≡ true)
scalars_parts [] ys is = (refl, is)
scalars_parts (x ∷ xs) ys is =
    let parts = and_parts (scalar x) (scalars (xs ++ ys)) is in let rest = scalars_parts xs ys parts.1 in
    (and_from (scalar x) (scalars xs) parts.0 rest.0, rest.1)

-- so many bytes stand before the first line end of a text, which has so many, or none where the text ends
pub record FirstBytes (text : List ℕ) (line end : ℕ) : Type 0 where
  pub boundary : IsCharBoundary text line
  pub first : slice_get (lines_of (chars text)) 0 ≡ Some (chars (take line text))
  pub last : end ≡ 0 → drop 1 (lines_of (chars text)) ≡ []
  pub after : 0 < end → IsCharBoundary text (line + end) × (drop 1 (lines_of (chars text)) ≡ lines_of (chars (drop (line + end) text)))
      × (lines_of (chars (take (line + end) text)) ≡ chars (take line text) ∷ [] ∷ [])

last_bytes : (cs : List ℕ) → scalars cs ≡ true → lines_of cs ≡ cs ∷ [] → FirstBytes (encodes cs) (length (encodes cs)) 0
last_bytes cs is lines =
    let back : chars (encodes cs) ≡ cs = chars-encodes cs is in
    let all : take (length (encodes cs)) (encodes cs) ≡ encodes cs = take_all (length (encodes cs)) (encodes cs) (omega arith) in
    record {
      boundary = IsCharBoundary-end (encodes cs);
      first = ap (λ l. slice_get (lines_of l) 0) back ∙ ap (λ l. slice_get l 0) lines ∙ ap Some (sym (ap chars all ∙ back));
      last = λ _. ap (λ l. drop 1 (lines_of l)) back ∙ ap (drop 1) lines;
      after = λ never. absurd (omega arith);
    }

ended_bytes : (first ending rest : List ℕ) → scalars (first ++ (ending ++ rest)) ≡ true → lines_of (first ++ (ending ++ rest)) ≡ first ∷ lines_of rest
    → 0 < length (encodes ending) → lines_of (first ++ ending) ≡ first ∷ [] ∷ []
    → FirstBytes (encodes (first ++ (ending ++ rest))) (length (encodes first)) (length (encodes ending))
ended_bytes first ending rest is lines some one =
    let is_first = scalars_parts first (ending ++ rest) is in
    let is_rest = scalars_parts ending rest is_first.1 in
    let text : List ℕ = encodes (first ++ (ending ++ rest)) in
    let back : chars text ≡ first ++ (ending ++ rest) = chars-encodes (first ++ (ending ++ rest)) is in
    let seam : text ≡ encodes first ++ encodes (ending ++ rest) = encodes-append first (ending ++ rest) in
    let later : text ≡ (encodes first ++ encodes ending) ++ encodes rest =
    seam ∙ ap (λ l. encodes first ++ l) (encodes-append ending rest) ∙ sym (append_assoc (encodes first) (encodes ending) (encodes rest)) in
    let both : length (encodes first ++ encodes ending) ≡ length (encodes first) + length (encodes ending) = length-append (encodes first) (encodes ending) in
    let taken : take (length (encodes first)) text ≡ encodes first =
    ap (take (length (encodes first))) seam ∙ take_at (encodes first) (encodes (ending ++ rest)) (length (encodes first)) refl in
    let dropped : drop (length (encodes first) + length (encodes ending)) text ≡ encodes rest =
    ap (drop (length (encodes first) + length (encodes ending))) later
    ∙ drop_at (encodes first ++ encodes ending) (encodes rest) (length (encodes first) + length (encodes ending)) both in
    let front : take (length (encodes first) + length (encodes ending)) text ≡ encodes (first ++ ending) =
    ap (take (length (encodes first) + length (encodes ending))) later
    ∙ take_at (encodes first ++ encodes ending) (encodes rest) (length (encodes first) + length (encodes ending)) both
    ∙ sym (encodes-append first ending) in
    let is_front = scalars_parts (first ++ ending) rest (ap scalars (append_assoc first ending rest) ∙ is) in
    record {
      boundary = IsCharBoundary-at_seam text (encodes first) (encodes (ending ++ rest)) seam (ending ++ rest, (is_first.1, refl));
      first = ap (λ l. slice_get (lines_of l) 0) back ∙ ap (λ l. slice_get l 0) lines ∙ ap Some (sym (ap chars taken ∙ chars-encodes first is_first.0));
      last = λ never. absurd (omega arith);
      after = λ _. (
        subst (λ n. IsCharBoundary text n) both (IsCharBoundary-at_seam text (encodes first ++ encodes ending) (encodes rest) later (rest, (is_rest.1, refl))),
        ap (λ l. drop 1 (lines_of l)) back ∙ ap (drop 1) lines ∙ ap lines_of (sym (ap chars dropped ∙ chars-encodes rest is_rest.1)),
        ap lines_of (ap chars front ∙ chars-encodes (first ++ ending) is_front.0) ∙ one
            ∙ ap (λ l. l ∷ [] ∷ []) (sym (ap chars taken ∙ chars-encodes first is_first.0)),
      );
    }

-- the bytes that the code finds are those
IsFound : List ℕ → Type 0
IsFound text = FirstBytes text (line_bytes text) (end_bytes (drop (line_bytes text) text))

found : (text : List ℕ) (line end : ℕ) → line_bytes text ≡ line → end_bytes (drop line text) ≡ end → FirstBytes text line end → IsFound text
unfolding IsFound
found text line end at_line at_end bytes =
    subst (λ n. FirstBytes text n (end_bytes (drop n text))) (sym at_line) (subst (λ n. FirstBytes text line n) (sym at_end) bytes)

found_of : (cs : List ℕ) → scalars cs ≡ true → FirstLine cs → IsFound (encodes cs)
found_of cs is (last lines bytes) =
    found (encodes cs) (length (encodes cs)) 0 bytes (ap end_bytes (drop_all (length (encodes cs)) (encodes cs) (omega arith))) (last_bytes cs is lines)
found_of cs is (ended first ending rest whole lines bytes end some one) =
    let seam : encodes cs ≡ encodes first ++ encodes (ending ++ rest) = ap encodes whole ∙ encodes-append first (ending ++ rest) in
    let after : drop (length (encodes first)) (encodes cs) ≡ encodes (ending ++ rest) =
    ap (drop (length (encodes first))) seam ∙ drop_at (encodes first) (encodes (ending ++ rest)) (length (encodes first)) refl in
    found (encodes cs) (length (encodes first)) (length (encodes ending)) bytes (ap end_bytes after ∙ end)
    (subst (λ l. FirstBytes (encodes l) (length (encodes first)) (length (encodes ending))) (sym whole)
    (ended_bytes first ending rest (ap scalars (sym whole) ∙ is) (ap lines_of (sym whole) ∙ lines) some one))

pub first_bytes : (text : List ℕ) → IsUtf8 text → FirstBytes text (line_bytes text) (end_bytes (drop (line_bytes text) text))
unfolding IsFound
first_bytes text is_text = subst IsFound is_text.1.1 (found_of is_text.0 is_text.1.0 (first_line_of is_text.0 is_text.1.0))

-- what the code reads of a text whose bytes it was lent
pub first_read : (text bytes : List ℕ) (line : ℕ) → IsUtf8 text → bytes ≡ text → line ≡ line_bytes bytes → FirstBytes text line (end_bytes (drop line text))
first_read text bytes line is_text same at =
    let here : line_bytes text ≡ line = sym (at ∙ ap line_bytes same) in
    subst (λ n. FirstBytes text n (end_bytes (drop n text))) here (first_bytes text is_text)

pub end_read : (text bytes : List ℕ) (line end : ℕ) → IsUtf8 text → bytes ≡ text → line ≡ line_bytes bytes
    → end ≡ end_bytes (take (length bytes - line) (drop line bytes)) → FirstBytes text line end
end_read text bytes line end is_text same at read =
    subst (λ n. FirstBytes text line n) (sym (read_from end line bytes read ∙ ap (λ l. end_bytes (drop line l)) same))
    (first_read text bytes line is_text same at)

take_first : (lines : List (List ℕ)) (first : List ℕ) → slice_get lines 0 ≡ Some first → take 1 lines ≡ first ∷ []
take_first [] first is = absurd (cc)
take_first (line ∷ lines) first is = let same : line ≡ first = cc in ap (λ l. l ∷ []) same

-- behind the end begins the second line
pub second_begins : {text : List ℕ} {line end : ℕ} → FirstBytes text line end → 0 < end → BeginsAt text 1 (line + end)
second_begins {text} {line} {end} bytes some = record {
  boundary = (bytes.after some).0;
  before = (bytes.after some).2 ∙ ap (λ l. l ++ [] ∷ []) (sym (take_first (lines_of (chars text)) (chars (take line text)) bytes.first));
  behind = sym (bytes.after some).1;
}

-- ---- the first line and the rest

pub first_and_rest : (lines : List (List ℕ)) (first : List ℕ) (rest : List (List ℕ)) → slice_get lines 0 ≡ Some first → drop 1 lines ≡ rest → lines ≡ first ∷ rest
first_and_rest [] first rest is after = absurd (cc)
first_and_rest (line ∷ lines) first rest is after = let same : line ≡ first = cc in ap (λ l. l ∷ lines) same ∙ ap (λ l. first ∷ l) after
