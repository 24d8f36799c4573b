-- A line asks for a place in one way: the one that is computed.
use Rattle.std.proofs.Common.{◌≡◌, ◌==◌, ◌+◌, ◌∙◌, ℕ, Bool, true, false, cond, List, [], ◌∷◌, ◌++◌, length, take, Option, Some, None, refl, sym, ap, subst, arith, inl, inr, append_assoc}
use Rattle.std.specs.Prelude.{◌↔◌, decimal}
use Rattle.std.specs.Char.{is_ascii_digit}
use Rattle.std.specs.List.{list_any, prefix_len}
use Rattle.std.specs.Option.{MatchOption}
use Rattle.std.specs.Str.{is_utf8}
use Rattle.std.proofs.lemmas.Bool.{cond-false, cond-true, or_from, or_parts}
use Rattle.std.proofs.lemmas.List.{take-append-drop}
use Rattle.smap_lines.specs.Bytes.{IsLineEnd, is_blank}
use Rattle.smap_lines.specs.Numbers.{IsPrinted, decimal_number}
use Rattle.smap_text_answers.specs.UrlPlace.{UrlPlace, place_before, place_cut, place_of, place_with}
use Rattle.smap_text_answers.specs.PlaceForm.{IsPlace, IsUrlText}
use Rattle.smap_printing.specs.Position.{AreBlanks}
use Rattle.smap_printing.specs.PositionOf.{after_blanks, column_of, position_with}
use Rattle.smap_printing.specs.declared.printed_position.PrintedPosition.{PrintedPosition}
use Rattle.smap_printing.proofs.ColumnLaws.{column_has_form, form_is_column}
use Rattle.smap_printing.proofs.PositionLaws.{AllPass, after_span, begins, blank_not_colon, number_digits, passes, stops_after, with_is}
use Rattle.smap_trace.specs.Cuts.{cut_at_last_byte}
use Rattle.smap_trace.proofs.CutLaws.{IsLastCut, cut_is_last, is_without, last_cut}

-- ---- no `:` stands in what is behind the last

without_both : (xs ys : List ℕ) → is_without 58 xs → is_without 58 ys → is_without 58 (xs ++ ys)
without_both [] ys one two = two
without_both (x ∷ xs) ys one two =
    let parts = or_parts (x == 58) (list_any (λ y. y == 58) xs) one in
    or_from (x == 58) _ parts.0 (without_both xs ys parts.1 two)

digit_not_colon : (byte : ℕ) → is_ascii_digit byte ≡ true → (byte == 58) ≡ false
digit_not_colon byte digit = grind arith

digits_without : (xs : List ℕ) → AllPass is_ascii_digit xs → is_without 58 xs
digits_without [] all = refl
digits_without (x ∷ xs) all = or_from (x == 58) _ (digit_not_colon x all.0) (digits_without xs all.1)

blanks_without : (xs : List ℕ) → AreBlanks xs → is_without 58 xs
blanks_without [] all = refl
blanks_without (x ∷ xs) all = or_from (x == 58) _ (blank_not_colon x all.0) (blanks_without xs all.1)

end_without : (end : List ℕ) → IsLineEnd end → is_without 58 end
end_without end (inl none) = subst (is_without 58) (sym none) refl
end_without end (inr cr) = subst (is_without 58) (sym cr) refl

-- ---- blanks before a URL

begun : (url rest : List ℕ) → (length url == 0) ≡ false → begins is_blank (url ++ rest) ≡ false → prefix_len is_blank url ≡ 0
unfolding begins
begun [] rest some stops = cc
begun (x ∷ url) rest some stops = cond-false (is_blank x) (1 + prefix_len is_blank url) 0 stops

stops : (url rest : List ℕ) → (length url == 0) ≡ false → prefix_len is_blank url ≡ 0 → begins is_blank (url ++ rest) ≡ false
unfolding begins
stops [] rest some none = cc
stops (x ∷ url) rest some none = go (is_blank x) refl none
  where
    go : (b : Bool) → is_blank x ≡ b → cond b (1 + prefix_len is_blank url) 0 ≡ 0 → is_blank x ≡ false
    go true is zero = absurd (omega (arith, zero))
    go false is zero = is

-- ---- the place

url_with : (url : List ℕ) (position : Option PrintedPosition) (place : UrlPlace) → place_with url position ≡ Some place
    → ((length url == 0) ≡ false) × (is_utf8 url ≡ true) × (url ≡ place.url) × (position ≡ Some place.position)
url_with url None place is = cc
url_with url (Some position) place is = go (length url == 0) (is_utf8 url) refl refl is
  where
    go : (empty utf8 : Bool) → (length url == 0) ≡ empty → is_utf8 url ≡ utf8
        → cond empty None (cond utf8 (Some (record { url = url; position = position })) None) ≡ Some place
        → ((length url == 0) ≡ false) × (is_utf8 url ≡ true) × (url ≡ place.url) × (Some position ≡ Some place.position)
    go true utf8 is_empty is_utf8 found = cc
    go false false is_empty is_utf8 found = cc
    go false true is_empty is_utf8 found =
        let same : record { url = url; position = position } ≡ place = cc in
        (is_empty, is_utf8, ap (λ p. p.url) same, ap (λ p. Some p.position) same)

with_url : (url : List ℕ) (position : PrintedPosition) → IsUrlText url → place_with url (Some position) ≡ Some (record { url = url; position = position })
with_url url position is = cond-false (length url == 0) None _ is.some ∙ cond-true (is_utf8 url) _ None is.utf8

module _ (numbers : (text : List ℕ) (n : ℕ) → (decimal_number text ≡ Some n) ↔ ((text ≡ decimal n) × IsPrinted n)) where
  -- where the line's number is cut
  front_form : (line before front column : List ℕ) (place : UrlPlace) → line ≡ before ++ (front ++ 58 ∷ column) → AreBlanks before
      → begins is_blank (front ++ 58 ∷ column) ≡ false → (cut : Option (List ℕ × List ℕ)) → MatchOption cut (is_without 58 front) (IsLastCut 58 front)
      → place_before cut (column_of column) ≡ Some place → IsPlace line place
  front_form line before front column place joined blank starts None is found = cc
  front_form line before front column place joined blank starts (Some (url, number)) is found =
      let parts = url_with url (position_with (decimal_number number) (column_of column)) place found in
      let read = with_is (decimal_number number) (column_of column) place.position parts.3 in
      let line_is = (numbers number place.position.line).0 read.0 in
      let form = column_has_form numbers column place.position.column read.1 in
      let front_is : front ≡ place.url ++ 58 ∷ decimal place.position.line = is.0 ∙ (λ i. parts.2 i ++ 58 ∷ line_is.0 i) in
      let starts_so : begins is_blank (url ++ (58 ∷ number ++ 58 ∷ column)) ≡ false =
      ap (begins is_blank) (sym (append_assoc url (58 ∷ number) (58 ∷ column)) ∙ ap (λ l. l ++ 58 ∷ column) (sym is.0)) ∙ starts in
      record {
        before = before;
        after = form.after;
        end = form.end;
        joined = joined ∙ (λ i. before ++ (front_is i ++ 58 ∷ form.joined i));
        blank_before = blank;
        url = subst IsUrlText parts.2 (record { some = parts.0; utf8 = parts.1; begins = begun url (58 ∷ number ++ 58 ∷ column) parts.0 starts_so });
        line_printed = line_is.1;
        column_printed = form.printed;
        blank_after = form.blank_after;
        ends = form.ends;
      }

  text_form : (line before text : List ℕ) (place : UrlPlace) → line ≡ before ++ text → AreBlanks before → begins is_blank text ≡ false
      → (cut : Option (List ℕ × List ℕ)) → MatchOption cut (is_without 58 text) (IsLastCut 58 text) → place_cut cut ≡ Some place → IsPlace line place
  text_form line before text place joined blank starts None is found = cc
  text_form line before text place joined blank starts (Some (front, column)) is found =
      front_form line before front column place (joined ∙ ap (λ t. before ++ t) is.0) blank (ap (begins is_blank) (sym is.0) ∙ starts)
      (cut_at_last_byte 58 front) (cut_is_last 58 front) found

  pub place_has_form : (line : List ℕ) (place : UrlPlace) → place_of line ≡ Some place → IsPlace line place
  unfolding place_of
  place_has_form line place is =
      text_form line (take (prefix_len is_blank line) line) (after_blanks line) place (sym (take-append-drop (prefix_len is_blank line) line))
      (passes is_blank line) (stops_after is_blank line) (cut_at_last_byte 58 (after_blanks line)) (cut_is_last 58 (after_blanks line)) is

  pub form_is_place : (line : List ℕ) (place : UrlPlace) → IsPlace line place → place_of line ≡ Some place
  unfolding place_of
  form_is_place line place form =
      let l = (numbers (decimal place.position.line) place.position.line).1 (refl, form.line_printed) in
      let c = (numbers (decimal place.position.column) place.position.column).1 (refl, form.column_printed) in
      let column : List ℕ = decimal place.position.column ++ (form.after ++ form.end) in
      let front : List ℕ = place.url ++ 58 ∷ decimal place.position.line in
      let starts : begins is_blank (front ++ 58 ∷ column) ≡ false =
      ap (begins is_blank) (append_assoc place.url (58 ∷ decimal place.position.line) (58 ∷ column))
      ∙ stops place.url (58 ∷ decimal place.position.line ++ 58 ∷ column) form.url.some form.url.begins in
      let text : after_blanks line ≡ front ++ 58 ∷ column =
      ap after_blanks form.joined ∙ after_span is_blank form.before (front ++ 58 ∷ column) form.blank_before starts in
      let cut : cut_at_last_byte 58 (after_blanks line) ≡ Some (front, column) =
      ap (cut_at_last_byte 58) text ∙ last_cut 58 front column (without_both (decimal place.position.column) (form.after ++ form.end)
      (digits_without (decimal place.position.column) (number_digits (decimal place.position.column) place.position.column c))
      (without_both form.after form.end (blanks_without form.after form.blank_after) (end_without form.end form.ends))) in
      let before : cut_at_last_byte 58 front ≡ Some (place.url, decimal place.position.line) =
      last_cut 58 place.url (decimal place.position.line)
      (digits_without (decimal place.position.line) (number_digits (decimal place.position.line) place.position.line l)) in
      let read : column_of column ≡ Some place.position.column = form_is_column numbers column place.position.column
      (record { after = form.after; end = form.end; joined = refl; blank_after = form.blank_after; ends = form.ends; printed = form.column_printed }) in
      ap place_cut cut ∙ ap (λ b. place_before b (column_of column)) before ∙ (λ i. place_with place.url (position_with (l i) (read i)))
      ∙ with_url place.url place.position form.url
