-- The column of a text is printed in one way, with what may stand after it.
use Rattle.std.proofs.Common.{◌≡◌, ◌∙◌, ℕ, true, List, ◌++◌, Some, None, refl, sym, ap, take}
use Rattle.std.specs.Prelude.{◌↔◌, decimal}
use Rattle.std.specs.Char.{is_ascii_digit}
use Rattle.std.specs.List.{prefix_len}
use Rattle.std.proofs.lemmas.Bool.{cond-true}
use Rattle.std.proofs.lemmas.List.{take-append-drop}
use Rattle.smap_lines.specs.Bytes.{IsLineEnd, is_blank}
use Rattle.smap_lines.specs.Laws.Number.{none_else}
use Rattle.smap_lines.specs.Numbers.{IsPrinted, decimal_number}
use Rattle.smap_printing.specs.Position.{AreBlanks}
use Rattle.smap_printing.specs.PositionOf.{after_blanks, after_digits, column_of, first_number, is_line_end}
use Rattle.smap_printing.proofs.PositionLaws.{after_span, after_stops, end_stops, ends_line, first_is, passes}

-- the text is this column, printed, and what may stand after it
pub record ColumnForm (text : List ℕ) (column : ℕ) : Type 0 where
  pub after : List ℕ
  pub end : List ℕ
  pub joined : text ≡ decimal column ++ (after ++ end)
  pub blank_after : AreBlanks after
  pub ends : IsLineEnd end
  pub printed : IsPrinted column

module _ (numbers : (text : List ℕ) (n : ℕ) → (decimal_number text ≡ Some n) ↔ ((text ≡ decimal n) × IsPrinted n)) where
  pub column_has_form : (text : List ℕ) (column : ℕ) → column_of text ≡ Some column → ColumnForm text column
  column_has_form text column is =
      let parts = none_else (is_line_end (after_blanks (after_digits text))) (first_number text) column is in
      let column_is = (numbers (take (prefix_len is_ascii_digit text) text) column).0 parts.1 in
      let more : List ℕ = after_digits text in
      record {
        after = take (prefix_len is_blank more) more;
        end = after_blanks more;
        joined =
            sym (take-append-drop (prefix_len is_ascii_digit text) text)
            ∙ (λ i. column_is.0 i ++ sym (take-append-drop (prefix_len is_blank more) more) i);
        blank_after = passes is_blank more;
        ends = ends_line (after_blanks more) parts.0;
        printed = column_is.1;
      }

  pub form_is_column : (text : List ℕ) (column : ℕ) → ColumnForm text column → column_of text ≡ Some column
  form_is_column text column form =
      let c = (numbers (decimal column) column).1 (refl, form.printed) in
      let more : List ℕ = form.after ++ form.end in
      let tail : List ℕ = decimal column ++ more in
      let end = end_stops form.end form.ends in
      let read = first_is (decimal column) more column c (after_stops form.after form.end form.blank_after form.ends) in
      let ended : is_line_end (after_blanks (after_digits tail)) ≡ true =
      ap (λ t. is_line_end (after_blanks t)) read.1 ∙ ap is_line_end (after_span is_blank form.after form.end form.blank_after end.1) ∙ end.2 in
      ap column_of form.joined ∙ cond-true (is_line_end (after_blanks (after_digits tail))) (first_number tail) None ended ∙ read.0
