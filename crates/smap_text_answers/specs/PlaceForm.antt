-- A line that asks for a place (this project's own grammar): blanks, a URL, `:`, a line, `:`, a column, and blanks; a CR may end it.
use Rattle.std.specs.Prelude.{◌≡◌, ◌==◌, ℕ, true, false, List, ◌∷◌, ◌++◌, length}
use Rattle.std.specs.Fmt.{decimal}
use Rattle.std.specs.List.{prefix_len}
use Rattle.std.specs.Str.{is_utf8}
use Rattle.smap_lines.specs.Bytes.{IsLineEnd, is_blank}
use Rattle.smap_lines.specs.Numbers.{IsPrinted}
use Rattle.smap_text_answers.specs.UrlPlace.{UrlPlace}
use Rattle.smap_printing.specs.Position.{AreBlanks}

-- the text can be a URL: UTF-8, not empty, and it begins with no blank
pub record IsUrlText (url : List ℕ) : Type 0 where
  pub some : (length url == 0) ≡ false
  pub utf8 : is_utf8 url ≡ true
  pub begins : prefix_len is_blank url ≡ 0

-- the line asks for this place; 58 is `:`
pub record IsPlace (line : List ℕ) (place : UrlPlace) : Type 0 where
  pub before : List ℕ
  pub after : List ℕ
  pub end : List ℕ
  pub joined : line ≡ before ++ ((place.url ++ 58 ∷ decimal place.position.line) ++ 58 ∷ (decimal place.position.column ++ (after ++ end)))
  pub blank_before : AreBlanks before
  pub url : IsUrlText place.url
  pub line_printed : IsPrinted place.position.line
  pub column_printed : IsPrinted place.position.column
  pub blank_after : AreBlanks after
  pub ends : IsLineEnd end
