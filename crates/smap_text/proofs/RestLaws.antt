-- The end of a text that begins with one of its lines.
use Rattle.std.proofs.Common.{◌≡◌, ◌∙◌, ◌+◌, ◌-◌, ◌<◌, ◌≤◌, ℕ, zero, suc, List, [], ◌∷◌, Some, ap, arith, drop, length, refl, subst, sym}
use Rattle.std.specs.Prelude.{slice_get}
use Rattle.std.specs.Str.{IsUtf8, chars}
use Rattle.std.proofs.lemmas.List.{drop-drop, length-drop}
use Rattle.smap_text.specs.Begins.{BeginsAt}
use Rattle.smap_text.specs.Lines.{lines_of}
use Rattle.smap_text.proofs.BeginLaws.{begins_first, begins_next, some_line}
use Rattle.smap_text.specs.Rest.{IsEndFrom}

-- ---- the end of a text

-- where the end of an end of it begins
place_of_end : (content rest next : List ℕ) → drop (length content - length rest) content ≡ rest → drop (length rest - length next) rest ≡ next
    → length content - length next ≡ length content - length rest + (length rest - length next)
place_of_end content rest next end further =
    let there : length rest ≡ length content - (length content - length rest) = ap length (sym end) ∙ length-drop (length content - length rest) content in
    let behind : length next ≡ length rest - (length rest - length next) = ap length (sym further) ∙ length-drop (length rest - length next) rest in
    omega arith

-- the end of an end of it
pub end_of_end : (content rest next : List ℕ) → drop (length content - length rest) content ≡ rest → drop (length rest - length next) rest ≡ next
    → drop (length content - length next) content ≡ next
end_of_end content rest next end further =
    ap (λ n. drop n content) (place_of_end content rest next end further) ∙ sym (drop-drop (length rest - length next) (length content - length rest) content)
    ∙ ap (drop (length rest - length next)) end ∙ further

-- all of it
whole_end : (text : List ℕ) → drop (length text - length text) text ≡ text
whole_end text = let none : length text - length text ≡ 0 = omega arith in ap (λ n. drop n text) none

pub ends_whole : (text : List ℕ) → IsUtf8 text → IsEndFrom text 0 text
ends_whole text is_text =
    let none : length text - length text ≡ 0 = omega arith in
    record {
      some = some_line (chars text);
      begins = subst (BeginsAt text 0) (sym none) (begins_first text is_text);
      end = whole_end text;
      lines = refl;
    }

-- what follows its first line
pub ends_next : (text : List ℕ) (line : ℕ) (rest next : List ℕ) (first : List ℕ) (behind : List (List ℕ)) → IsUtf8 text → IsEndFrom text line rest
    → lines_of (chars rest) ≡ first ∷ behind → behind ≡ lines_of (chars next) → drop (length rest - length next) rest ≡ next
    → BeginsAt rest 1 (length rest - length next) → IsEndFrom text (line + 1) next
ends_next text line rest next first behind is_text from lines follows further begins =
    let after : drop (line + 1) (lines_of (chars text)) ≡ lines_of (chars next) =
    sym (drop-drop 1 line (lines_of (chars text))) ∙ ap (drop 1) (from.lines ∙ lines) ∙ follows in
    let some : 0 < length (drop (line + 1) (lines_of (chars text))) = subst (λ l. 0 < length l) (sym after) (some_line (chars next)) in
    record {
      some = omega (arith, some, length-drop (line + 1) (lines_of (chars text)));
      begins = subst (BeginsAt text (line + 1)) (sym (place_of_end text rest next from.end further))
          (begins_next text line (length text - length rest) (length rest - length next) is_text from.begins
          (subst (λ t. BeginsAt t 1 (length rest - length next)) (sym from.end) begins));
      end = end_of_end text rest next from.end further;
      lines = after;
    }

-- where nothing follows, there is no line of a later number
pub ends_there : (text : List ℕ) (line asked : ℕ) (rest : List ℕ) (first : List ℕ) (behind : List (List ℕ)) → IsEndFrom text line rest
    → lines_of (chars rest) ≡ first ∷ behind → behind ≡ [] → line < asked → length (lines_of (chars text)) ≤ asked
ends_there text line asked rest first behind from lines none later =
    let one : length (drop line (lines_of (chars text))) ≡ 1 = ap length (from.lines ∙ lines) ∙ ap (λ l. length (first ∷ l)) none in
    omega (arith, one, length-drop line (lines_of (chars text)))

-- ---- a line of a number

pub slice_get_drop : {X : Type 0} (xs : List X) (n : ℕ) → slice_get xs n ≡ slice_get (drop n xs) 0
slice_get_drop xs zero = refl
slice_get_drop [] (suc n) = refl
slice_get_drop (x ∷ xs) (suc n) = slice_get_drop xs n

-- its line of the number from which an end of it has the lines
pub line_of_end : (text : List ℕ) (line : ℕ) (rest first : List ℕ) (behind : List (List ℕ)) → IsEndFrom text line rest
    → lines_of (chars rest) ≡ first ∷ behind → slice_get (lines_of (chars text)) line ≡ Some first
line_of_end text line rest first behind from lines =
    slice_get_drop (lines_of (chars text)) line ∙ ap (λ l. slice_get l 0) (from.lines ∙ lines)
