-- What the editor of positions has counted after a text.
use Rattle.std.proofs.Common.{◌≡◌, ◌+◌, ℕ, Bool, true, false, cond, List, [], ◌∷◌, length, filter, fold, Option, Some, None, refl, sym, ◌∙◌, arith, subst}
use Rattle.smap_lines.specs.Edited.{after_line, after_text, is_short}
use Rattle.smap_lines.specs.Lines.{Line, lines_with_ends}
use Rattle.smap_printing.specs.Private.Answerer.{bad_with, after_position}
use Rattle.smap_printing.specs.Positions.{first_bad, first_bad_from, is_position_line, short_lines}
use Rattle.smap_printing.specs.declared.answerer.PositionAnswerer.{PositionAnswerer}

-- the first bad line of some, after those before
bad_on : Option ℕ → Option ℕ → Option ℕ
bad_on (Some earlier) later = Some earlier
bad_on None later = later

bad_on_none : (bad : Option ℕ) → bad ≡ bad_on bad None
unfolding bad_on
bad_on_none (Some earlier) = refl
bad_on_none None = refl

bad_after : (bad : Option ℕ) (number : ℕ) (is_position : Bool) (later : Option ℕ) →
    bad_on (bad_with bad number is_position) later ≡ bad_on bad (cond is_position later (Some number))
unfolding bad_on
bad_after (Some earlier) number is_position later = refl
bad_after None number true later = refl
bad_after None number false later = refl

-- a line that is too long is passed over
only_short : (answerer : PositionAnswerer) (lines : List Line)
    → fold (after_line after_position) answerer lines ≡ fold after_position answerer (filter is_short lines)
only_short answerer [] = refl
only_short answerer (line ∷ lines) = go (is_short line) (λ next. only_short next lines)
  where
    go : (short : Bool) → ((next : PositionAnswerer) → fold (after_line after_position) next lines ≡ fold after_position next (filter is_short lines)) →
        fold (after_line after_position) (cond short (after_position answerer line) answerer) lines
        ≡ fold after_position answerer (cond short (line ∷ filter is_short lines) (filter is_short lines))
    go true later = later (after_position answerer line)
    go false later = later answerer

abbrev Counted : PositionAnswerer → List Line → PositionAnswerer → Type 0
Counted answerer lines new =
    (new.lines ≡ answerer.lines + length lines) × (new.first_bad ≡ bad_on answerer.first_bad (first_bad_from (answerer.lines + 1) lines))

counted_over : (answerer : PositionAnswerer) (lines : List Line) → Counted answerer lines (fold after_position answerer lines)
counted_over answerer [] = (omega arith, bad_on_none answerer.first_bad)
counted_over answerer (line ∷ lines) =
    let more = counted_over (after_position answerer line) lines in
    (omega (arith, more.0), more.1 ∙ bad_after answerer.first_bad (answerer.lines + 1) (is_position_line line) (first_bad_from (answerer.lines + 1 + 1) lines))

module _ (answerer new : PositionAnswerer) (bytes : List ℕ) (none_counted : answerer.lines ≡ 0) (none_bad : answerer.first_bad ≡ None)
    (after : new ≡ after_text after_position answerer bytes) where
  counted : Counted answerer (short_lines bytes) new
  unfolding after_text
  counted = subst (λ n. Counted answerer (short_lines bytes) n) (sym (after ∙ only_short answerer (lines_with_ends bytes)))
      (counted_over answerer (short_lines bytes))

  pub answered_is : new.lines ≡ length (short_lines bytes)
  answered_is = omega (arith, counted.0, none_counted)

  pub bad_is : new.first_bad ≡ first_bad bytes
  unfolding first_bad bad_on
  bad_is = counted.1 ∙ (λ i. bad_on (none_bad i) (first_bad_from (none_counted i + 1) (short_lines bytes)))
