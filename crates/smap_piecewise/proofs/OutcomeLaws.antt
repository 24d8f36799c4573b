-- What lines come to, one after another.
use Rattle.std.proofs.Common.{◌≡◌, ◌+◌, ℕ, Bool, true, false, cond, List, [], ◌∷◌, ◌++◌, length, sym, ap, ◌∙◌, arith, add-zero, append_assoc, append-nil, zero-add}
use Rattle.std.specs.List.{filter, flat_map}
use Rattle.smap_lines.specs.Edited.{edited_line}
use Rattle.smap_lines.specs.Lines.{Line}
use Rattle.smap_piecewise.specs.Outcome.{Outcome, both, text_alone}

-- one behind another, behind a third
pub both_assoc : (a b c : Outcome) → both (both a b) c ≡ both a (both b c)
both_assoc a b c =
    let lines : (a.lines + b.lines) + c.lines ≡ a.lines + (b.lines + c.lines) = omega arith in
    let frames : (a.frames + b.frames) + c.frames ≡ a.frames + (b.frames + c.frames) = omega arith in
    let mapped : (a.mapped + b.mapped) + c.mapped ≡ a.mapped + (b.mapped + c.mapped) = omega arith in
    let hiding : (a.hidden + b.hidden) + c.hidden ≡ a.hidden + (b.hidden + c.hidden) = omega arith in
    λ i. record { text = append_assoc a.text b.text c.text i; lines = lines i; frames = frames i; mapped = mapped i; hidden = hiding i }

-- one more, where it passes a test
pub one_more : {A : Type 0} (t : Bool) (x : A) (xs : List A) → length (cond t (x ∷ xs) xs) ≡ cond t 1 0 + length xs
one_more true x xs = omega arith
one_more false x xs = omega arith

-- nothing before it, and nothing behind it
pub zero_both : (x : Outcome) → both (text_alone []) x ≡ x
zero_both x = λ i. record {
  text = x.text;
  lines = zero-add x.lines i;
  frames = zero-add x.frames i;
  mapped = zero-add x.mapped i;
  hidden = zero-add x.hidden i;
}

pub both_zero : (x : Outcome) → both x (text_alone []) ≡ x
both_zero x = λ i. record {
  text = append-nil x.text i;
  lines = add-zero x.lines i;
  frames = add-zero x.frames i;
  mapped = add-zero x.mapped i;
  hidden = add-zero x.hidden i;
}

-- what becomes of lines, and what they are
module _ (becomes : Line → List ℕ) (is_frame is_mapped is_hidden : Line → Bool) where
  abbrev pub of_lines : List Line → Outcome
  of_lines lines = record {
    text = flat_map (edited_line becomes) lines;
    lines = length lines;
    frames = length (filter is_frame lines);
    mapped = length (filter is_mapped lines);
    hidden = length (filter is_hidden lines);
  }

  -- that of one
  abbrev pub of_one : Line → Outcome
  of_one line = record {
    text = edited_line becomes line;
    lines = 1;
    frames = cond (is_frame line) 1 0;
    mapped = cond (is_mapped line) 1 0;
    hidden = cond (is_hidden line) 1 0;
  }

  pub of_next : (line : Line) (lines : List Line) → of_lines (line ∷ lines) ≡ both (of_one line) (of_lines lines)
  of_next line lines =
      let size : length (line ∷ lines) ≡ 1 + length lines = omega arith in λ i. record {
        text = edited_line becomes line ++ flat_map (edited_line becomes) lines;
        lines = size i;
        frames = one_more (is_frame line) line (filter is_frame lines) i;
        mapped = one_more (is_mapped line) line (filter is_mapped lines) i;
        hidden = one_more (is_hidden line) line (filter is_hidden lines) i;
      }

-- ---- a rewriting that goes on

-- what is done, and what is still to come, which begins with this
pub moved : (done_old done_new added rest_old rest_new : Outcome) → done_new ≡ both done_old added → rest_old ≡ both added rest_new
    → both done_new rest_new ≡ both done_old rest_old
moved done_old done_new added rest_old rest_new done rest =
    ap (λ d. both d rest_new) done ∙ both_assoc done_old added rest_new ∙ ap (λ r. both done_old r) (sym rest)

pub texts_alone : (first second : List ℕ) (rest : Outcome) → both (text_alone (first ++ second)) rest ≡ both (text_alone first) (both (text_alone second) rest)
texts_alone first second rest = both_assoc (text_alone first) (text_alone second) rest
