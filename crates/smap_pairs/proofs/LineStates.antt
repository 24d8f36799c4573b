-- The virtual lines of a line begin between two characters of JSON.
use Rattle.std.proofs.Common.{◌≡◌, ◌++◌, ◌+◌, ◌<◌, ◌≤◌, inl, inr, ℕ, suc, Bool, true, false, List, [], ◌∷◌, ap, append_assoc, arith, length, length-append, refl, subst, sym, take, ◌∙◌}
use Rattle.std.specs.Prelude.{◌==◌, ◌&&◌, ◌||◌, if◌then◌else◌, not}
use Rattle.std.specs.List.{All}
use Rattle.std.proofs.Math.Bool.{or-true}
use Rattle.std.proofs.Math.Seq.{take-append_seam}
use Rattle.std.proofs.lemmas.Bool.{and_parts, leb-true, ne_eqb, or_cases}
use Rattle.std.proofs.lemmas.List.Elements.{All-cons, All-head, All-nil, All-tail}
use Rattle.smap_pairs.specs.Json.{InString, past, past_all}
use Rattle.smap_pairs.specs.Json.InString.{between}
use Rattle.smap_pairs.specs.Marks.{ends_escape, ends_line, ends_mark, is_quotation_mark, mark_at, marks_from, marks_of}
use Rattle.smap_pairs.specs.Seen.{seen_of}
use Rattle.smap_pairs.specs.VirtualLines.{lines_between, lines_of_strings, marks_of_strings, unit_behind, virtual_lines}
use Rattle.smap_pairs.specs.declared.marks.Mark.{Mark}
use Rattle.smap_pairs.specs.declared.seen.SeenByte.{SeenByte}
use Rattle.smap_pairs.specs.declared.virtual_lines.VirtualLine.{VirtualLine}
use Rattle.smap_pairs.proofs.EdgeStates.{Edges, line_edges, may_be_edge}
use Rattle.smap_pairs.proofs.JsonLaws.{past_both}
use Rattle.smap_pairs.proofs.SeenBytesLaws.{bytes_kept, bytes_seen}
use Rattle.smap_pairs.proofs.VirtualLineLaws.{all_among, strings_among}

-- ---- behind a mark

mark_edge : (one : SeenByte) → ends_mark one ≡ true → may_be_edge one ≡ true
mark_edge one is = elim (or_cases (is_quotation_mark one.counts) (ends_escape one && ends_line one.counts) is) [
  | inl quote ↦
      ap (λ b. one.is_edge || (not (one.size == 0) || b)) quote ∙ ap (λ b. one.is_edge || b) (or-true (not (one.size == 0))) ∙ or-true one.is_edge
  | inr escape ↦
      let some : 1 ≤ one.size = leb-true 1 one.size (and_parts (ends_escape one) (ends_line one.counts) escape).0 in
      let unlike : (one.size == 0) ≡ false = ne_eqb one.size 0 (λ none. omega (arith, some, none)) in
      ap (λ b. one.is_edge || (not b || is_quotation_mark one.counts)) unlike ∙ or-true one.is_edge
]

-- a character begins there
abbrev IsPassed : (text : List ℕ) → Mark → Type 0
IsPassed text mark = (state : InString) → past_all state (take mark.end text) ≡ between

marks_passed : (whole : List SeenByte) (text before : List ℕ) (at : ℕ) (rest : List SeenByte) → text ≡ before ++ bytes_seen rest → length before ≡ at
    → ((state : InString) → Edges (past_all state before) rest) → All (IsPassed text) (marks_from whole at rest)
marks_passed whole text before at [] is size edges = All-nil (IsPassed text)
marks_passed whole text before at (one ∷ rest) is size edges =
    go (ends_mark one) refl (marks_passed whole text next (suc at) rest joined long (λ state. subst (λ s. Edges s rest) (sym (passed state)) (edges state).1))
  where
    next : List ℕ
    next = before ++ one.byte ∷ []

    joined : text ≡ next ++ bytes_seen rest
    joined = is ∙ sym (append_assoc before (one.byte ∷ []) (bytes_seen rest))

    long : length next ≡ suc at
    long = omega (arith, size, length-append before (one.byte ∷ []))

    passed : (state : InString) → past_all state next ≡ past (past_all state before) one.byte
    passed state = past_both state before (one.byte ∷ [])

    here : ends_mark one ≡ true → IsPassed text (mark_at whole at one)
    here ends state =
        let to : at + 1 ≡ length next = omega (arith, long) in
        ap (λ n. past_all state (take n text)) to ∙ ap (λ l. past_all state (take (length next) l)) joined
        ∙ ap (past_all state) (take-append_seam next (bytes_seen rest)) ∙ passed state ∙ (edges state).0 (mark_edge one ends)

    go : (b : Bool) → ends_mark one ≡ b → All (IsPassed text) (marks_from whole (suc at) rest)
        → All (IsPassed text) ((if b then mark_at whole at one ∷ [] else []) ++ marks_from whole (suc at) rest)
    go false none more = more
    go true ends more = All-cons (IsPassed text) (mark_at whole at one) (marks_from whole (suc at) rest) (here ends) more

all_passed : (line : List ℕ) → All (IsPassed line) (marks_of (seen_of line))
unfolding marks_of
all_passed line = marks_passed (seen_of line) line [] 0 (seen_of line) (sym (bytes_kept line)) refl (λ state. line_edges state line)

-- ---- virtual lines

-- one that does not begin with the whole line begins between two characters
abbrev pub StartsBetween : (text : List ℕ) → VirtualLine → Type 0
StartsBetween text virtual = 0 < virtual.start → (state : InString) → past_all state (take virtual.start text) ≡ between

lines_start : (text : List ℕ) (size begin unit : ℕ) (marks : List Mark) → (0 < begin → (state : InString) → past_all state (take begin text) ≡ between)
    → All (IsPassed text) marks → All (StartsBetween text) (lines_between size begin unit marks)
lines_start text size begin unit [] starts passed =
    All-cons (StartsBetween text) record { start = begin; end = size; unit = unit } [] starts (All-nil (StartsBetween text))
lines_start text size begin unit (mark ∷ marks) starts passed =
    All-cons (StartsBetween text) record { start = begin; end = mark.start; unit = unit } (lines_between size mark.end (unit_behind mark) marks) starts
    (lines_start text size mark.end (unit_behind mark) marks (λ some. All-head (IsPassed text) mark marks passed) (All-tail (IsPassed text) mark marks passed))

pub lines_between_characters : (line : List ℕ) → All (StartsBetween line) (virtual_lines (seen_of line))
unfolding virtual_lines
lines_between_characters line =
    lines_start line (length (seen_of line)) 0 0 (marks_of (seen_of line)) (λ some. absurd (omega (arith, some))) (all_passed line)

pub strings_between_characters : (line : List ℕ) → All (StartsBetween line) (lines_of_strings (seen_of line))
unfolding lines_of_strings
strings_between_characters line =
    let marks = marks_of_strings 0 (marks_of (seen_of line)) in
    lines_start line (length (seen_of line)) 0 0 marks (λ some. absurd (omega (arith, some)))
    (all_among (IsPassed line) marks (marks_of (seen_of line)) (strings_among 0 (marks_of (seen_of line))) (all_passed line))
