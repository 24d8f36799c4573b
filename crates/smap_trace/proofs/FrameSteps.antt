-- The steps that the code takes from a line to its frame.
use Rattle.std.proofs.Common.{◌≡◌, ◌≤◌, ◌+◌, ◌-◌, ◌==◌, ◌&&◌, ℕ, Bool, true, false, not, nat_le, cond, List, [], ◌∷◌, ◌++◌, length, take, drop}
use Rattle.std.proofs.Common.{slice_range, Option, Some, None, IsSome, is_some, option_map, refl, sym, ap, ◌∙◌, arith, append_assoc, append-nil}
use Rattle.std.proofs.Common.{length-drop, length-take, length-append}
use Rattle.std.specs.List.{prefix_len, starts_with}
use Rattle.std.specs.Bool.{nat_eq}
use Rattle.std.proofs.lemmas.Bool.{cond-true, cond-false, le-leb, leb-true}
use Rattle.std.proofs.lemmas.Option.{MatchOption-at_some}
use Rattle.std.proofs.lemmas.List.{take_at, drop_at, take-take, take_rest, length-take-le, take-append-drop, drop-drop, drop-take}
use Rattle.std.proofs.lemmas.Slice.Eq.{starts_is}
use Rattle.std.proofs.lemmas.Bool.Decides.{Decides-eqb}
use Rattle.smap_lines.specs.Bytes.{is_blank}
use Rattle.smap_record.proofs.ContentLaws.{is_some-map}
use Rattle.smap_trace.specs.Cuts.{cut_at_call, cut_at_first_byte, without_last}
use Rattle.smap_lines.specs.Lines.{has_line_end}
use Rattle.smap_trace.specs.Frame.{has_cr_within, is_line, is_one_line}
use Rattle.smap_trace.specs.FrameOf.{ends_in_digit, frame_of, frame_in, frame_after, at_frame, call_frame, plain_frame, parts_with, location_of}
use Rattle.smap_trace.specs.FrameOf.{is_async, sign_frame, sign_frame_at, unless_async}
use Rattle.smap_trace.proofs.CutLaws.{last_stands, call_is_first, cut_is_first}

-- ---- the whole line

pub one_line : (line : List ℕ) → is_one_line line ≡ true → (has_line_end line ≡ false) × (length line ≤ 65536)
one_line line one =
    let is = both (nat_le (length line) 65536) (has_line_end line) one in (is.1, leb-true (length line) 65536 is.0)
  where
    both : (short ended : Bool) → (short && not ended) ≡ true → (short ≡ true) × (ended ≡ false)
    both true true is = cc
    both true false is = (refl, refl)
    both false ended is = cc

pub more_lines : (line : List ℕ) → is_one_line line ≡ false → is_line line ≡ false
more_lines line more = ap (λ one. one && not (has_cr_within line)) more

-- whether one line is a line hangs on its CRs
pub by_cr : (line : List ℕ) → has_line_end line ≡ false → length line ≤ 65536 → is_line line ≡ not (has_cr_within line)
by_cr line one short = λ i. le-leb (length line) 65536 short i && not (one i) && not (has_cr_within line)

pub no_line : (line : List ℕ) → is_line line ≡ false → frame_of line ≡ None
unfolding frame_of
no_line line not_one = cond-false (is_line line) _ None not_one

same_cut : (line body end : List ℕ) → line ≡ body ++ end →
    frame_after (prefix_len is_blank (take (length body) line)) (take (length body) line) (drop (length body) line)
    ≡ frame_after (prefix_len is_blank body) body end
same_cut line body end is =
    let front : take (length body) line ≡ body = ap (take (length body)) is ∙ take_at body end (length body) refl in
    let rest : drop (length body) line ≡ end = ap (drop (length body)) is ∙ drop_at body end (length body) refl in
    λ i. frame_after (prefix_len is_blank (front i)) (front i) (rest i)

pub with_cr : (line body : List ℕ) → Some body ≡ without_last 13 line →
    frame_after (prefix_len is_blank (take (length body) line)) (take (length body) line) (drop (length body) line) ≡ frame_in line (without_last 13 line)
with_cr line body is =
    same_cut line body (13 ∷ []) (MatchOption-at_some (Unit {0}) _ body (sym is) (last_stands 13 line)) ∙ ap (frame_in line) is

pub cr_within : (line body : List ℕ) → Some body ≡ without_last 13 line → length body ≤ length line
cr_within line body is =
    let whole : line ≡ body ++ 13 ∷ [] = MatchOption-at_some (Unit {0}) _ body (sym is) (last_stands 13 line) in
    omega (arith, ap length whole ∙ length-append body (13 ∷ []))

pub without_cr : (line : List ℕ) → None ≡ without_last 13 line →
    frame_after (prefix_len is_blank (take (length line) line)) (take (length line) line) (drop (length line) line) ≡ frame_in line (without_last 13 line)
without_cr line is = same_cut line line [] (sym (append-nil line)) ∙ ap (frame_in line) is

-- a line that has one is a frame as far as its end is
pub whole_line : (line : List ℕ) → is_line line ≡ true → frame_in line (without_last 13 line) ≡ frame_of line
unfolding frame_of
whole_line line one = sym (cond-true (is_line line) (frame_in line (without_last 13 line)) None one)

-- and where that is none, it is none
pub no_end : (line : List ℕ) → None ≡ frame_in line (without_last 13 line) → None ≡ frame_of line
unfolding frame_of
no_end line none = sym (either (is_line line) (sym none))
  where
    either : (one : Bool) → frame_in line (without_last 13 line) ≡ None → cond one (frame_in line (without_last 13 line)) None ≡ None
    either true is = is
    either false is = refl

-- ---- after `at `

-- a range of the front of a line is that of the line
range_of_front : (line : List ℕ) (start end : ℕ) → start ≤ end → drop start (take end line) ≡ slice_range line start end
range_of_front line start end within =
    let sum : end ≡ start + (end - start) = omega arith in
    ap (λ n. drop start (take n line)) sum ∙ drop-take start (end - start) line

-- the frame of a line with its `at ` after the blanks, whatever ends the text after it
begun : (blanks : ℕ) (line : List ℕ) (end : ℕ) → starts_with nat_eq (drop blanks (take end line)) (97 ∷ 116 ∷ 32 ∷ []) ≡ true → blanks + 3 ≤ end →
    frame_after blanks (take end line) (drop end line)
    ≡ at_frame (take (blanks + 3) line) (slice_range line (blanks + 3) end) (without_last 41 (slice_range line (blanks + 3) end)) (drop end line)
begun blanks line end at within =
    let head : take (blanks + 3) (take end line) ≡ take (blanks + 3) line = take-take (blanks + 3) end line within in
    let text : drop (blanks + 3) (take end line) ≡ slice_range line (blanks + 3) end = range_of_front line (blanks + 3) end within in
    cond-true (starts_with nat_eq (drop blanks (take end line)) (97 ∷ 116 ∷ 32 ∷ [])) _ (sign_frame (take end line) (drop end line)) at
    ∙ (λ i. at_frame (head i) (text i) (without_last 41 (text i)) (drop end line))

-- the bytes from one place to another, where the last of them is this one
last_of_range : (line : List ℕ) (start end : ℕ) (inner : List ℕ) (byte : ℕ) → start ≤ end → end ≤ length line
    → slice_range line start end ≡ inner ++ byte ∷ [] →
    (inner ≡ slice_range line start (end - 1)) × (byte ∷ drop end line ≡ drop (end - 1) line)
last_of_range line start end inner byte ordered within is =
    let many : length (slice_range line start end) ≡ end - start = length-take (end - start) (drop start line) ∙ omega (arith, length-drop start line) in
    let one : length inner + 1 ≡ end - start = sym (length-append inner (byte ∷ [])) ∙ sym (ap length is) ∙ many in
    let rest : drop start line ≡ slice_range line start end ++ drop (end - start) (drop start line) = sym (take-append-drop (end - start) (drop start line)) in
    let end_is : drop (end - start) (drop start line) ≡ drop end line = drop-drop (end - start) start line ∙ ap (λ n. drop n line) (omega arith) in
    let whole : drop start line ≡ inner ++ byte ∷ drop end line =
    rest ∙ (λ i. is i ++ end_is i) ∙ append_assoc inner (byte ∷ []) (drop end line) in
    let less : end - 1 - start ≡ length inner = omega arith in (
      sym (ap (λ n. take n (drop start line)) less ∙ ap (take (length inner)) whole ∙ take_at inner (byte ∷ drop end line) (length inner) refl),
      sym (drop_at inner (byte ∷ drop end line) (length inner) refl) ∙ ap (drop (length inner)) (sym whole)
          ∙ drop-drop (length inner) start line ∙ ap (λ n. drop n line) (omega arith),
    )

-- as the code slices: what stands after the blanks, and after `at `
abbrev pub rest_from : ℕ → List ℕ → List ℕ
rest_from start body = take (length body - start) (drop start body)

pub at_fits : (blanks : ℕ) (line : List ℕ) (end : ℕ) → end ≤ length line → 3 ≤ length (rest_from blanks (take end line)) → blanks + 3 ≤ end
at_fits blanks line end inside fits =
    omega (arith, ap length (take_rest (take end line) blanks), length-drop blanks (take end line), length-take-le end line inside)

call_form : (blanks : ℕ) (line : List ℕ) (end : ℕ) → starts_with nat_eq (drop blanks (take end line)) (97 ∷ 116 ∷ 32 ∷ []) ≡ true
    → blanks + 3 ≤ end → end ≤ length line →
    IsSome (without_last 41 (slice_range line (blanks + 3) end)) →
    call_frame (take (blanks + 3) line) (cut_at_call (slice_range line (blanks + 3) (end - 1))) (drop (end - 1) line)
    ≡ frame_after blanks (take end line) (drop end line)
call_form blanks line end at within inside some = go (without_last 41 (slice_range line (blanks + 3) end)) refl some ∙ sym (begun blanks line end at within)
  where
    go : (o : Option (List ℕ)) → o ≡ without_last 41 (slice_range line (blanks + 3) end) → IsSome o →
        call_frame (take (blanks + 3) line) (cut_at_call (slice_range line (blanks + 3) (end - 1))) (drop (end - 1) line)
        ≡ at_frame (take (blanks + 3) line) (slice_range line (blanks + 3) end) (without_last 41 (slice_range line (blanks + 3) end)) (drop end line)
    go None is some = cc
    go (Some inner) is some =
        let cut = last_of_range line (blanks + 3) end inner 41 within inside
        (MatchOption-at_some (Unit {0}) _ inner (sym is) (last_stands 41 (slice_range line (blanks + 3) end))) in
        (λ i. call_frame (take (blanks + 3) line) (cut_at_call (sym cut.0 i)) (sym cut.1 i))
        ∙ ap (λ o. at_frame (take (blanks + 3) line) (slice_range line (blanks + 3) end) o (drop end line)) is

plain_form : (blanks : ℕ) (line : List ℕ) (end : ℕ) → starts_with nat_eq (drop blanks (take end line)) (97 ∷ 116 ∷ 32 ∷ []) ≡ true → blanks + 3 ≤ end →
    without_last 41 (slice_range line (blanks + 3) end) ≡ None →
    plain_frame (take (blanks + 3) line) (slice_range line (blanks + 3) end) (drop end line) ≡ frame_after blanks (take end line) (drop end line)
plain_form blanks line end at within none =
    ap (λ o. at_frame (take (blanks + 3) line) (slice_range line (blanks + 3) end) o (drop end line)) (sym none) ∙ sym (begun blanks line end at within)

-- ---- the forms, as the code finds them

begins : (blanks end : ℕ) (line : List ℕ) (found : Bool) → found ≡ starts_with nat_eq (rest_from blanks (take end line)) (97 ∷ 116 ∷ 32 ∷ []) → found ≡ true →
    starts_with nat_eq (drop blanks (take end line)) (97 ∷ 116 ∷ 32 ∷ []) ≡ true
begins blanks end line found is holds = ap (λ l. starts_with nat_eq l (97 ∷ 116 ∷ 32 ∷ [])) (sym (take_rest (take end line) blanks)) ∙ sym is ∙ holds

pub none_begun : (blanks end : ℕ) (line : List ℕ) (found : Bool)
    → found ≡ starts_with nat_eq (rest_from blanks (take end line)) (97 ∷ 116 ∷ 32 ∷ []) → found ≡ false →
    blanks ≡ prefix_len is_blank (take end line) →
    sign_frame (take end line) (drop end line) ≡ frame_after (prefix_len is_blank (take end line)) (take end line) (drop end line)
none_begun blanks end line found is fails counted =
    let not_at = ap (λ l. starts_with nat_eq l (97 ∷ 116 ∷ 32 ∷ [])) (sym (take_rest (take end line) blanks)) ∙ sym is ∙ fails in
    sym (ap (λ n. frame_after n (take end line) (drop end line)) (sym counted)
    ∙ cond-false (starts_with nat_eq (drop blanks (take end line)) (97 ∷ 116 ∷ 32 ∷ [])) _ (sign_frame (take end line) (drop end line)) not_at)

seen_text : (start end : ℕ) (line : List ℕ) → start ≤ end → rest_from start (take end line) ≡ slice_range line start end
seen_text start end line within = take_rest (take end line) start ∙ range_of_front line start end within

some_if : {X : Type 0} (o : Option X) → is_some o ≡ true → IsSome o
some_if None is = cc
some_if (Some x) is = refl

none_if : {X : Type 0} (o : Option X) → is_some o ≡ false → o ≡ None
none_if None is = refl
none_if (Some x) is = cc

pub found_call : {X : Type 0} (f : X → List ℕ) (o : Option X) (blanks end : ℕ) (line : List ℕ) (found : Bool) → end ≤ length line →
    found ≡ starts_with nat_eq (rest_from blanks (take end line)) (97 ∷ 116 ∷ 32 ∷ []) → found ≡ true → blanks + 3 ≤ end →
    option_map f o ≡ without_last 41 (rest_from (blanks + 3) (take end line)) → is_some o ≡ true → blanks ≡ prefix_len is_blank (take end line) →
    call_frame (take (blanks + 3) line) (cut_at_call (slice_range line (blanks + 3) (end - 1))) (drop (end - 1) line)
    ≡ frame_after (prefix_len is_blank (take end line)) (take end line) (drop end line)
found_call f o blanks end line found inside is holds fits ends some counted =
    let there : is_some (without_last 41 (slice_range line (blanks + 3) end)) ≡ true =
    ap (λ l. is_some (without_last 41 l)) (sym (seen_text (blanks + 3) end line fits)) ∙ ap is_some (sym ends) ∙ is_some-map f o ∙ some in
    call_form blanks line end (begins blanks end line found is holds) fits inside (some_if _ there)
    ∙ ap (λ n. frame_after n (take end line) (drop end line)) counted

pub found_plain : {X : Type 0} (f : X → List ℕ) (o : Option X) (blanks end : ℕ) (line : List ℕ) (found : Bool) →
    found ≡ starts_with nat_eq (rest_from blanks (take end line)) (97 ∷ 116 ∷ 32 ∷ []) → found ≡ true → blanks + 3 ≤ end →
    option_map f o ≡ without_last 41 (rest_from (blanks + 3) (take end line)) → is_some o ≡ false → blanks ≡ prefix_len is_blank (take end line) →
    plain_frame (take (blanks + 3) line) (slice_range line (blanks + 3) end) (drop end line)
    ≡ frame_after (prefix_len is_blank (take end line)) (take end line) (drop end line)
found_plain f o blanks end line found is holds fits ends none counted =
    let gone : is_some (without_last 41 (slice_range line (blanks + 3) end)) ≡ false =
    ap (λ l. is_some (without_last 41 l)) (sym (seen_text (blanks + 3) end line fits)) ∙ ap is_some (sym ends) ∙ is_some-map f o ∙ none in
    plain_form blanks line end (begins blanks end line found is holds) fits (none_if _ gone) ∙ ap (λ n. frame_after n (take end line) (drop end line)) counted

-- ---- the location in the line

call_fits : (line : List ℕ) (start end : ℕ) (function rest : List ℕ) → end ≤ length line
    → slice_range line start end ≡ function ++ 32 ∷ 40 ∷ rest → start ≤ end → start + length function + 2 ≤ end
call_fits line start end function rest inside is ordered =
    omega (arith, ap length is ∙ length-append function (32 ∷ 40 ∷ rest), length-take (end - start) (drop start line))

-- what a range begins with belongs to the front
into_range : (line : List ℕ) (start end k : ℕ) (opening rest : List ℕ) → length opening ≡ k → start ≤ end → end ≤ length line
    → slice_range line start end ≡ opening ++ rest →
    (take (start + k) line ≡ take start line ++ opening) × (slice_range line (start + k) end ≡ rest)
into_range line start end k opening rest long ordered inside is =
    let text : List ℕ = drop start line in
    let many : length (take (end - start) text) ≡ end - start = length-take-le (end - start) text (omega (arith, length-drop start line)) in
    let fits : k ≤ end - start = omega (arith, ap length is ∙ length-append opening rest) in
    let front : take k text ≡ opening = sym (take-take k (end - start) text fits) ∙ ap (take k) is ∙ take_at opening rest k long in
    let more : end - start ≡ k + (end - (start + k)) = omega arith in (
      sym (take-append-drop start (take (start + k) line))
          ∙ (λ i. take-take start (start + k) line (omega arith) i ++ drop-take start k line i) ∙ ap (λ l. take start line ++ l) front,
      ap (take (end - (start + k))) (sym (drop-drop k start line)) ∙ sym (drop-take k (end - (start + k)) text)
          ∙ ap (λ n. drop k (take n text)) (sym more) ∙ ap (drop k) is ∙ drop_at opening rest k long,
    )

-- the frame of a call is the frame at its location
called_at : (line : List ℕ) (start end : ℕ) (byte : ℕ) (function rest : List ℕ) → start ≤ end → end ≤ length line
    → slice_range line start end ≡ (byte ∷ function) ++ 32 ∷ 40 ∷ rest →
    parts_with (take (start + length (byte ∷ function) + 2) line) (location_of (slice_range line (start + length (byte ∷ function) + 2) end)) (drop end line)
    ≡ parts_with (take start line ++ byte ∷ function ++ 32 ∷ 40 ∷ []) (location_of rest) (drop end line)
called_at line start end byte function rest ordered inside is =
    let opening : List ℕ = (byte ∷ function) ++ 32 ∷ 40 ∷ [] in
    let n : ℕ = length (byte ∷ function) + 2 in
    let long : length opening ≡ n = length-append (byte ∷ function) (32 ∷ 40 ∷ []) in
    let both = into_range line start end n opening rest long ordered inside (is ∙ sym (append_assoc (byte ∷ function) (32 ∷ 40 ∷ []) rest)) in
    let same : start + length (byte ∷ function) + 2 ≡ start + n = omega arith in
    ap (λ k. parts_with (take k line) (location_of (slice_range line k end)) (drop end line)) same
    ∙ (λ i. parts_with (both.0 i) (location_of (both.1 i)) (drop end line))
    ∙ ap (λ head. parts_with head (location_of rest) (drop end line)) (sym (append_assoc (take start line) (byte ∷ function) (32 ∷ 40 ∷ [])))

-- the cut of a call, and what follows from it
pub called : (line : List ℕ) (start end : ℕ) (function rest : List ℕ) → start ≤ end → end ≤ length line → (length function == 0) ≡ false →
    Some (function, rest) ≡ cut_at_call (slice_range line start end) →
    (start + length function + 2 ≤ end)
    × (parts_with (take (start + length function + 2) line) (location_of (slice_range line (start + length function + 2) end)) (drop end line)
    ≡ call_frame (take start line) (cut_at_call (slice_range line start end)) (drop end line))
called line start end [] rest ordered inside named is = cc
called line start end (byte ∷ function) rest ordered inside named is =
    let first = MatchOption-at_some (Unit {0}) _ (byte ∷ function, rest) (sym is) (call_is_first (slice_range line start end)) in (
      call_fits line start end (byte ∷ function) rest inside first.0 ordered,
      called_at line start end byte function rest ordered inside first.0 ∙ ap (λ cut. call_frame (take start line) cut (drop end line)) is,
    )

-- the text of the second form after its `async `
pub after_async : (line : List ℕ) (start end : ℕ) (found : Bool) → start ≤ end → end ≤ length line
    → found ≡ is_async (slice_range line start end) → found ≡ true →
    unless_async (parts_with (take (start + 6) line) (location_of (slice_range line (start + 6) end)) (drop end line))
    ≡ plain_frame (take start line) (slice_range line start end) (drop end line)
after_async line start end found ordered inside is holds =
    let text : List ℕ = slice_range line start end in
    let word : List ℕ = 97 ∷ 115 ∷ 121 ∷ 110 ∷ 99 ∷ 32 ∷ [] in
    let begins : text ≡ word ++ drop 6 text = (starts_is Decides-eqb text word found is).0 holds in
    let both = into_range line start end 6 word (drop 6 text) refl ordered inside begins in
    (λ i. unless_async (parts_with (both.0 i) (location_of (both.1 i)) (drop end line)))
    ∙ ap unless_async (sym (cond-true (is_async text) (parts_with (take start line ++ word) (location_of (drop 6 text)) (drop end line))
    (parts_with (take start line) (location_of text) (drop end line)) (sym is ∙ holds)))

-- a line that ends in no digit
pub unsigned : (text tail : List ℕ) → ends_in_digit text ≡ false → None ≡ sign_frame text tail
unsigned text tail fails = sym (cond-false (ends_in_digit text) (sign_frame_at (cut_at_first_byte 64 text) tail) None fails)

-- a line without an `@`
pub uncut : (text tail : List ℕ) → None ≡ cut_at_first_byte 64 text → None ≡ sign_frame text tail
uncut text tail none = sym (none_both (ends_in_digit text))
  where
    none_both : (digit : Bool) → cond digit (sign_frame_at (cut_at_first_byte 64 text) tail) None ≡ None
    none_both true = ap (λ cut. sign_frame_at cut tail) (sym none)
    none_both false = refl

-- the cut at the first `@`, and what follows from it
pub signed : (line : List ℕ) (end : ℕ) (function rest : List ℕ) → end ≤ length line → ends_in_digit (take end line) ≡ true
    → Some (function, rest) ≡ cut_at_first_byte 64 (take end line) →
    (length function + 1 ≤ end)
    × (parts_with (take (length function + 1) line) (location_of (slice_range line (length function + 1) end)) (drop end line)
    ≡ sign_frame (take end line) (drop end line))
signed line end function rest inside digit is =
    let text : List ℕ = take end line in
    let k : ℕ = length function + 1 in
    let first = MatchOption-at_some _ _ (function, rest) (sym is) (cut_is_first 64 text) in
    let opening : List ℕ = function ++ 64 ∷ [] in
    let whole : text ≡ opening ++ rest = first.0 ∙ sym (append_assoc function (64 ∷ []) rest) in
    let long : length opening ≡ k = length-append function (64 ∷ []) in
    let fits : k ≤ end = omega (arith, long, ap length whole ∙ length-append opening rest, length-take-le end line inside) in
    let head : take k line ≡ opening = sym (take-take k end line fits) ∙ ap (take k) whole ∙ take_at opening rest k long in
    let location : slice_range line k end ≡ rest = sym (range_of_front line k end fits) ∙ ap (drop k) whole ∙ drop_at opening rest k long in (
      fits,
      (λ i. parts_with (head i) (location_of (location i)) (drop end line)) ∙ ap (λ cut. sign_frame_at cut (drop end line)) is
          ∙ sym (cond-true (ends_in_digit text) (sign_frame_at (cut_at_first_byte 64 text) (drop end line)) None digit),
    )
