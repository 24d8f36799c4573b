-- The name of a frame's function begins with the frame, or behind a blank.
use Rattle.std.proofs.Common.{◌≡◌, ◌++◌, ◌+◌, ◌-◌, ◌≤◌, inl, inr, ◌⊎◌, ℕ, Bool, true, false, cond, List, [], ◌∷◌, Option, Some, None, IfSome}
use Rattle.std.proofs.Common.{ap, append-nil, append_assoc, arith, codes, drop, get_or, length, length-append, option_map, refl, subst, sym, take, ◌∙◌}
use Rattle.std.specs.Prelude.{IsTrue, nat_eq, unwrap_or}
use Rattle.std.specs.Fmt.{decimal}
use Rattle.std.specs.List.{AllByRecursion, ends_with, prefix_len, slice_range, starts_with}
use Rattle.std.proofs.Math.Seq.{take-append_seam}
use Rattle.std.proofs.lemmas.Bool.{cases_lt, cond-false, cond-true}
use Rattle.std.proofs.lemmas.Bool.Decides.{Decides-eqb}
use Rattle.std.proofs.lemmas.List.{get_or_at, length-take, length-take-le, take-take}
use Rattle.std.proofs.lemmas.Option.{IfSome_then}
use Rattle.std.proofs.lemmas.Slice.Eq.{ends_is, starts_is}
use Rattle.smap_lines.specs.Bytes.{is_blank}
use Rattle.smap_declarations.specs.Frames.{behind_front, function_name, is_name}
use Rattle.smap_trace.proofs.FrameLaws.{parts_are_frame}
use Rattle.smap_trace.proofs.NameLaws.{range_none}
use Rattle.smap_trace.specs.Frame.{FrameParts, IsForm, IsFrame}
use Rattle.smap_trace.specs.FrameOf.{frame_of}
use Rattle.smap_trace.specs.FunctionNames.{HeadCut, call_name, cut_before, head_cut, sign_name}
use Rattle.smap_anywhere.specs.FrameUrl.{frame_url, tail_bytes, url_in, whole_frame_url, without_tail}
use Rattle.smap_anywhere.specs.Laws.FrameUrl.{of_both, url_within}
use Rattle.smap_anywhere.proofs.NamedLaws.{join_range}

-- ---- what stands before a name

-- nothing, or what ends with a blank
abbrev pub IsBeforeName : (before : List ℕ) → Type 0
IsBeforeName before = (before ≡ []) ⊎ ((front : List ℕ) × (before ≡ front ++ 32 ∷ []))

before_both : (first second : List ℕ) → IsBeforeName first → IsBeforeName second → IsBeforeName (first ++ second)
before_both first second one (inl none) = subst IsBeforeName (sym (ap (λ l. first ++ l) none ∙ append-nil first)) one
before_both first second one (inr (front, is)) = inr (first ++ front, ap (λ l. first ++ l) is ∙ sym (append_assoc first front (32 ∷ [])))

-- ---- in a function

-- a text ends with another, before which this stands
abbrev EndsBehind : (text last : List ℕ) → Type 0
EndsBehind text last = (front : List ℕ) × (text ≡ front ++ last) × IsBeforeName front

behind_both : (text mid last : List ℕ) → EndsBehind text mid → EndsBehind mid last → EndsBehind text last
behind_both text mid last one two = (
  one.0 ++ two.0,
  one.1 ∙ ap (λ l. one.0 ++ l) two.1 ∙ sym (append_assoc one.0 two.0 last),
  before_both one.0 two.0 one.2 two.2,
)

behind_word : (word text : List ℕ) → IsBeforeName word → EndsBehind text (behind_front word text)
behind_word word text is = go (starts_with nat_eq text word) refl
  where
    go : (b : Bool) → starts_with nat_eq text word ≡ b → EndsBehind text (cond b (drop (length word) text) text)
    go true begins = (word, (starts_is Decides-eqb text word _ refl).0 begins, is)
    go false other = ([], refl, inl refl)

some_of : (b : Bool) (one name : List ℕ) → cond b (Some one) None ≡ Some name → one ≡ name
some_of true one name is = ap (λ o. unwrap_or o one) is
some_of false one name is = absurd (cc)

function_ends : (function name : List ℕ) → function_name function ≡ Some name → EndsBehind function name
unfolding function_name
function_ends function name is =
    let first = behind_front (codes "async ") function in
    let last = behind_front (codes "new ") first in
    subst (EndsBehind function) (some_of (is_name last) last name is)
    (behind_both function first last (behind_word (codes "async ") function (inr (codes "async", refl)))
    (behind_word (codes "new ") first (inr (codes "new", refl))))

-- ---- in what stands before the URL of a frame

cut_some : (head : List ℕ) (size : ℕ) (found : Option (List ℕ)) (cut : HeadCut) → cut_before head size found ≡ Some cut
    → (name : List ℕ) × (found ≡ Some name) × (cut.before ≡ take (length head - size - length name) head)
cut_some head size None cut is = absurd (cc)
cut_some head size (Some name) cut is =
    let P : HeadCut → Type 0 = λ one. one.before ≡ take (length head - size - length name) head in
    (name, refl, subst P (ap (λ o. unwrap_or o cut) is) refl)

sign_begins : (head : List ℕ) (cut : HeadCut) → cut_before head 1 (sign_name head) ≡ Some cut → IsBeforeName cut.before
sign_begins head cut is =
    let found = cut_some head 1 (sign_name head) cut is in
    let most : List ℕ = take (length head - 1) head in
    let same : most ≡ found.0 = some_of (is_name most) most found.0 found.1 in
    let size : length found.0 ≡ length head - 1 = ap length (sym same) ∙ length-take-le (length head - 1) head (omega arith) in
    let none : length head - 1 - length found.0 ≡ 0 = omega (arith, size) in
    inl (found.2 ∙ ap (λ n. take n head) none)

call_begins : (head begin rest : List ℕ) → head ≡ begin ++ rest → prefix_len is_blank head + 3 ≡ length begin → IsBeforeName begin
    → (cut : HeadCut) → cut_before head 2 (call_name head) ≡ Some cut → IsBeforeName cut.before
call_begins head begin rest whole size begins cut is =
    let start : ℕ = prefix_len is_blank head + 3 in
    let most : ℕ = length head - 2 in
    let found = cut_some head 2 (call_name head) cut is in
    let name : List ℕ = found.0 in
    let named : function_name (slice_range head start most) ≡ Some name = found.1 in
    elim (cases_lt most start) [
      | inl less ↦ absurd (let none = range_none start most head less in cc)
      | inr few ↦
          let ends = function_ends (slice_range head start most) name named in
          let to_start : start - 0 ≡ length begin = omega (arith, size) in
          let to_most : most - 0 ≡ most = omega arith in
          let first : slice_range head 0 start ≡ begin =
          ap (λ n. take n head) to_start ∙ ap (take (length begin)) whole ∙ take-append_seam begin rest in
          let all : take most head ≡ (begin ++ ends.0) ++ name =
          sym (ap (λ n. take n head) to_most) ∙ sym (join_range head 0 start most (omega arith) few) ∙ (λ i. first i ++ ends.1 i)
          ∙ sym (append_assoc begin ends.0 name) in
          let long : length (begin ++ ends.0) + length name ≡ most =
          sym (length-append (begin ++ ends.0) name) ∙ ap length (sym all) ∙ length-take-le most head (omega arith) in
          let front : most - length name ≡ length (begin ++ ends.0) = omega (arith, long) in
          let before : cut.before ≡ begin ++ ends.0 =
          found.2 ∙ sym (take-take (most - length name) most head (omega arith)) ∙ ap (take (most - length name)) all
          ∙ ap (λ n. take n ((begin ++ ends.0) ++ name)) front ∙ take-append_seam (begin ++ ends.0) name in
          subst IsBeforeName (sym before) (before_both begin ends.0 begins ends.2)
    ]

-- a byte that is none ends the blanks
blanks_end : (blanks : List ℕ) (byte : ℕ) (rest : List ℕ) → AllByRecursion (λ b. IsTrue (is_blank b)) blanks → is_blank byte ≡ false
    → prefix_len is_blank (blanks ++ byte ∷ rest) ≡ length blanks
blanks_end [] byte rest blank other = cond-false (is_blank byte) (1 + prefix_len is_blank rest) 0 other
blanks_end (x ∷ blanks) byte rest blank other =
    cond-true (is_blank x) (1 + prefix_len is_blank (blanks ++ byte ∷ rest)) 0 blank.0
    ∙ ap (λ n. 1 + n) (blanks_end blanks byte rest blank.1 other) ∙ omega arith

at_begins : (head blanks rest : List ℕ) → AllByRecursion (λ b. IsTrue (is_blank b)) blanks → head ≡ (blanks ++ codes "at ") ++ rest
    → (cut : HeadCut) → cut_before head 2 (call_name head) ≡ Some cut → IsBeforeName cut.before
at_begins head blanks rest blank whole =
    let many : prefix_len is_blank head ≡ length blanks =
    ap (prefix_len is_blank) (whole ∙ append_assoc blanks (codes "at ") rest) ∙ blanks_end blanks 97 (116 ∷ 32 ∷ rest) blank refl in
    let size : prefix_len is_blank head + 3 ≡ length (blanks ++ codes "at ") = omega (arith, many, length-append blanks (97 ∷ 116 ∷ 32 ∷ [])) in
    call_begins head (blanks ++ codes "at ") rest whole size (inr (blanks ++ codes "at", sym (append_assoc blanks (codes "at") (32 ∷ []))))

no_call : (function : List ℕ) (head : List ℕ) → head ≡ function ++ codes "@" → ends_with nat_eq head (codes " (") ≡ true → ⊥
no_call function head is ends =
    let front : List ℕ = take (length head - 2) head in
    let call : head ≡ front ++ 32 ∷ 40 ∷ [] = (ends_is Decides-eqb head (codes " (") _ refl).0 ends in
    let split : head ≡ (front ++ 32 ∷ []) ++ 40 ∷ [] = call ∙ sym (append_assoc front (32 ∷ []) (40 ∷ [])) in
    let one : length head ≡ length function + 1 = ap length is ∙ length-append function (64 ∷ []) in
    let two : length head ≡ length (front ++ 32 ∷ []) + 1 = ap length split ∙ length-append (front ++ 32 ∷ []) (40 ∷ []) in
    let same : length function ≡ length (front ++ 32 ∷ []) = omega (arith, one, two) in
    let sign : get_or head (length function) 0 ≡ 64 = ap (λ l. get_or l (length function) 0) is ∙ get_or_at function 64 [] 0 (length function) refl in
    let bracket : get_or head (length function) 0 ≡ 40 =
    ap (λ l. get_or l (length function) 0) split ∙ get_or_at (front ++ 32 ∷ []) 40 [] 0 (length function) (sym same) in
    absurd (omega (arith, sign, bracket))

head_begins : (parts : FrameParts) → IsForm parts → (cut : HeadCut) → head_cut parts.head ≡ Some cut → IsBeforeName cut.before
unfolding head_cut
head_begins parts form cut is =
    go (ends_with nat_eq parts.head (codes " (")) (ends_with nat_eq parts.head (codes "@")) refl is
  where
    by_form : IsForm parts → ends_with nat_eq parts.head (codes " (") ≡ true → cut_before parts.head 2 (call_name parts.head) ≡ Some cut → IsBeforeName cut.before
    by_form (inl call) ends some =
        at_begins parts.head call.blanks (call.function ++ codes " (") call.blank
        (call.head_is ∙ append_assoc (call.blanks ++ codes "at ") call.function (codes " (")) cut some
    by_form (inr (inl plain)) ends some = elim plain.head_is [
      | inl is ↦ at_begins parts.head plain.blanks [] plain.blank (is ∙ sym (append-nil (plain.blanks ++ codes "at "))) cut some
      | inr is ↦
          at_begins parts.head plain.blanks (codes "async ") plain.blank (is ∙ sym (append_assoc plain.blanks (codes "at ") (codes "async "))) cut some
    ]
    by_form (inr (inr sign)) ends some = absurd (no_call sign.function parts.head sign.head_is ends)

    go : (call sign : Bool) → ends_with nat_eq parts.head (codes " (") ≡ call
        → cond call (cut_before parts.head 2 (call_name parts.head)) (cond sign (cut_before parts.head 1 (sign_name parts.head)) None) ≡ Some cut
        → IsBeforeName cut.before
    go true sign ends some = by_form form ends some
    go false true ends some = sign_begins parts.head cut some
    go false false ends some = absurd (cc)

-- ---- of a line

-- where the URL of a frame is this one, the name of its function begins so
abbrev pub HeadBegins : (line : List ℕ) → (url : ℕ × ℕ) → Type 0
HeadBegins line url = (url.0 ≤ length line) × ((cut : HeadCut) → head_cut (take url.0 line) ≡ Some cut → IsBeforeName cut.before)

frame_begins : (line : List ℕ) (parts : FrameParts) → IsFrame line parts → HeadBegins line (url_in parts)
frame_begins line parts frame =
    let rest : List ℕ = parts.url ++ (codes ":" ++ (decimal parts.line ++ (codes ":" ++ (decimal parts.column ++ parts.tail)))) in
    let regroup : parts.head ++ parts.url ++ codes ":" ++ decimal parts.line ++ codes ":" ++ decimal parts.column ++ parts.tail ≡ parts.head ++ rest =
    simp append_assoc in
    let front : take (length parts.head) line ≡ parts.head =
    ap (take (length parts.head)) (frame.joined ∙ regroup) ∙ take-append_seam parts.head rest in
    (omega (arith, url_within line parts frame), λ cut is. head_begins parts frame.form cut (ap head_cut (sym front) ∙ is))

whole_begins : (line : List ℕ) → IfSome (whole_frame_url line) (HeadBegins line)
whole_begins line = go (frame_of line) refl
  where
    go : (parts : Option FrameParts) → frame_of line ≡ parts → IfSome (option_map url_in parts) (HeadBegins line)
    go None is = tt
    go (Some parts) is = frame_begins line parts (parts_are_frame line parts is)

of_front : (bytes : ℕ) (line : List ℕ) (url : ℕ × ℕ) → HeadBegins (take bytes line) url → HeadBegins line url
of_front bytes line url is =
    let size = length-take bytes line in
    let few : url.0 ≤ bytes = omega (arith, is.0, size) in
    (omega (arith, is.0, size), λ cut some. is.1 cut (ap head_cut (take-take url.0 bytes line few) ∙ some))

pub frames_begin : (line : List ℕ) → IfSome (frame_url line) (HeadBegins line)
frames_begin line =
    of_both (HeadBegins line) line (whole_begins line)
    (IfSome_then (whole_frame_url (without_tail line)) (whole_begins (without_tail line))
    (λ url is. of_front (length line - tail_bytes line) line url is))
