-- A line is a frame of exactly the parts that `frame_of` computes, and so in at most one way.
use Rattle.std.proofs.Common.{◌≡◌, ◌≢◌, ◌==◌, ◌+◌, ◌<◌, ℕ, Bool, true, false, cond, List, [], ◌∷◌, ◌++◌, length, take, drop, Option, Some, None}
use Rattle.std.proofs.Common.{IsTrue, refl, sym, ap, ◌∙◌, arith, subst, suc, ◌⊎◌, inl, inr, ⊎_elim, append_assoc, append-nil, length-append}
use Rattle.std.specs.Fmt.{decimal}
use Rattle.std.specs.List.{AllByRecursion, prefix_len, starts_with}
use Rattle.std.specs.Bool.{nat_eq}
use Rattle.std.specs.Option.{MatchOption}
use Rattle.std.proofs.lemmas.Bool.{cond-true, cond-false, cond_both, eqb-true, eq-eqb, false_from_ne_true, false≢true, both_ways}
use Rattle.std.proofs.lemmas.Bool.Decides.{Decides-eqb}
use Rattle.std.proofs.lemmas.List.{take_at, drop_at, take-append-drop, drop-drop, append_cancel_right}
use Rattle.std.proofs.lemmas.Slice.Eq.{starts_is}
use Rattle.smap_lines.specs.Bytes.{IsLineEnd, is_blank}
use Rattle.smap_lines.specs.Laws.Number.{none_else, number_is, number_reads}
use Rattle.smap_lines.specs.Numbers.{IsPrinted, decimal_number}
use Rattle.smap_trace.specs.Cuts.{cut_at_first_byte, cut_at_last_byte, cut_at_call, without_last}
use Rattle.smap_trace.specs.Frame.{FrameParts, is_line, IsCallFrame, IsPlainFrame, IsSignFrame, IsForm, IsFrame}
use Rattle.smap_trace.specs.FrameOf.{Location, location_of, location_cut, location_before, location_with, parts_with, call_frame, is_async}
use Rattle.smap_trace.specs.FrameOf.{unless_async, plain_frame, ends_in_digit, sign_frame, sign_frame_at, at_frame, frame_after, frame_in, frame_of}
use Rattle.smap_trace.proofs.CutLaws.{IsFirstCut, IsLastCut, cut_is_first, cut_is_last, first_cut, last_cut, is_without, IsFirstCall, HasNoCall}
use Rattle.smap_trace.proofs.CutLaws.{call_is_first, first_call, last_is, last_is_other, last_stands}
use Rattle.smap_trace.proofs.NumberLaws.{number_without, number_ends, number_last_digit}

-- ---- places

-- a text that is a URL, `:`, a line, `:`, a column
abbrev pub location_text : List ℕ → ℕ → ℕ → List ℕ
location_text url line column = url ++ 58 ∷ (decimal line ++ 58 ∷ decimal column)

record IsLocation (text : List ℕ) (location : Location) : Type 0 where
  text_is : text ≡ location_text location.url location.line location.column
  located : location.url ≢ []
  line_printed : IsPrinted location.line
  column_printed : IsPrinted location.column

with_is : (text url line column : List ℕ) (location : Location) (l c : Option ℕ) → l ≡ decimal_number line → c ≡ decimal_number column
    → text ≡ url ++ 58 ∷ (line ++ 58 ∷ column) → location_with url l c ≡ Some location → IsLocation text location
with_is text [] line column location l c li ci whole is = cc
with_is text (b ∷ url) line column location None c li ci whole is = cc
with_is text (b ∷ url) line column location (Some l) None li ci whole is = cc
with_is text (b ∷ url) line column location (Some l) (Some c) li ci whole is =
    let l_is = number_is line l (sym li) in
    let c_is = number_is column c (sym ci) in
    let same : location ≡ record { url = b ∷ url; line = l; column = c } = cc in
    let P : Location → Type 0 = λ p. IsLocation text p in
    subst P (sym same) (record {
      text_is = whole ∙ (λ i. (b ∷ url) ++ 58 ∷ (l_is.0 i ++ 58 ∷ c_is.0 i));
      located = λ e. (cc);
      line_printed = l_is.1;
      column_printed = c_is.1;
    })

before_is : (text front column : List ℕ) (location : Location) (cut : Option (List ℕ × List ℕ))
    → MatchOption cut (is_without 58 front) (IsLastCut 58 front) → text ≡ front ++ 58 ∷ column
    → location_before cut (decimal_number column) ≡ Some location → IsLocation text location
before_is text front column location None cuts whole is = cc
before_is text front column location (Some (url, line)) cuts whole is =
    with_is text url line column location (decimal_number line) (decimal_number column) refl refl
    (whole ∙ ap (λ f. f ++ 58 ∷ column) cuts.0 ∙ append_assoc url (58 ∷ line) (58 ∷ column)) is

cut_is : (text : List ℕ) (location : Location) (cut : Option (List ℕ × List ℕ)) → MatchOption cut (is_without 58 text) (IsLastCut 58 text)
    → location_cut cut ≡ Some location → IsLocation text location
cut_is text location None cuts is = cc
cut_is text location (Some (front, column)) cuts is = before_is text front column location (cut_at_last_byte 58 front) (cut_is_last 58 front) cuts.0 is

location_is : (text : List ℕ) (location : Location) → location_of text ≡ Some location → IsLocation text location
location_is text location is = cut_is text location (cut_at_last_byte 58 text) (cut_is_last 58 text) is

location_reads : (url : List ℕ) (line column : ℕ) → url ≢ [] → IsPrinted line → IsPrinted column
    → location_of (location_text url line column) ≡ Some (record { url = url; line = line; column = column })
location_reads [] line column located l c = absurd (located refl)
location_reads (b ∷ url) line column located l c =
    ap location_cut (ap (cut_at_last_byte 58) (sym (append_assoc (b ∷ url) (58 ∷ decimal line) (58 ∷ decimal column)))
    ∙ last_cut 58 ((b ∷ url) ++ 58 ∷ decimal line) (decimal column) (number_without column c))
    ∙ ap (λ cut. location_before cut (decimal_number (decimal column))) (last_cut 58 (b ∷ url) (decimal line) (number_without line l))
    ∙ (λ i. location_with (b ∷ url) (number_reads line l i) (number_reads column c i))

-- ---- from the parts that are computed to a frame

abbrev at_word : List ℕ
at_word = 97 ∷ 116 ∷ 32 ∷ []

abbrev async_word : List ℕ
async_word = 97 ∷ 115 ∷ 121 ∷ 110 ∷ 99 ∷ 32 ∷ []

abbrev call_word : List ℕ
call_word = 32 ∷ 40 ∷ []

unless_is : (o : Option FrameParts) (parts : FrameParts) → unless_async o ≡ Some parts → (o ≡ Some parts) × (is_async parts.url ≡ false)
unless_is None parts is = cc
unless_is (Some p) parts is = go (is_async p.url) refl is
  where
    go : (t : Bool) → is_async p.url ≡ t → cond t None (Some p) ≡ Some parts → (Some p ≡ Some parts) × (is_async parts.url ≡ false)
    go true at e = cc
    go false at e = let same : p ≡ parts = cc in (e, ap (λ q. is_async q.url) (sym same) ∙ at)

not_async : (url rest : List ℕ) → is_async url ≡ false → url ≢ async_word ++ rest
not_async url rest off is = both_ways _ off ((starts_is Decides-eqb url async_word (is_async url) refl).1 rest is)

-- what is passed over is blank
blank_prefix : (text : List ℕ) → AllByRecursion (λ byte. IsTrue (is_blank byte)) (take (prefix_len is_blank text) text)
blank_prefix [] = tt
blank_prefix (x ∷ text) =
    let P : ℕ → Type 0 = λ n. AllByRecursion (λ byte. IsTrue (is_blank byte)) (take n (x ∷ text)) in
    let one : suc (prefix_len is_blank text) ≡ 1 + prefix_len is_blank text = omega arith in
    cond_both (is_blank x) (1 + prefix_len is_blank text) 0 P (λ blank. subst P one (blank, blank_prefix text)) (λ _. tt)

-- a byte that is none ends the blanks
blanks_end : (blanks : List ℕ) (byte : ℕ) (rest : List ℕ) → AllByRecursion (λ b. IsTrue (is_blank b)) blanks → is_blank byte ≡ false
    → prefix_len is_blank (blanks ++ byte ∷ rest) ≡ length blanks
blanks_end [] byte rest blank other = cond-false (is_blank byte) (1 + prefix_len is_blank rest) 0 other
blanks_end (x ∷ blanks) byte rest blank other =
    cond-true (is_blank x) (1 + prefix_len is_blank (blanks ++ byte ∷ rest)) 0 blank.0
    ∙ ap (λ n. 1 + n) (blanks_end blanks byte rest blank.1 other) ∙ omega arith

-- a line whose blanks an `at ` follows
at_found : (body blanks text : List ℕ) → body ≡ blanks ++ (at_word ++ text) → AllByRecursion (λ b. IsTrue (is_blank b)) blanks →
    (prefix_len is_blank body ≡ length blanks) × (starts_with nat_eq (drop (prefix_len is_blank body) body) at_word ≡ true)
at_found body blanks text split blank =
    let n : prefix_len is_blank body ≡ length blanks = ap (prefix_len is_blank) split ∙ blanks_end blanks 97 (116 ∷ 32 ∷ text) blank refl in
    let rest : drop (prefix_len is_blank body) body ≡ at_word ++ text =
    ap (λ k. drop k body) n ∙ ap (drop (length blanks)) split ∙ drop_at blanks (at_word ++ text) (length blanks) refl in
    (n, (starts_is Decides-eqb (drop (prefix_len is_blank body) body) at_word _ refl).1 text rest)

at_split : (body : List ℕ) → starts_with nat_eq (drop (prefix_len is_blank body) body) at_word ≡ true →
    body ≡ take (prefix_len is_blank body) body ++ (at_word ++ drop (prefix_len is_blank body + 3) body)
at_split body holds =
    let n : ℕ = prefix_len is_blank body in
    let begins : drop n body ≡ at_word ++ drop 3 (drop n body) = (starts_is Decides-eqb (drop n body) at_word _ refl).0 holds in
    sym (take-append-drop n body) ∙ ap (λ l. take n body ++ l) (begins ∙ ap (λ l. at_word ++ l) (drop-drop 3 n body))

module _ (line : List ℕ) (bounded : IsTrue (is_line line)) where
  at_location : (head text tail : List ℕ) (location : Option Location) (parts : FrameParts)
      → MatchOption location (Unit {0}) (IsLocation text) → line ≡ head ++ (text ++ tail) →
      parts_with head location tail ≡ Some parts → ((p : FrameParts) → p.head ≡ head → p.tail ≡ tail → p ≡ parts → IsForm p) → IsFrame line parts
  at_location head text tail None parts stands whole is form = cc
  at_location head text tail (Some location) parts stands whole is form =
      let found : FrameParts = record { head = head; url = location.url; line = location.line; column = location.column; tail = tail } in
      let same : found ≡ parts = cc in
      let P : FrameParts → Type 0 = λ p. IsFrame line p in
      subst P same (record {
        bounded = bounded;
        joined = whole ∙ ap (λ t. head ++ (t ++ tail)) stands.text_is ∙ simp append_assoc;
        located = stands.located;
        line_printed = stands.line_printed;
        column_printed = stands.column_printed;
        form = form found refl refl same;
      })

  at_text : (head text tail : List ℕ) (parts : FrameParts) → line ≡ head ++ (text ++ tail) →
      parts_with head (location_of text) tail ≡ Some parts → ((p : FrameParts) → p.head ≡ head → p.tail ≡ tail → p ≡ parts → IsForm p) → IsFrame line parts
  at_text head text tail parts whole is form = at_location head text tail (location_of text) parts (seen (location_of text) refl) whole is form
    where
      seen : (o : Option Location) → location_of text ≡ o → MatchOption o (Unit {0}) (IsLocation text)
      seen None e = tt
      seen (Some location) e = location_is text location e

  call_is : (blanks inner end : List ℕ) (parts : FrameParts) (cut : Option (List ℕ × List ℕ))
      → AllByRecursion (λ byte. IsTrue (is_blank byte)) blanks → IsLineEnd end → MatchOption cut (Unit {0}) (IsFirstCall inner) →
      line ≡ (blanks ++ at_word) ++ ((inner ++ 41 ∷ []) ++ end) → call_frame (blanks ++ at_word) cut (41 ∷ end) ≡ Some parts → IsFrame line parts
  call_is blanks inner end parts None blank ends first whole is = cc
  call_is blanks inner end parts (Some ([], location)) blank ends first whole is = cc
  call_is blanks inner end parts (Some (b ∷ function, location)) blank ends first whole is =
      at_text ((blanks ++ at_word) ++ (b ∷ function) ++ call_word) location (41 ∷ end) parts
      (whole ∙ ap (λ t. (blanks ++ at_word) ++ ((t ++ 41 ∷ []) ++ end)) first.0 ∙ simp append_assoc) is
      (λ p head_is tail_is same. inl (record {
        blanks = blanks;
        function = b ∷ function;
        end = end;
        blank = blank;
        named = λ e. (cc);
        first = λ before after e. first.1 before after (e ∙ append_assoc before call_word after);
        ends = ends;
        head_is = head_is;
        tail_is = tail_is;
      }))

  plain_is : (blanks text end : List ℕ) (parts : FrameParts) → AllByRecursion (λ byte. IsTrue (is_blank byte)) blanks → IsLineEnd end →
      line ≡ (blanks ++ at_word) ++ (text ++ end) → plain_frame (blanks ++ at_word) text end ≡ Some parts → IsFrame line parts
  plain_is blanks text end parts blank ends whole is = go (is_async text) refl out.0
    where
      out : (cond (is_async text) (parts_with ((blanks ++ at_word) ++ async_word) (location_of (drop 6 text)) end)
          (parts_with (blanks ++ at_word) (location_of text) end) ≡ Some parts) × (is_async parts.url ≡ false)
      out = unless_is _ parts is

      form : (p : FrameParts) → p.tail ≡ end → p ≡ parts → (p.head ≡ blanks ++ at_word) ⊎ (p.head ≡ blanks ++ (97 ∷ 116 ∷ 32 ∷ async_word)) → IsPlainFrame p
      form p tail_is same heads = record {
        blanks = blanks;
        blank = blank;
        not_async = λ rest e. not_async p.url rest (ap (λ q. is_async q.url) same ∙ out.1) e;
        head_is = heads;
        tail_is = let P : List ℕ → Type 0 = λ e. IsLineEnd e in subst P (sym tail_is) ends;
      }

      go : (t : Bool) → is_async text ≡ t → cond t (parts_with ((blanks ++ at_word) ++ async_word) (location_of (drop 6 text)) end)
          (parts_with (blanks ++ at_word) (location_of text) end) ≡ Some parts → IsFrame line parts
      go true holds e =
          let begins : text ≡ async_word ++ drop 6 text = (starts_is Decides-eqb text async_word (is_async text) refl).0 holds in
          at_text ((blanks ++ at_word) ++ async_word) (drop 6 text) end parts (whole ∙ ap (λ t. (blanks ++ at_word) ++ (t ++ end)) begins ∙ simp append_assoc) e
          (λ p head_is tail_is same. inr (inl (form p tail_is same (inr (head_is ∙ append_assoc blanks at_word async_word)))))
      go false fails e = at_text (blanks ++ at_word) text end parts whole e (λ p head_is tail_is same. inr (inl (form p tail_is same (inl head_is))))

  at_frame_is : (blanks text end : List ℕ) (parts : FrameParts) (inner : Option (List ℕ))
      → AllByRecursion (λ byte. IsTrue (is_blank byte)) blanks → IsLineEnd end → MatchOption inner (Unit {0}) (λ front. text ≡ front ++ 41 ∷ []) →
      line ≡ (blanks ++ at_word) ++ (text ++ end) → at_frame (blanks ++ at_word) text inner end ≡ Some parts → IsFrame line parts
  at_frame_is blanks text end parts None blank ends stands whole is = plain_is blanks text end parts blank ends whole is
  at_frame_is blanks text end parts (Some inner) blank ends stands whole is =
      call_is blanks inner end parts (cut_at_call inner) blank ends (call_is_first inner) (whole ∙ ap (λ t. (blanks ++ at_word) ++ (t ++ end)) stands) is

  sign_is : (text end : List ℕ) (parts : FrameParts) (cut : Option (List ℕ × List ℕ)) → IsLineEnd end
      → starts_with nat_eq (drop (prefix_len is_blank text) text) at_word ≡ false →
      MatchOption cut (is_without 64 text) (IsFirstCut 64 text) → line ≡ text ++ end → sign_frame_at cut end ≡ Some parts → IsFrame line parts
  sign_is text end parts None ends off first whole is = cc
  sign_is text end parts (Some (function, location)) ends off first whole is =
      at_text (function ++ 64 ∷ []) location end parts (whole ∙ ap (λ t. t ++ end) first.0 ∙ simp append_assoc) is
      (λ p head_is tail_is same. inr (inr (record {
        function = function;
        first = first.1;
        not_at = λ blanks rest blank e. both_ways _ off
            (at_found text blanks (rest ++ 64 ∷ location)
            (first.0 ∙ ap (λ f. f ++ 64 ∷ location) e ∙ append_assoc (blanks ++ at_word) rest (64 ∷ location)
            ∙ append_assoc blanks at_word (rest ++ 64 ∷ location)) blank).1;
        head_is = head_is;
        tail_is = let P : List ℕ → Type 0 = λ e. IsLineEnd e in subst P (sym tail_is) ends;
      })))

  after_is : (body end : List ℕ) (parts : FrameParts) → IsLineEnd end → line ≡ body ++ end
      → frame_after (prefix_len is_blank body) body end ≡ Some parts → IsFrame line parts
  after_is body end parts ends whole is = go (starts_with nat_eq (drop n body) at_word) refl is
    where
      n : ℕ
      n = prefix_len is_blank body

      go : (t : Bool) → starts_with nat_eq (drop n body) at_word ≡ t →
          cond t (at_frame (take (n + 3) body) (drop (n + 3) body) (without_last 41 (drop (n + 3) body)) end) (sign_frame body end)
          ≡ Some parts → IsFrame line parts
      go true holds e =
          let split : body ≡ (take n body ++ at_word) ++ drop (n + 3) body =
          at_split body holds ∙ sym (append_assoc (take n body) at_word (drop (n + 3) body)) in
          let head : take (n + 3) body ≡ take n body ++ at_word =
          append_cancel_right (take (n + 3) body) (take n body ++ at_word) (drop (n + 3) body) (take-append-drop (n + 3) body ∙ split) in
          at_frame_is (take n body) (drop (n + 3) body) end parts (without_last 41 (drop (n + 3) body)) (blank_prefix body) ends
          (last_stands 41 (drop (n + 3) body))
          (whole ∙ ap (λ b. b ++ end) split ∙ append_assoc (take n body ++ at_word) (drop (n + 3) body) end)
          (ap (λ h. at_frame h (drop (n + 3) body) (without_last 41 (drop (n + 3) body)) end) (sym head) ∙ e)
      go false fails e = sign_is body end parts (cut_at_first_byte 64 body) ends fails (cut_is_first 64 body) whole (none_else (ends_in_digit body) _ parts e).1

  in_is : (parts : FrameParts) (body : Option (List ℕ)) → MatchOption body (Unit {0}) (λ front. line ≡ front ++ 13 ∷ [])
      → frame_in line body ≡ Some parts → IsFrame line parts
  in_is parts None stands is = after_is line [] parts (inl refl) (sym (append-nil line)) is
  in_is parts (Some body) stands is = after_is body (13 ∷ []) parts (inr refl) stands is

pub parts_are_frame : (line : List ℕ) (parts : FrameParts) → frame_of line ≡ Some parts → IsFrame line parts
unfolding frame_of
parts_are_frame line parts is =
    let found = none_else (is_line line) (frame_in line (without_last 13 line)) parts is in
    in_is line found.0 parts (without_last 13 line) (last_stands 13 line) found.1

-- ---- from a frame to the parts that are computed

after_reads : (blanks text end : List ℕ) → AllByRecursion (λ b. IsTrue (is_blank b)) blanks →
    frame_after (prefix_len is_blank ((blanks ++ at_word) ++ text)) ((blanks ++ at_word) ++ text) end
    ≡ at_frame (blanks ++ at_word) text (without_last 41 text) end
after_reads blanks text end blank =
    let body : List ℕ = (blanks ++ at_word) ++ text in
    let found = at_found body blanks text (append_assoc blanks at_word text) blank in
    let n : prefix_len is_blank body ≡ length blanks = found.0 in
    let begins : starts_with nat_eq (drop (length blanks) body) at_word ≡ true = ap (λ k. starts_with nat_eq (drop k body) at_word) (sym n) ∙ found.1 in
    let long : length (blanks ++ at_word) ≡ length blanks + 3 = length-append blanks at_word in
    let head : take (length blanks + 3) body ≡ blanks ++ at_word = take_at (blanks ++ at_word) text (length blanks + 3) long in
    let tail : drop (length blanks + 3) body ≡ text = drop_at (blanks ++ at_word) text (length blanks + 3) long in
    ap (λ k. frame_after k body end) n ∙ cond-true (starts_with nat_eq (drop (length blanks) body) at_word) _ (sign_frame body end) begins
    ∙ (λ i. at_frame (head i) (tail i) (without_last 41 (tail i)) end)

-- a line that ends in another byte than a CR, and the end of a line after it
ended : (line body end : List ℕ) → IsLineEnd end → line ≡ body ++ end → without_last 13 body ≡ None
    → frame_in line (without_last 13 line) ≡ frame_after (prefix_len is_blank body) body end
ended line body end ends whole other = ⊎_elim
    (λ (none : end ≡ []).
    let same : line ≡ body = whole ∙ ap (λ e. body ++ e) none ∙ append-nil body in
    ap (frame_in line) (ap (without_last 13) same ∙ other) ∙ (λ i. frame_after (prefix_len is_blank (same i)) (same i) (sym none i)))
    (λ (cr : end ≡ 13 ∷ []).
    ap (frame_in line) (ap (without_last 13) (whole ∙ ap (λ e. body ++ e) cr) ∙ last_is 13 body) ∙ ap (frame_after (prefix_len is_blank body) body) (sym cr))
    ends

-- what a location ends in
before_column : (opening url : List ℕ) (line column : ℕ)
    → (opening ++ url ++ 58 ∷ [] ++ decimal line ++ 58 ∷ []) ++ decimal column ≡ opening ++ location_text url line column
before_column opening url line column = simp append_assoc

location_ends : (byte : ℕ) (opening url : List ℕ) (line column : ℕ) → (byte < 48) ⊎ (57 < byte) → IsPrinted column
    → without_last byte (opening ++ location_text url line column) ≡ None
location_ends byte opening url line column outside printed =
    ap (without_last byte) (sym (before_column opening url line column))
    ∙ number_ends byte (opening ++ url ++ 58 ∷ [] ++ decimal line ++ 58 ∷ []) column outside printed

location_digit : (opening url : List ℕ) (line column : ℕ) → IsPrinted column → ends_in_digit (opening ++ location_text url line column) ≡ true
location_digit opening url line column printed =
    ap ends_in_digit (sym (before_column opening url line column)) ∙ number_last_digit (opening ++ url ++ 58 ∷ [] ++ decimal line ++ 58 ∷ []) column printed

record_is : (parts : FrameParts) (head tail : List ℕ) → parts.head ≡ head → parts.tail ≡ tail
    → record { head = head; url = parts.url; line = parts.line; column = parts.column; tail = tail } ≡ parts
record_is parts head tail h t = λ i. record { head = sym h i; url = parts.url; line = parts.line; column = parts.column; tail = sym t i }

call_reads : (line : List ℕ) (parts : FrameParts) (is : IsFrame line parts) (call : IsCallFrame parts) → frame_in line (without_last 13 line) ≡ Some parts
call_reads line parts is call =
    let location : List ℕ = location_text parts.url parts.line parts.column in
    let inner : List ℕ = call.function ++ 32 ∷ 40 ∷ location in
    let body : List ℕ = (call.blanks ++ at_word) ++ (inner ++ 41 ∷ []) in
    let whole : line ≡ body ++ call.end = is.joined
    ∙ (λ i. call.head_is i ++ parts.url ++ 58 ∷ [] ++ decimal parts.line ++ 58 ∷ [] ++ decimal parts.column ++ call.tail_is i) ∙ simp append_assoc in
    let other : without_last 13 body ≡ None =
    ap (without_last 13) (sym (append_assoc (call.blanks ++ at_word) inner (41 ∷ [])))
    ∙ last_is_other 13 41 ((call.blanks ++ at_word) ++ inner) (λ e. cc) in
    let uncalled : HasNoCall call.function = λ before after e. call.first before after (e ∙ sym (append_assoc before call_word after)) in
    ended line body call.end call.ends whole other
    ∙ after_reads call.blanks (inner ++ 41 ∷ []) call.end call.blank
    ∙ ap (λ o. at_frame (call.blanks ++ at_word) (inner ++ 41 ∷ []) o call.end) (last_is 41 inner)
    ∙ ap (λ cut. call_frame (call.blanks ++ at_word) cut (41 ∷ call.end)) (first_call call.function location uncalled)
    ∙ named call.function call.named call.head_is
  where
    named : (function : List ℕ) → function ≢ [] → parts.head ≡ (call.blanks ++ at_word) ++ function ++ call_word →
        call_frame (call.blanks ++ at_word) (Some (function, location_text parts.url parts.line parts.column)) (41 ∷ call.end) ≡ Some parts
    named [] some head_is = absurd (some refl)
    named (b ∷ function) some head_is =
        ap (λ p. parts_with ((call.blanks ++ at_word) ++ (b ∷ function) ++ call_word) p (41 ∷ call.end))
        (location_reads parts.url parts.line parts.column is.located is.line_printed is.column_printed)
        ∙ ap Some (record_is parts ((call.blanks ++ at_word) ++ (b ∷ function) ++ call_word) (41 ∷ call.end) head_is call.tail_is)

-- `async ` ends before the first `:`
async_stays : (url rest : List ℕ) → is_async (url ++ 58 ∷ rest) ≡ true → is_async url ≡ true
async_stays [] rest is = is
async_stays (a ∷ []) rest is = is
async_stays (a ∷ b ∷ []) rest is = is
async_stays (a ∷ b ∷ d ∷ []) rest is = is
async_stays (a ∷ b ∷ d ∷ e ∷ []) rest is = is
async_stays (a ∷ b ∷ d ∷ e ∷ f ∷ []) rest is = is
async_stays (a ∷ b ∷ d ∷ e ∷ f ∷ g ∷ url) rest is = is

not_async_is : (url : List ℕ) → ((rest : List ℕ) → url ≢ async_word ++ rest) → is_async url ≡ false
not_async_is url none = false_from_ne_true _ (λ holds. none (drop 6 url) ((starts_is Decides-eqb url async_word (is_async url) refl).0 holds))

plain_reads : (line : List ℕ) (parts : FrameParts) (is : IsFrame line parts) (plain : IsPlainFrame parts) → frame_in line (without_last 13 line) ≡ Some parts
plain_reads line parts is plain = ⊎_elim
    (λ (head_is : parts.head ≡ plain.blanks ++ at_word).
    to_text location (is.joined ∙ ap (λ h. h ++ parts.url ++ 58 ∷ [] ++ decimal parts.line ++ 58 ∷ [] ++ decimal parts.column ++ parts.tail)
    head_is ∙ simp append_assoc) [] refl
    ∙ ap unless_async (cond-false (is_async location)
    (parts_with ((plain.blanks ++ at_word) ++ async_word) (location_of (drop 6 location)) parts.tail)
    (parts_with (plain.blanks ++ at_word) (location_of location) parts.tail)
    (false_from_ne_true _ (λ holds. both_ways _ off (async_stays parts.url (decimal parts.line ++ 58 ∷ decimal parts.column) holds)))
    ∙ with_head (plain.blanks ++ at_word) head_is)
    ∙ kept)
    (λ (head_is : parts.head ≡ plain.blanks ++ (at_word ++ async_word)).
    to_text (async_word ++ location) (is.joined
    ∙ ap (λ h. h ++ parts.url ++ 58 ∷ [] ++ decimal parts.line ++ 58 ∷ [] ++ decimal parts.column ++ parts.tail) head_is
    ∙ simp append_assoc) async_word refl
    ∙ ap unless_async (cond-true (is_async (async_word ++ location))
    (parts_with ((plain.blanks ++ at_word) ++ async_word) (location_of location) parts.tail)
    (parts_with (plain.blanks ++ at_word) (location_of (async_word ++ location)) parts.tail) refl
    ∙ with_head ((plain.blanks ++ at_word) ++ async_word) (head_is ∙ sym (append_assoc plain.blanks at_word async_word)))
    ∙ kept)
    plain.head_is
  where
    location : List ℕ
    location = location_text parts.url parts.line parts.column

    off : is_async parts.url ≡ false
    off = not_async_is parts.url plain.not_async

    kept : unless_async (Some parts) ≡ Some parts
    kept = cond-false (is_async parts.url) None (Some parts) off

    with_head : (head : List ℕ) → parts.head ≡ head → parts_with head (location_of (location_text parts.url parts.line parts.column)) parts.tail ≡ Some parts
    with_head head head_is =
        ap (λ p. parts_with head p parts.tail) (location_reads parts.url parts.line parts.column is.located is.line_printed is.column_printed)
        ∙ ap Some (record_is parts head parts.tail head_is refl)

    to_text : (text : List ℕ) → line ≡ ((plain.blanks ++ at_word) ++ text) ++ parts.tail → (word : List ℕ)
        → word ++ location_text parts.url parts.line parts.column ≡ text →
        frame_in line (without_last 13 line) ≡ plain_frame (plain.blanks ++ at_word) text parts.tail
    to_text text whole word text_is =
        let head : List ℕ = plain.blanks ++ at_word in
        let same : (head ++ word) ++ location_text parts.url parts.line parts.column ≡ head ++ text =
        append_assoc head word (location_text parts.url parts.line parts.column) ∙ ap (λ t. head ++ t) text_is in
        ended line (head ++ text) parts.tail plain.tail_is whole
        (ap (without_last 13) (sym same) ∙ location_ends 13 (head ++ word) parts.url parts.line parts.column (inl (omega arith)) is.column_printed)
        ∙ after_reads plain.blanks text parts.tail plain.blank
        ∙ ap (λ o. at_frame head text o parts.tail)
        (ap (without_last 41) (sym text_is) ∙ location_ends 41 word parts.url parts.line parts.column (inl (omega arith)) is.column_printed)

-- a byte before an `@` stands at the beginning of what it ends
before_sign : (function location rest : List ℕ) (byte : ℕ) → (byte == 64) ≡ false → function ++ 64 ∷ location ≡ byte ∷ rest
    → (more : List ℕ) × (function ≡ byte ∷ more) × (more ++ 64 ∷ location ≡ rest)
before_sign [] location rest byte other e = let same : byte ≡ 64 = cc in absurd (both_ways _ other (eq-eqb byte 64 same))
before_sign (x ∷ function) location rest byte other e = let same : x ≡ byte = cc in (function, ap (λ y. y ∷ function) same, (cc))

-- so do blanks and an `at `
at_before_sign : (function location blanks rest : List ℕ) → AllByRecursion (λ b. IsTrue (is_blank b)) blanks
    → function ++ 64 ∷ location ≡ blanks ++ (at_word ++ rest) →
    (more : List ℕ) × (function ≡ blanks ++ (at_word ++ more))
at_before_sign function location [] rest blank e =
    let one = before_sign function location (116 ∷ 32 ∷ rest) 97 refl e in
    let two = before_sign one.0 location (32 ∷ rest) 116 refl one.2 in
    let three = before_sign two.0 location rest 32 refl two.2 in
    (three.0, one.1 ∙ ap (λ l. 97 ∷ l) (two.1 ∙ ap (λ l. 116 ∷ l) three.1))
at_before_sign function location (x ∷ blanks) rest blank e =
    let P : ℕ → Type 0 = λ b. IsTrue (is_blank b) in
    let one = before_sign function location (blanks ++ (at_word ++ rest)) x
    (false_from_ne_true (x == 64) (λ same. false≢true (subst P (eqb-true x 64 same) blank.0))) e in
    let more = at_before_sign one.0 location blanks rest blank.1 one.2 in
    (more.0, one.1 ∙ ap (λ l. x ∷ l) more.1)

sign_reads : (line : List ℕ) (parts : FrameParts) (is : IsFrame line parts) (sign : IsSignFrame parts) → frame_in line (without_last 13 line) ≡ Some parts
sign_reads line parts is sign =
    let location : List ℕ = location_text parts.url parts.line parts.column in
    let head : List ℕ = sign.function ++ 64 ∷ [] in
    let body : List ℕ = sign.function ++ 64 ∷ location in
    let joined : head ++ location ≡ body = append_assoc sign.function (64 ∷ []) location in
    let whole : line ≡ body ++ parts.tail = is.joined
    ∙ ap (λ h. h ++ parts.url ++ 58 ∷ [] ++ decimal parts.line ++ 58 ∷ [] ++ decimal parts.column ++ parts.tail) sign.head_is ∙ simp append_assoc in
    let other : without_last 13 body ≡ None =
    ap (without_last 13) (sym joined) ∙ location_ends 13 head parts.url parts.line parts.column (inl (omega arith)) is.column_printed in
    let digit : ends_in_digit body ≡ true = ap ends_in_digit (sym joined) ∙ location_digit head parts.url parts.line parts.column is.column_printed in
    let off : starts_with nat_eq (drop (prefix_len is_blank body) body) at_word ≡ false = false_from_ne_true _ (λ holds.
    let front = at_before_sign sign.function location (take (prefix_len is_blank body) body) (drop (prefix_len is_blank body + 3) body)
    (blank_prefix body) (at_split body holds) in
    sign.not_at (take (prefix_len is_blank body) body) front.0 (blank_prefix body)
    (front.1 ∙ sym (append_assoc (take (prefix_len is_blank body) body) at_word front.0))) in
    ended line body parts.tail sign.tail_is whole other
    ∙ cond-false (starts_with nat_eq (drop (prefix_len is_blank body) body) at_word) _ (sign_frame body parts.tail) off
    ∙ cond-true (ends_in_digit body) (sign_frame_at (cut_at_first_byte 64 body) parts.tail) None digit
    ∙ ap (λ cut. sign_frame_at cut parts.tail) (first_cut 64 sign.function location sign.first)
    ∙ ap (λ p. parts_with head p parts.tail) (location_reads parts.url parts.line parts.column is.located is.line_printed is.column_printed)
    ∙ ap Some (record_is parts head parts.tail sign.head_is refl)

pub frame_has_parts : (line : List ℕ) (parts : FrameParts) → IsFrame line parts → frame_of line ≡ Some parts
unfolding frame_of
frame_has_parts line parts is =
    cond-true (is_line line) (frame_in line (without_last 13 line)) None is.bounded
    ∙ ⊎_elim (λ (call : IsCallFrame parts). call_reads line parts is call)
    (⊎_elim (λ (plain : IsPlainFrame parts). plain_reads line parts is plain) (λ (sign : IsSignFrame parts). sign_reads line parts is sign)) is.form
