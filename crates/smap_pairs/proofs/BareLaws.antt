-- The URL of a frame that is bare, in a line without an escape before it: it is one URL and no more.
use Rattle.std.proofs.Common.{◌≡◌, ◌==◌, ◌&&◌, ◌||◌, ◌+◌, ◌-◌, ◌≤◌, ◌<◌, ◌++◌, inl, inr, ℕ, zero, suc, Bool, true, false, cond, List, [], ◌∷◌, codes, Some}
use Rattle.std.proofs.Common.{ap, arith, drop, length, map, nat_le, nat_lt, refl, subst, sym, take, ◌∙◌}
use Rattle.std.specs.Prelude.{if◌then◌else◌, not}
use Rattle.std.specs.Bool.{nat_eq}
use Rattle.std.specs.List.{list_all, list_any, prefix_len, slice_range, starts_with}
use Rattle.std.proofs.lemmas.Bool.{and_parts, eq-eqb, eqb-true, leb-true, lt-leb, ltb-true, ne_eqb, not-true, or_cases, or_parts}
use Rattle.std.proofs.lemmas.List.{drop-map, take-map}
use Rattle.std.proofs.lemmas.Slice.Eq.{starts_is}
use Rattle.std.proofs.lemmas.Bool.Decides.{Decides-eqb}
use Rattle.smap_pairs.specs.Behind.{begins_query, is_barred, is_barred_byte}
use Rattle.smap_pairs.specs.Brackets.{closed_by, closed_with, closed_with_any, has_paired_brackets, is_some_none_closed, none_closed}
use Rattle.smap_pairs.specs.Bytes.{is_control}
use Rattle.smap_pairs.specs.FrameUrl.{begins_as_url, begins_with_sign, has_barred_query, has_blank_or_quote, has_function, is_blank_or_quote, is_for_folder, is_for_pattern}
use Rattle.smap_pairs.specs.FrameUrl.{is_in_scheme, is_sentence}
use Rattle.smap_pairs.specs.Known.{UrlsKnown}
use Rattle.smap_pairs.specs.LinePlaces.{has_frame_url, whole_line}
use Rattle.smap_pairs.specs.Private.Bare.{begins_bare, is_bare, is_bare_before, is_bare_byte, is_quote_or_bracket}
use Rattle.smap_pairs.specs.Seen.{by_itself, counted_from, ends_with_drive, ends_with_file, is_apostrophe, is_before_path, is_before_root, is_by_itself, is_in_word, seen_of, settled, settled_from}
use Rattle.smap_pairs.specs.Signs.{is_nothing, signs, text_of}
use Rattle.smap_pairs.specs.declared.pairs.Pair.{Pair}
use Rattle.smap_pairs.specs.declared.seen.SeenByte.{SeenByte}
use Rattle.smap_pairs.proofs.SeenBytesLaws.{bytes_kept, settled_byte}
use Rattle.smap_pairs.proofs.SeenLaws.{by_itself_next}

-- ---- a bare byte

record IsBare (byte : ℕ) : Type 0 where
  pub low : 32 < byte
  pub high : byte < 127
  pub double : (byte == 34) ≡ false
  pub single : (byte == 39) ≡ false
  pub grave : (byte == 96) ≡ false
  pub less : (byte == 60) ≡ false
  pub greater : (byte == 62) ≡ false
  pub round : (byte == 40) ≡ false
  pub round_end : (byte == 41) ≡ false
  pub square : (byte == 91) ≡ false
  pub square_end : (byte == 93) ≡ false
  pub curly : (byte == 123) ≡ false
  pub curly_end : (byte == 125) ≡ false

bare : (byte : ℕ) → is_bare_byte byte ≡ true → IsBare byte
bare byte is =
    let both = and_parts (nat_lt 32 byte && nat_lt byte 127) (not (is_quote_or_bracket byte)) is in
    let between = and_parts (nat_lt 32 byte) (nat_lt byte 127) both.0 in
    let none : is_quote_or_bracket byte ≡ false = not-true (is_quote_or_bracket byte) both.1 in
    let double = or_parts (byte == 34) _ none in
    let single = or_parts (byte == 39) _ double.1 in
    let grave = or_parts (byte == 96) _ single.1 in
    let less = or_parts (byte == 60) _ grave.1 in
    let greater = or_parts (byte == 62) _ less.1 in
    let round = or_parts (byte == 40) _ greater.1 in
    let round_end = or_parts (byte == 41) _ round.1 in
    let square = or_parts (byte == 91) _ round_end.1 in
    let square_end = or_parts (byte == 93) _ square.1 in
    let curly = or_parts (byte == 123) _ square_end.1 in
    let curly_end = or_parts (byte == 125) _ curly.1 in
    record {
      low = ltb-true 32 byte between.0;
      high = ltb-true byte 127 between.1;
      double = double.0;
      single = single.0;
      grave = grave.0;
      less = less.0;
      greater = greater.0;
      round = round.0;
      round_end = round_end.0;
      square = square.0;
      square_end = square_end.0;
      curly = curly.0;
      curly_end = curly_end.0;
    }

no_control : (byte : ℕ) → IsBare byte → is_control byte ≡ false
no_control byte is =
    ap (λ b. b || byte == 127) (lt-leb byte 32 is.low) ∙ ne_eqb byte 127 (λ same. omega (arith, same, is.high))

no_blank_or_quote : (byte : ℕ) → IsBare byte → is_blank_or_quote byte ≡ false
no_blank_or_quote byte is =
    ap (λ b. (b || byte == 34) || byte == 39) (no_control byte is) ∙ ap (λ b. b || byte == 39) is.double ∙ is.single

no_barred : (byte : ℕ) → IsBare byte → is_barred_byte byte ≡ false
no_barred byte is =
    ap (λ b. b || list_any (λ sign. byte == sign) (codes "\"'`<>")) (no_control byte is) ∙ ap (λ b. b || list_any (λ sign. byte == sign) (codes "'`<>")) is.double
    ∙ ap (λ b. b || list_any (λ sign. byte == sign) (codes "`<>")) is.single ∙ ap (λ b. b || list_any (λ sign. byte == sign) (codes "<>")) is.grave
    ∙ ap (λ b. b || list_any (λ sign. byte == sign) (codes ">")) is.less ∙ ap (λ b. b || false) is.greater

not_nothing : (byte : ℕ) → IsBare byte → (byte == 255) ≡ false
not_nothing byte is = ne_eqb byte 255 (λ same. omega (arith, same, is.high))

no_bracket : (byte : ℕ) → IsBare byte → closed_with byte none_closed ≡ Some none_closed
no_bracket byte is =
    let r = is.round in let r2 = is.round_end in let s = is.square in let s2 = is.square_end in let c = is.curly in let c2 = is.curly_end in
    rw r (rw r2 (rw s (rw s2 (rw c (rw c2 refl)))))

-- ---- a bare text

module _ (byte : ℕ) (text : List ℕ) (all : list_all is_bare_byte (byte ∷ text) ≡ true) where
  first : IsBare byte
  first = bare byte (and_parts (is_bare_byte byte) (list_all is_bare_byte text) all).0

  rest : list_all is_bare_byte text ≡ true
  rest = (and_parts (is_bare_byte byte) (list_all is_bare_byte text) all).1

no_blanks : (text : List ℕ) → list_all is_bare_byte text ≡ true → has_blank_or_quote text ≡ false
no_blanks [] all = refl
no_blanks (byte ∷ text) all =
    ap (λ b. b || list_any is_blank_or_quote text) (no_blank_or_quote byte (first byte text all)) ∙ no_blanks text (rest byte text all)

no_functions : (text : List ℕ) → list_all is_bare_byte text ≡ true → has_function false text ≡ false
unfolding has_function
no_functions [] all = refl
no_functions (byte ∷ text) all =
    ap (λ b. has_function b text) ((first byte text all).less) ∙ no_functions text (rest byte text all)

no_sentence : (text : List ℕ) → list_all is_bare_byte text ≡ true → is_sentence text ≡ false
no_sentence text all = let none = no_blanks text all in let also = no_functions text all in rw none also

no_brackets : (text : List ℕ) → list_all is_bare_byte text ≡ true → closed_by text ≡ Some none_closed
no_brackets [] all = refl
no_brackets (byte ∷ text) all =
    ap (closed_with_any byte) (no_brackets text (rest byte text all)) ∙ no_bracket byte (first byte text all)

begins : (url : List ℕ) → begins_bare url ≡ true → begins_as_url url ≡ true
unfolding is_in_scheme
begins url is = elim (or_cases _ (starts_with nat_eq url (codes "file:///")) is) [
  | inl other ↦ elim (or_cases _ (starts_with nat_eq url (codes "http://")) other) [
    | inl another ↦ elim (or_cases (starts_with nat_eq url (codes "https://")) (starts_with nat_eq url (codes "/")) another) [
      | inl https ↦ by (codes "https://") https (λ more. refl)
      | inr slash ↦ by (codes "/") slash (λ more. refl)
    ]
    | inr http ↦ by (codes "http://") http (λ more. refl)
  ]
  | inr file ↦ by (codes "file:///") file (λ more. refl)
]
  where
    by : (front : List ℕ) → starts_with nat_eq url front ≡ true → ((more : List ℕ) → begins_as_url (front ++ more) ≡ true) → begins_as_url url ≡ true
    by front starts all =
        ap begins_as_url ((starts_is Decides-eqb url front _ refl).0 starts) ∙ all (drop (length front) url)

-- ---- what its bytes count as

-- as itself, and it is bare
abbrev counts_bare : SeenByte → Bool
counts_bare seen = seen.counts == seen.byte && is_bare_byte seen.byte

same_counts : (before : List SeenByte) (one : SeenByte) (text : List ℕ) → (one.counts == 39) ≡ false → (settled before one text).counts ≡ one.counts
unfolding settled
same_counts before one text no_quote = go (is_before_path one text) (is_apostrophe before one text) (is_before_root before one text) no_word
  where
    no_word : is_apostrophe before one text ≡ false
    no_word = ap (λ b. b && is_in_word (drop (one.size - 1) before) text) no_quote

    go : (path word root : Bool) → word ≡ false → (if path then record one { is_edge = not (ends_with_drive before || ends_with_file before) }
        else if word then record one { counts = 226; is_edge = false } else if root then record one { is_edge = true } else one).counts ≡ one.counts
    go true word root none = refl
    go false true root none = cc
    go false false true none = refl
    go false false false none = refl

settled_bare : (before : List SeenByte) (byte : ℕ) (text : List ℕ) → is_bare_byte byte ≡ true → counts_bare (settled before (by_itself byte) text) ≡ true
settled_bare before byte text is =
    let counts = same_counts before (by_itself byte) text (bare byte is).single in
    let stands = settled_byte before (by_itself byte) text in
    (λ i. counts i == stands i && is_bare_byte (stands i)) ∙ ap (λ b. b && is_bare_byte byte) (eq-eqb byte byte refl) ∙ is

-- the bytes of a part of a line, before an escape
counted_bare : (start n : ℕ) (before : List SeenByte) (text : List ℕ) → start + n ≤ prefix_len is_by_itself text
    → list_all is_bare_byte (take n (drop start text)) ≡ true
    → list_all counts_bare (take n (drop start (settled_from before text (counted_from 0 text)))) ≡ true
unfolding settled_from counted_from
counted_bare zero zero before text within all = refl
counted_bare (suc start) n before [] within all = absurd (omega (arith, within))
counted_bare zero (suc n) before [] within all = absurd (omega (arith, within))
counted_bare (suc start) n before (byte ∷ text) within all =
    go (is_by_itself byte) refl within (λ less. counted_bare start n (by_itself byte ∷ before) text less all)
  where
    go : (alone : Bool) → is_by_itself byte ≡ alone → suc start + n ≤ cond alone (1 + prefix_len is_by_itself text) 0
        → (start + n ≤ prefix_len is_by_itself text
        → list_all counts_bare (take n (drop start (settled_from (by_itself byte ∷ before) text (counted_from 0 text)))) ≡ true)
        → list_all counts_bare (take n (drop (suc start) (settled_from before (byte ∷ text) (counted_from 0 (byte ∷ text))))) ≡ true
    go false is within later = absurd (omega (arith, within))
    go true is within later =
        ap (λ l. list_all counts_bare (take n (drop (suc start) (settled_from before (byte ∷ text) l)))) (by_itself_next (byte ∷ text) byte text refl is)
        ∙ later (omega (arith, within))
counted_bare zero (suc n) before (byte ∷ text) within all =
    go (is_by_itself byte) refl within (λ less. counted_bare zero n (by_itself byte ∷ before) text less)
  where
    parts : (is_bare_byte byte ≡ true) × (list_all is_bare_byte (take n text) ≡ true)
    parts = and_parts (is_bare_byte byte) (list_all is_bare_byte (take n text)) all

    go : (alone : Bool) → is_by_itself byte ≡ alone → 0 + suc n ≤ cond alone (1 + prefix_len is_by_itself text) 0
        → (0 + n ≤ prefix_len is_by_itself text → list_all is_bare_byte (take n text) ≡ true
        → list_all counts_bare (take n (settled_from (by_itself byte ∷ before) text (counted_from 0 text))) ≡ true)
        → list_all counts_bare (take (suc n) (settled_from before (byte ∷ text) (counted_from 0 (byte ∷ text)))) ≡ true
    go false is within later = absurd (omega (arith, within))
    go true is within later =
        ap (λ l. list_all counts_bare (take (suc n) (settled_from before (byte ∷ text) l))) (by_itself_next (byte ∷ text) byte text refl is)
        ∙ ap (λ b. b && list_all counts_bare (take n (settled_from (by_itself byte ∷ before) text (counted_from 0 text)))) (settled_bare before byte text parts.0)
        ∙ later (omega (arith, within)) parts.1

-- ---- a part of a line that counts so

module _ (seen : SeenByte) (line : List SeenByte) (all : list_all counts_bare (seen ∷ line) ≡ true) where
  both : (counts_bare seen ≡ true) × (list_all counts_bare line ≡ true)
  both = and_parts (counts_bare seen) (list_all counts_bare line) all

  itself : seen.counts ≡ seen.byte
  itself = eqb-true seen.counts seen.byte (and_parts (seen.counts == seen.byte) (is_bare_byte seen.byte) both.0).0

  is_it : IsBare seen.byte
  is_it = bare seen.byte (and_parts (seen.counts == seen.byte) (is_bare_byte seen.byte) both.0).1

  something : is_nothing seen ≡ false
  something = ap (λ n. n == 255) itself ∙ not_nothing seen.byte is_it

bare_signs : (line : List SeenByte) → list_all counts_bare line ≡ true → signs line ≡ text_of line
bare_signs [] all = refl
bare_signs (seen ∷ line) all =
    ap (λ b. if b then signs line else seen.counts ∷ signs line) (something seen line all)
    ∙ (λ i. itself seen line all i ∷ bare_signs line (both seen line all).1 i)

no_barred_byte : (line : List SeenByte) → list_all counts_bare line ≡ true → list_any is_barred line ≡ false
no_barred_byte [] all = refl
no_barred_byte (seen ∷ line) all =
    let none = no_barred seen.byte (is_it seen line all) in
    ap (λ n. (is_barred_byte seen.byte || is_barred_byte n) || list_any is_barred line) (itself seen line all)
    ∙ ap (λ b. (b || b) || list_any is_barred line) none ∙ no_barred_byte line (both seen line all).1

no_barred_query : (line : List SeenByte) → list_all counts_bare line ≡ true → has_barred_query line ≡ false
unfolding has_barred_query
no_barred_query [] all = refl
no_barred_query (seen ∷ line) all = go (begins_query seen.byte) (no_barred_query line (both seen line all).1)
  where
    go : (begins : Bool) → has_barred_query line ≡ false → (if begins then list_any is_barred (seen ∷ line) else has_barred_query line) ≡ false
    go true later = no_barred_byte (seen ∷ line) all
    go false later = later

sign_first : (line : List SeenByte) → list_all counts_bare line ≡ true → begins_as_url (text_of line) ≡ true → begins_with_sign line ≡ true
sign_first [] all url = cc
sign_first (seen ∷ line) all url = ap not (something seen line all)

-- ---- the URL of a frame

module _ (text : List ℕ) (start : ℕ) (pair : Pair) (is : is_bare_before text start pair ≡ true) where
  abbrev url : List ℕ
  url = slice_range text start pair.start

  abbrev seen : List SeenByte
  seen = slice_range (seen_of text) start pair.start

  parts : ((nat_le pair.piece start && is_bare url) ≡ true) × (nat_le pair.start (prefix_len is_by_itself text) ≡ true)
  parts = and_parts (nat_le pair.piece start && is_bare url) (nat_le pair.start (prefix_len is_by_itself text)) is

  of_piece : (nat_le pair.piece start ≡ true) × (is_bare url ≡ true)
  of_piece = and_parts (nat_le pair.piece start) (is_bare url) parts.0

  of_url : (begins_bare url ≡ true) × (list_all is_bare_byte url ≡ true)
  of_url = and_parts (begins_bare url) (list_all is_bare_byte url) of_piece.1

  counts : start ≤ pair.start → list_all counts_bare seen ≡ true
  unfolding seen_of
  counts order =
      counted_bare start (pair.start - start) [] text (omega (arith, order, leb-true pair.start (prefix_len is_by_itself text) parts.1)) of_url.1

  bytes : text_of seen ≡ url
  bytes =
      sym (take-map (λ (one : SeenByte). one.byte) (pair.start - start) (drop start (seen_of text)))
      ∙ ap (take (pair.start - start)) (sym (drop-map (λ (one : SeenByte). one.byte) start (seen_of text)))
      ∙ ap (λ l. take (pair.start - start) (drop start l)) (bytes_kept text)

  no_more : start ≤ pair.start → is_sentence (signs seen) ≡ false
  no_more order = ap is_sentence (bare_signs seen (counts order) ∙ bytes) ∙ no_sentence url of_url.1

  pub bare_for_pattern : start ≤ pair.start → is_for_pattern (seen_of text) 0 start pair ≡ true
  bare_for_pattern order =
      let piece = of_piece.0 in
      let url_begins : begins_as_url (text_of seen) ≡ true = ap begins_as_url bytes ∙ begins url of_url.0 in
      let sign = sign_first seen (counts order) url_begins in
      let paired : has_paired_brackets (text_of seen) ≡ true = ap has_paired_brackets bytes ∙ ap is_some_none_closed (no_brackets url of_url.1) in
      let none = no_more order in
      rw piece (rw sign (rw paired (rw url_begins (rw none refl))))

  pub bare_for_folder : start ≤ pair.start → is_for_folder (seen_of text) start pair ≡ true
  bare_for_folder order =
      let piece = of_piece.0 in
      let none = no_more order in
      let no_query = no_barred_query seen (counts order) in
      rw piece (rw none (rw no_query refl))

-- ---- the frame that a whole line is

module _ (known : UrlsKnown) (text : List ℕ) (start : ℕ) (pair : Pair) where
  abbrev line_url : List ℕ
  line_url = slice_range text start pair.start

  pub named_has : known.is_name line_url ≡ true → known.has_own line_url ≡ true
      → has_frame_url known text (seen_of text) (whole_line (length text)) pair start line_url ≡ true
  named_has name own = rw own (rw name refl)

  pub bare_has : start ≤ pair.start → is_bare_before text start pair ≡ true → (known.has_own line_url || known.has_pattern line_url) ≡ true
      → has_frame_url known text (seen_of text) (whole_line (length text)) pair start line_url ≡ true
  bare_has order is has =
      let pattern : is_for_pattern (seen_of text) 0 start pair ≡ true = bare_for_pattern text start pair is order in
      let folder : is_for_folder (seen_of text) start pair ≡ true = bare_for_folder text start pair is order in
      go (known.has_own line_url) (known.is_name line_url) (is_for_folder (seen_of text) start pair) (is_for_pattern (seen_of text) 0 start pair)
      (known.has_pattern line_url) folder pattern has
    where
      go : (own name of_folder of_pattern has_pattern : Bool) → of_folder ≡ true → of_pattern ≡ true → (own || has_pattern) ≡ true
          → (own && (name || of_folder) || of_pattern && has_pattern) ≡ true
      go true true folder pattern has_pattern is also has = refl
      go true false folder pattern has_pattern is also has = rw is refl
      go false name folder pattern has_pattern is also has = rw also has
