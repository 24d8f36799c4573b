-- What the parts of a text become with the written names of functions: the text without them, but for these names.
use Rattle.std.proofs.Common.{◌≡◌, ◌+◌, ◌-◌, ◌++◌, inl, inr, ℕ, true, List, [], ◌∷◌, Option, Some, None, IfSome}
use Rattle.std.proofs.Common.{ap, append-nil, arith, drop, length, map, option_map, refl, subst, sym, take, unwrap_or, ◌∙◌}
use Rattle.std.specs.Prelude.{slice_range}
use Rattle.std.specs.List.{All, flat_map}
use Rattle.std.proofs.lemmas.Grind.{flat_map-append}
use Rattle.std.proofs.lemmas.List.{take-append-drop}
use Rattle.std.proofs.lemmas.List.Elements.{All-append, All-cons, All-head, All-nil, All-tail}
use Rattle.smap_declarations.specs.Frames.{is_name}
use Rattle.smap_pairs.specs.Chunks.{Cut, chunk, cuts_of, stays}
use Rattle.smap_pairs.specs.Known.{IsFrameUrlWithin, UrlsKnown}
use Rattle.smap_pairs.specs.Spans.{AreSpansInOrder}
use Rattle.smap_pairs.specs.declared.line_places.Span.{Span}
use Rattle.smap_record.specs.Record.{MapRecord}
use Rattle.smap_trace.specs.FunctionNames.{FunctionNames, written_name}
use Rattle.smap_anywhere.specs.ChunkParts.{parts_in, spans_of}
use Rattle.smap_anywhere.specs.NamedParts.{begin_at, function_at, function_before, function_bytes, function_named, function_text, named_by_spans, named_cut_parts}
use Rattle.smap_anywhere.specs.NamedParts.{named_part_text, named_parts_in, named_parts_text, place_at}
use Rattle.smap_anywhere.specs.Parts.{FrameFunction, Part, PlaceUrl, found, other}
use Rattle.smap_anywhere.specs.Renamed.{AreNames, IsRenamed, Piece, StaysOrIsName}
use Rattle.smap_anywhere.specs.Replaced.{part_text, parts_text, replacement}
use Rattle.smap_anywhere.proofs.FrameTextLaws.{others_stay}
use Rattle.smap_anywhere.proofs.NamedLaws.{chunk_order, cut_range, function_there, own_parts, parts_own}
use Rattle.smap_anywhere.proofs.PutLaws.{few_bytes}

-- ---- the functions of parts

-- it is a name, and the part begins with it
abbrev pub BeginsWith : (text : List ℕ) → FrameFunction → Type 0
BeginsWith text function =
    (is_name function.name ≡ true) × (take (length function.name + length function.behind) text ≡ function.name ++ function.behind)

abbrev pub HasFunction : Part → Type 0
HasFunction (other byte) = Unit {0}
HasFunction (found place text) = IfSome place.function (BeginsWith text)

others_have : (bytes : List ℕ) (parts : List Part) → All HasFunction parts → All HasFunction (map other bytes ++ parts)
others_have [] parts all = all
others_have (byte ∷ bytes) parts all = All-cons HasFunction (other byte) (map other bytes ++ parts) tt (others_have bytes parts all)

spans_have : (text : List ℕ) (from : ℕ) (spans : List Span) → AreSpansInOrder from (length text) spans → All HasFunction (named_by_spans text from spans)
spans_have text from [] order = subst (All HasFunction) (append-nil (map other (drop from text))) (others_have (drop from text) [] (All-nil HasFunction))
spans_have text from (span ∷ spans) order =
    others_have (slice_range text from (begin_at true text from span)) _
    (All-cons HasFunction (found (place_at true text from span) (slice_range text (begin_at true text from span) span.end)) _
    (go (function_at true text from span) refl) (spans_have text span.end spans order.4))
  where
    go : (function : Option FrameFunction) → function_before text from span ≡ function
        → IfSome function (BeginsWith (slice_range text (span.start - function_bytes function) span.end))
    go None is = tt
    go (Some function) is =
        let there = function_there text from span function (omega (arith, order.1, order.2, order.3)) is in
        let few = few_bytes true text from span order.0 in
        let size : function_bytes (function_at true text from span) ≡ length function.name + length function.behind = ap function_bytes is in
        let n : span.start - (span.start - (length function.name + length function.behind)) ≡ length function.name + length function.behind =
        omega (arith, few, size) in
        let cut = cut_range text (span.start - (length function.name + length function.behind)) span.start span.end (omega arith)
        (omega (arith, order.1, order.2)) in (
          there.is,
          ap (λ k. take k (slice_range text (span.start - (length function.name + length function.behind)) span.end)) (sym n) ∙ cut.0 ∙ there.there,
        )

module _ (known : UrlsKnown) (within : (line : List ℕ) → IsFrameUrlWithin known line) where
  cut_has : (cut : Cut) → All HasFunction (named_cut_parts known cut)
  cut_has (stays byte) = All-cons HasFunction (other byte) [] tt (All-nil HasFunction)
  cut_has (chunk text) = spans_have text 0 (spans_of known text) (chunk_order known within text)

  cuts_have : (cuts : List Cut) → All HasFunction (flat_map (named_cut_parts known) cuts)
  cuts_have [] = All-nil HasFunction
  cuts_have (cut ∷ cuts) = All-append HasFunction (named_cut_parts known cut) (flat_map (named_cut_parts known) cuts) (cut_has cut) (cuts_have cuts)

  pub parts_have : (text : List ℕ) → All HasFunction (named_parts_in known text)
  unfolding named_parts_in
  parts_have text = cuts_have (cuts_of text)

-- ---- what is renamed

renamed_none : IsRenamed [] []
renamed_none = record { pieces = []; own_is = refl; put_is = refl; each = All-nil StaysOrIsName }

renamed_both : (text put more later : List ℕ) → IsRenamed text put → IsRenamed more later → IsRenamed (text ++ more) (put ++ later)
renamed_both text put more later one two = record {
  pieces = one.pieces ++ two.pieces;
  own_is = (λ i. one.own_is i ++ two.own_is i) ∙ sym (flat_map-append (λ (piece : Piece). piece.own) one.pieces two.pieces);
  put_is = (λ i. one.put_is i ++ two.put_is i) ∙ sym (flat_map-append (λ (piece : Piece). piece.put) one.pieces two.pieces);
  each = All-append StaysOrIsName one.pieces two.pieces one.each two.each;
}

one_piece : (own put : List ℕ) → StaysOrIsName (record { own = own; put = put }) → IsRenamed own put
one_piece own put is = record {
  pieces = record { own = own; put = put } ∷ [];
  own_is = sym (append-nil own);
  put_is = sym (append-nil put);
  each = All-cons StaysOrIsName (record { own = own; put = put }) [] is (All-nil StaysOrIsName);
}

stays_so : (text : List ℕ) → IsRenamed text text
stays_so text = one_piece text text (inl refl)

-- ---- a part

module _ (maps : List ℕ → Option MapRecord) (names : List ℕ → Option FunctionNames) where
  -- what it becomes, where its functions stay
  own_text : (place : PlaceUrl) (text : List ℕ) → parts_text maps (own_parts (found place text))
      ≡ take (function_bytes place.function) text ++ unwrap_or (replacement (maps place.url) place) (drop (function_bytes place.function) text)
  unfolding replacement
  own_text place text =
      let n = function_bytes place.function in
      flat_map-append (part_text maps) (map other (take n text)) (found (record place { function = None }) (drop n text) ∷ [])
      ∙ (λ i. others_stay maps (take n text) i ++ append-nil (unwrap_or (replacement (maps place.url) place) (drop n text)) i)

  abbrev put_for : PlaceUrl → (text : List ℕ) → Option FrameFunction → (new : Option (List ℕ)) → List ℕ
  put_for place text function new = unwrap_or (option_map (λ t. function_text (names place.url) place function ++ t) new) text

  place_renamed : AreNames names → (place : PlaceUrl) (text : List ℕ) (function : Option FrameFunction) → IfSome function (BeginsWith text)
      → (new : Option (List ℕ))
      → IsRenamed (take (function_bytes function) text ++ unwrap_or new (drop (function_bytes function) text)) (put_for place text function new)
  place_renamed are place text function begins None =
      subst (λ own. IsRenamed own text) (sym (take-append-drop (function_bytes function) text)) (stays_so text)
  place_renamed are place text None begins (Some new) = stays_so new
  place_renamed are place text (Some function) begins (Some new) =
      subst (λ own. IsRenamed (own ++ new) (put_for place text (Some function) (Some new))) (sym begins.1)
      (renamed_both (function.name ++ function.behind) _ new new
      (go (written_name (names place.url) function.name place.line place.column) (are place.url function.name place.line place.column)) (stays_so new))
    where
      go : (written : Option (List ℕ)) → IfSome written (λ name. is_name name ≡ true) → IsRenamed (function.name ++ function.behind) (function_named function written)
      go None is = stays_so (function.name ++ function.behind)
      go (Some written) is =
          renamed_both function.name written function.behind function.behind (one_piece function.name written (inr (begins.0, is))) (stays_so function.behind)

  part_renamed : AreNames names → (part : Part) → HasFunction part → IsRenamed (parts_text maps (own_parts part)) (named_part_text maps names part)
  part_renamed are (other byte) has = stays_so (byte ∷ [])
  part_renamed are (found place text) has =
      subst (λ own. IsRenamed own (named_part_text maps names (found place text))) (sym (own_text place text))
      (place_renamed are place text place.function has (replacement (maps place.url) place))

  parts_renamed : AreNames names → (parts : List Part) → All HasFunction parts
      → IsRenamed (parts_text maps (flat_map own_parts parts)) (named_parts_text maps names parts)
  parts_renamed are [] all = renamed_none
  parts_renamed are (part ∷ parts) all =
      subst (λ own. IsRenamed own (named_parts_text maps names (part ∷ parts))) (sym (flat_map-append (part_text maps) (own_parts part) (flat_map own_parts parts)))
      (renamed_both (parts_text maps (own_parts part)) (named_part_text maps names part) (parts_text maps (flat_map own_parts parts))
      (named_parts_text maps names parts) (part_renamed are part (All-head HasFunction part parts all))
      (parts_renamed are parts (All-tail HasFunction part parts all)))

  -- the text of a text
  pub text_renamed : (known : UrlsKnown) → ((line : List ℕ) → IsFrameUrlWithin known line) → AreNames names → (text : List ℕ)
      → IsRenamed (parts_text maps (parts_in known text)) (named_parts_text maps names (named_parts_in known text))
  text_renamed known within are text =
      subst (λ parts. IsRenamed (parts_text maps parts) (named_parts_text maps names (named_parts_in known text))) (parts_own known within text)
      (parts_renamed are (named_parts_in known text) (parts_have known within text))

-- ---- without names

module _ (maps : List ℕ → Option MapRecord) where
  abbrev no_names : List ℕ → Option FunctionNames
  no_names url = None

  part_unnamed : (part : Part) → HasFunction part → named_part_text maps no_names part ≡ parts_text maps (own_parts part)
  part_unnamed (other byte) has = refl
  part_unnamed (found place text) has =
      go place.function has (replacement (maps place.url) place) ∙ sym (own_text maps no_names place text)
    where
      go : (function : Option FrameFunction) → IfSome function (BeginsWith text) → (new : Option (List ℕ))
          → unwrap_or (option_map (λ t. function_text None place function ++ t) new) text
          ≡ take (function_bytes function) text ++ unwrap_or new (drop (function_bytes function) text)
      go function begins None = sym (take-append-drop (function_bytes function) text)
      go None begins (Some new) = refl
      go (Some function) begins (Some new) = ap (λ l. l ++ new) (sym begins.1)

  parts_unnamed : (parts : List Part) → All HasFunction parts → named_parts_text maps no_names parts ≡ parts_text maps (flat_map own_parts parts)
  parts_unnamed [] all = refl
  parts_unnamed (part ∷ parts) all =
      (λ i. part_unnamed part (All-head HasFunction part parts all) i ++ parts_unnamed parts (All-tail HasFunction part parts all) i)
      ∙ sym (flat_map-append (part_text maps) (own_parts part) (flat_map own_parts parts))

  pub text_unnamed : (known : UrlsKnown) → ((line : List ℕ) → IsFrameUrlWithin known line) → (text : List ℕ)
      → named_parts_text maps no_names (named_parts_in known text) ≡ parts_text maps (parts_in known text)
  text_unnamed known within text =
      parts_unnamed (named_parts_in known text) (parts_have known within text) ∙ ap (parts_text maps) (parts_own known within text)
