-- What becomes of a line, or of a place, over the maps that are known.
use Rattle.std.proofs.Common.{◌≡◌, ◌++◌, ℕ, Bool, false, true, List, [], Option, Some, None, refl, sym, ap, append-nil, ◌∙◌}
use Rattle.std.specs.List.{slice_range}
use Rattle.std.specs.Option.{IfSome}
use Rattle.std.specs.Prelude.{is_some, option_map, unwrap_or}
use Rattle.smap_declarations.specs.Declarations.{Named}
use Rattle.smap_lines.specs.Lines.{Line, line_text}
use Rattle.smap_pairs.specs.LinePlaces.{span_url}
use Rattle.smap_pairs.specs.declared.line_places.Span.{Span}
use Rattle.smap_record.specs.Record.{MapRecord}
use Rattle.smap_trace.specs.Frame.{FrameParts}
use Rattle.smap_trace.specs.FrameOf.{frame_of}
use Rattle.smap_trace.specs.FunctionNames.{FunctionNames, named, names_beside, written_name}
use Rattle.smap_anywhere.specs.NamedParts.{function_before, function_named, function_text, place_at}
use Rattle.smap_anywhere.specs.Parts.{FrameFunction}
use Rattle.smap_trace.specs.Hiding.{HidingSeen}
use Rattle.smap_trace.specs.MapsOf.{fate_named}
use Rattle.smap_trace.specs.Rewritten.{fate_at, no_frame, original_in}
use Rattle.smap_piecewise.specs.Known.{NamedKnown}
use Rattle.smap_piecewise.specs.Private.PutPlace.{IsPlacePut, function_put, place_put}
use Rattle.smap_piecewise.specs.Private.PutLine.{IsFramePut, IsLinePut, IsUnknown, kind_of}
use Rattle.smap_piecewise.specs.NamedMapSeen.{names_in, stated_in}
use Rattle.smap_piecewise.specs.declared.known.NamedMap.{NamedMap}
use Rattle.smap_piecewise.specs.declared.put_line.LineKind.{LineKind}

-- it is no frame
pub line_unframed : (known : NamedKnown) (hide : HidingSeen) (line : Line) (old new : List ℕ) → frame_of line.bytes ≡ None → new ≡ old ++ line_text line
    → IsLinePut known hide line old new (record { is_frame = false; is_mapped = false; is_hidden = false })
line_unframed known hide line old new none text = record {
  met = no_frame;
  is = λ maps agrees. ap (fate_named maps hide) none;
  text = text;
  kind_is = λ i. kind_of (sym none i) no_frame;
}

none_of : {A : Type 0} (o : Option A) → is_some o ≡ false → o ≡ None
none_of None is = refl
none_of (Some x) is = absurd (cc)

-- it is not known what map its URL has
pub line_unknown : (known : NamedKnown) (line : List ℕ) (parts : FrameParts) (old new : List ℕ) → frame_of line ≡ Some parts
    → is_some (known.maps parts.url) ≡ false → new ≡ old → IsUnknown known (frame_of line) old new
line_unknown known line parts old new frame none same = record { frame = parts; is = frame; unknown = none_of (known.maps parts.url) none; same = same }

-- ---- it is

-- what names the functions of a program of which this was found
pub names_found : (found : Option NamedMap) (declared : Option (List Named))
    → IfSome found (λ one. option_map (λ declared. declared.now) one.declared ≡ declared) → names_beside (stated_in found) declared ≡ names_in found
names_found None declared is = refl
names_found (Some one) declared is = ap (names_beside (stated_in (Some one))) (sym is)

pub line_framed : (known : NamedKnown) (hide : HidingSeen) (line : Line) (parts : FrameParts) (stated : Option MapRecord) (names : Option FunctionNames)
    (old new : List ℕ) (kind : LineKind)
    → frame_of line.bytes ≡ Some parts → Some stated ≡ known.maps parts.url → names_beside stated (known.declared parts.url) ≡ names
    → IsFramePut (fate_at hide (named names parts) (original_in parts stated)) line old new kind → IsLinePut known hide line old new kind
line_framed known hide line parts stated names old new kind frame is naming put = record {
  met = fate_at hide (named names parts) (original_in parts stated);
  is = λ maps agrees.
      let so = agrees parts.url stated (sym is) in
      ap (fate_named maps hide) frame ∙ (λ i. fate_at hide (named ((so.1 ∙ naming) i) parts) (original_in parts (so.0 i)));
  text = put.text;
  kind_is = put.kind_is ∙ (λ i. kind_of (sym frame i) (fate_at hide (named names parts) (original_in parts stated)));
}

-- ---- a place

-- its function stays where no name was written for it
pub stays_for : (names : Option FunctionNames) (text : List ℕ) (from : ℕ) (span : Span) (function : Option FrameFunction)
    → function_before text from span ≡ function → IfSome function (λ one. written_name names one.name span.line span.column ≡ None)
    → function_put None text from span ≡ function_put names text from span
stays_for names text from span None is none =
    ap (function_text None (place_at true text from span)) is ∙ sym (ap (function_text names (place_at true text from span)) is)
stays_for names text from span (Some one) is none =
    ap (function_text None (place_at true text from span)) is ∙ sym (ap (function_named one) none)
    ∙ sym (ap (function_text names (place_at true text from span)) is)

-- what stands there as a whole
pub head_alone : (head : List ℕ) → head ++ [] ++ [] ≡ head
head_alone head = append-nil (head ++ []) ∙ append-nil head

-- no names are known where nothing was declared
pub undeclared : (found : NamedMap) → is_some found.declared ≡ false → names_in (Some found) ≡ None
undeclared found is = ap (λ (declared : _). names_beside (stated_in (Some found)) (option_map (λ declared. declared.now) declared)) (none_of found.declared is)

-- and has its written name in the stead of its own, where there is one
pub named_for : (names : Option FunctionNames) (text : List ℕ) (from : ℕ) (span : Span) (one : FrameFunction) (name : List ℕ)
    → function_before text from span ≡ Some one → written_name names one.name span.line span.column ≡ Some name
    → name ++ one.behind ≡ function_put names text from span
named_for names text from span one name is written =
    sym (ap (function_named one) written) ∙ sym (ap (function_text names (place_at true text from span)) is)

-- what became of it by what was found under its URL
pub place_by : (known : NamedKnown) (text : List ℕ) (from : ℕ) (span : Span) (stated : Option MapRecord) (names : Option FunctionNames)
    (old new : List ℕ) (is_mapped : Bool) → Some stated ≡ known.maps (span_url text span) → names_beside stated (known.declared (span_url text span)) ≡ names
    → new ≡ old ++ unwrap_or (place_put (stated, names) text from span) (slice_range text from span.end)
    → is_mapped ≡ is_some (place_put (stated, names) text from span) → IsPlacePut known text from span old new is_mapped
place_by known text from span stated names old new is_mapped is naming put mapped = record {
  stated = stated;
  is = sym is;
  put = put ∙ (λ i. old ++ unwrap_or (place_put (stated, sym naming i) text from span) (slice_range text from span.end));
  mapped = mapped ∙ (λ i. is_some (place_put (stated, sym naming i) text from span));
}
