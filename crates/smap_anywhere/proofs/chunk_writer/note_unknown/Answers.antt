use Rattle.std.proofs.Common.{◌≡◌, List, ◌∷◌, ◌++◌, ap, append_assoc, length, subst, sym, true, ◌∙◌}
use Rattle.smap_anywhere.specs.ChunkParts.{has_any, place_of_span, unknown_among, unless_any}
use Rattle.smap_anywhere.proofs.PutLaws.{noted_both}
use Rattle.smap_pairs.specs.LinePlaces.{span_url}
use Rattle.smap_pairs.specs.Spans.{AreSpansInOrder}
use Rattle.smap_pairs.specs.declared.line_places.Span.{Span}
use Rattle.smap_trace.specs.UrlNotes.{NamingSeen}
use Rattle.smap_anywhere.proofs.chunk_writer.note_unknown.Goals as goal

pub loop-span-preserved : goal.loop-span-preserved
loop-span-preserved g c =
    let known = g.K.KnownUrls.known c.args.known.now in
    let text = c.args.text.now in
    let span = c.in-Some.span.now in
    let later = c.in-Some.later.now in
    let order = c.loop-span.invariant.order in
    let noted = c.loop-span.invariant.noted in
    let cases : c.loop-span.rest.now ≡ span ∷ later = c.in-Some.ensures.cases.0 in
    let ordered = subst (λ (l : List Span). AreSpansInOrder order.0 (length text) l) cases order.1 in
    let one : List NamingSeen = unless_any (has_any known (span_url text span)) (place_of_span text span) in record {
      order = (span.end, ordered.4);
      noted = (
        noted.0 ++ one,
        noted_both true noted.0 one _ _ _ noted.1 c.note_place.ensures,
        noted.2 ∙ ap (λ l. noted.0 ++ unknown_among known text l) cases ∙ sym (append_assoc noted.0 one (unknown_among known text later)),
      );
    }
