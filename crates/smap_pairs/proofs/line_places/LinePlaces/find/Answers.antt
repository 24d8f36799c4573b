use Rattle.std.proofs.Common.{◌≡◌, ◌∷◌, ◌++◌, [], ap, arith, length, subst, sym, vec_len, ◌∙◌}
use Rattle.std.proofs.lemmas.Bool.{eqb-true}
use Rattle.std.specs.List.{All}
use Rattle.std.proofs.lemmas.Result.{IfOk-weaker}
use Rattle.smap_pairs.specs.LinePlaces.{IsLineWithin, places_in}
use Rattle.smap_pairs.specs.Pairs.{AreInOrder}
use Rattle.smap_pairs.specs.Seen.{seen_of}
use Rattle.smap_pairs.specs.Signs.{text_of}
use Rattle.smap_pairs.specs.Spans.{AreSpansInOrder}
use Rattle.smap_pairs.specs.VirtualLines.{lines_of_strings, virtual_lines}
use Rattle.smap_pairs.proofs.NamedFrameLaws.{no_pairs}
use Rattle.smap_pairs.proofs.LinePlacesLaws.{strings_within, virtual_lines_within}
use Rattle.smap_pairs.proofs.SpansLaws.{spans_in_order}
use Rattle.smap_pairs.proofs.line_places.LinePlaces.find.Goals as goal

pub find_places-requires-clause-seen : goal.find_places-requires-clause-seen
find_places-requires-clause-seen g c =
    let text = c.args.text.now in
    let seen = c.deref-7.ensures.value ∙ c.in_ok-see_into.ensures.seen in
    let strings : c.deref-8.result.now ≡ lines_of_strings (seen_of text) =
    c.deref-8.ensures.value ∙ (c.in_ok-lines_of_strings_into.ensures.lines ∙ ap lines_of_strings (c.deref-3.ensures.value ∙ c.in_ok-see_into.ensures.seen)) in
    let lines : c.deref-9.result.now ≡ virtual_lines (seen_of text) =
    c.deref-9.ensures.value ∙ (c.in_ok-virtual_lines_into.ensures.lines ∙ ap virtual_lines (c.deref-5.ensures.value ∙ c.in_ok-see_into.ensures.seen)) in
    record {
      seen = seen;
      size = ap length c.deref-7.ensures.value ∙ c.in_ok-see_into.ensures.one_a_byte;
      bytes = ap text_of c.deref-7.ensures.value ∙ c.in_ok-see_into.ensures.stands;
      strings = strings ∙ ap lines_of_strings (sym seen);
      lines = lines ∙ ap virtual_lines (sym seen);
      pairs = c.deref-10.ensures.value ∙ c.in_ok-pairs_in_line.ensures.pairs;
      strings_within = subst (All (IsLineWithin (length text))) (sym strings) (strings_within text);
      lines_within = subst (All (IsLineWithin (length text))) (sym lines) (virtual_lines_within text);
      order = subst (AreInOrder 0 (length text)) (sym c.deref-10.ensures.value) c.in_ok-pairs_in_line.ensures.order;
    }

pub returns-then-is_empty-clause-places : goal.returns-then-is_empty-clause-places
returns-then-is_empty-clause-places g c =
    let pairs = c.pairs_in_line.new.pairs in
    let none : vec_len pairs ≡ 0 = eqb-true (vec_len pairs) 0 (sym c.is_empty.ensures ∙ c.if-is_empty.true) in
    c.clear.ensures.items
    ∙ sym (no_pairs (g.K.KnownUrls.known c.args.known.now) c.args.text.now pairs.items c.in_ok-pairs_in_line.ensures.pairs (omega (arith, none, pairs.ok)))

pub returns-in-Some-clause-order : goal.returns-in-Some-clause-order
returns-in-Some-clause-order g c =
    let text = c.args.text.now in
    let known = g.K.KnownUrls.known c.args.known.now in
    let order = spans_in_order known text (λ line. g.met.K.KnownUrls.within c.args.known.now line) in
    let items : c.push.new.self.items ≡ c.in-Some.place ∷ [] = c.in_ok-push.ensures.items ∙ ap (λ l. l ++ c.in-Some.place ∷ []) c.clear.ensures.items in
    subst (AreSpansInOrder 0 (length text)) (c.in-Some.ensures ∙ sym items) order

pub returns-clause-order : goal.returns-clause-order
returns-clause-order g c =
    let text = c.args.text.now in
    let known = g.K.KnownUrls.known c.args.known.now in
    let seen = c.deref-7.ensures.value ∙ c.in_ok-see_into.ensures.seen in
    let order = spans_in_order known text (λ line. g.met.K.KnownUrls.within c.args.known.now line) in
    let places = c.find_places.new.places.items in
    IfOk-weaker c.find_places.result (λ _. places ≡ places_in known text c.deref-7.result.now) (λ _. AreSpansInOrder 0 (length text) places)
    (λ _ are. subst (AreSpansInOrder 0 (length text)) (sym (are ∙ ap (places_in known text) seen)) order) c.find_places.ensures.places
