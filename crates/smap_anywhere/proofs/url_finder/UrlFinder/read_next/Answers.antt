use Rattle.std.proofs.Common.{◌≡◌, ℕ, Bool, List, ◌<◌, ◌&&◌, ◌+◌, ◌-◌, ap, arith, drop, false, length, subst, sym, take, ◌∙◌}
use Rattle.std.specs.Prelude.{◌==◌, not, slice_index}
use Rattle.std.proofs.lemmas.List.{take_rest}
use Rattle.smap_pairs.specs.Chunks.{IsInOneLine, begins_anew}
use Rattle.smap_pairs.specs.Laws.Chunks.{first_in_line}
use Rattle.smap_pairs.specs.declared.chunk.Chunk.{Chunk}
use Rattle.smap_pairs.specs.declared.line_places.Span.{Span}
use Rattle.smap_anywhere.specs.FoundUrls.{FinderSeen, urls_waiting}
use Rattle.smap_anywhere.proofs.CutLaws.{begins_behind}
use Rattle.smap_anywhere.proofs.FoundUrlLaws.{chunk_read, none_waits, staying_read}
use Rattle.smap_anywhere.proofs.url_finder.UrlFinder.read_next.Goals as goal
use Rattle.smap_anywhere.proofs.url_finder.UrlFinder.read_next.Goals.{then-self+else-bytes-gt0, else-self}

-- a finder, by its fields
abbrev seen_of : (places : List Span) → (given begin next end : ℕ) → (is_broken : Bool) → FinderSeen
seen_of places given begin next end is_broken =
    record { waiting = drop given places; begin = begin; next = next; end = end; is_broken = is_broken }

pub returns-then-bytes-gt0-clause-left : goal.returns-then-bytes-gt0-clause-left
returns-then-bytes-gt0-clause-left c =
    let none = ap (λ f. f.waiting) c.self.view_is ∙ c.requires.none in
    let rest = take (length c.args.text.now - c.self.inside.end) (drop c.self.inside.end c.args.text.now) in
    let old = seen_of c.self.inside.places.places c.self.inside.given c.self.inside.begin c.self.inside.next c.self.inside.end c.self.inside.is_broken in
    let new =
    seen_of c.self.inside.places.places c.self.inside.given c.self.inside.begin c.self.inside.next (c.self.inside.end + c.staying_bytes-bytes.result)
    (not (slice_index rest (c.staying_bytes-bytes.result - 1) == 10)) in
    none_waits c.args.text.now new none
    ∙ staying_read c.args.text.now rest c.self.inside.end c.staying_bytes-bytes.result c.self.inside.is_broken (take_rest c.args.text.now c.self.inside.end)
    c.staying_bytes-bytes.ensures.within c.if-bytes-gt0.true c.if-self.true c.staying_bytes-bytes.ensures.cuts
    ∙ sym (none_waits c.args.text.now old none)
    ∙ ap (urls_waiting c.args.text.now) c.self.view_is

pub find_in_chunk-requires-clause-one : goal.find_in_chunk-requires-clause-one
find_in_chunk-requires-clause-one c =
    let rest = take (length c.args.text.now - c.self.inside.end) (drop c.self.inside.end c.args.text.now) in
    subst (λ (first : Chunk). IsInOneLine (take first.bytes rest)) (sym c.in-Some.ensures.chunk)
    (first_in_line rest (omega (arith, c.in-Some.ensures.within)))

pub returns-clause-left : goal.returns-clause-left
returns-clause-left c =
    let none = ap (λ f. f.waiting) c.self.view_is ∙ c.requires.none in
    let rest = take (length c.args.text.now - c.self.inside.end) (drop c.self.inside.end c.args.text.now) in
    let some : 0 < length rest = omega (arith, c.in-Some.ensures.within) in
    let begins : (c.self.inside.is_broken && not (begins_anew (slice_index rest 0))) ≡ false = elim c.if-self.branch [
      | then-self+else-bytes-gt0 w ↦
          begins_behind c.self.inside.is_broken rest w.staying_bytes-bytes.result (omega (arith, w.if-bytes-gt0.false)) some
          w.staying_bytes-bytes.ensures.behind
      | else-self w ↦ ap (λ b. b && not (begins_anew (slice_index rest 0))) w.if-self.false
    ] in
    let old = seen_of c.self.inside.places.places c.self.inside.given c.self.inside.begin c.self.inside.next c.self.inside.end c.self.inside.is_broken in
    chunk_read c.args.text.now rest c.self.inside.end c.self.inside.is_broken c.in-Some.chunk
    c.find_in_chunk.new.places.places (take_rest c.args.text.now c.self.inside.end) some begins
    c.in-Some.ensures.chunk c.in-Some.ensures.within.1 c.find_in_chunk.ensures.spans c.find_in_chunk.ensures.order
    ∙ sym (none_waits c.args.text.now old none)
    ∙ ap (urls_waiting c.args.text.now) c.self.view_is
