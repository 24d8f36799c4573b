use Rattle.std.proofs.Common.{◌≡◌, ◌-◌, ap, arith, sym, ◌∙◌}
use Rattle.std.specs.List.{slice_range}
use Rattle.smap_pairs.specs.Known.{is_among}
use Rattle.smap_pairs.specs.Named.{is_named_before, may_begin_name}
use Rattle.smap_pairs.specs.Laws.Greatest.{greatest_found}
use Rattle.smap_pairs.proofs.NamedLaws.{among_slice, both_rest}
use Rattle.smap_pairs.proofs.named.Sought.named_bytes.Goals as goal

pub returns-clause-named : goal.returns-clause-named
returns-clause-named g c =
    let known = g.K.KnownUrls.known c.args.self.now.known.now in
    let text = c.args.self.now.text.now in
    let seen = c.args.self.now.seen.now in
    let by = c.args.by in
    let end = c.args.end in
    let lengths = c.name_lengths-bytes-items.result.now in
    sym (greatest_found (is_named_before known text seen c.args.self.now.piece by end) lengths (end - c.args.self.now.piece)
    c.loop-bytes.bytes-index c.loop-bytes.best
    c.loop-bytes-test.false
    (λ n small on.
    let size : end - (end - n) ≡ n = omega (arith, small) in
    ap (is_among lengths) (sym size)
    ∙ among_slice (known.is_named by) lengths text (end - n) end (c.name_lengths-bytes-items.ensures by) (omega arith) c.requires.end
    (both_rest (may_begin_name seen (end - n)) (known.is_named by (slice_range text (end - n) end)) on))
    c.loop-bytes.invariant.none c.loop-bytes.invariant.some c.loop-bytes.invariant.within)
