use Rattle.std.proofs.Common.{◌≡◌, ◌+◌, ◌-◌, ap, arith, sym, ◌∙◌}
use Rattle.std.specs.List.{slice_range}
use Rattle.smap_pairs.specs.Known.{is_among}
use Rattle.smap_pairs.specs.Laws.Greatest.{greatest_found}
use Rattle.smap_pairs.proofs.NamedLaws.{among_slice}
use Rattle.smap_pairs.proofs.named.Sought.prefix_bytes.Goals as goal

pub returns-clause-prefix : goal.returns-clause-prefix
returns-clause-prefix g c =
    let is_prefix = (g.K.KnownUrls.known c.args.self.now.known.now).is_prefix in
    let text = c.args.self.now.text.now in
    let lengths = c.prefix_lengths-bytes-items.result.now in
    let at = c.args.at in
    sym (greatest_found (λ n. is_prefix (slice_range text at (at + n))) lengths (c.args.self.now.end - at) c.loop-bytes.bytes-index c.loop-bytes.best
    c.loop-bytes-test.false
    (λ n small on.
    let size : (at + n) - at ≡ n = omega arith in
    ap (is_among lengths) (sym size)
    ∙ among_slice is_prefix lengths text at (at + n) c.prefix_lengths-bytes-items.ensures (omega arith) (omega (arith, small)) on)
    c.loop-bytes.invariant.none c.loop-bytes.invariant.some c.loop-bytes.invariant.within)
