use Rattle.std.proofs.Common.{◌≡◌, ◌≤◌, arith, get_or, length, take, ◌∙◌}
use Rattle.std.proofs.lemmas.List.{length-take-le}
use Rattle.smap_pairs.specs.Behind.{is_query_at}
use Rattle.smap_pairs.specs.Greatest.{most_below}
use Rattle.smap_pairs.specs.Named.{cut_bytes}
use Rattle.smap_pairs.proofs.MostLaws.{most_above, most_found, none_more}
use Rattle.smap_pairs.proofs.NamedLaws.{covers, noted_query}
use Rattle.smap_pairs.proofs.named.Sought.longest_cut.Goals as goal

pub cut_bytes-requires-clause-query : goal.cut_bytes-requires-clause-query
cut_bytes-requires-clause-query g c =
    let self = c.args.self.now in
    let size : length (take self.end self.seen.now) ≡ self.end = length-take-le self.end self.seen.now c.requires.seen in
    let one = noted_query (take self.end self.seen.now) self.piece c.queries-query-items.result.now c.loop-query.query-index
    (c.queries-query-items.ensures ∙ c.requires.behind.queries) c.loop-query-test.true in
    omega (arith, one.0, size)

pub cut_bytes-requires-clause-is_one : goal.cut_bytes-requires-clause-is_one
cut_bytes-requires-clause-is_one g c =
    let self = c.args.self.now in
    (noted_query (take self.end self.seen.now) self.piece c.queries-query-items.result.now c.loop-query.query-index
    (c.queries-query-items.ensures ∙ c.requires.behind.queries) c.loop-query-test.true).1

pub loop-query-preserved : goal.loop-query-preserved
loop-query-preserved g c =
    let self = c.args.self.now in
    let end = self.end in
    let known = g.K.KnownUrls.known self.known.now in
    let cut = cut_bytes known self.text.now self.seen.now self.piece (is_query_at (take end self.seen.now) self.piece) end c.args.by in
    let queries = c.queries-query-items.result.now in
    let size : length (take end self.seen.now) ≡ end = length-take-le end self.seen.now c.requires.seen in
    let one = noted_query (take end self.seen.now) self.piece queries c.loop-query.query-index
    (c.queries-query-items.ensures ∙ c.requires.behind.queries) c.loop-query-test.true in
    let here : cut (get_or queries c.loop-query.query-index 0) ≤ most_below cut end =
    most_above cut end (get_or queries c.loop-query.query-index 0) (omega (arith, one.0, size)) in
    record {
      most = omega (arith, c.cut_bytes.ensures.cut, here);
      within = omega (arith, c.cut_bytes.ensures.within);
      each = none_more cut queries end c.loop-query.query-index c.loop-query.best _ c.loop-query-test.true c.loop-query.invariant.each (omega arith)
          (λ _. omega (arith, c.cut_bytes.ensures.cut));
    }

pub returns-clause-longest : goal.returns-clause-longest
returns-clause-longest g c =
    let self = c.args.self.now in
    let known = g.K.KnownUrls.known self.known.now in
    let queries = c.queries-query-items.result.now in
    most_found (cut_bytes known self.text.now self.seen.now self.piece (is_query_at (take self.end self.seen.now) self.piece) self.end c.args.by) queries self.end
    c.loop-query.query-index c.loop-query.best c.loop-query-test.false
    (λ n within. covers known self.text.now self.seen.now self.piece self.end c.args.by queries c.requires.seen
    (c.queries-query-items.ensures ∙ c.requires.behind.queries) n within)
    c.loop-query.invariant.each c.loop-query.invariant.most
