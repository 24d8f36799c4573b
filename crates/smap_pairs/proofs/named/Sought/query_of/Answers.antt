use Rattle.std.proofs.Common.{◌≡◌, ◌==◌, ◌+◌, ◌⊎◌, inr, subst, ℕ, ap, arith, false, length, sym, take, true, ◌∙◌}
use Rattle.std.proofs.lemmas.Bool.{false_from_ne_true}
use Rattle.std.proofs.lemmas.List.{length-take-le, take_all}
use Rattle.smap_pairs.specs.Behind.{is_query_at}
use Rattle.smap_pairs.specs.Known.{is_among}
use Rattle.smap_pairs.specs.Named.{cut_bytes}
use Rattle.smap_pairs.specs.Laws.Greatest.{NoneGreater, greater_found, greatest_is, none_greater}
use Rattle.smap_pairs.proofs.NamedLaws.{covered, noted_query}
use Rattle.smap_pairs.proofs.named.Sought.query_of.Goals as goal
use Rattle.smap_pairs.proofs.named.Sought.query_of.Goals.{then-query-last+then-query-self+then-is_cut, else-query-last, else-query-last-via-then-query-last+then-query-self+else-is_cut}
use Rattle.smap_pairs.proofs.named.Sought.query_of.Goals.{else-query-last-via-then-query-last+else-query-self, else-query-last-via-else-query-last}

pub is_cut-requires-clause-query : goal.is_cut-requires-clause-query
is_cut-requires-clause-query g c =
    let self = c.args.self.now in
    let size : length (take self.end self.seen.now) ≡ self.end = length-take-le self.end self.seen.now c.requires.seen in
    let one = noted_query (take self.end self.seen.now) self.piece c.queries-query-items.result.now c.loop-query.query-index
    (c.queries-query-items.ensures ∙ c.requires.behind.queries) c.loop-query-test.true in
    omega (arith, one.0, size)

pub is_cut-requires-clause-is_one : goal.is_cut-requires-clause-is_one
is_cut-requires-clause-is_one g c =
    let self = c.args.self.now in
    (noted_query (take self.end self.seen.now) self.piece c.queries-query-items.result.now c.loop-query.query-index
    (c.queries-query-items.ensures ∙ c.requires.behind.queries) c.loop-query-test.true).1

pub returns-clause-query : goal.returns-clause-query
returns-clause-query g c =
    let self = c.args.self.now in
    let known = g.K.KnownUrls.known self.known.now in
    let queries = c.queries-query-items.result.now in
    let test = λ (query : ℕ).
    cut_bytes known self.text.now self.seen.now self.piece (is_query_at (take self.end self.seen.now) self.piece) self.end c.args.by query == c.args.bytes in
    sym (greatest_is test self.end c.loop-query.last
    (λ n above small. false_from_ne_true (test n) (λ on.
    let among : is_among (take c.loop-query.query-index queries) n ≡ true =
    ap (λ l. is_among l n) (take_all c.loop-query.query-index queries c.loop-query-test.false)
    ∙ covered known self.text.now self.seen.now self.piece self.end c.args.by queries c.requires.seen
    (c.queries-query-items.ensures ∙ c.requires.behind.queries) c.args.bytes n c.requires.some small on in
    absurd (differ (sym on ∙ c.loop-query.invariant.none n among above small))))
    c.loop-query.invariant.some c.loop-query.invariant.within)
  where
    differ : true ≡ false → ⊥
    differ is = cc

pub loop-query-preserved : goal.loop-query-preserved
loop-query-preserved g c =
    let self = c.args.self.now in
    let known = g.K.KnownUrls.known self.known.now in
    let queries = c.queries-query-items.result.now in
    let test = λ (query : ℕ).
    cut_bytes known self.text.now self.seen.now self.piece (is_query_at (take self.end self.seen.now) self.piece) self.end c.args.by query == c.args.bytes in
    let old = c.loop-query.invariant in
    elim c.if-query-last.branch [
      | then-query-last+then-query-self+then-is_cut w ↦ record {
        some = inr (ap test w.last-is ∙ (sym w.is_cut.ensures ∙ w.if-is_cut.true));
        within = omega (arith, w.last-is, w.if-query-self.true);
        none = subst (λ m. NoneGreater test queries self.end (c.loop-query.query-index + 1) m) (sym w.last-is)
            (greater_found test queries self.end c.loop-query.query-index c.loop-query.last c.loop-query-test.true old.none w.if-query-last.true);
      }
      | else-query-last w ↦ record {
        some = subst (λ m. (m ≡ 0) ⊎ (test m ≡ true)) (sym w.last-is) old.some;
        within = omega (arith, w.last-is, old.within);
        none = subst (λ m. NoneGreater test queries self.end (c.loop-query.query-index + 1) m) (sym w.last-is)
            (none_greater test queries self.end c.loop-query.query-index c.loop-query.last c.loop-query-test.true old.none
            (λ above small. elim w.else-query-last.branch [
              | else-query-last-via-then-query-last+then-query-self+else-is_cut w' ↦ sym w'.is_cut.ensures ∙ w'.if-is_cut.false
              | else-query-last-via-then-query-last+else-query-self w' ↦ absurd (omega (arith, small, w'.if-query-self.false))
              | else-query-last-via-else-query-last w' ↦ absurd (omega (arith, above, w'.if-query-last.false))
            ]));
      }
    ]
