use Rattle.std.proofs.Common.{◌≡◌, ◌+◌, ◌++◌, ◌∷◌, [], arith, ap, drop, sym, subst, ◌∙◌, inr}
use Rattle.std.proofs.lemmas.List.{length_push}
use Rattle.std.proofs.lemmas.Result.{err_from_is_err_and}
use Rattle.smap_record.specs.Sources.{source_of}
use Rattle.smap_map_answers.specs.ComposeAll.{ReadsInners}
use Rattle.smap_map_answers.specs.Private.Inners.{inners_stated}
use Rattle.smap_mappings.specs.Laws.Lists.{drop_next}
use Rattle.smap_map_answers.proofs.InnersLaws.{inners_next, inners_refused, one_stated}
use Rattle.smap_map_answers.proofs.inners.read_inners.Goals as goal

pub loop-i-preserved : goal.loop-i-preserved
loop-i-preserved g c =
    let Reads = g.F.FileReader.gives c.args.reader.now in
    let sources = c.args.outer.now.map.now.stated.sources in
    let before = c.loop-i.inners.items in
    let at = drop_next sources c.loop-i.i (source_of c.in-Some.source.now) (sym c.in-Some.ensures) in
    let more : c.push.new.self.items ≡ before ++ c.in_ok-inner.inner ∷ [] = c.in_ok-push.ensures.items in
    let longer = length_push before c.in_ok-inner.inner in
    let same = ap inners_stated more ∙ one_stated before c.in_ok-inner.inner in
    record {
      many = rw more (omega (arith, longer, c.loop-i.invariant.many));
      reads = λ result others. c.loop-i.invariant.reads result
          (inners_next Reads c.args.named.now _ _ _ (inners_stated before) at _ c.in_ok-inner.ensures result
          (subst (λ l. ReadsInners Reads c.args.named.now (drop (c.loop-i.i + 1) sources) l result) same others));
    }

pub returns-in_err-inner-clause-reads : goal.returns-in_err-inner-clause-reads
returns-in_err-inner-clause-reads g c =
    let Reads = g.F.FileReader.gives c.args.reader.now in
    let sources = c.args.outer.now.map.now.stated.sources in
    let at = drop_next sources c.loop-i.i (source_of c.in-Some.source.now) (sym c.in-Some.ensures) in
    let p = err_from_is_err_and c.from_residual-in_err-inner.result c.from_residual-in_err-inner.ensures.1 in
    rw (p.1, p.2) (inr (c.loop-i.invariant.reads _
    (inners_refused Reads c.args.named.now _ _ _ (inners_stated c.loop-i.inners.items) at _ c.in_err-inner.ensures)))
