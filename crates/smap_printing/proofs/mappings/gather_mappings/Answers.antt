use Rattle.std.proofs.Common.{◌≡◌, [], ◌++◌, rules, sym, ap, subst, ◌∙◌, append_assoc, append-nil}
use Rattle.smap_mappings.specs.Order.{IsInOrder}
use Rattle.smap_index.specs.Parts.{joined}
use Rattle.smap_mappings.specs.Laws.Order.{tail_in_order}
use Rattle.smap_printing.specs.Mappings.{mappings_text, printed_mappings}
use Rattle.smap_printing.specs.Private.GatheredLine.{Gathers, gathers_both, gathers_none}
use Rattle.smap_printing.proofs.PrintedLaws.{none_past, printed_first}
use Rattle.smap_printing.proofs.PutLaws.{gathers_more}
use Rattle.smap_printing.proofs.mappings.gather_mappings.Goals as goal

pub loop-mapping-init : goal.loop-mapping-init
loop-mapping-init g c =
    let list : c.into_iter-mapping-iterator.result ≡ joined c.args.map.now.stated.parts = search rules in
    let ordered : IsInOrder (joined c.args.map.now.stated.parts) = c.mappings-mapping-items.ensures.ordered in
    record {
      can = tt;
      finite = tt;
      ordered = subst IsInOrder (sym list) ordered;
      kept = tt;
      put = ([], gathers_none g.W.ByteSink.seen _, ap (printed_mappings c.args.options.form c.args.options.line c.args.map.now.stated) (sym list));
    }

pub returns-then-is_past_line : goal.returns-then-is_past_line
unfolding mappings_text
returns-then-is_past_line g c =
    let lines = printed_mappings c.args.options.form c.args.options.line c.args.map.now.stated in
    let so_far = c.loop-mapping.invariant in
    let none = none_past c.args.options.form c.args.options.line c.args.map.now.stated c.args.options.line c.in-Some.mapping _
    (sym c.is_past_line.ensures ∙ c.if-is_past_line.true) (subst IsInOrder c.in-Some.ensures.steps so_far.ordered) in
    subst (λ l. Gathers g.W.ByteSink.seen c.args.lines.now c.loop-mapping.lines l)
    (sym (so_far.put.2 ∙ ap (λ l. so_far.put.0 ++ lines l) c.in-Some.ensures.steps ∙ ap (λ l. so_far.put.0 ++ l) none ∙ append-nil so_far.put.0))
    so_far.put.1

pub returns-then-is_err : goal.returns-then-is_err
unfolding mappings_text
returns-then-is_err g c =
    let lines = printed_mappings c.args.options.form c.args.options.line c.args.map.now.stated in
    let so_far = c.loop-mapping.invariant in
    subst (λ l. Gathers g.W.ByteSink.seen c.args.lines.now c.loop-mapping.lines l) (sym so_far.put.2)
    (gathers_more g.W.ByteSink.seen _ _ so_far.put.0 (lines c.loop-mapping.mapping-iterator) (sym c.is_err.ensures.value ∙ c.if-is_err.true) so_far.put.1)

pub keep_source-requires : goal.keep_source-requires
keep_source-requires g c = c.loop-mapping.invariant.kept

pub put_asked-requires : goal.put_asked-requires
put_asked-requires g c = c.keep_source.ensures

pub loop-mapping-preserved : goal.loop-mapping-preserved
loop-mapping-preserved g c =
    let so_far = c.loop-mapping.invariant in
    let lines = printed_mappings c.args.options.form c.args.options.line c.args.map.now.stated in
    let front = so_far.put.0 in
    let first = printed_first c.args.options.form c.args.options.line c.args.map.now.stated c.in-Some.mapping _ in
    record {
      can = tt;
      finite = tt;
      ordered = tail_in_order c.in-Some.mapping _ (subst IsInOrder c.in-Some.ensures.steps so_far.ordered);
      kept = c.keep_source.ensures;
      put = (
        _,
        gathers_both g.W.ByteSink.seen _ _ _ _ _ so_far.put.1 c.put_asked.ensures,
        so_far.put.2 ∙ ap (λ l. front ++ lines l) c.in-Some.ensures.steps ∙ ap (λ l. front ++ l) first ∙ sym (append_assoc front _ _),
      );
    }

pub returns : goal.returns
unfolding mappings_text
returns g c =
    let so_far = c.loop-mapping.invariant in
    let lines = printed_mappings c.args.options.form c.args.options.line c.args.map.now.stated in
    subst (λ l. Gathers g.W.ByteSink.seen c.args.lines.now c.loop-mapping.lines l)
    (sym (so_far.put.2 ∙ ap (λ l. so_far.put.0 ++ lines l) c.in-None.ensures.steps.0 ∙ append-nil so_far.put.0))
    so_far.put.1
