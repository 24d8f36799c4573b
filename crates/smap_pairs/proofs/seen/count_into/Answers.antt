use Rattle.std.proofs.Common.{◌≡◌, ◌++◌, [], ap, arith, length, length-append, sym, ◌∙◌}
use Rattle.std.proofs.lemmas.Bool.{eqb-true}
use Rattle.std.proofs.lemmas.List.{append-nil, nil_from_length}
use Rattle.smap_pairs.specs.Signs.{text_of}
use Rattle.smap_pairs.proofs.SeenLaws.{all_added, run_added, token_added}
use Rattle.smap_pairs.proofs.StandLaws.{run_line, token_line}
use Rattle.smap_pairs.proofs.seen.count_into.Goals as goal

pub loop-behind-preserved : goal.loop-behind-preserved
loop-behind-preserved c =
    let token = c.token_of-token.ensures in
    let behind = c.split_at.result.1.now in
    let counted =
    run_added c.loop-behind.seen.items c.push_run.new.seen.items c.loop-behind.rest.now c.split_at.result.0.now c.split_at.result.1.now
    c.bytes_by_themselves.result c.bytes_by_themselves.ensures.bytes c.split_at.ensures.front c.split_at.ensures.back c.push_run.ensures.added
    ∙ c.loop-behind.invariant.counted in
    let stands =
    run_line c.loop-behind.seen.items c.push_run.new.seen.items c.loop-behind.rest.now c.split_at.result.0.now c.split_at.result.1.now
    c.bytes_by_themselves.result c.push_run.ensures.added c.split_at.ensures.front c.split_at.ensures.back
    ∙ c.loop-behind.invariant.stands in
    record {
      counted = token_added c.push_run.new.seen.items c.push_token.new.seen.items behind c.token_of-token.result c.token_size.result
          c.split_at-in-loop-behind.result.1.now (omega (arith, token.some, token.within)) token.token token.some c.token_size.ensures
          c.split_at-in-loop-behind.ensures.back c.in_ok-push_token.ensures.added ∙ counted;
      stands = token_line c.push_run.new.seen.items c.push_token.new.seen.items behind c.split_at-in-loop-behind.result.1.now c.args.line.now
          c.token_of-token.result c.token_size.result c.in_ok-push_token.ensures.added token.some token.within c.token_size.ensures
          c.split_at-in-loop-behind.ensures.back stands;
      one_a_byte = omega (
        arith,
        c.in_ok-push_token.ensures.size,
        c.split_at-in-loop-behind.ensures.back_len,
        c.token_size.ensures,
        c.push_run.ensures.size,
        c.split_at.ensures.front_len,
        c.split_at.ensures.back_len,
        c.loop-behind.invariant.one_a_byte,
      );
      spare = omega (arith, c.loop-behind.invariant.spare, c.push_run.ensures.capacity, c.in_ok-push_token.ensures.capacity);
      capacity = omega (arith, c.loop-behind.invariant.capacity, c.push_run.ensures.capacity, c.in_ok-push_token.ensures.capacity);
    }

pub returns-then-is_empty-clause-counted : goal.returns-then-is_empty-clause-counted
returns-then-is_empty-clause-counted c =
    all_added c.push_run.new.seen.items c.split_at.result.1.now c.args.line.now
    (eqb-true (length c.split_at.result.1.now) 0 (sym c.is_empty.ensures ∙ c.if-is_empty.true))
    (run_added c.loop-behind.seen.items c.push_run.new.seen.items c.loop-behind.rest.now c.split_at.result.0.now c.split_at.result.1.now
    c.bytes_by_themselves.result c.bytes_by_themselves.ensures.bytes c.split_at.ensures.front c.split_at.ensures.back c.push_run.ensures.added
    ∙ c.loop-behind.invariant.counted)

pub returns-then-is_empty-clause-stands : goal.returns-then-is_empty-clause-stands
returns-then-is_empty-clause-stands c =
    let none = nil_from_length c.split_at.result.1.now (eqb-true (length c.split_at.result.1.now) 0 (sym c.is_empty.ensures ∙ c.if-is_empty.true)) in
    sym (append-nil (text_of c.push_run.new.seen.items)) ∙ ap (λ l. text_of c.push_run.new.seen.items ++ l) (sym none)
    ∙ run_line c.loop-behind.seen.items c.push_run.new.seen.items c.loop-behind.rest.now c.split_at.result.0.now c.split_at.result.1.now
    c.bytes_by_themselves.result c.push_run.ensures.added c.split_at.ensures.front c.split_at.ensures.back
    ∙ c.loop-behind.invariant.stands
