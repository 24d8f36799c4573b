use Rattle.std.proofs.Common.{◌∙◌, ◌++◌, [], ap, ap₂, subst, arith, length, sym, nat_eq, cond}
use Rattle.std.proofs.lemmas.List.{append-nil}
use Rattle.smap_declarations.specs.Declarations.{named_from}
use Rattle.smap_declarations.specs.Private.Found.{all_named}
use Rattle.smap_declarations.specs.Private.Open.{behind_brackets, others}
use Rattle.smap_declarations.specs.Private.Waiting.{AreWaiting, ended_from, ends_from, with_ends}
use Rattle.smap_declarations.specs.Walk.{start}
use Rattle.smap_declarations.specs.declared.walk.DeclarationPlace.{DeclarationPlace}
use Rattle.smap_declarations.proofs.BracketLaws.{past_byte}
use Rattle.smap_declarations.proofs.NamingLaws.{further}
use Rattle.smap_declarations.proofs.PassingLaws.{other_passed}
use Rattle.smap_declarations.proofs.StepLaws.{byte_step, found_here, word_step}
use Rattle.smap_declarations.proofs.naming.found_in.Goals as goal

pub loop-byte-preserved-then-begins_word : goal.loop-byte-preserved-then-begins_word
loop-byte-preserved-then-begins_word c =
    let past = c.past_word-walk.ensures in
    let place = c.loop-byte.walk.place in
    let rest = c.loop-byte.walk.rest.now in
    record {
      found = word_step c.args.map.now.stated c.loop-byte.walk.before c.past_word-walk.result.before place c.past_word-walk.result.place
          rest c.past_word-walk.result.rest.now c.loop-byte.level _ c.loop-byte.bodies c.push_if_some.new.bodies _ _ _ past
          c.in_ok-push_if_some.ensures.order
          (c.in_ok-push_if_some.ensures.found (ends_from c.loop-byte.level place rest)
          ∙ ap (λ l. ended_from c.loop-byte.level place rest c.loop-byte.bodies (all_named c.loop-byte.found.items) ++ l) (found_here c.loop-byte.level place rest c.name_in-name.result _ c.name_in-name.ensures))
          c.loop-byte.invariant.found;
      order = c.in_ok-push_if_some.ensures.order;
      brackets = c.loop-byte.invariant.brackets ∙ sym past.brackets;
      level = omega (arith, past.shorter, c.loop-byte.invariant.level);
      line = omega (arith, past.line, c.loop-byte.invariant.line);
      column = omega (arith, past.column, c.loop-byte.invariant.column);
    }

pub loop-byte-preserved : goal.loop-byte-preserved
loop-byte-preserved c =
    let is = c.in-Some.ensures in
    let long = ap length is in
    let left = ap length c.past_byte-walk.ensures.rest in
    let far = further c.loop-byte.walk.place c.in-Some.byte c.in-Some.behind.now in
    let line = ap (λ p. p.line) c.past_byte-walk.ensures.place in
    let column = ap (λ p. p.column) c.past_byte-walk.ensures.place in
    record {
      found = ap (λ l. l ++ named_from c.args.map.now.stated c.past_byte-walk.result.before c.past_byte-walk.result.place c.past_byte-walk.result.rest.now)
          (byte_step c.loop-byte.walk.place c.past_byte-walk.result.place c.in-Some.byte c.in-Some.behind.now c.loop-byte.walk.rest.now
          c.past_byte-walk.result.rest.now c.loop-byte.level _ c.loop-byte.bodies _ _ _ is c.past_byte-walk.ensures.place c.past_byte-walk.ensures.rest
          c.pass-level.ensures.ended)
          ∙ ap (λ l. ended_from c.loop-byte.level c.loop-byte.walk.place c.loop-byte.walk.rest.now c.loop-byte.bodies (all_named c.loop-byte.found.items) ++ l)
          (other_passed c.args.map.now.stated c.loop-byte.walk.before c.past_byte-walk.result.before c.loop-byte.walk.place
          c.past_byte-walk.result.place c.in-Some.byte c.in-Some.behind.now c.loop-byte.walk.rest.now c.past_byte-walk.result.rest.now
          is (sym c.begins_word.ensures ∙ c.if-begins_word.false) c.past_byte-walk.ensures.before c.past_byte-walk.ensures.place
          c.past_byte-walk.ensures.rest)
          ∙ c.loop-byte.invariant.found;
      order = c.pass-level.ensures.order;
      brackets = c.pass.ensures
          ∙ ap (λ bs. cond (nat_eq c.in-Some.byte 0x28) (others bs) bs) (c.loop-byte.invariant.brackets ∙ ap behind_brackets is)
          ∙ past_byte c.in-Some.byte c.in-Some.behind.now
          ∙ sym (ap behind_brackets c.past_byte-walk.ensures.rest);
      level = omega (arith, long, left, c.pass-level.ensures.level, c.loop-byte.invariant.level);
      line = omega (arith, long, left, far.0, line, c.loop-byte.invariant.line);
      column = omega (arith, long, left, far.1, column, c.loop-byte.invariant.column);
    }

pub loop-byte-init : goal.loop-byte-init
unfolding AreWaiting with_ends
loop-byte-init c =
    let none = c.new-bodies.ensures in
    let found_none = c.new-found.ensures.items in
    let long = ap length c.start-walk.ensures.rest in
    let line = ap (λ (p : DeclarationPlace). p.line) c.start-walk.ensures.place in
    let column = ap (λ (p : DeclarationPlace). p.column) c.start-walk.ensures.place in
    record {
      found = ap₂ (λ b f. ended_from 0 c.start-walk.result.place c.start-walk.result.rest.now b (all_named f)
          ++ named_from c.args.map.now.stated c.start-walk.result.before c.start-walk.result.place c.start-walk.result.rest.now) none found_none
          ∙ ap (λ b. named_from c.args.map.now.stated b c.start-walk.result.place c.start-walk.result.rest.now) c.start-walk.ensures.before
          ∙ ap₂ (λ p r. named_from c.args.map.now.stated start p r) c.start-walk.ensures.place c.start-walk.ensures.rest;
      order = subst (AreWaiting 0 (length c.new-found.result.items)) (sym none) tt;
      brackets = c.in_ok-brackets.ensures ∙ sym (ap behind_brackets c.start-walk.ensures.rest);
      level = omega (arith, long);
      line = omega (arith, long, line);
      column = omega (arith, long, column);
    }

pub returns : goal.returns
unfolding named_from
returns c =
    c.end_all.ensures
    ∙ sym (append-nil (ended_from c.loop-byte.level c.loop-byte.walk.place [] c.loop-byte.bodies (all_named c.loop-byte.found.items)))
    ∙ ap (λ r. ended_from c.loop-byte.level c.loop-byte.walk.place r c.loop-byte.bodies (all_named c.loop-byte.found.items)
    ++ named_from c.args.map.now.stated c.loop-byte.walk.before c.loop-byte.walk.place r) (sym c.in_default.ensures)
    ∙ c.loop-byte.invariant.found
