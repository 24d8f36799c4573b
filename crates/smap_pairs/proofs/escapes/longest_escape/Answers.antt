use Rattle.std.proofs.Common.{◌≡◌, ◌+◌, ◌-◌, Some, ap, arith, drop, length, length-drop, sym, take, ◌∙◌}
use Rattle.std.proofs.lemmas.List.{nil_from_length, take_rest}
use Rattle.smap_pairs.specs.Escapes.{escape_from}
use Rattle.smap_pairs.proofs.EscapesLaws.{ended_behind, goes_on_behind, longer, over}
use Rattle.smap_pairs.proofs.escapes.longest_escape.Goals as goal

pub loop-byte-preserved : goal.loop-byte-preserved
loop-byte-preserved c =
    let rest = c.loop-byte.rest.now in
    let ending = c.in-Some-ending_of.ending in
    let size = c.loop-byte.size in
    let is = c.in-Some-ending_of.ensures in
    let left : take (length rest - ending.size) (drop ending.size rest) ≡ drop ending.size rest = take_rest rest ending.size in
    record {
      parts = omega (arith, ap length left, length-drop ending.size rest, c.loop-byte.invariant.parts, is.within.1);
      found = (omega (arith, is.within.0), omega (arith, is.within.1, c.loop-byte.invariant.parts));
      rest = ap (escape_from (size + ending.size) 0 (Some (longer size ending))) left
          ∙ sym (goes_on_behind size c.loop-byte.found rest c.in-Some.byte.now c.in-Some.behind.now ending c.in-Some.ensures.cases.0 c.if-byte-eq92.false
          is.ending (c.if-ending-from.false ∙ c.from.ensures) is.within.0) ∙ c.loop-byte.invariant.rest;
    }

pub returns-then-ending-from-clause-escape : goal.returns-then-ending-from-clause-escape
returns-then-ending-from-clause-escape c =
    let ending = c.in-Some-ending_of.ending in
    let is = c.in-Some-ending_of.ensures in
    sym (ended_behind c.loop-byte.size c.loop-byte.found c.loop-byte.rest.now c.in-Some.byte.now c.in-Some.behind.now ending c.in-Some.ensures.cases.0
    c.if-byte-eq92.false is.ending (λ means. c.if-ending-from.true (means ∙ sym c.from.ensures))) ∙ c.loop-byte.invariant.rest

pub returns-clause-escape : goal.returns-clause-escape
returns-clause-escape c =
    sym (over c.loop-byte.size c.loop-byte.found)
    ∙ ap (escape_from c.loop-byte.size 0 c.loop-byte.found) (sym (nil_from_length c.loop-byte.rest.now c.in_default.ensures.cases)) ∙ c.loop-byte.invariant.rest
