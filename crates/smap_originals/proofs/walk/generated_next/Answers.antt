use Rattle.std.proofs.Common.{sym, ◌∙◌}
use Rattle.smap_index.specs.Parts.{joined}
use Rattle.smap_originals.proofs.WalkLaws.{walked_all, walked_passed, walked_taken}
use Rattle.smap_originals.proofs.walk.generated_next.Goals as goal

pub loop-mapping-preserved-in-Continue-1 : goal.loop-mapping-preserved-in-Continue-1
loop-mapping-preserved-in-Continue-1 c = record {
  can = tt;
  finite = tt;
  walked = walked_taken c.args.asked.now.direction c.args.asked.now.source c.args.asked.now.line c.args.asked.now.column c.in-Some.mapping c.next.new.self
      (joined c.args.map.now.stated.parts) c.loop-mapping.nearest c.add.new.self c.loop-mapping.mapping-iterator c.in-Some.ensures.steps
      c.loop-mapping.invariant.walked (sym c.is_asked.ensures ∙ c.if-is_asked.true)
      (λ mappings nearest. c.in_ok-add.ensures mappings nearest);
}

pub loop-mapping-preserved : goal.loop-mapping-preserved
loop-mapping-preserved c = record {
  can = tt;
  finite = tt;
  walked = walked_passed c.args.asked.now.direction c.args.asked.now.source c.args.asked.now.line c.args.asked.now.column c.in-Some.mapping c.next.new.self
      (joined c.args.map.now.stated.parts) c.loop-mapping.nearest c.loop-mapping.nearest c.loop-mapping.mapping-iterator c.in-Some.ensures.steps
      c.loop-mapping.invariant.walked (sym c.is_asked.ensures ∙ c.if-is_asked.false);
}

pub returns : goal.returns
returns c =
    walked_all c.args.asked.now.direction c.args.asked.now.source c.args.asked.now.line c.args.asked.now.column c.loop-mapping.mapping-iterator
    (joined c.args.map.now.stated.parts) c.loop-mapping.nearest c.in-None.ensures.steps.0 c.loop-mapping.invariant.walked
