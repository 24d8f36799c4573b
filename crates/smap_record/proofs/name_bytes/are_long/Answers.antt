use Rattle.std.proofs.Common.{◌<◌, ◌≤◌, arith, length, sym}
use Rattle.std.specs.Prelude.{option_copied}
use Rattle.std.proofs.lemmas.Bool.{le-ltb, lt-ltb}
use Rattle.smap_record.specs.NameBytes.{section_name_bytes}
use Rattle.smap_record.specs.Private.Seen.{sources_seen}
use Rattle.smap_record.proofs.NameLaws.{all_names, enough_for_all, one_less, too_few}
use Rattle.smap_record.proofs.name_bytes.are_long.Goals as goal

pub returns-in-None : goal.returns-in-None
returns-in-None c =
    let sections = c.args.sections.now in
    let at = c.loop-section in
    let total = all_names (option_copied c.args.base) c.base_bytes-base.result sections c.base_bytes-base.ensures in
    let within : at.section-index < length sections = omega (arith, c.loop-section-test.true, at.auto.section-index-end) in
    sym (lt-ltb c.args.most _ (omega (
      arith,
      total,
      too_few (λ section. section_name_bytes c.base_bytes-base.result (sources_seen section)) sections at.section-index at.left c.args.most at.invariant
          c.section-item.result within c.section-item.is (c.left_behind.ensures.few c.in-None.is),
    )))

pub loop-section-preserved : goal.loop-section-preserved
loop-section-preserved c =
    let sections = c.args.sections.now in
    let at = c.loop-section in
    let within : at.section-index < length sections = omega (arith, c.loop-section-test.true, at.auto.section-index-end) in
    one_less (λ section. section_name_bytes c.base_bytes-base.result (sources_seen section)) sections at.section-index at.left c.args.most at.invariant
    c.section-item.result c.in-Some.rest within c.section-item.is c.in-Some.ensures.enough

pub returns : goal.returns
returns c =
    let sections = c.args.sections.now in
    let at = c.loop-section in
    let total = all_names (option_copied c.args.base) c.base_bytes-base.result sections c.base_bytes-base.ensures in
    let none : length sections ≤ at.section-index = omega (arith, c.loop-section-test.false, at.auto.section-index-end) in
    sym (le-ltb c.args.most _ (omega (
      arith,
      total,
      enough_for_all (λ section. section_name_bytes c.base_bytes-base.result (sources_seen section)) sections at.section-index at.left c.args.most at.invariant
          none,
    )))
