use Rattle.std.proofs.Common.{◌≡◌, ◌+◌, ◌-◌, length, min, ap, ◌∙◌, arith, rules}
use Rattle.std.proofs.lemmas.Grind.{common_steps}
use Rattle.smap_record.specs.FileText.{json_text}
use Rattle.smap_explain.specs.Private.Stop.{place_told}
use Rattle.smap_explain.proofs.StopLaws.{follows_in_file, same_part, within_text}
use Rattle.smap_explain.proofs.stop.stop_of.Goals as goal

pub returns-clause-place : goal.returns-clause-place
returns-clause-place c =
    let text : c.json_text-text.result.now ≡ json_text c.args.bytes.now = c.json_text-text.ensures in
    let long : length c.json_text-text.result.now ≡ length (json_text c.args.bytes.now) = ap length text in
    let place : c.place_told-at.result ≡ place_told (json_text c.args.bytes.now) c.args.told =
    c.place_told-at.ensures.told ∙ ap (λ t. place_told t c.args.told) text in
    record {
      in_text = within_text c.args.bytes.now c.json_text-text.result.now c.place_told-at.result _ text place c.place_told-at.ensures.inside;
      in_file = omega arith;
      follows = follows_in_file c.args.bytes.now c.json_text-text.result.now c.place_told-at.result _ c.saturating_sub-byte.result text place
          c.place_told-at.ensures.inside (omega arith);
      line = first_of (search rules, grind (arith, common_steps));
      column = first_of (search rules, grind (arith, common_steps));
      before = c.in_ok-from_utf8_lossy.ensures.lossy
          ∙ same_part c.json_text-text.result.now (json_text c.args.bytes.now) c.saturating_sub.result
          (place_told (json_text c.args.bytes.now) c.args.told - 20) c.place_told-at.result (place_told (json_text c.args.bytes.now) c.args.told)
          text (omega arith) place;
      after = c.in_ok-from_utf8_lossy-2.ensures.lossy
          ∙ same_part c.json_text-text.result.now (json_text c.args.bytes.now) c.place_told-at.result
          (place_told (json_text c.args.bytes.now) c.args.told) c.min.result
          (min (place_told (json_text c.args.bytes.now) c.args.told + 20) (length (json_text c.args.bytes.now)))
          text place (first_of (omega arith, grind arith));
    }
