use Rattle.std.proofs.Common.{◌≡◌, ap, refl, rules}
use Rattle.smap_text_answers.specs.Loader.{loader_seen}
use Rattle.smap_text_answers.specs.StoreRun.{store_of}
use Rattle.smap_text_answers.proofs.StoreLaws.{untouched_by}
use Rattle.smap_text_answers.proofs.storing.over_store.Goals as goal

pub returns-clause-over : goal.returns-clause-over
returns-clause-over g c =
    let made = c.run-result in
    let first = c.new-loader.ensures in
    let errors : c.errors-1.given.0 ≡ made.new.loader.errors.now = search rules in
    record {
      last = store_of c.args.run.now.sources.now made.new.cache (loader_seen g.E.ByteSink.seen made.new.loader);
      whole = rw (first.seen, first.maps, first.paths, first.number, first.fit, c.new-cache.ensures) at made.ensures.ends.whole;
      front = rw (first.seen, first.maps, first.paths, first.number, first.fit, c.new-cache.ensures) at made.ensures.ends.front;
      looked = rw (first.seen, first.maps, first.paths, first.number, first.fit, c.new-cache.ensures) at made.ensures.looked;
      errors = ap g.E.ByteSink.seen errors;
      code = refl;
      input_failed = made.ensures.ends.input_failure;
      untouched = λ memory. (
        ap g.R.ByteSource.seen (untouched_by made.result _ made.ensures.ends.memory_input memory),
        ap g.W.ByteSink.seen (untouched_by made.result _ made.ensures.ends.memory_output memory),
      );
      status = refl;
      present_status = refl;
      maps = rw (c.read.ensures, c.count.ensures) at c.saturating_add.ensures;
      missing = rw (c.missing.ensures) at c.saturating_sub.ensures;
      refused = refl;
      lost = refl;
      told = search rules;
      shortages = c.shortages.ensures;
    }

pub returns-clause-output_failure : goal.returns-clause-output_failure
returns-clause-output_failure g c = c.run-result.ensures.ends.output_failure
