use Rattle.std.proofs.Common.{refl, rules, arith, ◌∙◌, inl}
use Rattle.smap_replies.specs.Outcome.{report_of}
use Rattle.smap_map_answers.proofs.RawLaws.{raw_input, raw_of_failure, raw_of_input, some_input}
use Rattle.smap_map_answers.proofs.raw.answer_raw.Goals as goal

pub returns-in-Ok : goal.returns-in-Ok
returns-in-Ok g c output =
    let read = raw_input (g.R.ByteSource.seen c.args.input.now).left (g.R.ByteSource.seen c.read_all.new.input).left c.in-Ok.bytes.items
    c.args.line c.args.column c.in-Ok.ensures.gives
    (omega (arith, c.in-Ok.ensures.fits)) (λ less. c.in-Ok.ensures.whole (omega arith)) in
    record {
      input = read.0;
      is_input = read.1;
      unwritten = refl;
      is_report = raw_of_input c.args.line c.args.column read.0 _ (report_of c.answer_mappings_text.result) (c.in-Ok.ensures.no_failure ∙ c.requires.input_works)
          (rw (← read.2) c.answer_mappings_text.ensures);
    }

pub returns-in-Err-Device : goal.returns-in-Err-Device
returns-in-Err-Device g c output =
    let input = some_input (g.R.ByteSource.seen c.args.input.now).left in
    record {
      input = input.0;
      is_input = input.1;
      unwritten = refl;
      is_report = raw_of_failure c.args.line c.args.column input.0 _ (c.in-Err-Device.ensures.device (search rules));
    }

pub returns-in-Err-Memory : goal.returns-in-Err-Memory
returns-in-Err-Memory g c output =
    let input = some_input (g.R.ByteSource.seen c.args.input.now).left in
    record {
      input = input.0;
      is_input = input.1;
      unwritten = refl;
      is_report = raw_of_input c.args.line c.args.column input.0 _ _ (c.in-Err-Memory.ensures.memory (search rules) ∙ c.requires.input_works) (inl refl);
    }
