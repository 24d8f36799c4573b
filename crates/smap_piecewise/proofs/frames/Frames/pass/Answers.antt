use Rattle.std.proofs.Common.{◌+◌, ◌++◌, ◌<◌, ◌∙◌, ap, arith, cond, drop, length, length-append, length-take-le, refl, take}
use Rattle.std.specs.Prelude.{not}
use Rattle.smap_piecewise.specs.Frames.{FramesNow}
use Rattle.smap_piecewise.specs.Private.Frames.{frames_seen}
use Rattle.smap_piecewise.specs.Private.Given.{line_size}
use Rattle.smap_piecewise.proofs.FramesLaws.{goes_passed, within_passed}
use Rattle.smap_piecewise.proofs.StepLaws.{steps_output, steps_seen}
use Rattle.smap_piecewise.proofs.WorkLaws.{too_long}
use Rattle.smap_piecewise.proofs.frames.Frames.pass.Goals as goal

pub returns-in_err-extend_from_slice-clause-goes : goal.returns-in_err-extend_from_slice-clause-goes
returns-in_err-extend_from_slice-clause-goes c = λ known. steps_output known c.args.self.now _ c.in_err-extend_from_slice.ensures.items refl

pub returns-clause-goes : goal.returns-clause-goes
returns-clause-goes c =
    let old = frames_seen c.args.self.now in
    let size = c.size-size.ensures in
    let some : 0 < line_size c.args.line = omega (arith, size, c.if-size-eq0.false) in
    let left = c.cut.ensures ∙ ap (λ n. drop n c.args.self.now.given) size in
    let output = c.in_ok-extend_from_slice.ensures.items ∙ ap (λ l. old.output ++ take c.size-size.result l) c.bytes.ensures
    ∙ ap (λ n. old.output ++ take n c.args.self.now.given) size in
    λ known. record {
      goes = goes_passed known old _ c.args.line c.requires.line refl refl left c.requires.long some output refl c.lines_after-self.ensures refl refl refl;
      within = within_passed known old _ c.args.line c.requires.line refl refl left c.requires.long some output refl c.lines_after-self.ensures refl refl refl;
    }

pub returns-then-size-limit-clause-goes : goal.returns-then-size-limit-clause-goes
returns-then-size-limit-clause-goes c = λ known. steps_seen known c.args.self.now _ refl

pub returns-then-size-limit-clause-stops : goal.returns-then-size-limit-clause-stops
returns-then-size-limit-clause-stops c =
    let old : FramesNow = frames_seen c.args.self.now in
    let size = c.size-size.ensures in
    let some : 0 < line_size c.args.line = omega (arith, size, c.if-size-eq0.false) in
    let new : FramesNow = record old {
      left = drop (line_size c.args.line) old.left;
      is_passing = not c.args.line.is_ended;
      output = old.output ++ take (line_size c.args.line) old.left;
      counts = record old.counts { lines = old.counts.lines + cond old.is_passing 0 1 };
    } in
    let long : c.args.limit < length new.output = omega (
      arith,
      c.if-size-limit.true,
      c.requires.few,
      c.len.ensures,
      c.args.self.now.output.ok.0,
      size,
      length-append old.output (take (line_size c.args.line) old.left),
      length-take-le (line_size c.args.line) old.left c.requires.line.within,
    ) in
    λ known. too_long known old new c.args.limit
    (goes_passed known old new c.args.line c.requires.line refl refl refl c.requires.long some refl refl refl refl refl refl) long
