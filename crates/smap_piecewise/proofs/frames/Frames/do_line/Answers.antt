use Rattle.std.proofs.Common.{◌≡◌, ◌<◌, ap, arith, drop, length, refl, subst, sym, take, ◌∙◌}
use Rattle.smap_piecewise.specs.Frames.{FramesNow, IsTooLong}
use Rattle.smap_piecewise.specs.Known.{with_declared}
use Rattle.smap_piecewise.specs.Private.Given.{line_size}
use Rattle.smap_piecewise.specs.Private.Frames.{counts_with, frames_seen}
use Rattle.smap_piecewise.proofs.AppendLaws.{taken_back}
use Rattle.smap_piecewise.proofs.FramesLaws.{goes_line, within_line}
use Rattle.smap_piecewise.proofs.StepLaws.{before_unknown, put_none, put_some, steps_output}
use Rattle.smap_piecewise.proofs.WorkLaws.{too_long}
use Rattle.smap_piecewise.proofs.frames.Frames.do_line.Goals as goal

pub returns-in_default-clause-stops : goal.returns-in_default-clause-stops
returns-in_default-clause-stops g c =
    let put = rw (c.bytes.ensures, c.deref.ensures.value) at c.in_ok-put.ensures.put in
    before_unknown (with_declared (g.K.KnownMaps.known c.args.maps.now) (g.K.KnownMaps.declared c.args.maps.now)) _ c.args.first _ _ c.requires.line
    (put_none (with_declared (g.K.KnownMaps.known c.args.maps.now) (g.K.KnownMaps.declared c.args.maps.now)) _ _ _ _ c.in_ok-put.put c.in_default.is put) c.requires.anew c.requires.decided

pub returns-clause-goes : goal.returns-clause-goes
returns-clause-goes g c =
    let known = with_declared (g.K.KnownMaps.known c.args.maps.now) (g.K.KnownMaps.declared c.args.maps.now) in
    let old = frames_seen c.args.self.now in
    let put = rw (c.bytes.ensures, c.deref.ensures.value) at c.in_ok-put.ensures.put in
    let line = put_some known _ _ _ _ c.in_ok-put.put c.in-Some.kind c.in-Some.is put in
    let left = c.cut.ensures ∙ ap (λ n. drop n c.args.self.now.given) c.size.ensures in
    record {
      goes = goes_line known old _ c.args.first c.requires.line refl refl left c.in-Some.kind line c.requires.short c.requires.anew c.requires.anew
          c.requires.some c.requires.decided c.counts_with-self.ensures;
      within = within_line known old _ c.args.first c.requires.line refl refl left c.in-Some.kind line c.requires.short c.requires.anew c.requires.anew
          c.requires.some c.requires.decided c.counts_with-self.ensures;
    }

pub returns-then-len-limit-clause-goes : goal.returns-then-len-limit-clause-goes
returns-then-len-limit-clause-goes g c =
    let known = with_declared (g.K.KnownMaps.known c.args.maps.now) (g.K.KnownMaps.declared c.args.maps.now) in
    let put = rw (c.bytes.ensures, c.deref.ensures.value) at c.in_ok-put.ensures.put in
    let line = put_some known _ _ _ _ c.in_ok-put.put c.in-Some.kind c.in-Some.is put in
    let len : c.len-written.result ≡ length c.args.self.now.output.items = omega (arith, c.len-written.ensures, c.args.self.now.output.ok.0) in
    let items = c.truncate.ensures.items ∙ ap (λ n. take n c.put_line.new.output.items) len ∙ taken_back c.args.self.now.output.items _ _ line.text in
    steps_output known c.args.self.now _ items refl

pub returns-then-len-limit-clause-stops : goal.returns-then-len-limit-clause-stops
returns-then-len-limit-clause-stops g c =
    let known = with_declared (g.K.KnownMaps.known c.args.maps.now) (g.K.KnownMaps.declared c.args.maps.now) in
    let old : FramesNow = frames_seen c.args.self.now in
    let put = rw (c.bytes.ensures, c.deref.ensures.value) at c.in_ok-put.ensures.put in
    let line = put_some known _ _ _ _ c.in_ok-put.put c.in-Some.kind c.in-Some.is put in
    let len : c.len-written.result ≡ length c.args.self.now.output.items = omega (arith, c.len-written.ensures, c.args.self.now.output.ok.0) in
    let items = c.truncate.ensures.items ∙ ap (λ n. take n c.put_line.new.output.items) len ∙ taken_back c.args.self.now.output.items _ _ line.text in
    let long : c.args.limit < length c.put_line.new.output.items = omega (arith, c.if-len-limit.true, c.len.ensures, c.put_line.new.output.ok.0) in
    let new : FramesNow = record old {
      left = drop (line_size c.args.first) old.left;
      output = c.put_line.new.output.items;
      counts = counts_with old.counts c.in-Some.kind;
    } in
    let goes = goes_line known old new c.args.first c.requires.line refl refl refl c.in-Some.kind line c.requires.short c.requires.anew c.requires.anew
    c.requires.some c.requires.decided refl in
    subst (λ o. IsTooLong c.args.limit known (record old { output = o })) (sym items) (too_long known old new c.args.limit goes long)
