use Rattle.std.proofs.Common.{◌≡◌, ◌+◌, ◌<◌, ℕ, Bool, true, false, cond, Option, Some, List, ap, arith, refl, subst, ◌∙◌}
use Rattle.std.specs.Prelude.{Err, IsErrAnd, Ok, Result, is_some}
use mir.Val.{bool_byte}
use Rattle.smap_io.specs.Device.{SinkSeen}
use Rattle.smap_io.specs.declared.device.DeviceFault.{DeviceFault}
use Rattle.smap_lines.specs.LineOutput.{FailsToPut, IsOnePut}
use Rattle.smap_lines.specs.declared.line_output.LineOutput.{LineOutput}
use Rattle.smap_lines.specs.Lines.{Line}
use Rattle.smap_trace.specs.Frame.{FrameParts}
use Rattle.smap_trace.specs.FrameOf.{frame_of}
use Rattle.smap_trace.specs.FrameSeen.{parts_seen}
use Rattle.smap_trace.specs.FunctionNames.{FunctionNames, with_head}
use Rattle.smap_trace.specs.HeadSeen.{head_seen}
use Rattle.smap_trace.specs.Hiding.{HidingSeen, hiding_seen}
use Rattle.smap_record.specs.Record.{MapRecord}
use Rattle.smap_trace.specs.Laws.Looked.{looked_one}
use Rattle.smap_trace.specs.Passed.{passed_beside, passed_of}
use Rattle.smap_trace.specs.Private.FrameRewriter.{IsLineNoted, IsNotedIf}
use Rattle.smap_trace.specs.Private.Passing.{passed_after}
use Rattle.smap_trace.specs.Rewriting.{RewriteAsked, asked_seen}
use Rattle.smap_trace.specs.UrlNotes.{NotesSeen, naming_with}
use Rattle.smap_trace.specs.Laws.Rewriter.{may_meet}
use Rattle.smap_trace.specs.Rewritten.{Fate, NamedStep, fate_at, line_after, original_in}
use Rattle.smap_trace.specs.SightSeen.{fate_seen}
use Rattle.smap_trace.proofs.frame_rewriter.FrameRewriterLineEditor.edit.Goals as goal

pub returns-in_err-put_sight-clause-reaches : goal.returns-in_err-put_sight-clause-reaches
returns-in_err-put_sight-clause-reaches g c = (looked_one g.M.Maps.Finds _ _ _ c.find_map.ensures.finds, refl, (refl, refl, refl))

pub returns-clause-reaches : goal.returns-clause-reaches
returns-clause-reaches g c = (looked_one g.M.Maps.Finds _ _ _ c.find_map.ensures.finds, c.passed_after-self-2.ensures.same, (refl, refl, refl))

abbrev one_if : Bool → ℕ
one_if b = cond b 1 0

byte_is : (b : Bool) → bool_byte b ≡ one_if b
byte_is true = refl
byte_is false = refl

fails_put : {W T : Type 0} (seen : W → SinkSeen) (old new : LineOutput W) (Allowed IsDone : List ℕ → Type 0) (result : Result T DeviceFault)
    (P : DeviceFault → Type 0) → IsErrAnd result P → ((text : List ℕ) × Allowed text × FailsToPut seen old new text)
    → IsOnePut seen old new Allowed IsDone result
fails_put seen old new Allowed IsDone (Ok done) P is fails = absurd is
fails_put seen old new Allowed IsDone (Err fault) P is fails = fails

sound_of : (b : Bool) (n : ℕ) → 0 < cond b n 0 → b ≡ true
sound_of true n some = refl
sound_of false n some = absurd (omega arith)

step_of : {M : Type 0} (Finds : M → (url : List ℕ) → M → Type 0) (found : M → (url : List ℕ) → Option MapRecord)
    (names : M → (url : List ℕ) → Option FunctionNames) (hide : HidingSeen) (old new : M) (parts : FrameParts) (line : Option FrameParts) (met : Fate)
    → Some parts ≡ line → NamedStep Finds found names hide old (Some parts) met new → NamedStep Finds found names hide old line met new
step_of Finds found names hide old new parts line met is step = subst (λ o. NamedStep Finds found names hide old o met new) is step

noted_of : (asked : RewriteAsked) (found : (url : List ℕ) → Option MapRecord) (parts : FrameParts) (line : Option FrameParts) (has_map : Bool) (met : Fate)
    (old new : NotesSeen) → Some parts ≡ line → has_map ≡ is_some (found parts.url) → met ≡ fate_at asked.hide parts (original_in parts (found parts.url))
    → IsNotedIf asked.is_noted (naming_with parts has_map met) old new → IsLineNoted asked found line old new
noted_of asked found parts line has_map met old new is has met_is noted =
    let Q : Bool × Fate → Type 0 = λ b. IsNotedIf asked.is_noted (naming_with parts b.0 b.1) old new in
    let both : ◌≡◌ {A = Bool × Fate} (has_map, met) (is_some (found parts.url), fate_at asked.hide parts (original_in parts (found parts.url))) =
    λ i. (has i, met_is i) in
    subst (λ o. IsLineNoted asked found o old new) is (subst Q both noted)

pub returns-in_err-put_sight-clause-put : goal.returns-in_err-put_sight-clause-put
returns-in_err-put_sight-clause-put g c =
    let parts = parts_seen c.in-Some.frame in
    let line : Line = record { bytes = c.args.line.now; is_ended = c.args.is_ended } in
    let met = fate_seen (with_head (head_seen c.look_named-has_map.result.2) parts) c.look_named-has_map.result.1 in
    let hide = hiding_seen c.args.self.now.options.now.hiding in
    let sound = c.find_map.ensures.right (sound_of _ _ c.requires.room) in
    let step = step_of g.M.Maps.Finds g.M.Maps.found g.M.Maps.names hide _ _ parts (frame_of c.args.line.now) met c.in-Some.ensures
    (c.find_map.ensures.finds, c.look_named-has_map.ensures.named sound) in
    let may = may_meet g.M.Maps.Gives g.M.Maps.GivesNames g.M.Maps.names_any g.M.Maps.Finds g.M.Maps.found g.M.Maps.names g.P.PlaceCounter.count
    g.met.M.Maps.given g.met.M.Maps.given_names g.met.M.Maps.unnamed g.M.Maps.names_any refl hide _ _ (frame_of c.args.line.now) met step in
    fails_put _ _ _ _ _ _ _ c.from_residual-in_err-put_sight.ensures.1 (line_after line met, (met, may, refl), c.in_err-put_sight.ensures)

pub returns-clause-put : goal.returns-clause-put
returns-clause-put g c =
    let parts = parts_seen c.in-Some.frame in
    let line : Line = record { bytes = c.args.line.now; is_ended = c.args.is_ended } in
    let named_parts = with_head (head_seen c.look_named-has_map.result.2) parts in
    let met = fate_seen named_parts c.look_named-has_map.result.1 in
    let hide = hiding_seen c.args.self.now.options.now.hiding in
    let sound = c.find_map.ensures.right (sound_of _ _ c.requires.room) in
    let here = c.in-Some.ensures in
    let found = g.M.Maps.found c.find_map.new.maps in
    let count = g.P.PlaceCounter.count c.args.self.now.places.now in
    let most = c.args.self.now.options.now.most_passed in
    let was = c.args.self.now.passed in (
      line_after line met,
      record {
        met = met;
        step = step_of g.M.Maps.Finds g.M.Maps.found g.M.Maps.names hide _ _ parts (frame_of c.args.line.now) met here
            (c.find_map.ensures.finds, c.look_named-has_map.ensures.named sound);
        text_is = refl;
        frames = ap (λ o. c.args.self.now.frames + cond (is_some o) 1 0) here;
        mapped = ap (λ n. c.args.self.now.mapped + n) (c.from.ensures ∙ byte_is c.is_mapped.result ∙ ap one_if (c.is_mapped.ensures named_parts));
        hiding = ap (λ n. c.args.self.now.hidden + n) (c.from-2.ensures ∙ byte_is c.is_hidden.result ∙ ap one_if (c.is_hidden.ensures named_parts));
        passed = c.passed_after-self-2.ensures.passed
            ∙ ap (λ b. passed_after most was (passed_beside count (Some parts.url) b c.args.line.now)) c.look_named-has_map.ensures.has_map
            ∙ ap (λ o. passed_after most was (passed_of count found o c.args.line.now)) here;
        noted = noted_of (asked_seen count c.args.self.now.options.now) found parts (frame_of c.args.line.now) _ _ _ _ here
            c.look_named-has_map.ensures.has_map (c.look_named-has_map.ensures.sight sound) c.note_if.ensures;
        text_is_noted = c.text_noted-self-2.ensures;
        options = refl;
        counter = c.passed_after-self-2.ensures.same;
        same = (refl, refl, refl);
        sound = λ was_sound. c.look_named-has_map.ensures.right (c.find_map.ensures.right was_sound);
      },
      c.in_ok-put_sight.ensures,
    )
