-- Steps of a rewriting of frames.
use Rattle.std.proofs.Common.{◌≡◌, ◌==◌, ◌≤◌, ◌||◌, ℕ, arith, Bool, true, false, List, ◌∷◌, ◌++◌, Option, Some, None, drop, take, sym, ap, subst, ◌∙◌}
use Rattle.std.proofs.Math.Bool.{or-true}
use Rattle.std.proofs.lemmas.List.Folds.{list_any-append}
use Rattle.std.specs.Prelude.{MatchOption, option_map}
use Rattle.smap_lines.specs.Lines.{Line, end_in, has_line_end}
use Rattle.smap_trace.specs.Frame.{FrameParts}
use Rattle.smap_trace.specs.FrameOf.{frame_of}
use Rattle.smap_trace.specs.Hiding.{HidingSeen}
use Rattle.smap_piecewise.specs.Frames.{FramesNow, GoesOn, IsBeforeUnknown}
use Rattle.smap_piecewise.specs.Known.{NamedKnown}
use Rattle.smap_piecewise.specs.Private.Frames.{IsWithin, Steps, frames_seen}
use Rattle.smap_piecewise.specs.Private.Given.{IsFirstLine, line_size}
use Rattle.smap_piecewise.specs.Private.PutLine.{IsLinePut, IsUnknown}
use Rattle.smap_piecewise.specs.declared.frames.Frames.{Frames}
use Rattle.smap_piecewise.specs.declared.given.FirstLine.{FirstLine}
use Rattle.smap_piecewise.specs.declared.put_line.LineKind.{LineKind}
use Rattle.smap_piecewise.proofs.FramesLaws.{goes_nowhere, goes_twice}
use Rattle.smap_piecewise.proofs.GivenLaws.{first_is}

pub steps_seen : (known : NamedKnown) (old new : Frames) → frames_seen new ≡ frames_seen old → Steps known old new
steps_seen known old new is = record {
  goes = subst (λ (n : FramesNow). GoesOn known (frames_seen old) n) (sym is) (goes_nowhere known (frames_seen old));
  within = λ size within. subst (λ (n : FramesNow). IsWithin size n) (sym is) within;
}

pub steps_twice : (known : NamedKnown) (old mid new : Frames) → Steps known old mid → Steps known mid new → Steps known old new
steps_twice known old mid new first second = record {
  goes = goes_twice known (frames_seen old) (frames_seen mid) (frames_seen new) first.goes second.goes;
  within = λ size within. second.within size (first.within size within);
}

ended_has : (line rest text : List ℕ) → text ≡ line ++ 10 ∷ rest → has_line_end text ≡ true
ended_has line rest text is = ap has_line_end is ∙ list_any-append (λ byte. byte == 10) line (10 ∷ rest) ∙ or-true (has_line_end line)

decided_by : (e over : Bool) (line rest text : List ℕ) → text ≡ line ++ (end_in e ++ rest) → (e || over) ≡ true → (has_line_end text || over) ≡ true
decided_by true over line rest text is either = ap (λ b. b || over) (ended_has line rest text is)
decided_by false over line rest text is either = ap (λ b. has_line_end text || b) either ∙ or-true (has_line_end text)

-- where it stops before a frame of whose URL it is not known what map it has
pub before_unknown : (known : NamedKnown) (now : FramesNow) (line : FirstLine) (old new : List ℕ) → IsFirstLine now.left line
    → IsUnknown known (frame_of (take line.bytes now.left)) old new → now.is_passing ≡ false → (line.is_ended || now.is_ended) ≡ true
    → IsBeforeUnknown known now
before_unknown known now line old new first unknown anew decided = record {
  url = unknown.frame.url;
  next = ap (option_map (λ (parts : FrameParts). parts.url)) (ap frame_of (sym (first_is now.left line first)) ∙ unknown.is);
  unknown = unknown.unknown;
  anew = anew;
  decided = decided_by line.is_ended now.is_ended (take line.bytes now.left) (drop (line_size line) now.left) now.left first.joined decided;
}

-- ---- what putting a line comes to

pub steps_output : (known : NamedKnown) (old new : Frames) → new.output.items ≡ old.output.items → frames_seen new ≡ record (frames_seen old) { output = new.output.items }
    → Steps known old new
steps_output known old new output is = steps_seen known old new (is ∙ (λ i. record (frames_seen old) { output = output i }))

pub put_none : (known : NamedKnown) (hide : HidingSeen) (line : Line) (old new : List ℕ) (put : Option LineKind) → put ≡ None
    → MatchOption put (IsUnknown known (frame_of line.bytes) old new) (IsLinePut known hide line old new) → IsUnknown known (frame_of line.bytes) old new
put_none known hide line old new put is match =
    subst (λ (o : Option LineKind). MatchOption o (IsUnknown known (frame_of line.bytes) old new) (IsLinePut known hide line old new)) is match

pub put_some : (known : NamedKnown) (hide : HidingSeen) (line : Line) (old new : List ℕ) (put : Option LineKind) (kind : LineKind) → put ≡ Some kind
    → MatchOption put (IsUnknown known (frame_of line.bytes) old new) (IsLinePut known hide line old new) → IsLinePut known hide line old new kind
put_some known hide line old new put kind is match =
    subst (λ (o : Option LineKind). MatchOption o (IsUnknown known (frame_of line.bytes) old new) (IsLinePut known hide line old new)) is match

-- within a larger bound
pub within_more : (size more : ℕ) (now : FramesNow) → IsWithin size now → size ≤ more → IsWithin more now
within_more size more now within few = record {
  lines = omega (arith, within.lines, few);
  frames = omega (arith, within.frames, few);
  mapped = omega (arith, within.mapped, few);
  hidden = omega (arith, within.hidden, few);
}
