-- What was read and written, from how far the editing has come.
use Rattle.std.proofs.Common.{◌≡◌, ◌+◌, ◌<◌, ◌≤◌, ℕ, Bool, true, false, cond, List, [], ◌++◌, Option, Some, None, length, length-append, refl, sym}
use Rattle.std.proofs.Common.{ap, ◌∙◌, arith, append_assoc, append-nil, subst}
use mir.Val.{bool_byte}
use Rattle.std.specs.Io.KnownBytes.{prepend_known}
use Rattle.smap_io.specs.Device.{Gives}
use Rattle.smap_lines.specs.Editing.{DevicesSeen, EditsFrontInto}
use Rattle.smap_lines.specs.Edited.{IsEdited}
use Rattle.smap_lines.specs.Lines.{Line}
use Rattle.smap_lines.specs.Private.Passage.{IsThrough, Now, TakesEditedFront}
use Rattle.smap_lines.specs.declared.fault.LineFault.TheVariants.{Read, Write, TooMuch}
use Rattle.smap_lines.proofs.ThroughLaws.{through_ahead, through_read, through_whole}

pub gives_both : (old mid new : Option (List ℕ)) (first second : List ℕ) → Gives old mid first → Gives mid new second → Gives old new (first ++ second)
gives_both old mid None first second p q = p ∙ ap (prepend_known first) q
gives_both old mid (Some bytes) first second p q = p ∙ ap (prepend_known first) q ∙ ap Some (sym (append_assoc first second bytes))

-- a `bool` as a number
pub byte_is : (b : Bool) → bool_byte b ≡ cond b 1 0
byte_is true = refl
byte_is false = refl

pub byte_few : (b : Bool) → bool_byte b ≤ 1
byte_few true = omega arith
byte_few false = omega arith

-- a write failed
pub write_fails : (Becomes : Line → List ℕ → Type 0) (most : ℕ) (before after : DevicesSeen) (bytes : List ℕ) → length bytes ≤ most
    → Gives before.input.left after.input.left bytes
    → TakesEditedFront Becomes before.output.taken after.output.taken bytes → EditsFrontInto Becomes most before after Write
write_fails Becomes most before after bytes fits gives took = record {
  bytes = bytes;
  written = took.front.0;
  later = took.front.1;
  read = gives;
  taken = took.front.3;
  front = subst (λ l. IsEdited Becomes bytes l) took.front.2 took.edited;
  many = (λ e. absurd (cc), λ less. absurd (omega (arith, less, fits)));
  whole = λ e. absurd (cc);
}

module _ (E : Type 0) (Becomes : E → Line → List ℕ → Type 0) (Steps : E → Line → List ℕ → E → Type 0) (room : E → ℕ)
    (became : (editor after : E) (line : Line) (text : List ℕ) → Steps editor line text after → Becomes editor line text)
    (same : (editor after : E) (line other : Line) (text later : List ℕ) → Steps editor line text after → Becomes after other later
    → Becomes editor other later)
    (room_for_one : (editor after : E) (line : Line) (text : List ℕ) → Steps editor line text after → room editor ≤ room after + 1)
    (some : (editor : E) (line : Line) → (text : List ℕ) × Becomes editor line text)
    (first : E) (most : ℕ) (before after : DevicesSeen) (bytes : List ℕ) (now : Now E) where
  -- a read failed, where nothing waits
  pub read_fails : length bytes ≤ most → IsThrough Becomes Steps room first before.output.taken bytes now [] → now.waiting ≡ []
      → now.taken ≡ after.output.taken
      → Gives before.input.left after.input.left bytes →
      EditsFrontInto (Becomes first) most before after Read
  read_fails fits is none taken gives =
      let ahead = through_ahead E Becomes Steps room became same room_for_one some first before.output.taken bytes [] now is in record {
        bytes = bytes;
        written = is.written;
        later = ahead.0;
        read = gives;
        taken = sym taken ∙ is.taken;
        front = subst (λ l. IsEdited (Becomes first) bytes (l ++ ahead.0)) (ap (λ w. is.written ++ w) none ∙ append-nil is.written) ahead.1;
        many = (λ e. absurd (cc), λ less. absurd (omega (arith, less, fits)));
        whole = λ _ front rest bytes_is whole. through_whole E Becomes Steps room became same room_for_one some first before.output.taken bytes now is
            none front rest bytes_is whole;
      }

  -- too much came
  pub too_much : (more : List ℕ) → IsThrough Becomes Steps room first before.output.taken bytes now [] → now.taken ≡ after.output.taken
      → Gives before.input.left after.input.left (bytes ++ more) →
      most < length bytes + length more → EditsFrontInto (Becomes first) most before after TooMuch
  too_much more is taken gives many =
      let on = through_read E Becomes Steps room became same room_for_one some first before.output.taken bytes more now is in
      let ahead = through_ahead E Becomes Steps room became same room_for_one some first before.output.taken (bytes ++ more) more now on in record {
        bytes = bytes ++ more;
        written = on.written;
        later = now.waiting ++ ahead.0;
        read = gives;
        taken = sym taken ∙ on.taken;
        front = subst (λ l. IsEdited (Becomes first) (bytes ++ more) l) (append_assoc on.written now.waiting ahead.0) ahead.1;
        many = (λ _. omega (arith, many, length-append bytes more), λ _. refl);
        whole = λ e. absurd (cc);
      }
