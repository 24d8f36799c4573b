-- Laws of the editor that rewrites frames, which its trait asks for: a line takes room for one, and becomes what it may; and what
-- another may become after it, it may become before.
use Rattle.std.specs.Prelude.{◌≡◌, ◌≤◌, ◌+◌, ℕ, Bool, true, false, List, Option, Some, None, cond, refl}
use Rattle.std.proofs.Common.{ap, arith, subst, ◌∙◌}
use Rattle.smap_lines.specs.Lines.{Line}
use Rattle.smap_record.specs.Record.{MapRecord}
use Rattle.smap_trace.specs.Frame.{FrameParts}
use Rattle.smap_trace.specs.FrameOf.{frame_of}
use Rattle.smap_trace.specs.FunctionNames.{FunctionNames, named}
use Rattle.smap_trace.specs.Hiding.{HidingSeen, hiding_seen}
use Rattle.smap_trace.specs.Passed.{PlaceCount}
use Rattle.smap_trace.specs.Private.FrameRewriter.{RewriterBecomes, RewriterReaches, RewriterSteps, is_sound, room_of}
use Rattle.smap_trace.specs.Laws.Looked.{looked_both, looked_none}
use Rattle.smap_trace.specs.Rewritten.{Fate, NamedMeet, NamedStep, fate_at, is_frame_line, is_hidden, is_mapped, line_after, no_frame, original_in}
use Rattle.smap_trace.specs.declared.frame_rewriter.FrameRewriter.{FrameRewriter}

one_at_most : (is : Bool) → cond is 1 0 ≤ 1
one_at_most true = omega arith
one_at_most false = omega arith

-- room, if something holds
room_kept : (is : Bool) (old new : ℕ) → is ≡ true → old ≤ new + 1 → old ≤ cond is new 0 + 1
room_kept true old new holds few = few
room_kept false old new holds few = absurd (cc)

-- which stays so
room_left : (was is : Bool) (old new : ℕ) → (was ≡ true → is ≡ true) → old ≤ new + 1 → cond was old 0 ≤ cond is new 0 + 1
room_left true is old new keeps few = room_kept is old new (keeps refl) few
room_left false is old new keeps few = omega arith

-- how maps are looked for, what is found, and what names functions then; which maps and names a URL may have, and whether any has names
module _ {M P : Type 0} (Gives : M → (url : List ℕ) → Option MapRecord → Type 0)
    (GivesNames : M → (url : List ℕ) → Option MapRecord → Option FunctionNames → Type 0) (any : Bool) (Finds : M → (url : List ℕ) → M → Type 0)
    (found : M → (url : List ℕ) → Option MapRecord) (names : M → (url : List ℕ) → Option FunctionNames) (count : P → PlaceCount) where
  pub room_after : (rewriter after : FrameRewriter M P) (line : Line) (text : List ℕ) → RewriterSteps Finds found names count rewriter line text after
      → room_of found rewriter ≤ room_of found after + 1
  room_after rewriter after line text is =
      let frames = is.frames in let mapped = is.mapped in let hiding = is.hiding in
      room_left (is_sound found rewriter) (is_sound found after) _ _ is.sound
      (omega (arith, frames, mapped, hiding, one_at_most (is_frame_line line), one_at_most (is_mapped is.met), one_at_most (is_hidden is.met)))

  module _ (some : (maps : M) (url : List ℕ) → (stated : Option MapRecord) × Gives maps url stated)
      (some_names : (maps : M) (url : List ℕ) → (stated : Option MapRecord) × (written : Option FunctionNames) × GivesNames maps url stated written) where
    some_met : (b : Bool) (maps : M) (hide : HidingSeen) (parts : Option FrameParts)
        → (met : Fate) × NamedMeet (Gives maps) (GivesNames maps) b hide parts met
    some_met false maps hide None = (no_frame, refl)
    some_met false maps hide (Some parts) =
        let one = some maps parts.url in
        (fate_at hide parts (original_in parts one.0), (one.0, one.1, refl))
    some_met true maps hide None = (no_frame, refl)
    some_met true maps hide (Some parts) =
        let one = some_names maps parts.url in
        (fate_at hide (named one.1 parts) (original_in parts one.0), (one.0, one.1, one.2, refl))

    pub some_frame : (rewriter : FrameRewriter M P) (line : Line) → (text : List ℕ) × RewriterBecomes Gives GivesNames any rewriter line text
    some_frame rewriter line =
        let met = some_met any rewriter.maps.now (hiding_seen rewriter.options.now.hiding) (frame_of line.bytes) in
        (line_after line met.0, (met.0, met.1, refl))

  module _ (given : (maps after : M) (url : List ℕ) → Finds maps url after → Gives maps url (found after url))
      (given_names : (maps after : M) (url : List ℕ) → Finds maps url after → GivesNames maps url (found after url) (names after url))
      (unnamed : (maps : M) (url : List ℕ) → any ≡ false → names maps url ≡ None) where
    pub may_meet : (b : Bool) → any ≡ b → (hide : HidingSeen) (old new : M) (parts : Option FrameParts) (met : Fate)
        → NamedStep Finds found names hide old parts met new → NamedMeet (Gives old) (GivesNames old) b hide parts met
    may_meet false none hide old new None met step = step.0
    may_meet false none hide old new (Some parts) met step = (
      found new parts.url,
      given old new parts.url step.0,
      step.1 ∙ ap (λ n. fate_at hide (named n parts) (original_in parts (found new parts.url))) (unnamed new parts.url none),
    )
    may_meet true some hide old new None met step = step.0
    may_meet true some hide old new (Some parts) met step =
        (found new parts.url, names new parts.url, given_names old new parts.url step.0, step.1)

    pub became_frame : (rewriter after : FrameRewriter M P) (line : Line) (text : List ℕ) → RewriterSteps Finds found names count rewriter line text after
        → RewriterBecomes Gives GivesNames any rewriter line text
    became_frame rewriter after line text is = (
      is.met,
      may_meet any refl (hiding_seen rewriter.options.now.hiding) rewriter.maps.now after.maps.now (frame_of line.bytes) is.met is.step,
      is.text_is,
    )

  module _ (same : (maps after : M) (url other : List ℕ) (stated : Option MapRecord) → Finds maps url after → Gives after other stated
      → Gives maps other stated)
      (same_names : (maps after : M) (url other : List ℕ) (stated : Option MapRecord) (written : Option FunctionNames) → Finds maps url after
      → GivesNames after other stated written → GivesNames maps other stated written) where
    gives_before : (hide : HidingSeen) (old new : M) (parts : Option FrameParts) (met : Fate) → NamedStep Finds found names hide old parts met new →
        (other : List ℕ) (stated : Option MapRecord) → Gives new other stated → Gives old other stated
    gives_before hide old new None met step other stated gives = subst (λ m. Gives m other stated) step.1 gives
    gives_before hide old new (Some parts) met step other stated gives = same old new parts.url other stated step.0 gives

    names_before : (hide : HidingSeen) (old new : M) (parts : Option FrameParts) (met : Fate) → NamedStep Finds found names hide old parts met new →
        (other : List ℕ) (stated : Option MapRecord) (written : Option FunctionNames) → GivesNames new other stated written
        → GivesNames old other stated written
    names_before hide old new None met step other stated written gives = subst (λ m. GivesNames m other stated written) step.1 gives
    names_before hide old new (Some parts) met step other stated written gives = same_names old new parts.url other stated written step.0 gives

    met_before : (b : Bool) (hide : HidingSeen) (old new : M) → ((other : List ℕ) (stated : Option MapRecord) → Gives new other stated → Gives old other stated)
        → ((other : List ℕ) (stated : Option MapRecord) (written : Option FunctionNames) → GivesNames new other stated written
        → GivesNames old other stated written)
        → (parts : Option FrameParts) (met : Fate) → NamedMeet (Gives new) (GivesNames new) b hide parts met
        → NamedMeet (Gives old) (GivesNames old) b hide parts met
    met_before false hide old new before before_names None met may = may
    met_before false hide old new before before_names (Some parts) met may = (may.0, before parts.url may.0 may.1, may.2)
    met_before true hide old new before before_names None met may = may
    met_before true hide old new before before_names (Some parts) met may = (may.0, may.1, before_names parts.url may.0 may.1 may.2, may.3)

    pub same_frame : (rewriter after : FrameRewriter M P) (line other : Line) (text later : List ℕ)
        → RewriterSteps Finds found names count rewriter line text after
        → RewriterBecomes Gives GivesNames any after other later → RewriterBecomes Gives GivesNames any rewriter other later
    same_frame rewriter after line other text later is may =
        let hide = hiding_seen rewriter.options.now.hiding in (
          may.0,
          met_before any hide rewriter.maps.now after.maps.now
              (gives_before hide rewriter.maps.now after.maps.now (frame_of line.bytes) is.met is.step)
              (names_before hide rewriter.maps.now after.maps.now (frame_of line.bytes) is.met is.step) (frame_of other.bytes) may.0
              (subst (λ h. NamedMeet (Gives after.maps.now) (GivesNames after.maps.now) any (hiding_seen h.now.hiding) (frame_of other.bytes) may.0) is.options may.1),
          may.2,
        )

module _ {M P : Type 0} (Finds : M → (url : List ℕ) → M → Type 0) (count : P → PlaceCount) where
  pub rewriter_stays : (rewriter : FrameRewriter M P) → RewriterReaches Finds count rewriter rewriter
  rewriter_stays rewriter = (looked_none Finds rewriter.maps.now, refl, (refl, refl, refl))

  pub rewriter_goes_on : (rewriter mid later : FrameRewriter M P) → RewriterReaches Finds count rewriter mid → RewriterReaches Finds count mid later
      → RewriterReaches Finds count rewriter later
  rewriter_goes_on rewriter mid later one two = (
    looked_both Finds rewriter.maps.now mid.maps.now later.maps.now one.0 two.0,
    two.1 ∙ one.1,
    (two.2.0 ∙ one.2.0, two.2.1 ∙ one.2.1, two.2.2 ∙ one.2.2),
  )
