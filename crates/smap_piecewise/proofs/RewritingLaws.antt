-- A rewriting keeps to what it must.
use Rattle.std.proofs.Common.{◌≡◌, ◌<◌, ◌≤◌, ◌+◌, ◌-◌, ◌^◌, ◌∙◌, ◌⊎◌, inl, inr, ℕ, Bool, true, false, List, [], ◌∷◌, ◌++◌, Option, Some, length, sym, ap, refl, subst, arith, append-nil, append_assoc, length-append}
use Rattle.std.specs.Prelude.{Err, Ok, OnErr, OnOk, Result}
use Rattle.smap_piecewise.specs.Private.Places.{IsInChunk, places_seen}
use Rattle.smap_piecewise.specs.Private.Rewriting.{IsInOrder, rewriting_seen}
use Rattle.smap_piecewise.specs.Private.Work.{IsWorkSound, IsWorkWithin, TakesFrom, WorkSteps, work_seen}
use Rattle.smap_piecewise.specs.Known.{NamedKnown}
use Rattle.smap_piecewise.specs.Rewriting.{HasRun, IsHandedOn, RewritingNow, stripping_at_first}
use Rattle.smap_piecewise.specs.Stripping.{held_of, text_behind}
use Rattle.smap_piecewise.specs.Work.{OfFrames, OfPlaces, WorkGoesOn, WorkNow, is_over, output_of, with_end, with_left, without_output, work_outcome}
use Rattle.smap_pairs.specs.Known.{UrlsKnown}
use Rattle.smap_io.specs.Sequences.{kept}
use Rattle.smap_piecewise.specs.declared.bound.Bound.{Bound}
use Rattle.smap_piecewise.specs.declared.frames.Frames.{Frames}
use Rattle.smap_piecewise.specs.declared.places.Places.{Places}
use Rattle.smap_piecewise.specs.declared.rewriting.Rewriting.TheInside.{Inside}
use Rattle.smap_piecewise.specs.declared.stripping.Stripping.{Stripping}
use Rattle.smap_piecewise.specs.declared.work.Work.{Work}
use Rattle.smap_piecewise.specs.declared.work.Work.TheVariants as work_of
use Rattle.smap_piecewise.proofs.PlaceStepLaws.{given_in, given_within, places_within_more}
use Rattle.smap_piecewise.proofs.StepLaws.{within_more}
use Rattle.smap_piecewise.proofs.WorkLaws.{HasChunk, none_behind, work_ended, work_given, work_same}

pub either : {A E : Type 0} (r : Result A E) (P Q R S : Type 0) → OnOk r P → OnOk r Q → OnOk r R → OnErr r S → (P × Q × R) ⊎ S
either (Ok x) P Q R S one two three err = inl (one, two, three)
either (Err e) P Q R S one two three err = inr err

-- ---- bytes are given

abbrev pub with_frames : Inside → Frames → (given : List ℕ) → Bound → Inside
with_frames inside frames given bound = record inside { work = work_of.Frames (record frames { given = given }); bound = bound }

abbrev pub with_places : Inside → Places → (given : List ℕ) → Bound → Inside
with_places inside places given bound = record inside { work = work_of.Places (record places { given = given }); bound = bound }

abbrev bound_after : Bound → (bytes : List ℕ) → Bound
bound_after bound bytes = record { most_bytes = bound.most_bytes; taken = bound.taken + length bytes }

module _ (inside : Inside) (order : IsInOrder inside) (bytes : List ℕ) (bound : Bound) where
  given_to_frames : (frames : Frames) → inside.work ≡ work_of.Frames frames → (given : List ℕ) → given ≡ frames.given ++ bytes
      → bound ≡ bound_after inside.bound bytes → inside.bound.taken + length bytes ≤ inside.bound.most_bytes → IsInOrder (with_frames inside frames given bound)
  given_to_frames frames is given given_is bound_is few =
      let within = subst (λ (w : Work). IsWorkWithin order.size (work_seen w)) is order.within in
      let more : length given ≡ length frames.given + length bytes = ap length given_is ∙ length-append frames.given bytes in
      let taken : bound.taken ≡ inside.bound.taken + length bytes = ap (λ (b : Bound). b.taken) bound_is in
      let most : bound.most_bytes ≡ inside.bound.most_bytes = ap (λ (b : Bound). b.most_bytes) bound_is in
      record {
        sound = tt;
        size = order.size + length bytes;
        within = record {
          lines = omega (arith, within.lines, more);
          frames = omega (arith, within.frames, more);
          mapped = omega (arith, within.mapped, more);
          hidden = omega (arith, within.hidden, more);
        };
        few = omega (arith, order.few, taken);
        taken = omega (arith, few, taken, most);
        countable = subst (λ n. n < 2 ^ 63) (sym most) order.countable;
        written = subst (λ (w : Work). length (output_of (work_seen w)) ≤ inside.limit) is order.written;
        over = λ ended. order.over (subst (λ (w : Work). is_over (work_seen w) ≡ true) (sym is) ended);
      }

  given_to_places : (places : Places) → inside.work ≡ work_of.Places places → (given : List ℕ) → given ≡ places.given ++ bytes
      → bound ≡ bound_after inside.bound bytes → inside.bound.taken + length bytes ≤ inside.bound.most_bytes → IsInOrder (with_places inside places given bound)
  given_to_places places is given given_is bound_is few =
      let within = subst (λ (w : Work). IsWorkWithin order.size (work_seen w)) is order.within in
      let sound = subst IsWorkSound is order.sound in
      let taken : bound.taken ≡ inside.bound.taken + length bytes = ap (λ (b : Bound). b.taken) bound_is in
      let most : bound.most_bytes ≡ inside.bound.most_bytes = ap (λ (b : Bound). b.most_bytes) bound_is in
      record {
        sound = record {
          chunk = subst (λ l. IsInChunk (record (places_seen places) { left = l })) (sym given_is) (given_in (places_seen places) bytes sound.chunk);
          spans = sound.spans;
          room = sound.room;
        };
        size = order.size + length bytes;
        within = subst (λ l. IsWorkWithin (order.size + length bytes) (OfPlaces (record (places_seen places) { left = l }))) (sym given_is)
            (given_within (places_seen places) bytes order.size within);
        few = omega (arith, order.few, taken);
        taken = omega (arith, few, taken, most);
        countable = subst (λ n. n < 2 ^ 63) (sym most) order.countable;
        written = subst (λ (w : Work). length (output_of (work_seen w)) ≤ inside.limit) is order.written;
        over = λ ended. order.over (subst (λ (w : Work). is_over (work_seen w) ≡ true) (sym is) ended);
      }

  -- or refused
  pub frames_in_order : (frames : Frames) → inside.work ≡ work_of.Frames frames → (given : List ℕ)
      → ((given ≡ frames.given ++ bytes) × (bound ≡ bound_after inside.bound bytes) × (inside.bound.taken + length bytes ≤ inside.bound.most_bytes))
      ⊎ ((bound ≡ inside.bound) × (given ≡ frames.given)) → IsInOrder (with_frames inside frames given bound)
  frames_in_order frames is given (inl took) = given_to_frames frames is given took.0 took.1 took.2
  frames_in_order frames is given (inr same) =
      subst IsInOrder (λ i. record inside {
        work = (is ∙ (λ j. work_of.Frames (record frames { given = sym same.1 j }))) i;
        bound = sym same.0 i;
      }) order

  pub places_in_order : (places : Places) → inside.work ≡ work_of.Places places → (given : List ℕ)
      → ((given ≡ places.given ++ bytes) × (bound ≡ bound_after inside.bound bytes) × (inside.bound.taken + length bytes ≤ inside.bound.most_bytes))
      ⊎ ((bound ≡ inside.bound) × (given ≡ places.given)) → IsInOrder (with_places inside places given bound)
  places_in_order places is given (inl took) = given_to_places places is given took.0 took.1 took.2
  places_in_order places is given (inr same) =
      subst IsInOrder (λ i. record inside {
        work = (is ∙ (λ j. work_of.Places (record places { given = sym same.1 j }))) i;
        bound = sym same.0 i;
      }) order

-- ---- the output is let go of

without_within : (size : ℕ) (now : WorkNow) → IsWorkWithin size now → IsWorkWithin size (without_output now)
without_within size (OfFrames now) within = record { lines = within.lines; frames = within.frames; mapped = within.mapped; hidden = within.hidden }
without_within size (OfPlaces now) within = record { lines = within.lines; frames = within.frames; mapped = within.mapped }

none_written : (now : WorkNow) → length (output_of (without_output now)) ≡ 0
none_written (OfFrames now) = refl
none_written (OfPlaces now) = refl

same_over : (now : WorkNow) → is_over (without_output now) ≡ is_over now
same_over (OfFrames now) = refl
same_over (OfPlaces now) = refl

pub cleared_in_order : (inside : Inside) → IsInOrder inside → (work : Work) (limit : ℕ) → work_seen work ≡ without_output (work_seen inside.work)
    → (IsWorkSound inside.work → IsWorkSound work) → IsInOrder (record inside { work = work; limit = limit })
cleared_in_order inside order work limit seen sound = record {
  sound = sound order.sound;
  size = order.size;
  within = subst (λ (w : WorkNow). IsWorkWithin order.size w) (sym seen) (without_within order.size (work_seen inside.work) order.within);
  few = order.few;
  taken = order.taken;
  countable = order.countable;
  written = omega (arith, ap (λ (w : WorkNow). length (output_of w)) seen, none_written (work_seen inside.work));
  over = λ ended. order.over (sym (same_over (work_seen inside.work)) ∙ sym (ap is_over seen) ∙ ended);
}

-- ---- nothing is held at first

pub none_held : (is_stripped : Bool) → held_of (stripping_at_first is_stripped) ≡ []
none_held true = refl
none_held false = refl

-- ---- bytes are handed on

has_chunk : (work : Work) → IsWorkSound work → HasChunk (work_seen work)
has_chunk (work_of.Frames frames) sound = tt
has_chunk (work_of.Places places) sound = sound.chunk.within

left_within : (now : WorkNow) (bytes : List ℕ) (size : ℕ) → IsWorkWithin size now → IsWorkWithin (size + length bytes) (with_left bytes now)
left_within (OfFrames now) bytes size within =
    let more = length-append now.left bytes in
    record {
      lines = omega (arith, within.lines, more);
      frames = omega (arith, within.frames, more);
      mapped = omega (arith, within.mapped, more);
      hidden = omega (arith, within.hidden, more);
    }
left_within (OfPlaces now) bytes size within = given_within now bytes size within

left_output : (now : WorkNow) (bytes : List ℕ) → output_of (with_left bytes now) ≡ output_of now
left_output (OfFrames now) bytes = refl
left_output (OfPlaces now) bytes = refl

left_over : (now : WorkNow) (bytes : List ℕ) → is_over (with_left bytes now) ≡ is_over now
left_over (OfFrames now) bytes = refl
left_over (OfPlaces now) bytes = refl

none_of : (l : List ℕ) → length l ≤ 0 → l ≡ []
none_of [] few = refl
none_of (x ∷ l) few = absurd (omega (arith, few))

module _ (inside : Inside) (order : IsInOrder inside) (old new : Stripping) (is : inside.stripping ≡ Some old) (work : Work)
    (takes : TakesFrom inside.is_ended old new (work_seen inside.work) (work_seen work)) (sound : IsWorkSound inside.work → IsWorkSound work) where
  held : length (held_of inside.stripping) ≡ length old.held
  held = ap (λ (s : Option Stripping). length (held_of s)) is

  written_same : output_of (work_seen work) ≡ output_of (work_seen inside.work)
  written_same = ap output_of takes.work ∙ left_output (work_seen inside.work) takes.more

  pub told_in_order : IsInOrder (record inside { work = work; stripping = Some new })
  told_in_order = record {
    sound = sound order.sound;
    size = order.size + length takes.more;
    within = subst (λ (w : WorkNow). IsWorkWithin (order.size + length takes.more) w) (sym takes.work)
        (left_within (work_seen inside.work) takes.more order.size order.within);
    few = omega (arith, order.few, takes.few, held);
    taken = order.taken;
    countable = order.countable;
    written = omega (arith, order.written, ap length written_same);
    over = λ ended.
        let before = order.over (sym (left_over (work_seen inside.work) takes.more) ∙ sym (ap is_over takes.work) ∙ ended) in
        (before.0, none_of new.held (omega (arith, takes.few, held, ap length before.1)));
  }

  pub told_runs : (urls : UrlsKnown) (known : NamedKnown) → HasRun urls known (rewriting_seen inside) (rewriting_seen (record inside { work = work; stripping = Some new }))
  told_runs urls known = record {
    same = λ maps later agrees ends.
        ap (λ (w : WorkNow). work_outcome urls maps w (kept (new.held ++ later) 0 new.most)) takes.work
        ∙ work_given urls maps (work_seen inside.work) takes.more (kept (new.held ++ later) 0 new.most) (has_chunk inside.work order.sound)
        ∙ ap (work_outcome urls maps (work_seen inside.work))
        (sym (takes.same later ends) ∙ sym (ap (λ (s : Option Stripping). text_behind s later) is));
    more = [];
    written = written_same ∙ sym (append-nil (output_of (work_seen inside.work)));
    limit = refl;
    asks = refl;
    is_ended = refl;
    most_bytes = refl;
    taken = refl;
  }

-- ---- it runs

pub runs_nowhere : (urls : UrlsKnown) (known : NamedKnown) (now : RewritingNow) → HasRun urls known now now
runs_nowhere urls known now = record {
  same = λ maps later agrees ends. refl;
  more = [];
  written = sym (append-nil (output_of now.work));
  limit = refl;
  asks = refl;
  is_ended = refl;
  most_bytes = refl;
  taken = refl;
}

pub runs_twice : (urls : UrlsKnown) (known : NamedKnown) (old mid new : RewritingNow) → HasRun urls known old mid → HasRun urls known mid new → HasRun urls known old new
runs_twice urls known old mid new first second = record {
  same = λ maps later agrees ends. second.same maps later agrees (λ is. ends (sym first.is_ended ∙ is)) ∙ first.same maps later agrees ends;
  more = first.more ++ second.more;
  written = second.written ∙ ap (λ t. t ++ second.more) first.written ∙ append_assoc (output_of old.work) first.more second.more;
  limit = second.limit ∙ first.limit;
  asks = second.asks ∙ first.asks;
  is_ended = second.is_ended ∙ first.is_ended;
  most_bytes = second.most_bytes ∙ first.most_bytes;
  taken = second.taken ∙ first.taken;
}

-- ---- its end

end_within : (size : ℕ) (now : WorkNow) (e : Bool) → IsWorkWithin size now → IsWorkWithin size (with_end e now)
end_within size (OfFrames now) e within = record { lines = within.lines; frames = within.frames; mapped = within.mapped; hidden = within.hidden }
end_within size (OfPlaces now) e within = record { lines = within.lines; frames = within.frames; mapped = within.mapped }

end_output : (now : WorkNow) (e : Bool) → output_of (with_end e now) ≡ output_of now
end_output (OfFrames now) e = refl
end_output (OfPlaces now) e = refl

end_over : (now : WorkNow) (e : Bool) → is_over (with_end e now) ≡ e
end_over (OfFrames now) e = refl
end_over (OfPlaces now) e = refl

module _ (inside : Inside) (order : IsInOrder inside) (work : Work) (seen : work_seen work ≡ with_end inside.is_ended (work_seen inside.work)) where
  closed_over : is_over (work_seen work) ≡ inside.is_ended
  closed_over = ap is_over seen ∙ end_over (work_seen inside.work) inside.is_ended

  closed_output : output_of (work_seen work) ≡ output_of (work_seen inside.work)
  closed_output = ap output_of seen ∙ end_output (work_seen inside.work) inside.is_ended

  pub closed_in_order : (IsWorkSound inside.work → IsWorkSound work) → (inside.is_ended ≡ true → held_of inside.stripping ≡ []) → IsInOrder (record inside { work = work })
  closed_in_order sound told = record {
    sound = sound order.sound;
    size = order.size;
    within = subst (λ (w : WorkNow). IsWorkWithin order.size w) (sym seen) (end_within order.size (work_seen inside.work) inside.is_ended order.within);
    few = order.few;
    taken = order.taken;
    countable = order.countable;
    written = omega (arith, order.written, ap length closed_output);
    over = λ ended. (sym closed_over ∙ ended, told (sym closed_over ∙ ended));
  }

  pub closed_runs : (urls : UrlsKnown) (known : NamedKnown) → HasRun urls known (rewriting_seen inside) (rewriting_seen (record inside { work = work }))
  closed_runs urls known = record {
    same = λ maps later agrees ends.
        ap (λ (w : WorkNow). work_outcome urls maps w (text_behind inside.stripping later)) seen
        ∙ work_ended urls maps (work_seen inside.work) inside.is_ended (text_behind inside.stripping later);
    more = [];
    written = closed_output ∙ sym (append-nil (output_of (work_seen inside.work)));
    limit = refl;
    asks = refl;
    is_ended = refl;
    most_bytes = refl;
    taken = refl;
  }

  pub closed_told : (inside.is_ended ≡ true → held_of inside.stripping ≡ []) → IsHandedOn (rewriting_seen (record inside { work = work }))
  closed_told told = λ ended. (closed_over ∙ ended, told ended)

-- ---- it goes on

steps_sound : (urls : UrlsKnown) (known : NamedKnown) (old new : Work) → WorkSteps urls known old new → IsWorkSound new
steps_sound urls known (work_of.Frames old) (work_of.Frames new) steps = tt
steps_sound urls known (work_of.Places old) (work_of.Places new) steps = steps.sound
steps_sound urls known (work_of.Frames old) (work_of.Places new) steps = absurd steps
steps_sound urls known (work_of.Places old) (work_of.Frames new) steps = absurd steps

steps_within : (urls : UrlsKnown) (known : NamedKnown) (old new : Work) → WorkSteps urls known old new → (size : ℕ) → IsWorkWithin size (work_seen old)
    → IsWorkWithin size (work_seen new)
steps_within urls known (work_of.Frames old) (work_of.Frames new) steps size within = steps.within size within
steps_within urls known (work_of.Places old) (work_of.Places new) steps size within = steps.within size within
steps_within urls known (work_of.Frames old) (work_of.Places new) steps size within = absurd steps
steps_within urls known (work_of.Places old) (work_of.Frames new) steps size within = absurd steps

steps_go : (urls : UrlsKnown) (known : NamedKnown) (old new : Work) → WorkSteps urls known old new → WorkGoesOn urls known (work_seen old) (work_seen new)
steps_go urls known (work_of.Frames old) (work_of.Frames new) steps = steps.goes
steps_go urls known (work_of.Places old) (work_of.Places new) steps = steps.goes
steps_go urls known (work_of.Frames old) (work_of.Places new) steps = absurd steps
steps_go urls known (work_of.Places old) (work_of.Frames new) steps = absurd steps

-- what was written, and that it is over as it was
record IsOnward (old new : WorkNow) : Type 0 where
  more : List ℕ
  written : output_of new ≡ output_of old ++ more
  over : is_over new ≡ is_over old

onward : (urls : UrlsKnown) (known : NamedKnown) (old new : WorkNow) → WorkGoesOn urls known old new → IsOnward old new
onward urls known (OfFrames old) (OfFrames new) goes = record { more = goes.more; written = goes.written; over = goes.is_ended }
onward urls known (OfPlaces old) (OfPlaces new) goes = record { more = goes.more; written = goes.written; over = goes.is_ended }
onward urls known (OfFrames old) (OfPlaces new) goes = absurd goes
onward urls known (OfPlaces old) (OfFrames new) goes = absurd goes

pub work_within_more : (size more : ℕ) (now : WorkNow) → IsWorkWithin size now → size ≤ more → IsWorkWithin more now
work_within_more size more (OfFrames now) within few = within_more size more now within few
work_within_more size more (OfPlaces now) within few = places_within_more size more now within few

module _ (inside : Inside) (order : IsInOrder inside) where
  pub room_for_all : IsWorkWithin (2 ^ 64 - 1) (work_seen inside.work)
  room_for_all = work_within_more order.size (2 ^ 64 - 1) (work_seen inside.work) order.within (omega (arith, order.few, order.taken, order.countable))

  module _ (urls : UrlsKnown) (known : NamedKnown) (work : Work) (steps : WorkSteps urls known inside.work work) where
    went : IsOnward (work_seen inside.work) (work_seen work)
    went = onward urls known (work_seen inside.work) (work_seen work) (steps_go urls known inside.work work steps)

    pub ran_in_order : length (output_of (work_seen work)) ≤ inside.limit → IsInOrder (record inside { work = work })
    ran_in_order few = record {
      sound = steps_sound urls known inside.work work steps;
      size = order.size;
      within = steps_within urls known inside.work work steps order.size order.within;
      few = order.few;
      taken = order.taken;
      countable = order.countable;
      written = few;
      over = λ ended. order.over (sym went.over ∙ ended);
    }

    pub ran_runs : HasRun urls known (rewriting_seen inside) (rewriting_seen (record inside { work = work }))
    ran_runs = record {
      same = λ maps later agrees ends.
          work_same urls known maps (work_seen inside.work) (work_seen work) (text_behind inside.stripping later) (steps_go urls known inside.work work steps) agrees
          (λ over. let is = order.over over in none_behind inside.stripping later is.1 (ends is.0));
      more = went.more;
      written = went.written;
      limit = refl;
      asks = refl;
      is_ended = refl;
      most_bytes = refl;
      taken = refl;
    }

    pub ran_told : IsHandedOn (rewriting_seen inside) → IsHandedOn (rewriting_seen (record inside { work = work }))
    ran_told told = λ ended. let is = told ended in (went.over ∙ is.0, is.1)
