-- Laws of what a source shows without its sequences.
use Rattle.std.proofs.Common.{◌≡◌, ◌<◌, ◌+◌, ◌*◌, ◌-◌, ℕ, Bool, true, false, List, [], ◌++◌, length, take, Option, Some, None, option_map, refl, sym, ap, ◌∙◌}
use Rattle.std.proofs.Common.{append_assoc, append-nil, arith, inl, inr, length-append, subst}
use Rattle.std.specs.Io.KnownBytes.{IsAtEnd, prepend_known}
use Rattle.smap_io.specs.Device.{Gives, SourceSeen}
use Rattle.smap_io.specs.Sequences.{kept}
use Rattle.smap_io.specs.WithoutSequences.{without_seen}
use Rattle.smap_io.specs.Private.Given.{IsGiven, IsLastGiven, IsMore, IsNearer}

-- what is left of a source, where these bytes came of it and were not given
abbrev pub left_of : (held : List ℕ) → (most : ℕ) → (left : Option (List ℕ)) → Option (List ℕ)
left_of held most left = option_map (λ left. kept (held ++ left) 0 most) left

module _ (old : List ℕ) (old_most : ℕ) (given new : List ℕ) (new_most : ℕ) where
  pub seen_given : IsGiven old old_most given new new_most → (left : Option (List ℕ)) → Gives (left_of old old_most left) (left_of new new_most left) given
  seen_given is None = refl
  seen_given is (Some left) = ap Some (is left)

  -- at the end
  pub seen_last : IsLastGiven old old_most given new new_most → (left : Option (List ℕ)) → IsAtEnd left
      → Gives (left_of old old_most left) (left_of new new_most left) given
  seen_last is None end = refl
  seen_last is (Some left) end = λ i. Some (whole i)
    where
      at : (bytes : List ℕ) → bytes ++ left ≡ bytes
      at bytes = ap (λ l. bytes ++ l) end ∙ append-nil bytes

      whole : kept (old ++ left) 0 old_most ≡ given ++ kept (new ++ left) 0 new_most
      whole = ap (λ l. kept l 0 old_most) (at old) ∙ (is ∙ ap (λ l. given ++ kept l 0 new_most) (sym (at new)))

-- more came
pub seen_more : (held : List ℕ) (most : ℕ) (bytes : List ℕ) (before after : Option (List ℕ)) → Gives before after bytes
    → left_of held most before ≡ left_of (held ++ bytes) most after
seen_more held most bytes before None came = ap (left_of held most) came
seen_more held most bytes before (Some left) came =
    ap (left_of held most) came ∙ ap (λ l. Some (kept l 0 most)) (sym (append_assoc held bytes left))

-- nothing is held, and nothing is left
pub seen_end : (held : List ℕ) (most : ℕ) → held ≡ [] → (left : Option (List ℕ)) → IsAtEnd left → IsAtEnd (left_of held most left)
unfolding kept
seen_end held most none None end = tt
seen_end held most none (Some left) end = λ i. kept (none i ++ end i) 0 most

-- ---- a turn of a read: what can be told is given, and more is read behind what is left

came : (bytes : List ℕ) (before after : Option (List ℕ)) → bytes ≡ [] → Gives before after bytes → before ≡ after
came bytes before None none gives = gives
came bytes before (Some left) none gives = gives ∙ ap (λ l. Some (l ++ left)) none

-- no more came
pub no_more : (before after : SourceSeen) (old new : List ℕ) (some : Bool) → some ≡ false → IsMore before after old new some
    → (new ≡ old) × (before.left ≡ after.left) × IsAtEnd after.left
no_more before after old new true is more = cc
no_more before after old new false is more =
    (more.2 ∙ (ap (λ l. old ++ l) more.3.0 ∙ append-nil old), came more.0 before.left after.left more.3.0 more.1, more.3.1)

-- more came
pub some_more : (before after : SourceSeen) (old new : List ℕ) (some : Bool) → some ≡ true → IsMore before after old new some → length old < length new
some_more before after old new true is more = omega (arith, ap length more.2, length-append old more.0, more.3)
some_more before after old new false is more = cc

-- the same is left
pub gone_on : (start inner0 inner1 inner2 : SourceSeen) (held0 : List ℕ) (most0 count : ℕ) (room held1 : List ℕ) (most1 : ℕ) (held2 : List ℕ) (some : Bool)
    → without_seen held0 most0 inner0 ≡ start → count ≡ 0 → IsGiven held0 most0 (take count room) held1 most1 → inner1 ≡ inner0
    → IsMore inner1 inner2 held1 held2 some → inner2.failed ≡ inner1.failed → without_seen held2 most1 inner2 ≡ start
gone_on start inner0 inner1 inner2 held0 most0 count room held1 most1 held2 some is none given same more working = sym step ∙ is
  where
    nothing : IsGiven held0 most0 [] held1 most1
    nothing = subst (λ n. IsGiven held0 most0 (take n room) held1 most1) none given

    shown : (left : Option (List ℕ)) → left_of held0 most0 left ≡ left_of held1 most1 left
    shown None = refl
    shown (Some left) = ap Some (nothing left)

    left : left_of held0 most0 inner0.left ≡ left_of held2 most1 inner2.left
    left = shown inner0.left ∙ (ap (λ (s : SourceSeen). left_of held1 most1 s.left) (sym same)
        ∙ (seen_more held1 most1 more.0 inner1.left inner2.left more.1 ∙ ap (λ h. left_of h most1 inner2.left) (sym more.2)))

    step : without_seen held0 most0 inner0 ≡ without_seen held2 most1 inner2
    step = λ i. record { left = left i; failed = (ap (λ (s : SourceSeen). s.failed) (sym same) ∙ sym working) i }

-- what is given at the end
pub given_last : (start inner2 inner3 : SourceSeen) (held2 : List ℕ) (most1 : ℕ) (given held3 : List ℕ) (most3 : ℕ)
    → without_seen held2 most1 inner2 ≡ start → IsAtEnd inner2.left → IsLastGiven held2 most1 given held3 most3 → inner3 ≡ inner2
    → Gives start.left (left_of held3 most3 inner3.left) given
given_last start inner2 inner3 held2 most1 given held3 most3 is end last same =
    ap (λ (s : SourceSeen). s.left) (sym is) ∙ (seen_last held2 most1 given held3 most3 last inner2.left end
    ∙ ap (λ (s : SourceSeen). prepend_known given (left_of held3 most3 s.left)) (sym same))

-- a turn brings the end nearer
pub nearer_end : (held0 : List ℕ) (most0 : ℕ) (held1 : List ℕ) (most1 : ℕ) (held2 : List ℕ) → IsNearer held0 most0 held1 most1 → length held1 < 128
    → length held1 < length held2 → most1 * 4097 + (4096 - length held2) < most0 * 4097 + (4096 - length held0)
nearer_end held0 most0 held1 most1 held2 (inl fewer) few more = omega (arith, fewer)
nearer_end held0 most0 held1 most1 held2 (inr same) few more = omega (arith, same.0, ap length same.1, few, more)
