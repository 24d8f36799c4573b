-- What a walk through mappings in order answers.
use Rattle.std.proofs.Common.{◌≡◌, ℕ, true, false, not, eqb, List, [], ◌∷◌, ◌++◌, length, Option, Some, None, refl, sym, ap, subst, ◌∙◌, append_assoc, ⊎_elim}
use Rattle.std.specs.Prelude.{IfNone, IfSome, option_map}
use Rattle.std.specs.Option.{MatchOption}
use Rattle.std.specs.List.{All, AllByRecursion, cons_option, last_or}
use Rattle.std.proofs.lemmas.List.Elements.{recursion_from_All}
use Rattle.std.proofs.lemmas.Bool.{cond-true, cond-false, cond_both, cases_Bool}
use Rattle.smap_mappings.specs.Laws.Order.{tail_in_order}
use Rattle.smap_mappings.specs.Order.{IsInOrder}
use Rattle.smap_mappings.specs.Within.{IsOriginWithin, IsWithin}
use Rattle.smap_mappings.specs.declared.mapping.Mapping.{Mapping}
use Rattle.smap_mappings.specs.declared.mapping.Origin.{Origin}
use Rattle.smap_index.specs.Answer.{answer_at_or_before, answer_of_last, answer_with}
use Rattle.smap_index.specs.Private.Search.{is_up_to, last_from, on_line, through}
use Rattle.smap_index.proofs.AnswerLaws.{last_answers}
use Rattle.smap_index.proofs.BoundLaws.{passes_back}
use Rattle.smap_index.proofs.LastLaws.{last_passes, last_stops}
use Rattle.smap_index.specs.Parts.{joined}
use Rattle.smap_index.specs.declared.answer.Answer.{Answer}
use Rattle.smap_index.specs.declared.answer.Answer.TheVariants.{Nothing, Unmapped, Found}
use Rattle.smap_mappings.specs.Range.{position_at, stands_before}
use Rattle.smap_record.specs.Record.{MapRecord}
use Rattle.smap_compose.specs.Follow.{moved_origin, origin_of_answer}
use Rattle.smap_compose.specs.Private.Walk.{IsWalkThrough, origin_in, origin_on, stands_up_to}
use Rattle.smap_compose.specs.declared.walk.Walk.{Walk}

-- the first of what was left is in front of what is left then
pub yields_whole : (list left : List Mapping) (next : Option Mapping) → MatchOption next ((list ≡ []) × (left ≡ [])) (λ m. list ≡ m ∷ left)
    → cons_option next left ≡ list
yields_whole list left None both = both.1 ∙ sym both.0
yields_whole list left (Some m) first = sym first

pub yields_ended : (list left : List Mapping) (next : Option Mapping) → MatchOption next ((list ≡ []) × (left ≡ [])) (λ m. list ≡ m ∷ left)
    → IfNone next (left ≡ [])
yields_ended list left None both = both.1
yields_ended list left (Some m) first = tt

-- ---- what is within

last_within : (P : Mapping → Type 0) (o : Option Mapping) (front rest : List Mapping) → IfSome o P → AllByRecursion P (front ++ rest) → IfSome (last_or o front) P
last_within P o [] rest here all = here
last_within P o (a ∷ front) rest here all = last_within P (Some a) front rest all.0 all.1

pub before_within : (P : Mapping → Type 0) (front rest list : List Mapping) (before : Option Mapping) → All P list → front ++ rest ≡ list
    → before ≡ last_or None front → IfSome before P
before_within P front rest list before all whole is =
    subst (λ last. IfSome last P) (sym is) (last_within P None front rest tt (subst (AllByRecursion P) (sym whole) (recursion_from_All P list all)))

pub origin_within : (line sources names : ℕ) (before : Option Mapping) → IfSome before (IsWithin sources names)
    → IfSome (origin_on line before) (IsOriginWithin sources names)
origin_within line sources names None within = tt
origin_within line sources names (Some m) within =
    cond_both (eqb m.line line) m.origin None (λ origin. IfSome origin (IsOriginWithin sources names)) (λ _. within.origin) (λ _. tt)

-- where it holds, something weaker does
pub some_weaker : {A : Type 0} (o : Option A) (P Q : A → Type 0) → ((x : A) → P x → Q x) → IfSome o P → IfSome o Q
some_weaker None P Q weaker holds = tt
some_weaker (Some x) P Q weaker holds = weaker x holds

-- ---- a step

-- one mapping more is passed
pub last_passed : (front : List Mapping) (m : Mapping) → last_or None (front ++ m ∷ []) ≡ Some m
last_passed front m = from None front
  where
    from : (o : Option Mapping) (front : List Mapping) → last_or o (front ++ m ∷ []) ≡ Some m
    from o [] = refl
    from o (first ∷ front) = from (Some first) front

-- of the mappings that are left the first goes in front
pub passed_whole : (front left rest list : List Mapping) (m : Mapping) → left ≡ rest → front ++ m ∷ left ≡ list → (front ++ m ∷ []) ++ rest ≡ list
passed_whole front left rest list m same whole = append_assoc front (m ∷ []) rest ∙ ap (λ rest. front ++ m ∷ rest) (sym same) ∙ whole

-- ---- what answers

module _ (line column : ℕ) where
  -- the first of these mappings, where there is one, stands after the position
  abbrev pub Stops : List Mapping → Type 0
  Stops [] = Unit {0}
  Stops (a ∷ rest) = is_up_to (through line column) a ≡ false

  first_up : (a : Mapping) (front rest : List Mapping) → IsInOrder (a ∷ (front ++ rest)) → stands_up_to line column (last_or (Some a) front) ≡ true
      → is_up_to (through line column) a ≡ true
  first_up a [] rest order up = up
  first_up a (b ∷ front) rest order up = passes_back (through line column) a b order.0 (first_up b front rest order.1 up)

  others_up : (a : Mapping) (front : List Mapping) → stands_up_to line column (last_or (Some a) front) ≡ true → stands_up_to line column (last_or None front) ≡ true
  others_up a [] up = refl
  others_up a (b ∷ front) up = up

  last_walked : (e : Option Mapping) (front rest : List Mapping) → IsInOrder (front ++ rest) → stands_up_to line column (last_or None front) ≡ true
      → Stops rest → last_from (through line column) e (front ++ rest) ≡ last_or e front
  last_walked e [] [] order up stops = refl
  last_walked e [] (a ∷ rest) order up stops = last_stops (through line column) e a rest stops
  last_walked e (a ∷ front) rest order up stops =
      last_passes (through line column) e a (front ++ rest) (first_up a front rest order up)
      ∙ last_walked (Some a) front rest (tail_in_order a (front ++ rest) order) (others_up a front up) stops

  origin_with : (column : ℕ) (origin : Option Origin) → origin_in (answer_with column origin) ≡ origin
  origin_with column None = refl
  origin_with column (Some origin) = refl

  origin_of_last : (last : Option Mapping) → origin_in (answer_of_last (on_line line last)) ≡ origin_on line last
  origin_of_last None = refl
  origin_of_last (Some m) =
      ⊎_elim
      (λ same. ap (λ last. origin_in (answer_of_last last)) (cond-true (eqb m.line line) (Some m) None same) ∙ origin_with m.column m.origin
      ∙ sym (cond-true (eqb m.line line) m.origin None same))
      (λ other. ap (λ last. origin_in (answer_of_last last)) (cond-false (eqb m.line line) (Some m) None other)
      ∙ sym (cond-false (eqb m.line line) m.origin None other))
      (cases_Bool (eqb m.line line))

  -- the last mapping that was passed answers
  pub walked : (front rest list : List Mapping) (before : Option Mapping) → IsInOrder list → front ++ rest ≡ list → before ≡ last_or None front
      → stands_up_to line column before ≡ true → Stops rest → origin_on line before ≡ origin_in (answer_at_or_before list line column)
  walked front rest list before order whole before_is up stops =
      let ordered = subst IsInOrder (sym whole) order in
      let last = last_walked None front rest ordered (ap (stands_up_to line column) (sym before_is) ∙ up) stops in
      ap (origin_on line) before_is
      ∙ sym (ap origin_in (last_answers line column list order) ∙ ap (λ list. origin_in (answer_of_last (on_line line (last_from (through line column) None list)))) (sym whole)
      ∙ ap (λ last. origin_in (answer_of_last (on_line line last))) last ∙ origin_of_last (last_or None front))

-- the origin of an answer, moved
pub origin_moved : (sources names : ℕ) (name : Option ℕ) (answer : Answer)
    → option_map (moved_origin sources names name) (origin_in answer) ≡ origin_of_answer sources names name answer
origin_moved sources names name Nothing = refl
origin_moved sources names name (Unmapped column) = refl
origin_moved sources names name (Found column origin) = refl

-- ---- a walk through a map

module _ (stated : MapRecord) (walk : Walk) (is : IsWalkThrough stated walk) where
  -- the origin of the last mapping that was passed is within what the map lists
  pub passed_within : (line : ℕ) → IfSome (origin_on line walk.before) (IsOriginWithin (length stated.sources) (length stated.names))
  passed_within line =
      origin_within line (length stated.sources) (length stated.names) walk.before
      (before_within (IsWithin (length stated.sources) (length stated.names)) is.front (cons_option walk.next walk.left) (joined stated.parts)
      walk.before is.within is.whole is.before)

  -- and it is what the map answers, where no mapping is left
  pub answered_at_end : (line column : ℕ) → stands_up_to line column walk.before ≡ true → walk.next ≡ None
      → origin_on line walk.before ≡ origin_in (answer_at_or_before (joined stated.parts) line column)
  answered_at_end line column up none =
      let nothing : cons_option walk.next walk.left ≡ [] =
      ap (λ next. cons_option next walk.left) none ∙ subst (λ next. IfNone next (walk.left ≡ [])) none is.ended in
      walked line column is.front (cons_option walk.next walk.left) (joined stated.parts) walk.before is.ordered is.whole is.before up
      (subst (Stops line column) (sym nothing) tt)

  -- or the next stands after the position
  pub answered_before : (line column : ℕ) (next : Mapping) → stands_up_to line column walk.before ≡ true → walk.next ≡ Some next
      → stands_before (position_at line column) next ≡ true
      → origin_on line walk.before ≡ origin_in (answer_at_or_before (joined stated.parts) line column)
  answered_before line column next up some past =
      walked line column is.front (cons_option walk.next walk.left) (joined stated.parts) walk.before is.ordered is.whole is.before up
      (subst (λ next. Stops line column (cons_option next walk.left)) (sym some) (ap not past))

  -- one mapping more is passed
  pub walk_on : (passed : Mapping) (after : Walk) → walk.next ≡ Some passed → after.before ≡ Some passed
      → MatchOption after.next ((walk.left ≡ []) × (after.left ≡ [])) (λ m. walk.left ≡ m ∷ after.left) → IsWalkThrough stated after
  walk_on passed after some before_is yields = record {
    ordered = is.ordered;
    front = is.front ++ passed ∷ [];
    whole = passed_whole is.front walk.left (cons_option after.next after.left) (joined stated.parts) passed
        (sym (yields_whole walk.left after.left after.next yields)) (ap (λ next. is.front ++ cons_option next walk.left) (sym some) ∙ is.whole);
    before = before_is ∙ sym (last_passed is.front passed);
    ended = yields_ended walk.left after.left after.next yields;
    within = is.within;
  }
