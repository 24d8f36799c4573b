-- Where lines stand in a content, one after another.
use Rattle.std.proofs.Common.{◌≡◌, ◌∙◌, ◌+◌, ◌-◌, ◌<◌, ℕ, zero, suc, List, [], ◌∷◌, Some, add-zero, add_assoc, ap, arith, drop, length, refl, set, subst, sym, take, ⊎_elim}
use Rattle.std.specs.Prelude.{IsSomeAnd, nat_lt, slice_get}
use Rattle.std.specs.Str.{IsUtf8, chars}
use Rattle.std.proofs.lemmas.Bool.{cases_lt}
use Rattle.std.proofs.lemmas.List.{drop-drop, drop-set-lt, length-drop, length-set}
use Rattle.smap_text.proofs.BeginLaws.{some_line}
use Rattle.smap_text.specs.Begins.{BeginsAt}
use Rattle.smap_text.specs.Lines.{lines_of}
use Rattle.smap_text.proofs.RestLaws.{end_of_end, ends_next, slice_get_drop}
use Rattle.smap_text.specs.Rest.{IsEndFrom}
use Rattle.smap_text.specs.ShownLine.{IsFrontOf}
use Rattle.smap_c.specs.Lines.{IsLineAt}
use Rattle.smap_c.specs.Texts.{flag}
use Rattle.smap_c.specs.declared.lines.LineBytes.{LineBytes}

-- ---- element by element

get_written : {X : Type 0} (xs : List X) (i : ℕ) (x : X) → i < length xs → slice_get (set xs i x) i ≡ Some x
get_written [] i x within = absurd (omega arith)
get_written (y ∷ ys) zero x within = refl
get_written (y ∷ ys) (suc i) x within = get_written ys i x (omega arith)

get_others : {X : Type 0} (xs : List X) (i k : ℕ) (x : X) → k < i → slice_get (set xs i x) k ≡ slice_get xs k
get_others [] i k x below = refl
get_others (y ∷ ys) zero k x below = absurd (omega arith)
get_others (y ∷ ys) (suc i) zero x below = refl
get_others (y ∷ ys) (suc i) (suc k) x below = get_others ys i k x (omega arith)

-- ---- the lines that were put

-- so many lines of a text that ends a content stand in the first places, this text is left, and the other places stay
pub record ArePut (content text : List ℕ) (number : ℕ) (rest : List ℕ) (old new : List LineBytes) : Type 0 where
  pub end : drop (length content - length rest) content ≡ rest
  pub lines : drop number (lines_of (chars text)) ≡ lines_of (chars rest)
  pub left : (first : ℕ) → IsEndFrom content first text → IsEndFrom content (first + number) rest
  pub each : (first : ℕ) → IsEndFrom content first text → (k : ℕ) → k < number → IsSomeAnd (slice_get new k) (IsLineAt content (first + k))
  pub others : drop number new ≡ drop number old
  pub places : length new ≡ length old

pub put_none : (content text : List ℕ) (old : List LineBytes) → drop (length content - length text) content ≡ text
    → ArePut content text 0 text old old
put_none content text old end = record {
  end = end;
  lines = refl;
  left = λ first is. subst (λ n. IsEndFrom content n text) (sym (add-zero first)) is;
  each = λ first is k below. absurd (omega arith);
  others = refl;
  places = refl;
}

-- a line of the text is the next one
pub record IsPut (content rest line : List ℕ) (behind : List (List ℕ)) (place : LineBytes) : Type 0 where
  pub first : lines_of (chars rest) ≡ chars line ∷ behind
  pub front : take (length line) rest ≡ line
  pub start : place.start ≡ length content - length rest
  pub kept : IsFrontOf line place.length
  pub cut : place.cut ≡ flag (nat_lt place.length (length line))

module _ (content text : List ℕ) (number : ℕ) (rest : List ℕ) (old new : List LineBytes) (so_far : ArePut content text number rest old new)
    (line : List ℕ) (behind : List (List ℕ)) (place : LineBytes) (put : IsPut content rest line behind place) where
  here : (first : ℕ) → IsEndFrom content first text → IsLineAt content (first + number) place
  here first is =
      let from = so_far.left first is in
      record {
        line = line;
        text = slice_get_drop (lines_of (chars content)) (first + number) ∙ ap (λ l. slice_get l 0) (from.lines ∙ put.first);
        begins = subst (BeginsAt content (first + number)) (sym put.start) from.begins;
        stands = ap (take (length line)) (ap (λ n. drop n content) put.start ∙ so_far.end) ∙ put.front;
        front = put.kept;
        cut = put.cut;
      }

  abbrev IsThere : (first k : ℕ) → List LineBytes → Type 0
  IsThere first k places = IsSomeAnd (slice_get places k) (IsLineAt content (first + k))

  pub put_each : number < length new → (first : ℕ) → IsEndFrom content first text → (k : ℕ) → k < number + 1
      → IsThere first k (set new number place)
  put_each within first is k below = ⊎_elim
      (λ before. subst (λ o. IsSomeAnd o (IsLineAt content (first + k))) (sym (get_others new number k place before)) (so_far.each first is k before))
      (λ after.
      let same : number ≡ k = omega arith in
      subst (λ n. IsThere first n (set new number place)) same
      (subst (λ o. IsSomeAnd o (IsLineAt content (first + number))) (sym (get_written new number place within)) (here first is)))
      (cases_lt k number)

  pub put_others : drop (number + 1) (set new number place) ≡ drop (number + 1) old
  put_others =
      drop-set-lt (number + 1) new number place (omega arith) ∙ sym (drop-drop 1 number new) ∙ ap (drop 1) so_far.others ∙ drop-drop 1 number old

  -- one more is put, behind which this text stands
  pub put_next : (next : List ℕ) → IsUtf8 content → behind ≡ lines_of (chars next) → drop (length rest - length next) rest ≡ next
      → BeginsAt rest 1 (length rest - length next) → number < length new → ArePut content text (number + 1) next old (set new number place)
  put_next next is_content follows further begins within = record {
    end = end_of_end content rest next so_far.end further;
    lines = sym (drop-drop 1 number (lines_of (chars text))) ∙ ap (drop 1) (so_far.lines ∙ put.first) ∙ follows;
    left = λ first is. subst (λ n. IsEndFrom content n next) (add_assoc first number 1)
        (ends_next content (first + number) rest next (chars line) behind is_content (so_far.left first is) put.first follows further begins);
    each = put_each within;
    others = put_others;
    places = length-set new number place ∙ so_far.places;
  }

  -- it is the last one
  pub put_last : behind ≡ [] → length (lines_of (chars text)) ≡ number + 1
  put_last none =
      let one : length (drop number (lines_of (chars text))) ≡ 1 = ap length (so_far.lines ∙ put.first) ∙ ap (λ l. length (chars line ∷ l)) none in
      omega (arith, one, length-drop number (lines_of (chars text)))

-- more lines are left than were put
pub more_left : (content text : List ℕ) (number : ℕ) (rest : List ℕ) (old new : List LineBytes) → ArePut content text number rest old new
    → number < length (lines_of (chars text))
more_left content text number rest old new so_far =
    let some : 0 < length (drop number (lines_of (chars text))) = subst (λ l. 0 < length l) (sym so_far.lines) (some_line (chars rest)) in
    omega (arith, some, length-drop number (lines_of (chars text)))
