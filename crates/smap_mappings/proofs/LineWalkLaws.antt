-- A walk along a line passes one segment more.
use Rattle.std.proofs.Common.{◌≡◌, ℕ, ◌+◌, ◌-◌, ◌<◌, ◌≤◌, List, Some, sym, ap, subst, ◌∙◌, arith, refl, ⊎_elim, add-zero}
use Rattle.std.specs.List.{slice_get}
use Rattle.std.proofs.lemmas.Bool.{cases_lt}
use Rattle.smap_mappings.specs.LineWalk.{IsPassed, IsStop}
use Rattle.smap_mappings.specs.Mappings.{mappings_of}
use Rattle.smap_mappings.specs.State.{mapping_at, IsAfter, IsOnLaterLine}
use Rattle.smap_mappings.specs.Private.Step.{IsSteppedTo}
use Rattle.smap_mappings.specs.declared.cursor.Cursor.{Cursor}
use Rattle.smap_mappings.specs.declared.kind.Kind.{Kind}
use Rattle.smap_mappings.specs.declared.mapping.Mapping.{Mapping}

pub none_passed : (text : List ℕ) (j : ℕ) (start : Cursor) (end : ℕ) (kind : Kind) → IsAfter text j start → IsPassed text j start end 0 kind start
none_passed text j start end kind after = record {
  after = rw add-zero after;
  line = refl;
  before = λ i mapping less there. absurd (omega (arith, less));
  last = λ less. absurd (omega (arith, less));
}

some_same : (a b : Mapping) (line end : ℕ) → Some a ≡ Some b → (a.line ≡ line) × (a.column < end) → (b.line ≡ line) × (b.column < end)
some_same a b line end same is = let e : a ≡ b = cc in subst (λ (m : Mapping). (m.line ≡ line) × (m.column < end)) e is

module _ (text : List ℕ) (j : ℕ) (start : Cursor) (end passed : ℕ) (kind : Kind) (at : Cursor)
    (so_far : IsPassed text j start end passed kind at) (next : Kind) (after : Cursor) (stepped : IsSteppedTo text at next after) where
  pub one_passed : after.column < end → IsPassed text j start end (passed + 1) next after
  one_passed less =
      let is = stepped.next (j + passed) so_far.after in
      let more : j + passed + 1 ≡ j + (passed + 1) = omega arith in
      let back : j + passed ≡ j + (passed + 1) - 1 = omega arith in
      record {
        after = subst (λ n. IsAfter text n after) more is.after;
        line = stepped.line ∙ so_far.line;
        before = λ i mapping below there. ⊎_elim
            (λ (earlier : i < passed). so_far.before i mapping earlier there)
            (λ (least : passed ≤ i).
            let here : j + passed ≡ j + i = omega (arith, below) in
            some_same (mapping_at next after) mapping start.line end (sym is.mapping_is ∙ ap (slice_get (mappings_of text)) here ∙ there)
            (stepped.line ∙ so_far.line, less))
            (cases_lt i passed);
        last = λ some. ap (slice_get (mappings_of text)) (sym back) ∙ is.mapping_is;
      }

  pub stopped : end ≤ after.column → IsStop text (j + passed) start end (mapping_at next after)
  stopped past = record {
    mapping_is = (stepped.next (j + passed) so_far.after).mapping_is;
    line = stepped.line ∙ so_far.line;
    past = past;
  }

  pub after_stop : IsAfter text (j + passed + 1) after
  after_stop = (stepped.next (j + passed) so_far.after).after

-- where no further segment is on the line of the state, none is on the first's
pub later_from : (text : List ℕ) (j : ℕ) (start : Cursor) (end passed : ℕ) (kind : Kind) (at : Cursor)
    → IsPassed text j start end passed kind at → IsOnLaterLine text (j + passed) at.line → IsOnLaterLine text (j + passed) start.line
later_from text j start end passed kind at so_far later = subst (IsOnLaterLine text (j + passed)) so_far.line later
