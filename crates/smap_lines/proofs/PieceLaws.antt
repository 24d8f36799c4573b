-- Pieces that are put one after another.
use Rattle.std.proofs.Common.{◌≡◌, ◌+◌, ◌<◌, ℕ, List, [], ◌∷◌, ◌++◌, length, map, get_or, take, drop, sym, ap, ◌∙◌, subst, append-nil}
use Rattle.std.specs.Borrow.{Bor}
use Rattle.std.specs.List.{concat}
use Rattle.std.proofs.lemmas.List.{get_or-map, length-map, take-append-drop, take_more}
use Rattle.std.proofs.lemmas.List.Folds.{concat-append}
use Rattle.smap_io.specs.Device.{SinkSeen}
use Rattle.smap_lines.specs.LineOutput.{FailsToPut, Puts}
use Rattle.smap_lines.specs.Laws.Put.{fails_first, fails_second, puts_both}
use Rattle.smap_lines.specs.declared.line_output.LineOutput.{LineOutput}

abbrev pub texts : List (Bor (List ℕ)) → List (List ℕ)
texts = map (λ piece. piece.now)

module _ (pieces : List (Bor (List ℕ))) (i : ℕ) (none : Bor (List ℕ)) (within : i < length pieces) where
  next_piece : concat (take (i + 1) (texts pieces)) ≡ concat (take i (texts pieces)) ++ (get_or pieces i none).now
  next_piece =
      ap concat (take_more (texts pieces) i [] (rw length-map within)) ∙ concat-append (take i (texts pieces)) (get_or (texts pieces) i [] ∷ [])
      ∙ ap (λ l. concat (take i (texts pieces)) ++ l) (append-nil (get_or (texts pieces) i []) ∙ get_or-map (λ piece. piece.now) pieces i none [] within)

  module _ {W : Type 0} {seen : W → SinkSeen} {old mid new : LineOutput W} (put : Puts seen old mid (concat (take i (texts pieces)))) where
    pub next_put : Puts seen mid new (get_or pieces i none).now → Puts seen old new (concat (take (i + 1) (texts pieces)))
    next_put next = subst (λ l. Puts seen old new l) (sym next_piece) (puts_both put next)

    pub next_fails : FailsToPut seen mid new (get_or pieces i none).now → FailsToPut seen old new (concat (texts pieces))
    next_fails next =
        let whole = sym (concat-append (take (i + 1) (texts pieces)) (drop (i + 1) (texts pieces))) ∙ ap concat (take-append-drop (i + 1) (texts pieces)) in
        let front = subst (λ l. FailsToPut seen old new l) (sym next_piece) (fails_second put next) in
        subst (λ l. FailsToPut seen old new l) whole (fails_first (concat (drop (i + 1) (texts pieces))) front)
