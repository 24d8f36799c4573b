-- Laws of the lines that are said of URLs, one after another.
use Rattle.std.specs.Prelude.{◌≡◌, ◌&&◌, ℕ, Bool, false, true, List, [], ◌∷◌, ◌++◌, Option, Some, cond, not, option_map}
use Rattle.std.specs.List.{find}
use Rattle.std.specs.Str.{bytes_eq}
use Rattle.std.proofs.Common.{◌+◌, ap, append_assoc, arith, length, refl, subst, sym, ◌∙◌}
use Rattle.std.proofs.lemmas.List.{append-nil}
use Rattle.url.specs.Parts.{Parts}
use Rattle.smap_locations.specs.ListLine.{is_rule}
use Rattle.smap_locations.specs.Locations.{LocationsSeen}
use Rattle.smap_replies.specs.Files.{MayRead}
use Rattle.smap_text_answers.specs.UrlLines.{AreAllLines, AreUrlLines, IsUrlLine, word_file}
use Rattle.smap_trace.specs.UrlNotes.{UrlNoteSeen}

module _ (Reads : MayRead) (paths : Bool) (base : Option Parts) (k number : ℕ) (fit : Option ℕ) (arguments : List (List ℕ × List ℕ)) (locations : LocationsSeen)
    (anywhere : Bool) where
  abbrev Are : List UrlNoteSeen → (text : List ℕ) → Type 0
  Are = AreUrlLines Reads paths base k number fit arguments locations anywhere

  -- the lines so far, with one more
  pub lines_next : (notes left : List UrlNoteSeen) (note : UrlNoteSeen) (line rest : List ℕ) → notes ≡ note ∷ left
      → IsUrlLine Reads paths base k number fit arguments locations anywhere note line → Are left rest → Are notes (line ++ rest)
  lines_next notes left note line rest is is_line are = subst (λ l. Are l (line ++ rest)) (sym is) (line, rest, is_line, are, refl)

  pub lines_on : (all notes left : List UrlNoteSeen) (note : UrlNoteSeen) (text line more rest : List ℕ) → notes ≡ note ∷ left
      → ((rest : List ℕ) → Are notes rest → Are all (text ++ rest))
      → IsUrlLine Reads paths base k number fit arguments locations anywhere note line → more ≡ text ++ line → Are left rest → Are all (more ++ rest)
  lines_on all notes left note text line more rest is so_far is_line more_is are =
      subst (λ t. Are all t) (sym (append_assoc text line rest) ∙ ap (λ m. m ++ rest) (sym more_is))
      (so_far (line ++ rest) (lines_next notes left note line rest is is_line are))

  -- and all of them
  pub lines_end : (all : List UrlNoteSeen) (text : List ℕ) → ((rest : List ℕ) → Are [] rest → Are all (text ++ rest)) → Are all text
  lines_end all text so_far = subst (λ t. Are all t) (append-nil text) (so_far [] refl)

  -- the lines of some, and of others behind them
  pub lines_both : (notes others : List UrlNoteSeen) (text more : List ℕ) → Are notes text → Are others more → Are (notes ++ others) (text ++ more)
  lines_both [] others text more one two = subst (Are others) (ap (λ t. t ++ more) (sym one)) two
  lines_both (note ∷ notes) others text more one two = (
    one.0,
    one.1 ++ more,
    one.2,
    lines_both notes others one.1 more one.3 two,
    ap (λ t. t ++ more) one.4 ∙ append_assoc one.0 one.1 more,
  )

  -- or that there is none
  pub lines_all : (nothing : List ℕ) (notes others : List UrlNoteSeen) (text : List ℕ) → (length notes + length others ≡ 0 → ⊥) → Are (notes ++ others) text
      → AreAllLines Reads paths base k number fit arguments locations anywhere nothing (notes ++ others) text
  lines_all nothing [] [] text some are = absurd (some refl)
  lines_all nothing [] (note ∷ others) text some are = are
  lines_all nothing (note ∷ notes) others text some are = are

  pub lines_none : (nothing : List ℕ) (notes others : List UrlNoteSeen) (text : List ℕ) → length notes + length others ≡ 0 → text ≡ nothing
      → AreAllLines Reads paths base k number fit arguments locations anywhere nothing (notes ++ others) text
  lines_none nothing [] [] text none is = is
  lines_none nothing [] (note ∷ others) text none is = absurd (omega (arith, none))
  lines_none nothing (note ∷ notes) others text none is = absurd (omega (arith, none))

-- ---- the file that an argument names

module _ (url : List ℕ) (arguments left : List (List ℕ × List ℕ)) (argument : List ℕ × List ℕ) (is : arguments ≡ argument ∷ left) (named : Bool)
    (test : named ≡ (not (is_rule argument.0 argument.1) && bytes_eq url argument.0)) where
  pub named_here : named ≡ true → word_file url arguments ≡ Some argument.1
  named_here is_named =
      ap (word_file url) is ∙ ap (λ b. option_map (λ a. a.1) (cond b (Some argument) (find (λ a. not (is_rule a.0 a.1) && bytes_eq url a.0) left))) (sym test ∙ is_named)

  pub named_later : named ≡ false → word_file url arguments ≡ word_file url left
  named_later other =
      ap (word_file url) is ∙ ap (λ b. option_map (λ a. a.1) (cond b (Some argument) (find (λ a. not (is_rule a.0 a.1) && bytes_eq url a.0) left))) (sym test ∙ other)
