-- What is told of codes, by their rows.
use Rattle.std.proofs.Common.{◌≡◌, ◌+◌, ◌<◌, ◌++◌, ℕ, Bool, true, false, cond, List, [], ◌∷◌, None, Some, add-one, ap, ap₂, flat_map, get_or, length, map, refl, subst, sym, take, ◌∙◌}
use Rattle.std.specs.List.{filter}
use Rattle.std.proofs.lemmas.Bool.{true≢false}
use Rattle.std.proofs.lemmas.List.{append-nil, map-append}
use Rattle.std.proofs.lemmas.List.Elements.{filter-append}
use Rattle.std.proofs.lemmas.Grind.{flat_map-append}
use Rattle.std.proofs.Math.Seq.{take-suc}
use Rattle.smap_codes.specs.Texts.{code_text, TellsOf}
use Rattle.smap_codes.specs.declared.code.Code.{Code}
use Rattle.smap_codes.specs.declared.row.Row.{Row}

-- there is a row
abbrev pub has_rows : List Row → Bool
has_rows [] = false
has_rows (row ∷ rows) = true

pub one_more : (rows : List Row) (row : Row) → true ≡ has_rows (rows ++ row ∷ [])
one_more [] row = refl
one_more (first ∷ rows) row = refl

-- ---- one code further

filter_next : (p : Code → Bool) (codes : List Code) (i : ℕ) (d : Code) → i < length codes
    → filter p (take (i + 1) codes) ≡ filter p (take i codes) ++ cond (p (get_or codes i d)) (get_or codes i d ∷ []) []
filter_next p codes i d less =
    rw (add-one) (ap (filter p) (take-suc codes i d less) ∙ filter-append p (take i codes) (get_or codes i d ∷ []))

pub called_next : (p : Code → Bool) (codes : List Code) (i : ℕ) (d : Code) (rows : List Row) (row : Row) → i < length codes
    → map (λ row. row.code) rows ≡ filter p (take i codes) → row.code ≡ get_or codes i d → p (get_or codes i d) ≡ true
    → map (λ row. row.code) (rows ++ row ∷ []) ≡ filter p (take (i + 1) codes)
called_next p codes i d rows row less each is called =
    map-append (λ row. row.code) rows (row ∷ []) ∙ ap₂ (λ xs x. xs ++ x ∷ []) each is
    ∙ sym (filter_next p codes i d less ∙ ap (λ b. filter p (take i codes) ++ cond b (get_or codes i d ∷ []) []) called)

pub passed_next : (p : Code → Bool) (codes : List Code) (i : ℕ) (d : Code) (rows : List Row) → i < length codes
    → map (λ row. row.code) rows ≡ filter p (take i codes) → p (get_or codes i d) ≡ false
    → map (λ row. row.code) rows ≡ filter p (take (i + 1) codes)
passed_next p codes i d rows less each other =
    each ∙ sym (filter_next p codes i d less ∙ ap (λ b. filter p (take i codes) ++ cond b (get_or codes i d ∷ []) []) other
    ∙ append-nil (filter p (take i codes)))

pub told_next : (rows : List Row) (row : Row) (before after known : List ℕ) → before ≡ flat_map code_text rows → known ≡ code_text row
    → after ≡ before ++ known → after ≡ flat_map code_text (rows ++ row ∷ [])
told_next rows row before after known told is more =
    more ∙ ap₂ (λ a b. a ++ b) told (is ∙ sym (append-nil (code_text row))) ∙ sym (flat_map-append code_text rows (row ∷ []))

-- ---- all codes

pub told_of_some : (rows : List Row) (codes : List Code) (text : List ℕ) → map (λ row. row.code) rows ≡ codes → text ≡ flat_map code_text rows
    → true ≡ has_rows rows → TellsOf codes (Some text)
told_of_some [] codes text each is some = absurd (true≢false some)
told_of_some (row ∷ rows) codes text each is some = subst (λ codes. TellsOf codes (Some text)) each (row ∷ rows, refl, ap Some is)

pub told_of_none : (rows : List Row) (codes : List Code) → map (λ row. row.code) rows ≡ codes → false ≡ has_rows rows → TellsOf codes None
told_of_none [] codes each none = subst (λ codes. TellsOf codes None) each refl
told_of_none (row ∷ rows) codes each none = absurd (true≢false (sym none))
