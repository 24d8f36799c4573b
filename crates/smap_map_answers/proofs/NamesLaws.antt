-- The names of the sources of a map, gathered one after another.
use Rattle.std.specs.Borrow.{Bor}
use Rattle.std.proofs.Common.{◌≡◌, ℕ, zero, suc, ◌+◌, ◌||◌, ◌≤◌, Bool, true, false, List, [], ◌∷◌, drop, length, Option, Some, None, refl, sym, ap, ◌∙◌, arith}
use Rattle.std.specs.BTreeMap.{UpdatesBy}
use Rattle.std.specs.Cmp.Lexicographic.{slice_cmp}
use Rattle.std.specs.List.{list_any}
use Rattle.std.specs.Option.{option_map_or}
use Rattle.std.specs.Ordering.{nat_cmp}
use Rattle.std.specs.Prelude.{cond, is_some, option_and_then, slice_get}
use Rattle.std.specs.Str.{bytes_eq}
use Rattle.std.proofs.Math.Bool.{or-false, or_assoc}
use Rattle.std.proofs.Math.Seq.{drop-nil}
use Rattle.std.proofs.lemmas.Cmp.{nat_list_eq_equiv}
use Rattle.std.proofs.lemmas.List.{drop_all}
use Rattle.std.proofs.lemmas.Map.Text.{btree_map_updates_str}
use Rattle.smap_record.specs.Sources.{StatedSource}
use Rattle.smap_record.specs.Written.{text_of_source}
use Rattle.smap_map_answers.specs.ComposeAll.{is_called}
use Rattle.smap_map_answers.specs.Private.OuterMap.{AreNamesOf, Names, is_among}

-- ---- one name more

found : (b c : Bool) (old : Option (Unit {0})) → b ≡ c → is_some (cond b (Some tt) old) ≡ (is_some old || c)
found true true None same = refl
found true true (Some it) same = refl
found true false old same = absurd (cc)
found false true old same = absurd (cc)
found false false None same = refl
found false false (Some it) same = refl

pub name_added : (names more : Names) (name : Bor (List ℕ))
    → UpdatesBy (λ x y. slice_cmp nat_cmp x.now y.now) (λ there. slice_cmp nat_cmp name.now there.now) names more (Some tt)
    → (text : List ℕ) → is_among more text ≡ (is_among names text || bytes_eq text name.now)
name_added names more name updates text =
    ap is_some (btree_map_updates_str name.now names more (Some tt) updates text)
    ∙ found (bytes_eq name.now text) (bytes_eq text name.now) _ (nat_list_eq_equiv.symm name.now text)

-- ---- source after source

any_next : {X : Type 0} (p : X → Bool) (xs : List X) (i : ℕ)
    → list_any p (drop i xs) ≡ (option_map_or p (slice_get xs i) false || list_any p (drop (i + 1) xs))
any_next p [] i = ap (list_any p) (drop-nil i ∙ sym (drop-nil (i + 1)))
any_next p (x ∷ xs) zero = refl
any_next p (x ∷ xs) (suc i) =
    let one : suc i + 1 ≡ suc (i + 1) = omega arith in
    any_next p xs i ∙ ap (λ n. option_map_or p (slice_get xs i) false || list_any p (drop n (x ∷ xs))) (sym one)

called : (text : List ℕ) (source : Option StatedSource)
    → option_map_or (is_called text) source false ≡ option_map_or (bytes_eq text) (option_and_then text_of_source source) false
called text None = refl
called text (Some source) = refl

-- the names so far, and the sources that are left
abbrev pub AreSome : List StatedSource → Names → (i : ℕ) → Type 0
AreSome sources names i =
    (text : List ℕ) → (is_among names text || list_any (is_called text) (drop i sources)) ≡ list_any (is_called text) sources

pub one_further : (sources : List StatedSource) (names more : Names) (i : ℕ) (name : Option (List ℕ))
    → name ≡ option_and_then text_of_source (slice_get sources i)
    → ((text : List ℕ) → is_among more text ≡ (is_among names text || option_map_or (bytes_eq text) name false))
    → AreSome sources names i → AreSome sources more (i + 1)
one_further sources names more i name is added are text =
    let rest = list_any (is_called text) (drop (i + 1) sources) in
    let here : option_map_or (bytes_eq text) name false ≡ option_map_or (is_called text) (slice_get sources i) false =
    ap (λ name. option_map_or (bytes_eq text) name false) is ∙ sym (called text (slice_get sources i)) in
    ap (λ b. b || rest) (added text ∙ ap (λ b. is_among names text || b) here)
    ∙ or_assoc (is_among names text) (option_map_or (is_called text) (slice_get sources i) false) rest
    ∙ ap (λ b. is_among names text || b) (sym (any_next (is_called text) sources i))
    ∙ are text

-- all sources are gone over
pub all_gathered : (sources : List StatedSource) (names : Names) (i : ℕ) → length sources ≤ i → AreSome sources names i → AreNamesOf sources names
all_gathered sources names i past are text =
    sym (or-false (is_among names text)) ∙ ap (λ left. is_among names text || list_any (is_called text) left) (sym (drop_all i sources past)) ∙ are text
