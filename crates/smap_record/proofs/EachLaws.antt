-- What a walk over the items of a list knows after each of them.
use Rattle.std.proofs.Common.{◌≡◌, ℕ, ◌+◌, ◌++◌, List, [], ◌∷◌, map, take, Option, Some, None, option_map, Vec, Global, refl}
use Rattle.std.proofs.Common.{sym, ap, ap₂, ◌∙◌}
use Rattle.std.specs.Prelude.{option_and_then, slice_get}
use Rattle.std.specs.Vec.Iter.{into_iter_items, into_iter_len}
use Rattle.std.specs.declared.vec.IntoIter.{IntoIter}
use Rattle.std.proofs.lemmas.List.{append_assoc, append-nil, map-append, nil_from_length}
use Rattle.serde_json.specs.Data.{Data}
use Rattle.serde_json.specs.View.{view, items_view}
use Rattle.serde_json.specs.declared.value.Value.{Value, Array}
use Rattle.serde_json.proofs.Views.{view-Array}
use Rattle.smap_mappings.specs.Laws.Lists.{take_next}
use Rattle.smap_record.specs.Json.{readings, list_of}

module _ {A : Type 0} (read : Data → Option A) where
  -- what is read of these values, after what was read before them
  abbrev pub after : List A → List Value → Option (List A)
  after before values = option_map (λ others. before ++ others) (readings read (items_view values))

  added : (before : List A) (first : A) (others : Option (List A))
      → option_map (λ more. (before ++ first ∷ []) ++ more) others ≡ option_map (λ more. before ++ more) (option_map (λ more. first ∷ more) others)
  added before first None = refl
  added before first (Some more) = ap Some (append_assoc before (first ∷ []) more)

  -- what is read of a value and of others, by what is read of it
  abbrev opened : List A → List Value → Option A → Option (List A)
  opened before values found = option_map (λ more. before ++ more)
      (option_and_then (λ first. option_map (λ others. first ∷ others) (readings read (items_view values))) found)

  -- one more item was read
  pub one_more : (before : List A) (value : Value) (values : List Value) (first : A) → read (view value) ≡ Some first
      → after (before ++ first ∷ []) values ≡ after before (value ∷ values)
  one_more before value values first is = added before first (readings read (items_view values)) ∙ ap (opened before values) (sym is)

  -- an item is no such value
  pub not_one : (before : List A) (value : Value) (values : List Value) → read (view value) ≡ None → after before (value ∷ values) ≡ None
  not_one before value values is = ap (opened before values) is

  -- nothing is left
  pub no_more : (before : List A) → after before [] ≡ Some before
  no_more before = ap Some (append-nil before)

  same : (found : Option (List A)) → option_map (λ more. [] ++ more) found ≡ found
  same None = refl
  same (Some more) = refl

  -- nothing was read so far of the list that an array is
  pub none_yet : (value : Value) (items : Vec Value Global) → value ≡ Array items → after [] items.items ≡ list_of read (view value)
  none_yet value items is = same (readings read (items_view items.items)) ∙ sym (ap (λ v. list_of read (view v)) is ∙ ap (list_of read) (view-Array items))

-- a walk of which no item is left has none to come
pub none_left : {A Z : Type 0} (it : IntoIter A Z) → into_iter_len it ≡ 0 → into_iter_items it ≡ []
none_left it len = nil_from_length _ (sym it.rest.ok.0 ∙ len)

-- the next of xs is seen as it should be
pub map_next : {X Y Z : Type 0} (seen : Y → Z) (f : X → Z) (xs : List X) (ys : List Y) (i : ℕ) (x : X) (y : Y) → map seen ys ≡ map f (take i xs)
    → slice_get xs i ≡ Some x → seen y ≡ f x → map seen (ys ++ y ∷ []) ≡ map f (take (i + 1) xs)
map_next seen f xs ys i x y so_far there is =
    map-append seen ys (y ∷ []) ∙ ap₂ (λ l z. l ++ z ∷ []) so_far is
    ∙ sym (map-append f (take i xs) (x ∷ [])) ∙ ap (map f) (sym (take_next xs i x there))

-- what was given so far and what is to come are the list, also after the next item
pub walk_next : {A : Type 0} (before : List A) (item : A) (rest more all : List A) → rest ≡ item ∷ more → before ++ rest ≡ all
    → (before ++ item ∷ []) ++ more ≡ all
walk_next before item rest more all is are = append_assoc before (item ∷ []) more ∙ ap (λ rest. before ++ rest) (sym is) ∙ are

-- and at the end it is what was given
pub walk_end : {A Z : Type 0} (before all : List A) (it : IntoIter A Z) → into_iter_len it ≡ 0 → before ++ into_iter_items it ≡ all → before ≡ all
walk_end before all it len are = sym (append-nil before) ∙ ap (λ rest. before ++ rest) (sym (none_left it len)) ∙ are
