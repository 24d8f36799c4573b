-- What the rules of an explanation refuse is what a map that is read cannot state.
use Rattle.std.proofs.Common.{◌≡◌, ℕ, ◌+◌, List, [], ◌∷◌, Bool, true, false, Option, Some, None, cond, refl, sym, ap, ◌∙◌}
use Rattle.std.specs.Prelude.{codes, is_some, is_none, option_map, option_and_then, position}
use Rattle.std.specs.List.{position_from}
use Rattle.std.specs.Option.{option_or}
use Rattle.std.proofs.lemmas.Iterator.Adapters.{position_from-zero}
use Rattle.serde_json.specs.Data.{Data, Items, no_items, item, Members, object}
use Rattle.serde_json.specs.Find.{as_array, as_str}
use Rattle.smap_record.specs.Fields.{ignored_field}
use Rattle.smap_record.proofs.ContentLaws.{is_some-map}
use Rattle.smap_record.specs.Json.{list_of, number_below, or_absent, readings, text_or_null}
use Rattle.smap_explain.specs.Rule.{asked_key, wrong_in, wrong_items, wrong_where}
use Rattle.smap_explain.specs.Sections.{count_at, field_of, listed}
use Rattle.smap_explain.specs.declared.rule.ItemRule.TheVariants as items
use Rattle.smap_explain.specs.declared.rule.MapKey.TheVariants.{Sources, Names, SourcesContent, IgnoreList, OldIgnoreList, SourceRoot, Mappings}
use Rattle.smap_explain.specs.declared.rule.Rule.TheVariants as rules
use Rattle.smap_explain.specs.declared.rule.Wrong.TheVariants as wrongs

none_mapped : {A B : Type 0} (f : A → B) (o : Option A) → is_none (option_map f o) ≡ is_none o
none_mapped f None = refl
none_mapped f (Some x) = refl

-- ---- lists

module _ {A : Type 0} (read : Data → Option A) where
  one_read : (found : Option A) (others : Option (List A)) (i : ℕ) (later : Option ℕ) → is_some others ≡ is_none later
      → is_some (option_and_then (λ first. option_map (λ more. first ∷ more) others) found) ≡ is_none (cond (is_none found) (Some i) later)
  one_read None others i later same = refl
  one_read (Some first) others i later same = is_some-map (λ more. first ∷ more) others ∙ same

  each_read : (list : Items) (i : ℕ) → is_some (readings read list) ≡ is_none (position_from (λ value. is_none (read value)) i (listed list))
  each_read no_items i = refl
  each_read (item value list) i =
      one_read (read value) (readings read list) i (position_from (λ v. is_none (read v)) (i + 1) (listed list)) (each_read list (i + 1))

  -- the items of a list are read where the first that isn't has no place
  all_read : (list : Items) → is_some (readings read list) ≡ is_none (position (λ value. is_none (read value)) (listed list))
  all_read list = each_read list 0 ∙ sym (ap is_none (position_from-zero (λ value. is_none (read value)) (listed list)))

texts_right : (found : Option Items) → is_none (wrong_items items.Text (option_map listed found)) ≡ is_some (option_and_then (readings as_str) found)
texts_right None = refl
texts_right (Some list) = none_mapped wrongs.Item _ ∙ sym (all_read as_str list)

nullable_right : (found : Option Items)
    → is_none (wrong_items items.TextOrNull (option_map listed found)) ≡ is_some (option_and_then (readings text_or_null) found)
nullable_right None = refl
nullable_right (Some list) = none_mapped wrongs.Item _ ∙ sym (all_read text_or_null list)

indices_right : (limit : ℕ) (found : Option Items)
    → is_none (wrong_items (items.IndexBelow limit) (option_map listed found)) ≡ is_some (option_and_then (readings (number_below limit)) found)
indices_right limit None = refl
indices_right limit (Some list) = none_mapped wrongs.Item _ ∙ sym (all_read (number_below limit) list)

-- ---- texts

text_right : (found : Option (List ℕ)) → is_none (cond (is_some found) None (Some wrongs.Value)) ≡ is_some found
text_right None = refl
text_right (Some text) = refl

-- ---- the keys

sources_where : (value : Option Data) → is_none (wrong_where true (rules.ListOf items.TextOrNull) value) ≡ is_some (option_and_then (list_of text_or_null) value)
sources_where None = refl
sources_where (Some value) = nullable_right (as_array value)

names_where : (value : Option Data) → is_none (wrong_where false (rules.ListOf items.Text) value) ≡ is_some (or_absent [] (list_of as_str) value)
names_where None = refl
names_where (Some value) = texts_right (as_array value)

contents_where : (value : Option Data)
    → is_none (wrong_where false (rules.ListOf items.TextOrNull) value) ≡ is_some (or_absent [] (list_of text_or_null) value)
contents_where None = refl
contents_where (Some value) = nullable_right (as_array value)

indices_where : (limit : ℕ) (value : Option Data)
    → is_none (wrong_where false (rules.ListOf (items.IndexBelow limit)) value) ≡ is_some (or_absent [] (list_of (number_below limit)) value)
indices_where limit None = refl
indices_where limit (Some value) = indices_right limit (as_array value)

root_where : (value : Option Data) → is_none (wrong_where false rules.Text value) ≡ is_some (or_absent None (λ v. option_map Some (as_str v)) value)
root_where None = refl
root_where (Some value) = text_right (as_str value) ∙ sym (is_some-map Some (as_str value))

mappings_where : (value : Option Data) → is_none (wrong_where true rules.Text value) ≡ is_some (option_and_then as_str value)
mappings_where None = refl
mappings_where (Some value) = text_right (as_str value)

pub sources_rule : (map : Members) → is_none (wrong_in Sources map) ≡ is_some (option_and_then (list_of text_or_null) (field_of (codes "sources") map))
sources_rule map = sources_where (field_of (codes "sources") map)

pub names_rule : (map : Members) → is_none (wrong_in Names map) ≡ is_some (or_absent [] (list_of as_str) (field_of (codes "names") map))
names_rule map = names_where (field_of (codes "names") map)

pub contents_rule : (map : Members)
    → is_none (wrong_in SourcesContent map) ≡ is_some (or_absent [] (list_of text_or_null) (field_of (codes "sourcesContent") map))
contents_rule map = contents_where (field_of (codes "sourcesContent") map)

pub root_rule : (map : Members)
    → is_none (wrong_in SourceRoot map) ≡ is_some (or_absent None (λ v. option_map Some (as_str v)) (field_of (codes "sourceRoot") map))
root_rule map = root_where (field_of (codes "sourceRoot") map)

pub mappings_rule : (map : Members) → is_none (wrong_in Mappings map) ≡ is_some (option_and_then as_str (field_of (codes "mappings") map))
mappings_rule map = mappings_where (field_of (codes "mappings") map)

-- the key of the list of ignored sources is the newer one, where it is there, and else the older one
by_key : (newer : Bool) (map : Members)
    → wrong_in (cond newer IgnoreList OldIgnoreList) map ≡ cond newer (wrong_in IgnoreList map) (wrong_in OldIgnoreList map)
by_key true map = refl
by_key false map = refl

either_key : (limit : ℕ) (newer older : Option Data)
    → is_none (cond (is_some newer) (wrong_where false (rules.ListOf (items.IndexBelow limit)) newer)
    (wrong_where false (rules.ListOf (items.IndexBelow limit)) older))
    ≡ is_some (or_absent [] (list_of (number_below limit)) (option_or newer older))
either_key limit None older = indices_where limit older
either_key limit (Some value) older = indices_where limit (Some value)

pub ignored_rule : (map : Members) → is_none (wrong_in (asked_key IgnoreList map) map)
    ≡ is_some (or_absent [] (list_of (number_below (count_at (codes "sources") map))) (ignored_field (object map)))
ignored_rule map =
    ap is_none (by_key (is_some (field_of (codes "ignoreList") map)) map)
    ∙ either_key (count_at (codes "sources") map) (field_of (codes "ignoreList") map) (field_of (codes "x_google_ignoreList") map)
