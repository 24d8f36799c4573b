-- What is known over a table and a store.
use Rattle.std.proofs.Common.{◌≡◌, ◌&&◌, ◌⊎◌, inl, inr, sym, ℕ, Bool, true, false, cond, List, Option, Some, None, ap, refl}
use Rattle.std.specs.Prelude.{is_some, not, option_map}
use Rattle.smap_locations.specs.Paths.{without_query}
use Rattle.smap_kept.specs.declared.answer.KeptAnswer.{KeptAnswer}
use Rattle.smap_kept.specs.declared.answer.KeptAnswer.TheVariants.{Known, NoneKnown, Wanted}
use Rattle.smap_kept.specs.declared.answer.NoValue.{NoValue}
use Rattle.smap_piecewise.specs.KeptMaps.{declared_in, known_in, stated_by}
use Rattle.smap_piecewise.specs.Known.{DeclaredByUrl, KnownByUrl}
use Rattle.smap_piecewise.specs.Location.{is_location}
use Rattle.smap_piecewise.specs.StoreMaps.{declared_over, declared_where, known_by, maps_over}
use Rattle.smap_piecewise.specs.declared.kept_maps.KeptMap.{KeptMap}
use Rattle.smap_piecewise.specs.declared.kept_maps.KeptMaps.{KeptMaps}
use Rattle.smap_record.specs.Record.{MapRecord}
use Rattle.smap_store.specs.UrlTable.{UrlTableSeen, declared_under, map_under}

pub known_same : (asks : Bool) (table : UrlTableSeen) (old new : KeptMaps) → ◌≡◌ {A = KnownByUrl} (known_in new.now new.kept) (known_in old.now old.kept)
    → ◌≡◌ {A = KnownByUrl} (maps_over asks table new) (maps_over asks table old)
known_same asks table old new same = ap (λ (known : KnownByUrl). λ url. known_by asks url (map_under true table url) (known url)) same

pub declared_same : (table : UrlTableSeen) (old new : KeptMaps) → ◌≡◌ {A = DeclaredByUrl} (declared_in new.now new.kept) (declared_in old.now old.kept)
    → ◌≡◌ {A = DeclaredByUrl} (declared_over table new) (declared_over table old)
declared_same table old new same =
    ap (λ (declared : DeclaredByUrl). λ url. declared_where (map_under true table url) (declared_under true table url) (declared url)) same

pub some_mapped : {A B : Type 0} (f : A → B) (o : Option A) → is_some (option_map f o) ≡ is_some o
some_mapped f None = refl
some_mapped f (Some x) = refl

pub both_off : (one other : Bool) → one ≡ false → one ≡ (one && other)
both_off false other off = refl
both_off true other off = absurd (cc)

unkept_is : (asked : Bool) → not asked ≡ is_some (cond asked None (Some (let none : Option MapRecord = None in none)))
unkept_is true = refl
unkept_is false = refl

pub unknown_is : (asks : Bool) (url : List ℕ) (of_table : Option MapRecord) (kept : Option (Option MapRecord)) → is_some of_table ≡ false → is_some kept ≡ false
    → not (asks && is_location (without_query url)) ≡ is_some (known_by asks url of_table kept)
unknown_is asks url None None none unknown = unkept_is (asks && is_location (without_query url))
unknown_is asks url None (Some known) none unknown = absurd (cc)
unknown_is asks url (Some map) kept none unknown = absurd (cc)

pub none_kept : (asks : Bool) (url : List ℕ) (of_table : Option MapRecord) (answer : KeptAnswer KeptMap) (why : NoValue) → ◌≡◌ {A = Option MapRecord} None of_table
    → ◌≡◌ {A = KeptAnswer KeptMap} (NoneKnown why) answer → ◌≡◌ {A = Option (Option MapRecord)} (Some None) (known_by asks url of_table (stated_by answer))
none_kept asks url of_table answer why none is = λ i. known_by asks url (none i) (stated_by (is i))

-- what was not found says either
pub none_kept_by : (asks : Bool) (url : List ℕ) (of_table : Option MapRecord) (answer : KeptAnswer KeptMap) → ◌≡◌ {A = Option MapRecord} None of_table
    → ((why : NoValue) × (answer ≡ NoneKnown why)) ⊎ (answer ≡ Wanted) → is_some (known_by asks url of_table (stated_by answer)) ≡ true
    → ◌≡◌ {A = Option (Option MapRecord)} (Some None) (known_by asks url of_table (stated_by answer))
none_kept_by asks url of_table answer none (inl found) known = none_kept asks url of_table answer found.0 none (sym found.1)
none_kept_by asks url None (NoneKnown why) none (inr is) known = refl
none_kept_by asks url None Wanted none (inr is) known = only (asks && is_location (without_query url)) known
  where
    only : (asked : Bool) → is_some (cond asked None (Some (let none : Option MapRecord = None in none))) ≡ true
        → ◌≡◌ {A = Option (Option MapRecord)} (Some None) (cond asked None (Some None))
    only false known = refl
    only true known = absurd (cc)
none_kept_by asks url None (Known map) none (inr is) known = absurd (cc)
none_kept_by asks url (Some map) answer none (inr is) known = absurd (cc)
