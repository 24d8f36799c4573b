-- What the keys of a section's map are to hold, and what is wrong with what they hold (ECMA-426, Source map format). A key at
-- null counts as absent.
use Rattle.std.specs.Prelude.{ℕ, ◌-◌, List, Option, Some, None, Bool, true, false, is_some, is_none, ◌==◌, if◌then◌else◌, option_map, position, codes}
use Rattle.serde_json.specs.Data.{Data, Members}
use Rattle.serde_json.specs.Find.{as_str}
use Rattle.smap_record.specs.Json.{number_below, text_or_null}
use Rattle.smap_explain.specs.Sections.{count_at, field_of, list_in}
use Rattle.smap_explain.specs.declared.explanation.Key.{Key}
use Rattle.smap_explain.specs.declared.explanation.Key.TheVariants as shown
use Rattle.smap_explain.specs.declared.rule.ItemRule.{ItemRule}
use Rattle.smap_explain.specs.declared.rule.ItemRule.TheVariants as items
use Rattle.smap_explain.specs.declared.rule.MapKey.{MapKey}
use Rattle.smap_explain.specs.declared.rule.MapKey.TheVariants.{Sources, Names, SourcesContent, IgnoreList, OldIgnoreList, SourceRoot, Mappings}
use Rattle.smap_explain.specs.declared.rule.Rule.{Rule}
use Rattle.smap_explain.specs.declared.rule.Rule.TheVariants as rules
use Rattle.smap_explain.specs.declared.rule.Wrong.{Wrong}
use Rattle.smap_explain.specs.declared.rule.Wrong.TheVariants as wrongs

-- ---- the keys

abbrev pub key_text : MapKey → List ℕ
key_text Sources = codes "sources"
key_text Names = codes "names"
key_text SourcesContent = codes "sourcesContent"
key_text IgnoreList = codes "ignoreList"
key_text OldIgnoreList = codes "x_google_ignoreList"
key_text SourceRoot = codes "sourceRoot"
key_text Mappings = codes "mappings"

-- as it is reported
abbrev pub key_of : MapKey → Key
key_of Sources = shown.Sources
key_of Names = shown.Names
key_of SourcesContent = shown.SourcesContent
key_of IgnoreList = shown.IgnoreList
key_of OldIgnoreList = shown.OldIgnoreList
key_of SourceRoot = shown.SourceRoot
key_of Mappings = shown.Mappings

-- the key may not be absent
abbrev pub is_needed : MapKey → Bool
is_needed Sources = true
is_needed Names = false
is_needed SourcesContent = false
is_needed IgnoreList = false
is_needed OldIgnoreList = false
is_needed SourceRoot = false
is_needed Mappings = true

-- indices of the map's sources
abbrev pub index_rule : Members → Rule
index_rule entries = rules.ListOf (items.IndexBelow (count_at (codes "sources") entries))

-- what it is to hold
abbrev pub rule_of : MapKey → Members → Rule
rule_of Sources entries = rules.ListOf items.TextOrNull
rule_of Names entries = rules.ListOf items.Text
rule_of SourcesContent entries = rules.ListOf items.TextOrNull
rule_of IgnoreList entries = index_rule entries
rule_of OldIgnoreList entries = index_rule entries
rule_of SourceRoot entries = rules.Text
rule_of Mappings entries = rules.Text

-- the list of ignored sources stands at the older key, where the newer one is absent
abbrev pub asked_key : MapKey → Members → MapKey
asked_key Sources entries = Sources
asked_key Names entries = Names
asked_key SourcesContent entries = SourcesContent
asked_key IgnoreList entries = if is_some (field_of (codes "ignoreList") entries) then IgnoreList else OldIgnoreList
asked_key OldIgnoreList entries = OldIgnoreList
asked_key SourceRoot entries = SourceRoot
asked_key Mappings entries = Mappings

-- ---- what is wrong

abbrev pub is_wrong_item : ItemRule → Data → Bool
is_wrong_item items.Text value = is_none (as_str value)
is_wrong_item items.TextOrNull value = is_none (text_or_null value)
is_wrong_item (items.IndexBelow limit) value = is_none (number_below limit value)

-- the first wrong one of these items; the value itself, where it is no list
abbrev pub wrong_items : ItemRule → Option (List Data) → Option Wrong
wrong_items rule None = Some wrongs.Value
wrong_items rule (Some list) = option_map wrongs.Item (position (is_wrong_item rule) list)

abbrev pub wrong_list : ItemRule → Data → Option Wrong
wrong_list rule value = wrong_items rule (list_in value)

abbrev pub wrong_text : Data → Option Wrong
wrong_text value = if is_some (as_str value) then None else Some wrongs.Value

abbrev pub wrong_value : Rule → Data → Option Wrong
wrong_value rules.Text value = wrong_text value
wrong_value (rules.ListOf rule) value = wrong_list rule value

-- what is wrong with a value that is there or not
abbrev pub wrong_where : Bool → Rule → Option Data → Option Wrong
wrong_where needed rule None = if needed then Some wrongs.Value else None
wrong_where needed rule (Some value) = wrong_value rule value

-- and with what stands at a key
abbrev pub wrong_in : MapKey → Members → Option Wrong
wrong_in key entries = wrong_where (is_needed key) (rule_of key entries) (field_of (key_text key) entries)

-- ---- the greatest number that may stand there

abbrev pub greatest_below : ℕ → Option ℕ
greatest_below limit = if limit == 0 then None else Some (limit - 1)

abbrev pub most_item : Rule → Option ℕ
most_item rules.Text = None
most_item (rules.ListOf items.Text) = None
most_item (rules.ListOf items.TextOrNull) = None
most_item (rules.ListOf (items.IndexBelow limit)) = greatest_below limit

-- only an item has one
abbrev pub most_in : Wrong → Rule → Option ℕ
most_in wrongs.Value rule = None
most_in (wrongs.Item index) rule = most_item rule
