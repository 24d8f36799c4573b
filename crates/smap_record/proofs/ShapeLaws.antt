-- A written map has no float, and is no deeper than a list in an object.
use Rattle.std.proofs.Common.{◌≡◌, ℕ, ◌≤◌, List, [], ◌∷◌, map, Bool, true, false, ◌||◌, if◌then◌else◌, Option, Some, None, codes, refl, ap, ◌∙◌, arith}
use Rattle.std.specs.Prelude.{IfSome, option_map}
use Rattle.std.specs.List.{list_any}
use Rattle.std.proofs.Math.Nat.{max-le}
use Rattle.serde_json.specs.Data.{Data, Members, no_members, member, number, string, unsigned, depth, items_depth, members_depth}
use Rattle.serde_json.specs.Read.{max_depth}
use Rattle.serde_json.specs.View.{items_of}
use Rattle.serde_json.specs.Written.{has_float, items_have_float, members_have_float}
use Rattle.smap_record.specs.Sources.{StatedSource}
use Rattle.smap_record.specs.Written.{content_of_source, contents_value, has_content, ignored_indices, ignored_value, is_ignored_source, list_value}
use Rattle.smap_record.specs.Written.{member_where, text_of_source, value_of_text, written_members, written_value}

-- no number of it is a float, and it nests no deeper than a list
pub record IsShallow (value : Data) : Type 0 where
  pub exact : has_float value ≡ false
  pub deep : depth value ≤ 1

pub record AreShallow (members : Members) : Type 0 where
  pub exact : members_have_float members ≡ false
  pub deep : members_depth members ≤ 1

-- it is no list and no object, and no float
pub record IsPlain (value : Data) : Type 0 where
  pub exact : has_float value ≡ false
  pub flat : depth value ≡ 0

-- ---- lists

module _ {A : Type 0} (value_of : A → Data) (plain : (x : A) → IsPlain (value_of x)) where
  exact_items : (list : List A) → items_have_float (items_of (map value_of list)) ≡ false
  exact_items [] = refl
  exact_items (x ∷ list) = ap (λ b. b || items_have_float (items_of (map value_of list))) (plain x).exact ∙ exact_items list

  flat_items : (list : List A) → items_depth (items_of (map value_of list)) ≤ 0
  flat_items [] = omega arith
  flat_items (x ∷ list) = max-le (omega (arith, (plain x).flat)) (flat_items list)

  pub list_shallow : (list : List A) → IsShallow (list_value value_of list)
  list_shallow list = record { exact = exact_items list; deep = omega (arith, flat_items list) }

plain_text : (text : List ℕ) → IsPlain (string text)
plain_text text = record { exact = refl; flat = refl }

plain_or_null : (text : Option (List ℕ)) → IsPlain (value_of_text text)
plain_or_null None = record { exact = refl; flat = refl }
plain_or_null (Some text) = record { exact = refl; flat = refl }

plain_index : (index : ℕ) → IsPlain (number (unsigned index))
plain_index index = record { exact = refl; flat = refl }

from_plain : (value : Data) → IsPlain value → IsShallow value
from_plain value plain = record { exact = plain.exact; deep = omega (arith, plain.flat) }

-- ---- members

with_member : (key : List ℕ) (value : Data) (others : Members) → IsShallow value → AreShallow others → AreShallow (member key value others)
with_member key value others first rest =
    record { exact = ap (λ b. b || members_have_float others) first.exact ∙ rest.exact; deep = max-le first.deep rest.deep }

where_there : (key : List ℕ) (value : Option Data) (others : Members) → IfSome value IsShallow → AreShallow others → AreShallow (member_where key value others)
where_there key None others first rest = rest
where_there key (Some value) others first rest = with_member key value others first rest

if_shallow : (b : Bool) (value : Data) → IsShallow value → IfSome (if b then Some value else None) IsShallow
if_shallow true value shallow = shallow
if_shallow false value shallow = tt

text_shallow : (text : Option (List ℕ)) → IfSome (option_map string text) IsShallow
text_shallow None = tt
text_shallow (Some text) = from_plain (string text) (plain_text text)

module _ (sources : List StatedSource) (names : List (List ℕ)) (file : Option (List ℕ)) (mappings : List ℕ) where
  abbrev content_value : StatedSource → Data
  content_value source = value_of_text (content_of_source source)

  abbrev name_value : StatedSource → Data
  name_value source = value_of_text (text_of_source source)

  version_shallow : AreShallow (member (codes "version") (number (unsigned 3)) no_members)
  version_shallow = record { exact = refl; deep = omega arith }

  sources_shallow : AreShallow (member (codes "sources") (list_value name_value sources)
      (member_where (codes "sourcesContent") (contents_value sources) (member (codes "version") (number (unsigned 3)) no_members)))
  sources_shallow =
      with_member (codes "sources") (list_value name_value sources) _ (list_shallow name_value (λ source. plain_or_null (text_of_source source)) sources)
      (where_there (codes "sourcesContent") (contents_value sources) _
      (if_shallow (list_any has_content sources) (list_value content_value sources)
      (list_shallow content_value (λ source. plain_or_null (content_of_source source)) sources))
      version_shallow)

  all_shallow : (members : Members) → AreShallow members → IsShallow (string mappings)
      → AreShallow (member (codes "mappings") (string mappings) (member (codes "names") (list_value string names) members))
  all_shallow members rest text = with_member (codes "mappings") (string mappings) _ text
      (with_member (codes "names") (list_value string names) members (list_shallow string plain_text names) rest)

  members_shallow : AreShallow (written_members sources names file mappings)
  members_shallow =
      where_there (codes "file") (option_map string file) _ (text_shallow file)
      (where_there (codes "ignoreList") (ignored_value sources) _
      (if_shallow (list_any is_ignored_source sources) (list_value (λ index. number (unsigned index)) (ignored_indices sources))
      (list_shallow (λ index. number (unsigned index)) plain_index (ignored_indices sources)))
      (all_shallow _ sources_shallow (from_plain (string mappings) (plain_text mappings))))

  pub no_float : has_float (written_value sources names file mappings) ≡ false
  no_float = members_shallow.exact

  pub not_deep : depth (written_value sources names file mappings) ≤ max_depth
  not_deep = omega (arith, members_shallow.deep)
