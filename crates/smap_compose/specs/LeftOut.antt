-- What is left of a composed map (this project's own).
use Rattle.std.specs.Prelude.{Bool, Result, Ok, Err, if◌then◌else◌}
use Rattle.smap_record.specs.Sources.{StatedSource}
use Rattle.smap_compose.specs.Composition.{Composition, unless_too_long, without_content, without_contents}
use Rattle.smap_compose.specs.Pruned.{pruned}
use Rattle.smap_compose.specs.declared.left_out.LeftOut.{LeftOut}
use Rattle.smap_compose.specs.declared.refusal.ComposeRefusal.{ComposeRefusal}

-- a source without its content, where that is left out
abbrev pub content_where : (left_out : Bool) → StatedSource → StatedSource
content_where left_out source = if left_out then without_content source else source

-- first goes what no mapping has and what is repeated, then the contents
abbrev pub pruned_where : (left_out : Bool) → Composition → Composition
pruned_where left_out whole = if left_out then pruned whole else whole

abbrev pub contents_where : (left_out : Bool) → Composition → Composition
contents_where left_out whole = if left_out then without_contents whole else whole

abbrev pub what_is_left : LeftOut → Composition → Composition
what_is_left left_out whole = contents_where left_out.contents (pruned_where left_out.unused whole)

-- what is left of a map that others compose to, or why they do not: an index may take more digits where others are smaller, and
-- the canonical text may then be too long
abbrev pub left_of : LeftOut → Result Composition ComposeRefusal → Result Composition ComposeRefusal
left_of left_out (Err refusal) = Err refusal
left_of left_out (Ok whole) = unless_too_long (what_is_left left_out whole)
