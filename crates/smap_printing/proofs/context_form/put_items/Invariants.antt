use denote.Text.{Utf8}
use denote.Shadow.{shadow}
use Rattle.std.proofs.Common.{◌≡◌, drop, false, take}
use Rattle.std.specs.List.{list_any}
use Rattle.std.specs.Str.{chars}
use Rattle.smap_printing.specs.Context.{is_cut}
use Rattle.smap_printing.specs.Private.Lines.{lines_text}
use Rattle.smap_text.specs.Lines.{lines_of}
use Rattle.smap_printing.proofs.context_form.put_items.Given as goal

-- the first lines are put
abbrev pub invariant-loop-number : goal.invariant-loop-number
invariant-loop-number g l = record {
  utf8 : shadow (Utf8 l.rest);
  lines : drop l.number (lines_of (chars l.text)) ≡ lines_of (chars l.rest);
  puts : g.O.Output.Puts l.initial.output l.output (lines_text false (take l.number (lines_of (chars l.text))));
  cut : l.cut ≡ list_any is_cut (take l.number (lines_of (chars l.text)));
}
