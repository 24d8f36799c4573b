-- How a map fits a generated file.
use Rattle.std.specs.Prelude.{if◌then◌else◌}
use Rattle.smap_fit.specs.Fit.{fits}
use Rattle.smap_fit.specs.declared.fit.Fit.{Fit}
use Rattle.smap_c.specs.declared.fit.FitCounts.{FitCounts}

-- the counts, and whether it fits
abbrev pub counts_of_fit : Fit → FitCounts
counts_of_fit fit = record {
  mappings = fit.mappings;
  past = fit.past;
  inside = fit.inside;
  compared = fit.compared;
  outside = fit.outside;
  same = fit.same;
  fits = if fits fit then 1 else 0;
}
