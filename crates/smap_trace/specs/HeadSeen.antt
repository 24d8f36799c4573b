-- What contracts see of where a frame's function stands.
use Rattle.std.specs.Prelude.{ℕ, List, ◌++◌}
use Rattle.smap_trace.specs.FunctionNames.{HeadCut as Cut}
use Rattle.smap_trace.specs.declared.function_name.HeadCut.{HeadCut}

abbrev pub cut_seen : HeadCut → Cut
cut_seen cut = record { before = cut.before.now; name = cut.name.now; behind = cut.behind.now }

-- what stands before the URL
abbrev pub head_seen : HeadCut → List ℕ
head_seen cut = cut.before.now ++ cut.name.now ++ cut.behind.now
