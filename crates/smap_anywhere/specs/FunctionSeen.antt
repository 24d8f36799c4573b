-- What contracts see of the function before a place.
use Rattle.smap_trace.specs.declared.function_name.HeadCut.{HeadCut}
use Rattle.smap_anywhere.specs.Parts.{FrameFunction}

abbrev pub function_seen : HeadCut → FrameFunction
function_seen cut = record { name = cut.name.now; behind = cut.behind.now }
