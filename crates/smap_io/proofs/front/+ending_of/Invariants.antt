use Rattle.smap_io.proofs.front.+ending_of.Given as goal

-- so many bytes may still be its own
abbrev pub decreases-ending_of : goal.decreases-ending_of
decreases-ending_of l = l.most
