-- `maps::reading::resolve` calls itself on the parent set, and the level falls. Assumes nothing.
use Rattle.maps.proofs.reading.+resolve.Given as goal

abbrev pub decreases-resolve : goal.decreases-resolve
decreases-resolve l = l.level
