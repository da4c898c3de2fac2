-- `maps::resolving::resolve_pages` calls itself on the parent set, and the level falls. Assumes nothing.
use Rattle.maps.proofs.resolving.+resolve_pages.Given as goal

abbrev pub decreases-resolve_pages : goal.decreases-resolve_pages
decreases-resolve_pages l = l.level
