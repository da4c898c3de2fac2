-- `maps::resolving::resolve_range` meets its contract. Assumes nothing.
use native.Mathlib.Omega.{arith}
use Rattle.maps.proofs.ManyPages.{range_resolved}
use Rattle.maps.proofs.resolving.resolve_range.Goals as goal

pub returns : goal.returns
returns c =
    range_resolved _ _ _ _ _ c.level_of-level.result c.page_range-m.result _ (omega arith) c.level_of-level.ensures.0 c.page_range-m.ensures c.resolve_pages.ensures
