-- `converting::clearing::clear_file` meets its contract. Assumes nothing.
use Rattle.converting.proofs.ClearedFiles.{clear_kept, clear_turns}
use Rattle.converting.proofs.clearing.clear_file.Goals as goal

pub returns-then-not-is_marked : goal.returns-then-not-is_marked
returns-then-not-is_marked c =
    clear_kept _ _ _ _ _ c.state_at-state.ensures c.is_marked.ensures c.requires.0 c.if-not-is_marked.true

pub returns : goal.returns
returns c =
    clear_turns _ _ _ _ _ c.state_at-state.ensures c.is_marked.ensures _ c.if-not-is_marked.false c.mark_record.ensures
