-- `entrycheck::seeing::map_entries` meets its contract. Assumes nothing.
use Rattle.entrycheck.proofs.MapEntries.{seen_none, seen_whole}
use Rattle.entrycheck.proofs.NoBits.{length_no_bits, no_bits, no_bits_seen}
use Rattle.entrycheck.proofs.seeing.map_entries.Goals as goal

pub returns-then-is_none : goal.returns-then-is_none
unfolding no_bits
returns-then-is_none c = seen_none _ _ _ _ _ _ c.if-is_none.ensures c.see_entries-m.ensures no_bits length_no_bits no_bits_seen

pub returns-else-is_none : goal.returns-else-is_none
returns-else-is_none c = seen_whole _ _ _ _ _ _ c.if-is_none.ensures c.see_entries-m.ensures
